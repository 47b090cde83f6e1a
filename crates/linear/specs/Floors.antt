-- Division that rounds down.
use Rattle.std.specs.Prelude.{◌≡◌, ℕ, zero, suc, ◌+◌, ◌*◌, ◌/◌, ◌%◌, ◌<◌, ◌≤◌, ℤ, pos, negsuc, ◌+ℤ◌, ◌-ℤ◌, ◌*ℤ◌, neg_ℤ, ◌≤ℤ◌, ◌<ℤ◌, unsigned_abs}
use Rattle.std.proofs.Common.{sym, ap, ◌∙◌, subst, zero-mul, suc-mul, mul-le-mul_left, div-add-mod', mod-lt, arith}
use Rattle.std.proofs.lemmas.Int.{ints}
use Rattle.std.specs.Int.{int_div_euclid, int_rem_euclid}
use Rattle.facts.proofs.Integers.{minus_times}
use Rattle.linear.specs.Division.{Floored}
use Rattle.linear.specs.Gcd.{Divides}

pub euclid_floored : (a b : ℤ) → pos 1 ≤ℤ b → Floored a b (int_div_euclid a b) (int_rem_euclid a b)
euclid_floored (pos a) (pos b) h =
    let below : a % b < b = mod-lt a (omega (arith, ints)) in
    record {
      whole = ap pos (sym (div-add-mod' a b));
      low = omega (arith, ints);
      high = omega (arith, ints);
    }
euclid_floored (negsuc a) (pos b) h =
    let below : a % b < b = mod-lt a (omega (arith, ints)) in
    let e : a / b * b + a % b ≡ a = div-add-mod' a b in
    let f : suc (a / b) * b ≡ a / b * b + b = suc-mul (a / b) b in
    record {
      whole = omega (arith, ints);
      low = omega (arith, ints);
      high = omega (arith, ints);
    }
euclid_floored (pos a) (negsuc b) h = absurd (omega (arith, ints))
euclid_floored (negsuc a) (negsuc b) h = absurd (omega (arith, ints))

pub floored : (a b q r : ℤ) → pos 1 ≤ℤ b → q ≡ int_div_euclid a b → r ≡ int_rem_euclid a b → Floored a b q r
floored a b q r h e f =
    subst (λ x. Floored a b x r) (sym e) (subst (λ x. Floored a b (int_div_euclid a b) x) (sym f) (euclid_floored a b h))

-- a quotient is no larger than what was divided
pub quotient_smaller : (a b q r : ℤ) → pos 1 ≤ℤ b → Floored a b q r → unsigned_abs q ≤ unsigned_abs a
quotient_smaller a (pos b) (pos q) r h f =
    let least : q * 1 ≤ q * b = mul-le-mul_left q (omega (arith, ints)) in
    omega (arith, ints, f.whole, f.low, f.high)
quotient_smaller a (pos b) (negsuc q) r h f =
    let least : q * 1 ≤ q * b = mul-le-mul_left q (omega (arith, ints)) in
    omega (arith, ints, f.whole, f.low, f.high, suc-mul q b)
quotient_smaller a (negsuc b) q r h f = absurd (omega (arith, ints))

-- a multiple of g from 0 to g - 1 is 0
small_multiple : (d : ℤ) (g : ℕ) (r : ℤ) → d *ℤ pos g ≡ r → pos 0 ≤ℤ r → r <ℤ pos g → r ≡ pos 0
small_multiple (pos zero) g r e low high = sym e ∙ ap pos (zero-mul g)
small_multiple (pos (suc d)) g r e low high = absurd (omega (arith, ints, suc-mul d g))
small_multiple (negsuc d) g r e low high = absurd (omega (arith, ints, suc-mul d g))

-- a number whose size is a multiple is one
signed_multiple : (a : ℤ) (g : ℕ) → Divides g (unsigned_abs a) → (z : ℤ) × (a ≡ z *ℤ pos g)
signed_multiple (pos a) g (k, e) = (pos k, ap pos e)
signed_multiple (negsuc a) g (zero, e) = absurd (omega (arith, zero-mul g))
signed_multiple (negsuc a) g (suc k, e) = (negsuc k, ap (λ n. neg_ℤ (pos n)) e)

-- a divisor leaves no rest
pub quotient_exact : (a : ℤ) (g : ℕ) (q r : ℤ) → Divides g (unsigned_abs a) → Floored a (pos g) q r → q *ℤ pos g ≡ a
quotient_exact a g q r h f =
    let (z, e) = signed_multiple a g h in
    let apart : (z -ℤ q) *ℤ pos g ≡ (z *ℤ pos g) -ℤ (q *ℤ pos g) = minus_times z q (pos g) in
    let rest : (z -ℤ q) *ℤ pos g ≡ r = omega (arith, ints, f.whole) in
    let none : r ≡ pos 0 = small_multiple (z -ℤ q) g r rest f.low f.high in
    omega (arith, ints, f.whole)

-- t times g and a rest below g are not negative together only if t is not
pub factor_keeps : (t : ℤ) (g : ℕ) (r : ℤ) → r <ℤ pos g → pos 0 ≤ℤ ((t *ℤ pos g) +ℤ r) → pos 0 ≤ℤ t
factor_keeps (pos t) g r high h = omega (arith, ints)
factor_keeps (negsuc t) g r high h = absurd (omega (arith, ints, suc-mul t g))

-- the laws say which quotient it is
pub floored_unique : (a : ℤ) (g : ℕ) (p q r s : ℤ) → Floored a (pos g) p r → Floored a (pos g) q s → p ≡ q
floored_unique a g p q r s e f =
    let apart : (p -ℤ q) *ℤ pos g ≡ (p *ℤ pos g) -ℤ (q *ℤ pos g) = minus_times p q (pos g) in
    let back : (q -ℤ p) *ℤ pos g ≡ (q *ℤ pos g) -ℤ (p *ℤ pos g) = minus_times q p (pos g) in
    let low : pos 0 ≤ℤ (p -ℤ q) = factor_keeps (p -ℤ q) g r e.high (omega (arith, ints, e.whole, f.whole, f.low)) in
    let high : pos 0 ≤ℤ (q -ℤ p) = factor_keeps (q -ℤ p) g s f.high (omega (arith, ints, e.whole, f.whole, e.low)) in
    omega (arith, ints)
