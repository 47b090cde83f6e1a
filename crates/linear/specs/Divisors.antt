-- Divisors: what is divided with a sum and a difference, and the greatest of the common ones.
use Rattle.std.specs.Prelude.{◌≡◌, ℕ, zero, suc, ◌+◌, ◌-◌, ◌*◌, ◌/◌, ◌%◌, ◌≤◌}
use Rattle.std.proofs.Common.{sym, ap, ◌∙◌, subst, zero-mul, mul-zero, one-mul, suc-mul, mul_assoc, mul_comm, add-mul, div-add-mod', arith}
use Rattle.std.proofs.Math.Nat.{mul-sub}
use Rattle.linear.specs.Gcd.{Divides, Greatest}

pub divides_zero : (d : ℕ) → Divides d 0
divides_zero d = (0, sym (zero-mul d))

pub divides_self : (d : ℕ) → Divides d d
divides_self d = (1, sym (one-mul d))

pub divides_times : (d m n : ℕ) → Divides d n → Divides d (m * n)
divides_times d m n (k, e) = (m * k, ap (λ x. m * x) e ∙ sym (mul_assoc m k d))

pub divides_through : (d m n : ℕ) → Divides d m → Divides m n → Divides d n
divides_through d m n h (k, e) = subst (λ x. Divides d x) (sym e) (divides_times d k m h)

pub divides_sum : (d m n : ℕ) → Divides d m → Divides d n → Divides d (m + n)
divides_sum d m n (j, e) (k, f) = (j + k, ap (λ x. x + n) e ∙ ap (λ x. j * d + x) f ∙ sym (add-mul j k d))

minus_times : (j k d : ℕ) → (j - k) * d ≡ j * d - k * d
minus_times j k d = mul_comm (j - k) d ∙ mul-sub d j k ∙ ap (λ x. x - d * k) (mul_comm d j) ∙ ap (λ x. j * d - x) (mul_comm d k)

pub divides_difference : (d m n : ℕ) → Divides d m → Divides d n → Divides d (m - n)
divides_difference d m n (j, e) (k, f) = (j - k, ap (λ x. x - n) e ∙ ap (λ x. j * d - x) f ∙ sym (minus_times j k d))

-- a divisor of a number other than 0 is at least 1 and at most that number
pub divisor_positive : (d n : ℕ) → Divides d n → 1 ≤ n → 1 ≤ d
divisor_positive zero n (k, e) h = absurd (omega (arith, mul-zero k))
divisor_positive (suc d) n (k, e) h = omega arith

pub divisor_most : (d n : ℕ) → Divides d n → 1 ≤ n → d ≤ n
divisor_most d n (zero, e) h = absurd (omega (arith, zero-mul d))
divisor_most d n (suc k, e) h = omega (arith, suc-mul k d)

pub divides_both : (m n : ℕ) → Divides m n → Divides n m → m ≡ n
divides_both zero n (k, e) i = omega (arith, mul-zero k)
divides_both (suc m) zero h (k, e) = omega (arith, mul-zero k)
divides_both (suc m) (suc n) h i = omega (arith, divisor_most (suc m) (suc n) h (omega arith), divisor_most (suc n) (suc m) i (omega arith))

-- ---- the greatest common divisor

pub greatest_of_zero : (a b : ℕ) → b ≡ 0 → Greatest a b a
greatest_of_zero a b e =
    record {
      left = divides_self a;
      right = subst (λ x. Divides a x) (sym e) (divides_zero a);
      most = λ d h _. h;
    }

rest_divides : (d a b : ℕ) → Divides d a → Divides d b → Divides d (a % b)
rest_divides d a b h i =
    let e : a - a / b * b ≡ a % b = omega (arith, div-add-mod' a b) in
    subst (λ x. Divides d x) e (divides_difference d a (a / b * b) h (divides_times d (a / b) b i))

rest_divided : (d a b : ℕ) → Divides d b → Divides d (a % b) → Divides d a
rest_divided d a b h i =
    subst (λ x. Divides d x) (div-add-mod' a b) (divides_sum d (a / b * b) (a % b) (divides_times d (a / b) b h) i)

pub greatest_of_rest : (a b g : ℕ) → Greatest b (a % b) g → Greatest a b g
greatest_of_rest a b g h =
    record {
      left = rest_divided g a b h.left h.right;
      right = h.left;
      most = λ d i j. h.most d j (rest_divides d a b i j);
    }

-- the laws say which number it is
pub greatest_unique : (a b g h : ℕ) → Greatest a b g → Greatest a b h → g ≡ h
greatest_unique a b g h p q =
    divides_both g h (q.most g p.left p.right) (p.most h q.left q.right)
