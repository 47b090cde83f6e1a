-- The literals of the reading rule are true exactly where the converter stores the count.
use Rattle.std.proofs.Common.{◌≡◌, ℕ, zero, suc, ◌+◌, ◌<◌, ◌≤◌, cond, ℤ, pos, negsuc, ◌+ℤ◌, ◌-ℤ◌, ◌*ℤ◌, neg_ℤ, nat_abs, ◌≤ℤ◌, ◌<ℤ◌, None, Some, Bool, sym, refl, subst, ⊎_elim, arith}
use lib.IntN.{zero-*ℤ}
use Rattle.std.proofs.lemmas.Int.{ints, by_lt_z, clamps}
use Rattle.std.proofs.lemmas.Bool.Decides.{nat_tests, leb_tells}
use Rattle.facts.proofs.Integers.{times_mono, one_times, neg_times}
use Rattle.facts.specs.Fields.{first_bad, literal_fields}
use Rattle.facts.specs.Literals.{LiteralTrue}
use Rattle.facts.specs.Valuations.{Valuation}
use Rattle.facts.specs.declared.name.Name.{Name}
use Rattle.reading.specs.Bounds.{bound_literal, bounds_list}
use Rattle.reading.specs.Converter.{Stores, AllTrue, AllGood, Taken, rule, highest_count}
use Rattle.reading.specs.declared.bound.Bound.{Bound}
use Rattle.reading.specs.declared.bound.Bounds.{Bounds}
use Rattle.reading.specs.declared.count.SentReading.{SentReading}
use Rattle.reading.proofs.Floors.{floor_between, floor_of}

-- a row with one name, and three pairs that add nothing
one_name_number : (constant z a m : ℤ) → constant +ℤ ((z *ℤ a) +ℤ ((pos 0 *ℤ m) +ℤ ((pos 0 *ℤ m) +ℤ ((pos 0 *ℤ m) +ℤ pos 0)))) ≡ constant +ℤ (z *ℤ a)
one_name_number constant z a m = let none : pos 0 *ℤ m ≡ pos 0 = zero-*ℤ m in omega (arith, ints)

module _ (v : Valuation) (n : Name) (c : ℕ) where
  abbrev a : ℤ
  a = v.numerator n.index

  abbrev limit : ℤ
  limit = pos c *ℤ pos v.denominator

  at_least_number : (neg_ℤ (pos c) *ℤ pos v.denominator) +ℤ ((pos 1 *ℤ a) +ℤ ((pos 0 *ℤ v.numerator 0) +ℤ ((pos 0 *ℤ v.numerator 0) +ℤ ((pos 0 *ℤ v.numerator 0) +ℤ pos 0)))) ≡ a -ℤ limit
  at_least_number =
      let gone = one_name_number (neg_ℤ (pos c) *ℤ pos v.denominator) (pos 1) a (v.numerator 0) in
      let one = one_times a in
      let less = neg_times (pos c) (pos v.denominator) in
      omega (arith, ints)

  pub at_least : (LiteralTrue v (bound_literal (Bound.AtLeast n c)) → (pos c *ℤ pos v.denominator) ≤ℤ v.numerator n.index) × ((pos c *ℤ pos v.denominator) ≤ℤ v.numerator n.index → LiteralTrue v (bound_literal (Bound.AtLeast n c)))
  at_least = let e = at_least_number in (λ h. omega (arith, ints), λ h. omega (arith, ints))

  less_than_number : (pos c *ℤ pos v.denominator) +ℤ ((negsuc 0 *ℤ a) +ℤ ((pos 0 *ℤ v.numerator 0) +ℤ ((pos 0 *ℤ v.numerator 0) +ℤ ((pos 0 *ℤ v.numerator 0) +ℤ pos 0)))) ≡ limit -ℤ a
  less_than_number =
      let gone = one_name_number (pos c *ℤ pos v.denominator) (negsuc 0) a (v.numerator 0) in
      let one = one_times a in
      let less = neg_times (pos 1) a in
      omega (arith, ints)

  pub less_than : (LiteralTrue v (bound_literal (Bound.LessThan n c)) → v.numerator n.index <ℤ (pos c *ℤ pos v.denominator)) × (v.numerator n.index <ℤ (pos c *ℤ pos v.denominator) → LiteralTrue v (bound_literal (Bound.LessThan n c)))
  less_than = let e = less_than_number in (λ h. omega (arith, ints), λ h. omega (arith, ints))

-- the bounds below the highest count, and at it
abbrev two : Name → ℕ → Bounds
two n c = record { lower = Bound.AtLeast n c; upper = Some (Bound.LessThan n (c + 1)) }

abbrev one : Name → ℕ → Bounds
one n c = record { lower = Bound.AtLeast n c; upper = None }

module _ (v : Valuation) (n : Name) (c : ℕ) where
  abbrev value : ℤ
  value = v.numerator n.index

  -- below the highest count
  two_exact : c < highest_count → (AllTrue v (bounds_list (two n c)) → Stores v n.index c) × (Stores v n.index c → AllTrue v (bounds_list (two n c)))
  two_exact below = (
    λ h.
        record {
          whole = pos c;
          floor = floor_between value v.denominator (pos c) ((at_least v n c).0 h.0) (up.0 h.1.0);
          clipped = omega (arith, ints, clamps);
        },
    λ s.
        let same : s.whole ≡ pos c = omega (arith, ints, clamps, s.clipped) in
        let low : (pos c *ℤ pos v.denominator) ≤ℤ value = subst (λ z. (z *ℤ pos v.denominator) ≤ℤ value) same s.floor.not_above in
        ((at_least v n c).1 low, (up.1 (by_lt_z value (pos (c + 1) *ℤ pos v.denominator) (λ fine. fine) (λ over. absurd (too_much s same over))), tt)),
  )
    where
      up : (LiteralTrue v (bound_literal (Bound.LessThan n (c + 1))) → value <ℤ (pos (c + 1) *ℤ pos v.denominator)) × (value <ℤ (pos (c + 1) *ℤ pos v.denominator) → LiteralTrue v (bound_literal (Bound.LessThan n (c + 1))))
      up = less_than v n (c + 1)

      too_much : (s : Stores v n.index c) → s.whole ≡ pos c → (pos (c + 1) *ℤ pos v.denominator) ≤ℤ value → ⊥
      too_much s same over = let more : pos (c + 1) ≤ℤ s.whole = s.floor.largest (pos (c + 1)) over in omega (arith, ints)

  -- at the highest count
  one_exact : c ≡ highest_count → pos 0 ≤ℤ value → (AllTrue v (bounds_list (one n c)) → Stores v n.index c) × (Stores v n.index c → AllTrue v (bounds_list (one n c)))
  one_exact high biased = (
    λ h.
        let w = floor_of value v.denominator v.positive biased in
        let reached : pos c ≤ℤ w.0 = w.1.largest (pos c) ((at_least v n c).0 h.0) in
        record { whole = w.0; floor = w.1; clipped = omega (arith, ints, clamps) },
    λ s.
        let reached : pos c ≤ℤ s.whole = omega (arith, ints, clamps, s.clipped) in
        let fewer : (pos c *ℤ pos v.denominator) ≤ℤ (s.whole *ℤ pos v.denominator) = times_mono v.denominator (pos c) s.whole reached in
        ((at_least v n c).1 (let under = s.floor.not_above in omega (arith, ints)), tt),
  )

size_neg : (c : ℕ) → nat_abs (neg_ℤ (pos c)) ≡ c
size_neg zero = refl
size_neg (suc c) = refl

at_least_good : (n : Name) (c : ℕ) → c ≤ 4096 → first_bad (literal_fields (bound_literal (Bound.AtLeast n c))) ≡ None
at_least_good n c few = let size = size_neg c in let named = n.named in grind (arith, nat_tests)

less_than_good : (n : Name) (c : ℕ) → c ≤ 4096 → first_bad (literal_fields (bound_literal (Bound.LessThan n c))) ≡ None
less_than_good n c few = let named = n.named in grind (arith, nat_tests)

-- what the rule gives for a count that the converter can store
abbrev Exact : Name → ℕ → Bounds → Type 0
Exact n c b =
    ((v : Valuation) → pos 0 ≤ℤ v.numerator n.index → (AllTrue v (bounds_list b) → Stores v n.index c) × (Stores v n.index c → AllTrue v (bounds_list b)))
    × AllGood (bounds_list b)

rule_exact : (n : Name) (c : ℕ) → c ≤ highest_count → Exact n c (rule n c)
rule_exact n c few =
    ⊎_elim
    (λ h. subst (λ t. Exact n c (chosen t)) (sym h.0) (λ v _. two_exact v n c h.1, (at_least_good n c (omega arith), (less_than_good n (c + 1) (omega (arith, h.1)), tt))))
    (λ h. subst (λ t. Exact n c (chosen t)) (sym h.0) (λ v biased. one_exact v n c (omega (arith, h.1)) biased, (at_least_good n c (omega arith), tt)))
    (leb_tells (suc c) highest_count)
  where
    chosen : Bool → Bounds
    chosen t = record { lower = Bound.AtLeast n c; upper = cond t (Some (Bound.LessThan n (c + 1))) None }

pub taken : (s : SentReading) (n : Name) (b : Bounds) → n.index ≡ s.name → s.count ≤ highest_count → b ≡ rule n s.count → Taken s b
taken s n b named few by_rule =
    let whole : Exact n s.count b = subst (Exact n s.count) (sym by_rule) (rule_exact n s.count few) in
    record {
      good = let below = n.named in grind (arith, nat_tests);
      by_rule = (n, named, by_rule);
      exact = subst (λ i. (v : Valuation) → pos 0 ≤ℤ v.numerator i → (AllTrue v (bounds_list b) → Stores v i s.count) × (Stores v i s.count → AllTrue v (bounds_list b))) named whole.0;
      sendable = whole.1;
    }
