-- The rules are sound, over fractions and over whole numbers.
use Rattle.std.specs.Prelude.{◌≡◌, ℕ, zero, suc, ◌≤◌, Bool, true, false, cond, T, List, get_or, ℤ, pos, negsuc, ◌+ℤ◌, ◌-ℤ◌, ◌*ℤ◌, ◌≤ℤ◌, ◌<ℤ◌, IfSome, Some, None, Option, Result, ◌≢◌, int_lt}
use Rattle.std.proofs.Math.Path.{refl, ap}
use Rattle.std.proofs.Common.{sym, ◌∙◌, subst, ⊎_elim, zero-mul, suc-mul, arith}
use Rattle.std.proofs.Math.IntN.{+ℤ_idl, +ℤ_idr, zero-*ℤ, *ℤ-zero, *ℤ_comm}
use Rattle.std.proofs.lemmas.Int.{ints}
use Rattle.std.proofs.lemmas.Bool.Decides.{eqb_tells}
use Rattle.facts.proofs.Integers.{add_times, times_add, minus_times, times_assoc, one_times, sum_same, sum_zero, sum_add, sum_times, sum_one}
use Rattle.facts.specs.Valuations.{Valuation, sum_below, row_number, Compares, True, Compared}
use Rattle.facts.specs.declared.fact.Comparison.{Comparison}
use Rattle.facts.specs.declared.fact.Fact.{Fact}
use Rattle.facts.specs.declared.fact.Relation.{Relation}
use Rattle.facts.specs.declared.fault.Cause.{Cause}
use Rattle.facts.specs.declared.name.Name.{Name}
use Rattle.facts.specs.declared.row.Row.{Row}
use Rattle.theory.proofs.Truths.{ComesTrue, current_true, fact_true, numbered_true}
use Rattle.theory.specs.Rules.{Sound, AllTrue}
use Rattle.theory.specs.declared.inference.Inference.{Inference}
use Rattle.theory.specs.declared.inference.Outcome.{Outcome}
use Rattle.linear.specs.Cut.{Nameless}
use Rattle.linear.specs.Deciding.{holds}
use Rattle.linear.specs.Forms.{Difference, is_difference, does_contradict, difference_at, difference_row, one_at, sum_row, lowered, zero_row, cut_row}
use Rattle.linear.specs.Rows.{listed, row_with, coefficient, get_or-listed}
use Rattle.linear.specs.Rules.{admitted, row_rules, theory_number, inferred, told, whole_only, becomes, may_multiply, joined, add_to, added, at_least, above, both_ways, falsified, strengthened, cut_becomes, divided}
use Rattle.linear.specs.declared.domain.Domain.{Domain}
use Rattle.linear.specs.CutRows.{cut_row_keeps}
use Rattle.linear.specs.Floors.{factor_keeps}
use Rattle.linear.specs.RowsMade.{row_of_made}

-- ---- products

product_at_least : (c b : ℤ) → pos 0 <ℤ c → pos 0 ≤ℤ b → pos 0 ≤ℤ (c *ℤ b)
product_at_least (pos c) (pos b) h i = omega (arith, ints)
product_at_least (pos c) (negsuc b) h i = absurd (omega (arith, ints))
product_at_least (negsuc c) b h i = absurd (omega (arith, ints))

product_above : (c b : ℤ) → pos 0 <ℤ c → pos 0 <ℤ b → pos 0 <ℤ (c *ℤ b)
product_above (pos zero) b h i = absurd (omega (arith, ints))
product_above (pos (suc c)) (pos b) h i = omega (arith, ints, suc-mul c b)
product_above (pos (suc c)) (negsuc b) h i = absurd (omega (arith, ints))
product_above (negsuc c) b h i = absurd (omega (arith, ints))

-- a number whose multiple is not negative is not
factor_at_least : (c t : ℤ) → pos 1 ≤ℤ c → pos 0 ≤ℤ (c *ℤ t) → pos 0 ≤ℤ t
factor_at_least (pos c) t h i =
    factor_keeps t c (pos 0) (omega (arith, ints)) (omega (arith, ints, *ℤ_comm (pos c) t))
factor_at_least (negsuc c) t h i = absurd (omega (arith, ints))

-- a number compares with 0 as its product with a denominator does
unscaled : (how : Relation) (z : ℤ) (q : ℕ) → 1 ≤ q → Compares how (z *ℤ pos q) → Compares how z
unscaled Relation.NonNegative z q h i = factor_keeps z q (pos 0) (omega (arith, ints)) (omega (arith, ints))
unscaled Relation.Positive (pos zero) q h i = absurd (omega (arith, ints, zero-mul q))
unscaled Relation.Positive (pos (suc n)) q h i = omega (arith, ints)
unscaled Relation.Positive (negsuc n) q h i = absurd (omega (arith, ints, suc-mul n q))
unscaled Relation.Zero (pos zero) q h i = refl
unscaled Relation.Zero (pos (suc n)) q h i = absurd (omega (arith, ints, suc-mul n q))
unscaled Relation.Zero (negsuc n) q h i = absurd (omega (arith, ints, suc-mul n q))

-- ---- the numbers of rows

sum_minus : (n : ℕ) (f g : ℕ → ℤ) → sum_below n (λ k. f k -ℤ g k) ≡ sum_below n f -ℤ sum_below n g
unfolding sum_below
sum_minus zero f g = refl
sum_minus (suc n) f g = ap (λ x. x +ℤ (f n -ℤ g n)) (sum_minus n f g) ∙ omega (arith, ints)

module _ (v : Valuation) where
  abbrev q : ℤ
  q = pos v.denominator

  abbrev value : Name → ℤ
  value n = v.numerator n.index

  -- coefficients times numerators, added
  abbrev weighed : (ℕ → ℤ) → ℤ
  weighed f = sum_below 32 (λ k. f k *ℤ v.numerator k)

  -- a row with the listed coefficients
  number_listed : (r : Row) (c : ℤ) (f : ℕ → ℤ) → r.constant ≡ c → r.coefficients ≡ listed f → row_number v r ≡ (c *ℤ q) +ℤ weighed f
  number_listed r c f e h =
      ap (λ z. (z *ℤ q) +ℤ weighed (coefficient r)) e
      ∙ ap (λ z. (c *ℤ q) +ℤ z)
      (sum_same 32 _ _ (λ k below. ap (λ z. z *ℤ v.numerator k) (ap (λ zs. get_or zs k (pos 0)) h ∙ get_or-listed f k below)))

  weighed_sum : (c : ℤ) (f g : ℕ → ℤ) → weighed (λ k. f k +ℤ (c *ℤ g k)) ≡ weighed f +ℤ (c *ℤ weighed g)
  weighed_sum c f g =
      sum_same 32 _ (λ k. (f k *ℤ v.numerator k) +ℤ (c *ℤ (g k *ℤ v.numerator k)))
      (λ k _. add_times (f k) (c *ℤ g k) (v.numerator k) ∙ ap (λ z. (f k *ℤ v.numerator k) +ℤ z) (times_assoc c (g k) (v.numerator k)))
      ∙ sum_add 32 (λ k. f k *ℤ v.numerator k) (λ k. c *ℤ (g k *ℤ v.numerator k))
      ∙ ap (λ z. weighed f +ℤ z) (sum_times 32 c (λ k. g k *ℤ v.numerator k))

  pub sum_number : (a b r : Row) (c : ℤ) → sum_row a c b ≡ Some r → row_number v r ≡ row_number v a +ℤ (c *ℤ row_number v b)
  sum_number a b r c e =
      let (first, rest) = row_of_made _ _ r e in
      let A : ℤ = weighed (coefficient a) in
      let B : ℤ = weighed (coefficient b) in
      let one : (a.constant +ℤ (c *ℤ b.constant)) *ℤ q ≡ (a.constant *ℤ q) +ℤ (c *ℤ (b.constant *ℤ q)) =
      add_times a.constant (c *ℤ b.constant) q ∙ ap (λ z. (a.constant *ℤ q) +ℤ z) (times_assoc c b.constant q) in
      let two : c *ℤ ((b.constant *ℤ q) +ℤ B) ≡ (c *ℤ (b.constant *ℤ q)) +ℤ (c *ℤ B) = times_add c (b.constant *ℤ q) B in
      number_listed r _ (λ k. coefficient a k +ℤ (c *ℤ coefficient b k)) first rest
      ∙ ap (λ z. ((a.constant +ℤ (c *ℤ b.constant)) *ℤ q) +ℤ z) (weighed_sum c (coefficient a) (coefficient b))
      ∙ omega (arith, ints, one, two)

  -- the numerator of a name, as a sum
  one_sum : (n : Name) → weighed (one_at n.index) ≡ value n
  one_sum n =
      sum_one 32 n.index (λ k. one_at n.index k *ℤ v.numerator k) n.named
      (λ k other. ⊎_elim (λ e. absurd (other (sym e.1))) (λ e. ap (λ b. cond b (pos 1) (pos 0) *ℤ v.numerator k) e.0 ∙ zero-*ℤ (v.numerator k)) (eqb_tells n.index k))
      ∙ ⊎_elim (λ e. ap (λ b. cond b (pos 1) (pos 0) *ℤ value n) e.0 ∙ one_times (value n)) (λ e. absurd (e.1 refl)) (eqb_tells n.index n.index)

  difference_sum : (n m : Name) → weighed (difference_at n m) ≡ value n -ℤ value m
  difference_sum n m =
      sum_same 32 _ (λ k. (one_at n.index k *ℤ v.numerator k) -ℤ (one_at m.index k *ℤ v.numerator k)) (λ k _. minus_times (one_at n.index k) (one_at m.index k) (v.numerator k))
      ∙ sum_minus 32 (λ k. one_at n.index k *ℤ v.numerator k) (λ k. one_at m.index k *ℤ v.numerator k)
      ∙ ap (λ z. z -ℤ weighed (one_at m.index)) (one_sum n)
      ∙ ap (λ z. value n -ℤ z) (one_sum m)

  pub difference_number : (n m : Name) → row_number v (difference_row n m) ≡ value n -ℤ value m
  unfolding row_with
  difference_number n m =
      number_listed (difference_row n m) (pos 0) (difference_at n m) refl refl
      ∙ ap (λ z. z +ℤ weighed (difference_at n m)) (zero-*ℤ q)
      ∙ +ℤ_idl (weighed (difference_at n m))
      ∙ difference_sum n m

  pub multiple_number : (r : Row) (n m : Name) → Difference r n m → row_number v r ≡ coefficient r n.index *ℤ (value n -ℤ value m)
  multiple_number r n m d =
      let c : ℤ = coefficient r n.index in
      ap (λ z. (z *ℤ q) +ℤ weighed (coefficient r)) d.constant
      ∙ ap (λ z. z +ℤ weighed (coefficient r)) (zero-*ℤ q)
      ∙ +ℤ_idl (weighed (coefficient r))
      ∙ sum_same 32 _ (λ k. c *ℤ (difference_at n m k *ℤ v.numerator k)) (λ k below. ap (λ z. z *ℤ v.numerator k) (d.each k below) ∙ times_assoc c (difference_at n m k) (v.numerator k))
      ∙ sum_times 32 c (λ k. difference_at n m k *ℤ v.numerator k)
      ∙ ap (λ z. c *ℤ z) (difference_sum n m)

  nameless_number : (r : Row) → Nameless r → row_number v r ≡ r.constant *ℤ q
  nameless_number r none =
      ap (λ z. (r.constant *ℤ q) +ℤ z) (sum_zero 32 _ (λ k _. ap (λ z. z *ℤ v.numerator k) (none k) ∙ zero-*ℤ (v.numerator k)))
      ∙ +ℤ_idr (r.constant *ℤ q)

  lowered_number : (r s : Row) → lowered r ≡ Some s → row_number v s ≡ row_number v r -ℤ q
  lowered_number r s e =
      let (first, rest) = row_of_made _ _ s e in
      let less : (r.constant -ℤ pos 1) *ℤ q ≡ (r.constant *ℤ q) -ℤ q = minus_times r.constant (pos 1) q ∙ ap (λ z. (r.constant *ℤ q) -ℤ z) (one_times q) in
      ap (λ z. (z *ℤ q) +ℤ weighed (coefficient s)) first
      ∙ ap (λ zs. ((r.constant -ℤ pos 1) *ℤ q) +ℤ weighed (λ k. get_or zs k (pos 0))) rest
      ∙ omega (arith, ints, less)

  -- ---- the rules

  becomes_true : (how : Relation) (o : Option Row) → ((r : Row) → o ≡ Some r → Compares how (row_number v r)) → ComesTrue v (becomes how o)
  becomes_true how None h = tt
  becomes_true how (Some r) h = h r refl

  by_test : (b : Bool) (x y : Result Outcome Cause) → (b ≡ true → ComesTrue v x) → (b ≡ false → ComesTrue v y) → ComesTrue v (cond b x y)
  by_test true x y f g = f refl
  by_test false x y f g = g refl

  by_decision : {P : Type 0} (d : Dec P) (x y : Result Outcome Cause) → (P → ComesTrue v x) → ComesTrue v y → ComesTrue v (cond (holds d) x y)
  unfolding holds
  by_decision (yes p) x y f g = f p
  by_decision (no other) x y f g = g

  positive_factor : (c : ℤ) → int_lt (pos 0) c ≡ true → pos 0 <ℤ c
  positive_factor c e = record { lt = subst T (sym e) tt }

  -- M, on numbers
  joined_true : (now how : Relation) (a b c : ℤ) → (now ≢ Relation.Zero) → Compares now a → may_multiply how c ≡ true → Compares how b → Compares (joined now how) (a +ℤ (c *ℤ b))
  joined_true Relation.Zero how a b c inequality h e i = absurd (inequality refl)
  joined_true Relation.NonNegative Relation.NonNegative a b c inequality h e i = omega (arith, ints, product_at_least c b (positive_factor c e) i)
  joined_true Relation.NonNegative Relation.Positive a b c inequality h e i = omega (arith, ints, product_above c b (positive_factor c e) i)
  joined_true Relation.NonNegative Relation.Zero a b c inequality h e i =
      let none : c *ℤ b ≡ pos 0 = ap (λ z. c *ℤ z) i ∙ *ℤ-zero c in omega (arith, ints)
  joined_true Relation.Positive Relation.NonNegative a b c inequality h e i = omega (arith, ints, product_at_least c b (positive_factor c e) i)
  joined_true Relation.Positive Relation.Positive a b c inequality h e i = omega (arith, ints, product_above c b (positive_factor c e) i)
  joined_true Relation.Positive Relation.Zero a b c inequality h e i =
      let none : c *ℤ b ≡ pos 0 = ap (λ z. c *ℤ z) i ∙ *ℤ-zero c in omega (arith, ints)

  sum_true : (c : ℤ) (now how : Relation) (a b : Row) → (now ≢ Relation.Zero) → Compares now (row_number v a) → may_multiply how c ≡ true → Compares how (row_number v b) → ComesTrue v (becomes (joined now how) (sum_row a c b))
  sum_true c now how a b inequality h e i =
      becomes_true (joined now how) (sum_row a c b)
      (λ r made. subst (Compares (joined now how)) (sym (sum_number a b r c made)) (joined_true now how (row_number v a) (row_number v b) c inequality h e i))

  not_zero_at_least : Relation.NonNegative ≡ Relation.Zero → ⊥
  not_zero_at_least e = let z : ◌≡◌ {A = ℕ} 0 1 = cc in omega arith

  not_zero_above : Relation.Positive ≡ Relation.Zero → ⊥
  not_zero_above e = let z : ◌≡◌ {A = ℕ} 0 1 = cc in omega arith

  add_to_true : (c : ℤ) (current : Fact) (how : Relation) (b : Row) → True v current → may_multiply how c ≡ true → Compares how (row_number v b) → ComesTrue v (add_to c current how b)
  add_to_true c (Fact.Equal t u) how b h e i = tt
  add_to_true c (Fact.Distinct t u) how b h e i = tt
  add_to_true c (Fact.Linear Relation.Zero a) how b h e i = tt
  add_to_true c (Fact.Linear Relation.NonNegative a) how b h e i = sum_true c Relation.NonNegative how a b not_zero_at_least h e i
  add_to_true c (Fact.Linear Relation.Positive a) how b h e i = sum_true c Relation.Positive how a b not_zero_above h e i

  pub added_true : (c : ℤ) (current fact : Fact) → True v current → True v fact → ComesTrue v (added c current fact)
  added_true c current (Fact.Equal t u) h i = tt
  added_true c current (Fact.Distinct t u) h i = tt
  added_true c current (Fact.Linear how b) h i =
      by_test (may_multiply how c) _ _ (λ e. add_to_true c current how b h e i) (λ _. tt)

  -- Q
  row_at_least : (f : Fact) (r : Row) → True v f → at_least f ≡ Some r → pos 0 ≤ℤ row_number v r
  row_at_least (Fact.Equal t u) r h e = let z : ◌≡◌ {A = ℕ} 0 1 = cc in absurd (omega arith)
  row_at_least (Fact.Distinct t u) r h e = let z : ◌≡◌ {A = ℕ} 0 1 = cc in absurd (omega arith)
  row_at_least (Fact.Linear Relation.NonNegative s) r h e = let same : s ≡ r = cc in subst (λ x. pos 0 ≤ℤ row_number v x) same h
  row_at_least (Fact.Linear Relation.Positive s) r h e = let z : ◌≡◌ {A = ℕ} 0 1 = cc in absurd (omega arith)
  row_at_least (Fact.Linear Relation.Zero s) r h e = let z : ◌≡◌ {A = ℕ} 0 1 = cc in absurd (omega arith)

  row_above : (f : Fact) (r : Row) → True v f → above f ≡ Some r → pos 0 <ℤ row_number v r
  row_above (Fact.Equal t u) r h e = let z : ◌≡◌ {A = ℕ} 0 1 = cc in absurd (omega arith)
  row_above (Fact.Distinct t u) r h e = let z : ◌≡◌ {A = ℕ} 0 1 = cc in absurd (omega arith)
  row_above (Fact.Linear Relation.NonNegative s) r h e = let z : ◌≡◌ {A = ℕ} 0 1 = cc in absurd (omega arith)
  row_above (Fact.Linear Relation.Positive s) r h e = let same : s ≡ r = cc in subst (λ x. pos 0 <ℤ row_number v x) same h
  row_above (Fact.Linear Relation.Zero s) r h e = let z : ◌≡◌ {A = ℕ} 0 1 = cc in absurd (omega arith)

  not_below : (r : Row) (n m : Name) → Difference r n m → pos 0 ≤ℤ row_number v r → value m ≤ℤ value n
  not_below r n m d h =
      let low : pos 0 ≤ℤ (value n -ℤ value m) = factor_at_least (coefficient r n.index) (value n -ℤ value m) d.positive (subst (λ z. pos 0 ≤ℤ z) (multiple_number r n m d) h) in
      omega (arith, ints)

  pub both_ways_true : (n m : Name) (a b : Option Row) → ((r : Row) → a ≡ Some r → pos 0 ≤ℤ row_number v r) → ((r : Row) → b ≡ Some r → pos 0 ≤ℤ row_number v r) → ComesTrue v (both_ways n m a b)
  both_ways_true n m None None h i = tt
  both_ways_true n m (Some a) None h i = tt
  both_ways_true n m None (Some b) h i = tt
  both_ways_true n m (Some a) (Some b) h i =
      by_decision (is_difference a n m) _ _
      (λ x. by_decision (is_difference b m n) _ _ (λ y. omega (arith, ints, not_below a n m x (h a refl), not_below b m n y (i b refl))) tt)
      tt

  -- F
  pub falsified_true : (current : Fact) → True v current → ComesTrue v (falsified current)
  falsified_true (Fact.Equal t u) h = tt
  falsified_true (Fact.Distinct t u) h = tt
  falsified_true (Fact.Linear how r) h =
      by_decision (does_contradict how r) _ _
      (λ c. c.fails (unscaled how r.constant v.denominator v.positive (subst (Compares how) (nameless_number r c.nameless) h)))
      tt

  -- I
  pub strengthened_true : (o : Option Row) → v.denominator ≡ 1 → ((r : Row) → o ≡ Some r → pos 0 <ℤ row_number v r) → ComesTrue v (strengthened o)
  strengthened_true None whole h = tt
  strengthened_true (Some r) whole h =
      becomes_true Relation.NonNegative (lowered r)
      (λ s made. subst (λ z. pos 0 ≤ℤ z) (sym (lowered_number r s made)) (let above : pos 0 <ℤ row_number v r = h r refl in omega (arith, ints)))

  -- U
  cut_becomes_true : (o : Option Row) → ((r : Row) → o ≡ Some r → pos 0 ≤ℤ row_number v r) → ComesTrue v (cut_becomes o)
  cut_becomes_true None h = tt
  cut_becomes_true (Some r) h = h r refl

  pub divided_true : (o : Option Row) → v.denominator ≡ 1 → ((r : Row) → o ≡ Some r → pos 0 ≤ℤ row_number v r) → ComesTrue v (divided o)
  divided_true None whole h = tt
  divided_true (Some r) whole h = cut_becomes_true (cut_row r) (λ s made. cut_row_keeps r s made v whole (h r refl))

  whole_only_true : (d : Domain) (o : Result Outcome Cause) → admitted d v → (v.denominator ≡ 1 → ComesTrue v o) → ComesTrue v (whole_only d o)
  whole_only_true Domain.Fractions o admits h = tt
  whole_only_true Domain.Whole o admits h = h admits

  -- O
  zero_number : row_number v zero_row ≡ pos 0
  unfolding row_with
  zero_number =
      number_listed zero_row (pos 0) (λ k. pos 0) refl refl
      ∙ ap (λ z. z +ℤ weighed (λ k. pos 0)) (zero-*ℤ q)
      ∙ +ℤ_idl (weighed (λ k. pos 0))
      ∙ sum_zero 32 _ (λ k _. zero-*ℤ (v.numerator k))

  inferred_true : (d : Domain) → admitted d v → (i : Inference) (fs : List Fact) (current : Option Fact) → AllTrue v fs → IfSome current (True v) → ComesTrue v (inferred d i fs current)
  inferred_true d admits (Inference.Reflexivity t) fs current all h = tt
  inferred_true d admits (Inference.Transitivity i turned) fs current all h = tt
  inferred_true d admits (Inference.Congruence i at turned) fs current all h = tt
  inferred_true d admits (Inference.Clash i) fs current all h = tt
  inferred_true d admits Inference.Propagate fs current all h = tt
  inferred_true d admits Inference.Zero fs current all h = subst (λ z. pos 0 ≤ℤ z) (sym zero_number) (omega (arith, ints))
  inferred_true d admits (Inference.Add i c) fs current all h =
      current_true v current _ h
      (λ x true-x. fact_true v fs i _ all (λ y true-y. added_true c.value x y true-x true-y))
  inferred_true d admits (Inference.Antisymmetry i n m) fs current all h =
      current_true v current _ h
      (λ x true-x. fact_true v fs i _ all (λ y true-y. both_ways_true n m (at_least x) (at_least y) (λ r at. row_at_least x r true-x at) (λ r at. row_at_least y r true-y at)))
  inferred_true d admits Inference.Falsify fs current all h = current_true v current _ h falsified_true
  inferred_true d admits Inference.Strengthen fs current all h =
      whole_only_true d _ admits
      (λ whole. current_true v current _ h (λ x true-x. strengthened_true (above x) whole (λ r at. row_above x r true-x at)))
  inferred_true d admits Inference.Cut fs current all h =
      whole_only_true d _ admits
      (λ whole. current_true v current _ h (λ x true-x. divided_true (at_least x) whole (λ r at. row_at_least x r true-x at)))
  inferred_true d admits Inference.Push fs current all h = current_true v current _ h (λ x true-x. true-x)

  -- ---- tellings

  pub told_true : (k : Comparison) → Compared v k → IfSome (told k) (True v)
  told_true (Comparison.Equal n m) h = subst (λ z. z ≡ pos 0) (sym (difference_number n m)) (omega (arith, ints))
  told_true (Comparison.Less n m) h = subst (λ z. pos 0 <ℤ z) (sym (difference_number m n)) (omega (arith, ints))
  told_true (Comparison.Greater n m) h = subst (λ z. pos 0 <ℤ z) (sym (difference_number n m)) (omega (arith, ints))

-- both theories are sound
pub row_sound : (d : Domain) → Sound (admitted d) (row_rules d)
row_sound d =
    record {
      infers = λ v admits i fs current all h. numbered_true v (theory_number d) (inferred d i fs current) (inferred_true v d admits i fs current all h);
      tells = λ v k h. told_true v k h;
    }
