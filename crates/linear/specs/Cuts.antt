-- The cut of a row: what it is, and that it keeps what holds at whole values.
use Rattle.std.specs.Prelude.{◌≡◌, ℕ, ◌≤◌, List, ℤ, pos, ◌+ℤ◌, ◌*ℤ◌, ◌≤ℤ◌, Some, None, Option, MatchOption, slice_index_or}
use Rattle.std.proofs.Common.{sym, ap, ◌∙◌, subst, arith}
use Rattle.std.proofs.Math.IntN.{*ℤ_comm}
use Rattle.std.proofs.lemmas.Int.{ints}
use Rattle.facts.proofs.Integers.{add_times, times_assoc, sum_same, sum_times}
use Rattle.facts.specs.Sizes.{Sized, AllSized, row_limit}
use Rattle.facts.specs.Valuations.{Valuation, sum_below, row_number}
use Rattle.facts.specs.declared.row.Row.{Row}
use Rattle.linear.specs.Content.{Content}
use Rattle.linear.specs.Cut.{Cut, CutBy, Keeps, Nameless, Quotients}
use Rattle.linear.specs.Division.{Floored}
use Rattle.linear.specs.Contents.{zero_content, content_zero, content_within}
use Rattle.linear.specs.Floors.{quotient_smaller, quotient_exact, factor_keeps}

-- coefficients times numerators, added
abbrev weighed : Valuation → Row → ℤ
weighed v r = sum_below 32 (λ k. slice_index_or r.coefficients k (pos 0) *ℤ v.numerator k)

weighed_cut : (g : ℕ) (row r : Row) → CutBy g row r → (v : Valuation) → weighed v row ≡ pos g *ℤ weighed v r
weighed_cut g row r h v =
    sum_same 32 _ (λ k. pos g *ℤ (slice_index_or r.coefficients k (pos 0) *ℤ v.numerator k))
    (λ k _.
    ap (λ z. z *ℤ v.numerator k) (sym (h.exact k) ∙ *ℤ_comm (slice_index_or r.coefficients k (pos 0)) (pos g))
    ∙ times_assoc (pos g) (slice_index_or r.coefficients k (pos 0)) (v.numerator k))
    ∙ sum_times 32 (pos g) (λ k. slice_index_or r.coefficients k (pos 0) *ℤ v.numerator k)

whole_number : (v : Valuation) → v.denominator ≡ 1 → (r : Row) → row_number v r ≡ r.constant +ℤ weighed v r
whole_number v e r =
    let once : r.constant *ℤ pos 1 ≡ r.constant = omega (arith, ints) in
    ap (λ n. (r.constant *ℤ pos n) +ℤ weighed v r) e ∙ ap (λ z. z +ℤ weighed v r) once

pub cut_by_keeps : (g : ℕ) (row r : Row) → CutBy g row r → (v : Valuation) → v.denominator ≡ 1 → pos 0 ≤ℤ row_number v row → pos 0 ≤ℤ row_number v r
cut_by_keeps g row r h v e low =
    let (rest, floor) = h.rounded in
    let S : ℤ = weighed v r in
    let sum : weighed v row ≡ S *ℤ pos g = weighed_cut g row r h v ∙ *ℤ_comm (pos g) S in
    let both : (r.constant +ℤ S) *ℤ pos g ≡ (r.constant *ℤ pos g) +ℤ (S *ℤ pos g) = add_times r.constant S (pos g) in
    let number : row_number v row ≡ ((r.constant +ℤ S) *ℤ pos g) +ℤ rest = whole_number v e row ∙ omega (arith, ints, floor.whole) in
    subst (λ z. pos 0 ≤ℤ z) (sym (whole_number v e r))
    (factor_keeps (r.constant +ℤ S) g rest floor.high (subst (λ z. pos 0 ≤ℤ z) number low))

pub cut_keeps : (row : Row) (o : Option Row) → Cut row o → Keeps row o
cut_keeps row None h = tt
cut_keeps row (Some r) (_, (g, h)) = cut_by_keeps g row r h

-- ---- what the code makes

module _ (row : Row) (g : ℕ) (content : Content row.coefficients g) (positive : 1 ≤ g) (q rest : ℤ) (floor : Floored row.constant (pos g) q rest) (qs : List ℤ) (each : Quotients row.coefficients (pos g) qs) where
  constant_small : Sized row_limit q
  constant_small = omega (arith, row.sized, quotient_smaller row.constant (pos g) q rest (omega (arith, ints)) floor)

  quotients_small : AllSized row_limit qs
  quotients_small k =
      omega (arith, row.all_sized k, quotient_smaller (slice_index_or row.coefficients k (pos 0)) (pos g) (slice_index_or qs k (pos 0)) (each k).0 (omega (arith, ints)) (each k).1)

  divided_out : (r : Row) → r.constant ≡ q → r.coefficients ≡ qs → CutBy g row r
  divided_out r same all =
      record {
        content = content;
        positive = positive;
        exact = λ k.
            ap (λ (zs : List ℤ). slice_index_or zs k (pos 0) *ℤ pos g) all
            ∙ quotient_exact (slice_index_or row.coefficients k (pos 0)) g (slice_index_or qs k (pos 0)) (each k).0 (content.each k) (each k).1;
        rounded = (rest, subst (λ z. Floored row.constant (pos g) z rest) (sym same) floor);
      }

  -- the numbers fit a row, so one is made
  cut_made : (o : Option Row) → MatchOption o (Sized row_limit q → AllSized row_limit qs → ⊥) (λ r. (r.constant ≡ q) × (r.coefficients ≡ qs)) → Cut row o
  cut_made None refused = absurd (refused constant_small quotients_small)
  cut_made (Some r) made =
      (λ none. omega (arith, zero_content row.coefficients g content none), (g, divided_out r made.0 made.1))

-- none is made if there is nothing to divide by
pub cut_none : (row : Row) (g : ℕ) (zs : List ℤ) → zs ≡ row.coefficients → Content zs g → g ≡ 0 → Nameless row
cut_none row g zs lent content none =
    content_zero row.coefficients g (subst (λ xs. Content xs g) lent content) none

pub divisor_within : (row : Row) (g : ℕ) (zs : List ℤ) → zs ≡ row.coefficients → Content zs g → g ≤ row_limit
divisor_within row g zs lent content =
    content_within row_limit row.coefficients g (subst (λ xs. Content xs g) lent content) row.all_sized

-- zs is lent by the row, a and b are passed, and p is stored
pub cut_some : (row : Row) (g : ℕ) (zs : List ℤ) (a b q rest p : ℤ) (qs : List ℤ) (o : Option Row) → zs ≡ row.coefficients → Content zs g → 1 ≤ g → a ≡ row.constant → b ≡ pos g → p ≡ q → Floored a b q rest → Quotients zs b qs → MatchOption o (Sized row_limit p → AllSized row_limit qs → ⊥) (λ r. (r.constant ≡ p) × (r.coefficients ≡ qs)) → Cut row o
cut_some row g zs a b q rest p qs o lent content positive passed cast stored floor each made =
    let c : Content row.coefficients g = subst (λ xs. Content xs g) lent content in
    let f : Floored row.constant (pos g) p rest = subst (λ z. Floored row.constant (pos g) z rest) (sym stored) (subst (λ z. Floored row.constant z q rest) cast (subst (λ z. Floored z b q rest) passed floor)) in
    let e : Quotients row.coefficients (pos g) qs = subst (λ xs. Quotients xs (pos g) qs) lent (subst (λ z. Quotients zs z qs) cast each) in
    cut_made row g c positive p rest f qs e o made
