-- The cut of a row, computed.
use Rattle.std.specs.Prelude.{◌≡◌, ℕ, zero, suc, ◌%◌, ◌<◌, ◌≤◌, cond, List, [], ◌∷◌, ℤ, pos, ◌*ℤ◌, ◌≤ℤ◌, Some, None, Option, ◌==◌, slice_index_or, unsigned_abs}
use Rattle.std.proofs.Common.{sym, ap, ◌∙◌, subst, ⊎_elim, mod-lt, arith}
use Rattle.std.proofs.Math.IntN.{+ℤ_idr, zero-*ℤ}
use Rattle.std.proofs.lemmas.List.{get_or_past}
use Rattle.std.proofs.lemmas.Int.{ints}
use Rattle.std.proofs.lemmas.Bool.Decides.{eqb_tells, leb_tells}
use Rattle.std.specs.Int.{int_div_euclid, int_rem_euclid}
use Rattle.facts.specs.Valuations.{Valuation, row_number}
use Rattle.facts.specs.declared.row.Row.{Row}
use Rattle.linear.specs.Content.{Content, size_at}
use Rattle.linear.specs.Cut.{Cut, CutBy}
use Rattle.linear.specs.Division.{Floored}
use Rattle.linear.specs.Forms.{gcd_in, content_of, divided_by, cut_row}
use Rattle.linear.specs.Gcd.{Divides, Greatest}
use Rattle.linear.specs.Rows.{coefficient, listed, get_or-listed}
use Rattle.linear.specs.Contents.{content_unique, zero_content}
use Rattle.linear.specs.Cuts.{cut_by_keeps}
use Rattle.linear.specs.Divisors.{divides_zero, divides_through, greatest_of_zero, greatest_of_rest}
use Rattle.linear.specs.Floors.{euclid_floored, floored_unique, quotient_exact}
use Rattle.linear.specs.Listed.{listed_is}
use Rattle.linear.specs.RowsMade.{row_of_made, row_of_some}

-- with more steps than the second number, the greatest common divisor is reached
gcd_greatest : (steps a b : ℕ) → b < steps → Greatest a b (gcd_in steps a b)
unfolding gcd_in
gcd_greatest zero a b h = absurd (omega arith)
gcd_greatest (suc steps) a b h =
    ⊎_elim
    (λ e. subst (λ t. Greatest a b (cond t a (gcd_in steps b (a % b)))) (sym e.0) (greatest_of_zero a b e.1))
    (λ e.
    let less : a % b < b = mod-lt a (omega (arith, e.1)) in
    subst (λ t. Greatest a b (cond t a (gcd_in steps b (a % b)))) (sym e.0) (greatest_of_rest a b _ (gcd_greatest steps b (a % b) (omega arith))))
    (eqb_tells b 0)

content_is : (zs : List ℤ) → Content zs (content_of zs)
unfolding content_of
content_is [] = record { each = λ k. divides_zero 0; most = λ d h. divides_zero d }
content_is (z ∷ zs) =
    let rest : Content zs (content_of zs) = content_is zs in
    let both = gcd_greatest (suc (content_of zs)) (unsigned_abs z) (content_of zs) (omega arith) in
    record {
      each = each_of z zs _ both.left (λ k. divides_through _ (content_of zs) (size_at zs k) both.right (rest.each k));
      most = λ d all. both.most d (all 0) (rest.most d (λ k. all (suc k)));
    }
  where
    each_of : (z : ℤ) (zs : List ℤ) (g : ℕ) → Divides g (unsigned_abs z) → ((k : ℕ) → Divides g (size_at zs k)) → (k : ℕ) → Divides g (size_at (z ∷ zs) k)
    each_of z zs g first others zero = first
    each_of z zs g first others (suc k) = others k

quotient_is : (a q r : ℤ) (g : ℕ) → 1 ≤ g → Floored a (pos g) q r → q ≡ int_div_euclid a (pos g)
quotient_is a q r g h f =
    floored_unique a g q (int_div_euclid a (pos g)) r (int_rem_euclid a (pos g)) f (euclid_floored a (pos g) (omega (arith, ints)))

exact_floored : (a q : ℤ) (g : ℕ) → 1 ≤ g → q *ℤ pos g ≡ a → Floored a (pos g) q (pos 0)
exact_floored a q g h e =
    record { whole = sym e ∙ sym (+ℤ_idr (q *ℤ pos g)); low = omega (arith, ints); high = omega (arith, ints) }

divided_is : (g : ℕ) (row r : Row) → CutBy g row r → divided_by g row ≡ Some r
divided_is g row r h =
    let (rest, floor) = h.rounded in
    row_of_some _ _ r (quotient_is row.constant r.constant rest g h.positive floor)
    (listed_is _ r.coefficients r.long (λ k _. quotient_is (coefficient row k) (coefficient r k) (pos 0) g h.positive (exact_floored _ _ g h.positive (h.exact k))))

abbrev chosen : ℕ → Row → Option Row
chosen g r = cond (g == 0) None (divided_by g r)

-- what is called a cut is what is computed
pub cut_is : (row : Row) (o : Option Row) → Cut row o → o ≡ cut_row row
cut_is row None none =
    let e : content_of row.coefficients ≡ 0 = zero_content row.coefficients _ (content_is row.coefficients) none in
    ap (λ g. chosen g row) (sym e)
cut_is row (Some r) (named, (g, h)) =
    let e : content_of row.coefficients ≡ g = content_unique row.coefficients _ g (content_is row.coefficients) h.content in
    ⊎_elim (λ z. absurd (other_case z.1 h.positive))
    (λ z. sym (ap (λ n. chosen n row) e ∙ ap (λ b. cond b None (divided_by g row)) z.0 ∙ divided_is g row r h))
    (eqb_tells g 0)
  where
    other_case : g ≡ 0 → 1 ≤ g → ⊥
    other_case a b = omega arith

-- ---- what is computed keeps what holds at whole values

exact_at : (row : Row) (r : Row) (g : ℕ) → 1 ≤ g → Content row.coefficients g → r.coefficients ≡ listed (λ k. int_div_euclid (coefficient row k) (pos g)) → (k : ℕ) → coefficient r k *ℤ pos g ≡ coefficient row k
exact_at row r g positive content e k =
    ⊎_elim
    (λ past.
    let low : coefficient r k ≡ pos 0 = get_or_past r.coefficients k (pos 0) (omega (arith, past.1, r.long)) in
    let high : coefficient row k ≡ pos 0 = get_or_past row.coefficients k (pos 0) (omega (arith, past.1, row.long)) in
    ap (λ z. z *ℤ pos g) low ∙ zero-*ℤ (pos g) ∙ sym high)
    (λ below.
    ap (λ z. z *ℤ pos g) (ap (λ zs. slice_index_or zs k (pos 0)) e ∙ get_or-listed _ k below.1)
    ∙ quotient_exact (coefficient row k) g (int_div_euclid (coefficient row k) (pos g)) (int_rem_euclid (coefficient row k) (pos g)) (content.each k) (euclid_floored (coefficient row k) (pos g) (omega (arith, ints))))
    (leb_tells 32 k)

computed_by : (g : ℕ) (row r : Row) → 1 ≤ g → Content row.coefficients g → divided_by g row ≡ Some r → CutBy g row r
computed_by g row r positive content e =
    let (first, rest) = row_of_made _ _ r e in
    record {
      content = content;
      positive = positive;
      exact = exact_at row r g positive content rest;
      rounded = (int_rem_euclid row.constant (pos g), subst (λ z. Floored row.constant (pos g) z (int_rem_euclid row.constant (pos g))) (sym first) (euclid_floored row.constant (pos g) (omega (arith, ints))));
    }

pub cut_row_keeps : (row r : Row) → cut_row row ≡ Some r → (v : Valuation) → v.denominator ≡ 1 → pos 0 ≤ℤ row_number v row → pos 0 ≤ℤ row_number v r
cut_row_keeps row r e =
    ⊎_elim
    (λ z.
    let none : cut_row row ≡ None = ap (λ b. cond b None (divided_by (content_of row.coefficients) row)) z.0 in
    let clash : ◌≡◌ {A = ℕ} 0 1 = cc in
    absurd (omega arith))
    (λ z.
    let g : ℕ = content_of row.coefficients in
    let made : divided_by (content_of row.coefficients) row ≡ Some r = sym (ap (λ b. cond b None (divided_by (content_of row.coefficients) row)) z.0) ∙ e in
    cut_by_keeps (content_of row.coefficients) row r (computed_by (content_of row.coefficients) row r (omega (arith, z.1)) (content_is row.coefficients) made))
    (eqb_tells (content_of row.coefficients) 0)
