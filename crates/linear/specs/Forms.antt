-- What the rules make of rows, and what they ask of them.
use Rattle.std.specs.Prelude.{◌≡◌, ℕ, zero, suc, ◌%◌, ◌<◌, Bool, true, false, cond, List, [], ◌∷◌, ℤ, pos, ◌+ℤ◌, ◌-ℤ◌, ◌*ℤ◌, ◌≤ℤ◌, None, Option, ◌==◌, unsigned_abs}
use Rattle.std.proofs.Common.{⊎_elim, arith}
use Rattle.std.specs.Int.{int_div_euclid}
use Rattle.std.proofs.lemmas.List.{get_or_past}
use Rattle.std.proofs.lemmas.Bool.Decides.{leb_tells}
use Rattle.facts.specs.Sizes.{Sized, row_limit}
use Rattle.facts.specs.Valuations.{Compares}
use Rattle.facts.specs.declared.fact.Relation.{Relation}
use Rattle.facts.specs.declared.name.Name.{Name}
use Rattle.facts.specs.declared.row.Row.{Row}
use Rattle.linear.specs.Cut.{Nameless}
use Rattle.linear.specs.Deciding.{is_at_most, is_less, is_equal, is_each_below}
use Rattle.linear.specs.Rows.{Fits, row_of, row_with, listed, listed_fits, coefficient}

pub zero_fits : Fits (pos 0) (listed (λ k. pos 0))
zero_fits = listed_fits (pos 0) (λ k. pos 0) (omega arith) (λ k _. omega arith)

-- the row 0
abbrev pub zero_row : Row
zero_row = row_with (pos 0) (listed (λ k. pos 0)) zero_fits

-- a + c b
abbrev pub sum_row : Row → ℤ → Row → Option Row
sum_row a c b = row_of (a.constant +ℤ (c *ℤ b.constant)) (listed (λ k. coefficient a k +ℤ (c *ℤ coefficient b k)))

-- r - 1
abbrev pub lowered : Row → Option Row
lowered r = row_of (r.constant -ℤ pos 1) r.coefficients

-- 1 at the index n, else 0
abbrev pub one_at : ℕ → ℕ → ℤ
one_at n k = cond (n == k) (pos 1) (pos 0)

-- the coefficients of n - m; where n is m, all are 0
abbrev pub difference_at : Name → Name → ℕ → ℤ
difference_at n m k = one_at n.index k -ℤ one_at m.index k

difference_small : (a b : Bool) → Sized row_limit (cond a (pos 1) (pos 0) -ℤ cond b (pos 1) (pos 0))
difference_small true true = omega arith
difference_small true false = omega arith
difference_small false true = omega arith
difference_small false false = omega arith

pub difference_fits : (n m : Name) → Fits (pos 0) (listed (difference_at n m))
difference_fits n m =
    listed_fits (pos 0) (difference_at n m) (omega arith) (λ k _. difference_small (n.index == k) (m.index == k))

-- n - m
abbrev pub difference_row : Name → Name → Row
difference_row n m = row_with (pos 0) (listed (difference_at n m)) (difference_fits n m)

-- the row is c n - c m, for a c of at least 1; so n and m are two names, and c is the coefficient
-- of n
pub record Difference (r : Row) (n m : Name) : Type 0 where
  pub constant : r.constant ≡ pos 0
  pub positive : pos 1 ≤ℤ coefficient r n.index
  pub each : (k : ℕ) → k < 32 → coefficient r k ≡ coefficient r n.index *ℤ difference_at n m k

difference_if : (r : Row) (n m : Name) → Dec (r.constant ≡ pos 0) → Dec (pos 1 ≤ℤ coefficient r n.index) → Dec ((k : ℕ) → k < 32 → coefficient r k ≡ coefficient r n.index *ℤ difference_at n m k) → Dec (Difference r n m)
difference_if r n m (no other) p e = no (λ h. other h.constant)
difference_if r n m (yes c) (no other) e = no (λ h. other h.positive)
difference_if r n m (yes c) (yes p) (no other) = no (λ h. other h.each)
difference_if r n m (yes c) (yes p) (yes e) = yes (record { constant = c; positive = p; each = e })

pub is_difference : (r : Row) (n m : Name) → Dec (Difference r n m)
is_difference r n m =
    difference_if r n m (is_equal r.constant (pos 0)) (is_at_most (pos 1) (coefficient r n.index))
    (is_each_below _ (λ k. is_equal (coefficient r k) (coefficient r n.index *ℤ difference_at n m k)) 32)

-- past the coefficients there is only 0
pub nameless_below : (r : Row) → ((k : ℕ) → k < 32 → coefficient r k ≡ pos 0) → Nameless r
nameless_below r below k =
    ⊎_elim (λ h. get_or_past r.coefficients k (pos 0) (omega (arith, h.1, r.long))) (λ h. below k h.1) (leb_tells 32 k)

is_nameless : (r : Row) → Dec (Nameless r)
is_nameless r =
    elim (is_each_below (λ k. coefficient r k ≡ pos 0) (λ k. is_equal (coefficient r k) (pos 0)) 32) [
      | yes below ↦ yes (nameless_below r below)
      | no other ↦ no (λ all. other (λ k _. all k))
    ]

does_compare : (how : Relation) (z : ℤ) → Dec (Compares how z)
does_compare Relation.NonNegative z = is_at_most (pos 0) z
does_compare Relation.Positive z = is_less (pos 0) z
does_compare Relation.Zero z = is_equal z (pos 0)

-- the row has no names, and its constant does not compare so with 0
pub record Contradicts (how : Relation) (r : Row) : Type 0 where
  pub nameless : Nameless r
  pub fails : Compares how r.constant → ⊥

contradicts_if : (how : Relation) (r : Row) → Dec (Nameless r) → Dec (Compares how r.constant) → Dec (Contradicts how r)
contradicts_if how r (no other) c = no (λ h. other h.nameless)
contradicts_if how r (yes n) (yes c) = no (λ h. h.fails c)
contradicts_if how r (yes n) (no other) = yes (record { nameless = n; fails = other })

pub does_contradict : (how : Relation) (r : Row) → Dec (Contradicts how r)
does_contradict how r = contradicts_if how r (is_nameless r) (does_compare how r.constant)

-- ---- the cut

-- the greatest common divisor of a and b, in at most `steps` divisions
unfoldable pub gcd_in : ℕ → ℕ → ℕ → ℕ
gcd_in zero a b = a
gcd_in (suc steps) a b = cond (b == 0) a (gcd_in steps b (a % b))

-- of the sizes of all numbers; each division makes the second number less, so these are enough
unfoldable pub content_of : List ℤ → ℕ
content_of [] = 0
content_of (z ∷ zs) = gcd_in (suc (content_of zs)) (unsigned_abs z) (content_of zs)

-- each number divided by g, rounded down
abbrev pub divided_by : ℕ → Row → Option Row
divided_by g r = row_of (int_div_euclid r.constant (pos g)) (listed (λ k. int_div_euclid (coefficient r k) (pos g)))

-- the row divided by the content of its coefficients, if it has a name
abbrev pub cut_row : Row → Option Row
cut_row r = cond (content_of r.coefficients == 0) None (divided_by (content_of r.coefficients) r)
