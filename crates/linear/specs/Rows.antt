-- Rows by their numbers.
use Rattle.std.specs.Prelude.{◌≡◌, ℕ, ◌<◌, ◌≤◌, List, map, length, ℤ, pos, Some, None, Option, slice_index_or, unsigned_abs}
use Rattle.std.proofs.Common.{sym, subst, ⊎_elim, arith}
use Rattle.std.proofs.lemmas.List.{get_or_past}
use Rattle.std.proofs.lemmas.List.FromFn.{get_or-map-range_with_len, length-map-range_with_len}
use Rattle.std.proofs.lemmas.Bool.Decides.{eqb_tells, leb_tells}
use Rattle.std.specs.List.{range_with_len}
use Rattle.facts.specs.Sizes.{Sized, AllSized, row_limit}
use Rattle.facts.specs.declared.row.Row.{Row}
use Rattle.linear.specs.Deciding.{is_each_below}

-- f 0 .. f 31
unfoldable pub listed : (ℕ → ℤ) → List ℤ
listed f = map f (range_with_len 0 32)

-- there are 32 coefficients, and all numbers are small enough
pub record Fits (constant : ℤ) (coefficients : List ℤ) : Type 0 where
  pub long : length coefficients ≡ 32
  pub sized : Sized row_limit constant
  pub all_sized : AllSized row_limit coefficients

-- past a list's end there is only 0
all_sized_below : (limit : ℕ) (zs : List ℤ) (n : ℕ) → length zs ≤ n → ((k : ℕ) → k < n → Sized limit (slice_index_or zs k (pos 0))) → AllSized limit zs
all_sized_below limit zs n end below k =
    ⊎_elim
    (λ h. subst (λ z. Sized limit z) (sym (get_or_past zs k (pos 0) (omega (arith, h.1)))) (omega arith))
    (λ h. below k h.1)
    (leb_tells n k)

length-listed : (f : ℕ → ℤ) → length (listed f) ≡ 32
unfolding listed
length-listed f = length-map-range_with_len f 0 32

pub get_or-listed : (f : ℕ → ℤ) (k : ℕ) → k < 32 → slice_index_or (listed f) k (pos 0) ≡ f k
unfolding listed
get_or-listed f k h = get_or-map-range_with_len f 0 32 k k (pos 0) h (omega arith)

pub listed_fits : (c : ℤ) (f : ℕ → ℤ) → Sized row_limit c → ((k : ℕ) → k < 32 → Sized row_limit (f k)) → Fits c (listed f)
listed_fits c f h small =
    record {
      long = length-listed f;
      sized = h;
      all_sized = all_sized_below row_limit (listed f) 32 (omega (arith, length-listed f)) (λ k below. subst (λ z. Sized row_limit z) (sym (get_or-listed f k below)) (small k below));
    }

is_sized : (z : ℤ) → Dec (Sized row_limit z)
is_sized z = ⊎_elim (λ h. yes h.1) (λ h. no (λ k. omega (arith, h.1))) (leb_tells (unsigned_abs z) row_limit)

is_all_sized : (cs : List ℤ) → length cs ≡ 32 → Dec (AllSized row_limit cs)
is_all_sized cs long =
    elim (is_each_below (λ k. Sized row_limit (slice_index_or cs k (pos 0))) (λ k. is_sized (slice_index_or cs k (pos 0))) 32) [
      | yes below ↦ yes (all_sized_below row_limit cs 32 (omega arith) below)
      | no other ↦ no (λ all. other (λ k _. all k))
    ]

fits_if : (c : ℤ) (cs : List ℤ) → length cs ≡ 32 → Dec (Sized row_limit c) → Dec (AllSized row_limit cs) → Dec (Fits c cs)
fits_if c cs long (no other) all = no (λ f. other f.sized)
fits_if c cs long (yes sized) (no other) = no (λ f. other f.all_sized)
fits_if c cs long (yes sized) (yes all) = yes (record { long = long; sized = sized; all_sized = all })

pub does_fit : (c : ℤ) (cs : List ℤ) → Dec (Fits c cs)
does_fit c cs =
    ⊎_elim (λ long. fits_if c cs long.1 (is_sized c) (is_all_sized cs long.1)) (λ other. no (λ f. other.1 f.long))
    (eqb_tells (length cs) 32)

-- the row with numbers that fit
unfoldable pub row_with : (c : ℤ) (cs : List ℤ) → Fits c cs → Row
row_with c cs f = record { constant = c; coefficients = cs; long = f.long; sized = f.sized; all_sized = f.all_sized }

unfoldable pub row_if : (c : ℤ) (cs : List ℤ) → Dec (Fits c cs) → Option Row
row_if c cs (yes f) = Some (row_with c cs f)
row_if c cs (no f) = None

-- the row with these numbers, if they fit
unfoldable pub row_of : ℤ → List ℤ → Option Row
row_of c cs = row_if c cs (does_fit c cs)

-- the coefficient of the name with index k; 0 if the row does not have it
abbrev pub coefficient : Row → ℕ → ℤ
coefficient r k = slice_index_or r.coefficients k (pos 0)
