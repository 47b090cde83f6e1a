-- The cut: a row divided by the content of its coefficients, its constant rounded down.
use Rattle.std.specs.Prelude.{◌≡◌, ℕ, ◌≤◌, List, ℤ, pos, ◌*ℤ◌, ◌≤ℤ◌, Some, None, Option, slice_index_or}
use Rattle.facts.specs.Valuations.{Valuation, row_number}
use Rattle.facts.specs.declared.row.Row.{Row}
use Rattle.linear.specs.Content.{Content}
use Rattle.linear.specs.Division.{Floored}

-- each number of qs is the quotient of that of zs, rounded down
abbrev pub Quotients : List ℤ → ℤ → List ℤ → Type 0
Quotients zs by qs = (k : ℕ) → (rest : ℤ) × Floored (slice_index_or zs k (pos 0)) by (slice_index_or qs k (pos 0)) rest

-- no coefficient is other than 0
abbrev pub Nameless : Row → Type 0
Nameless row = (k : ℕ) → slice_index_or row.coefficients k (pos 0) ≡ pos 0

-- r is the row divided by g, the content of its coefficients
pub record CutBy (g : ℕ) (row r : Row) : Type 0 where
  pub content : Content row.coefficients g
  pub positive : 1 ≤ g
  pub exact : (k : ℕ) → slice_index_or r.coefficients k (pos 0) *ℤ pos g ≡ slice_index_or row.coefficients k (pos 0)
  pub rounded : (rest : ℤ) × Floored row.constant (pos g) r.constant rest

-- a row has a cut exactly if it has a name
abbrev pub Cut : Row → Option Row → Type 0
Cut row None = Nameless row
Cut row (Some r) = (Nameless row → ⊥) × ((g : ℕ) × CutBy g row r)

-- where the row is not negative at whole values of the names, nor is its cut
abbrev pub Keeps : Row → Option Row → Type 0
Keeps row None = Unit {0}
Keeps row (Some r) = (v : Valuation) → v.denominator ≡ 1 → pos 0 ≤ℤ row_number v row → pos 0 ≤ℤ row_number v r
