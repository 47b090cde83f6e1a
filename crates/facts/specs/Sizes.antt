-- How large the numbers of a row, and of a literal as it is sent, may be.
use Rattle.std.specs.Prelude.{ℕ, ◌≤◌, List, ℤ, pos, slice_index_or, unsigned_abs}

-- the largest size of a constant or a coefficient in a row
abbrev pub row_limit : ℕ
row_limit = 1_000_000_000_000

-- and in a row literal as it is sent
abbrev pub sent_limit : ℕ
sent_limit = 1_000_000_000

-- z is at most `limit` in size, whatever its sign
abbrev pub Sized : ℕ → ℤ → Type 0
Sized limit z = unsigned_abs z ≤ limit

abbrev pub AllSized : ℕ → List ℤ → Type 0
AllSized limit zs = (k : ℕ) → Sized limit (slice_index_or zs k (pos 0))
