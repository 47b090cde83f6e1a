-- The greatest divisor that the sizes of all numbers of a list share.
use Rattle.std.specs.Prelude.{ℕ, List, ℤ, pos, slice_index_or, unsigned_abs}
use Rattle.linear.specs.Gcd.{Divides}

-- the size of the number at k, and 0 past the end
abbrev pub size_at : List ℤ → ℕ → ℕ
size_at zs k = unsigned_abs (slice_index_or zs k (pos 0))

-- g divides each size, and what divides each divides g
pub record Content (zs : List ℤ) (g : ℕ) : Type 0 where
  pub each : (k : ℕ) → Divides g (size_at zs k)
  pub most : (d : ℕ) → ((k : ℕ) → Divides d (size_at zs k)) → Divides d g
