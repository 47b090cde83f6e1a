-- Division that rounds down.
use Rattle.std.specs.Prelude.{◌≡◌, ℤ, pos, ◌+ℤ◌, ◌*ℤ◌, ◌≤ℤ◌, ◌<ℤ◌}

-- a is q times b and a rest r, which is not negative and less than b
pub record Floored (a b q r : ℤ) : Type 0 where
  pub whole : a ≡ (q *ℤ b) +ℤ r
  pub low : pos 0 ≤ℤ r
  pub high : r <ℤ b
