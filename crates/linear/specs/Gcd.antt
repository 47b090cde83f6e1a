-- Divisors, and the greatest of those that two numbers share.
use Rattle.std.specs.Prelude.{◌≡◌, ℕ, ◌*◌}

-- n is a multiple of d; so 0 divides only 0, and each number divides 0
abbrev pub Divides : ℕ → ℕ → Type 0
Divides d n = (k : ℕ) × (n ≡ k * d)

-- g divides a and b, and what divides both divides g
pub record Greatest (a b g : ℕ) : Type 0 where
  pub left : Divides g a
  pub right : Divides g b
  pub most : (d : ℕ) → Divides d a → Divides d b → Divides d g
