-- Two theories side by side.
use Rattle.std.specs.Prelude.{ℕ, ◌-◌, ◌/◌, ◌%◌, cond, Option, ◌==◌}

-- even addresses are the left one's, odd ones the right one's
abbrev pub beside : {X : Type 0} → (ℕ → Option X) → (ℕ → Option X) → ℕ → Option X
beside left right a = cond (a % 2 == 0) (left (a / 2)) (right ((a - 1) / 2))
