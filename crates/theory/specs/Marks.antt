-- Where the levels of a table begin.
use Rattle.std.specs.Prelude.{◌≡◌, ℕ, Bool, true, ◌&&◌, List, [], ◌∷◌, nat_le}

-- each mark, the newest first, is at most the one before it, and the first at most n
abbrev pub in_order : List ℕ → ℕ → Bool
in_order [] n = true
in_order (m ∷ ms) n = nat_le m n && in_order ms m

abbrev pub Ordered : List ℕ → ℕ → Type 0
Ordered ms n = in_order ms n ≡ true
