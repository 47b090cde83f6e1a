-- How a derivation ends.
use Rattle.std.specs.Prelude.{◌≡◌, ℕ, ◌+◌, List, [], ◌∷◌}
use Rattle.claim.specs.Derivations.{State, closed, working, by_branch}
use Rattle.claim.specs.declared.counts.Counts.{Counts}
use Rattle.claim.specs.declared.seal.Ending.{Ending}
use Rattle.claim.specs.declared.seal.Seal.{Seal}
use Rattle.claim.specs.declared.step.OpenSplit.{OpenSplit}

abbrev pub SealedWith : Counts → Seal → Type 0
SealedWith c s = s.counts ≡ c

-- the branches that are not begun, of all open splits
abbrev pub unbegun : List OpenSplit → ℕ
unbegun [] = 0
unbegun (s ∷ ss) = by_branch s.branch 2 1 0 + unbegun ss

-- a seal exactly where the derivation is closed, else the branch worked on and those not begun
abbrev pub Ended : State → Counts → Ending → Type 0
Ended closed c (Ending.Sealed s) = SealedWith c s
Ended closed c (Ending.Open n) = ⊥
Ended (working ps ss) c (Ending.Sealed s) = ⊥
Ended (working ps ss) c (Ending.Open n) = n ≡ 1 + unbegun ss
