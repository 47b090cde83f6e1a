use Rattle.std.proofs.Common.{◌≡◌, ◌*◌, ◌≤◌, length, reverse, take}
use Rattle.claim.specs.Endings.{unbegun}
use Rattle.claim.proofs.derivation.waiting.Given as goal

abbrev pub invariant-loop-split : goal.invariant-loop-split
invariant-loop-split l =
    (l.split-index ≤ length l.splits) × (l.total ≡ unbegun (reverse (take l.split-index l.splits))) × (l.total ≤ 2 * l.split-index)
