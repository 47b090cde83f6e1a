-- The open splits that a stack stands for.
use Rattle.std.specs.Prelude.{List, reverse}
use Rattle.arrayvec.specs.ArrayVec.{ArrayVec}
use Rattle.claim.specs.declared.step.OpenSplit.{OpenSplit}

-- the newest first
abbrev pub stack_splits : ArrayVec OpenSplit → List OpenSplit
stack_splits t = reverse t.items
