use Rattle.std.proofs.Common.{arith, ◌-ℤ◌, pos, w64, to_z, of_z}
use Rattle.std.proofs.lemmas.Int.{to_z-of_z}
use Rattle.linear.specs.RowsMade.{row_made}
use Rattle.linear.proofs.sum.lower.Goals as goal

pub returns : goal.returns
returns c =
    row_made _ (to_z w64 (of_z w64 (to_z w64 (of_z w64 c.constant.result) -ℤ pos 1))) _ _ _ c.new.ensures (grind (arith, to_z-of_z)) c.coefficients.ensures
