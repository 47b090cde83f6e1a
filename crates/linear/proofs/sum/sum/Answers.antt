use Rattle.std.proofs.Common.{arith, w64, to_z, of_z}
use Rattle.std.proofs.lemmas.Int.{to_z-of_z}
use Rattle.linear.specs.RowsMade.{row_made}
use Rattle.linear.proofs.sum.sum.Goals as goal

pub returns : goal.returns
returns c =
    row_made _ (to_z w64 (of_z w64 c.sum_number-constant.result)) _ _ _ c.new.ensures (grind (arith, to_z-of_z)) c.sum_coefficients.ensures
