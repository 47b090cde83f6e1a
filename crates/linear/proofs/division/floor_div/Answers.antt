use Rattle.std.proofs.Common.{arith, rules}
use Rattle.std.proofs.lemmas.Int.{to_z-of_z}
use Rattle.linear.specs.Floors.{floored}
use Rattle.linear.proofs.division.floor_div.Goals as goal

pub returns : goal.returns
returns c = floored _ _ _ _ (search rules) (grind (arith, to_z-of_z)) (grind (arith, to_z-of_z))
