use Rattle.std.proofs.Common.{arith}
use Rattle.std.proofs.lemmas.Int.{to_z-of_z}
use Rattle.linear.proofs.Products.{product_small, product_fits, sum_fits}
use Rattle.linear.proofs.sum.sum_number.Goals as goal

pub returns : goal.returns
returns c = grind (arith, to_z-of_z, product_small, product_fits, sum_fits)
