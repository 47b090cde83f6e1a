use Rattle.std.proofs.Common.{rules}
use Rattle.facts.specs.Sizes.{row_limit}
use Rattle.facts.proofs.Sizes.{all_from_sized}
use Rattle.facts.proofs.row.Row.new.Goals as goal

pub returns-else-fits : goal.returns-else-fits
returns-else-fits c small all = let every = all_from_sized row_limit c.args.coefficients all in search rules
