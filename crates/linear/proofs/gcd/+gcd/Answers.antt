use Rattle.std.proofs.Common.{rules}
use Rattle.linear.specs.Divisors.{greatest_of_rest}
use Rattle.linear.proofs.gcd.+gcd.Goals as goal

pub returns-else-b-eq0 : goal.returns-else-b-eq0
returns-else-b-eq0 t c = search (rules, greatest_of_rest)
