-- A rest is below its divisor.
use Rattle.second.proofs.fact.+gcd.Given as goal

abbrev pub decreases-gcd : goal.decreases-gcd
decreases-gcd l = l.b
