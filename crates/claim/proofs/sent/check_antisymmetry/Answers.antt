use Rattle.std.proofs.Common.{refl, rules}
use Rattle.claim.proofs.sent.check_antisymmetry.Goals as goal

pub returns : goal.returns
returns c = (search rules, (c.in_ok-first.first, c.in_ok-second.second, refl, search rules, search rules))
