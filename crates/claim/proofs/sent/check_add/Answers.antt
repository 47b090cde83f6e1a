use Rattle.std.proofs.Common.{refl, rules}
use Rattle.claim.proofs.sent.check_add.Goals as goal

pub returns : goal.returns
returns c = (search rules, (c.in_ok-factor.factor, refl, search rules))
