use Rattle.std.proofs.Common.{rules}
use Rattle.theory.specs.Singles.{single_place}
use Rattle.theory.proofs.Singles.{dropping_asked}
use Rattle.theory.proofs.single.SingleTheory.drop_refusal.Goals as goal

pub returns : goal.returns
returns g c = dropping_asked (single_place c.args.self.now) _ (search rules)
