use Rattle.std.proofs.Common.{rules}
use Rattle.theory.specs.Singles.{single_place}
use Rattle.theory.proofs.Singles.{opening_asked}
use Rattle.theory.proofs.single.SingleTheory.open_refusal.Goals as goal

pub returns : goal.returns
returns g c = opening_asked (single_place c.args.self.now) _ (search rules)
