use Rattle.theory.specs.Singles.{single_place}
use Rattle.theory.proofs.Singles.{telling_pushed, telling_none}
use Rattle.theory.proofs.single.SingleTheory.tell.Goals as goal

pub returns-in-Some : goal.returns-in-Some
returns-in-Some g c = telling_pushed g.L.Logic.rules c.args.self.now _ _ _ c.in-Some.ensures _ c.push.ensures

pub returns-in-None : goal.returns-in-None
returns-in-None g c = telling_none g.L.Logic.rules (single_place c.args.self.now) _ c.in-None.ensures
