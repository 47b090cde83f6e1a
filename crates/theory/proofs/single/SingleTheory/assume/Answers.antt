use Rattle.std.proofs.Common.{refl, rules}
use Rattle.theory.proofs.Singles.{not_kept, literal_pushed}
use Rattle.theory.proofs.single.SingleTheory.assume.Goals as goal

pub returns-then-not-keeps : goal.returns-then-not-keeps
returns-then-not-keeps g c = (not_kept g.L.Logic.rules _ _ (search rules), refl)

pub returns : goal.returns
returns g c = literal_pushed g.L.Logic.rules c.args.self.now _ _ (search rules) _ c.push.ensures
