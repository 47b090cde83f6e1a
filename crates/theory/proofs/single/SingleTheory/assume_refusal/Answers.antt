use Rattle.std.proofs.Common.{rules}
use Rattle.theory.proofs.Singles.{not_kept, literal_asked}
use Rattle.theory.proofs.single.SingleTheory.assume_refusal.Goals as goal

pub returns-then-not-keeps : goal.returns-then-not-keeps
returns-then-not-keeps g c = not_kept g.L.Logic.rules _ _ (search rules)

pub returns : goal.returns
returns g c = literal_asked g.L.Logic.rules _ _ (search rules) _ (search rules)
