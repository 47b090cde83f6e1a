use Rattle.std.proofs.Common.{sym, subst, rules}
use Rattle.theory.specs.Rules.{TellingAnswer, telling_wanted}
use Rattle.theory.specs.Singles.{alone, single_place, single_places}
use Rattle.theory.proofs.Singles.{telling_none, telling_asked}
use Rattle.theory.proofs.single.SingleTheory.tell_refusal.Goals as goal

pub returns-in_err-told : goal.returns-in_err-told
returns-in_err-told g c = subst (TellingAnswer (single_places c.args.self.now) (telling_wanted (alone g.L.Logic.rules) c.args.comparison)) (sym c.from_residual.ensures) (telling_none g.L.Logic.rules (single_place c.args.self.now) _ (search rules)).0

pub returns : goal.returns
returns g c = telling_asked g.L.Logic.rules (single_place c.args.self.now) _ c.in_ok-told.field-0 (search rules) _ (search rules)
