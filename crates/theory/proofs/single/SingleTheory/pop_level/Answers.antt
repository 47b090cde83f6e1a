use Rattle.std.proofs.Common.{ap, ◌∙◌, rules}
use Rattle.theory.specs.Places.{dropped}
use Rattle.theory.specs.Singles.{single_place}
use Rattle.theory.proofs.Singles.{dropping_refused, dropping_taken, mapped_zero}
use Rattle.theory.proofs.single.SingleTheory.pop_level.Goals as goal

pub returns-in_err-drop_level : goal.returns-in_err-drop_level
returns-in_err-drop_level g c =
    let h = c.in_err-drop_level.ensures in
    dropping_refused c.args.self.now c.drop_level.new.self h.2 c.from_residual.result (search rules) h.1

pub returns : goal.returns
returns g c =
    let h = c.in_ok-drop_level.ensures in
    (dropping_taken (single_place c.args.self.now) h.some, mapped_zero dropped (single_place c.args.self.now) _ (ap single_place c.clear.ensures ∙ h.place))
