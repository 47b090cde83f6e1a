use Rattle.std.proofs.Common.{ap, ◌∙◌, rules}
use Rattle.theory.specs.Places.{opened}
use Rattle.theory.specs.Singles.{single_place}
use Rattle.theory.proofs.Singles.{opening_refused, opening_taken, mapped_zero}
use Rattle.theory.proofs.single.SingleTheory.push_level.Goals as goal

pub returns-in_err-open_level : goal.returns-in_err-open_level
returns-in_err-open_level g c =
    let h = c.in_err-open_level.ensures in
    opening_refused c.args.self.now c.open_level.new.self h.2 c.from_residual.result (search rules) h.1

pub returns : goal.returns
returns g c =
    let h = c.in_ok-open_level.ensures in
    (opening_taken (single_place c.args.self.now) h.few, mapped_zero opened (single_place c.args.self.now) _ (ap single_place c.clear.ensures ∙ h.place))
