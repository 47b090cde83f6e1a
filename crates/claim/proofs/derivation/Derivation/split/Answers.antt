use Rattle.std.proofs.Common.{◌<◌, length, Err, refl, ap, ◌∙◌, subst, arith}
use Rattle.std.proofs.lemmas.Bool.Decides.{nat_tests}
use Rattle.std.proofs.lemmas.List.{length-reverse}
use Rattle.facts.specs.Faults.{because}
use Rattle.claim.specs.Calls.{StepCall, Fit}
use Rattle.claim.specs.Stacks.{stack_splits}
use Rattle.claim.specs.declared.step.Step.{Step}
use Rattle.claim.proofs.Moves.{working_is}
use Rattle.claim.proofs.Stepping.{is_working, moved_to, not_moved}
use Rattle.claim.proofs.derivation.Derivation.split.Goals as goal

pub returns-then-is_full : goal.returns-then-is_full
returns-then-is_full g c is_open fit =
    let d = c.args.self.now in
    let long = length-reverse d.stack.items in
    not_moved g.T.Theory.places g.T.Theory.rules d is_open d (Step.Split c.args.left c.args.right) _ (Err c.into.result) c.into.ensures refl
    (λ s checked few. StepCall.too_deep c.args.left c.args.right checked few (grind (arith, nat_tests)))

pub returns-in-Some : goal.returns-in-Some
returns-in-Some g c is_open fit =
    let d = c.args.self.now in
    let long = length-reverse d.stack.items in
    let h = c.in-Some.ensures in
    let fits = c.is_full.ensures.fits in
    not_moved g.T.Theory.places g.T.Theory.rules d is_open d (Step.Split c.args.left c.args.right) _ (Err c.into-in-Some.result) (c.into-in-Some.ensures ∙ ap because h.0) refl
    (λ s checked few. StepCall.cannot_split c.args.left c.args.right checked few (grind (arith, nat_tests)) h.1)

pub returns : goal.returns
returns g c is_open fit =
    let d = c.args.self.now in
    let works = subst (Fit g.T.Theory.rules) (is_working g.T.Theory.places g.T.Theory.rules d is_open) fit in
    let long = length-reverse d.stack.items in
    let fits = c.is_full.ensures.fits in
    let shallow : length (stack_splits d.stack) < 8 = grind (arith, nat_tests) in
    let room = c.in_default.ensures in
    let begun = c.begin_branch.ensures.begun works.0 shallow room.0 in
    moved_to g.T.Theory.places g.T.Theory.rules d is_open c.begin_branch.new.self (Step.Split c.args.left c.args.right) _ c.begin_branch.ensures.counts
    (working_is g.T.Theory.places c.begin_branch.new.self _ _ (c.begin_branch.ensures.closed ∙ is_open) begun.0 begun.1)
    (λ s checked few. StepCall.split c.args.left c.args.right checked few shallow room.0 room.1 room.2)
