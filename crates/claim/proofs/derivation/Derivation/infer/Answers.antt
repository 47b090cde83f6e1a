use Rattle.std.proofs.Common.{◌≡◌, Some, None, Ok, IsErrAnd, sym, refl, ap, ◌∙◌, subst}
use mathlib.Core.Path.{fun_ext}
use Rattle.facts.specs.Faults.{because}
use Rattle.facts.specs.declared.fact.Comparison.{Comparison}
use Rattle.theory.specs.Rules.{outcome_at, telling_wanted, TellingAnswer, Took, Keeps}
use Rattle.theory.proofs.Pairs.{telling_room}
use Rattle.claim.specs.Calls.{StepCall, Fit}
use Rattle.claim.specs.Derivations.{working, next, all_dropped, changed_at}
use Rattle.claim.specs.Stacks.{stack_splits}
use Rattle.claim.specs.declared.derivation.Derivation.{Derivation}
use Rattle.claim.specs.declared.step.Step.{Step}
use Rattle.claim.proofs.Moves.{working_is}
use Rattle.claim.proofs.Stepping.{is_working, same_derivation, moved_to, not_moved, leaves_fact}
use Rattle.claim.proofs.Tellings.{refused_full}
use Rattle.claim.proofs.derivation.Derivation.infer.Goals as goal

pub returns-in_err-infer : goal.returns-in_err-infer
returns-in_err-infer g c is_open fit =
    let d = c.args.self.now in
    let ps = g.T.Theory.places d.theory in
    let h = c.in_err-infer.ensures in
    not_moved g.T.Theory.places g.T.Theory.rules d is_open _ (Step.Infer c.args.address c.args.inference) _ _ c.from_residual.ensures.1 (same_derivation g.T.Theory.places g.T.Theory.rules d is_open _ h.stays)
    (λ s checked few. StepCall.cannot_infer c.args.address c.args.inference _ checked few (ap (λ a. outcome_at g.T.Theory.rules ps a c.args.inference) (sym c.from.ensures) ∙ sym h.outcome))

pub returns-in_err-tell-in-Equal : goal.returns-in_err-tell-in-Equal
returns-in_err-tell-in-Equal g c is_open fit =
    let d = c.args.self.now in
    let ps = g.T.Theory.places d.theory in
    let n = c.in-Equal.left in
    let m = c.in-Equal.right in
    let h = c.in_ok-infer.ensures in
    let stays = subst (λ o. Keeps o d.theory c.infer.new.self) c.in-Equal.is h.stays in
    let told = c.in_err-tell-in-Equal.ensures in
    let w = telling_wanted g.T.Theory.rules (Comparison.Equal n m) in
    let full = refused_full ps w _ (subst (λ t. TellingAnswer (g.T.Theory.places t) w (Some c.in_err-tell-in-Equal.field-0.0)) stays told.0) in
    not_moved g.T.Theory.places g.T.Theory.rules d is_open _ (Step.Infer c.args.address c.args.inference) _ _
    (subst (λ e. IsErrAnd c.from_residual-in_err-tell-in-Equal.result (λ x. x ≡ because e)) full.1 c.from_residual-in_err-tell-in-Equal.ensures.1)
    (same_derivation g.T.Theory.places g.T.Theory.rules d is_open _ (told.1 ∙ stays))
    (λ s checked few. StepCall.cannot_tell c.args.address c.args.inference n m checked few (ap (λ a. outcome_at g.T.Theory.rules ps a c.args.inference) (sym c.from.ensures) ∙ sym h.outcome ∙ ap Ok c.in-Equal.is) full.0)

pub returns-in-Current : goal.returns-in-Current
returns-in-Current g c is_open fit =
    let d = c.args.self.now in
    let ps = g.T.Theory.places d.theory in
    let h = c.in_ok-infer.ensures in
    let outcome = h.outcome ∙ ap (λ a. outcome_at g.T.Theory.rules ps a c.args.inference) c.from.ensures in
    let after : Derivation g.row.T.Denot = record { theory = c.infer.new.self; stack = d.stack; closed = d.closed; counts = d.counts } in
    moved_to g.T.Theory.places g.T.Theory.rules d is_open after (Step.Infer c.args.address c.args.inference) _ refl
    (working_is g.T.Theory.places after _ _ is_open (fun_ext h.after ∙ ap (λ a. changed_at a (Ok c.in_ok-infer.field-0) ps) c.from.ensures ∙ ap (λ r. changed_at c.args.address r ps) outcome) refl)
    (λ s checked few. StepCall.inferred c.args.address c.args.inference checked few (leaves_fact _ _ outcome c.in-Current.is))

pub returns-in_ok-tell-in-Equal : goal.returns-in_ok-tell-in-Equal
returns-in_ok-tell-in-Equal g c is_open fit =
    let d = c.args.self.now in
    let ps = g.T.Theory.places d.theory in
    let n = c.in-Equal.left in
    let m = c.in-Equal.right in
    let h = c.in_ok-infer.ensures in
    let stays = subst (λ o. Keeps o d.theory c.infer.new.self) c.in-Equal.is h.stays in
    let w = telling_wanted g.T.Theory.rules (Comparison.Equal n m) in
    let told = subst (λ t. TellingAnswer (g.T.Theory.places t) w None × Took (g.T.Theory.places t) w (g.T.Theory.places c.tell.new.self)) stays c.in_ok-tell-in-Equal.ensures in
    let after : Derivation g.row.T.Denot = record { theory = c.tell.new.self; stack = d.stack; closed = d.closed; counts = d.counts } in
    moved_to g.T.Theory.places g.T.Theory.rules d is_open after (Step.Infer c.args.address c.args.inference) _ refl
    (working_is g.T.Theory.places after _ _ is_open (fun_ext told.1) refl)
    (λ s checked few. StepCall.handed_on c.args.address c.args.inference n m checked few (ap (λ a. outcome_at g.T.Theory.rules ps a c.args.inference) (sym c.from.ensures) ∙ sym h.outcome ∙ ap Ok c.in-Equal.is) (telling_room _ _ told.0))

pub returns-in-Contradiction : goal.returns-in-Contradiction
returns-in-Contradiction g c is_open fit =
    let d = c.args.self.now in
    let ps = g.T.Theory.places d.theory in
    let h = c.in_ok-infer.ensures in
    let stays = subst (λ o. Keeps o d.theory c.infer.new.self) c.in-Contradiction.is h.stays in
    let works = subst (Fit g.T.Theory.rules) (is_working g.T.Theory.places g.T.Theory.rules d is_open) fit in
    let moved = c.finish_branch.ensures.state is_open (subst (λ t. Fit g.T.Theory.rules (working (g.T.Theory.places t) (stack_splits d.stack))) (sym stays) works) in
    moved_to g.T.Theory.places g.T.Theory.rules d is_open _ (Step.Infer c.args.address c.args.inference) _ c.finish_branch.ensures.counts
    (moved ∙ ap (λ t. next g.T.Theory.rules (stack_splits d.stack) (all_dropped (g.T.Theory.places t))) stays)
    (λ s checked few. StepCall.finished c.args.address c.args.inference checked few (ap (λ a. outcome_at g.T.Theory.rules ps a c.args.inference) (sym c.from.ensures) ∙ sym h.outcome ∙ ap Ok c.in-Contradiction.is))
