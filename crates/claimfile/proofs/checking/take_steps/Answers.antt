use Rattle.std.proofs.Common.{◌≡◌, [], ◌∷◌, ◌++◌, length, drop, Ok, Err, sym, ap, ◌∙◌, subst, rules}
use Rattle.claim.specs.Calls.{StepCall}
use Rattle.claim.specs.Counted.{place_of}
use Rattle.claim.specs.Derived.{Reached, state_of}
use Rattle.claim.specs.Histories.{listed}
use Rattle.claim.proofs.Extending.{reached_more}
use Rattle.claim.proofs.Fitness.{sent_fit}
use Rattle.claimfile.specs.Progress.{Running, SteppedThrough}
use Rattle.claimfile.specs.Records.{ReadAt}
use Rattle.claimfile.specs.Sending.{all_taken}
use Rattle.claimfile.specs.declared.record.Stage.{Stage}
use Rattle.claimfile.proofs.Advances.{at_end, step_taken, step_refused, unread_step}
use Rattle.claimfile.proofs.Calls.{mapped_err}
use Rattle.claimfile.proofs.checking.take_steps.Goals as goal

pub returns-in_err-record : goal.returns-in_err-record
returns-in_err-record g c ps ls start =
    let l = c.loop-record in
    let o = l.invariant.1 ps ls start in
    let told : c.from_residual.result ≡ Err c.in_err-record.field-0.0 = search rules in
    let read = subst (λ f. ReadAt Stage.Steps f.now l.reader.at c.place-place.result c.depth.result (Err c.in_err-record.field-0.0)) l.invariant.0 c.in_err-record.ensures.record in
    subst (λ r. SteppedThrough g.T.Theory.places g.T.Theory.rules c.args.reader.file.now ps ls c.args.reader.at r l.derivation) (sym told) (unread_step g.T.Theory.places g.T.Theory.rules c.args.reader.file.now ps ls c.args.reader.at l.reader.at l.derivation l.derivation o _ _ _ (c.place-place.ensures ∙ ap place_of c.counts.ensures) c.depth.ensures.value read)

pub returns-in_default : goal.returns-in_default
returns-in_default g c ps ls start =
    let l = c.loop-record in
    let none : drop l.reader.at c.args.reader.file.now ≡ [] = search rules in
    let o = l.invariant.1 ps ls start in
    subst (λ n. Running g.T.Theory.places g.T.Theory.rules c.args.reader.file.now ps ls c.args.reader.at n l.derivation) (at_end c.args.reader.file.now l.reader.at o.within none) o

pub loop-record-preserved : goal.loop-record-preserved
loop-record-preserved g c = (
  search rules,
  λ ps ls start.
      let l = c.loop-record in
      let o = l.invariant.1 ps ls start in
      let here : drop l.reader.at c.args.reader.file.now ≡ (c.in-Step.kind ∷ c.in-Step.body.now) ++ drop (length (c.in-Step.kind ∷ c.in-Step.body.now)) (drop l.reader.at c.args.reader.file.now) = search rules in
      let taken : c.step.result ≡ Ok tt = search rules in
      let stepped = c.step.ensures.call (sent_fit g.T.Theory.rules ps (length ls) o.steps (all_taken o.steps) _ o.taken o.reached.level o.reached.sent) in
      let after = reached_more g.T.Theory.places g.T.Theory.rules l.derivation c.step.new.self c.step_of.result c.step.result ps ls o.steps (all_taken o.steps) o.taken stepped o.reached in
      step_taken g.T.Theory.places g.T.Theory.rules c.args.reader.file.now ps ls c.args.reader.at l.reader.at l.derivation c.step.new.self o c.step_of.result _ _ c.step_of.ensures.bytes here c.step_of.ensures.fits c.next.new.self.at after.0 (search rules) (subst (λ r. Reached g.T.Theory.places g.T.Theory.rules c.step.new.self ps ls (o.steps ++ (c.step_of.result ∷ [])) (all_taken o.steps ++ (r ∷ [])) (o.taken ++ listed after.0)) taken after.1),
)

pub returns-in_err-map_err : goal.returns-in_err-map_err
returns-in_err-map_err g c ps ls start =
    let l = c.loop-record in
    let o = l.invariant.1 ps ls start in
    let here : drop l.reader.at c.args.reader.file.now ≡ (c.in-Step.kind ∷ c.in-Step.body.now) ++ drop (length (c.in-Step.kind ∷ c.in-Step.body.now)) (drop l.reader.at c.args.reader.file.now) = search rules in
    let fault = mapped_err c.step.result c.map_err.result c.in_err-map_err.field-0.0 _ (λ e. record { call = e; offset = l.reader.at }) c.map_err.ensures.cases (λ e r made. search rules) (search rules) in
    let told : c.from_residual-in_err-map_err.result ≡ Err c.in_err-map_err.field-0.0 = search rules in
    let stepped = c.step.ensures.call (sent_fit g.T.Theory.rules ps (length ls) o.steps (all_taken o.steps) _ o.taken o.reached.level o.reached.sent) in
    subst (λ r. SteppedThrough g.T.Theory.places g.T.Theory.rules c.args.reader.file.now ps ls c.args.reader.at r c.step.new.self) (sym (told ∙ ap Err fault.2)) (step_refused g.T.Theory.places g.T.Theory.rules c.args.reader.file.now ps ls c.args.reader.at l.reader.at l.derivation c.step.new.self o c.step_of.result _ _ c.step_of.ensures.bytes here c.step_of.ensures.fits fault.0 stepped.taken (subst (λ r. StepCall g.T.Theory.rules (place_of l.derivation.counts) c.step_of.result (state_of g.T.Theory.places l.derivation) r stepped.taken (state_of g.T.Theory.places c.step.new.self)) fault.1 stepped.call))
