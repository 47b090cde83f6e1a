use Rattle.std.proofs.Common.{◌≡◌, ◌≤◌, length, Ok, Err, sym, ap, subst, rules}
use Rattle.facts.specs.declared.refusal.Refusal.{Refusal}
use Rattle.facts.specs.Faults.{because}
use Rattle.claim.specs.Calls.{fault_of}
use Rattle.claimfile.specs.Judging.{Judged, longest_file, refused_at, verdict_of}
use Rattle.claimfile.specs.Progress.{Fronted}
use Rattle.claimfile.specs.Sending.{all_taken}
use Rattle.claimfile.specs.declared.verdict.Verdict.{Verdict}
use Rattle.claimfile.proofs.Judgements.{opened_none, judged_open, judged_before, stepped, judged_after, judged_ended, established}
use Rattle.claimfile.proofs.checking.judge.Goals as goal

pub returns-then-file-gt-LONGEST_FILE-clause-verdict : goal.returns-then-file-gt-LONGEST_FILE-clause-verdict
returns-then-file-gt-LONGEST_FILE-clause-verdict g c =
    let told : c.unaddressed-call.result ≡ fault_of (because Refusal.InputTooLong) 0 0 0 = search rules in
    subst (λ f. Judged g.T.Theory.rules c.args.file.now (refused_at 0 f)) (sym told) (Judged.too_long c.if-file-gt-LONGEST_FILE.true)

pub returns-in_err-steps-clause-verdict : goal.returns-in_err-steps-clause-verdict
returns-in_err-steps-clause-verdict g c =
    let few : length c.args.file.now ≤ longest_file = c.if-file-gt-LONGEST_FILE.false in
    let start = opened_none g.T.Theory.places g.T.Theory.rules c.args.file.now few c.open-claim.result c.open-claim.ensures.history in
    let told : c.from_residual.result ≡ Err c.in_err-steps.field-0.0 = search rules in
    subst (λ r. Judged g.T.Theory.rules c.args.file.now (verdict_of r)) (sym told) (judged_before g.T.Theory.places g.T.Theory.rules c.args.file.now few c.take_front.new.claim c.in_err-steps.field-0.0 (c.in_err-steps.ensures start))

pub returns-in_default-clause-verdict : goal.returns-in_default-clause-verdict
returns-in_default-clause-verdict g c =
    let few : length c.args.file.now ≤ longest_file = c.if-file-gt-LONGEST_FILE.false in
    let start = opened_none g.T.Theory.places g.T.Theory.rules c.args.file.now few c.open-claim.result c.open-claim.ensures.history in
    let o = subst (λ b. Fronted g.T.Theory.places g.T.Theory.rules c.args.file.now (Ok b) c.take_front.new.claim) c.in_default.is (c.in_ok-steps.ensures start) in
    subst (λ u. Judged g.T.Theory.rules c.args.file.now (Verdict.Open u)) (sym c.unfinished.ensures) (judged_open g.T.Theory.places g.T.Theory.rules c.args.file.now few c.take_front.new.claim _ _ _ o (ap (λ k. k.literals) (sym c.counts.ensures)) (ap (λ k. k.steps) (sym c.counts.ensures)) (ap (λ k. k.splits) (sym c.counts.ensures)))

pub returns-in_err-take_steps-clause-verdict : goal.returns-in_err-take_steps-clause-verdict
returns-in_err-take_steps-clause-verdict g c =
    let few : length c.args.file.now ≤ longest_file = c.if-file-gt-LONGEST_FILE.false in
    let start = opened_none g.T.Theory.places g.T.Theory.rules c.args.file.now few c.open-claim.result c.open-claim.ensures.history in
    let front = subst (λ b. Fronted g.T.Theory.places g.T.Theory.rules c.args.file.now (Ok b) c.take_front.new.claim) c.in-Some.is (c.in_ok-steps.ensures start) in
    let o = front.1.2 in
    let begun = c.begin-derivation.ensures.history o.literals (all_taken o.literals) o.literals o.claimed in
    let through = stepped g.T.Theory.places g.T.Theory.rules c.args.file.now few c.take_front.new.claim front.1.0 c.in-Some.steps.at o front.1.1 c.in-Some.steps.file.now c.begin-derivation.result c.take_steps.new.derivation (Err c.in_err-take_steps.field-0.0) front.0 c.in-Some.steps.inside begun c.in_err-take_steps.ensures in
    let told : c.from_residual-in_err-take_steps.result ≡ Err c.in_err-take_steps.field-0.0 = search rules in
    subst (λ r. Judged g.T.Theory.rules c.args.file.now (verdict_of r)) (sym told) (judged_after g.T.Theory.places g.T.Theory.rules c.args.file.now few c.take_front.new.claim front.1.0 c.in-Some.steps.at o front.1.1 c.take_steps.new.derivation c.in_err-take_steps.field-0.0 through)

pub returns : goal.returns
returns g c =
    let few : length c.args.file.now ≤ longest_file = c.if-file-gt-LONGEST_FILE.false in
    let start = opened_none g.T.Theory.places g.T.Theory.rules c.args.file.now few c.open-claim.result c.open-claim.ensures.history in
    let front = subst (λ b. Fronted g.T.Theory.places g.T.Theory.rules c.args.file.now (Ok b) c.take_front.new.claim) c.in-Some.is (c.in_ok-steps.ensures start) in
    let o = front.1.2 in
    let begun = c.begin-derivation.ensures.history o.literals (all_taken o.literals) o.literals o.claimed in
    let last = stepped g.T.Theory.places g.T.Theory.rules c.args.file.now few c.take_front.new.claim front.1.0 c.in-Some.steps.at o front.1.1 c.in-Some.steps.file.now c.begin-derivation.result c.take_steps.new.derivation (Ok c.in_ok-take_steps.field-0) front.0 c.in-Some.steps.inside begun c.in_ok-take_steps.ensures in
    record {
      verdict = judged_ended g.T.Theory.places g.T.Theory.rules c.args.file.now few c.take_front.new.claim front.1.0 c.in-Some.steps.at o front.1.1 c.take_steps.new.derivation last c.conclude.result c.conclude.ensures;
      established = established g.T.Theory.places g.T.Theory.rules c.args.file.now few c.take_front.new.claim front.1.0 c.in-Some.steps.at o front.1.1 c.take_steps.new.derivation last c.conclude.result c.conclude.ensures g.T.Theory.admits g.met.T.Theory.sound;
    }
