use Rattle.std.proofs.Common.{length, rules}
use Rattle.claim.specs.Calls.{Fit}
use Rattle.claim.specs.Derived.{state_of, Stepped}
use Rattle.claim.proofs.Extending.{reached_more}
use Rattle.claim.proofs.Fitness.{sent_fit}
use Rattle.claim.proofs.derivation.Derivation.step.Goals as goal

pub returns-clause-history : goal.returns-clause-history
returns-clause-history g c ps literals ss rs taken h =
    let d = c.args.self.now in
    let call : Fit g.T.Theory.rules (state_of g.T.Theory.places d) → Stepped g.T.Theory.places g.T.Theory.rules c.args.step c.map_err.result d c.take.new.self = search rules in
    reached_more g.T.Theory.places g.T.Theory.rules d c.take.new.self c.args.step c.map_err.result ps literals ss rs taken (call (sent_fit g.T.Theory.rules ps (length literals) ss rs _ taken h.level h.sent)) h
