use Rattle.std.proofs.Common.{Err}
use Rattle.claim.proofs.Stepping.{stepped_over, stepped_bad, stepped_many}
use Rattle.claim.proofs.derivation.Derivation.take.Goals as goal

pub returns-then-self-clause-call : goal.returns-then-self-clause-call
returns-then-self-clause-call g c fit =
    stepped_over g.T.Theory.places g.T.Theory.rules c.args.self.now c.args.step c.if-self.true (Err c.into.result) c.into.ensures

pub returns-in_err-step-clause-call : goal.returns-in_err-step-clause-call
returns-in_err-step-clause-call g c fit =
    stepped_bad g.T.Theory.places g.T.Theory.rules c.args.self.now c.args.step c.if-self.false _ _ c.from_residual.ensures.1 c.in_err-step.ensures

pub returns-in_err-counts-clause-call : goal.returns-in_err-counts-clause-call
returns-in_err-counts-clause-call g c fit =
    stepped_many g.T.Theory.places g.T.Theory.rules c.args.self.now c.args.step c.if-self.false _ _ c.from_residual-in_err-counts.ensures.1 c.in_ok-step.ensures.0 c.in_err-counts.ensures.0 c.in_err-counts.ensures.1
