use Rattle.std.proofs.Common.{◌≡◌, IsErrAnd, refl, ap, subst}
use Rattle.facts.specs.Faults.{because}
use Rattle.claim.specs.Calls.{LiteralCall}
use Rattle.claim.proofs.Literals.{literal_refused}
use Rattle.claim.proofs.opening.Claim.take.Goals as goal

pub returns-in_err-fact-clause-call : goal.returns-in_err-fact-clause-call
returns-in_err-fact-clause-call g c =
    literal_refused g.T.Theory.rules (g.T.Theory.places c.args.self.now.theory) _ _ c.args.literal _ _ c.from_residual.ensures.1 refl (LiteralCall.bad_field _ c.in_err-fact.ensures)

pub returns-in_err-counts-clause-call : goal.returns-in_err-counts-clause-call
returns-in_err-counts-clause-call g c =
    let many = c.in_err-counts.ensures in
    literal_refused g.T.Theory.rules (g.T.Theory.places c.args.self.now.theory) _ _ c.args.literal _ _ (subst (λ e. IsErrAnd c.from_residual-in_err-counts.result (λ x. x ≡ because e)) many.1 c.from_residual-in_err-counts.ensures.1) refl (LiteralCall.too_many c.in_ok-fact.ensures.0 many.0)

pub returns-in_err-assume-clause-call : goal.returns-in_err-assume-clause-call
returns-in_err-assume-clause-call g c =
    let h = c.in_err-assume.ensures in
    literal_refused g.T.Theory.rules (g.T.Theory.places c.args.self.now.theory) _ _ c.args.literal _ _ c.from_residual-in_err-assume.ensures.1 (ap g.T.Theory.places h.1) (LiteralCall.not_kept _ _ c.in_ok-fact.ensures c.in_ok-counts.ensures.0 h.0)

pub returns-clause-call : goal.returns-clause-call
returns-clause-call g c = LiteralCall.taken _ _ c.in_ok-fact.ensures c.in_ok-counts.ensures.0 c.in_ok-assume.ensures.0 c.in_ok-assume.ensures.1
