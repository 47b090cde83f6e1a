use Rattle.user.proofs.Unsealed.{LeftBy, ended}
use Rattle.user.proofs.once.Goals as goal
use Rattle.std.proofs.Common.{subst}

pub returns-in-Sealed : goal.returns-in-Sealed
returns-in-Sealed c =
    subst (LeftBy c.args.step) c.in-Sealed.is
    (ended _ c.args.step _ _ _ _ _ _ c.end.result c.open-claim.ensures.counts c.literal.ensures.after c.begin-derivation.ensures.counts c.begin-derivation.ensures.state c.step.ensures.call c.end.ensures)

pub returns-in-Open : goal.returns-in-Open
returns-in-Open c =
    subst (LeftBy c.args.step) c.in-Open.is
    (ended _ c.args.step _ _ _ _ _ _ c.end.result c.open-claim.ensures.counts c.literal.ensures.after c.begin-derivation.ensures.counts c.begin-derivation.ensures.state c.step.ensures.call c.end.ensures)
