use Rattle.claim.proofs.Replays.{replayed}
use Rattle.claim.proofs.run.replay.Goals as goal

pub returns : goal.returns
returns g c =
    let claimed = c.in_ok-taken.ensures c.open-claim.ensures.history in
    let begun = c.begin-derivation.ensures.history _ _ claimed.0 claimed.1 in
    let reached = c.in_ok-answers.ensures _ claimed.0 begun in
    replayed g.T.Theory.places g.T.Theory.admits g.T.Theory.rules g.met.T.Theory.sound c.send_literals.new.claim c.send_steps.new.derivation _ _ claimed.0 _ _ reached.0 _ claimed.1 reached.1 c.end.ensures
