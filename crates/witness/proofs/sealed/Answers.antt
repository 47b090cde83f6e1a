use Rattle.witness.proofs.sealed.Goals as goal

pub returns-in-Sealed : goal.returns-in-Sealed
returns-in-Sealed g c same =
    let run = c.in_ok-transcript.ensures in
    record { answers = _; places = run.places; taken = run.literals; sent = run.literals_sent; none_true = run.no_false_seal _ c.in-Sealed.is }
