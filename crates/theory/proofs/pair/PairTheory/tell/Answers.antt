use Rattle.theory.proofs.Pairs.{both_told}
use Rattle.theory.proofs.pair.PairTheory.tell.Goals as goal

pub returns : goal.returns
returns g c =
    let answer = c.in_default.ensures in
    (answer, both_told g.L.Theory.places g.R.Theory.places _ _ _ _ g.L.Theory.rules g.R.Theory.rules c.args.comparison _ _ answer c.tell.ensures c.tell-2.ensures)
