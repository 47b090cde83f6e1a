use Rattle.theory.proofs.Pairs.{both_assumed}
use Rattle.theory.proofs.pair.PairTheory.assume.Goals as goal

pub returns : goal.returns
returns g c =
    let answer = c.in_default.ensures in
    (answer, both_assumed g.L.Theory.places g.R.Theory.places _ _ _ _ g.L.Theory.rules g.R.Theory.rules c.args.fact.now _ _ answer c.assume.ensures c.assume-2.ensures)
