use Rattle.theory.specs.Places.{opened}
use Rattle.theory.proofs.Pairs.{both_opened}
use Rattle.theory.proofs.pair.PairTheory.push_level.Goals as goal

pub returns : goal.returns
returns g c =
    let answer = c.in_default.ensures in
    (answer, both_opened g.L.Theory.places g.R.Theory.places _ _ _ _ _ _ opened answer c.push_level.ensures c.push_level-2.ensures)
