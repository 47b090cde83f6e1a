use Rattle.theory.specs.Places.{dropped}
use Rattle.theory.proofs.Pairs.{both_dropped}
use Rattle.theory.proofs.pair.PairTheory.pop_level.Goals as goal

pub returns : goal.returns
returns g c =
    let answer = c.in_default.ensures in
    (answer, both_dropped g.L.Theory.places g.R.Theory.places _ _ _ _ _ _ dropped answer c.pop_level.ensures c.pop_level-2.ensures)
