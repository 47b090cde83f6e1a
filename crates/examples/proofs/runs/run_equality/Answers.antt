use Rattle.examples.specs.Examples.{both, congruent, by_congruence}
use Rattle.examples.proofs.ByEquality.{equality_run}
use Rattle.examples.proofs.Counted.{made_sealed}
use Rattle.examples.proofs.runs.run_equality.Goals as goal

pub returns : goal.returns
returns c =
    made_sealed both congruent _ by_congruence _ 4 5 0 c.seal_counts.result c.seal_counts.ensures c.congruent_literals.ensures c.congruent_steps.ensures equality_run
