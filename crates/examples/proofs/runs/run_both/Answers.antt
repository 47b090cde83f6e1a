use Rattle.examples.specs.Examples.{both, squeezed, by_both}
use Rattle.examples.proofs.ByBoth.{both_run}
use Rattle.examples.proofs.Counted.{made_sealed}
use Rattle.examples.proofs.runs.run_both.Goals as goal

pub returns : goal.returns
returns c =
    made_sealed both squeezed _ by_both _ 3 6 0 c.seal_counts.result c.seal_counts.ensures c.squeezed_literals.ensures c.squeezed_steps.ensures both_run
