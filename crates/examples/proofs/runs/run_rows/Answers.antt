use Rattle.examples.specs.Examples.{both, crowded, by_rows}
use Rattle.examples.proofs.ByRows.{rows_run}
use Rattle.examples.proofs.Counted.{made_sealed}
use Rattle.examples.proofs.runs.run_rows.Goals as goal

pub returns : goal.returns
returns c =
    made_sealed both crowded _ by_rows _ 3 9 0 c.seal_counts.result c.seal_counts.ensures c.crowded_literals.ensures c.crowded_steps.ensures rows_run
