use Rattle.examples.specs.Examples.{both, clipped, above_scale}
use Rattle.examples.proofs.Counted.{made_open}
use Rattle.examples.proofs.Open.{clipped_open}
use Rattle.examples.proofs.runs.run_clipped.Goals as goal

pub returns : goal.returns
returns c =
    made_open both clipped _ _ above_scale c.seal_counts.result c.seal_counts.ensures c.clipped_literals.ensures clipped_open
