use Rattle.std.proofs.Common.{sym, subst}
use Rattle.examples.specs.Examples.{both}
use Rattle.examples.specs.Runs.{CountsTold}
use Rattle.examples.proofs.Counted.{told}
use Rattle.examples.proofs.counts.seal_counts.Goals as goal

pub returns : goal.returns
returns c =
    subst (CountsTold both c.args.literals.now c.args.steps.now) (sym c.counts_in.ensures) (told _ (λ v h. (tt, h)) both _ _ _ _ _ c.in_ok-transcript.ensures)
