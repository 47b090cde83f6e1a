use Rattle.std.proofs.Common.{refl, lit≤}
use Rattle.examples.specs.Examples.{n0, reading}
use Rattle.examples.proofs.ByBoth.{both_run}
use Rattle.examples.proofs.ByEquality.{equality_run}
use Rattle.examples.proofs.ByRows.{rows_run}
use Rattle.examples.proofs.Inferences.{cut_example, above_nought, at_least_nought}
use Rattle.examples.proofs.Open.{clipped_open, top_stored, past_top_stored}
use Rattle.examples.proofs.Readings.{by_rule, bad_byte}
use Rattle.examples.proofs.examples_hold.Goals as goal

infixr 5 ◌and◌
◌and◌ : {A B : Type 0} → A → B → A × B
a and b = (a, b)

pub returns : goal.returns
returns c =
    rows_run
    and equality_run
    and both_run
    and clipped_open
    and top_stored
    and past_top_stored
    and by_rule (reading 0 4094) n0 refl (lit≤ tt)
    and by_rule (reading 0 0) n0 refl (lit≤ tt)
    and by_rule (reading 0 4095) n0 refl (lit≤ tt)
    and bad_byte (reading 0 4096) 2 refl
    and cut_example
    and above_nought
    and at_least_nought
    and tt
