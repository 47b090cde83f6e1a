-- A theory that stands at address 0 alone.
use Rattle.std.specs.Prelude.{ℕ, cond, Some, None, Option, ◌==◌}
use Rattle.theory.specs.Places.{Place, Places}
use Rattle.theory.specs.Rules.{Rules, Book}
use Rattle.theory.specs.Tables.{table_place}
use Rattle.theory.specs.declared.single.Single.{Single}

abbrev pub at_zero : {X : Type 0} → Option X → ℕ → Option X
at_zero x a = cond (a == 0) x None

abbrev pub alone : Rules → Book
alone r = at_zero (Some r)

abbrev pub single_place : {L : Type 0} → Single L → Place
single_place s = table_place s.table s.current

abbrev pub single_places : {L : Type 0} → Single L → Places
single_places s = at_zero (Some (single_place s))
