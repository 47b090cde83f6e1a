-- No rules, and nothing, at every address.
use Rattle.std.specs.Prelude.{None}
use Rattle.facts.specs.Valuations.{Valuation}
use Rattle.theory.specs.Places.{Places}
use Rattle.theory.specs.Rules.{Book}

abbrev pub no_rules : Book
no_rules a = None

abbrev pub no_places : Places
no_places a = None

abbrev pub admits_all : Valuation → Type 0
admits_all v = Unit {0}
