-- What a rule needs before it applies.
use Rattle.std.specs.Prelude.{ℕ, List, length, Some, None, Ok, Err, Option, Result}
use Rattle.facts.specs.Faults.{because, cause_by}
use Rattle.facts.specs.declared.fact.Fact.{Fact}
use Rattle.facts.specs.declared.fault.Cause.{Cause}
use Rattle.facts.specs.declared.refusal.Refusal.{Refusal}
use Rattle.theory.specs.declared.inference.Outcome.{Outcome}

-- why a rule that asks for one of so many facts is refused
abbrev pub no_such_fact : ℕ → Cause
no_such_fact count = record { refusal = Refusal.NoSuchFact; detail = count; theory = 0 }

-- what follows from the current fact, if there is one
abbrev pub by_current : Option Fact → (Fact → Result Outcome Cause) → Result Outcome Cause
by_current None then = Err (because Refusal.NoCurrentFact)
by_current (Some f) then = then f

-- what follows from a fact, if there is one
abbrev pub by_fact : List Fact → Option Fact → (Fact → Result Outcome Cause) → Result Outcome Cause
by_fact fs None then = Err (no_such_fact (length fs))
by_fact fs (Some f) then = then f

-- a refusal carries the theory's number
abbrev pub numbered : ℕ → Result Outcome Cause → Result Outcome Cause
numbered number (Ok o) = Ok o
numbered number (Err c) = Err (cause_by number c)
