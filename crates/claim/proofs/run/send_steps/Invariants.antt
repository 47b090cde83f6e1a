use Rattle.std.proofs.Common.{◌≤◌, List, [], length, take, vec_items}
use Rattle.facts.specs.declared.literal.Literal.{Literal}
use Rattle.theory.specs.Places.{Places}
use Rattle.claim.specs.Derived.{Reached}
use Rattle.claim.specs.declared.step.Step.{Step}
use Rattle.claim.proofs.run.send_steps.Given as goal

abbrev pub invariant-loop-step : goal.invariant-loop-step
invariant-loop-step g l =
    (l.step-index ≤ length l.steps)
    × ((ps : Places) (literals : List Literal) → Reached g.T.Theory.places g.T.Theory.rules l.initial.derivation ps literals [] [] [] → (taken : List Step) × Reached g.T.Theory.places g.T.Theory.rules l.derivation ps literals (take l.step-index l.steps) (vec_items l.answers) taken)
