-- Counts of what a claim has taken.
use Rattle.std.specs.Prelude.{◌≡◌, ℕ, ◌+◌, ◌<◌, ◌≤◌, Some, None, Ok, Err, Option, Result}
use Rattle.facts.specs.declared.refusal.Refusal.{Refusal}
use Rattle.claim.specs.Calls.{most_calls}
use Rattle.claim.specs.declared.counts.Counts.{Counts}
use Rattle.claim.specs.declared.step.Step.{Step}

abbrev pub place_of : Counts → ℕ
place_of c = c.literals + c.steps

abbrev pub NothingCounted : Counts → Type 0
NothingCounted c = (c.literals ≡ 0) × (c.steps ≡ 0) × (c.splits ≡ 0)

abbrev pub LiteralCounted : Counts → Counts → Type 0
LiteralCounted before after = (after.literals ≡ before.literals + 1) × (after.steps ≡ before.steps) × (after.splits ≡ before.splits)

abbrev pub StepCounted : ℕ → Counts → Counts → Type 0
StepCounted splits before after = (after.literals ≡ before.literals) × (after.steps ≡ before.steps + 1) × (after.splits ≡ before.splits + splits)

-- a step that was taken, if any
abbrev pub Counted : Option Step → Counts → Counts → Type 0
Counted None before after = after ≡ before
Counted (Some (Step.Infer a i)) before after = StepCounted 0 before after
Counted (Some (Step.Split n m)) before after = StepCounted 1 before after

-- the counts with one call more, unless no more are taken
abbrev pub CallCounted : (Counts → Counts → Type 0) → Counts → Result Counts Refusal → Type 0
CallCounted Taken before (Ok after) = place_of before < most_calls × Taken before after
CallCounted Taken before (Err r) = most_calls ≤ place_of before × (r ≡ Refusal.TooManyCalls)
