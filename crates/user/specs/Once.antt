-- What comes of one literal and one step where no address has rules.
use Rattle.std.specs.Prelude.{◌≡◌, ℕ, ◌⊎◌, Ok, Err, Result}
use Rattle.facts.specs.declared.name.Name.{Name}
use Rattle.claim.specs.Sent.{StepChecked}
use Rattle.claim.specs.declared.sent.SentStep.{SentStep}
use Rattle.claim.specs.declared.step.Step.{Step}

-- a split whose names are in range
abbrev pub IsSplit : SentStep → Type 0
IsSplit s = (n : Name) × (m : Name) × StepChecked s (Ok (Step.Split n m))

-- three branches are left after a split, and one after any other step
abbrev pub BranchesLeft : SentStep → ℕ → Type 0
BranchesLeft s left = (IsSplit s × (left ≡ 3)) ⊎ ((IsSplit s → ⊥) × (left ≡ 1))

-- no seal, but so many branches
abbrev pub LeftOpen : {X : Type 0} → SentStep → Result X ℕ → Type 0
LeftOpen s (Ok x) = ⊥
LeftOpen s (Err left) = BranchesLeft s left
