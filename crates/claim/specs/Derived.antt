-- What a derivation stands for.
use Rattle.std.specs.Prelude.{◌≡◌, ◌<◌, cond, ◌⊎◌, List, ◌∷◌, length, Some, None, Ok, Err, OnErr, Option, Result}
use Rattle.facts.specs.declared.fault.Cause.{Cause}
use Rattle.facts.specs.declared.name.Name.{Name}
use Rattle.facts.specs.declared.refusal.Refusal.{Refusal}
use Rattle.facts.specs.declared.fact.Comparison.{Comparison}
use Rattle.theory.specs.Rules.{Book, Full, telling_wanted}
use Rattle.claim.specs.Calls.{Answer, StepCall, answer_of, most_calls, Levelled}
use Rattle.claim.specs.Counted.{place_of, Counted}
use Rattle.theory.specs.Places.{Places}
use Rattle.claim.specs.Derivations.{State, closed, working, open_splits, RoomTold, branch_from, comparison_of}
use Rattle.claim.specs.Histories.{LiteralsSent, StepsSent, splits_in}
use Rattle.claim.specs.Sent.{StepChecked, step_address}
use Rattle.claim.specs.Stacks.{stack_splits}
use Rattle.claim.specs.declared.opening.Claim.{Claim}
use Rattle.facts.specs.declared.literal.Literal.{Literal}
use Rattle.claim.specs.declared.derivation.Derivation.{Derivation}
use Rattle.claim.specs.declared.sent.SentStep.{SentStep}
use Rattle.claim.specs.declared.step.OpenSplit.{OpenSplit}
use Rattle.claim.specs.declared.step.Step.{Step}

abbrev pub state_of : {T : Type 0} → (T → Places) → Derivation T → State
state_of places d = cond d.closed closed (working (places d.theory) (stack_splits d.stack))

-- a branch of a split was begun
abbrev pub BranchBegun : {T : Type 0} → (T → Places) → Book → OpenSplit → Derivation T → Derivation T → Type 0
BranchBegun places book s before after =
    (places after.theory ≡ branch_from book (comparison_of s) (places before.theory))
    × (stack_splits after.stack ≡ s ∷ stack_splits before.stack)

-- the answer to a step, from why it is refused, if it is
abbrev pub answer_at : {T : Type 0} → (T → Places) → Derivation T → SentStep → Result (Unit {0}) Cause → Answer
answer_at places d s r = answer_of r (step_address s) (place_of d.counts) (open_splits (state_of places d))

-- the step, if it is not refused
abbrev pub unless_refused : Result (Unit {0}) Cause → Step → Option Step
unless_refused (Ok x) t = Some t
unless_refused (Err c) t = None

-- a step that is not counted yet: a call's, where calls are left
pub record Moved {T : Type 0} (places : T → Places) (book : Book) (t : Step) (r : Result (Unit {0}) Cause) (before after : Derivation T) : Type 0 where
  pub call : (s : SentStep) → StepChecked s (Ok t) → place_of before.counts < most_calls → StepCall book (place_of before.counts) s (state_of places before) (answer_at places before s r) (unless_refused r t) (state_of places after)
  pub counts : after.counts ≡ before.counts
  pub same : OnErr r (after ≡ before)

-- a refused call leaves all as it was
abbrev pub SameUnlessTaken : {T : Type 0} → Option Step → Derivation T → Derivation T → Type 0
SameUnlessTaken None before after = after ≡ before
SameUnlessTaken (Some t) before after = Unit {0}

-- a step sent to a derivation
pub record Stepped {T : Type 0} (places : T → Places) (book : Book) (s : SentStep) (r : Answer) (before after : Derivation T) : Type 0 where
  pub taken : Option Step
  pub call : StepCall book (place_of before.counts) s (state_of places before) r taken (state_of places after)
  pub counted : Counted taken before.counts after.counts
  pub same : SameUnlessTaken taken before after

-- whether there is room for all three tellings of a split
abbrev pub SplitAnswer : Book → Places → Name → Name → Option Refusal → Type 0
SplitAnswer book ps n m None = RoomTold book (Comparison.Less n m) ps × RoomTold book (Comparison.Equal n m) ps × RoomTold book (Comparison.Greater n m) ps
SplitAnswer book ps n m (Some r) = (r ≡ Refusal.TableFull) × (Full ps (telling_wanted book (Comparison.Less n m)) ⊎ (Full ps (telling_wanted book (Comparison.Equal n m)) ⊎ Full ps (telling_wanted book (Comparison.Greater n m))))

-- ---- a claim and a derivation after a history of calls

pub record Claimed {T : Type 0} (places : T → Places) (book : Book) (c : Claim T) (ls : List Literal) (rs : List Answer) (taken : List Literal) : Type 0 where
  pub sent : LiteralsSent book ls rs (places c.theory) taken
  pub counted_literals : c.counts.literals ≡ length taken
  pub counted_steps : c.counts.steps ≡ 0
  pub counted_splits : c.counts.splits ≡ 0

pub record Reached {T : Type 0} (places : T → Places) (book : Book) (d : Derivation T) (ps : Places) (literals : List Literal) (ss : List SentStep) (rs : List Answer) (taken : List Step) : Type 0 where
  pub sent : StepsSent book ps (length literals) ss rs (state_of places d) taken
  pub level : Levelled 0 ps
  pub counted_literals : d.counts.literals ≡ length literals
  pub counted_steps : d.counts.steps ≡ length taken
  pub counted_splits : d.counts.splits ≡ splits_in taken
