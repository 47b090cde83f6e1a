-- The calls on a claim: what each answers, and what stands afterwards.
use Rattle.std.specs.Prelude.{◌≡◌, ℕ, ◌<◌, ◌≤◌, ◌⊎◌, List, [], ◌∷◌, length, Some, None, Ok, Err, Option, Result}
use Rattle.facts.specs.Faults.{because, out_of_range}
use Rattle.facts.specs.Fields.{first_bad, literal_fields}
use Rattle.facts.specs.Literals.{LiteralChecked}
use Rattle.facts.specs.declared.fact.Comparison.{Comparison}
use Rattle.facts.specs.declared.fact.Fact.{Fact}
use Rattle.facts.specs.declared.fault.CallFault.{CallFault}
use Rattle.facts.specs.declared.fault.Cause.{Cause}
use Rattle.facts.specs.declared.literal.Literal.{Literal}
use Rattle.facts.specs.declared.name.Name.{Name}
use Rattle.facts.specs.declared.refusal.Refusal.{Refusal}
use Rattle.theory.specs.Places.{Place, Places}
use Rattle.theory.specs.Rules.{Book, literal_wanted, telling_wanted, LiteralAnswer, Took, Full, outcome_at}
use Rattle.theory.specs.declared.inference.Inference.{Inference}
use Rattle.theory.specs.declared.inference.Outcome.{Outcome}
use Rattle.claim.specs.Derivations.{State, closed, working, next, LeavesFact, RoomTold, told, all_dropped, changed_at, branch_from, most_splits}
use Rattle.claim.specs.Sent.{step_fields, step_address, StepChecked}
use Rattle.claim.specs.declared.sent.SentStep.{SentStep}
use Rattle.claim.specs.declared.step.Branch.{Branch}
use Rattle.claim.specs.declared.step.OpenSplit.{OpenSplit}
use Rattle.claim.specs.declared.step.Step.{Step}

-- how many literals and steps a claim takes together
abbrev pub most_calls : ℕ
most_calls = 50_000

abbrev pub Answer : Type 0
Answer = Result (Unit {0}) CallFault

abbrev pub fault_of : Cause → ℕ → ℕ → ℕ → CallFault
fault_of c address place depth = record { cause = c; address = address; place = place; depth = depth }

-- a refused call: its cause, the address it was sent to, the calls taken before it, the open splits
abbrev pub refused : Cause → ℕ → ℕ → ℕ → Answer
refused c address place depth = Err (fault_of c address place depth)

-- the answer, from why a call is refused, if it is
abbrev pub answer_of : Result (Unit {0}) Cause → ℕ → ℕ → ℕ → Answer
answer_of (Ok x) address place depth = Ok x
answer_of (Err c) address place depth = refused c address place depth

-- a literal sent to a claim that has taken so many: in the order of the checks
pub data LiteralCall (book : Book) (ps : Places) (place : ℕ) (l : Literal) : Answer → Places → Type 0 where
  bad_field : (b : ℕ) → first_bad (literal_fields l) ≡ Some b → LiteralCall book ps place l (refused (out_of_range b) 0 place 0) ps
  too_many : first_bad (literal_fields l) ≡ None → most_calls ≤ place → LiteralCall book ps place l (refused (because Refusal.TooManyCalls) 0 place 0) ps
  not_kept : (f : Fact) (e : Refusal) → LiteralChecked l (Ok f) → place < most_calls → LiteralAnswer ps (literal_wanted book f) (Some e) → LiteralCall book ps place l (refused (because e) 0 place 0) ps
  taken : (f : Fact) (after : Places) → LiteralChecked l (Ok f) → place < most_calls → LiteralAnswer ps (literal_wanted book f) None → Took ps (literal_wanted book f) after → LiteralCall book ps place l (Ok tt) after

-- a step sent to a derivation, where so many literals and steps were taken: its answer, the step
-- that was taken, and the state afterwards
pub data StepCall (book : Book) (place : ℕ) (s : SentStep) : State → Answer → Option Step → State → Type 0 where
  over : StepCall book place s closed (refused (because Refusal.AlreadyClosed) (step_address s) place 0) None closed
  bad_field : {ps : Places} {ss : List OpenSplit} (b : ℕ) → first_bad (step_fields s) ≡ Some b → StepCall book place s (working ps ss) (refused (out_of_range b) (step_address s) place (length ss)) None (working ps ss)
  too_many : {ps : Places} {ss : List OpenSplit} → first_bad (step_fields s) ≡ None → most_calls ≤ place → StepCall book place s (working ps ss) (refused (because Refusal.TooManyCalls) (step_address s) place (length ss)) None (working ps ss)
  cannot_infer : {ps : Places} {ss : List OpenSplit} (a : ℕ) (i : Inference) (c : Cause) → StepChecked s (Ok (Step.Infer a i)) → place < most_calls → outcome_at book ps a i ≡ Err c → StepCall book place s (working ps ss) (refused c a place (length ss)) None (working ps ss)
  cannot_tell : {ps : Places} {ss : List OpenSplit} (a : ℕ) (i : Inference) (n m : Name) → StepChecked s (Ok (Step.Infer a i)) → place < most_calls → outcome_at book ps a i ≡ Ok (Outcome.Equal n m) → Full ps (telling_wanted book (Comparison.Equal n m)) → StepCall book place s (working ps ss) (refused (because Refusal.TableFull) a place (length ss)) None (working ps ss)
  too_deep : {ps : Places} {ss : List OpenSplit} (n m : Name) → StepChecked s (Ok (Step.Split n m)) → place < most_calls → most_splits ≤ length ss → StepCall book place s (working ps ss) (refused (because Refusal.LevelLimit) 0 place (length ss)) None (working ps ss)
  cannot_split : {ps : Places} {ss : List OpenSplit} (n m : Name) → StepChecked s (Ok (Step.Split n m)) → place < most_calls → length ss < most_splits → Full ps (telling_wanted book (Comparison.Less n m)) ⊎ (Full ps (telling_wanted book (Comparison.Equal n m)) ⊎ Full ps (telling_wanted book (Comparison.Greater n m))) → StepCall book place s (working ps ss) (refused (because Refusal.TableFull) 0 place (length ss)) None (working ps ss)
  inferred : {ps : Places} {ss : List OpenSplit} (a : ℕ) (i : Inference) → StepChecked s (Ok (Step.Infer a i)) → place < most_calls → LeavesFact (outcome_at book ps a i) → StepCall book place s (working ps ss) (Ok tt) (Some (Step.Infer a i)) (working (changed_at a (outcome_at book ps a i) ps) ss)
  handed_on : {ps : Places} {ss : List OpenSplit} (a : ℕ) (i : Inference) (n m : Name) → StepChecked s (Ok (Step.Infer a i)) → place < most_calls → outcome_at book ps a i ≡ Ok (Outcome.Equal n m) → RoomTold book (Comparison.Equal n m) ps → StepCall book place s (working ps ss) (Ok tt) (Some (Step.Infer a i)) (working (told book (Comparison.Equal n m) ps) ss)
  finished : {ps : Places} {ss : List OpenSplit} (a : ℕ) (i : Inference) → StepChecked s (Ok (Step.Infer a i)) → place < most_calls → outcome_at book ps a i ≡ Ok Outcome.Contradiction → StepCall book place s (working ps ss) (Ok tt) (Some (Step.Infer a i)) (next book ss (all_dropped ps))
  split : {ps : Places} {ss : List OpenSplit} (n m : Name) → StepChecked s (Ok (Step.Split n m)) → place < most_calls → length ss < most_splits → RoomTold book (Comparison.Less n m) ps → RoomTold book (Comparison.Equal n m) ps → RoomTold book (Comparison.Greater n m) ps → StepCall book place s (working ps ss) (Ok tt) (Some (Step.Split n m)) (working (branch_from book (Comparison.Less n m) ps) (record { left = n; right = m; branch = Branch.First } ∷ ss))

-- ---- states that calls lead to

-- every address has so many levels above the first
abbrev pub Levelled : ℕ → Places → Type 0
Levelled n ps = (a : ℕ) (p : Place) → ps a ≡ Some p → length p.below ≡ n

-- there is room for the branches of each open split, from the state before the newest
abbrev pub Ready : Book → List OpenSplit → Places → Type 0
Ready book [] ps = Unit {0}
Ready book (s ∷ ss) ps = RoomTold book (Comparison.Equal s.left s.right) ps × RoomTold book (Comparison.Greater s.left s.right) ps × Ready book ss (all_dropped ps)

abbrev pub Fit : Book → State → Type 0
Fit book closed = Unit {0}
Fit book (working ps ss) = Levelled (length ss) ps × (length ss ≤ most_splits) × Ready book ss (all_dropped ps)
