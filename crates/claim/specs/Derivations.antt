-- What a derivation is, and what finishes one that was begun.
use Rattle.std.specs.Prelude.{◌≡◌, ℕ, suc, ◌<◌, cond, List, [], ◌∷◌, ◌++◌, length, ◌==◌, Ok, Err, Result}
use Rattle.std.specs.Option.{option_map}
use Rattle.facts.specs.declared.fact.Comparison.{Comparison}
use Rattle.facts.specs.declared.fault.Cause.{Cause}
use Rattle.facts.specs.declared.name.Name.{Name}
use Rattle.theory.specs.Places.{Places, opened, dropped}
use Rattle.theory.specs.Rules.{Book, telling_wanted, with_wanted, Room, outcome_at, changed_by}
use Rattle.theory.specs.declared.inference.Inference.{Inference}
use Rattle.theory.specs.declared.inference.Outcome.{Outcome}
use Rattle.claim.specs.declared.step.Branch.{Branch}
use Rattle.claim.specs.declared.step.OpenSplit.{OpenSplit}
use Rattle.claim.specs.declared.step.Step.{Step}

-- ---- states: what stands at every address

abbrev pub told : Book → Comparison → Places → Places
told book k ps a = with_wanted (telling_wanted book k a) (ps a)

abbrev pub all_opened : Places → Places
all_opened ps a = option_map opened (ps a)

abbrev pub all_dropped : Places → Places
all_dropped ps a = option_map dropped (ps a)

abbrev pub changed_at : ℕ → Result Outcome Cause → Places → Places
changed_at a r ps b = cond (b == a) (option_map (changed_by r) (ps b)) (ps b)

-- where a branch of a split begins: a level more, in which its comparison is told
abbrev pub branch_from : Book → Comparison → Places → Places
branch_from book k ps = told book k (all_opened ps)

-- every address that keeps something when told has room for it
abbrev pub RoomTold : Book → Comparison → Places → Type 0
RoomTold book k ps = Room ps (telling_wanted book k)

-- ---- derivations

-- an outcome that leaves a fact
abbrev pub LeavesFact : Result Outcome Cause → Type 0
LeavesFact (Ok (Outcome.Current f)) = Unit {0}
LeavesFact (Ok (Outcome.Pushed f)) = Unit {0}
LeavesFact (Ok (Outcome.Equal n m)) = ⊥
LeavesFact (Ok Outcome.Contradiction) = ⊥
LeavesFact (Err c) = ⊥

-- the most splits that are open at a time
abbrev pub most_splits : ℕ
most_splits = 8

-- a derivation from a state inside so many open splits, with its writing, within the limits of
-- facts and splits; opening a level adds no fact, so a split's tellings need room where it stands
pub data Derives (book : Book) : ℕ → Places → List Step → Type 0 where
  contradiction : {d : ℕ} {ps : Places} (a : ℕ) (i : Inference) → outcome_at book ps a i ≡ Ok Outcome.Contradiction → Derives book d ps (Step.Infer a i ∷ [])
  fact : {d : ℕ} {ps : Places} {w : List Step} (a : ℕ) (i : Inference) → LeavesFact (outcome_at book ps a i) → Derives book d (changed_at a (outcome_at book ps a i) ps) w → Derives book d ps (Step.Infer a i ∷ w)
  equality : {d : ℕ} {ps : Places} {w : List Step} (a : ℕ) (i : Inference) (n m : Name) → outcome_at book ps a i ≡ Ok (Outcome.Equal n m) → RoomTold book (Comparison.Equal n m) ps → Derives book d (told book (Comparison.Equal n m) ps) w → Derives book d ps (Step.Infer a i ∷ w)
  split : {d : ℕ} {ps : Places} {first second third : List Step} (n m : Name) → d < most_splits → RoomTold book (Comparison.Less n m) ps → RoomTold book (Comparison.Equal n m) ps → RoomTold book (Comparison.Greater n m) ps → Derives book (suc d) (branch_from book (Comparison.Less n m) ps) first → Derives book (suc d) (branch_from book (Comparison.Equal n m) ps) second → Derives book (suc d) (branch_from book (Comparison.Greater n m) ps) third → Derives book d ps (Step.Split n m ∷ (first ++ (second ++ third)))

-- ---- what is left to do

-- a writing in two parts
abbrev pub Then : (List Step → Type 0) → (List Step → Type 0) → List Step → Type 0
Then P Q w = (u : List Step) × (x : List Step) × (w ≡ u ++ x) × P u × Q x

-- the branches of an open split that are not begun, from the state before the split
abbrev pub Unbegun : Book → ℕ → Name → Name → Branch → Places → List Step → Type 0
Unbegun book d n m Branch.First ps w = Then (Derives book d (branch_from book (Comparison.Equal n m) ps)) (Derives book d (branch_from book (Comparison.Greater n m) ps)) w
Unbegun book d n m Branch.Second ps w = Derives book d (branch_from book (Comparison.Greater n m) ps) w
Unbegun book d n m Branch.Third ps w = w ≡ []

-- and so on through the open splits, the newest first, from the state before the newest
abbrev pub Waiting : Book → List OpenSplit → Places → List Step → Type 0
Waiting book [] ps w = w ≡ []
Waiting book (s ∷ ss) ps w = Then (Unbegun book (suc (length ss)) s.left s.right s.branch ps) (Waiting book ss (all_dropped ps)) w

-- the steps w finish every branch that is left: the one that is worked on, then those that wait
abbrev pub Finishes : Book → Places → List OpenSplit → List Step → Type 0
Finishes book ps ss w = Then (Derives book (length ss) ps) (Waiting book ss (all_dropped ps)) w

-- ---- what a derivation that was begun has come to

-- every branch is finished, or one is worked on, inside open splits, the newest first
pub data State : Type 0 where
  closed : State
  working : Places → List OpenSplit → State

-- how many splits are open
abbrev pub open_splits : State → ℕ
open_splits closed = 0
open_splits (working ps ss) = length ss

-- the steps w finish all that is left
abbrev pub Left : Book → State → List Step → Type 0
Left book closed w = w ≡ []
Left book (working ps ss) w = Finishes book ps ss w

abbrev pub by_branch {ℓ} : {X : Type ℓ} → Branch → X → X → X → X
by_branch Branch.First x y z = x
by_branch Branch.Second x y z = y
by_branch Branch.Third x y z = z

-- what is told in the branch of a split that is worked on
abbrev pub comparison_of : OpenSplit → Comparison
comparison_of s = by_branch s.branch (Comparison.Less s.left s.right) (Comparison.Equal s.left s.right) (Comparison.Greater s.left s.right)

abbrev pub in_branch : OpenSplit → Branch → OpenSplit
in_branch s b = record { left = s.left; right = s.right; branch = b }

-- where work goes on when a branch is finished, from the state before the newest split: with that
-- split's next branch, or, after its third, as when the branch around it is finished
abbrev pub next : Book → List OpenSplit → Places → State
next book [] ps = closed
next book (s ∷ ss) ps =
    by_branch s.branch
    (working (branch_from book (Comparison.Equal s.left s.right) ps) (in_branch s Branch.Second ∷ ss))
    (working (branch_from book (Comparison.Greater s.left s.right) ps) (in_branch s Branch.Third ∷ ss))
    (next book ss (all_dropped ps))
