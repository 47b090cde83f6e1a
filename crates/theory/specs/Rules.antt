-- What a theory does at each address, and what its calls answer and leave.
use Rattle.std.specs.Prelude.{◌≡◌, ℕ, ◌<◌, ◌≤◌, Bool, cond, List, [], ◌∷◌, length, IfSome, IfOk, Some, None, Ok, Err, Option, Result, ◌==◌, nat_le}
use Rattle.std.specs.Option.{option_map}
use Rattle.facts.specs.Faults.{because, cause_by}
use Rattle.facts.specs.Valuations.{Valuation, True, Compared}
use Rattle.facts.specs.declared.fact.Comparison.{Comparison}
use Rattle.facts.specs.declared.fact.Fact.{Fact}
use Rattle.facts.specs.declared.fault.Cause.{Cause}
use Rattle.facts.specs.declared.refusal.Refusal.{Refusal}
use Rattle.theory.specs.Places.{Place, Places, add, with_current, most_facts, most_below}
use Rattle.theory.specs.declared.inference.Inference.{Inference}
use Rattle.theory.specs.declared.inference.Outcome.{Outcome}

-- the rules at one address: the theory's number; which literals it keeps; which fact, if any, it
-- keeps when it is told how two names compare; and what an inference comes to, or why it is refused,
-- from the facts and the current fact alone
pub record Rules : Type 0 where
  pub number : ℕ
  pub keeps : Fact → Bool
  pub told : Comparison → Option Fact
  pub outcome : Inference → List Fact → Option Fact → Result Outcome Cause

-- nothing, or rules, at each address
abbrev pub Book : Type 0
Book = ℕ → Option Rules

-- ---- soundness

abbrev pub AllTrue : Valuation → List Fact → Type 0
AllTrue v [] = Unit {0}
AllTrue v (f ∷ fs) = True v f × AllTrue v fs

abbrev pub OutcomeTrue : Valuation → Outcome → Type 0
OutcomeTrue v (Outcome.Current f) = True v f
OutcomeTrue v (Outcome.Pushed f) = True v f
OutcomeTrue v (Outcome.Equal n m) = Compared v (Comparison.Equal n m)
OutcomeTrue v Outcome.Contradiction = ⊥

-- What every theory shows of its rules. In an admitted valuation that makes the facts and the
-- current fact true, what an inference comes to is true, so a contradiction comes only where there
-- is no such valuation; and a fact that is kept on telling is true wherever what was told is.
pub record Sound (admits : Valuation → Type 0) (r : Rules) : Type 0 where
  pub infers : (v : Valuation) → admits v → (i : Inference) (fs : List Fact) (current : Option Fact) → AllTrue v fs → IfSome current (True v) → IfOk (r.outcome i fs current) (OutcomeTrue v)
  pub tells : (v : Valuation) (k : Comparison) → Compared v k → IfSome (r.told k) (True v)

abbrev pub AllSound : (Valuation → Type 0) → Book → Type 0
AllSound admits book = (a : ℕ) → IfSome (book a) (Sound admits)

-- ---- what an address takes of a literal or of a telling

abbrev pub Wanted : Type 0
Wanted = ℕ → Option Fact

abbrev pub kept_by : Fact → Option Rules → Option Fact
kept_by f None = None
kept_by f (Some r) = cond (r.keeps f) (Some f) None

abbrev pub literal_wanted : Book → Fact → Wanted
literal_wanted book f a = kept_by f (book a)

abbrev pub told_by : Comparison → Option Rules → Option Fact
told_by k None = None
told_by k (Some r) = r.told k

abbrev pub telling_wanted : Book → Comparison → Wanted
telling_wanted book k a = told_by k (book a)

-- no address takes anything; some address does
abbrev pub Unwanted : Wanted → Type 0
Unwanted w = (a : ℕ) → w a ≡ None

abbrev pub WantedSomewhere : Wanted → Type 0
WantedSomewhere w = (a : ℕ) × (f : Fact) × (w a ≡ Some f)

-- every address that takes something has room for it; some such address would hold a 65th fact
abbrev pub Room : Places → Wanted → Type 0
Room ps w = (a : ℕ) (p : Place) (f : Fact) → ps a ≡ Some p → w a ≡ Some f → length p.facts < most_facts

abbrev pub Full : Places → Wanted → Type 0
Full ps w = (a : ℕ) × (p : Place) × (f : Fact) × (ps a ≡ Some p) × (w a ≡ Some f) × (most_facts ≤ length p.facts)

-- ---- the questions: a literal's refusal, a telling's, or none

pub data LiteralAnswer (ps : Places) (w : Wanted) : Option Refusal → Type 0 where
  taken : WantedSomewhere w → Room ps w → LiteralAnswer ps w None
  unkept : Unwanted w → LiteralAnswer ps w (Some Refusal.LiteralNotKept)
  full : Full ps w → LiteralAnswer ps w (Some Refusal.TableFull)

pub data TellingAnswer (ps : Places) (w : Wanted) : Option Refusal → Type 0 where
  taken : Room ps w → TellingAnswer ps w None
  full : Full ps w → TellingAnswer ps w (Some Refusal.TableFull)

-- a level can be opened unless some address has nine, and dropped unless some has one
pub data OpeningAnswer (ps : Places) : Option Refusal → Type 0 where
  taken : ((a : ℕ) (p : Place) → ps a ≡ Some p → length p.below < most_below) → OpeningAnswer ps None
  limit : (a : ℕ) (p : Place) → ps a ≡ Some p → most_below ≤ length p.below → OpeningAnswer ps (Some Refusal.LevelLimit)

pub data DroppingAnswer (ps : Places) : Option Refusal → Type 0 where
  taken : ((a : ℕ) (p : Place) → ps a ≡ Some p → 0 < length p.below) → DroppingAnswer ps None
  limit : (a : ℕ) (p : Place) → ps a ≡ Some p → length p.below ≡ 0 → DroppingAnswer ps (Some Refusal.LevelLimit)

-- ---- what stands afterwards

-- every address takes what it wants
abbrev pub with_wanted : Option Fact → Option Place → Option Place
with_wanted None p = p
with_wanted (Some f) p = option_map (add f) p

abbrev pub Took : Places → Wanted → Places → Type 0
Took before w after = (a : ℕ) → after a ≡ with_wanted (w a) (before a)

-- a call that can be refused: its answer, and then either all is as it was or this was done
abbrev pub Answered : {S : Type 0} → (Option Refusal → Type 0) → S → S → Type 0 → Result (Unit {0}) Refusal → Type 0
Answered Answer before after Done (Ok x) = Answer None × Done
Answered Answer before after Done (Err e) = Answer (Some e) × (after ≡ before)

-- ---- an inference

abbrev pub nothing_here : Cause
nothing_here = because Refusal.NothingAtAddress

abbrev pub no_room : ℕ → Cause
no_room number = cause_by number (because Refusal.TableFull)

-- a push at a full table is refused
abbrev pub unless_full : ℕ → List Fact → Outcome → Result Outcome Cause
unless_full number fs (Outcome.Pushed f) = cond (nat_le most_facts (length fs)) (Err (no_room number)) (Ok (Outcome.Pushed f))
unless_full number fs (Outcome.Current f) = Ok (Outcome.Current f)
unless_full number fs (Outcome.Equal n m) = Ok (Outcome.Equal n m)
unless_full number fs Outcome.Contradiction = Ok Outcome.Contradiction

abbrev pub within_room : ℕ → List Fact → Result Outcome Cause → Result Outcome Cause
within_room number fs (Ok o) = unless_full number fs o
within_room number fs (Err c) = Err c

-- what an inference comes to at a place under rules
abbrev pub outcome_by : Option Rules → Option Place → Inference → Result Outcome Cause
outcome_by None p i = Err nothing_here
outcome_by (Some r) None i = Err nothing_here
outcome_by (Some r) (Some p) i = within_room r.number p.facts (r.outcome i p.facts p.current)

abbrev pub outcome_at : Book → Places → ℕ → Inference → Result Outcome Cause
outcome_at book ps a i = outcome_by (book a) (ps a) i

-- what an outcome changes at its address
abbrev pub changed : Outcome → Place → Place
changed (Outcome.Current f) p = with_current f p
changed (Outcome.Pushed f) p = add f p
changed (Outcome.Equal n m) p = p
changed Outcome.Contradiction p = p

-- and a refusal nothing
abbrev pub changed_by : Result Outcome Cause → Place → Place
changed_by (Ok o) p = changed o p
changed_by (Err c) p = p

-- and at no other
abbrev pub ChangedAt : ℕ → Result Outcome Cause → Places → Places → Type 0
ChangedAt a r before after = (b : ℕ) → after b ≡ cond (b == a) (option_map (changed_by r) (before b)) (before b)

-- an outcome that changes nothing
abbrev pub Keeps : {S : Type 0} → Outcome → S → S → Type 0
Keeps (Outcome.Current f) before after = Unit {0}
Keeps (Outcome.Pushed f) before after = Unit {0}
Keeps (Outcome.Equal n m) before after = after ≡ before
Keeps Outcome.Contradiction before after = after ≡ before

-- nor does a refusal
abbrev pub Stays : {S : Type 0} → Result Outcome Cause → S → S → Type 0
Stays (Ok o) before after = Keeps o before after
Stays (Err c) before after = after ≡ before
