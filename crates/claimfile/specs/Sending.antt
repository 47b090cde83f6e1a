-- Records sent to a claim: the literals that each states, and which call refuses one.
use Rattle.std.specs.Prelude.{◌≡◌, ℕ, ◌+◌, List, [], ◌∷◌, ◌++◌, map, Ok, Err, Option}
use Rattle.facts.specs.declared.fault.CallFault.{CallFault}
use Rattle.facts.specs.declared.fault.Cause.{Cause}
use Rattle.facts.specs.declared.literal.Literal.{Literal}
use Rattle.facts.specs.declared.refusal.Refusal.{Refusal}
use Rattle.theory.specs.Places.{Places}
use Rattle.theory.specs.Rules.{Book}
use Rattle.reading.specs.Bounds.{bound_literal, bounds_list}
use Rattle.reading.specs.Converter.{ReadingChecked}
use Rattle.reading.specs.declared.bound.Bounds.{Bounds}
use Rattle.reading.specs.declared.count.SentReading.{SentReading}
use Rattle.facts.specs.Faults.{because}
use Rattle.claim.specs.Calls.{Answer, LiteralCall, StepCall, fault_of}
use Rattle.claim.specs.Derivations.{State, open_splits}
use Rattle.claim.specs.declared.sent.SentStep.{SentStep}
use Rattle.claim.specs.declared.step.Step.{Step}
use Rattle.claimfile.specs.Entries.{Entry, LiteralFits, StepFits, entry_bytes, step_bytes}
use Rattle.claimfile.specs.Records.{Unread}
use Rattle.claimfile.specs.declared.record.Stage.{Stage}

-- the answers of calls that are all taken
abbrev pub all_taken : {X : Type 0} → List X → List Answer
all_taken xs = map (λ _. Ok tt) xs

-- the literals that a record states: itself, or those of a reading in the order of its rule
abbrev pub States : Entry → List Literal → Type 0
States (Entry.literal l) ms = LiteralFits l × (ms ≡ l ∷ [])
States (Entry.reading s) ms = (b : Bounds) × ReadingChecked s (Ok b) × (ms ≡ map bound_literal (bounds_list b))

-- the literals that records state one after the other
pub data Stated : List Entry → List Literal → Type 0 where
  none : Stated [] []
  more : {es : List Entry} {ls : List Literal} (e : Entry) (ms : List Literal) → Stated es ls → States e ms → Stated (es ++ (e ∷ [])) (ls ++ ms)

-- of literals sent one after the other one is refused, and those before it are taken
pub data RefusedAmong (book : Book) : Places → ℕ → List Literal → CallFault → Type 0 where
  here : {ps : Places} {place : ℕ} {l : Literal} {ls : List Literal} {f : CallFault} (after : Places) → LiteralCall book ps place l (Err f) after → RefusedAmong book ps place (l ∷ ls) f
  later : {ps : Places} {place : ℕ} {l : Literal} {ls : List Literal} {f : CallFault} (after : Places) → LiteralCall book ps place l (Ok tt) after → RefusedAmong book after (place + 1) ls f → RefusedAmong book ps place (l ∷ ls) f

-- a record before the begin is refused after so many calls: a reading by its fields, or a literal
-- that it states
pub data EntryRefused (book : Book) (ps : Places) (place : ℕ) : Entry → CallFault → Type 0 where
  field : (s : SentReading) (c : Cause) → ReadingChecked s (Err c) → EntryRefused book ps place (Entry.reading s) (fault_of c 0 place 0)
  sent : (e : Entry) (ms : List Literal) (f : CallFault) → States e ms → RefusedAmong book ps place ms f → EntryRefused book ps place e f

-- what is left of a file begins with a record that is refused before the begin
pub data FrontRefused (book : Book) (ps : Places) (place : ℕ) : List ℕ → CallFault → Type 0 where
  unread : {rest : List ℕ} (r : Refusal) → Unread Stage.Literals rest r → FrontRefused book ps place rest (fault_of (because r) 0 place 0)
  entry : (rest : List ℕ) (e : Entry) (f : CallFault) → EntryRefused book ps place e f → FrontRefused book ps place (entry_bytes e ++ rest) f

-- and after it
pub data StepRefused (book : Book) (st : State) (place : ℕ) : List ℕ → CallFault → Type 0 where
  unread : {rest : List ℕ} (r : Refusal) → Unread Stage.Steps rest r → StepRefused book st place rest (fault_of (because r) 0 place (open_splits st))
  step : (rest : List ℕ) (s : SentStep) (f : CallFault) (t : Option Step) (after : State) → StepFits s → StepCall book place s st (Err f) t after → StepRefused book st place (step_bytes s ++ rest) f
