-- How far the check of a file has come.
use Rattle.std.specs.Prelude.{◌≡◌, ℕ, ◌+◌, ◌≤◌, List, ◌++◌, length, take, drop, Some, None, Ok, Err, Option, Result}
use Rattle.std.specs.List.{flat_map}
use Rattle.facts.specs.declared.fault.RecordFault.{RecordFault}
use Rattle.facts.specs.declared.literal.Literal.{Literal}
use Rattle.theory.specs.Places.{Places}
use Rattle.theory.specs.Rules.{Book}
use Rattle.claim.specs.Calls.{Answer}
use Rattle.claim.specs.Derived.{Claimed, Reached, state_of}
use Rattle.claim.specs.declared.derivation.Derivation.{Derivation}
use Rattle.claim.specs.declared.opening.Claim.{Claim}
use Rattle.claim.specs.declared.sent.SentStep.{SentStep}
use Rattle.claim.specs.declared.step.Step.{Step}
use Rattle.claimfile.specs.Entries.{Entry, AllStepsFit, entry_bytes, step_bytes, begin_bytes}
use Rattle.claimfile.specs.Sending.{all_taken, States, Stated, EntryRefused, FrontRefused, StepRefused}
use Rattle.claimfile.specs.declared.reader.Reader.{Reader}

-- a record was sent to a claim that had taken all of some literals
abbrev pub EntrySent : {T : Type 0} → (T → Places) → Book → Entry → List Literal → Claim T → Answer → Claim T → Type 0
EntrySent places book e ls before (Ok x) after =
    (ms : List Literal) × States e ms × Claimed places book after (ls ++ ms) (all_taken (ls ++ ms)) (ls ++ ms)
EntrySent places book e ls before (Err f) after = EntryRefused book (places before.theory) (length ls) e f

-- the records up to an offset are literals and readings, and all were taken
pub record Opened {T : Type 0} (places : T → Places) (book : Book) (file : List ℕ) (offset : ℕ) (c : Claim T) : Type 0 where
  pub entries : List Entry
  pub literals : List Literal
  pub within : offset ≤ length file
  pub bytes : flat_map entry_bytes entries ≡ take offset file
  pub stated : Stated entries literals
  pub claimed : Claimed places book c literals (all_taken literals) literals

-- what came of all records before the begin, and where the steps begin
abbrev pub Fronted : {T : Type 0} → (T → Places) → Book → List ℕ → Result (Option Reader) RecordFault → Claim T → Type 0
Fronted places book file (Ok (Some r)) after =
    (r.file.now ≡ file) × ((m : ℕ) × (take r.at file ≡ take m file ++ begin_bytes) × Opened places book file m after)
Fronted places book file (Ok None) after = Opened places book file (length file) after
Fronted {T = T} places book file (Err f) after = (c : Claim T) × (o : Opened places book file f.offset c) × FrontRefused book (places c.theory) (length o.literals) (drop f.offset file) f.call

-- the records from a start to an offset are steps, and all were taken
pub record Running {T : Type 0} (places : T → Places) (book : Book) (file : List ℕ) (ps : Places) (literals : List Literal) (start offset : ℕ) (d : Derivation T) : Type 0 where
  pub steps : List SentStep
  pub taken : List Step
  pub fit : AllStepsFit steps
  pub within : offset ≤ length file
  pub bytes : take start file ++ flat_map step_bytes steps ≡ take offset file
  pub reached : Reached places book d ps literals steps (all_taken steps) taken

-- what came of all records after the begin
abbrev pub SteppedThrough : {T : Type 0} → (T → Places) → Book → List ℕ → Places → List Literal → ℕ → Result (Unit {0}) RecordFault → Derivation T → Type 0
SteppedThrough places book file ps ls start (Ok x) after = Running places book file ps ls start (length file) after
SteppedThrough {T = T} places book file ps ls start (Err f) after = (d : Derivation T) × (r : Running places book file ps ls start f.offset d) × StepRefused book (state_of places d) (length ls + length r.taken) (drop f.offset file) f.call
