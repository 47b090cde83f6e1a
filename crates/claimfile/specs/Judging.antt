-- The verdict on a file: its records, the calls on a fresh claim, and what they come to.
use Rattle.std.specs.Prelude.{◌≡◌, ℕ, ◌+◌, ◌<◌, ◌≤◌, List, [], ◌∷◌, ◌++◌, length, Ok, Err, Result}
use Rattle.std.specs.List.{flat_map}
use Rattle.facts.specs.Literals.{LiteralTrue}
use Rattle.facts.specs.Valuations.{Valuation}
use Rattle.facts.specs.declared.fault.CallFault.{CallFault}
use Rattle.facts.specs.declared.fault.RecordFault.{RecordFault}
use Rattle.facts.specs.declared.literal.Literal.{Literal}
use Rattle.facts.specs.declared.refusal.Refusal.{Refusal}
use Rattle.theory.specs.Places.{Places}
use Rattle.theory.specs.Rules.{Book}
use Rattle.reading.specs.Converter.{Stores}
use Rattle.facts.specs.Faults.{because}
use Rattle.claim.specs.Calls.{fault_of}
use Rattle.claim.specs.Derivations.{State, closed, working}
use Rattle.claim.specs.Endings.{unbegun}
use Rattle.claim.specs.Histories.{LiteralsSent, StepsSent, AllLiteralsTrue, splits_in}
use Rattle.claim.specs.declared.seal.Seal.{Seal}
use Rattle.claim.specs.declared.sent.SentStep.{SentStep}
use Rattle.claim.specs.declared.step.Step.{Step}
use Rattle.claimfile.specs.Entries.{Entry, AllStepsFit, entry_bytes, step_bytes, begin_bytes}
use Rattle.claimfile.specs.Sending.{all_taken, Stated, FrontRefused, StepRefused}
use Rattle.claimfile.specs.declared.verdict.Unfinished.{Unfinished}
use Rattle.claimfile.specs.declared.verdict.Verdict.{Verdict}

-- the longest file
abbrev pub longest_file : ℕ
longest_file = 32_768

abbrev pub front_bytes : List Entry → List ℕ
front_bytes es = flat_map entry_bytes es

-- a file that has a begin
abbrev pub begun_bytes : List Entry → List SentStep → List ℕ
begun_bytes es ss = front_bytes es ++ (begin_bytes ++ flat_map step_bytes ss)

-- the literals that records state, all sent to a fresh claim and taken
pub record AllAssumed (book : Book) (es : List Entry) (ls : List Literal) (ps : Places) : Type 0 where
  pub stated : Stated es ls
  pub sent : LiteralsSent book ls (all_taken ls) ps ls

abbrev pub unfinished : ℕ → ℕ → ℕ → ℕ → Unfinished
unfinished l s x b = record { line = record { literals = l; steps = s; splits = x }; branches = b }

pub record CountedSeal (l s x : ℕ) (seal : Seal) : Type 0 where
  pub literals : seal.counts.literals ≡ l
  pub steps : seal.counts.steps ≡ s
  pub splits : seal.counts.splits ≡ x

-- the verdict where every record was taken, after so many literals, steps and splits
abbrev pub Concluded : State → ℕ → ℕ → ℕ → Verdict → Type 0
Concluded closed l s x (Verdict.Established seal) = CountedSeal l s x seal
Concluded closed l s x (Verdict.Open u) = ⊥
Concluded closed l s x (Verdict.Refused f) = ⊥
Concluded (working ps ss) l s x (Verdict.Established seal) = ⊥
Concluded (working ps ss) l s x (Verdict.Open u) = u ≡ unfinished l s x (1 + unbegun ss)
Concluded (working ps ss) l s x (Verdict.Refused f) = ⊥

abbrev pub refused_at : ℕ → CallFault → Verdict
refused_at offset f = Verdict.Refused (record { call = f; offset = offset })

-- what is refused is the verdict on its file
abbrev pub verdict_of : Result Verdict RecordFault → Verdict
verdict_of (Ok v) = v
verdict_of (Err f) = Verdict.Refused f

-- The verdict. A file is too long; or it has no begin, and is open; or all its records are taken
-- up to one that is refused, before the begin or after it; or all are taken to its end.
pub data Judged (book : Book) (file : List ℕ) : Verdict → Type 0 where
  too_long : longest_file < length file → Judged book file (refused_at 0 (fault_of (because Refusal.InputTooLong) 0 0 0))
  not_begun : length file ≤ longest_file → (es : List Entry) (ls : List Literal) (ps : Places) → file ≡ front_bytes es → AllAssumed book es ls ps → Judged book file (Verdict.Open (unfinished (length ls) 0 0 1))
  refused_before : length file ≤ longest_file → (es : List Entry) (ls : List Literal) (ps : Places) (rest : List ℕ) (f : CallFault) → file ≡ front_bytes es ++ rest → AllAssumed book es ls ps → FrontRefused book ps (length ls) rest f → Judged book file (refused_at (length (front_bytes es)) f)
  refused_after : length file ≤ longest_file → (es : List Entry) (ls : List Literal) (ps : Places) (ss : List SentStep) (st : State) (taken : List Step) (rest : List ℕ) (f : CallFault) → file ≡ begun_bytes es ss ++ rest → AllStepsFit ss → AllAssumed book es ls ps → StepsSent book ps (length ls) ss (all_taken ss) st taken → StepRefused book st (length ls + length taken) rest f → Judged book file (refused_at (length (begun_bytes es ss)) f)
  ended : length file ≤ longest_file → (es : List Entry) (ls : List Literal) (ps : Places) (ss : List SentStep) (st : State) (taken : List Step) (v : Verdict) → file ≡ begun_bytes es ss → AllStepsFit ss → AllAssumed book es ls ps → StepsSent book ps (length ls) ss (all_taken ss) st taken → Concluded st (length ls) (length taken) (splits_in taken) v → Judged book file v

-- ---- what a client reads

-- a record before the begin is true: its literal is, or the converter stores its count
abbrev pub EntryTrue : Valuation → Entry → Type 0
EntryTrue v (Entry.literal l) = LiteralTrue v l
EntryTrue v (Entry.reading s) = Stores v s.name s.count

abbrev pub AllEntriesTrue : Valuation → List Entry → Type 0
AllEntriesTrue v [] = Unit {0}
AllEntriesTrue v (e ∷ es) = EntryTrue v e × AllEntriesTrue v es

-- Established: the file states literals, and no valuation that is admitted makes them all true; so
-- there are no true strains with its readings and literals.
pub record Excluded (admits : Valuation → Type 0) (file : List ℕ) : Type 0 where
  pub entries : List Entry
  pub steps : List SentStep
  pub literals : List Literal
  pub bytes : file ≡ begun_bytes entries steps
  pub fit : AllStepsFit steps
  pub stated : Stated entries literals
  pub none_true : (v : Valuation) → admits v → AllLiteralsTrue v literals → ⊥
  pub no_strains : (v : Valuation) → admits v → AllEntriesTrue v entries → ⊥

abbrev pub EstablishedMeans : (Valuation → Type 0) → List ℕ → Verdict → Type 0
EstablishedMeans admits file (Verdict.Established seal) = Excluded admits file
EstablishedMeans admits file (Verdict.Open u) = Unit {0}
EstablishedMeans admits file (Verdict.Refused f) = Unit {0}
