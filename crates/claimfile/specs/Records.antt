-- Records as they are read: what stands at the front of what is left of a file.
use Rattle.std.specs.Prelude.{◌≡◌, ℕ, ◌<◌, ◌≤◌, List, [], ◌∷◌, ◌+◌, ◌++◌, length, drop, Some, None, Ok, Err, Option, Result, ◌≢◌}
use Rattle.facts.specs.declared.fault.RecordFault.{RecordFault}
use Rattle.facts.specs.declared.refusal.Refusal.{Refusal}
use Rattle.facts.specs.Faults.{because}
use Rattle.claim.specs.Calls.{fault_of}
use Rattle.claimfile.specs.Kinds.{shape_of, front, later}
use Rattle.claimfile.specs.declared.record.Record.{Record}
use Rattle.claimfile.specs.declared.record.Shape.{Shape}
use Rattle.claimfile.specs.declared.record.Stage.{Stage}

-- bytes that do not begin with a record that belongs to a stage, and why
pub data Unread (stage : Stage) : List ℕ → Refusal → Type 0 where
  unknown_kind : {k : ℕ} {rest : List ℕ} → shape_of k ≡ None → Unread stage (k ∷ rest) Refusal.UnknownKind
  cut_short : {k : ℕ} {rest : List ℕ} (s : Shape) → shape_of k ≡ Some s → length rest < s.length → Unread stage (k ∷ rest) Refusal.BodyCutShort
  wrong_stage : {k : ℕ} {rest : List ℕ} (s : Shape) → shape_of k ≡ Some s → s.length ≤ length rest → (s.stage ≢ stage) → Unread stage (k ∷ rest) Refusal.WrongStage

abbrev pub record_bytes : Record → List ℕ
record_bytes (Record.Literal k body) = k ∷ body.now
record_bytes (Record.Reading body) = 75 ∷ body.now
record_bytes Record.Begin = 66 ∷ []
record_bytes (Record.Step k body) = k ∷ body.now

-- a record belongs to a stage, and its body is as long as its kind says
abbrev pub Formed : Stage → Record → Type 0
Formed stage (Record.Literal k body) =
    (stage ≡ Stage.Literals)
    × (shape_of k ≡ Some (front (length body.now)))
    × (k ≢ 75)
    × (k ≢ 66)
Formed stage (Record.Reading body) = (stage ≡ Stage.Literals) × (length body.now ≡ 3)
Formed stage Record.Begin = stage ≡ Stage.Literals
Formed stage (Record.Step k body) = (stage ≡ Stage.Steps) × (shape_of k ≡ Some (later (length body.now)))

abbrev pub Read : Stage → List ℕ → Result (Option Record) Refusal → Type 0
Read stage bytes (Ok None) = bytes ≡ []
Read stage bytes (Ok (Some r)) = Formed stage r × (bytes ≡ record_bytes r ++ drop (length (record_bytes r)) bytes)
Read stage bytes (Err e) = Unread stage bytes e

-- what stands at an offset of a file, read at a stage
abbrev pub ReadAt : Stage → List ℕ → ℕ → ℕ → ℕ → Result (Option Record) RecordFault → Type 0
ReadAt stage file offset place depth (Ok next) = Read stage (drop offset file) (Ok next)
ReadAt stage file offset place depth (Err f) =
    (r : Refusal)
    × Unread stage (drop offset file) r
    × (f ≡ record { call = fault_of (because r) 0 place depth; offset = offset })

-- what was read is passed
abbrev pub Passed : ℕ → Result (Option Record) RecordFault → ℕ → Type 0
Passed offset (Ok (Some r)) next = next ≡ offset + length (record_bytes r)
Passed offset (Ok None) next = next ≡ offset
Passed offset (Err f) next = next ≡ offset
