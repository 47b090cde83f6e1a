-- A list of reading records, and the text that is printed of it.
use Rattle.std.specs.Prelude.{◌≡◌, ℕ, ◌+◌, ◌/◌, ◌%◌, ◌<◌, ◌≤◌, List, [], ◌∷◌, ◌++◌, length, drop, Ok, Err, codes, decimal, Result, ◌≢◌}
use Rattle.facts.specs.Faults.{because}
use Rattle.facts.specs.Lines.{refused_line}
use Rattle.facts.specs.declared.fault.Cause.{Cause}
use Rattle.facts.specs.declared.fault.RecordFault.{RecordFault}
use Rattle.facts.specs.declared.refusal.Refusal.{Refusal}
use Rattle.reading.specs.Bounds.{bounds_list, bounds_text}
use Rattle.reading.specs.Converter.{ReadingChecked}
use Rattle.reading.specs.declared.bound.Bounds.{Bounds}
use Rattle.reading.specs.declared.count.SentReading.{SentReading}
use Rattle.reading.specs.declared.list.Reading.{Reading}

-- the longest input
abbrev pub longest_input : ℕ
longest_input = 32768

-- the kind of a reading record, the letter K
abbrev pub reading_kind : ℕ
reading_kind = 75

-- the bytes of a record: kind, name, count with its low byte first
abbrev pub record_bytes : SentReading → List ℕ
record_bytes s = reading_kind ∷ s.name ∷ s.count % 256 ∷ s.count / 256 ∷ []

-- bytes that begin with a record that is refused
pub data Refused : List ℕ → Cause → Type 0 where
  kind : {k : ℕ} {rest : List ℕ} → (k ≢ reading_kind) → Refused (k ∷ rest) (because Refusal.UnknownKind)
  short : {body : List ℕ} → length body < 3 → Refused (reading_kind ∷ body) (because Refusal.BodyCutShort)
  fields : (s : SentReading) {rest : List ℕ} {c : Cause} → ReadingChecked s (Err c) → Refused (record_bytes s ++ rest) c

-- the record at the front of some bytes
abbrev pub RecordRead : List ℕ → Result Reading Cause → Type 0
RecordRead bytes (Ok r) = (bytes ≡ record_bytes r.sent ++ drop 4 bytes) × ReadingChecked r.sent (Ok r.bounds)
RecordRead bytes (Err c) = Refused bytes c

-- the line of a reading, of a list that was read to its end, and of a refused record
abbrev pub reading_text : SentReading → Bounds → List ℕ
reading_text s b = codes "n" ++ (decimal s.name ++ (codes " " ++ (decimal s.count ++ (codes ": " ++ bounds_text b))))

abbrev pub reading_line : SentReading → Bounds → List ℕ
reading_line s b = reading_text s b ++ codes "\n"

abbrev pub total_line : ℕ → ℕ → List ℕ
total_line readings literals = codes "readings " ++ (decimal readings ++ (codes " literals " ++ (decimal literals ++ codes "\n")))

abbrev pub fault_at : Cause → ℕ → ℕ → RecordFault
fault_at c place offset = record { call = record { cause = c; address = 0; place = place; depth = 0 }; offset = offset }

abbrev pub fault_line : RecordFault → List ℕ
fault_line f = refused_line f ++ codes "\n"

-- the text printed of what is left of an input from an offset on, after so many readings and
-- literals: a line for each record that is taken, up to the end or the first that is refused
pub data Printed : (offset readings literals : ℕ) → List ℕ → List ℕ → Type 0 where
  end : {o r l : ℕ} → Printed o r l [] (total_line r l)
  next : {o r l : ℕ} {rest text : List ℕ} (s : SentReading) (b : Bounds) → ReadingChecked s (Ok b) → Printed (o + 4) (r + 1) (l + length (bounds_list b)) rest text → Printed o r l (record_bytes s ++ rest) (reading_line s b ++ text)
  stop : {o r l : ℕ} {bytes : List ℕ} {c : Cause} → Refused bytes c → Printed o r l bytes (fault_line (fault_at c l o))

-- the text printed of an input
pub data Report : List ℕ → List ℕ → Type 0 where
  too_long : {bytes : List ℕ} → longest_input < length bytes → Report bytes (fault_line (fault_at (because Refusal.InputTooLong) 0 0))
  read : {bytes text : List ℕ} → length bytes ≤ longest_input → Printed 0 0 0 bytes text → Report bytes text
