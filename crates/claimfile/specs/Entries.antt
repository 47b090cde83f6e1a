-- What the records of a file state, and the bytes that each is written as.
use Rattle.std.specs.Prelude.{ℕ, suc, ◌-◌, ◌/◌, ◌%◌, ◌<◌, List, [], ◌∷◌, ◌++◌, ℤ, pos, negsuc, codes}
use Rattle.std.specs.List.{flat_map}
use Rattle.facts.specs.declared.fact.Relation.{Relation}
use Rattle.facts.specs.declared.literal.Literal.{Literal}
use Rattle.facts.specs.declared.literal.SentPair.{SentPair}
use Rattle.facts.specs.declared.literal.SentRow.{SentRow}
use Rattle.facts.specs.declared.literal.SentTerm.{SentTerm}
use Rattle.reading.specs.Lists.{record_bytes as reading_bytes}
use Rattle.reading.specs.declared.count.SentReading.{SentReading}
use Rattle.claim.specs.declared.sent.SentStep.{SentStep}

abbrev pub term_bytes : SentTerm → List ℕ
term_bytes t = t.tag ∷ t.letter ∷ t.first ∷ t.second ∷ []

-- a number that 32 bits hold with its sign
abbrev pub Fits32 : ℤ → Type 0
Fits32 (pos n) = n < 2_147_483_648
Fits32 (negsuc n) = n < 2_147_483_648

-- its bits without the sign: a negative one by its complement
abbrev pub unsigned : ℤ → ℕ
unsigned (pos n) = n
unsigned (negsuc n) = 4_294_967_296 - suc n

-- four bytes, the low one first
abbrev pub number_bytes : ℤ → List ℕ
number_bytes z = unsigned z % 256 ∷ unsigned z / 256 % 256 ∷ unsigned z / 65_536 % 256 ∷ unsigned z / 16_777_216 ∷ []

abbrev pub pair_bytes : SentPair → List ℕ
pair_bytes p = p.name ∷ number_bytes p.coefficient

abbrev pub row_bytes : SentRow → List ℕ
row_bytes r = number_bytes r.constant ++ flat_map pair_bytes r.pairs

abbrev pub relation_kind : Relation → List ℕ
relation_kind Relation.NonNegative = codes "G"
relation_kind Relation.Positive = codes "S"
relation_kind Relation.Zero = codes "Z"

abbrev pub literal_bytes : Literal → List ℕ
literal_bytes (Literal.Equal t u) = codes "E" ++ (term_bytes t ++ term_bytes u)
literal_bytes (Literal.Distinct t u) = codes "D" ++ (term_bytes t ++ term_bytes u)
literal_bytes (Literal.Linear how r) = relation_kind how ++ row_bytes r

-- the numbers of a literal, and of a step, have 32 bits; only then do its bytes tell them
abbrev pub AllPairsFit : List SentPair → Type 0
AllPairsFit [] = Unit {0}
AllPairsFit (p ∷ ps) = Fits32 p.coefficient × AllPairsFit ps

abbrev pub LiteralFits : Literal → Type 0
LiteralFits (Literal.Equal t u) = Unit {0}
LiteralFits (Literal.Distinct t u) = Unit {0}
LiteralFits (Literal.Linear how r) = Fits32 r.constant × AllPairsFit r.pairs

abbrev pub StepFits : SentStep → Type 0
StepFits (SentStep.Reflexivity a t) = Unit {0}
StepFits (SentStep.Transitivity a i turned) = Unit {0}
StepFits (SentStep.Congruence a i position turned) = Unit {0}
StepFits (SentStep.Clash a i) = Unit {0}
StepFits (SentStep.Propagate a) = Unit {0}
StepFits (SentStep.Zero a) = Unit {0}
StepFits (SentStep.Add a i c) = Fits32 c
StepFits (SentStep.Antisymmetry a i n m) = Unit {0}
StepFits (SentStep.Falsify a) = Unit {0}
StepFits (SentStep.Strengthen a) = Unit {0}
StepFits (SentStep.Cut a) = Unit {0}
StepFits (SentStep.Push a) = Unit {0}
StepFits (SentStep.Split n m) = Unit {0}

abbrev pub AllStepsFit : List SentStep → Type 0
AllStepsFit [] = Unit {0}
AllStepsFit (s ∷ ss) = StepFits s × AllStepsFit ss

abbrev pub step_bytes : SentStep → List ℕ
step_bytes (SentStep.Reflexivity a t) = codes "R" ++ (a ∷ term_bytes t)
step_bytes (SentStep.Transitivity a i turned) = codes "T" ++ (a ∷ i ∷ turned ∷ [])
step_bytes (SentStep.Congruence a i position turned) = codes "C" ++ (a ∷ i ∷ position ∷ turned ∷ [])
step_bytes (SentStep.Clash a i) = codes "N" ++ (a ∷ i ∷ [])
step_bytes (SentStep.Propagate a) = codes "X" ++ (a ∷ [])
step_bytes (SentStep.Zero a) = codes "O" ++ (a ∷ [])
step_bytes (SentStep.Add a i c) = codes "M" ++ (a ∷ i ∷ number_bytes c)
step_bytes (SentStep.Antisymmetry a i n m) = codes "Q" ++ (a ∷ i ∷ n ∷ m ∷ [])
step_bytes (SentStep.Falsify a) = codes "F" ++ (a ∷ [])
step_bytes (SentStep.Strengthen a) = codes "I" ++ (a ∷ [])
step_bytes (SentStep.Cut a) = codes "U" ++ (a ∷ [])
step_bytes (SentStep.Push a) = codes "P" ++ (a ∷ [])
step_bytes (SentStep.Split n m) = codes "Y" ++ (n ∷ m ∷ [])

abbrev pub begin_bytes : List ℕ
begin_bytes = codes "B"

-- a record before the begin: a literal, or a reading, which states literals
pub data Entry : Type 0 where
  literal : Literal → Entry
  reading : SentReading → Entry

abbrev pub entry_bytes : Entry → List ℕ
entry_bytes (Entry.literal l) = literal_bytes l
entry_bytes (Entry.reading s) = reading_bytes s
