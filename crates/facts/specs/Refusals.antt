-- The number of each refusal, and the layer that gives it.
use Rattle.std.specs.Prelude.{ℕ}
use Rattle.facts.specs.declared.refusal.Refusal.{Refusal}
use Rattle.facts.specs.declared.refusal.Refusal.TheVariants.{InputTooLong, UnknownKind, BodyCutShort, WrongStage, AlreadyClosed, FieldOutOfRange, TooManyCalls, LevelLimit, NothingAtAddress, LiteralNotKept, UnknownInference, NoCurrentFact, NoSuchFact, WrongRelation, MultiplierNotPositive, ConditionFails, RowTooLarge, TableFull, SheetFull}
use Rattle.facts.specs.declared.refusal.Layer.{Layer}
use Rattle.facts.specs.declared.refusal.Layer.TheVariants.{Program, Reader, Claim, Address, Theory, Table, Sheet}

abbrev pub refusal_number : Refusal → ℕ
refusal_number InputTooLong = 1
refusal_number UnknownKind = 2
refusal_number BodyCutShort = 3
refusal_number WrongStage = 4
refusal_number AlreadyClosed = 5
refusal_number FieldOutOfRange = 6
refusal_number TooManyCalls = 7
refusal_number LevelLimit = 8
refusal_number NothingAtAddress = 9
refusal_number LiteralNotKept = 10
refusal_number UnknownInference = 11
refusal_number NoCurrentFact = 12
refusal_number NoSuchFact = 13
refusal_number WrongRelation = 14
refusal_number MultiplierNotPositive = 15
refusal_number ConditionFails = 16
refusal_number RowTooLarge = 17
refusal_number TableFull = 18
refusal_number SheetFull = 19

abbrev pub refusal_layer : Refusal → Layer
refusal_layer InputTooLong = Program
refusal_layer UnknownKind = Reader
refusal_layer BodyCutShort = Reader
refusal_layer WrongStage = Reader
refusal_layer AlreadyClosed = Claim
refusal_layer FieldOutOfRange = Claim
refusal_layer TooManyCalls = Claim
refusal_layer LevelLimit = Claim
refusal_layer NothingAtAddress = Address
refusal_layer LiteralNotKept = Address
refusal_layer UnknownInference = Theory
refusal_layer NoCurrentFact = Theory
refusal_layer NoSuchFact = Theory
refusal_layer WrongRelation = Theory
refusal_layer MultiplierNotPositive = Theory
refusal_layer ConditionFails = Theory
refusal_layer RowTooLarge = Theory
refusal_layer TableFull = Table
refusal_layer SheetFull = Sheet
