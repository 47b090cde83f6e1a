-- The ranges of a literal's fields, and what a literal with good fields stands for.
use Rattle.std.specs.Prelude.{◌≡◌, ℕ, ◌+◌, ◌<◌, ◌≤◌, Bool, cond, List, [], ◌∷◌, ◌++◌, ℤ, pos, ◌+ℤ◌, Some, None, Ok, Err, Option, Result, ◌==◌, nat_le, slice_index_or, unsigned_abs}
use Rattle.facts.specs.Sizes.{sent_limit}
use Rattle.facts.specs.declared.fact.Fact.{Fact}
use Rattle.facts.specs.declared.fault.BadField.{BadField}
use Rattle.facts.specs.declared.literal.Literal.{Literal}
use Rattle.facts.specs.declared.literal.SentPair.{SentPair}
use Rattle.facts.specs.declared.literal.SentRow.{SentRow}
use Rattle.facts.specs.declared.literal.SentTerm.{SentTerm}
use Rattle.facts.specs.declared.row.Row.{Row}
use Rattle.facts.specs.declared.term.Term.{Term}

-- a field: the place of its first byte in the record, and whether it is within its range
pub record Field : Type 0 where
  pub byte : ℕ
  pub good : Bool

abbrev pub field : ℕ → Bool → Field
field n b = record { byte = n; good = b }

-- the byte of the first field that is out of range
abbrev pub first_bad : List Field → Option ℕ
first_bad [] = None
first_bad (f ∷ fs) = cond f.good (first_bad fs) (Some f.byte)

-- the highest letter and the highest second name that a tag allows
abbrev pub highest_letter : ℕ → ℕ
highest_letter tag = cond (tag == 0) 0 15

abbrev pub highest_second : ℕ → ℕ
highest_second tag = cond (tag == 2) 31 0

-- the fields of a term that begins at a byte
abbrev pub term_fields : ℕ → SentTerm → List Field
term_fields at t =
    field at (nat_le t.tag 2)
    ∷ field (at + 1) (nat_le t.letter (highest_letter t.tag))
    ∷ field (at + 2) (nat_le t.first 31)
    ∷ field (at + 3) (nat_le t.second (highest_second t.tag))
    ∷ []

-- the fields of pairs that begin at a byte, five bytes each
abbrev pub pair_fields : ℕ → List SentPair → List Field
pair_fields at [] = []
pair_fields at (p ∷ ps) =
    field at (nat_le p.name 31)
    ∷ field (at + 1) (nat_le (unsigned_abs p.coefficient) sent_limit)
    ∷ pair_fields (at + 5) ps

-- the fields of a row, whose constant is at byte 1 of the record
abbrev pub row_fields : SentRow → List Field
row_fields row = field 1 (nat_le (unsigned_abs row.constant) sent_limit) ∷ pair_fields 5 row.pairs

-- the kind is byte 0 of a record
abbrev pub literal_fields : Literal → List Field
literal_fields (Literal.Equal t u) = term_fields 1 t ++ term_fields 5 u
literal_fields (Literal.Distinct t u) = term_fields 1 t ++ term_fields 5 u
literal_fields (Literal.Linear how row) = row_fields row

-- the four bytes that a term is sent as
abbrev pub sent : Term → SentTerm
sent (Term.Bare n) = record { tag = 0; letter = 0; first = n.index; second = 0 }
sent (Term.Unary s n) = record { tag = 1; letter = s.index; first = n.index; second = 0 }
sent (Term.Binary s n m) = record { tag = 2; letter = s.index; first = n.index; second = m.index }

-- the coefficients of the name with index k, added
abbrev pub added : ℕ → List SentPair → ℤ
added k [] = pos 0
added k (p ∷ ps) = cond (p.name == k) p.coefficient (pos 0) +ℤ added k ps

-- a row stands for what was sent: its constant, and each name's coefficients added
pub record Sums (s : SentRow) (r : Row) : Type 0 where
  pub constant : r.constant ≡ s.constant
  pub coefficient : (k : ℕ) → k < 32 → slice_index_or r.coefficients k (pos 0) ≡ added k s.pairs

-- a literal stands for a fact
abbrev pub Stands : Literal → Fact → Type 0
Stands (Literal.Equal t u) f = (a : Term) × (b : Term) × (f ≡ Fact.Equal a b) × (sent a ≡ t) × (sent b ≡ u)
Stands (Literal.Distinct t u) f = (a : Term) × (b : Term) × (f ≡ Fact.Distinct a b) × (sent a ≡ t) × (sent b ≡ u)
Stands (Literal.Linear how s) f = (r : Row) × (f ≡ Fact.Linear how r) × Sums s r

abbrev pub TermChecked : SentTerm → Result Term BadField → Type 0
TermChecked t (Ok a) = ((at : ℕ) → first_bad (term_fields at t) ≡ None) × (sent a ≡ t)
TermChecked t (Err bad) = (bad.byte ≤ 3) × ((at : ℕ) → first_bad (term_fields at t) ≡ Some (at + bad.byte))

abbrev pub RowChecked : SentRow → Result Row BadField → Type 0
RowChecked s (Ok row) = (first_bad (row_fields s) ≡ None) × Sums s row
RowChecked s (Err bad) = first_bad (row_fields s) ≡ Some bad.byte

abbrev pub SidesChecked : SentTerm → SentTerm → Result (Term × Term) BadField → Type 0
SidesChecked t u (Ok ab) = (first_bad (term_fields 1 t ++ term_fields 5 u) ≡ None) × (sent ab.0 ≡ t) × (sent ab.1 ≡ u)
SidesChecked t u (Err bad) = first_bad (term_fields 1 t ++ term_fields 5 u) ≡ Some bad.byte
