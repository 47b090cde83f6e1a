-- When a literal is true, and what it is to check one.
use Rattle.std.specs.Prelude.{◌≡◌, cond, List, [], ◌∷◌, ℤ, pos, ◌+ℤ◌, ◌*ℤ◌, Some, None, Ok, Err, Result, ◌==◌}
use Rattle.facts.specs.Fields.{first_bad, literal_fields, Stands}
use Rattle.facts.specs.Valuations.{Valuation, Compares, True}
use Rattle.facts.specs.declared.fact.Fact.{Fact}
use Rattle.facts.specs.declared.fault.BadField.{BadField}
use Rattle.facts.specs.declared.literal.Literal.{Literal}
use Rattle.facts.specs.declared.literal.SentPair.{SentPair}
use Rattle.facts.specs.declared.literal.SentRow.{SentRow}
use Rattle.facts.specs.declared.literal.SentTerm.{SentTerm}

abbrev pub sent_number : Valuation → SentTerm → ℤ
sent_number v t =
    cond (t.tag == 0)
    (v.numerator t.first)
    (cond (t.tag == 1) (v.unary t.letter (v.numerator t.first)) (v.binary t.letter (v.numerator t.first) (v.numerator t.second)))

-- coefficients times numerators
abbrev pub weighed : Valuation → List SentPair → ℤ
weighed v [] = pos 0
weighed v (p ∷ ps) = (p.coefficient *ℤ v.numerator p.name) +ℤ weighed v ps

abbrev pub sent_row_number : Valuation → SentRow → ℤ
sent_row_number v s = (s.constant *ℤ pos v.denominator) +ℤ weighed v s.pairs

-- a literal whose fields are good is true in a valuation
abbrev pub LiteralTrue : Valuation → Literal → Type 0
LiteralTrue v (Literal.Equal t u) = sent_number v t ≡ sent_number v u
LiteralTrue v (Literal.Distinct t u) = sent_number v t ≡ sent_number v u → ⊥
LiteralTrue v (Literal.Linear how s) = Compares how (sent_row_number v s)

-- the answer of a check: the fact that the literal stands for, true in just the same valuations,
-- or the first bad field
abbrev pub LiteralChecked : Literal → Result Fact BadField → Type 0
LiteralChecked l (Ok f) = (first_bad (literal_fields l) ≡ None) × Stands l f × ((v : Valuation) → (True v f → LiteralTrue v l) × (LiteralTrue v l → True v f))
LiteralChecked l (Err bad) = first_bad (literal_fields l) ≡ Some bad.byte
