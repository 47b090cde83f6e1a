-- What the names and symbols may stand for, and when a fact is true.
use Rattle.std.specs.Prelude.{◌≡◌, ℕ, zero, suc, ◌≤◌, ℤ, pos, ◌+ℤ◌, ◌*ℤ◌, ◌≤ℤ◌, ◌<ℤ◌, slice_index_or}
use Rattle.facts.specs.declared.term.Term.{Term}
use Rattle.facts.specs.declared.row.Row.{Row}
use Rattle.facts.specs.declared.fact.Fact.{Fact}
use Rattle.facts.specs.declared.fact.Relation.{Relation}
use Rattle.facts.specs.declared.fact.Comparison.{Comparison}

-- a denominator of at least 1, a numerator for each name, by its index, and for each symbol its
-- answer to one or two whole numbers; a name's value is its numerator over the denominator
pub record Valuation : Type 0 where
  pub denominator : ℕ
  pub positive : 1 ≤ denominator
  pub numerator : ℕ → ℤ
  pub unary : ℕ → ℤ → ℤ
  pub binary : ℕ → ℤ → ℤ → ℤ

-- f 0 + .. + f (n - 1)
unfoldable pub sum_below : ℕ → (ℕ → ℤ) → ℤ
sum_below zero f = pos 0
sum_below (suc n) f = sum_below n f +ℤ f n

abbrev pub term_number : Valuation → Term → ℤ
term_number v (Term.Bare n) = v.numerator n.index
term_number v (Term.Unary s n) = v.unary s.index (v.numerator n.index)
term_number v (Term.Binary s n m) = v.binary s.index (v.numerator n.index) (v.numerator m.index)

-- a row's value times the denominator
abbrev pub row_number : Valuation → Row → ℤ
row_number v r =
    (r.constant *ℤ pos v.denominator) +ℤ sum_below 32 (λ k. slice_index_or r.coefficients k (pos 0) *ℤ v.numerator k)

-- a number that compares so with 0
abbrev pub Compares : Relation → ℤ → Type 0
Compares Relation.NonNegative z = pos 0 ≤ℤ z
Compares Relation.Positive z = pos 0 <ℤ z
Compares Relation.Zero z = z ≡ pos 0

-- a fact is true in a valuation
abbrev pub True : Valuation → Fact → Type 0
True v (Fact.Equal t u) = term_number v t ≡ term_number v u
True v (Fact.Distinct t u) = term_number v t ≡ term_number v u → ⊥
True v (Fact.Linear how r) = Compares how (row_number v r)

-- a comparison of two names is true in a valuation
abbrev pub Compared : Valuation → Comparison → Type 0
Compared v (Comparison.Less n m) = v.numerator n.index <ℤ v.numerator m.index
Compared v (Comparison.Equal n m) = v.numerator n.index ≡ v.numerator m.index
Compared v (Comparison.Greater n m) = v.numerator m.index <ℤ v.numerator n.index
