-- The examples.
use Rattle.std.specs.Prelude.{◌≡◌, ℕ, ◌+◌, List, [], ◌∷◌, ◌++◌, map, pos, negsuc, Some, Ok, Err, Option, Result, refl}
use Rattle.facts.specs.Refusals.{refusal_number}
use Rattle.facts.specs.Valuations.{Valuation}
use Rattle.facts.specs.declared.fact.Fact.{Fact}
use Rattle.facts.specs.declared.fact.Relation.{Relation}
use Rattle.facts.specs.declared.fault.Cause.{Cause}
use Rattle.facts.specs.declared.literal.Literal.{Literal}
use Rattle.facts.specs.declared.name.Name.{Name}
use Rattle.reading.specs.Bounds.{bound_literal, bounds_list, pair}
use Rattle.reading.specs.Converter.{Stores, ReadingChecked, rule}
use Rattle.reading.specs.declared.bound.Bound.{Bound}
use Rattle.reading.specs.declared.bound.Bounds.{Bounds}
use Rattle.reading.specs.declared.count.SentReading.{SentReading}
use Rattle.theory.specs.Rules.{Rules, Book}
use Rattle.theory.specs.Pairs.{beside}
use Rattle.theory.specs.Singles.{alone}
use Rattle.theory.specs.declared.inference.Inference.{Inference}
use Rattle.theory.specs.declared.inference.Outcome.{Outcome}
use Rattle.equality.specs.Equality.{equality_rules}
use Rattle.linear.specs.Rules.{whole_rules}
use Rattle.claim.specs.declared.sent.SentStep.{SentStep}
use Rattle.examples.specs.Runs.{Sealed, NeverSealed}
use Rattle.examples.specs.Values.{name, row, bare, a_of, linear, values}

pub data Example : Type 0 where
  -- literals and then steps, all of which are taken, up to a seal with these counts
  sealed : Book → List Literal → List SentStep → (literals steps splits : ℕ) → Example
  -- literals that are true in a valuation by whole numbers, so no steps lead to a seal
  never_sealed : Book → List Literal → Valuation → Example
  -- in a valuation the converter stores a count for the name with an index
  stores : Valuation → (name count : ℕ) → Example
  -- a reading states these bounds
  states : SentReading → List Bound → Example
  -- a reading is refused, by this number and with this detail
  not_read : SentReading → (number detail : ℕ) → Example
  -- an inference comes to this
  comes_to : Rules → List Fact → Option Fact → Inference → Outcome → Example
  -- an inference is refused, by this number and with this detail
  refused : Rules → List Fact → Option Fact → Inference → (number detail : ℕ) → Example

-- the bounds are what the check of the reading answers, and it answers nothing else
pub record States (s : SentReading) (bs : List Bound) : Type 0 where
  pub bounds : Bounds
  pub listed : bounds_list bounds ≡ bs
  pub checked : ReadingChecked s (Ok bounds)
  pub only : (r : Result Bounds Cause) → ReadingChecked s r → r ≡ Ok bounds

pub record NotRead (number detail : ℕ) (s : SentReading) : Type 0 where
  pub cause : Cause
  pub by_number : refusal_number cause.refusal ≡ number
  pub with_detail : cause.detail ≡ detail
  pub checked : ReadingChecked s (Err cause)
  pub only : (r : Result Bounds Cause) → ReadingChecked s r → r ≡ Err cause

pub record RefusedBy (number detail theory : ℕ) (r : Result Outcome Cause) : Type 0 where
  pub cause : Cause
  pub is : r ≡ Err cause
  pub by_number : refusal_number cause.refusal ≡ number
  pub with_detail : cause.detail ≡ detail
  pub by_theory : cause.theory ≡ theory

abbrev pub Holds : Example → Type 0
Holds (Example.sealed book ls ss literals steps splits) = Sealed book ls ss literals steps splits
Holds (Example.never_sealed book ls v) = NeverSealed book ls v
Holds (Example.stores v n c) = Stores v n c
Holds (Example.states s bs) = States s bs
Holds (Example.not_read s number detail) = NotRead number detail s
Holds (Example.comes_to r fs current i o) = r.outcome i fs current ≡ Ok o
Holds (Example.refused r fs current i number detail) = RefusedBy number detail r.number (r.outcome i fs current)

abbrev pub AllHold : List Example → Type 0
AllHold [] = Unit {0}
AllHold (e ∷ es) = Holds e × AllHold es

-- ---- equality at address 0 and rows of whole numbers at address 1

abbrev pub both : Book
both = beside (alone equality_rules) (alone whole_rules)

-- 3 n1 - 2 n2 - 2 >= 0, n1 - 1 = 0, n2 > 0
abbrev pub crowded : List Literal
crowded =
    linear Relation.NonNegative (negsuc 1) (pair 1 (pos 3) ∷ pair 2 (negsuc 1) ∷ [])
    ∷ linear Relation.Zero (negsuc 0) (pair 1 (pos 1) ∷ [])
    ∷ linear Relation.Positive (pos 0) (pair 2 (pos 1) ∷ [])
    ∷ []

-- n2 > 0, so n2 - 1 >= 0, which is pushed as fact 3; then 3 n1 - 2 n2 - 2 >= 0, 1 - 2 n2 >= 0,
-- -1 >= 0
abbrev pub by_rows : List SentStep
by_rows =
    SentStep.Zero 1
    ∷ SentStep.Add 1 2 (pos 1)
    ∷ SentStep.Strengthen 1
    ∷ SentStep.Push 1
    ∷ SentStep.Zero 1
    ∷ SentStep.Add 1 0 (pos 1)
    ∷ SentStep.Add 1 1 (negsuc 2)
    ∷ SentStep.Add 1 3 (pos 2)
    ∷ SentStep.Falsify 1
    ∷ []

-- a(n0) = n2, a(n1) = n3, n0 = n1, n2 != n3
abbrev pub congruent : List Literal
congruent =
    Literal.Equal (a_of 0) (bare 2)
    ∷ Literal.Equal (a_of 1) (bare 3)
    ∷ Literal.Equal (bare 0) (bare 1)
    ∷ Literal.Distinct (bare 2) (bare 3)
    ∷ []

-- n2 = n2, n2 = a(n0), n2 = a(n1), n2 = n3
abbrev pub by_congruence : List SentStep
by_congruence =
    SentStep.Reflexivity 0 (bare 2)
    ∷ SentStep.Transitivity 0 0 1
    ∷ SentStep.Congruence 0 2 1 0
    ∷ SentStep.Transitivity 0 1 0
    ∷ SentStep.Clash 0 3
    ∷ []

-- n0 != n1, n0 - n1 >= 0, n1 - n0 >= 0
abbrev pub squeezed : List Literal
squeezed =
    Literal.Distinct (bare 0) (bare 1)
    ∷ linear Relation.NonNegative (pos 0) (pair 0 (pos 1) ∷ pair 1 (negsuc 0) ∷ [])
    ∷ linear Relation.NonNegative (pos 0) (pair 0 (negsuc 0) ∷ pair 1 (pos 1) ∷ [])
    ∷ []

-- n0 - n1 >= 0, so n0 = n1 is handed on; then n0 = n0, n0 = n1
abbrev pub by_both : List SentStep
by_both =
    SentStep.Zero 1
    ∷ SentStep.Add 1 0 (pos 1)
    ∷ SentStep.Antisymmetry 1 1 0 1
    ∷ SentStep.Reflexivity 0 (bare 0)
    ∷ SentStep.Transitivity 0 1 0
    ∷ SentStep.Clash 0 0
    ∷ []

-- ---- readings

abbrev pub n0 : Name
n0 = name 0 tt

abbrev pub n1 : Name
n1 = name 1 tt

-- two readings of 4095, and n0 != n1
abbrev pub clipped : List Literal
clipped =
    map bound_literal (bounds_list (rule n0 4095) ++ bounds_list (rule n1 4095)) ++ (Literal.Distinct (bare 0) (bare 1) ∷ [])

-- n0 is 4095 and n1 is 4096
abbrev pub above_scale : Valuation
above_scale = values (λ k. pos (4095 + k))

abbrev pub reading : ℕ → ℕ → SentReading
reading n c = record { name = n; count = c }

-- ---- inferences over whole numbers

-- 2 n0 - 1 >= 0 and n0 - 1 >= 0
abbrev pub twice : Fact
twice = Fact.Linear Relation.NonNegative (row (negsuc 0) (pos 2 ∷ []) refl tt)

abbrev pub once : Fact
once = Fact.Linear Relation.NonNegative (row (negsuc 0) (pos 1 ∷ []) refl tt)

-- 0 compared with 0
abbrev pub nought : Relation → Fact
nought how = Fact.Linear how (row (pos 0) [] refl tt)

abbrev pub examples : List Example
examples =
    Example.sealed both crowded by_rows 3 9 0
    ∷ Example.sealed both congruent by_congruence 4 5 0
    ∷ Example.sealed both squeezed by_both 3 6 0
    ∷ Example.never_sealed both clipped above_scale
    ∷ Example.stores above_scale 0 4095
    ∷ Example.stores above_scale 1 4095
    ∷ Example.states (reading 0 4094) (Bound.AtLeast n0 4094 ∷ Bound.LessThan n0 4095 ∷ [])
    ∷ Example.states (reading 0 0) (Bound.AtLeast n0 0 ∷ Bound.LessThan n0 1 ∷ [])
    ∷ Example.states (reading 0 4095) (Bound.AtLeast n0 4095 ∷ [])
    ∷ Example.not_read (reading 0 4096) 6 2
    ∷ Example.comes_to whole_rules [] (Some twice) Inference.Cut (Outcome.Current once)
    ∷ Example.comes_to whole_rules [] (Some (nought Relation.Positive)) Inference.Falsify Outcome.Contradiction
    ∷ Example.refused whole_rules [] (Some (nought Relation.NonNegative)) Inference.Falsify 16 0
    ∷ []
