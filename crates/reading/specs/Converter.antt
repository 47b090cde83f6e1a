-- The converter, and the rule that turns what it stored into literals.
use Rattle.std.specs.Prelude.{◌≡◌, ℕ, ◌+◌, cond, List, [], ◌∷◌, ℤ, pos, ◌*ℤ◌, ◌≤ℤ◌, Some, None, Ok, Err, Result, nat_le, nat_lt}
use Rattle.std.specs.Int.{int_min}
use Rattle.facts.specs.Faults.{out_of_range}
use Rattle.facts.specs.Fields.{Field, field, first_bad, literal_fields}
use Rattle.facts.specs.Literals.{LiteralTrue}
use Rattle.facts.specs.Valuations.{Valuation}
use Rattle.facts.specs.declared.fault.Cause.{Cause}
use Rattle.facts.specs.declared.name.Name.{Name}
use Rattle.reading.specs.Bounds.{bound_literal, bounds_list}
use Rattle.reading.specs.declared.bound.Bound.{Bound}
use Rattle.reading.specs.declared.bound.Bounds.{Bounds}
use Rattle.reading.specs.declared.count.SentReading.{SentReading}

-- the converter has 12 bits
abbrev pub highest_count : ℕ
highest_count = 4095

-- w is the largest whole number not above a / q
pub record Floor (a : ℤ) (q : ℕ) (w : ℤ) : Type 0 where
  pub not_above : (w *ℤ pos q) ≤ℤ a
  pub largest : (u : ℤ) → (u *ℤ pos q) ≤ℤ a → u ≤ℤ w

-- in this valuation the converter stores the count c for the name with index n: the largest whole
-- number not above the name's value, or its highest count if that is less
pub record Stores (v : Valuation) (n c : ℕ) : Type 0 where
  pub whole : ℤ
  pub floor : Floor (v.numerator n) v.denominator whole
  pub clipped : pos c ≡ int_min whole (pos highest_count)

-- every bound of a list has good fields as a literal
abbrev pub AllGood : List Bound → Type 0
AllGood [] = Unit {0}
AllGood (b ∷ bs) = (first_bad (literal_fields (bound_literal b)) ≡ None) × AllGood bs

-- every bound of a list is true
abbrev pub AllTrue : Valuation → List Bound → Type 0
AllTrue v [] = Unit {0}
AllTrue v (b ∷ bs) = LiteralTrue v (bound_literal b) × AllTrue v bs

-- a reading's fields in its record
abbrev pub reading_fields : SentReading → List Field
reading_fields s = field 1 (nat_le s.name 31) ∷ field 2 (nat_le s.count highest_count) ∷ []

-- n - c >= 0 and c + 1 - n > 0; at the highest count, which stands for every value above it too,
-- the first alone
abbrev pub rule : Name → ℕ → Bounds
rule n c = record { lower = Bound.AtLeast n c; upper = cond (nat_lt c highest_count) (Some (Bound.LessThan n (c + 1))) None }

-- what is owed of a reading that is taken. The input is biased, so a value below 0 cannot come
pub record Taken (s : SentReading) (b : Bounds) : Type 0 where
  pub good : first_bad (reading_fields s) ≡ None
  pub by_rule : (n : Name) × (n.index ≡ s.name) × (b ≡ rule n s.count)
  pub exact : (v : Valuation) → pos 0 ≤ℤ v.numerator s.name → (AllTrue v (bounds_list b) → Stores v s.name s.count) × (Stores v s.name s.count → AllTrue v (bounds_list b))
  pub sendable : AllGood (bounds_list b)

abbrev pub ReadingChecked : SentReading → Result Bounds Cause → Type 0
ReadingChecked s (Ok b) = Taken s b
ReadingChecked s (Err c) = (byte : ℕ) × (first_bad (reading_fields s) ≡ Some byte) × (c ≡ out_of_range byte)
