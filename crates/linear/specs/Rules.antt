-- The rules of the two theories over rows.
use Rattle.std.specs.Prelude.{◌≡◌, ℕ, Bool, true, false, cond, List, ℤ, pos, Some, None, Ok, Err, Option, Result, int_lt}
use Rattle.std.specs.List.{slice_get}
use Rattle.facts.specs.Faults.{because}
use Rattle.facts.specs.Valuations.{Valuation}
use Rattle.facts.specs.declared.fact.Comparison.{Comparison}
use Rattle.facts.specs.declared.fact.Fact.{Fact}
use Rattle.facts.specs.declared.fact.Relation.{Relation}
use Rattle.facts.specs.declared.fault.Cause.{Cause}
use Rattle.facts.specs.declared.name.Name.{Name}
use Rattle.facts.specs.declared.refusal.Refusal.{Refusal}
use Rattle.facts.specs.declared.row.Row.{Row}
use Rattle.theory.specs.Premises.{by_current, by_fact, numbered}
use Rattle.theory.specs.Rules.{Rules}
use Rattle.theory.specs.declared.inference.Inference.{Inference}
use Rattle.theory.specs.declared.inference.Outcome.{Outcome}
use Rattle.linear.specs.Deciding.{holds}
use Rattle.linear.specs.Forms.{is_difference, does_contradict, sum_row, zero_row, lowered, cut_row, difference_row}
use Rattle.linear.specs.declared.domain.Domain.{Domain}

-- the theory of fractions is number 2, that of whole numbers 3
abbrev pub theory_number : Domain → ℕ
theory_number Domain.Fractions = 2
theory_number Domain.Whole = 3

-- what the values of the names are, by whether they are whole numbers
abbrev pub domain_of : Bool → Domain
domain_of true = Domain.Whole
domain_of false = Domain.Fractions

-- every valuation, or those with whole values alone
abbrev pub admitted : Domain → Valuation → Type 0
admitted Domain.Fractions v = Unit {0}
admitted Domain.Whole v = v.denominator ≡ 1

-- row literals are kept, and no others
abbrev pub keeps : Fact → Bool
keeps (Fact.Equal t u) = false
keeps (Fact.Distinct t u) = false
keeps (Fact.Linear how r) = true

-- told how two names compare, it keeps how their difference compares with 0
abbrev pub told : Comparison → Option Fact
told (Comparison.Equal n m) = Some (Fact.Linear Relation.Zero (difference_row n m))
told (Comparison.Less n m) = Some (Fact.Linear Relation.Positive (difference_row m n))
told (Comparison.Greater n m) = Some (Fact.Linear Relation.Positive (difference_row n m))

-- ---- refusals; the theory's number is set in them at the end

-- a rule over whole numbers alone
abbrev pub whole_only : Domain → Result Outcome Cause → Result Outcome Cause
whole_only Domain.Fractions r = Err (because Refusal.UnknownInference)
whole_only Domain.Whole r = r

-- a row becomes current, if its numbers fit
abbrev pub becomes : Relation → Option Row → Result Outcome Cause
becomes how None = Err (because Refusal.RowTooLarge)
becomes how (Some r) = Ok (Outcome.Current (Fact.Linear how r))

-- a row, if its relation is the one that is asked for
abbrev pub row_where : Relation → Relation → Row → Option Row
row_where Relation.NonNegative Relation.NonNegative r = Some r
row_where Relation.NonNegative Relation.Positive r = None
row_where Relation.NonNegative Relation.Zero r = None
row_where Relation.Positive Relation.NonNegative r = None
row_where Relation.Positive Relation.Positive r = Some r
row_where Relation.Positive Relation.Zero r = None
row_where Relation.Zero Relation.NonNegative r = None
row_where Relation.Zero Relation.Positive r = None
row_where Relation.Zero Relation.Zero r = Some r

-- the row of a fact, likewise
abbrev pub row_that : Relation → Fact → Option Row
row_that how (Fact.Equal t u) = None
row_that how (Fact.Distinct t u) = None
row_that how (Fact.Linear now r) = row_where how now r

abbrev pub at_least : Fact → Option Row
at_least f = row_that Relation.NonNegative f

abbrev pub above : Fact → Option Row
above f = row_that Relation.Positive f

-- ---- M: c times a row b is added to the current row a

-- a row >= 0 or > 0 takes only factors above 0, and a row = 0 takes any
abbrev pub may_multiply : Relation → ℤ → Bool
may_multiply Relation.NonNegative c = int_lt (pos 0) c
may_multiply Relation.Positive c = int_lt (pos 0) c
may_multiply Relation.Zero c = true

-- the relation of a row after one with another relation was added
abbrev pub joined : Relation → Relation → Relation
joined now Relation.NonNegative = now
joined now Relation.Positive = Relation.Positive
joined now Relation.Zero = now

-- a current row = 0 takes nothing: it would not stay = 0 if a row > 0 or >= 0 were added to it
abbrev pub add_rows : ℤ → Relation → Row → Relation → Row → Result Outcome Cause
add_rows c Relation.Zero a how b = Err (because Refusal.ConditionFails)
add_rows c Relation.NonNegative a how b = becomes (joined Relation.NonNegative how) (sum_row a c b)
add_rows c Relation.Positive a how b = becomes (joined Relation.Positive how) (sum_row a c b)

abbrev pub add_to : ℤ → Fact → Relation → Row → Result Outcome Cause
add_to c (Fact.Equal t u) how b = Err (because Refusal.ConditionFails)
add_to c (Fact.Distinct t u) how b = Err (because Refusal.ConditionFails)
add_to c (Fact.Linear now a) how b = add_rows c now a how b

abbrev pub added : ℤ → Fact → Fact → Result Outcome Cause
added c current (Fact.Equal t u) = Err (because Refusal.WrongRelation)
added c current (Fact.Distinct t u) = Err (because Refusal.WrongRelation)
added c current (Fact.Linear how b) = cond (may_multiply how c) (add_to c current how b) (Err (because Refusal.MultiplierNotPositive))

-- ---- Q: n - m and m - n are both at least 0, up to factors

abbrev pub both_ways : Name → Name → Option Row → Option Row → Result Outcome Cause
both_ways n m current None = Err (because Refusal.WrongRelation)
both_ways n m None (Some b) = Err (because Refusal.ConditionFails)
both_ways n m (Some a) (Some b) =
    cond (holds (is_difference a n m)) (cond (holds (is_difference b m n)) (Ok (Outcome.Equal n m)) (Err (because Refusal.ConditionFails))) (Err (because Refusal.ConditionFails))

-- ---- F: a row with no names whose relation fails

abbrev pub falsified : Fact → Result Outcome Cause
falsified (Fact.Equal t u) = Err (because Refusal.ConditionFails)
falsified (Fact.Distinct t u) = Err (because Refusal.ConditionFails)
falsified (Fact.Linear how r) = cond (holds (does_contradict how r)) (Ok Outcome.Contradiction) (Err (because Refusal.ConditionFails))

-- ---- I: a whole number above 0 is at least 1

abbrev pub strengthened : Option Row → Result Outcome Cause
strengthened None = Err (because Refusal.ConditionFails)
strengthened (Some r) = becomes Relation.NonNegative (lowered r)

-- ---- U: the cut of a row that is at least 0

abbrev pub cut_becomes : Option Row → Result Outcome Cause
cut_becomes None = Err (because Refusal.ConditionFails)
cut_becomes (Some r) = Ok (Outcome.Current (Fact.Linear Relation.NonNegative r))

abbrev pub divided : Option Row → Result Outcome Cause
divided None = Err (because Refusal.ConditionFails)
divided (Some r) = cut_becomes (cut_row r)

-- ---- all rules

abbrev pub inferred : Domain → Inference → List Fact → Option Fact → Result Outcome Cause
inferred d (Inference.Reflexivity t) fs current = Err (because Refusal.UnknownInference)
inferred d (Inference.Transitivity i turned) fs current = Err (because Refusal.UnknownInference)
inferred d (Inference.Congruence i at turned) fs current = Err (because Refusal.UnknownInference)
inferred d (Inference.Clash i) fs current = Err (because Refusal.UnknownInference)
inferred d Inference.Propagate fs current = Err (because Refusal.UnknownInference)
inferred d Inference.Zero fs current = Ok (Outcome.Current (Fact.Linear Relation.NonNegative zero_row))
inferred d (Inference.Add i c) fs current = by_current current (λ now. by_fact fs (slice_get fs i) (added c.value now))
inferred d (Inference.Antisymmetry i n m) fs current =
    by_current current (λ now. by_fact fs (slice_get fs i) (λ fact. both_ways n m (at_least now) (at_least fact)))
inferred d Inference.Falsify fs current = by_current current falsified
inferred d Inference.Strengthen fs current = whole_only d (by_current current (λ now. strengthened (above now)))
inferred d Inference.Cut fs current = whole_only d (by_current current (λ now. divided (at_least now)))
inferred d Inference.Push fs current = by_current current (λ now. Ok (Outcome.Pushed now))

-- with the theory's number in refusals
abbrev pub outcome : Domain → Inference → List Fact → Option Fact → Result Outcome Cause
outcome d i fs current = numbered (theory_number d) (inferred d i fs current)

abbrev pub row_rules : Domain → Rules
row_rules d = record { number = theory_number d; keeps = keeps; told = told; outcome = outcome d }

abbrev pub fraction_rules : Rules
fraction_rules = row_rules Domain.Fractions

abbrev pub whole_rules : Rules
whole_rules = row_rules Domain.Whole
