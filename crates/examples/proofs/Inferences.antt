-- What inferences over rows come to.
use Rattle.std.proofs.Common.{◌≡◌, ℕ, true, T, leb, List, [], ◌∷◌, ℤ, pos, negsuc, nat_abs, Some, Ok, Err, Result, refl, lit≤}
use lib.Signed.{le_z_yes}
use Rattle.std.specs.List.{slice_get}
use Rattle.facts.specs.Valuations.{Compares}
use Rattle.facts.specs.declared.fact.Fact.{Fact}
use Rattle.facts.specs.declared.fact.Relation.{Relation}
use Rattle.facts.specs.declared.fault.Cause.{Cause}
use Rattle.facts.specs.declared.refusal.Refusal.{Refusal}
use Rattle.facts.specs.declared.name.Name.{Name}
use Rattle.facts.specs.declared.row.Row.{Row}
use Rattle.theory.specs.declared.factor.Factor.{Factor}
use Rattle.theory.specs.declared.inference.Outcome.{Outcome}
use Rattle.linear.specs.Cut.{Nameless}
use Rattle.linear.specs.Forms.{Difference, is_difference, does_contradict, nameless_below, content_of, gcd_in, cut_row, sum_row, lowered}
use Rattle.linear.specs.Rows.{listed, coefficient}
use Rattle.linear.specs.Rules.{whole_rules, may_multiply, joined}
use Rattle.linear.specs.RowsMade.{row_of_some}
use Rattle.linear.proofs.Tested.{holds_so, holds_not}
use Rattle.theory.specs.declared.inference.Inference.{Inference}
use Rattle.examples.proofs.Rows.{same_below}
use Rattle.examples.specs.Examples.{Example, Holds, twice, once, nought}
use Rattle.examples.specs.Values.{row}

abbrev condition_fails : Cause
condition_fails = record { refusal = Refusal.ConditionFails; detail = 0; theory = 3 }

abbrev pub factor : (z : ℤ) → T (leb (nat_abs z) 1_000_000) → Factor
factor z h = record { value = z; sized = lit≤ h }

abbrev pub now : Relation → Row → Result Outcome Cause
now how r = Ok (Outcome.Current (Fact.Linear how r))

-- a current row takes another unless it is = 0
abbrev Takes : Relation → Type 0
Takes Relation.NonNegative = Unit {0}
Takes Relation.Positive = Unit {0}
Takes Relation.Zero = ⊥

-- M makes a sum current
pub adds : (fs : List Fact) (i : ℕ) (c : Factor) (now how : Relation) (a b r : Row) → Takes now → slice_get fs i ≡ Some (Fact.Linear how b) → may_multiply how c.value ≡ true → sum_row a c.value b ≡ Some r → whole_rules.outcome (Inference.Add i c) fs (Some (Fact.Linear now a)) ≡ Ok (Outcome.Current (Fact.Linear (joined now how) r))
adds fs i c Relation.NonNegative how a b r t e m s = rw (e, m, s)
adds fs i c Relation.Positive how a b r t e m s = rw (e, m, s)
adds fs i c Relation.Zero how a b r t e m s = absurd t

-- I makes a row one less
pub strengthens : (fs : List Fact) (r s : Row) → lowered r ≡ Some s → whole_rules.outcome Inference.Strengthen fs (Some (Fact.Linear Relation.Positive r)) ≡ Ok (Outcome.Current (Fact.Linear Relation.NonNegative s))
strengthens fs r s e = rw e

-- Q hands on an equality of two names
pub agrees : (fs : List Fact) (i : ℕ) (n m : Name) (a b : Row) → slice_get fs i ≡ Some (Fact.Linear Relation.NonNegative b) → Difference a n m → Difference b m n → whole_rules.outcome (Inference.Antisymmetry i n m) fs (Some (Fact.Linear Relation.NonNegative a)) ≡ Ok (Outcome.Equal n m)
agrees fs i n m a b e d x = rw (e, ← holds_so (is_difference a n m) d, ← holds_so (is_difference b m n) x)

-- U makes a row's cut current
pub cuts : (fs : List Fact) (r s : Row) → cut_row r ≡ Some s → whole_rules.outcome Inference.Cut fs (Some (Fact.Linear Relation.NonNegative r)) ≡ Ok (Outcome.Current (Fact.Linear Relation.NonNegative s))
cuts fs r s e = rw e

-- F on a row with no names goes by its constant
module _ (fs : List Fact) (how : Relation) (r : Row) where
  pub falsifies : Nameless r → (Compares how r.constant → ⊥) → whole_rules.outcome Inference.Falsify fs (Some (Fact.Linear how r)) ≡ Ok Outcome.Contradiction
  falsifies none fails =
      rw (← holds_so (does_contradict how r) (record { nameless = none; fails = fails }))

  pub falsifies_not : Compares how r.constant → whole_rules.outcome Inference.Falsify fs (Some (Fact.Linear how r)) ≡ Err condition_fails
  falsifies_not is = rw (← holds_not (does_contradict how r) (λ c. c.fails is))

pub cut_example : Holds (Example.comes_to whole_rules [] (Some twice) Inference.Cut (Outcome.Current once))
unfolding content_of gcd_in listed
cut_example =
    cuts [] (row (negsuc 0) (pos 2 ∷ []) refl tt) (row (negsuc 0) (pos 1 ∷ []) refl tt) (row_of_some _ _ (row (negsuc 0) (pos 1 ∷ []) refl tt) refl refl)

pub above_nought : Holds (Example.comes_to whole_rules [] (Some (nought Relation.Positive)) Inference.Falsify Outcome.Contradiction)
unfolding listed
above_nought = falsifies [] Relation.Positive (row (pos 0) [] refl tt) (nameless_below (row (pos 0) [] refl tt) (same_below (coefficient (row (pos 0) [] refl tt)) (λ _. pos 0) refl)) (λ h. h.lt)

pub at_least_nought : Holds (Example.refused whole_rules [] (Some (nought Relation.NonNegative)) Inference.Falsify 16 0)
at_least_nought =
    record {
      cause = condition_fails;
      is = falsifies_not [] Relation.NonNegative (row (pos 0) [] refl tt) (le_z_yes tt);
      by_number = refl;
      with_detail = refl;
      by_theory = refl;
    }
