-- The rules of equality with unknown functions.
use Rattle.std.specs.Prelude.{ℕ, Bool, true, false, cond, ◌&&◌, ◌||◌, List, Some, None, Ok, Err, Option, Result}
use Rattle.std.specs.List.{slice_get}
use Rattle.facts.specs.Faults.{because}
use Rattle.facts.specs.Terms.{bare_name}
use Rattle.facts.specs.Valuations.{Valuation}
use Rattle.facts.specs.declared.fact.Comparison.{Comparison}
use Rattle.facts.specs.declared.fact.Fact.{Fact}
use Rattle.facts.specs.declared.fault.Cause.{Cause}
use Rattle.facts.specs.declared.name.Name.{Name}
use Rattle.facts.specs.declared.refusal.Refusal.{Refusal}
use Rattle.facts.specs.declared.term.Term.{Term}
use Rattle.theory.specs.Premises.{by_current, by_fact, numbered}
use Rattle.theory.specs.Rules.{Rules}
use Rattle.theory.specs.declared.inference.Inference.{Inference}
use Rattle.theory.specs.declared.inference.Outcome.{Outcome}
use Rattle.theory.specs.declared.inference.Position.{Position}
use Rattle.equality.specs.Terms.{same_name, same_term, argument, replaced}

-- ---- what is kept

-- equalities and their negations, and no rows
abbrev pub kept : Fact → Bool
kept (Fact.Equal t u) = true
kept (Fact.Distinct t u) = true
kept (Fact.Linear how row) = false

-- of two names that are told, that they are equal, or that they are not
abbrev pub kept_on_telling : Comparison → Option Fact
kept_on_telling (Comparison.Less n m) = Some (Fact.Distinct (Term.Bare n) (Term.Bare m))
kept_on_telling (Comparison.Equal n m) = Some (Fact.Equal (Term.Bare n) (Term.Bare m))
kept_on_telling (Comparison.Greater n m) = Some (Fact.Distinct (Term.Bare n) (Term.Bare m))

-- every valuation
abbrev pub admitted : Valuation → Type 0
admitted v = Unit {0}

-- ---- the checks before a rule, in their order; the theory's number is set in refusals at the end

-- the sides of a = b are exchanged if it is turned
abbrev pub oriented : Bool → Fact → Fact
oriented turned (Fact.Equal a b) = cond turned (Fact.Equal b a) (Fact.Equal a b)
oriented turned (Fact.Distinct a b) = Fact.Distinct a b
oriented turned (Fact.Linear how row) = Fact.Linear how row

-- the fact is a = b
abbrev pub by_equality : Fact → (Term → Term → Result Outcome Cause) → Result Outcome Cause
by_equality (Fact.Equal a b) rule = rule a b
by_equality (Fact.Distinct a b) rule = Err (because Refusal.WrongRelation)
by_equality (Fact.Linear how row) rule = Err (because Refusal.WrongRelation)

-- the fact is a ≠ b
abbrev pub by_negation : Fact → (Term → Term → Result Outcome Cause) → Result Outcome Cause
by_negation (Fact.Equal a b) rule = Err (because Refusal.WrongRelation)
by_negation (Fact.Distinct a b) rule = rule a b
by_negation (Fact.Linear how row) rule = Err (because Refusal.WrongRelation)

-- ---- the rules, whose conditions are that

abbrev pub fails : Cause
fails = because Refusal.ConditionFails

-- something is so
abbrev pub provided : Bool → Outcome → Result Outcome Cause
provided test outcome = cond test (Ok outcome) (Err fails)

-- a term is a name, or has an argument
abbrev pub for_name : Option Name → (Name → Result Outcome Cause) → Result Outcome Cause
for_name None rule = Err fails
for_name (Some n) rule = rule n

-- the current fact is l = r
abbrev pub on_equality : Fact → (Term → Term → Result Outcome Cause) → Result Outcome Cause
on_equality (Fact.Equal l r) rule = rule l r
on_equality (Fact.Distinct l r) rule = Err fails
on_equality (Fact.Linear how row) rule = Err fails

-- T: by a = b, a current l = a becomes l = b
abbrev pub transitivity : Term → Term → Fact → Result Outcome Cause
transitivity a b now = on_equality now (λ l r. provided (same_term r a) (Outcome.Current (Fact.Equal l b)))

-- C: by a = b of two names, an argument a of the current right side becomes b
abbrev pub congruence : Position → Term → Term → Fact → Result Outcome Cause
congruence p a b now =
    on_equality now (λ l r.
    for_name (bare_name a) (λ n.
    for_name (bare_name b) (λ m.
    for_name (argument p r) (λ k.
    provided (same_name k n) (Outcome.Current (Fact.Equal l (replaced p m r)))))))

-- N: a ≠ b contradicts a current a = b or b = a
abbrev pub clash : Term → Term → Fact → Result Outcome Cause
clash a b now =
    on_equality now (λ l r.
    provided ((same_term l a && same_term r b) || (same_term l b && same_term r a)) Outcome.Contradiction)

-- X: a current equality of two names is handed on
abbrev pub propagation : Fact → Result Outcome Cause
propagation now =
    on_equality now (λ l r. for_name (bare_name l) (λ n. for_name (bare_name r) (λ m. Ok (Outcome.Equal n m))))

-- ---- all rules: those that take a fact ask for the current fact first

abbrev pub inferred : Inference → List Fact → Option Fact → Result Outcome Cause
inferred (Inference.Reflexivity t) fs current = Ok (Outcome.Current (Fact.Equal t t))
inferred (Inference.Transitivity i turned) fs current =
    by_current current (λ now. by_fact fs (slice_get fs i) (λ f. by_equality (oriented turned f) (λ a b. transitivity a b now)))
inferred (Inference.Congruence i p turned) fs current =
    by_current current (λ now. by_fact fs (slice_get fs i) (λ f. by_equality (oriented turned f) (λ a b. congruence p a b now)))
inferred (Inference.Clash i) fs current =
    by_current current (λ now. by_fact fs (slice_get fs i) (λ f. by_negation f (λ a b. clash a b now)))
inferred Inference.Propagate fs current = by_current current propagation
inferred Inference.Zero fs current = Err (because Refusal.UnknownInference)
inferred (Inference.Add i factor) fs current = Err (because Refusal.UnknownInference)
inferred (Inference.Antisymmetry i n m) fs current = Err (because Refusal.UnknownInference)
inferred Inference.Falsify fs current = Err (because Refusal.UnknownInference)
inferred Inference.Strengthen fs current = Err (because Refusal.UnknownInference)
inferred Inference.Cut fs current = Err (because Refusal.UnknownInference)
inferred Inference.Push fs current = by_current current (λ now. Ok (Outcome.Pushed now))

abbrev pub equality_number : ℕ
equality_number = 1

-- with the theory's number in refusals
abbrev pub comes_to : Inference → List Fact → Option Fact → Result Outcome Cause
comes_to i fs current = numbered equality_number (inferred i fs current)

abbrev pub equality_rules : Rules
equality_rules = record { number = equality_number; keeps = kept; told = kept_on_telling; outcome = comes_to }
