-- What a rule of equality comes to is true where the facts and the current fact are.
use Rattle.std.specs.Prelude.{◌≡◌, Bool, true, false, ◌&&◌, ◌||◌, List, ℤ, IfSome, Some, None, Ok, Option, Result, ◌≢◌, refl}
use Rattle.std.proofs.Common.{sym, ap, ◌∙◌, ⊎_elim, arith}
use Rattle.std.proofs.lemmas.Int.{ints}
use Rattle.std.proofs.lemmas.Bool.Decides.{Decides-and, Decides-or}
use Rattle.facts.specs.Terms.{bare_name}
use Rattle.facts.specs.Valuations.{Valuation, True, Compared, term_number}
use Rattle.facts.specs.declared.fact.Comparison.{Comparison}
use Rattle.facts.specs.declared.fact.Fact.{Fact}
use Rattle.facts.specs.declared.fault.Cause.{Cause}
use Rattle.facts.specs.declared.name.Name.{Name}
use Rattle.facts.specs.declared.term.Term.{Term}
use Rattle.theory.specs.Rules.{AllTrue, OutcomeTrue, Sound}
use Rattle.theory.specs.declared.inference.Inference.{Inference}
use Rattle.theory.specs.declared.inference.Outcome.{Outcome}
use Rattle.theory.specs.declared.inference.Position.{Position}
use Rattle.theory.proofs.Truths.{ComesTrue, current_true, fact_true, numbered_true}
use Rattle.equality.specs.Terms.{same_name, same_term, argument, replaced}
use Rattle.equality.specs.Equality.{equality_number, inferred, oriented, by_equality, by_negation, provided, for_name, on_equality, transitivity, congruence, clash, propagation, comes_to, kept_on_telling, admitted, equality_rules}
use Rattle.equality.specs.Same.{name_decided, term_decided}

module _ (v : Valuation) where
  abbrev number_of_name : Name → ℤ
  number_of_name n = v.numerator n.index

  oriented_true : (turned : Bool) (f : Fact) → True v f → True v (oriented turned f)
  oriented_true true (Fact.Equal a b) holds = sym holds
  oriented_true false (Fact.Equal a b) holds = holds
  oriented_true turned (Fact.Distinct a b) holds = holds
  oriented_true turned (Fact.Linear how row) holds = holds

  equality_true : (f : Fact) (rule : Term → Term → Result Outcome Cause) → True v f → ((a b : Term) → term_number v a ≡ term_number v b → ComesTrue v (rule a b)) → ComesTrue v (by_equality f rule)
  equality_true (Fact.Equal a b) rule holds each = each a b holds
  equality_true (Fact.Distinct a b) rule holds each = tt
  equality_true (Fact.Linear how row) rule holds each = tt

  negation_true : (f : Fact) (rule : Term → Term → Result Outcome Cause) → True v f → ((a b : Term) → (term_number v a ≢ term_number v b) → ComesTrue v (rule a b)) → ComesTrue v (by_negation f rule)
  negation_true (Fact.Equal a b) rule holds each = tt
  negation_true (Fact.Distinct a b) rule holds each = each a b holds
  negation_true (Fact.Linear how row) rule holds each = tt

  -- ---- the conditions of a rule

  provided_true : (test : Bool) (o : Outcome) → (test ≡ true → OutcomeTrue v o) → ComesTrue v (provided test o)
  provided_true true o each = each refl
  provided_true false o each = tt

  name_true : (o : Option Name) (rule : Name → Result Outcome Cause) → ((n : Name) → o ≡ Some n → ComesTrue v (rule n)) → ComesTrue v (for_name o rule)
  name_true None rule each = tt
  name_true (Some n) rule each = each n refl

  on_true : (now : Fact) (rule : Term → Term → Result Outcome Cause) → True v now → ((l r : Term) → term_number v l ≡ term_number v r → ComesTrue v (rule l r)) → ComesTrue v (on_equality now rule)
  on_true (Fact.Equal l r) rule holds each = each l r holds
  on_true (Fact.Distinct l r) rule holds each = tt
  on_true (Fact.Linear how row) rule holds each = tt

  -- ---- the rules

  transitivity_true : (a b : Term) (now : Fact) → term_number v a ≡ term_number v b → True v now → ComesTrue v (transitivity a b now)
  transitivity_true a b now same holds =
      on_true now _ holds (λ l r current.
      provided_true (same_term r a) _ (λ test.
      current ∙ ap (term_number v) ((term_decided r a).0 test) ∙ same))

  bare_number : (t : Term) (n : Name) → bare_name t ≡ Some n → term_number v t ≡ number_of_name n
  bare_number (Term.Bare k) n e = let same : k ≡ n = cc in ap number_of_name same
  bare_number (Term.Unary s k) n e = cc
  bare_number (Term.Binary s k j) n e = cc

  -- an argument that becomes an equal name leaves the term's number
  replaced_number : (p : Position) (t : Term) (k m : Name) → argument p t ≡ Some k → number_of_name k ≡ number_of_name m → term_number v t ≡ term_number v (replaced p m t)
  replaced_number p (Term.Bare n) k m e same = refl
  replaced_number Position.First (Term.Unary s n) k m e same =
      let is : n ≡ k = cc in ap (λ z. v.unary s.index z) (ap number_of_name is ∙ same)
  replaced_number Position.Second (Term.Unary s n) k m e same = refl
  replaced_number Position.First (Term.Binary s n j) k m e same =
      let is : n ≡ k = cc in ap (λ z. v.binary s.index z (number_of_name j)) (ap number_of_name is ∙ same)
  replaced_number Position.Second (Term.Binary s n j) k m e same =
      let is : j ≡ k = cc in ap (λ z. v.binary s.index (number_of_name n) z) (ap number_of_name is ∙ same)

  congruence_true : (p : Position) (a b : Term) (now : Fact) → term_number v a ≡ term_number v b → True v now → ComesTrue v (congruence p a b now)
  congruence_true p a b now same holds =
      on_true now _ holds (λ l r current.
      name_true (bare_name a) _ (λ n a-is.
      name_true (bare_name b) _ (λ m b-is.
      name_true (argument p r) _ (λ k r-has.
      provided_true (same_name k n) _ (λ test.
      current
      ∙ replaced_number p r k m r-has (ap number_of_name ((name_decided k n).0 test) ∙ sym (bare_number a n a-is) ∙ same ∙ bare_number b m b-is))))))

  clash_true : (a b : Term) (now : Fact) → (term_number v a ≢ term_number v b) → True v now → ComesTrue v (clash a b now)
  clash_true a b now apart holds =
      on_true now _ holds (λ l r current.
      provided_true ((same_term l a && same_term r b) || (same_term l b && same_term r a)) Outcome.Contradiction (λ test.
      ⊎_elim
      (λ h. apart (ap (term_number v) (sym h.0) ∙ current ∙ ap (term_number v) h.1))
      (λ h. apart (ap (term_number v) (sym h.1) ∙ sym current ∙ ap (term_number v) h.0))
      ((Decides-or _ _ (Decides-and _ _ (term_decided l a) (term_decided r b)) (Decides-and _ _ (term_decided l b) (term_decided r a))).0 test)))

  propagation_true : (now : Fact) → True v now → ComesTrue v (propagation now)
  propagation_true now holds =
      on_true now _ holds (λ l r current.
      name_true (bare_name l) _ (λ n l-is.
      name_true (bare_name r) _ (λ m r-is.
      sym (bare_number l n l-is) ∙ current ∙ bare_number r m r-is)))

  -- ---- an inference, and a telling

  inferred_true : (i : Inference) (fs : List Fact) (current : Option Fact) → AllTrue v fs → IfSome current (True v) → ComesTrue v (inferred i fs current)
  inferred_true (Inference.Reflexivity t) fs current all holds = refl
  inferred_true (Inference.Transitivity i turned) fs current all holds =
      current_true v current _ holds (λ now is. fact_true v fs i _ all (λ f f-is. equality_true (oriented turned f) _ (oriented_true turned f f-is) (λ a b same. transitivity_true a b now same is)))
  inferred_true (Inference.Congruence i p turned) fs current all holds =
      current_true v current _ holds (λ now is. fact_true v fs i _ all (λ f f-is. equality_true (oriented turned f) _ (oriented_true turned f f-is) (λ a b same. congruence_true p a b now same is)))
  inferred_true (Inference.Clash i) fs current all holds =
      current_true v current _ holds (λ now is. fact_true v fs i _ all (λ f f-is. negation_true f _ f-is (λ a b apart. clash_true a b now apart is)))
  inferred_true Inference.Propagate fs current all holds = current_true v current propagation holds propagation_true
  inferred_true Inference.Zero fs current all holds = tt
  inferred_true (Inference.Add i factor) fs current all holds = tt
  inferred_true (Inference.Antisymmetry i n m) fs current all holds = tt
  inferred_true Inference.Falsify fs current all holds = tt
  inferred_true Inference.Strengthen fs current all holds = tt
  inferred_true Inference.Cut fs current all holds = tt
  inferred_true Inference.Push fs current all holds = current_true v current (λ now. Ok (Outcome.Pushed now)) holds (λ now is. is)

  infers : (i : Inference) (fs : List Fact) (current : Option Fact) → AllTrue v fs → IfSome current (True v) → ComesTrue v (comes_to i fs current)
  infers i fs current all holds = numbered_true v equality_number (inferred i fs current) (inferred_true i fs current all holds)

  tells : (k : Comparison) → Compared v k → IfSome (kept_on_telling k) (True v)
  tells (Comparison.Less n m) h = λ e. omega (arith, ints)
  tells (Comparison.Equal n m) h = h
  tells (Comparison.Greater n m) h = λ e. omega (arith, ints)

pub equality_sound : Sound admitted equality_rules
equality_sound =
    record { infers = λ v _. infers v; tells = tells }
