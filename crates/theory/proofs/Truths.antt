-- What is true where the facts and the current fact are.
use Rattle.std.proofs.Common.{◌≡◌, ℕ, zero, suc, ◌<◌, List, [], ◌∷◌, length, get_or, Some, None, Ok, Err, Option, Result, ⊎_elim, refl, subst, arith}
use Rattle.std.specs.List.{slice_get}
use Rattle.std.specs.Option.{IfSome}
use Rattle.std.specs.Result.{IfOk}
use Rattle.std.proofs.lemmas.Bool.Decides.{leb_tells}
use Rattle.std.proofs.lemmas.Option.{slice_get-get_or, slice_get_past}
use Rattle.facts.specs.Valuations.{Valuation, True}
use Rattle.facts.specs.declared.fact.Fact.{Fact}
use Rattle.facts.specs.declared.fault.Cause.{Cause}
use Rattle.theory.specs.Premises.{by_current, by_fact, numbered}
use Rattle.theory.specs.Rules.{AllTrue, OutcomeTrue}
use Rattle.theory.specs.declared.inference.Outcome.{Outcome}

pub true_at : (v : Valuation) (fs : List Fact) (i : ℕ) (d : Fact) → AllTrue v fs → i < length fs → True v (get_or fs i d)
true_at v [] i d all inside = absurd (omega arith)
true_at v (f ∷ fs) zero d all inside = all.0
true_at v (f ∷ fs) (suc i) d all inside = true_at v fs i d all.1 (omega arith)

module _ (v : Valuation) where
  -- a fact among them
  found_true : (fs : List Fact) (i : ℕ) (f : Fact) → AllTrue v fs → slice_get fs i ≡ Some f → True v f
  found_true fs i f all e =
      ⊎_elim
      (λ past.
      let none : slice_get fs i ≡ None = slice_get_past fs i past.1 in
      absurd cc)
      (λ inside.
      let at : slice_get fs i ≡ Some (get_or fs i f) = slice_get-get_or fs i f inside.1 in
      let same : get_or fs i f ≡ f = cc in
      subst (True v) same (true_at v fs i f all inside.1))
      (leb_tells (length fs) i)

  -- what a rule comes to, unless it is refused
  abbrev pub ComesTrue : Result Outcome Cause → Type 0
  ComesTrue r = IfOk r (OutcomeTrue v)

  pub current_true : (o : Option Fact) (rule : Fact → Result Outcome Cause) → IfSome o (True v) → ((now : Fact) → True v now → ComesTrue (rule now)) → ComesTrue (by_current o rule)
  current_true None rule holds each = tt
  current_true (Some now) rule holds each = each now holds

  pub fact_true : (fs : List Fact) (i : ℕ) (rule : Fact → Result Outcome Cause) → AllTrue v fs → ((f : Fact) → True v f → ComesTrue (rule f)) → ComesTrue (by_fact fs (slice_get fs i) rule)
  fact_true fs i rule all each = at (slice_get fs i) (λ f. found_true fs i f all)
    where
      at : (o : Option Fact) → ((f : Fact) → o ≡ Some f → True v f) → ComesTrue (by_fact fs o rule)
      at None found = tt
      at (Some f) found = each f (found f refl)

  pub numbered_true : (number : ℕ) (r : Result Outcome Cause) → ComesTrue r → ComesTrue (numbered number r)
  numbered_true number (Ok o) h = h
  numbered_true number (Err c) h = tt
