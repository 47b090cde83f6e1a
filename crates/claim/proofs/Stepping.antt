-- The steps of a derivation, from what its theory answers.
use Rattle.std.proofs.Common.{◌≡◌, ℕ, ◌<◌, ◌≤◌, ◌⊎◌, true, false, cond, length, Some, None, Ok, Err, IsErrAnd, Result, sym, refl, ap, ◌∙◌, subst, inl, inr}
use Rattle.facts.specs.Fields.{first_bad}
use Rattle.facts.specs.Faults.{because, out_of_range}
use Rattle.facts.specs.declared.fact.Fact.{Fact}
use Rattle.facts.specs.declared.fault.Cause.{Cause}
use Rattle.facts.specs.declared.refusal.Refusal.{Refusal}
use Rattle.theory.specs.Places.{Places}
use Rattle.theory.specs.Rules.{Book}
use Rattle.theory.specs.declared.inference.Outcome.{Outcome}
use Rattle.claim.specs.Calls.{StepCall, refused, most_calls}
use Rattle.claim.specs.Counted.{place_of}
use Rattle.claim.specs.Derivations.{State, closed, working, open_splits, LeavesFact}
use Rattle.claim.specs.Derived.{state_of, answer_at, Moved, Stepped}
use Rattle.claim.specs.Sent.{StepChecked, StandsFor, step_fields, step_address}
use Rattle.claim.specs.Stacks.{stack_splits}
use Rattle.claim.specs.declared.derivation.Derivation.{Derivation}
use Rattle.claim.specs.declared.sent.SentStep.{SentStep}
use Rattle.claim.specs.declared.step.Step.{Step}

-- ---- where a step is sent

abbrev address_of : Step → ℕ
address_of (Step.Infer a i) = a
address_of (Step.Split n m) = 0

pub sent_to : (s : SentStep) (t : Step) → StandsFor s t → step_address s ≡ address_of t
sent_to (SentStep.Reflexivity a t) x h = sym (ap address_of h.1)
sent_to (SentStep.Transitivity a i t) x h = sym (ap address_of h.1)
sent_to (SentStep.Congruence a i p t) x h = sym (ap address_of h.2)
sent_to (SentStep.Clash a i) x h = sym (ap address_of h)
sent_to (SentStep.Propagate a) x h = sym (ap address_of h)
sent_to (SentStep.Zero a) x h = sym (ap address_of h)
sent_to (SentStep.Add a i c) x h = sym (ap address_of h.1)
sent_to (SentStep.Antisymmetry a i n m) x h = sym (ap address_of h.2)
sent_to (SentStep.Falsify a) x h = sym (ap address_of h)
sent_to (SentStep.Strengthen a) x h = sym (ap address_of h)
sent_to (SentStep.Cut a) x h = sym (ap address_of h)
sent_to (SentStep.Push a) x h = sym (ap address_of h)
sent_to (SentStep.Split n m) x h = sym (ap address_of h.2)

-- ---- a step of a derivation that is not closed

module _ {T : Type 0} (places_of : T → Places) (book : Book) (d : Derivation T) (is_open : d.closed ≡ false) where
  abbrev now : State
  now = working (places_of d.theory) (stack_splits d.stack)

  pub is_working : state_of places_of d ≡ now
  is_working = ap (λ c. cond c closed now) is_open

  -- with the theory that it had, a derivation is as it was
  pub same_derivation : (t : T) → t ≡ d.theory → ◌≡◌ {A = Derivation T} (record { theory = t; stack = d.stack; closed = d.closed; counts = d.counts }) d
  same_derivation t e = ap (λ x. record { theory = x; stack = d.stack; closed = d.closed; counts = d.counts }) e

  pub moved_to : (after : Derivation T) (t : Step) (final : State) → after.counts ≡ d.counts → state_of places_of after ≡ final → ((s : SentStep) → StepChecked s (Ok t) → place_of d.counts < most_calls → StepCall book (place_of d.counts) s now (Ok tt) (Some t) final) → Moved places_of book t (Ok tt) d after
  moved_to after t final counts is call =
      record {
        call = λ s checked few.
            subst (λ x. StepCall book (place_of d.counts) s x (Ok tt) (Some t) (state_of places_of after)) (sym is_working)
            (subst (StepCall book (place_of d.counts) s now (Ok tt) (Some t)) (sym is) (call s checked few));
        counts = counts;
        same = tt;
      }

  pub not_moved : (after : Derivation T) (t : Step) (c : Cause) (r : Result (Unit {0}) Cause) → IsErrAnd r (λ x. x ≡ c) → after ≡ d → ((s : SentStep) → StepChecked s (Ok t) → place_of d.counts < most_calls → StepCall book (place_of d.counts) s now (refused c (address_of t) (place_of d.counts) (length (stack_splits d.stack))) None now) → Moved places_of book t r d after
  not_moved after t c (Err e) is same call = subst (λ x. Moved places_of book t (Err x) d after) (sym is)
      (record {
        call = λ s checked few.
            subst (λ x. StepCall book (place_of d.counts) s x (refused c (step_address s) (place_of d.counts) (open_splits x)) None (state_of places_of after)) (sym is_working)
            (subst (λ a. StepCall book (place_of d.counts) s now (refused c a (place_of d.counts) (length (stack_splits d.stack))) None (state_of places_of after)) (sym (sent_to s t checked.1))
            (subst (StepCall book (place_of d.counts) s now (refused c (address_of t) (place_of d.counts) (length (stack_splits d.stack))) None) (sym (ap (state_of places_of) same ∙ is_working)) (call s checked few)));
        counts = ap (λ x. x.counts) same;
        same = same;
      })
  not_moved after t c (Ok x) is same call = absurd is

pub leaves_fact : (o : Outcome) (r : Result Outcome Cause) → Ok o ≡ r → ((f : Fact) × (o ≡ Outcome.Current f)) ⊎ ((f : Fact) × (o ≡ Outcome.Pushed f)) → LeavesFact r
leaves_fact o r e (inl h) = subst LeavesFact (ap Ok (sym h.1) ∙ e) tt
leaves_fact o r e (inr h) = subst LeavesFact (ap Ok (sym h.1) ∙ e) tt

-- ---- a call that is refused before its step is tried

module _ {T : Type 0} (places_of : T → Places) (book : Book) (d : Derivation T) (s : SentStep) where
  kept : (c : Cause) (st : State) → state_of places_of d ≡ st → StepCall book (place_of d.counts) s st (refused c (step_address s) (place_of d.counts) (open_splits st)) None st → (r : Result (Unit {0}) Cause) → IsErrAnd r (λ x. x ≡ c) → Stepped places_of book s (answer_at places_of d s r) d d
  kept c st state call (Ok x) is = absurd is
  kept c st state call (Err e) is =
      record {
        taken = None;
        call = subst (λ x. StepCall book (place_of d.counts) s x (refused e (step_address s) (place_of d.counts) (open_splits x)) None x) (sym state) (subst (λ x. StepCall book (place_of d.counts) s st (refused x (step_address s) (place_of d.counts) (open_splits st)) None st) (sym is) call);
        counted = refl;
        same = refl;
      }

  pub stepped_over : d.closed ≡ true → (r : Result (Unit {0}) Cause) → IsErrAnd r (λ x. x ≡ because Refusal.AlreadyClosed) → Stepped places_of book s (answer_at places_of d s r) d d
  stepped_over shut =
      kept (because Refusal.AlreadyClosed) closed (ap (λ x. cond x closed (working (places_of d.theory) (stack_splits d.stack))) shut) StepCall.over

  module _ (is_open : d.closed ≡ false) (r : Result (Unit {0}) Cause) where
    pub stepped_bad : (b : ℕ) → IsErrAnd r (λ x. x ≡ out_of_range b) → first_bad (step_fields s) ≡ Some b → Stepped places_of book s (answer_at places_of d s r) d d
    stepped_bad b is bad = kept (out_of_range b) _ (is_working places_of book d is_open) (StepCall.bad_field b bad) r is

    pub stepped_many : (e : Refusal) → IsErrAnd r (λ x. x ≡ because e) → first_bad (step_fields s) ≡ None → most_calls ≤ place_of d.counts → e ≡ Refusal.TooManyCalls → Stepped places_of book s (answer_at places_of d s r) d d
    stepped_many e is good many why =
        kept (because Refusal.TooManyCalls) _ (is_working places_of book d is_open) (StepCall.too_many good many) r (subst (λ x. IsErrAnd r (λ y. y ≡ because x)) why is)
