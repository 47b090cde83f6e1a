-- A derivation leaves no valuation that makes its facts true.
use Rattle.std.proofs.Common.{◌≡◌, ℕ, Bool, true, false, cond, eqb, leb, List, [], ◌∷◌, ◌++◌, length, ℤ, ◌<ℤ◌, IfSome, IfOk, Some, None, Ok, Err, Option, Result, subst, arith}
use Rattle.std.proofs.lemmas.Int.{ints, by_lt_z}
use Rattle.std.specs.Option.{option_map}
use Rattle.facts.specs.Valuations.{Valuation, True, Compared}
use Rattle.facts.specs.declared.fact.Comparison.{Comparison}
use Rattle.facts.specs.declared.fact.Fact.{Fact}
use Rattle.facts.specs.declared.fault.Cause.{Cause}
use Rattle.theory.specs.Places.{Place, Places, opened, add, most_facts}
use Rattle.theory.specs.Rules.{Rules, Book, Sound, AllSound, AllTrue, OutcomeTrue, telling_wanted, told_by, with_wanted, outcome_at, outcome_by, within_room, no_room, changed_by}
use Rattle.theory.specs.declared.inference.Inference.{Inference}
use Rattle.theory.specs.declared.inference.Outcome.{Outcome}
use Rattle.claim.specs.Derivations.{Derives, contradiction, fact, equality, split, LeavesFact, told, all_opened, changed_at, branch_from}
use Rattle.claim.specs.declared.step.Step.{Step}

trichotomy : {X : Type 0} (a b : ℤ) → (a <ℤ b → X) → (a ≡ b → X) → (b <ℤ a → X) → X
trichotomy a b less equal greater = by_lt_z a b less (λ h. by_lt_z b a greater (λ k. equal (omega (arith, ints))))

module _ (v : Valuation) where
  -- what stands at a place is true
  pub record PlaceTrue (p : Place) : Type 0 where
    pub facts : AllTrue v p.facts
    pub current : IfSome p.current (True v)

  abbrev pub OptionTrue : Option Place → Type 0
  OptionTrue None = Unit {0}
  OptionTrue (Some p) = PlaceTrue p

  -- and so at every address
  abbrev pub AllPlacesTrue : Places → Type 0
  AllPlacesTrue ps = (a : ℕ) → OptionTrue (ps a)

  pub all_true_push : (fs : List Fact) (f : Fact) → AllTrue v fs → True v f → AllTrue v (fs ++ (f ∷ []))
  all_true_push [] f h k = (k, tt)
  all_true_push (g ∷ fs) f h k = (h.0, all_true_push fs f h.1 k)

  pub add_true : (f : Fact) (p : Place) → PlaceTrue p → True v f → PlaceTrue (add f p)
  add_true f p h k = record { facts = all_true_push p.facts f h.facts k; current = h.current }

  pub wanted_true : (w : Option Fact) (q : Option Place) → IfSome w (True v) → OptionTrue q → OptionTrue (with_wanted w q)
  wanted_true None q h k = k
  wanted_true (Some f) None h k = tt
  wanted_true (Some f) (Some p) h k = add_true f p k h

  opened_true : (q : Option Place) → OptionTrue q → OptionTrue (option_map opened q)
  opened_true None h = tt
  opened_true (Some p) h = record { facts = h.facts; current = tt }

  changed_true : (r : Result Outcome Cause) (p : Place) → IfOk r (OutcomeTrue v) → LeavesFact r → PlaceTrue p → PlaceTrue (changed_by r p)
  changed_true (Ok (Outcome.Current f)) p h l k = record { facts = k.facts; current = h }
  changed_true (Ok (Outcome.Pushed f)) p h l k = add_true f p k h
  changed_true (Ok (Outcome.Equal n m)) p h l k = k
  changed_true (Ok Outcome.Contradiction) p h l k = k
  changed_true (Err c) p h l k = k

  within_room_true : (number : ℕ) (fs : List Fact) (r : Result Outcome Cause) → IfOk r (OutcomeTrue v) → IfOk (within_room number fs r) (OutcomeTrue v)
  within_room_true number fs (Ok (Outcome.Pushed f)) h = test (leb most_facts (length fs))
    where
      test : (b : Bool) → IfOk (cond b (Err (no_room number)) (Ok (Outcome.Pushed f))) (OutcomeTrue v)
      test true = tt
      test false = h
  within_room_true number fs (Ok (Outcome.Current f)) h = h
  within_room_true number fs (Ok (Outcome.Equal n m)) h = h
  within_room_true number fs (Ok Outcome.Contradiction) h = h
  within_room_true number fs (Err c) h = h

  module _ (admits : Valuation → Type 0) (book : Book) (sound : AllSound admits book) (admitted : admits v) where
    outcome_true : (ps : Places) → AllPlacesTrue ps → (a : ℕ) (i : Inference) → IfOk (outcome_at book ps a i) (OutcomeTrue v)
    outcome_true ps h a i = at (book a) (ps a) (sound a) (h a)
      where
        at : (r : Option Rules) (q : Option Place) → IfSome r (Sound admits) → OptionTrue q → IfOk (outcome_by r q i) (OutcomeTrue v)
        at None q s k = tt
        at (Some r) None s k = tt
        at (Some r) (Some p) s k = within_room_true r.number p.facts (r.outcome i p.facts p.current) (s.infers v admitted i p.facts p.current k.facts k.current)

    told_true : (k : Comparison) (ps : Places) → Compared v k → AllPlacesTrue ps → AllPlacesTrue (told book k ps)
    told_true k ps is h a = wanted_true (telling_wanted book k a) (ps a) (at (book a) (sound a)) (h a)
      where
        at : (r : Option Rules) → IfSome r (Sound admits) → IfSome (told_by k r) (True v)
        at None s = tt
        at (Some r) s = s.tells v k is

    branch_true : (k : Comparison) (ps : Places) → Compared v k → AllPlacesTrue ps → AllPlacesTrue (branch_from book k ps)
    branch_true k ps is h = told_true k (all_opened ps) is (λ a. opened_true (ps a) (h a))

    after_true : (a : ℕ) (o : Result Outcome Cause) (ps : Places) → IfOk o (OutcomeTrue v) → LeavesFact o → AllPlacesTrue ps → AllPlacesTrue (changed_at a o ps)
    after_true a o ps is l h b = at (eqb b a) (ps b) (h b)
      where
        at : (t : Bool) (q : Option Place) → OptionTrue q → OptionTrue (cond t (option_map (changed_by o) q) q)
        at true None k = tt
        at true (Some p) k = changed_true o p is l k
        at false q k = k

    -- where there is a derivation, no admitted valuation makes what stands true
    pub no_valuation : (d : ℕ) (ps : Places) (w : List Step) → Derives book d ps w → AllPlacesTrue ps → ⊥
    no_valuation d ps w (contradiction a i h) k = subst (λ r. IfOk r (OutcomeTrue v)) h (outcome_true ps k a i)
    no_valuation d ps w (fact a i h r) k = no_valuation d _ _ r (after_true a (outcome_at book ps a i) ps (outcome_true ps k a i) h k)
    no_valuation d ps w (equality a i n m h room r) k =
        no_valuation d _ _ r (told_true (Comparison.Equal n m) ps (subst (λ r. IfOk r (OutcomeTrue v)) h (outcome_true ps k a i)) k)
    no_valuation d ps w (split n m few r1 r2 r3 d1 d2 d3) k =
        trichotomy (v.numerator n.index) (v.numerator m.index)
        (λ is. no_valuation _ _ _ d1 (branch_true (Comparison.Less n m) ps is k))
        (λ is. no_valuation _ _ _ d2 (branch_true (Comparison.Equal n m) ps is k))
        (λ is. no_valuation _ _ _ d3 (branch_true (Comparison.Greater n m) ps is k))
