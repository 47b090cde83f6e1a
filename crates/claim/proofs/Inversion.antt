-- What the first step of a derivation says of it.
use Rattle.std.proofs.Common.{◌≡◌, ℕ, suc, ◌<◌, ◌≤◌, ◌⊎◌, List, [], ◌∷◌, ◌++◌, Ok, Err, sym, refl, ap, ◌∙◌, subst, inl, inr, arith}
use Rattle.facts.specs.declared.fact.Comparison.{Comparison}
use Rattle.facts.specs.declared.fault.Cause.{Cause}
use Rattle.facts.specs.declared.name.Name.{Name}
use Rattle.theory.specs.Places.{Places}
use Rattle.theory.specs.Rules.{Book, telling_wanted, outcome_at, Wanted, Full, Room}
use Rattle.theory.specs.declared.inference.Inference.{Inference}
use Rattle.theory.specs.declared.inference.Outcome.{Outcome}
use Rattle.claim.specs.Derivations.{Derives, contradiction, fact, equality, split, Then, LeavesFact, RoomTold, told, changed_at, branch_from, most_splits}
use Rattle.claim.specs.declared.step.Step.{Step}
use Rattle.claim.proofs.Parts.{Same}

-- there is not room for all where some address is full
clash : (ps : Places) (w : Wanted) → Room ps w → Full ps w → ⊥
clash ps w room (a, p, f, stands, wants, many) = let few = room a p f stands wants in omega arith

module _ (book : Book) where
  never_empty : (d : ℕ) (ps : Places) (w : List Step) → Derives book d ps w → w ≡ [] → ⊥
  never_empty d ps w (contradiction a i h) e = let z : ◌≡◌ {A = ℕ} 0 1 = cc in omega arith
  never_empty d ps w (fact a i h r) e = let z : ◌≡◌ {A = ℕ} 0 1 = cc in omega arith
  never_empty d ps w (equality a i n m h k r) e = let z : ◌≡◌ {A = ℕ} 0 1 = cc in omega arith
  never_empty d ps w (split n m h r1 r2 r3 d1 d2 d3) e = let z : ◌≡◌ {A = ℕ} 0 1 = cc in omega arith

  pub some_step : (d : ℕ) (ps : Places) → Derives book d ps [] → ⊥
  some_step d ps h = never_empty d ps [] h refl

  -- the ways a derivation can begin with an inference
  abbrev AfterInference : ℕ → Places → ℕ → Inference → List Step → Type 0
  AfterInference d ps a i w =
      ((outcome_at book ps a i ≡ Ok Outcome.Contradiction) × (w ≡ []))
      ⊎ ((LeavesFact (outcome_at book ps a i) × Derives book d (changed_at a (outcome_at book ps a i) ps) w)
      ⊎ ((n : Name) × (m : Name) × (outcome_at book ps a i ≡ Ok (Outcome.Equal n m)) × RoomTold book (Comparison.Equal n m) ps × Derives book d (told book (Comparison.Equal n m) ps) w))

  pub record AfterSplit (d : ℕ) (ps : Places) (n m : Name) (w : List Step) : Type 0 where
    pub few : d < most_splits
    pub less : RoomTold book (Comparison.Less n m) ps
    pub equal : RoomTold book (Comparison.Equal n m) ps
    pub greater : RoomTold book (Comparison.Greater n m) ps
    pub branches : Then (Derives book (suc d) (branch_from book (Comparison.Less n m) ps)) (Then (Derives book (suc d) (branch_from book (Comparison.Equal n m) ps)) (Derives book (suc d) (branch_from book (Comparison.Greater n m) ps))) w

  abbrev After : ℕ → Places → Step → List Step → Type 0
  After d ps (Step.Infer a i) w = AfterInference d ps a i w
  After d ps (Step.Split n m) w = AfterSplit d ps n m w

  begins : (d : ℕ) (ps : Places) (v : List Step) → Derives book d ps v → (s : Step) (w : List Step) → v ≡ s ∷ w → After d ps s w
  begins d ps v (contradiction a i h) s w e =
      let first : Step.Infer a i ≡ s = cc in
      let rest : [] ≡ w = cc in
      subst (λ t. After d ps t w) first (subst (λ x. After d ps (Step.Infer a i) x) rest (inl (h, refl)))
  begins d ps v (fact {w = u} a i h r) s w e =
      let first : Step.Infer a i ≡ s = cc in
      let rest : u ≡ w = cc in
      subst (λ t. After d ps t w) first (subst (λ x. After d ps (Step.Infer a i) x) rest (inr (inl (h, r))))
  begins d ps v (equality {w = u} a i n m h k r) s w e =
      let first : Step.Infer a i ≡ s = cc in
      let rest : u ≡ w = cc in
      subst (λ t. After d ps t w) first (subst (λ x. After d ps (Step.Infer a i) x) rest (inr (inr (n, m, h, k, r))))
  begins d ps v (split {first = f} {second = g} {third = t} n m h r1 r2 r3 d1 d2 d3) s w e =
      let first : Step.Split n m ≡ s = cc in
      let rest : f ++ (g ++ t) ≡ w = cc in
      subst (λ z. After d ps z w) first
      (subst (λ x. After d ps (Step.Split n m) x) rest
      (record { few = h; less = r1; equal = r2; greater = r3; branches = (f, g ++ t, refl, d1, (g, t, refl, d2, d3)) }))

  pub begun : (d : ℕ) (ps : Places) (s : Step) (w : List Step) → Derives book d ps (s ∷ w) → After d ps s w
  begun d ps s w h = begins d ps (s ∷ w) h s w refl

  -- ---- a step that can be taken, and what it leaves to derive

  module _ (d : ℕ) (ps : Places) (a : ℕ) (i : Inference) where
    pub after_contradiction : outcome_at book ps a i ≡ Ok Outcome.Contradiction → Same (λ w. Derives book d ps (Step.Infer a i ∷ w)) (λ w. w ≡ [])
    after_contradiction h w = (λ r. back (begun d ps (Step.Infer a i) w r), λ e. subst (λ x. Derives book d ps (Step.Infer a i ∷ x)) (sym e) (contradiction a i h))
      where
        back : AfterInference d ps a i w → w ≡ []
        back (inl k) = k.1
        back (inr (inl k)) = absurd (subst LeavesFact h k.0)
        back (inr (inr k)) = let z : ◌≡◌ {A = ℕ} 0 1 = (let e = k.2 in cc) in absurd (omega arith)

    pub after_fact : LeavesFact (outcome_at book ps a i) → Same (λ w. Derives book d ps (Step.Infer a i ∷ w)) (Derives book d (changed_at a (outcome_at book ps a i) ps))
    after_fact h w = (λ r. back (begun d ps (Step.Infer a i) w r), λ r. fact a i h r)
      where
        back : AfterInference d ps a i w → Derives book d (changed_at a (outcome_at book ps a i) ps) w
        back (inl k) = absurd (subst LeavesFact k.0 h)
        back (inr (inl k)) = k.1
        back (inr (inr k)) = absurd (subst LeavesFact k.2 h)

    pub after_equality : (n m : Name) → outcome_at book ps a i ≡ Ok (Outcome.Equal n m) → RoomTold book (Comparison.Equal n m) ps → Same (λ w. Derives book d ps (Step.Infer a i ∷ w)) (Derives book d (told book (Comparison.Equal n m) ps))
    after_equality n m h room w = (λ r. back (begun d ps (Step.Infer a i) w r), λ r. equality a i n m h room r)
      where
        back : AfterInference d ps a i w → Derives book d (told book (Comparison.Equal n m) ps) w
        back (inl k) = let z : ◌≡◌ {A = ℕ} 0 1 = (let e = k.0 in cc) in absurd (omega arith)
        back (inr (inl k)) = absurd (subst LeavesFact h k.0)
        back (inr (inr k)) =
            let same : Comparison.Equal k.0 k.1 ≡ Comparison.Equal n m = (let e = k.2 in cc) in
            subst (λ c. Derives book d (told book c ps) w) same k.4

    -- a refused inference begins no derivation
    pub no_refused : (c : Cause) → outcome_at book ps a i ≡ Err c → (w : List Step) → Derives book d ps (Step.Infer a i ∷ w) → ⊥
    no_refused c h w r = back (begun d ps (Step.Infer a i) w r)
      where
        back : AfterInference d ps a i w → ⊥
        back (inl k) = let z : ◌≡◌ {A = ℕ} 0 1 = (let e = k.0 in cc) in omega arith
        back (inr (inl k)) = subst LeavesFact h k.0
        back (inr (inr k)) = let z : ◌≡◌ {A = ℕ} 0 1 = (let e = k.2 in cc) in omega arith

    -- nor does an equality for which some address has no room
    pub no_equality : (n m : Name) → outcome_at book ps a i ≡ Ok (Outcome.Equal n m) → Full ps (telling_wanted book (Comparison.Equal n m)) → (w : List Step) → Derives book d ps (Step.Infer a i ∷ w) → ⊥
    no_equality n m h full w r = back (begun d ps (Step.Infer a i) w r)
      where
        back : AfterInference d ps a i w → ⊥
        back (inl k) = let z : ◌≡◌ {A = ℕ} 0 1 = (let e = k.0 in cc) in omega arith
        back (inr (inl k)) = subst LeavesFact h k.0
        back (inr (inr k)) =
            let same : Comparison.Equal k.0 k.1 ≡ Comparison.Equal n m = (let e = k.2 in cc) in
            clash ps (telling_wanted book (Comparison.Equal n m)) (subst (λ c. RoomTold book c ps) same k.3) full

  pub after_split : (d : ℕ) (ps : Places) (n m : Name) → d < most_splits → RoomTold book (Comparison.Less n m) ps → RoomTold book (Comparison.Equal n m) ps → RoomTold book (Comparison.Greater n m) ps → Same (λ w. Derives book d ps (Step.Split n m ∷ w)) (Then (Derives book (suc d) (branch_from book (Comparison.Less n m) ps)) (Then (Derives book (suc d) (branch_from book (Comparison.Equal n m) ps)) (Derives book (suc d) (branch_from book (Comparison.Greater n m) ps))))
  after_split d ps n m few less equal greater w = (λ r. (begun d ps (Step.Split n m) w r).branches, λ t. forth t.0 t.1 t.2 t.3 t.4)
    where
      forth : (u x : List Step) → w ≡ u ++ x → Derives book (suc d) (branch_from book (Comparison.Less n m) ps) u → Then (Derives book (suc d) (branch_from book (Comparison.Equal n m) ps)) (Derives book (suc d) (branch_from book (Comparison.Greater n m) ps)) x → Derives book d ps (Step.Split n m ∷ w)
      forth u x e d1 t =
          subst (λ z. Derives book d ps (Step.Split n m ∷ z)) (sym (e ∙ ap (λ y. u ++ y) t.2)) (split n m few less equal greater d1 t.3 t.4)

  -- a split that is refused begins no derivation
  pub no_split : (d : ℕ) (ps : Places) (n m : Name) → (most_splits ≤ d) ⊎ (Full ps (telling_wanted book (Comparison.Less n m)) ⊎ (Full ps (telling_wanted book (Comparison.Equal n m)) ⊎ Full ps (telling_wanted book (Comparison.Greater n m)))) → (w : List Step) → Derives book d ps (Step.Split n m ∷ w) → ⊥
  no_split d ps n m why w r = back (begun d ps (Step.Split n m) w r) why
    where
      back : AfterSplit d ps n m w → (most_splits ≤ d) ⊎ (Full ps (telling_wanted book (Comparison.Less n m)) ⊎ (Full ps (telling_wanted book (Comparison.Equal n m)) ⊎ Full ps (telling_wanted book (Comparison.Greater n m)))) → ⊥
      back k (inl many) = let few = k.few in omega arith
      back k (inr (inl full)) = clash ps _ k.less full
      back k (inr (inr (inl full))) = clash ps _ k.equal full
      back k (inr (inr (inr full))) = clash ps _ k.greater full
