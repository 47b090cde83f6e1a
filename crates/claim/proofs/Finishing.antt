-- How a step changes what is left to do.
use Rattle.std.proofs.Common.{◌≡◌, ℕ, suc, ◌<◌, List, [], ◌∷◌, length, Ok, sym, ap, subst}
use Rattle.facts.specs.declared.fact.Comparison.{Comparison}
use Rattle.facts.specs.declared.name.Name.{Name}
use Rattle.theory.specs.Places.{Places}
use Rattle.theory.specs.Rules.{Book, outcome_at}
use Rattle.theory.specs.declared.inference.Inference.{Inference}
use Rattle.theory.specs.declared.inference.Outcome.{Outcome}
use Rattle.claim.specs.Derivations.{Derives, Then, Unbegun, Waiting, Finishes, working, Left, next, by_branch, in_branch, LeavesFact, RoomTold, told, all_dropped, changed_at, branch_from, most_splits}
use Rattle.claim.specs.declared.step.Branch.{Branch}
use Rattle.claim.specs.declared.step.OpenSplit.{OpenSplit}
use Rattle.claim.specs.declared.step.Step.{Step}
use Rattle.claim.proofs.Inversion.{some_step, after_contradiction, after_fact, after_equality, after_split}
use Rattle.claim.proofs.Levels.{dropped_changed, dropped_told, opened_again, dropped_twice}
use Rattle.claim.proofs.Parts.{Same, same_refl, same_sym, same_trans, then_left, then_right, then_assoc, then_none, then_first}

module _ (book : Book) where
  -- a branch begins alike after another branch of its split was dropped
  again : (k l : Comparison) (ps : Places) → branch_from book k (all_dropped (branch_from book l ps)) ≡ branch_from book k ps
  again k l ps = ap (told book k) (opened_again book l ps)

  module _ (s : OpenSplit) (ss : List OpenSplit) (ps : Places) where
    abbrev equal : Comparison
    equal = Comparison.Equal s.left s.right

    abbrev greater : Comparison
    greater = Comparison.Greater s.left s.right

    abbrev d : ℕ
    d = suc (length ss)

    abbrev E : List Step → Type 0
    E = Derives book d (branch_from book equal ps)

    abbrev G : List Step → Type 0
    G = Derives book d (branch_from book greater ps)

    abbrev Q : List Step → Type 0
    Q = Waiting book ss (all_dropped ps)

    second_next : Same (Then (Then E G) Q) (Finishes book (branch_from book equal ps) (in_branch s Branch.Second ∷ ss))
    second_next =
        subst (λ x. Same (Then (Then E G) Q) (Then E (Then (Derives book d x) (Waiting book ss (all_dropped (all_dropped (branch_from book equal ps))))))) (sym (again greater equal ps))
        (subst (λ x. Same (Then (Then E G) Q) (Then E (Then G (Waiting book ss x)))) (sym (dropped_twice book equal ps)) (then_assoc E G Q))

    third_next : Same (Then G Q) (Finishes book (branch_from book greater ps) (in_branch s Branch.Third ∷ ss))
    third_next =
        subst (λ x. Same (Then G Q) (Then G (Then (λ w. w ≡ []) (Waiting book ss x)))) (sym (dropped_twice book greater ps))
        (then_right G Q (Then (λ w. w ≡ []) Q) (same_sym (Then (λ w. w ≡ []) Q) Q (then_none Q)))

  next_by_branch : (s : OpenSplit) (ss : List OpenSplit) (ps : Places) → Same (Waiting book ss (all_dropped ps)) (Left book (next book ss (all_dropped ps))) → (b : Branch) → Same (Then (Unbegun book (suc (length ss)) s.left s.right b ps) (Waiting book ss (all_dropped ps))) (Left book (by_branch b (working (branch_from book (Comparison.Equal s.left s.right) ps) (in_branch s Branch.Second ∷ ss)) (working (branch_from book (Comparison.Greater s.left s.right) ps) (in_branch s Branch.Third ∷ ss)) (next book ss (all_dropped ps))))
  next_by_branch s ss ps rest Branch.First = second_next s ss ps
  next_by_branch s ss ps rest Branch.Second = third_next s ss ps
  next_by_branch s ss ps rest Branch.Third =
      same_trans (Then (λ w. w ≡ []) (Waiting book ss (all_dropped ps))) (Waiting book ss (all_dropped ps)) (Left book (next book ss (all_dropped ps))) (then_none (Waiting book ss (all_dropped ps))) rest

  -- what waits is what is left of the next state
  pub next_left : (ss : List OpenSplit) (ps : Places) → Same (Waiting book ss ps) (Left book (next book ss ps))
  next_left [] ps = same_refl (λ w. w ≡ [])
  next_left (s ∷ ss) ps = next_by_branch s ss ps (next_left ss (all_dropped ps)) s.branch

  -- ---- the kinds of step

  module _ (ps : Places) (ss : List OpenSplit) where
    abbrev D : Places → List Step → Type 0
    D = Derives book (length ss)

    abbrev W : List Step → Type 0
    W = Waiting book ss (all_dropped ps)

    first : (s : Step) → Same (λ w. Finishes book ps ss (s ∷ w)) (Then (λ u. D ps (s ∷ u)) W)
    first s = then_first (D ps) W (some_step book (length ss) ps) s

    pub took_contradiction : (a : ℕ) (i : Inference) → outcome_at book ps a i ≡ Ok Outcome.Contradiction → Same (λ w. Finishes book ps ss (Step.Infer a i ∷ w)) (Left book (next book ss (all_dropped ps)))
    took_contradiction a i h =
        same_trans _ _ _ (first (Step.Infer a i))
        (same_trans _ _ _ (then_left (λ u. D ps (Step.Infer a i ∷ u)) (λ u. u ≡ []) W (after_contradiction book (length ss) ps a i h))
        (same_trans _ _ _ (then_none W) (next_left ss (all_dropped ps))))

    pub took_fact : (a : ℕ) (i : Inference) → LeavesFact (outcome_at book ps a i) → Same (λ w. Finishes book ps ss (Step.Infer a i ∷ w)) (Finishes book (changed_at a (outcome_at book ps a i) ps) ss)
    took_fact a i h =
        subst (λ x. Same (λ w. Finishes book ps ss (Step.Infer a i ∷ w)) (Then (D (changed_at a (outcome_at book ps a i) ps)) (Waiting book ss x))) (sym (dropped_changed a (outcome_at book ps a i) ps))
        (same_trans _ _ _ (first (Step.Infer a i)) (then_left (λ u. D ps (Step.Infer a i ∷ u)) (D (changed_at a (outcome_at book ps a i) ps)) W (after_fact book (length ss) ps a i h)))

    pub took_equality : (a : ℕ) (i : Inference) (n m : Name) → outcome_at book ps a i ≡ Ok (Outcome.Equal n m) → RoomTold book (Comparison.Equal n m) ps → Same (λ w. Finishes book ps ss (Step.Infer a i ∷ w)) (Finishes book (told book (Comparison.Equal n m) ps) ss)
    took_equality a i n m h room =
        subst (λ x. Same (λ w. Finishes book ps ss (Step.Infer a i ∷ w)) (Then (D (told book (Comparison.Equal n m) ps)) (Waiting book ss x))) (sym (dropped_told book (Comparison.Equal n m) ps))
        (same_trans _ _ _ (first (Step.Infer a i)) (then_left (λ u. D ps (Step.Infer a i ∷ u)) (D (told book (Comparison.Equal n m) ps)) W (after_equality book (length ss) ps a i n m h room)))

    pub took_split : (n m : Name) → length ss < most_splits → RoomTold book (Comparison.Less n m) ps → RoomTold book (Comparison.Equal n m) ps → RoomTold book (Comparison.Greater n m) ps → Same (λ w. Finishes book ps ss (Step.Split n m ∷ w)) (Finishes book (branch_from book (Comparison.Less n m) ps) (record { left = n; right = m; branch = Branch.First } ∷ ss))
    took_split n m few less equal greater =
        subst (λ x. Same F (Then L (Then (Then (B x) (B (branch_from book g down))) (Waiting book ss (all_dropped down))))) (sym (again e l ps))
        (subst (λ x. Same F (Then L (Then (Then (B (branch_from book e ps)) (B x)) (Waiting book ss (all_dropped down))))) (sym (again g l ps))
        (subst (λ x. Same F (Then L (Then (Then (B (branch_from book e ps)) (B (branch_from book g ps))) (Waiting book ss x)))) (sym (dropped_twice book l ps))
        (same_trans F (Then (λ u. D ps (Step.Split n m ∷ u)) W) (Then L (Then (Then (B (branch_from book e ps)) (B (branch_from book g ps))) W)) (first (Step.Split n m))
        (same_trans _ _ _
        (then_left (λ u. D ps (Step.Split n m ∷ u)) (Then L (Then (B (branch_from book e ps)) (B (branch_from book g ps)))) W (after_split book (length ss) ps n m few less equal greater))
        (then_assoc L (Then (B (branch_from book e ps)) (B (branch_from book g ps))) W)))))
      where
        l : Comparison
        l = Comparison.Less n m

        e : Comparison
        e = Comparison.Equal n m

        g : Comparison
        g = Comparison.Greater n m

        B : Places → List Step → Type 0
        B = Derives book (suc (length ss))

        L : List Step → Type 0
        L = B (branch_from book l ps)

        F : List Step → Type 0
        F w = Finishes book ps ss (Step.Split n m ∷ w)

        down : Places
        down = all_dropped (branch_from book l ps)
