-- From one branch of a derivation to the next.
use Rattle.std.proofs.Common.{◌≡◌, ℕ, suc, ◌<◌, false, cond, List, [], ◌∷◌, length, Some, None, Option, sym, refl, ap, ◌∙◌, subst, arith}
use Rattle.std.specs.Option.{option_map}
use Rattle.facts.specs.declared.fact.Comparison.{Comparison}
use Rattle.facts.specs.declared.fact.Fact.{Fact}
use Rattle.theory.specs.Places.{Place, Places, dropped, down_to}
use Rattle.theory.specs.Rules.{Book}
use Rattle.claim.specs.Calls.{Levelled, Ready, Fit}
use Rattle.claim.specs.Derivations.{State, closed, working, next, by_branch, in_branch, comparison_of, RoomTold, all_dropped, branch_from, most_splits}
use Rattle.claim.specs.Derived.{state_of}
use Rattle.claim.specs.Stacks.{stack_splits}
use Rattle.claim.specs.declared.derivation.Derivation.{Derivation}
use Rattle.claim.specs.declared.step.Branch.{Branch}
use Rattle.claim.specs.declared.step.OpenSplit.{OpenSplit}

pub working_is : {T : Type 0} (places_of : T → Places) (d : Derivation T) (ps : Places) (ss : List OpenSplit) → d.closed ≡ false → places_of d.theory ≡ ps → stack_splits d.stack ≡ ss → state_of places_of d ≡ working ps ss
working_is places_of d ps ss is_open at stack =
    ap (λ c. cond c closed (working (places_of d.theory) (stack_splits d.stack))) is_open
    ∙ ap (λ x. working x (stack_splits d.stack)) at
    ∙ ap (working ps) stack

-- ---- levels are kept

pub levelled_dropped : (n : ℕ) (ps : Places) → Levelled (suc n) ps → Levelled n (all_dropped ps)
levelled_dropped n ps h a p stands = at (ps a) refl stands
  where
    under : (q : Place) → length q.below ≡ suc n → length (dropped q).below ≡ n
    under q e = below q.below e
      where
        below : (b : List (List Fact)) → length b ≡ suc n → length (down_to b).below ≡ n
        below [] k = absurd (omega arith)
        below (f ∷ fs) k = omega arith

    at : (q : Option Place) → ps a ≡ q → option_map dropped q ≡ Some p → length p.below ≡ n
    at None e k = let z : ◌≡◌ {A = ℕ} 0 1 = cc in absurd (omega arith)
    at (Some q) e k =
        let same : dropped q ≡ p = cc in
        subst (λ x. length x.below ≡ n) same (under q (h a q e))

-- ---- out of a branch

-- what a popped split and a dropped level leave
pub record LeftBranch (book : Book) (s : OpenSplit) (ss : List OpenSplit) (before now : Places) : Type 0 where
  pub dropped : now ≡ all_dropped before
  pub levelled : Levelled (length ss) now
  pub few : length ss < most_splits
  pub ready : Ready book (s ∷ ss) now

pub left_branch : (book : Book) (s : OpenSplit) (ss all : List OpenSplit) (before now : Places) → all ≡ s ∷ ss → ((n : ℕ) → Levelled (suc n) before → now ≡ all_dropped before) → Fit book (working before all) → LeftBranch book s ss before now
left_branch book s ss all before now popped ended fit =
    let whole = subst (λ x. Fit book (working before x)) popped fit in
    let down = ended (length ss) whole.0 in
    record {
      dropped = down;
      levelled = subst (Levelled (length ss)) (sym down) (levelled_dropped (length ss) before whole.0);
      few = (let few = whole.1 in omega arith);
      ready = subst (Ready book (s ∷ ss)) (sym down) whole.2;
    }

module _ (book : Book) (s : OpenSplit) (ss : List OpenSplit) (ps : Places) where
  -- into the split's next branch
  pub next_branch : (b : Branch) → Some b ≡ by_branch s.branch (Some Branch.Second) (Some Branch.Third) None → next book (s ∷ ss) ps ≡ working (branch_from book (comparison_of (in_branch s b)) ps) (in_branch s b ∷ ss)
  next_branch b = at s.branch
    where
      to : Branch → State
      to x = working (branch_from book (comparison_of (in_branch s x)) ps) (in_branch s x ∷ ss)

      at : (x : Branch) → Some b ≡ by_branch x (Some Branch.Second) (Some Branch.Third) None → by_branch x (to Branch.Second) (to Branch.Third) (next book ss (all_dropped ps)) ≡ to b
      at Branch.First e = let same : Branch.Second ≡ b = cc in ap to same
      at Branch.Second e = let same : Branch.Third ≡ b = cc in ap to same
      at Branch.Third e = let z : ◌≡◌ {A = ℕ} 0 1 = cc in absurd (omega arith)

  -- for which there is room
  pub next_room : (b : Branch) → Some b ≡ by_branch s.branch (Some Branch.Second) (Some Branch.Third) None → Ready book (s ∷ ss) ps → RoomTold book (comparison_of (in_branch s b)) ps
  next_room b e ready = at s.branch e
    where
      at : (x : Branch) → Some b ≡ by_branch x (Some Branch.Second) (Some Branch.Third) None → RoomTold book (comparison_of (in_branch s b)) ps
      at Branch.First f = let same : Branch.Second ≡ b = cc in subst (λ x. RoomTold book (comparison_of (in_branch s x)) ps) same ready.0
      at Branch.Second f = let same : Branch.Third ≡ b = cc in subst (λ x. RoomTold book (comparison_of (in_branch s x)) ps) same ready.1
      at Branch.Third f = let z : ◌≡◌ {A = ℕ} 0 1 = cc in absurd (omega arith)

  -- or out of the split, where it has no branch left
  pub next_outer : None ≡ by_branch s.branch (Some Branch.Second) (Some Branch.Third) None → next book (s ∷ ss) ps ≡ next book ss (all_dropped ps)
  next_outer = at s.branch
    where
      at : (x : Branch) → None ≡ by_branch x (Some Branch.Second) (Some Branch.Third) None → by_branch x (working (branch_from book (Comparison.Equal s.left s.right) ps) (in_branch s Branch.Second ∷ ss)) (working (branch_from book (Comparison.Greater s.left s.right) ps) (in_branch s Branch.Third ∷ ss)) (next book ss (all_dropped ps)) ≡ next book ss (all_dropped ps)
      at Branch.First e = let z : ◌≡◌ {A = ℕ} 0 1 = cc in absurd (omega arith)
      at Branch.Second e = let z : ◌≡◌ {A = ℕ} 0 1 = cc in absurd (omega arith)
      at Branch.Third e = refl
