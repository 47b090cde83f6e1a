-- What a refused telling says.
use Rattle.std.proofs.Common.{◌≡◌, ℕ, ◌⊎◌, Some, None, MatchOption, Option, sym, refl, ◌∙◌, subst, inl, inr, arith}
use Rattle.facts.specs.declared.fact.Comparison.{Comparison}
use Rattle.facts.specs.declared.name.Name.{Name}
use Rattle.facts.specs.declared.refusal.Refusal.{Refusal}
use Rattle.theory.specs.Places.{Places}
use Rattle.theory.specs.Rules.{Book, Wanted, Full, TellingAnswer, telling_wanted}
use Rattle.theory.proofs.Pairs.{telling_room}
use Rattle.claim.specs.Derived.{SplitAnswer}

pub refused_full : (ps : Places) (w : Wanted) (e : Refusal) → TellingAnswer ps w (Some e) → Full ps w × (e ≡ Refusal.TableFull)
refused_full ps w e h = go (Some e) h refl
  where
    go : (o : Option Refusal) → TellingAnswer ps w o → o ≡ Some e → Full ps w × (e ≡ Refusal.TableFull)
    go o (TellingAnswer.taken k) same = let z : ◌≡◌ {A = ℕ} 0 1 = cc in absurd (omega arith)
    go o (TellingAnswer.full k) same = (k, cc)

-- each telling is asked where the ones before it are not refused
module _ (book : Book) (ps : Places) (n m : Name) where
  full_at : (k : Comparison) (r : Refusal) → TellingAnswer ps (telling_wanted book k) (Some r) → (Full ps (telling_wanted book k) → Full ps (telling_wanted book (Comparison.Less n m)) ⊎ (Full ps (telling_wanted book (Comparison.Equal n m)) ⊎ Full ps (telling_wanted book (Comparison.Greater n m)))) → SplitAnswer book ps n m (Some r)
  full_at k r h to = let full = refused_full ps (telling_wanted book k) r h in (full.1, to full.0)

  pub told_in_turn : (less equal greater : Option Refusal) → TellingAnswer ps (telling_wanted book (Comparison.Less n m)) less → MatchOption less (TellingAnswer ps (telling_wanted book (Comparison.Equal n m)) equal) (λ r. equal ≡ Some r) → MatchOption equal (TellingAnswer ps (telling_wanted book (Comparison.Greater n m)) greater) (λ r. greater ≡ Some r) → SplitAnswer book ps n m greater
  told_in_turn (Some r) equal greater h k l = at equal k l
    where
      at : (e : Option Refusal) → e ≡ Some r → MatchOption e (TellingAnswer ps (telling_wanted book (Comparison.Greater n m)) greater) (λ x. greater ≡ Some x) → SplitAnswer book ps n m greater
      at None e l = let z : ◌≡◌ {A = ℕ} 0 1 = cc in absurd (omega arith)
      at (Some x) e l = subst (SplitAnswer book ps n m) (sym e ∙ sym l) (full_at (Comparison.Less n m) r h inl)
  told_in_turn None (Some r) greater h k l = subst (SplitAnswer book ps n m) (sym l) (full_at (Comparison.Equal n m) r k (λ f. inr (inl f)))
  told_in_turn None None (Some r) h k l = full_at (Comparison.Greater n m) r l (λ f. inr (inr f))
  told_in_turn None None None h k l = (telling_room ps _ h, telling_room ps _ k, telling_room ps _ l)
