-- Levels opened and dropped at every address.
use Rattle.std.proofs.Common.{◌≡◌, ℕ, suc, ◌<◌, length, Some, None, Option, Result, sym, refl, ap, ◌∙◌, subst, arith}
use mathlib.Core.Path.{fun_ext}
use Rattle.std.specs.Option.{option_map}
use Rattle.facts.specs.declared.fact.Comparison.{Comparison}
use Rattle.facts.specs.declared.refusal.Refusal.{Refusal}
use Rattle.theory.specs.Places.{Place, Places, opened, dropped, most_facts}
use Rattle.theory.specs.Rules.{Book, Wanted, telling_wanted, Room, Took, Answered, OpeningAnswer, DroppingAnswer, TellingAnswer}
use Rattle.theory.proofs.Pairs.{done, never_told}
use Rattle.claim.specs.Calls.{Levelled}
use Rattle.claim.specs.Derivations.{RoomTold, all_opened, all_dropped, branch_from, told}

never_opens : (ps : Places) (n : ℕ) → n < 8 → Levelled n ps → (e : Refusal) → OpeningAnswer ps (Some e) → ⊥
never_opens ps n few level e (OpeningAnswer.limit a p stands many) = let is = level a p stands in omega arith

never_drops : (ps : Places) (n : ℕ) → Levelled (suc n) ps → (e : Refusal) → DroppingAnswer ps (Some e) → ⊥
never_drops ps n level e (DroppingAnswer.limit a p stands none) = let is = level a p stands in omega arith

-- opening a level adds no fact
opened_room : (ps : Places) (w : Wanted) → Room ps w → Room (all_opened ps) w
opened_room ps w room a p f stands wants = at (ps a) refl stands
  where
    at : (q : Option Place) → ps a ≡ q → option_map opened q ≡ Some p → length p.facts < most_facts
    at None e h = let z : ◌≡◌ {A = ℕ} 0 1 = cc in absurd (omega arith)
    at (Some r) e h =
        let same : opened r ≡ p = cc in
        subst (λ x. length x.facts < most_facts) same (room a r f e wants)

module _ {S : Type 0} (places : S → Places) (book : Book) where
  pub branch_begun : (s t u : S) (k : Comparison) (x y : Result (Unit {0}) Refusal) → Answered (OpeningAnswer (places s)) s t ((a : ℕ) → places t a ≡ option_map opened (places s a)) x → Answered (TellingAnswer (places t) (telling_wanted book k)) t u (Took (places t) (telling_wanted book k) (places u)) y → (n : ℕ) → n < 8 → Levelled n (places s) → RoomTold book k (places s) → places u ≡ branch_from book k (places s)
  branch_begun s t u k x y opening telling n few level room =
      let over : places t ≡ all_opened (places s) = fun_ext (done (OpeningAnswer (places s)) s t _ x (never_opens (places s) n few level) opening) in
      let fits : Room (places t) (telling_wanted book k) = subst (λ ps. Room ps (telling_wanted book k)) (sym over) (opened_room (places s) (telling_wanted book k) room) in
      fun_ext (done (TellingAnswer (places t) (telling_wanted book k)) t u _ y (never_told (places t) (telling_wanted book k) fits) telling) ∙ ap (told book k) over

  pub branch_ended : (s t : S) (x : Result (Unit {0}) Refusal) → Answered (DroppingAnswer (places s)) s t ((a : ℕ) → places t a ≡ option_map dropped (places s a)) x → (n : ℕ) → Levelled (suc n) (places s) → places t ≡ all_dropped (places s)
  branch_ended s t x drop n level = fun_ext (done (DroppingAnswer (places s)) s t _ x (never_drops (places s) n level) drop)
