-- Statements over all addresses of two theories side by side.
use Rattle.std.proofs.Common.{◌≡◌, ℕ, ◌+◌, ◌-◌, ◌*◌, ◌/◌, ◌%◌, ◌<◌, Bool, true, false, cond, eqb, length, is_some, Some, None, Ok, Err, Option, Result, sym, refl, ap, ◌∙◌, subst, ⊎_elim, arith}
use mathlib.Core.Path.{fun_ext}
use Rattle.std.proofs.lemmas.Bool.Decides.{eqb_tells}
use Rattle.std.specs.Option.{option_map, MatchOption}
use Rattle.facts.specs.declared.fact.Comparison.{Comparison}
use Rattle.facts.specs.declared.fact.Fact.{Fact}
use Rattle.facts.specs.declared.refusal.Refusal.{Refusal}
use Rattle.theory.specs.Pairs.{beside}
use Rattle.theory.specs.Places.{Place, Places, most_facts, most_below}
use Rattle.theory.specs.Rules.{Book, Wanted, literal_wanted, telling_wanted, kept_by, told_by, with_wanted, Unwanted, WantedSomewhere, Room, Full, Took, Answered, LiteralAnswer, TellingAnswer, OpeningAnswer, DroppingAnswer}

-- ---- where an address of a side lies

at_even : {X : Type 0} (l r : ℕ → Option X) (a : ℕ) → beside l r (2 * a) ≡ l a
at_even l r a =
    ⊎_elim
    (λ h. ap (λ b. cond b (l ((2 * a) / 2)) (r ((2 * a - 1) / 2))) h.0 ∙ ap l (omega arith))
    (λ h. absurd (h.1 (omega arith)))
    (eqb_tells ((2 * a) % 2) 0)

at_odd : {X : Type 0} (l r : ℕ → Option X) (a : ℕ) → beside l r (2 * a + 1) ≡ r a
at_odd l r a =
    ⊎_elim
    (λ h. absurd (omega (arith, h.1)))
    (λ h. ap (λ b. cond b (l ((2 * a + 1) / 2)) (r ((2 * a + 1 - 1) / 2))) h.0 ∙ ap r (omega arith))
    (eqb_tells ((2 * a + 1) % 2) 0)

-- ---- what is wanted of two is wanted of each

pub literal_beside : (l r : Book) (f : Fact) → literal_wanted (beside l r) f ≡ beside (literal_wanted l f) (literal_wanted r f)
literal_beside l r f =
    fun_ext (λ a. elim (eqb (a % 2) 0) as (λ b. kept_by f (cond b (l (a / 2)) (r ((a - 1) / 2))) ≡ cond b (kept_by f (l (a / 2))) (kept_by f (r ((a - 1) / 2)))) [ true ↦ refl | false ↦ refl ])

pub telling_beside : (l r : Book) (k : Comparison) → telling_wanted (beside l r) k ≡ beside (telling_wanted l k) (telling_wanted r k)
telling_beside l r k =
    fun_ext (λ a. elim (eqb (a % 2) 0) as (λ b. told_by k (cond b (l (a / 2)) (r ((a - 1) / 2))) ≡ cond b (told_by k (l (a / 2))) (told_by k (r ((a - 1) / 2)))) [ true ↦ refl | false ↦ refl ])

-- where nothing is wanted there is room
no_room : (ps : Places) (w : Wanted) → Unwanted w → Room ps w
no_room ps w h a p f stands wants =
    let e : w a ≡ None = h a in
    let z : ◌≡◌ {A = ℕ} 0 1 = cc in absurd (omega arith)

module _ (ps qs : Places) (w x : Wanted) where
  room : Room ps w → Room qs x → Room (beside ps qs) (beside w x)
  room h k a p f = test (eqb (a % 2) 0)
    where
      test : (b : Bool) → cond b (ps (a / 2)) (qs ((a - 1) / 2)) ≡ Some p → cond b (w (a / 2)) (x ((a - 1) / 2)) ≡ Some f → length p.facts < most_facts
      test true = h (a / 2) p f
      test false = k ((a - 1) / 2) p f

  pub left_room : Room (beside ps qs) (beside w x) → Room ps w
  left_room h a p f stands wants = h (2 * a) p f (at_even ps qs a ∙ stands) (at_even w x a ∙ wants)

  pub right_room : Room (beside ps qs) (beside w x) → Room qs x
  right_room h a p f stands wants = h (2 * a + 1) p f (at_odd ps qs a ∙ stands) (at_odd w x a ∙ wants)

  full_left : Full ps w → Full (beside ps qs) (beside w x)
  full_left (a, p, f, stands, wants, many) = (2 * a, p, f, at_even ps qs a ∙ stands, at_even w x a ∙ wants, many)

  full_right : Full qs x → Full (beside ps qs) (beside w x)
  full_right (a, p, f, stands, wants, many) = (2 * a + 1, p, f, at_odd ps qs a ∙ stands, at_odd w x a ∙ wants, many)

  somewhere_left : WantedSomewhere w → WantedSomewhere (beside w x)
  somewhere_left (a, f, wants) = (2 * a, f, at_even w x a ∙ wants)

  somewhere_right : WantedSomewhere x → WantedSomewhere (beside w x)
  somewhere_right (a, f, wants) = (2 * a + 1, f, at_odd w x a ∙ wants)

  unwanted : Unwanted w → Unwanted x → Unwanted (beside w x)
  unwanted h k a = test (eqb (a % 2) 0)
    where
      test : (b : Bool) → cond b (w (a / 2)) (x ((a - 1) / 2)) ≡ None
      test true = h (a / 2)
      test false = k ((a - 1) / 2)

  pub took : (ps' qs' : Places) → Took ps w ps' → Took qs x qs' → Took (beside ps qs) (beside w x) (beside ps' qs')
  took ps' qs' h k a = test (eqb (a % 2) 0)
    where
      test : (b : Bool) → cond b (ps' (a / 2)) (qs' ((a - 1) / 2)) ≡ with_wanted (cond b (w (a / 2)) (x ((a - 1) / 2))) (cond b (ps (a / 2)) (qs ((a - 1) / 2)))
      test true = h (a / 2)
      test false = k ((a - 1) / 2)

  -- ---- a literal's answer from two

  pub literal_left : (o : Option Refusal) → o ≡ Some Refusal.TableFull → LiteralAnswer ps w o → LiteralAnswer (beside ps qs) (beside w x) o
  literal_left o e (LiteralAnswer.taken s h) = let z : ◌≡◌ {A = ℕ} 0 1 = cc in absurd (omega arith)
  literal_left o e (LiteralAnswer.unkept h) = let z : ◌≡◌ {A = ℕ} 0 1 = cc in absurd (omega arith)
  literal_left o e (LiteralAnswer.full h) = LiteralAnswer.full (full_left h)

  pub literal_right : (o : Option Refusal) → o ≡ Some Refusal.TableFull → LiteralAnswer qs x o → LiteralAnswer (beside ps qs) (beside w x) o
  literal_right o e (LiteralAnswer.taken s h) = let z : ◌≡◌ {A = ℕ} 0 1 = cc in absurd (omega arith)
  literal_right o e (LiteralAnswer.unkept h) = let z : ◌≡◌ {A = ℕ} 0 1 = cc in absurd (omega arith)
  literal_right o e (LiteralAnswer.full h) = LiteralAnswer.full (full_right h)

  -- the left one does not keep it
  pub literal_other : (o : Option Refusal) → (o ≡ Some Refusal.TableFull → ⊥) → is_some o ≡ true → LiteralAnswer ps w o → (r : Option Refusal) → LiteralAnswer qs x r → LiteralAnswer (beside ps qs) (beside w x) r
  literal_other o other some (LiteralAnswer.taken s h) r k = let z : ◌≡◌ {A = ℕ} 0 1 = cc in absurd (omega arith)
  literal_other o other some (LiteralAnswer.full h) r k = absurd (other refl)
  literal_other o other some (LiteralAnswer.unkept h) r (LiteralAnswer.taken s k) = LiteralAnswer.taken (somewhere_right s) (room (no_room ps w h) k)
  literal_other o other some (LiteralAnswer.unkept h) r (LiteralAnswer.unkept k) = LiteralAnswer.unkept (unwanted h k)
  literal_other o other some (LiteralAnswer.unkept h) r (LiteralAnswer.full k) = LiteralAnswer.full (full_right k)

  -- the left one takes it, and the right one is not full
  pub literal_none : (o : Option Refusal) → is_some o ≡ false → LiteralAnswer ps w o → (r : Option Refusal) → (r ≡ Some Refusal.TableFull → ⊥) → LiteralAnswer qs x r → LiteralAnswer (beside ps qs) (beside w x) None
  literal_none o none (LiteralAnswer.unkept h) r other k = let z : ◌≡◌ {A = ℕ} 0 1 = cc in absurd (omega arith)
  literal_none o none (LiteralAnswer.full h) r other k = let z : ◌≡◌ {A = ℕ} 0 1 = cc in absurd (omega arith)
  literal_none o none (LiteralAnswer.taken s h) r other (LiteralAnswer.taken t k) = LiteralAnswer.taken (somewhere_left s) (room h k)
  literal_none o none (LiteralAnswer.taken s h) r other (LiteralAnswer.unkept k) = LiteralAnswer.taken (somewhere_left s) (room h (no_room qs x k))
  literal_none o none (LiteralAnswer.taken s h) r other (LiteralAnswer.full k) = absurd (other refl)

  -- ---- a telling's

  pub telling_left : (r : Refusal) → TellingAnswer ps w (Some r) → TellingAnswer (beside ps qs) (beside w x) (Some r)
  telling_left r h = go (Some r) refl h
    where
      go : (o : Option Refusal) → o ≡ Some r → TellingAnswer ps w o → TellingAnswer (beside ps qs) (beside w x) (Some r)
      go o e (TellingAnswer.taken k) = let z : ◌≡◌ {A = ℕ} 0 1 = cc in absurd (omega arith)
      go o e (TellingAnswer.full k) = subst (TellingAnswer (beside ps qs) (beside w x)) e (TellingAnswer.full (full_left k))

  pub telling_right : TellingAnswer ps w None → (r : Option Refusal) → TellingAnswer qs x r → TellingAnswer (beside ps qs) (beside w x) r
  telling_right (TellingAnswer.taken h) r (TellingAnswer.taken k) = TellingAnswer.taken (room h k)
  telling_right (TellingAnswer.taken h) r (TellingAnswer.full k) = TellingAnswer.full (full_right k)

module _ (ps qs : Places) where
  pub opening_left : (r : Refusal) → OpeningAnswer ps (Some r) → OpeningAnswer (beside ps qs) (Some r)
  opening_left r (OpeningAnswer.limit a p stands many) = OpeningAnswer.limit (2 * a) p (at_even ps qs a ∙ stands) many

  pub opening_right : OpeningAnswer ps None → (r : Option Refusal) → OpeningAnswer qs r → OpeningAnswer (beside ps qs) r
  opening_right h r (OpeningAnswer.limit a p stands many) = OpeningAnswer.limit (2 * a + 1) p (at_odd ps qs a ∙ stands) many
  opening_right (OpeningAnswer.taken h) r (OpeningAnswer.taken k) = OpeningAnswer.taken (λ a p. test a p (eqb (a % 2) 0))
    where
      test : (a : ℕ) (p : Place) (b : Bool) → cond b (ps (a / 2)) (qs ((a - 1) / 2)) ≡ Some p → length p.below < most_below
      test a p true = h (a / 2) p
      test a p false = k ((a - 1) / 2) p

  pub dropping_left : (r : Refusal) → DroppingAnswer ps (Some r) → DroppingAnswer (beside ps qs) (Some r)
  dropping_left r (DroppingAnswer.limit a p stands none) = DroppingAnswer.limit (2 * a) p (at_even ps qs a ∙ stands) none

  pub dropping_right : DroppingAnswer ps None → (r : Option Refusal) → DroppingAnswer qs r → DroppingAnswer (beside ps qs) r
  dropping_right h r (DroppingAnswer.limit a p stands none) = DroppingAnswer.limit (2 * a + 1) p (at_odd ps qs a ∙ stands) none
  dropping_right (DroppingAnswer.taken h) r (DroppingAnswer.taken k) = DroppingAnswer.taken (λ a p. test a p (eqb (a % 2) 0))
    where
      test : (a : ℕ) (p : Place) (b : Bool) → cond b (ps (a / 2)) (qs ((a - 1) / 2)) ≡ Some p → 0 < length p.below
      test a p true = h (a / 2) p
      test a p false = k ((a - 1) / 2) p

  pub mapped_beside : (change : Place → Place) (ps' qs' : Places) → ((a : ℕ) → ps' a ≡ option_map change (ps a)) → ((a : ℕ) → qs' a ≡ option_map change (qs a)) → (a : ℕ) → beside ps' qs' a ≡ option_map change (beside ps qs a)
  mapped_beside change ps' qs' h k a = test (eqb (a % 2) 0)
    where
      test : (b : Bool) → cond b (ps' (a / 2)) (qs' ((a - 1) / 2)) ≡ option_map change (cond b (ps (a / 2)) (qs ((a - 1) / 2)))
      test true = h (a / 2)
      test false = k ((a - 1) / 2)

  -- where both can open a level, or drop one, each can
  pub left_opens : OpeningAnswer (beside ps qs) None → (e : Refusal) → OpeningAnswer ps (Some e) → ⊥
  left_opens (OpeningAnswer.taken h) e (OpeningAnswer.limit a p stands many) = let few = h (2 * a) p (at_even ps qs a ∙ stands) in omega arith

  pub right_opens : OpeningAnswer (beside ps qs) None → (e : Refusal) → OpeningAnswer qs (Some e) → ⊥
  right_opens (OpeningAnswer.taken h) e (OpeningAnswer.limit a p stands many) = let few = h (2 * a + 1) p (at_odd ps qs a ∙ stands) in omega arith

  pub left_drops : DroppingAnswer (beside ps qs) None → (e : Refusal) → DroppingAnswer ps (Some e) → ⊥
  left_drops (DroppingAnswer.taken h) e (DroppingAnswer.limit a p stands none) = let some = h (2 * a) p (at_even ps qs a ∙ stands) in omega arith

  pub right_drops : DroppingAnswer (beside ps qs) None → (e : Refusal) → DroppingAnswer qs (Some e) → ⊥
  right_drops (DroppingAnswer.taken h) e (DroppingAnswer.limit a p stands none) = let some = h (2 * a + 1) p (at_odd ps qs a ∙ stands) in omega arith

-- ---- a call on one side, where it cannot be refused

pub done : {S : Type 0} (Answer : Option Refusal → Type 0) (before after : S) (Done : Type 0) (r : Result (Unit {0}) Refusal) → ((e : Refusal) → Answer (Some e) → ⊥) → Answered Answer before after Done r → Done
done Answer before after Done (Ok x) never h = h.1
done Answer before after Done (Err e) never h = absurd (never e h.0)

not_full : (ps : Places) (w : Wanted) → Room ps w → Full ps w → ⊥
not_full ps w fits (a, p, f, stands, wants, many) = let few = fits a p f stands wants in omega arith

pub never_told : (ps : Places) (w : Wanted) → Room ps w → (e : Refusal) → TellingAnswer ps w (Some e) → ⊥
never_told ps w fits e (TellingAnswer.full h) = not_full ps w fits h

-- a side that does not keep a literal is as if it had taken it
pub assumed : {S : Type 0} (places : S → Places) (before after : S) (w : Wanted) (r : Result (Unit {0}) Refusal) → Room (places before) w → Answered (LiteralAnswer (places before) w) before after (Took (places before) w (places after)) r → Took (places before) w (places after)
assumed {S} places before after w (Ok x) fits h = h.1
assumed {S} places before after w (Err e) fits h = refused (Some e) h.0 refl
  where
    refused : (o : Option Refusal) → LiteralAnswer (places before) w o → o ≡ Some e → Took (places before) w (places after)
    refused o (LiteralAnswer.taken s k) same = let z : ◌≡◌ {A = ℕ} 0 1 = cc in absurd (omega arith)
    refused o (LiteralAnswer.full k) same = absurd (not_full (places before) w fits k)
    refused o (LiteralAnswer.unkept k) same = λ a. ap (λ s. places s a) h.1 ∙ ap (λ o. with_wanted o (places before a)) (sym (k a))

pub literal_room : (ps : Places) (w : Wanted) → LiteralAnswer ps w None → Room ps w
literal_room ps w (LiteralAnswer.taken s h) = h

pub telling_room : (ps : Places) (w : Wanted) → TellingAnswer ps w None → Room ps w
telling_room ps w (TellingAnswer.taken h) = h

-- ---- the calls of a pair

-- a literal that both took
pub both_assumed : {S T : Type 0} (ps : S → Places) (qs : T → Places) (s s' : S) (t t' : T) (l r : Book) (f : Fact) (x y : Result (Unit {0}) Refusal) → LiteralAnswer (beside (ps s) (qs t)) (literal_wanted (beside l r) f) None → Answered (LiteralAnswer (ps s) (literal_wanted l f)) s s' (Took (ps s) (literal_wanted l f) (ps s')) x → Answered (LiteralAnswer (qs t) (literal_wanted r f)) t t' (Took (qs t) (literal_wanted r f) (qs t')) y → Took (beside (ps s) (qs t)) (literal_wanted (beside l r) f) (beside (ps s') (qs t'))
both_assumed ps qs s s' t t' l r f x y answer h k =
    let fits : Room (beside (ps s) (qs t)) (beside (literal_wanted l f) (literal_wanted r f)) = subst (Room (beside (ps s) (qs t))) (literal_beside l r f) (literal_room _ _ answer) in
    subst (λ w. Took (beside (ps s) (qs t)) w (beside (ps s') (qs t'))) (sym (literal_beside l r f))
    (took (ps s) (qs t) (literal_wanted l f) (literal_wanted r f) (ps s') (qs t')
    (assumed ps s s' (literal_wanted l f) x (left_room (ps s) (qs t) (literal_wanted l f) (literal_wanted r f) fits) h)
    (assumed qs t t' (literal_wanted r f) y (right_room (ps s) (qs t) (literal_wanted l f) (literal_wanted r f) fits) k))

pub both_told : {S T : Type 0} (ps : S → Places) (qs : T → Places) (s s' : S) (t t' : T) (l r : Book) (c : Comparison) (x y : Result (Unit {0}) Refusal) → TellingAnswer (beside (ps s) (qs t)) (telling_wanted (beside l r) c) None → Answered (TellingAnswer (ps s) (telling_wanted l c)) s s' (Took (ps s) (telling_wanted l c) (ps s')) x → Answered (TellingAnswer (qs t) (telling_wanted r c)) t t' (Took (qs t) (telling_wanted r c) (qs t')) y → Took (beside (ps s) (qs t)) (telling_wanted (beside l r) c) (beside (ps s') (qs t'))
both_told ps qs s s' t t' l r c x y answer h k =
    let fits : Room (beside (ps s) (qs t)) (beside (telling_wanted l c) (telling_wanted r c)) = subst (Room (beside (ps s) (qs t))) (telling_beside l r c) (telling_room _ _ answer) in
    subst (λ w. Took (beside (ps s) (qs t)) w (beside (ps s') (qs t'))) (sym (telling_beside l r c))
    (took (ps s) (qs t) (telling_wanted l c) (telling_wanted r c) (ps s') (qs t')
    (done (TellingAnswer (ps s) (telling_wanted l c)) s s' _ x (never_told _ _ (left_room (ps s) (qs t) (telling_wanted l c) (telling_wanted r c) fits)) h)
    (done (TellingAnswer (qs t) (telling_wanted r c)) t t' _ y (never_told _ _ (right_room (ps s) (qs t) (telling_wanted l c) (telling_wanted r c) fits)) k))

-- what one side answers when it is told, by its rules
-- where the left side answers first, and the right one only if the left one would take it
pub pair_telling : (ps qs : Places) (l r : Book) (c : Comparison) (o both : Option Refusal) → TellingAnswer ps (telling_wanted l c) o → MatchOption o (TellingAnswer qs (telling_wanted r c) both) (λ e. both ≡ Some e) → TellingAnswer (beside ps qs) (telling_wanted (beside l r) c) both
pair_telling ps qs l r c o both h k = subst (λ w. TellingAnswer (beside ps qs) w both) (sym (telling_beside l r c)) (either o h k)
  where
    either : (o : Option Refusal) → TellingAnswer ps (telling_wanted l c) o → MatchOption o (TellingAnswer qs (telling_wanted r c) both) (λ e. both ≡ Some e) → TellingAnswer (beside ps qs) (beside (telling_wanted l c) (telling_wanted r c)) both
    either None h k = telling_right ps qs (telling_wanted l c) (telling_wanted r c) h both k
    either (Some e) h k = subst (TellingAnswer (beside ps qs) (beside (telling_wanted l c) (telling_wanted r c))) (sym k) (telling_left ps qs (telling_wanted l c) (telling_wanted r c) e h)

pub pair_opening : (ps qs : Places) (o both : Option Refusal) → OpeningAnswer ps o → MatchOption o (OpeningAnswer qs both) (λ e. both ≡ Some e) → OpeningAnswer (beside ps qs) both
pair_opening ps qs None both h k = opening_right ps qs h both k
pair_opening ps qs (Some e) both h k = subst (OpeningAnswer (beside ps qs)) (sym k) (opening_left ps qs e h)

pub pair_dropping : (ps qs : Places) (o both : Option Refusal) → DroppingAnswer ps o → MatchOption o (DroppingAnswer qs both) (λ e. both ≡ Some e) → DroppingAnswer (beside ps qs) both
pair_dropping ps qs None both h k = dropping_right ps qs h both k
pair_dropping ps qs (Some e) both h k = subst (DroppingAnswer (beside ps qs)) (sym k) (dropping_left ps qs e h)

pub pair_literal : (ps qs : Places) (l r : Book) (f : Fact) (o : Option Refusal) → LiteralAnswer (beside ps qs) (beside (literal_wanted l f) (literal_wanted r f)) o → LiteralAnswer (beside ps qs) (literal_wanted (beside l r) f) o
pair_literal ps qs l r f o h = subst (λ w. LiteralAnswer (beside ps qs) w o) (sym (literal_beside l r f)) h

-- levels that both opened, or dropped
module _ {S T : Type 0} (ps : S → Places) (qs : T → Places) (s s' : S) (t t' : T) (x y : Result (Unit {0}) Refusal) (change : Place → Place) where
  pub both_opened : OpeningAnswer (beside (ps s) (qs t)) None → Answered (OpeningAnswer (ps s)) s s' ((a : ℕ) → ps s' a ≡ option_map change (ps s a)) x → Answered (OpeningAnswer (qs t)) t t' ((a : ℕ) → qs t' a ≡ option_map change (qs t a)) y → (a : ℕ) → beside (ps s') (qs t') a ≡ option_map change (beside (ps s) (qs t) a)
  both_opened answer h k =
      mapped_beside (ps s) (qs t) change (ps s') (qs t')
      (done (OpeningAnswer (ps s)) s s' _ x (left_opens (ps s) (qs t) answer) h)
      (done (OpeningAnswer (qs t)) t t' _ y (right_opens (ps s) (qs t) answer) k)

  pub both_dropped : DroppingAnswer (beside (ps s) (qs t)) None → Answered (DroppingAnswer (ps s)) s s' ((a : ℕ) → ps s' a ≡ option_map change (ps s a)) x → Answered (DroppingAnswer (qs t)) t t' ((a : ℕ) → qs t' a ≡ option_map change (qs t a)) y → (a : ℕ) → beside (ps s') (qs t') a ≡ option_map change (beside (ps s) (qs t) a)
  both_dropped answer h k =
      mapped_beside (ps s) (qs t) change (ps s') (qs t')
      (done (DroppingAnswer (ps s)) s s' _ x (left_drops (ps s) (qs t) answer) h)
      (done (DroppingAnswer (qs t)) t t' _ y (right_drops (ps s) (qs t) answer) k)
