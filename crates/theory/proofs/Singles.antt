-- Statements over all addresses, where something stands at address 0 alone.
use Rattle.std.proofs.Common.{◌≡◌, ℕ, ◌<◌, ◌≤◌, Bool, true, false, cond, eqb, leb, length, Result, Some, None, Ok, Err, Option, sym, refl, ap, ◌∙◌, subst, ⊎_elim, arith}
use Rattle.std.proofs.lemmas.Bool.Decides.{leb_tells, eqb_tells}
use Rattle.std.specs.Bool.{then_some}
use Rattle.std.specs.Option.{option_map}
use Rattle.std.specs.Result.{MatchResult}
use Rattle.facts.specs.declared.fact.Comparison.{Comparison}
use Rattle.facts.specs.declared.fact.Fact.{Fact}
use Rattle.facts.specs.declared.fault.Cause.{Cause}
use Rattle.facts.specs.declared.refusal.Refusal.{Refusal}
use Rattle.theory.specs.Places.{Place, Places, add, opened, dropped, most_facts, most_below}
use Rattle.theory.specs.Rules.{Rules, outcome_at, within_room, no_room, changed_by, ChangedAt, Wanted, literal_wanted, telling_wanted, kept_by, told_by, with_wanted, Room, Full, Took, Answered, LiteralAnswer, TellingAnswer, OpeningAnswer, DroppingAnswer}
use Rattle.theory.specs.Singles.{at_zero, alone, single_place, single_places}
use Rattle.theory.specs.Tables.{table_facts, table_below, RowWritten}
use Rattle.theory.specs.declared.inference.Inference.{Inference}
use Rattle.theory.specs.declared.inference.Outcome.{Outcome}
use Rattle.theory.specs.declared.single.Single.{Single}
use Rattle.theory.specs.declared.table.Table.{Table}
use Rattle.theory.proofs.Tables.{written_place}

-- a value at an address that has one is the value at 0
pub at_zero_is : {X : Type 0} (x y : X) (a : ℕ) → at_zero (Some x) a ≡ Some y → x ≡ y
at_zero_is x y a = test (eqb a 0)
  where
    test : (b : Bool) → cond b (Some x) None ≡ Some y → x ≡ y
    test true e = cc
    test false e = let z : ◌≡◌ {A = ℕ} 0 1 = cc in absurd (omega arith)

-- what is wanted is wanted at 0 alone
abbrev pub Only : Wanted → Option Fact → Type 0
Only w o = (a : ℕ) → w a ≡ at_zero o a

pub literal_only : (r : Rules) (f : Fact) → Only (literal_wanted (alone r) f) (kept_by f (Some r))
literal_only r f a = elim (eqb a 0) as (λ b. kept_by f (cond b (Some r) None) ≡ cond b (kept_by f (Some r)) None) [ true ↦ refl | false ↦ refl ]

pub telling_only : (r : Rules) (k : Comparison) → Only (telling_wanted (alone r) k) (r.told k)
telling_only r k a = elim (eqb a 0) as (λ b. told_by k (cond b (Some r) None) ≡ cond b (r.told k) None) [ true ↦ refl | false ↦ refl ]

module _ (p : Place) (w : Wanted) where
  -- at an address that wants something there is a place, and it is p
  pub room : (o : Option Fact) → Only w o → length p.facts < most_facts → Room (at_zero (Some p)) w
  room o only few a q f stands wants = subst (λ x. length x.facts < most_facts) (at_zero_is p q a stands) few

  pub room_none : Only w None → Room (at_zero (Some p)) w
  room_none only a q f stands wants = absurd (none (eqb a 0) (sym (only a) ∙ wants))
    where
      none : (b : Bool) → cond b None None ≡ Some f → ⊥
      none true e = let z : ◌≡◌ {A = ℕ} 0 1 = cc in omega arith
      none false e = let z : ◌≡◌ {A = ℕ} 0 1 = cc in omega arith

  pub full : (f : Fact) → Only w (Some f) → most_facts ≤ length p.facts → Full (at_zero (Some p)) w
  full f only many = (0, p, f, refl, only 0, many)

  pub took : (f : Fact) → Only w (Some f) → Took (at_zero (Some p)) w (at_zero (Some (add f p)))
  took f only a = split (eqb a 0) ∙ ap (λ o. with_wanted o (at_zero (Some p) a)) (sym (only a))
    where
      split : (b : Bool) → cond b (Some (add f p)) None ≡ with_wanted (cond b (Some f) None) (cond b (Some p) None)
      split true = refl
      split false = refl

  pub took_none : Only w None → Took (at_zero (Some p)) w (at_zero (Some p))
  took_none only a = split (eqb a 0) ∙ ap (λ o. with_wanted o (at_zero (Some p) a)) (sym (only a))
    where
      split : (b : Bool) → cond b (Some p) None ≡ with_wanted (cond b None None) (cond b (Some p) None)
      split true = refl
      split false = refl

-- a place that is changed at 0
pub mapped_zero : (change : Place → Place) (p q : Place) → q ≡ change p → (a : ℕ) → at_zero (Some q) a ≡ option_map change (at_zero (Some p) a)
mapped_zero change p q e a = split (eqb a 0)
  where
    split : (b : Bool) → cond b (Some q) None ≡ option_map change (cond b (Some p) None)
    split true = ap Some e
    split false = refl

-- with the table that it had, a theory is as it was
pub same_single : {L : Type 0} (s : Single L) (t : Table) → t ≡ s.table → ◌≡◌ {A = Single L} (record { logic = s.logic; table = t; current = s.current }) s
same_single {L} s t e = ap (λ x. record { logic = s.logic; table = x; current = s.current }) e

-- ---- the answers

module _ (r : Rules) (p : Place) (f : Fact) where
  pub not_kept : r.keeps f ≡ false → LiteralAnswer (at_zero (Some p)) (literal_wanted (alone r) f) (Some Refusal.LiteralNotKept)
  not_kept no-keep = LiteralAnswer.unkept (λ a. literal_only r f a ∙ none (eqb a 0))
    where
      none : (b : Bool) → cond b (cond (r.keeps f) (Some f) None) None ≡ None
      none true = ap (λ k. cond k (Some f) None) no-keep
      none false = refl

  kept_only : r.keeps f ≡ true → Only (literal_wanted (alone r) f) (Some f)
  kept_only keep = subst (λ k. Only (literal_wanted (alone r) f) (cond k (Some f) None)) keep (literal_only r f)

  pub literal_full : r.keeps f ≡ true → most_facts ≤ length p.facts → LiteralAnswer (at_zero (Some p)) (literal_wanted (alone r) f) (Some Refusal.TableFull)
  literal_full keep many = LiteralAnswer.full (full p (literal_wanted (alone r) f) f (kept_only keep) many)

  pub literal_taken : r.keeps f ≡ true → length p.facts < most_facts → LiteralAnswer (at_zero (Some p)) (literal_wanted (alone r) f) None
  literal_taken keep few = LiteralAnswer.taken (0, f, kept_only keep 0) (room p (literal_wanted (alone r) f) (Some f) (kept_only keep) few)

  pub literal_took : r.keeps f ≡ true → (q : Place) → q ≡ add f p → Took (at_zero (Some p)) (literal_wanted (alone r) f) (at_zero (Some q))
  literal_took keep q e = subst (λ x. Took (at_zero (Some p)) (literal_wanted (alone r) f) (at_zero (Some x))) (sym e) (took p (literal_wanted (alone r) f) f (kept_only keep))

  -- a literal that is kept is refused where the facts are as many as can be
  pub literal_asked : r.keeps f ≡ true → (o : Option Refusal) → o ≡ then_some (leb most_facts (length p.facts)) Refusal.TableFull → LiteralAnswer (at_zero (Some p)) (literal_wanted (alone r) f) o
  literal_asked keep o e =
      ⊎_elim
      (λ h. subst (LiteralAnswer (at_zero (Some p)) (literal_wanted (alone r) f)) (sym (e ∙ ap (λ b. then_some b Refusal.TableFull) h.0)) (literal_full keep h.1))
      (λ h. subst (LiteralAnswer (at_zero (Some p)) (literal_wanted (alone r) f)) (sym (e ∙ ap (λ b. then_some b Refusal.TableFull) h.0)) (literal_taken keep h.1))
      (leb_tells most_facts (length p.facts))

module _ (r : Rules) (p : Place) (k : Comparison) where
  told_only : (o : Option Fact) → o ≡ r.told k → Only (telling_wanted (alone r) k) o
  told_only o e = subst (Only (telling_wanted (alone r) k)) (sym e) (telling_only r k)

  pub telling_full : (f : Fact) → Some f ≡ r.told k → most_facts ≤ length p.facts → TellingAnswer (at_zero (Some p)) (telling_wanted (alone r) k) (Some Refusal.TableFull)
  telling_full f e many = TellingAnswer.full (full p (telling_wanted (alone r) k) f (told_only (Some f) e) many)

  pub telling_taken : (f : Fact) → Some f ≡ r.told k → length p.facts < most_facts → TellingAnswer (at_zero (Some p)) (telling_wanted (alone r) k) None
  telling_taken f e few = TellingAnswer.taken (room p (telling_wanted (alone r) k) (Some f) (told_only (Some f) e) few)

  pub telling_took : (f : Fact) → Some f ≡ r.told k → (q : Place) → q ≡ add f p → Took (at_zero (Some p)) (telling_wanted (alone r) k) (at_zero (Some q))
  telling_took f e q same = subst (λ x. Took (at_zero (Some p)) (telling_wanted (alone r) k) (at_zero (Some x))) (sym same) (took p (telling_wanted (alone r) k) f (told_only (Some f) e))

  pub telling_none : None ≡ r.told k → TellingAnswer (at_zero (Some p)) (telling_wanted (alone r) k) None × Took (at_zero (Some p)) (telling_wanted (alone r) k) (at_zero (Some p))
  telling_none e = (TellingAnswer.taken (room_none p (telling_wanted (alone r) k) (told_only None e)), took_none p (telling_wanted (alone r) k) (told_only None e))

  -- so is a telling of which a fact is kept
  pub telling_asked : (f : Fact) → Some f ≡ r.told k → (o : Option Refusal) → o ≡ then_some (leb most_facts (length p.facts)) Refusal.TableFull → TellingAnswer (at_zero (Some p)) (telling_wanted (alone r) k) o
  telling_asked f told o e =
      ⊎_elim
      (λ h. subst (TellingAnswer (at_zero (Some p)) (telling_wanted (alone r) k)) (sym (e ∙ ap (λ b. then_some b Refusal.TableFull) h.0)) (telling_full f told h.1))
      (λ h. subst (TellingAnswer (at_zero (Some p)) (telling_wanted (alone r) k)) (sym (e ∙ ap (λ b. then_some b Refusal.TableFull) h.0)) (telling_taken f told h.1))
      (leb_tells most_facts (length p.facts))

-- what a push of the table comes to, for a fact that is kept
module _ {L : Type 0} (r : Rules) (s : Single L) (f : Fact) (t : Table) where
  abbrev after : Single L
  after = record { logic = s.logic; table = t; current = s.current }

  abbrev Pushed : Result (Unit {0}) Refusal → Type 0
  Pushed x = MatchResult x (λ _. RowWritten s.table f t) (λ e. (e ≡ Refusal.TableFull) × (most_facts ≤ length (table_facts s.table)) × (t ≡ s.table))

  pub literal_pushed : r.keeps f ≡ true → (x : Result (Unit {0}) Refusal) → Pushed x → Answered (LiteralAnswer (single_places s) (literal_wanted (alone r) f)) s after (Took (single_places s) (literal_wanted (alone r) f) (single_places after)) x
  literal_pushed keep (Ok u) h = (literal_taken r (single_place s) f keep h.room, literal_took r (single_place s) f keep (single_place after) (written_place s.table t f s.current h))
  literal_pushed keep (Err e) h =
      (subst (λ x. LiteralAnswer (single_places s) (literal_wanted (alone r) f) (Some x)) (sym h.0) (literal_full r (single_place s) f keep h.1), same_single s t h.2)

  pub telling_pushed : (k : Comparison) → Some f ≡ r.told k → (x : Result (Unit {0}) Refusal) → Pushed x → Answered (TellingAnswer (single_places s) (telling_wanted (alone r) k)) s after (Took (single_places s) (telling_wanted (alone r) k) (single_places after)) x
  telling_pushed k told (Ok u) h = (telling_taken r (single_place s) k f told h.room, telling_took r (single_place s) k f told (single_place after) (written_place s.table t f s.current h))
  telling_pushed k told (Err e) h =
      (subst (λ x. TellingAnswer (single_places s) (telling_wanted (alone r) k) (Some x)) (sym h.0) (telling_full r (single_place s) k f told h.1), same_single s t h.2)

module _ (p : Place) where
  pub opening_limit : most_below ≤ length p.below → OpeningAnswer (at_zero (Some p)) (Some Refusal.LevelLimit)
  opening_limit many = OpeningAnswer.limit 0 p refl many

  pub opening_taken : length p.below < most_below → OpeningAnswer (at_zero (Some p)) None
  opening_taken few = OpeningAnswer.taken (λ a q stands. subst (λ x. length x.below < most_below) (at_zero_is p q a stands) few)

  pub opening_asked : (o : Option Refusal) → o ≡ then_some (leb most_below (length p.below)) Refusal.LevelLimit → OpeningAnswer (at_zero (Some p)) o
  opening_asked o e =
      ⊎_elim
      (λ h. subst (OpeningAnswer (at_zero (Some p))) (sym (e ∙ ap (λ b. then_some b Refusal.LevelLimit) h.0)) (opening_limit h.1))
      (λ h. subst (OpeningAnswer (at_zero (Some p))) (sym (e ∙ ap (λ b. then_some b Refusal.LevelLimit) h.0)) (opening_taken h.1))
      (leb_tells most_below (length p.below))

  pub dropping_limit : length p.below ≡ 0 → DroppingAnswer (at_zero (Some p)) (Some Refusal.LevelLimit)
  dropping_limit none = DroppingAnswer.limit 0 p refl none

  pub dropping_taken : 0 < length p.below → DroppingAnswer (at_zero (Some p)) None
  dropping_taken some = DroppingAnswer.taken (λ a q stands. subst (λ x. 0 < length x.below) (at_zero_is p q a stands) some)

  pub dropping_asked : (o : Option Refusal) → o ≡ then_some (eqb (length p.below) 0) Refusal.LevelLimit → DroppingAnswer (at_zero (Some p)) o
  dropping_asked o e =
      ⊎_elim
      (λ h. subst (DroppingAnswer (at_zero (Some p))) (sym (e ∙ ap (λ b. then_some b Refusal.LevelLimit) h.0)) (dropping_limit h.1))
      (λ h. subst (DroppingAnswer (at_zero (Some p))) (sym (e ∙ ap (λ b. then_some b Refusal.LevelLimit) h.0)) (dropping_taken (omega (arith, h.1))))
      (eqb_tells (length p.below) 0)

-- a table that refuses a level, and is as it was
module _ {L : Type 0} (s : Single L) (t : Table) (same : t ≡ s.table) (x : Result (Unit {0}) Refusal) (limit : x ≡ Err Refusal.LevelLimit) where
  abbrev left : Single L
  left = record { logic = s.logic; table = t; current = s.current }

  pub opening_refused : most_below ≤ length (table_below s.table) → Answered (OpeningAnswer (single_places s)) s left ((a : ℕ) → single_places left a ≡ option_map opened (single_places s a)) x
  opening_refused many =
      subst (Answered (OpeningAnswer (single_places s)) s left ((a : ℕ) → single_places left a ≡ option_map opened (single_places s a))) (sym limit) (opening_limit (single_place s) many, same_single s t same)

  pub dropping_refused : length (table_below s.table) ≡ 0 → Answered (DroppingAnswer (single_places s)) s left ((a : ℕ) → single_places left a ≡ option_map dropped (single_places s a)) x
  dropping_refused none =
      subst (Answered (DroppingAnswer (single_places s)) s left ((a : ℕ) → single_places left a ≡ option_map dropped (single_places s a))) (sym limit) (dropping_limit (single_place s) none, same_single s t same)

-- ---- a push at a full table

pub refused_push : (r : Rules) (p : Place) (a : ℕ) (i : Inference) (f : Fact) (cause : Cause) → a ≡ 0 → Ok (Outcome.Pushed f) ≡ r.outcome i p.facts p.current → most_facts ≤ length p.facts → cause ≡ no_room r.number → Err cause ≡ outcome_at (alone r) (at_zero (Some p)) a i
refused_push r p a i f cause zero pushed many is =
    ap Err is
    ∙ ⊎_elim
    (λ h. ap (λ b. cond b (Err (no_room r.number)) (Ok (Outcome.Pushed f))) (sym h.0))
    (λ h. absurd (omega (arith, h.1)))
    (leb_tells most_facts (length p.facts))
    ∙ ap (within_room r.number p.facts) pushed
    ∙ ap (λ b. outcome_at (alone r) (at_zero (Some p)) b i) (sym zero)

-- a refusal leaves every place as it was
pub refused_at : (c : Cause) (ps qs : Places) (a : ℕ) → ((b : ℕ) → qs b ≡ ps b) → ChangedAt a (Err c) ps qs
refused_at c ps qs a same b = same b ∙ split (eqb b a) (ps b)
  where
    split : (t : Bool) (o : Option Place) → o ≡ cond t (option_map (changed_by (Err c)) o) o
    split true None = refl
    split true (Some p) = refl
    split false o = refl
