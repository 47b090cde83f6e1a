-- The promise over every list of calls.
use Rattle.std.proofs.Common.{◌≡◌, ℕ, ◌+◌, ◌<◌, true, false, cond, List, [], ◌∷◌, ◌++◌, length, IfSome, Some, None, Ok, Option, sym, refl, ap, subst, inl, inr, append_assoc, append-nil, arith}
use Rattle.std.proofs.lemmas.List.{length-append}
use Rattle.std.specs.Option.{option_map}
use Rattle.facts.specs.Literals.{LiteralTrue}
use Rattle.facts.specs.Valuations.{Valuation, True}
use Rattle.facts.specs.declared.literal.Literal.{Literal}
use Rattle.theory.specs.Places.{Places, empty}
use Rattle.theory.specs.Rules.{Rules, Book, AllSound, kept_by, literal_wanted}
use Rattle.claim.specs.Calls.{Answer, LiteralCall, StepCall, most_calls}
use Rattle.claim.specs.Derivations.{Derives, State, closed, working, Left, Finishes, Then}
use Rattle.claim.specs.Histories.{fresh_places, if_taken, listed, LiteralsSent, StepsSent, AllLiteralsTrue, Promise}
use Rattle.claim.specs.Sent.{StepChecked}
use Rattle.claim.specs.declared.sent.SentStep.{SentStep}
use Rattle.claim.specs.declared.step.Step.{Step}
use Rattle.claim.proofs.Finishing.{took_contradiction, took_fact, took_equality, took_split}
use Rattle.claim.proofs.Inversion.{no_refused, no_equality, no_split, some_step}
use Rattle.claim.proofs.Parts.{Same, same_refl, same_sym, then_end, then_first}
use Rattle.claim.proofs.Soundness.{AllPlacesTrue, OptionTrue, wanted_true, no_valuation}
use Rattle.claim.proofs.Standing.{one_step}

-- ---- a call, and what is left

-- a call leaves to do what was left after the step that it took
pub step_left : (book : Book) (p : ℕ) (s : SentStep) (st : State) (a : Answer) (t : Option Step) (after : State) → StepCall book p s st a t after → Same (Left book after) (λ w. Left book st (listed t ++ w))
step_left book p s st a t after StepCall.over = same_refl (Left book closed)
step_left book p s st a t after (StepCall.bad_field {ps = ps} {ss = ss} b h) = same_refl (Finishes book ps ss)
step_left book p s st a t after (StepCall.too_many {ps = ps} {ss = ss} h k) = same_refl (Finishes book ps ss)
step_left book p s st a t after (StepCall.cannot_infer {ps = ps} {ss = ss} b i c h k l) = same_refl (Finishes book ps ss)
step_left book p s st a t after (StepCall.cannot_tell {ps = ps} {ss = ss} b i n m h k l f) = same_refl (Finishes book ps ss)
step_left book p s st a t after (StepCall.too_deep {ps = ps} {ss = ss} n m h k l) = same_refl (Finishes book ps ss)
step_left book p s st a t after (StepCall.cannot_split {ps = ps} {ss = ss} n m h k l f) = same_refl (Finishes book ps ss)
step_left book p s st a t after (StepCall.inferred {ps = ps} {ss = ss} b i h k l) = same_sym _ _ (took_fact book ps ss b i l)
step_left book p s st a t after (StepCall.handed_on {ps = ps} {ss = ss} b i n m h k l r) = same_sym _ _ (took_equality book ps ss b i n m l r)
step_left book p s st a t after (StepCall.finished {ps = ps} {ss = ss} b i h k l) = same_sym _ _ (took_contradiction book ps ss b i l)
step_left book p s st a t after (StepCall.split {ps = ps} {ss = ss} n m h k l r1 r2 r3) = same_sym _ _ (took_split book ps ss n m l r1 r2 r3)

-- what is left finishes a derivation that begins with the steps taken
pub history_left : (book : Book) (ps : Places) (n : ℕ) (ss : List SentStep) (rs : List Answer) (st : State) (taken : List Step) → StepsSent book ps n ss rs st taken → Same (Left book st) (λ w. Derives book 0 ps (taken ++ w))
history_left book ps n ss rs st taken StepsSent.none w = then_end (Derives book 0 ps) w
history_left book ps n ss rs st taken (StepsSent.more {st = before} {taken = done} s a t after h call) w =
    let whole : Same (Left book before) (λ x. Derives book 0 ps (done ++ x)) = history_left book ps n _ _ before done h in
    let step : Same (Left book after) (λ x. Left book before (listed t ++ x)) = step_left book (n + length done) s before a t after call in (
      λ k. subst (Derives book 0 ps) (sym (append_assoc done (listed t) w)) ((whole (listed t ++ w)).0 ((step w).0 k)),
      λ k. (step w).1 ((whole (listed t ++ w)).1 (subst (Derives book 0 ps) (append_assoc done (listed t) w) k)),
    )

-- nothing is left exactly where the derivation is closed
left_nothing : (book : Book) (st : State) → Left book st [] → st ≡ closed
left_nothing book closed h = refl
left_nothing book (working ps ss) h = absurd (part h.0 h.1 h.2 h.3)
  where
    part : (u x : List Step) → [] ≡ u ++ x → Derives book (length ss) ps u → ⊥
    part [] x e d = some_step book (length ss) ps d
    part (t ∷ u) x e d = let z : ◌≡◌ {A = ℕ} 0 1 = cc in omega arith

-- a step that begins what is left is taken
module _ (book : Book) (p : ℕ) (s : SentStep) (t : Step) (checked : StepChecked s (Ok t)) (few : p < most_calls) (rest : List Step) where
  first_part : (d : ℕ) (ps : Places) (Q : List Step → Type 0) → Then (Derives book d ps) Q (t ∷ rest) → (w : List Step) × Derives book d ps (t ∷ w)
  first_part d ps Q h = let k = (then_first (Derives book d ps) Q (some_step book d ps) t rest).0 h in (k.0, k.3)

  same_step : (u : Step) → StepChecked s (Ok u) → t ≡ u
  same_step u h = one_step s t u checked.1 h.1

  pub due_taken : (st : State) (a : Answer) (x : Option Step) (after : State) → StepCall book p s st a x after → Left book st (t ∷ rest) → a ≡ Ok tt
  due_taken st a x after StepCall.over h = let z : ◌≡◌ {A = ℕ} 0 1 = cc in absurd (omega arith)
  due_taken st a x after (StepCall.bad_field b bad) h = let good = checked.0 in let z : ◌≡◌ {A = ℕ} 0 1 = cc in absurd (omega arith)
  due_taken st a x after (StepCall.too_many k many) h = absurd (omega arith)
  due_taken st a x after (StepCall.cannot_infer {ps = ps} {ss = ss} b i c k l m) h =
      let d = first_part (length ss) ps _ h in
      absurd (no_refused book (length ss) ps b i c m d.0 (subst (λ y. Derives book (length ss) ps (y ∷ d.0)) (same_step (Step.Infer b i) k) d.1))
  due_taken st a x after (StepCall.cannot_tell {ps = ps} {ss = ss} b i n m k l e f) h =
      let d = first_part (length ss) ps _ h in
      absurd (no_equality book (length ss) ps b i n m e f d.0 (subst (λ y. Derives book (length ss) ps (y ∷ d.0)) (same_step (Step.Infer b i) k) d.1))
  due_taken st a x after (StepCall.too_deep {ps = ps} {ss = ss} n m k l deep) h =
      let d = first_part (length ss) ps _ h in
      absurd (no_split book (length ss) ps n m (inl deep) d.0 (subst (λ y. Derives book (length ss) ps (y ∷ d.0)) (same_step (Step.Split n m) k) d.1))
  due_taken st a x after (StepCall.cannot_split {ps = ps} {ss = ss} n m k l shallow f) h =
      let d = first_part (length ss) ps _ h in
      absurd (no_split book (length ss) ps n m (inr f) d.0 (subst (λ y. Derives book (length ss) ps (y ∷ d.0)) (same_step (Step.Split n m) k) d.1))
  due_taken st a x after (StepCall.inferred b i k l m) h = refl
  due_taken st a x after (StepCall.handed_on b i n m k l e r) h = refl
  due_taken st a x after (StepCall.finished b i k l e) h = refl
  due_taken st a x after (StepCall.split n m k l d r1 r2 r3) h = refl

-- ---- the literals taken

module _ (v : Valuation) (book : Book) where
  last_true : (ls : List Literal) (l : Literal) → AllLiteralsTrue v (ls ++ (l ∷ [])) → AllLiteralsTrue v ls × LiteralTrue v l
  last_true [] l h = (tt, h.0)
  last_true (k ∷ ls) l h = let more = last_true ls l h.1 in ((h.0, more.0), more.1)

  fresh_true : AllPlacesTrue v (fresh_places book)
  fresh_true a = at (book a)
    where
      at : (r : Option Rules) → OptionTrue v (option_map (λ _. empty) r)
      at None = tt
      at (Some r) = record { facts = tt; current = tt }

  call_true : (ps : Places) (n : ℕ) (l : Literal) (a : Answer) (after : Places) (taken : List Literal) → LiteralCall book ps n l a after → (AllLiteralsTrue v taken → AllPlacesTrue v ps) → AllLiteralsTrue v (taken ++ if_taken a l) → AllPlacesTrue v after
  call_true ps n l a after taken (LiteralCall.bad_field b h) k all at_address = k (subst (AllLiteralsTrue v) (append-nil taken) all) at_address
  call_true ps n l a after taken (LiteralCall.too_many h m) k all at_address = k (subst (AllLiteralsTrue v) (append-nil taken) all) at_address
  call_true ps n l a after taken (LiteralCall.not_kept f e h few m) k all at_address = k (subst (AllLiteralsTrue v) (append-nil taken) all) at_address
  call_true ps n l a after taken (LiteralCall.taken f now h few m took) k all b =
      let parts = last_true taken l all in
      let is : True v f = (h.2 v).1 parts.1 in
      subst (OptionTrue v) (sym (took b)) (wanted_true v (literal_wanted book f b) (ps b) (at (book b) is) (k parts.0 b))
    where
      at : (r : Option Rules) → True v f → IfSome (kept_by f r) (True v)
      at None is = tt
      at (Some r) is = elim (r.keeps f) as (λ t. IfSome (cond t (Some f) None) (True v)) [ true ↦ is | false ↦ tt ]

  pub literals_true : (ls : List Literal) (rs : List Answer) (ps : Places) (taken : List Literal) → LiteralsSent book ls rs ps taken → AllLiteralsTrue v taken → AllPlacesTrue v ps
  literals_true ls rs ps taken LiteralsSent.none all = fresh_true
  literals_true ls rs ps taken (LiteralsSent.more {ps = before} {taken = done} l a after h call) all =
      call_true before (length done) l a after done call (literals_true _ _ before done h) all

-- ---- the promise

pub promise : (admits : Valuation → Type 0) (book : Book) → AllSound admits book → (ls : List Literal) (lrs : List Answer) (ps : Places) (literals : List Literal) → LiteralsSent book ls lrs ps literals → (ss : List SentStep) (srs : List Answer) (st : State) (steps : List Step) → StepsSent book ps (length literals) ss srs st steps → Promise admits book ps literals st steps
promise admits book sound ls lrs ps literals sent ss srs st steps stepped =
    let left : Same (Left book st) (λ w. Derives book 0 ps (steps ++ w)) = history_left book ps (length literals) ss srs st steps stepped in
    let whole : st ≡ closed → Derives book 0 ps steps = λ shut. subst (Derives book 0 ps) (append-nil steps) ((left []).0 (subst (λ x. Left book x []) (sym shut) refl)) in
    record {
      no_false_seal = λ shut v admitted all. no_valuation v admits book sound admitted 0 ps steps (whole shut) (literals_true v book ls lrs ps literals sent all);
      no_due_missed = λ w d few t rest e s checked a x after call.
          due_taken book (length literals + length steps) s t checked (omega (arith, ap length e, length-append steps (t ∷ rest))) rest st a x after call
          ((left (t ∷ rest)).1 (subst (Derives book 0 ps) e d));
      closed_by = whole;
      closes = λ d. left_nothing book st ((left []).1 (subst (Derives book 0 ps) (sym (append-nil steps)) d));
    }
