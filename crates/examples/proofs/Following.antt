-- Steps that are the writing of a derivation have one history.
use Rattle.std.proofs.Common.{◌≡◌, ℕ, ◌+◌, ◌<◌, ◌≤◌, List, [], ◌∷◌, ◌++◌, length, Some, Ok, Option, sym, refl, ap, ◌∙◌, subst, append_assoc, append-nil, arith, length-append}
use Rattle.facts.specs.declared.literal.Literal.{Literal}
use Rattle.theory.specs.Places.{Places}
use Rattle.theory.specs.Rules.{Book, AllSound}
use Rattle.claim.proofs.Promises.{promise}
use Rattle.claim.proofs.Standing.{one_step}
use Rattle.claim.specs.Calls.{Answer, LiteralCall, StepCall, most_calls}
use Rattle.claim.specs.Derivations.{Derives, State, closed}
use Rattle.claim.specs.Histories.{LiteralsSent, StepsSent, Promise, splits_in, listed, if_taken}
use Rattle.claim.specs.Sent.{StepChecked}
use Rattle.claim.specs.declared.sent.SentStep.{SentStep}
use Rattle.claim.specs.declared.step.Step.{Step}
use Rattle.examples.specs.Runs.{Sealed, SameRun, all_taken}
use Rattle.examples.proofs.Once.{one_end, one_history}
use Rattle.examples.proofs.Sound.{Whole}

-- ---- calls that are taken

pub record TookStep (p : ℕ) (s : SentStep) (t : Option Step) : Type 0 where
  pub step : Step
  pub is : t ≡ Some step
  pub checked : StepChecked s (Ok step)
  pub early : p < most_calls

step_taken : (book : Book) (p : ℕ) (s : SentStep) (st : State) (a : Answer) (t : Option Step) (after : State) → StepCall book p s st a t after → a ≡ Ok tt → TookStep p s t
step_taken book p s st a t after StepCall.over e = absurd cc
step_taken book p s st a t after (StepCall.bad_field b h) e = absurd cc
step_taken book p s st a t after (StepCall.too_many h k) e = absurd cc
step_taken book p s st a t after (StepCall.cannot_infer b i c h k l) e = absurd cc
step_taken book p s st a t after (StepCall.cannot_tell b i n m h k l f) e = absurd cc
step_taken book p s st a t after (StepCall.too_deep n m h k l) e = absurd cc
step_taken book p s st a t after (StepCall.cannot_split n m h k l f) e = absurd cc
step_taken book p s st a t after (StepCall.inferred b i h k l) e = record { step = Step.Infer b i; is = refl; checked = h; early = k }
step_taken book p s st a t after (StepCall.handed_on b i n m h k l r) e = record { step = Step.Infer b i; is = refl; checked = h; early = k }
step_taken book p s st a t after (StepCall.finished b i h k l) e = record { step = Step.Infer b i; is = refl; checked = h; early = k }
step_taken book p s st a t after (StepCall.split n m h k l r1 r2 r3) e = record { step = Step.Split n m; is = refl; checked = h; early = k }

-- ---- steps that stand for a writing

abbrev AllChecked : List SentStep → List Step → Type 0
AllChecked [] [] = Unit {0}
AllChecked [] (t ∷ w) = ⊥
AllChecked (s ∷ ss) [] = ⊥
AllChecked (s ∷ ss) (t ∷ w) = StepChecked s (Ok t) × AllChecked ss w

checked_onto : (ss : List SentStep) (s : SentStep) (w : List Step) (t : Step) → AllChecked ss w → StepChecked s (Ok t) → AllChecked (ss ++ (s ∷ [])) (w ++ (t ∷ []))
checked_onto [] s [] t h k = (k, tt)
checked_onto [] s (x ∷ w) t h k = absurd h
checked_onto (r ∷ ss) s [] t h k = absurd h
checked_onto (r ∷ ss) s (x ∷ w) t h k = (h.0, checked_onto ss s w t h.1 k)

pub record CheckedEnd (ss : List SentStep) (s : SentStep) (w : List Step) : Type 0 where
  pub before : List Step
  pub last : Step
  pub is : w ≡ before ++ (last ∷ [])
  pub all : AllChecked ss before
  pub checked : StepChecked s (Ok last)

checked_end : (ss : List SentStep) (s : SentStep) (w : List Step) → AllChecked (ss ++ (s ∷ [])) w → CheckedEnd ss s w
checked_end [] s [] h = absurd h
checked_end [] s (x ∷ []) h = record { before = []; last = x; is = refl; all = tt; checked = h.0 }
checked_end [] s (x ∷ y ∷ w) h = absurd h.1
checked_end (r ∷ ss) s [] h = absurd h
checked_end (r ∷ ss) s (x ∷ w) h =
    let rest = checked_end ss s w h.1 in
    record { before = x ∷ rest.before; last = rest.last; is = ap (λ u. x ∷ u) rest.is; all = (h.0, rest.all); checked = rest.checked }

all_taken_onto : {X : Type 0} (xs : List X) (x : X) → all_taken (xs ++ (x ∷ [])) ≡ all_taken xs ++ (Ok tt ∷ [])
all_taken_onto [] x = refl
all_taken_onto (y ∷ xs) x = ap (λ rs. Ok tt ∷ rs) (all_taken_onto xs x)

-- steps that are all taken stand for those taken, within the limit
module _ (book : Book) (ps : Places) (n : ℕ) where
  own_steps : (ss : List SentStep) (rs : List Answer) (st : State) (w : List Step) → StepsSent book ps n ss rs st w → rs ≡ all_taken ss → n ≤ most_calls → AllChecked ss w × (n + length w ≤ most_calls)
  own_steps ss rs st w StepsSent.none e few = (tt, omega arith)
  own_steps ss rs st w (StepsSent.more {ss = ss0} {rs = rs0} {st = st0} {taken = w0} s a t after h call) e few =
      let (answers, answer) = one_end rs0 (all_taken ss0) a (Ok tt) (e ∙ all_taken_onto ss0 s) in
      let (all, within) = own_steps ss0 rs0 st0 w0 h answers few in
      let took = step_taken book (n + length w0) s st0 a t after call answer in (
        subst (λ x. AllChecked (ss0 ++ (s ∷ [])) (w0 ++ listed x)) (sym took.is) (checked_onto ss0 s w0 took.step all took.checked),
        subst (λ x. n + length (w0 ++ listed x) ≤ most_calls) (sym took.is) (omega (arith, took.early, length-append w0 (took.step ∷ []))),
      )

few_more : (book : Book) (ps : Places) (kept : List Literal) (l : Literal) (a : Answer) (after : Places) → LiteralCall book ps (length kept) l a after → length kept ≤ most_calls → length (kept ++ if_taken a l) ≤ most_calls
few_more book ps kept l a after (LiteralCall.bad_field b h) few = rw append-nil few
few_more book ps kept l a after (LiteralCall.too_many h k) few = rw append-nil few
few_more book ps kept l a after (LiteralCall.not_kept f e h k m) few = rw append-nil few
few_more book ps kept l a after (LiteralCall.taken f now h early m t) few = omega (arith, length-append kept (l ∷ []))

few_literals : (book : Book) (ls : List Literal) (rs : List Answer) (ps : Places) (kept : List Literal) → LiteralsSent book ls rs ps kept → length kept ≤ most_calls
few_literals book ls rs ps kept LiteralsSent.none = omega arith
few_literals book ls rs ps kept (LiteralsSent.more {ls = ls0} {rs = rs0} {ps = ps0} {taken = kept0} l a after h call) =
    few_more book ps0 kept0 l a after call (few_literals book ls0 rs0 ps0 kept0 h)

-- ---- the writing of a derivation, followed

module _ (book : Book) (sound : AllSound Whole book) (ls : List Literal) (lrs : List Answer) (ps : Places) (literals : List Literal) (begun : LiteralsSent book ls lrs ps literals) (w : List Step) (d : Derives book 0 ps w) (few : length literals + length w ≤ most_calls) where
  followed : (ss : List SentStep) (rs : List Answer) (st : State) (done : List Step) → StepsSent book ps (length literals) ss rs st done → (first rest : List Step) → w ≡ first ++ rest → AllChecked ss first → (done ≡ first) × (rs ≡ all_taken ss)
  followed ss rs st done StepsSent.none [] rest e all = (refl, refl)
  followed ss rs st done StepsSent.none (x ∷ first) rest e all = absurd all
  followed ss rs st done (StepsSent.more {ss = ss0} {rs = rs0} {st = st0} {taken = done0} s a t after h call) first rest e all =
      let end = checked_end ss0 s first all in
      let whole : w ≡ end.before ++ (end.last ∷ rest) = e ∙ ap (λ u. u ++ rest) end.is ∙ append_assoc end.before (end.last ∷ []) rest in
      let (same, answers) = followed ss0 rs0 st0 done0 h end.before (end.last ∷ rest) whole end.all in
      let kept : Promise Whole book ps literals st0 done0 = promise Whole book sound ls lrs ps literals begun ss0 rs0 st0 done0 h in
      let answer : a ≡ Ok tt = kept.no_due_missed w d few end.last rest (whole ∙ ap (λ u. u ++ (end.last ∷ rest)) (sym same)) s end.checked a t after call in
      let took = step_taken book (length literals + length done0) s st0 a t after call answer in
      let step : took.step ≡ end.last = one_step s took.step end.last took.checked.1 end.checked.1 in (
        ap (λ x. done0 ++ listed x) took.is ∙ ap (λ x. done0 ++ (x ∷ [])) step ∙ ap (λ u. u ++ (end.last ∷ [])) same ∙ sym end.is,
        ap (λ rs. rs ++ (a ∷ [])) answers ∙ ap (λ x. all_taken ss0 ++ (x ∷ [])) answer ∙ sym (all_taken_onto ss0 s),
      )

-- calls that are all taken, up to a closed claim, are answered in no other way
module _ (book : Book) (sound : AllSound Whole book) (ls : List Literal) (ps : Places) (begun : LiteralsSent book ls (all_taken ls) ps ls) (ss : List SentStep) (w : List Step) (run : StepsSent book ps (length ls) ss (all_taken ss) closed w) where
  derived : Derives book 0 ps w
  derived = (promise Whole book sound ls (all_taken ls) ps ls begun ss (all_taken ss) closed w run).closed_by refl

  only_steps : (srs : List Answer) (st : State) (done : List Step) → StepsSent book ps (length ls) ss srs st done → SameRun (all_taken ls) (all_taken ls) ls ls ps ps srs (all_taken ss) done w st
  only_steps srs st done h =
      let (all, few) = own_steps book ps (length ls) ss (all_taken ss) closed w run refl (few_literals book ls (all_taken ls) ps ls begun) in
      let (same, answers) = followed book sound ls (all_taken ls) ps ls begun w derived few ss srs st done h w [] (sym (append-nil w)) all in
      record {
        literal_answers = refl;
        literals_taken = refl;
        same_places = refl;
        step_answers = answers;
        steps_taken = same;
        shut = (promise Whole book sound ls (all_taken ls) ps ls begun ss srs st done h).closes (subst (Derives book 0 ps) (sym same) derived);
      }

  only_run : (lrs : List Answer) (qs : Places) (kept : List Literal) → LiteralsSent book ls lrs qs kept → (srs : List Answer) (st : State) (done : List Step) → StepsSent book qs (length kept) ss srs st done → SameRun lrs (all_taken ls) kept ls qs ps srs (all_taken ss) done w st
  only_run lrs qs kept other srs st done h =
      let (answers, places, literals) = one_history book ls ls lrs (all_taken ls) qs ps kept ls other begun refl in
      let moved : StepsSent book ps (length ls) ss srs st done = subst (λ x. StepsSent book x (length ls) ss srs st done) places (subst (λ x. StepsSent book qs (length x) ss srs st done) literals h) in
      let run = only_steps srs st done moved in
      record { literal_answers = answers; literals_taken = literals; same_places = places; step_answers = run.step_answers; steps_taken = run.steps_taken; shut = run.shut }

  pub sealed_so : Sealed book ls ss (length ls) (length w) (splits_in w)
  sealed_so =
      record {
        places = ps;
        literals_sent = begun;
        taken = w;
        steps_sent = run;
        derives = derived;
        literals_counted = refl;
        steps_counted = refl;
        splits_counted = refl;
        only = only_run;
      }
