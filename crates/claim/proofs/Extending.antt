-- A call extends the history that led to it.
use Rattle.std.proofs.Common.{◌≡◌, ◌+◌, List, [], ◌∷◌, ◌++◌, length, Some, None, Ok, Err, Option, sym, ap, ◌∙◌, subst, append-nil, arith}
use Rattle.std.proofs.lemmas.List.{length-append}
use Rattle.facts.specs.declared.literal.Literal.{Literal}
use Rattle.theory.specs.Places.{Places}
use Rattle.theory.specs.Rules.{Book}
use Rattle.claim.specs.Calls.{Answer, LiteralCall, StepCall}
use Rattle.claim.specs.Counted.{place_of, Counted}
use Rattle.claim.specs.Derived.{state_of, Stepped, Claimed, Reached}
use Rattle.claim.specs.Histories.{LiteralsSent, StepsSent, if_taken, listed, splits_in}
use Rattle.claim.specs.Views.{LiteralTaken}
use Rattle.claim.specs.declared.counts.Counts.{Counts}
use Rattle.claim.specs.declared.derivation.Derivation.{Derivation}
use Rattle.claim.specs.declared.opening.Claim.{Claim}
use Rattle.claim.specs.declared.sent.SentStep.{SentStep}
use Rattle.claim.specs.declared.step.Step.{Step}

-- ---- literals

literal_counts : {T : Type 0} (r : Answer) (c d : Claim T) (l : Literal) (taken : List Literal) → LiteralTaken r c d → c.counts.literals ≡ length taken → (d.counts.literals ≡ length (taken ++ if_taken r l)) × (d.counts.steps ≡ c.counts.steps) × (d.counts.splits ≡ c.counts.splits)
literal_counts (Ok x) c d l taken h e = (h.0 ∙ omega (arith, e) ∙ sym (length-append taken (l ∷ [])), h.1, h.2)
literal_counts (Err f) c d l taken h e =
    (ap (λ x. x.counts.literals) h ∙ e ∙ ap length (sym (append-nil taken)), ap (λ x. x.counts.steps) h, ap (λ x. x.counts.splits) h)

pub claimed_more : {T : Type 0} (places_of : T → Places) (book : Book) (c d : Claim T) (l : Literal) (r : Answer) (ls : List Literal) (rs : List Answer) (taken : List Literal) → LiteralCall book (places_of c.theory) (place_of c.counts) l r (places_of d.theory) → LiteralTaken r c d → Claimed places_of book c ls rs taken → Claimed places_of book d (ls ++ (l ∷ [])) (rs ++ (r ∷ [])) (taken ++ if_taken r l)
claimed_more places_of book c d l r ls rs taken call after h =
    let counts = literal_counts r c d l taken after h.counted_literals in
    let place : place_of c.counts ≡ length taken = omega (arith, h.counted_literals, h.counted_steps) in
    record {
      sent = LiteralsSent.more l r (places_of d.theory) h.sent (subst (λ n. LiteralCall book (places_of c.theory) n l r (places_of d.theory)) place call);
      counted_literals = counts.0;
      counted_steps = counts.1 ∙ h.counted_steps;
      counted_splits = counts.2 ∙ h.counted_splits;
    }

-- ---- steps

splits_push : (w : List Step) (t : Step) → splits_in (w ++ (t ∷ [])) ≡ splits_in w + splits_in (t ∷ [])
splits_push [] t = omega arith
splits_push (Step.Infer a i ∷ w) t = splits_push w t
splits_push (Step.Split n m ∷ w) t = let more = splits_push w t in omega arith

step_counts : (t : Option Step) (c d : Counts) (taken : List Step) → Counted t c d → c.steps ≡ length taken → c.splits ≡ splits_in taken → (d.literals ≡ c.literals) × (d.steps ≡ length (taken ++ listed t)) × (d.splits ≡ splits_in (taken ++ listed t))
step_counts None c d taken h e f = (ap (λ x. x.literals) h, ap (λ x. x.steps) h ∙ e ∙ ap length (sym (append-nil taken)), ap (λ x. x.splits) h ∙ f ∙ ap splits_in (sym (append-nil taken)))
step_counts (Some (Step.Infer a i)) c d taken h e f =
    let long = length-append taken (Step.Infer a i ∷ []) in
    let more = splits_push taken (Step.Infer a i) in
    (h.0, h.1 ∙ omega (arith, e), h.2 ∙ omega (arith, f))
step_counts (Some (Step.Split n m)) c d taken h e f =
    let long = length-append taken (Step.Split n m ∷ []) in
    let more = splits_push taken (Step.Split n m) in
    (h.0, h.1 ∙ omega (arith, e), h.2 ∙ omega (arith, f))

pub reached_more : {T : Type 0} (places_of : T → Places) (book : Book) (c d : Derivation T) (s : SentStep) (r : Answer) (ps : Places) (literals : List Literal) (ss : List SentStep) (rs : List Answer) (taken : List Step) → Stepped places_of book s r c d → Reached places_of book c ps literals ss rs taken → (t : Option Step) × Reached places_of book d ps literals (ss ++ (s ∷ [])) (rs ++ (r ∷ [])) (taken ++ listed t)
reached_more places_of book c d s r ps literals ss rs taken step h =
    let counts = step_counts step.taken c.counts d.counts taken step.counted h.counted_steps h.counted_splits in
    let place : place_of c.counts ≡ length literals + length taken = omega (arith, h.counted_literals, h.counted_steps) in (
      step.taken,
      record {
        sent = StepsSent.more s r step.taken (state_of places_of d) h.sent (subst (λ n. StepCall book n s (state_of places_of c) r step.taken (state_of places_of d)) place step.call);
        level = h.level;
        counted_literals = counts.0 ∙ h.counted_literals;
        counted_steps = counts.1;
        counted_splits = counts.2;
      },
    )
