-- A record more.
use Rattle.std.proofs.Common.{◌≡◌, ℕ, suc, ◌+◌, ◌-◌, ◌≤◌, List, [], ◌∷◌, ◌++◌, length, take, drop, Ok, Err, Option, sym, ap, ◌∙◌, subst, append_assoc, arith}
use Rattle.std.proofs.lemmas.List.{map_push, take-append-drop, take_at, length-append, length-drop, length-take-le, flat_map_more}
use Rattle.facts.specs.declared.fault.CallFault.{CallFault}
use Rattle.facts.specs.declared.fault.RecordFault.{RecordFault}
use Rattle.facts.specs.declared.literal.Literal.{Literal}
use Rattle.theory.specs.Places.{Places}
use Rattle.theory.specs.Rules.{Book}
use Rattle.facts.specs.Faults.{because}
use Rattle.claim.specs.Calls.{StepCall, fault_of}
use Rattle.claim.specs.Counted.{place_of}
use Rattle.claim.specs.Derivations.{open_splits}
use Rattle.claim.specs.Derived.{Reached, state_of}
use Rattle.claim.specs.Histories.{listed}
use Rattle.claim.specs.declared.derivation.Derivation.{Derivation}
use Rattle.claim.specs.declared.opening.Claim.{Claim}
use Rattle.claim.specs.declared.sent.SentStep.{SentStep}
use Rattle.claim.specs.declared.step.Step.{Step}
use Rattle.claimfile.specs.Entries.{Entry, AllStepsFit, StepFits, entry_bytes, step_bytes}
use Rattle.claimfile.specs.Sending.{all_taken, Stated, FrontRefused, StepRefused}
use Rattle.claimfile.specs.Records.{ReadAt}
use Rattle.claimfile.specs.Progress.{EntrySent, Fronted, Opened, Running, SteppedThrough}
use Rattle.claimfile.specs.declared.record.Stage.{Stage}

-- a part that stands at an offset
pub part_at : (file w : List ℕ) (offset : ℕ) → offset ≤ length file → drop offset file ≡ w ++ drop (length w) (drop offset file) → (take (offset + length w) file ≡ take offset file ++ w) × (offset + length w ≤ length file)
part_at file w offset inside is =
    let rest : List ℕ = drop (length w) (drop offset file) in
    let front : List ℕ = take offset file ++ w in
    let whole : file ≡ front ++ rest = sym (take-append-drop offset file) ∙ ap (λ x. take offset file ++ x) is ∙ sym (append_assoc (take offset file) w rest) in
    let long : length front ≡ offset + length w = length-append (take offset file) w ∙ ap (λ n. n + length w) (length-take-le offset file inside) in
    let all : length file ≡ length front + length rest = ap length whole ∙ length-append front rest in
    (ap (take (offset + length w)) whole ∙ take_at front rest (offset + length w) long, omega arith)

-- nothing is left
pub at_end : (file : List ℕ) (offset : ℕ) → offset ≤ length file → drop offset file ≡ [] → offset ≡ length file
at_end file offset inside is = let none : length file - offset ≡ 0 = sym (length-drop offset file) ∙ ap length is in omega arith

-- ---- before the begin

module _ {T : Type 0} (places_of : T → Places) (book : Book) (file : List ℕ) (offset : ℕ) (c d : Claim T) (o : Opened places_of book file offset c) where
  module _ (e : Entry) (k : ℕ) (body : List ℕ) (is : entry_bytes e ≡ k ∷ body) (at : drop offset file ≡ (k ∷ body) ++ drop (length (k ∷ body)) (drop offset file)) where
    pub entry_taken : (n : ℕ) → n ≡ offset + suc (length body) → EntrySent places_of book e o.literals c (Ok tt) d → Opened places_of book file n d
    entry_taken n next h =
        let here : drop offset file ≡ entry_bytes e ++ drop (length (entry_bytes e)) (drop offset file) = subst (λ w. drop offset file ≡ w ++ drop (length w) (drop offset file)) (sym is) at in
        let there : n ≡ offset + length (entry_bytes e) = next ∙ ap (λ w. offset + length w) (sym is) in
        let part = part_at file (entry_bytes e) offset o.within here in
        record {
          entries = o.entries ++ (e ∷ []);
          literals = o.literals ++ h.0;
          within = subst (λ m. m ≤ length file) (sym there) part.1;
          bytes = sym (flat_map_more entry_bytes [] o.entries e) ∙ ap (λ w. w ++ entry_bytes e) o.bytes ∙ sym part.0 ∙ ap (λ m. take m file) (sym there);
          stated = Stated.more e h.0 o.stated h.1;
          claimed = h.2;
        }

    pub entry_refused : (f : CallFault) → EntrySent places_of book e o.literals c (Err f) d → Fronted places_of book file (Err (record { call = f; offset = offset })) d
    entry_refused f h =
        let rest : List ℕ = drop (length (k ∷ body)) (drop offset file) in
        (c, o, subst (λ bs. FrontRefused book (places_of c.theory) (length o.literals) bs f) (ap (λ w. w ++ rest) is ∙ sym at) (FrontRefused.entry rest e f h))

  -- a record that cannot be read
  pub unread_front : (place : ℕ) (f : RecordFault) → place ≡ length o.literals → ReadAt Stage.Literals file offset place 0 (Err f) → Fronted places_of book file (Err f) d
  unread_front place f counted (r, unread, told) =
      subst (λ x. Fronted places_of book file (Err x) d) (sym told) (c, o, subst (λ n. FrontRefused book (places_of c.theory) (length o.literals) (drop offset file) (fault_of (because r) 0 n 0)) (sym counted) (FrontRefused.unread r unread))

-- ---- after the begin

fit_more : (ss : List SentStep) (s : SentStep) → AllStepsFit ss → StepFits s → AllStepsFit (ss ++ (s ∷ []))
fit_more [] s all h = (h, tt)
fit_more (x ∷ ss) s all h = (all.0, fit_more ss s all.1 h)

module _ {T : Type 0} (places_of : T → Places) (book : Book) (file : List ℕ) (ps : Places) (literals : List Literal) (start offset : ℕ) (c d : Derivation T) (o : Running places_of book file ps literals start offset c) where
  counted : place_of c.counts ≡ length literals + length o.taken
  counted = omega (arith, o.reached.counted_literals, o.reached.counted_steps)

  module _ (s : SentStep) (k : ℕ) (body : List ℕ) (is : step_bytes s ≡ k ∷ body) (at : drop offset file ≡ (k ∷ body) ++ drop (length (k ∷ body)) (drop offset file)) (fits : StepFits s) where
    pub step_taken : (n : ℕ) (u : Option Step) → n ≡ offset + suc (length body) → Reached places_of book d ps literals (o.steps ++ (s ∷ [])) (all_taken o.steps ++ (Ok tt ∷ [])) (o.taken ++ listed u) → Running places_of book file ps literals start n d
    step_taken n u next reached =
        let here : drop offset file ≡ step_bytes s ++ drop (length (step_bytes s)) (drop offset file) = subst (λ w. drop offset file ≡ w ++ drop (length w) (drop offset file)) (sym is) at in
        let there : n ≡ offset + length (step_bytes s) = next ∙ ap (λ w. offset + length w) (sym is) in
        let part = part_at file (step_bytes s) offset o.within here in
        record {
          steps = o.steps ++ (s ∷ []);
          taken = o.taken ++ listed u;
          fit = fit_more o.steps s o.fit fits;
          within = subst (λ m. m ≤ length file) (sym there) part.1;
          bytes = sym (flat_map_more step_bytes (take start file) o.steps s) ∙ ap (λ w. w ++ step_bytes s) o.bytes ∙ sym part.0 ∙ ap (λ m. take m file) (sym there);
          reached = subst (λ rs. Reached places_of book d ps literals (o.steps ++ (s ∷ [])) rs (o.taken ++ listed u)) (sym (map_push (λ _. Ok tt) o.steps s)) reached;
        }

    pub step_refused : (f : CallFault) (t : Option Step) → StepCall book (place_of c.counts) s (state_of places_of c) (Err f) t (state_of places_of d) → SteppedThrough places_of book file ps literals start (Err (record { call = f; offset = offset })) d
    step_refused f t call =
        let rest : List ℕ = drop (length (k ∷ body)) (drop offset file) in
        let same = subst (λ m. StepCall book m s (state_of places_of c) (Err f) t (state_of places_of d)) counted call in
        (c, o, subst (λ bs. StepRefused book (state_of places_of c) (length literals + length o.taken) bs f) (ap (λ w. w ++ rest) is ∙ sym at) (StepRefused.step rest s f t (state_of places_of d) fits same))

  -- a record that cannot be read
  pub unread_step : (place depth : ℕ) (f : RecordFault) → place ≡ place_of c.counts → depth ≡ open_splits (state_of places_of c) → ReadAt Stage.Steps file offset place depth (Err f) → SteppedThrough places_of book file ps literals start (Err f) d
  unread_step place depth f placed deep (r, unread, told) =
      let call : fault_of (because r) 0 place depth ≡ fault_of (because r) 0 (length literals + length o.taken) (open_splits (state_of places_of c)) = ap (λ n. fault_of (because r) 0 n depth) (placed ∙ counted) ∙ ap (λ n. fault_of (because r) 0 (length literals + length o.taken) n) deep in
      subst (λ x. SteppedThrough places_of book file ps literals start (Err x) d) (sym told) (c, o, subst (StepRefused book (state_of places_of c) (length literals + length o.taken) (drop offset file)) (sym call) (StepRefused.unread r unread))
