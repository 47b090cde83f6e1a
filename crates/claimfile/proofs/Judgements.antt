-- How a file's check comes to its verdict.
use Rattle.std.proofs.Common.{◌≡◌, ℕ, ◌≤◌, List, [], ◌++◌, length, take, drop, Err, Result, sym, refl, ap, ◌∙◌, subst, append_assoc, append-nil, arith}
use Rattle.std.specs.List.{flat_map}
use Rattle.std.proofs.lemmas.List.{take_all, take-append-drop, length-take-le}
use Rattle.facts.specs.Valuations.{Valuation}
use Rattle.facts.specs.declared.fault.RecordFault.{RecordFault}
use Rattle.facts.specs.declared.literal.Literal.{Literal}
use Rattle.theory.specs.Places.{Places}
use Rattle.theory.specs.Rules.{Book, AllSound}
use Rattle.claim.proofs.Promises.{promise}
use Rattle.claim.specs.Derivations.{State, closed, working}
use Rattle.claim.specs.Derived.{Claimed, Reached, state_of}
use Rattle.claim.specs.Histories.{AllLiteralsTrue, splits_in}
use Rattle.claim.specs.declared.derivation.Derivation.{Derivation}
use Rattle.claim.specs.declared.opening.Claim.{Claim}
use Rattle.claim.specs.declared.sent.SentStep.{SentStep}
use Rattle.claimfile.specs.Entries.{step_bytes, begin_bytes}
use Rattle.claimfile.specs.Judging.{AllAssumed, Concluded, EstablishedMeans, Judged, begun_bytes, front_bytes, longest_file, refused_at, unfinished}
use Rattle.claimfile.specs.Progress.{Fronted, Opened, Running, SteppedThrough}
use Rattle.claimfile.specs.Sending.{Stated, all_taken}
use Rattle.claimfile.specs.declared.verdict.Verdict.{Verdict}
use Rattle.claimfile.proofs.Strains.{stated_true}

-- a prefix and the rest
split_at : (file front : List ℕ) (n : ℕ) → n ≤ length file → front ≡ take n file → (file ≡ front ++ drop n file) × (n ≡ length front)
split_at file front n inside is =
    (sym (take-append-drop n file) ∙ ap (λ w. w ++ drop n file) (sym is), sym (length-take-le n file inside) ∙ ap length (sym is))

refused_is : (f : RecordFault) (n : ℕ) → f.offset ≡ n → Verdict.Refused f ≡ refused_at n f.call
refused_is f n same = ap (λ k. refused_at k f.call) same

module _ {T : Type 0} (places_of : T → Places) (book : Book) (file : List ℕ) (few : length file ≤ longest_file) where
  assumed : (c : Claim T) (n : ℕ) (o : Opened places_of book file n c) → AllAssumed book o.entries o.literals (places_of c.theory)
  assumed c n o = record { stated = o.stated; sent = o.claimed.sent }

  -- no claim has taken anything at the start
  pub opened_none : (c : Claim T) → Claimed places_of book c [] [] [] → Opened places_of book file 0 c
  opened_none c h = record { entries = []; literals = []; within = omega arith; bytes = refl; stated = Stated.none; claimed = h }

  pub judged_open : (c : Claim T) (l s x : ℕ) → Opened places_of book file (length file) c → c.counts.literals ≡ l → c.counts.steps ≡ s → c.counts.splits ≡ x → Judged book file (Verdict.Open (unfinished l s x 1))
  judged_open c l s x o hl hs hx =
      let whole : file ≡ front_bytes o.entries = sym (take_all (length file) file (omega arith)) ∙ sym o.bytes in
      let l-is : length o.literals ≡ l = sym o.claimed.counted_literals ∙ hl in
      let s-is : 0 ≡ s = sym o.claimed.counted_steps ∙ hs in
      let x-is : 0 ≡ x = sym o.claimed.counted_splits ∙ hx in
      subst (λ a. Judged book file (Verdict.Open (unfinished a s x 1))) l-is (subst (λ a. Judged book file (Verdict.Open (unfinished (length o.literals) a x 1))) s-is (subst (λ a. Judged book file (Verdict.Open (unfinished (length o.literals) 0 a 1))) x-is (Judged.not_begun few o.entries o.literals (places_of c.theory) whole (assumed c (length file) o))))

  pub judged_before : (d : Claim T) (f : RecordFault) → Fronted places_of book file (Err f) d → Judged book file (Verdict.Refused f)
  judged_before d f (c, o, bad) =
      let parts = split_at file (front_bytes o.entries) f.offset o.within o.bytes in
      subst (Judged book file) (sym (refused_is f (length (front_bytes o.entries)) parts.1)) (Judged.refused_before few o.entries o.literals (places_of c.theory) (drop f.offset file) f.call parts.0 (assumed c f.offset o) bad)

  -- ---- after the begin

  module _ (c : Claim T) (m start : ℕ) (o : Opened places_of book file m c) (begun : take start file ≡ take m file ++ begin_bytes) where
    pub running_none : (d : Derivation T) → start ≤ length file → Reached places_of book d (places_of c.theory) o.literals [] [] [] → Running places_of book file (places_of c.theory) o.literals start start d
    running_none d inside h = record { steps = []; taken = []; fit = tt; within = inside; bytes = append-nil (take start file); reached = h }

    -- the steps of a file, where they were read from a reader of its bytes
    pub stepped : (bytes : List ℕ) (d e : Derivation T) (r : Result (Unit {0}) RecordFault) → bytes ≡ file → start ≤ length bytes → Reached places_of book d (places_of c.theory) o.literals [] [] [] → ((ps : Places) (ls : List Literal) → Running places_of book bytes ps ls start start d → SteppedThrough places_of book bytes ps ls start r e) → SteppedThrough places_of book file (places_of c.theory) o.literals start r e
    stepped bytes d e r same inside h taken =
        let first = running_none d (subst (λ b. start ≤ length b) same inside) h in
        subst (λ b. SteppedThrough places_of book b (places_of c.theory) o.literals start r e) same (taken (places_of c.theory) o.literals (subst (λ b. Running places_of book b (places_of c.theory) o.literals start start d) (sym same) first))

    through : (ss : List SentStep) (n : ℕ) → take start file ++ flat_map step_bytes ss ≡ take n file → begun_bytes o.entries ss ≡ take n file
    through ss n is =
        sym (append_assoc (front_bytes o.entries) begin_bytes (flat_map step_bytes ss)) ∙ ap (λ w. (w ++ begin_bytes) ++ flat_map step_bytes ss) o.bytes ∙ ap (λ w. w ++ flat_map step_bytes ss) (sym begun) ∙ is

    pub judged_after : (d : Derivation T) (f : RecordFault) → SteppedThrough places_of book file (places_of c.theory) o.literals start (Err f) d → Judged book file (Verdict.Refused f)
    judged_after d f (e, r, bad) =
        let parts = split_at file (begun_bytes o.entries r.steps) f.offset r.within (through r.steps f.offset r.bytes) in
        subst (Judged book file) (sym (refused_is f (length (begun_bytes o.entries r.steps)) parts.1)) (Judged.refused_after few o.entries o.literals (places_of c.theory) r.steps (state_of places_of e) r.taken (drop f.offset file) f.call parts.0 r.fit (assumed c m o) r.reached.sent bad)

    module _ (d : Derivation T) (r : Running places_of book file (places_of c.theory) o.literals start (length file) d) (v : Verdict) (end : Concluded (state_of places_of d) d.counts.literals d.counts.steps d.counts.splits v) where
      whole : file ≡ begun_bytes o.entries r.steps
      whole = sym (take_all (length file) file (omega arith)) ∙ sym (through r.steps (length file) r.bytes)

      pub judged_ended : Judged book file v
      judged_ended =
          let l = r.reached.counted_literals in
          let s = r.reached.counted_steps in
          let x = r.reached.counted_splits in
          let st : State = state_of places_of d in
          let said : Concluded st (length o.literals) (length r.taken) (splits_in r.taken) v = subst (λ a. Concluded st (length o.literals) (length r.taken) a v) x (subst (λ a. Concluded st (length o.literals) a d.counts.splits v) s (subst (λ a. Concluded st a d.counts.steps d.counts.splits v) l end)) in
          Judged.ended few o.entries o.literals (places_of c.theory) r.steps st r.taken v whole r.fit (assumed c m o) r.reached.sent said

      pub established : (admits : Valuation → Type 0) → AllSound admits book → EstablishedMeans admits file v
      established admits sound =
          by v (state_of places_of d) (promise admits book sound o.literals (all_taken o.literals) (places_of c.theory) o.literals o.claimed.sent r.steps (all_taken r.steps) (state_of places_of d) r.taken r.reached.sent).no_false_seal end
        where
          by : (u : Verdict) (st : State) → (st ≡ closed → (w : Valuation) → admits w → AllLiteralsTrue w o.literals → ⊥) → Concluded st d.counts.literals d.counts.steps d.counts.splits u → EstablishedMeans admits file u
          by (Verdict.Established seal) closed none h =
              record {
                entries = o.entries;
                steps = r.steps;
                literals = o.literals;
                bytes = whole;
                fit = r.fit;
                stated = o.stated;
                none_true = none refl;
                no_strains = λ w fits all. none refl w fits (stated_true w o.entries o.literals o.stated all);
              }
          by (Verdict.Established seal) (working ps ss) none h = absurd h
          by (Verdict.Open u) st none h = tt
          by (Verdict.Refused f) st none h = tt
