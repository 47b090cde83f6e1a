-- A whole run keeps the promise.
use Rattle.std.proofs.Common.{◌≡◌, ℕ, List, [], length, refl, ap, ◌∙◌, subst, arith}
use Rattle.facts.specs.Valuations.{Valuation}
use Rattle.facts.specs.declared.literal.Literal.{Literal}
use Rattle.theory.specs.Places.{Places}
use Rattle.theory.specs.Rules.{Book, AllSound}
use Rattle.claim.specs.Calls.{Answer}
use Rattle.claim.specs.Derivations.{State, closed, working}
use Rattle.claim.specs.Derived.{state_of, Claimed, Reached}
use Rattle.claim.specs.Endings.{Ended, SealedWith}
use Rattle.claim.specs.Histories.{LiteralsSent, StepsSent, Throughout, Promise}
use Rattle.claim.specs.Replays.{Replayed}
use Rattle.claim.specs.declared.counts.Counts.{Counts}
use Rattle.claim.specs.declared.derivation.Derivation.{Derivation}
use Rattle.claim.specs.declared.opening.Claim.{Claim}
use Rattle.claim.specs.declared.seal.Ending.{Ending}
use Rattle.claim.specs.declared.seal.Seal.{Seal}
use Rattle.claim.specs.declared.sent.SentStep.{SentStep}
use Rattle.claim.specs.declared.step.Step.{Step}
use Rattle.claim.proofs.Promises.{promise}

sealed_closed : (st : State) (c : Counts) (e : Ending) (s : Seal) → Ended st c e → e ≡ Ending.Sealed s → (st ≡ closed) × SealedWith c s
sealed_closed closed c (Ending.Sealed r) s h same = (refl, subst (SealedWith c) (cc) h)
sealed_closed closed c (Ending.Open n) s h same = absurd h
sealed_closed (working ps ss) c (Ending.Sealed r) s h same = absurd h
sealed_closed (working ps ss) c (Ending.Open n) s h same = let z : ◌≡◌ {A = ℕ} 0 1 = cc in absurd (omega arith)

closed_sealed : (st : State) (c : Counts) (e : Ending) → Ended st c e → st ≡ closed → (s : Seal) × (e ≡ Ending.Sealed s)
closed_sealed closed c (Ending.Sealed s) h same = (s, refl)
closed_sealed closed c (Ending.Open n) h same = absurd h
closed_sealed (working ps ss) c (Ending.Sealed s) h same = absurd h
closed_sealed (working ps ss) c (Ending.Open n) h same = let z : ◌≡◌ {A = ℕ} 0 1 = cc in absurd (omega arith)

module _ (admits : Valuation → Type 0) (book : Book) (sound : AllSound admits book) (ls : List Literal) (lrs : List Answer) (ps : Places) (literals : List Literal) (sent : LiteralsSent book ls lrs ps literals) where
  all_through : (ss : List SentStep) (rs : List Answer) (st : State) (steps : List Step) (h : StepsSent book ps (length literals) ss rs st steps) → Throughout admits book ps literals ss rs st steps h
  all_through ss rs st steps StepsSent.none = promise admits book sound ls lrs ps literals sent [] [] (working ps []) [] StepsSent.none
  all_through ss rs st steps (StepsSent.more {ss = before} {rs = answers} {st = was} {taken = done} s a t after h call) =
      (all_through before answers was done h, promise admits book sound ls lrs ps literals sent _ _ after _ (StepsSent.more s a t after h call))

pub replayed : {T : Type 0} (places_of : T → Places) (admits : Valuation → Type 0) (book : Book) → AllSound admits book → (c : Claim T) (d : Derivation T) (ls : List Literal) (lrs : List Answer) (literals : List Literal) (ss : List SentStep) (srs : List Answer) (steps : List Step) (e : Ending) → Claimed places_of book c ls lrs literals → Reached places_of book d (places_of c.theory) literals ss srs steps → Ended (state_of places_of d) d.counts e → Replayed admits book ls ss lrs srs e
replayed places_of admits book sound c d ls lrs literals ss srs steps e claimed reached ended =
    let kept : Promise admits book (places_of c.theory) literals (state_of places_of d) steps = promise admits book sound ls lrs (places_of c.theory) literals claimed.sent ss srs (state_of places_of d) steps reached.sent in
    record {
      places = places_of c.theory;
      literals = literals;
      literals_sent = claimed.sent;
      state = state_of places_of d;
      steps = steps;
      steps_sent = reached.sent;
      throughout = all_through admits book sound ls lrs (places_of c.theory) literals claimed.sent ss srs (state_of places_of d) steps reached.sent;
      no_false_seal = λ s same. kept.no_false_seal (sealed_closed (state_of places_of d) d.counts e s ended same).0;
      sealed_by = λ s same.
          let both = sealed_closed (state_of places_of d) d.counts e s ended same in
          (kept.closed_by both.0, ap (λ c. c.literals) both.1 ∙ reached.counted_literals, ap (λ c. c.steps) both.1 ∙ reached.counted_steps, ap (λ c. c.splits) both.1 ∙ reached.counted_splits);
      seals = λ h. closed_sealed (state_of places_of d) d.counts e ended (kept.closes h);
    }
