-- The counts of a run's seal, by the contract of a whole run.
use Rattle.std.proofs.Common.{◌≡◌, ℕ, List, length, IfOk, Some, None, Ok, Err, Option, Result, sym, refl, ap, ◌∙◌, subst}
use Rattle.std.specs.declared.alloc.AllocError.{AllocError}
use Rattle.claim.specs.declared.sheet.Line.{Line}
use Rattle.facts.specs.Valuations.{Valuation}
use Rattle.facts.specs.declared.literal.Literal.{Literal}
use Rattle.theory.specs.Rules.{Book}
use Rattle.claim.specs.Calls.{Answer}
use Rattle.claim.specs.Derivations.{Derives}
use Rattle.claim.specs.Histories.{splits_in}
use Rattle.claim.specs.Replays.{Replayed}
use Rattle.claim.specs.Sheets.{line_of}
use Rattle.claim.specs.declared.seal.Ending.{Ending}
use Rattle.claim.specs.declared.seal.Seal.{Seal}
use Rattle.claim.specs.declared.sent.SentStep.{SentStep}
use Rattle.examples.specs.Runs.{Sealed, NeverSealed, CountsTold, SameRun, all_taken, counts, counts_in}
use Rattle.examples.proofs.Open.{taken_true}

module _ (admits : Valuation → Type 0) (whole : (v : Valuation) → v.denominator ≡ 1 → admits v) (book : Book) (ls : List Literal) (ss : List SentStep) (lrs srs : List Answer) (e : Ending) (run : Replayed admits book ls ss lrs srs e) where
  same : (l s p : ℕ) (r : Sealed book ls ss l s p) → SameRun lrs (all_taken ls) run.literals ls run.places r.places srs (all_taken ss) run.steps r.taken run.state
  same l s p r = r.only lrs run.places run.literals run.literals_sent srs run.state run.steps run.steps_sent

  counted : (x : Seal) → e ≡ Ending.Sealed x → CountsTold book ls ss (Some (line_of x))
  counted x is =
      record {
        sealed = λ literals steps splits r.
            let one = same literals steps splits r in
            let (d, i, j, k) = run.sealed_by x is in
            ap (λ n. Some (counts n x.counts.steps x.counts.splits)) (i ∙ ap length one.literals_taken ∙ r.literals_counted)
            ∙ ap (λ n. Some (counts literals n x.counts.splits)) (j ∙ ap length one.steps_taken ∙ r.steps_counted)
            ∙ ap (λ n. Some (counts literals steps n)) (k ∙ ap splits_in one.steps_taken ∙ r.splits_counted);
        open_for_good = λ v never. absurd (run.no_false_seal x is v (whole v never.whole) (taken_true v book ls lrs run.places run.literals run.literals_sent never.all_true));
      }

  uncounted : (n : ℕ) → e ≡ Ending.Open n → CountsTold book ls ss None
  uncounted n is =
      record {
        sealed = λ literals steps splits r.
            let one = same literals steps splits r in
            let derived : Derives book 0 run.places run.steps = subst (λ ps. Derives book 0 ps run.steps) (sym one.same_places) (subst (Derives book 0 r.places) (sym one.steps_taken) r.derives) in
            let (x, shut) = run.seals derived in
            absurd cc;
        open_for_good = λ v never. refl;
      }

pub told : (admits : Valuation → Type 0) → ((v : Valuation) → v.denominator ≡ 1 → admits v) → (book : Book) (ls : List Literal) (ss : List SentStep) (lrs srs : List Answer) (e : Ending) → Replayed admits book ls ss lrs srs e → CountsTold book ls ss (counts_in e)
told admits whole book ls ss lrs srs (Ending.Sealed x) run = counted admits whole book ls ss lrs srs (Ending.Sealed x) run x refl
told admits whole book ls ss lrs srs (Ending.Open n) run = uncounted admits whole book ls ss lrs srs (Ending.Open n) run n refl

-- and so where the calls are known
pub made_sealed : (book : Book) (ls ks : List Literal) (ss ts : List SentStep) (literals steps splits : ℕ) (r : Result (Option Line) AllocError) → IfOk r (CountsTold book ks ts) → ks ≡ ls → ts ≡ ss → Sealed book ls ss literals steps splits → IfOk r (λ o. o ≡ Some (counts literals steps splits))
made_sealed book ls ks ss ts literals steps splits (Ok o) h e f run =
    (subst (λ x. CountsTold book ls x o) f (subst (λ x. CountsTold book x ts o) e h)).sealed literals steps splits run
made_sealed book ls ks ss ts literals steps splits (Err x) h e f run = tt

pub made_open : (book : Book) (ls ks : List Literal) (ss : List SentStep) (v : Valuation) (r : Result (Option Line) AllocError) → IfOk r (CountsTold book ks ss) → ks ≡ ls → NeverSealed book ls v → IfOk r (λ o. o ≡ None)
made_open book ls ks ss v (Ok o) h e never = (subst (λ x. CountsTold book x ss o) e h).open_for_good v never
made_open book ls ks ss v (Err x) h e never = tt
