-- A whole run of a claim, with its promise.
use Rattle.std.specs.Prelude.{◌≡◌, List, length}
use Rattle.facts.specs.Valuations.{Valuation}
use Rattle.facts.specs.declared.literal.Literal.{Literal}
use Rattle.theory.specs.Places.{Places}
use Rattle.theory.specs.Rules.{Book}
use Rattle.claim.specs.Calls.{Answer}
use Rattle.claim.specs.Derivations.{Derives, State}
use Rattle.claim.specs.Histories.{LiteralsSent, StepsSent, Throughout, AllLiteralsTrue, splits_in}
use Rattle.claim.specs.declared.seal.Ending.{Ending}
use Rattle.claim.specs.declared.seal.Seal.{Seal}
use Rattle.claim.specs.declared.sent.SentStep.{SentStep}
use Rattle.claim.specs.declared.step.Step.{Step}

-- Literals were sent to a fresh claim and then steps, each with its answer; the end gave e. What
-- stands after the literals taken, the literals and steps taken, and the promise after every call.
pub record Replayed (admits : Valuation → Type 0) (book : Book) (ls : List Literal) (ss : List SentStep) (lrs srs : List Answer) (e : Ending) : Type 0 where
  pub places : Places
  pub literals : List Literal
  pub literals_sent : LiteralsSent book ls lrs places literals
  pub state : State
  pub steps : List Step
  pub steps_sent : StepsSent book places (length literals) ss srs state steps
  pub throughout : Throughout admits book places literals ss srs state steps steps_sent
  -- no false seal
  pub no_false_seal : (s : Seal) → e ≡ Ending.Sealed s → (v : Valuation) → admits v → AllLiteralsTrue v literals → ⊥
  -- a seal exactly if the steps taken are the whole writing of a derivation, with its counts
  pub sealed_by : (s : Seal) → e ≡ Ending.Sealed s → Derives book 0 places steps × (s.counts.literals ≡ length literals) × (s.counts.steps ≡ length steps) × (s.counts.splits ≡ splits_in steps)
  pub seals : Derives book 0 places steps → (s : Seal) × (e ≡ Ending.Sealed s)
