-- What a run of a claim may come to.
use Rattle.std.specs.Prelude.{◌≡◌, ℕ, List, map, length, Some, None, Ok, Option, ◌≢◌}
use Rattle.facts.specs.Valuations.{Valuation}
use Rattle.facts.specs.declared.literal.Literal.{Literal}
use Rattle.theory.specs.Places.{Places}
use Rattle.theory.specs.Rules.{Book}
use Rattle.claim.specs.Calls.{Answer}
use Rattle.claim.specs.Derivations.{Derives, State, closed}
use Rattle.claim.specs.Histories.{LiteralsSent, StepsSent, AllLiteralsTrue, splits_in}
use Rattle.claim.specs.Sheets.{line_of}
use Rattle.claim.specs.declared.seal.Ending.{Ending}
use Rattle.claim.specs.declared.sent.SentStep.{SentStep}
use Rattle.claim.specs.declared.sheet.Line.{Line}
use Rattle.claim.specs.declared.step.Step.{Step}

-- every call is taken
abbrev pub all_taken : {X : Type 0} → List X → List Answer
all_taken xs = map (λ _. Ok tt) xs

-- a run is another: the answers to its literals, which were taken and what stands then; the answers
-- to its steps and which were taken; and it is closed
pub record SameRun (lrs lrs' : List Answer) (kept kept' : List Literal) (ps ps' : Places) (srs srs' : List Answer) (done done' : List Step) (st : State) : Type 0 where
  pub literal_answers : lrs ≡ lrs'
  pub literals_taken : kept ≡ kept'
  pub same_places : ps ≡ ps'
  pub step_answers : srs ≡ srs'
  pub steps_taken : done ≡ done'
  pub shut : st ≡ closed

-- Every literal and every step is taken and the claim is closed, so it ends in a seal with these
-- counts; and nothing else can be answered.
pub record Sealed (book : Book) (ls : List Literal) (ss : List SentStep) (literals steps splits : ℕ) : Type 0 where
  pub places : Places
  pub literals_sent : LiteralsSent book ls (all_taken ls) places ls
  pub taken : List Step
  pub steps_sent : StepsSent book places (length ls) ss (all_taken ss) closed taken
  pub derives : Derives book 0 places taken
  pub literals_counted : length ls ≡ literals
  pub steps_counted : length taken ≡ steps
  pub splits_counted : splits_in taken ≡ splits
  pub only : (lrs : List Answer) (ps : Places) (kept : List Literal) → LiteralsSent book ls lrs ps kept → (srs : List Answer) (st : State) (done : List Step) → StepsSent book ps (length kept) ss srs st done → SameRun lrs (all_taken ls) kept ls ps places srs (all_taken ss) done taken st

-- A valuation by whole numbers makes the literals true. So all may be taken, and whatever steps are
-- sent then, and whatever is answered, the claim is not closed: there is no derivation.
pub record NeverSealed (book : Book) (ls : List Literal) (v : Valuation) : Type 0 where
  pub whole : v.denominator ≡ 1
  pub all_true : AllLiteralsTrue v ls
  pub places : Places
  pub literals_sent : LiteralsSent book ls (all_taken ls) places ls
  pub underivable : (w : List Step) → Derives book 0 places w → ⊥
  pub never : (lrs : List Answer) (ps : Places) (literals : List Literal) → LiteralsSent book ls lrs ps literals → (ss : List SentStep) (srs : List Answer) (st : State) (steps : List Step) → StepsSent book ps (length literals) ss srs st steps → st ≢ closed

abbrev pub counts : ℕ → ℕ → ℕ → Line
counts literals steps splits = record { literals = literals; steps = steps; splits = splits }

-- what is told of a run: the counts of its seal, or that there is none
pub record CountsTold (book : Book) (ls : List Literal) (ss : List SentStep) (o : Option Line) : Type 0 where
  pub sealed : (literals steps splits : ℕ) → Sealed book ls ss literals steps splits → o ≡ Some (counts literals steps splits)
  pub open_for_good : (v : Valuation) → NeverSealed book ls v → o ≡ None

-- the counts of the seal that a run ended in
abbrev pub counts_in : Ending → Option Line
counts_in (Ending.Sealed s) = Some (line_of s)
counts_in (Ending.Open n) = None
