-- What a seal shows of the literals sent.
use Rattle.std.specs.Prelude.{List}
use Rattle.facts.specs.Valuations.{Valuation}
use Rattle.facts.specs.declared.literal.Literal.{Literal}
use Rattle.theory.specs.Places.{Places}
use Rattle.theory.specs.Rules.{Book}
use Rattle.claim.specs.Calls.{Answer}
use Rattle.claim.specs.Histories.{LiteralsSent, AllLiteralsTrue}

-- The literals that were taken of those sent, by their answers: no valuation that is admitted makes
-- them all true.
pub record Excluded (admits : Valuation → Type 0) (book : Book) (ls : List Literal) : Type 0 where
  pub answers : List Answer
  pub places : Places
  pub taken : List Literal
  pub sent : LiteralsSent book ls answers places taken
  pub none_true : (v : Valuation) → admits v → AllLiteralsTrue v taken → ⊥
