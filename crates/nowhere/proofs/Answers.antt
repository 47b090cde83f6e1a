-- Every question over no addresses has its answer at once.
use Rattle.std.proofs.Common.{◌≡◌, ℕ, Some, None, refl, arith}
use Rattle.facts.specs.declared.fact.Comparison.{Comparison}
use Rattle.facts.specs.declared.fact.Fact.{Fact}
use Rattle.facts.specs.declared.refusal.Refusal.{Refusal}
use Rattle.theory.specs.Places.{Place}
use Rattle.theory.specs.Rules.{literal_wanted, telling_wanted, LiteralAnswer, TellingAnswer, OpeningAnswer, DroppingAnswer}
use Rattle.nowhere.specs.Nothing.{no_rules, no_places}

nothing : {X : Type 0} (p : Place) → None ≡ Some p → X
nothing p e = let z : ◌≡◌ {A = ℕ} 0 1 = cc in absurd (omega arith)

pub literal : (f : Fact) → LiteralAnswer no_places (literal_wanted no_rules f) (Some Refusal.LiteralNotKept)
literal f = LiteralAnswer.unkept (λ a. refl)

pub telling : (k : Comparison) → TellingAnswer no_places (telling_wanted no_rules k) None
telling k = TellingAnswer.taken (λ a p f stands. nothing p stands)

pub opening : OpeningAnswer no_places None
opening = OpeningAnswer.taken (λ a p. nothing p)

pub dropping : DroppingAnswer no_places None
dropping = DroppingAnswer.taken (λ a p. nothing p)
