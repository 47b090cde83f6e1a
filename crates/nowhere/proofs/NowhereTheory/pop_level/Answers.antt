use Rattle.std.proofs.Common.{refl}
use Rattle.nowhere.proofs.Answers.{dropping}
use Rattle.nowhere.proofs.NowhereTheory.pop_level.Goals as goal

pub returns : goal.returns
returns c = (dropping, λ a. refl)
