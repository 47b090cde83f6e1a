use Rattle.std.proofs.Common.{refl}
use Rattle.nowhere.proofs.Answers.{opening}
use Rattle.nowhere.proofs.NowhereTheory.push_level.Goals as goal

pub returns : goal.returns
returns c = (opening, λ a. refl)
