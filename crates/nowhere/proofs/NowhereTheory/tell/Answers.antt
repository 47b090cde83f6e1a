use Rattle.std.proofs.Common.{refl}
use Rattle.nowhere.proofs.Answers.{telling}
use Rattle.nowhere.proofs.NowhereTheory.tell.Goals as goal

pub returns : goal.returns
returns c = (telling c.args._comparison, λ a. refl)
