use Rattle.std.proofs.Common.{refl}
use Rattle.nowhere.proofs.Answers.{literal}
use Rattle.nowhere.proofs.NowhereTheory.assume.Goals as goal

pub returns : goal.returns
returns c = (literal c.args._fact.now, refl)
