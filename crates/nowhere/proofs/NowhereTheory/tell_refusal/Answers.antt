use Rattle.nowhere.proofs.Answers.{telling}
use Rattle.nowhere.proofs.NowhereTheory.tell_refusal.Goals as goal

pub returns : goal.returns
returns c = telling c.args._comparison
