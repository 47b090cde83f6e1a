use Rattle.nowhere.proofs.Answers.{literal}
use Rattle.nowhere.proofs.NowhereTheory.assume_refusal.Goals as goal

pub returns : goal.returns
returns c = literal c.args._fact.now
