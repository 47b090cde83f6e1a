use Rattle.nowhere.proofs.Answers.{dropping}
use Rattle.nowhere.proofs.NowhereTheory.drop_refusal.Goals as goal

pub returns : goal.returns
returns c = dropping
