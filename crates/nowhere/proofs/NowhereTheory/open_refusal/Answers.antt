use Rattle.nowhere.proofs.Answers.{opening}
use Rattle.nowhere.proofs.NowhereTheory.open_refusal.Goals as goal

pub returns : goal.returns
returns c = opening
