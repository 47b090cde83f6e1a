use Rattle.std.proofs.lemmas.Result.{IfOk-weaker}
use Rattle.claimfile.proofs.Admitting.{reported_so}
use Rattle.closewhole.proofs.line.Goals as goal

pub returns : goal.returns
returns c = IfOk-weaker c.report.result _ _ (λ text. reported_so _ _ (λ v whole. (tt, whole)) _ _ _) c.report.ensures
