use Rattle.std.proofs.lemmas.Bool.{false_from_ne_true}
use Rattle.std.proofs.lemmas.Result.{IfOk-weaker}
use Rattle.witness.proofs.Nothing.{never}
use Rattle.witness.proofs.nothing_sealed.Goals as goal

pub returns : goal.returns
returns c =
    IfOk-weaker c.sealed.result _ _ (λ b h. false_from_ne_true b (λ same. never c.args.literals.now (h same))) c.sealed.ensures
