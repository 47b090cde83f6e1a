use Rattle.std.proofs.lemmas.Result.{IfOk-weaker}
use Rattle.witness.proofs.excluded.Goals as goal

pub returns : goal.returns
returns c =
    IfOk-weaker c.sealed.result _ _ (λ b h same.
    let e = h same in
    record { answers = e.answers; places = e.places; taken = e.taken; sent = e.sent; none_true = λ v whole. e.none_true v (tt, whole) }) c.sealed.ensures
