use Rattle.std.proofs.Common.{◌∙◌, arith, rules}
use Rattle.std.proofs.lemmas.Int.{ints}
use Rattle.std.proofs.lemmas.Bool.Decides.{not_from_Decides}
use Rattle.linear.specs.Forms.{does_contradict}
use Rattle.linear.proofs.Tested.{holds_is, holds_not, contradiction_tested}
use Rattle.linear.proofs.question.contradicts.Goals as goal

pub returns-then-is_nameless : goal.returns-then-is_nameless
returns-then-is_nameless c =
    holds_is (does_contradict c.args.how c.args.row.now) _
    (contradiction_tested _ _ _ _ (c.is_nameless.ensures.0 (search rules)) (omega (arith, ints)) c.compares.ensures)

pub returns-else-is_nameless : goal.returns-else-is_nameless
returns-else-is_nameless c =
    c.if-is_nameless.false ∙ holds_not (does_contradict c.args.how c.args.row.now) (λ h. not_from_Decides _ c.is_nameless.ensures (search rules) h.nameless)
