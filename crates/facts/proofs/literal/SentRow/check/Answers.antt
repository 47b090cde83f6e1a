use Rattle.std.proofs.Common.{refl, arith, rules}
use Rattle.std.proofs.lemmas.Int.{ints}
use Rattle.facts.proofs.Adding.{none_yet, one_more}
use Rattle.facts.proofs.literal.SentRow.check.Goals as goal

pub loop-i-init : goal.loop-i-init
loop-i-init c = (refl, none_yet c.args.self.pairs)

pub loop-i-preserved : goal.loop-i-preserved
loop-i-preserved c = (
  refl,
  one_more c.args.self.pairs c.loop-i.i c.loop-i.coefficients (search rules) c.loop-i.invariant.1 c.in_ok-name.name.index _ _ c.in_ok-name.name.named (search rules) (omega (arith, ints)) (search rules) c.add.ensures,
)
