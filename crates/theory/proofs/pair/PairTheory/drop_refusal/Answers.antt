use Rattle.std.proofs.Common.{rules}
use Rattle.theory.proofs.Pairs.{pair_dropping}
use Rattle.theory.proofs.pair.PairTheory.drop_refusal.Goals as goal

pub returns : goal.returns
returns g c = pair_dropping (g.L.Theory.places c.args.self.now.left) (g.R.Theory.places c.args.self.now.right) _ c.or_else.result c.drop_refusal.ensures (search rules)
