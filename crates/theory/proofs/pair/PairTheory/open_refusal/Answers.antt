use Rattle.std.proofs.Common.{rules}
use Rattle.theory.proofs.Pairs.{pair_opening}
use Rattle.theory.proofs.pair.PairTheory.open_refusal.Goals as goal

pub returns : goal.returns
returns g c = pair_opening (g.L.Theory.places c.args.self.now.left) (g.R.Theory.places c.args.self.now.right) _ c.or_else.result c.open_refusal.ensures (search rules)
