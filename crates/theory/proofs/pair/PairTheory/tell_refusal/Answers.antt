use Rattle.std.proofs.Common.{rules}
use Rattle.theory.proofs.Pairs.{pair_telling}
use Rattle.theory.proofs.pair.PairTheory.tell_refusal.Goals as goal

pub returns : goal.returns
returns g c = pair_telling (g.L.Theory.places c.args.self.now.left) (g.R.Theory.places c.args.self.now.right) g.L.Theory.rules g.R.Theory.rules c.args.comparison _ c.or_else.result c.tell_refusal.ensures (search rules)
