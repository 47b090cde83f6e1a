use Rattle.theory.proofs.Pairs.{pair_literal}
use Rattle.theory.proofs.pair.PairTheory.assume_refusal.Goals as goal

pub returns : goal.returns
returns g c =
    let ps = g.L.Theory.places c.args.self.now.left in
    let qs = g.R.Theory.places c.args.self.now.right in
    pair_literal ps qs g.L.Theory.rules g.R.Theory.rules c.args.fact.now _ (c.literal_refusal.ensures ps qs _ _ c.assume_refusal.ensures c.assume_refusal-2.ensures)
