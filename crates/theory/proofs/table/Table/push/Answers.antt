use Rattle.std.proofs.Common.{refl, arith}
use Rattle.theory.proofs.Tables.{ordered_more, row_written}
use Rattle.theory.proofs.table.Table.push.Goals as goal

pub returns : goal.returns
returns c = row_written _ _ _ (omega arith) refl refl refl refl

pub invariant_of-self-clause-ordered : goal.invariant_of-self-clause-ordered
invariant_of-self-clause-ordered c =
    let t = c.args.self.now in
    ordered_more _ t.used _ (omega arith) t.ordered
