use Rattle.std.proofs.Common.{rules}
use Rattle.claim.proofs.Tellings.{told_in_turn}
use Rattle.claim.proofs.derivation.Derivation.split_refusal.Goals as goal

pub returns : goal.returns
returns g c =
    told_in_turn g.T.Theory.rules (g.T.Theory.places c.args.self.now.theory) c.args.left c.args.right c.tell_refusal.result c.or_else.result c.or_else-2.result c.tell_refusal.ensures (search rules) (search rules)
