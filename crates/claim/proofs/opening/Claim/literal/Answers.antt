use Rattle.std.proofs.Common.{rules}
use Rattle.claim.specs.Calls.{LiteralCall}
use Rattle.claim.specs.Counted.{place_of}
use Rattle.claim.specs.Views.{LiteralTaken}
use Rattle.claim.proofs.Extending.{claimed_more}
use Rattle.claim.proofs.opening.Claim.literal.Goals as goal

pub returns-clause-history : goal.returns-clause-history
returns-clause-history g c ls rs taken h =
    let d = c.args.self.now in
    let call : LiteralCall g.T.Theory.rules (g.T.Theory.places d.theory) (place_of d.counts) c.args.literal c.map_err.result (g.T.Theory.places c.take.new.self.theory) = search rules in
    let after : LiteralTaken c.map_err.result d c.take.new.self = search rules in
    claimed_more g.T.Theory.places g.T.Theory.rules d c.take.new.self c.args.literal c.map_err.result ls rs taken call after h
