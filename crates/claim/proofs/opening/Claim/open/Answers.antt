use Rattle.std.proofs.Common.{[], sym, subst}
use mathlib.Core.Path.{fun_ext}
use Rattle.claim.specs.Histories.{LiteralsSent}
use Rattle.claim.proofs.opening.Claim.open.Goals as goal

pub returns : goal.returns
returns g c =
    record {
      places = c.fresh.ensures;
      counts = c.none.ensures;
      history = record {
        sent = subst (λ ps. LiteralsSent g.T.Theory.rules [] [] ps []) (sym (fun_ext c.fresh.ensures)) LiteralsSent.none;
        counted_literals = c.none.ensures.0;
        counted_steps = c.none.ensures.1;
        counted_splits = c.none.ensures.2;
      };
    }
