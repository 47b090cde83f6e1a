use Rattle.std.proofs.Common.{length, sym, ap, ◌∙◌, subst}
use Rattle.claim.specs.Derivations.{RoomTold, branch_from}
use Rattle.claim.specs.Stacks.{stack_splits}
use Rattle.claim.proofs.Branches.{branch_begun}
use Rattle.claim.proofs.Stacks.{pushed}
use Rattle.claim.proofs.derivation.Derivation.begin_branch.Goals as goal

pub returns-clause-begun : goal.returns-clause-begun
returns-clause-begun g c level few room =
    let d = c.args.self.now in
    let ps = g.T.Theory.places d.theory in
    let told = c.comparison.ensures in (
      branch_begun g.T.Theory.places g.T.Theory.rules d.theory _ _ c.comparison.result _ _ c.push_level.ensures c.tell.ensures (length (stack_splits d.stack)) few level (subst (λ k. RoomTold g.T.Theory.rules k ps) (sym told) room)
          ∙ ap (λ k. branch_from g.T.Theory.rules k ps) told,
      pushed d.stack _ c.args.split _ few c.try_push.ensures.ok c.try_push.ensures.full,
    )
