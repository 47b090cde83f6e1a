use Rattle.std.proofs.Common.{◌∷◌, sym, ap, ◌∙◌, arith}
use Rattle.claim.specs.Derivations.{next, all_dropped}
use Rattle.claim.specs.Stacks.{stack_splits}
use Rattle.claim.proofs.Branches.{branch_ended}
use Rattle.claim.proofs.Moves.{left_branch, next_branch, next_room, next_outer, working_is}
use Rattle.claim.proofs.Stacks.{newest}
use Rattle.claim.proofs.derivation.Derivation.+finish_branch.Goals as goal

pub returns-in-Some-next-clause-state : goal.returns-in-Some-next-clause-state
returns-in-Some-next-clause-state g t c is_open fit =
    let d = c.args.self.now in
    let s = c.in-Some.split in
    let ss = stack_splits c.pop.new.self in
    let ps = g.T.Theory.places c.pop_level.new.self in
    let popped = newest c.pop.new.self d.stack s c.in-Some.ensures.items in
    let out = left_branch g.T.Theory.rules s ss _ (g.T.Theory.places d.theory) ps popped (branch_ended g.T.Theory.places g.T.Theory.rules d.theory _ _ c.pop_level.ensures) fit in
    let begun = c.begin_branch.ensures.begun out.levelled out.few (next_room g.T.Theory.rules s ss ps c.in-Some-next.branch c.in-Some-next.ensures out.ready) in
    working_is g.T.Theory.places c.begin_branch.new.self _ _ (c.begin_branch.ensures.closed ∙ is_open) begun.0 begun.1
    ∙ sym (next_branch g.T.Theory.rules s ss ps c.in-Some-next.branch c.in-Some-next.ensures)
    ∙ ap (next g.T.Theory.rules (s ∷ ss)) out.dropped
    ∙ ap (λ x. next g.T.Theory.rules x (all_dropped (g.T.Theory.places d.theory))) (sym popped)

pub returns-in-None-clause-state : goal.returns-in-None-clause-state
returns-in-None-clause-state g t c is_open fit =
    let d = c.args.self.now in
    let s = c.in-Some.split in
    let ss = stack_splits c.pop.new.self in
    let ps = g.T.Theory.places c.pop_level.new.self in
    let popped = newest c.pop.new.self d.stack s c.in-Some.ensures.items in
    let out = left_branch g.T.Theory.rules s ss _ (g.T.Theory.places d.theory) ps popped (branch_ended g.T.Theory.places g.T.Theory.rules d.theory _ _ c.pop_level.ensures) fit in
    let few = out.few in
    c.finish_branch.ensures.state is_open (out.levelled, omega arith, out.ready.2)
    ∙ sym (next_outer g.T.Theory.rules s ss ps c.in-None.ensures)
    ∙ ap (next g.T.Theory.rules (s ∷ ss)) out.dropped
    ∙ ap (λ x. next g.T.Theory.rules x (all_dropped (g.T.Theory.places d.theory))) (sym popped)
