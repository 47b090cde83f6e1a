use Rattle.std.proofs.Common.{◌≤◌, List, [], length, take, vec_items}
use Rattle.facts.specs.declared.literal.Literal.{Literal}
use Rattle.claim.specs.Derived.{Claimed}
use Rattle.claim.proofs.run.send_literals.Given as goal

abbrev pub invariant-loop-literal : goal.invariant-loop-literal
invariant-loop-literal g l =
    (l.literal-index ≤ length l.literals)
    × (Claimed g.T.Theory.places g.T.Theory.rules l.initial.claim [] [] [] → (taken : List Literal) × Claimed g.T.Theory.places g.T.Theory.rules l.claim (take l.literal-index l.literals) (vec_items l.answers) taken)
