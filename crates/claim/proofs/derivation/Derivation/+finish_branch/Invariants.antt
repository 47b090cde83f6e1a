use Rattle.std.proofs.Common.{length}
use Rattle.claim.specs.Stacks.{stack_splits}
use Rattle.claim.proofs.derivation.Derivation.+finish_branch.Given as goal

abbrev pub decreases-finish_branch : goal.decreases-finish_branch
decreases-finish_branch g l = length (stack_splits l.self.now.stack)
