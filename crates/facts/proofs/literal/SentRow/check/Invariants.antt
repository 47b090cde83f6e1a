use Rattle.std.proofs.Common.{◌≡◌}
use Rattle.facts.proofs.Adding.{Adding}
use Rattle.facts.proofs.literal.SentRow.check.Given as goal

abbrev pub invariant-loop-i : goal.invariant-loop-i
invariant-loop-i l = (l.pair-items ≡ l.fn.self.pairs) × Adding l.fn.self.pairs l.i l.coefficients
