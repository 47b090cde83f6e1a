use Rattle.facts.proofs.Truth.{equal_checked, distinct_checked, linear_checked}
use Rattle.facts.proofs.literal.Literal.check.Goals as goal

pub returns-in_ok-t-in-Equal : goal.returns-in_ok-t-in-Equal
returns-in_ok-t-in-Equal c =
    equal_checked _ _ _ _ _ c.in-Equal.is c.in_ok-t-in-Equal.ensures

pub returns-in_ok-t-in-Distinct : goal.returns-in_ok-t-in-Distinct
returns-in_ok-t-in-Distinct c =
    distinct_checked _ _ _ _ _ c.in-Distinct.is c.in_ok-t-in-Distinct.ensures

pub returns-in_ok-check-in-Linear : goal.returns-in_ok-check-in-Linear
returns-in_ok-check-in-Linear c =
    linear_checked _ _ _ _ c.in-Linear.is c.in_ok-check-in-Linear.ensures
