use Rattle.std.proofs.Common.{◌≡◌, pos, ◌+ℤ◌, ◌*ℤ◌, rules}
use Rattle.linear.specs.Rows.{coefficient}
use Rattle.linear.specs.Listed.{listed_is}
use Rattle.linear.proofs.Calls.{each_from_fn}
use Rattle.linear.proofs.sum.sum_coefficients.Goals as goal

pub returns : goal.returns
returns c =
    listed_is _ _ c.from_fn.ensures.items.long
    (λ k. each_from_fn _ (λ k z. z ≡ coefficient c.args.a.now k +ℤ (c.args.factor.value *ℤ coefficient c.args.b.now k)) _ (λ k z f called. search rules) _ 32 c.from_fn.ensures.items k (pos 0))
