use Rattle.std.proofs.Common.{◌≡◌, ◌*ℤ◌, rules, pos}
use Rattle.linear.specs.Forms.{difference_at}
use Rattle.linear.specs.Listed.{listed_is}
use Rattle.linear.proofs.Calls.{each_from_fn}
use Rattle.linear.proofs.difference.multiple_coefficients.Goals as goal

pub returns : goal.returns
returns c =
    listed_is _ _ c.from_fn.ensures.items.long
    (λ k. each_from_fn _ (λ k z. z ≡ c.args.size *ℤ difference_at c.args.n c.args.m k) _ (λ k z f called. search rules) _ 32 c.from_fn.ensures.items k (pos 0))
