use Rattle.std.proofs.Common.{get_or, ℤ, pos, rules}
use Rattle.linear.specs.Division.{Floored}
use Rattle.linear.proofs.Calls.{each_from_fn}
use Rattle.linear.proofs.Quotients.{quotients_all}
use Rattle.linear.proofs.cut.quotients.Goals as goal

pub returns : goal.returns
returns c =
    quotients_all _ _ _ (search rules) (search rules) c.from_fn.ensures.items.long
    (λ k. each_from_fn _ (λ k q. (rest : ℤ) × Floored (get_or c.args.numbers.now k (pos 0)) c.args.by q rest) _ (λ k q f called. search rules) _ 32 c.from_fn.ensures.items k (pos 0))
