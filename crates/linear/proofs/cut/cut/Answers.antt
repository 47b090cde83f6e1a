use Rattle.std.proofs.Common.{◌≡◌, ◌≤◌, ℤ, pos, None, arith, w64, to_z, of_z, SFits, rules}
use Rattle.std.proofs.lemmas.Int.{ints}
use Rattle.std.proofs.lemmas.Result.{OkIff-at_ok, Ok-from_Ok_iff}
use Rattle.facts.specs.Sizes.{row_limit}
use Rattle.linear.specs.Cut.{Cut}
use Rattle.linear.specs.Cuts.{cut_none, divisor_within, cut_some, cut_keeps}
use Rattle.linear.specs.CutRows.{cut_is}
use Rattle.linear.proofs.cut.cut.Goals as goal

pub unwrap-divisor-requires : goal.unwrap-divisor-requires
unwrap-divisor-requires c =
    let small : c.content.result ≤ row_limit = divisor_within c.args.row.now _ _ c.coefficients-coefficients.ensures c.content.ensures in
    let fits : SFits w64 (pos c.content.result) = record { sfits = omega arith } in
    let made = Ok-from_Ok_iff _ _ _ c.try_from.ensures fits in
    search rules

pub returns-then-divisor-eq0 : goal.returns-then-divisor-eq0
returns-then-divisor-eq0 c =
    let same : c.unwrap-divisor.result ≡ pos c.content.result = (OkIff-at_ok _ _ _ _ c.try_from.ensures c.unwrap-divisor.ensures).1 in
    let which : Cut c.args.row.now None = cut_none c.args.row.now _ _ c.coefficients-coefficients.ensures c.content.ensures (omega (arith, ints)) in
    record { made = cut_is c.args.row.now None which; which = which; sound = tt }

pub returns : goal.returns
returns c =
    let stored : ℤ = to_z w64 (of_z w64 c.quotient.result) in
    let same : c.unwrap-divisor.result ≡ pos c.content.result = (OkIff-at_ok _ _ _ _ c.try_from.ensures c.unwrap-divisor.ensures).1 in
    let which : Cut c.args.row.now c.new.result =
    cut_some c.args.row.now c.content.result _ _ _ _ _ stored c.quotients.result c.new.result c.coefficients-coefficients.ensures c.content.ensures (omega (arith, ints)) (search rules) (omega (arith, ints)) (search rules) c.quotient.ensures.1 c.quotients.ensures c.new.ensures in
    record { made = cut_is c.args.row.now _ which; which = which; sound = cut_keeps _ _ which }
