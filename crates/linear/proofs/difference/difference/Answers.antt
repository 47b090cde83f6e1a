use Rattle.std.proofs.Common.{◌≡◌, pos, is_some, Some, refl, ap, ◌∙◌}
use Rattle.std.proofs.Math.Path.{fun_ext}
use Rattle.facts.proofs.Integers.{one_times}
use Rattle.linear.specs.Forms.{difference_at, difference_fits, difference_row}
use Rattle.linear.specs.Rows.{listed}
use Rattle.linear.specs.RowsMade.{row_fitted}
use Rattle.linear.proofs.difference.difference.Goals as goal

pub unwrap-requires : goal.unwrap-requires
unwrap-requires c =
    let once = ap listed (fun_ext (λ k. one_times (difference_at c.args.n c.args.m k))) in
    ap is_some (row_fitted (pos 0) (pos 0) _ _ (difference_fits c.args.n c.args.m) c.new.result c.new.ensures refl (c.multiple_coefficients.ensures ∙ once))

pub returns : goal.returns
returns c =
    let once = ap listed (fun_ext (λ k. one_times (difference_at c.args.n c.args.m k))) in
    let made : c.new.result ≡ Some (difference_row c.args.n c.args.m) = row_fitted (pos 0) (pos 0) _ _ (difference_fits c.args.n c.args.m) c.new.result c.new.ensures refl (c.multiple_coefficients.ensures ∙ once) in
    let taken = c.unwrap.ensures in
    cc
