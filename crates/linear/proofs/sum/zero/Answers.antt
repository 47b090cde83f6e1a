use Rattle.std.proofs.Common.{◌≡◌, pos, is_some, Some, refl, ap}
use Rattle.linear.specs.Forms.{zero_fits, zero_row}
use Rattle.linear.specs.Listed.{listed_same}
use Rattle.linear.specs.RowsMade.{row_fitted}
use Rattle.linear.proofs.sum.zero.Goals as goal

pub unwrap-requires : goal.unwrap-requires
unwrap-requires c =
    ap is_some (row_fitted (pos 0) (pos 0) _ _ zero_fits c.new.result c.new.ensures refl (listed_same (pos 0)))

pub returns : goal.returns
returns c =
    let made : c.new.result ≡ Some zero_row = row_fitted (pos 0) (pos 0) _ _ zero_fits c.new.result c.new.ensures refl (listed_same (pos 0)) in
    let taken = c.unwrap.ensures in
    cc
