use Rattle.std.proofs.Common.{◌≡◌, ◌∙◌, arith, rules, pos, ◌≤ℤ◌}
use Rattle.std.proofs.lemmas.Int.{ints, to_z-of_z}
use Rattle.std.proofs.lemmas.Bool.Decides.{Decides-int_eq, nat_tests}
use Rattle.std.proofs.lemmas.Slice.Eq.{slice_eq-Decides}
use Rattle.linear.specs.Forms.{is_difference}
use Rattle.linear.proofs.Tested.{holds_is, holds_not, difference_tested}
use Rattle.linear.proofs.difference.is_difference.Goals.{then-constant-eq0, else-constant-eq0}
use Rattle.linear.proofs.difference.is_difference.Goals as goal

pub returns-then-size-ge1 : goal.returns-then-size-ge1
returns-then-size-ge1 c =
    let constant : c.args.row.now.constant ≡ pos 0 = elim c.if-constant-eq0.branch [ then-constant-eq0 w ↦ omega (arith, ints) | else-constant-eq0 w ↦ grind (arith, nat_tests, to_z-of_z) ] in
    let positive : pos 1 ≤ℤ c.coefficient-size.result = elim c.if-constant-eq0.branch [ then-constant-eq0 w ↦ grind (arith, nat_tests, to_z-of_z) | else-constant-eq0 w ↦ grind (arith, nat_tests, to_z-of_z) ] in
    holds_is (is_difference c.args.row.now c.args.n c.args.m) _
    (difference_tested _ _ _ _ c.coefficient-size.result _ _ c.coefficient-size.ensures c.coefficients.ensures (search (rules, to_z-of_z)) constant positive (slice_eq-Decides Decides-int_eq _ _ _ c.eq.ensures))

pub returns-else-size-ge1 : goal.returns-else-size-ge1
returns-else-size-ge1 c =
    c.if-size-ge1.false ∙ holds_not (is_difference c.args.row.now c.args.n c.args.m) (λ d. elim c.if-constant-eq0.branch [ then-constant-eq0 w ↦ grind (arith, nat_tests, to_z-of_z) | else-constant-eq0 w ↦ omega (arith, ints, d.constant) ])
