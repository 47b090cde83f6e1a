-- The run over equality and rows.
use Rattle.std.proofs.Common.{false, List, [], ◌∷◌, pos, negsuc, ◌*ℤ◌, Ok, refl, ap, lit<}
use lib.Signed.{le_z_yes}
use Rattle.facts.specs.declared.fact.Fact.{Fact}
use Rattle.facts.specs.declared.fact.Relation.{Relation}
use Rattle.facts.specs.declared.literal.SentRow.{SentRow}
use Rattle.facts.specs.declared.row.Row.{Row}
use Rattle.facts.specs.declared.term.Term.{Term}
use Rattle.theory.specs.Rules.{within_room}
use Rattle.theory.specs.declared.inference.Inference.{Inference}
use Rattle.theory.specs.declared.inference.Outcome.{Outcome}
use Rattle.reading.specs.Bounds.{pair}
use Rattle.linear.specs.Forms.{Difference, difference_at, zero_row}
use Rattle.linear.specs.Rows.{listed, row_with, coefficient}
use Rattle.linear.specs.RowsMade.{row_of_some}
use Rattle.claim.specs.declared.sent.SentStep.{SentStep}
use Rattle.examples.specs.Examples.{Example, Holds, both, squeezed, by_both, n0, n1}
use Rattle.examples.specs.Values.{row, sent_row, bare}
use Rattle.examples.proofs.Inferences.{factor, now, adds, agrees}
use Rattle.examples.proofs.Rows.{same_below, sums}
use Rattle.examples.proofs.Following.{sealed_so}
use Rattle.examples.proofs.Sending.{begin, and_distinct, and_linear, go, and_fact, and_equality, and_closed}
use Rattle.examples.proofs.Sound.{both_sound}

-- n0 - n1, n1 - n0
abbrev s1 : SentRow
s1 = sent_row (pos 0) (pair 0 (pos 1) ∷ pair 1 (negsuc 0) ∷ [])

abbrev s2 : SentRow
s2 = sent_row (pos 0) (pair 0 (negsuc 0) ∷ pair 1 (pos 1) ∷ [])

abbrev r1 : Row
r1 = row (pos 0) (pos 1 ∷ negsuc 0 ∷ []) refl tt

abbrev r2 : Row
r2 = row (pos 0) (negsuc 0 ∷ pos 1 ∷ []) refl tt

abbrev two : List Fact
two = Fact.Linear Relation.NonNegative r1 ∷ Fact.Linear Relation.NonNegative r2 ∷ []

apart : Difference r1 n0 n1
unfolding listed
apart =
    record { constant = refl; positive = le_z_yes tt; each = same_below (coefficient r1) (λ k. coefficient r1 0 *ℤ difference_at n0 n1 k) refl }

back : Difference r2 n1 n0
unfolding listed
back =
    record { constant = refl; positive = le_z_yes tt; each = same_below (coefficient r2) (λ k. coefficient r2 1 *ℤ difference_at n1 n0 k) refl }

pub both_run : Holds (Example.sealed both squeezed by_both 3 6 0)
unfolding listed row_with
both_run =
    let l1 = and_distinct (begin both) (Term.Bare n0) (Term.Bare n1) refl (0, _, refl) (lit< tt) (lit< tt) in
    let l2 = and_linear l1 Relation.NonNegative s1 r1 refl (sums s1 r1 refl refl) (1, _, refl) (lit< tt) (lit< tt) in
    let l3 = and_linear l2 Relation.NonNegative s2 r2 refl (sums s2 r2 refl refl) (1, _, refl) (lit< tt) (lit< tt) in
    let g1 = and_fact (go l3) (lit< tt) (SentStep.Zero 1) 1 Inference.Zero (refl, refl) (now Relation.NonNegative zero_row) refl tt in
    let g2 = and_fact g1 (lit< tt) (SentStep.Add 1 0 (pos 1)) 1 (Inference.Add 0 (factor (pos 1) tt)) (refl, (factor (pos 1) tt, refl, refl)) (now Relation.NonNegative r1) (ap (within_room 3 two) (adds two 0 (factor (pos 1) tt) Relation.NonNegative Relation.NonNegative zero_row r1 r1 tt refl refl (row_of_some _ _ r1 refl refl))) tt in
    let g3 = and_equality g2 (lit< tt) (SentStep.Antisymmetry 1 1 0 1) 1 (Inference.Antisymmetry 1 n0 n1) (refl, (n0, n1, refl, refl, refl)) n0 n1 (ap (within_room 3 two) (agrees two 1 n0 n1 r1 r2 refl apart back)) (lit< tt) in
    let g4 = and_fact g3 (lit< tt) (SentStep.Reflexivity 0 (bare 0)) 0 (Inference.Reflexivity (Term.Bare n0)) (refl, (Term.Bare n0, refl, refl)) (Ok (Outcome.Current (Fact.Equal (Term.Bare n0) (Term.Bare n0)))) refl tt in
    let g5 = and_fact g4 (lit< tt) (SentStep.Transitivity 0 1 0) 0 (Inference.Transitivity 1 false) (refl, (false, refl, refl)) (Ok (Outcome.Current (Fact.Equal (Term.Bare n0) (Term.Bare n1)))) refl tt in
    let end = and_closed g5 (lit< tt) (SentStep.Clash 0 0) 0 (Inference.Clash 0) (refl, refl) refl in
    sealed_so both both_sound squeezed _ l3.sent by_both _ end
