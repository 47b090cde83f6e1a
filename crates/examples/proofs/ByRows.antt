-- The run over rows of whole numbers.
use Rattle.std.proofs.Common.{List, [], ◌∷◌, pos, negsuc, Ok, refl, ap, lit<}
use Rattle.facts.specs.declared.fact.Fact.{Fact}
use Rattle.facts.specs.declared.fact.Relation.{Relation}
use Rattle.facts.specs.declared.literal.SentRow.{SentRow}
use Rattle.facts.specs.declared.row.Row.{Row}
use Rattle.theory.specs.Rules.{within_room}
use Rattle.theory.specs.declared.inference.Inference.{Inference}
use Rattle.theory.specs.declared.inference.Outcome.{Outcome}
use Rattle.reading.specs.Bounds.{pair}
use Rattle.linear.specs.Forms.{zero_row, nameless_below}
use Rattle.linear.specs.Rows.{listed, row_with, coefficient}
use Rattle.linear.specs.RowsMade.{row_of_some}
use Rattle.claim.specs.declared.sent.SentStep.{SentStep}
use Rattle.examples.specs.Examples.{Example, Holds, both, crowded, by_rows}
use Rattle.examples.specs.Values.{row, sent_row}
use Rattle.examples.proofs.Inferences.{factor, now, adds, strengthens, falsifies}
use Rattle.examples.proofs.Rows.{same_below, sums}
use Rattle.examples.proofs.Following.{sealed_so}
use Rattle.examples.proofs.Sending.{begin, and_linear, go, and_fact, and_closed}
use Rattle.examples.proofs.Sound.{both_sound}

-- 3 n1 - 2 n2 - 2, n1 - 1, n2, n2 - 1, 1 - 2 n2, -1
abbrev r0 : Row
r0 = row (negsuc 1) (pos 0 ∷ pos 3 ∷ negsuc 1 ∷ []) refl tt

abbrev r1 : Row
r1 = row (negsuc 0) (pos 0 ∷ pos 1 ∷ []) refl tt

abbrev r2 : Row
r2 = row (pos 0) (pos 0 ∷ pos 0 ∷ pos 1 ∷ []) refl tt

abbrev r3 : Row
r3 = row (negsuc 0) (pos 0 ∷ pos 0 ∷ pos 1 ∷ []) refl tt

abbrev r4 : Row
r4 = row (pos 1) (pos 0 ∷ pos 0 ∷ negsuc 1 ∷ []) refl tt

abbrev r5 : Row
r5 = row (negsuc 0) [] refl tt

abbrev s0 : SentRow
s0 = sent_row (negsuc 1) (pair 1 (pos 3) ∷ pair 2 (negsuc 1) ∷ [])

abbrev s1 : SentRow
s1 = sent_row (negsuc 0) (pair 1 (pos 1) ∷ [])

abbrev s2 : SentRow
s2 = sent_row (pos 0) (pair 2 (pos 1) ∷ [])

abbrev three : List Fact
three = Fact.Linear Relation.NonNegative r0 ∷ Fact.Linear Relation.Zero r1 ∷ Fact.Linear Relation.Positive r2 ∷ []

abbrev four : List Fact
four = Fact.Linear Relation.NonNegative r0 ∷ Fact.Linear Relation.Zero r1 ∷ Fact.Linear Relation.Positive r2 ∷ Fact.Linear Relation.NonNegative r3 ∷ []

pub rows_run : Holds (Example.sealed both crowded by_rows 3 9 0)
unfolding listed row_with
rows_run =
    let l0 = begin both in
    let l1 = and_linear l0 Relation.NonNegative s0 r0 refl (sums s0 r0 refl refl) (1, _, refl) (lit< tt) (lit< tt) in
    let l2 = and_linear l1 Relation.Zero s1 r1 refl (sums s1 r1 refl refl) (1, _, refl) (lit< tt) (lit< tt) in
    let l3 = and_linear l2 Relation.Positive s2 r2 refl (sums s2 r2 refl refl) (1, _, refl) (lit< tt) (lit< tt) in
    let g1 = and_fact (go l3) (lit< tt) (SentStep.Zero 1) 1 Inference.Zero (refl, refl) (now Relation.NonNegative zero_row) refl tt in
    let g2 = and_fact g1 (lit< tt) (SentStep.Add 1 2 (pos 1)) 1 (Inference.Add 2 (factor (pos 1) tt)) (refl, (factor (pos 1) tt, refl, refl)) (now Relation.Positive r2) (ap (within_room 3 three) (adds three 2 (factor (pos 1) tt) Relation.NonNegative Relation.Positive zero_row r2 r2 tt refl refl (row_of_some _ _ r2 refl refl))) tt in
    let g3 = and_fact g2 (lit< tt) (SentStep.Strengthen 1) 1 Inference.Strengthen (refl, refl) (now Relation.NonNegative r3) (ap (within_room 3 three) (strengthens three r2 r3 (row_of_some _ _ r3 refl refl))) tt in
    let g4 = and_fact g3 (lit< tt) (SentStep.Push 1) 1 Inference.Push (refl, refl) (Ok (Outcome.Pushed (Fact.Linear Relation.NonNegative r3))) refl tt in
    let g5 = and_fact g4 (lit< tt) (SentStep.Zero 1) 1 Inference.Zero (refl, refl) (now Relation.NonNegative zero_row) refl tt in
    let g6 = and_fact g5 (lit< tt) (SentStep.Add 1 0 (pos 1)) 1 (Inference.Add 0 (factor (pos 1) tt)) (refl, (factor (pos 1) tt, refl, refl)) (now Relation.NonNegative r0) (ap (within_room 3 four) (adds four 0 (factor (pos 1) tt) Relation.NonNegative Relation.NonNegative zero_row r0 r0 tt refl refl (row_of_some _ _ r0 refl refl))) tt in
    let g7 = and_fact g6 (lit< tt) (SentStep.Add 1 1 (negsuc 2)) 1 (Inference.Add 1 (factor (negsuc 2) tt)) (refl, (factor (negsuc 2) tt, refl, refl)) (now Relation.NonNegative r4) (ap (within_room 3 four) (adds four 1 (factor (negsuc 2) tt) Relation.NonNegative Relation.Zero r0 r1 r4 tt refl refl (row_of_some _ _ r4 refl refl))) tt in
    let g8 = and_fact g7 (lit< tt) (SentStep.Add 1 3 (pos 2)) 1 (Inference.Add 3 (factor (pos 2) tt)) (refl, (factor (pos 2) tt, refl, refl)) (now Relation.NonNegative r5) (ap (within_room 3 four) (adds four 3 (factor (pos 2) tt) Relation.NonNegative Relation.NonNegative r4 r3 r5 tt refl refl (row_of_some _ _ r5 refl refl))) tt in
    let end = and_closed g8 (lit< tt) (SentStep.Falsify 1) 1 Inference.Falsify (refl, refl) (ap (within_room 3 four) (falsifies four Relation.NonNegative r5 (nameless_below r5 (same_below (coefficient r5) (λ _. pos 0) refl)) (λ h. h.le))) in
    sealed_so both both_sound crowded _ l3.sent by_rows _ end
