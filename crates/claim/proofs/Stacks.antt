-- Changes of a stack of splits.
use Rattle.std.proofs.Common.{◌≡◌, ◌<◌, [], ◌∷◌, ◌++◌, length, Ok, Err, OnOk, OnErr, Result, ap, ◌∙◌, arith}
use Rattle.std.proofs.lemmas.List.{length-reverse, reverse-append}
use Rattle.arrayvec.specs.ArrayVec.{ArrayVec, array_vec_len}
use Rattle.claim.specs.Stacks.{stack_splits}
use Rattle.claim.specs.declared.step.OpenSplit.{OpenSplit}

pub newest : (under over : ArrayVec OpenSplit) (s : OpenSplit) → over.items ≡ under.items ++ s ∷ [] → stack_splits over ≡ s ∷ stack_splits under
newest under over s e = ap (λ xs. stack_splits (record { items = xs })) e ∙ reverse-append under.items (s ∷ [])

pub pushed : {E : Type 0} (before after : ArrayVec OpenSplit) (s : OpenSplit) (r : Result (Unit {0}) E) → length (stack_splits before) < 8 → OnOk r (after.items ≡ before.items ++ s ∷ []) → OnErr r (array_vec_len before ≡ 8) → stack_splits after ≡ s ∷ stack_splits before
pushed before after s (Ok x) few ok full = newest before after s ok
pushed before after s (Err e) few ok full = let same = length-reverse before.items in absurd (omega arith)
