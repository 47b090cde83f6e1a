-- Sizes of the numbers in a list.
use Rattle.std.proofs.Common.{ℕ, List, ℤ, pos}
use Rattle.std.specs.List.{All}
use Rattle.std.proofs.lemmas.List.Elements.{All-from_get_or}
use Rattle.facts.specs.Sizes.{Sized, AllSized}

pub all_from_sized : (limit : ℕ) (zs : List ℤ) → AllSized limit zs → All (Sized limit) zs
all_from_sized limit zs h = All-from_get_or (Sized limit) zs (pos 0) (λ k _. h k)
