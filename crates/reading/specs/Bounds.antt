-- Bounds on one name: the literals that they are, and their text.
use Rattle.std.specs.Prelude.{ℕ, List, [], ◌∷◌, ◌++◌, ℤ, pos, negsuc, neg_ℤ, codes, decimal, Option, None, Some}
use Rattle.std.specs.Option.{option_to_list}
use Rattle.facts.specs.declared.fact.Relation.{Relation}
use Rattle.facts.specs.declared.literal.Literal.{Literal}
use Rattle.facts.specs.declared.literal.SentPair.{SentPair}
use Rattle.facts.specs.declared.name.Name.{Name}
use Rattle.reading.specs.declared.bound.Bound.{Bound}
use Rattle.reading.specs.declared.bound.Bounds.{Bounds}

abbrev pub pair : ℕ → ℤ → SentPair
pair n z = record { name = n; coefficient = z }

-- a row literal with one name, whose coefficient is first
abbrev pub one_name : Relation → ℤ → ℕ → ℤ → Literal
one_name how constant n z =
    Literal.Linear how (record { constant = constant; pairs = pair n z ∷ pair 0 (pos 0) ∷ pair 0 (pos 0) ∷ pair 0 (pos 0) ∷ [] })

-- n - c >= 0, or c - n > 0
abbrev pub bound_literal : Bound → Literal
bound_literal (Bound.AtLeast n c) = one_name Relation.NonNegative (neg_ℤ (pos c)) n.index (pos 1)
bound_literal (Bound.LessThan n c) = one_name Relation.Positive (pos c) n.index (negsuc 0)

abbrev pub bounds_list : Bounds → List Bound
bounds_list b = b.lower ∷ option_to_list b.upper

abbrev pub name_text : Name → List ℕ
name_text n = codes "n" ++ decimal n.index

abbrev pub bound_text : Bound → List ℕ
bound_text (Bound.AtLeast n c) = name_text n ++ (codes " - " ++ (decimal c ++ codes " >= 0"))
bound_text (Bound.LessThan n c) = decimal c ++ (codes " - " ++ (name_text n ++ codes " > 0"))

-- what follows the first bound
abbrev pub upper_text : Option Bound → List ℕ
upper_text None = []
upper_text (Some b) = codes ", " ++ bound_text b

abbrev pub bounds_text : Bounds → List ℕ
bounds_text b = bound_text b.lower ++ upper_text b.upper
