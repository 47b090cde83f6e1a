-- The kinds of records: where each belongs, and how long its body is.
use Rattle.std.specs.Prelude.{ℕ, cond, List, [], ◌∷◌, Some, None, Option, ◌==◌}
use Rattle.claimfile.specs.declared.record.Shape.{Shape}
use Rattle.claimfile.specs.declared.record.Stage.{Stage}

abbrev pub front : ℕ → Shape
front n = record { stage = Stage.Literals; length = n }

abbrev pub later : ℕ → Shape
later n = record { stage = Stage.Steps; length = n }

-- the kinds, by their letters' codes
abbrev pub kinds : List (ℕ × Shape)
kinds =
    (69, front 8)
    ∷ (68, front 8)
    ∷ (71, front 24)
    ∷ (83, front 24)
    ∷ (90, front 24)
    ∷ (75, front 3)
    ∷ (66, front 0)
    ∷ (82, later 5)
    ∷ (84, later 3)
    ∷ (67, later 4)
    ∷ (78, later 2)
    ∷ (88, later 1)
    ∷ (79, later 1)
    ∷ (77, later 6)
    ∷ (81, later 4)
    ∷ (70, later 1)
    ∷ (73, later 1)
    ∷ (85, later 1)
    ∷ (80, later 1)
    ∷ (89, later 2)
    ∷ []

abbrev pub listed_at : ℕ → List (ℕ × Shape) → Option Shape
listed_at k [] = None
listed_at k (e ∷ es) = cond (k == e.0) (Some e.1) (listed_at k es)

abbrev pub shape_of : ℕ → Option Shape
shape_of k = listed_at k kinds
