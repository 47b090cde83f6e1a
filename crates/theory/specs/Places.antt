-- What stands at an address.
use Rattle.std.specs.Prelude.{ℕ, List, [], ◌∷◌, ◌++◌, Some, None, Option}
use Rattle.facts.specs.declared.fact.Fact.{Fact}

-- Levels of facts and at most one current fact. `facts` are those of all levels, the oldest first;
-- `below` has, for each level above the first, the newest first, the facts that stand below it. So
-- a level's own facts are those that come after the ones below it.
pub record Place : Type 0 where
  pub facts : List Fact
  pub below : List (List Fact)
  pub current : Option Fact

-- nothing, or a place, at each address
abbrev pub Places : Type 0
Places = ℕ → Option Place

-- one empty level, and no current fact
abbrev pub empty : Place
empty = record { facts = []; below = []; current = None }

-- a fact more on the newest level
abbrev pub add : Fact → Place → Place
add f p = record { facts = p.facts ++ (f ∷ []); below = p.below; current = p.current }

abbrev pub with_current : Fact → Place → Place
with_current f p = record { facts = p.facts; below = p.below; current = Some f }

-- a new level, with no current fact
abbrev pub opened : Place → Place
opened p = record { facts = p.facts; below = p.facts ∷ p.below; current = None }

-- without the newest level, and with no current fact
abbrev pub down_to : List (List Fact) → Place
down_to [] = empty
down_to (facts ∷ below) = record { facts = facts; below = below; current = None }

abbrev pub dropped : Place → Place
dropped p = down_to p.below

-- the most facts that an address holds, and the most levels above the first
abbrev pub most_facts : ℕ
most_facts = 64

abbrev pub most_below : ℕ
most_below = 8
