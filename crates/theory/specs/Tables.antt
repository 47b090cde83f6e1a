-- The levels of facts that a table stands for.
use Rattle.std.specs.Prelude.{◌≡◌, ℕ, ◌<◌, List, [], ◌∷◌, ◌++◌, map, reverse, length, take, None, Option, slice_set}
use Rattle.facts.specs.declared.fact.Fact.{Fact}
use Rattle.theory.specs.Places.{Place, opened, dropped, most_facts, most_below}
use Rattle.theory.specs.declared.table.Table.{Table}

abbrev pub table_facts : Table → List Fact
table_facts t = take t.used t.rows

-- the newest mark first
abbrev pub table_marks : Table → List ℕ
table_marks t = reverse (take t.levels t.marks)

-- the facts below each level
abbrev pub table_below : Table → List (List Fact)
table_below t = map (λ m. take m t.rows) (table_marks t)

-- with a current fact beside it
abbrev pub table_place : Table → Option Fact → Place
table_place t current = record { facts = table_facts t; below = table_below t; current = current }

-- the next row was written, and no other
pub record RowWritten (t : Table) (f : Fact) (u : Table) : Type 0 where
  pub room : length (table_facts t) < most_facts
  pub rows : u.rows ≡ slice_set t.rows t.used f
  pub facts : table_facts u ≡ table_facts t ++ (f ∷ [])
  pub below : table_below u ≡ table_below t

pub record LevelOpened (t u : Table) : Type 0 where
  pub few : length (table_below t) < most_below
  pub rows : u.rows ≡ t.rows
  pub place : table_place u None ≡ opened (table_place t None)

pub record LevelDropped (t u : Table) : Type 0 where
  pub some : 0 < length (table_below t)
  pub rows : u.rows ≡ t.rows
  pub place : table_place u None ≡ dropped (table_place t None)
