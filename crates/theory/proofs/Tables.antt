-- The changes of a table, as changes of what it stands for.
use Rattle.std.proofs.Common.{◌≡◌, ℕ, ◌+◌, ◌-◌, ◌<◌, ◌≤◌, Bool, true, false, ◌&&◌, leb, ◌⊎◌, List, [], ◌∷◌, ◌++◌, map, reverse, length, get_or, take, set, None, Option, sym, refl, ap, ◌∙◌, subst, inl, inr, ⊎_elim, arith}
use Rattle.std.proofs.lemmas.Bool.Decides.{leb_tells}
use Rattle.std.proofs.lemmas.List.{length-take-le, length-map, length-reverse, reverse-append, take_more, take_more_set, take-set-le}
use Rattle.facts.specs.declared.fact.Fact.{Fact}
use Rattle.theory.specs.Marks.{Ordered, in_order}
use Rattle.theory.specs.Places.{add, down_to, most_facts, most_below}
use Rattle.theory.specs.Tables.{table_facts, table_marks, table_below, table_place, RowWritten, LevelOpened, LevelDropped}
use Rattle.theory.specs.declared.table.Table.{Table}

pub facts_count : (t : Table) → length (table_facts t) ≡ t.used
facts_count t = length-take-le t.used t.rows (let long = t.all_rows in let within = t.within in omega arith)

pub marks_count : (t : Table) → length (table_marks t) ≡ t.levels
marks_count t =
    length-reverse (take t.levels t.marks) ∙ length-take-le t.levels t.marks (let long = t.all_marks in let few = t.few in omega arith)

pub below_count : (t : Table) → length (table_below t) ≡ t.levels
below_count t = length-map (table_marks t) (λ m. take m t.rows) ∙ marks_count t

reverse_push : (xs : List ℕ) (x : ℕ) → reverse (xs ++ (x ∷ [])) ≡ x ∷ reverse xs
reverse_push xs x = reverse-append xs (x ∷ [])

-- ---- marks in order

true_not_false : true ≡ false → ⊥
true_not_false e = let z : ◌≡◌ {A = ℕ} 0 1 = cc in omega arith

ordered_parts : (m : ℕ) (ms : List ℕ) (n : ℕ) → Ordered (m ∷ ms) n → (m ≤ n) × Ordered ms m
ordered_parts m ms n h = parts (leb m n) (leb_tells m n) h
  where
    parts : (b : Bool) → ((b ≡ true) × (m ≤ n)) ⊎ ((b ≡ false) × (n < m)) → (b && in_order ms m) ≡ true → (m ≤ n) × Ordered ms m
    parts true (inl k) e = (k.1, e)
    parts true (inr k) e = let z : ◌≡◌ {A = Bool} true false = k.0 in absurd (true_not_false z)
    parts false k e = absurd (true_not_false (sym e))

pub ordered_onto : (m : ℕ) (ms : List ℕ) (n : ℕ) → m ≤ n → Ordered ms m → Ordered (m ∷ ms) n
ordered_onto m ms n h o = ⊎_elim (λ k. ap (λ b. b && in_order ms m) k.0 ∙ o) (λ k. absurd (omega (arith, k.1))) (leb_tells m n)

pub ordered_more : (ms : List ℕ) (m n : ℕ) → m ≤ n → Ordered ms m → Ordered ms n
ordered_more [] m n h o = refl
ordered_more (k ∷ ms) m n h o = let both = ordered_parts k ms m o in ordered_onto k ms n (omega (arith, both.0)) both.1

pub ordered_less : (m : ℕ) (ms : List ℕ) (n : ℕ) → Ordered (m ∷ ms) n → Ordered ms m
ordered_less m ms n o = (ordered_parts m ms n o).1

pub mark_within : (m : ℕ) (ms : List ℕ) (n : ℕ) → Ordered (m ∷ ms) n → m ≤ n
mark_within m ms n o = (ordered_parts m ms n o).0

-- a row at or above every mark is below none
kept_below : (rows : List Fact) (used : ℕ) (f : Fact) (ms : List ℕ) (n : ℕ) → n ≤ used → Ordered ms n → map (λ m. take m (set rows used f)) ms ≡ map (λ m. take m rows) ms
kept_below rows used f [] n h o = refl
kept_below rows used f (m ∷ ms) n h o =
    let both = ordered_parts m ms n o in
    ap (λ fs. fs ∷ map (λ k. take k (set rows used f)) ms) (take-set-le m rows used f (omega (arith, both.0)))
    ∙ ap (λ l. take m rows ∷ l) (kept_below rows used f ms m (omega (arith, both.0)) both.1)

-- ---- the three changes, by the fields of the table

pub row_written : (t : Table) (f : Fact) (u : Table) → t.used < most_facts → u.rows ≡ set t.rows t.used f → u.used ≡ t.used + 1 → u.marks ≡ t.marks → u.levels ≡ t.levels → RowWritten t f u
row_written t f u room rows used marks levels =
    let same : table_marks u ≡ table_marks t = ap (λ n. reverse (take n u.marks)) levels ∙ ap (λ ms. reverse (take t.levels ms)) marks in
    record {
      room = subst (λ n. n < most_facts) (sym (facts_count t)) room;
      rows = rows;
      facts = ap (λ n. take n u.rows) used ∙ ap (take (t.used + 1)) rows ∙ take_more_set t.rows t.used f (let long = t.all_rows in omega arith);
      below = ap (λ rs. map (λ m. take m rs) (table_marks u)) rows ∙ ap (map (λ m. take m (set t.rows t.used f))) same ∙ kept_below t.rows t.used f (table_marks t) t.used (omega arith) t.ordered;
    }

pub marks_opened : (marks : List ℕ) (levels used : ℕ) → levels < length marks → reverse (take (levels + 1) (set marks levels used)) ≡ used ∷ reverse (take levels marks)
marks_opened marks levels used within = ap reverse (take_more_set marks levels used within) ∙ reverse_push (take levels marks) used

pub marks_dropped : (marks : List ℕ) (levels : ℕ) → 0 < levels → levels ≤ length marks → reverse (take levels marks) ≡ get_or marks (levels - 1) 0 ∷ reverse (take (levels - 1) marks)
marks_dropped marks levels some within =
    let up : levels ≡ (levels - 1) + 1 = omega arith in
    ap (λ n. reverse (take n marks)) up ∙ ap reverse (take_more marks (levels - 1) 0 (omega arith)) ∙ reverse_push (take (levels - 1) marks) (get_or marks (levels - 1) 0)

pub level_opened : (t u : Table) → t.levels < most_below → u.rows ≡ t.rows → u.used ≡ t.used → u.marks ≡ set t.marks t.levels t.used → u.levels ≡ t.levels + 1 → LevelOpened t u
level_opened t u few rows used marks levels =
    let same : table_facts u ≡ table_facts t = ap (λ n. take n u.rows) used ∙ ap (take t.used) rows in
    let more : table_marks u ≡ t.used ∷ table_marks t = ap (λ n. reverse (take n u.marks)) levels ∙ ap (λ ms. reverse (take (t.levels + 1) ms)) marks ∙ marks_opened t.marks t.levels t.used (let long = t.all_marks in omega arith) in
    let over : table_below u ≡ table_facts t ∷ table_below t = ap (λ rs. map (λ m. take m rs) (table_marks u)) rows ∙ ap (map (λ m. take m t.rows)) more in
    record {
      few = subst (λ n. n < most_below) (sym (below_count t)) few;
      rows = rows;
      place = ap (λ fs. record { facts = fs; below = table_below u; current = None }) same ∙ ap (λ b. record { facts = table_facts t; below = b; current = None }) over;
    }

pub level_dropped : (t u : Table) → 0 < t.levels → u.rows ≡ t.rows → u.used ≡ get_or t.marks (t.levels - 1) 0 → u.marks ≡ t.marks → u.levels ≡ t.levels - 1 → LevelDropped t u
level_dropped t u some rows used marks levels =
    let fewer : table_marks t ≡ u.used ∷ table_marks u = marks_dropped t.marks t.levels some (let long = t.all_marks in let few = t.few in omega arith) ∙ ap (λ n. n ∷ reverse (take (t.levels - 1) t.marks)) (sym used) ∙ ap (λ ms. u.used ∷ ms) (ap (λ n. reverse (take n t.marks)) (sym levels) ∙ ap (λ ms. reverse (take u.levels ms)) (sym marks)) in
    let under : table_below t ≡ table_facts u ∷ table_below u = ap (map (λ m. take m t.rows)) fewer ∙ ap (λ rs. map (λ m. take m rs) (u.used ∷ table_marks u)) (sym rows) in
    record {
      some = subst (λ n. 0 < n) (sym (below_count t)) some;
      rows = rows;
      place = ap down_to (sym under);
    }

pub written_place : (t u : Table) (f : Fact) (current : Option Fact) → RowWritten t f u → table_place u current ≡ add f (table_place t current)
written_place t u f current h =
    ap (λ fs. record { facts = fs; below = table_below u; current = current }) h.facts ∙ ap (λ b. record { facts = table_facts t ++ (f ∷ []); below = b; current = current }) h.below
