-- What is entered on a sheet.
use Rattle.std.specs.Prelude.{◌≡◌, ℕ, ◌+◌, ◌<◌, ◌≤◌, List, ◌++◌, take, Ok, Err, Result, slice_set, codes, decimal}
use Rattle.facts.specs.declared.refusal.Refusal.{Refusal}
use Rattle.claim.specs.declared.counts.Counts.{Counts}
use Rattle.claim.specs.declared.seal.Seal.{Seal}
use Rattle.claim.specs.declared.sheet.Line.{Line}
use Rattle.claim.specs.declared.sheet.Sheet.{Sheet}
use Rattle.claim.specs.declared.sheet.methods.Unentered.{Unentered}

-- the lines in use
abbrev pub sheet_lines : Sheet → List Line
sheet_lines s = take s.used s.lines

abbrev pub counts_line : Counts → Line
counts_line c = record { literals = c.literals; steps = c.steps; splits = c.splits }

abbrev pub line_of : Seal → Line
line_of s = counts_line s.counts

-- the next line was written and no other, and its number is answered; or the sheet is full, as it
-- was, and the seal comes back
abbrev pub Entered : Seal → Result ℕ Unentered → Sheet → Sheet → Type 0
Entered s (Ok n) before after = (before.used < 64) × (n ≡ before.used) × (after.lines ≡ slice_set before.lines n (line_of s)) × (after.used ≡ n + 1)
Entered s (Err u) before after = (64 ≤ before.used) × (u.seal ≡ s) × (u.refusal ≡ Refusal.SheetFull) × (after ≡ before)

-- how a line is printed
abbrev pub line_text : Line → List ℕ
line_text l =
    codes "literals "
    ++ (decimal l.literals
    ++ (codes " steps "
    ++ (decimal l.steps
    ++ (codes " splits "
    ++ decimal l.splits))))
