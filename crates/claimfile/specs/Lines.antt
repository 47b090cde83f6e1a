-- The line that says a verdict.
use Rattle.std.specs.Prelude.{◌≡◌, ℕ, List, ◌++◌, codes, decimal}
use Rattle.facts.specs.Lines.{refused_line}
use Rattle.facts.specs.Valuations.{Valuation}
use Rattle.theory.specs.Rules.{Book}
use Rattle.claim.specs.Sheets.{line_of, line_text}
use Rattle.claimfile.specs.Judging.{EstablishedMeans, Judged}
use Rattle.claimfile.specs.declared.verdict.Verdict.{Verdict}

abbrev pub verdict_line : Verdict → List ℕ
verdict_line (Verdict.Established s) = codes "ESTABLISHED " ++ line_text (line_of s)
verdict_line (Verdict.Open u) = codes "OPEN " ++ (line_text u.line ++ (codes " branches " ++ decimal u.branches))
verdict_line (Verdict.Refused f) = refused_line f

-- the text is the line of the file's verdict
pub record Reported (admits : Valuation → Type 0) (book : Book) (file text : List ℕ) : Type 0 where
  pub verdict : Verdict
  pub judged : Judged book file verdict
  pub established : EstablishedMeans admits file verdict
  pub line : text ≡ verdict_line verdict ++ codes "\n"
