-- What is reported of a theory that admits certain valuations holds of fewer.
use Rattle.facts.specs.Valuations.{Valuation}
use Rattle.theory.specs.Rules.{Book}
use Rattle.std.proofs.Common.{ℕ, List}
use Rattle.claimfile.specs.Judging.{EstablishedMeans}
use Rattle.claimfile.specs.Lines.{Reported}
use Rattle.claimfile.specs.declared.verdict.Verdict.{Verdict}

module _ (admits fewer : Valuation → Type 0) (among : (v : Valuation) → fewer v → admits v) (file : List ℕ) where
  established_so : (v : Verdict) → EstablishedMeans admits file v → EstablishedMeans fewer file v
  established_so (Verdict.Established seal) h =
      record {
        entries = h.entries;
        steps = h.steps;
        literals = h.literals;
        bytes = h.bytes;
        fit = h.fit;
        stated = h.stated;
        none_true = λ v fits. h.none_true v (among v fits);
        no_strains = λ v fits. h.no_strains v (among v fits);
      }
  established_so (Verdict.Open u) h = tt
  established_so (Verdict.Refused f) h = tt

  pub reported_so : (book : Book) (text : List ℕ) → Reported admits book file text → Reported fewer book file text
  reported_so book text h = record { verdict = h.verdict; judged = h.judged; established = established_so h.verdict h.established; line = h.line }
