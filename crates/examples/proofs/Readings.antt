-- What readings state.
use Rattle.std.proofs.Common.{◌≡◌, ℕ, ◌≤◌, Some, Ok, Err, Result, sym, refl, ap, ◌∙◌}
use Rattle.facts.proofs.Indices.{same_name}
use Rattle.facts.specs.Faults.{out_of_range}
use Rattle.facts.specs.Fields.{first_bad}
use Rattle.facts.specs.declared.fault.Cause.{Cause}
use Rattle.facts.specs.declared.name.Name.{Name}
use Rattle.reading.specs.Bounds.{bounds_list}
use Rattle.reading.specs.Converter.{ReadingChecked, reading_fields, rule, highest_count}
use Rattle.reading.specs.declared.bound.Bounds.{Bounds}
use Rattle.reading.specs.declared.count.SentReading.{SentReading}
use Rattle.reading.proofs.Rule.{taken}
use Rattle.examples.specs.Examples.{States, NotRead}

module _ (s : SentReading) where
  -- a count that the converter can store states what the rule gives
  pub by_rule : (n : Name) → n.index ≡ s.name → s.count ≤ highest_count → States s (bounds_list (rule n s.count))
  by_rule n named few =
      let own = taken s n (rule n s.count) named few refl in
      record { bounds = rule n s.count; listed = refl; checked = own; only = only }
    where
      only : (r : Result Bounds Cause) → ReadingChecked s r → r ≡ Ok (rule n s.count)
      only (Ok b) h =
          let (m, same, e) = h.by_rule in
          ap Ok (e ∙ ap (λ x. rule x s.count) (same_name m n (same ∙ sym named)))
      only (Err c) (byte, bad, e) =
          let good = (taken s n (rule n s.count) named few refl).good in
          absurd cc

  pub bad_byte : (byte : ℕ) → first_bad (reading_fields s) ≡ Some byte → NotRead 6 byte s
  bad_byte byte bad =
      record { cause = out_of_range byte; by_number = refl; with_detail = refl; checked = (byte, bad, refl); only = only }
    where
      only : (r : Result Bounds Cause) → ReadingChecked s r → r ≡ Err (out_of_range byte)
      only (Ok b) h = let good = h.good in absurd cc
      only (Err c) (other, worse, e) =
          let same : other ≡ byte = cc in
          ap Err (e ∙ ap out_of_range same)
