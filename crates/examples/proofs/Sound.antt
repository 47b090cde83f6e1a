-- Equality beside rows is sound at whole numbers.
use Rattle.std.proofs.Common.{◌≡◌, ◌-◌, ◌/◌, ◌%◌, true, false, cond, eqb, IfSome, Some, None, Option}
use Rattle.facts.specs.Valuations.{Valuation}
use Rattle.theory.specs.Rules.{Rules, Sound, AllSound}
use Rattle.theory.specs.Singles.{alone}
use Rattle.equality.specs.Soundness.{equality_sound}
use Rattle.equality.specs.Equality.{equality_rules}
use Rattle.linear.specs.Soundness.{row_sound}
use Rattle.linear.specs.Rules.{whole_rules}
use Rattle.examples.specs.Examples.{both}

abbrev pub Whole : Valuation → Type 0
Whole v = v.denominator ≡ 1

abbrev SoundIf : Option Rules → Type 0
SoundIf r = IfSome r (Sound Whole)

equality_whole : Sound Whole equality_rules
equality_whole = record { infers = λ v _. equality_sound.infers v tt; tells = equality_sound.tells }

rows_whole : Sound Whole whole_rules
rows_whole = search row_sound

alone_sound : (r : Rules) → Sound Whole r → AllSound Whole (alone r)
alone_sound r s a = elim (eqb a 0) as (λ t. SoundIf (cond t (Some r) None)) [ true ↦ s | false ↦ tt ]

pub both_sound : AllSound Whole both
both_sound a =
    elim (eqb (a % 2) 0) as (λ t. SoundIf (cond t (alone equality_rules (a / 2)) (alone whole_rules ((a - 1) / 2)))) [
      | true ↦ alone_sound equality_rules equality_whole (a / 2)
      | false ↦ alone_sound whole_rules rows_whole ((a - 1) / 2)
    ]
