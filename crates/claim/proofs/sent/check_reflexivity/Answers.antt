use Rattle.std.proofs.Common.{◌≡◌, ◌+◌, ◌≤◌, Some, None, Ok, Err, Result, refl, subst, rules}
use Rattle.std.specs.Result.{MatchResult}
use Rattle.facts.specs.Fields.{TermChecked, first_bad, term_fields, sent}
use Rattle.facts.specs.declared.fault.BadField.{BadField}
use Rattle.facts.specs.declared.literal.SentTerm.{SentTerm}
use Rattle.facts.specs.declared.term.Term.{Term}
use Rattle.claim.proofs.sent.check_reflexivity.Goals as goal

-- the term begins at byte 2
abbrev FromTwo : SentTerm → Result Term BadField → Type 0
FromTwo t r = MatchResult r (λ a. (first_bad (term_fields 2 t) ≡ None) × (sent a ≡ t)) (λ bad. (bad.byte ≤ 3) × (first_bad (term_fields 2 t) ≡ Some (2 + bad.byte)))

from_two : (t : SentTerm) (r : Result Term BadField) → TermChecked t r → FromTwo t r
from_two t (Ok a) h = (h.0 2, h.1)
from_two t (Err bad) h = (h.0, h.1 2)

pub returns-in_err-term : goal.returns-in_err-term
returns-in_err-term c = let h = from_two c.args.term c.check.result c.check.ensures in search rules

pub returns : goal.returns
returns c =
    let good : c.check.result ≡ Ok c.in_ok-term.term = search rules in
    let h = subst (FromTwo c.args.term) good (from_two c.args.term c.check.result c.check.ensures) in
    (h.0, (c.in_ok-term.term, refl, h.1))
