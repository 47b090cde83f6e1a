-- A refused literal's call.
use Rattle.std.proofs.Common.{◌≡◌, ℕ, Ok, Err, IsErrAnd, Result, sym, subst}
use Rattle.facts.specs.declared.fault.Cause.{Cause}
use Rattle.facts.specs.declared.literal.Literal.{Literal}
use Rattle.theory.specs.Places.{Places}
use Rattle.theory.specs.Rules.{Book}
use Rattle.claim.specs.Calls.{LiteralCall, answer_of, refused}

pub literal_refused : (book : Book) (ps after : Places) (place : ℕ) (l : Literal) (c : Cause) (r : Result (Unit {0}) Cause) → IsErrAnd r (λ x. x ≡ c) → after ≡ ps → LiteralCall book ps place l (refused c 0 place 0) ps → LiteralCall book ps place l (answer_of r 0 place 0) after
literal_refused book ps after place l c (Ok x) is same call = absurd is
literal_refused book ps after place l c (Err e) is same call =
    subst (LiteralCall book ps place l (refused e 0 place 0)) (sym same) (subst (λ x. LiteralCall book ps place l (refused x 0 place 0) ps) (sym is) call)
