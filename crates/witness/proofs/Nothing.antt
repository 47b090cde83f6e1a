-- Without rules no literal is taken, and no run is sealed.
use Rattle.std.proofs.Common.{◌≡◌, ℕ, Bool, true, false, List, [], pos, sym, refl, subst, arith}
use Rattle.facts.specs.Valuations.{Valuation}
use Rattle.witness.specs.Excluded.{Excluded}
use Rattle.facts.specs.declared.literal.Literal.{Literal}
use Rattle.theory.specs.Places.{Places}
use Rattle.theory.specs.Rules.{LiteralAnswer}
use Rattle.claim.specs.Calls.{Answer, LiteralCall}
use Rattle.claim.specs.Histories.{LiteralsSent, AllLiteralsTrue, if_taken}
use Rattle.nowhere.specs.Nothing.{no_rules}

refused : (ps : Places) (n : ℕ) (l : Literal) (a : Answer) (after : Places) → LiteralCall no_rules ps n l a after → if_taken a l ≡ []
refused ps n l a after (LiteralCall.bad_field b h) = refl
refused ps n l a after (LiteralCall.too_many h full) = refl
refused ps n l a after (LiteralCall.not_kept f e checked room h) = refl
refused ps n l a after (LiteralCall.taken f x checked room (LiteralAnswer.taken (at, kept, same) free) took) = let z : ◌≡◌ {A = ℕ} 0 1 = cc in absurd (omega arith)

pub none_taken : (ls : List Literal) (rs : List Answer) (ps : Places) (taken : List Literal) → LiteralsSent no_rules ls rs ps taken → taken ≡ []
none_taken ls rs ps taken LiteralsSent.none = refl
none_taken ls rs ps taken (LiteralsSent.more {ls = before} {rs = answers} {ps = was} {taken = done} l a after h call) =
    let first = none_taken before answers was done h in
    let second = refused was _ l a after call in
    cc

some_valuation : Valuation
some_valuation = record { denominator = 1; positive = omega arith; numerator = λ _. pos 0; unary = λ _ _. pos 0; binary = λ _ _ _. pos 0 }

pub never : (ls : List Literal) → Excluded (λ _. Unit {0}) no_rules ls → ⊥
never ls e = e.none_true some_valuation tt (subst (AllLiteralsTrue some_valuation) (sym (none_taken ls e.answers e.places e.taken e.sent)) tt)
