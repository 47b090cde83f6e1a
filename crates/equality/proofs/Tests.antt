-- The derived test of terms compares their parts, and the rules' test the bytes that they are sent as.
use Rattle.std.proofs.Common.{◌≡◌, ◌==◌, ◌&&◌, Bool, true, false, refl}
use Rattle.facts.specs.declared.term.Term.{Term}
use Rattle.facts.specs.contracts.term.TermPartialEq.TheImpl as Derived
use Rattle.equality.specs.Terms.{same_term}

and_true : (a : Bool) → a ≡ (a && true)
and_true true = refl
and_true false = refl

grouped : (a b c : Bool) → (a && (b && c)) ≡ ((a && b) && c)
grouped true b c = refl
grouped false b c = refl

pub same_test : (t u : Term) → (Derived.ghosts).eq t u ≡ same_term t u
same_test (Term.Bare n) (Term.Bare m) = and_true (n.index == m.index)
same_test (Term.Bare n) (Term.Unary s m) = refl
same_test (Term.Bare n) (Term.Binary s m k) = refl
same_test (Term.Unary s n) (Term.Bare m) = refl
same_test (Term.Unary s n) (Term.Unary r m) = and_true (s.index == r.index && n.index == m.index)
same_test (Term.Unary s n) (Term.Binary r m k) = refl
same_test (Term.Binary s n k) (Term.Bare m) = refl
same_test (Term.Binary s n k) (Term.Unary r m) = refl
same_test (Term.Binary s n k) (Term.Binary r m j) = grouped (s.index == r.index) (n.index == m.index) (k.index == j.index)
