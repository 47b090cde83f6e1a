-- Fields stand for one step.
use Rattle.std.proofs.Common.{◌≡◌, ℕ, ◌≤◌, Bool, true, false, ℤ, nat_abs, sym, refl, ap, ◌∙◌, subst, arith}
use native.Mathlib.Bridge.{le_prop}
use Rattle.facts.specs.Fields.{sent}
use Rattle.facts.specs.declared.term.Term.{Term}
use Rattle.facts.specs.declared.literal.SentTerm.{SentTerm}
use Rattle.facts.proofs.Indices.{same_name, same_symbol}
use Rattle.theory.specs.declared.factor.Factor.{Factor}
use Rattle.theory.specs.declared.inference.Inference.{Inference}
use Rattle.theory.specs.declared.inference.Position.{Position}
use Rattle.claim.specs.Sent.{flag_byte, position_byte, StandsFor}
use Rattle.claim.specs.declared.sent.SentStep.{SentStep}
use Rattle.claim.specs.declared.step.Step.{Step}

same_flag : (a b : Bool) → flag_byte a ≡ flag_byte b → a ≡ b
same_flag true true e = refl
same_flag false false e = refl
same_flag true false e = absurd (omega arith)
same_flag false true e = absurd (omega arith)

same_position : (a b : Position) → position_byte a ≡ position_byte b → a ≡ b
same_position Position.First Position.First e = refl
same_position Position.Second Position.Second e = refl
same_position Position.First Position.Second e = absurd (omega arith)
same_position Position.Second Position.First e = absurd (omega arith)

factor_made : (z : ℤ) → nat_abs z ≤ 1_000_000 → Factor
factor_made z h = record { value = z; sized = h }

same_factor : (a b : Factor) → a.value ≡ b.value → a ≡ b
unfolding factor_made
same_factor a b e =
    subst (λ z. (h : nat_abs z ≤ 1_000_000) → factor_made a.value a.sized ≡ factor_made z h) e (λ h. ap (factor_made a.value) (le_prop a.sized h)) b.sized

tag_apart : (m n : ℕ) → (m ≡ n → ⊥) → (x y : SentTerm) → x.tag ≡ m → y.tag ≡ n → x ≡ y → ⊥
tag_apart m n apart x y e f same = apart (sym e ∙ ap (λ t. t.tag) same ∙ f)

same_term : (t u : Term) → sent t ≡ sent u → t ≡ u
same_term (Term.Bare n) (Term.Bare m) e = ap Term.Bare (same_name n m (ap (λ t. t.first) e))
same_term (Term.Unary s n) (Term.Unary r m) e = (λ i. Term.Unary (same_symbol s r (ap (λ t. t.letter) e) i) (same_name n m (ap (λ t. t.first) e) i))
same_term (Term.Binary s n k) (Term.Binary r m l) e = (λ i. Term.Binary (same_symbol s r (ap (λ t. t.letter) e) i) (same_name n m (ap (λ t. t.first) e) i) (same_name k l (ap (λ t. t.second) e) i))
same_term (Term.Bare n) (Term.Unary r m) e = absurd (tag_apart 0 1 (λ z. omega arith) _ _ refl refl e)
same_term (Term.Bare n) (Term.Binary r m l) e = absurd (tag_apart 0 2 (λ z. omega arith) _ _ refl refl e)
same_term (Term.Unary s n) (Term.Bare m) e = absurd (tag_apart 1 0 (λ z. omega arith) _ _ refl refl e)
same_term (Term.Unary s n) (Term.Binary r m l) e = absurd (tag_apart 1 2 (λ z. omega arith) _ _ refl refl e)
same_term (Term.Binary s n k) (Term.Bare m) e = absurd (tag_apart 2 0 (λ z. omega arith) _ _ refl refl e)
same_term (Term.Binary s n k) (Term.Unary r m) e = absurd (tag_apart 2 1 (λ z. omega arith) _ _ refl refl e)

pub one_step : (s : SentStep) (x y : Step) → StandsFor s x → StandsFor s y → x ≡ y
one_step (SentStep.Reflexivity a t) x y h k = h.1 ∙ ap (λ u. Step.Infer a (Inference.Reflexivity u)) (same_term h.0 k.0 (h.2 ∙ sym k.2)) ∙ sym k.1
one_step (SentStep.Transitivity a i t) x y h k = h.1 ∙ ap (λ b. Step.Infer a (Inference.Transitivity i b)) (same_flag h.0 k.0 (h.2 ∙ sym k.2)) ∙ sym k.1
one_step (SentStep.Congruence a i p t) x y h k =
    h.2
    ∙ ap (λ q. Step.Infer a (Inference.Congruence i q h.1)) (same_position h.0 k.0 (h.3 ∙ sym k.3))
    ∙ ap (λ b. Step.Infer a (Inference.Congruence i k.0 b)) (same_flag h.1 k.1 (h.4 ∙ sym k.4))
    ∙ sym k.2
one_step (SentStep.Clash a i) x y h k = h ∙ sym k
one_step (SentStep.Propagate a) x y h k = h ∙ sym k
one_step (SentStep.Zero a) x y h k = h ∙ sym k
one_step (SentStep.Add a i c) x y h k = h.1 ∙ ap (λ f. Step.Infer a (Inference.Add i f)) (same_factor h.0 k.0 (h.2 ∙ sym k.2)) ∙ sym k.1
one_step (SentStep.Antisymmetry a i n m) x y h k =
    h.2
    ∙ ap (λ q. Step.Infer a (Inference.Antisymmetry i q h.1)) (same_name h.0 k.0 (h.3 ∙ sym k.3))
    ∙ ap (λ q. Step.Infer a (Inference.Antisymmetry i k.0 q)) (same_name h.1 k.1 (h.4 ∙ sym k.4))
    ∙ sym k.2
one_step (SentStep.Falsify a) x y h k = h ∙ sym k
one_step (SentStep.Strengthen a) x y h k = h ∙ sym k
one_step (SentStep.Cut a) x y h k = h ∙ sym k
one_step (SentStep.Push a) x y h k = h ∙ sym k
one_step (SentStep.Split n m) x y h k =
    h.2
    ∙ ap (λ q. Step.Split q h.1) (same_name h.0 k.0 (h.3 ∙ sym k.3))
    ∙ ap (λ q. Step.Split k.0 q) (same_name h.1 k.1 (h.4 ∙ sym k.4))
    ∙ sym k.2
