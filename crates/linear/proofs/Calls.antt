-- An array that a closure made of its indices, where each call leaves the closure as it was.
use Rattle.std.proofs.Common.{◌≡◌, ℕ, zero, suc, ◌+◌, ◌<◌, ◌≤◌, List, get_or, sym, subst, ⊎_elim, arith}
use Rattle.std.proofs.lemmas.Bool.Decides.{eqb_tells}
use Rattle.std.specs.Array.{IsFromFnResultFrom, IsFromFnResult}
use Rattle.std.specs.Fn.{Called}
use denote.Param.Members.{Mut}

module _ {F B : Type 0} (g : Mut F (ℕ × Unit {0}) B) (P : ℕ → B → Type 0) (f : F) (step : (k : ℕ) (r : B) (f' : F) → Called g f (k, tt) r f' → P k r × (f' ≡ f)) where
  made_from : (ys : List B) (i n : ℕ) → IsFromFnResultFrom g f ys i n → (k : ℕ) (d : B) → i ≤ k → k < i + n → P k (get_or ys k d)
  made_from ys i zero made k d low high = absurd (omega arith)
  made_from ys i (suc n) (q, y, element, called, rest) k d low high =
      ⊎_elim
      (λ e. subst (λ j. P j (get_or ys j d)) e.1 (subst (P i) (sym (element.1 d)) (step i y q called).0))
      (λ e. made_from ys (i + 1) n (subst (λ p. IsFromFnResultFrom g p ys (i + 1) n) (step i y q called).1 rest) k d (omega (arith, e.1)) (omega arith))
      (eqb_tells i k)

  pub each_from_fn : (ys : List B) (n : ℕ) → IsFromFnResult g f ys n → (k : ℕ) (d : B) → k < n → P k (get_or ys k d)
  each_from_fn ys n made k d below = made_from ys 0 n made.each k d (omega arith) (omega arith)
