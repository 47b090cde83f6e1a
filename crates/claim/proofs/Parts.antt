-- Writings in parts.
use Rattle.std.proofs.Common.{◌≡◌, List, [], ◌∷◌, ◌++◌, sym, refl, ap, ◌∙◌, subst, append_assoc, append-nil}
use Rattle.claim.specs.Derivations.{Then}
use Rattle.claim.specs.declared.step.Step.{Step}

-- two predicates hold of the same writings
abbrev pub Same : (List Step → Type 0) → (List Step → Type 0) → Type 0
Same P Q = (w : List Step) → (P w → Q w) × (Q w → P w)

pub same_refl : (P : List Step → Type 0) → Same P P
same_refl P w = (λ h. h, λ h. h)

pub same_sym : (P Q : List Step → Type 0) → Same P Q → Same Q P
same_sym P Q h w = ((h w).1, (h w).0)

pub same_trans : (P Q R : List Step → Type 0) → Same P Q → Same Q R → Same P R
same_trans P Q R h k w = (λ p. (k w).0 ((h w).0 p), λ r. (h w).1 ((k w).1 r))

pub then_left : (P P' Q : List Step → Type 0) → Same P P' → Same (Then P Q) (Then P' Q)
then_left P P' Q h w =
    (λ t. (t.0, t.1, t.2, (h t.0).0 t.3, t.4), λ t. (t.0, t.1, t.2, (h t.0).1 t.3, t.4))

pub then_right : (P Q Q' : List Step → Type 0) → Same Q Q' → Same (Then P Q) (Then P Q')
then_right P Q Q' h w =
    (λ t. (t.0, t.1, t.2, t.3, (h t.1).0 t.4), λ t. (t.0, t.1, t.2, t.3, (h t.1).1 t.4))

pub then_assoc : (P Q R : List Step → Type 0) → Same (Then (Then P Q) R) (Then P (Then Q R))
then_assoc P Q R w = (
  λ t.
      let i = t.3 in
      (i.0, i.1 ++ t.1, t.2 ∙ ap (λ u. u ++ t.1) i.2 ∙ append_assoc i.0 i.1 t.1, i.3, (i.1, t.1, refl, i.4, t.4)),
  λ t.
      let i = t.4 in
      (t.0 ++ i.0, i.1, t.2 ∙ ap (λ x. t.0 ++ x) i.2 ∙ sym (append_assoc t.0 i.0 i.1), (t.0, i.0, refl, t.3, i.3), i.4),
)

-- an empty part is none
pub then_none : (Q : List Step → Type 0) → Same (Then (λ u. u ≡ []) Q) Q
then_none Q w =
    (λ t. subst Q (sym (t.2 ∙ ap (λ u. u ++ t.1) t.3)) t.4, λ q. ([], w, refl, refl, q))

pub then_end : (P : List Step → Type 0) → Same (Then P (λ x. x ≡ [])) P
then_end P w =
    (λ t. subst P (sym (t.2 ∙ ap (λ x. t.0 ++ x) t.4 ∙ append-nil t.0)) t.3, λ p. (w, [], sym (append-nil w), p, refl))

-- the first step of a writing in two parts, where the first part is never empty
pub then_first : (P Q : List Step → Type 0) → (P [] → ⊥) → (s : Step) → Same (λ w. Then P Q (s ∷ w)) (Then (λ u. P (s ∷ u)) Q)
then_first P Q never s w = (λ t. go t.0 t.1 t.2 t.3 t.4, λ t. (s ∷ t.0, t.1, ap (λ u. s ∷ u) t.2, t.3, t.4))
  where
    go : (u x : List Step) → s ∷ w ≡ u ++ x → P u → Q x → Then (λ v. P (s ∷ v)) Q w
    go [] x e p q = absurd (never p)
    go (r ∷ u) x e p q = (u, x, cc, subst (λ z. P (z ∷ u)) (cc) p, q)
