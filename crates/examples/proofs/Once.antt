-- A list of calls has one history.
use Rattle.std.proofs.Common.{◌≡◌, ℕ, List, [], ◌∷◌, ◌++◌, length, Some, None, Ok, Option, sym, refl, ap, ◌∙◌, subst, arith, length-append}
use mathlib.Core.Path.{fun_ext}
use Rattle.facts.specs.Faults.{because, out_of_range}
use Rattle.facts.specs.Fields.{Sums, Stands, added, first_bad, literal_fields, sent}
use Rattle.facts.specs.Literals.{LiteralChecked}
use Rattle.facts.specs.declared.fact.Fact.{Fact}
use Rattle.facts.specs.declared.literal.Literal.{Literal}
use Rattle.facts.specs.declared.literal.SentRow.{SentRow}
use Rattle.facts.specs.declared.refusal.Refusal.{Refusal}
use Rattle.facts.specs.declared.row.Row.{Row}
use Rattle.facts.specs.declared.term.Term.{Term}
use Rattle.theory.specs.Places.{Places}
use Rattle.theory.specs.Rules.{Book, Wanted, Unwanted, Room, Full, LiteralAnswer, literal_wanted, with_wanted}
use Rattle.theory.specs.declared.inference.Inference.{Inference}
use Rattle.linear.specs.Rows.{listed}
use Rattle.linear.specs.Listed.{listed_is}
use Rattle.linear.specs.RowsMade.{row_of_some}
use Rattle.claim.proofs.Standing.{one_step}
use Rattle.claim.specs.Calls.{Answer, LiteralCall, refused}
use Rattle.claim.specs.Histories.{LiteralsSent, if_taken}
use Rattle.claim.specs.declared.sent.SentStep.{SentStep}
use Rattle.claim.specs.declared.step.Step.{Step}

-- ---- a literal stands for one fact

one_term : (t u : Term) → sent t ≡ sent u → t ≡ u
one_term t u e =
    let same : Step.Infer 0 (Inference.Reflexivity t) ≡ Step.Infer 0 (Inference.Reflexivity u) = one_step (SentStep.Reflexivity 0 (sent t)) _ _ (t, refl, refl) (u, refl, sym e) in
    cc

one_row : (s : SentRow) (q r : Row) → Sums s q → Sums s r → q ≡ r
one_row s q r h k =
    let e = row_of_some s.constant (listed (λ i. added i s.pairs)) q h.constant (listed_is _ q.coefficients q.long h.coefficient) in
    let f = row_of_some s.constant (listed (λ i. added i s.pairs)) r k.constant (listed_is _ r.coefficients r.long k.coefficient) in
    cc

one_fact : (l : Literal) (f g : Fact) → Stands l f → Stands l g → f ≡ g
one_fact (Literal.Equal t u) f g (a, b, e, p, q) (c, d, h, r, s) =
    let first : a ≡ c = one_term a c (p ∙ sym r) in
    let second : b ≡ d = one_term b d (q ∙ sym s) in
    cc
one_fact (Literal.Distinct t u) f g (a, b, e, p, q) (c, d, h, r, s) =
    let first : a ≡ c = one_term a c (p ∙ sym r) in
    let second : b ≡ d = one_term b d (q ∙ sym s) in
    cc
one_fact (Literal.Linear how s) f g (q, e, h) (r, d, k) = let same : q ≡ r = one_row s q r h k in cc

-- ---- and has one answer

differ : {X : Type 0} {Y : Type 0} (o : Option Y) (y : Y) → o ≡ Some y → o ≡ None → X
differ o y e f = absurd cc

unfull : {X : Type 0} (ps : Places) (w : Wanted) → Room ps w → Full ps w → X
unfull ps w room (a, p, f, e, h, many) = absurd (omega (arith, room a p f e h))

unwanted : {X : Type 0} (w : Wanted) → Unwanted w → (a : ℕ) (f : Fact) → w a ≡ Some f → X
unwanted w none a f e = differ (w a) f e (none a)

one_answer : (ps : Places) (w : Wanted) (o p : Option Refusal) → LiteralAnswer ps w o → LiteralAnswer ps w p → o ≡ p
one_answer ps w o p (LiteralAnswer.taken s r) (LiteralAnswer.taken t u) = refl
one_answer ps w o p (LiteralAnswer.taken (a, f, e) r) (LiteralAnswer.unkept n) = unwanted w n a f e
one_answer ps w o p (LiteralAnswer.taken s r) (LiteralAnswer.full f) = unfull ps w r f
one_answer ps w o p (LiteralAnswer.unkept n) (LiteralAnswer.taken (a, f, e) r) = unwanted w n a f e
one_answer ps w o p (LiteralAnswer.unkept n) (LiteralAnswer.unkept m) = refl
one_answer ps w o p (LiteralAnswer.unkept n) (LiteralAnswer.full (a, q, f, at, e, many)) = unwanted w n a f e
one_answer ps w o p (LiteralAnswer.full f) (LiteralAnswer.taken s r) = unfull ps w r f
one_answer ps w o p (LiteralAnswer.full (a, q, f, at, e, many)) (LiteralAnswer.unkept n) = unwanted w n a f e
one_answer ps w o p (LiteralAnswer.full f) (LiteralAnswer.full g) = refl

module _ (book : Book) (ps : Places) (n : ℕ) (l : Literal) where
  bad : {X : Type 0} (b : ℕ) → first_bad (literal_fields l) ≡ Some b → first_bad (literal_fields l) ≡ None → X
  bad b h k = differ (first_bad (literal_fields l)) b h k

  -- what two checks give is asked alike
  alike : (f g : Fact) → LiteralChecked l (Ok f) → LiteralChecked l (Ok g) → (o p : Option Refusal) → LiteralAnswer ps (literal_wanted book f) o → LiteralAnswer ps (literal_wanted book g) p → o ≡ p
  alike f g h k o p a b =
      one_answer ps (literal_wanted book g) o p (subst (λ x. LiteralAnswer ps (literal_wanted book x) o) (one_fact l f g h.1 k.1) a) b

  one_call : (a b : Answer) (x y : Places) → LiteralCall book ps n l a x → LiteralCall book ps n l b y → (a ≡ b) × (x ≡ y)
  one_call a b x y (LiteralCall.bad_field i h) (LiteralCall.bad_field j k) =
      let same : i ≡ j = cc in
      (ap (λ m. refused (out_of_range m) 0 n 0) same, refl)
  one_call a b x y (LiteralCall.bad_field i h) (LiteralCall.too_many k m) = bad i h k
  one_call a b x y (LiteralCall.bad_field i h) (LiteralCall.not_kept g e k m s) = bad i h k.0
  one_call a b x y (LiteralCall.bad_field i h) (LiteralCall.taken g after k m s t) = bad i h k.0
  one_call a b x y (LiteralCall.too_many h many) (LiteralCall.bad_field j k) = bad j k h
  one_call a b x y (LiteralCall.too_many h many) (LiteralCall.too_many k m) = (refl, refl)
  one_call a b x y (LiteralCall.too_many h many) (LiteralCall.not_kept g e k few s) = absurd (omega arith)
  one_call a b x y (LiteralCall.too_many h many) (LiteralCall.taken g after k few s t) = absurd (omega arith)
  one_call a b x y (LiteralCall.not_kept f d h few r) (LiteralCall.bad_field j k) = bad j k h.0
  one_call a b x y (LiteralCall.not_kept f d h few r) (LiteralCall.too_many k many) = absurd (omega arith)
  one_call a b x y (LiteralCall.not_kept f d h few r) (LiteralCall.not_kept g e k m s) =
      let both = alike f g h k (Some d) (Some e) r s in
      let same : d ≡ e = cc in
      (ap (λ z. refused (because z) 0 n 0) same, refl)
  one_call a b x y (LiteralCall.not_kept f d h few r) (LiteralCall.taken g after k m s t) =
      differ (Some d) d refl (alike f g h k (Some d) None r s)
  one_call a b x y (LiteralCall.taken f after h few r t) (LiteralCall.bad_field j k) = bad j k h.0
  one_call a b x y (LiteralCall.taken f after h few r t) (LiteralCall.too_many k many) = absurd (omega arith)
  one_call a b x y (LiteralCall.taken f after h few r t) (LiteralCall.not_kept g e k m s) =
      differ (Some e) e refl (sym (alike f g h k None (Some e) r s))
  one_call a b x y (LiteralCall.taken f after h few r t) (LiteralCall.taken g other k m s u) = (
    refl,
    fun_ext (λ i. t i ∙ ap (λ z. with_wanted (literal_wanted book z i) (ps i)) (one_fact l f g h.1 k.1) ∙ sym (u i)),
  )

-- ---- so a list of literals has

no_end : {X : Type 0} {Y : Type 0} (ys : List Y) (y : Y) → [] ≡ ys ++ (y ∷ []) → X
no_end ys y e = absurd (omega (arith, ap length e, length-append ys (y ∷ [])))

pub one_end : {X : Type 0} (xs ys : List X) (x y : X) → xs ++ (x ∷ []) ≡ ys ++ (y ∷ []) → (xs ≡ ys) × (x ≡ y)
one_end [] [] x y e = let same : x ≡ y = cc in (refl, same)
one_end [] (z ∷ ys) x y e = let rest : [] ≡ ys ++ (y ∷ []) = cc in no_end ys y rest
one_end (z ∷ xs) [] x y e = let rest : [] ≡ xs ++ (x ∷ []) = cc in no_end xs x rest
one_end (w ∷ xs) (z ∷ ys) x y e =
    let first : w ≡ z = cc in
    let rest : xs ++ (x ∷ []) ≡ ys ++ (y ∷ []) = cc in
    let (all, last) = one_end xs ys x y rest in
    (cc, last)

pub one_history : (book : Book) (ls ks : List Literal) (rs qs : List Answer) (ps os : Places) (t u : List Literal) → LiteralsSent book ls rs ps t → LiteralsSent book ks qs os u → ls ≡ ks → (rs ≡ qs) × (ps ≡ os) × (t ≡ u)
one_history book ls ks rs qs ps os t u LiteralsSent.none LiteralsSent.none e = (refl, refl, refl)
one_history book ls ks rs qs ps os t u LiteralsSent.none (LiteralsSent.more {ls = before} l a after h call) e = no_end before l e
one_history book ls ks rs qs ps os t u (LiteralsSent.more {ls = before} l a after h call) LiteralsSent.none e = no_end before l (sym e)
one_history book ls ks rs qs ps os t u (LiteralsSent.more {ls = ls0} {rs = rs0} {ps = ps0} {taken = t0} l a x h call) (LiteralsSent.more {ls = ks0} {rs = qs0} {ps = os0} {taken = u0} k b y g other) e =
    let (lists, last) = one_end ls0 ks0 l k e in
    let (answers, places, kept) = one_history book ls0 ks0 rs0 qs0 ps0 os0 t0 u0 h g lists in
    let moved : LiteralCall book ps0 (length t0) l b y = subst (λ z. LiteralCall book z (length t0) l b y) (sym places) (subst (λ m. LiteralCall book os0 m l b y) (sym (ap length kept)) (subst (λ z. LiteralCall book os0 (length u0) z b y) (sym last) other)) in
    let (same, after) = one_call book ps0 (length t0) l a b x y call moved in
    (cc, after, ap (λ z. z ++ if_taken a l) kept ∙ ap (λ z. u0 ++ if_taken z l) same ∙ ap (λ z. u0 ++ if_taken b z) last)
