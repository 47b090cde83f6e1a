-- A literal and the fact that it stands for are true in the same valuations.
use Rattle.std.proofs.Common.{◌≡◌, ℕ, ◌+◌, ◌<◌, Bool, true, false, cond, leb, List, [], ◌∷◌, get_or, pos, ◌+ℤ◌, ◌*ℤ◌, nat_abs, Some, None, Ok, Option, sym, refl, ap, ◌∙◌, subst, ⊎_elim, arith}
use lib.IntN.{zero-*ℤ}
use Rattle.std.proofs.lemmas.Bool.Decides.{eqb_tells, nat_tests}
use Rattle.facts.specs.declared.fact.Fact.{Fact}
use Rattle.facts.specs.declared.fact.Relation.{Relation}
use Rattle.facts.specs.declared.literal.Literal.{Literal}
use Rattle.facts.specs.declared.literal.SentPair.{SentPair}
use Rattle.facts.specs.declared.literal.SentRow.{SentRow}
use Rattle.facts.specs.declared.literal.SentTerm.{SentTerm}
use Rattle.facts.specs.declared.row.Row.{Row}
use Rattle.facts.specs.declared.term.Term.{Term}
use Rattle.facts.specs.Fields.{first_bad, pair_fields, added, sent, Sums, SidesChecked, RowChecked}
use Rattle.facts.specs.Literals.{sent_number, sent_row_number, weighed, LiteralChecked}
use Rattle.facts.specs.Sizes.{sent_limit}
use Rattle.facts.specs.Valuations.{Valuation, sum_below, term_number, row_number, Compares}
use Rattle.facts.proofs.Adding.{share}
use Rattle.facts.proofs.Integers.{add_times, sum_same, sum_zero, sum_add, sum_one}

-- every name is in range
abbrev pub Named : List SentPair → Type 0
Named [] = Unit {0}
Named (p ∷ ps) = (p.name < 32) × Named ps

past_name : (a b : Bool) (x y : ℕ) (rest : Option ℕ) → cond a (cond b rest (Some y)) (Some x) ≡ None → (a ≡ true) × (rest ≡ None)
past_name true true x y rest h = (refl, h)
past_name true false x y rest h = let z : ◌≡◌ {A = ℕ} 0 1 = cc in absurd (omega arith)
past_name false b x y rest h = let z : ◌≡◌ {A = ℕ} 0 1 = cc in absurd (omega arith)

pub good_names : (at : ℕ) (ps : List SentPair) → first_bad (pair_fields at ps) ≡ None → Named ps
good_names at [] h = tt
good_names at (p ∷ ps) h =
    let both : (leb p.name 31 ≡ true) × (first_bad (pair_fields (at + 5) ps) ≡ None) = past_name (leb p.name 31) (leb (nat_abs p.coefficient) sent_limit) at (at + 1) (first_bad (pair_fields (at + 5) ps)) h in
    let passed : leb p.name 31 ≡ true = both.0 in
    (grind (arith, nat_tests), good_names (at + 5) ps both.1)

past_constant : (a : Bool) (rest : Option ℕ) → cond a rest (Some 1) ≡ None → rest ≡ None
past_constant true rest h = h
past_constant false rest h = let z : ◌≡◌ {A = ℕ} 0 1 = cc in absurd (omega arith)

module _ (v : Valuation) where
  share_sum : (p : SentPair) → p.name < 32 → sum_below 32 (λ k. share k p *ℤ v.numerator k) ≡ p.coefficient *ℤ v.numerator p.name
  share_sum p named =
      sum_one 32 p.name (λ k. share k p *ℤ v.numerator k) named
      (λ k other. ⊎_elim (λ e. absurd (other (sym e.1))) (λ e. ap (λ b. cond b p.coefficient (pos 0) *ℤ v.numerator k) e.0 ∙ zero-*ℤ (v.numerator k)) (eqb_tells p.name k))
      ∙ ⊎_elim (λ e. ap (λ b. cond b p.coefficient (pos 0) *ℤ v.numerator p.name) e.0) (λ e. absurd (e.1 refl)) (eqb_tells p.name p.name)

  added_sum : (ps : List SentPair) → Named ps → sum_below 32 (λ k. added k ps *ℤ v.numerator k) ≡ weighed v ps
  added_sum [] h = sum_zero 32 (λ k. pos 0 *ℤ v.numerator k) (λ k _. zero-*ℤ (v.numerator k))
  added_sum (p ∷ ps) h =
      sum_same 32 _ (λ k. (share k p *ℤ v.numerator k) +ℤ (added k ps *ℤ v.numerator k)) (λ k _. add_times (share k p) (added k ps) (v.numerator k))
      ∙ sum_add 32 (λ k. share k p *ℤ v.numerator k) (λ k. added k ps *ℤ v.numerator k)
      ∙ ap (λ x. x +ℤ sum_below 32 (λ k. added k ps *ℤ v.numerator k)) (share_sum p h.0)
      ∙ ap (λ x. (p.coefficient *ℤ v.numerator p.name) +ℤ x) (added_sum ps h.1)

  pub row_same : (s : SentRow) (r : Row) → Named s.pairs → Sums s r → row_number v r ≡ sent_row_number v s
  row_same s r named sums =
      ap (λ z. (z *ℤ pos v.denominator) +ℤ sum_below 32 (λ k. get_or r.coefficients k (pos 0) *ℤ v.numerator k)) sums.constant
      ∙ ap (λ z. (s.constant *ℤ pos v.denominator) +ℤ z)
      (sum_same 32 _ (λ k. added k s.pairs *ℤ v.numerator k) (λ k below. ap (λ z. z *ℤ v.numerator k) (sums.coefficient k below)) ∙ added_sum s.pairs named)

  pub term_same : (a : Term) (t : SentTerm) → sent a ≡ t → term_number v a ≡ sent_number v t
  term_same a t e = whole a ∙ ap (sent_number v) e
    where
      whole : (a : Term) → term_number v a ≡ sent_number v (sent a)
      whole (Term.Bare n) = refl
      whole (Term.Unary s n) = refl
      whole (Term.Binary s n m) = refl

-- what a check owes where the fields are good
pub equal_checked : (l : Literal) (t u : SentTerm) (a b : Term) → l ≡ Literal.Equal t u → SidesChecked t u (Ok (a, b)) → LiteralChecked l (Ok (Fact.Equal a b))
equal_checked l t u a b e h =
    subst (λ x. LiteralChecked x (Ok (Fact.Equal a b))) (sym e) (
      h.0,
      (a, b, refl, h.1, h.2),
      λ v.
          (λ same. sym (term_same v a t h.1) ∙ same ∙ term_same v b u h.2, λ same. term_same v a t h.1 ∙ same ∙ sym (term_same v b u h.2)),
    )

pub distinct_checked : (l : Literal) (t u : SentTerm) (a b : Term) → l ≡ Literal.Distinct t u → SidesChecked t u (Ok (a, b)) → LiteralChecked l (Ok (Fact.Distinct a b))
distinct_checked l t u a b e h =
    subst (λ x. LiteralChecked x (Ok (Fact.Distinct a b))) (sym e) (
      h.0,
      (a, b, refl, h.1, h.2),
      λ v.
          (λ apart same. apart (term_same v a t h.1 ∙ same ∙ sym (term_same v b u h.2)), λ apart same. apart (sym (term_same v a t h.1) ∙ same ∙ term_same v b u h.2)),
    )

pub linear_checked : (l : Literal) (how : Relation) (s : SentRow) (r : Row) → l ≡ Literal.Linear how s → RowChecked s (Ok r) → LiteralChecked l (Ok (Fact.Linear how r))
linear_checked l how s r e h =
    let named : Named s.pairs = good_names 5 s.pairs (past_constant (leb (nat_abs s.constant) sent_limit) (first_bad (pair_fields 5 s.pairs)) h.0) in
    subst (λ x. LiteralChecked x (Ok (Fact.Linear how r))) (sym e) (
      h.0,
      (r, refl, h.1),
      λ v.
          (subst (Compares how) (row_same v s r named h.1), subst (Compares how) (sym (row_same v s r named h.1))),
    )
