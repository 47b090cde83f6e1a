-- A row that is added up pair by pair, each pair's fields held to their ranges first.
use Rattle.std.proofs.Common.{◌≡◌, ℕ, ◌+◌, ◌*◌, ◌<◌, ◌≤◌, Bool, true, false, cond, eqb, List, [], ◌∷◌, ◌++◌, length, get_or, take, drop, set, replicate, ℤ, pos, ◌+ℤ◌, nat_abs, Some, None, sym, refl, ap, ◌∙◌, subst, ⊎_elim, arith}
use borrow.Author.Differences.{abs_is}
use lib.IntN.{+ℤ_assoc, +ℤ_idl, +ℤ_idr}
use Rattle.std.proofs.lemmas.List.{get_or-set_same, get_or-set_other, get_or_past, get_or-replicate, length-set, length-replicate, take_more, take_all, drop_more, drop_all}
use Rattle.std.proofs.lemmas.Int.{ints}
use Rattle.std.proofs.lemmas.Bool.Decides.{eqb_tells, leb_tells, nat_tests}
use Rattle.facts.specs.declared.literal.SentPair.{SentPair}
use Rattle.facts.specs.declared.literal.SentRow.{SentRow}
use Rattle.facts.specs.declared.row.Row.{Row}
use Rattle.facts.specs.Sizes.{Sized, AllSized, row_limit, sent_limit}
use Rattle.facts.specs.Fields.{first_bad, pair_fields, row_fields, added, Sums}

-- what one pair adds to the coefficient of the name with index k
abbrev pub share : ℕ → SentPair → ℤ
share k p = cond (eqb p.name k) p.coefficient (pos 0)

pub added_push : (k : ℕ) (ps : List SentPair) (p : SentPair) → added k (ps ++ (p ∷ [])) ≡ added k ps +ℤ share k p
added_push k [] p = +ℤ_idr (share k p) ∙ sym (+ℤ_idl (share k p))
added_push k (x ∷ ps) p =
    ap (λ z. share k x +ℤ z) (added_push k ps p) ∙ sym (+ℤ_assoc (share k x) (added k ps) (share k p))

-- an element with a number added to one of them
pub written : (zs : List ℤ) (n : ℕ) (z : ℤ) (k : ℕ) → n < length zs → get_or (set zs n (get_or zs n (pos 0) +ℤ z)) k (pos 0) ≡ get_or zs k (pos 0) +ℤ cond (eqb n k) z (pos 0)
written zs n z k within =
    ⊎_elim
    (λ h.
    subst (λ m. get_or (set zs n (get_or zs n (pos 0) +ℤ z)) m (pos 0) ≡ get_or zs m (pos 0) +ℤ z) h.1 (get_or-set_same zs n _ (pos 0) within)
    ∙ ap (λ b. get_or zs k (pos 0) +ℤ cond b z (pos 0)) (sym h.0))
    (λ h.
    get_or-set_other zs n k _ (pos 0) (λ e. h.1 (sym e))
    ∙ sym (+ℤ_idr (get_or zs k (pos 0)))
    ∙ ap (λ b. get_or zs k (pos 0) +ℤ cond b z (pos 0)) (sym h.0))
    (eqb_tells n k)

size_add : (a b : ℤ) → nat_abs (a +ℤ b) ≤ nat_abs a + nat_abs b
size_add a b = omega (arith, ints, abs_is a, abs_is b, abs_is (a +ℤ b))

size_share : (limit : ℕ) (z : ℤ) (b : Bool) → Sized limit z → Sized limit (cond b z (pos 0))
size_share limit z true h = h
size_share limit z false h = omega arith

-- after i of the pairs
pub record Adding (pairs : List SentPair) (i : ℕ) (cs : List ℤ) : Type 0 where
  pub long : length cs ≡ 32
  pub sums : (k : ℕ) → k < 32 → get_or cs k (pos 0) ≡ added k (take i pairs)
  pub small : (k : ℕ) → Sized (i * sent_limit) (get_or cs k (pos 0))
  pub left : first_bad (pair_fields 5 pairs) ≡ first_bad (pair_fields (5 + 5 * i) (drop i pairs))

-- the pair at i
abbrev pub pair_at : List SentPair → ℕ → SentPair
pair_at pairs i = get_or pairs i (record { name = 0; coefficient = pos 0 })

module _ (pairs : List SentPair) (i : ℕ) (cs : List ℤ) (within : i < length pairs) (h : Adding pairs i cs) where
  abbrev at : ℕ
  at = 5 + 5 * i

  abbrev p : SentPair
  p = pair_at pairs i

  open_left : first_bad (pair_fields 5 pairs) ≡ first_bad (pair_fields at (p ∷ drop (i + 1) pairs))
  open_left = h.left ∙ ap (λ ps. first_bad (pair_fields at ps)) (drop_more pairs i _ within)

  -- the pair's name is out of range
  pub bad_name : 32 ≤ (pair_at pairs i).name → first_bad (pair_fields 5 pairs) ≡ Some (5 + 5 * i)
  bad_name big = open_left ∙ grind (arith, nat_tests)

  -- its coefficient is
  pub bad_coefficient : (pair_at pairs i).name < 32 → (Sized sent_limit (pair_at pairs i).coefficient → ⊥) → first_bad (pair_fields 5 pairs) ≡ Some (5 + 5 * i + 1)
  bad_coefficient named big = open_left ∙ grind (arith, nat_tests)

  -- the pair is added to the coefficient of its name
  pub one_more : (n : ℕ) (z : ℤ) (new : List ℤ) → n < 32 → n ≡ (pair_at pairs i).name → z ≡ (pair_at pairs i).coefficient → Sized sent_limit z → new ≡ set cs n (get_or cs n (pos 0) +ℤ z) → Adding pairs (i + 1) new
  one_more n z new named name-is z-is sized New-is =
      let inside : n < length cs = omega (arith, h.long) in
      let behind : take (i + 1) pairs ≡ take i pairs ++ (p ∷ []) = take_more pairs i _ within in
      let shared : (k : ℕ) → cond (eqb n k) z (pos 0) ≡ share k p = λ k. cc in
      let at-k : (k : ℕ) → get_or new k (pos 0) ≡ get_or cs k (pos 0) +ℤ cond (eqb n k) z (pos 0) = λ k. ap (λ zs. get_or zs k (pos 0)) New-is ∙ written cs n z k inside in
      record {
        long = ap length New-is ∙ length-set cs n _ ∙ h.long;
        sums = λ k below. at-k k ∙ ap (λ x. x +ℤ cond (eqb n k) z (pos 0)) (h.sums k below) ∙ ap (λ x. added k (take i pairs) +ℤ x) (shared k) ∙ sym (added_push k (take i pairs) p) ∙ ap (added k) (sym behind);
        small = λ k. subst (λ x. Sized ((i + 1) * sent_limit) x) (sym (at-k k)) (omega (arith, size_add (get_or cs k (pos 0)) (cond (eqb n k) z (pos 0)), size_share sent_limit z (eqb n k) sized, h.small k));
        left = open_left ∙ grind (arith, nat_tests);
      }

zero_at : (n k : ℕ) → get_or (replicate n (pos 0)) k (pos 0) ≡ pos 0
zero_at n k =
    ⊎_elim
    (λ h. get_or_past (replicate n (pos 0)) k (pos 0) (subst (λ m. m ≤ k) (sym (length-replicate n (pos 0))) h.1))
    (λ h. get_or-replicate n k (pos 0) (pos 0) h.1)
    (leb_tells n k)

pub none_yet : (pairs : List SentPair) → Adding pairs 0 (replicate 32 (pos 0))
none_yet pairs =
    record {
      long = length-replicate 32 (pos 0);
      sums = λ k below. zero_at 32 k;
      small = λ k. subst (λ z. Sized (0 * sent_limit) z) (sym (zero_at 32 k)) (omega arith);
      left = refl;
    }

module _ (s : SentRow) (i : ℕ) (cs : List ℤ) (done : length s.pairs ≤ i) (few : i ≤ 4) (h : Adding s.pairs i cs) where
  pub all_small : AllSized row_limit cs
  all_small k = omega (arith, h.small k)

  pub all_good : first_bad (pair_fields 5 s.pairs) ≡ None
  all_good = h.left ∙ ap (λ ps. first_bad (pair_fields (5 + 5 * i) ps)) (drop_all i s.pairs done)

  pub all_added : (r : Row) → r.constant ≡ s.constant → r.coefficients ≡ cs → Sums s r
  all_added r e f =
      record {
        constant = e;
        coefficient = λ k below. ap (λ zs. get_or zs k (pos 0)) f ∙ h.sums k below ∙ ap (added k) (take_all i s.pairs done);
      }

-- a good constant leaves it to the pairs
pub constant_good : (s : SentRow) → Sized sent_limit s.constant → first_bad (row_fields s) ≡ first_bad (pair_fields 5 s.pairs)
constant_good s h = grind (arith, nat_tests)
