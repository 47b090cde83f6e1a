-- The content of a list of numbers, found from the first number on.
use Rattle.std.specs.Prelude.{◌≡◌, ℕ, zero, suc, ◌*◌, ◌<◌, ◌≤◌, List, [], ◌∷◌, ◌++◌, ℤ, pos, negsuc, ◌≢◌, slice_index_or, unsigned_abs, refl}
use Rattle.std.proofs.Common.{sym, ap, ◌∙◌, subst, ⊎_elim, mul-zero, arith}
use Rattle.std.proofs.lemmas.Bool.Decides.{leb_tells}
use Rattle.facts.specs.Sizes.{AllSized}
use Rattle.linear.specs.Gcd.{Divides, Greatest}
use Rattle.linear.specs.Content.{Content, size_at}
use Rattle.linear.specs.Divisors.{divides_zero, divides_through, divides_both, divisor_positive, divisor_most}

-- of no numbers it is 0
pub content_nothing : Content [] 0
content_nothing = record { each = λ k. divides_zero 0; most = λ d h. divides_zero d }

-- what divides all numbers of a list and one more divides all of both, and the other way round
each_of_both : (d : ℕ) (zs : List ℤ) (z : ℤ) → ((k : ℕ) → Divides d (size_at zs k)) → Divides d (unsigned_abs z) → (k : ℕ) → Divides d (size_at (zs ++ z ∷ []) k)
each_of_both d [] z all last zero = last
each_of_both d [] z all last (suc k) = divides_zero d
each_of_both d (x ∷ zs) z all last zero = all zero
each_of_both d (x ∷ zs) z all last (suc k) = each_of_both d zs z (λ j. all (suc j)) last k

each_before : (d : ℕ) (zs : List ℤ) (z : ℤ) → ((k : ℕ) → Divides d (size_at (zs ++ z ∷ []) k)) → (k : ℕ) → Divides d (size_at zs k)
each_before d [] z all k = divides_zero d
each_before d (x ∷ zs) z all zero = all zero
each_before d (x ∷ zs) z all (suc k) = each_before d zs z (λ j. all (suc j)) k

the_last : (d : ℕ) (zs : List ℤ) (z : ℤ) → ((k : ℕ) → Divides d (size_at (zs ++ z ∷ []) k)) → Divides d (unsigned_abs z)
the_last d [] z all = all zero
the_last d (x ∷ zs) z all = the_last d zs z (λ j. all (suc j))

-- one more number
pub content_append : (zs : List ℤ) (z : ℤ) (g h : ℕ) → Content zs g → Greatest g (unsigned_abs z) h → Content (zs ++ z ∷ []) h
content_append zs z g h before last =
    record {
      each = each_of_both h zs z (λ k. divides_through h g (size_at zs k) last.left (before.each k)) last.right;
      most = λ d all. last.most d (before.most d (each_before d zs z all)) (the_last d zs z all);
    }

-- the laws say which number it is
pub content_unique : (zs : List ℤ) (g h : ℕ) → Content zs g → Content zs h → g ≡ h
content_unique zs g h p q = divides_both g h (q.most g p.each) (p.most h q.each)

size_positive : (z : ℤ) → (z ≢ pos 0) → 1 ≤ unsigned_abs z
size_positive (pos n) h = ⊎_elim (λ less. less.1) (λ more. absurd (h (ap pos (omega (arith, more.1))))) (leb_tells 1 n)
size_positive (negsuc n) h = omega arith

size_zero : (z : ℤ) → unsigned_abs z ≡ 0 → z ≡ pos 0
size_zero (pos n) h = ap pos h
size_zero (negsuc n) h = absurd (omega arith)

-- if some number is not 0, the content is at least 1, and at most the size of that number
pub content_positive : (zs : List ℤ) (g k : ℕ) → Content zs g → (slice_index_or zs k (pos 0) ≢ pos 0) → 1 ≤ g
content_positive zs g k h other =
    divisor_positive g (size_at zs k) (h.each k) (size_positive (slice_index_or zs k (pos 0)) other)

pub content_at_most : (zs : List ℤ) (g k : ℕ) → Content zs g → (slice_index_or zs k (pos 0) ≢ pos 0) → g ≤ size_at zs k
content_at_most zs g k h other =
    divisor_most g (size_at zs k) (h.each k) (size_positive (slice_index_or zs k (pos 0)) other)

-- it is 0 exactly if all numbers are
pub content_zero : (zs : List ℤ) (g : ℕ) → Content zs g → g ≡ 0 → (k : ℕ) → slice_index_or zs k (pos 0) ≡ pos 0
content_zero zs g h e k =
    let (n, f) = h.each k in
    size_zero (slice_index_or zs k (pos 0)) (f ∙ ap (λ x. n * x) e ∙ mul-zero n)

pub zero_content : (zs : List ℤ) (g : ℕ) → Content zs g → ((k : ℕ) → slice_index_or zs k (pos 0) ≡ pos 0) → g ≡ 0
zero_content zs g h all =
    let (n, f) = h.most 0 (λ k. subst (λ z. Divides 0 (unsigned_abs z)) (sym (all k)) (divides_zero 0)) in
    f ∙ mul-zero n

-- it is no larger than all of them
pub content_within : (limit : ℕ) (zs : List ℤ) (g : ℕ) → Content zs g → AllSized limit zs → g ≤ limit
content_within limit zs g h small =
    ⊎_elim (λ less. less.1) (λ more. absurd (above more.1)) (leb_tells g limit)
  where
    zero_at : limit < g → (k n : ℕ) → size_at zs k ≡ n → n ≡ 0
    zero_at more k zero e = refl
    zero_at more k (suc n) e = absurd (omega (arith, small k, divisor_most g (size_at zs k) (h.each k) (omega (arith, e))))

    above : limit < g → ⊥
    above more =
        let none : g ≡ 0 = zero_content zs g h (λ k. size_zero (slice_index_or zs k (pos 0)) (zero_at more k (size_at zs k) refl)) in
        omega arith
