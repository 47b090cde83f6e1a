-- Statements that can be decided.
use Rattle.std.specs.Prelude.{◌≡◌, ℕ, zero, suc, ◌<◌, Bool, true, false, ℤ, ◌≤ℤ◌, ◌<ℤ◌}
use Rattle.std.proofs.Common.{arith, below_more}
use Rattle.std.proofs.lemmas.Int.{ints, by_lt_z}

-- whether a statement that is decided holds
unfoldable pub holds : {P : Type 0} → Dec P → Bool
holds (yes p) = true
holds (no p) = false

pub is_less : (a b : ℤ) → Dec (a <ℤ b)
is_less a b = by_lt_z a b (λ h. yes h) (λ h. no (λ k. omega (arith, ints)))

pub is_at_most : (a b : ℤ) → Dec (a ≤ℤ b)
is_at_most a b = by_lt_z b a (λ h. no (λ k. omega (arith, ints))) (λ h. yes h)

pub is_equal : (a b : ℤ) → Dec (a ≡ b)
is_equal a b = by_lt_z a b (λ h. no (λ k. omega (arith, ints))) (λ h. by_lt_z b a (λ i. no (λ k. omega (arith, ints))) (λ i. yes (omega (arith, ints))))

-- every number below n
pub is_each_below : (P : ℕ → Type 0) → ((k : ℕ) → Dec (P k)) → (n : ℕ) → Dec ((k : ℕ) → k < n → P k)
is_each_below P each zero = yes (λ k h. absurd (omega arith))
is_each_below P each (suc n) =
    elim (is_each_below P each n) [
      | yes before ↦ elim (each n) [ yes last ↦ yes (λ k h. below_more P n before last k (omega arith)) | no other ↦ no (λ all. other (all n (omega arith))) ]
      | no other ↦ no (λ all. other (λ k h. all k (omega arith)))
    ]
