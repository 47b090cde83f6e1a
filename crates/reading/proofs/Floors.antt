-- Whole parts below.
use Rattle.std.proofs.Common.{ℕ, ◌/◌, ◌≤◌, ℤ, pos, negsuc, ◌+ℤ◌, ◌*ℤ◌, ◌≤ℤ◌, ◌<ℤ◌, le-div_iff_mul-le, div-mul-le_self, arith}
use Rattle.std.proofs.lemmas.Int.{ints, by_lt_z}
use Rattle.facts.proofs.Integers.{times_mono}
use Rattle.reading.specs.Converter.{Floor}

-- a number between w and w + 1
pub floor_between : (a : ℤ) (q : ℕ) (w : ℤ) → (w *ℤ pos q) ≤ℤ a → a <ℤ ((w +ℤ pos 1) *ℤ pos q) → Floor a q w
floor_between a q w low high =
    record {
      not_above = low;
      largest = λ u h. by_lt_z w u (λ over. absurd (past u h over)) (λ fine. fine);
    }
  where
    past : (u : ℤ) → (u *ℤ pos q) ≤ℤ a → w <ℤ u → ⊥
    past u h over = let more : ((w +ℤ pos 1) *ℤ pos q) ≤ℤ (u *ℤ pos q) = times_mono q (w +ℤ pos 1) u (omega (arith, ints)) in omega (arith, ints)

-- every value that is not negative has one
pub floor_of : (a : ℤ) (q : ℕ) → 1 ≤ q → pos 0 ≤ℤ a → (w : ℤ) × Floor a q w
floor_of (negsuc m) q some h = absurd (omega (arith, ints))
floor_of (pos m) q some h = (pos (m / q), record { not_above = omega (arith, ints, div-mul-le_self m q); largest = most })
  where
    most : (u : ℤ) → (u *ℤ pos q) ≤ℤ pos m → u ≤ℤ pos (m / q)
    most (pos k) below = let fits : k ≤ m / q = (le-div_iff_mul-le some).1 (omega (arith, ints)) in omega (arith, ints)
    most (negsuc k) below = omega (arith, ints)
