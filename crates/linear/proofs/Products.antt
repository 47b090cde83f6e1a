-- A multiple of a number of a row fits 64 bits.
use Rattle.std.proofs.Common.{◌≡◌, ℕ, zero, suc, ◌*◌, ◌≤◌, ℤ, pos, negsuc, ◌+ℤ◌, ◌*ℤ◌, neg_ℤ, nat_abs, refl, mul-le-mul_left, arith, w64, SFits}
use borrow.Author.Differences.{abs_is}
use Rattle.std.proofs.lemmas.Int.{ints}
use Rattle.facts.specs.Sizes.{Sized, row_limit}

size_neg : (n : ℕ) → nat_abs (neg_ℤ (pos n)) ≡ n
size_neg zero = refl
size_neg (suc n) = refl

size_times : (a b : ℤ) → nat_abs (a *ℤ b) ≡ nat_abs a * nat_abs b
size_times (pos a) (pos b) = refl
size_times (pos a) (negsuc b) = size_neg (a * suc b)
size_times (negsuc a) (pos b) = size_neg (suc a * b)
size_times (negsuc a) (negsuc b) = refl

pub product_small : (c b : ℤ) → Sized 1_000_000 c → Sized row_limit b → Sized 1_000_000_000_000_000_000 (c *ℤ b)
product_small c b h i =
    omega (arith, size_times c b, mul-le-mul_left (nat_abs c) i)

size_fits : (z : ℤ) → nat_abs z ≤ 2_000_000_000_000_000_000 → SFits w64 z
size_fits (pos n) h = record { sfits = omega arith }
size_fits (negsuc n) h = record { sfits = omega arith }

pub product_fits : (c b : ℤ) → Sized 1_000_000 c → Sized row_limit b → SFits w64 (c *ℤ b)
product_fits c b h i = size_fits (c *ℤ b) (omega (arith, product_small c b h i))

pub sum_fits : (a p : ℤ) → Sized row_limit a → Sized 1_000_000_000_000_000_000 p → SFits w64 (a +ℤ p)
sum_fits a p h i = size_fits (a +ℤ p) (omega (arith, ints, abs_is a, abs_is p, abs_is (a +ℤ p)))
