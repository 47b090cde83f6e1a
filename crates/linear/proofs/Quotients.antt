-- Quotients of the 32 numbers of a list.
use Rattle.std.proofs.Common.{◌≡◌, ℕ, ◌<◌, List, length, get_or, ℤ, pos, ◌≤ℤ◌, sym, subst, ⊎_elim, arith}
use lib.IntN.{zero-*ℤ}
use Rattle.std.proofs.lemmas.List.{get_or_past}
use Rattle.std.proofs.lemmas.Int.{ints}
use Rattle.std.proofs.lemmas.Bool.Decides.{leb_tells}
use Rattle.linear.specs.Cut.{Quotients}
use Rattle.linear.specs.Division.{Floored}

zero_floored : (by : ℤ) → pos 1 ≤ℤ by → Floored (pos 0) by (pos 0) (pos 0)
zero_floored by h =
    record { whole = omega (arith, ints, zero-*ℤ by); low = omega (arith, ints); high = omega (arith, ints) }

-- past the end both lists have 0
pub quotients_all : (zs : List ℤ) (by : ℤ) (qs : List ℤ) → pos 1 ≤ℤ by → length zs ≡ 32 → length qs ≡ 32 → ((k : ℕ) → k < 32 → (rest : ℤ) × Floored (get_or zs k (pos 0)) by (get_or qs k (pos 0)) rest) → Quotients zs by qs
quotients_all zs by qs positive long end each k =
    ⊎_elim
    (λ past. (
      pos 0,
      subst (λ z. Floored z by (get_or qs k (pos 0)) (pos 0)) (sym (get_or_past zs k (pos 0) (omega (arith, past.1))))
          (subst (λ z. Floored (pos 0) by z (pos 0)) (sym (get_or_past qs k (pos 0) (omega (arith, past.1)))) (zero_floored by positive)),
    ))
    (λ below. each k below.1)
    (leb_tells 32 k)
