-- Names, and symbols, are the same if their indices are.
use Rattle.std.proofs.Common.{◌≡◌, ℕ, ◌<◌, ap, subst}
use native.Mathlib.Bridge.{le_prop}
use Rattle.facts.specs.declared.name.Name.{Name}
use Rattle.facts.specs.declared.symbol.Symbol.{Symbol}

-- what is made of a number below a limit depends on the number alone
made_same : {X : Type 0} (limit : ℕ) (make : (i : ℕ) → i < limit → X) (i j : ℕ) (p : i < limit) (q : j < limit) → i ≡ j → make i p ≡ make j q
made_same {X} limit make i j p q e =
    subst (λ k. (h : k < limit) → make i p ≡ make k h) e (λ h. ap (make i) (le_prop p h)) q

name_made : (i : ℕ) → i < 32 → Name
name_made i h = record { index = i; named = h }

symbol_made : (i : ℕ) → i < 16 → Symbol
symbol_made i h = record { index = i; lettered = h }

pub same_name : (a b : Name) → a.index ≡ b.index → a ≡ b
unfolding name_made
same_name a b = made_same 32 name_made a.index b.index a.named b.named

pub same_symbol : (a b : Symbol) → a.index ≡ b.index → a ≡ b
unfolding symbol_made
same_symbol a b = made_same 16 symbol_made a.index b.index a.lettered b.lettered
