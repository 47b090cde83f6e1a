-- Short forms for what the examples are written in.
use Rattle.std.specs.Prelude.{◌≡◌, ℕ, zero, suc, ◌-◌, Bool, true, false, ◌&&◌, T, List, [], ◌∷◌, ◌++◌, length, take, replicate, ℤ, pos, nat_le, nat_lt, unsigned_abs}
use Rattle.std.proofs.Common.{arith, lit<, lit≤}
use Rattle.facts.specs.Sizes.{AllSized, row_limit}
use Rattle.facts.specs.Valuations.{Valuation}
use Rattle.facts.specs.declared.fact.Relation.{Relation}
use Rattle.facts.specs.declared.literal.Literal.{Literal}
use Rattle.facts.specs.declared.literal.SentPair.{SentPair}
use Rattle.facts.specs.declared.literal.SentRow.{SentRow}
use Rattle.facts.specs.declared.literal.SentTerm.{SentTerm}
use Rattle.facts.specs.declared.name.Name.{Name}
use Rattle.facts.specs.declared.row.Row.{Row}
use Rattle.reading.specs.Bounds.{pair}

abbrev pub name : (i : ℕ) → T (nat_lt i 32) → Name
name i h = record { index = i; named = lit< h }

-- ---- rows

-- 32 coefficients: these, and then 0
abbrev pub wide : List ℤ → List ℤ
wide zs = zs ++ replicate (32 - length zs) (pos 0)

abbrev pub all_small : List ℤ → Bool
all_small [] = true
all_small (z ∷ zs) = nat_le (unsigned_abs z) row_limit && all_small zs

pub first_of : (a b : Bool) → T (a && b) → T a
first_of true b h = tt
first_of false b h = absurd h

pub second_of : (a b : Bool) → T (a && b) → T b
second_of true b h = h
second_of false b h = absurd h

pub all_sized : (zs : List ℤ) → T (all_small zs) → AllSized row_limit zs
all_sized [] h k = omega arith
all_sized (z ∷ zs) h zero = lit≤ (first_of (nat_le (unsigned_abs z) row_limit) (all_small zs) h)
all_sized (z ∷ zs) h (suc k) = all_sized zs (second_of (nat_le (unsigned_abs z) row_limit) (all_small zs) h) k

-- the row with this constant, these coefficients of n0, n1, .. and no others
abbrev pub row : (c : ℤ) (zs : List ℤ) → length (wide zs) ≡ 32 → T (all_small (c ∷ wide zs)) → Row
row c zs long h =
    record {
      constant = c;
      coefficients = wide zs;
      long = long;
      sized = lit≤ (first_of (nat_le (unsigned_abs c) row_limit) (all_small (wide zs)) h);
      all_sized = all_sized (wide zs) (second_of (nat_le (unsigned_abs c) row_limit) (all_small (wide zs)) h);
    }

-- ---- literals and their terms, as they are sent

-- the name with an index, and a one-place symbol of it
abbrev pub bare : ℕ → SentTerm
bare n = record { tag = 0; letter = 0; first = n; second = 0 }

abbrev pub a_of : ℕ → SentTerm
a_of n = record { tag = 1; letter = 0; first = n; second = 0 }

-- a row with up to four names
abbrev pub sent_row : ℤ → List SentPair → SentRow
sent_row c ps = record { constant = c; pairs = take 4 (ps ++ replicate 4 (pair 0 (pos 0))) }

abbrev pub linear : Relation → ℤ → List SentPair → Literal
linear how c ps = Literal.Linear how (sent_row c ps)

-- ---- valuations

-- these whole numbers for the names; the symbols are 0
abbrev pub values : (ℕ → ℤ) → Valuation
values f = record { denominator = 1; positive = lit≤ tt; numerator = f; unary = λ _ _. pos 0; binary = λ _ _ _. pos 0 }
