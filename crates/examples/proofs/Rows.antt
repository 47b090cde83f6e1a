-- Rows with 32 coefficients, compared at once.
use Rattle.std.proofs.Common.{◌≡◌, ℕ, ◌<◌, get_or, ℤ, pos, sym, ap, ◌∙◌}
use Rattle.facts.specs.Fields.{Sums, added}
use Rattle.facts.specs.declared.literal.SentRow.{SentRow}
use Rattle.facts.specs.declared.row.Row.{Row}
use Rattle.linear.specs.Rows.{listed, get_or-listed, coefficient}

-- two functions with the same list are the same below 32
pub same_below : (f g : ℕ → ℤ) → listed f ≡ listed g → (k : ℕ) → k < 32 → f k ≡ g k
same_below f g e k h = sym (get_or-listed f k h) ∙ ap (λ zs. get_or zs k (pos 0)) e ∙ get_or-listed g k h

-- a row stands for what was sent
pub sums : (s : SentRow) (r : Row) → r.constant ≡ s.constant → listed (coefficient r) ≡ listed (λ k. added k s.pairs) → Sums s r
sums s r e same = record { constant = e; coefficient = same_below (coefficient r) (λ k. added k s.pairs) same }
