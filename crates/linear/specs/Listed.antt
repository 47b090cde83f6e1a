-- Lists of 32 numbers that are given by their index.
use Rattle.std.specs.Prelude.{◌≡◌, ℕ, ◌<◌, List, length, replicate, ℤ, pos, slice_index_or}
use Rattle.std.proofs.lemmas.List.FromFn.{fill_by_all}
use Rattle.std.proofs.lemmas.List.{get_or-replicate, length-replicate}
use Rattle.linear.specs.Rows.{listed}

pub listed_is : (f : ℕ → ℤ) (zs : List ℤ) → length zs ≡ 32 → ((k : ℕ) → k < 32 → slice_index_or zs k (pos 0) ≡ f k) → zs ≡ listed f
unfolding listed
listed_is f zs long each = fill_by_all f zs 32 (pos 0) long each

pub listed_same : (c : ℤ) → replicate 32 c ≡ listed (λ k. c)
listed_same c = listed_is (λ k. c) (replicate 32 c) (length-replicate 32 c) (λ k below. get_or-replicate 32 k c (pos 0) below)
