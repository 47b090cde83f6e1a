-- The pairs of a row, cut out of its body.
use Rattle.std.proofs.Common.{◌≡◌, ℕ, suc, ◌+◌, ◌*◌, ◌<◌, List, [], ◌∷◌, ◌++◌, length, take, drop, slice_index_or, sym, ap, ◌∙◌, arith}
use Rattle.std.specs.List.{flat_map}
use Rattle.std.proofs.lemmas.List.{drop-drop, take-append-drop, drop_all}
use Rattle.facts.specs.declared.literal.SentPair.{SentPair}
use Rattle.claimfile.specs.Entries.{pair_bytes}

-- so many bytes, and what comes after them
pub next_part : (xs whole : List ℕ) (i n : ℕ) → whole ≡ drop (i + n) xs → take n (drop i xs) ++ whole ≡ drop i xs
next_part xs whole i n is =
    ap (λ w. take n (drop i xs) ++ w) (is ∙ sym (drop-drop n i xs)) ∙ take-append-drop n (drop i xs)

-- pairs that stand one after the other, to the end
pub pairs_from : (xs : List ℕ) (i : ℕ) (ps : List SentPair) → length xs ≡ i + 5 * length ps → ((j : ℕ) (e : SentPair) → j < length ps → pair_bytes (slice_index_or ps j e) ≡ take 5 (drop (i + 5 * j) xs)) → flat_map pair_bytes ps ≡ drop i xs
pairs_from xs i [] long each = sym (drop_all i xs (omega arith))
pairs_from xs i (p ∷ ps) long each =
    let first : pair_bytes p ≡ take 5 (drop i xs) = each 0 p (omega arith) ∙ ap (λ n. take 5 (drop n xs)) (omega arith) in
    let rest : flat_map pair_bytes ps ≡ drop (i + 5) xs = pairs_from xs (i + 5) ps (omega arith) (λ j e less. each (suc j) e (omega arith) ∙ ap (λ n. take 5 (drop n xs)) (omega arith)) in
    ap (λ w. w ++ flat_map pair_bytes ps) first ∙ next_part xs (flat_map pair_bytes ps) i 5 rest
