use Rattle.std.proofs.Common.{◌≡◌, ℕ, ◌+◌, ◌*◌, ◌<◌, ◌++◌, length, take, drop, slice_index_or, ap, ◌∙◌, arith, rules, w32, SFits, to_z-of_z}
use Rattle.std.specs.List.{flat_map}
use Rattle.std.proofs.lemmas.List.{take-append-drop}
use Rattle.facts.specs.declared.literal.SentPair.{SentPair}
use Rattle.claimfile.specs.Entries.{number_bytes, pair_bytes}
use Rattle.claimfile.proofs.Rows.{pairs_from}
use Rattle.claimfile.proofs.fields.row_of.Goals as goal

pub returns-clause-written : goal.returns-clause-written
returns-clause-written c =
    let body = c.args.body.now in
    let made = c.from_fn.ensures.items in
    let each : (i : ℕ) (e : SentPair) → i < length c.from_fn.result → pair_bytes (slice_index_or c.from_fn.result i e) ≡ take 5 (drop (4 + 5 * i) body) = λ i e less. let called = made.at i e (omega (arith, made.long)) in search rules in
    let pairs : flat_map pair_bytes c.from_fn.result ≡ drop 4 body = pairs_from body 4 c.from_fn.result (omega (arith, made.long, c.requires)) each in
    let constant : number_bytes c.number_of.result ≡ take 4 body = search rules in
    let fits : SFits w32 c.number_of.result = search rules in
    ap (λ z. number_bytes z ++ flat_map pair_bytes c.from_fn.result) (to_z-of_z fits) ∙ ap (λ w. w ++ flat_map pair_bytes c.from_fn.result) constant ∙ ap (λ w. take 4 body ++ w) pairs ∙ take-append-drop 4 body
