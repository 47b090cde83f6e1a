use Rattle.std.proofs.Common.{◌≡◌, [], ◌∷◌, ◌++◌, map, length, Ok, Err, sym, ap, ◌∙◌, subst, rules}
use Rattle.std.specs.Option.{option_to_list}
use Rattle.reading.specs.Bounds.{bound_literal, bounds_list}
use Rattle.claim.specs.Calls.{fault_of}
use Rattle.claim.specs.Counted.{place_of}
use Rattle.claimfile.specs.Entries.{Entry}
use Rattle.claimfile.specs.Sending.{EntryRefused}
use Rattle.claimfile.specs.Progress.{EntrySent}
use Rattle.reading.specs.Converter.{ReadingChecked}
use Rattle.claimfile.proofs.Calls.{mapped_err, place_is, one_sent, states_one, states_bounds, first_refused, second_sent}
use Rattle.claimfile.proofs.checking.send_reading.Goals as goal

pub returns-in_err-bounds : goal.returns-in_err-bounds
returns-in_err-bounds g c ls h =
    let place : c.place-place.result ≡ length ls = c.place-place.ensures ∙ ap place_of c.counts.ensures ∙ place_is g.T.Theory.places g.T.Theory.rules c.args.claim.now ls h in
    let cause = mapped_err c.check.result c.map_err.result c.in_err-bounds.field-0.0 _ (λ e. fault_of e 0 c.place-place.result 0) c.map_err.ensures.cases (λ e r made. search rules) (search rules) in
    let told : c.from_residual.result ≡ Err c.in_err-bounds.field-0.0 = search rules in
    let fault : c.in_err-bounds.field-0.0 ≡ fault_of cause.0 0 (length ls) 0 = cause.2 ∙ ap (λ n. fault_of cause.0 0 n 0) place in
    subst (λ r. EntrySent g.T.Theory.places g.T.Theory.rules (Entry.reading c.args.sent) ls c.args.claim.now r c.args.claim.now) (sym (told ∙ ap Err fault)) (EntryRefused.field c.args.sent cause.0 (subst (ReadingChecked c.args.sent) cause.1 c.check.ensures))

pub returns-in_err-literal : goal.returns-in_err-literal
returns-in_err-literal g c ls h =
    let b = c.in_ok-bounds.bounds in
    let ok : c.check.result ≡ Ok b = search rules in
    let checked = subst (ReadingChecked c.args.sent) ok c.check.ensures in
    let told : c.from_residual-in_err-literal.result ≡ Err c.in_err-literal.field-0.0 = search rules in
    let more = map bound_literal (option_to_list b.upper) in
    let first = c.in_err-literal.ensures in
    subst (λ r. EntrySent g.T.Theory.places g.T.Theory.rules (Entry.reading c.args.sent) ls c.args.claim.now r c.literal-2.new.self) (sym told) (first_refused g.T.Theory.places g.T.Theory.rules (Entry.reading c.args.sent) c.args.claim.now c.literal-2.new.self c.literal-2.new.self c.literal.result more c.in_err-literal.field-0.0 ls (states_bounds c.args.sent b _ checked (ap (λ l. l ∷ more) c.literal.ensures)) (one_sent g.T.Theory.places g.T.Theory.rules c.args.claim.now _ _ _ ls first.call first.history h))

pub returns-in-Some : goal.returns-in-Some
returns-in-Some g c ls h =
    let b = c.in_ok-bounds.bounds in
    let ok : c.check.result ≡ Ok b = search rules in
    let checked = subst (ReadingChecked c.args.sent) ok c.check.ensures in
    let two : c.literal.result ∷ c.literal-in-Some.result ∷ [] ≡ map bound_literal (bounds_list b) = ap (λ l. l ∷ c.literal-in-Some.result ∷ []) c.literal.ensures ∙ ap (λ l. bound_literal b.lower ∷ l ∷ []) c.literal-in-Some.ensures ∙ ap (λ u. bound_literal b.lower ∷ map bound_literal (option_to_list u)) (sym c.in-Some.is) in
    let first = c.in_ok-literal.ensures in
    let begun = one_sent g.T.Theory.places g.T.Theory.rules c.args.claim.now c.literal-2.new.self c.literal.result (Ok tt) ls first.call first.history h in
    second_sent g.T.Theory.places g.T.Theory.rules (Entry.reading c.args.sent) c.args.claim.now c.literal-2.new.self c.literal-in-Some-2.new.self c.literal.result c.literal-in-Some.result _ ls (states_bounds c.args.sent b _ checked two) h first.call (one_sent g.T.Theory.places g.T.Theory.rules c.literal-2.new.self _ _ _ (ls ++ (c.literal.result ∷ [])) c.literal-in-Some-2.ensures.call c.literal-in-Some-2.ensures.history begun)

pub returns-in-None : goal.returns-in-None
returns-in-None g c ls h =
    let b = c.in_ok-bounds.bounds in
    let ok : c.check.result ≡ Ok b = search rules in
    let checked = subst (ReadingChecked c.args.sent) ok c.check.ensures in
    let one : c.literal.result ∷ [] ≡ map bound_literal (bounds_list b) = ap (λ l. l ∷ []) c.literal.ensures ∙ ap (λ u. bound_literal b.lower ∷ map bound_literal (option_to_list u)) (sym c.in-None.is) in
    let first = c.in_ok-literal.ensures in
    states_one g.T.Theory.places g.T.Theory.rules (Entry.reading c.args.sent) c.args.claim.now c.literal-2.new.self c.literal.result (Ok tt) ls (states_bounds c.args.sent b _ checked one) (one_sent g.T.Theory.places g.T.Theory.rules c.args.claim.now c.literal-2.new.self c.literal.result (Ok tt) ls first.call first.history h)
