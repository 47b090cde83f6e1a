use Rattle.std.proofs.Common.{◌≡◌, ◌+◌, [], ◌∷◌, ◌++◌, length, take, drop, Ok, Err, sym, refl, ap, ◌∙◌, subst, rules}
use Rattle.claim.specs.Counted.{place_of}
use Rattle.claimfile.specs.Entries.{Entry, begin_bytes}
use Rattle.claimfile.specs.Progress.{EntrySent, Fronted, Opened}
use Rattle.claimfile.specs.Records.{ReadAt}
use Rattle.claimfile.specs.declared.record.Stage.{Stage}
use Rattle.claimfile.proofs.Advances.{entry_taken, entry_refused, part_at, unread_front, at_end}
use Rattle.claimfile.proofs.Calls.{mapped_err, one_sent, states_one, place_is}
use Rattle.claimfile.proofs.checking.take_front.Goals as goal

pub returns-in_err-next : goal.returns-in_err-next
returns-in_err-next g c start =
    let l = c.loop-reader in
    let o = l.invariant.1 start in
    let told : c.from_residual.result ≡ Err c.in_err-next.field-0.0 = search rules in
    let read = subst (λ f. ReadAt Stage.Literals f.now l.reader.at c.place.result 0 (Err c.in_err-next.field-0.0)) l.invariant.0 c.in_err-next.ensures.record in
    let place = c.place.ensures ∙ ap place_of c.counts.ensures ∙ place_is g.T.Theory.places g.T.Theory.rules l.claim o.literals o.claimed in
    subst (λ r. Fronted g.T.Theory.places g.T.Theory.rules c.args.reader.file.now r l.claim) (sym told) (unread_front g.T.Theory.places g.T.Theory.rules c.args.reader.file.now l.reader.at l.claim l.claim o _ _ place read)

pub returns-in-None : goal.returns-in-None
returns-in-None g c start =
    let l = c.loop-reader in
    let none : drop l.reader.at c.args.reader.file.now ≡ [] = search rules in
    let o = l.invariant.1 start in
    subst (λ n. Opened g.T.Theory.places g.T.Theory.rules c.args.reader.file.now n l.claim) (at_end c.args.reader.file.now l.reader.at o.within none) o

pub returns-in-Some-Begin : goal.returns-in-Some-Begin
returns-in-Some-Begin g c start =
    let l = c.loop-reader in
    let here : drop l.reader.at c.args.reader.file.now ≡ begin_bytes ++ drop (length begin_bytes) (drop l.reader.at c.args.reader.file.now) = search rules in
    let next : c.next.new.self.at ≡ l.reader.at + 1 = search rules in
    let o = l.invariant.1 start in
    let part = part_at c.args.reader.file.now begin_bytes l.reader.at o.within here in
    (search rules, (l.reader.at, ap (λ n. take n c.args.reader.file.now) next ∙ part.0, o))

pub loop-reader-preserved-in-Continue-branch-3 : goal.loop-reader-preserved-in-Continue-branch-3
loop-reader-preserved-in-Continue-branch-3 g c = (
  search rules,
  λ start.
      let l = c.loop-reader in
      let o = l.invariant.1 start in
      let here : drop l.reader.at c.args.reader.file.now ≡ (c.in-Some-Literal.kind ∷ c.in-Some-Literal.body.now) ++ drop (length (c.in-Some-Literal.kind ∷ c.in-Some-Literal.body.now)) (drop l.reader.at c.args.reader.file.now) = search rules in
      let taken : c.literal.result ≡ Ok tt = search rules in
      let sent = one_sent g.T.Theory.places g.T.Theory.rules l.claim c.literal.new.self c.literal_of.result c.literal.result o.literals c.literal.ensures.call c.literal.ensures.history o.claimed in
      let entry = states_one g.T.Theory.places g.T.Theory.rules (Entry.literal c.literal_of.result) l.claim c.literal.new.self c.literal_of.result c.literal.result o.literals (c.literal_of.ensures.fits, refl) sent in
      entry_taken g.T.Theory.places g.T.Theory.rules c.args.reader.file.now l.reader.at l.claim c.literal.new.self o (Entry.literal c.literal_of.result) _ _ c.literal_of.ensures.bytes here c.next.new.self.at (search rules) (subst (λ r. EntrySent g.T.Theory.places g.T.Theory.rules (Entry.literal c.literal_of.result) o.literals l.claim r c.literal.new.self) taken entry),
)

pub returns-in_err-map_err-in-Some-Literal : goal.returns-in_err-map_err-in-Some-Literal
returns-in_err-map_err-in-Some-Literal g c start =
    let l = c.loop-reader in
    let o = l.invariant.1 start in
    let here : drop l.reader.at c.args.reader.file.now ≡ (c.in-Some-Literal.kind ∷ c.in-Some-Literal.body.now) ++ drop (length (c.in-Some-Literal.kind ∷ c.in-Some-Literal.body.now)) (drop l.reader.at c.args.reader.file.now) = search rules in
    let fault = mapped_err c.literal.result c.map_err.result c.in_err-map_err-in-Some-Literal.field-0.0 _ (λ e. record { call = e; offset = l.reader.at }) c.map_err.ensures.cases (λ e r made. search rules) (search rules) in
    let told : c.from_residual-in_err-map_err-in-Some-Literal.result ≡ Err c.in_err-map_err-in-Some-Literal.field-0.0 = search rules in
    let sent = one_sent g.T.Theory.places g.T.Theory.rules l.claim c.literal.new.self c.literal_of.result c.literal.result o.literals c.literal.ensures.call c.literal.ensures.history o.claimed in
    let entry = states_one g.T.Theory.places g.T.Theory.rules (Entry.literal c.literal_of.result) l.claim c.literal.new.self c.literal_of.result c.literal.result o.literals (c.literal_of.ensures.fits, refl) sent in
    subst (λ r. Fronted g.T.Theory.places g.T.Theory.rules c.args.reader.file.now r c.literal.new.self) (sym (told ∙ ap Err fault.2)) (entry_refused g.T.Theory.places g.T.Theory.rules c.args.reader.file.now l.reader.at l.claim c.literal.new.self o (Entry.literal c.literal_of.result) _ _ c.literal_of.ensures.bytes here fault.0 (subst (λ r. EntrySent g.T.Theory.places g.T.Theory.rules (Entry.literal c.literal_of.result) o.literals l.claim r c.literal.new.self) fault.1 entry))

pub loop-reader-preserved : goal.loop-reader-preserved
loop-reader-preserved g c = (
  search rules,
  λ start.
      let l = c.loop-reader in
      let o = l.invariant.1 start in
      let here : drop l.reader.at c.args.reader.file.now ≡ (75 ∷ c.in-Some-Reading.body.now) ++ drop (length (75 ∷ c.in-Some-Reading.body.now)) (drop l.reader.at c.args.reader.file.now) = search rules in
      let taken : c.send_reading.result ≡ Ok tt = search rules in
      entry_taken g.T.Theory.places g.T.Theory.rules c.args.reader.file.now l.reader.at l.claim c.send_reading.new.claim o (Entry.reading c.reading_of.result) _ _ c.reading_of.ensures here c.next.new.self.at (search rules) (subst (λ r. EntrySent g.T.Theory.places g.T.Theory.rules (Entry.reading c.reading_of.result) o.literals l.claim r c.send_reading.new.claim) taken (c.send_reading.ensures o.literals o.claimed)),
)

pub returns-in_err-map_err-in-Some-Reading : goal.returns-in_err-map_err-in-Some-Reading
returns-in_err-map_err-in-Some-Reading g c start =
    let l = c.loop-reader in
    let o = l.invariant.1 start in
    let here : drop l.reader.at c.args.reader.file.now ≡ (75 ∷ c.in-Some-Reading.body.now) ++ drop (length (75 ∷ c.in-Some-Reading.body.now)) (drop l.reader.at c.args.reader.file.now) = search rules in
    let fault = mapped_err c.send_reading.result c.map_err-in-Some-Reading.result c.in_err-map_err-in-Some-Reading.field-0.0 _ (λ e. record { call = e; offset = l.reader.at }) c.map_err-in-Some-Reading.ensures.cases (λ e r made. search rules) (search rules) in
    let told : c.from_residual-in_err-map_err-in-Some-Reading.result ≡ Err c.in_err-map_err-in-Some-Reading.field-0.0 = search rules in
    subst (λ r. Fronted g.T.Theory.places g.T.Theory.rules c.args.reader.file.now r c.send_reading.new.claim) (sym (told ∙ ap Err fault.2)) (entry_refused g.T.Theory.places g.T.Theory.rules c.args.reader.file.now l.reader.at l.claim c.send_reading.new.claim o (Entry.reading c.reading_of.result) _ _ c.reading_of.ensures here fault.0 (subst (λ r. EntrySent g.T.Theory.places g.T.Theory.rules (Entry.reading c.reading_of.result) o.literals l.claim r c.send_reading.new.claim) fault.1 (c.send_reading.ensures o.literals o.claimed)))
