-- True readings make their literals true.
use Rattle.std.proofs.Common.{◌≡◌, ℕ, List, [], ◌∷◌, ◌++◌, map, pos, ◌*ℤ◌, ◌≤ℤ◌, sym, subst, arith}
use lib.IntN.{zero-*ℤ}
use Rattle.std.proofs.lemmas.Int.{ints, clamps}
use Rattle.facts.proofs.Integers.{times_mono}
use Rattle.facts.specs.Valuations.{Valuation}
use Rattle.facts.specs.declared.literal.Literal.{Literal}
use Rattle.reading.specs.Bounds.{bound_literal, bounds_list}
use Rattle.reading.specs.Converter.{AllTrue, Stores}
use Rattle.reading.specs.declared.bound.Bound.{Bound}
use Rattle.claim.specs.Histories.{AllLiteralsTrue}
use Rattle.claimfile.specs.Entries.{Entry}
use Rattle.claimfile.specs.Judging.{EntryTrue, AllEntriesTrue}
use Rattle.claimfile.specs.Sending.{States, Stated}

module _ (v : Valuation) where
  -- a count is stored only for a value that is not negative
  biased : (n c : ℕ) → Stores v n c → pos 0 ≤ℤ v.numerator n
  biased n c s =
      let whole : pos 0 ≤ℤ s.whole = omega (arith, ints, clamps, s.clipped) in
      let less : (pos 0 *ℤ pos v.denominator) ≤ℤ (s.whole *ℤ pos v.denominator) = times_mono v.denominator (pos 0) s.whole whole in
      let none : pos 0 *ℤ pos v.denominator ≡ pos 0 = zero-*ℤ (pos v.denominator) in
      omega (arith, ints, less, none, s.floor.not_above)

  bounds_true : (bs : List Bound) → AllTrue v bs → AllLiteralsTrue v (map bound_literal bs)
  bounds_true [] h = tt
  bounds_true (b ∷ bs) h = (h.0, bounds_true bs h.1)

  entry_true : (e : Entry) (ms : List Literal) → States e ms → EntryTrue v e → AllLiteralsTrue v ms
  entry_true (Entry.literal l) ms is h = subst (AllLiteralsTrue v) (sym is.1) (h, tt)
  entry_true (Entry.reading s) ms (b, taken, is) h =
      subst (AllLiteralsTrue v) (sym is) (bounds_true (bounds_list b) ((taken.exact v (biased s.name s.count h)).1 h))

  both_true : (ls ms : List Literal) → AllLiteralsTrue v ls → AllLiteralsTrue v ms → AllLiteralsTrue v (ls ++ ms)
  both_true [] ms h k = k
  both_true (l ∷ ls) ms h k = (h.0, both_true ls ms h.1 k)

  last_true : (es : List Entry) (e : Entry) → AllEntriesTrue v (es ++ (e ∷ [])) → AllEntriesTrue v es × EntryTrue v e
  last_true [] e h = (tt, h.0)
  last_true (x ∷ es) e h = let more = last_true es e h.1 in ((h.0, more.0), more.1)

  pub stated_true : (es : List Entry) (ls : List Literal) → Stated es ls → AllEntriesTrue v es → AllLiteralsTrue v ls
  stated_true es ls Stated.none all = tt
  stated_true es ls (Stated.more {es = before} {ls = done} e ms h is) all =
      let parts = last_true before e all in
      both_true done ms (stated_true before done h parts.0) (entry_true e ms is parts.1)
