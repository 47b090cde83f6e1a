-- Literals that a valuation makes true.
use Rattle.std.proofs.Common.{◌≡◌, ℕ, List, [], ◌∷◌, ◌++◌, pos, negsuc, Ok, Err, sym, refl, subst, append-nil, arith, lit<}
use lib.Signed.{le_z_yes}
use Rattle.std.proofs.lemmas.Int.{ints}
use Rattle.std.specs.Int.{int_min}
use Rattle.facts.specs.Literals.{LiteralTrue}
use Rattle.facts.specs.Valuations.{Valuation}
use Rattle.facts.specs.declared.fact.Relation.{Relation}
use Rattle.facts.specs.declared.literal.Literal.{Literal}
use Rattle.facts.specs.declared.literal.SentRow.{SentRow}
use Rattle.facts.specs.declared.row.Row.{Row}
use Rattle.facts.specs.declared.term.Term.{Term}
use Rattle.reading.proofs.Floors.{floor_between}
use Rattle.reading.specs.Bounds.{pair}
use Rattle.reading.specs.Converter.{Floor, Stores, highest_count}
use Rattle.theory.specs.Places.{Places}
use Rattle.theory.specs.Rules.{Book, AllSound}
use Rattle.linear.specs.Rows.{listed}
use Rattle.claim.proofs.Promises.{promise, literals_true}
use Rattle.claim.proofs.Soundness.{no_valuation}
use Rattle.claim.specs.Calls.{Answer}
use Rattle.claim.specs.Histories.{LiteralsSent, AllLiteralsTrue, if_taken}
use Rattle.examples.specs.Examples.{Example, Holds, both, clipped, above_scale, n0, n1}
use Rattle.examples.specs.Runs.{NeverSealed, all_taken}
use Rattle.examples.specs.Values.{row, sent_row}
use Rattle.examples.proofs.Rows.{sums}
use Rattle.examples.proofs.Sound.{Whole, both_sound}
use Rattle.examples.proofs.Sending.{begin, and_distinct, and_linear}

-- ---- the literals taken are among those sent

module _ (v : Valuation) where
  onto : (ls : List Literal) (l : Literal) → AllLiteralsTrue v ls → LiteralTrue v l → AllLiteralsTrue v (ls ++ (l ∷ []))
  onto [] l h k = (k, tt)
  onto (x ∷ ls) l h k = (h.0, onto ls l h.1 k)

  last_true : (ls : List Literal) (l : Literal) → AllLiteralsTrue v (ls ++ (l ∷ [])) → AllLiteralsTrue v ls × LiteralTrue v l
  last_true [] l h = (tt, h.0)
  last_true (x ∷ ls) l h = let more = last_true ls l h.1 in ((h.0, more.0), more.1)

  with_last : (taken : List Literal) (a : Answer) (l : Literal) → AllLiteralsTrue v taken → LiteralTrue v l → AllLiteralsTrue v (taken ++ if_taken a l)
  with_last taken (Ok x) l h k = onto taken l h k
  with_last taken (Err f) l h k = subst (AllLiteralsTrue v) (sym (append-nil taken)) h

  pub taken_true : (book : Book) (ls : List Literal) (rs : List Answer) (ps : Places) (taken : List Literal) → LiteralsSent book ls rs ps taken → AllLiteralsTrue v ls → AllLiteralsTrue v taken
  taken_true book ls rs ps taken LiteralsSent.none h = tt
  taken_true book ls rs ps taken (LiteralsSent.more {ls = before} {rs = answers} {ps = was} {taken = done} l a after sent call) h =
      let parts = last_true before l h in
      with_last done a l (taken_true book before answers was done sent parts.0) parts.1

-- literals that are true at whole numbers, and all taken, are never sealed
never_by : (book : Book) (ls : List Literal) (ps : Places) (v : Valuation) → AllSound Whole book → v.denominator ≡ 1 → AllLiteralsTrue v ls → LiteralsSent book ls (all_taken ls) ps ls → NeverSealed book ls v
never_by book ls ps v sound whole all sent =
    record {
      whole = whole;
      all_true = all;
      places = ps;
      literals_sent = sent;
      underivable = λ w d. no_valuation v Whole book sound whole 0 ps w d (literals_true v book ls (all_taken ls) ps ls sent all);
      never = λ lrs qs literals begun ss srs st steps stepped shut.
          (promise Whole book sound ls lrs qs literals begun ss srs st steps stepped).no_false_seal shut v whole (taken_true v book ls lrs qs literals begun all);
    }

-- ---- two readings at the top of the scale

abbrev at_least : ℕ → SentRow
at_least n = sent_row (negsuc 4094) (pair n (pos 1) ∷ [])

abbrev r0 : Row
r0 = row (negsuc 4094) (pos 1 ∷ []) refl tt

abbrev r1 : Row
r1 = row (negsuc 4094) (pos 0 ∷ pos 1 ∷ []) refl tt

apart : pos 4095 ≡ pos 4096 → ⊥
apart e = let z : ◌≡◌ {A = ℕ} 4095 4096 = cc in omega arith

pub clipped_open : Holds (Example.never_sealed both clipped above_scale)
unfolding listed
clipped_open =
    let l1 = and_linear (begin both) Relation.NonNegative (at_least 0) r0 refl (sums (at_least 0) r0 refl refl) (1, _, refl) (lit< tt) (lit< tt) in
    let l2 = and_linear l1 Relation.NonNegative (at_least 1) r1 refl (sums (at_least 1) r1 refl refl) (1, _, refl) (lit< tt) (lit< tt) in
    let l3 = and_distinct l2 (Term.Bare n0) (Term.Bare n1) refl (0, _, refl) (lit< tt) (lit< tt) in
    never_by both clipped _ above_scale both_sound refl (le_z_yes tt, (le_z_yes tt, (apart, tt))) l3.sent

-- ---- what the converter stores

-- a whole value is its own floor
stored : (v : Valuation) (n c x : ℕ) → v.numerator n ≡ pos x → v.denominator ≡ 1 → pos c ≡ int_min (pos x) (pos highest_count) → Stores v n c
stored v n c x value whole least =
    record {
      whole = pos x;
      floor = subst (λ z. Floor z v.denominator (pos x)) (sym value) (subst (λ q. Floor (pos x) q (pos x)) (sym whole) (floor_between (pos x) 1 (pos x) (omega (arith, ints)) (omega (arith, ints))));
      clipped = least;
    }

pub top_stored : Stores above_scale 0 4095
top_stored = stored above_scale 0 4095 4095 refl refl refl

pub past_top_stored : Stores above_scale 1 4095
past_top_stored = stored above_scale 1 4095 4096 refl refl refl
