-- Calls on a claim that has taken all that was sent.
use Rattle.std.proofs.Common.{◌≡◌, List, [], ◌∷◌, ◌++◌, map, length, Ok, Err, Result, MatchResult, sym, refl, ◌∙◌, subst, append_assoc, arith}
use Rattle.std.proofs.lemmas.List.{map_push, length_push}
use Rattle.std.specs.Result.{IsErrAnd}
use Rattle.facts.specs.declared.fault.CallFault.{CallFault}
use Rattle.facts.specs.declared.literal.Literal.{Literal}
use Rattle.theory.specs.Places.{Places}
use Rattle.theory.specs.Rules.{Book}
use Rattle.reading.specs.Bounds.{bound_literal, bounds_list}
use Rattle.reading.specs.Converter.{ReadingChecked}
use Rattle.reading.specs.declared.bound.Bounds.{Bounds}
use Rattle.reading.specs.declared.count.SentReading.{SentReading}
use Rattle.claim.specs.Calls.{Answer, LiteralCall}
use Rattle.claim.specs.Counted.{place_of}
use Rattle.claim.specs.Derived.{Claimed}
use Rattle.claim.specs.Histories.{if_taken}
use Rattle.claim.specs.declared.opening.Claim.{Claim}
use Rattle.claimfile.specs.Entries.{Entry}
use Rattle.claimfile.specs.Sending.{all_taken, States, RefusedAmong, EntryRefused}
use Rattle.claimfile.specs.Progress.{EntrySent}

module _ {T : Type 0} (places_of : T → Places) (book : Book) where
  -- a claim that has taken all of some literals
  abbrev pub All : Claim T → List Literal → Type 0
  All c ls = Claimed places_of book c ls (all_taken ls) ls

  -- a literal sent to it
  abbrev pub OneSent : List Literal → Claim T → Literal → Answer → Claim T → Type 0
  OneSent ls c l (Ok x) d = All d (ls ++ (l ∷ []))
  OneSent ls c l (Err f) d = LiteralCall book (places_of c.theory) (length ls) l (Err f) (places_of d.theory)

  pub place_is : (c : Claim T) (ls : List Literal) → All c ls → place_of c.counts ≡ length ls
  place_is c ls h = omega (arith, h.counted_literals, h.counted_steps)

  pub one_sent : (c d : Claim T) (l : Literal) (r : Answer) (ls : List Literal) → LiteralCall book (places_of c.theory) (place_of c.counts) l r (places_of d.theory) → ((xs : List Literal) (rs : List Answer) (taken : List Literal) → Claimed places_of book c xs rs taken → Claimed places_of book d (xs ++ (l ∷ [])) (rs ++ (r ∷ [])) (taken ++ if_taken r l)) → All c ls → OneSent ls c l r d
  one_sent c d l (Ok x) ls call history h =
      subst (λ rs. Claimed places_of book d (ls ++ (l ∷ [])) rs (ls ++ (l ∷ []))) (sym (map_push (λ _. Ok tt) ls l)) (history ls (all_taken ls) ls h)
  one_sent c d l (Err f) ls call history h =
      subst (λ n. LiteralCall book (places_of c.theory) n l (Err f) (places_of d.theory)) (place_is c ls h) call

  -- a record that states one literal
  pub states_one : (e : Entry) (c d : Claim T) (l : Literal) (r : Answer) (ls : List Literal) → States e (l ∷ []) → OneSent ls c l r d → EntrySent places_of book e ls c r d
  states_one e c d l (Ok x) ls is h = (l ∷ [], is, h)
  states_one e c d l (Err f) ls is h = EntryRefused.sent e (l ∷ []) f is (RefusedAmong.here (places_of d.theory) h)

  -- a record whose first literal is refused
  pub first_refused : (e : Entry) (c d x : Claim T) (l : Literal) (ms : List Literal) (f : CallFault) (ls : List Literal) → States e (l ∷ ms) → OneSent ls c l (Err f) d → EntrySent places_of book e ls c (Err f) x
  first_refused e c d x l ms f ls is h = EntryRefused.sent e (l ∷ ms) f is (RefusedAmong.here (places_of d.theory) h)

  -- a record that states two
  pub second_sent : (e : Entry) (c d x : Claim T) (l m : Literal) (r : Answer) (ls : List Literal) → States e (l ∷ m ∷ []) → All c ls → LiteralCall book (places_of c.theory) (place_of c.counts) l (Ok tt) (places_of d.theory) → OneSent (ls ++ (l ∷ [])) d m r x → EntrySent places_of book e ls c r x
  second_sent e c d x l m (Ok y) ls is all call h = (l ∷ m ∷ [], is, subst (All x) (append_assoc ls (l ∷ []) (m ∷ [])) h)
  second_sent e c d x l m (Err f) ls is all call h =
      let first = subst (λ n. LiteralCall book (places_of c.theory) n l (Ok tt) (places_of d.theory)) (place_is c ls all) call in
      let second = subst (λ n. LiteralCall book (places_of d.theory) n m (Err f) (places_of x.theory)) (length_push ls l) h in
      EntryRefused.sent e (l ∷ m ∷ []) f is (RefusedAmong.later (places_of d.theory) first (RefusedAmong.here (places_of x.theory) second))

-- the bounds of a reading as literals
pub states_bounds : (s : SentReading) (b : Bounds) (ms : List Literal) → ReadingChecked s (Ok b) → ms ≡ map bound_literal (bounds_list b) → States (Entry.reading s) ms
states_bounds s b ms taken is = (b, taken, is)

-- an error that comes of `map_err`
pub mapped_err : {X E F : Type 0} (a : Result X E) (m : Result X F) (f : F) (P : E → F → Type 0) (made : E → F) → MatchResult a (λ x. m ≡ Ok x) (λ e. IsErrAnd m (P e)) → ((e : E) (r : F) → P e r → r ≡ made e) → m ≡ Err f → (e : E) × (a ≡ Err e) × (f ≡ made e)
mapped_err (Ok x) m f P made h by is = let no : Ok x ≡ Err f = sym h ∙ is in absurd cc
mapped_err (Err e) m f P made h by is = (e, refl, by e f (subst (λ r. IsErrAnd r (P e)) is h))
