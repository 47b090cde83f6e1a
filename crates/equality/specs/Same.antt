-- Names with one index are one, and terms that are sent as the same bytes.
use Rattle.std.specs.Prelude.{◌≡◌, Decides}
use Rattle.std.proofs.Common.{ap, arith}
use Rattle.std.proofs.lemmas.Bool.Decides.{Decides-eqb, Decides-like, Decides-and}
use Rattle.facts.specs.Fields.{sent}
use Rattle.facts.specs.declared.literal.SentTerm.{SentTerm}
use Rattle.facts.specs.declared.name.Name.{Name}
use Rattle.facts.specs.declared.term.Term.{Term}
use Rattle.facts.proofs.Indices.{same_name as name_from_index, same_symbol as symbol_from_index}
use Rattle.equality.specs.Terms.{same_name, same_bytes, same_term}

pub name_decided : (n m : Name) → Decides (same_name n m) (n ≡ m)
name_decided n m =
    Decides-like _ (name_from_index n m) (ap (λ (k : Name). k.index)) (Decides-eqb n.index m.index)

-- the tags, the letters, the first and the second names
abbrev SameBytes : SentTerm → SentTerm → Type 0
SameBytes s t = (((s.tag ≡ t.tag) × (s.letter ≡ t.letter)) × (s.first ≡ t.first)) × (s.second ≡ t.second)

from_bytes : (t u : Term) → SameBytes (sent t) (sent u) → t ≡ u
from_bytes (Term.Bare n) (Term.Bare m) (((tag, letter), first), second) = ap Term.Bare (name_from_index n m first)
from_bytes (Term.Bare n) (Term.Unary s m) (((tag, letter), first), second) = absurd (omega arith)
from_bytes (Term.Bare n) (Term.Binary s m k) (((tag, letter), first), second) = absurd (omega arith)
from_bytes (Term.Unary s n) (Term.Bare m) (((tag, letter), first), second) = absurd (omega arith)
from_bytes (Term.Unary s n) (Term.Unary r m) (((tag, letter), first), second) =
    let a : s ≡ r = symbol_from_index s r letter in
    let b : n ≡ m = name_from_index n m first in
    cc
from_bytes (Term.Unary s n) (Term.Binary r m k) (((tag, letter), first), second) = absurd (omega arith)
from_bytes (Term.Binary s n k) (Term.Bare m) (((tag, letter), first), second) = absurd (omega arith)
from_bytes (Term.Binary s n k) (Term.Unary r m) (((tag, letter), first), second) = absurd (omega arith)
from_bytes (Term.Binary s n k) (Term.Binary r m j) (((tag, letter), first), second) =
    let a : s ≡ r = symbol_from_index s r letter in
    let b : n ≡ m = name_from_index n m first in
    let c : k ≡ j = name_from_index k j second in
    cc

to_bytes : (t u : Term) → t ≡ u → SameBytes (sent t) (sent u)
to_bytes t u e = (
  ((ap (λ x. (sent x).tag) e, ap (λ x. (sent x).letter) e), ap (λ x. (sent x).first) e),
  ap (λ x. (sent x).second) e,
)

bytes_decided : (s t : SentTerm) → Decides (same_bytes s t) (SameBytes s t)
bytes_decided s t =
    Decides-and _ _
    (Decides-and _ _
    (Decides-and _ _ (Decides-eqb s.tag t.tag) (Decides-eqb s.letter t.letter))
    (Decides-eqb s.first t.first))
    (Decides-eqb s.second t.second)

pub term_decided : (t u : Term) → Decides (same_term t u) (t ≡ u)
term_decided t u = Decides-like _ (from_bytes t u) (to_bytes t u) (bytes_decided (sent t) (sent u))
