-- What is tested of rows is what the rules ask.
use Rattle.std.proofs.Common.{◌≡◌, Bool, true, false, not, List, get_or, ℤ, pos, ◌*ℤ◌, ◌≤ℤ◌, Decides, sym, refl, ap, ◌∙◌, subst}
use Rattle.std.proofs.lemmas.Bool.Decides.{Decides-like, Decides-not}
use Rattle.facts.specs.declared.fact.Relation.{Relation}
use Rattle.facts.specs.declared.row.Row.{Row}
use Rattle.facts.specs.declared.name.Name.{Name}
use Rattle.facts.specs.Valuations.{Compares}
use Rattle.linear.specs.Cut.{Nameless}
use Rattle.linear.specs.Deciding.{holds}
use Rattle.linear.specs.Forms.{Difference, Contradicts, difference_at}
use Rattle.linear.specs.Rows.{coefficient, listed, get_or-listed}
use Rattle.linear.specs.Listed.{listed_is}

-- a decision is the answer of a test
pub holds_is : {P : Type 0} (d : Dec P) (b : Bool) → Decides b P → b ≡ holds d
unfolding holds
holds_is (yes p) b h = h.1 p
holds_is (no other) true h = absurd (other (h.0 refl))
holds_is (no other) false h = refl

pub holds_so : {P : Type 0} (d : Dec P) → P → true ≡ holds d
unfolding holds
holds_so (yes p) h = refl
holds_so (no other) h = absurd (other h)

pub holds_not : {P : Type 0} (d : Dec P) → (P → ⊥) → false ≡ holds d
unfolding holds
holds_not (yes p) h = absurd (h p)
holds_not (no other) h = refl

-- what is tested of a row, with the numbers that it lends
pub difference_tested : (r : Row) (n m : Name) (b : Bool) (size : ℤ) (zs multiples : List ℤ) → size ≡ coefficient r n.index → zs ≡ r.coefficients → multiples ≡ listed (λ k. size *ℤ difference_at n m k) → r.constant ≡ pos 0 → pos 1 ≤ℤ size → Decides b (zs ≡ multiples) → Decides b (Difference r n m)
difference_tested r n m b size zs multiples e f g constant positive h = (
  λ t. record {
    constant = constant;
    positive = subst (λ z. pos 1 ≤ℤ z) e positive;
    each = λ k below.
        ap (λ xs. get_or xs k (pos 0)) (sym f ∙ h.0 t ∙ g)
        ∙ get_or-listed (λ j. size *ℤ difference_at n m j) k below
        ∙ ap (λ z. z *ℤ difference_at n m k) e;
  },
  λ d. h.1 (f ∙ listed_is _ r.coefficients r.long (λ k below. d.each k below ∙ ap (λ z. z *ℤ difference_at n m k) (sym e)) ∙ sym g),
)

-- the row has no names: the constant, as it is passed, decides
pub contradiction_tested : (how : Relation) (r : Row) (z : ℤ) (b : Bool) → Nameless r → z ≡ r.constant → Decides b (Compares how z) → Decides (not b) (Contradicts how r)
contradiction_tested how r z b none e h =
    let own : Decides b (Compares how r.constant) = subst (λ x. Decides b (Compares how x)) e h in
    Decides-like (not b) (λ fails. record { nameless = none; fails = fails }) (λ c. c.fails) (Decides-not b own)
