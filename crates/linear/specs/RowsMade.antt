-- A row is known by its numbers.
use Rattle.std.specs.Prelude.{◌≡◌, ℕ, List, length, ℤ, Some, None, Option, MatchOption, refl}
use Rattle.std.proofs.Common.{sym, ap, ◌∙◌, arith}
use Rattle.std.proofs.Math.Path.{fun_ext}
use Rattle.std.proofs.Math.Bridge.{le_prop}
use Rattle.std.proofs.Math.Nat.{ℕ_set}
use Rattle.facts.specs.Sizes.{Sized, AllSized, row_limit}
use Rattle.facts.specs.declared.row.Row.{Row}
use Rattle.linear.specs.Rows.{Fits, does_fit, row_with, row_if, row_of}

fits_made : (c : ℤ) (cs : List ℤ) → length cs ≡ 32 → Sized row_limit c → AllSized row_limit cs → Fits c cs
fits_made c cs l s a = record { long = l; sized = s; all_sized = a }

-- the numbers fit in one way
same_fit : (c : ℤ) (cs : List ℤ) (f g : Fits c cs) → f ≡ g
unfolding fits_made
same_fit c cs f g =
    ap (λ l. fits_made c cs l f.sized f.all_sized) (ℕ_set (length cs) 32 f.long g.long)
    ∙ ap (λ s. fits_made c cs g.long s f.all_sized) (le_prop f.sized g.sized)
    ∙ ap (λ a. fits_made c cs g.long g.sized a) (fun_ext (λ k. le_prop (f.all_sized k) (g.all_sized k)))

abbrev row_fits : (r : Row) → Fits r.constant r.coefficients
row_fits r = record { long = r.long; sized = r.sized; all_sized = r.all_sized }

found : (c : ℤ) (cs : List ℤ) (f : Fits c cs) (d : Dec (Fits c cs)) → row_if c cs d ≡ Some (row_with c cs f)
unfolding row_if
found c cs f (yes g) = ap (λ h. Some (row_with c cs h)) (same_fit c cs g f)
found c cs f (no other) = absurd (other f)

-- a row is the one with its numbers
pub row_of_row : (r : Row) → row_of r.constant r.coefficients ≡ Some r
unfolding row_of row_with
row_of_row r = found r.constant r.coefficients (row_fits r) (does_fit r.constant r.coefficients)

pub row_of_some : (c : ℤ) (cs : List ℤ) (r : Row) → r.constant ≡ c → r.coefficients ≡ cs → row_of c cs ≡ Some r
row_of_some c cs r e f =
    ap (λ z. row_of z cs) (sym e) ∙ ap (λ zs. row_of r.constant zs) (sym f) ∙ row_of_row r

missing : (c : ℤ) (cs : List ℤ) (d : Dec (Fits c cs)) → (Fits c cs → ⊥) → row_if c cs d ≡ None
unfolding row_if
missing c cs (yes g) other = absurd (other g)
missing c cs (no g) other = refl

-- there is none if the numbers do not fit
pub row_of_none : (c : ℤ) (cs : List ℤ) → (Sized row_limit c → AllSized row_limit cs → ⊥) → row_of c cs ≡ None
unfolding row_of
row_of_none c cs large = missing c cs (does_fit c cs) (λ f. large f.sized f.all_sized)

made : (c : ℤ) (cs : List ℤ) (d : Dec (Fits c cs)) (r : Row) → row_if c cs d ≡ Some r → (r.constant ≡ c) × (r.coefficients ≡ cs)
unfolding row_if row_with
made c cs (yes g) r e =
    let same : row_with c cs g ≡ r = cc in
    (ap (λ (x : Row). x.constant) (sym same), ap (λ (x : Row). x.coefficients) (sym same))
made c cs (no g) r e = let z : ◌≡◌ {A = ℕ} 0 1 = cc in absurd (omega arith)

-- and one that there is has the numbers
pub row_of_made : (c : ℤ) (cs : List ℤ) (r : Row) → row_of c cs ≡ Some r → (r.constant ≡ c) × (r.coefficients ≡ cs)
unfolding row_of
row_of_made c cs r e = made c cs (does_fit c cs) r e

-- what is made of numbers that are stored is the row with them
pub row_made : (c z : ℤ) (cs zs : List ℤ) (o : Option Row) → MatchOption o (Sized row_limit z → AllSized row_limit zs → ⊥) (λ r. (r.constant ≡ z) × (r.coefficients ≡ zs)) → z ≡ c → zs ≡ cs → o ≡ row_of c cs
row_made c z cs zs None h e f = sym (row_of_none z zs h) ∙ ap (λ x. row_of x zs) e ∙ ap (λ xs. row_of c xs) f
row_made c z cs zs (Some r) h e f = sym (row_of_some c cs r (h.0 ∙ e) (h.1 ∙ f))

-- numbers that fit have a row
pub row_of_with : (c : ℤ) (cs : List ℤ) (f : Fits c cs) → row_of c cs ≡ Some (row_with c cs f)
unfolding row_of
row_of_with c cs f = found c cs f (does_fit c cs)

pub row_fitted : (c z : ℤ) (cs zs : List ℤ) (f : Fits c cs) (o : Option Row) → MatchOption o (Sized row_limit z → AllSized row_limit zs → ⊥) (λ r. (r.constant ≡ z) × (r.coefficients ≡ zs)) → z ≡ c → zs ≡ cs → o ≡ Some (row_with c cs f)
row_fitted c z cs zs f o h e g = row_made c z cs zs o h e g ∙ row_of_with c cs f
