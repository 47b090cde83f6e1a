-- Laws of whole numbers: products over sums, sums over an index.
use Rattle.std.proofs.Common.{◌≡◌, ℕ, zero, suc, ◌*◌, ◌<◌, ℤ, pos, ◌+ℤ◌, ◌-ℤ◌, ◌*ℤ◌, neg_ℤ, nat_abs, ◌≤ℤ◌, sym, refl, ap, ◌∙◌, ⊎_elim, arith}
use borrow.Author.Differences.{abs_is}
use lib.IntN.{ℤ_ind, +ℤ_idl, +ℤ_idr, +ℤ_one, -ℤ_one, suc_ℤ-*ℤ, pred_ℤ-*ℤ, zero-*ℤ, *ℤ-zero, *ℤ_comm}
use Rattle.std.proofs.lemmas.Int.{ints}
use Rattle.std.proofs.lemmas.Bool.Decides.{eqb_tells}
use Rattle.facts.specs.Valuations.{sum_below}

plus_one_times : (a c : ℤ) → (a +ℤ pos 1) *ℤ c ≡ (a *ℤ c) +ℤ c
plus_one_times a c = ap (λ x. x *ℤ c) (+ℤ_one a) ∙ suc_ℤ-*ℤ a c

minus_one_times : (a c : ℤ) → (a +ℤ neg_ℤ (pos 1)) *ℤ c ≡ (a *ℤ c) -ℤ c
minus_one_times a c = ap (λ x. x *ℤ c) (-ℤ_one a) ∙ pred_ℤ-*ℤ a c

pub add_times : (a b c : ℤ) → (a +ℤ b) *ℤ c ≡ (a *ℤ c) +ℤ (b *ℤ c)
add_times a b c =
    ℤ_ind (λ x. (x +ℤ b) *ℤ c ≡ (x *ℤ c) +ℤ (b *ℤ c))
    (ap (λ x. x *ℤ c) (+ℤ_idl b) ∙ sym (+ℤ_idl (b *ℤ c)) ∙ ap (λ x. x +ℤ (b *ℤ c)) (sym (zero-*ℤ c)))
    (λ n h.
    let moved : (pos n +ℤ pos 1) +ℤ b ≡ (pos n +ℤ b) +ℤ pos 1 = omega (arith, ints) in
    ap (λ x. x *ℤ c) moved ∙ plus_one_times (pos n +ℤ b) c ∙ ap (λ x. x +ℤ c) h ∙ omega (arith, ints) ∙ ap (λ x. x +ℤ (b *ℤ c)) (sym (plus_one_times (pos n) c)))
    (λ n h.
    let moved : (neg_ℤ (pos n) +ℤ neg_ℤ (pos 1)) +ℤ b ≡ (neg_ℤ (pos n) +ℤ b) +ℤ neg_ℤ (pos 1) = omega (arith, ints) in
    ap (λ x. x *ℤ c) moved ∙ minus_one_times (neg_ℤ (pos n) +ℤ b) c ∙ ap (λ x. x -ℤ c) h ∙ omega (arith, ints) ∙ ap (λ x. x +ℤ (b *ℤ c)) (sym (minus_one_times (neg_ℤ (pos n)) c)))
    a

pub times_add : (a b c : ℤ) → a *ℤ (b +ℤ c) ≡ (a *ℤ b) +ℤ (a *ℤ c)
times_add a b c =
    *ℤ_comm a (b +ℤ c) ∙ add_times b c a ∙ ap (λ x. x +ℤ (c *ℤ a)) (*ℤ_comm b a) ∙ ap (λ x. (a *ℤ b) +ℤ x) (*ℤ_comm c a)

pub minus_times : (a b c : ℤ) → (a -ℤ b) *ℤ c ≡ (a *ℤ c) -ℤ (b *ℤ c)
minus_times a b c =
    let whole : ((a -ℤ b) +ℤ b) *ℤ c ≡ ((a -ℤ b) *ℤ c) +ℤ (b *ℤ c) = add_times (a -ℤ b) b c in
    let back : (a -ℤ b) +ℤ b ≡ a = omega (arith, ints) in
    let both : a *ℤ c ≡ ((a -ℤ b) *ℤ c) +ℤ (b *ℤ c) = ap (λ x. x *ℤ c) (sym back) ∙ whole in
    omega (arith, ints)

pub times_assoc : (a b c : ℤ) → (a *ℤ b) *ℤ c ≡ a *ℤ (b *ℤ c)
times_assoc a b c =
    ℤ_ind (λ x. (x *ℤ b) *ℤ c ≡ x *ℤ (b *ℤ c))
    (ap (λ x. x *ℤ c) (zero-*ℤ b) ∙ zero-*ℤ c ∙ sym (zero-*ℤ (b *ℤ c)))
    (λ n h.
    ap (λ x. x *ℤ c) (plus_one_times (pos n) b) ∙ add_times (pos n *ℤ b) b c ∙ ap (λ x. x +ℤ (b *ℤ c)) h ∙ sym (plus_one_times (pos n) (b *ℤ c)))
    (λ n h.
    let step : ((neg_ℤ (pos n) *ℤ b) -ℤ b) *ℤ c ≡ ((neg_ℤ (pos n) *ℤ b) *ℤ c) -ℤ (b *ℤ c) = minus_times (neg_ℤ (pos n) *ℤ b) b c in
    ap (λ x. x *ℤ c) (minus_one_times (neg_ℤ (pos n)) b) ∙ step ∙ ap (λ x. x -ℤ (b *ℤ c)) h ∙ sym (minus_one_times (neg_ℤ (pos n)) (b *ℤ c)))
    a

-- ---- sums over an index

pub sum_same : (n : ℕ) (f g : ℕ → ℤ) → ((k : ℕ) → k < n → f k ≡ g k) → sum_below n f ≡ sum_below n g
unfolding sum_below
sum_same zero f g h = refl
sum_same (suc n) f g h =
    ap (λ x. x +ℤ f n) (sum_same n f g (λ k below. h k (omega arith))) ∙ ap (λ x. sum_below n g +ℤ x) (h n (omega arith))

pub sum_zero : (n : ℕ) (f : ℕ → ℤ) → ((k : ℕ) → k < n → f k ≡ pos 0) → sum_below n f ≡ pos 0
unfolding sum_below
sum_zero zero f h = refl
sum_zero (suc n) f h =
    ap (λ x. x +ℤ f n) (sum_zero n f (λ k below. h k (omega arith))) ∙ +ℤ_idl (f n) ∙ h n (omega arith)

pub sum_add : (n : ℕ) (f g : ℕ → ℤ) → sum_below n (λ k. f k +ℤ g k) ≡ sum_below n f +ℤ sum_below n g
unfolding sum_below
sum_add zero f g = refl
sum_add (suc n) f g = ap (λ x. x +ℤ (f n +ℤ g n)) (sum_add n f g) ∙ omega (arith, ints)

pub sum_times : (n : ℕ) (c : ℤ) (f : ℕ → ℤ) → sum_below n (λ k. c *ℤ f k) ≡ c *ℤ sum_below n f
unfolding sum_below
sum_times zero c f = sym (*ℤ-zero c)
sum_times (suc n) c f = ap (λ x. x +ℤ (c *ℤ f n)) (sum_times n c f) ∙ sym (times_add c (sum_below n f) (f n))

-- a sum of which one part alone is not 0
pub sum_one : (n m : ℕ) (f : ℕ → ℤ) → m < n → ((k : ℕ) → (k ≡ m → ⊥) → f k ≡ pos 0) → sum_below n f ≡ f m
unfolding sum_below
sum_one zero m f below h = absurd (omega arith)
sum_one (suc n) m f below h =
    ⊎_elim
    (λ e.
    ap (λ x. x +ℤ f n) (sum_zero n f (λ k less. h k (λ same. omega (arith, e.1)))) ∙ +ℤ_idl (f n) ∙ ap f e.1)
    (λ e.
    ap (λ x. sum_below n f +ℤ x) (h n e.1) ∙ +ℤ_idr (sum_below n f) ∙ sum_one n m f (omega (arith, e.1)) h)
    (eqb_tells n m)

pub one_times : (a : ℤ) → pos 1 *ℤ a ≡ a
one_times a = plus_one_times (pos 0) a ∙ ap (λ x. x +ℤ a) (zero-*ℤ a) ∙ +ℤ_idl a

pub neg_times : (a c : ℤ) → neg_ℤ a *ℤ c ≡ neg_ℤ (a *ℤ c)
neg_times a c =
    ap (λ x. x *ℤ c) (sym (+ℤ_idl (neg_ℤ a))) ∙ minus_times (pos 0) a c ∙ ap (λ x. x -ℤ (a *ℤ c)) (zero-*ℤ c) ∙ +ℤ_idl (neg_ℤ (a *ℤ c))

-- a product with a number that is not negative keeps the order
pub times_mono : (q : ℕ) (u w : ℤ) → u ≤ℤ w → (u *ℤ pos q) ≤ℤ (w *ℤ pos q)
times_mono q u w h =
    let d : ℕ = nat_abs (w -ℤ u) in
    let split : w ≡ u +ℤ pos (nat_abs (w -ℤ u)) = omega (arith, ints, abs_is (w -ℤ u)) in
    let whole : w *ℤ pos q ≡ (u *ℤ pos q) +ℤ pos (nat_abs (w -ℤ u) * q) = ap (λ x. x *ℤ pos q) split ∙ add_times u (pos (nat_abs (w -ℤ u))) (pos q) in
    omega (arith, ints)
