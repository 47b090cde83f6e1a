-- The run over equality.
use Rattle.std.proofs.Common.{ℕ, true, false, T, ltb, Ok, refl, lit<}
use Rattle.facts.specs.declared.fact.Fact.{Fact}
use Rattle.facts.specs.declared.symbol.Symbol.{Symbol}
use Rattle.facts.specs.declared.term.Term.{Term}
use Rattle.theory.specs.declared.inference.Inference.{Inference}
use Rattle.theory.specs.declared.inference.Outcome.{Outcome}
use Rattle.theory.specs.declared.inference.Position.{Position}
use Rattle.claim.specs.declared.sent.SentStep.{SentStep}
use Rattle.examples.specs.Examples.{Example, Holds, both, congruent, by_congruence}
use Rattle.examples.specs.Values.{name, bare}
use Rattle.examples.proofs.Following.{sealed_so}
use Rattle.examples.proofs.Sending.{begin, and_equal, and_distinct, go, and_fact, and_closed}
use Rattle.examples.proofs.Sound.{both_sound}

abbrev n : (i : ℕ) → T (ltb i 32) → Term
n i h = Term.Bare (name i h)

abbrev a : Symbol
a = record { index = 0; lettered = lit< tt }

abbrev a_at : (i : ℕ) → T (ltb i 32) → Term
a_at i h = Term.Unary a (name i h)

pub equality_run : Holds (Example.sealed both congruent by_congruence 4 5 0)
equality_run =
    let l0 = begin both in
    let l1 = and_equal l0 (a_at 0 tt) (n 2 tt) refl (0, _, refl) (lit< tt) (lit< tt) in
    let l2 = and_equal l1 (a_at 1 tt) (n 3 tt) refl (0, _, refl) (lit< tt) (lit< tt) in
    let l3 = and_equal l2 (n 0 tt) (n 1 tt) refl (0, _, refl) (lit< tt) (lit< tt) in
    let l4 = and_distinct l3 (n 2 tt) (n 3 tt) refl (0, _, refl) (lit< tt) (lit< tt) in
    let s1 = and_fact (go l4) (lit< tt) (SentStep.Reflexivity 0 (bare 2)) 0 (Inference.Reflexivity (n 2 tt)) (refl, (n 2 tt, refl, refl)) (Ok (Outcome.Current (Fact.Equal (n 2 tt) (n 2 tt)))) refl tt in
    let s2 = and_fact s1 (lit< tt) (SentStep.Transitivity 0 0 1) 0 (Inference.Transitivity 0 true) (refl, (true, refl, refl)) (Ok (Outcome.Current (Fact.Equal (n 2 tt) (a_at 0 tt)))) refl tt in
    let s3 = and_fact s2 (lit< tt) (SentStep.Congruence 0 2 1 0) 0 (Inference.Congruence 2 Position.First false) (refl, (Position.First, false, refl, refl, refl)) (Ok (Outcome.Current (Fact.Equal (n 2 tt) (a_at 1 tt)))) refl tt in
    let s4 = and_fact s3 (lit< tt) (SentStep.Transitivity 0 1 0) 0 (Inference.Transitivity 1 false) (refl, (false, refl, refl)) (Ok (Outcome.Current (Fact.Equal (n 2 tt) (n 3 tt)))) refl tt in
    let s5 = and_closed s4 (lit< tt) (SentStep.Clash 0 3) 0 (Inference.Clash 3) (refl, refl) refl in
    sealed_so both both_sound congruent _ l4.sent by_congruence _ s5
