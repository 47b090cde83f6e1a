-- Where no address has rules a step is a split, or is refused.
use Rattle.std.proofs.Common.{◌≡◌, ℕ, ◌<◌, ⊎_elim, List, [], ◌∷◌, length, Ok, Err, Option, sym, ap, subst, inl, inr, arith}
use Rattle.facts.specs.declared.fact.Comparison.{Comparison}
use Rattle.facts.specs.declared.name.Name.{Name}
use Rattle.theory.specs.Places.{Places}
use Rattle.theory.specs.Rules.{Full, telling_wanted}
use Rattle.theory.specs.declared.inference.Inference.{Inference}
use Rattle.claim.specs.Calls.{Answer, StepCall, Fit, most_calls}
use Rattle.claim.specs.Derivations.{State, working, branch_from}
use Rattle.claim.specs.Endings.{Ended, unbegun}
use Rattle.claim.specs.Sent.{StandsFor}
use Rattle.claim.specs.declared.counts.Counts.{Counts}
use Rattle.claim.specs.declared.seal.Ending.{Ending}
use Rattle.claim.specs.declared.sent.SentStep.{SentStep}
use Rattle.claim.specs.declared.step.Step.{Step}
use Rattle.claim.specs.declared.step.Branch.{Branch}
use Rattle.claim.specs.declared.step.OpenSplit.{OpenSplit}
use Rattle.claim.proofs.Standing.{one_step}
use Rattle.claim.specs.Counted.{place_of, NothingCounted}
use Rattle.claim.specs.Views.{LiteralTaken}
use Rattle.claim.specs.Derived.{Stepped, state_of}
use Rattle.claim.specs.declared.derivation.Derivation.{Derivation}
use Rattle.claim.specs.declared.opening.Claim.{Claim}
use Rattle.nowhere.specs.Nothing.{no_rules, no_places}
use Rattle.user.specs.Once.{IsSplit, BranchesLeft}

-- a step sent is no inference and a split at once
apart : (s : SentStep) (a : ℕ) (i : Inference) (n m : Name) → StandsFor s (Step.Infer a i) → StandsFor s (Step.Split n m) → ⊥
apart s a i n m h k =
    let same : Step.Infer a i ≡ Step.Split n m = one_step s _ _ h k in
    let z : ◌≡◌ {A = ℕ} 0 1 = cc in
    omega arith

-- the ending after one step from where nothing is open
abbrev pub LeftBy : SentStep → Ending → Type 0
LeftBy s (Ending.Sealed x) = ⊥
LeftBy s (Ending.Open n) = BranchesLeft s n

one_branch : (s : SentStep) (st : State) (ps : Places) (c : Counts) (e : Ending) → (IsSplit s → ⊥) → st ≡ working ps [] → Ended st c e → LeftBy s e
one_branch s st ps c (Ending.Sealed x) other at h = subst (λ y. Ended y c (Ending.Sealed x)) at h
one_branch s st ps c (Ending.Open n) other at h = inr (other, subst (λ y. Ended y c (Ending.Open n)) at h)

three_branches : (s : SentStep) (ps : Places) (n m : Name) (ss : List OpenSplit) (c : Counts) (e : Ending) → IsSplit s → ss ≡ [] → Ended (working ps (record { left = n; right = m; branch = Branch.First } ∷ ss)) c e → LeftBy s e
three_branches s ps n m ss c (Ending.Sealed x) is at h = h
three_branches s ps n m ss c (Ending.Open left) is at h = let none : unbegun ss ≡ 0 = ap unbegun at in inl (is, omega arith)

-- no address keeps what it is told, so no table is full
none_full : (k : Comparison) (ps : Places) → Full ps (telling_wanted no_rules k) → ⊥
none_full k ps (a, p, f, here, wanted, many) = let z : ◌≡◌ {A = ℕ} 0 1 = cc in omega arith

-- a step from where nothing is open, and the end after it
left_by : (s : SentStep) (place : ℕ) (ps : Places) (st after : State) (t : Option Step) (r : Answer) (c : Counts) (e : Ending) → st ≡ working ps [] → place < most_calls → StepCall no_rules place s st r t after → Ended after c e → LeftBy s e
left_by s place ps st after t r c e at few StepCall.over end = let z : ◌≡◌ {A = ℕ} 0 1 = cc in absurd (omega arith)
left_by s place ps st after t r c e at few (StepCall.bad_field b k) end =
    one_branch s st ps c e (λ x. let none = x.2.0 in let z : ◌≡◌ {A = ℕ} 0 1 = cc in omega arith) at end
left_by s place ps st after t r c e at few (StepCall.too_many k l) end = absurd (omega arith)
left_by s place ps st after t r c e at few (StepCall.cannot_infer a i f checked l m) end =
    one_branch s st ps c e (λ x. apart s a i x.0 x.1 checked.1 x.2.1) at end
left_by s place ps st after t r c e at few (StepCall.cannot_tell a i n m checked l same f) end = let z : ◌≡◌ {A = ℕ} 0 1 = cc in absurd (omega arith)
left_by s place ps st after t r c e at few (StepCall.too_deep {ps = qs} {ss = ss} n m checked l d) end =
    let none : ss ≡ [] = cc in
    let short : length ss ≡ 0 = ap length none in
    absurd (omega arith)
left_by s place ps st after t r c e at few (StepCall.cannot_split {ps = qs} {ss = ss} n m checked l d f) end =
    absurd (⊎_elim (none_full (Comparison.Less n m) qs) (⊎_elim (none_full (Comparison.Equal n m) qs) (none_full (Comparison.Greater n m) qs)) f)
left_by s place ps st after t r c e at few (StepCall.inferred a i checked l m) end = absurd m
left_by s place ps st after t r c e at few (StepCall.handed_on a i n m checked l same room) end = let z : ◌≡◌ {A = ℕ} 0 1 = cc in absurd (omega arith)
left_by s place ps st after t r c e at few (StepCall.finished a i checked l same) end = let z : ◌≡◌ {A = ℕ} 0 1 = cc in absurd (omega arith)
left_by s place ps st after t r c e at few (StepCall.split {ps = qs} {ss = ss} n m checked l d less equal greater) end =
    let none : ss ≡ [] = cc in
    three_branches s (branch_from no_rules (Comparison.Less n m) qs) n m ss c e (n, m, checked) none end

-- where nothing stands, every level and limit is kept
fits : (st : State) → st ≡ working no_places [] → Fit no_rules st
fits st at = subst (Fit no_rules) (sym at) ((λ a p here. let z : ◌≡◌ {A = ℕ} 0 1 = cc in absurd (omega arith)), omega arith, tt)

-- calls are left after one literal
few_taken : {T : Type 0} (r : Answer) (before after : Claim T) → NothingCounted before.counts → LiteralTaken r before after → place_of after.counts < most_calls
few_taken (Ok x) before after none h = let l = h.0 in let t = h.1 in let u = none.0 in let v = none.1 in omega arith
few_taken (Err f) before after none h = let l = ap (λ x. place_of x.counts) h in let u = none.0 in let v = none.1 in omega arith

-- a fresh claim, a literal, the begin, a step, and the end
pub ended : {T : Type 0} (places : T → Places) (s : SentStep) (r a : Answer) (fresh claim : Claim T) (begun after : Derivation T) (e : Ending) → NothingCounted fresh.counts → LiteralTaken r fresh claim → begun.counts ≡ claim.counts → state_of places begun ≡ working no_places [] → (Fit no_rules (state_of places begun) → Stepped places no_rules s a begun after) → Ended (state_of places after) after.counts e → LeftBy s e
ended places s r a fresh claim begun after e none taken counts at step end =
    let few = subst (λ x. place_of x < most_calls) (sym counts) (few_taken r fresh claim none taken) in
    left_by s (place_of begun.counts) no_places (state_of places begun) (state_of places after) _ a after.counts e at few (step (fits (state_of places begun) at)).call end
