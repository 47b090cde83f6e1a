-- Every state that calls lead to has equal levels, and room for the branches that wait.
use Rattle.std.proofs.Common.{◌≡◌, ℕ, suc, ◌+◌, ◌<◌, ◌≤◌, Bool, true, false, cond, eqb, List, [], ◌∷◌, length, Some, None, Ok, Err, Option, Result, sym, refl, ap, subst, arith}
use Rattle.std.specs.Option.{option_map}
use Rattle.facts.specs.declared.fact.Comparison.{Comparison}
use Rattle.facts.specs.declared.fact.Fact.{Fact}
use Rattle.facts.specs.declared.fault.Cause.{Cause}
use Rattle.facts.specs.declared.literal.Literal.{Literal}
use Rattle.theory.specs.Places.{Place, Places, empty, opened, dropped, add, most_facts}
use Rattle.theory.specs.Rules.{Rules, Book, Wanted, telling_wanted, literal_wanted, with_wanted, Room, changed_by}
use Rattle.theory.specs.declared.inference.Outcome.{Outcome}
use Rattle.claim.specs.Calls.{Answer, LiteralCall, StepCall, Levelled, Ready, Fit}
use Rattle.claim.specs.Derivations.{State, working, next, by_branch, in_branch, RoomTold, told, all_dropped, changed_at, branch_from, most_splits}
use Rattle.claim.specs.Histories.{fresh_places, LiteralsSent, StepsSent}
use Rattle.claim.specs.declared.sent.SentStep.{SentStep}
use Rattle.claim.specs.declared.step.Branch.{Branch}
use Rattle.claim.specs.declared.step.OpenSplit.{OpenSplit}
use Rattle.claim.specs.declared.step.Step.{Step}
use Rattle.claim.proofs.Levels.{dropped_changed, dropped_told, dropped_twice}
use Rattle.claim.proofs.Moves.{levelled_dropped}

-- ---- levels

-- at each place of a list of places
abbrev AtLevel : ℕ → Option Place → Type 0
AtLevel n None = Unit {0}
AtLevel n (Some p) = length p.below ≡ n

to_each : (n : ℕ) (ps : Places) → Levelled n ps → (a : ℕ) → AtLevel n (ps a)
to_each n ps h a = at (ps a) refl
  where
    at : (q : Option Place) → ps a ≡ q → AtLevel n q
    at None e = tt
    at (Some p) e = h a p e

from_each : (n : ℕ) (ps : Places) → ((a : ℕ) → AtLevel n (ps a)) → Levelled n ps
from_each n ps h a p stands = subst (AtLevel n) stands (h a)

wanted_level : (n : ℕ) (w : Option Fact) (q : Option Place) → AtLevel n q → AtLevel n (with_wanted w q)
wanted_level n None q h = h
wanted_level n (Some f) None h = tt
wanted_level n (Some f) (Some p) h = h

opened_level : (n : ℕ) (q : Option Place) → AtLevel n q → AtLevel (suc n) (option_map opened q)
opened_level n None h = tt
opened_level n (Some p) h = ap suc h

changed_below : (n : ℕ) (r : Result Outcome Cause) (p : Place) → length p.below ≡ n → length (changed_by r p).below ≡ n
changed_below n (Ok (Outcome.Current f)) p h = h
changed_below n (Ok (Outcome.Pushed f)) p h = h
changed_below n (Ok (Outcome.Equal m k)) p h = h
changed_below n (Ok Outcome.Contradiction) p h = h
changed_below n (Err c) p h = h

levelled_told : (book : Book) (k : Comparison) (n : ℕ) (ps : Places) → Levelled n ps → Levelled n (told book k ps)
levelled_told book k n ps h = from_each n (told book k ps) (λ a. wanted_level n (telling_wanted book k a) (ps a) (to_each n ps h a))

levelled_branch : (book : Book) (k : Comparison) (n : ℕ) (ps : Places) → Levelled n ps → Levelled (suc n) (branch_from book k ps)
levelled_branch book k n ps h =
    from_each (suc n) (branch_from book k ps) (λ a. wanted_level (suc n) (telling_wanted book k a) (option_map opened (ps a)) (opened_level n (ps a) (to_each n ps h a)))

levelled_changed : (a : ℕ) (o : Result Outcome Cause) (n : ℕ) (ps : Places) → Levelled n ps → Levelled n (changed_at a o ps)
levelled_changed a o n ps h = from_each n (changed_at a o ps) (λ b. at (eqb b a) (ps b) (to_each n ps h b))
  where
    at : (t : Bool) (q : Option Place) → AtLevel n q → AtLevel n (cond t (option_map (changed_by o) q) q)
    at true None k = tt
    at true (Some p) k = changed_below n o p k
    at false q k = k

-- ---- room

-- after a branch is dropped there are the facts that were there before
room_after : (book : Book) (k : Comparison) (ps : Places) (w : Wanted) → Room ps w → Room (all_dropped (branch_from book k ps)) w
room_after book k ps w room a p f stands wants = at (telling_wanted book k a) (ps a) refl stands
  where
    at : (x : Option Fact) (q : Option Place) → ps a ≡ q → option_map dropped (with_wanted x (option_map opened q)) ≡ Some p → length p.facts < most_facts
    at None None e h = let z : ◌≡◌ {A = ℕ} 0 1 = cc in absurd (omega arith)
    at None (Some r) e h =
        let same : dropped (opened r) ≡ p = cc in
        subst (λ y. length y.facts < most_facts) same (room a r f e wants)
    at (Some g) None e h = let z : ◌≡◌ {A = ℕ} 0 1 = cc in absurd (omega arith)
    at (Some g) (Some r) e h =
        let same : dropped (add g (opened r)) ≡ p = cc in
        subst (λ y. length y.facts < most_facts) same (room a r f e wants)

branch_ready : (book : Book) (k : Comparison) (s : OpenSplit) (ss : List OpenSplit) (ps : Places) → RoomTold book (Comparison.Equal s.left s.right) ps → RoomTold book (Comparison.Greater s.left s.right) ps → Ready book ss (all_dropped ps) → Ready book (s ∷ ss) (all_dropped (branch_from book k ps))
branch_ready book k s ss ps equal greater ready =
    (room_after book k ps _ equal, room_after book k ps _ greater, subst (Ready book ss) (sym (dropped_twice book k ps)) ready)

-- ---- the next state

-- from the state before the newest split
abbrev Under : List OpenSplit → Places → Type 0
Under [] ps = Unit {0}
Under (s ∷ ss) ps = Levelled (length ss) ps × (length ss < most_splits)

under : (ss : List OpenSplit) (ps : Places) → Levelled (length ss) ps → length ss ≤ most_splits → Under ss (all_dropped ps)
under [] ps level few = tt
under (s ∷ ss) ps level few = (levelled_dropped (length ss) ps level, omega arith)

branch_fit : (book : Book) (k : Comparison) (s : OpenSplit) (b : Branch) (ss : List OpenSplit) (ps : Places) → Under (s ∷ ss) ps → Ready book (s ∷ ss) ps → Fit book (working (branch_from book k ps) (in_branch s b ∷ ss))
branch_fit book k s b ss ps h ready =
    (levelled_branch book k (length ss) ps h.0, (let few = h.1 in omega arith), branch_ready book k (in_branch s b) ss ps ready.0 ready.1 ready.2)

next_by : (book : Book) (s : OpenSplit) (ss : List OpenSplit) (ps : Places) → Under (s ∷ ss) ps → Ready book (s ∷ ss) ps → Fit book (next book ss (all_dropped ps)) → (b : Branch) → Fit book (by_branch b (working (branch_from book (Comparison.Equal s.left s.right) ps) (in_branch s Branch.Second ∷ ss)) (working (branch_from book (Comparison.Greater s.left s.right) ps) (in_branch s Branch.Third ∷ ss)) (next book ss (all_dropped ps)))
next_by book s ss ps h ready outer Branch.First = branch_fit book (Comparison.Equal s.left s.right) s Branch.Second ss ps h ready
next_by book s ss ps h ready outer Branch.Second = branch_fit book (Comparison.Greater s.left s.right) s Branch.Third ss ps h ready
next_by book s ss ps h ready outer Branch.Third = outer

next_fit : (book : Book) (ss : List OpenSplit) (ps : Places) → Under ss ps → Ready book ss ps → Fit book (next book ss ps)
next_fit book [] ps h ready = tt
next_fit book (s ∷ ss) ps h ready =
    next_by book s ss ps h ready (next_fit book ss (all_dropped ps) (under ss ps h.0 (let few = h.1 in omega arith)) ready.2) s.branch

-- a call keeps it
pub call_fit : (book : Book) (p : ℕ) (s : SentStep) (st : State) (a : Answer) (t : Option Step) (after : State) → StepCall book p s st a t after → Fit book st → Fit book after
call_fit book p s st a t after StepCall.over h = h
call_fit book p s st a t after (StepCall.bad_field b k) h = h
call_fit book p s st a t after (StepCall.too_many k l) h = h
call_fit book p s st a t after (StepCall.cannot_infer b i c k l m) h = h
call_fit book p s st a t after (StepCall.cannot_tell b i n m k l e f) h = h
call_fit book p s st a t after (StepCall.too_deep n m k l d) h = h
call_fit book p s st a t after (StepCall.cannot_split n m k l d f) h = h
call_fit book p s st a t after (StepCall.inferred {ps = ps} {ss = ss} b i k l m) h =
    (levelled_changed b _ (length ss) ps h.0, h.1, subst (Ready book ss) (sym (dropped_changed b _ ps)) h.2)
call_fit book p s st a t after (StepCall.handed_on {ps = ps} {ss = ss} b i n m k l e r) h =
    (levelled_told book (Comparison.Equal n m) (length ss) ps h.0, h.1, subst (Ready book ss) (sym (dropped_told book (Comparison.Equal n m) ps)) h.2)
call_fit book p s st a t after (StepCall.finished {ps = ps} {ss = ss} b i k l e) h = next_fit book ss (all_dropped ps) (under ss ps h.0 h.1) h.2
call_fit book p s st a t after (StepCall.split {ps = ps} {ss = ss} n m k l d less equal greater) h =
    (levelled_branch book (Comparison.Less n m) (length ss) ps h.0, omega arith, branch_ready book (Comparison.Less n m) (record { left = n; right = m; branch = Branch.First }) ss ps equal greater h.2)

-- ---- from a fresh claim

fresh_level : (book : Book) → Levelled 0 (fresh_places book)
fresh_level book = from_each 0 (fresh_places book) (λ a. at (book a))
  where
    at : (r : Option Rules) → AtLevel 0 (option_map (λ _. empty) r)
    at None = tt
    at (Some r) = refl

literal_level : (book : Book) (ps : Places) (n : ℕ) (l : Literal) (a : Answer) (after : Places) → LiteralCall book ps n l a after → Levelled 0 ps → Levelled 0 after
literal_level book ps n l a after (LiteralCall.bad_field b k) h = h
literal_level book ps n l a after (LiteralCall.too_many k m) h = h
literal_level book ps n l a after (LiteralCall.not_kept f e k few m) h = h
literal_level book ps n l a after (LiteralCall.taken f now k few m took) h =
    from_each 0 now (λ b. subst (AtLevel 0) (sym (took b)) (wanted_level 0 (literal_wanted book f b) (ps b) (to_each 0 ps h b)))

pub sent_level : (book : Book) (ls : List Literal) (rs : List Answer) (ps : Places) (taken : List Literal) → LiteralsSent book ls rs ps taken → Levelled 0 ps
sent_level book ls rs ps taken LiteralsSent.none = fresh_level book
sent_level book ls rs ps taken (LiteralsSent.more {ps = before} {taken = done} l a after h call) =
    literal_level book before (length done) l a after call (sent_level book _ _ before done h)

pub sent_fit : (book : Book) (ps : Places) (n : ℕ) (ss : List SentStep) (rs : List Answer) (st : State) (taken : List Step) → Levelled 0 ps → StepsSent book ps n ss rs st taken → Fit book st
sent_fit book ps n ss rs st taken level StepsSent.none = (level, omega arith, tt)
sent_fit book ps n ss rs st taken level (StepsSent.more {st = before} {taken = done} s a t after h call) =
    call_fit book (n + length done) s before a t after call (sent_fit book ps n _ _ before done level h)
