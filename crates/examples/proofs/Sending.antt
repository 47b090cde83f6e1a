-- Calls that are taken, one after the other.
use Rattle.std.proofs.Common.{◌≡◌, ℕ, ◌+◌, ◌<◌, ◌≤◌, Bool, true, false, cond, eqb, List, [], ◌∷◌, ◌++◌, length, Some, None, Ok, Err, Option, Result, sym, refl, subst, arith, length-append}
use Rattle.std.specs.Option.{option_map}
use Rattle.facts.proofs.Truth.{equal_checked, distinct_checked, linear_checked}
use Rattle.facts.specs.Fields.{first_bad, term_fields, row_fields, sent, Sums}
use Rattle.facts.specs.Literals.{LiteralChecked}
use Rattle.facts.specs.declared.fact.Comparison.{Comparison}
use Rattle.facts.specs.declared.fact.Fact.{Fact}
use Rattle.facts.specs.declared.fact.Relation.{Relation}
use Rattle.facts.specs.declared.fault.Cause.{Cause}
use Rattle.facts.specs.declared.literal.Literal.{Literal}
use Rattle.facts.specs.declared.literal.SentRow.{SentRow}
use Rattle.facts.specs.declared.name.Name.{Name}
use Rattle.facts.specs.declared.row.Row.{Row}
use Rattle.facts.specs.declared.term.Term.{Term}
use Rattle.theory.specs.Places.{Place, Places, empty, add}
use Rattle.theory.specs.Rules.{Rules, Book, Wanted, WantedSomewhere, Room, LiteralAnswer, literal_wanted, telling_wanted, with_wanted, outcome_at, changed, changed_by}
use Rattle.theory.specs.declared.inference.Inference.{Inference}
use Rattle.theory.specs.declared.inference.Outcome.{Outcome}
use Rattle.claim.specs.Calls.{Answer, LiteralCall, StepCall, most_calls}
use Rattle.claim.specs.Derivations.{closed, working, LeavesFact, changed_at, told}
use Rattle.claim.specs.Histories.{LiteralsSent, StepsSent, fresh_places}
use Rattle.claim.specs.Sent.{StepChecked}
use Rattle.claim.specs.declared.sent.SentStep.{SentStep}
use Rattle.claim.specs.declared.step.Step.{Step}

-- ---- how many facts stand at an address

-- a place, if there is one, has at most n facts
abbrev Few : ℕ → Option Place → Type 0
Few n None = Unit {0}
Few n (Some p) = length p.facts ≤ n

abbrev pub AtMost : ℕ → Places → Type 0
AtMost n ps = (a : ℕ) → Few n (ps a)

pub fresh_few : (book : Book) → AtMost 0 (fresh_places book)
fresh_few book a = at (book a)
  where
    at : (r : Option Rules) → Few 0 (option_map (λ _. empty) r)
    at None = tt
    at (Some r) = omega arith

add_few : (n : ℕ) (f : Fact) (p : Place) → length p.facts ≤ n → length (add f p).facts ≤ n + 1
add_few n f p h = omega (arith, length-append p.facts (f ∷ []))

wanted_few : (n : ℕ) (w : Option Fact) (q : Option Place) → Few n q → Few (n + 1) (with_wanted w q)
wanted_few n None None h = tt
wanted_few n None (Some p) h = omega arith
wanted_few n (Some f) None h = tt
wanted_few n (Some f) (Some p) h = add_few n f p h

changed_few : (n : ℕ) (o : Outcome) (p : Place) → length p.facts ≤ n → length (changed o p).facts ≤ n + 1
changed_few n (Outcome.Current f) p h = omega arith
changed_few n (Outcome.Pushed f) p h = add_few n f p h
changed_few n (Outcome.Equal x y) p h = omega arith
changed_few n Outcome.Contradiction p h = omega arith

changed_by_few : (n : ℕ) (r : Result Outcome Cause) (p : Place) → length p.facts ≤ n → length (changed_by r p).facts ≤ n + 1
changed_by_few n (Ok o) p h = changed_few n o p h
changed_by_few n (Err c) p h = omega arith

changed_at_few : (n : ℕ) (a : ℕ) (r : Result Outcome Cause) (ps : Places) → AtMost n ps → AtMost (n + 1) (changed_at a r ps)
changed_at_few n a r ps h b = at (eqb b a) (ps b) (h b)
  where
    at : (t : Bool) (q : Option Place) → Few n q → Few (n + 1) (cond t (option_map (changed_by r) q) q)
    at true None k = tt
    at true (Some p) k = changed_by_few n r p k
    at false None k = tt
    at false (Some p) k = omega arith

has_room : (n : ℕ) (ps : Places) (w : Wanted) → AtMost n ps → n < 64 → Room ps w
has_room n ps w h few a p f e _ = let fits : Few n (Some p) = subst (Few n) e (h a) in omega arith

-- ---- literals

-- what stands after a literal was taken
abbrev pub after : Book → Fact → Places → Places
after book f ps a = with_wanted (literal_wanted book f a) (ps a)

-- literals that were all taken; at most n facts stand at an address
pub record Begun (book : Book) (n : ℕ) (ls : List Literal) (rs : List Answer) (ps : Places) : Type 0 where
  pub sent : LiteralsSent book ls rs ps ls
  pub few : AtMost n ps

pub begin : (book : Book) → Begun book 0 [] [] (fresh_places book)
begin book = record { sent = LiteralsSent.none; few = fresh_few book }

pub and_literal : {book : Book} {n : ℕ} {ls : List Literal} {rs : List Answer} {ps : Places} → Begun book n ls rs ps → (l : Literal) (f : Fact) → LiteralChecked l (Ok f) → WantedSomewhere (literal_wanted book f) → n < 64 → length ls < most_calls → Begun book (n + 1) (ls ++ (l ∷ [])) (rs ++ (Ok tt ∷ [])) (after book f ps)
and_literal {book} {n} {ls} {rs} {ps} b l f checked somewhere few early =
    record {
      sent = LiteralsSent.more l (Ok tt) (after book f ps) b.sent (LiteralCall.taken f (after book f ps) checked early (LiteralAnswer.taken somewhere (has_room n ps (literal_wanted book f) b.few few)) (λ a. refl));
      few = λ a. wanted_few n (literal_wanted book f a) (ps a) (b.few a);
    }

-- literals of two terms
module _ {book : Book} {n : ℕ} {ls : List Literal} {rs : List Answer} {ps : Places} (b : Begun book n ls rs ps) (t u : Term) (good : first_bad (term_fields 1 (sent t) ++ term_fields 5 (sent u)) ≡ None) where
  pub and_equal : WantedSomewhere (literal_wanted book (Fact.Equal t u)) → n < 64 → length ls < most_calls → Begun book (n + 1) (ls ++ (Literal.Equal (sent t) (sent u) ∷ [])) (rs ++ (Ok tt ∷ [])) (after book (Fact.Equal t u) ps)
  and_equal = and_literal b (Literal.Equal (sent t) (sent u)) (Fact.Equal t u) (equal_checked (Literal.Equal (sent t) (sent u)) (sent t) (sent u) t u refl (good, refl, refl))

  pub and_distinct : WantedSomewhere (literal_wanted book (Fact.Distinct t u)) → n < 64 → length ls < most_calls → Begun book (n + 1) (ls ++ (Literal.Distinct (sent t) (sent u) ∷ [])) (rs ++ (Ok tt ∷ [])) (after book (Fact.Distinct t u) ps)
  and_distinct = and_literal b (Literal.Distinct (sent t) (sent u)) (Fact.Distinct t u) (distinct_checked (Literal.Distinct (sent t) (sent u)) (sent t) (sent u) t u refl (good, refl, refl))

-- a literal of a row
pub and_linear : {book : Book} {n : ℕ} {ls : List Literal} {rs : List Answer} {ps : Places} → Begun book n ls rs ps → (how : Relation) (s : SentRow) (r : Row) → first_bad (row_fields s) ≡ None → Sums s r → WantedSomewhere (literal_wanted book (Fact.Linear how r)) → n < 64 → length ls < most_calls → Begun book (n + 1) (ls ++ (Literal.Linear how s ∷ [])) (rs ++ (Ok tt ∷ [])) (after book (Fact.Linear how r) ps)
and_linear b how s r good same = and_literal b (Literal.Linear how s) (Fact.Linear how r) (linear_checked (Literal.Linear how s) how s r refl (good, same))

-- ---- steps, outside any split

pub record Going (book : Book) (ps : Places) (literals n : ℕ) (ss : List SentStep) (rs : List Answer) (qs : Places) (taken : List Step) : Type 0 where
  pub sent : StepsSent book ps literals ss rs (working qs []) taken
  pub few : AtMost n qs

pub go : {book : Book} {n : ℕ} {ls : List Literal} {rs : List Answer} {ps : Places} → Begun book n ls rs ps → Going book ps (length ls) n [] [] ps []
go b = record { sent = StepsSent.none; few = b.few }

module _ {book : Book} {ps : Places} {literals n : ℕ} {ss : List SentStep} {rs : List Answer} {qs : Places} {taken : List Step} (g : Going book ps literals n ss rs qs taken) (early : literals + length taken < most_calls) (s : SentStep) (a : ℕ) (i : Inference) (checked : StepChecked s (Ok (Step.Infer a i))) where
  -- an inference that leaves a fact
  pub and_fact : (r : Result Outcome Cause) → outcome_at book qs a i ≡ r → LeavesFact r → Going book ps literals (n + 1) (ss ++ (s ∷ [])) (rs ++ (Ok tt ∷ [])) (changed_at a r qs) (taken ++ (Step.Infer a i ∷ []))
  and_fact r e leaves =
      record {
        sent = StepsSent.more s (Ok tt) (Some (Step.Infer a i)) (working (changed_at a r qs) []) g.sent (
            subst (λ x. StepCall book (literals + length taken) s (working qs []) (Ok tt) (Some (Step.Infer a i)) (working (changed_at a x qs) [])) e
            (StepCall.inferred a i checked early (subst LeavesFact (sym e) leaves))
            );
        few = changed_at_few n a r qs g.few;
      }

  -- one that hands on an equality
  pub and_equality : (x y : Name) → outcome_at book qs a i ≡ Ok (Outcome.Equal x y) → n < 64 → Going book ps literals (n + 1) (ss ++ (s ∷ [])) (rs ++ (Ok tt ∷ [])) (told book (Comparison.Equal x y) qs) (taken ++ (Step.Infer a i ∷ []))
  and_equality x y e few =
      record {
        sent = StepsSent.more s (Ok tt) (Some (Step.Infer a i)) (working (told book (Comparison.Equal x y) qs) []) g.sent (StepCall.handed_on a i x y checked early e (has_room n qs (telling_wanted book (Comparison.Equal x y)) g.few few));
        few = λ b. wanted_few n (telling_wanted book (Comparison.Equal x y) b) (qs b) (g.few b);
      }

  -- and the last one, a contradiction
  pub and_closed : outcome_at book qs a i ≡ Ok Outcome.Contradiction → StepsSent book ps literals (ss ++ (s ∷ [])) (rs ++ (Ok tt ∷ [])) closed (taken ++ (Step.Infer a i ∷ []))
  and_closed e = StepsSent.more s (Ok tt) (Some (Step.Infer a i)) closed g.sent (StepCall.finished a i checked early e)
