-- What dropping a level leaves of the changes in it: nothing.
use Rattle.std.proofs.Common.{◌≡◌, ℕ, Bool, true, false, cond, eqb, Some, None, Ok, Err, Option, Result, refl, ap}
use mathlib.Core.Path.{fun_ext}
use Rattle.std.specs.Option.{option_map}
use Rattle.facts.specs.declared.fact.Comparison.{Comparison}
use Rattle.facts.specs.declared.fact.Fact.{Fact}
use Rattle.facts.specs.declared.fault.Cause.{Cause}
use Rattle.theory.specs.Places.{Place, Places, opened, dropped}
use Rattle.theory.specs.Rules.{Book, telling_wanted, with_wanted, changed_by}
use Rattle.theory.specs.declared.inference.Outcome.{Outcome}
use Rattle.claim.specs.Derivations.{told, all_opened, all_dropped, changed_at, branch_from}

changed_below : (r : Result Outcome Cause) (p : Place) → dropped (changed_by r p) ≡ dropped p
changed_below (Ok (Outcome.Current f)) p = refl
changed_below (Ok (Outcome.Pushed f)) p = refl
changed_below (Ok (Outcome.Equal n m)) p = refl
changed_below (Ok Outcome.Contradiction) p = refl
changed_below (Err c) p = refl

pub dropped_changed : (a : ℕ) (o : Result Outcome Cause) (ps : Places) → all_dropped (changed_at a o ps) ≡ all_dropped ps
dropped_changed a o ps = fun_ext (λ b. at (eqb b a) (ps b))
  where
    at : (t : Bool) (q : Option Place) → option_map dropped (cond t (option_map (changed_by o) q) q) ≡ option_map dropped q
    at true None = refl
    at true (Some p) = ap Some (changed_below o p)
    at false q = refl

pub dropped_told : (book : Book) (k : Comparison) (ps : Places) → all_dropped (told book k ps) ≡ all_dropped ps
dropped_told book k ps = fun_ext (λ a. at (telling_wanted book k a) (ps a))
  where
    at : (w : Option Fact) (q : Option Place) → option_map dropped (with_wanted w q) ≡ option_map dropped q
    at None q = refl
    at (Some f) None = refl
    at (Some f) (Some p) = refl

-- a level that is opened again, after a branch was dropped
pub opened_again : (book : Book) (k : Comparison) (ps : Places) → all_opened (all_dropped (branch_from book k ps)) ≡ all_opened ps
opened_again book k ps = fun_ext (λ a. at (telling_wanted book k a) (ps a))
  where
    at : (w : Option Fact) (q : Option Place) → option_map opened (option_map dropped (with_wanted w (option_map opened q))) ≡ option_map opened q
    at None None = refl
    at None (Some p) = refl
    at (Some f) None = refl
    at (Some f) (Some p) = refl

pub dropped_twice : (book : Book) (k : Comparison) (ps : Places) → all_dropped (all_dropped (branch_from book k ps)) ≡ all_dropped ps
dropped_twice book k ps = fun_ext (λ a. at (telling_wanted book k a) (ps a))
  where
    at : (w : Option Fact) (q : Option Place) → option_map dropped (option_map dropped (with_wanted w (option_map opened q))) ≡ option_map dropped q
    at None None = refl
    at None (Some p) = refl
    at (Some f) None = refl
    at (Some f) (Some p) = refl
