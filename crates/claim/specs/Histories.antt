-- Any list of calls on one claim, each acting on what the earlier ones left, and what is promised of it.
use Rattle.std.specs.Prelude.{◌≡◌, ℕ, ◌+◌, ◌≤◌, List, [], ◌∷◌, ◌++◌, length, Some, None, Ok, Err, Option}
use Rattle.std.specs.Option.{option_map}
use Rattle.facts.specs.Literals.{LiteralTrue}
use Rattle.facts.specs.Valuations.{Valuation}
use Rattle.facts.specs.declared.literal.Literal.{Literal}
use Rattle.theory.specs.Places.{Places, empty}
use Rattle.theory.specs.Rules.{Book}
use Rattle.claim.specs.Calls.{Answer, LiteralCall, StepCall, most_calls}
use Rattle.claim.specs.Derivations.{Derives, State, closed, working}
use Rattle.claim.specs.Sent.{StepChecked}
use Rattle.claim.specs.declared.sent.SentStep.{SentStep}
use Rattle.claim.specs.declared.step.Step.{Step}

-- what a claim opens on
abbrev pub fresh_places : Book → Places
fresh_places book a = option_map (λ _. empty) (book a)

-- what was taken
abbrev pub if_taken : {X : Type 0} → Answer → X → List X
if_taken (Ok x) l = l ∷ []
if_taken (Err f) l = []

abbrev pub listed : {X : Type 0} → Option X → List X
listed None = []
listed (Some x) = x ∷ []

-- literals sent to a fresh claim: their answers, what stands then, and the literals taken
pub data LiteralsSent (book : Book) : List Literal → List Answer → Places → List Literal → Type 0 where
  none : LiteralsSent book [] [] (fresh_places book) []
  more : {ls : List Literal} {rs : List Answer} {ps : Places} {taken : List Literal} (l : Literal) (a : Answer) (after : Places) → LiteralsSent book ls rs ps taken → LiteralCall book ps (length taken) l a after → LiteralsSent book (ls ++ (l ∷ [])) (rs ++ (a ∷ [])) after (taken ++ if_taken a l)

-- steps sent after the begin, where so many literals were taken: their answers, the state then, and
-- the steps taken
pub data StepsSent (book : Book) (ps : Places) (literals : ℕ) : List SentStep → List Answer → State → List Step → Type 0 where
  none : StepsSent book ps literals [] [] (working ps []) []
  more : {ss : List SentStep} {rs : List Answer} {st : State} {taken : List Step} (s : SentStep) (a : Answer) (t : Option Step) (after : State) → StepsSent book ps literals ss rs st taken → StepCall book (literals + length taken) s st a t after → StepsSent book ps literals (ss ++ (s ∷ [])) (rs ++ (a ∷ [])) after (taken ++ listed t)

abbrev pub AllLiteralsTrue : Valuation → List Literal → Type 0
AllLiteralsTrue v [] = Unit {0}
AllLiteralsTrue v (l ∷ ls) = LiteralTrue v l × AllLiteralsTrue v ls

-- The promise. Of every list of calls, refused ones among them:
pub record Promise (admits : Valuation → Type 0) (book : Book) (ps : Places) (literals : List Literal) (st : State) (steps : List Step) : Type 0 where
  -- no false seal: a claim that is closed has no admitted valuation that makes its literals true
  pub no_false_seal : st ≡ closed → (v : Valuation) → admits v → AllLiteralsTrue v literals → ⊥
  -- no due seal missed: after exactly the steps before it in the writing of a derivation within the
  -- limits, a step of that writing is not refused
  pub no_due_missed : (w : List Step) → Derives book 0 ps w → length literals + length w ≤ most_calls → (t : Step) (rest : List Step) → w ≡ steps ++ (t ∷ rest) → (s : SentStep) → StepChecked s (Ok t) → (a : Answer) (x : Option Step) (after : State) → StepCall book (length literals + length steps) s st a x after → a ≡ Ok tt
  -- exactly so: it is closed exactly if the steps taken are the whole writing of a derivation
  pub closed_by : st ≡ closed → Derives book 0 ps steps
  pub closes : Derives book 0 ps steps → st ≡ closed

-- how many of the steps are splits
abbrev pub splits_in : List Step → ℕ
splits_in [] = 0
splits_in (Step.Infer a i ∷ w) = splits_in w
splits_in (Step.Split n m ∷ w) = splits_in w + 1

-- the promise after each of the calls
abbrev pub Throughout : (admits : Valuation → Type 0) (book : Book) (ps : Places) (literals : List Literal) (ss : List SentStep) (rs : List Answer) (st : State) (steps : List Step) → StepsSent book ps (length literals) ss rs st steps → Type 0
Throughout admits book ps literals ss rs st steps StepsSent.none = Promise admits book ps literals (working ps []) []
Throughout admits book ps literals ss rs st steps (StepsSent.more {ss = before} {rs = answers} {st = was} {taken = done} s a t after h call) = Throughout admits book ps literals before answers was done h × Promise admits book ps literals after (done ++ listed t)
