-- The ranges of a step's fields, and the step that good fields stand for.
use Rattle.std.specs.Prelude.{◌≡◌, ℕ, Bool, cond, ◌&&◌, List, [], ◌∷◌, Some, None, Ok, Err, Result, nat_le, unsigned_abs}
use Rattle.facts.specs.declared.fault.BadField.{BadField}
use Rattle.facts.specs.Fields.{Field, field, first_bad, term_fields, sent}
use Rattle.theory.specs.declared.inference.Inference.{Inference}
use Rattle.theory.specs.declared.inference.Position.{Position}
use Rattle.theory.specs.declared.factor.Factor.{Factor}
use Rattle.facts.specs.declared.name.Name.{Name}
use Rattle.facts.specs.declared.term.Term.{Term}
use Rattle.claim.specs.declared.sent.SentStep.{SentStep}
use Rattle.claim.specs.declared.step.Step.{Step}

-- a step's fields: after its kind at byte 0 an address at 1, unless it is a split, and a fact at 2,
-- which may be any byte; then these
abbrev pub step_fields : SentStep → List Field
step_fields (SentStep.Reflexivity a t) = term_fields 2 t
step_fields (SentStep.Transitivity a i turned) = field 3 (nat_le turned 1) ∷ []
step_fields (SentStep.Congruence a i position turned) = field 3 (nat_le 1 position && nat_le position 2) ∷ field 4 (nat_le turned 1) ∷ []
step_fields (SentStep.Clash a i) = []
step_fields (SentStep.Propagate a) = []
step_fields (SentStep.Zero a) = []
step_fields (SentStep.Add a i c) = field 3 (nat_le (unsigned_abs c) 1_000_000) ∷ []
step_fields (SentStep.Antisymmetry a i n m) = field 3 (nat_le n 31) ∷ field 4 (nat_le m 31) ∷ []
step_fields (SentStep.Falsify a) = []
step_fields (SentStep.Strengthen a) = []
step_fields (SentStep.Cut a) = []
step_fields (SentStep.Push a) = []
step_fields (SentStep.Split n m) = field 1 (nat_le n 31) ∷ field 2 (nat_le m 31) ∷ []

abbrev pub step_address : SentStep → ℕ
step_address (SentStep.Reflexivity a t) = a
step_address (SentStep.Transitivity a i turned) = a
step_address (SentStep.Congruence a i position turned) = a
step_address (SentStep.Clash a i) = a
step_address (SentStep.Propagate a) = a
step_address (SentStep.Zero a) = a
step_address (SentStep.Add a i c) = a
step_address (SentStep.Antisymmetry a i n m) = a
step_address (SentStep.Falsify a) = a
step_address (SentStep.Strengthen a) = a
step_address (SentStep.Cut a) = a
step_address (SentStep.Push a) = a
step_address (SentStep.Split n m) = 0

abbrev pub flag_byte : Bool → ℕ
flag_byte b = cond b 1 0

abbrev pub position_byte : Position → ℕ
position_byte Position.First = 1
position_byte Position.Second = 2

-- the step that fields stand for
abbrev pub StandsFor : SentStep → Step → Type 0
StandsFor (SentStep.Reflexivity a t) x = (u : Term) × (x ≡ Step.Infer a (Inference.Reflexivity u)) × (sent u ≡ t)
StandsFor (SentStep.Transitivity a i turned) x = (b : Bool) × (x ≡ Step.Infer a (Inference.Transitivity i b)) × (flag_byte b ≡ turned)
StandsFor (SentStep.Congruence a i position turned) x = (p : Position) × (b : Bool) × (x ≡ Step.Infer a (Inference.Congruence i p b)) × (position_byte p ≡ position) × (flag_byte b ≡ turned)
StandsFor (SentStep.Clash a i) x = x ≡ Step.Infer a (Inference.Clash i)
StandsFor (SentStep.Propagate a) x = x ≡ Step.Infer a Inference.Propagate
StandsFor (SentStep.Zero a) x = x ≡ Step.Infer a Inference.Zero
StandsFor (SentStep.Add a i c) x = (f : Factor) × (x ≡ Step.Infer a (Inference.Add i f)) × (f.value ≡ c)
StandsFor (SentStep.Antisymmetry a i first second) x = (n : Name) × (m : Name) × (x ≡ Step.Infer a (Inference.Antisymmetry i n m)) × (n.index ≡ first) × (m.index ≡ second)
StandsFor (SentStep.Falsify a) x = x ≡ Step.Infer a Inference.Falsify
StandsFor (SentStep.Strengthen a) x = x ≡ Step.Infer a Inference.Strengthen
StandsFor (SentStep.Cut a) x = x ≡ Step.Infer a Inference.Cut
StandsFor (SentStep.Push a) x = x ≡ Step.Infer a Inference.Push
StandsFor (SentStep.Split first second) x = (n : Name) × (m : Name) × (x ≡ Step.Split n m) × (n.index ≡ first) × (m.index ≡ second)

abbrev pub StepChecked : SentStep → Result Step BadField → Type 0
StepChecked s (Ok t) = (first_bad (step_fields s) ≡ None) × StandsFor s t
StepChecked s (Err bad) = first_bad (step_fields s) ≡ Some bad.byte
