-- Records at the front of some bytes.
use Rattle.std.proofs.Common.{◌≡◌, ℕ, ◌+◌, ◌*◌, ◌/◌, ◌%◌, ◌<◌, ◌≤◌, List, [], ◌∷◌, ◌++◌, length, get_or, drop, min, append-nil, Option, None, Some, Ok, Err, sym, ap, ◌∙◌, subst, append_assoc, arith}
use Rattle.std.proofs.lemmas.List.{drop_all, length-append, nil_from_length}
use Rattle.std.specs.Option.{option_to_list}
use Rattle.facts.specs.Faults.{because}
use Rattle.facts.specs.declared.fault.Cause.{Cause}
use Rattle.facts.specs.declared.fault.RecordFault.{RecordFault}
use Rattle.facts.specs.declared.refusal.Refusal.{Refusal}
use Rattle.reading.specs.Converter.{ReadingChecked}
use Rattle.reading.specs.Bounds.{bounds_list}
use Rattle.reading.specs.Lists.{Refused, kind, short, fields, Printed, end, next, stop, Report, too_long, read, record_bytes, reading_kind, reading_line, total_line, fault_at, fault_line, longest_input}
use Rattle.reading.specs.declared.bound.Bound.{Bound}
use Rattle.reading.specs.declared.bound.Bounds.{Bounds}
use Rattle.reading.specs.declared.count.SentReading.{SentReading}

pub unknown_kind : (bytes : List ℕ) (c : Cause) → 0 < length bytes → (get_or bytes 0 0 ≡ reading_kind → ⊥) → c ≡ because Refusal.UnknownKind → Refused bytes c
unknown_kind [] c some other e = absurd (omega arith)
unknown_kind (k ∷ rest) c some other e = subst (Refused (k ∷ rest)) (sym e) (kind other)

pub cut_short : (bytes : List ℕ) (c : Cause) → 0 < length bytes → get_or bytes 0 0 ≡ reading_kind → length bytes < 4 → c ≡ because Refusal.BodyCutShort → Refused bytes c
cut_short [] c some same few e = absurd (omega arith)
cut_short (k ∷ rest) c some same few e =
    subst (λ b. Refused (b ∷ rest) c) (sym same) (subst (Refused (reading_kind ∷ rest)) (sym e) (short (omega arith)))

-- four bytes are a record
pub four_bytes : (bytes : List ℕ) (s : SentReading) → 4 ≤ length bytes → get_or bytes 0 0 ≡ reading_kind → s.name ≡ get_or bytes 1 0 → s.count ≡ get_or bytes 2 0 + get_or bytes 3 0 * 256 → get_or bytes 2 0 < 256 → bytes ≡ record_bytes s ++ drop 4 bytes
four_bytes [] s long same named counted small = absurd (omega arith)
four_bytes (a ∷ []) s long same named counted small = absurd (omega arith)
four_bytes (a ∷ b ∷ []) s long same named counted small = absurd (omega arith)
four_bytes (a ∷ b ∷ c ∷ []) s long same named counted small = absurd (omega arith)
four_bytes (a ∷ b ∷ c ∷ d ∷ rest) s long same named counted small =
    let low : c ≡ s.count % 256 = omega arith in
    let high : d ≡ s.count / 256 = omega arith in
    cc

pub bad_fields : (bytes : List ℕ) (s : SentReading) (c : Cause) → bytes ≡ record_bytes s ++ drop 4 bytes → ReadingChecked s (Err c) → Refused bytes c
bad_fields bytes s c e h = subst (λ bs. Refused bs c) (sym e) (fields s h)

-- what was printed of the first k records goes before what is printed of the rest
abbrev pub Going : List ℕ → List ℕ → ℕ → ℕ → List ℕ → Type 0
Going input rest k l out = (text : List ℕ) → Printed (4 * k) k l rest text → Printed 0 0 0 input (out ++ text)

pub report_long : (input out text : List ℕ) (c : Cause) (f : RecordFault) → longest_input < length input → out ≡ [] → c ≡ because Refusal.InputTooLong → f ≡ fault_at c 0 0 → text ≡ out ++ fault_line f → Report input text
report_long input out text c f long none cause fault printed =
    let is : text ≡ fault_line (fault_at (because Refusal.InputTooLong) 0 0) = printed ∙ ap (λ o. o ++ fault_line f) none ∙ ap fault_line (fault ∙ ap (λ x. fault_at x 0 0) cause) in
    subst (Report input) (sym is) (too_long long)

-- a refused piece begins the bytes that it was cut from, and one cut short is all of them
refused_front : (piece left : List ℕ) (c : Cause) → (length piece < 4 → left ≡ []) → Refused piece c → Refused (piece ++ left) c
refused_front _ left _ all (kind other) = kind other
refused_front _ left c all (short {body} few) =
    subst (λ bs. Refused (reading_kind ∷ (body ++ bs)) (because Refusal.BodyCutShort)) (sym (all (omega arith))) (subst (λ bs. Refused (reading_kind ∷ bs) (because Refusal.BodyCutShort)) (sym (append-nil body)) (short few))
refused_front _ left c all (fields s h) = fields s h

module _ (input rest : List ℕ) (k l : ℕ) (out : List ℕ) (going : Going input rest k l out) (piece left : List ℕ) (cut : rest ≡ piece ++ left) (size : length piece ≡ min 4 (length rest)) where
  lengths : length rest ≡ length piece + length left
  lengths = ap length cut ∙ length-append piece left

  pub stopped : (text : List ℕ) (c : Cause) (f : RecordFault) → length input ≤ longest_input → Refused piece c → f ≡ fault_at c l (4 * k) → text ≡ out ++ fault_line f → Report input text
  stopped text c f few bad fault printed =
      let is : text ≡ out ++ fault_line (fault_at c l (4 * k)) = printed ∙ ap (λ x. out ++ fault_line x) fault in
      let front : Refused rest c = subst (λ bs. Refused bs c) (sym cut) (refused_front piece left c (λ few. nil_from_length left (let sum = lengths in omega arith)) bad) in
      subst (Report input) (sym is) (read few (going (fault_line (fault_at c l (4 * k))) (stop front)))

  module _ (s : SentReading) (front : piece ≡ record_bytes s ++ drop 4 piece) where
    -- a record that is taken is four bytes
    pub whole : length rest ≡ 4 + length left
    whole =
        let long : length piece ≡ 4 + length (drop 4 piece) = ap length front ∙ length-append (record_bytes s) (drop 4 piece) in
        let sum = lengths in
        omega arith

    pub one_more : (out' : List ℕ) (b : Bounds) (n : ℕ) → ReadingChecked s (Ok b) → n ≡ length (bounds_list b) → out' ≡ out ++ reading_line s b → Going input left (k + 1) (l + n) out'
    one_more out' b n taken counted printed text more =
        let none : drop 4 piece ≡ [] = drop_all 4 piece (let sum = lengths in let all = whole in omega arith) in
        let is : record_bytes s ++ left ≡ rest = ap (λ bs. bs ++ left) (sym (front ∙ ap (λ bs. record_bytes s ++ bs) none)) ∙ sym cut in
        let further : 4 * (k + 1) ≡ 4 * k + 4 = omega arith in
        let after : Printed (4 * k + 4) (k + 1) (l + length (bounds_list b)) left text = subst (λ o. Printed o (k + 1) (l + length (bounds_list b)) left text) further (subst (λ m. Printed (4 * (k + 1)) (k + 1) (l + m) left text) counted more) in
        let all : Printed 0 0 0 input (out ++ (reading_line s b ++ text)) = going (reading_line s b ++ text) (subst (λ bs. Printed (4 * k) k l bs (reading_line s b ++ text)) is (next s b taken after)) in
        subst (Printed 0 0 0 input) (sym (append_assoc out (reading_line s b) text) ∙ ap (λ bs. bs ++ text) (sym printed)) all

pub finished : (input rest : List ℕ) (k l r : ℕ) (out text : List ℕ) → Going input rest k l out → length input ≤ longest_input → length rest ≡ 0 → r ≡ k → text ≡ out ++ total_line r l → Report input text
finished input rest k l r out text going few past all printed =
    let is : text ≡ out ++ total_line k l = printed ∙ ap (λ n. out ++ total_line n l) all in
    subst (Report input) (sym is) (read few (going (total_line k l) (subst (λ bs. Printed (4 * k) k l bs (total_line k l)) (sym (nil_from_length rest past)) end)))

few_upper : (u : Option Bound) → length (option_to_list u) ≤ 1
few_upper None = omega arith
few_upper (Some b) = omega arith

pub few_bounds : (b : Bounds) (k : ℕ) → k ≡ length (bounds_list b) → k ≤ 2
few_bounds b k e = let few = few_upper b.upper in omega arith
