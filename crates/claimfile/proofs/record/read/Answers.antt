use Rattle.std.proofs.Common.{◌≡◌, ◌<◌, ◌≤◌, ◌∷◌, ℕ, suc, List, ◌++◌, length, take, drop, Some, None, Err, sym, ap, ◌∙◌, subst, arith, rules}
use Rattle.std.proofs.lemmas.List.{length-take-le, take-append-drop}
use Rattle.facts.specs.declared.refusal.Refusal.{Refusal}
use Rattle.claimfile.specs.Kinds.{shape_of}
use Rattle.claimfile.specs.Records.{Read, Unread, Formed, record_bytes}
use Rattle.claimfile.proofs.record.read.Goals as goal

-- the first bytes, and the others
first_and_rest : (bytes first : List ℕ) (n : ℕ) → n ≤ length bytes → first ≡ take n bytes → bytes ≡ first ++ drop (length first) bytes
first_and_rest bytes first n fits is =
    sym (take-append-drop n bytes) ∙ ap (λ w. w ++ drop n bytes) (sym is) ∙ ap (λ m. first ++ drop m bytes) (sym (ap length is ∙ length-take-le n bytes fits))

pub returns-in_err-shape : goal.returns-in_err-shape
returns-in_err-shape c =
    let front : c.args.bytes.now ≡ c.in-Some.first.now ∷ c.in-Some.rest.now = search rules in
    let none : shape_of c.in-Some.first.now ≡ None = search rules in
    let told : c.from_residual.result ≡ Err Refusal.UnknownKind = search rules in
    subst (Read c.args.stage c.args.bytes.now) (sym told) (subst (λ b. Unread c.args.stage b Refusal.UnknownKind) (sym front) (Unread.unknown_kind none))

pub returns-in_err-body : goal.returns-in_err-body
returns-in_err-body c =
    let front : c.args.bytes.now ≡ c.in-Some.first.now ∷ c.in-Some.rest.now = search rules in
    let some : shape_of c.in-Some.first.now ≡ Some c.in_ok-shape.shape = search rules in
    let short : length c.in-Some.rest.now < c.in_ok-shape.shape.length = search rules in
    let told : c.from_residual-in_err-body.result ≡ Err Refusal.BodyCutShort = search rules in
    subst (Read c.args.stage c.args.bytes.now) (sym told) (subst (λ b. Unread c.args.stage b Refusal.BodyCutShort) (sym front) (Unread.cut_short _ some short))

pub returns-then-ne : goal.returns-then-ne
returns-then-ne c =
    let front : c.args.bytes.now ≡ c.in-Some.first.now ∷ c.in-Some.rest.now = search rules in
    let some : shape_of c.in-Some.first.now ≡ Some c.in_ok-shape.shape = search rules in
    let long : c.in_ok-shape.shape.length ≤ length c.in-Some.rest.now = search rules in
    subst (λ b. Unread c.args.stage b Refusal.WrongStage) (sym front) (Unread.wrong_stage _ some long (search rules))

pub returns : goal.returns
returns c =
    let front : c.args.bytes.now ≡ c.from-kind.result ∷ c.in-Some.rest.now = search rules in
    let some : shape_of c.from-kind.result ≡ Some c.in_ok-shape.shape = search rules in
    let long : c.in_ok-shape.shape.length ≤ length c.in-Some.rest.now = search rules in
    let part : c.in_ok-body.body.now ≡ take c.in_ok-shape.shape.length c.in-Some.rest.now = search rules in
    let same : c.in_ok-shape.shape.stage ≡ c.args.stage = search rules in
    let made = c.record_of.ensures c.in_ok-shape.shape some (ap length part ∙ length-take-le c.in_ok-shape.shape.length c.in-Some.rest.now long) in (
      subst (λ s. Formed s c.record_of.result) same made.0,
      subst (λ b. b ≡ record_bytes c.record_of.result ++ drop (length (record_bytes c.record_of.result)) b) (sym front) (first_and_rest (c.from-kind.result ∷ c.in-Some.rest.now) (record_bytes c.record_of.result) (suc c.in_ok-shape.shape.length) (omega arith) (made.1 ∙ ap (λ w. c.from-kind.result ∷ w) part)),
    )
