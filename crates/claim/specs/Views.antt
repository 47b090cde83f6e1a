-- What a claim and a derivation stand for.
use Rattle.std.specs.Prelude.{◌≡◌, Ok, Err}
use Rattle.claim.specs.Calls.{Answer}
use Rattle.claim.specs.Counted.{LiteralCounted}
use Rattle.claim.specs.declared.opening.Claim.{Claim}

-- a literal counts where it is taken, and a refusal leaves all as it was
abbrev pub LiteralTaken : {T : Type 0} → Answer → Claim T → Claim T → Type 0
LiteralTaken (Ok x) before after = LiteralCounted before.counts after.counts
LiteralTaken (Err e) before after = after ≡ before
