-- Why a call is refused, where no more is known than the refusal, or the field.
use Rattle.std.specs.Prelude.{ℕ}
use Rattle.facts.specs.declared.fault.CallFault.{CallFault}
use Rattle.facts.specs.declared.fault.Cause.{Cause}
use Rattle.facts.specs.declared.refusal.Refusal.{Refusal}

-- the detail and the theory's number are 0
abbrev pub because : Refusal → Cause
because r = record { refusal = r; detail = 0; theory = 0 }

-- by the theory with a number
abbrev pub cause_by : ℕ → Cause → Cause
cause_by number c = record { refusal = c.refusal; detail = c.detail; theory = number }

-- the detail is the field's first byte in its record
abbrev pub out_of_range : ℕ → Cause
out_of_range byte = record { refusal = Refusal.FieldOutOfRange; detail = byte; theory = 0 }

-- a refused call that was sent to no address
abbrev pub no_address : Cause → ℕ → ℕ → CallFault
no_address c place depth = record { cause = c; address = 0; place = place; depth = depth }
