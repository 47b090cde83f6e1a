-- What a program has read and written, where its input and its output are known.
use Rattle.std.specs.Prelude.{◌≡◌, ℕ, List, take, Option, Result, Ok, IfSome, string_bytes}
use Rattle.std.specs.Fn.{Once, FnOnceReturns}
use Rattle.std.specs.Io.KnownBytes.{Appends}
use Rattle.std.specs.declared.alloc.AllocError.{AllocError}
use Rattle.std.specs.declared.string.String.{String}
use denote.Ref.{Bor}

-- the text that was made of so much of the input was written
pub record Converted {F H : Type 0} (g : Once F (H × (Bor (List ℕ) × Unit {0})) (Result (String H) AllocError)) (make : F) (heap : H) (most : ℕ) (input before after : Option (List ℕ)) : Type 0 where
  pub bytes : Bor (List ℕ)
  pub text : String H
  pub read : IfSome input (λ xs. bytes.now ≡ take most xs)
  pub made : FnOnceReturns g make (heap, (bytes, tt)) (Ok text)
  pub written : Appends before after (string_bytes text)
