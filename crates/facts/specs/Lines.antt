-- The line that a refused record is printed as.
use Rattle.std.specs.Prelude.{ℕ, List, ◌++◌, codes, decimal}
use Rattle.facts.specs.Refusals.{refusal_number}
use Rattle.facts.specs.declared.fault.RecordFault.{RecordFault}

abbrev pub refused_line : RecordFault → List ℕ
refused_line x =
    codes "REFUSED "
    ++ (decimal (refusal_number x.call.cause.refusal)
    ++ (codes " offset "
    ++ (decimal x.offset
    ++ (codes " place "
    ++ (decimal x.call.place
    ++ (codes " depth "
    ++ (decimal x.call.depth
    ++ (codes " side "
    ++ (decimal x.call.address
    ++ (codes " theory "
    ++ (decimal x.call.cause.theory
    ++ (codes " detail " ++ decimal x.call.cause.detail))))))))))))
