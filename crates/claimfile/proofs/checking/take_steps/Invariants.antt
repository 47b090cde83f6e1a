use Rattle.std.proofs.Common.{◌≡◌, ◌-◌, List, length}
use Rattle.facts.specs.declared.literal.Literal.{Literal}
use Rattle.theory.specs.Places.{Places}
use Rattle.claimfile.specs.Progress.{Running}
use Rattle.claimfile.proofs.checking.take_steps.Given as goal

abbrev pub invariant-loop-record : goal.invariant-loop-record
invariant-loop-record g l =
    (l.reader.file ≡ l.initial.reader.file)
    × ((ps : Places) (ls : List Literal) → Running g.T.Theory.places g.T.Theory.rules l.initial.reader.file.now ps ls l.initial.reader.at l.initial.reader.at l.initial.derivation → Running g.T.Theory.places g.T.Theory.rules l.initial.reader.file.now ps ls l.initial.reader.at l.reader.at l.derivation)

abbrev pub decreases-loop-record : goal.decreases-loop-record
decreases-loop-record g l = length l.reader.file.now - l.reader.at
