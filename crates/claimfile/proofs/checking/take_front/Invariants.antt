use Rattle.std.proofs.Common.{◌≡◌, ◌-◌, length}
use Rattle.claimfile.specs.Progress.{Opened}
use Rattle.claimfile.proofs.checking.take_front.Given as goal

abbrev pub invariant-loop-reader : goal.invariant-loop-reader
invariant-loop-reader g l =
    (l.reader.file ≡ l.initial.reader.file)
    × (Opened g.T.Theory.places g.T.Theory.rules l.initial.reader.file.now l.initial.reader.at l.initial.claim → Opened g.T.Theory.places g.T.Theory.rules l.initial.reader.file.now l.reader.at l.claim)

abbrev pub decreases-loop-reader : goal.decreases-loop-reader
decreases-loop-reader g l = length l.reader.file.now - l.reader.at
