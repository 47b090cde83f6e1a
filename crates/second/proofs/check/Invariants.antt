-- Each record ends after it begins.
use Rattle.std.proofs.Common.{◌-◌, length}
use Rattle.second.proofs.check.Given as goal

abbrev pub decreases-loop-offset : goal.decreases-loop-offset
decreases-loop-offset l = length l.file - l.offset
