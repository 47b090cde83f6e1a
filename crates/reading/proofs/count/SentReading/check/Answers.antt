use Rattle.std.proofs.Common.{arith, rules}
use Rattle.reading.proofs.Rule.{taken}
use Rattle.reading.proofs.count.SentReading.check.Goals as goal

pub returns : goal.returns
returns c =
    taken c.args.self c.in_ok-name.name c.stated.result (search rules) (omega arith) c.stated.ensures
