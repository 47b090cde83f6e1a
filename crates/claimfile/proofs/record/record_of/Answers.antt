use Rattle.std.proofs.Common.{rules}
use Rattle.std.proofs.lemmas.List.{nil_from_length}
use Rattle.claimfile.proofs.record.record_of.Goals as goal

pub returns-in-B : goal.returns-in-B
returns-in-B c s known long = search (rules, nil_from_length)
