use Rattle.std.proofs.Common.{get_or, rules}
use Rattle.std.proofs.lemmas.Result.{err_from_is_err_and}
use Rattle.reading.specs.declared.count.SentReading.{SentReading}
use Rattle.reading.proofs.Lists.{unknown_kind, cut_short, bad_fields, four_bytes}
use Rattle.reading.proofs.list.read_record.Goals as goal

pub returns-then-from-ne75 : goal.returns-then-from-ne75
returns-then-from-ne75 c =
    unknown_kind c.args.bytes.now _ c.requires (search rules) c.into.ensures

pub returns-in_default : goal.returns-in_default
returns-in_default c =
    cut_short c.args.bytes.now _ c.requires (search rules) c.in_default.len_below c.into-in_default.ensures

pub returns-in_err-bounds : goal.returns-in_err-bounds
returns-in_err-bounds c =
    let p = err_from_is_err_and c.from_residual.result c.from_residual.ensures.1 in
    let s : SentReading = record { name = get_or c.args.bytes.now 1 0; count = c.from_le_bytes.result } in
    rw (p.1, p.2) (bad_fields c.args.bytes.now s _ (four_bytes c.args.bytes.now s (search rules) (search rules) (search rules) (search rules) (search rules)) c.in_err-bounds.ensures)
