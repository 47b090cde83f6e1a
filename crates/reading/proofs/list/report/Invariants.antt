use Rattle.std.proofs.Common.{◌≡◌, ◌+◌, ◌*◌, ◌≤◌, length, string_bytes}
use Rattle.std.specs.Iterator.Adapters.{enumerate_count, enumerate_source}
use Rattle.std.specs.Slice.Iter.{chunks_rest, chunks_size}
use Rattle.reading.proofs.Lists.{Going}
use Rattle.reading.proofs.list.report.Given as goal

abbrev pub invariant-loop-i : goal.invariant-loop-i
invariant-loop-i l =
    record {
      size : chunks_size (enumerate_source l.i-iterator) ≡ 4;
      cut : 4 * enumerate_count l.i-iterator + length (chunks_rest (enumerate_source l.i-iterator)) ≡ length l.input;
      few : l.literals ≤ 2 * enumerate_count l.i-iterator;
      going : Going l.input (chunks_rest (enumerate_source l.i-iterator)) (enumerate_count l.i-iterator) l.literals (string_bytes l.out);
    }
