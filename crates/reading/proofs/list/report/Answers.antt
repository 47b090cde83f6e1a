use Rattle.std.proofs.Common.{◌≡◌, ◌*◌, ◌/◌, ◌≤◌, length, ap, ◌∙◌, arith, rules}
use Rattle.std.specs.Iterator.Adapters.{enumerate_count}
use Rattle.reading.proofs.Lists.{report_long, stopped, finished, whole, one_more, few_bounds}
use Rattle.reading.specs.Lists.{fault_at}
use Rattle.reading.proofs.list.report.Goals as goal

pub returns-then-input-gt-LONGEST_INPUT : goal.returns-then-input-gt-LONGEST_INPUT
returns-then-input-gt-LONGEST_INPUT c =
    report_long c.args.input.now _ _ _ _ (search rules) c.new-out.ensures.bytes c.into.ensures c.fault_at-fault.ensures c.in_ok-writeln.ensures.bytes

pub returns-in-Err : goal.returns-in-Err
returns-in-Err c =
    let l = c.loop-i.invariant in
    let steps = c.in-Some.ensures.steps in
    let at = c.fault_at-fault-in-Err.ensures ∙ ap (λ i. fault_at c.in-Err.cause c.loop-i.literals (4 * i)) steps.1 in
    stopped _ _ _ _ _ l.going _ _ steps.0.1.0 (rw l.size at steps.0.1.1) _ c.in-Err.cause _ (omega arith) c.in-Err.ensures at c.in_ok-writeln-in-Err.ensures.bytes

pub loop-i-preserved : goal.loop-i-preserved
loop-i-preserved c =
    let l = c.loop-i.invariant in
    let steps = c.in-Some.ensures.steps in
    let r = c.in-Ok.ensures in
    let size = rw l.size at steps.0.1.1 in
    let all = whole _ _ _ _ _ l.going _ _ steps.0.1.0 size c.in-Ok.reading.sent r.0 in
    let few : c.count.result ≤ 2 = few_bounds c.in-Ok.reading.bounds c.count.result c.count.ensures in
    let next = one_more _ _ _ _ _ l.going _ _ steps.0.1.0 size c.in-Ok.reading.sent r.0 _ c.in-Ok.reading.bounds _ r.1 c.count.ensures c.in_ok-writeln-in-Ok.ensures.bytes in
    record {
      size = steps.0.0 ∙ l.size;
      cut = omega arith;
      few = omega arith;
      going = rw steps.2 next;
    }

pub returns : goal.returns
returns c =
    let l = c.loop-i.invariant in
    let none = c.in-None.ensures.steps.0.1.0 in
    let all : length c.args.input.now / 4 ≡ enumerate_count c.loop-i.i-iterator = omega (arith, l.cut, none) in
    finished _ _ _ _ _ _ _ l.going (omega arith) none all c.in_ok-writeln-2.ensures.bytes
