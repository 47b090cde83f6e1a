use Rattle.std.proofs.Common.{rules}
use Rattle.theory.proofs.Pairs.{literal_left, literal_right, literal_other, literal_none}
use Rattle.theory.proofs.pair.literal_refusal.Goals as goal

pub returns-then-eq : goal.returns-then-eq
returns-then-eq c ps qs w x h k = literal_left ps qs w x _ (search rules) h

pub returns-then-is_some : goal.returns-then-is_some
returns-then-is_some c ps qs w x h k = literal_other ps qs w x _ (λ full. search rules) (search rules) h _ k

pub returns-then-eq-2 : goal.returns-then-eq-2
returns-then-eq-2 c ps qs w x h k = literal_right ps qs w x _ (search rules) k

pub returns-else-eq-2 : goal.returns-else-eq-2
returns-else-eq-2 c ps qs w x h k = literal_none ps qs w x _ (search rules) h _ (λ full. search rules) k
