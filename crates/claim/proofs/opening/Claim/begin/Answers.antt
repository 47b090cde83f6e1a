use Rattle.std.proofs.Common.{[], length, sym, ap, ◌∙◌, subst}
use Rattle.claim.specs.Histories.{StepsSent}
use Rattle.claim.proofs.Fitness.{sent_level}
use Rattle.claim.proofs.opening.Claim.begin.Goals as goal

pub returns : goal.returns
returns g c =
    record {
      state = c.new.ensures.state;
      counts = c.new.ensures.counts;
      history = λ ls rs taken h.
          record {
            sent = subst (λ st. StepsSent g.T.Theory.rules (g.T.Theory.places c.args.self.theory) (length taken) [] [] st []) (sym c.new.ensures.state) StepsSent.none;
            level = sent_level g.T.Theory.rules ls rs _ taken h.sent;
            counted_literals = ap (λ k. k.literals) c.new.ensures.counts ∙ h.counted_literals;
            counted_steps = ap (λ k. k.steps) c.new.ensures.counts ∙ h.counted_steps;
            counted_splits = ap (λ k. k.splits) c.new.ensures.counts ∙ h.counted_splits;
          };
    }
