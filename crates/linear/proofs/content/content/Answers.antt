use Rattle.std.proofs.Common.{subst, rules}
use Rattle.std.proofs.lemmas.Fn.{fold_over, fronts, slice_gives}
use Rattle.linear.specs.Content.{Content}
use Rattle.linear.specs.Contents.{content_nothing, content_append}
use Rattle.linear.proofs.content.content.Goals as goal

pub returns : goal.returns
returns c =
    subst (λ zs. Content zs c.fold.result) c.iter.ensures.rest
    (fold_over fronts (λ y. y.now) _ Content _ (λ ys a x b f' before called. search (rules, content_append)) c.iter.result _ 0 _ (slice_gives c.iter.result) content_nothing c.fold.ensures.ran)
