-- What is kept of a whole expression.
use Rattle.std.proofs.Common.{◌≡◌, List, [], ◌++◌, ap, ◌∙◌}
use Rattle.sa_query.specs.declared.group.Aggregate.{Aggregate}
use Rattle.sa_resolve.specs.declared.look.Looked.{Looked}
use Rattle.sa_resolve.specs.declared.mentions.Mentions.{Mentions}
use Rattle.sa_resolve.specs.Reading.{Reading}
use Rattle.sa_resolve.specs.inner.Looking.{HasLooked, LooksUp, loose_at}

module _ (start found : Mentions) (looked : Looked) (one : Reading)
    (seen : HasLooked start found looked.facts one)
    (no_loose : start.loose.items ≡ []) (no_aggregates : start.aggregates.items ≡ [])
    (no_literals : start.literals.items ≡ [])
    (same_loose : looked.loose.items ≡ found.loose.items)
    (same_literals : looked.literals.items ≡ found.literals.items) where
  -- Its aggregates are put behind those that stand there.
  pub whole : (before after : List Aggregate) → after ≡ before ++ found.aggregates.items
      → LooksUp before after looked one
  whole before after more = record {
    looked_is = record {
      gist = seen.gist;
      loose = ap loose_at same_loose ∙ seen.loose ∙ ap (λ loose. loose_at loose ++ one.loose) no_loose;
      literals = same_literals ∙ seen.literals ∙ ap (λ literals. literals ++ one.literals) no_literals;
    };
    aggregates = more ∙ ap (λ all. before ++ all) (seen.aggregates
        ∙ ap (λ aggregates. aggregates ++ one.aggregates) no_aggregates);
  }
