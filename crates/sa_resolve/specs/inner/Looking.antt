-- What the code keeps of an expression that it has looked at.
use Rattle.std.specs.Prelude.{◌≡◌, ℕ, List, ◌++◌, map}
use Rattle.sa_query.specs.declared.group.Aggregate.{Aggregate}
use Rattle.sa_query.specs.declared.group.Column.{Column}
use Rattle.sa_resolve.specs.declared.facts.Facts.{Facts}
use Rattle.sa_resolve.specs.declared.look.Looked.{Looked}
use Rattle.sa_resolve.specs.declared.mentions.Loose.{Loose}
use Rattle.sa_resolve.specs.declared.mentions.Mentions.{Mentions}
use Rattle.sa_resolve.specs.Reading.{Reading}
use Rattle.sa_resolve.specs.inner.Gist.{gist_at, gist_of}

abbrev pub loose_at : List Loose → List (ℕ × Column)
loose_at columns = map (λ (one : Loose). (one.place, one.column)) columns

-- The code has seen this expression: it knows what it is, and what it mentions stands last.
pub record HasLooked (before after : Mentions) (facts : Facts) (one : Reading) : Type 0 where
  pub gist : gist_at facts ≡ gist_of one
  pub loose : loose_at after.loose.items ≡ loose_at before.loose.items ++ one.loose
  pub aggregates : after.aggregates.items ≡ before.aggregates.items ++ one.aggregates
  pub literals : after.literals.items ≡ before.literals.items ++ one.literals

-- This is kept of a whole expression.
pub record IsLooked (looked : Looked) (one : Reading) : Type 0 where
  pub gist : gist_at looked.facts ≡ gist_of one
  pub loose : loose_at looked.loose.items ≡ one.loose
  pub literals : looked.literals.items ≡ one.literals

-- The same, and its aggregates stand last among all.
pub record LooksUp (before after : List Aggregate) (looked : Looked) (one : Reading) : Type 0 where
  pub looked_is : IsLooked looked one
  pub aggregates : after ≡ before ++ one.aggregates
