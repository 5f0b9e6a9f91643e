-- Reading an input to its end or to a limit, and writing a text or a part of it.
use Rattle.std.specs.Prelude.{◌≡◌, ◌⊎◌, ◌<◌, ◌≤◌, ℕ, List, length, take, Option}
use Rattle.sa_source.specs.Source.{Takes, IsAtEnd}
use Rattle.sa_source.specs.Sink.{Appends}

-- The bytes were read from before to after: all that there were, or the first of them up to the limit.
pub record ReadsUpTo (limit : ℕ) (before after : Option (List ℕ)) (bytes : List ℕ) : Type 0 where
  pub taken : Takes before after bytes
  pub few : length bytes ≤ limit
  pub whole : IsAtEnd after ⊎ (length bytes ≡ limit)

-- Only the beginning of the text was written, less than the whole.
pub record WritesPart (before after : Option (List ℕ)) (text : List ℕ) : Type 0 where
  pub count : ℕ
  pub proper : count < length text
  pub written : Appends before after (take count text)
