-- What the calls of others leave of what a session knows.
use Rattle.std.specs.Prelude.{◌≡◌, ◌≢◌, ℕ, List, ◌++◌, All}
use Rattle.sa_desk.specs.declared.entry.Entry.{Entry}
use Rattle.sa_desk.specs.World.{World}

-- The session's entries, what it has counted, and each desk's terms and shares stay. What it has
-- seen of this desk has grown by entries of others alone.
pub record StaysFor (before later : World) (session desk : ℕ) : Type 0 where
  pub mine : later.mine session ≡ before.mine session
  pub quiet : (at : ℕ) → later.quiet session at ≡ before.quiet session at
  pub terms : (at : ℕ) → later.terms at ≡ before.terms at
  pub shares : (at : ℕ) → later.shares at ≡ before.shares at
  pub more : List Entry
  pub seen : later.seen session desk ≡ before.seen session desk ++ more
  pub of_others : All (λ entry. entry.actor ≢ session) more
