-- New desks.
use Rattle.std.specs.Prelude.{◌≡◌, ℕ, ◌+◌, ◌<◌, ◌≤◌, List, [], length, slice_index_or, replicate, None, All}
use Rattle.sa_desk.specs.Contents.{Contents, IsSound}

-- At most 16 sessions have a share, of at most 65,536 entries each. A turn has 1 to 64 steps, and a
-- request lasts a turn at least.
pub record MayMake (quantum turns : ℕ) (shares : List ℕ) : Type 0 where
  pub sessions : length shares ≤ 16
  pub small : All (λ share. share ≤ 65536) shares
  pub least : 1 ≤ quantum
  pub most : quantum ≤ 64
  pub lasts : 1 ≤ turns

-- Nothing stands in its journal, and nobody has counted anything.
abbrev pub new_desk : (number quantum turns : ℕ) → List ℕ → Contents
new_desk number quantum turns shares = record {
  terms = record { desk = number; quantum = quantum; turns = turns };
  shares = shares;
  journal = [];
  published = 0;
  polls = replicate (length shares) 0;
  waits = replicate (length shares) None;
}

-- The desk with this number is new, with the terms and the shares that it has.
abbrev pub IsNew : ℕ → Contents → Type 0
IsNew number desk = desk ≡ new_desk number desk.terms.quantum desk.terms.turns desk.shares

-- what stands for a desk that isn't there
abbrev pub no_desk : Contents
no_desk = new_desk 0 1 1 []

-- New desks, numbered 1, 2 and so on, with a share for each of their sessions.
pub record AreNew (desks : List Contents) : Type 0 where
  pub few : length desks ≤ 16
  pub sound : (index : ℕ) → index < length desks → IsSound (slice_index_or desks index no_desk)
  pub new : (index : ℕ) → index < length desks → IsNew (index + 1) (slice_index_or desks index no_desk)
  pub shares : (index : ℕ) → index < length desks
      → length (slice_index_or desks index no_desk).shares ≡ length desks
