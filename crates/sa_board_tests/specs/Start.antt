-- What sessions begin with.
use Rattle.std.specs.Prelude.{◌≡◌, ℕ, List, map, replicate}
use Rattle.std.specs.List.{range_with_len}
use Rattle.sa_desk.specs.Contents.{Contents}
use Rattle.sa_desk.specs.New.{new_desk, AreNew}

-- A turn makes so many steps at most, a request lasts so many turns, and each of so many sessions
-- has the same share.
abbrev pub even_desk : (sessions quantum turns share number : ℕ) → Contents
even_desk sessions quantum turns share number =
    new_desk number quantum turns (replicate sessions share)

-- These are such desks, one for each session.
pub record AreEven (desks : List Contents) (sessions quantum turns share : ℕ) : Type 0 where
  pub each : desks
      ≡ map (even_desk sessions quantum turns share) (range_with_len 1 sessions)
  pub new : AreNew desks
