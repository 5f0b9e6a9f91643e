-- What the session of a new pass knows of a board, and that it may begin a statement.
use Rattle.std.proofs.Common.{◌≡◌, ℕ, ◌+◌, ◌-◌, ◌≤◌, List, [], length, None, refl, sym, ap, subst, ◌∙◌, arith}
use Rattle.std.specs.Prelude.{slice_index}
use Rattle.std.proofs.lemmas.List.{get_or-replicate, length-replicate}
use Rattle.sa_desk.specs.declared.entry.Entry.{Entry}
use Rattle.sa_desk.specs.declared.entry.Event.TheVariants.{Begin}
use Rattle.sa_desk.specs.declared.stamp.Caller.{Caller}
use Rattle.sa_desk.specs.Charge.{charge}
use Rattle.sa_desk.specs.Contents.{Contents}
use Rattle.sa_desk.specs.New.{no_desk}
use Rattle.sa_desk.specs.Own.{free, own_from}
use Rattle.sa_desk.specs.World.{World, Meets, IsFirst, next_stamp, standing_on}
use Rattle.sa_desk.specs.call.Begin.{AreGiven, MayBegin}
use Rattle.sa_desk.proofs.program.May.{Knows, paid, share, may_begin}
use Rattle.sa_board.specs.Board.{BoardState, new_pass}
use Rattle.sa_board.specs.Pass.{PassState, KnowsStill, known_desk, world_of}
use Rattle.sa_board.proofs.Calls.{known-else}
use Rattle.sa_board.proofs.First.{IsFirst-new}
use Rattle.sa_board_tests.specs.Start.{even_desk, AreEven}
use Rattle.sa_board_tests.proofs.Founding.{desk-at}

-- A statement without a plan.
unplanned : AreGiven None None
unplanned = record { together = (λ none. none, λ none. none); lawful = tt }

module _ (board : BoardState) (sessions quantum turns each : ℕ) (even : AreEven board.founded sessions quantum turns each) (session : ℕ) where
  abbrev pass : PassState
  pass = new_pass board session

  -- what it knows of a desk
  pub known-at : (desk : ℕ) → 1 ≤ desk → desk ≤ sessions → known_desk pass desk ≡ even_desk sessions quantum turns each desk
  known-at desk least most =
      known-else pass desk (λ none. let zero : desk ≡ 0 = none in absurd (omega (arith, zero, least)))
      ∙ desk-at sessions quantum turns each board.founded even.each (desk - 1) no_desk (omega arith)
      ∙ ap (even_desk sessions quantum turns each) (let same : desk - 1 + 1 ≡ desk = omega arith in same)

  -- its share of each desk
  pub share-at : (desk : ℕ) → 1 ≤ desk → desk ≤ sessions → 1 ≤ session → session ≤ sessions → slice_index ((world_of pass).shares desk) (session - 1) ≡ each
  share-at desk least most low high =
      ap (λ (one : Contents). slice_index one.shares (session - 1)) (known-at desk least most) ∙ get_or-replicate sessions (session - 1) each 0 (omega arith)

  pub first : IsFirst (world_of pass)
  first = IsFirst-new board even.new session

  module _ (later : World) (still : KnowsStill (world_of pass) later) (met : Meets later session session) (least : 1 ≤ session) (most : session ≤ sessions) (some : 1 ≤ each) where
    mine-is : later.mine session ≡ []
    mine-is = still.mine session ∙ first.mine session

    paid-is : paid later session session ≡ 0
    paid-is = ap (λ (mine : List Entry). charge session (standing_on session mine)) mine-is

    share-is : share later session session ≡ each
    share-is = ap (λ (shares : List ℕ). slice_index shares (session - 1)) (still.shares session least) ∙ share-at session least most least most

    shares-count : length (later.shares session) ≡ sessions
    shares-count = ap length (still.shares session least ∙ ap (λ (one : Contents). one.shares) (known-at session least most)) ∙ length-replicate sessions each

    knows : Knows later session session
    knows = record { met = met; least = least; most = subst (λ (count : ℕ). session ≤ count) (sym shares-count) most }

    pub begins : (number turn : ℕ) (text : List ℕ) → let me : Caller = record { actor = session; turn = turn } in
        MayBegin (later.contents session) (next_stamp later me) (Begin number text 0 None None) number 0 None None
    begins number turn text =
        may_begin later (record { actor = session; turn = turn }) knows number 0 text None None refl unplanned (ap (λ (mine : List Entry). own_from free (standing_on session mine)) mine-is)
        (omega (arith, paid-is, share-is, some))
