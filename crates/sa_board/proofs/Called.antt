-- One call of the desk that is out, over the fields of its pass.
use Rattle.std.proofs.Common.{◌≡◌, ℕ, ◌+◌, ◌≤◌, arith, Some, List, length, true, sym, ap, subst, ◌∙◌}
use Rattle.sa_desk.specs.declared.entry.Entry.{Entry}
use Rattle.sa_desk.specs.declared.stamp.Caller.{Caller}
use Rattle.sa_desk.specs.declared.stamp.Stamp.{Stamp}
use Rattle.sa_desk.specs.Contents.{Contents, IsSound}
use Rattle.sa_desk.specs.World.{Leaves, next_stamp, IsCall}
use Rattle.sa_board.specs.declared.pass.Pass.TheInside.{Inside}
use Rattle.sa_board.specs.Pass.{PassState, world_of, IsOut}
use Rattle.sa_board.specs.inner.Pass.{state_of, IsPass}
use Rattle.sa_board.proofs.Calls.{allowed-is, holds_there, IsCall-called, IsOut-next}

-- what the desk holds before the call, and the stamp of the call's first entry
abbrev pub found : PassState → ℕ → Contents
found now desk = (world_of now).contents desk

abbrev pub stamp_of : PassState → Caller → Stamp
stamp_of now me = next_stamp (world_of now) me

-- The pass, whose desk now holds this, is one still, and the call was one of its session.
pub record IsDone (pass : Inside) (now : PassState) (desk : ℕ) (me : Caller) (entries : Contents → Stamp → List Entry) (after : Contents → Stamp → Contents) (new : Contents) : Type 0 where
  pub kept : IsPass (record pass { desk = Some new; called = true })
  pub call : IsCall (world_of now) (world_of (state_of (record pass { desk = Some new; called = true }))) desk me.actor (entries (found now desk) (stamp_of now me)) (after (found now desk) (stamp_of now me))

module _ (pass : Inside) (now : PassState) (view_is : state_of pass ≡ now) (is : IsPass pass) (desk : ℕ) (me : Caller) (may : (world_of now).may_call desk me.actor ≡ true)
    (held : Contents) (used : Stamp) (held_is : pass.desk ≡ Some held) (used_is : used ≡ record { actor = me.actor; seq = length now.mine + 1; turn = me.turn }) where
  some : 1 ≤ pass.out
  some = subst (λ (state : PassState). 1 ≤ state.out) (sym view_is) (allowed-is now desk me.actor may).least

  out : IsOut now
  out = subst IsOut view_is (is.is_out some)

  has : now.desk ≡ Some held
  has = ap (λ (state : PassState). state.desk) (sym view_is) ∙ held_is

  -- What is known of the desk and the stamp is true of those of the code.
  pub holds_held : (P : Contents → Stamp → Type 0) → P (found now desk) (stamp_of now me) → P held used
  holds_held = holds_there now out desk me may held used has used_is

  module _ (entries : Contents → Stamp → List Entry) (after : Contents → Stamp → Contents)
      (left : IsSound (after (found now desk) (stamp_of now me)) → Leaves (found now desk) (after (found now desk) (stamp_of now me)) me.actor (stamp_of now me).seq (entries (found now desk) (stamp_of now me)))
      (new : Contents) (new_is : new ≡ after held used) (sound : IsSound new) where
    abbrev made : List Entry
    made = entries (found now desk) (stamp_of now me)

    abbrev next : PassState → PassState
    next state = record state { desk = Some new; called = true }

    pub done_as : IsDone pass now desk me entries after new
    done_as = record {
      kept = record {
        alone = is.alone;
        session = is.session;
        next = is.next;
        out = is.out;
        away = is.away;
        none = λ zero. let least = some in absurd (omega arith);
        found = is.found;
        is_out = λ least. subst (λ (state : PassState). IsOut (next state)) (sym view_is) (IsOut-next now out desk me may held used has used_is after new new_is sound made left);
      };
      call = subst (λ (state : PassState). IsCall (world_of now) (world_of (next state)) desk me.actor made (after (found now desk) (stamp_of now me)))
          (sym view_is) (IsCall-called now out desk me may held used has used_is after new new_is sound made left);
    }
