use Rattle.std.proofs.Common.{◌≡◌, ◌-◌, Some, false, refl, ap, subst, ◌∙◌, arith}
use Rattle.sa_board.specs.declared.pass.Pass.TheInside.{Inside}
use Rattle.sa_board.specs.Pass.{PassState, KnowsStill, world_of}
use Rattle.sa_board.specs.inner.Pass.{state_of}
use Rattle.sa_board.proofs.Passing.{TakesOut, HasTaken-taken, IsOut-taken}
use Rattle.sa_board.proofs.Still.{KnowsStill-taken}
use Rattle.sa_board.proofs.pass.Pass.take_out.Given as Given
use Rattle.sa_board.proofs.pass.Pass.take_out.Goals as goal
use Rattle.sa_board.proofs.pass.Pass.take_out.Goals.{After-len-self-inside}

module _ (g : Given.Over) (c : After-len-self-inside g) where
  abbrev now : Inside
  now = record c.self.inside {
    seat = c.bring_out-taken.new.seat;
    out = c.args.desk;
    desk = Some c.bring_out-taken.result;
    found = c.len-self-inside.result;
    called = false;
  }

  idle : c.self.inside.out ≡ 0
  idle = ap (λ (pass : PassState). pass.out) c.self.view_is ∙ c.requires.idle

  takes : TakesOut c.self.inside now c.args.desk (c.args.desk - 1) c.acquire.new.seat.me c.bring_out-taken.result
  takes = record {
    index_is = (let least = c.requires.least in omega arith);
    idle = idle;
    took_it = c.acquire.ensures.took;
    at_front = c.bring_out-taken.ensures.desk;
    me_is = c.bring_out-taken.ensures.out;
    table_is = c.bring_out-taken.ensures.table.0 ∙ c.acquire.ensures.table.0;
    session_is = refl;
    next_is = refl;
    out_is = refl;
    desk_is = refl;
    found_is = c.len-self-inside.ensures.count;
    called_is = refl;
  }

  still : KnowsStill (world_of c.args.self.now) (world_of (state_of now))
  still =
      let index = c.args.desk - 1 in
      let me = c.acquire.new.seat.me in
      let taken = c.bring_out-taken.result in
      subst (λ (was : PassState). KnowsStill (world_of was) (world_of (state_of now))) c.self.view_is
      (KnowsStill-taken (state_of c.self.inside) (state_of now) c.args.desk (HasTaken-taken c.self.inside now c.args.desk index me taken c.self.invariant takes)
      (IsOut-taken c.self.inside now c.args.desk index me taken c.self.invariant takes) idle (c.self.invariant.none idle))

pub returns-clause-still : goal.returns-clause-still
returns-clause-still g c = still g (goal.at.returns-clause-still g c).After-len-self-inside
