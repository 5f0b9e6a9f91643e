use Rattle.sa_desk.specs.call.Close.{MayClose, close_entries, after_close}
use Rattle.sa_desk.proofs.CallLeft.{close-left}
use Rattle.sa_board.proofs.Called.{found, stamp_of, IsDone, holds_held, done_as}
use Rattle.sa_board.proofs.pass.calls.PassDesks.close.Goals as goal
use Rattle.sa_board.proofs.pass.calls.PassDesks.close.Goals.{After-close}

module _ (c : After-close) where
  done : IsDone c.self.inside c.args.self.now c.args._desk c.args.me (λ at stamp. close_entries at stamp) (λ at stamp. after_close at stamp) c.close.new.self
  done =
      done_as c.self.inside c.args.self.now c.self.view_is c.self.invariant c.args._desk c.args.me c.requires.allowed c.in-Some.at c.stamp-stamp.result c.in-Some.is c.stamp-stamp.ensures
      (λ at stamp. close_entries at stamp) (λ at stamp. after_close at stamp)
      (close-left (found c.args.self.now c.args._desk) (stamp_of c.args.self.now c.args.me))
      c.close.new.self c.close.ensures.desk c.close.ensures.sound

pub close-requires : goal.close-requires
close-requires c =
    holds_held c.self.inside c.args.self.now c.self.view_is c.self.invariant c.args._desk c.args.me c.requires.allowed c.in-Some.at c.stamp-stamp.result c.in-Some.is c.stamp-stamp.ensures
    (λ at stamp. MayClose at stamp) c.requires.close

pub invariant_of-self : goal.invariant_of-self
invariant_of-self c = (done (goal.at.invariant_of-self c).After-close).kept

pub returns-clause-call : goal.returns-clause-call
returns-clause-call c = (done (goal.at.returns-clause-call c).After-close).call
