use Rattle.std.proofs.Common.{[]}
use Rattle.sa_desk.specs.call.LookOwn.{MayLookOwn}
use Rattle.sa_desk.proofs.CallLeftMore.{look_own-left}
use Rattle.sa_board.proofs.Called.{found, stamp_of, IsDone, holds_held, done_as}
use Rattle.sa_board.proofs.pass.calls.PassDesks.look_own.Goals as goal
use Rattle.sa_board.proofs.pass.calls.PassDesks.look_own.Goals.{After-look_own-answer}

module _ (c : After-look_own-answer) where
  done : IsDone c.self.inside c.args.self.now c.args._desk c.args.me (λ at stamp. []) (λ at stamp. at) c.look_own-answer.new.self
  done =
      done_as c.self.inside c.args.self.now c.self.view_is c.self.invariant c.args._desk c.args.me c.requires.allowed c.in-Some.at c.stamp-stamp.result c.in-Some.is c.stamp-stamp.ensures
      (λ at stamp. []) (λ at stamp. at)
      (look_own-left (found c.args.self.now c.args._desk) (stamp_of c.args.self.now c.args.me))
      c.look_own-answer.new.self c.look_own-answer.ensures.desk c.look_own-answer.ensures.sound

pub look_own-answer-requires : goal.look_own-answer-requires
look_own-answer-requires c =
    holds_held c.self.inside c.args.self.now c.self.view_is c.self.invariant c.args._desk c.args.me c.requires.allowed c.in-Some.at c.stamp-stamp.result c.in-Some.is c.stamp-stamp.ensures
    (λ at stamp. MayLookOwn at stamp) c.requires.look_own

pub invariant_of-self : goal.invariant_of-self
invariant_of-self c = (done (goal.at.invariant_of-self c).After-look_own-answer).kept

pub returns-clause-call : goal.returns-clause-call
returns-clause-call c = (done (goal.at.returns-clause-call c).After-look_own-answer).call
