use Rattle.sa_desk.specs.call.Look.{MayLook, look_entries, after_look}
use Rattle.sa_desk.proofs.CallLeftMore.{look-left}
use Rattle.sa_board.proofs.Called.{found, stamp_of, IsDone, holds_held, done_as}
use Rattle.sa_board.proofs.pass.calls.PassDesks.look.Goals as goal
use Rattle.sa_board.proofs.pass.calls.PassDesks.look.Goals.{After-look-answer}

module _ (c : After-look-answer) where
  done : IsDone c.self.inside c.args.self.now c.args._desk c.args.me (λ at stamp. look_entries at stamp c.args.statement c.args.at) (λ at stamp. after_look at stamp c.args.statement c.args.at) c.look-answer.new.self
  done =
      done_as c.self.inside c.args.self.now c.self.view_is c.self.invariant c.args._desk c.args.me c.requires.allowed c.in-Some.found c.stamp-stamp.result c.in-Some.is c.stamp-stamp.ensures
      (λ at stamp. look_entries at stamp c.args.statement c.args.at) (λ at stamp. after_look at stamp c.args.statement c.args.at)
      (look-left (found c.args.self.now c.args._desk) (stamp_of c.args.self.now c.args.me) c.requires.look.caller c.args.statement c.args.at)
      c.look-answer.new.self c.look-answer.ensures.desk c.look-answer.ensures.sound

pub look-answer-requires : goal.look-answer-requires
look-answer-requires c =
    holds_held c.self.inside c.args.self.now c.self.view_is c.self.invariant c.args._desk c.args.me c.requires.allowed c.in-Some.found c.stamp-stamp.result c.in-Some.is c.stamp-stamp.ensures
    (λ at stamp. MayLook at stamp c.args.statement c.args.at c.args.budget) c.requires.look

pub invariant_of-self : goal.invariant_of-self
invariant_of-self c = (done (goal.at.invariant_of-self c).After-look-answer).kept

pub returns-clause-call : goal.returns-clause-call
returns-clause-call c = (done (goal.at.returns-clause-call c).After-look-answer).call
