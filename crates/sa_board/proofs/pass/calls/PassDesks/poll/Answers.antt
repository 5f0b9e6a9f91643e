use Rattle.sa_desk.specs.call.Poll.{MayPoll, poll_entries, after_poll}
use Rattle.sa_desk.proofs.CallLeft.{poll-left}
use Rattle.sa_board.proofs.Called.{found, stamp_of, IsDone, holds_held, done_as}
use Rattle.sa_board.proofs.pass.calls.PassDesks.poll.Goals as goal
use Rattle.sa_board.proofs.pass.calls.PassDesks.poll.Goals.{After-poll-answer}

module _ (c : After-poll-answer) where
  done : IsDone c.self.inside c.args.self.now c.args._desk c.args.me (λ at stamp. poll_entries at stamp c.args.statement) (λ at stamp. after_poll at stamp c.args.statement) c.poll-answer.new.self
  done =
      done_as c.self.inside c.args.self.now c.self.view_is c.self.invariant c.args._desk c.args.me c.requires.allowed c.in-Some.at c.stamp-stamp.result c.in-Some.is c.stamp-stamp.ensures
      (λ at stamp. poll_entries at stamp c.args.statement) (λ at stamp. after_poll at stamp c.args.statement)
      (poll-left (found c.args.self.now c.args._desk) (stamp_of c.args.self.now c.args.me) c.requires.poll.caller c.args.statement)
      c.poll-answer.new.self c.poll-answer.ensures.desk c.poll-answer.ensures.sound

pub poll-answer-requires : goal.poll-answer-requires
poll-answer-requires c =
    holds_held c.self.inside c.args.self.now c.self.view_is c.self.invariant c.args._desk c.args.me c.requires.allowed c.in-Some.at c.stamp-stamp.result c.in-Some.is c.stamp-stamp.ensures
    (λ at stamp. MayPoll at stamp c.args.statement) c.requires.poll

pub invariant_of-self : goal.invariant_of-self
invariant_of-self c = (done (goal.at.invariant_of-self c).After-poll-answer).kept

pub returns-clause-call : goal.returns-clause-call
returns-clause-call c = (done (goal.at.returns-clause-call c).After-poll-answer).call
