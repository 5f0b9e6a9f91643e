use Rattle.sa_desk.specs.call.Ask.{MayAsk, ask_entries, after_ask}
use Rattle.sa_desk.proofs.CallLeft.{ask-left}
use Rattle.sa_board.proofs.Called.{found, stamp_of, IsDone, holds_held, done_as}
use Rattle.sa_board.proofs.pass.calls.PassDesks.ask.Goals as goal
use Rattle.sa_board.proofs.pass.calls.PassDesks.ask.Goals.{After-ask-answer}

module _ (c : After-ask-answer) where
  done : IsDone c.self.inside c.args.self.now c.args._desk c.args.me (λ at stamp. ask_entries at stamp c.args.statement c.args.kind c.args.budget) (λ at stamp. after_ask at stamp c.args.statement c.args.kind c.args.budget) c.ask-answer.new.self
  done =
      done_as c.self.inside c.args.self.now c.self.view_is c.self.invariant c.args._desk c.args.me c.requires.allowed c.in-Some.at c.stamp-stamp.result c.in-Some.is c.stamp-stamp.ensures
      (λ at stamp. ask_entries at stamp c.args.statement c.args.kind c.args.budget) (λ at stamp. after_ask at stamp c.args.statement c.args.kind c.args.budget)
      (ask-left (found c.args.self.now c.args._desk) (stamp_of c.args.self.now c.args.me) c.requires.ask.caller c.args.statement c.args.kind c.args.budget)
      c.ask-answer.new.self c.ask-answer.ensures.desk c.ask-answer.ensures.sound

pub ask-answer-requires : goal.ask-answer-requires
ask-answer-requires c =
    holds_held c.self.inside c.args.self.now c.self.view_is c.self.invariant c.args._desk c.args.me c.requires.allowed c.in-Some.at c.stamp-stamp.result c.in-Some.is c.stamp-stamp.ensures
    (λ at stamp. MayAsk at stamp c.args.statement c.args.kind c.args.budget) c.requires.ask

pub invariant_of-self : goal.invariant_of-self
invariant_of-self c = (done (goal.at.invariant_of-self c).After-ask-answer).kept

pub returns-clause-call : goal.returns-clause-call
returns-clause-call c = (done (goal.at.returns-clause-call c).After-ask-answer).call
