use Rattle.sa_desk.specs.call.Withdraw.{MayWithdraw, withdraw_entries, after_withdraw}
use Rattle.sa_desk.proofs.CallLeftMore.{withdraw-left}
use Rattle.sa_board.proofs.Called.{found, stamp_of, IsDone, holds_held, done_as}
use Rattle.sa_board.proofs.pass.calls.PassDesks.withdraw.Goals as goal
use Rattle.sa_board.proofs.pass.calls.PassDesks.withdraw.Goals.{After-withdraw-answer}

module _ (c : After-withdraw-answer) where
  done : IsDone c.self.inside c.args.self.now c.args._desk c.args.me (λ at stamp. withdraw_entries at stamp c.args.statement) (λ at stamp. after_withdraw at stamp c.args.statement) c.withdraw-answer.new.self
  done =
      done_as c.self.inside c.args.self.now c.self.view_is c.self.invariant c.args._desk c.args.me c.requires.allowed c.in-Some.at c.stamp-stamp.result c.in-Some.is c.stamp-stamp.ensures
      (λ at stamp. withdraw_entries at stamp c.args.statement) (λ at stamp. after_withdraw at stamp c.args.statement)
      (withdraw-left (found c.args.self.now c.args._desk) (stamp_of c.args.self.now c.args.me) c.args.statement)
      c.withdraw-answer.new.self c.withdraw-answer.ensures.desk c.withdraw-answer.ensures.sound

pub withdraw-answer-requires : goal.withdraw-answer-requires
withdraw-answer-requires c =
    holds_held c.self.inside c.args.self.now c.self.view_is c.self.invariant c.args._desk c.args.me c.requires.allowed c.in-Some.at c.stamp-stamp.result c.in-Some.is c.stamp-stamp.ensures
    (λ at stamp. MayWithdraw at stamp c.args.statement) c.requires.withdraw

pub invariant_of-self : goal.invariant_of-self
invariant_of-self c = (done (goal.at.invariant_of-self c).After-withdraw-answer).kept

pub returns-clause-call : goal.returns-clause-call
returns-clause-call c = (done (goal.at.returns-clause-call c).After-withdraw-answer).call
