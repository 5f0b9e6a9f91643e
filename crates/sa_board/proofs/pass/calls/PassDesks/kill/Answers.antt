use Rattle.sa_desk.specs.call.Kill.{MayKill, kill_entries, after_kill}
use Rattle.sa_desk.proofs.CallLeftMore.{kill-left}
use Rattle.sa_board.proofs.Called.{found, stamp_of, IsDone, holds_held, done_as}
use Rattle.sa_board.proofs.pass.calls.PassDesks.kill.Goals as goal
use Rattle.sa_board.proofs.pass.calls.PassDesks.kill.Goals.{After-kill-answer}

module _ (c : After-kill-answer) where
  done : IsDone c.self.inside c.args.self.now c.args._desk c.args.me (λ at stamp. kill_entries at stamp c.args.statement c.args.kind) (λ at stamp. after_kill at stamp c.args.statement c.args.kind) c.kill-answer.new.self
  done =
      done_as c.self.inside c.args.self.now c.self.view_is c.self.invariant c.args._desk c.args.me c.requires.allowed c.in-Some.at c.stamp-stamp.result c.in-Some.is c.stamp-stamp.ensures
      (λ at stamp. kill_entries at stamp c.args.statement c.args.kind) (λ at stamp. after_kill at stamp c.args.statement c.args.kind)
      (kill-left (found c.args.self.now c.args._desk) (stamp_of c.args.self.now c.args.me) c.args.statement c.args.kind)
      c.kill-answer.new.self c.kill-answer.ensures.desk c.kill-answer.ensures.sound

pub kill-answer-requires : goal.kill-answer-requires
kill-answer-requires c =
    holds_held c.self.inside c.args.self.now c.self.view_is c.self.invariant c.args._desk c.args.me c.requires.allowed c.in-Some.at c.stamp-stamp.result c.in-Some.is c.stamp-stamp.ensures
    (λ at stamp. MayKill at stamp c.args.statement c.args.kind) c.requires.kill

pub invariant_of-self : goal.invariant_of-self
invariant_of-self c = (done (goal.at.invariant_of-self c).After-kill-answer).kept

pub returns-clause-call : goal.returns-clause-call
returns-clause-call c = (done (goal.at.returns-clause-call c).After-kill-answer).call
