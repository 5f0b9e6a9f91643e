use Rattle.std.proofs.Common.{Option}
use Rattle.sa_meaning.specs.Progress.{Progress}
use Rattle.sa_desk.specs.declared.outcome.Outcome.{Outcome}
use Rattle.sa_desk.specs.call.End.{MayEnd, end_entries, after_end, run_of, outcome_of}
use Rattle.sa_desk.proofs.CallLeft.{end-left}
use Rattle.sa_board.proofs.Called.{found, stamp_of, IsDone, holds_held, done_as}
use Rattle.sa_board.proofs.pass.calls.PassDesks.end.Given as Given
use Rattle.sa_board.proofs.pass.calls.PassDesks.end.Goals as goal
use Rattle.sa_board.proofs.pass.calls.PassDesks.end.Goals.{After-end-answer}

module _ (g : Given.Over) (c : After-end-answer g) where
  abbrev run : Option Progress
  run = run_of g.R.Running.progress c.args.finish

  abbrev given : Outcome
  given = outcome_of g.R.Running.progress c.args.finish

  done : IsDone c.self.inside c.args.self.now c.args._desk c.args.me (λ at stamp. end_entries at stamp c.args.statement run given) (λ at stamp. after_end at stamp c.args.statement run given) c.end-answer.new.self
  done =
      done_as c.self.inside c.args.self.now c.self.view_is c.self.invariant c.args._desk c.args.me c.requires.allowed c.in-Some.at c.stamp-stamp.result c.in-Some.is c.stamp-stamp.ensures
      (λ at stamp. end_entries at stamp c.args.statement run given) (λ at stamp. after_end at stamp c.args.statement run given)
      (end-left (found c.args.self.now c.args._desk) (stamp_of c.args.self.now c.args.me) c.requires.end.own c.args.statement run given)
      c.end-answer.new.self c.end-answer.ensures.desk c.end-answer.ensures.sound

pub end-answer-requires-clause-end : goal.end-answer-requires-clause-end
end-answer-requires-clause-end g c =
    holds_held c.self.inside c.args.self.now c.self.view_is c.self.invariant c.args._desk c.args.me c.requires.allowed c.in-Some.at c.stamp-stamp.result c.in-Some.is c.stamp-stamp.ensures
    (λ at stamp. MayEnd g.R.Running.progress at stamp c.args.statement c.args.finish) c.requires.end

pub invariant_of-self : goal.invariant_of-self
invariant_of-self g c = (done g (goal.at.invariant_of-self g c).After-end-answer).kept

pub returns-clause-call : goal.returns-clause-call
returns-clause-call g c = (done g (goal.at.returns-clause-call g c).After-end-answer).call
