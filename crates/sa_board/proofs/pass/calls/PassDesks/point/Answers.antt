use Rattle.sa_meaning.specs.Progress.{Progress}
use Rattle.sa_desk.specs.Serving.{served_entries}
use Rattle.sa_desk.specs.call.Point.{MayPoint, after_point}
use Rattle.sa_desk.proofs.CallLeft.{point-left}
use Rattle.sa_board.proofs.Called.{found, stamp_of, IsDone, holds_held, done_as}
use Rattle.sa_board.proofs.pass.calls.PassDesks.point.Given as Given
use Rattle.sa_board.proofs.pass.calls.PassDesks.point.Goals as goal
use Rattle.sa_board.proofs.pass.calls.PassDesks.point.Goals.{After-point-answer}

module _ (g : Given.Over) (c : After-point-answer g) where
  abbrev run : Progress
  run = g.R.Running.progress c.args.run.now

  done : IsDone c.self.inside c.args.self.now c.args._desk c.args.me (λ at stamp. served_entries at stamp run) (λ at stamp. after_point at stamp run) c.point-answer.new.self
  done =
      done_as c.self.inside c.args.self.now c.self.view_is c.self.invariant c.args._desk c.args.me c.requires.allowed c.in-Some.at c.stamp-stamp.result c.in-Some.is c.stamp-stamp.ensures
      (λ at stamp. served_entries at stamp run) (λ at stamp. after_point at stamp run)
      (point-left (found c.args.self.now c.args._desk) (stamp_of c.args.self.now c.args.me) c.requires.point.own run)
      c.point-answer.new.self c.point-answer.ensures.desk c.point-answer.ensures.sound

pub point-answer-requires-clause-point : goal.point-answer-requires-clause-point
point-answer-requires-clause-point g c =
    holds_held c.self.inside c.args.self.now c.self.view_is c.self.invariant c.args._desk c.args.me c.requires.allowed c.in-Some.at c.stamp-stamp.result c.in-Some.is c.stamp-stamp.ensures
    (λ at stamp. MayPoint at stamp (g.R.Running.progress c.args.run.now)) c.requires.point

pub invariant_of-self : goal.invariant_of-self
invariant_of-self g c = (done g (goal.at.invariant_of-self g c).After-point-answer).kept

pub returns-clause-call : goal.returns-clause-call
returns-clause-call g c = (done g (goal.at.returns-clause-call g c).After-point-answer).call
