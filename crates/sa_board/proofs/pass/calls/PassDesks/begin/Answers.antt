use Rattle.sa_desk.specs.declared.entry.Event.{Event}
use Rattle.sa_desk.specs.declared.entry.Event.TheVariants.{Begin}
use Rattle.sa_desk.specs.call.Begin.{MayBegin, begin_entries, after_begin}
use Rattle.sa_desk.proofs.CallLeft.{begin-left}
use Rattle.sa_board.proofs.Called.{found, stamp_of, IsDone, holds_held, done_as}
use Rattle.sa_board.proofs.pass.calls.PassDesks.begin.Goals as goal
use Rattle.sa_board.proofs.pass.calls.PassDesks.begin.Goals.{After-begin-answer}

module _ (c : After-begin-answer) where
  abbrev begin : Event
  begin = Begin c.args.statement c.args.text c.args.version c.args.plan c.args.tables

  done : IsDone c.self.inside c.args.self.now c.args._desk c.args.me (λ at stamp. begin_entries at stamp begin c.args.statement) (λ at stamp. after_begin at stamp begin c.args.statement) c.begin-answer.new.self
  done =
      done_as c.self.inside c.args.self.now c.self.view_is c.self.invariant c.args._desk c.args.me c.requires.allowed c.in-Some.at c.stamp-stamp.result c.in-Some.is c.stamp-stamp.ensures
      (λ at stamp. begin_entries at stamp begin c.args.statement) (λ at stamp. after_begin at stamp begin c.args.statement)
      (begin-left (found c.args.self.now c.args._desk) (stamp_of c.args.self.now c.args.me) begin c.args.statement)
      c.begin-answer.new.self c.begin-answer.ensures.desk c.begin-answer.ensures.sound

pub begin-answer-requires : goal.begin-answer-requires
begin-answer-requires c =
    holds_held c.self.inside c.args.self.now c.self.view_is c.self.invariant c.args._desk c.args.me c.requires.allowed c.in-Some.at c.stamp-stamp.result c.in-Some.is c.stamp-stamp.ensures
    (λ at stamp. MayBegin at stamp (Begin c.args.statement c.args.text c.args.version c.args.plan c.args.tables) c.args.statement c.args.version c.args.plan c.args.tables) c.requires.begin

pub invariant_of-self : goal.invariant_of-self
invariant_of-self c = (done (goal.at.invariant_of-self c).After-begin-answer).kept

pub returns-clause-call : goal.returns-clause-call
returns-clause-call c = (done (goal.at.returns-clause-call c).After-begin-answer).call
