use Rattle.sa_desk.specs.Plain.{desk_at}
use Rattle.sa_desk.specs.inner.NextPlain.{made_of}
use Rattle.std.proofs.Common.{◌≡◌, ℕ, ◌+◌, ◌-◌, ◌*◌, ◌≤◌, ◌^◌, List, slice_set, length-set, arith}
use Rattle.std.proofs.Common.{Option}
use Rattle.sa_desk.specs.declared.outcome.Outcome.{Outcome}
use Rattle.sa_meaning.specs.Progress.{Progress}
use Rattle.sa_desk.specs.inner.PlainDesks.{plain_of}
use Rattle.sa_desk.specs.call.End.{MayEnd, end_entries, after_end, run_of, outcome_of}
use Rattle.sa_desk.proofs.CallLeft.{end-left, stamp_of}
use Rattle.sa_desk.proofs.Called.{Takes, Calls, IsDone, numbers_before, holds_taken, HasNumbers-taken, numbers_after, done_as}
use Rattle.sa_desk.proofs.plain.PlainDesksDesks.end.Given as Given
use Rattle.sa_desk.proofs.plain.PlainDesksDesks.end.Goals as goal
use Rattle.sa_desk.proofs.plain.PlainDesksDesks.end.Goals.{After-index_mut-at, After-len}

pub next_stamp-stamp-requires-clause-numbers : goal.next_stamp-stamp-requires-clause-numbers
next_stamp-stamp-requires-clause-numbers g c = omega (arith, numbers_before (plain_of c.self.inside) c.args.self.now c.self.view_is c.self.invariant.plain c.args.desk c.args.me c.requires.allowed)

-- what the code takes
takes : (g : Given.Over) (c : goal.After-index_mut-at g) → Takes (plain_of c.self.inside) c.args.desk c.args.me c.index_mut-at.result.now c.next_stamp-stamp.result
takes g c = record { index = c.index_of.result; index_is = c.index_of.ensures; at_is = c.index_mut-at.ensures.value; stamp_is = c.next_stamp-stamp.ensures }

pub end-answer-requires-clause-end : goal.end-answer-requires-clause-end
end-answer-requires-clause-end g c =
    holds_taken (plain_of c.self.inside) c.args.self.now c.self.view_is c.self.invariant.plain c.args.desk c.args.me c.requires.allowed c.index_mut-at.result.now c.next_stamp-stamp.result
    (takes g (goal.at.end-answer-requires-clause-end g c).After-index_mut-at) (λ at stamp. MayEnd g.R.Running.progress at stamp c.args.statement c.args.finish) c.requires.end

pub end-answer-requires-clause-numbers : goal.end-answer-requires-clause-numbers
end-answer-requires-clause-numbers g c =
    HasNumbers-taken (plain_of c.self.inside) c.args.self.now c.self.view_is c.self.invariant.plain c.args.desk c.args.me c.requires.allowed c.index_mut-at.result.now c.next_stamp-stamp.result
    (takes g (goal.at.end-answer-requires-clause-numbers g c).After-index_mut-at)

-- what it leaves
module _ (g : Given.Over) (c : goal.After-len g) where
  abbrev run : Option Progress
  run = run_of g.R.Running.progress c.args.finish

  abbrev given : Outcome
  given = outcome_of g.R.Running.progress c.args.finish

  abbrev calls : Calls (plain_of c.self.inside) c.args.desk c.args.me (λ at stamp. after_end at stamp c.args.statement run given) c.index_mut-at.result.now c.next_stamp-stamp.result c.end-answer.new.self c.len-before.result c.len.result
  calls = record {
    takes = record { index = c.index_of.result; index_is = c.index_of.ensures; at_is = c.index_mut-at.ensures.value; stamp_is = c.next_stamp-stamp.ensures };
    new_is = c.end-answer.ensures.desk;
    sound = c.end-answer.ensures.sound;
    had_is = c.len-before.ensures.count;
    has_is = c.len.ensures.count;
  }

  numbers : made_of (plain_of c.self.inside) c.args.me.actor + (c.len.result - c.len-before.result) ≤ 16 * 2 ^ 20
  numbers =
      numbers_after (plain_of c.self.inside) c.args.self.now c.self.view_is c.self.invariant.plain c.args.desk c.args.me c.requires.allowed
      (λ at stamp. end_entries at stamp c.args.statement run given) (λ at stamp. after_end at stamp c.args.statement run given)
      (end-left (desk_at c.args.self.now c.args.desk) (stamp_of c.args.self.now c.args.me) c.requires.end.own c.args.statement run given)
      c.index_mut-at.result.now c.next_stamp-stamp.result c.end-answer.new.self c.len-before.result c.len.result calls

  done : (made : List ℕ) → made ≡ slice_set c.self.inside.made.items (c.args.me.actor - 1) (made_of (plain_of c.self.inside) c.args.me.actor + (c.len.result - c.len-before.result))
      → IsDone c.args.self.now c.args.desk c.args.me (λ at stamp. end_entries at stamp c.args.statement run given) (λ at stamp. after_end at stamp c.args.statement run given)
      (record { desks = slice_set c.self.inside.desks.items c.index_of.result c.end-answer.new.self; made = made })
  done =
      done_as (plain_of c.self.inside) c.args.self.now c.self.view_is c.self.invariant.plain c.args.desk c.args.me c.requires.allowed
      (λ at stamp. end_entries at stamp c.args.statement run given) (λ at stamp. after_end at stamp c.args.statement run given)
      (end-left (desk_at c.args.self.now c.args.desk) (stamp_of c.args.self.now c.args.me) c.requires.end.own c.args.statement run given)
      c.index_mut-at.result.now c.next_stamp-stamp.result c.end-answer.new.self c.len-before.result c.len.result calls

pub count-requires-clause-numbers : goal.count-requires-clause-numbers
count-requires-clause-numbers g c = omega (arith, numbers g (goal.at.count-requires-clause-numbers g c).After-len)

pub invariant_of-self : goal.invariant_of-self
invariant_of-self g c = record {
  plain = (done g (goal.at.invariant_of-self g c).After-len c.count.new.made.items c.count.ensures).kept;
  unused = c.self.invariant.unused;
  room = rw (length-set c.self.inside.desks.items c.index_of.result c.end-answer.new.self) c.self.invariant.room;
}

pub returns-clause-call : goal.returns-clause-call
returns-clause-call g c = (done g (goal.at.returns-clause-call g c).After-len c.count.new.made.items c.count.ensures).call

pub returns-clause-same : goal.returns-clause-same
returns-clause-same g c = (done g (goal.at.returns-clause-same g c).After-len c.count.new.made.items c.count.ensures).same
