use Rattle.sa_desk.specs.Plain.{desk_at}
use Rattle.std.proofs.Common.{slice_set, length-set, arith}
use Rattle.sa_desk.specs.inner.PlainDesks.{plain_of}
use Rattle.sa_desk.specs.call.Kill.{kill_entries, after_kill}
use Rattle.sa_desk.proofs.CallLeft.{stamp_of}
use Rattle.sa_desk.proofs.CallLeftMore.{kill-left}
use Rattle.sa_desk.proofs.Called.{Calls, IsDone, numbers_before, done_as}
use Rattle.sa_desk.proofs.plain.PlainDesksDesks.kill.Goals as goal

pub next_stamp-stamp-requires-clause-numbers : goal.next_stamp-stamp-requires-clause-numbers
next_stamp-stamp-requires-clause-numbers c = omega (arith, numbers_before (plain_of c.self.inside) c.args.self.now c.self.view_is c.self.invariant.plain c.args.desk c.args.me c.requires.allowed)

-- what the code takes and leaves, and so what is done
module _ (c : goal.After-count) where
  abbrev calls : Calls (plain_of c.self.inside) c.args.desk c.args.me (λ at stamp. after_kill at stamp c.args.statement c.args.kind) c.index_mut-at.result.now c.next_stamp-stamp.result c.kill-answer.new.self c.len-before.result c.len.result
  calls = record {
    takes = record { index = c.index_of.result; index_is = c.index_of.ensures; at_is = c.index_mut-at.ensures.value; stamp_is = c.next_stamp-stamp.ensures };
    new_is = c.kill-answer.ensures.desk;
    sound = c.kill-answer.ensures.sound;
    had_is = c.len-before.ensures.count;
    has_is = c.len.ensures.count;
  }

  done : IsDone c.args.self.now c.args.desk c.args.me (λ at stamp. kill_entries at stamp c.args.statement c.args.kind) (λ at stamp. after_kill at stamp c.args.statement c.args.kind)
      (record { desks = slice_set c.self.inside.desks.items c.index_of.result c.kill-answer.new.self; made = c.count.new.made.items })
  done =
      done_as (plain_of c.self.inside) c.args.self.now c.self.view_is c.self.invariant.plain c.args.desk c.args.me c.requires.allowed
      (λ at stamp. kill_entries at stamp c.args.statement c.args.kind) (λ at stamp. after_kill at stamp c.args.statement c.args.kind)
      (kill-left (desk_at c.args.self.now c.args.desk) (stamp_of c.args.self.now c.args.me) c.args.statement c.args.kind)
      c.index_mut-at.result.now c.next_stamp-stamp.result c.kill-answer.new.self c.len-before.result c.len.result calls c.count.new.made.items c.count.ensures

pub invariant_of-self : goal.invariant_of-self
invariant_of-self c = record {
  plain = (done c).kept;
  unused = c.self.invariant.unused;
  room = rw (length-set c.self.inside.desks.items c.index_of.result c.kill-answer.new.self) c.self.invariant.room;
}

pub returns-clause-call : goal.returns-clause-call
returns-clause-call c = (done c).call

pub returns-clause-same : goal.returns-clause-same
returns-clause-same c = (done c).same
