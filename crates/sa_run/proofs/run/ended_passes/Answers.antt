use Rattle.std.proofs.Common.{rules, IsTrue}
use Rattle.std.proofs.lemmas.List.Elements.{All-push}
use Rattle.sa_run.specs.declared.member.Member.{Member}
use Rattle.sa_run.proofs.Making.{pass_pushed, member_come}
use Rattle.sa_run.proofs.run.ended_passes.Goals as goal

pub loop-member-preserved : goal.loop-member-preserved
loop-member-preserved c =
    let here : IsTrue c.in-Some.member.ended = search rules in
    record {
      passes = pass_pushed c.loop-member.passes.items c.push.new.self.items c.loop-member.yielded c.in-Some.member c.in_ok-push.ensures.items c.loop-member.invariant.passes;
      all = member_come c.loop-member.yielded c.loop-member.member-iterator.rest.items c.next.new.self.rest.items _ c.in-Some.member c.in-Some.ensures.steps.0 c.loop-member.invariant.all;
      ended = All-push (λ (member : Member). IsTrue member.ended) c.loop-member.yielded c.in-Some.member c.loop-member.invariant.ended here;
    }

pub loop-member-preserved-in_ok-push : goal.loop-member-preserved-in_ok-push
loop-member-preserved-in_ok-push c =
    let here : IsTrue c.in-Some.member.ended = search rules in
    record {
      passes = pass_pushed c.loop-member.passes.items c.push.new.self.items c.loop-member.yielded c.in-Some.member c.in_ok-push.ensures.items c.loop-member.invariant.passes;
      all = member_come c.loop-member.yielded c.loop-member.member-iterator.rest.items c.next.new.self.rest.items _ c.in-Some.member c.in-Some.ensures.steps.0 c.loop-member.invariant.all;
      ended = All-push (λ (member : Member). IsTrue member.ended) c.loop-member.yielded c.in-Some.member c.loop-member.invariant.ended here;
    }
