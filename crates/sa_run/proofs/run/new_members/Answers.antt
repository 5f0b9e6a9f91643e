use Rattle.std.proofs.Common.{◌≡◌, ◌+◌, ◌∷◌, ◌∙◌, length, map, drop, sym, ap, arith}
use Rattle.std.proofs.lemmas.List.{length_push}
use Rattle.std.specs.List.{range_with_len}
use Rattle.std.proofs.lemmas.List.FromFn.{length-map-range_with_len}
use Rattle.sa_board.specs.Board.{new_pass, new_passes}
use Rattle.sa_run.specs.inner.Members.{member_in}
use Rattle.sa_run.proofs.Making.{member_next}
use Rattle.sa_step.proofs.StartLemmas.{one_more, drop_one, member_left, none_left}
use Rattle.sa_run.proofs.run.new_members.Goals as goal

pub loop-pass-preserved : goal.loop-pass-preserved
loop-pass-preserved c =
    let board = c.args.board.now in
    let texts = c.args.statements.items in
    let made = c.loop-pass.members.items in
    let left : drop (length made) texts ≡ c.in-Some-pop_front.texts ∷ c.pop_front.new.self.items = sym c.loop-pass.invariant.left ∙ c.in-Some-pop_front.ensures.items in
    let passes : drop (length made) c.args.passes.items ≡ c.in-Some.pass ∷ c.next.new.self.rest.items = sym c.loop-pass.invariant.passes ∙ c.in-Some.ensures.steps.0 in
    let here : drop (length made) (new_passes board) ≡ c.in-Some.pass ∷ c.next.new.self.rest.items = ap (drop (length made)) (sym c.requires.passes) ∙ passes in
    let number = c.len-in-loop-pass.ensures in
    let member = member_next board texts (length made) (c.len-in-loop-pass.result + 1) c.in-Some.pass c.next.new.self.rest.items c.in-Some-pop_front.texts c.pop_front.new.self.items here left (omega (arith, number)) in
    let count : length c.push.new.self.items ≡ length made + 1 = ap length c.in_ok-push.ensures.items ∙ length_push made _ in
    record {
      members =
          c.in_ok-push.ensures.items ∙ one_more (member_in board texts) made (length made) _ c.loop-pass.invariant.members member
          ∙ ap (λ count. map (member_in board texts) (range_with_len 1 count)) (sym count);
      within = let more = member_left texts c.pop_front.new.self.items c.in-Some-pop_front.texts (length made) left in omega (arith, count, more);
      left = drop_one texts c.pop_front.new.self.items c.in-Some-pop_front.texts (length made) left ∙ ap (λ count. drop count texts) (sym count);
      passes = drop_one c.args.passes.items c.next.new.self.rest.items c.in-Some.pass (length made) passes ∙ ap (λ count. drop count c.args.passes.items) (sym count);
    }

pub returns : goal.returns
returns c =
    let board = c.args.board.now in
    let texts = c.args.statements.items in
    let made = c.loop-pass.members.items in
    let rest = c.loop-pass.pass-iterator.rest in
    let none : length rest.items ≡ 0 = omega (arith, rest.ok.0, c.in-None.ensures.steps.0) in
    let total : length c.args.passes.items ≡ length texts = ap length c.requires.passes ∙ length-map-range_with_len (new_pass board) 1 (length board.founded) ∙ c.requires.founded in
    let within = c.loop-pass.invariant.within in
    let all = none_left c.args.passes.items rest.items (length made) (omega (arith, total, within)) c.loop-pass.invariant.passes none in
    c.loop-pass.invariant.members ∙ ap (λ count. map (member_in board texts) (range_with_len 1 count)) (all ∙ total)
