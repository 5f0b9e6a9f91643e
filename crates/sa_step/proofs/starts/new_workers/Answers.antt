use Rattle.std.proofs.Common.{◌≡◌, ◌∙◌, ◌+◌, ◌∷◌, length, map, drop, sym, ap, arith, length-drop}
use Rattle.std.proofs.lemmas.Grind.{common_steps}
use Rattle.std.proofs.lemmas.List.{length_push}
use Rattle.std.specs.Arc.{arc_value}
use Rattle.std.specs.List.{range_with_len}
use Rattle.sa_desk.specs.Legal.{Sessions}
use Rattle.sa_step.specs.Sessions.{first_in}
use Rattle.sa_step.proofs.StartLemmas.{one_more, drop_one, member_left, none_left}
use Rattle.sa_step.proofs.Starting.{worker_first}
use Rattle.sa_step.proofs.starts.new_workers.Goals as goal

pub loop-texts-preserved : goal.loop-texts-preserved
loop-texts-preserved c =
    let script : Sessions = record { tables = arc_value c.args.tables.now; texts = c.args.statements.items; quantum = c.args.quantum; turns = c.args.turns } in
    let made = c.loop-texts.workers.items in
    let worker = c.in_ok-new.field-0 in
    let here : drop (length made) script.texts ≡ c.in-Some.texts ∷ c.pop_front.new.self.items = sym c.loop-texts.invariant.left ∙ c.in-Some.ensures.items in
    let count : length c.push.new.self.items ≡ length made + 1 = ap length c.in_ok-push.ensures.items ∙ length_push made worker in
    let number = c.len-in-Some.ensures in
    let total = c.len-sessions.ensures in
    let whole = c.from_vec-left.ensures.len in
    let tables : arc_value c.in_ok-tables.tables ≡ arc_value c.args.tables.now = grind (arith, common_steps, c.in_ok-tables.ensures.cases) in
    let is = worker_first script (length made) c.in-Some.texts c.pop_front.new.self.items worker (c.len-in-Some.result + 1) c.len-sessions.result (arc_value c.in_ok-tables.tables) here
    (omega (arith, number)) (omega (arith, total, whole)) tables c.in_ok-new.ensures in
    record {
      left = drop_one script.texts c.pop_front.new.self.items c.in-Some.texts (length made) here ∙ ap (λ count. drop count script.texts) (sym count);
      within = let more = member_left script.texts c.pop_front.new.self.items c.in-Some.texts (length made) here in omega (arith, count, more);
      workers =
          c.in_ok-push.ensures.items ∙ one_more (first_in script) made (length made) worker c.loop-texts.invariant.workers is
          ∙ ap (λ count. map (first_in script) (range_with_len 1 count)) (sym count);
    }

pub returns : goal.returns
returns c =
    let script : Sessions = record { tables = arc_value c.args.tables.now; texts = c.args.statements.items; quantum = c.args.quantum; turns = c.args.turns } in
    let made = c.loop-texts.workers.items in
    let shorter : c.loop-texts.left.items ≡ drop 1 c.loop-texts.left.items = c.in_default.ensures.items ∙ c.in_default.ensures.rest in
    let none : length c.loop-texts.left.items ≡ 0 = let count = ap length shorter ∙ length-drop 1 c.loop-texts.left.items in omega (arith, count) in
    let total = none_left script.texts c.loop-texts.left.items (length made) c.loop-texts.invariant.within c.loop-texts.invariant.left none in
    c.loop-texts.invariant.workers ∙ ap (λ count. map (first_in script) (range_with_len 1 count)) total
