use Rattle.std.proofs.Common.{◌++◌, Some, Option, List, [], ◌∷◌, length, sym, ap, ◌∙◌, arith, append_assoc, length-append}
use Rattle.std.proofs.lemmas.List.{map-append, length-map}
use Rattle.sa_desk.specs.Contents.{Contents}
use Rattle.sa_board.proofs.founding.in_slots.Goals as goal

pub push_reserved-requires : goal.push_reserved-requires
push_reserved-requires c =
    let some : Contents → Option Contents = λ desk. Some desk in
    let done = ap length c.loop-desk.invariant.done ∙ length-map c.loop-desk.yielded some in
    let all = ap length c.loop-desk.invariant.all in
    let both = length-append c.loop-desk.yielded c.loop-desk.desk-iterator.rest.items in
    let more = ap length c.in-Some.ensures.steps.0 in
    let desks = ap length c.into_iter-desk-iterator.ensures.into_iter_gives.0 in
    omega (arith, c.loop-desk.slots.ok.0, done, all, both, more, desks, c.loop-desk.invariant.room, c.in_ok-slots.ensures.capacity, c.len.ensures, c.args.desks.ok.0)

pub loop-desk-preserved : goal.loop-desk-preserved
loop-desk-preserved c =
    let some : Contents → Option Contents = λ desk. Some desk in
    record {
      done =
          c.push_reserved.ensures.items
          ∙ ap (λ (done : List (Option Contents)). done ++ Some c.in-Some.desk ∷ []) c.loop-desk.invariant.done
          ∙ sym (map-append some c.loop-desk.yielded (c.in-Some.desk ∷ []));
      all =
          append_assoc c.loop-desk.yielded (c.in-Some.desk ∷ []) c.next.new.self.rest.items
          ∙ ap (λ (rest : List Contents). c.loop-desk.yielded ++ rest) (sym c.in-Some.ensures.steps.0) ∙ c.loop-desk.invariant.all;
      room = c.push_reserved.ensures.capacity ∙ c.loop-desk.invariant.room;
    }
