use Rattle.std.proofs.Common.{◌++◌, List, [], ◌∷◌, length, map, sym, ap, ap₂, ◌∙◌, arith, append_assoc, append-nil, length-append}
use Rattle.std.proofs.lemmas.List.{map-append, length-map, nil_from_length}
use Rattle.sa_desk.specs.declared.entry.Entry.{Entry}
use Rattle.sa_desk.specs.Contents.{Contents}
use Rattle.sa_desk.specs.Plain.{Plain}
use Rattle.sa_desk.proofs.plain.PlainDesks.finish.Goals as goal

pub push_reserved-requires : goal.push_reserved-requires
push_reserved-requires c =
    let done = ap length c.loop-desk.invariant.finished ∙ length-map c.loop-desk.yielded (λ (desk : Contents). desk.journal) in
    let all = ap length c.loop-desk.invariant.all in
    let both = length-append c.loop-desk.yielded c.loop-desk.desk-iterator.rest.items in
    let more = ap length c.in-Some.ensures.steps.0 in
    let desks = ap length c.into_iter-desk-iterator.ensures.into_iter_gives.0 in
    omega (arith, c.loop-desk.journals.ok.0, done, all, both, more, desks, c.self.invariant.room, c.loop-desk.invariant.room)

pub loop-desk-preserved : goal.loop-desk-preserved
loop-desk-preserved c = record {
  finished =
      c.push_reserved.ensures.items
      ∙ ap₂ (λ (done : List (List Entry)) (journal : List Entry). done ++ journal ∷ []) c.loop-desk.invariant.finished c.finish.ensures.journal
      ∙ sym (map-append (λ (desk : Contents). desk.journal) c.loop-desk.yielded (c.in-Some.desk ∷ []));
  all =
      append_assoc c.loop-desk.yielded (c.in-Some.desk ∷ []) c.next.new.self.rest.items
      ∙ ap (λ (rest : List Contents). c.loop-desk.yielded ++ rest) (sym c.in-Some.ensures.steps.0) ∙ c.loop-desk.invariant.all;
  room = c.push_reserved.ensures.capacity ∙ c.loop-desk.invariant.room;
}

pub returns-clause-journals : goal.returns-clause-journals
returns-clause-journals c =
    let none = nil_from_length c.loop-desk.desk-iterator.rest.items (omega (arith, c.loop-desk.desk-iterator.rest.ok.0, c.in-None.ensures.steps.0)) in
    let whole = sym (append-nil c.loop-desk.yielded) ∙ ap (λ (rest : List Contents). c.loop-desk.yielded ++ rest) (sym none) ∙ c.loop-desk.invariant.all ∙ c.into_iter-desk-iterator.ensures.into_iter_gives.0 in
    let desks = ap (λ (plain : Plain). plain.desks) c.self.view_is in
    c.from_vec.ensures ∙ c.loop-desk.invariant.finished ∙ ap (map (λ (desk : Contents). desk.journal)) (whole ∙ desks)
