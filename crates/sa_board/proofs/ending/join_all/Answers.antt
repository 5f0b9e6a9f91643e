use Rattle.std.proofs.Common.{◌<◌, List, [], ◌∷◌, ◌++◌, length, map, sym, ap, ap₂, ◌∙◌, arith, append_assoc, append-nil}
use Rattle.std.proofs.lemmas.List.{map-append, nil_from_length}
use Rattle.sa_board.specs.declared.view.Known.{Known}
use Rattle.sa_board.specs.Board.{BoardState}
use Rattle.sa_board.specs.Pass.{PassState, known_of}
use Rattle.sa_board.specs.Steps.{Sitter}
use Rattle.sa_board.proofs.Finishing.{passes-is, first-table, first-idle, next-table, next-idle, length-passes}
use Rattle.sa_board.proofs.step.Join.{joins_seats}
use Rattle.sa_board.proofs.ending.join_all.Goals as goal

-- There is a pass.
pub remove-requires : goal.remove-requires
remove-requires c =
    let is = c.board.invariant in
    let founded = ap (λ (b : BoardState). length b.founded) c.board.view_is in
    let all = length-passes c.args.board.now c.args.passes.items c.requires in
    omega (arith, c.args.passes.ok.0, all, founded, is.least, is.desks)

pub into_seat-seat-requires : goal.into_seat-seat-requires
into_seat-seat-requires c =
    let is = c.board.invariant in
    let founded = ap (λ (b : BoardState). length b.founded) c.board.view_is in
    let all = length-passes c.args.board.now c.args.passes.items c.requires in
    first-idle c.args.board.now c.args.passes.items c.remove.new.self.items c.remove.result c.requires (omega (arith, all, founded, is.least, is.desks)) c.remove.ensures.value c.remove.ensures.items

pub into_seat-requires : goal.into_seat-requires
into_seat-requires c =
    let is = c.board.invariant in
    let founded = ap (λ (b : BoardState). length b.founded) c.board.view_is in
    let all = length-passes c.args.board.now c.args.passes.items c.requires in
    next-idle c.args.board.now c.args.passes.items c.remove.new.self.items c.remove.result c.requires (omega (arith, all, founded, is.least, is.desks)) c.remove.ensures.value c.remove.ensures.items
    c.loop-pass.yielded c.next.new.self.rest.items c.in-Some.pass
    (ap (λ (rest : List PassState). c.loop-pass.yielded ++ rest) (sym c.in-Some.ensures.steps.0) ∙ c.loop-pass.invariant.all ∙ c.into_iter-pass-iterator.ensures.into_iter_gives.0)

pub join_seat-requires : goal.join_seat-requires
join_seat-requires c =
    let is = c.board.invariant in
    let key = c.board.inside.table.shared.key.value.items in
    let founded = ap (λ (b : BoardState). length b.founded) c.board.view_is in
    let table = ap (λ (b : BoardState). b.table) c.board.view_is in
    let all = length-passes c.args.board.now c.args.passes.items c.requires in
    let some : 0 < length c.args.passes.items = omega (arith, all, founded, is.least, is.desks) in (
      c.loop-pass.invariant.table ∙ c.into_seat-seat.ensures.table
          ∙ first-table c.args.board.now c.args.passes.items c.remove.new.self.items c.remove.result c.requires some c.remove.ensures.value c.remove.ensures.items ∙ sym table,
      c.into_seat.ensures.table
          ∙ next-table c.args.board.now c.args.passes.items c.remove.new.self.items c.remove.result c.requires some c.remove.ensures.value c.remove.ensures.items
          c.loop-pass.yielded c.next.new.self.rest.items c.in-Some.pass
          (ap (λ (rest : List PassState). c.loop-pass.yielded ++ rest) (sym c.in-Some.ensures.steps.0) ∙ c.loop-pass.invariant.all ∙ c.into_iter-pass-iterator.ensures.into_iter_gives.0) ∙ sym table,
      c.into_seat.ensures.away,
      omega (arith, is.words, is.least),
      joins_seats key c.loop-pass.seat.id c.into_seat.result.id c.loop-pass.seat.me.0 c.into_seat.result.me.0 c.loop-pass.invariant.out c.into_seat.ensures.out,
    )

pub loop-pass-preserved : goal.loop-pass-preserved
loop-pass-preserved c =
    let me_is = c.join_seat.ensures.2 in
    record {
      known = ap (λ (me : Sitter). me.0.known) me_is
          ∙ ap₂ (λ (known more : List Known). known ++ more) c.loop-pass.invariant.known c.into_seat.ensures.known
          ∙ append_assoc c.into_seat-seat.result.me.0.known (map known_of c.loop-pass.yielded) (known_of c.in-Some.pass ∷ [])
          ∙ ap (λ (more : List Known). c.into_seat-seat.result.me.0.known ++ more) (sym (map-append known_of c.loop-pass.yielded (c.in-Some.pass ∷ [])));
      out = ap (λ (me : Sitter). me.0.out) me_is ∙ c.loop-pass.invariant.out;
      away = ap (λ (me : Sitter). me.1) me_is ∙ c.loop-pass.invariant.away;
      table = c.join_seat.ensures.0 ∙ c.loop-pass.invariant.table;
      all =
          append_assoc c.loop-pass.yielded (c.in-Some.pass ∷ []) c.next.new.self.rest.items
          ∙ ap (λ (rest : List PassState). c.loop-pass.yielded ++ rest) (sym c.in-Some.ensures.steps.0) ∙ c.loop-pass.invariant.all;
    }

pub returns-clause-table : goal.returns-clause-table
returns-clause-table c =
    let is = c.board.invariant in
    let founded = ap (λ (b : BoardState). length b.founded) c.board.view_is in
    let all = length-passes c.args.board.now c.args.passes.items c.requires in
    c.loop-pass.invariant.table ∙ c.into_seat-seat.ensures.table
    ∙ first-table c.args.board.now c.args.passes.items c.remove.new.self.items c.remove.result c.requires (omega (arith, all, founded, is.least, is.desks)) c.remove.ensures.value c.remove.ensures.items

pub returns-clause-known : goal.returns-clause-known
returns-clause-known c =
    let is = c.board.invariant in
    let founded = ap (λ (b : BoardState). length b.founded) c.board.view_is in
    let all = length-passes c.args.board.now c.args.passes.items c.requires in
    let none = nil_from_length c.loop-pass.pass-iterator.rest.items (omega (arith, c.loop-pass.pass-iterator.rest.ok.0, c.in-None.ensures.steps.0)) in
    let rest = sym (append-nil c.loop-pass.yielded) ∙ ap (λ (rest : List PassState). c.loop-pass.yielded ++ rest) (sym none) ∙ c.loop-pass.invariant.all ∙ c.into_iter-pass-iterator.ensures.into_iter_gives.0 in
    let whole = passes-is c.args.board.now c.args.passes.items c.remove.new.self.items c.remove.result c.requires (omega (arith, all, founded, is.least, is.desks)) c.remove.ensures.value c.remove.ensures.items in
    c.loop-pass.invariant.known
    ∙ ap₂ (λ (known : List Known) (more : List PassState). known ++ map known_of more) c.into_seat-seat.ensures.known rest
    ∙ ap (map known_of) (sym whole)
