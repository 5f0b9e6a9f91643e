use Rattle.std.proofs.Common.{◌≡◌, ℕ, ◌+◌, ◌<◌, Bool, false, Option, Some, List, [], ◌∷◌, ◌++◌, length, map, get_or, sym, ap, subst, ◌∙◌, arith, inl, inr, length-append, get_or-set_same, get_or-set_other}
use Rattle.std.proofs.lemmas.Bool.{cases_eq}
use Rattle.std.proofs.Math.Seq.{get_or-append_seam}
use Rattle.std.proofs.lemmas.List.{get_or_append_left}
use Rattle.std.specs.Slots.{slots_items, slots_filled, slots_len, slots_counts}
use mathlib.Core.Option.{some, some-injective}
use lib.ListN.{get_elem?}
use Rattle.sa_desk.specs.declared.entry.Entry.{Entry}
use Rattle.sa_desk.specs.Contents.{Contents}
use Rattle.sa_board.specs.View.{desk_in}
use Rattle.sa_board.specs.Steps.{IsEnded}
use Rattle.sa_board.specs.Board.{BoardState}
use Rattle.sa_board.specs.History.{AreHistories}
use Rattle.sa_board.proofs.Finishing.{finishing, journals-are, AreHistories-ended}
use Rattle.sa_board.proofs.board.Board.finish.Goals as goal
use Rattle.sa_board.proofs.board.Board.finish.Goals.{After-close_with-closed, After-push_reserved}

-- Once the table is closed each desk is in its slot.
module _ (c : After-close_with-closed) where
  abbrev key : List Contents
  key = c.self.inside.table.shared.key.value.items

  key_is : key ≡ c.args.self.founded
  key_is = ap (λ (board : BoardState). board.founded) c.self.view_is

  are_ended : IsEnded key c.join_all-seat.result.me.0 (slots_items c.close_with-closed.result.slots)
  are_ended =
      finishing c.args.self key c.args.passes.items c.join_all-seat.result.id c.join_all-seat.result.me.0 (slots_items c.close_with-closed.result.words) (slots_items c.close_with-closed.result.slots)
      key_is c.requires c.join_all-seat.ensures.out c.join_all-seat.ensures.known c.close_with-closed.ensures.values.2

  slots-desks : slots_len c.close_with-closed.result.slots ≡ c.self.inside.desks
  slots-desks = c.close_with-closed.ensures.counts.1 ∙ c.self.invariant.slots

  -- the desk that is taken out of a slot
  there : (index : ℕ) (taken : Option Contents) → index < c.self.inside.desks → get_elem? (slots_items c.close_with-closed.result.slots) index ≡ some taken → taken ≡ Some (desk_in are_ended.now index)
  there index taken within at =
      let desks = c.self.invariant.desks in
      some-injective taken (Some (desk_in are_ended.now index)) (sym at ∙ are_ended.home index (omega arith))

pub unreachable-requires : goal.unreachable-requires
unreachable-requires c =
    let ended = (goal.at.unreachable-requires c).After-close_with-closed in
    let at = ap (λ (items : List (Option Contents)). get_elem? items c.loop-index.index) (sym c.loop-index.invariant.items) ∙ c.take.ensures.value in
    c.in_default.not-Some (desk_in (are_ended ended).now c.loop-index.index) (there ended c.loop-index.index c.take.result c.loop-index-test.true at)

pub loop-index-preserved : goal.loop-index-preserved
loop-index-preserved c =
    let index = c.loop-index.index in
    let was = c.loop-index.closed.slots in
    let new = c.take.new.self.slots in
    let taken = c.take.ensures.others in
    let invariant = c.loop-index.invariant in
    let slots = slots-desks (goal.at.loop-index-preserved c).After-close_with-closed in
    let counts = slots_counts was in
    let below = c.loop-index-test.true in
    let long = invariant.long in
    let same_long = taken.2 in
    let inside : index < length (slots_filled was) = omega arith in
    record {
      items = taken.0 ∙ invariant.items;
      long = same_long ∙ long;
      before = λ k lt. elim (cases_eq k index) [
        | inl here ↦ ap (λ (i : ℕ). get_or (slots_filled new) i false) here ∙ ap (λ (filled : List Bool). get_or filled index false) taken.1 ∙ get_or-set_same (slots_filled was) index false false inside
        | inr apart ↦ ap (λ (filled : List Bool). get_or filled k false) taken.1 ∙ get_or-set_other (slots_filled was) index k false false apart ∙ invariant.before k (omega arith)
      ];
      after = λ k from lt. ap (λ (filled : List Bool). get_or filled k false) taken.1 ∙ get_or-set_other (slots_filled was) index k false false (λ is. omega arith) ∙ invariant.after k (omega arith) (omega arith);
      count = ap length c.push_reserved.ensures.items ∙ length-append c.loop-index.journals.items (c.finish.result ∷ []) ∙ ap (λ (n : ℕ). n + 1) invariant.count;
      each = λ k desk lt at. elim (cases_eq k index) [
        | inl here ↦
            let mine : Some c.in-Some.desk ≡ Some desk =
            some-injective (Some c.in-Some.desk) (Some desk) (sym (ap some c.in-Some.is) ∙ sym c.take.ensures.value ∙ ap (λ (items : List (Option Contents)). get_elem? items index) invariant.items ∙ ap (get_elem? (slots_items c.close_with-closed.result.slots)) (sym here) ∙ at) in
            ap (λ (list : List (List Entry)). get_or list k []) c.push_reserved.ensures.items
            ∙ ap (λ (i : ℕ). get_or (c.loop-index.journals.items ++ c.finish.result ∷ []) i []) (here ∙ sym invariant.count)
            ∙ get_or-append_seam c.loop-index.journals.items c.finish.result [] [] ∙ c.finish.ensures.journal
            ∙ ap (λ (d : Contents). d.journal) (λ n. the_desk desk (mine n))
        | inr apart ↦
            let count = invariant.count in
            ap (λ (list : List (List Entry)). get_or list k []) c.push_reserved.ensures.items
            ∙ get_or_append_left c.loop-index.journals.items (c.finish.result ∷ []) [] k (omega arith)
            ∙ invariant.each k desk (omega arith) at
      ];
      room = c.push_reserved.ensures.capacity ∙ invariant.room;
    }
  where
    the_desk : Contents → Option Contents → Contents
    the_desk other (Some desk) = desk
    the_desk other option = other

pub returns : goal.returns
returns c =
    let ended = (goal.at.returns c).After-close_with-closed in
    let is = are_ended ended in
    let index_end = c.loop-index.auto.index-end in
    let over = c.loop-index-test.false in
    let desks = c.self.invariant.desks in
    let long = is.desks in
    let all : c.loop-index.index ≡ length is.now = omega arith in
    let journals : c.from_vec.result ≡ map (λ desk. desk.journal) is.now =
    c.from_vec.ensures ∙ journals-are is.now c.loop-index.journals.items (c.loop-index.invariant.count ∙ all)
    (λ k within. c.loop-index.invariant.each k (desk_in is.now k) (omega arith) (is.home k (omega arith))) in
    subst (λ (founded : List Contents). AreHistories founded c.args.passes.items c.from_vec.result) (key_is ended)
    (subst (AreHistories (key ended) c.args.passes.items) (sym journals)
    (AreHistories-ended (key ended) c.self.invariant.new c.join_all-seat.result.me.0 (slots_items c.close_with-closed.result.slots) c.args.passes.items is c.join_all-seat.ensures.known))
