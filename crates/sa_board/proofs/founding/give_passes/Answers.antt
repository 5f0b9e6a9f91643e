use Rattle.std.proofs.Common.{◌≡◌, ℕ, suc, ◌+◌, ◌-◌, List, [], ◌∷◌, ◌++◌, length, map, None, false, sym, ap, ap₂, subst, ◌∙◌, arith}
use Rattle.std.specs.List.{range_with_len}
use Rattle.std.proofs.lemmas.List.FromFn.{map-range_with_len_more, length-map-range_with_len}
use Rattle.atomic_table.specs.Seated.{TableId}
use Rattle.sa_desk.specs.Contents.{Contents}
use Rattle.sa_desk.specs.New.{AreNew}
use Rattle.sa_board.specs.Board.{BoardState, new_pass}
use Rattle.sa_board.specs.Pass.{PassState}
use Rattle.sa_board.specs.Steps.{Sitter}
use Rattle.sa_board.specs.inner.Pass.{one_of}
use Rattle.sa_board.proofs.Passes.{first_seat, IsFounder-first, first-more, new-met}
use Rattle.sa_board.proofs.step.Split.{splits_seat}
use Rattle.sa_board.proofs.founding.give_passes.Goals as goal

pub split_seat-seat-requires : goal.split_seat-seat-requires
split_seat-seat-requires c =
    let key = c.board.inside.table.shared.key.value.items in
    let founded : key ≡ c.args.board.now.founded = ap (λ (b : BoardState). b.founded) c.board.view_is in
    let is = c.board.invariant in
    let below = c.loop-session-test.true in
    let least = c.loop-session.auto.session in
    let first = c.loop-session.first in
    let made = c.loop-session.session - 1 in
    let seat : first.me ≡ first_seat key made = c.loop-session.invariant.first ∙ ap (λ (f : List Contents). first_seat f made) (sym founded) in (
      c.loop-session.invariant.table ∙ c.requires.table ∙ sym (ap (λ (b : BoardState). b.table) c.board.view_is),
      omega arith,
      splits_seat key (subst AreNew (sym founded) c.requires.new) first.id first.me.0 (IsFounder-first key first.me made seat (omega arith) (omega arith)),
    )

pub push_reserved-requires : goal.push_reserved-requires
push_reserved-requires c =
    let is = c.board.invariant in
    let founded = ap (λ (b : BoardState). length b.founded) c.board.view_is in
    let below = c.loop-session-test.true in
    let least = c.loop-session.auto.session in
    let others = ap length c.loop-session.invariant.others ∙ length-map-range_with_len (new_pass c.args.board.now) 2 (c.loop-session.session - 2) in
    let room = c.requires.room in
    omega (arith, others, c.loop-session.passes.ok.0, c.loop-session.invariant.room)

pub loop-session-preserved : goal.loop-session-preserved
loop-session-preserved c =
    let board = c.args.board.now in
    let session = c.loop-session.session in
    let made = session - 1 in
    let least = c.loop-session.auto.session in
    let split = c.split_seat-seat.ensures in
    let next : made + 1 ≡ session = omega arith in
    let table : c.split_seat-seat.result.table_id ≡ board.table = split.3 ∙ c.loop-session.invariant.table ∙ c.requires.table in
    let met = new-met board.founded c.loop-session.first.me c.split_seat-seat.result.me session made c.loop-session.invariant.first next split.4 in
    let pass : c.of.result ≡ new_pass board session =
    c.of.ensures ∙ ap₂ (λ (t : TableId) (m : List Contents). let p : PassState = record { table = t; session = session; met = m; mine = []; out = 0; desk = None; called = false } in p) table met in
    record {
      first = split.2 ∙ first-more board.founded c.loop-session.first.me made c.loop-session.invariant.first ∙ ap (first_seat board.founded) (let same : made + 1 ≡ session + 1 - 1 = omega arith in same);
      table = split.0 ∙ c.loop-session.invariant.table;
      others = c.push_reserved.ensures.items
          ∙ ap₂ (λ (list : List PassState) (one : PassState). list ++ one ∷ []) c.loop-session.invariant.others pass
          ∙ sym (map-range_with_len_more (new_pass board) 2 (session - 2) session (let same : 2 + (session - 2) ≡ session = omega arith in same))
          ∙ ap (λ (n : ℕ). map (new_pass board) (range_with_len 2 n)) (let same : session - 2 + 1 ≡ session + 1 - 2 = omega arith in same);
      room = c.push_reserved.ensures.capacity ∙ c.loop-session.invariant.room;
    }

-- The first seat's pass is put before those of the others.
pub returns : goal.returns
returns c =
    let board = c.args.board.now in
    let session = c.loop-session.session in
    let founded = ap (λ (b : BoardState). length b.founded) c.board.view_is in
    let is = c.board.invariant in
    let least = c.loop-session.auto.session in
    let most = c.loop-session.auto.session-end in
    let over = c.loop-session-test.false in
    let count : length board.founded ≡ suc (session - 2) = omega arith in
    let met : (one_of c.loop-session.first.me.0).met ≡ board.founded =
    ap (λ (seat : Sitter). (one_of seat.0).met) c.loop-session.invariant.first in
    let pass : c.of-2.result ≡ new_pass board 1 =
    c.of-2.ensures ∙ ap₂ (λ (t : TableId) (m : List Contents). let p : PassState = record { table = t; session = 1; met = m; mine = []; out = 0; desk = None; called = false } in p) (c.loop-session.invariant.table ∙ c.requires.table) met in
    c.in_ok-insert.ensures.items
    ∙ ap₂ (λ (one : PassState) (list : List PassState). one ∷ list) pass c.loop-session.invariant.others
    ∙ sym (ap (λ (n : ℕ). map (new_pass board) (range_with_len 1 n)) count)
