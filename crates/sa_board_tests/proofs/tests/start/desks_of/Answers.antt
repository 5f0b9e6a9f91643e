use Rattle.std.proofs.Common.{◌≡◌, ℕ, ◌+◌, ◌-◌, List, [], ◌∷◌, ◌++◌, length, map, sym, ap, ap₂, ◌∙◌, arith}
use Rattle.std.specs.List.{range_with_len}
use Rattle.std.proofs.lemmas.List.FromFn.{length-map-range_with_len, map-range_with_len_more}
use Rattle.std.proofs.lemmas.List.Elements.{All-push, All-same}
use Rattle.sa_desk.specs.Contents.{Contents, IsSound}
use Rattle.sa_desk.specs.New.{new_desk}
use Rattle.sa_board_tests.specs.Start.{even_desk}
use Rattle.sa_board_tests.proofs.Founding.{are_even}
use Rattle.sa_board_tests.proofs.tests.start.desks_of.Goals as goal

pub push_reserved-requires : goal.push_reserved-requires
push_reserved-requires c =
    let number = c.loop-number.number in
    let least = c.loop-number.auto.number in
    let below = c.loop-number-test.true in
    let made = ap length c.loop-number.invariant.made ∙ length-map-range_with_len (even_desk c.args.sessions c.args.quantum c.args.turns c.args.share) 1 (number - 1) in
    omega (arith, made, c.loop-number.desks.ok.0, c.loop-number.invariant.room, c.in_ok-desks.ensures.capacity, least, below)

pub loop-number-preserved : goal.loop-number-preserved
loop-number-preserved c =
    let number = c.loop-number.number in
    let least = c.loop-number.auto.number in
    let desk : ℕ → Contents = even_desk c.args.sessions c.args.quantum c.args.turns c.args.share in
    let is : c.in_ok-desk.desk ≡ desk number = c.in_ok-desk.ensures.desk ∙ ap (new_desk number c.args.quantum c.args.turns) (c.as_slice.ensures.value ∙ c.in_ok-shares.ensures.items_if_clones_equal (λ y same. same)) in
    record {
      made = c.push_reserved.ensures.items
          ∙ ap₂ (λ (list : List Contents) (one : Contents). list ++ one ∷ []) c.loop-number.invariant.made is
          ∙ sym (map-range_with_len_more desk 1 (number - 1) number (let same : 1 + (number - 1) ≡ number = omega arith in same))
          ∙ ap (λ (n : ℕ). map desk (range_with_len 1 n)) (let same : number - 1 + 1 ≡ number + 1 - 1 = omega arith in same);
      sound = All-same IsSound c.push_reserved.new.self.items (c.loop-number.desks.items ++ c.in_ok-desk.desk ∷ []) c.push_reserved.ensures.items
          (All-push IsSound c.loop-number.desks.items c.in_ok-desk.desk c.loop-number.invariant.sound c.in_ok-desk.ensures.sound);
      room = c.push_reserved.ensures.capacity ∙ c.loop-number.invariant.room;
    }

pub returns : goal.returns
returns c =
    let number = c.loop-number.number in
    let end = c.loop-number.auto.number-end in
    let past = c.loop-number-test.false in
    let desk : ℕ → Contents = even_desk c.args.sessions c.args.quantum c.args.turns c.args.share in
    let each = c.loop-number.invariant.made ∙ ap (λ (n : ℕ). map desk (range_with_len 1 n)) (let same : number - 1 ≡ c.args.sessions = omega (arith, end, past) in same) in
    are_even c.args.sessions c.args.quantum c.args.turns c.args.share c.loop-number.desks.items each c.requires.few c.loop-number.invariant.sound
