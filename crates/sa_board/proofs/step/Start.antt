-- A new board keeps the rule: its words are 0, its slots have the desks that it was founded with, and its one seat stands for session 1.
use Rattle.std.proofs.Common.{◌≡◌, ℕ, zero, suc, ◌+◌, ◌<◌, ◌≤◌, eqb, cond, Option, Some, List, [], ◌∷◌, length, replicate, get_or, map, refl, sym, ap, subst, ◌∙◌, arith}
use mathlib.Core.Option.{some, some-injective, some-ne-none}
use lib.ListN.{get_elem?}
use Rattle.std.proofs.lemmas.Bool.Decides.{nat_tests}
use Rattle.std.proofs.lemmas.List.Elements.{All-nil, All-cons}
use Rattle.std.proofs.lemmas.List.Sums.{sum_by-cons}
use Rattle.std.proofs.lemmas.List.{length-map, length-replicate}
use Rattle.atomic_table.specs.Table.{opening}
use Rattle.sa_desk.specs.Contents.{Contents}
use Rattle.sa_desk.specs.New.{no_desk, AreNew}
use Rattle.sa_board.specs.declared.view.View.{View}
use Rattle.sa_board.specs.View.{desk_in, newcomer, first_view, holders, stands_for, is_given}
use Rattle.sa_board.specs.Rule.{Table, lock_at, IsLock, IsKnown, IsSeat, IsKept}
use Rattle.sa_board.proofs.Locks.{out_bit, out_bit-no, stands_for-alone}
use Rattle.sa_board.proofs.NewDesks.{slice_index_or-replicate, founded-journal, founded-number, founded-unborn, IsKnown-newcomer}

-- Each desk is in its slot.
at_home : (desks : List Contents) (index : ℕ) → index < length desks → get_elem? (map some (map Some desks)) index ≡ some (some (Some (get_or desks index no_desk)))
at_home [] index within = absurd (omega arith)
at_home (desk ∷ rest) zero within = refl
at_home (desk ∷ rest) (suc index) within = at_home rest index (omega arith)

-- Number 1 is given.
one-given : (session : ℕ) → cond (eqb 1 session) 1 0 ≡ is_given 1 session
one-given session = grind (arith, nat_tests)

module _ (founded : List Contents) (are : AreNew founded) (some_there : 1 ≤ length founded) (words : List ℕ) (wide : length words ≡ length founded + length founded)
    (zeros : (index : ℕ) → get_or words index 0 ≡ 0) where
  abbrev view : View
  view = first_view founded

  abbrev table : Table
  table = opening words (map Some founded) view

  nobody_out : (index : ℕ) → holders index (view ∷ []) ≡ 0
  nobody_out index =
      let whole = sum_by-cons (out_bit index) view [] in
      let none = out_bit-no index view (λ is. omega arith) in
      omega arith

  known : IsKnown founded (newcomer 1 founded)
  known = IsKnown-newcomer founded founded 1 are refl (λ index lt. founded-unborn founded are index lt 1) (λ index lt. refl) (λ index lt. refl)

  lock : (index : ℕ) → index < length founded → IsLock (desk_in founded index) (desk_in founded index) index (lock_at (length founded) table index)
  lock index within = record {
    held = nobody_out index ∙ sym (zeros index);
    once = (let zero = zeros index in omega arith);
    home = λ free. at_home founded index within;
    counted = zeros (length founded + index) ∙ ap length (sym (founded-journal founded are index within));
    sound = are.sound index within;
    number = founded-number founded are index within;
    terms = refl;
    shares = refl;
  }

  seat_is : (seat : ℕ) (other : View) → get_elem? (view ∷ []) seat ≡ some other → IsSeat founded 0 1 seat other
  seat_is zero other at = subst (IsSeat founded 0 1 0) (some-injective view other at) (record {
    known = All-cons (IsKnown founded) (newcomer 1 founded) [] known (All-nil (IsKnown founded));
    holder = λ index lt is. absurd (omega arith);
    gives = λ same. refl;
    others = λ apart. absurd (apart refl);
  })
  seat_is (suc seat) other at = absurd (some-ne-none other (sym at))

  pub starts : IsKept founded table
  starts = record {
    now = founded;
    made = 1;
    giver = 0;
    desks = refl;
    few = are.few;
    slots = length-map (map Some founded) some ∙ length-map founded Some;
    words = wide;
    given = some_there;
    locks = lock;
    seats = seat_is;
    once = λ session.
        let whole = sum_by-cons (stands_for session) view [] in
        let here = stands_for-alone session view (newcomer 1 founded) refl in
        let given = one-given session in
        omega arith;
    unborn = λ session index above lt. founded-unborn founded are index lt session;
  }

-- The table that is opened with these words and slots, where what it is told of are the desks.
pub opens : (founded told : List Contents) (slots : List (Option Contents)) (words : List ℕ) (count : ℕ) → AreNew founded → 1 ≤ length founded → told ≡ founded → slots ≡ map Some founded
    → words ≡ replicate (count + count) 0 → count ≡ length founded → IsKept told (opening words slots (first_view told))
opens founded told slots words count are least told_is slots_is words_is count_is =
    let wide : length words ≡ length founded + length founded = (let long = ap length words_is ∙ length-replicate (count + count) 0 in omega arith) in
    let zeros : (index : ℕ) → get_or words index 0 ≡ 0 = λ index. ap (λ (l : List ℕ). get_or l index 0) words_is ∙ slice_index_or-replicate (count + count) index 0 in
    subst (λ (desks : List Contents). IsKept desks (opening words slots (first_view desks))) (sym told_is)
    (subst (λ (held : List (Option Contents)). IsKept founded (opening words held (first_view founded))) (sym slots_is) (starts founded are least words wide zeros))
