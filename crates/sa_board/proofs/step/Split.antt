-- A new session's seat keeps the rule: its number wasn't given before, and has left no trace.
use Rattle.std.proofs.Common.{◌≡◌, ◌≢◌, ℕ, ◌+◌, ◌<◌, eqb, cond, List, [], ◌∷◌, ◌++◌, length, set, map, All, ⊎_elim, refl, sym, ap, subst, ◌∙◌, arith, length-set}
use mathlib.Core.Logic.{dite}
use native.Mathlib.Decide.{ℕ_discrete}
use mathlib.Core.Option.{some}
use lib.ListN.{get_elem?}
use Rattle.std.proofs.lemmas.Bool.Decides.{nat_tests}
use Rattle.std.proofs.lemmas.List.Elements.{All-nil, All-cons}
use Rattle.std.proofs.lemmas.List.Sums.{sum_by_push}
use Rattle.atomic_table.specs.Table.{Splits}
use Rattle.sa_desk.specs.Contents.{Contents}
use Rattle.sa_desk.specs.New.{AreNew}
use Rattle.sa_board.specs.declared.view.Known.{Known}
use Rattle.sa_board.specs.declared.view.View.{View}
use Rattle.sa_board.specs.View.{desk_in, newcomer, holders, stands_for, standing, is_given}
use Rattle.sa_board.specs.Rule.{Table, lock_at, IsLock, IsKnown, IsSeat, IsKept}
use Rattle.sa_board.specs.Steps.{founder_left, founder_right, IsFounder}
use Rattle.sa_board.proofs.Lists.{at_set, at_snoc, at_within}
use Rattle.sa_board.proofs.Locks.{lock_is, out_bit, out_bit-no, holders-same, standing-same, stands_for-alone}
use Rattle.sa_board.proofs.NewDesks.{IsKnown-newcomer}

-- One more number is given.
given-more : (made session : ℕ) → is_given (made + 1) session ≡ is_given made session + cond (eqb (made + 1) session) 1 0
given-more made session = grind (arith, nat_tests)

module _ (founded : List Contents) (are : AreNew founded) (table : Table) (kept : IsKept founded table) (id : ℕ) (view : View) (founder : IsFounder founded view)
    (stands : get_elem? table.views id ≡ some view) where
  abbrev left : View
  left = founder_left view

  abbrev right : View
  right = founder_right view

  abbrev next : Table
  next = record { words = table.words; homes = table.homes; views = set table.views id left ++ right ∷ [] }

  giver_is : kept.giver ≡ id
  giver_is =
      let seat = kept.seats id view stands in
      dite (ℕ_discrete id kept.giver) (λ same. sym same) (λ apart. let none = seat.others apart in let least = founder.least in absurd (omega arith))

  made_is : view.made ≡ kept.made
  made_is = (kept.seats id view stands).gives (sym giver_is)

  alone : right.known ≡ newcomer (view.made + 1) founded ∷ []
  alone = ap (map (λ (one : Known). newcomer (view.made + 1) one.met)) founder.alone

  long : length (set table.views id left) ≡ length table.views
  long = length-set table.views id left

  lock : (at : ℕ) → at < length founded → IsLock (desk_in founded at) (desk_in kept.now at) at (lock_at (length founded) next at)
  lock at lt =
      let out : out_bit at right ≡ 0 = out_bit-no at right (λ is. omega arith) in
      let more : holders at (set table.views id left ++ right ∷ []) ≡ holders at (set table.views id left) + out_bit at right = sum_by_push (out_bit at) (set table.views id left) right in
      let same : holders at (set table.views id left) ≡ holders at table.views = holders-same table.views id view left stands at refl in
      subst (IsLock (desk_in founded at) (desk_in kept.now at) at)
      (lock_is (lock_at (length founded) table at) (lock_at (length founded) next at) refl refl refl (omega arith))
      (kept.locks at lt)

  seat_left : IsSeat kept.now kept.giver (kept.made + 1) id left
  seat_left =
      let seat = kept.seats id view stands in
      let made = made_is in
      record { known = seat.known; holder = seat.holder; gives = λ same. omega arith; others = λ apart. absurd (apart (sym giver_is)) }

  seat_right : (seat : ℕ) → seat ≡ length table.views → IsSeat kept.now kept.giver (kept.made + 1) seat right
  seat_right seat is =
      let made = made_is in
      let giver = giver_is in
      let inside = at_within table.views id view stands in
      let known : IsKnown kept.now (newcomer (view.made + 1) founded) = IsKnown-newcomer founded kept.now (view.made + 1) are kept.desks
      (λ at lt. kept.unborn (view.made + 1) at (omega arith) lt)
      (λ at lt. (kept.locks at lt).terms)
      (λ at lt. (kept.locks at lt).shares) in
      record {
        known = subst (All (IsKnown kept.now)) (sym alone) (All-cons (IsKnown kept.now) (newcomer (view.made + 1) founded) [] known (All-nil (IsKnown kept.now)));
        holder = λ at lt out. absurd (omega arith);
        gives = λ same. absurd (omega arith);
        others = λ apart. refl;
      }

  seat_else : (seat : ℕ) (other : View) → seat ≢ id → get_elem? table.views seat ≡ some other → IsSeat kept.now kept.giver (kept.made + 1) seat other
  seat_else seat other apart at =
      let its = kept.seats seat other at in
      record { known = its.known; holder = its.holder; gives = λ same. absurd (apart (same ∙ giver_is)); others = its.others }

  seats : (seat : ℕ) (other : View) → get_elem? next.views seat ≡ some other → IsSeat kept.now kept.giver (kept.made + 1) seat other
  seats seat other at = ⊎_elim
      (λ old. ⊎_elim
      (λ it. subst (λ (n : ℕ). IsSeat kept.now kept.giver (kept.made + 1) n other) (sym it.0) (subst (IsSeat kept.now kept.giver (kept.made + 1) id) it.1 seat_left))
      (λ it. seat_else seat other it.0 it.1)
      (at_set table.views id seat left other old))
      (λ it. subst (IsSeat kept.now kept.giver (kept.made + 1) seat) it.1 (seat_right seat (it.0 ∙ long)))
      (at_snoc (set table.views id left) right other seat at)

  once : (session : ℕ) → standing session next.views ≡ is_given (kept.made + 1) session
  once session =
      let more : standing session (set table.views id left ++ right ∷ []) ≡ standing session (set table.views id left) + stands_for session right = sum_by_push (stands_for session) (set table.views id left) right in
      let same : standing session (set table.views id left) ≡ standing session table.views = standing-same table.views id view left stands session refl in
      let here : stands_for session right ≡ cond (eqb (kept.made + 1) session) 1 0 = stands_for-alone session right (newcomer (view.made + 1) founded) alone ∙ ap (λ n. cond (eqb (n + 1) session) 1 0) made_is in
      let old = kept.once session in
      let new = given-more kept.made session in
      omega arith

  keeps_rule : IsKept founded next
  keeps_rule = record {
    now = kept.now;
    made = kept.made + 1;
    giver = kept.giver;
    desks = kept.desks;
    few = kept.few;
    slots = kept.slots;
    words = kept.words;
    given = (let made = made_is in let most = founder.most in omega arith);
    locks = lock;
    seats = seats;
    once = once;
    unborn = λ session at above lt. kept.unborn session at (omega arith) lt;
  }

pub splits_seat : (founded : List Contents) → AreNew founded → (id : ℕ) (view : View) → IsFounder founded view → Splits (IsKept founded) id view (founder_left view) (founder_right view)
splits_seat founded are id view founder table kept stands = keeps_rule founded are table kept id view founder stands
