-- A desk that is let go keeps the rule: its slot has what the seat's session had met last, which is what the desk holds.
use Rattle.std.proofs.Common.{◌≡◌, ◌≢◌, ℕ, ◌+◌, ◌<◌, Option, Some, List, [], ◌∷◌, length, get_or, set, ⊎_elim, refl, sym, ap, subst, ◌∙◌, arith, length-set, get_or-set_same, get_or-set_other}
use mathlib.Core.Option.{some, none}
use lib.ListN.{get_elem?}
use Rattle.atomic_table.specs.Table.{step, gives, Allows}
use Rattle.sa_desk.specs.Contents.{Contents}
use Rattle.sa_board.specs.declared.view.Known.{Known}
use Rattle.sa_board.specs.declared.view.View.{View}
use Rattle.sa_board.specs.View.{desk_in}
use Rattle.sa_board.specs.Rule.{Table, lock_at, IsLock, IsSeat, IsKept}
use Rattle.sa_board.specs.Steps.{Sitter, released, Returns, given_back}
use Rattle.sa_board.proofs.Lists.{at_set, set_here, set_else, at_or_else, alone_is}
use Rattle.sa_board.proofs.Locks.{out_bit, out_bit-yes, out_bit-no, holders-set, holders-same, standing-same, lock-else}

module _ (founded : List Contents) (table : Table) (kept : IsKept founded table) (index id : ℕ) (view : View) (one : Known) (within : index < length founded)
    (out : view.out ≡ index + 1) (alone : view.known ≡ one ∷ []) (stands : get_elem? table.views id ≡ some view) where
  abbrev left : Contents
  left = desk_in one.met index

  abbrev after : View
  after = released view

  abbrev next : Table
  next = record { words = set table.words index 0; homes = set table.homes index (some (Some left)); views = set table.views id after }

  -- what the session has met is what the desk holds
  met_is : left ≡ desk_in kept.now index
  met_is =
      let desks = kept.desks in
      let holder = (kept.seats id view stands).holder index (omega arith) out in
      ap (λ (known : Known). desk_in known.met index) (alone_is one holder.one (sym alone ∙ holder.alone)) ∙ holder.met

  lock_here : IsLock (desk_in founded index) (desk_in kept.now index) index (lock_at (length founded) next index)
  lock_here =
      let lock = kept.locks index within in
      let words = kept.words in
      let slots = kept.slots in
      let turn : get_or (set table.words index 0) index 0 ≡ 0 = get_or-set_same table.words index 0 0 (omega arith) in
      let before : out_bit index view ≡ 1 = out_bit-yes index view out in
      let now : out_bit index after ≡ 0 = out_bit-no index after (λ is. omega arith) in
      let sum = holders-set table.views id view after stands index in
      let held = lock.held in
      let once = lock.once in
      record {
        held = omega arith;
        once = omega arith;
        home = λ zero. set_here table.homes index (some (Some left)) (omega arith) ∙ ap (λ (desk : Contents). some (some (Some desk))) met_is;
        counted = get_or-set_other table.words index (length founded + index) 0 0 (λ same. omega arith) ∙ lock.counted;
        sound = lock.sound;
        number = lock.number;
        terms = lock.terms;
        shares = lock.shares;
      }

  lock_else : (at : ℕ) → at < length founded → at ≢ index → IsLock (desk_in founded at) (desk_in kept.now at) at (lock_at (length founded) next at)
  lock_else at lt apart =
      let same : out_bit at after ≡ out_bit at view = out_bit-no at after (λ is. omega arith) ∙ sym (out_bit-no at view (λ is. apart (omega arith))) in
      subst (IsLock (desk_in founded at) (desk_in kept.now at) at)
      (sym (lock-else (length founded) table next index 0 at refl apart (λ is. omega arith) (set_else table.homes index at (some (Some left)) apart) (holders-same table.views id view after stands at same)))
      (kept.locks at lt)

  seat_here : IsSeat kept.now kept.giver kept.made id after
  seat_here =
      let seat = kept.seats id view stands in
      record { known = seat.known; holder = λ at lt is. absurd (omega arith); gives = seat.gives; others = seat.others }

  keeps_rule : IsKept founded next
  keeps_rule = record {
    now = kept.now;
    made = kept.made;
    giver = kept.giver;
    desks = kept.desks;
    few = kept.few;
    slots = length-set table.homes index (some (Some left)) ∙ kept.slots;
    words = length-set table.words index 0 ∙ kept.words;
    given = kept.given;
    locks = λ at lt. at_or_else (λ (k : ℕ). IsLock (desk_in founded k) (desk_in kept.now k) k (lock_at (length founded) next k)) index at lock_here (lock_else at lt);
    seats = λ seat other at. ⊎_elim
        (λ it. subst (λ (n : ℕ). IsSeat kept.now kept.giver kept.made n other) (sym it.0) (subst (IsSeat kept.now kept.giver kept.made id) it.1 seat_here))
        (λ it. kept.seats seat other it.1)
        (at_set table.views id seat after other at);
    once = λ session. standing-same table.views id view after stands session refl ∙ kept.once session;
    unborn = kept.unborn;
  }

pub returns_desk : (founded : List Contents) (slots index id : ℕ) (me : Sitter) → index < length founded → Returns index me
    → Allows (IsKept founded) slots id me index (λ _. 0) (given_back (step slots index 0 0 none) me)
returns_desk founded slots index id me within is =
    subst (λ (carried : List (ℕ × Option Contents)). Allows (IsKept founded) slots id (me.0, carried) index (λ _. 0) (given_back (step slots index 0 0 none) (me.0, carried))) (sym is.back)
    (λ table kept wide stands small. (released me.0, gives, tt, keeps_rule founded table kept index id me.0 is.one within is.out is.alone stands, refl))
