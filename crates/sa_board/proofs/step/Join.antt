-- A session's end in another's seat keeps the rule: one seat stands for the sessions of both, and the other for none.
use Rattle.std.proofs.Common.{◌≡◌, ◌≢◌, ℕ, ◌+◌, ◌<◌, eqb, cond, List, length, set, ⊎_elim, refl, sym, subst, ◌∙◌, arith}
use mathlib.Core.Logic.{dite}
use native.Mathlib.Decide.{ℕ_discrete}
use mathlib.Core.Option.{some}
use lib.ListN.{get_elem?}
use Rattle.std.proofs.lemmas.List.Elements.{All-nil, All-append}
use Rattle.std.proofs.lemmas.List.Sums.{sum_by-append}
use Rattle.atomic_table.specs.Table.{Joins}
use Rattle.sa_desk.specs.Contents.{Contents}
use Rattle.sa_board.specs.declared.view.Known.{Known}
use Rattle.sa_board.specs.declared.view.View.{View}
use Rattle.sa_board.specs.View.{desk_in, holders, stands_for, standing}
use Rattle.sa_board.specs.Rule.{Table, lock_at, IsLock, IsKnown, IsSeat, IsKept}
use Rattle.sa_board.specs.Steps.{joined, nobody}
use Rattle.sa_board.proofs.Lists.{at_set, set_else, sum-set}
use Rattle.sa_board.proofs.Locks.{lock_is, out_bit-no, holders-same}

-- Which seat gives numbers then, and what the two views have of them.
record Gives (table : Table) (made id other : ℕ) (both : View) : Type 0 where
  giver : ℕ
  apart : giver ≢ other
  own : id ≡ giver → both.made ≡ made
  none : id ≢ giver → both.made ≡ 0
  else_own : (seat : ℕ) (view : View) → seat ≢ id → seat ≢ other → get_elem? table.views seat ≡ some view → seat ≡ giver → view.made ≡ made
  else_none : (seat : ℕ) (view : View) → seat ≢ id → seat ≢ other → get_elem? table.views seat ≡ some view → seat ≢ giver → view.made ≡ 0

module _ (founded : List Contents) (table : Table) (kept : IsKept founded table) (id other : ℕ) (view its : View) (out : view.out ≡ 0) (its_out : its.out ≡ 0)
    (stands : get_elem? table.views id ≡ some view) (apart : other ≢ id) (there : get_elem? table.views other ≡ some its) where
  abbrev both : View
  both = joined view its

  abbrev first : List View
  first = set table.views id both

  abbrev next : Table
  next = record { words = table.words; homes = table.homes; views = set first other nobody }

  there_first : get_elem? first other ≡ some its
  there_first = set_else table.views id other both apart ∙ there

  gives_next : Gives table kept.made id other both
  gives_next =
      let seat = kept.seats id view stands in
      let its_seat = kept.seats other its there in
      dite (ℕ_discrete other kept.giver)
      (λ same. record {
        giver = id;
        apart = λ is. apart (sym is);
        own = λ is. let none = seat.others (λ same_too. apart (same ∙ sym same_too)) in let own = its_seat.gives same in omega arith;
        none = λ isnt. absurd (isnt refl);
        else_own = λ at v here there is at_v. absurd (here at_v);
        else_none = λ at v here elsewhere is not_id. (kept.seats at v is).others (λ giver. elsewhere (giver ∙ sym same));
      })
      (λ differs. record {
        giver = kept.giver;
        apart = λ is. differs (sym is);
        own = λ is. let own = seat.gives is in let none = its_seat.others differs in omega arith;
        none = λ isnt. let none = seat.others isnt in let its_none = its_seat.others differs in omega arith;
        else_own = λ at v here there is giver. (kept.seats at v is).gives giver;
        else_none = λ at v here there is not_giver. (kept.seats at v is).others not_giver;
      })

  lock : (at : ℕ) → at < length founded → IsLock (desk_in founded at) (desk_in kept.now at) at (lock_at (length founded) next at)
  lock at lt =
      let one : holders at first ≡ holders at table.views = holders-same table.views id view both stands at refl in
      let two : holders at (set first other nobody) ≡ holders at first = holders-same first other its nobody there_first at (out_bit-no at nobody (λ is. omega arith) ∙ sym (out_bit-no at its (λ is. omega arith))) in
      subst (IsLock (desk_in founded at) (desk_in kept.now at) at)
      (lock_is (lock_at (length founded) table at) (lock_at (length founded) next at) refl refl refl (sym (two ∙ one)))
      (kept.locks at lt)

  seat_both : (gives : Gives table kept.made id other both) → IsSeat kept.now gives.giver kept.made id both
  seat_both gives = record {
    known = All-append (IsKnown kept.now) view.known its.known (kept.seats id view stands).known (kept.seats other its there).known;
    holder = λ at lt is. absurd (omega arith);
    gives = gives.own;
    others = gives.none;
  }

  seat_spent : (gives : Gives table kept.made id other both) → IsSeat kept.now gives.giver kept.made other nobody
  seat_spent gives = record {
    known = All-nil (IsKnown kept.now);
    holder = λ at lt is. absurd (omega arith);
    gives = λ same. absurd (gives.apart (sym same));
    others = λ differs. refl;
  }

  seats : (gives : Gives table kept.made id other both) (seat : ℕ) (at_seat : View) → get_elem? next.views seat ≡ some at_seat → IsSeat kept.now gives.giver kept.made seat at_seat
  seats gives seat at_seat at = ⊎_elim
      (λ it. subst (λ (n : ℕ). IsSeat kept.now gives.giver kept.made n at_seat) (sym it.0) (subst (IsSeat kept.now gives.giver kept.made other) it.1 (seat_spent gives)))
      (λ old. ⊎_elim
      (λ it. subst (λ (n : ℕ). IsSeat kept.now gives.giver kept.made n at_seat) (sym it.0) (subst (IsSeat kept.now gives.giver kept.made id) it.1 (seat_both gives)))
      (λ it. let was = kept.seats seat at_seat it.1 in
      record { known = was.known; holder = was.holder; gives = gives.else_own seat at_seat it.0 old.0 it.1; others = gives.else_none seat at_seat it.0 old.0 it.1 })
      (at_set table.views id seat both at_seat old.1))
      (at_set first other seat nobody at_seat at)

  once : (session : ℕ) → standing session next.views ≡ standing session table.views
  once session =
      let count : Known → ℕ = λ known. cond (eqb known.session session) 1 0 in
      let both_is : stands_for session both ≡ stands_for session view + stands_for session its = sum_by-append count view.known its.known in
      let none : stands_for session nobody ≡ 0 = refl in
      let one = sum-set (stands_for session) table.views id view both stands in
      let two = sum-set (stands_for session) first other its nobody there_first in
      omega arith

  keeps_rule : IsKept founded next
  keeps_rule =
      let gives = gives_next in
      record {
        now = kept.now;
        made = kept.made;
        giver = gives.giver;
        desks = kept.desks;
        few = kept.few;
        slots = kept.slots;
        words = kept.words;
        given = kept.given;
        locks = lock;
        seats = seats gives;
        once = λ session. once session ∙ kept.once session;
        unborn = kept.unborn;
      }

pub joins_seats : (founded : List Contents) (id other : ℕ) (view its : View) → view.out ≡ 0 → its.out ≡ 0 → Joins (IsKept founded) id view other its (joined view its) nobody
joins_seats founded id other view its out its_out table kept stands apart there =
    keeps_rule founded table kept id other view its out its_out stands apart (sym (set_else table.views id other (joined view its) apart) ∙ there)
