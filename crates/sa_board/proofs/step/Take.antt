-- A try to take a desk keeps the rule: where the turn word was 0 the seat has the desk, and where it was 1 nothing changes.
use Rattle.std.proofs.Common.{◌≡◌, ◌≢◌, ℕ, ◌+◌, ◌<◌, eqb, ne_eqb, eq-eqb, Option, Some, List, [], ◌∷◌, length, get_or, set, map, All, ⊎_elim, refl, sym, ap, subst, ◌∙◌, arith, length-set, get_or-set_same, get_or-set_other}
use mathlib.Core.Logic.{dite}
use native.Mathlib.Decide.{ℕ_discrete}
use mathlib.Core.Option.{some, none}
use lib.ListN.{get_elem?}
use lib.Seq.{set-get_or}
use prog.Atomic.{either}
use Rattle.std.proofs.lemmas.List.Elements.{All-nil, All-cons, All-head}
use Rattle.atomic_table.specs.Table.{step, Act, keeps, takes, Valid, carried_after, stepped, Allows}
use Rattle.sa_desk.specs.Contents.{Contents}
use Rattle.sa_desk.specs.New.{no_desk}
use Rattle.sa_board.proofs.Histories.{history-few}
use Rattle.sa_board.specs.declared.view.View.{View}
use Rattle.sa_board.specs.View.{desk_in}
use Rattle.sa_board.specs.Rule.{Table, lock_at, IsLock, IsKnown, IsHolder, IsSeat, IsKept}
use Rattle.sa_board.specs.Steps.{Sitter, IsIdle, meets, took, Took, taken}
use Rattle.sa_board.proofs.Lists.{at_set, set_else, set_again, at_or_else}
use Rattle.sa_board.proofs.Locks.{out_bit, out_bit-yes, out_bit-no, holders-set, holders-same, standing-same, lock-else, stands_for-alone}
use Rattle.sa_board.proofs.Meeting.{IsKnown-met, mine-few}

-- The seat has a view and an act that keep the rule where the word becomes new, and that tell this.
abbrev Goes : List Contents → Table → ℕ → ℕ → ℕ → Sitter → (Sitter → Type 0) → Type 0
Goes founded table word new id me then = (view : View) × (act : Act (Option Contents)) × Valid table.homes me.1 act
    × IsKept founded (stepped table word new id me.1 view act) × then (view, carried_after me.1 act)

-- Two cases of a compare-exchange.
exchanged : (found old new : ℕ) (F : ℕ → Type 0) → (found ≡ old → F new) → (found ≢ old → F found) → F (either (eqb found old) new found)
exchanged found old new F hit miss = dite (ℕ_discrete found old)
    (λ e. subst (λ b. F (either b new found)) (sym (eq-eqb found old e)) (hit e))
    (λ ne. subst (λ b. F (either b new found)) (sym (ne_eqb found old ne)) (miss ne))

-- Another seat has the desk.
lost : (founded : List Contents) (table : Table) → IsKept founded table → (word id : ℕ) (me : Sitter) → get_elem? table.views id ≡ some me.0
    → Goes founded table word (get_or table.words word 0) id me (λ after. after ≡ me)
lost founded table kept word id me stands =
    let words = set-get_or table.words word 0 in
    let views = set_again table.views id me.0 stands in
    let same : table ≡ stepped table word (get_or table.words word 0) id me.1 me.0 keeps = λ k. record { words = sym words k; homes = table.homes; views = sym views k } in
    (me.0, keeps, tt, subst (IsKept founded) same kept, refl)

-- The desk is at home: the seat takes it, and its session meets what it holds.
module _ (founded : List Contents) (table : Table) (kept : IsKept founded table) (index id : ℕ) (me : Sitter) (within : index < length founded) (idle : IsIdle me)
    (stands : get_elem? table.views id ≡ some me.0) (free : get_or table.words index 0 ≡ 0) where
  abbrev found : Contents
  found = desk_in kept.now index

  abbrev after : View
  after = took index found me.0

  abbrev next : Table
  next = record { words = set table.words index 1; homes = set table.homes index none; views = set table.views id after }

  was_known : IsKnown kept.now idle.one
  was_known = All-head (IsKnown kept.now) idle.one [] (subst (All (IsKnown kept.now)) idle.alone (kept.seats id me.0 stands).known)

  alone : after.known ≡ meets index found idle.one ∷ []
  alone = ap (map (meets index found)) idle.alone

  -- its desk's lock
  lock_here : IsLock (desk_in founded index) found index (lock_at (length founded) next index)
  lock_here =
      let lock = kept.locks index within in
      let words = kept.words in
      let turn : get_or (set table.words index 1) index 0 ≡ 1 = get_or-set_same table.words index 1 0 (omega arith) in
      let before : out_bit index me.0 ≡ 0 = out_bit-no index me.0 (λ is. let none = idle.out in omega arith) in
      let now : out_bit index after ≡ 1 = out_bit-yes index after refl in
      let sum = holders-set table.views id me.0 after stands index in
      let held = lock.held in
      record {
        held = omega arith;
        once = omega arith;
        home = λ zero. absurd (omega arith);
        counted = get_or-set_other table.words index (length founded + index) 1 0 (λ same. omega arith) ∙ lock.counted;
        sound = lock.sound;
        number = lock.number;
        terms = lock.terms;
        shares = lock.shares;
      }

  lock_else : (at : ℕ) → at < length founded → at ≢ index → IsLock (desk_in founded at) (desk_in kept.now at) at (lock_at (length founded) next at)
  lock_else at lt apart =
      let out = idle.out in
      let same : out_bit at after ≡ out_bit at me.0 = out_bit-no at after (λ is. apart (omega arith)) ∙ sym (out_bit-no at me.0 (λ is. omega arith)) in
      subst (IsLock (desk_in founded at) (desk_in kept.now at) at)
      (sym (lock-else (length founded) table next index 1 at refl apart (λ is. omega arith) (set_else table.homes index at none apart) (holders-same table.views id me.0 after stands at same)))
      (kept.locks at lt)

  seat_here : IsSeat kept.now kept.giver kept.made id after
  seat_here =
      let seat = kept.seats id me.0 stands in
      let desks = kept.desks in
      let near : index < length kept.now = omega arith in
      let wide = was_known.wide in
      record {
        known = subst (All (IsKnown kept.now)) (sym alone) (All-cons (IsKnown kept.now) (meets index found idle.one) [] (IsKnown-met kept.now idle.one index near was_known) (All-nil (IsKnown kept.now)));
        holder = λ at lt is. let same : at ≡ index = omega arith in
            subst (λ (k : ℕ). IsHolder (desk_in kept.now k) k after.known) (sym same)
            (record { one = meets index found idle.one; alone = alone; met = get_or-set_same idle.one.met index found no_desk (omega arith) });
        gives = seat.gives;
        others = seat.others;
      }

  keeps_rule : IsKept founded next
  keeps_rule =
      let slots = kept.slots in
      record {
        now = kept.now;
        made = kept.made;
        giver = kept.giver;
        desks = kept.desks;
        few = kept.few;
        slots = length-set table.homes index none ∙ kept.slots;
        words = length-set table.words index 1 ∙ kept.words;
        given = kept.given;
        locks = λ at lt. at_or_else (λ (k : ℕ). IsLock (desk_in founded k) (desk_in kept.now k) k (lock_at (length founded) next k)) index at lock_here (lock_else at lt);
        seats = λ seat view at. ⊎_elim
            (λ it. subst (λ (n : ℕ). IsSeat kept.now kept.giver kept.made n view) (sym it.0) (subst (IsSeat kept.now kept.giver kept.made id) it.1 seat_here))
            (λ other. kept.seats seat view other.1)
            (at_set table.views id seat after view at);
        once = λ session. standing-same table.views id me.0 after stands session
            (stands_for-alone session after (meets index found idle.one) alone ∙ sym (stands_for-alone session me.0 idle.one idle.alone))
            ∙ kept.once session;
        unborn = kept.unborn;
      }

  tells : Took index me (after, (index, Some found) ∷ me.1)
  tells =
      let lock = kept.locks index within in
      let desks = kept.desks in
      let wide = was_known.wide in
      record {
        found = found;
        after_is = ap (λ (l : List (ℕ × Option Contents)). (after, (index, Some found) ∷ l)) idle.away;
        one = idle.one;
        alone = idle.alone;
        there = omega arith;
        fits = was_known.fits index (omega arith);
        sound = lock.sound;
        number = lock.number;
        few = mine-few kept.now idle.one (let few = kept.few in omega arith) (λ at lt. history-few (desk_in kept.now at) (kept.locks at (omega arith)).sound) was_known;
      }

  won : Goes founded table index 1 id me (λ later. Took index me later)
  won = (after, takes index (Some found), (kept.locks index within).home free, keeps_rule, tells)

pub takes_desk : (founded : List Contents) (slots index id : ℕ) (me : Sitter) → index < length founded → IsIdle me
    → Allows (IsKept founded) slots id me index (λ n. either (eqb n 0) 1 n) (taken (step slots index 0 1 none) me)
takes_desk founded slots index id me within idle table kept wide stands small =
    let found = get_or table.words index 0 in
    exchanged found 0 1 (λ new. Goes founded table index new id me (taken (step slots index 0 1 none) me found))
    (λ free. let goes = won founded table kept index id me within idle stands free in (goes.0, goes.1, goes.2, goes.3, ((λ _. goes.4), λ held. absurd (held free))))
    (λ held. let goes = lost founded table kept index id me stands in (goes.0, goes.1, goes.2, goes.3, ((λ free. absurd (held free)), λ _. goes.4)))
