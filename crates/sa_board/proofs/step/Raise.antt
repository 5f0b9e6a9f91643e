-- A raise of a desk's length word keeps the rule: the desk holds what the call has left, and its session has made the new entries.
use Rattle.std.proofs.Common.{◌≡◌, ◌≢◌, ℕ, ◌+◌, ◌-◌, ◌%◌, ◌^◌, ◌<◌, ◌≤◌, List, [], ◌∷◌, ◌++◌, length, get_or, set, map, All, drop, ⊎_elim, refl, sym, ap, subst, subst₂, ◌∙◌, arith, length-set, length-append, get_or-set_same, get_or-set_other, mod-eq_of_lt}
use mathlib.Core.Option.{some, none}
use lib.ListN.{get_elem?}
use Rattle.std.proofs.lemmas.List.Elements.{All-nil, All-cons, All-head}
use Rattle.atomic_table.specs.Table.{step, keeps, Allows}
use Rattle.sa_desk.specs.declared.entry.Entry.{Entry}
use Rattle.sa_desk.specs.State.{Terms}
use Rattle.sa_desk.specs.Contents.{Contents}
use Rattle.sa_desk.specs.New.{no_desk}
use Rattle.sa_desk.specs.World.{Leaves}
use Rattle.sa_board.proofs.Histories.{history-few}
use Rattle.sa_board.specs.declared.view.Known.{Known}
use Rattle.sa_board.specs.declared.view.View.{View}
use Rattle.sa_board.specs.View.{desk_in, holders}
use Rattle.sa_board.specs.Rule.{Table, Lock, lock_at, IsLock, IsKnown, IsHolder, IsSeat, IsUnborn, IsKept}
use Rattle.sa_board.specs.Steps.{Sitter, adds, raised, Raises, lifted}
use Rattle.sa_board.proofs.Lists.{at_set, at_or_else, alone_is, part_le}
use Rattle.sa_board.proofs.Locks.{out_bit, out_bit-yes, holders-same, standing-same, lock-else, stands_for-alone, known-given, known-apart, out-apart}
use Rattle.sa_board.proofs.Meeting.{IsKnown-others, IsKnown-own, adds-entries, made_by-left_others}

module _ (founded : List Contents) (table : Table) (kept : IsKept founded table) (index id : ℕ) (view : View) (one : Known) (left : Contents) (entries : List Entry)
    (within : index < length founded) (out : view.out ≡ index + 1) (alone : view.known ≡ one ∷ [])
    (leaves : Leaves (desk_in one.met index) left one.session (length one.mine + 1) entries) (stands : get_elem? table.views id ≡ some view) where
  abbrev after : View
  after = raised index left view

  abbrev now : List Contents
  now = set kept.now index left

  abbrev next : ℕ → Table
  next word = record { words = set table.words (length founded + index) word; homes = table.homes; views = set table.views id after }

  near : index < length kept.now
  near = let desks = kept.desks in omega arith

  -- what the session has met is what the desk holds
  met_is : desk_in one.met index ≡ desk_in kept.now index
  met_is =
      let holder = (kept.seats id view stands).holder index near out in
      ap (λ (known : Known). desk_in known.met index) (alone_is one holder.one (sym alone ∙ holder.alone)) ∙ holder.met

  leaves_now : Leaves (desk_in kept.now index) left one.session (length one.mine + 1) entries
  leaves_now = subst (λ (before : Contents). Leaves before left one.session (length one.mine + 1) entries) met_is leaves

  length-left : length left.journal ≡ length (desk_in kept.now index).journal + length entries
  length-left = ap length leaves_now.grown ∙ length-append (desk_in kept.now index).journal entries

  -- the word doesn't wrap
  word_is : (get_or table.words (length founded + index) 0 + length entries) % 2 ^ 64 ≡ length left.journal
  word_is =
      let counted = (kept.locks index within).counted in
      let few = history-few left leaves.sound in
      let whole = length-left in
      let same : get_or table.words (length founded + index) 0 + length entries ≡ length left.journal = omega arith in
      ap (λ n. n % 2 ^ 64) same ∙ mod-eq_of_lt (omega arith)

  one_known : IsKnown kept.now one
  one_known = All-head (IsKnown kept.now) one [] (subst (All (IsKnown kept.now)) alone (kept.seats id view stands).known)

  alone_after : after.known ≡ adds index left one ∷ []
  alone_after = ap (map (adds index left)) alone

  -- The session has a number that was given, and no other seat stands for it.
  one_given : (1 ≤ one.session) × (one.session ≤ kept.made)
  one_given =
      let first : get_or view.known 0 one ≡ one = ap (λ (l : List Known). get_or l 0 one) alone in
      let long : length view.known ≡ 1 = ap length alone in
      subst (λ (known : Known). (1 ≤ known.session) × (known.session ≤ kept.made)) first (known-given founded table kept id 0 view one stands (omega arith))

  lock_here : IsLock (desk_in founded index) (desk_in now index) index (lock_at (length founded) (next (length left.journal)) index)
  lock_here =
      let lock = kept.locks index within in
      let words = kept.words in
      let turn : get_or (set table.words (length founded + index) (length left.journal)) index 0 ≡ get_or table.words index 0 = get_or-set_other table.words (length founded + index) index (length left.journal) 0 (λ is. omega arith) in
      let before = out_bit-yes index view out in
      let part : out_bit index view ≤ holders index table.views = part_le (out_bit index) table.views id view stands in
      let same : holders index (set table.views id after) ≡ holders index table.views = holders-same table.views id view after stands index refl in
      let held = lock.held in
      let once = lock.once in
      subst (λ (desk : Contents). IsLock (desk_in founded index) desk index (lock_at (length founded) (next (length left.journal)) index)) (sym (get_or-set_same kept.now index left no_desk near)) (
      record {
        held = omega arith;
        once = omega arith;
        home = λ zero. absurd (omega arith);
        counted = get_or-set_same table.words (length founded + index) (length left.journal) 0 (omega arith);
        sound = leaves.sound;
        number = ap (λ (terms : Terms). terms.desk) leaves_now.terms ∙ lock.number;
        terms = leaves_now.terms ∙ lock.terms;
        shares = leaves_now.shares ∙ lock.shares;
      })

  lock_else : (at : ℕ) → at < length founded → at ≢ index → IsLock (desk_in founded at) (desk_in now at) at (lock_at (length founded) (next (length left.journal)) at)
  lock_else at lt apart =
      subst₂ (λ (desk : Contents) (lock : Lock). IsLock (desk_in founded at) desk at lock)
      (sym (get_or-set_other kept.now index at left no_desk apart))
      (sym (lock-else (length founded) table (next (length left.journal)) (length founded + index) (length left.journal) at refl (λ is. omega arith) (λ is. apart (omega arith)) refl (holders-same table.views id view after stands at refl)))
      (kept.locks at lt)

  seat_here : IsSeat now kept.giver kept.made id after
  seat_here =
      let seat = kept.seats id view stands in
      let wide = one_known.wide in
      let number = (kept.locks index within).number in
      let mine : one.mine ++ drop (length (desk_in one.met index).journal) left.journal ≡ one.mine ++ entries =
      ap (λ more. one.mine ++ more) (adds-entries kept.now index left one.session (length one.mine + 1) entries near leaves_now (desk_in one.met index) met_is) in
      record {
        known = subst (All (IsKnown now)) (sym alone_after)
            (All-cons (IsKnown now) (adds index left one) []
            (IsKnown-own kept.now index left one.session (length one.mine + 1) entries near leaves_now one (adds index left one).mine refl refl number mine one_known)
            (All-nil (IsKnown now)));
        holder = λ at lt is. let same : at ≡ index = omega arith in
            subst (λ (k : ℕ). IsHolder (desk_in now k) k after.known) (sym same)
            (record { one = adds index left one; alone = alone_after; met = get_or-set_same one.met index left no_desk (let inside : index < length kept.now = near in omega arith) ∙ sym (get_or-set_same kept.now index left no_desk near) });
        gives = seat.gives;
        others = seat.others;
      }

  seat_else : (seat : ℕ) (other : View) → seat ≢ id → get_elem? table.views seat ≡ some other → IsSeat now kept.giver kept.made seat other
  seat_else seat other apart at =
      let its = kept.seats seat other at in
      let long : length now ≡ length kept.now = length-set kept.now index left in
      let desks = kept.desks in
      record {
        known = λ k default lt. IsKnown-others kept.now index left one.session (length one.mine + 1) entries near leaves_now (get_or other.known k default)
            (known-given founded table kept seat k other default at lt).0
            (known-apart founded table kept id seat k view other one default stands alone apart at lt)
            (its.known k default lt);
        holder = λ desk lt is. at_or_else (λ (k : ℕ). other.out ≡ k + 1 → k < length kept.now → IsHolder (desk_in now k) k other.known) index desk
            (λ it_out inside. absurd (out-apart founded table kept id seat index view other within stands out apart at it_out))
            (λ elsewhere it_out inside. subst (λ (d : Contents). IsHolder d desk other.known) (sym (get_or-set_other kept.now index desk left no_desk elsewhere)) (its.holder desk inside it_out))
            is (omega arith);
        gives = its.gives;
        others = its.others;
      }

  unborn : (session at : ℕ) → kept.made < session → at < length founded → IsUnborn session (desk_in now at)
  unborn session at above lt =
      at_or_else (λ (k : ℕ). k < length founded → IsUnborn session (desk_in now k)) index at
      (λ inside. let was = kept.unborn session index above within in
      let given = one_given in
      let apart : session ≢ one.session = λ same. omega arith in
      subst (IsUnborn session) (sym (get_or-set_same kept.now index left no_desk near))
      (record {
        none = made_by-left_others (desk_in kept.now index) left one.session (length one.mine + 1) entries leaves_now session apart ∙ was.none;
        quiet = leaves_now.quiet session (omega arith) apart ∙ was.quiet;
      }))
      (λ elsewhere inside. subst (IsUnborn session) (sym (get_or-set_other kept.now index at left no_desk elsewhere)) (kept.unborn session at above inside))
      lt

  keeps_rule : IsKept founded (next (length left.journal))
  keeps_rule = record {
    now = now;
    made = kept.made;
    giver = kept.giver;
    desks = length-set kept.now index left ∙ kept.desks;
    few = kept.few;
    slots = kept.slots;
    words = length-set table.words (length founded + index) (length left.journal) ∙ kept.words;
    given = kept.given;
    locks = λ at lt. at_or_else (λ (k : ℕ). IsLock (desk_in founded k) (desk_in now k) k (lock_at (length founded) (next (length left.journal)) k)) index at lock_here (lock_else at lt);
    seats = λ seat other at. ⊎_elim
        (λ it. subst (λ (n : ℕ). IsSeat now kept.giver kept.made n other) (sym it.0) (subst (IsSeat now kept.giver kept.made id) it.1 seat_here))
        (λ it. seat_else seat other it.0 it.1)
        (at_set table.views id seat after other at);
    once = λ session. standing-same table.views id view after stands session
        (stands_for-alone session after (adds index left one) alone_after ∙ sym (stands_for-alone session view one alone))
        ∙ kept.once session;
    unborn = unborn;
  }

pub raises_length : (founded : List Contents) (slots word index id count : ℕ) (left : Contents) (me : Sitter) → slots ≡ length founded → word ≡ length founded + index → index < length founded → Raises index me left count
    → Allows (IsKept founded) slots id me word (λ n. (n + count) % 2 ^ 64) (lifted left (step slots word count 0 none) me)
raises_length founded slots word index id count left me slots_is word_at within is table kept homes stands small =
    let at : word - slots ≡ index = omega arith in
    let new : (get_or table.words word 0 + count) % 2 ^ 64 ≡ length left.journal =
    ap (λ n. (get_or table.words n 0 + count) % 2 ^ 64) word_at
    ∙ ap (λ n. (get_or table.words (length founded + index) 0 + n) % 2 ^ 64) is.counted
    ∙ word_is founded table kept index id me.0 is.one left is.entries within is.out is.alone is.leaves stands in (
      raised index left me.0,
      keeps,
      tt,
      subst₂ (λ n new. IsKept founded (record { words = set table.words n new; homes = table.homes; views = set table.views id (raised index left me.0) })) (sym word_at) (sym new)
          (keeps_rule founded table kept index id me.0 is.one left is.entries within is.out is.alone is.leaves stands),
      ap (λ n. (raised n left me.0, me.1)) (sym at),
    )
