-- What the code of a call takes and leaves, of desks on one thread.
use Rattle.std.proofs.Common.{◌≡◌, ℕ, ◌+◌, ◌-◌, ◌*◌, ◌≤◌, ◌^◌, true, List, length, slice_set, slice_index_or, sym, subst, ap, ap₂, ◌∙◌, arith, length-set, length-append}
use Rattle.std.proofs.lemmas.List.{get_or_default}
use Rattle.sa_desk.specs.declared.entry.Entry.{Entry}
use Rattle.sa_desk.specs.declared.stamp.Caller.{Caller}
use Rattle.sa_desk.specs.declared.stamp.Stamp.{Stamp}
use Rattle.sa_desk.specs.Contents.{Contents, IsSound, HasNumbers}
use Rattle.sa_desk.specs.World.{Leaves, IsCall}
use Rattle.sa_desk.specs.New.{no_desk}
use Rattle.sa_desk.specs.Plain.{Plain, desk_at, are_there, world_of, SameDesks, IsPlain}
use Rattle.sa_desk.specs.inner.NextPlain.{made_of, next_plain, stamp_at}
use Rattle.sa_desk.proofs.PlainCall.{are_there-is, next_stamp-counted, made_fits, length-entries_of, made_of-session, IsPlain-next, IsCall-next}
use Rattle.sa_desk.proofs.CallLeft.{stamp_of}

-- The code takes the desk at the index of its number, and makes a stamp.
pub record Takes (plain : Plain) (desk : ℕ) (me : Caller) (at : Contents) (stamp : Stamp) : Type 0 where
  pub index : ℕ
  pub index_is : index ≡ desk - 1
  pub at_is : at ≡ slice_index_or plain.desks index at
  pub stamp_is : stamp ≡ stamp_at plain me

-- The call leaves the desk so, and the code knows how many entries its journal had and has.
pub record Calls (plain : Plain) (desk : ℕ) (me : Caller) (after : Contents → Stamp → Contents) (at : Contents) (stamp : Stamp) (new : Contents) (had has : ℕ) : Type 0 where
  pub takes : Takes plain desk me at stamp
  pub new_is : new ≡ after at stamp
  pub sound : IsSound new
  pub had_is : had ≡ length at.journal
  pub has_is : has ≡ length new.journal

-- The call was one of the session, and what it leaves are desks as before.
pub record IsDone (plain : Plain) (desk : ℕ) (me : Caller) (entries : Contents → Stamp → List Entry) (after : Contents → Stamp → Contents) (later : Plain) : Type 0 where
  pub call : IsCall (world_of plain) (world_of later) desk me.actor (entries (desk_at plain desk) (stamp_of plain me)) (after (desk_at plain desk) (stamp_of plain me))
  pub kept : IsPlain later
  pub same : SameDesks plain later

-- The fields hold these desks, which the contract sees.
module _ (held plain : Plain) (view : held ≡ plain) (is_held : IsPlain held) (desk : ℕ) (me : Caller) (allowed : are_there plain desk me.actor ≡ true) where
  is : IsPlain plain
  is = subst IsPlain view is_held

  -- Numbers are left for the entries of a call.
  pub numbers_before : made_of held me.actor ≤ 16 * 2 ^ 20
  numbers_before =
      let there = are_there-is plain desk me.actor allowed in
      subst (λ plain. made_of plain me.actor ≤ 16 * 2 ^ 20) (sym view) (made_fits plain is me.actor there.session_least there.session_most)

  module _ (at : Contents) (stamp : Stamp) (takes : Takes held desk me at stamp) where
    -- The code takes the desk with that number, and its stamp is that of the session's next entry.
    at_is : at ≡ desk_at plain desk
    at_is =
        let there = are_there-is plain desk me.actor allowed in
        let here = takes.index_is in
        let within = ap (λ plain. length plain.desks) view in
        takes.at_is ∙ get_or_default held.desks takes.index at no_desk (omega arith) ∙ ap₂ (λ plain index. slice_index_or plain.desks index no_desk) view here

    stamp_is : stamp ≡ stamp_of plain me
    stamp_is =
        let there = are_there-is plain desk me.actor allowed in
        takes.stamp_is ∙ ap (λ plain. stamp_at plain me) view ∙ sym (next_stamp-counted plain is me there.session_least there.session_most)

    -- So what is known of those holds of what it takes.
    pub holds_taken : (P : Contents → Stamp → Type 0) → P (desk_at plain desk) (stamp_of plain me) → P at stamp
    holds_taken P holds = subst (λ contents. P contents stamp) (sym at_is) (subst (P (desk_at plain desk)) (sym stamp_is) holds)

    pub HasNumbers-taken : HasNumbers stamp
    HasNumbers-taken = let left = numbers_before in rw takes.stamp_is (omega arith)

  module _ (entries : Contents → Stamp → List Entry) (after : Contents → Stamp → Contents)
      (left : IsSound (after (desk_at plain desk) (stamp_of plain me))
      → Leaves (desk_at plain desk) (after (desk_at plain desk) (stamp_of plain me)) me.actor (stamp_of plain me).seq (entries (desk_at plain desk) (stamp_of plain me)))
      (at : Contents) (stamp : Stamp) (new : Contents) (had has : ℕ) (calls : Calls held desk me after at stamp new had has) where
    abbrev next : Contents
    next = after (desk_at plain desk) (stamp_of plain me)

    abbrev made : List Entry
    made = entries (desk_at plain desk) (stamp_of plain me)

    next_is : new ≡ next
    next_is = calls.new_is ∙ ap₂ after (at_is at stamp calls.takes) (stamp_is at stamp calls.takes)

    is_left : Leaves (desk_at plain desk) next me.actor (made_of plain me.actor + 1) made
    is_left =
        let there = are_there-is plain desk me.actor allowed in
        subst (λ count. Leaves (desk_at plain desk) next me.actor (count + 1) made) (length-entries_of plain is me.actor there.session_least there.session_most)
        (left (subst IsSound next_is calls.sound))

    -- The journal has as many entries more as the call has made.
    counted : has - had ≡ length made
    counted =
        let before = calls.had_is ∙ ap (λ contents. length contents.journal) (at_is at stamp calls.takes) in
        let later = calls.has_is ∙ ap (λ contents. length contents.journal) next_is in
        omega (arith, before, later, ap length is_left.grown, length-append (desk_at plain desk).journal made)

    -- Numbers are left after the call too.
    pub numbers_after : made_of held me.actor + (has - had) ≤ 16 * 2 ^ 20
    numbers_after =
        let there = are_there-is plain desk me.actor allowed in
        let many = length-set plain.desks (desk - 1) next in
        let fits = made_fits (next_plain plain desk me.actor made next) (IsPlain-next plain is desk me.actor allowed made next is_left) me.actor there.session_least (omega arith) in
        let same = ap (λ plain. made_of plain me.actor) view in
        omega (arith, fits, made_of-session plain is desk me.actor allowed made next is_left, same, counted)

    -- The desks with what is left there, and with the entries counted, are those after the call.
    pub done_as : (all : List ℕ) → all ≡ slice_set held.made (me.actor - 1) (made_of held me.actor + (has - had))
        → let later : Plain = record { desks = slice_set held.desks calls.takes.index new; made = all } in IsDone plain desk me entries after later
    done_as all all_is =
        let there = are_there-is plain desk me.actor allowed in
        let later : Plain = record { desks = slice_set held.desks calls.takes.index new; made = all } in
        let of_made = all_is ∙ ap₂ (λ plain count. slice_set plain.made (me.actor - 1) (made_of plain me.actor + count)) view counted in
        let of_desks = ap (λ index. slice_set held.desks index new) calls.takes.index_is ∙ ap₂ (λ plain contents. slice_set plain.desks (desk - 1) contents) view next_is in
        let same : later ≡ next_plain plain desk me.actor made next = ap₂ (λ desks made. let plain : Plain = record { desks = desks; made = made } in plain) of_desks of_made in
        subst (IsDone plain desk me entries after) (sym same) (record {
          call = IsCall-next plain is desk me.actor allowed made next is_left;
          kept = IsPlain-next plain is desk me.actor allowed made next is_left;
          same = length-set plain.desks (desk - 1) next;
        })
