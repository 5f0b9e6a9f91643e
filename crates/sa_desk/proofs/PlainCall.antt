-- What one call at a desk leaves of desks on one thread.
use Rattle.std.proofs.Common.{◌≡◌, ◌≢◌, ℕ, zero, suc, ◌+◌, ◌-◌, ◌*◌, ◌<◌, ◌≤◌, ◌^◌, ◌==◌, ◌&&◌, Bool, true, false, inl, inr, List, [], ◌∷◌, ◌++◌, length, filter, sum_by, slice_index_or, slice_set, nat_lt, All, refl, sym, subst, ap, ap₂, ◌∙◌, arith, append_assoc, append-nil, length-set, get_or-set_same, get_or-set_other}
use Rattle.std.specs.List.{flat_map, range_with_len}
use Rattle.std.proofs.lemmas.Grind.{common_steps}
use Rattle.std.proofs.lemmas.Bool.{cases_Bool, cases_eq, eq-eqb, ne_eqb}
use Rattle.std.proofs.lemmas.Bool.Decides.{nat_tests}
use Rattle.std.proofs.lemmas.List.{map-append, length-map}
use Rattle.std.proofs.lemmas.List.FromFn.{length-range_with_len}
use Rattle.std.proofs.lemmas.List.Concat.{flat_map-append, length-flat_map}
use Rattle.std.proofs.lemmas.List.Elements.{All-nil, All-weaker, filter-append}
use Rattle.std.proofs.lemmas.List.Sums.{sum_by-cons}
use Rattle.sa_desk.specs.declared.entry.Entry.{Entry}
use Rattle.sa_desk.specs.declared.stamp.Caller.{Caller}
use Rattle.sa_desk.specs.declared.stamp.Stamp.{Stamp}
use Rattle.sa_desk.specs.Runs.{IsEntryOf}
use Rattle.sa_desk.specs.Contents.{Contents, IsSound}
use Rattle.sa_desk.specs.New.{no_desk}
use Rattle.sa_desk.specs.World.{quiet_of, Leaves, made_by, standing_on, next_stamp, Begins, Meets, IsCall}
use Rattle.sa_desk.specs.Plain.{Plain, all_entries, is_numbered, entries_of, desk_at, are_there, quiet_at, world_of, AreOwn, IsPlain}
use Rattle.sa_desk.specs.inner.NextPlain.{made_of, next_plain}
use Rattle.sa_desk.proofs.Capacity.{sound_fits}
use Rattle.sa_desk.proofs.Numbered.{filter-nothing, filter-everything, filter-finer, filter-none_left, Inserted, filter-unchanged, filter-new, length-inserted, range-append, flat_map-same, numbers_of, AreNumbered, none_numbered, each_numbered, flat_map-nothing}

-- The desk and the session are among those that are there.
pub record AreThere (plain : Plain) (desk session : ℕ) : Type 0 where
  pub desk_least : 1 ≤ desk
  pub desk_most : desk ≤ length plain.desks
  pub session_least : 1 ≤ session
  pub session_most : session ≤ length plain.desks

-- A desk has more entries at the end of its journal, and so have all desks together at some index.
pub all_entries-set : (desks : List Contents) (index : ℕ) (next : Contents) (entries : List Entry) → index < length desks
    → next.journal ≡ (slice_index_or desks index no_desk).journal ++ entries → Inserted entries (all_entries desks) (all_entries (slice_set desks index next))
all_entries-set [] index next entries within grown = absurd (omega arith)
all_entries-set (desk ∷ rest) zero next entries within grown = record {
  first = desk.journal;
  last = all_entries rest;
  before_is = refl;
  later_is = ap (λ journal. journal ++ all_entries rest) grown ∙ append_assoc desk.journal entries (all_entries rest);
}
all_entries-set (desk ∷ rest) (suc index) next entries within grown =
    let more = all_entries-set rest index next entries (omega arith) grown in record {
      first = desk.journal ++ more.first;
      last = more.last;
      before_is = ap (λ all. desk.journal ++ all) more.before_is ∙ sym (append_assoc desk.journal more.first more.last);
      later_is = ap (λ all. desk.journal ++ all) more.later_is ∙ sym (append_assoc desk.journal more.first (entries ++ more.last));
    }

-- None of all entries passes where none passes on any desk.
filter-all_entries : (p : Entry → Bool) (desks : List Contents) → ((index : ℕ) → index < length desks → filter p (slice_index_or desks index no_desk).journal ≡ []) → filter p (all_entries desks) ≡ []
filter-all_entries p [] none = refl
filter-all_entries p (desk ∷ rest) none =
    filter-append p desk.journal (all_entries rest)
    ∙ ap₂ ◌++◌ (none 0 (omega arith)) (filter-all_entries p rest (λ index within. none (suc index) (omega arith)))

-- So many entries are there as the desks' journals can have.
sum-journals : (desks : List Contents) (most : ℕ) → ((index : ℕ) → index < length desks → length (slice_index_or desks index no_desk).journal ≤ most)
    → sum_by (λ desk. length desk.journal) desks ≤ length desks * most
sum-journals [] most each = omega arith
sum-journals (desk ∷ rest) most each =
    let here : length desk.journal ≤ most = each 0 (omega arith) in
    let rests = sum-journals rest most (λ index within. each (suc index) (omega arith)) in
    let both = sum_by-cons (λ desk. length desk.journal) desk rest in
    grind arith

-- by the number of a desk
abbrev by_index : (plain : Plain) (P : Contents → Type 0) → ((desk : ℕ) → 1 ≤ desk → desk ≤ length plain.desks → P (desk_at plain desk)) → (index : ℕ) → index < length plain.desks → P (slice_index_or plain.desks index no_desk)
by_index plain P each index within =
    let number : index + 1 - 1 ≡ index = omega arith in
    subst (λ at. P (slice_index_or plain.desks at no_desk)) number (each (index + 1) (omega arith) (omega arith))

module _ (plain : Plain) (is : IsPlain plain) where
  -- No session has more entries than numbers are left for.
  pub made_fits : (session : ℕ) → 1 ≤ session → session ≤ length plain.desks → made_of plain session ≤ 16 * 2 ^ 20
  made_fits session least most =
      let each = by_index plain (λ desk. length desk.journal ≤ 2 ^ 20) (λ desk least most.
      let sound = is.sound desk least most in
      let fits = sound_fits (desk_at plain desk) sound in
      let few = sound.few in
      omega arith) in
      let all = sum-journals plain.desks (2 ^ 20) each in
      let within = (is.entries session least most).within in
      let few = is.few in
      omega arith

  -- Its entries are as many as are counted, and are numbered in a row.
  pub length-entries_of : (session : ℕ) → 1 ≤ session → session ≤ length plain.desks → length (entries_of plain session) ≡ made_of plain session
  length-entries_of session least most =
      let numbered = (is.entries session least most).numbered in
      sym (length-map (entries_of plain session) (λ entry. entry.seq)) ∙ ap length numbered ∙ length-range_with_len 1 (made_of plain session)

  AreNumbered-entries_of : (session : ℕ) → 1 ≤ session → session ≤ length plain.desks → AreNumbered 1 (entries_of plain session)
  AreNumbered-entries_of session least most =
      (is.entries session least most).numbered ∙ ap (range_with_len 1) (sym (length-entries_of session least most))

  -- The stamp of its next entry has the number after those.
  pub next_stamp-counted : (me : Caller) → 1 ≤ me.actor → me.actor ≤ length plain.desks
      → let stamp : Stamp = record { actor = me.actor; seq = made_of plain me.actor + 1; turn = me.turn } in next_stamp (world_of plain) me ≡ stamp
  next_stamp-counted me least most =
      ap (λ count. let stamp : Stamp = record { actor = me.actor; seq = count + 1; turn = me.turn } in stamp) (length-entries_of me.actor least most)

  -- No entry has a number past those, and none is nobody's.
  none_later : (session number : ℕ) → 1 ≤ session → session ≤ length plain.desks → made_of plain session < number → filter (is_numbered session number) (all_entries plain.desks) ≡ []
  none_later session number least most past =
      filter-all_entries (is_numbered session number) plain.desks
      (by_index plain (λ desk. filter (is_numbered session number) desk.journal ≡ []) (λ desk from to.
      let mine = entries_of plain session in
      let many = length-entries_of session least most in
      let none = none_numbered session number 1 mine (AreNumbered-entries_of session least most) (λ k low high. omega arith) in
      let own = (is.entries session least most).own desk from to in
      sym (filter-finer (is_numbered session number) (λ entry. entry.actor == session) (λ entry other. ap (λ by. by && (entry.seq == number)) other) (desk_at plain desk).journal)
      ∙ ap (filter (is_numbered session number)) own
      ∙ filter-none_left (is_numbered session number) (λ entry. entry.desk == desk) mine none))

  none_of_nobody : (number : ℕ) → filter (is_numbered 0 number) (all_entries plain.desks) ≡ []
  none_of_nobody number =
      filter-all_entries (is_numbered 0 number) plain.desks
      (by_index plain (λ desk. filter (is_numbered 0 number) desk.journal ≡ []) (λ desk from to.
      let at = desk_at plain desk in
      filter-nothing (is_numbered 0 number) at.journal
      (All-weaker (IsEntryOf at.terms.desk (length at.shares)) (λ entry. is_numbered 0 number entry ≡ false)
      (λ entry is. ap (λ by. by && (entry.seq == number)) (ne_eqb entry.actor 0 (λ same. let least = is.least in absurd (omega arith))))
      at.journal (is.sound desk from to).entries)))

-- Whoever may call is there.
pub are_there-is : (plain : Plain) (desk session : ℕ) → are_there plain desk session ≡ true → AreThere plain desk session
are_there-is plain desk session allowed = record {
  desk_least = grind (arith, nat_tests, common_steps);
  desk_most = grind (arith, nat_tests, common_steps);
  session_least = grind (arith, nat_tests, common_steps);
  session_most = grind (arith, nat_tests, common_steps);
}

-- Whoever is there finds each desk as it may be: it has seen all.
pub Meets-plain : (plain : Plain) → IsPlain plain → (desk session : ℕ) → are_there plain desk session ≡ true → Meets (world_of plain) desk session
Meets-plain plain is desk session allowed =
    let there = are_there-is plain desk session allowed in
    record {
      sound = is.sound desk there.desk_least there.desk_most;
      number = is.numbers desk there.desk_least there.desk_most;
      terms = refl;
      shares = refl;
      others = [];
      grown = sym (append-nil (desk_at plain desk).journal);
      of_others = All-nil (λ entry. entry.actor ≢ session);
      own = (is.entries session there.session_least there.session_most).own desk there.desk_least there.desk_most;
      counted = rw allowed refl;
    }

module _ (plain : Plain) (is : IsPlain plain) (desk session : ℕ) (allowed : are_there plain desk session ≡ true) (entries : List Entry) (next : Contents) (left : Leaves (desk_at plain desk) next session (made_of plain session + 1) entries) where
  abbrev pub after : Plain
  after = next_plain plain desk session entries next

  there : AreThere plain desk session
  there = are_there-is plain desk session allowed

  inserted : Inserted entries (all_entries plain.desks) (all_entries after.desks)
  inserted = let there = there in all_entries-set plain.desks (desk - 1) next entries (omega arith) left.grown

  -- The desk is what was left there, and the others are as before.
  here : desk_at after desk ≡ next
  here = let there = there in get_or-set_same plain.desks (desk - 1) next no_desk (omega arith)

  elsewhere : (at : ℕ) → at - 1 ≢ desk - 1 → desk_at after at ≡ desk_at plain at
  elsewhere at other = get_or-set_other plain.desks (desk - 1) (at - 1) next no_desk other

  each_desk : (P : ℕ → Contents → Type 0) → P desk next → ((at : ℕ) → at ≢ desk → 1 ≤ at → at ≤ length plain.desks → P at (desk_at plain at))
      → (at : ℕ) → 1 ≤ at → at ≤ length after.desks → P at (desk_at after at)
  each_desk P at_desk others at least most =
      let within : at ≤ length plain.desks = rw (length-set plain.desks (desk - 1) next) at most in
      let there = there in
      elim (cases_eq at desk) [
        | inl same ↦ subst (λ number. P number (desk_at after number)) (sym same) (subst (P desk) (sym here) at_desk)
        | inr other ↦ subst (P at) (sym (elsewhere at (λ same. other (omega arith)))) (others at other least within)
      ]

  both_ways : (P : Contents → Contents → Type 0) → P (desk_at plain desk) next → ((contents : Contents) → P contents contents) → (at : ℕ) → P (desk_at plain at) (desk_at after at)
  both_ways P changed same at =
      elim (cases_eq (at - 1) (desk - 1)) [
        | inl is ↦
            let old : desk_at plain at ≡ desk_at plain desk = ap (λ index. slice_index_or plain.desks index no_desk) is in
            let new : desk_at after at ≡ next = ap (λ index. slice_index_or after.desks index no_desk) is ∙ here in
            subst (λ before. P before (desk_at after at)) (sym old) (subst (P (desk_at plain desk)) (sym new) changed)
        | inr other ↦ subst (P (desk_at plain at)) (sym (elsewhere at other)) (same (desk_at plain at))
      ]

  -- The session has made these entries more.
  pub made_of-session : made_of after session ≡ made_of plain session + length entries
  made_of-session = let there = there in let many = is.sessions in get_or-set_same plain.made (session - 1) (made_of plain session + length entries) 0 (omega arith)

  new_entries : (number : ℕ) → made_of plain session < number → filter (is_numbered session number) (all_entries after.desks) ≡ filter (is_numbered session number) entries
  new_entries number past =
      let there = there in
      filter-new (is_numbered session number) entries (all_entries plain.desks) (all_entries after.desks) inserted (none_later plain is session number there.session_least there.session_most past)

  old_entries : (number : ℕ) → number ≤ made_of plain session → filter (is_numbered session number) (all_entries after.desks) ≡ filter (is_numbered session number) (all_entries plain.desks)
  old_entries number within =
      filter-unchanged (is_numbered session number) entries (all_entries plain.desks) (all_entries after.desks) inserted
      (none_numbered session number (made_of plain session + 1) entries left.numbered (λ k low high. omega arith))

  pub entries_of-session : entries_of after session ≡ entries_of plain session ++ entries
  entries_of-session =
      let find = λ (number : ℕ). filter (is_numbered session number) (all_entries after.desks) in
      let first = 1 + made_of plain session in
      let start : made_of plain session + 1 ≡ first = omega arith in
      let numbered : AreNumbered first entries = subst (λ from. AreNumbered from entries) start left.numbered in
      ap (λ count. flat_map find (range_with_len 1 count)) made_of-session
      ∙ ap (flat_map find) (range-append 1 (made_of plain session) (length entries))
      ∙ flat_map-append find (range_with_len 1 (made_of plain session)) (range_with_len first (length entries))
      ∙ ap₂ ◌++◌
      (flat_map-same find (λ number. filter (is_numbered session number) (all_entries plain.desks)) 1 (made_of plain session) (λ n least most. old_entries n (omega arith)))
      (flat_map-same find (λ number. filter (is_numbered session number) entries) first (length entries) (λ n least most. new_entries n (omega arith))
      ∙ each_numbered session first entries left.own numbered)

  -- The others have made what they had.
  others_entries : (other number : ℕ) → other ≢ session → filter (is_numbered other number) (all_entries after.desks) ≡ filter (is_numbered other number) (all_entries plain.desks)
  others_entries other number apart =
      filter-unchanged (is_numbered other number) entries (all_entries plain.desks) (all_entries after.desks) inserted
      (filter-nothing (is_numbered other number) entries
      (All-weaker (λ entry. entry.actor ≡ session) (λ entry. is_numbered other number entry ≡ false)
      (λ entry by. ap (λ is. is && (entry.seq == number)) (ne_eqb entry.actor other (λ same. apart (sym same ∙ by)))) entries left.own))

  pub entries_of-others : (other : ℕ) → other ≢ session → entries_of after other ≡ entries_of plain other
  entries_of-others other apart =
      let there = there in
      elim (cases_eq (other - 1) (session - 1)) [
        | inl same ↦
            let nobody : other ≡ 0 = omega arith in
            let before = flat_map-nothing (λ number. filter (is_numbered 0 number) (all_entries plain.desks)) 1 (made_of plain 0) (none_of_nobody plain is) in
            let later = flat_map-nothing (λ number. filter (is_numbered 0 number) (all_entries after.desks)) 1 (made_of after 0)
            (λ number. others_entries 0 number (λ zero. apart (nobody ∙ zero)) ∙ none_of_nobody plain is number) in
            subst (λ who. entries_of after who ≡ entries_of plain who) (sym nobody) (later ∙ sym before)
        | inr elsewhere ↦
            let made : made_of after other ≡ made_of plain other = get_or-set_other plain.made (session - 1) (other - 1) (made_of plain session + length entries) 0 elsewhere in
            ap (λ count. flat_map (λ number. filter (is_numbered other number) (all_entries after.desks)) (range_with_len 1 count)) made
            ∙ flat_map-same (λ number. filter (is_numbered other number) (all_entries after.desks)) (λ number. filter (is_numbered other number) (all_entries plain.desks)) 1 (made_of plain other)
            (λ n least most. others_entries other n apart)
      ]

  -- what stands on a desk of the new entries, and what of them is a session's
  standing : All (λ entry. entry.desk ≡ desk) entries
  standing = let there = there in subst (λ number. All (λ entry. entry.desk ≡ number) entries) (is.numbers desk there.desk_least there.desk_most) left.standing

  standing-here : standing_on desk entries ≡ entries
  standing-here = filter-everything (λ entry. entry.desk == desk) entries (All-weaker (λ entry. entry.desk ≡ desk) (λ entry. (entry.desk == desk) ≡ true) (λ entry is. eq-eqb entry.desk desk is) entries standing)

  standing-elsewhere : (at : ℕ) → at ≢ desk → standing_on at entries ≡ []
  standing-elsewhere at apart =
      filter-nothing (λ entry. entry.desk == at) entries
      (All-weaker (λ entry. entry.desk ≡ desk) (λ entry. (entry.desk == at) ≡ false) (λ entry is. ne_eqb entry.desk at (λ same. apart (sym same ∙ is))) entries standing)

  made_by-session : made_by session entries ≡ entries
  made_by-session = filter-everything (λ entry. entry.actor == session) entries (All-weaker (λ entry. entry.actor ≡ session) (λ entry. (entry.actor == session) ≡ true) (λ entry is. eq-eqb entry.actor session is) entries left.own)

  made_by-others : (other : ℕ) → other ≢ session → made_by other entries ≡ []
  made_by-others other apart =
      filter-nothing (λ entry. entry.actor == other) entries
      (All-weaker (λ entry. entry.actor ≡ session) (λ entry. (entry.actor == other) ≡ false) (λ entry is. ne_eqb entry.actor other (λ same. apart (sym same ∙ is))) entries left.own)

  made_by-left : (who : ℕ) → made_by who next.journal ≡ made_by who (desk_at plain desk).journal ++ made_by who entries
  made_by-left who = ap (made_by who) left.grown ∙ filter-append (λ entry. entry.actor == who) (desk_at plain desk).journal entries

  standing-session : (at : ℕ) → standing_on at (entries_of after session) ≡ standing_on at (entries_of plain session) ++ standing_on at entries
  standing-session at = ap (standing_on at) entries_of-session ∙ filter-append (λ entry. entry.desk == at) (entries_of plain session) entries

  -- As many entries are there more.
  more_entries : sum_by (λ desk. length desk.journal) after.desks ≡ sum_by (λ desk. length desk.journal) plain.desks + length entries
  more_entries =
      sym (length-flat_map (λ (desk : Contents). desk.journal) after.desks) ∙ length-inserted entries (all_entries plain.desks) (all_entries after.desks) inserted
      ∙ ap (λ count. count + length entries) (length-flat_map (λ (desk : Contents). desk.journal) plain.desks)

  AreOwn-session : AreOwn after session
  AreOwn-session =
      let there = there in
      let before = is.entries session there.session_least there.session_most in
      record {
        own = each_desk (λ at contents. made_by session contents.journal ≡ standing_on at (entries_of after session))
            (made_by-left session ∙ ap₂ ◌++◌ (before.own desk there.desk_least there.desk_most) (made_by-session ∙ sym standing-here) ∙ sym (standing-session desk))
            (λ at apart least most.
            before.own at least most ∙ sym (standing-session at ∙ ap (λ more. standing_on at (entries_of plain session) ++ more) (standing-elsewhere at apart) ∙ append-nil (standing_on at (entries_of plain session))));
        numbered =
            let start : made_of plain session + 1 ≡ 1 + made_of plain session = omega arith in
            ap numbers_of entries_of-session ∙ map-append (λ entry. entry.seq) (entries_of plain session) entries
            ∙ ap₂ ◌++◌ before.numbered (left.numbered ∙ ap (λ from. range_with_len from (length entries)) start)
            ∙ sym (range-append 1 (made_of plain session) (length entries)) ∙ ap (range_with_len 1) (sym made_of-session);
        within = let within = before.within in omega (arith, more_entries, made_of-session, within);
      }

  AreOwn-others : (other : ℕ) → 1 ≤ other → other ≤ length plain.desks → other ≢ session → AreOwn after other
  AreOwn-others other least most apart =
      let there = there in
      let before = is.entries other least most in
      let same = entries_of-others other apart in
      let made : made_of after other ≡ made_of plain other = get_or-set_other plain.made (session - 1) (other - 1) (made_of plain session + length entries) 0 (λ same. apart (omega arith)) in
      record {
        own = each_desk (λ at contents. made_by other contents.journal ≡ standing_on at (entries_of after other))
            (made_by-left other ∙ ap (λ more. made_by other (desk_at plain desk).journal ++ more) (made_by-others other apart) ∙ append-nil (made_by other (desk_at plain desk).journal)
            ∙ before.own desk there.desk_least there.desk_most ∙ ap (standing_on desk) (sym same))
            (λ at elsewhere from to. before.own at from to ∙ ap (standing_on at) (sym same));
        numbered = ap numbers_of same ∙ before.numbered ∙ ap (range_with_len 1) (sym made);
        within = let within = before.within in omega (arith, more_entries, made, within);
      }

  -- They are desks as before.
  pub IsPlain-next : IsPlain after
  IsPlain-next =
      let there = there in
      let many = length-set plain.desks (desk - 1) next in
      record {
        few = let few = is.few in omega (arith, many, few);
        sessions = length-set plain.made (session - 1) (made_of plain session + length entries) ∙ is.sessions ∙ sym many;
        sound = each_desk (λ at contents. IsSound contents) left.sound (λ at apart. is.sound at);
        numbers = each_desk (λ at contents. contents.terms.desk ≡ at) (ap (λ terms. terms.desk) left.terms ∙ is.numbers desk there.desk_least there.desk_most) (λ at apart. is.numbers at);
        shares = each_desk (λ at contents. length contents.shares ≡ length after.desks)
            (ap length left.shares ∙ is.shares desk there.desk_least there.desk_most ∙ sym many) (λ at apart least most. is.shares at least most ∙ sym many);
        entries = λ who least most.
            let within : who ≤ length plain.desks = omega (arith, many, most) in
            elim (cases_eq who session) [
              | inl same ↦ subst (AreOwn after) (sym same) AreOwn-session
              | inr apart ↦ AreOwn-others who least within apart
            ];
      }

  -- Who is there stays, and so does what is counted that isn't the session's at the desk.
  same_there : (at who : ℕ) → are_there after at who ≡ are_there plain at who
  same_there at who = ap (λ count. (nat_lt 0 at && nat_lt at (count + 1)) && (nat_lt 0 who && nat_lt who (count + 1))) (length-set plain.desks (desk - 1) next)

  same_quiet : (other at : ℕ) → (at ≡ desk → other ≢ session) → quiet_at after other at ≡ quiet_at plain other at
  same_quiet other at apart =
      elim (cases_Bool (are_there plain at other)) [
        | inl are ↦
            let others = are_there-is plain at other are in
            let there = there in
            let same : quiet_of (desk_at after at) other ≡ quiet_of (desk_at plain at) other =
            elim (cases_eq at desk) [
              | inl same ↦
                  subst (λ number. quiet_of (desk_at after number) other ≡ quiet_of (desk_at plain number) other) (sym same)
                  (ap (λ contents. quiet_of contents other) here ∙ left.quiet other others.session_least (apart same))
              | inr elsewhere_at ↦ ap (λ contents. quiet_of contents other) (elsewhere at (λ same. elsewhere_at (omega arith)))
            ] in
            rw (same_there at other, are) same
        | inr none ↦ rw (same_there at other, none) refl
      ]

  -- The call was one of the session.
  pub IsCall-next : IsCall (world_of plain) (world_of after) desk session entries next
  IsCall-next =
      let there = there in
      record {
        met = Meets-plain plain is desk session allowed;
        leaves = subst (λ count. Leaves (desk_at plain desk) next session (count + 1) entries) (sym (length-entries_of plain is session there.session_least there.session_most)) left;
        seen_is = ap (λ contents. contents.journal) here;
        counted_is = rw (same_there desk session, allowed) (ap (λ contents. quiet_of contents session) here);
        mine_is = entries_of-session;
        seen_more = λ other. both_ways (λ before later. Begins before.journal later.journal) (entries, left.grown) (λ contents. ([], sym (append-nil contents.journal)));
        others_mine = entries_of-others;
        others_quiet = λ other at apart. same_quiet other at (λ is. apart);
        quiet_elsewhere = λ at apart. same_quiet session at (λ same. absurd (apart same));
        same_terms = both_ways (λ before later. later.terms ≡ before.terms) left.terms (λ contents. refl);
        same_shares = both_ways (λ before later. later.shares ≡ before.shares) left.shares (λ contents. refl);
        left_is = λ other may. here;
        elsewhere_is = λ at other apart may.
            let there = there in
            let others = are_there-is after at other may in
            let least = others.desk_least in
            elsewhere at (λ same. apart (omega arith));
        still = Meets-plain after IsPlain-next;
      }
