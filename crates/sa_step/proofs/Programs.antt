-- In the end each session has made its program, to whose statements these answers were given.
use Rattle.std.proofs.Common.{◌≡◌, ℕ, zero, suc, Bool, ◌+◌, ◌-◌, ◌<◌, ◌≤◌, List, [], ◌∷◌, length, map, filter, All, refl, sym, subst, ap, ◌∙◌, arith, append-nil}
use Rattle.std.specs.Prelude.{slice_index, slice_index_or}
use Rattle.std.specs.List.{flat_map, range_with_len}
use Rattle.std.proofs.lemmas.List.{length-map}
use Rattle.std.proofs.lemmas.List.Elements.{All-nil, All-head, All-tail, All-append, All-weaker, All-filter, All-from_get_or}
use Rattle.sa_desk.specs.declared.entry.Entry.{Entry}
use Rattle.sa_desk.specs.Contents.{Contents}
use Rattle.sa_desk.specs.Legal.{journal_at, IsMade}
use Rattle.sa_desk.specs.New.{no_desk}
use Rattle.sa_desk.specs.Plain.{Plain, all_entries, is_numbered, entries_of, desk_at, world_of, IsPlain}
use Rattle.sa_desk.specs.Runs.{IsEntryOf}
use Rattle.sa_desk.specs.World.{made_by}
use Rattle.sa_desk.specs.program.Course.{Given, Answer}
use Rattle.sa_desk.specs.program.SoFar.{closed, IsSoFar, IsProgram}
use Rattle.sa_worker.specs.View.{View, done}
use Rattle.sa_worker.specs.Follows.{Follows, FollowsAt}
use Rattle.sa_worker.proofs.follows.SoFar.{Follows-so_far, Follows-grows}

-- What each part has, the whole has.
All-flat_map : {X A : Type 0} (P : A → Type 0) (f : X → List A) (xs : List X) → All (λ x. All P (f x)) xs → All P (flat_map f xs)
All-flat_map P f [] all = All-nil P
All-flat_map P f (x ∷ xs) all =
    All-append P (f x) (flat_map f xs) (All-head (λ x. All P (f x)) x xs all) (All-flat_map P f xs (All-tail (λ x. All P (f x)) x xs all))

-- Filters of one list have what the list has.
All-filters : {A : Type 0} (P : A → Type 0) (test : ℕ → A → Bool) (xs : List A) (numbers : List ℕ) → All P xs → All P (flat_map (λ number. filter (test number) xs) numbers)
All-filters P test xs [] all = All-nil P
All-filters P test xs (number ∷ rest) all =
    All-append P (filter (test number) xs) (flat_map (λ number. filter (test number) xs) rest) (All-filter (test number) P xs all) (All-filters P test xs rest all)

journal_of : (desks : List Contents) (index : ℕ) → slice_index_or (map (λ (desk : Contents). desk.journal) desks) index [] ≡ (slice_index_or desks index no_desk).journal
journal_of [] index = refl
journal_of (desk ∷ rest) zero = refl
journal_of (desk ∷ rest) (suc index) = journal_of rest index

module _ (plain : Plain) where
  abbrev pub journals : List (List Entry)
  journals = map (λ (desk : Contents). desk.journal) plain.desks

  -- The journal is that of the desk with this number.
  pub journal_is : (desk : ℕ) → journal_at journals desk ≡ (desk_at plain desk).journal
  journal_is desk = journal_of plain.desks (desk - 1)

  count_is : length journals ≡ length plain.desks
  count_is = length-map plain.desks (λ (desk : Contents). desk.journal)

  module _ (is : IsPlain plain) where
    abbrev IsThere : Entry → Type 0
    IsThere entry = (1 ≤ entry.desk) × (entry.desk ≤ length journals)

    -- An entry stands on one of the desks.
    desk_there : (index : ℕ) → index < length plain.desks → All IsThere (slice_index_or plain.desks index no_desk).journal
    desk_there index within =
        let number = index + 1 in
        let at : number - 1 ≡ index = omega arith in
        let entries = (is.sound number (omega arith) (omega arith)).entries in
        let named = is.numbers number (omega arith) (omega arith) in
        let count = count_is in
        let all : All IsThere (desk_at plain number).journal =
        All-weaker (IsEntryOf (desk_at plain number).terms.desk (length (desk_at plain number).shares)) IsThere
        (λ entry of. let here = of.desk_is in (omega (arith, here, named), omega (arith, here, named, within, count))) (desk_at plain number).journal entries in
        subst (λ index. All IsThere (slice_index_or plain.desks index no_desk).journal) at all

    all_there : (session : ℕ) → All IsThere (entries_of plain session)
    all_there session =
        All-filters IsThere (is_numbered session) (all_entries plain.desks) (range_with_len 1 (slice_index plain.made (session - 1)))
        (All-flat_map IsThere (λ (desk : Contents). desk.journal) plain.desks (All-from_get_or (λ (desk : Contents). All IsThere desk.journal) plain.desks no_desk desk_there))

    -- What a session has made.
    pub is_made : (session : ℕ) → 1 ≤ session → session ≤ length plain.desks → IsMade journals session (entries_of plain session)
    is_made session least most = record {
      there = all_there session;
      standing = λ desk low high.
          let many = count_is in
          ap (made_by session) (journal_is desk) ∙ (is.entries session least most).own desk low (omega (arith, high, many));
    }

  -- Where its worker is done it is its whole program.
  pub is_program : (view : View) (given : Given) (answers : List Answer) → view.given ≡ given → view.stage ≡ done
      → Follows view ((world_of plain).seen given.session) answers ((world_of plain).mine given.session) → IsProgram given (journal_at journals) answers (entries_of plain given.session)
  is_program view given answers same over follows =
      let seen : ℕ → List Entry = λ desk. (desk_at plain desk).journal in
      let mine = entries_of plain given.session in
      let at_end = subst (λ stage. FollowsAt view stage seen answers mine) over follows in
      let grown = Follows-grows view done seen answers mine at_end (journal_at journals) (λ desk. ([], journal_is desk ∙ sym (append-nil (desk_at plain desk).journal))) in
      let stands = Follows-so_far view done (journal_at journals) answers mine grown in
      let closing = subst (IsSoFar view.given (journal_at journals) answers mine view.turn) stands.now_is stands.so_far in
      (view.turn, subst (λ given. IsSoFar given (journal_at journals) answers mine view.turn closed) same closing)
