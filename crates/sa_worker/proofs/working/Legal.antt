-- Where all workers are done the journals are legal.
use Rattle.std.proofs.Common.{◌≡◌, ℕ, zero, suc, Bool, ◌+◌, ◌-◌, ◌<◌, ◌≤◌, List, [], ◌∷◌, length, map, filter, All, refl, sym, subst, subst₂, ap, ◌∙◌, arith, append-nil}
use Rattle.std.specs.Prelude.{slice_index, slice_index_or}
use Rattle.std.specs.List.{flat_map, range_with_len}
use Rattle.std.proofs.lemmas.List.{length-map}
use Rattle.std.proofs.lemmas.List.Elements.{All-nil, All-head, All-tail, All-append, All-weaker, All-filter, All-from_get_or}
use Rattle.sa_desk.specs.declared.entry.Entry.{Entry}
use Rattle.sa_desk.specs.Contents.{Contents}
use Rattle.sa_desk.specs.Legal.{Sessions, given_of, journal_at, HasProgram, IsLegal}
use Rattle.sa_desk.specs.New.{no_desk}
use Rattle.sa_desk.specs.Plain.{Plain, all_entries, is_numbered, entries_of, desk_at, world_of, IsPlain}
use Rattle.sa_desk.specs.Runs.{IsDeskRun, IsEntryOf}
use Rattle.sa_desk.specs.World.{made_by}
use Rattle.sa_desk.specs.program.Prepares.{Answers, AreAnswers}
use Rattle.sa_desk.specs.program.SoFar.{closed, terms_of, IsSoFar, IsProgram}
use Rattle.sa_worker.specs.View.{done, View}
use Rattle.sa_worker.specs.Keeps.{IsSession}
use Rattle.sa_worker.specs.Follows.{FollowsAt}
use Rattle.sa_worker.specs.Working.{AreWorking}
use Rattle.sa_worker.proofs.follows.SoFar.{Follows-so_far, Follows-grows}

-- What each part has, the whole has.
All-flat_map : {X A : Type 0} (P : A → Type 0) (f : X → List A) (xs : List X) → All (λ x. All P (f x)) xs → All P (flat_map f xs)
All-flat_map P f [] all = All-nil P
All-flat_map P f (x ∷ xs) all =
    All-append P (f x) (flat_map f xs) (All-head (λ x. All P (f x)) x xs all) (All-flat_map P f xs (All-tail (λ x. All P (f x)) x xs all))

-- Filters of one list have what the list has.
All-filters : {A : Type 0} (P : A → Type 0) (test : ℕ → A → Bool) (xs : List A) (numbers : List ℕ) → All P xs → All P (flat_map (λ number. filter (test number) xs) numbers)
All-filters P test xs [] all = All-nil P
All-filters P test xs (number ∷ rest) all =
    All-append P (filter (test number) xs) (flat_map (λ number. filter (test number) xs) rest) (All-filter (test number) P xs all) (All-filters P test xs rest all)

-- The journals are in the order of the desks, and there is nothing elsewhere.
journal_of : (desks : List Contents) (index : ℕ) → slice_index_or (map (λ (desk : Contents). desk.journal) desks) index [] ≡ (slice_index_or desks index no_desk).journal
journal_of [] index = refl
journal_of (desk ∷ rest) zero = refl
journal_of (desk ∷ rest) (suc index) = journal_of rest index

module _ (plain : Plain) (is : IsPlain plain) where
  abbrev journals : List (List Entry)
  journals = map (λ (desk : Contents). desk.journal) plain.desks

  count_is : length journals ≡ length plain.desks
  count_is = length-map plain.desks (λ (desk : Contents). desk.journal)

  -- The journal is that of the desk with this number.
  journal_is : (desk : ℕ) → journal_at journals desk ≡ (desk_at plain desk).journal
  journal_is desk = journal_of plain.desks (desk - 1)

  -- An entry stands on one of the desks.
  abbrev IsThere : Entry → Type 0
  IsThere entry = (1 ≤ entry.desk) × (entry.desk ≤ length journals)

  desk_there : (index : ℕ) → index < length plain.desks → All IsThere (slice_index_or plain.desks index no_desk).journal
  desk_there index within =
      let number = index + 1 in
      let at : number - 1 ≡ index = omega arith in
      let entries = (is.sound number (omega arith) (omega arith)).entries in
      let named = is.numbers number (omega arith) (omega arith) in
      let count = count_is in
      let all : All IsThere (desk_at plain number).journal =
      All-weaker (IsEntryOf (desk_at plain number).terms.desk (length (desk_at plain number).shares)) IsThere
      (λ entry of. let here = of.desk_is in (omega (arith, here, named), omega (arith, here, named, within, count))) (desk_at plain number).journal entries in
      subst (λ index. All IsThere (slice_index_or plain.desks index no_desk).journal) at all

  all_there : (session : ℕ) → All IsThere (entries_of plain session)
  all_there session =
      All-filters IsThere (is_numbered session) (all_entries plain.desks) (range_with_len 1 (slice_index plain.made (session - 1)))
      (All-flat_map IsThere (λ (desk : Contents). desk.journal) plain.desks (All-from_get_or (λ (desk : Contents). All IsThere desk.journal) plain.desks no_desk desk_there))

  module _ (gives : Answers) (sessions : Sessions) (count : length plain.desks ≡ length sessions.texts) (views : ℕ → View)
      (all : AreWorking gives sessions (world_of plain) views) where
    -- a session, or a desk, that is there
    within : (number : ℕ) → number ≤ length sessions.texts → number ≤ length plain.desks
    within number most = omega (arith, count, most)

    terms_are : (desk : ℕ) → 1 ≤ desk → desk ≤ length sessions.texts → (desk_at plain desk).terms ≡ terms_of (given_of sessions desk) desk
    terms_are desk least most =
        let given = all.given desk least most in
        let there : IsSession (views desk).given desk = subst (λ given. IsSession given desk) (sym given) (record { least = least; most = most }) in
        (all.working desk least most).keeps.terms desk there ∙ ap (λ given. terms_of given desk) given

    module _ (finished : (session : ℕ) → 1 ≤ session → session ≤ length sessions.texts → (views session).stage ≡ done) where
      -- Where its worker is done a session has made its whole program.
      whole : (session : ℕ) (least : 1 ≤ session) (most : session ≤ length sessions.texts)
          → IsProgram (given_of sessions session) (journal_at journals) (all.working session least most).answers (entries_of plain session)
      whole session least most =
          let view = views session in
          let working = all.working session least most in
          let seen : ℕ → List Entry = λ desk. (desk_at plain desk).journal in
          let mine = entries_of plain view.given.session in
          let at_end = subst (λ stage. FollowsAt view stage seen working.answers mine) (finished session least most) working.follows in
          let grown = Follows-grows view done seen working.answers mine at_end (journal_at journals) (λ desk. ([], journal_is desk ∙ sym (append-nil (desk_at plain desk).journal))) in
          let stands = Follows-so_far view done (journal_at journals) working.answers mine grown in
          let closing = subst (IsSoFar view.given (journal_at journals) working.answers mine view.turn) stands.now_is stands.so_far in
          (view.turn, subst (λ given. IsSoFar given (journal_at journals) working.answers (entries_of plain given.session) view.turn closed) (all.given session least most) closing)

      has_program : (session : ℕ) → 1 ≤ session → session ≤ length sessions.texts → HasProgram gives sessions journals session
      has_program session least most = record {
        mine = entries_of plain session;
        made = record {
          there = all_there session;
          standing = λ desk low high.
              let many = count_is in
              ap (made_by session) (journal_is desk) ∙ (is.entries session least (within session most)).own desk low (omega (arith, high, many));
        };
        answers = (all.working session least most).answers;
        given = subst (λ given. AreAnswers gives given.texts (all.working session least most).answers) (all.given session least most) (all.working session least most).given.ended;
        program = whole session least most;
      }

      pub are_legal : IsLegal gives sessions journals
      are_legal = record {
        one_each = count_is ∙ count;
        entries = λ desk low high.
            let many = count_is in
            let most : desk ≤ length plain.desks = omega (arith, high, many) in
            let sound = is.sound desk low most in
            subst (All (IsEntryOf desk (length sessions.texts))) (sym (journal_is desk))
            (subst₂ (λ number sessions. All (IsEntryOf number sessions) (desk_at plain desk).journal) (is.numbers desk low most) (is.shares desk low most ∙ count) sound.entries);
        desks = λ desk low high.
            let many = count_is in
            let most : desk ≤ length plain.desks = omega (arith, high, many) in
            subst₂ IsDeskRun (terms_are desk low (omega (arith, most, count))) (sym (journal_is desk)) (is.sound desk low most).run;
        programs = has_program;
      }
