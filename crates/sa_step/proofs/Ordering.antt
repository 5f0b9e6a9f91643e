-- The sessions of a script are in order from the beginning on, and so are their journals in the end.
use Rattle.std.proofs.Common.{◌≡◌, ℕ, ◌+◌, ◌-◌, ◌<◌, ◌≤◌, List, [], ◌∷◌, drop, length, map, All, Any, slice_index_or, sym, subst, ap, ◌∙◌, arith}
use Rattle.std.proofs.lemmas.List.{get_or-map, length-map, drop_more, drop_all}
use Rattle.std.proofs.lemmas.List.FromFn.{get_or-map-range_with_len}
use Rattle.std.proofs.lemmas.List.Elements.{All-nil}
use Rattle.sa_desk.specs.declared.entry.Entry.{Entry}
use Rattle.sa_desk.specs.declared.request.Reply.{Reply}
use Rattle.sa_desk.specs.State.{Terms, queue_of}
use Rattle.sa_desk.specs.Runs.{state_of}
use Rattle.sa_desk.specs.Contents.{Contents}
use Rattle.sa_desk.specs.Legal.{journal_at}
use Rattle.sa_desk.specs.New.{no_desk}
use Rattle.sa_desk.specs.Plain.{desk_at}
use Rattle.sa_desk.specs.program.Course.{Given}
use Rattle.sa_desk.specs.program.Prepares.{Answers}
use Rattle.sa_desk.specs.program.SoFar.{terms_of}
use Rattle.sa_worker.specs.View.{View}
use Rattle.sa_step.specs.Sessions.{AllSessions, AreRunning, first_in, first_views, view_in}
use Rattle.sa_step.specs.Schedule.{slot, AreEach, slot_of, ComesLast, FindsCounted, LeavesUnseen, TakesFirst, slots, desk_terms, InSchedule}
use Rattle.sa_step.specs.Turns.{GoesBy}
use Rattle.sa_step.specs.inner.Timely.{IsTimely, AreUnseen, IsAsked, polled_at, IsLateFor, AreLateFor, AreUntaken, IsOnTime, IsInRounds, in_round}
use Rattle.sa_step.proofs.Courses.{course_first}
use Rattle.sa_step.proofs.Driven.{nobody}
use Rattle.sa_step.proofs.Passing.{Passes, on_time_next, Passes-named, Passes-round, round_begins, round_ends, IsOnTime-same}

-- Before the first turn.
module _ (gives : Answers) (all : AllSessions) (first : all.views ≡ first_views all.script) (empty : All (λ (desk : Contents). desk.journal ≡ []) all.plain.desks) (running : AreRunning gives all) where
  count_is : length all.views ≡ length all.script.texts
  count_is = running.workers

  first_is : (session : ℕ) → 1 ≤ session → session ≤ length all.views → view_in all.views session ≡ first_in all.script session
  first_is session least most =
      let count = count_is in
      ap (λ views. view_in views session) first
      ∙ get_or-map-range_with_len (first_in all.script) 1 (length all.script.texts) (session - 1) session nobody (omega (arith, least, most, count)) (omega (arith, least))

  no_turns : (session : ℕ) → 1 ≤ session → session ≤ length all.views → (view_in all.views session).turn ≡ 0
  no_turns session least most = ap (λ (view : View). view.turn) (first_is session least most)

  no_entries : (desk : ℕ) → 1 ≤ desk → desk ≤ length all.plain.desks → (desk_at all.plain desk).journal ≡ []
  no_entries desk least most = empty (desk - 1) no_desk (omega (arith, least, most))

  pub on_time_first : (schedule : List ℕ) → IsOnTime gives (slots all.script schedule) (slot (length all.views) schedule) 0 all
  on_time_first schedule =
      let times = slots all.script schedule in
      record {
        timely = record {
          taken = λ session turn least most from to. let none = no_turns session least most in absurd (omega (arith, from, to, none));
          behind = λ desk least most. subst (λ (journal : List Entry). All (λ entry. slot_of times entry < 0) journal) (sym (no_entries desk least most)) (All-nil (λ entry. slot_of times entry < 0));
          rising = λ desk least most. subst (AreEach (ComesLast times) []) (sym (no_entries desk least most)) tt;
          counted = λ desk least most. subst (AreEach (FindsCounted times (desk_at all.plain desk).terms) []) (sym (no_entries desk least most)) tt;
        };
        unseen = record {
          asked = λ desk least most.
              let at = desk_at all.plain desk in
              subst (λ (journal : List Entry). All (λ request. Any (IsAsked times at.terms.desk (view_in all.views desk).turn request) journal) (queue_of (state_of at.terms journal).phase))
              (sym (no_entries desk least most)) (All-nil (λ request. Any (IsAsked times at.terms.desk (view_in all.views desk).turn request) []));
          unseen = λ desk least most. subst (AreEach (LeavesUnseen times (desk_at all.plain desk).terms) []) (sym (no_entries desk least most)) tt;
        };
        untaken = record {
          late = λ desk asker least most from to.
              let at = desk_at all.plain desk in
              let turns = polled_at (view_in all.views asker) (view_in all.views asker).stage in
              subst (λ (journal : List Entry). AreLateFor times asker turns (state_of at.terms journal).replies journal)
              (sym (no_entries desk least most)) (All-nil (λ (reply : Reply). reply.asker ≡ asker → Any (IsLateFor times asker turns reply.request) []));
          first = λ desk least most. subst (AreEach (TakesFirst times) []) (sym (no_entries desk least most)) tt;
        };
        in_course = λ session least most.
            let count = count_is in
            let desks = running.desks in
            let there : session ≤ length all.script.texts = omega (arith, most, count) in
            let number : (view_in all.views session).given.session ≡ session = ap (λ (given : Given). given.session) (running.working.given session least there) in
            course_first gives times all running session least there (ap (λ (view : View). view.stage) (first_is session least most))
            (subst (λ desk. (desk_at all.plain desk).journal ≡ []) (sym number) (no_entries session least (omega (arith, there, desks))));
        goes_on = λ session least most undone turn from.
            let none = no_turns session least most in
            let same : (view_in all.views session).turn + turn ≡ turn = omega (arith, none) in
            let far : slot (length all.views) schedule session turn ≡ 0 + slot (length all.views) schedule session turn = omega arith in
            ap (times session) same ∙ ap (λ count. slot count schedule session turn) (sym count_is) ∙ far;
      }

-- The next place of a schedule.
pub on_time_named : (gives : Answers) (slots : (session turn : ℕ) → ℕ) (sessions : ℕ) (schedule : List ℕ) (index session : ℕ) (before after : AllSessions) → AreRunning gives before
    → length before.views ≡ sessions → length after.views ≡ sessions → index < length schedule → slice_index_or schedule index 0 ≡ session → 1 ≤ session → session ≤ sessions
    → IsOnTime gives slots (slot sessions (drop index schedule)) index before → GoesBy gives before session after → IsOnTime gives slots (slot sessions (drop (index + 1) schedule)) (index + 1) after
on_time_named gives slots sessions schedule index session before after running were are there named least most on_time by =
    let parts : drop index schedule ≡ session ∷ drop (index + 1) schedule = drop_more schedule index 0 there ∙ ap (λ session. session ∷ drop (index + 1) schedule) named in
    on_time_next gives slots (slot sessions (session ∷ drop (index + 1) schedule)) (slot sessions (drop (index + 1) schedule)) index before after running (are ∙ sym were) session least
    (omega (arith, most, were)) (subst (λ left. IsOnTime gives slots (slot sessions left) index before) parts on_time)
    (subst (λ count. Passes count (slot sessions (session ∷ drop (index + 1) schedule)) (slot sessions (drop (index + 1) schedule)) session) (sym were) (Passes-named sessions (drop (index + 1) schedule) session)) by

-- The next place of a round.
pub on_time_round : (gives : Answers) (slots : (session turn : ℕ) → ℕ) (sessions index place session : ℕ) (before after : AllSessions) → AreRunning gives before
    → length before.views ≡ sessions → length after.views ≡ sessions → index < sessions → session ≡ index + 1
    → IsOnTime gives slots (in_round sessions index) place before → GoesBy gives before session after → IsOnTime gives slots (in_round sessions (index + 1)) (place + 1) after
on_time_round gives slots sessions index place session before after running were are there named on_time by =
    let here = subst (λ session. GoesBy gives before session after) named by in
    on_time_next gives slots (in_round sessions index) (in_round sessions (index + 1)) place before after running (are ∙ sym were) (index + 1) (omega arith)
    (omega (arith, were, there)) on_time
    (subst (λ count. Passes count (in_round sessions index) (in_round sessions (index + 1)) (index + 1)) (sym were) (Passes-round sessions index there)) here

-- Behind the schedule rounds begin.
pub schedule_last : (gives : Answers) (slots : (session turn : ℕ) → ℕ) (sessions : ℕ) (schedule : List ℕ) (index : ℕ) (all : AllSessions) → length all.views ≡ sessions → length schedule ≤ index
    → IsOnTime gives slots (slot sessions (drop index schedule)) index all → IsInRounds gives slots all
schedule_last gives slots sessions schedule index all count whole on_time =
    (index, subst (λ count. IsOnTime gives slots (slot count []) index all) (sym count) (subst (λ left. IsOnTime gives slots (slot sessions left) index all) (drop_all index schedule whole) on_time))

-- A round begins, and ends.
pub round_first : (gives : Answers) (slots : (session turn : ℕ) → ℕ) (sessions place : ℕ) (all : AllSessions) → IsOnTime gives slots (slot sessions []) place all → IsOnTime gives slots (in_round sessions 0) (place + 0) all
round_first gives slots sessions place all on_time =
    let same : place ≡ place + 0 = omega arith in
    subst (λ place. IsOnTime gives slots (in_round sessions 0) place all) same
    (IsOnTime-same gives slots (slot sessions []) (in_round sessions 0) place all (λ session turn least most from. round_begins sessions session turn least) on_time)

pub round_last : (gives : Answers) (slots : (session turn : ℕ) → ℕ) (sessions index place : ℕ) (all : AllSessions) → length all.views ≡ sessions → index ≡ sessions
    → IsOnTime gives slots (in_round sessions index) (place + index) all → IsInRounds gives slots all
round_last gives slots sessions index place all count whole on_time =
    let end : IsOnTime gives slots (in_round sessions sessions) (place + index) all = subst (λ passed. IsOnTime gives slots (in_round sessions passed) (place + index) all) whole on_time in
    let same = IsOnTime-same gives slots (in_round sessions sessions) (slot sessions []) (place + index) all
    (λ session turn least most from. round_ends sessions session turn least (omega (arith, most, count)) from) end in
    (place + index, subst (λ count. IsOnTime gives slots (slot count []) (place + index) all) (sym count) same)

module _ (gives : Answers) (all : AllSessions) (running : AreRunning gives all) where
  abbrev journals : List (List Entry)
  journals = map (λ (desk : Contents). desk.journal) all.plain.desks

  journal_is : (desk : ℕ) → 1 ≤ desk → desk ≤ length all.plain.desks → journal_at journals desk ≡ (desk_at all.plain desk).journal
  journal_is desk least most = get_or-map (λ (desk : Contents). desk.journal) all.plain.desks (desk - 1) no_desk [] (omega (arith, least, most))

  terms_are : (desk : ℕ) → 1 ≤ desk → desk ≤ length all.plain.desks → (desk_at all.plain desk).terms ≡ desk_terms all.script desk
  terms_are desk least most =
      let desks = running.desks in
      let keeps = (running.working.working desk least (omega (arith, most, desks))).keeps in
      let given = running.working.given desk least (omega (arith, most, desks)) in
      let number : (view_in all.views desk).given.session ≡ desk = ap (λ (given : Given). given.session) given in
      ap (λ desk. (desk_at all.plain desk).terms) (sym number) ∙ keeps.terms (view_in all.views desk).given.session keeps.session
      ∙ ap (λ (given : Given). terms_of given given.session) given

  -- Journals of sessions that are in order are in the order of the schedule.
  pub timely_ordered : (schedule : List ℕ) (place : ℕ) → IsTimely (slots all.script schedule) place all → AreUnseen (slots all.script schedule) all
      → AreUntaken (slots all.script schedule) all → InSchedule all.script schedule journals
  timely_ordered schedule place timely unseen untaken =
      let count = length-map all.plain.desks (λ (desk : Contents). desk.journal) in
      record {
        rising = λ desk least most. subst (AreEach (ComesLast (slots all.script schedule)) []) (sym (journal_is desk least (omega (arith, most, count)))) (timely.rising desk least (omega (arith, most, count)));
        counted = λ desk least most.
            let high : desk ≤ length all.plain.desks = omega (arith, most, count) in
            subst (λ (terms : Terms). AreEach (FindsCounted (slots all.script schedule) terms) [] (journal_at journals desk)) (terms_are desk least high)
            (subst (AreEach (FindsCounted (slots all.script schedule) (desk_at all.plain desk).terms) []) (sym (journal_is desk least high)) (timely.counted desk least high));
        unseen = λ desk least most.
            let high : desk ≤ length all.plain.desks = omega (arith, most, count) in
            subst (λ (terms : Terms). AreEach (LeavesUnseen (slots all.script schedule) terms) [] (journal_at journals desk)) (terms_are desk least high)
            (subst (AreEach (LeavesUnseen (slots all.script schedule) (desk_at all.plain desk).terms) []) (sym (journal_is desk least high)) (unseen.unseen desk least high));
        first = λ desk least most.
            let high : desk ≤ length all.plain.desks = omega (arith, most, count) in
            subst (AreEach (TakesFirst (slots all.script schedule)) []) (sym (journal_is desk least high)) (untaken.first desk least high);
      }
