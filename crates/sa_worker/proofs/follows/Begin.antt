-- The entries are those of the program so far after a Begin, or a Gone.
use Rattle.std.proofs.Common.{◌≡◌, ◌≢◌, ℕ, ◌+◌, ◌-◌, ◌<◌, ◌≤◌, if◌then◌else◌, Bool, true, false, List, [], ◌∷◌, ◌++◌, length, inl, inr, refl, sym, subst, ap, ◌∙◌, length-append, arith}
use Rattle.std.specs.Prelude.{slice_index_or}
use Rattle.std.proofs.lemmas.List.Elements.{All-nil}
use Rattle.sa_desk.specs.declared.entry.Entry.{Entry}
use Rattle.sa_desk.specs.declared.entry.Event.{Event}
use Rattle.sa_desk.specs.declared.entry.Event.TheVariants as event
use Rattle.sa_desk.specs.declared.stamp.Stamp.{Stamp}
use Rattle.sa_desk.specs.Contents.{Contents, state, entry_by, with_entries}
use Rattle.sa_desk.specs.World.{World, IsCall, next_stamp}
use Rattle.sa_desk.specs.call.Begin.{begin_answer, begin_entries}
use Rattle.sa_desk.specs.call.Begin as begin
use Rattle.sa_desk.specs.program.Course.{Given, Answer, Settings, at_first, settings_after, text_of, Course, says, shows, waits, kills, runs, course_of}
use Rattle.sa_desk.specs.program.Between.{Due, goes_on, Between}
use Rattle.sa_desk.specs.program.Between as due
use Rattle.sa_desk.specs.program.SoFar.{IsOpen, Runs, IsGone, gone, Tail}
use Rattle.sa_desk.specs.program.Statement.{IsOwnEntry, BeginsAs, IsServing, AreServed, Statements}
use Rattle.sa_desk.proofs.program.Waits.{waits-first}
use Rattle.sa_worker.specs.View.{Stage, View, text_at, plan_in, tables_in, me_of, opens, closes, ends, asks, makes_steps}
use Rattle.sa_worker.specs.View as stages
use Rattle.sa_worker.specs.Next.{first_run, begins, goes_to, after_begin}
use Rattle.sa_worker.specs.Keeps.{KeepsAt}
use Rattle.sa_worker.specs.Follows.{IsWithin, TailAt, FollowsAt, Follows}
use Rattle.sa_worker.proofs.Course.{SaysNothing, course_says}
use Rattle.sa_worker.proofs.follows.Moves.{told_one, Follows-on}

-- Statements are numbered in a row.
pub Statements-count : (given : Given) (settings : Settings) (number turn : ℕ) (texts : List (List ℕ)) (answers : List Answer) (entries : List Entry) (left : Settings) (next last : ℕ)
    → Statements given settings number turn texts answers entries left next last → next ≡ number + length texts
Statements-count given settings number turn [] [] entries left next last is = let same = is.2 in omega (arith, same)
Statements-count given settings number turn [] (answer ∷ answers) entries left next last is = absurd is
Statements-count given settings number turn (text ∷ texts) [] entries left next last is = absurd is
Statements-count given settings number turn (text ∷ texts) (answer ∷ answers) entries left next last is =
    let more = Statements-count given (settings_after settings answer is.3) (number + 1) is.2 texts answers is.1 left next last is.6 in omega (arith, more)

-- the text of that number
at_middle : (taken : List (List ℕ)) (text : List ℕ) (rest : List (List ℕ)) → slice_index_or (taken ++ text ∷ rest) (length taken) [] ≡ text
at_middle [] text rest = refl
at_middle (first ∷ taken) text rest = at_middle taken text rest

pub next_text : (all taken texts : List (List ℕ)) (number : ℕ) → all ≡ taken ++ texts → number ≡ 1 + length taken → number ≤ length all
    → (rest : List (List ℕ)) × (texts ≡ slice_index_or all (number - 1) [] ∷ rest)
next_text all taken [] number are count there =
    absurd (let whole = ap length are ∙ length-append taken [] in omega (arith, whole, count, there))
next_text all taken (text ∷ rest) number are count there =
    let place : number - 1 ≡ length taken = omega (arith, count) in
    let found : slice_index_or all (number - 1) [] ≡ text =
    ap (λ texts. slice_index_or texts (number - 1) []) are ∙ ap (λ place. slice_index_or (taken ++ text ∷ rest) place []) place ∙ at_middle taken text rest in
    (rest, ap (λ text. text ∷ rest) (sym found))

-- The Begin is that of the course.
begins_so : (given : Given) (course : Course) (number : ℕ) (text : List ℕ) → BeginsAs given course number text (event.Begin number text 0 (plan_in course) (tables_in given course))
begins_so given (says result) number text = (refl, refl, refl, refl, refl)
begins_so given (shows kind i) number text = (refl, refl, refl, refl, refl)
begins_so given (waits i at) number text = (refl, refl, refl, refl, refl)
begins_so given (kills kind i) number text = (refl, refl, refl, refl, refl)
begins_so given (runs analyze planned) number text = (refl, refl, refl, refl, refl)

gone_after : (given : Given) (settings : Settings) (number last : ℕ) (texts : List (List ℕ)) (tail : List Entry) (turn : ℕ) (entry : Entry)
    → tail ≡ [] → turn ≡ last → texts ≢ [] → IsOwnEntry given (turn + 1) entry → entry.event ≡ event.Gone number → Tail given settings number last texts gone (tail ++ entry ∷ []) (turn + 1)
gone_after given settings number last texts [] turn entry none now some own is = (some, ap (λ turn. turn + 1) now, own, subst (IsGone number) (sym is) refl)
gone_after given settings number last texts (first ∷ rest) turn entry none now some own is = cc

none_served : (session b t : ℕ) → AreServed session b t []
none_served session b t = All-nil (λ (entry : Entry). (entry.desk ≡ session) × (b < entry.turn) × (entry.turn ≤ t) × IsServing entry.event)

module _ (world later : World) (view : View) (keeps : KeepsAt world view opens) (answers : List Answer)
    (follows : FollowsAt view opens (world.seen view.given.session) answers (world.mine view.given.session)) where
  abbrev session : ℕ
  session = view.given.session

  abbrev desk : Contents
  desk = world.contents session

  abbrev stamp : Stamp
  stamp = next_stamp world (me_of view)

  abbrev whole : Course
  whole = course_of view.given view.settings view.answer

  abbrev begun_by : Event
  begun_by = event.Begin view.number (text_of (text_at view) view.answer) 0 (plan_in whole) (tables_in view.given whole)

  abbrev entry_for : Bool → Entry
  entry_for doomed = entry_by desk stamp (if doomed then event.Gone view.number else begun_by)

  -- its text is the next one
  text_is : (rest : List (List ℕ)) × (follows.texts ≡ text_at view ∷ rest)
  text_is =
      next_text view.given.texts follows.taken follows.texts view.number follows.texts_are
      (Statements-count view.given at_first 1 0 follows.taken answers follows.before view.settings view.number follows.last follows.ended) keeps.holds.holds.0

  went : IsCall world later session session (entry_for true ∷ []) (with_entries (entry_for true ∷ []) desk) → Follows (goes_to view closes) (later.seen session) answers (later.mine session)
  went call =
      let entry = entry_for true in
      let next = text_is.1 in
      Follows-on world later view opens answers follows session (entry ∷ []) (with_entries (entry ∷ []) desk) call (view.turn + 1) view.began closes (told_one view.given (later.seen session) entry tt)
      (inr (gone_after view.given view.settings view.number follows.last follows.texts follows.tail view.turn entry follows.tail_is.0 follows.tail_is.1
      (λ none. let both : text_at view ∷ text_is.0 ≡ [] = sym next ∙ none in cc) (call.met.number, refl) refl))

  module _ (call : IsCall world later session session (entry_for false ∷ []) (with_entries (entry_for false ∷ []) desk)) where
    abbrev entry : Entry
    entry = entry_for false

    opened : IsOpen view.given view.settings view.number follows.last follows.texts (view.turn + 1) view.answer entry
    opened = record {
      text = text_at view;
      rest = text_is.0;
      texts_are = text_is.1;
      follows = ap (λ turn. turn + 1) follows.tail_is.1;
      own = (call.met.number, refl);
      begins = begins_so view.given whole view.number (text_of (text_at view) view.answer);
    }

    -- nothing since
    within : (course : Course) → whole ≡ course → (due : Due) → Between view.given view.number (view.turn + 1) course [] (view.turn + 1) due
        → IsWithin view.given view.settings view.number follows.last follows.texts (view.turn + 1) view.answer (follows.tail ++ entry ∷ []) (view.turn + 1) [] due
    within course is due row = record {
      begin = entry;
      tail_is = ap (λ tail. tail ++ entry ∷ []) follows.tail_is.0;
      open_is = opened;
      row = subst (λ course. Between view.given view.number (view.turn + 1) course [] (view.turn + 1) due) (sym is) row;
    }

    leads_to : (next : Stage)
        → (let after : View = record view { turn = view.turn + 1; began = view.turn + 1; stage = next } in
        TailAt after (later.seen session) follows.last follows.texts (follows.tail ++ entry ∷ []) next → FollowsAt after next (later.seen session) answers (later.mine session))
    leads_to next =
        Follows-on world later view opens answers follows session (entry ∷ []) (with_entries (entry ∷ []) desk) call (view.turn + 1) (view.turn + 1) next (told_one view.given (later.seen session) entry tt)

    begun-as : (course : Course) → whole ≡ course → SaysNothing view.given course
        → let next = begins view course in FollowsAt (record view { turn = view.turn + 1; began = view.turn + 1; stage = next }) next (later.seen session) answers (later.mine session)
    begun-as (says result) is nothing = leads_to (ends result) (record {
      between = [];
      due_is = result;
      within = within (says result) is (due.ends result) (refl, refl);
      is = inl refl;
      told = nothing (later.seen session) view.number;
    })
    begun-as (shows kind i) is nothing = leads_to (asks kind i) (within (shows kind i) is goes_on (refl, refl))
    begun-as (waits i at) is nothing =
        leads_to (stages.waits i at 0) (within (waits i at) is goes_on (waits-first view.given view.number (view.turn + 1) i at keeps.holds.given.least_turns))
    begun-as (kills kind i) is nothing = leads_to (stages.kills kind i) (within (kills kind i) is goes_on (refl, refl))
    begun-as (runs analyze planned) is nothing = leads_to (makes_steps planned 0 (first_run view planned)) (record {
      begin = entry;
      between = [];
      tail_is = ap (λ tail. tail ++ entry ∷ []) follows.tail_is.0;
      running_is = record {
        open_is = opened;
        planned = planned;
        course = subst (λ course. Runs course planned) (sym is) refl;
        turn = omega arith;
        served = none_served session (view.turn + 1) (view.turn + 1);
        runs_on = inl refl;
      };
    })

  began-as : (doomed : Bool) → IsCall world later session session (entry_for doomed ∷ []) (with_entries (entry_for doomed ∷ []) desk)
      → Follows (after_begin view (begin_answer doomed)) (later.seen session) answers (later.mine session)
  began-as true call = went call
  began-as false call = begun-as call whole refl (course_says view.given view.settings view.answer)

  pub Follows-begin : IsCall world later session session (begin_entries desk stamp begun_by view.number) (begin.after_begin desk stamp begun_by view.number)
      → Follows (after_begin view (begin_answer (state desk).doomed)) (later.seen session) answers (later.mine session)
  Follows-begin call = began-as (state desk).doomed call
