-- A session's entries stay those of its program so far where it sees more of the script's desks.
use Rattle.std.proofs.Common.{ℕ, ◌+◌, List, [], ◌∷◌, ◌++◌, All, inl, inr, sym, subst}
use Rattle.std.proofs.lemmas.List.Elements.{All-nil, All-cons, All-append, All-same}
use Rattle.sa_desk.specs.declared.entry.Entry.{Entry}
use Rattle.sa_desk.specs.declared.entry.Event.{Event}
use Rattle.sa_desk.specs.declared.entry.Event.TheVariants.{End, Gone}
use Rattle.sa_desk.specs.declared.outcome.Outcome.TheVariants.{Shown}
use Rattle.sa_desk.specs.World.{Begins}
use Rattle.sa_desk.specs.law.Answered.{IsAnswered}
use Rattle.sa_desk.specs.program.Course.{Given, Answer, text_of, at_first, course_of}
use Rattle.sa_desk.specs.program.Between as due
use Rattle.sa_desk.specs.program.SoFar.{gone, closed, IsGone, Tail, terms_of, IsTold}
use Rattle.sa_desk.proofs.laws.Answered.{IsAnswered-grows}
use Rattle.sa_worker.specs.View.{Stage, prepares, makes_steps, opens, closes, ends, asks, polls, looks_asking, withdraws, kills, waits, looks_waiting, points, ends_run, done, View}
use Rattle.sa_worker.specs.Keeps.{IsSession}
use Rattle.sa_worker.specs.Follows.{IsWithin, IsRunOn, TailAt, FollowsAt}
use Rattle.sa_run.proofs.Placed.{IsAimed, IsPlaced, ArePlaced, aims_due, served_placed, own_placed, begin_aimed, between_placed, statements_placed}

-- What a Shown tells of such a desk stays true of a longer journal.
module _ (given : Given) (journals longer : ℕ → List Entry) (grown : (desk : ℕ) → IsSession given desk → Begins (journals desk) (longer desk)) where
  pub told_grows : (event : Event) → IsAimed given event → IsTold given journals event → IsTold given longer event
  told_grows (End number (Shown kind desk begin report) steps) aimed told =
      let more = grown desk aimed in
      subst (λ journal. IsAnswered (terms_of given desk) journal given.session number report begin) (sym more.1)
      (IsAnswered-grows (terms_of given desk) (journals desk) more.0 given.session number report begin told)
  told_grows event aimed told = tt

  pub all_told_grow : (mine : List Entry) → ArePlaced given mine → All (λ entry. IsTold given journals entry.event) mine → All (λ entry. IsTold given longer entry.event) mine
  all_told_grow mine placed told = λ k d below. told_grows _ (placed k d below).1 (told k d below)

-- What stands after whole statements stands on one of the script's desks, and aims so too.
module _ (view : View) (own : IsSession view.given view.given.session) (last : ℕ) (texts : List (List ℕ)) where
  abbrev P : Entry → Type 0
  P entry = IsPlaced view.given entry

  gone_event : (event : Event) → IsGone view.number event → IsAimed view.given event
  gone_event (Gone own) is = tt
  gone_event event is = absurd is

  gone_placed : (tail : List Entry) (turn : ℕ) → Tail view.given view.settings view.number last texts gone tail turn → ArePlaced view.given tail
  gone_placed (entry ∷ []) turn is = All-cons P entry [] (own_placed view.given turn entry own is.2 (gone_event entry.event is.3)) (All-nil P)
  gone_placed tail turn is = absurd is

  closed_placed : (tail : List Entry) (turn : ℕ) → Tail view.given view.settings view.number last texts closed tail turn → ArePlaced view.given tail
  closed_placed (entry ∷ []) turn is = All-cons P entry [] (own_placed view.given turn entry own is.2 (subst (IsAimed view.given) (sym is.3) tt)) (All-nil P)
  closed_placed (entry ∷ close ∷ []) turn is =
      All-cons P entry (close ∷ []) (own_placed view.given (last + 1) entry own is.2 (gone_event entry.event is.3))
      (All-cons P close [] (own_placed view.given turn close own is.4 (subst (IsAimed view.given) (sym is.5) tt)) (All-nil P))
  closed_placed tail turn is = absurd is

  module _ (tail : List Entry) where
    within_placed : (between : List Entry) (is : due.Due) → IsWithin view.given view.settings view.number last texts view.began view.answer tail view.turn between is → ArePlaced view.given tail
    within_placed between is there =
        let on = there.open_is in
        All-same P tail (there.begin ∷ between) there.tail_is
        (All-cons P there.begin between
        (own_placed view.given view.began there.begin own on.own (begin_aimed view.given (course_of view.given view.settings view.answer) view.number (text_of on.text view.answer) there.begin.event on.begins))
        (between_placed view.given view.settings view.answer view.number view.began between view.turn is there.row))

    running_placed : (made : ℕ) → IsRunOn view.given view.settings view.number last texts view.began view.answer tail view.turn made → ArePlaced view.given tail
    running_placed made there =
        let on = there.running_is.open_is in
        All-same P tail (there.begin ∷ there.between) there.tail_is
        (All-cons P there.begin there.between
        (own_placed view.given view.began there.begin own on.own (begin_aimed view.given (course_of view.given view.settings view.answer) view.number (text_of on.text view.answer) there.begin.event on.begins))
        (served_placed view.given view.began view.turn there.between own there.running_is.served))

    tail_placed : (journals : ℕ → List Entry) (stage : Stage) → TailAt view journals last texts tail stage → ArePlaced view.given tail
    tail_placed journals prepares is = All-same P tail [] is.0 (All-nil P)
    tail_placed journals opens is = All-same P tail [] is.0 (All-nil P)
    tail_placed journals closes (inl is) = All-same P tail [] is.0 (All-nil P)
    tail_placed journals closes (inr is) = gone_placed tail view.turn is
    tail_placed journals done is = closed_placed tail view.turn is
    tail_placed journals (ends result) is = within_placed is.between (due.ends is.due_is) is.within
    tail_placed journals (asks kind i) is = within_placed [] due.goes_on is
    tail_placed journals (polls kind i count) is = within_placed (is.0 ∷ []) due.goes_on is.1
    tail_placed journals (looks_asking kind i count) is = within_placed (is.0 ∷ []) due.goes_on is.1
    tail_placed journals (withdraws kind i count) is = within_placed (is.0 ∷ []) due.goes_on is.1
    tail_placed journals (kills kind i) is = within_placed [] due.goes_on is
    tail_placed journals (waits i at count) is = within_placed [] due.goes_on is
    tail_placed journals (looks_waiting i at count) is = within_placed [] due.goes_on is
    tail_placed journals (makes_steps planned made run) is = running_placed made is
    tail_placed journals (points planned made run) is = running_placed made is
    tail_placed journals (ends_run planned made run given) is = running_placed made is

module _ (view : View) (stage : Stage) (journals : ℕ → List Entry) (answers : List Answer) (mine : List Entry) (own : IsSession view.given view.given.session)
    (follows : FollowsAt view stage journals answers mine) where
  pub mine_placed : ArePlaced view.given mine
  mine_placed =
      All-same (IsPlaced view.given) mine (follows.before ++ follows.tail) follows.parts
      (All-append (IsPlaced view.given) follows.before follows.tail
      (statements_placed view.given own at_first 1 0 follows.taken answers follows.before view.settings view.number follows.last follows.ended)
      (tail_placed view own follows.last follows.texts follows.tail journals stage follows.tail_is))

  module _ (longer : ℕ → List Entry) (grown : (desk : ℕ) → IsSession view.given desk → Begins (journals desk) (longer desk)) where
    tail_grows : (stage : Stage) → TailAt view journals follows.last follows.texts follows.tail stage → TailAt view longer follows.last follows.texts follows.tail stage
    tail_grows prepares is = is
    tail_grows opens is = is
    tail_grows closes is = is
    tail_grows done is = is
    tail_grows (ends result) is = record {
      between = is.between;
      due_is = is.due_is;
      within = is.within;
      is = is.is;
      told = told_grows view.given journals longer grown (End view.number result 0)
          (aims_due view.given view.settings view.answer view.number view.began is.between view.turn is.due_is result is.within.row is.is) is.told;
    }
    tail_grows (asks kind i) is = is
    tail_grows (polls kind i count) is = is
    tail_grows (looks_asking kind i count) is = is
    tail_grows (withdraws kind i count) is = is
    tail_grows (kills kind i) is = is
    tail_grows (waits i at count) is = is
    tail_grows (looks_waiting i at count) is = is
    tail_grows (makes_steps planned made run) is = is
    tail_grows (points planned made run) is = is
    tail_grows (ends_run planned made run given) is = is

    pub Follows-more : FollowsAt view stage longer answers mine
    Follows-more = record {
      by = follows.by;
      numbered = follows.numbered;
      told = all_told_grow view.given journals longer grown mine mine_placed follows.told;
      last = follows.last;
      before = follows.before;
      tail = follows.tail;
      parts = follows.parts;
      taken = follows.taken;
      texts = follows.texts;
      texts_are = follows.texts_are;
      ended = follows.ended;
      tail_is = tail_grows stage follows.tail_is;
    }
