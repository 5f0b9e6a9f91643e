-- The entries of a session whose worker stands somewhere are those of its program so far, and stay so where journals grow.
use Rattle.std.proofs.Common.{◌≡◌, ◌≢◌, ℕ, List, [], ◌∷◌, inl, inr, refl, sym, subst}
use Rattle.sa_desk.specs.declared.entry.Entry.{Entry}
use Rattle.sa_desk.specs.declared.entry.Event.TheVariants as event
use Rattle.sa_desk.specs.Contents.{Contents}
use Rattle.sa_desk.specs.World.{World, Begins, IsCall}
use Rattle.sa_desk.specs.program.Course.{Answer}
use Rattle.sa_desk.specs.program.Between as due
use Rattle.sa_desk.specs.program.SoFar.{Now, free, opening, within, running, gone, closed, Tail}
use Rattle.sa_desk.proofs.program.Told.{IsTold-grows, all_told-grow}
use Rattle.sa_worker.specs.View.{Stage, prepares, makes_steps, opens, closes, ends, asks, polls, looks_asking, withdraws, kills, waits, looks_waiting, points, ends_run, done, View}
use Rattle.sa_worker.specs.Follows.{IsWithin, IsRunOn, TailAt, FollowsAt, IsNow, StandsSo}

-- What stands after whole statements, by cases.
module _ (view : View) (last : ℕ) (texts : List (List ℕ)) (tail : List Entry) where
  abbrev TailNow : Now → Type 0
  TailNow now = Tail view.given view.settings view.number last texts now tail view.turn

  within_now : (between : List Entry) (is : due.Due) → IsWithin view.given view.settings view.number last texts view.began view.answer tail view.turn between is → TailNow (within view.began view.answer is)
  within_now between is there =
      subst (λ tail. Tail view.given view.settings view.number last texts (within view.began view.answer is) tail view.turn) (sym there.tail_is) (there.open_is, there.row)

  running_now : (made : ℕ) → IsRunOn view.given view.settings view.number last texts view.began view.answer tail view.turn made → TailNow (running view.began view.answer made)
  running_now made there =
      subst (λ tail. Tail view.given view.settings view.number last texts (running view.began view.answer made) tail view.turn) (sym there.tail_is) there.running_is

  free_now : tail ≡ [] → view.turn ≡ last → TailNow free
  free_now none now = subst (λ tail. Tail view.given view.settings view.number last texts free tail view.turn) (sym none) now

  opening_now : tail ≡ [] → view.turn ≡ last → TailNow (opening view.answer)
  opening_now none now = subst (λ tail. Tail view.given view.settings view.number last texts (opening view.answer) tail view.turn) (sym none) now

  -- where the program stands, and what stands there
  record Stands (stage : Stage) : Type 0 where
    now : Now
    now_is : IsNow view stage now
    tail_is : TailNow now

  stands : (journals : ℕ → List Entry) (stage : Stage) → TailAt view journals last texts tail stage → Stands stage
  stands journals prepares is = record { now = free; now_is = refl; tail_is = free_now is.0 is.1 }
  stands journals opens is = record { now = opening view.answer; now_is = refl; tail_is = opening_now is.0 is.1 }
  stands journals closes (inl is) = record { now = free; now_is = inl refl; tail_is = free_now is.0 is.1 }
  stands journals closes (inr is) = record { now = gone; now_is = inr refl; tail_is = is }
  stands journals done is = record { now = closed; now_is = refl; tail_is = is }
  stands journals (ends result) is = record {
    now = within view.began view.answer (due.ends is.due_is);
    now_is = (is.due_is, refl, is.is);
    tail_is = within_now is.between (due.ends is.due_is) is.within;
  }
  stands journals (asks kind i) is = record { now = within view.began view.answer due.goes_on; now_is = refl; tail_is = within_now [] due.goes_on is }
  stands journals (polls kind i count) is = record { now = within view.began view.answer due.goes_on; now_is = refl; tail_is = within_now (is.0 ∷ []) due.goes_on is.1 }
  stands journals (looks_asking kind i count) is = record { now = within view.began view.answer due.goes_on; now_is = refl; tail_is = within_now (is.0 ∷ []) due.goes_on is.1 }
  stands journals (withdraws kind i count) is = record { now = within view.began view.answer due.goes_on; now_is = refl; tail_is = within_now (is.0 ∷ []) due.goes_on is.1 }
  stands journals (kills kind i) is = record { now = within view.began view.answer due.goes_on; now_is = refl; tail_is = within_now [] due.goes_on is }
  stands journals (waits i at count) is = record { now = within view.began view.answer due.goes_on; now_is = refl; tail_is = within_now [] due.goes_on is }
  stands journals (looks_waiting i at count) is = record { now = within view.began view.answer due.goes_on; now_is = refl; tail_is = within_now [] due.goes_on is }
  stands journals (makes_steps planned made run) is = record { now = running view.began view.answer made; now_is = refl; tail_is = running_now made is }
  stands journals (points planned made run) is = record { now = running view.began view.answer made; now_is = refl; tail_is = running_now made is }
  stands journals (ends_run planned made run given) is = record { now = running view.began view.answer made; now_is = refl; tail_is = running_now made is }

module _ (view : View) (stage : Stage) (journals : ℕ → List Entry) (answers : List Answer) (mine : List Entry) (follows : FollowsAt view stage journals answers mine) where
  -- The entries are those of the program so far.
  pub Follows-so_far : StandsSo view stage journals answers mine
  Follows-so_far =
      let there = stands view follows.last follows.texts follows.tail journals stage follows.tail_is in
      record {
        now = there.now;
        now_is = there.now_is;
        so_far = record {
          by = follows.by;
          numbered = follows.numbered;
          told = follows.told;
          settings = view.settings;
          last = follows.last;
          done = follows.before;
          tail = follows.tail;
          parts = follows.parts;
          taken = follows.taken;
          texts = follows.texts;
          texts_are = follows.texts_are;
          number = view.number;
          ended = follows.ended;
          tail_is = there.tail_is;
        };
      }

  module _ (longer : ℕ → List Entry) (grown : (desk : ℕ) → Begins (journals desk) (longer desk)) where
    tail_grows : (stage : Stage) → TailAt view journals follows.last follows.texts follows.tail stage → TailAt view longer follows.last follows.texts follows.tail stage
    tail_grows prepares is = is
    tail_grows opens is = is
    tail_grows closes is = is
    tail_grows done is = is
    tail_grows (ends result) is = record {
      between = is.between;
      due_is = is.due_is;
      within = is.within;
      is = is.is;
      told = IsTold-grows view.given journals longer grown (event.End view.number result 0) is.told;
    }
    tail_grows (asks kind i) is = is
    tail_grows (polls kind i count) is = is
    tail_grows (looks_asking kind i count) is = is
    tail_grows (withdraws kind i count) is = is
    tail_grows (kills kind i) is = is
    tail_grows (waits i at count) is = is
    tail_grows (looks_waiting i at count) is = is
    tail_grows (makes_steps planned made run) is = is
    tail_grows (points planned made run) is = is
    tail_grows (ends_run planned made run given) is = is

    pub Follows-grows : FollowsAt view stage longer answers mine
    Follows-grows = record {
      by = follows.by;
      numbered = follows.numbered;
      told = all_told-grow view.given journals longer grown mine follows.told;
      last = follows.last;
      before = follows.before;
      tail = follows.tail;
      parts = follows.parts;
      taken = follows.taken;
      texts = follows.texts;
      texts_are = follows.texts_are;
      ended = follows.ended;
      tail_is = tail_grows stage follows.tail_is;
    }

-- What others do leaves it so.
pub Follows-others : (world later : World) (view : View) (stage : Stage) (answers : List Answer) (desk other : ℕ) (entries : List Entry) (left : Contents)
    → IsCall world later desk other entries left → view.given.session ≢ other
    → FollowsAt view stage (world.seen view.given.session) answers (world.mine view.given.session)
    → FollowsAt view stage (later.seen view.given.session) answers (later.mine view.given.session)
Follows-others world later view stage answers desk other entries left call apart follows =
    let session = view.given.session in
    subst (FollowsAt view stage (later.seen session) answers) (sym (call.others_mine session apart))
    (Follows-grows view stage (world.seen session) answers (world.mine session) follows (later.seen session) (call.seen_more session))
