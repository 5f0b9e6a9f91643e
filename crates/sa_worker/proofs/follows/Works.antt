-- Before the first turn, and after private work, the entries are those of the program so far.
use Rattle.std.proofs.Common.{◌≡◌, ℕ, ◌+◌, ◌<◌, List, [], ◌∷◌, ◌++◌, length, inl, refl, sym, subst, ap, ◌∙◌, length-append, arith}
use Rattle.std.proofs.lemmas.List.Elements.{All-nil}
use Rattle.sa_plan.specs.declared.plan.Planned.{Planned}
use Rattle.sa_meaning.specs.Progress.{Progress}
use Rattle.sa_desk.specs.declared.entry.Entry.{Entry}
use Rattle.sa_desk.specs.program.Course.{Given, Answer, at_first}
use Rattle.sa_desk.specs.program.SoFar.{IsTold}
use Rattle.sa_worker.specs.View.{Stage, prepares, makes_steps, opens, closes, points, ends_run, View, first_view}
use Rattle.sa_desk.specs.program.Prepares.{Answers}
use Rattle.sa_worker.specs.Works.{Prepares, is_prepared, is_last, Makes, goes_on, stops, WorksAt, Works}
use Rattle.sa_worker.specs.Follows.{TailAt, FollowsAt, Follows}
use Rattle.sa_worker.proofs.follows.Begin.{Statements-count}

-- Nothing is made before the first turn.
pub Follows-first : (given : Given) (journals : ℕ → List Entry) → Follows (first_view given) journals [] []
Follows-first given journals = record {
  by = All-nil (λ (entry : Entry). entry.actor ≡ given.session);
  numbered = refl;
  told = All-nil (λ (entry : Entry). IsTold given journals entry.event);
  last = 0;
  before = [];
  tail = [];
  parts = refl;
  taken = [];
  texts = given.texts;
  texts_are = refl;
  ended = (refl, refl, refl, refl);
  tail_is = (refl, refl);
}

-- No text is left.
none_left : (all taken texts : List (List ℕ)) (number : ℕ) → all ≡ taken ++ texts → number ≡ 1 + length taken → length all < number → texts ≡ []
none_left all taken [] number are count none = refl
none_left all taken (text ∷ rest) number are count none = absurd (let whole = ap length are ∙ length-append taken (text ∷ rest) in omega (arith, whole, count, none))

module _ (view : View) (journals : ℕ → List Entry) (answers : List Answer) (mine : List Entry) where
  -- The view has another stage, and perhaps another answer.
  restaged : (stage : Stage) (follows : FollowsAt view stage journals answers mine) (answer : Answer) (next : Stage)
      → (let after : View = record view { answer = answer; stage = next } in TailAt after journals follows.last follows.texts follows.tail next → FollowsAt after next journals answers mine)
  restaged stage follows answer next tail = record {
    by = follows.by;
    numbered = follows.numbered;
    told = follows.told;
    last = follows.last;
    before = follows.before;
    tail = follows.tail;
    parts = follows.parts;
    taken = follows.taken;
    texts = follows.texts;
    texts_are = follows.texts_are;
    ended = follows.ended;
    tail_is = tail;
  }

  module _ (gives : Answers) (later : View) where
    prepared-as : FollowsAt view prepares journals answers mine → Prepares gives view later → Follows later journals answers mine
    prepared-as follows (is_prepared answer there given is) =
        subst (λ view. Follows view journals answers mine) (sym is) (restaged prepares follows answer opens follows.tail_is)
    prepared-as follows (is_last none is) =
        let count = Statements-count view.given at_first 1 0 follows.taken answers follows.before view.settings view.number follows.last follows.ended in
        let left = none_left view.given.texts follows.taken follows.texts view.number follows.texts_are count none in
        subst (λ view. Follows view journals answers mine) (sym is) (restaged prepares follows view.answer closes (inl (follows.tail_is.0, follows.tail_is.1, left)))

    made-as : (planned : Planned) (made : ℕ) (run : Progress) → FollowsAt view (makes_steps planned made run) journals answers mine → Makes view planned made run later → Follows later journals answers mine
    made-as planned made run follows (goes_on after comes full more unfailed is) =
        subst (λ view. Follows view journals answers mine) (sym is) (restaged (makes_steps planned made run) follows view.answer (points planned made after) follows.tail_is)
    made-as planned made run follows (stops after comes finish analyze of_course so is) =
        subst (λ view. Follows view journals answers mine) (sym is) (restaged (makes_steps planned made run) follows view.answer (ends_run planned made after finish) follows.tail_is)

    works-as : (stage : Stage) → FollowsAt view stage journals answers mine → Follows view journals answers mine → WorksAt gives view stage later → Follows later journals answers mine
    works-as prepares follows same work = prepared-as follows work
    works-as (makes_steps planned made run) follows same work = made-as planned made run follows work
    works-as stage follows same work = subst (λ view. Follows view journals answers mine) (sym work) same

    pub Follows-works : Follows view journals answers mine → Works gives view later → Follows later journals answers mine
    Follows-works follows work = works-as view.stage follows follows work
