-- All sessions go on together: what one of them does leaves the others where they stand.
use Rattle.std.proofs.Common.{◌≡◌, ◌≢◌, ℕ, ◌≤◌, List, [], length, inl, inr, refl, sym, subst, ap, ◌∙◌}
use Rattle.std.proofs.lemmas.Bool.{cases_eq, eq-eqb, ne_eqb}
use Rattle.sa_desk.specs.declared.entry.Entry.{Entry}
use Rattle.sa_desk.specs.Contents.{Contents}
use Rattle.sa_desk.specs.Legal.{Sessions, given_of}
use Rattle.sa_desk.specs.World.{World, IsCall, IsFirst, next_stamp}
use Rattle.sa_desk.specs.program.Course.{Given, Answer}
use Rattle.sa_desk.specs.program.Prepares.{Answers, IsAnswer}
use Rattle.sa_desk.specs.program.Turn.{made, left}
use Rattle.sa_worker.specs.View.{View, text_at, first_view, me_of, IsActive, call_at, desk_at}
use Rattle.sa_worker.specs.Next.{next_view}
use Rattle.sa_worker.specs.Works.{Works}
use Rattle.sa_worker.specs.Holds.{IsGiven, IsSoundAnswer}
use Rattle.sa_worker.specs.Keeps.{Suits}
use Rattle.sa_worker.specs.Follows.{Follows, ended_with}
use Rattle.sa_worker.specs.Working.{IsWorking, AreWorking, with_view}
use Rattle.sa_worker.proofs.keeps.First.{Keeps-first}
use Rattle.sa_worker.proofs.keeps.Others.{Keeps-others}
use Rattle.sa_worker.proofs.keeps.Turn.{Keeps-turn}
use Rattle.sa_worker.proofs.keeps.Works.{Keeps-works}
use Rattle.sa_worker.proofs.follows.SoFar.{Follows-others}
use Rattle.sa_worker.proofs.follows.Turn.{Follows-turn}
use Rattle.sa_worker.proofs.follows.Works.{Follows-first, Follows-works}
use Rattle.sa_worker.proofs.working.Fixed.{given_next, given_works}
use Rattle.sa_worker.proofs.working.Given.{WereGiven-first, WereGiven-turn, WereGiven-works}

-- One session.
module _ (gives : Answers) (world : World) where
  pub IsWorking-first : (given : Given) → IsGiven given → IsFirst world → Suits world given → IsWorking gives world (first_view given)
  IsWorking-first given is first suits = record {
    keeps = Keeps-first world given is first suits;
    answers = [];
    follows = subst (λ mine. Follows (first_view given) (world.seen given.session) [] mine) (sym (first.mine given.session)) (Follows-first given (world.seen given.session));
    given = WereGiven-first gives given;
  }

  pub IsWorking-works : (view later : View) → ((answer : Answer) → IsAnswer gives (text_at view) answer → IsSoundAnswer view.given answer) → IsWorking gives world view → Works gives view later
      → IsWorking gives world later
  IsWorking-works view later sound working work = record {
    keeps = Keeps-works world view gives later sound working.keeps work;
    answers = working.answers;
    follows =
        subst (λ given. Follows later (world.seen given.session) working.answers (world.mine given.session)) (sym (given_works view gives later work))
        (Follows-works view (world.seen view.given.session) working.answers (world.mine view.given.session) gives later working.follows work);
    given = WereGiven-works gives view later working.answers working.given work;
  }

  -- its own call
  pub IsWorking-turn : (later : World) (view : View) → IsActive view.stage → IsWorking gives world view
      → (let desk = world.contents (desk_at view view.stage) in let stamp = next_stamp world (me_of view) in
      IsCall world later (desk_at view view.stage) view.given.session (made desk stamp view.number (call_at view view.stage)) (left desk stamp view.number (call_at view view.stage)))
      → IsWorking gives later (next_view view (world.contents (desk_at view view.stage)) (next_stamp world (me_of view)))
  IsWorking-turn later view active working call =
      let desk = world.contents (desk_at view view.stage) in
      let stamp = next_stamp world (me_of view) in
      let answers = ended_with view view.stage working.answers in
      record {
        keeps = Keeps-turn world later view view.stage active working.keeps call;
        answers = answers;
        follows =
            subst (λ given. Follows (next_view view desk stamp) (later.seen given.session) answers (later.mine given.session)) (sym (given_next view view.stage desk stamp))
            (Follows-turn world later view view.stage working.answers active working.keeps working.follows call);
        given = WereGiven-turn gives view view.stage (world.seen view.given.session) working.answers (world.mine view.given.session) active working.keeps.holds working.follows working.given desk stamp;
      }

  -- a call of another session
  pub IsWorking-others : (later : World) (view : View) (desk other : ℕ) (entries : List Entry) (left : Contents) → IsCall world later desk other entries left → view.given.session ≢ other
      → IsWorking gives world view → IsWorking gives later view
  IsWorking-others later view desk other entries left call apart working = record {
    keeps = Keeps-others world later view desk other entries left call apart view.stage working.keeps;
    answers = working.answers;
    follows = Follows-others world later view view.stage working.answers desk other entries left call apart working.follows;
    given = working.given;
  }

-- All of them.
module _ (gives : Answers) (sessions : Sessions) where
  pub AreWorking-first : (world : World) → IsFirst world → ((session : ℕ) → 1 ≤ session → session ≤ length sessions.texts → IsGiven (given_of sessions session) × Suits world (given_of sessions session))
      → AreWorking gives sessions world (λ session. first_view (given_of sessions session))
  AreWorking-first world first suit = record {
    given = λ session least most. refl;
    working = λ session least most. let both = suit session least most in IsWorking-first gives world (given_of sessions session) both.0 first both.1;
  }

  module _ (world : World) (views : ℕ → View) (all : AreWorking gives sessions world views) (session : ℕ) (least : 1 ≤ session) (most : session ≤ length sessions.texts) where
    abbrev own : View
    own = views session

    -- with another view of this session
    replaced : (later : World) (view : View) → view.given ≡ own.given → IsWorking gives later view
        → ((other : ℕ) → 1 ≤ other → other ≤ length sessions.texts → other ≢ session → IsWorking gives later (views other)) → AreWorking gives sessions later (with_view views session view)
    replaced later view same working others = record {
      given = λ other low high. elim (cases_eq other session) [
        | inl here ↦
            let own_given = same ∙ all.given session least most ∙ ap (given_of sessions) (sym here) in rw (eq-eqb other session here) own_given
        | inr apart ↦ let other_given = all.given other low high in rw (ne_eqb other session apart) other_given
      ];
      working = λ other low high. elim (cases_eq other session) [
        | inl here ↦ rw (eq-eqb other session here) working
        | inr apart ↦ let is = others other low high apart in rw (ne_eqb other session apart) is
      ];
    }

    pub AreWorking-works : (later : View) → ((answer : Answer) → IsAnswer gives (text_at own) answer → IsSoundAnswer own.given answer) → Works gives own later
        → AreWorking gives sessions world (with_view views session later)
    AreWorking-works later sound work =
        replaced world later (given_works own gives later work) (IsWorking-works gives world own later sound (all.working session least most) work) (λ other low high apart. all.working other low high)

    pub AreWorking-turn : (later : World) → IsActive own.stage
        → (let desk = world.contents (desk_at own own.stage) in let stamp = next_stamp world (me_of own) in
        IsCall world later (desk_at own own.stage) own.given.session (made desk stamp own.number (call_at own own.stage)) (left desk stamp own.number (call_at own own.stage)))
        → AreWorking gives sessions later (with_view views session (next_view own (world.contents (desk_at own own.stage)) (next_stamp world (me_of own))))
    AreWorking-turn later active call =
        let desk = world.contents (desk_at own own.stage) in
        let stamp = next_stamp world (me_of own) in
        let number_of = λ (given : Given). given.session in
        replaced later (next_view own desk stamp) (given_next own own.stage desk stamp) (IsWorking-turn gives world later own active (all.working session least most) call)
        (λ other low high apart.
        let mine : (views other).given.session ≡ other = ap number_of (all.given other low high) in
        let theirs : own.given.session ≡ session = ap number_of (all.given session least most) in
        IsWorking-others gives world later (views other) (desk_at own own.stage) own.given.session (made desk stamp own.number (call_at own own.stage)) (left desk stamp own.number (call_at own own.stage)) call
        (λ same. apart (sym mine ∙ same ∙ theirs)) (all.working other low high))
