-- What a session's own entries say of a desk that it meets is enough for its calls there.
use Rattle.std.proofs.Common.{◌≡◌, ℕ, ◌+◌, ◌-◌, ◌≤◌, ◌==◌, if◌then◌else◌, Bool, true, false, List, [], ◌∷◌, ◌++◌, length, map, slice_index, Option, Some, None, refl, sym, subst, ap, ◌∙◌, arith}
use Rattle.std.proofs.lemmas.Grind.{common_steps}
use Rattle.std.proofs.lemmas.Bool.{eq-eqb}
use Rattle.sa_ast.specs.declared.kind.AskKind.{AskKind}
use Rattle.sa_ast.specs.declared.kind.KillKind.{KillKind}
use Rattle.sa_plan.specs.declared.plan.Plan.{Plan}
use Rattle.sa_meaning.specs.Data.{RunData}
use Rattle.sa_desk.specs.declared.answer.Asked.{Asked}
use Rattle.sa_desk.specs.declared.answer.Asked.TheVariants as asked
use Rattle.sa_desk.specs.declared.answer.Killed.{Killed}
use Rattle.sa_desk.specs.declared.answer.Killed.TheVariants as killed
use Rattle.sa_desk.specs.declared.answer.Looked.{Looked}
use Rattle.sa_desk.specs.declared.answer.Looked.TheVariants as looking
use Rattle.sa_desk.specs.declared.answer.Polled.{Polled}
use Rattle.sa_desk.specs.declared.answer.Polled.TheVariants as polling
use Rattle.sa_desk.specs.declared.answer.Withdrawn.{Withdrawn}
use Rattle.sa_desk.specs.declared.answer.Withdrawn.TheVariants as withdrawing
use Rattle.sa_desk.specs.declared.entry.Entry.{Entry}
use Rattle.sa_desk.specs.declared.entry.Event.{Event}
use Rattle.sa_desk.specs.declared.entry.Event.TheVariants.{Begin, Gone}
use Rattle.sa_desk.specs.declared.entry.Event.TheVariants as event
use Rattle.sa_desk.specs.declared.entry.RefusedWhy.TheVariants as why
use Rattle.sa_desk.specs.declared.outcome.Finish.TheVariants.{Plain}
use Rattle.sa_desk.specs.declared.outcome.Outcome.{Outcome}
use Rattle.sa_desk.specs.declared.outcome.Outcome.TheVariants as outcome
use Rattle.sa_desk.specs.declared.stamp.Caller.{Caller}
use Rattle.sa_desk.specs.declared.stamp.Stamp.{Stamp}
use Rattle.sa_desk.specs.State.{Statement, Phase, idle, unplanned, planned, serving, closed}
use Rattle.sa_desk.specs.Comes.{IsVersion}
use Rattle.sa_desk.specs.Charge.{cost, charge}
use Rattle.sa_desk.specs.Contents.{Contents, state, phase, IsCaller, IsOwner, HasRoom, entry_by, later}
use Rattle.sa_desk.specs.Serving.{is_killed}
use Rattle.sa_desk.specs.World.{World, Meets, standing_on, next_stamp}
use Rattle.sa_desk.specs.Own.{free, plainly, outline, own_from, request_from, HasOpen}
use Rattle.sa_desk.specs.call.Ask.{MayAsk, ask_answer, ask_event, ask_entries}
use Rattle.sa_desk.specs.call.Begin.{AreGiven, MayBegin, begin_entries}
use Rattle.sa_desk.specs.call.Close.{MayClose, close_entries}
use Rattle.sa_desk.specs.call.End.{MayEnd, IsOn, IsGivenRun, end_entries}
use Rattle.sa_desk.specs.call.Kill.{MayKill, kill_answer, kill_event, kill_entries}
use Rattle.sa_desk.specs.call.Look.{MayLook, look_events, looked, look_entries}
use Rattle.sa_desk.specs.call.LookOwn.{MayLookOwn, IsUnplannedOn}
use Rattle.sa_desk.specs.call.Poll.{MayPoll, poll_events, polled, poll_entries}
use Rattle.sa_desk.specs.call.Withdraw.{MayWithdraw, withdraw_event, withdrawn, withdraw_entries}
use Rattle.sa_desk.specs.program.Turn.{itself}
use Rattle.sa_desk.proofs.Append.{charge-append}
use Rattle.sa_desk.proofs.laws.Request.{request_is_own}
use Rattle.sa_desk.proofs.program.Own.{outline-met, charge-met}

-- What each call's entries cost at most.
charge-one : (desk : Contents) (stamp : Stamp) (what : Event) → charge stamp.actor (entry_by desk stamp what ∷ []) ≡ cost what
charge-one desk stamp what = let own : (stamp.actor == stamp.actor) ≡ true = eq-eqb stamp.actor stamp.actor refl in grind (arith, common_steps)

cost-asked : (answer : Asked) (number : ℕ) (kind : AskKind) (at budget : ℕ) → cost (ask_event answer number kind at budget) ≤ 2
cost-asked asked.Queued number kind at budget = omega arith
cost-asked asked.NotExplainable number kind at budget = omega arith
cost-asked asked.NoSuchThread number kind at budget = omega arith

cost-killed : (answer : Killed) (number : ℕ) (kind : KillKind) → cost (kill_event answer number kind) ≤ 1
cost-killed killed.Ok number kind = omega arith
cost-killed killed.NoSuchThread number kind = omega arith

cost-withdrawn : (answer : Withdrawn) (number : ℕ) → cost (withdraw_event answer number) ≤ 1
cost-withdrawn withdrawing.Taken number = omega arith
cost-withdrawn withdrawing.Removed number = omega arith

cost-begun : (doomed : Bool) (number version : ℕ) (text : List ℕ) (plan : Option Plan) (tables : Option RunData)
    → cost (if doomed then Gone number else Begin number text version plan tables) ≤ 1
cost-begun true number version text plan tables = omega arith
cost-begun false number version text plan tables = omega arith

module _ (desk : Contents) (stamp : Stamp) where
  pub one_most : (what : Event) (price : ℕ) → cost what ≤ price → charge stamp.actor (entry_by desk stamp what ∷ []) ≤ price
  one_most what price least = let one = charge-one desk stamp what in omega (arith, one, least)

  charge-polled : (answer : Polled) (number : ℕ) → charge stamp.actor (map (entry_by desk stamp) (poll_events answer number)) ≤ 1
  charge-polled (polling.Taken report begin) number = one_most (event.Taken number) 1 (omega arith)
  charge-polled (polling.Spent turns) number = one_most (event.Spent number turns) 1 (omega arith)
  charge-polled polling.NotYet number = omega arith

  charge-looked : (answer : Looked) (number : ℕ) → charge stamp.actor (map (entry_by desk stamp) (look_events answer number)) ≤ 1
  charge-looked looking.NoSuchThread number = one_most (event.Refused number why.NoSuchThread) 1 (omega arith)
  charge-looked (looking.Reached steps) number = one_most (event.Waited number steps) 1 (omega arith)
  charge-looked (looking.Spent steps turns) number = one_most (event.WaitSpent number steps turns) 1 (omega arith)
  charge-looked looking.NotYet number = omega arith

-- What an outline says of the phase.
idle_is : (phase : Phase) → outline phase ≡ free → phase ≡ idle
idle_is idle is = refl
idle_is (unplanned statement) is = cc
idle_is (planned statement execution) is = cc
idle_is (serving statement execution steps turn) is = cc
idle_is closed is = cc

pub record IsPlainly (phase : Phase) (number begin turn : ℕ) : Type 0 where
  pub statement : Statement
  pub phase_is : phase ≡ unplanned statement
  pub number_is : number ≡ statement.number

plainly_is : (phase : Phase) (number begin turn : ℕ) → outline phase ≡ plainly number begin turn → IsPlainly phase number begin turn
plainly_is idle number begin turn is = absurd cc
plainly_is (unplanned statement) number begin turn is = record { statement = statement; phase_is = refl; number_is = cc }
plainly_is (planned statement execution) number begin turn is = absurd cc
plainly_is (serving statement execution steps at) number begin turn is = absurd cc
plainly_is closed number begin turn is = absurd cc

-- A session meets the desk, and has a share there.
pub record Knows (world : World) (desk session : ℕ) : Type 0 where
  pub met : Meets world desk session
  pub least : 1 ≤ session
  pub most : session ≤ length (world.shares desk)

-- what a session pays at a desk, and its share there
abbrev pub paid : World → (desk session : ℕ) → ℕ
paid world desk session = charge session (standing_on desk (world.mine session))

abbrev pub share : World → (desk session : ℕ) → ℕ
share world desk session = slice_index (world.shares desk) (session - 1)

module _ (world : World) (me : Caller) (desk : ℕ) (knows : Knows world desk me.actor) where
  abbrev found : Contents
  found = world.contents desk

  abbrev stamp : Stamp
  stamp = next_stamp world me

  caller : IsCaller found stamp
  caller = record { least = knows.least; most = subst (λ shares. me.actor ≤ length shares) (sym knows.met.shares) knows.most }

  pub room : (entries : List Entry) (price : ℕ) → charge me.actor entries ≤ price → paid world desk me.actor + price ≤ share world desk me.actor → HasRoom found me.actor entries
  room entries price least left =
      let both = charge-append me.actor found.journal entries in
      let own = charge-met world desk me.actor knows.met in
      subst (λ shares. charge me.actor (found.journal ++ entries) ≤ slice_index shares (me.actor - 1)) (sym knows.met.shares) (omega (arith, both, own, least, left))

  -- the request that its own entries tell
  open_request : HasOpen (request_from None (standing_on desk (world.mine me.actor))) me.actor (state found)
  open_request = subst (λ entries. HasOpen (request_from None entries) me.actor (state found)) knows.met.own (request_is_own found.terms found.journal me.actor knows.met.sound.run)

  budget_of : (budget : ℕ) → budget ≡ (world.terms desk).turns → budget ≡ found.terms.turns
  budget_of budget is = is ∙ ap (λ terms. terms.turns) (sym knows.met.terms)

  pub may_ask : (number : ℕ) (kind : AskKind) (budget : ℕ) → budget ≡ (world.terms desk).turns → request_from None (standing_on desk (world.mine me.actor)) ≡ None
      → paid world desk me.actor + 2 ≤ share world desk me.actor → MayAsk found stamp number kind budget
  may_ask number kind budget lasts none left = record {
    caller = caller;
    none = subst (λ request. HasOpen request me.actor (state found)) none open_request;
    budget_is = budget_of budget lasts;
    room = room (ask_entries found stamp number kind budget) 2 (one_most found stamp _ 2 (cost-asked (ask_answer (phase found)) number kind found.published budget)) left;
  }

  pub may_poll : (number : ℕ) → request_from None (standing_on desk (world.mine me.actor)) ≡ Some number → paid world desk me.actor + 1 ≤ share world desk me.actor
      → MayPoll found stamp number
  may_poll number some left = record {
    caller = caller;
    there = (subst (λ request. HasOpen request me.actor (state found)) some open_request).there;
    room = room (poll_entries found stamp number) 1 (charge-polled found stamp (polled found stamp number) number) left;
  }

  pub may_withdraw : (number : ℕ) → request_from None (standing_on desk (world.mine me.actor)) ≡ Some number → paid world desk me.actor + 1 ≤ share world desk me.actor
      → MayWithdraw found stamp number
  may_withdraw number some left = record {
    caller = caller;
    there = (subst (λ request. HasOpen request me.actor (state found)) some open_request).there;
    room = room (withdraw_entries found stamp number) 1 (one_most found stamp _ 1 (cost-withdrawn (withdrawn found stamp number) number)) left;
  }

  pub may_kill : (number : ℕ) (kind : KillKind) → paid world desk me.actor + 1 ≤ share world desk me.actor → MayKill found stamp number kind
  may_kill number kind left = record {
    caller = caller;
    room = room (kill_entries found stamp number kind) 1 (one_most found stamp _ 1 (cost-killed (kill_answer (phase found)) number kind)) left;
  }

  pub may_look : (number at budget : ℕ) → budget ≡ (world.terms desk).turns → paid world desk me.actor + 1 ≤ share world desk me.actor → MayLook found stamp number at budget
  may_look number at budget lasts left = record {
    caller = caller;
    budget_is = budget_of budget lasts;
    room = room (look_entries found stamp number at) 1 (charge-looked found stamp (looked found stamp number at) number) left;
  }

-- on its own desk
module _ (world : World) (me : Caller) (knows : Knows world me.actor me.actor) where
  abbrev own_desk : Contents
  own_desk = world.contents me.actor

  pub owner : IsOwner own_desk (next_stamp world me)
  owner = sym knows.met.number

  pub own_caller : IsCaller own_desk (next_stamp world me)
  own_caller = caller world me me.actor knows

  pub told_outline : outline (phase own_desk) ≡ own_from free (standing_on me.actor (world.mine me.actor))
  told_outline = outline-met world me.actor knows.met

  pub may_begin : (number version : ℕ) (text : List ℕ) (plan : Option Plan) (tables : Option RunData) → IsVersion version → AreGiven plan tables
      → own_from free (standing_on me.actor (world.mine me.actor)) ≡ free → paid world me.actor me.actor + 1 ≤ share world me.actor me.actor
      → MayBegin own_desk (next_stamp world me) (Begin number text version plan tables) number version plan tables
  may_begin number version text plan tables first given is_free left = record {
    caller = own_caller;
    own = owner;
    free = idle_is (phase own_desk) (told_outline ∙ is_free);
    version_is = first;
    given = given;
    room = room world me me.actor knows (begin_entries own_desk (next_stamp world me) (Begin number text version plan tables) number) 1
        (one_most own_desk (next_stamp world me) _ 1 (cost-begun (state own_desk).doomed number version text plan tables)) left;
  }

  pub may_close : own_from free (standing_on me.actor (world.mine me.actor)) ≡ free → paid world me.actor me.actor + 1 ≤ share world me.actor me.actor → MayClose own_desk (next_stamp world me)
  may_close is_free left = record {
    caller = own_caller;
    own = owner;
    free = idle_is (phase own_desk) (told_outline ∙ is_free);
    room = room world me me.actor knows (close_entries own_desk (next_stamp world me)) 1 (one_most own_desk (next_stamp world me) event.Close 1 (omega arith)) left;
  }

  module _ (number begin turn : ℕ) (is_on : own_from free (standing_on me.actor (world.mine me.actor)) ≡ plainly number begin turn) where
    on_own : IsPlainly (phase own_desk) number begin turn
    on_own = plainly_is (phase own_desk) number begin turn (told_outline ∙ is_on)

    pub may_look_own : MayLookOwn own_desk (next_stamp world me)
    may_look_own = record { caller = own_caller; own = owner; on = subst IsUnplannedOn (sym on_own.phase_is) tt }

    -- It ends with an outcome that isn't Interrupted, or is killed.
    pub may_end : (result : Outcome) → (result ≡ outcome.Interrupted → is_killed (phase own_desk) ≡ true) → paid world me.actor me.actor + 1 ≤ share world me.actor me.actor
        → MayEnd itself own_desk (next_stamp world me) number (Plain result)
    may_end result fits left = record {
      caller = own_caller;
      own = owner;
      on = subst (IsOn number) (sym on_own.phase_is) on_own.number_is;
      run = subst (λ phase. IsGivenRun phase None) (sym on_own.phase_is) tt;
      timely = tt;
      fits = fits;
      room = room world me me.actor knows (end_entries own_desk (next_stamp world me) number None result) 1
          (one_most own_desk (later 0 (next_stamp world me)) (event.End number (if is_killed (phase own_desk) then outcome.Interrupted else result) 0) 1 (omega arith)) left;
    }
