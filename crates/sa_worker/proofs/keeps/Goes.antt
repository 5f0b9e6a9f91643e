-- A statement goes on, or is to end, after a call that leaves its outline.
use Rattle.std.proofs.Common.{◌≡◌, ◌≢◌, ℕ, ◌+◌, ◌*◌, ◌<◌, ◌≤◌, List, Some, None, inl, inr, refl, sym, subst, ◌∙◌, arith}
use Rattle.std.specs.Prelude.{IfSome}
use Rattle.std.proofs.lemmas.Bool.{cases_eq, eq-eqb, ne_eqb}
use Rattle.sa_desk.specs.declared.entry.Entry.{Entry}
use Rattle.sa_desk.specs.declared.outcome.Outcome.{Outcome}
use Rattle.sa_desk.specs.declared.outcome.Outcome.TheVariants as outcome
use Rattle.sa_desk.specs.Contents.{Contents}
use Rattle.sa_desk.specs.World.{World, IsCall, quiet_of}
use Rattle.sa_desk.specs.Charge.{charge}
use Rattle.sa_desk.specs.Own.{Outline, plainly, own_from, request_from}
use Rattle.sa_worker.specs.View.{Stage, ends, View, left, desk_at, outline_at, aimed, open_at, request_at, owed_aiming, owed_own, owed_later, owed}
use Rattle.sa_worker.specs.Next.{goes_to}
use Rattle.sa_worker.specs.Holds.{IsOn, StageHolds}
use Rattle.sa_worker.specs.Keeps.{WasKilled, IsSession, StageKnows, past, KeepsAt, Keeps}
use Rattle.sa_worker.proofs.keeps.Moves.{Keeps-leads, wait_below}

-- a price at the desk that is aimed at, and elsewhere
pub aimed-own : (desk price : ℕ) → aimed desk desk price ≡ price
aimed-own desk price = rw (eq-eqb desk desk refl) refl

pub aimed-at : (asked desk price : ℕ) → desk ≡ asked → aimed asked desk price ≡ price
aimed-at asked desk price same = rw (eq-eqb desk asked same) refl

pub aimed-less : (asked desk low high : ℕ) → low ≤ high → aimed asked desk low ≤ aimed asked desk high
aimed-less asked desk low high less =
    elim (cases_eq desk asked) [
      | inl same ↦ rw (eq-eqb desk asked same) less
      | inr apart ↦ rw (ne_eqb desk asked apart) (omega arith)
    ]

pub open_at-own : (number desk : ℕ) → open_at number desk desk ≡ Some number
open_at-own number desk = rw (eq-eqb desk desk refl) refl

pub open_at-other : (number asked desk : ℕ) → desk ≢ asked → open_at number asked desk ≡ None
open_at-other number asked desk apart = rw (ne_eqb desk asked apart) refl

-- one turn later
pub on_later : (view : View) (stage : Stage) (last : ℕ) → IsOn view last → IsOn (goes_to view stage) (last + 1)
on_later view stage last on = record { there = on.there; began = on.began; turn = let turn = on.turn in omega arith }

module _ (world later : World) (view : View) (stage : Stage) (keeps : KeepsAt world view stage) (entries : List Entry) (after : Contents)
    (call : IsCall world later (desk_at view stage) view.given.session entries after) where
  abbrev session : ℕ
  session = view.given.session

  abbrev here : ℕ
  here = desk_at view stage

  -- Where the call leaves the session's wait at the desk.
  pub waiting_same : (bound : ℕ) → past view stage ≤ bound → IfSome (quiet_of (world.contents here) session).wait (λ wait. wait.statement < bound)
  waiting_same bound rises =
      subst (λ quiet. IfSome quiet.wait (λ wait. wait.statement < bound)) (sym call.met.counted)
      (wait_below (world.quiet session here).wait (past view stage) bound rises (keeps.waiting here keeps.aimed))

  module _ (next : Stage) where
    abbrev gone : View
    gone = goes_to view next

    pub record Goes : Type 0 where
      pub aimed : IsSession view.given (desk_at gone next)
      pub same : (was : Outline) → own_from was entries ≡ was
      pub outline : outline_at view keeps.begin stage ≡ outline_at gone keeps.begin next
      pub request_here : request_from (request_at view stage here) entries ≡ request_at gone next here
      pub request_elsewhere : (at : ℕ) → at ≢ here → request_at view stage at ≡ request_at gone next at
      pub room_here : charge session entries + owed gone next here ≤ owed view stage here
      pub room_elsewhere : (at : ℕ) → at ≢ here → owed gone next at ≤ owed view stage at
      pub waiting : IfSome (quiet_of after session).wait (λ wait. wait.statement < past gone next)
      pub past_more : past view stage ≤ past gone next
      pub holds : StageHolds gone next
      pub knows : StageKnows later gone next

    pub Keeps-goes : Goes → KeepsAt later gone next
    Keeps-goes goes = Keeps-leads world later view stage keeps entries after call view.settings (view.turn + 1) view.number view.answer view.began next (record {
      aimed = goes.aimed;
      begin = keeps.begin;
      outline_here = λ own. goes.same (outline_at view keeps.begin stage) ∙ goes.outline;
      outline_elsewhere = λ apart. goes.outline;
      request_here = goes.request_here;
      request_elsewhere = goes.request_elsewhere;
      room_here = goes.room_here;
      room_elsewhere = goes.room_elsewhere;
      waiting_here = goes.waiting;
      past_more = goes.past_more;
      holds = record {
        given = keeps.holds.given;
        first = keeps.holds.first;
        limit = keeps.holds.limit;
        answer = keeps.holds.answer;
        holds = goes.holds;
      };
      knows = goes.knows;
    })

  module _ (result : Outcome) where
    -- The statement is to end next.
    pub record Ends : Type 0 where
      pub same : (was : Outline) → own_from was entries ≡ was
      pub outline : outline_at view keeps.begin stage ≡ plainly view.number keeps.begin view.began
      pub request_here : request_from (request_at view stage here) entries ≡ None
      pub request_elsewhere : (at : ℕ) → at ≢ here → request_at view stage at ≡ None
      pub owes : charge session entries ≤ owed_aiming stage here
      pub owes_later : owed_later view stage ≡ 3 * left view
      pub owes_own : owed_own view stage ≡ 2 * left view + 2
      pub waiting : IfSome (quiet_of after session).wait (λ wait. wait.statement < view.number + 1)
      pub past_more : past view stage ≤ view.number + 1
      pub lasted : ℕ
      pub on : IsOn view lasted
      pub turns : lasted + 1 ≤ 2 * view.given.turns
      pub knows : result ≡ outcome.Interrupted → WasKilled later (goes_to view (ends result))

    pub Keeps-ends : Ends → Keeps later (goes_to view (ends result))
    Keeps-ends goes = Keeps-goes (ends result) (record {
      aimed = keeps.session;
      same = goes.same;
      outline = goes.outline;
      request_here = goes.request_here;
      request_elsewhere = goes.request_elsewhere;
      room_here =
          let owes = goes.owes in
          let own : aimed session here (owed_own view stage) ≡ aimed session here (2 * left view + 2) = rw goes.owes_own refl in
          let after = goes.owes_later in omega (arith, owes, own, after);
      room_elsewhere = λ at apart.
          let own : aimed session at (owed_own view stage) ≡ aimed session at (2 * left view + 2) = rw goes.owes_own refl in
          let after = goes.owes_later in omega (arith, own, after);
      waiting = goes.waiting;
      past_more = goes.past_more;
      holds = (goes.lasted + 1, goes.turns, on_later view (ends result) goes.lasted goes.on);
      knows = goes.knows;
    })
