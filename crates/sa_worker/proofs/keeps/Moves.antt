-- What one call changes of what a worker knows.
use Rattle.std.proofs.Common.{◌≡◌, ◌≢◌, ℕ, ◌+◌, ◌-◌, ◌<◌, ◌≤◌, List, ◌++◌, length, slice_index, All, inl, inr, sym, subst, ap, ◌∙◌, arith}
use Rattle.std.specs.Prelude.{Option, None, IfSome}
use Rattle.std.proofs.lemmas.Bool.{cases_eq}
use Rattle.std.proofs.lemmas.Option.{IfSome_then}
use Rattle.sa_desk.specs.declared.entry.Entry.{Entry}
use Rattle.sa_desk.specs.declared.request.OpenWait.{OpenWait}
use Rattle.sa_desk.specs.Contents.{Contents}
use Rattle.sa_desk.specs.World.{World, IsCall, quiet_of, standing_on}
use Rattle.sa_desk.specs.Charge.{charge}
use Rattle.sa_desk.specs.Own.{free, own_from, request_from}
use Rattle.sa_desk.specs.program.Course.{Answer, Settings}
use Rattle.sa_desk.proofs.Append.{charge-append}
use Rattle.sa_desk.proofs.program.Own.{own_from-append, request_from-append}
use Rattle.sa_worker.specs.View.{Stage, View, desk_at, outline_at, request_at, owed}
use Rattle.sa_worker.specs.Holds.{HoldsAt}
use Rattle.sa_worker.specs.Keeps.{IsSession, StageKnows, past, KeepsAt}
use Rattle.sa_worker.proofs.Entries.{standing-more, standing-same}

pub wait_below : (wait : Option OpenWait) (low high : ℕ) → low ≤ high → IfSome wait (λ wait. wait.statement < low) → IfSome wait (λ wait. wait.statement < high)
wait_below wait low high rises below = IfSome_then wait below (λ (wait : OpenWait) below. omega arith)

module _ (world later : World) (view : View) (stage : Stage) (keeps : KeepsAt world view stage) (entries : List Entry) (left : Contents)
    (call : IsCall world later (desk_at view stage) view.given.session entries left) where
  abbrev session : ℕ
  session = view.given.session

  abbrev here : ℕ
  here = desk_at view stage

  stands : All (λ entry. entry.desk ≡ here) entries
  stands = subst (λ desk. All (λ (entry : Entry). entry.desk ≡ desk) entries) call.met.number call.leaves.standing

  -- the session's entries on this desk, and on another one
  pub mine_here : standing_on here (later.mine session) ≡ standing_on here (world.mine session) ++ entries
  mine_here = ap (standing_on here) call.mine_is ∙ standing-more here entries stands (world.mine session)

  pub mine_elsewhere : (at : ℕ) → at ≢ here → standing_on at (later.mine session) ≡ standing_on at (world.mine session)
  mine_elsewhere at apart = ap (standing_on at) call.mine_is ∙ standing-same here entries stands (world.mine session) at apart

  module _ (settings : Settings) (turn number : ℕ) (answer : Answer) (began : ℕ) (next : Stage) where
    abbrev pub after : View
    after = record { given = view.given; settings = settings; turn = turn; number = number; answer = answer; began = began; stage = next }

    -- What is to show of the view that follows.
    pub record Leads : Type 0 where
      pub aimed : IsSession view.given (desk_at after next)
      pub begin : ℕ
      pub outline_here : here ≡ session → own_from (outline_at view keeps.begin stage) entries ≡ outline_at after begin next
      pub outline_elsewhere : here ≢ session → outline_at view keeps.begin stage ≡ outline_at after begin next
      pub request_here : request_from (request_at view stage here) entries ≡ request_at after next here
      pub request_elsewhere : (at : ℕ) → at ≢ here → request_at view stage at ≡ request_at after next at
      pub room_here : charge session entries + owed after next here ≤ owed view stage here
      pub room_elsewhere : (at : ℕ) → at ≢ here → owed after next at ≤ owed view stage at
      pub waiting_here : IfSome (quiet_of left session).wait (λ wait. wait.statement < past after next)
      pub past_more : past view stage ≤ past after next
      pub holds : HoldsAt after next
      pub knows : StageKnows later after next

    module _ (leads : Leads) where
      outline_now : own_from free (standing_on session (later.mine session)) ≡ outline_at after leads.begin next
      outline_now =
          elim (cases_eq here session) [
            | inl same ↦
                let mine : standing_on session (later.mine session) ≡ standing_on session (world.mine session) ++ entries =
                subst (λ at. standing_on at (later.mine session) ≡ standing_on at (world.mine session) ++ entries) same mine_here in
                ap (own_from free) mine ∙ own_from-append free (standing_on session (world.mine session)) entries ∙ ap (λ was. own_from was entries) keeps.outline_is
                ∙ leads.outline_here same
            | inr apart ↦
                ap (own_from free) (mine_elsewhere session (λ same. apart (sym same))) ∙ keeps.outline_is ∙ leads.outline_elsewhere apart
          ]

      request_now : request_from None (standing_on here (later.mine session)) ≡ request_at after next here
      request_now =
          ap (request_from None) mine_here ∙ request_from-append None (standing_on here (world.mine session)) entries
          ∙ ap (λ was. request_from was entries) (keeps.requests here keeps.aimed) ∙ leads.request_here

      requests_now : (desk : ℕ) → IsSession view.given desk → request_from None (standing_on desk (later.mine session)) ≡ request_at after next desk
      requests_now desk is =
          elim (cases_eq desk here) [
            | inl same ↦ subst (λ at. request_from None (standing_on at (later.mine session)) ≡ request_at after next at) (sym same) request_now
            | inr apart ↦ ap (request_from None) (mine_elsewhere desk apart) ∙ keeps.requests desk is ∙ leads.request_elsewhere desk apart
          ]

      shares_now : (desk : ℕ) → slice_index (later.shares desk) (session - 1) ≡ slice_index (world.shares desk) (session - 1)
      shares_now desk = ap (λ shares. slice_index shares (session - 1)) (call.same_shares desk)

      room_now : charge session (standing_on here (later.mine session)) + owed after next here ≤ slice_index (later.shares here) (session - 1)
      room_now =
          let paid = ap (charge session) mine_here ∙ charge-append session (standing_on here (world.mine session)) entries in
          let share = shares_now here in
          let had = keeps.room here keeps.aimed in
          let least = leads.room_here in omega (arith, paid, share, had, least)

      rooms_now : (desk : ℕ) → IsSession view.given desk → charge session (standing_on desk (later.mine session)) + owed after next desk ≤ slice_index (later.shares desk) (session - 1)
      rooms_now desk is =
          elim (cases_eq desk here) [
            | inl same ↦
                subst (λ at. charge session (standing_on at (later.mine session)) + owed after next at ≤ slice_index (later.shares at) (session - 1)) (sym same) room_now
            | inr apart ↦
                let paid = ap (charge session) (mine_elsewhere desk apart) in
                let share = shares_now desk in
                let had = keeps.room desk is in
                let least = leads.room_elsewhere desk apart in omega (arith, paid, share, had, least)
          ]

      waiting_now : IfSome (later.quiet session here).wait (λ wait. wait.statement < past after next)
      waiting_now = subst (λ quiet. IfSome quiet.wait (λ wait. wait.statement < past after next)) (sym call.counted_is) leads.waiting_here

      all_waiting : (desk : ℕ) → IsSession view.given desk → IfSome (later.quiet session desk).wait (λ wait. wait.statement < past after next)
      all_waiting desk is =
          elim (cases_eq desk here) [
            | inl same ↦ subst (λ at. IfSome (later.quiet session at).wait (λ wait. wait.statement < past after next)) (sym same) waiting_now
            | inr apart ↦
                subst (λ quiet. IfSome quiet.wait (λ wait. wait.statement < past after next)) (sym (call.quiet_elsewhere desk apart))
                (wait_below (world.quiet session desk).wait (past view stage) (past after next) leads.past_more (keeps.waiting desk is))
          ]

      -- The worker still knows what it has to.
      pub Keeps-leads : KeepsAt later after next
      Keeps-leads = record {
        session = keeps.session;
        aimed = leads.aimed;
        terms = λ desk is. call.same_terms desk ∙ keeps.terms desk is;
        shares = λ desk is. ap length (call.same_shares desk) ∙ keeps.shares desk is;
        begin = leads.begin;
        outline_is = outline_now;
        requests = requests_now;
        room = rooms_now;
        waiting = all_waiting;
        holds = leads.holds;
        knows = leads.knows;
      }
