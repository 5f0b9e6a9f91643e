-- What a turn of one of the sessions of a script asks for and leaves, as the code has it.
use Rattle.std.proofs.Common.{◌≡◌, ◌≢◌, ℕ, ◌+◌, ◌-◌, ◌≤◌, true, length, slice_index_or, slice_set, sym, subst, ap, ◌∙◌, arith, get_or-set_same, get_or-set_other}
use Rattle.std.proofs.lemmas.List.{get_or_default}
use Rattle.sa_desk.specs.Plain.{Plain, IsPlain, are_there, world_of}
use Rattle.sa_desk.specs.World.{World, IsCall, Meets, next_stamp}
use Rattle.sa_desk.specs.program.Prepares.{Answers}
use Rattle.sa_desk.specs.program.Turn.{made, left}
use Rattle.sa_worker.specs.View.{View, done, me_of, call_at, desk_at}
use Rattle.sa_worker.specs.Next.{next_view}
use Rattle.sa_worker.specs.Works.{Works}
use Rattle.sa_worker.specs.Keeps.{Keeps}
use Rattle.sa_step.specs.Sessions.{AllSessions, AreRunning, view_in}
use Rattle.sa_desk.specs.Contents.{Contents}
use Rattle.sa_desk.specs.declared.stamp.Stamp.{Stamp}
use Rattle.sa_step.specs.Turns.{TakesTurn}
use Rattle.sa_step.proofs.Driven.{nobody, called_there, meets, turned_running, works_active}
use Rattle.sa_worker.proofs.working.Turned.{turn_taken}
use Rattle.sa_worker.proofs.working.Fixed.{given_works}

module _ (gives : Answers) (all shown : AllSessions) (seen : all ≡ shown) (running : AreRunning gives shown) (session : ℕ) (least : 1 ≤ session) (most : session ≤ length shown.views)
    (worker later : View) (is : worker ≡ slice_index_or all.views (session - 1) worker) (works : Works gives worker later) (kept : (world : World) → Keeps world worker → Keeps world later) where
  run_all : AreRunning gives all
  run_all = subst (AreRunning gives) (sym seen) running

  most_all : session ≤ length all.views
  most_all = subst (λ all. session ≤ length all.views) (sym seen) most

  own_is : worker ≡ view_in all.views session
  own_is = let most = most_all in is ∙ get_or_default all.views (session - 1) worker _ (omega (arith, least, most))

  works_own : Works gives (view_in all.views session) later
  works_own = subst (λ view. Works gives view later) own_is works

  pub keeps_later : Keeps (world_of all.plain) later
  keeps_later =
      let most = most_all in
      let workers = run_all.workers in
      kept (world_of all.plain) (subst (Keeps (world_of all.plain)) (sym own_is) (run_all.working.working session least (omega (arith, most, workers))).keeps)

  given_same : later.given ≡ (view_in all.views session).given
  given_same = given_works (view_in all.views session) gives later works_own

  pub allowed_later : IsPlain all.plain → are_there all.plain (desk_at later later.stage) later.given.session ≡ true
  allowed_later plain = called_there gives all run_all session least most_all later plain keeps_later given_same

  pub met_later : IsPlain all.plain → Meets (world_of all.plain) (desk_at later later.stage) later.given.session
  met_later plain = meets gives all run_all session least most_all later plain keeps_later given_same

  pub running_later : (view_in shown.views session).stage ≢ done → (plain : Plain) (next : View) → length plain.desks ≡ length all.plain.desks
      → (let world = world_of all.plain in let desk = world.contents (desk_at later later.stage) in let stamp = next_stamp world (me_of later) in
      IsCall world (world_of plain) (desk_at later later.stage) later.given.session (made desk stamp later.number (call_at later later.stage)) (left desk stamp later.number (call_at later later.stage))
      → next ≡ next_view later desk stamp → AreRunning gives (record { script = all.script; plain = plain; views = slice_set all.views (session - 1) next }))
  running_later undone plain next count call is =
      turned_running gives all run_all session least most_all later next plain (subst (λ all. (view_in all.views session).stage ≢ done) (sym seen) undone) works_own count call is

  -- The turn counts.
  pub turned_later : (view_in shown.views session).stage ≢ done → (next : View) (desk : Contents) (stamp : Stamp) → next ≡ next_view later desk stamp
      → next.turn ≡ (view_in shown.views session).turn + 1
  turned_later undone next desk stamp is =
      subst (λ all. next.turn ≡ (view_in all.views session).turn + 1) seen
      (turn_taken gives (view_in all.views session) later next works_own
      (works_active gives (view_in all.views session) later (subst (λ all. (view_in all.views session).stage ≢ done) (sym seen) undone) works_own) desk stamp is)

  -- All that the turn does.
  pub took : (view_in shown.views session).stage ≢ done → IsPlain all.plain → (plain : Plain) (next : View) → length plain.desks ≡ length all.plain.desks
      → (let world = world_of all.plain in let desk = world.contents (desk_at later later.stage) in let stamp = next_stamp world (me_of later) in
      IsCall world (world_of plain) (desk_at later later.stage) later.given.session (made desk stamp later.number (call_at later later.stage)) (left desk stamp later.number (call_at later later.stage))
      → next ≡ next_view later desk stamp → TakesTurn gives shown session (record { script = all.script; plain = plain; views = slice_set all.views (session - 1) next }))
  took undone sound plain next count call is =
      let most = most_all in
      let placed = get_or-set_same all.views (session - 1) next nobody (omega (arith, least, most)) in
      let taken : TakesTurn gives all session (record { script = all.script; plain = plain; views = slice_set all.views (session - 1) next }) = record {
        undone = subst (λ all. (view_in all.views session).stage ≢ done) (sym seen) undone;
        plain = sound;
        same = count;
        ready = later;
        work = works_own;
        allowed = allowed_later sound;
        call = call;
        next = placed ∙ is;
        turns = ap (λ (view : View). view.turn) placed ∙ turned_later undone next _ _ is ∙ ap (λ (all : AllSessions). (view_in all.views session).turn + 1) (sym seen);
        others = λ other low apart. get_or-set_other all.views (session - 1) (other - 1) next nobody (λ same. apart (omega (arith, same, least, low)));
      } in
      subst (λ shown. TakesTurn gives shown session (record { script = all.script; plain = plain; views = slice_set all.views (session - 1) next })) seen taken
