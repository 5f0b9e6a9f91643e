-- What a desk that a worker meets has at the worker's own place.
use Rattle.std.proofs.Common.{◌≡◌, ℕ, ◌-◌, ◌<◌, List, length, slice_index, inl, inr, sym, subst, ap, ◌∙◌, arith}
use Rattle.std.specs.Prelude.{None, slice_index_or}
use Rattle.std.proofs.lemmas.Bool.{cases_eq}
use Rattle.sa_desk.specs.declared.entry.Entry.{Entry}
use Rattle.sa_desk.specs.Contents.{Contents}
use Rattle.sa_desk.specs.World.{World, Meets, IsCall, quiet_of}
use Rattle.sa_worker.specs.View.{Stage, View}
use Rattle.sa_worker.specs.Keeps.{IsSession, KeepsAt}

-- Where a call leaves what a session counts at a desk, it counts the same everywhere.
pub quiet_kept : (world later : World) (session desk : ℕ) (entries : List Entry) (left : Contents) → IsCall world later desk session entries left
    → quiet_of left session ≡ quiet_of (world.contents desk) session → (at : ℕ) → later.quiet session at ≡ world.quiet session at
quiet_kept world later session desk entries left call same at =
    elim (cases_eq at desk) [
      | inl here ↦ subst (λ at. later.quiet session at ≡ world.quiet session at) (sym here) (call.counted_is ∙ same ∙ call.met.counted)
      | inr apart ↦ call.quiet_elsewhere at apart
    ]

module _ (world : World) (view : View) (stage : Stage) (keeps : KeepsAt world view stage) (desk : ℕ) (is : IsSession view.given desk)
    (met : Meets world desk view.given.session) where
  shares_are : length (world.contents desk).shares ≡ view.given.sessions
  shares_are = ap length met.shares ∙ keeps.shares desk is

  pub in_polls : view.given.session - 1 < length (world.contents desk).polls
  in_polls =
      let many = met.sound.polls in
      let shares = shares_are in
      let least = keeps.session.least in
      let most = keeps.session.most in omega (arith, many, shares, least, most)

  pub in_waits : view.given.session - 1 < length (world.contents desk).waits
  in_waits =
      let many = met.sound.waits in
      let shares = shares_are in
      let least = keeps.session.least in
      let most = keeps.session.most in omega (arith, many, shares, least, most)

  pub turns_are : (world.contents desk).terms.turns ≡ view.given.turns
  turns_are = ap (λ terms. terms.turns) (met.terms ∙ keeps.terms desk is)

  -- how often its last request was polled, and its open wait
  pub polls_are : slice_index (world.contents desk).polls (view.given.session - 1) ≡ (world.quiet view.given.session desk).polls
  polls_are = ap (λ quiet. quiet.polls) met.counted

  pub wait_is : slice_index_or (world.contents desk).waits (view.given.session - 1) None ≡ (world.quiet view.given.session desk).wait
  wait_is = ap (λ quiet. quiet.wait) met.counted
