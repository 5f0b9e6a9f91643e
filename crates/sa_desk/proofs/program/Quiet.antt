-- What a session has counted at a desk after one of its calls there.
use Rattle.std.proofs.Common.{◌≡◌, ℕ, ◌+◌, ◌-◌, ◌<◌, ◌==◌, true, length, slice_index, None, refl, ap, ◌∙◌, arith, get_or-set_same}
use Rattle.std.proofs.lemmas.Bool.{eq-eqb}
use Rattle.sa_ast.specs.declared.kind.AskKind.{AskKind}
use Rattle.sa_meaning.specs.Progress.{Progress}
use Rattle.std.specs.Prelude.{Option}
use Rattle.sa_desk.specs.declared.answer.Polled.TheVariants.{NotYet}
use Rattle.sa_desk.specs.declared.outcome.Outcome.{Outcome}
use Rattle.sa_desk.specs.declared.stamp.Stamp.{Stamp}
use Rattle.sa_desk.specs.Contents.{Contents, IsSound, IsCaller, IsOwner, with_entries}
use Rattle.sa_desk.specs.World.{Quiet, quiet_of}
use Rattle.sa_desk.specs.call.Ask.{after_ask}
use Rattle.sa_desk.specs.call.End.{after_end}
use Rattle.sa_desk.specs.call.Look.{looked, looks_before, wait_after, after_look}
use Rattle.sa_desk.specs.call.Point.{after_point}
use Rattle.sa_desk.specs.call.Poll.{count_poll, polled, poll_entries, after_poll}

module _ (desk : Contents) (stamp : Stamp) (sound : IsSound desk) (caller : IsCaller desk stamp) where
  in_polls : stamp.actor - 1 < length desk.polls
  in_polls = let many = sound.polls in let least = caller.least in let most = caller.most in omega arith

  in_waits : stamp.actor - 1 < length desk.waits
  in_waits = let many = sound.waits in let least = caller.least in let most = caller.most in omega arith

  -- A request is asked: polls are counted from 0.
  pub quiet-asked : (number : ℕ) (kind : AskKind) (budget : ℕ) → quiet_of (after_ask desk stamp number kind budget) stamp.actor ≡ record (quiet_of desk stamp.actor) { polls = 0 }
  quiet-asked number kind budget =
      ap (λ polls. let quiet : Quiet = record (quiet_of desk stamp.actor) { polls = polls } in quiet) (get_or-set_same desk.polls (stamp.actor - 1) 0 0 in_polls)

  -- A poll that is answered NotYet is counted.
  pub quiet-polled : (number : ℕ) → polled desk stamp number ≡ NotYet
      → quiet_of (after_poll desk stamp number) stamp.actor ≡ record (quiet_of desk stamp.actor) { polls = (quiet_of desk stamp.actor).polls + 1 }
  quiet-polled number not_yet =
      let had = slice_index desk.polls (stamp.actor - 1) in
      ap (λ answer. let next : Contents = record (with_entries (poll_entries desk stamp number) desk) { polls = count_poll answer (stamp.actor - 1) desk.polls } in quiet_of next stamp.actor) not_yet
      ∙ ap (λ polls. let quiet : Quiet = record (quiet_of desk stamp.actor) { polls = polls } in quiet) (get_or-set_same desk.polls (stamp.actor - 1) (had + 1) 0 in_polls)

  -- A look leaves the wait that goes on, or none.
  pub quiet-looked : (number at : ℕ) → quiet_of (after_look desk stamp number at) stamp.actor
      ≡ record (quiet_of desk stamp.actor) { wait = wait_after (looked desk stamp number at) number at (looks_before desk stamp number at) }
  quiet-looked number at =
      let wait = wait_after (looked desk stamp number at) number at (looks_before desk stamp number at) in
      ap (λ wait. let quiet : Quiet = record (quiet_of desk stamp.actor) { wait = wait } in quiet) (get_or-set_same desk.waits (stamp.actor - 1) wait None in_waits)

  module _ (own : IsOwner desk stamp) where
    is_own : (stamp.actor == desk.terms.desk) ≡ true
    is_own = eq-eqb stamp.actor desk.terms.desk own

    -- A point publishes the run's steps, and an end takes all back.
    pub quiet-pointed : (run : Progress) → quiet_of (after_point desk stamp run) stamp.actor ≡ record (quiet_of desk stamp.actor) { published = run.steps }
    quiet-pointed run = rw is_own refl

    pub quiet-ended : (number : ℕ) (run : Option Progress) (given : Outcome)
        → quiet_of (after_end desk stamp number run given) stamp.actor ≡ record (quiet_of desk stamp.actor) { published = 0 }
    quiet-ended number run given = rw is_own refl
