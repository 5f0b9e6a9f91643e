-- The entries are those of the whole program after the Close.
use Rattle.std.proofs.Common.{◌≡◌, ℕ, ◌+◌, List, [], ◌∷◌, ◌++◌, inl, inr, refl, subst, ap, arith}
use Rattle.std.specs.Prelude.{◌⊎◌}
use Rattle.sa_desk.specs.declared.entry.Entry.{Entry}
use Rattle.sa_desk.specs.declared.entry.Event.TheVariants as event
use Rattle.sa_desk.specs.declared.stamp.Stamp.{Stamp}
use Rattle.sa_desk.specs.Contents.{Contents, entry_by}
use Rattle.sa_desk.specs.World.{World, IsCall, next_stamp}
use Rattle.sa_desk.specs.call.Close.{close_entries}
use Rattle.sa_desk.specs.call.Close as close
use Rattle.sa_desk.specs.program.Course.{Given, Answer, Settings}
use Rattle.sa_desk.specs.program.SoFar.{gone, closed, Tail}
use Rattle.sa_desk.specs.program.Statement.{IsOwnEntry}
use Rattle.sa_worker.specs.View.{View, me_of, closes, done}
use Rattle.sa_worker.specs.Next.{goes_to}
use Rattle.sa_worker.specs.Follows.{FollowsAt, Follows}
use Rattle.sa_worker.proofs.follows.Moves.{told_one, Follows-on}

-- A Close after whole statements, or after a Gone.
closed_after : (given : Given) (settings : Settings) (number last : ℕ) (texts : List (List ℕ)) (tail : List Entry) (turn : ℕ) (entry : Entry)
    → IsOwnEntry given (turn + 1) entry → entry.event ≡ event.Close
    → ((tail ≡ []) × (turn ≡ last) × (texts ≡ [])) ⊎ Tail given settings number last texts gone tail turn
    → Tail given settings number last texts closed (tail ++ entry ∷ []) (turn + 1)
closed_after given settings number last texts [] turn entry own is before =
    elim before [
      | inl none ↦ (none.2, ap (λ turn. turn + 1) none.1, own, is)
      | inr went ↦ absurd went
    ]
closed_after given settings number last texts (first ∷ []) turn entry own is before =
    elim before [
      | inl none ↦ cc (none.0)
      | inr went ↦ (
        went.0,
        (let now = went.1 in omega (arith, now)),
        subst (λ turn. IsOwnEntry given turn first) went.1 went.2,
        went.3,
        own,
        is,
      )
    ]
closed_after given settings number last texts (first ∷ second ∷ more) turn entry own is before =
    elim before [
      | inl none ↦ cc (none.0)
      | inr went ↦ absurd went
    ]

module _ (world later : World) (view : View) (answers : List Answer) (follows : FollowsAt view closes (world.seen view.given.session) answers (world.mine view.given.session)) where
  abbrev session : ℕ
  session = view.given.session

  abbrev desk : Contents
  desk = world.contents session

  abbrev stamp : Stamp
  stamp = next_stamp world (me_of view)

  pub Follows-close : IsCall world later session session (close_entries desk stamp) (close.after_close desk stamp) → Follows (goes_to view done) (later.seen session) answers (later.mine session)
  Follows-close call =
      let entry = entry_by desk stamp event.Close in
      Follows-on world later view closes answers follows session (entry ∷ []) (close.after_close desk stamp) call (view.turn + 1) view.began done
      (told_one view.given (later.seen session) entry tt)
      (closed_after view.given view.settings view.number follows.last follows.texts follows.tail view.turn entry (call.met.number, refl) refl follows.tail_is)
