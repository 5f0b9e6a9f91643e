-- A request is open: the table's row, before and after a turn.
use Rattle.std.proofs.Common.{◌≡◌, ℕ, ◌+◌, List, [], ◌∷◌, ◌++◌, sym, subst}
use Rattle.sa_ast.specs.declared.kind.AskKind.{AskKind}
use Rattle.sa_desk.specs.declared.entry.Entry.{Entry}
use Rattle.sa_desk.specs.program.Course.{course_of, shows}
use Rattle.sa_desk.specs.program.Between.{Due, goes_on, Between}
use Rattle.sa_worker.specs.View.{View}
use Rattle.sa_worker.specs.Follows.{IsWithin, Asking}
use Rattle.sa_worker.proofs.follows.Moves.{IsWithin-more}

module _ (view : View) (kind : AskKind) (i last : ℕ) (texts : List (List ℕ)) (tail : List Entry) (journals : ℕ → List Entry)
    (course_is : course_of view.given view.settings view.answer ≡ shows kind i) (asking : Asking view journals last texts tail) where
  abbrev pub Row : List Entry → ℕ → Due → Type 0
  Row entries turn due = Between view.given view.number view.began (shows kind i) entries turn due

  pub row : Row (asking.0 ∷ []) view.turn goes_on
  row = subst (λ course. Between view.given view.number view.began course (asking.0 ∷ []) view.turn goes_on) course_is asking.1.row

  -- with more entries, or none, one turn later
  pub asking_more : (more : List Entry) (due : Due) → Row (asking.0 ∷ more) (view.turn + 1) due
      → IsWithin view.given view.settings view.number last texts view.began view.answer (tail ++ more) (view.turn + 1) (asking.0 ∷ more) due
  asking_more more due next =
      IsWithin-more view.given view.settings view.number last texts view.began view.answer tail view.turn (asking.0 ∷ []) goes_on asking.1 more (view.turn + 1) due
      (subst (λ course. Between view.given view.number view.began course (asking.0 ∷ more) (view.turn + 1) due) (sym course_is) next)
