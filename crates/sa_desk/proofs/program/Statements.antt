-- Whole statements of a session, with one more at the end.
use Rattle.std.proofs.Common.{ℕ, ◌+◌, List, [], ◌∷◌, ◌++◌, append_assoc, append-nil, refl, sym, subst, ap, ◌∙◌}
use Rattle.sa_desk.specs.declared.entry.Entry.{Entry}
use Rattle.sa_desk.specs.declared.outcome.Outcome.{Outcome}
use Rattle.sa_desk.specs.program.Course.{Given, Answer, Settings, settings_after}
use Rattle.sa_desk.specs.program.Statement.{IsStatement, Statements}

pub Statements-push : (given : Given) (settings : Settings) (number turn : ℕ) (texts : List (List ℕ)) (answers : List Answer) (entries : List Entry) (left : Settings) (next last : ℕ)
    (text : List ℕ) (answer : Answer) (more : List Entry) (at : ℕ) (result : Outcome)
    → Statements given settings number turn texts answers entries left next last → IsStatement given left next (last + 1) text answer more at result
    → Statements given settings number turn (texts ++ text ∷ []) (answers ++ answer ∷ []) (entries ++ more) (settings_after left answer result) (next + 1) at
Statements-push given settings number turn [] [] entries left next last text answer more at result row new = (
  more,
  [],
  at,
  result,
  ap (λ xs. xs ++ more) row.0 ∙ sym (append-nil more),
  subst (λ turn. IsStatement given settings number (turn + 1) text answer more at result) row.3
      (subst (λ number. IsStatement given settings number (last + 1) text answer more at result) row.2
      (subst (λ settings. IsStatement given settings next (last + 1) text answer more at result) row.1 new)),
  (refl, ap (λ was. settings_after was answer result) row.1, ap (λ n. n + 1) row.2, refl),
)
Statements-push given settings number turn [] (was ∷ answers) entries left next last text answer more at result row new = absurd row
Statements-push given settings number turn (source ∷ texts) [] entries left next last text answer more at result row new = absurd row
Statements-push given settings number turn (source ∷ texts) (was ∷ answers) entries left next last text answer more at result row new = (
  row.0,
  row.1 ++ more,
  row.2,
  row.3,
  ap (λ xs. xs ++ more) row.4 ∙ append_assoc row.0 row.1 more,
  row.5,
  Statements-push given (settings_after settings was row.3) (number + 1) row.2 texts answers row.1 left next last text answer more at result row.6 new,
)
