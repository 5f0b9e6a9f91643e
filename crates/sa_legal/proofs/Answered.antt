-- The rows of an End answer their statement's query.
use Rattle.std.proofs.Common.{◌≡◌, ℕ, ◌≤◌, List, ◌∷◌, ◌++◌, length, refl, sym, subst₂}
use Rattle.std.specs.Cmp.{IsTotalOrder}
use Rattle.sa_value.specs.declared.value.Value.{Value}
use Rattle.sa_value.specs.Compare.{order_of}
use Rattle.sa_plan.specs.declared.prepared.Prepared.{Prepared}
use Rattle.sa_plan.specs.declared.prepared.Work.TheVariants as work
use Rattle.sa_prepare.specs.Answered.{AnswersText}
use Rattle.sa_prepare.specs.Prepared.{Prepares}
use Rattle.sa_prepare.proofs.answers.Texts.{ready_answers}
use Rattle.sa_desk.specs.declared.entry.Entry.{Entry}
use Rattle.sa_desk.specs.declared.entry.Event.TheVariants.{End}
use Rattle.sa_desk.specs.declared.outcome.Outcome.TheVariants as outcome
use Rattle.sa_desk.specs.Legal.{Sessions, given_of, journal_at, IsLegal}
use Rattle.sa_desk.specs.program.Course.{Given}
use Rattle.sa_legal.specs.Answered.{AnswersStatement}
use Rattle.sa_legal.specs.Rows.{HasRows}
use Rattle.sa_legal.proofs.Rows.{rows_are_output}

module _ (total : IsTotalOrder order_of) where
  rows_answer : (given : Given) (number : ℕ) (names : List (List ℕ)) (rows : List (List Value))
      → HasRows (Prepares given.tables) given number names rows
      → AnswersStatement given number names rows
  rows_answer given number names rows has =
      let source : List ℕ = has.prepared.source in
      let ready : Prepared =
      record { text = has.prepared.canonical; work = work.Select has.planned } in
      record {
        least = has.prepared.least;
        source = source;
        text = has.prepared.text;
        answered = subst₂ (AnswersText given.tables source)
            (sym has.names_are) (sym has.rows_are)
            (ready_answers total given.tables source ready has.planned has.prepared.gives_it refl);
      }

  pub ends_answer : (sessions : Sessions) (journals : List (List Entry))
      → IsLegal (Prepares sessions.tables) sessions journals
      → (desk : ℕ) → 1 ≤ desk → desk ≤ length journals → (before rest : List Entry) (entry : Entry)
      → journal_at journals desk ≡ before ++ entry ∷ rest
      → (number steps : ℕ) (names : List (List ℕ)) (rows : List (List Value))
      → entry.event ≡ End number (outcome.Rows names rows) steps
      → AnswersStatement (given_of sessions desk) number names rows
  ends_answer sessions journals legal desk least most before rest entry parts number steps names
      rows is =
      rows_answer (given_of sessions desk) number names rows
      (rows_are_output (Prepares sessions.tables) sessions journals legal desk least most before
      rest entry parts number steps names rows is)
