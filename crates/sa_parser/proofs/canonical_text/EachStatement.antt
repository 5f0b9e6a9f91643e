-- Each statement that the tokens of a text spell is read back from its canonical text.
use Rattle.std.proofs.Common.{◌≡◌, ℕ, ◌+◌, ◌^◌, ◌<◌, Bool, true, false, codes, Option, Some, None, cond, nat_lt, refl, subst}
use Rattle.std.proofs.lemmas.Bool.{ltb-true}
use Rattle.sa_ast.specs.declared.expression.ExprTree.{ExprTree}
use Rattle.sa_ast.specs.declared.kind.AskKind.{AskKind}
use Rattle.sa_ast.specs.declared.kind.AskKind.TheVariants as ask
use Rattle.sa_ast.specs.declared.kind.KillKind.{KillKind}
use Rattle.sa_ast.specs.declared.kind.KillKind.TheVariants as killed
use Rattle.sa_ast.specs.declared.select.SelectTree.{SelectTree}
use Rattle.sa_ast.specs.declared.statement.Statement.{Statement}
use Rattle.sa_ast.specs.declared.statement.Statement.TheVariants as said
use Rattle.sa_parser.specs.declared.rule.Rule.TheVariants as rule
use Rattle.sa_parser.specs.SelectTree.{or_else}
use Rattle.sa_parser.specs.Token.{number_of}
use Rattle.sa_parser.specs.Form.{Form, One, Word, Number, NumberBelow, ◌<$>◌, ◌<*>◌}
use Rattle.sa_parser.specs.ExprGrammar.{nested}
use Rattle.sa_parser.specs.SelectGrammar.{Select}
use Rattle.sa_parser.specs.StatementGrammar.{switch_in, positive, steps_in, Explain, Analyze, Show, Kill, Set, TraceRows, Wait, statement}
use Rattle.sa_parser.proofs.canonical_text.Commands.{AreSteps, said-Show, said-Kill, said-SetTrace, said-SetLimit, said-Wait}
use Rattle.sa_parser.proofs.canonical_text.Each.{Each, Any, Makes, each-any, each-one, each-made, each-then, each-either}
use Rattle.sa_parser.proofs.canonical_text.EachPart.{same_some, small, IsNumber, each-number, each-number_below}
use Rattle.sa_parser.proofs.canonical_text.EachQuery.{each_select}
use Rattle.sa_parser.proofs.canonical_text.EachRule.{each_nested}
use Rattle.sa_parser.proofs.canonical_text.Fine.{Fine}
use Rattle.sa_parser.proofs.canonical_text.Query.{IsQuery}
use Rattle.sa_parser.proofs.canonical_text.Statements.{IsSaid, said-TraceRows, said-Select, said-Explain, said-Analyze}

-- what is made at first, of something that tells nothing
begun : {A B : Type 0} (make : A → B) (Whole : B → Type 0) (Is : Form A) → ((part : A) → Whole (make part)) → Each Whole (make <$> Is)
begun make Whole Is makes = each-made make Any Whole Is (each-any Is) (λ part there. makes part)

-- something that tells nothing goes past
past : {A B : Type 0} (Whole : B → Type 0) (First : Form (A → B)) (Second : Form A) → Each (Makes Any Whole) First → Each Whole (First <*> Second)
past Whole First Second first = each-then Any Whole First Second first (each-any Second)

-- what makes a statement of one number, or of several, whatever they are

abbrev Of_one : (ℕ → Statement) → Type 0
Of_one = Makes Any IsSaid

abbrev Of_two : (ℕ → ℕ → Statement) → Type 0
Of_two = Makes Any Of_one

abbrev Of_three : (ℕ → ℕ → ℕ → Statement) → Type 0
Of_three = Makes Any Of_two

abbrev Of_four : (ℕ → ℕ → ℕ → ℕ → Statement) → Type 0
Of_four = Makes Any Of_three

abbrev Of_five : (ℕ → ℕ → ℕ → ℕ → ℕ → Statement) → Type 0
Of_five = Makes Any Of_four

each_trace_rows : Each IsSaid TraceRows
unfolding TraceRows
each_trace_rows =
    let make : ℕ → ℕ → ℕ → ℕ → ℕ → ℕ → Statement = λ _ _ _ _ _ _. said.TraceRows in
    past IsSaid _ _ (past Of_one _ _ (past Of_two _ _ (past Of_three _ _ (past Of_four _ _ (begun make Of_five (Word (codes "SELECT"))
    (λ a b b_is c c_is d d_is e e_is f f_is. said-TraceRows))))))

-- a statement of a number of up to 38 digits
abbrev Of_number : (ℕ → Statement) → Type 0
Of_number = Makes IsNumber IsSaid

abbrev For_number : (ℕ → ℕ → Statement) → Type 0
For_number = Makes Any Of_number

abbrev Behind_format : (Option ℕ → ℕ → ℕ → Statement) → Type 0
Behind_format = Makes Any For_number

abbrev Of_kind : (AskKind → Option ℕ → ℕ → ℕ → Statement) → Type 0
Of_kind = Makes Any Behind_format

each_show : Each IsSaid Show
unfolding Show
each_show =
    let make : ℕ → AskKind → Option ℕ → ℕ → ℕ → Statement = λ _ kind _ _ id. said.Show kind id in
    let show = begun make Of_kind (Word (codes "SHOW")) (λ place kind kind_is format format_is for for_is id small. said-Show kind id small) in
    each-then IsNumber IsSaid _ Number (past Of_number _ _ (past For_number _ _ (past Behind_format _ _ show))) each-number

abbrev Of_ended : (Option KillKind → ℕ → Statement) → Type 0
Of_ended = Makes Any Of_number

each_kill : Each IsSaid Kill
unfolding Kill
each_kill =
    let make : ℕ → Option KillKind → ℕ → Statement = λ _ kind id. said.Kill (or_else killed.Connection kind) id in
    let kill = begun make Of_ended (Word (codes "KILL")) (λ place kind kind_is id small. said-Kill (or_else killed.Connection kind) id small) in
    each-then IsNumber IsSaid _ Number (past Of_number _ _ kill) each-number

-- SET

positive_told : (found : Option ℕ) (value : ℕ) → positive found ≡ Some value → (found ≡ Some value) × (0 < value)
positive_told None value e = absurd cc
positive_told (Some number) value e = tested (nat_lt 0 number) refl e
  where
    tested : (test : Bool) → nat_lt 0 number ≡ test → cond test (Some number) None ≡ Some value → (Some number ≡ Some value) × (0 < value)
    tested true is e = (e, subst (λ (n : ℕ). 0 < n) (same_some number value e) (ltb-true 0 number is))
    tested false is e = absurd cc

each_steps : Each AreSteps (One steps_in)
unfolding steps_in
each_steps =
    each-one steps_in AreSteps (λ token value is e.
    let (found, some) = positive_told (number_of (2 ^ 40 + 1) token.kind) value e in
    (some, small (2 ^ 40 + 1) token.kind value found))

abbrev Of_switch : (Bool → Statement) → Type 0
Of_switch = Makes Any IsSaid

abbrev Behind_switch : (ℕ → Bool → Statement) → Type 0
Behind_switch = Makes Any Of_switch

abbrev Of_steps : (ℕ → Statement) → Type 0
Of_steps = Makes AreSteps IsSaid

abbrev Behind_steps : (ℕ → ℕ → Statement) → Type 0
Behind_steps = Makes Any Of_steps

-- a statement, as it is
abbrev Same : (Statement → Statement) → Type 0
Same = Makes IsSaid IsSaid

abbrev Behind_session : (Option ℕ → Statement → Statement) → Type 0
Behind_session = Makes Any Same

each_set : Each IsSaid Set
unfolding Set
each_set =
    let traced : ℕ → ℕ → Bool → Statement = λ _ _ on. said.SetTrace on in
    let limited : ℕ → ℕ → ℕ → Statement = λ _ _ steps. said.SetLimit steps in
    let same : ℕ → Option ℕ → Statement → Statement = λ _ _ statement. statement in
    let trace = begun traced Behind_switch (Word (codes "optimizer_trace")) (λ place equal equal_is on on_is. said-SetTrace on) in
    let limit = begun limited Behind_steps (Word (codes "max_row_steps")) (λ place equal equal_is steps are. said-SetLimit steps are) in
    let set = begun same Behind_session (Word (codes "SET")) (λ place session session_is statement is. is) in
    each-then IsSaid IsSaid _ _ (past Same _ _ set)
    (each-either IsSaid _ _ (past IsSaid _ (One switch_in) (past Of_switch _ _ trace)) (each-then AreSteps IsSaid _ (One steps_in) (past Of_steps _ _ limit) each_steps))

-- WAIT

abbrev IsPoint : ℕ → Type 0
IsPoint at = at < 2 ^ 40 + 1

abbrev Of_point : (ℕ → Statement) → Type 0
Of_point = Makes IsPoint IsSaid

abbrev Behind_at : (ℕ → ℕ → Statement) → Type 0
Behind_at = Makes Any Of_point

abbrev Of_waited : (ℕ → ℕ → ℕ → Statement) → Type 0
Of_waited = Makes IsNumber Behind_at

abbrev Behind_for : (ℕ → ℕ → ℕ → ℕ → Statement) → Type 0
Behind_for = Makes Any Of_waited

each_wait : Each IsSaid Wait
unfolding Wait
each_wait =
    let make : ℕ → ℕ → ℕ → ℕ → ℕ → Statement = λ _ _ id _ at. said.Wait id at in
    let wait = begun make Behind_for (Word (codes "WAIT")) (λ place for for_is id small word word_is at point. said-Wait id at small point) in
    each-then IsPoint IsSaid _ (NumberBelow (2 ^ 40 + 1))
    (past Of_point _ _ (each-then IsNumber Behind_at _ Number (past Of_waited _ _ wait) each-number)) (each-number_below (2 ^ 40 + 1))

-- queries

abbrev Of_query : (SelectTree → Statement) → Type 0
Of_query = Makes IsQuery IsSaid

abbrev Behind_analyze : (Option ℕ → SelectTree → Statement) → Type 0
Behind_analyze = Makes Any Of_query

abbrev Behind_explain : (Option ℕ → Statement → Statement) → Type 0
Behind_explain = Makes Any Same

module _ (Expr : Form ExprTree) (each : Each Fine Expr) where
  each_explain : Each IsSaid (Explain Expr)
  unfolding Explain
  each_explain =
      let same : ℕ → Option ℕ → Statement → Statement = λ _ _ statement. statement in
      let shown : ℕ → ℕ → ℕ → Statement = λ _ _ id. said.Show ask.Explain id in
      let explain = begun same Behind_explain (Word (codes "EXPLAIN")) (λ place format format_is statement is. is) in
      let for = begun shown For_number (Word (codes "FOR")) (λ place connection connection_is id small. said-Show ask.Explain id small) in
      each-then IsSaid IsSaid _ _ (past Same _ _ explain)
      (each-either IsSaid _ _ (each-then IsNumber IsSaid _ Number (past Of_number _ _ for) each-number)
      (each-made (λ tree. said.Explain tree) IsQuery IsSaid (Select Expr) (each_select Expr each) said-Explain))

  each_analyze : Each IsSaid (Analyze Expr)
  unfolding Analyze
  each_analyze =
      let make : ℕ → Option ℕ → SelectTree → Statement = λ _ _ tree. said.Analyze tree in
      let analyze = begun make Behind_analyze (Word (codes "ANALYZE")) (λ place format format_is tree is. said-Analyze tree is) in
      each-then IsQuery IsSaid _ (Select Expr) (past Of_query _ _ analyze) (each_select Expr each)

pub each_statement : (levels : ℕ) → Each IsSaid (statement levels)
unfolding statement
each_statement levels =
    let Expr = nested levels rule.Expression in
    let each = each_nested levels rule.Expression in
    let query = each-made (λ tree. said.Select tree) IsQuery IsSaid (Select Expr) (each_select Expr each) said-Select in
    each-either IsSaid _ _ each_trace_rows
    (each-either IsSaid _ _ query
    (each-either IsSaid _ _ (each_explain Expr each)
    (each-either IsSaid _ _ (each_analyze Expr each)
    (each-either IsSaid _ _ each_show (each-either IsSaid _ _ each_kill (each-either IsSaid _ _ each_set each_wait))))))
