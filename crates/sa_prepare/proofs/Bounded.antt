-- A SELECT has a table, and a statement that sets a limit of row steps sets one from 1 to 2^40.
use Rattle.std.proofs.Common.{◌≡◌, ℕ, ◌+◌, ◌^◌, ◌<◌, ◌≤◌, Bool, true, false, cond, nat_lt, List, [], ◌∷◌, ◌++◌, length, fold, inl, inr, refl, sym, subst, arith}
use Rattle.std.specs.Prelude.{⊤, Option, Some, None}
use Rattle.std.proofs.lemmas.Bool.{ltb-true}
use Rattle.sa_lexer.specs.declared.token.Token.{Token}
use Rattle.sa_ast.specs.declared.expression.ExprTree.{ExprTree}
use Rattle.sa_ast.specs.declared.kind.AskKind.{AskKind}
use Rattle.sa_ast.specs.declared.kind.AskKind.TheVariants as ask
use Rattle.sa_ast.specs.declared.kind.KillKind.{KillKind}
use Rattle.sa_ast.specs.declared.kind.KillKind.TheVariants as killed
use Rattle.sa_ast.specs.declared.select.GroupTree.{GroupTree}
use Rattle.sa_ast.specs.declared.select.ItemTree.{ItemTree}
use Rattle.sa_ast.specs.declared.select.OrderTree.{OrderTree}
use Rattle.sa_ast.specs.declared.select.SelectTree.{SelectTree}
use Rattle.sa_ast.specs.declared.select.TableTree.{TableTree}
use Rattle.sa_ast.specs.declared.statement.Statement.{Statement}
use Rattle.sa_ast.specs.declared.statement.Statement.TheVariants as said
use Rattle.sa_parser.specs.SelectGrammar.{Table, Joined, Tables, Select}
use Rattle.sa_parser.specs.SelectTree.{or_else, select_tree}
use Rattle.sa_parser.specs.Token.{number_of}
use Rattle.sa_parser.specs.Form.{Form, One, Made, Then, Either, Chain}
use Rattle.sa_parser.specs.StatementGrammar.{positive, steps_in, Explain, Analyze, Show, Kill, Set, TraceRows, Wait, statement}
use Rattle.sa_parser.specs.Parse.{IsStatement}
use Rattle.sa_parser.proofs.canonical_text.EachPart.{same_some, small}
use Rattle.sa_prepare.specs.inner.Refused.{HasTables}

abbrev IsLimit : ℕ → Type 0
IsLimit limit = (1 ≤ limit) × (limit ≤ 2 ^ 40)

-- there is one at least
abbrev HasSome : {A : Type 0} → List A → Type 0
HasSome xs = 1 ≤ length xs

abbrev pub IsBounded : Statement → Type 0
IsBounded (said.Select tree) = HasSome tree.from
IsBounded (said.SetLimit limit) = IsLimit limit
IsBounded statement = ⊤

-- a fact of each value of a form, and of what a function makes of whatever follows
abbrev Each : {A : Type 0} → (A → Type 0) → Form A → Type 0
Each {A} Fact Is = (tokens : List Token) (value : A) → Is tokens value → Fact value

abbrev Into : (A : Type 0) {B : Type 0} → (B → Type 0) → (A → B) → Type 0
Into A Whole make = (part : A) → Whole (make part)

-- a fact of what a function makes of whatever has another fact
abbrev Keeping : {A B : Type 0} → (A → Type 0) → (B → Type 0) → (A → B) → Type 0
Keeping {A} Part Whole make = (part : A) → Part part → Whole (make part)

module _ {A B : Type 0} (Whole : B → Type 0) where
  of_made : (make : A → B) (Is : Form A) → Into A Whole make → Each Whole (Made make Is)
  unfolding Made
  of_made make Is makes tokens value is = subst Whole (sym is.2) (makes is.0)

  of_made_of : (Part : A → Type 0) (make : A → B) (Is : Form A) → ((part : A) → Part part → Whole (make part)) → Each Part Is → Each Whole (Made make Is)
  unfolding Made
  of_made_of Part make Is makes each tokens value is = subst Whole (sym is.2) (makes is.0 (each tokens is.0 is.1))

  past : (First : Form (A → B)) (Second : Form A) → Each (Into A Whole) First → Each Whole (Then First Second)
  unfolding Then
  past First Second first tokens value is = subst Whole (sym is.7) (first is.0 is.2 is.5 is.3)

  of_then : (Part : A → Type 0) (First : Form (A → B)) (Second : Form A) → Each (λ make. (part : A) → Part part → Whole (make part)) First → Each Part Second → Each Whole (Then First Second)
  unfolding Then
  of_then Part First Second first second tokens value is = subst Whole (sym is.7) (first is.0 is.2 is.5 is.3 (second is.1 is.3 is.6))

of_either : {A : Type 0} (Fact : A → Type 0) (First Second : Form A) → Each Fact First → Each Fact Second → Each Fact (Either First Second)
unfolding Either
of_either Fact First Second one other tokens value is = elim is [ inl here ↦ one tokens value here | inr here ↦ other tokens value here ]

-- FROM names a table.
some-append : {A : Type 0} (xs ys : List A) → HasSome xs → HasSome (xs ++ ys)
some-append [] ys some = absurd (omega arith)
some-append (x ∷ xs) ys some = omega arith

some-folded : {A B : Type 0} (more : B → List A) (found : List A) (values : List B) → HasSome found → HasSome (fold (λ found next. found ++ more next) found values)
some-folded more found [] some = some
some-folded more found (value ∷ values) some = some-folded more (found ++ more value) values (some-append found (more value) some)

each_chain : {A B : Type 0} (First : Form (List A)) (more : B → List A) (Next : Form B) → Each HasSome First → Each HasSome (Chain First (λ found next. found ++ more next) Next)
each_chain {A} {B} First more Next each =
    past HasSome _ _
    (of_made_of (Into (List B) HasSome) HasSome (fold (λ found next. found ++ more next)) First (λ found some values. some-folded more found values some) each)

module _ (Expr : Form ExprTree) where
  each_tables : Each HasSome (Tables Expr)
  unfolding Tables Joined
  each_tables =
      each_chain (Joined Expr) (λ next. next) _
      (each_chain _ (λ (next : TableTree). next ∷ []) _
      (of_made HasSome (λ (table : TableTree). table ∷ []) Table (λ table. omega arith)))

  each_select : Each (λ (tree : SelectTree). HasSome tree.from) (Select Expr)
  unfolding Select
  each_select =
      let Whole : SelectTree → Type 0 = λ tree. HasSome tree.from in
      past Whole _ _ (past (Into _ Whole) _ _ (past (Into _ (Into _ Whole)) _ _ (past (Into _ (Into _ (Into _ Whole))) _ _ (past (Into _ (Into _ (Into _ (Into _ Whole)))) _ _
      (of_then (Into _ (Into _ (Into _ (Into _ (Into _ Whole))))) HasSome _ _
      (past (Keeping HasSome (Into _ (Into _ (Into _ (Into _ (Into _ Whole)))))) _ _
      (past (Into _ (Keeping HasSome (Into _ (Into _ (Into _ (Into _ (Into _ Whole))))))) _ _
      (past (Into _ (Into _ (Keeping HasSome (Into _ (Into _ (Into _ (Into _ (Into _ Whole)))))))) _ _
      (of_made (Into _ (Into _ (Into _ (Keeping HasSome (Into _ (Into _ (Into _ (Into _ (Into _ Whole))))))))) select_tree _
      (λ word distinct items from tables some filter group having order limit. some)))))
      each_tables)))))

-- A limit is positive and below its bound.
positive_told : (found : Option ℕ) (value : ℕ) → positive found ≡ Some value → (found ≡ Some value) × (0 < value)
positive_told None value e = absurd cc
positive_told (Some number) value e = tested (nat_lt 0 number) refl e
  where
    tested : (test : Bool) → nat_lt 0 number ≡ test → cond test (Some number) None ≡ Some value → (Some number ≡ Some value) × (0 < value)
    tested true is e = (e, subst (λ (n : ℕ). 0 < n) (same_some number value e) (ltb-true 0 number is))
    tested false is e = absurd cc

each_steps : Each IsLimit (One steps_in)
unfolding One steps_in
each_steps tokens value is =
    let told = positive_told (number_of (2 ^ 40 + 1) (is.0).kind) value is.2 in
    let below = small (2 ^ 40 + 1) (is.0).kind value told.0 in
    let some = told.1 in (omega (arith, some), omega (arith, below))

each_set : Each IsBounded Set
unfolding Set
each_set =
    let same : ℕ → Option ℕ → Statement → Statement = λ _ _ statement. statement in
    let traced : ℕ → ℕ → Bool → Statement = λ _ _ on. said.SetTrace on in
    let limited : ℕ → ℕ → ℕ → Statement = λ _ _ steps. said.SetLimit steps in
    let Kept : (Statement → Statement) → Type 0 = λ make. (part : Statement) → IsBounded part → IsBounded (make part) in
    let Limits : (ℕ → Statement) → Type 0 = λ make. (part : ℕ) → IsLimit part → IsBounded (make part) in
    of_then IsBounded IsBounded _ _ (past Kept _ _ (of_made (Into (Option ℕ) Kept) same _ (λ place session statement is. is)))
    (of_either IsBounded _ _
    (past IsBounded _ _ (past (Into Bool IsBounded) _ _ (of_made (Into ℕ (Into Bool IsBounded)) traced _ (λ place equal on. tt))))
    (of_then IsBounded IsLimit _ _ (past Limits _ _ (of_made (Into ℕ Limits) limited _ (λ place equal steps is. is))) each_steps))

each_trace_rows : Each IsBounded TraceRows
unfolding TraceRows
each_trace_rows =
    let make : ℕ → ℕ → ℕ → ℕ → ℕ → ℕ → Statement = λ _ _ _ _ _ _. said.TraceRows in
    past IsBounded _ _ (past (Into ℕ IsBounded) _ _ (past (Into ℕ (Into ℕ IsBounded)) _ _ (past (Into ℕ (Into ℕ (Into ℕ IsBounded))) _ _ (past (Into ℕ (Into ℕ (Into ℕ (Into ℕ IsBounded)))) _ _
    (of_made (Into ℕ (Into ℕ (Into ℕ (Into ℕ (Into ℕ IsBounded))))) make _ (λ a b c d e f. tt))))))

each_show : Each IsBounded Show
unfolding Show
each_show =
    let make : ℕ → AskKind → Option ℕ → ℕ → ℕ → Statement = λ _ kind _ _ id. said.Show kind id in
    past IsBounded _ _ (past (Into ℕ IsBounded) _ _ (past (Into ℕ (Into ℕ IsBounded)) _ _ (past (Into (Option ℕ) (Into ℕ (Into ℕ IsBounded))) _ _
    (of_made (Into AskKind (Into (Option ℕ) (Into ℕ (Into ℕ IsBounded)))) make _ (λ a b c d e. tt)))))

each_kill : Each IsBounded Kill
unfolding Kill
each_kill =
    let make : ℕ → Option KillKind → ℕ → Statement = λ _ kind id. said.Kill (or_else killed.Connection kind) id in
    past IsBounded _ _ (past (Into ℕ IsBounded) _ _ (of_made (Into (Option KillKind) (Into ℕ IsBounded)) make _ (λ a b c. tt)))

each_wait : Each IsBounded Wait
unfolding Wait
each_wait =
    let make : ℕ → ℕ → ℕ → ℕ → ℕ → Statement = λ _ _ id _ at. said.Wait id at in
    past IsBounded _ _ (past (Into ℕ IsBounded) _ _ (past (Into ℕ (Into ℕ IsBounded)) _ _ (past (Into ℕ (Into ℕ (Into ℕ IsBounded))) _ _
    (of_made (Into ℕ (Into ℕ (Into ℕ (Into ℕ IsBounded)))) make _ (λ a b c d e. tt)))))

module _ (Expr : Form ExprTree) where
  each_explain : Each IsBounded (Explain Expr)
  unfolding Explain
  each_explain =
      let same : ℕ → Option ℕ → Statement → Statement = λ _ _ statement. statement in
      let shown : ℕ → ℕ → ℕ → Statement = λ _ _ id. said.Show ask.Explain id in
      let Kept : (Statement → Statement) → Type 0 = λ make. (part : Statement) → IsBounded part → IsBounded (make part) in
      of_then IsBounded IsBounded _ _ (past Kept _ _ (of_made (Into (Option ℕ) Kept) same _ (λ place format statement is. is)))
      (of_either IsBounded _ _
      (past IsBounded _ _ (past (Into ℕ IsBounded) _ _ (of_made (Into ℕ (Into ℕ IsBounded)) shown _ (λ place connection id. tt))))
      (of_made IsBounded (λ (tree : SelectTree). said.Explain tree) _ (λ tree. tt)))

  each_analyze : Each IsBounded (Analyze Expr)
  unfolding Analyze
  each_analyze =
      let make : ℕ → Option ℕ → SelectTree → Statement = λ _ _ tree. said.Analyze tree in
      past IsBounded _ _ (past (Into SelectTree IsBounded) _ _ (of_made (Into (Option ℕ) (Into SelectTree IsBounded)) make _ (λ place format tree. tt)))

each_statement : (levels : ℕ) → Each IsBounded (statement levels)
unfolding statement
each_statement levels =
    of_either IsBounded _ _ each_trace_rows
    (of_either IsBounded _ _ (of_made_of IsBounded (λ (tree : SelectTree). HasSome tree.from) (λ (tree : SelectTree). said.Select tree) _ (λ tree some. some) (each_select _))
    (of_either IsBounded _ _ (each_explain _)
    (of_either IsBounded _ _ (each_analyze _)
    (of_either IsBounded _ _ each_show (of_either IsBounded _ _ each_kill (of_either IsBounded _ _ each_set each_wait))))))

pub statement_bounded : (tokens : List Token) (tree : Statement) → IsStatement tokens tree → IsBounded tree
statement_bounded tokens tree is = each_statement is.0 tokens tree is.1

tables_of : (tree : Statement) → IsBounded tree → HasTables tree
tables_of (said.Select tree) some = some
tables_of tree bounded = tt

-- A statement that is a SELECT has a table.
pub has_tables : (tokens : List Token) (tree : Statement) → IsStatement tokens tree → HasTables tree
has_tables tokens tree is = tables_of tree (statement_bounded tokens tree is)
