-- What is kept of an expression with none below, and of a call.
use Rattle.std.proofs.Common.{◌≡◌, ℕ, ℤ, Bool, List, [], ◌∷◌, ◌++◌, Some, None, append-nil, refl, sym, ap, ◌∙◌}
use Rattle.sa_value.specs.declared.value.Value.TheVariants.{Int}
use Rattle.sa_ast.specs.declared.expression.AggregateCall.{AggregateCall}
use Rattle.sa_ast.specs.declared.expression.ExprNode.{ExprNode-F}
use Rattle.sa_cond.specs.declared.expr.Expr.{Expr}
use Rattle.sa_cond.specs.Interval.{ExprKind, kind_of_literal}
use Rattle.sa_table.specs.Table.{Table}
use Rattle.sa_query.specs.declared.refusal.ResolveKind.TheVariants.{TypeMismatch, ExprRange}
use Rattle.sa_resolve.specs.declared.facts.Facts.{Facts}
use Rattle.sa_resolve.specs.declared.mentions.Mentions.{Mentions}
use Rattle.sa_resolve.specs.Expression.{Scope, node_reading}
use Rattle.sa_resolve.specs.Fault.{least, told}
use Rattle.sa_resolve.specs.Node.{aggregate_of}
use Rattle.sa_resolve.specs.NodeFaults.{is_faulty}
use Rattle.sa_resolve.specs.Reading.{Reading, condition, value}
use Rattle.sa_resolve.specs.inner.Gist.{Gist, aggregate_fault, gist_at, gist_of, no_parts, node_gist, plain_gist, sums_at, sums_texts, with_value}
use Rattle.sa_resolve.specs.inner.Kind.{kind_in, kind_of_call}
use Rattle.sa_resolve.specs.inner.Least.{nearer, sooner}
use Rattle.sa_resolve.specs.inner.Looking.{HasLooked, loose_at}
use Rattle.sa_resolve.specs.inner.Walking.{IsLiteral}
use Rattle.sa_resolve.proofs.NodeGists.{gist-Call, gist-Known, gist-Null, gist-Number, gist-Rows, gist-Text}

-- a number as it is written
abbrev pub number_gist : (place : ℕ) → ℤ → Gist
number_gist place number =
    node_gist place (value (kind_of_literal (Int number))) no_parts
    (least (told (is_faulty (kind_of_literal (Int number))) ExprRange place))

-- Nothing is mentioned.
pub nothing_more : (mentions : Mentions) (facts : Facts) (one : Reading)
    → gist_at facts ≡ gist_of one → one.loose ≡ [] → one.aggregates ≡ [] → one.literals ≡ []
    → HasLooked mentions mentions facts one
nothing_more mentions facts one is loose aggregates literals = record {
  gist = is;
  loose = sym (append-nil (loose_at mentions.loose.items))
      ∙ ap (λ more. loose_at mentions.loose.items ++ more) (sym loose);
  aggregates = sym (append-nil mentions.aggregates.items)
      ∙ ap (λ more. mentions.aggregates.items ++ more) (sym aggregates);
  literals = sym (append-nil mentions.literals.items)
      ∙ ap (λ more. mentions.literals.items ++ more) (sym literals);
}

-- One literal is mentioned.
pub literal_more : (before after : Mentions) (facts : Facts) (one : Reading) (place : ℕ)
    → gist_at facts ≡ gist_of one → one.loose ≡ [] → one.aggregates ≡ [] → one.literals ≡ place ∷ []
    → after.loose.items ≡ before.loose.items → after.aggregates.items ≡ before.aggregates.items
    → after.literals.items ≡ before.literals.items ++ place ∷ [] → HasLooked before after facts one
literal_more before after facts one place is loose aggregates literals same_loose same_aggregates more =
    record {
      gist = is;
      loose = ap loose_at same_loose ∙ sym (append-nil (loose_at before.loose.items))
          ∙ ap (λ more. loose_at before.loose.items ++ more) (sym loose);
      aggregates = same_aggregates ∙ sym (append-nil before.aggregates.items)
          ∙ ap (λ more. before.aggregates.items ++ more) (sym aggregates);
      literals = more ∙ ap (λ more. before.literals.items ++ more) (sym literals);
    }

module _ (tables : List Table) (scope : Scope) where
  abbrev made : ExprNode-F (ℕ → Reading) Reading → ℕ → Reading
  made = node_reading tables scope

  pub looked-Known : (mentions : Mentions) (facts : Facts) (holds : Bool) (place : ℕ) → gist_at facts
      ≡ plain_gist place condition
      → HasLooked mentions mentions facts (made (ExprNode-F.Known holds) place)
  looked-Known mentions facts holds place is =
      nothing_more mentions facts (made (ExprNode-F.Known holds) place)
      (is ∙ sym (gist-Known tables scope holds place)) refl refl refl

  module _ (before after : Mentions) (facts : Facts) (place : ℕ)
      (same_loose : after.loose.items ≡ before.loose.items)
      (same_aggregates : after.aggregates.items ≡ before.aggregates.items)
      (more : after.literals.items ≡ before.literals.items ++ place ∷ []) where
    pub looked-Number : (number : ℤ)
        → gist_at facts ≡ number_gist place number
        → HasLooked before after facts (made (ExprNode-F.Number number) place)
    looked-Number number is =
        literal_more before after facts (made (ExprNode-F.Number number) place) place
        (is ∙ sym (gist-Number tables scope number place)) refl refl refl same_loose same_aggregates more

    pub looked-literal : (node : ExprNode-F (ℕ → Reading) Reading) (kind : ExprKind) → IsLiteral kind node
        → gist_at facts ≡ plain_gist place (value kind) → HasLooked before after facts (made node place)
    looked-literal (ExprNode-F.Text literal) kind of is =
        literal_more before after facts (made (ExprNode-F.Text literal) place) place
        (is ∙ ap (λ kind. plain_gist place (value kind)) of ∙ sym (gist-Text tables scope literal place))
        refl refl refl same_loose same_aggregates more
    looked-literal ExprNode-F.Null kind of is =
        literal_more before after facts (made ExprNode-F.Null place) place
        (is ∙ ap (λ kind. plain_gist place (value kind)) of ∙ sym (gist-Null tables scope place))
        refl refl refl same_loose same_aggregates more
    looked-literal node kind of is = absurd of

  module _ (before after : Mentions) (facts : Facts) (place : ℕ) (call : AggregateCall)
      (same_loose : after.loose.items ≡ before.loose.items) where
    pub looked-Rows : gist_at facts ≡ record (plain_gist place (value (kind_of_call call None)))
        { call = Some place }
        → after.aggregates.items ≡ before.aggregates.items ++ aggregate_of call None ∷ []
        → after.literals.items ≡ before.literals.items
        → HasLooked before after facts (made (ExprNode-F.Aggregate call None) place)
    looked-Rows is more same_literals = record {
      gist = is ∙ sym (gist-Rows tables scope call place);
      loose = ap loose_at same_loose ∙ sym (append-nil (loose_at before.loose.items));
      aggregates = more;
      literals = same_literals ∙ sym (append-nil before.literals.items);
    }

    abbrev pub called : Gist → Gist
    called part =
        record (node_gist place (value (kind_of_call call (Some (kind_in part.sort)))) (with_value no_parts part)
        (sooner (least (told (sums_texts call (kind_in part.sort)) TypeMismatch place)) (aggregate_fault part))) {
          sums = sums_at call place part.sums;
          call = nearer (Some place) part.call;
        }

    pub looked-Call : (start inner : Mentions) (x : Facts) (one : Reading) (row : Expr)
        → HasLooked start inner x one
        → start.literals.items ≡ [] → row ≡ one.row → gist_at facts ≡ called (gist_at x)
        → after.aggregates.items ≡ before.aggregates.items ++ record { call = call; argument = Some row } ∷ []
        → after.literals.items ≡ before.literals.items ++ inner.literals.items
        → HasLooked before after facts (made (ExprNode-F.Aggregate call (Some one)) place)
    looked-Call start inner x one row looked none same is more literals = record {
      gist = is ∙ ap called looked.gist ∙ sym (gist-Call tables scope call one place);
      loose = ap loose_at same_loose ∙ sym (append-nil (loose_at before.loose.items));
      aggregates = more ∙ ap (λ row. before.aggregates.items ++ record { call = call; argument = Some row } ∷
          []) same;
      literals = literals
          ∙ ap (λ all. before.literals.items ++ all) (looked.literals ∙ ap (λ front. front ++ one.literals) none
          ∙ sym (append-nil one.literals));
    }
