-- What is kept of an expression of each form, by what is kept of the expressions below.
use Rattle.std.proofs.Common.{◌≡◌, ℕ, Bool, false, ◌||◌, List, [], ◌∷◌, option_map, Result, IfOk, sym, ap, subst, ◌∙◌}
use Rattle.sa_value.specs.declared.memory.OutOfMemory.{OutOfMemory}
use Rattle.sa_value.specs.declared.truth.CompareOp.{CompareOp}
use Rattle.sa_ast.specs.declared.expression.ExprNode.{ExprNode-F}
use Rattle.sa_ast.specs.declared.expression.ExprTree.{ExprTree}
use Rattle.sa_cond.specs.Interval.{Interval, added, multiplied, negated, of_both, reached, subtracted}
use Rattle.sa_table.specs.Table.{Table}
use Rattle.sa_query.specs.declared.refusal.ResolveKind.TheVariants.{TypeMismatch, ExprRange}
use Rattle.sa_resolve.specs.declared.facts.Facts.{Facts}
use Rattle.sa_resolve.specs.declared.mentions.Mentions.{Mentions}
use Rattle.sa_resolve.specs.Expression.{Scope, node_reading, reading}
use Rattle.sa_resolve.specs.Fault.{least, told}
use Rattle.sa_resolve.specs.NodeFaults.{is_text, leaves}
use Rattle.sa_resolve.specs.Reading.{Reading, condition, value}
use Rattle.sa_resolve.specs.inner.Gist.{Gist, PartsGist, gist_at, gist_of, node_gist, no_parts, with_value, with_condition, interval_by, sum_fault}
use Rattle.sa_resolve.specs.inner.Kind.{kind_in, kinds_clash}
use Rattle.sa_resolve.specs.inner.Least.{sooner}
use Rattle.sa_resolve.specs.inner.Looking.{HasLooked}
use Rattle.sa_resolve.specs.inner.Walking.{HaveMentioned}
use Rattle.sa_resolve.proofs.NodeGists.{gist-IsNull, gist-Not, gist-Compare, gist-Between, gist-Negate, gist-Add, gist-Subtract, gist-Multiply}
use Rattle.sa_resolve.proofs.walk.Mentions.{one_mentioned, two_mentioned, more_mentioned}

-- a minus before a part
abbrev pub negation_gist : (place : ℕ) → Gist → Gist
negation_gist place part =
    let reach = option_map negated (interval_by part) in
    node_gist place (value (reached reach)) (with_value no_parts part)
    (sooner (least (told (is_text (kind_in part.sort)) TypeMismatch place))
    (sooner (least (told (leaves reach) ExprRange place)) (sum_fault part)))

-- an operation on two parts
abbrev pub operation_gist : (Interval → Interval → Interval) → (place : ℕ) → Gist → Gist → Gist
operation_gist operation place left right =
    let reach = of_both operation (interval_by left) (interval_by right) in
    node_gist place (value (reached reach)) (with_value (with_value no_parts left) right)
    (sooner (least (told (is_text (kind_in left.sort) || is_text (kind_in right.sort)) TypeMismatch place))
    (sooner (least (told (leaves reach) ExprRange place)) (sooner (sum_fault left) (sum_fault right))))

-- a condition over these parts
abbrev pub test_gist : (place : ℕ) → PartsGist → (clashes : Bool) → Gist
test_gist place parts clashes = node_gist place condition parts (least (told clashes TypeMismatch place))

abbrev pub gists_clash : Gist → Gist → Bool
gists_clash x y = kinds_clash (kind_in x.sort) (kind_in y.sort)

module _ (tables : List Table) (scope : Scope) where
  abbrev pub read : ExprTree → Reading
  read = reading tables scope

  abbrev pub made : ExprNode-F (ℕ → Reading) Reading → ℕ → Reading
  made = node_reading tables scope

  -- the same of the tree that stands there
  pub looked_at : (before after : Mentions) (facts : Facts) (got x : ExprTree) → got ≡ x
      → HasLooked before after facts (read got) → HasLooked before after facts (read x)
  looked_at before after facts got x same looked =
      let At : ExprTree → Type 0 = λ x. HasLooked before after facts (read x) in subst At same looked

  -- the same of the reading that it is
  pub looked_as : (before after : Mentions) (facts : Facts) (one other : Reading) → one ≡ other
      → HasLooked before after facts other → HasLooked before after facts one
  looked_as before after facts one other same looked =
      let At : Reading → Type 0 = λ one. HasLooked before after facts one in subst At (sym same) looked

  pub looked-Negate : (before after : Mentions) (inner facts : Facts) (x : Reading) (place : ℕ)
      → HasLooked before after inner x → gist_at facts ≡ negation_gist place (gist_at inner)
      → HasLooked before after facts (made (ExprNode-F.Negate x) place)
  looked-Negate before after inner facts x place looked is =
      let mentioned = one_mentioned before after inner x looked in
      record {
        gist = is ∙ ap (negation_gist place) looked.gist ∙ sym (gist-Negate tables scope x place);
        loose = mentioned.loose;
        aggregates = mentioned.aggregates;
        literals = mentioned.literals;
      }

  pub looked-Not : (before after : Mentions) (inner facts : Facts) (x : Reading) (place : ℕ)
      → HasLooked before after inner x → gist_at facts
      ≡ test_gist place (with_condition no_parts (gist_at inner)) false
      → HasLooked before after facts (made (ExprNode-F.Not x) place)
  looked-Not before after inner facts x place looked is =
      let mentioned = one_mentioned before after inner x looked in
      record {
        gist = is ∙ ap (λ part. test_gist place (with_condition no_parts part) false) looked.gist
            ∙ sym (gist-Not tables scope x place);
        loose = mentioned.loose;
        aggregates = mentioned.aggregates;
        literals = mentioned.literals;
      }

  pub looked-IsNull : (before after : Mentions) (inner facts : Facts) (x : Reading) (negated : Bool)
      (place : ℕ)
      → HasLooked before after inner x → gist_at facts
      ≡ test_gist place (with_value no_parts (gist_at inner)) false
      → HasLooked before after facts (made (ExprNode-F.IsNull x negated) place)
  looked-IsNull before after inner facts x negated place looked is =
      let mentioned = one_mentioned before after inner x looked in
      record {
        gist = is ∙ ap (λ part. test_gist place (with_value no_parts part) false) looked.gist
            ∙ sym (gist-IsNull tables scope x negated place);
        loose = mentioned.loose;
        aggregates = mentioned.aggregates;
        literals = mentioned.literals;
      }

  module _ (before now after : Mentions) (one other facts : Facts) (x y : Reading) (place : ℕ)
      (first : HasLooked before now one x) (second : HasLooked now after other y) where
    both_mentioned : HaveMentioned before after (x ∷ y ∷ [])
    both_mentioned = two_mentioned before now after one x other y first second

    pub looked-Compare : (op : CompareOp)
        → gist_at facts ≡ test_gist place (with_value (with_value no_parts (gist_at one)) (gist_at other))
        (gists_clash (gist_at one) (gist_at other))
        → HasLooked before after facts (made (ExprNode-F.Compare op x y) place)
    looked-Compare op is = record {
      gist = is
          ∙ ap (λ part. test_gist place (with_value (with_value no_parts part) (gist_at other))
          (gists_clash part (gist_at other))) first.gist
          ∙ ap (λ part. test_gist place (with_value (with_value no_parts (gist_of x)) part)
          (gists_clash (gist_of x) part)) second.gist
          ∙ sym (gist-Compare tables scope op x y place);
      loose = both_mentioned.loose;
      aggregates = both_mentioned.aggregates;
      literals = both_mentioned.literals;
    }

    operated : (operation : Interval → Interval → Interval) → gist_at facts
        ≡ operation_gist operation place (gist_at one) (gist_at other)
        → gist_at facts ≡ operation_gist operation place (gist_of x) (gist_of y)
    operated operation is =
        is ∙ ap (λ part. operation_gist operation place part (gist_at other)) first.gist
        ∙ ap (operation_gist operation place (gist_of x)) second.gist

    pub looked-Add : gist_at facts ≡ operation_gist added place (gist_at one) (gist_at other)
        → HasLooked before after facts (made (ExprNode-F.Add x y) place)
    looked-Add is = record {
      gist = operated added is ∙ sym (gist-Add tables scope x y place);
      loose = both_mentioned.loose;
      aggregates = both_mentioned.aggregates;
      literals = both_mentioned.literals;
    }

    pub looked-Subtract : gist_at facts ≡ operation_gist subtracted place (gist_at one) (gist_at other)
        → HasLooked before after facts (made (ExprNode-F.Subtract x y) place)
    looked-Subtract is = record {
      gist = operated subtracted is ∙ sym (gist-Subtract tables scope x y place);
      loose = both_mentioned.loose;
      aggregates = both_mentioned.aggregates;
      literals = both_mentioned.literals;
    }

    pub looked-Multiply : gist_at facts ≡ operation_gist multiplied place (gist_at one) (gist_at other)
        → HasLooked before after facts (made (ExprNode-F.Multiply x y) place)
    looked-Multiply is = record {
      gist = operated multiplied is ∙ sym (gist-Multiply tables scope x y place);
      loose = both_mentioned.loose;
      aggregates = both_mentioned.aggregates;
      literals = both_mentioned.literals;
    }

  module _ (before now later after : Mentions) (one low high facts : Facts) (x y z : Reading) (place : ℕ)
      (first : HasLooked before now one x) (second : HasLooked now later low y)
      (third : HasLooked later after high z) where
    all_mentioned : HaveMentioned before after (x ∷ y ∷ z ∷ [])
    all_mentioned =
        more_mentioned before later after (x ∷ y ∷ []) high z
        (two_mentioned before now later one x low y first second) third

    abbrev between_gist : Gist → Gist → Gist → Gist
    between_gist one low high =
        test_gist place (with_value (with_value (with_value no_parts one) low) high)
        (gists_clash one low || gists_clash one high)

    pub looked-Between : (negated : Bool) → gist_at facts
        ≡ between_gist (gist_at one) (gist_at low) (gist_at high)
        → HasLooked before after facts (made (ExprNode-F.Between x y z negated) place)
    looked-Between negated is = record {
      gist = is
          ∙ ap (λ part. between_gist part (gist_at low) (gist_at high)) first.gist
          ∙ ap (λ part. between_gist (gist_of x) part (gist_at high)) second.gist
          ∙ ap (between_gist (gist_of x) (gist_of y)) third.gist
          ∙ sym (gist-Between tables scope x y z negated place);
      loose = all_mentioned.loose;
      aggregates = all_mentioned.aggregates;
      literals = all_mentioned.literals;
    }

-- The same, of a whole call's answer.
pub looked_ok : (result : Result Facts OutOfMemory) (before after : Mentions) (one other : Reading) → one
    ≡ other
    → IfOk result (λ facts. HasLooked before after facts other)
    → IfOk result (λ facts. HasLooked before after facts one)
looked_ok result before after one other same made =
    let Made : Reading → Type 0 = λ one. IfOk result (λ facts. HasLooked before after facts one) in subst Made
    (sym same) made

-- Of OR is kept what is kept of AND.
pub looked-Or : (tables : List Table) (scope : Scope) (members : List Reading) (place : ℕ)
    (before after : Mentions) (facts : Facts)
    → HasLooked before after facts (node_reading tables scope (ExprNode-F.And members) place)
    → HasLooked before after facts (node_reading tables scope (ExprNode-F.Or members) place)
looked-Or tables scope members place before after facts looked = record {
  gist = looked.gist;
  loose = looked.loose;
  aggregates = looked.aggregates;
  literals = looked.literals;
}
