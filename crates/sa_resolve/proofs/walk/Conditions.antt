-- What stands for an expression of each form, if it is a condition.
use Rattle.std.proofs.Common.{◌≡◌, ℕ, ◌+◌, ◌<◌, ◌≤◌, Bool, true, false, List, [], ◌∷◌, ◌++◌, length, get_or, map, take, Result, IfOk, if◌then◌else◌, refl, sym, ap, subst, ◌∙◌}
use Rattle.std.proofs.lemmas.List.{map_push, take_all}
use Rattle.sa_value.specs.declared.memory.OutOfMemory.{OutOfMemory}
use Rattle.sa_value.specs.declared.truth.CompareOp.{CompareOp}
use Rattle.sa_ast.specs.declared.expression.ExprNode.TheVariants as node
use Rattle.sa_ast.specs.declared.expression.ExprTree.{ExprTree}
use Rattle.sa_cond.specs.declared.cond.Cond.{Cond}
use Rattle.sa_cond.specs.declared.cond.Cond.TheVariants as conditions
use Rattle.sa_cond.specs.declared.expr.Expr.{Expr}
use Rattle.sa_table.specs.Table.{Table}
use Rattle.sa_resolve.specs.declared.build.Stage.{Stage}
use Rattle.sa_resolve.specs.declared.build.Stage.TheVariants as stages
use Rattle.sa_resolve.specs.declared.scope.Scope.{Scope as View}
use Rattle.sa_resolve.specs.Expression.{Scope, reading}
use Rattle.sa_resolve.specs.Node.{turned}
use Rattle.sa_resolve.specs.Reading.{Reading}
use Rattle.sa_resolve.specs.Selected.{Selected}
use Rattle.sa_resolve.specs.inner.Building.{IsLast, IsStage, built}
use Rattle.sa_resolve.specs.inner.Names.{Sees}
use Rattle.sa_resolve.proofs.walk.Loops.{done-more}
use Rattle.sa_resolve.proofs.walk.Readings.{reading-And, reading-Among, reading-Between, reading-Compare, reading-IsNull, reading-Not, reading-Or}

module _ (scope : Scope) (listed : List Selected) where
  -- The last stage is one, and there an expression stands for itself.
  pub last_stage : (stage : Stage) → IsLast scope listed stage → IsStage scope listed stage
  last_stage stages.Rows last = absurd last
  last_stage (stages.Answer slots items) last = last

  pub last_built : (stage : Stage) (one : Reading) → IsLast scope listed stage → built stage one ≡ one.expr
  last_built stages.Rows one last = absurd last
  last_built (stages.Answer slots items) one last = refl

-- What stands there for an expression, of a builder at the last stage.
pub last_made : (view : View) (stage : Stage) (tree : ExprTree) (made : Expr)
    → ((tables : List Table) (scope : Scope) (listed : List Selected) → Sees tables scope listed view
    → IsStage scope listed stage
    → made ≡ built stage (reading tables scope tree))
    → (tables : List Table) (scope : Scope) (listed : List Selected) → Sees tables scope listed view
    → IsLast scope listed stage
    → made ≡ (reading tables scope tree).expr
last_made view stage tree made is tables scope listed sees last =
    is tables scope listed sees (last_stage scope listed stage last)
    ∙ last_built scope listed stage (reading tables scope tree) last

pub between_same : (negated : Bool) (x y z one two three : Expr) → x ≡ one → y ≡ two → z ≡ three
    → turned negated (conditions.Between x y z) ≡ turned negated (conditions.Between one two three)
between_same negated x y z one two three first second third =
    ap (λ x. turned negated (conditions.Between x y z)) first
    ∙ ap (λ y. turned negated (conditions.Between one y z)) second
    ∙ ap (λ z. turned negated (conditions.Between one two z)) third

pub among_same : (negated : Bool) (x one : Expr) (list ones : List Expr) → x ≡ one → list ≡ ones
    → turned negated (conditions.Among x list) ≡ turned negated (conditions.Among one ones)
among_same negated x one list ones first all =
    ap (λ x. turned negated (conditions.Among x list)) first
    ∙ ap (λ list. turned negated (conditions.Among one list)) all

-- IS NULL and IS NOT NULL of an expression
abbrev pub null_test : (negated : Bool) → Expr → Cond
null_test negated x = if negated then conditions.NotNull x else conditions.IsNull x

pub negated_made : (negated : Bool) (x one : Expr) (made : Cond) → negated ≡ true → made
    ≡ conditions.NotNull x → x ≡ one
    → made ≡ null_test negated one
negated_made negated x one made is of same =
    of ∙ ap (λ x. conditions.NotNull x) same ∙ ap (λ negated. null_test negated one) (sym is)

pub positive_made : (negated : Bool) (x one : Expr) (made : Cond) → negated ≡ false → made
    ≡ conditions.IsNull x → x ≡ one
    → made ≡ null_test negated one
positive_made negated x one made is of same =
    of ∙ ap (λ x. conditions.IsNull x) same ∙ ap (λ negated. null_test negated one) (sym is)

-- What is made is also this, where both are the same.
pub cond_as : (result : Result Cond OutOfMemory) (one other : Cond) → one ≡ other
    → IfOk result (λ cond. cond ≡ one) → IfOk result (λ cond. cond ≡ other)
cond_as result one other same made =
    let Made : Cond → Type 0 = λ one. IfOk result (λ cond. cond ≡ one) in subst Made same made

module _ (tables : List Table) (scope : Scope) where
  abbrev pub read : ExprTree → Reading
  read = reading tables scope

  abbrev pub stands : Reading → Cond
  stands one = one.cond

  module _ (tree : ExprTree) where
    pub cond-Compare : (op : CompareOp) (x y left right : ExprTree) (one other : Expr) → tree.node
        ≡ node.Compare op x y
        → left ≡ x → right ≡ y → one ≡ (read left).expr → other ≡ (read right).expr
        → conditions.Compare op one other ≡ (read tree).cond
    cond-Compare op x y left right one other is same_left same_right made_left made_right =
        ap (λ one. conditions.Compare op one other) (made_left ∙ ap (λ x. (read x).expr) same_left)
        ∙ ap (conditions.Compare op (read x).expr) (made_right ∙ ap (λ y. (read y).expr) same_right)
        ∙ ap stands (sym (reading-Compare tables scope tree op x y is))

    pub cond-IsNull : (x got : ExprTree) (negated : Bool) → tree.node ≡ node.IsNull x negated → got ≡ x
        → (if negated then conditions.NotNull (read got).expr else conditions.IsNull (read got).expr)
        ≡ (read tree).cond
    cond-IsNull x got negated is same =
        ap (λ x. if negated then conditions.NotNull (read x).expr else conditions.IsNull (read x).expr) same
        ∙ ap stands (sym (reading-IsNull tables scope tree x negated is))

    pub cond-Between : (x y z value low high : ExprTree) (negated : Bool) → tree.node
        ≡ node.Between x y z negated
        → value ≡ x → low ≡ y → high ≡ z
        → turned negated (conditions.Between (read value).expr (read low).expr (read high).expr)
        ≡ (read tree).cond
    cond-Between x y z value low high negated is same_value same_low same_high =
        ap (λ x. turned negated (conditions.Between (read x).expr (read low).expr (read high).expr))
        same_value
        ∙ ap (λ y. turned negated (conditions.Between (read x).expr (read y).expr (read high).expr)) same_low
        ∙ ap (λ z. turned negated (conditions.Between (read x).expr (read y).expr (read z).expr)) same_high
        ∙ ap stands (sym (reading-Between tables scope tree x y z negated is))

    pub cond-Among : (x got : ExprTree) (list : List ExprTree) (negated : Bool) → tree.node
        ≡ node.Among x list negated → got ≡ x
        → turned negated (conditions.Among (read got).expr
        (map (λ (one : Reading). one.expr) (map read list))) ≡ (read tree).cond
    cond-Among x got list negated is same =
        ap (λ x. turned negated (conditions.Among (read x).expr
        (map (λ (one : Reading). one.expr) (map read list)))) same
        ∙ ap stands (sym (reading-Among tables scope tree x list negated is))

    pub cond-And : (members : List ExprTree) (made : List Cond) → tree.node ≡ node.And members
        → made ≡ map stands (map read members) → conditions.And made ≡ (read tree).cond
    cond-And members made is all =
        ap (λ made. conditions.And made) all ∙ ap stands (sym (reading-And tables scope tree members is))

    pub cond-Or : (members : List ExprTree) (made : List Cond) → tree.node ≡ node.Or members
        → made ≡ map stands (map read members) → conditions.Or made ≡ (read tree).cond
    cond-Or members made is all =
        ap (λ made. conditions.Or made) all ∙ ap stands (sym (reading-Or tables scope tree members is))

    pub cond-Not : (x got : ExprTree) (inner : Cond) → tree.node ≡ node.Not x → got ≡ x → inner
        ≡ (read got).cond
        → conditions.Not inner ≡ (read tree).cond
    cond-Not x got inner is same made =
        ap (λ inner. conditions.Not inner) (made ∙ ap (λ x. (read x).cond) same)
        ∙ ap stands (sym (reading-Not tables scope tree x is))

  module _ {A : Type 0} (f : Reading → A) (members items : List ExprTree) (same : items ≡ members) (index : ℕ)
      (so_far : List A)
      (all : so_far ≡ map f (map read (take index members))) where
    -- what is made of the members, with one more
    pub made_more : (member : ExprTree) (more : List A) (one : A)
        → index < length items → member ≡ get_or items index member → one ≡ f (read member) → more
        ≡ so_far ++ one ∷ []
        → more ≡ map f (map read (take (index + 1) members))
    made_more member more one within is last pushed =
        let Within : List ExprTree → Type 0 = λ members. index < length members in
        let At : List ExprTree → Type 0 = λ members. member ≡ get_or members index member in
        pushed ∙ ap (λ so_far. so_far ++ one ∷ []) all
        ∙ ap (λ one. map f (map read (take index members)) ++ one ∷ []) last
        ∙ sym (map_push f (map read (take index members)) (read member))
        ∙ ap (map f) (sym (done-more tables scope members index member (subst Within same within)
        (subst At same is)))

    pub made_all : (made : List A) → made ≡ so_far → length items ≤ index → made ≡ map f (map read members)
    made_all made is past =
        let Past : List ExprTree → Type 0 = λ members. length members ≤ index in
        is ∙ all ∙ ap (λ taken. map f (map read taken)) (take_all index members (subst Past same past))
