-- What an expression and a condition name, and what they are.
use Rattle.std.proofs.Common.{◌≡◌, ℕ, Bool, true, false, List, [], ◌∷◌, ◌++◌, map, flat_map, option_map, if◌then◌else◌, refl, sym, ap, ◌∙◌, subst}
use Rattle.std.specs.List.{AllByRecursion, list_all}
use mathlib.Core.Path.{ap₂}
use Rattle.sa_value.specs.declared.truth.CompareOp.{CompareOp}
use Rattle.sa_value.specs.declared.truth.Truth.{Truth}
use Rattle.sa_value.specs.declared.value.Value.{Value}
use Rattle.sa_cond.specs.declared.cond.Cond.{Cond, the_lemmas}
use Rattle.sa_cond.specs.declared.cond.Cond.TheVariants as cond
use Rattle.sa_cond.specs.declared.expr.Expr.{Expr}
use Rattle.sa_cond.specs.declared.expr.Expr.TheVariants as expr
use Rattle.sa_cond.specs.Cited.{Name, column, slot, expr_names, cond_names}
use Rattle.sa_cond.specs.Interval.{CellKinds, ExprKind, Interval, interval_of, reached, of_both, negated, added, subtracted, multiplied, kind_of_cell, kind_of_literal, expr_kind}
use Rattle.sa_cond.specs.Typed.{is_proper, can_compare, is_well_typed}
use Rattle.sa_cond.proofs.Forms.{kind-Column, kind-Slot, kind-Literal, kind-Negate, kind-Add, kind-Subtract, kind-Multiply, names-Column, names-Slot, names-Literal, names-Negate, names-Add, names-Subtract, names-Multiply}
use Rattle.sa_cond.proofs.CondForms.{names-Known, names-Compare, names-IsNull, names-NotNull, names-Between, names-Among, names-And, names-Or, names-Not, typed-Compare, typed-IsNull, typed-NotNull, typed-Between, typed-Among, typed-And, typed-Or, typed-Not}
use Rattle.sa_resolve.specs.Node.{turned}
use Rattle.sa_resolve.proofs.fit.Kinds.{clash, compared}
use Rattle.sa_resolve.proofs.fit.Lists.{each-append, both-true}

-- An expression of a kind names what is in sight.
pub record Stands (Sees : Name → Type 0) (kinds : CellKinds) (kind : ExprKind) (one : Expr) : Type
    0 where
  pub names : AllByRecursion Sees (expr_names one)
  pub is : expr_kind kinds one ≡ kind

-- A condition is well-typed, and names what is in sight.
pub record Asks (Sees : Name → Type 0) (kinds : CellKinds) (one : Cond) : Type 0 where
  pub names : AllByRecursion Sees (cond_names one)
  pub typed : is_well_typed kinds one ≡ true

-- A value of a kind names what is in sight.
pub record IsProperly (Sees : Name → Type 0) (kinds : CellKinds) (kind : ExprKind)
    (one : Expr) : Type 0 where
  pub stands : Stands Sees kinds kind one
  pub proper : is_proper kind ≡ true

module _ (Sees : Name → Type 0) (kinds : CellKinds) where
  abbrev Is : ExprKind → Expr → Type 0
  Is = Stands Sees kinds

  pub stands-Column : (table number : ℕ) (kind : ExprKind) → Sees (column table number)
      → kind_of_cell (kinds.column table number) ≡ kind
      → Is kind (expr.Column table number)
  stands-Column table number kind sees is = record {
    names = subst (AllByRecursion Sees) (sym (names-Column table number)) (sees, tt);
    is = kind-Column kinds table number ∙ is;
  }

  pub stands-Slot : (number : ℕ) (kind : ExprKind) → Sees (slot number)
      → kind_of_cell (kinds.slot number) ≡ kind → Is kind (expr.Slot number)
  stands-Slot number kind sees is = record {
    names = subst (AllByRecursion Sees) (sym (names-Slot number)) (sees, tt);
    is = kind-Slot kinds number ∙ is;
  }

  pub stands-Literal : (value : Value) (kind : ExprKind) → kind_of_literal value ≡ kind
      → Is kind (expr.Literal value)
  stands-Literal value kind is = record {
    names = subst (AllByRecursion Sees) (sym (names-Literal value)) tt;
    is = kind-Literal kinds value ∙ is;
  }

  pub stands-Negate : (kind : ExprKind) (x : Expr) → Is kind x
      → Is (reached (option_map negated (interval_of kind))) (expr.Negate x)
  stands-Negate kind x one = record {
    names = subst (AllByRecursion Sees) (sym (names-Negate x)) one.names;
    is = kind-Negate kinds x ∙ ap (λ kind. reached (option_map negated (interval_of kind))) one.is;
  }

  stands-two : (make : Expr → Expr → Expr) (operation : Interval → Interval → Interval)
      (names : (x y : Expr) → expr_names (make x y) ≡ expr_names x ++ expr_names y)
      (is : (x y : Expr) → expr_kind kinds (make x y)
      ≡ reached (of_both operation (interval_of (expr_kind kinds x))
      (interval_of (expr_kind kinds y))))
      (kind kind' : ExprKind) (x y : Expr) → Is kind x → Is kind' y
      → Is (reached (of_both operation (interval_of kind) (interval_of kind'))) (make x y)
  stands-two make operation names is kind kind' x y one other = record {
    names =
        subst (AllByRecursion Sees) (sym (names x y))
        (each-append Sees (expr_names x) (expr_names y) one.names other.names);
    is = is x y
        ∙ ap₂ (λ kind kind'. reached (of_both operation (interval_of kind) (interval_of kind')))
        one.is other.is;
  }

  pub stands-Add : (kind kind' : ExprKind) (x y : Expr) → Is kind x → Is kind' y
      → Is (reached (of_both added (interval_of kind) (interval_of kind'))) (expr.Add x y)
  stands-Add = stands-two expr.Add added names-Add (kind-Add kinds)

  pub stands-Subtract : (kind kind' : ExprKind) (x y : Expr) → Is kind x → Is kind' y
      → Is (reached (of_both subtracted (interval_of kind) (interval_of kind'))) (expr.Subtract x y)
  stands-Subtract = stands-two expr.Subtract subtracted names-Subtract (kind-Subtract kinds)

  pub stands-Multiply : (kind kind' : ExprKind) (x y : Expr) → Is kind x → Is kind' y
      → Is (reached (of_both multiplied (interval_of kind) (interval_of kind'))) (expr.Multiply x y)
  stands-Multiply = stands-two expr.Multiply multiplied names-Multiply (kind-Multiply kinds)

  abbrev Of : ExprKind → Expr → Type 0
  Of = IsProperly Sees kinds

  two-compared : (one other : ExprKind) (x y : Expr) → Of one x → Of other y → clash one other
      ≡ false → can_compare (expr_kind kinds x) (expr_kind kinds y) ≡ true
  two-compared one other x y left right agree =
      ap₂ can_compare left.stands.is right.stands.is ∙ compared one other left.proper right.proper
      agree

  properly : (one : ExprKind) (x : Expr) → Of one x → is_proper (expr_kind kinds x) ≡ true
  properly one x of = ap is_proper of.stands.is ∙ of.proper

  pub asks-Known : (truth : Truth) → Asks Sees kinds (cond.Known truth)
  asks-Known truth =
      record {
        names = subst (AllByRecursion Sees) (sym (names-Known truth)) tt;
        typed = simp
            the_lemmas;
      }

  pub asks-Compare : (op : CompareOp) (one other : ExprKind) (x y : Expr) → Of one x → Of other y
      → clash one other ≡ false → Asks Sees kinds (cond.Compare op x y)
  asks-Compare op one other x y left right agree = record {
    names =
        subst (AllByRecursion Sees) (sym (names-Compare op x y))
        (each-append Sees (expr_names x) (expr_names y) left.stands.names right.stands.names);
    typed = typed-Compare kinds op x y ∙ two-compared one other x y left right agree;
  }

  pub asks-IsNull : (negated : Bool) (one : ExprKind) (x : Expr) → Of one x
      → Asks Sees kinds (if negated then cond.NotNull x else cond.IsNull x)
  asks-IsNull true one x of = record {
    names = subst (AllByRecursion Sees) (sym (names-NotNull x)) of.stands.names;
    typed = typed-NotNull kinds x ∙ properly one x of;
  }
  asks-IsNull false one x of = record {
    names = subst (AllByRecursion Sees) (sym (names-IsNull x)) of.stands.names;
    typed = typed-IsNull kinds x ∙ properly one x of;
  }

  pub asks-Not : (x : Cond) → Asks Sees kinds x → Asks Sees kinds (cond.Not x)
  asks-Not x asks = record {
    names = subst (AllByRecursion Sees) (sym (names-Not x)) asks.names;
    typed = typed-Not kinds x ∙ asks.typed;
  }

  pub asks-turned : (negated : Bool) (x : Cond) → Asks Sees kinds x
      → Asks Sees kinds (turned negated x)
  asks-turned true x asks = asks-Not x asks
  asks-turned false x asks = asks

  pub asks-Between : (one two three : ExprKind) (x low high : Expr) → Of one x → Of two low
      → Of three high → clash one two ≡ false → clash one three ≡ false
      → Asks Sees kinds (cond.Between x low high)
  asks-Between one two three x low high of left right agree agree' = record {
    names = subst (AllByRecursion Sees) (sym (names-Between x low high))
        (each-append Sees (expr_names x ++ expr_names low) (expr_names high)
        (each-append Sees (expr_names x) (expr_names low) of.stands.names left.stands.names)
        right.stands.names);
    typed =
        typed-Between kinds x low high ∙ both-true (two-compared one two x low of left agree)
        (two-compared one three x high of right agree');
  }

  -- a member of a list that a value is compared with
  pub record IsMember (one : ExprKind) (member : Expr) : Type 0 where
    pub kind : ExprKind
    pub of : Of kind member
    pub agree : clash one kind ≡ false

  members-compared : (one : ExprKind) (x : Expr) → Of one x → (list : List Expr)
      → AllByRecursion (IsMember one) list
      → list_all (λ member. can_compare (expr_kind kinds x) (expr_kind kinds member)) list ≡ true
  members-compared one x of [] all = refl
  members-compared one x of (member ∷ list) all =
      both-true (two-compared one all.0.kind x member of all.0.of all.0.agree)
      (members-compared one x of list all.1)

  members-names : (one : ExprKind) (list : List Expr) → AllByRecursion (IsMember one) list
      → AllByRecursion Sees (flat_map expr_names list)
  members-names one [] all = tt
  members-names one (member ∷ list) all =
      each-append Sees (expr_names member) (flat_map expr_names list) all.0.of.stands.names
      (members-names one list all.1)

  pub asks-Among : (one : ExprKind) (x : Expr) (list : List Expr) → Of one x
      → AllByRecursion (IsMember one) list → Asks Sees kinds (cond.Among x list)
  asks-Among one x list of all = record {
    names = subst (AllByRecursion Sees) (sym (names-Among x list))
        (each-append Sees (expr_names x) (flat_map expr_names list) of.stands.names
        (members-names one list all));
    typed =
        typed-Among kinds x list ∙ both-true (properly one x of)
        (members-compared one x of list all);
  }

  conds-names : (list : List Cond) → AllByRecursion (Asks Sees kinds) list → AllByRecursion Sees
      (flat_map (λ names. names) (map cond_names list))
  conds-names [] all = tt
  conds-names (one ∷ list) all =
      each-append Sees (cond_names one) (flat_map (λ names. names) (map cond_names list))
      all.0.names (conds-names list all.1)

  conds-typed : (list : List Cond) → AllByRecursion (Asks Sees kinds) list
      → list_all (λ typed. typed) (map (is_well_typed kinds) list) ≡ true
  conds-typed [] all = refl
  conds-typed (one ∷ list) all = both-true all.0.typed (conds-typed list all.1)

  pub asks-And : (list : List Cond) → AllByRecursion (Asks Sees kinds) list
      → Asks Sees kinds (cond.And list)
  asks-And list all = record {
    names = subst (AllByRecursion Sees) (sym (names-And list)) (conds-names list all);
    typed = typed-And kinds list ∙ conds-typed list all;
  }

  pub asks-Or : (list : List Cond) → AllByRecursion (Asks Sees kinds) list
      → Asks Sees kinds (cond.Or list)
  asks-Or list all = record {
    names = subst (AllByRecursion Sees) (sym (names-Or list)) (conds-names list all);
    typed = typed-Or kinds list ∙ conds-typed list all;
  }
