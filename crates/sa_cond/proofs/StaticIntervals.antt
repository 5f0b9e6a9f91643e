-- The static interval of an expression out of those of its operands.
use Rattle.std.proofs.Common.{◌≡◌, ℤ, ◌++◌, All, Option, Some, None, option_map, refl, sym, subst, ap, ◌∙◌}
use Rattle.sa_cond.specs.declared.expr.Expr.{Expr}
use Rattle.sa_cond.specs.declared.expr.Expr.TheVariants as node
use Rattle.sa_cond.specs.Cited.{Name, expr_names}
use Rattle.sa_cond.specs.Interval.{Interval, CellKinds, number_within, negated, interval_of, reached, of_both, static_interval}
use Rattle.sa_cond.proofs.Forms.{kind-Negate, names-Negate}
use Rattle.sa_cond.proofs.IntervalLemmas.{IsOperation}
use Rattle.sa_cond.proofs.Lists.{All-left, All-right}

-- what holds of the names of an operation holds of those of its operands
module _ (P : Name → Type 0) (make : Expr → Expr → Expr) (operation : ℤ → ℤ → ℤ) (over : Interval → Interval → Interval) (is : IsOperation make operation over) (whole x y : Expr)
    (whole_is : whole ≡ make x y) (all : All P (expr_names whole)) where
  names : All P (expr_names x ++ expr_names y)
  names = subst (λ names. All P names) (ap expr_names whole_is ∙ is.names x y) all

  pub left_names : All P (expr_names x)
  left_names = All-left P (expr_names x) (expr_names y) names

  pub right_names : All P (expr_names y)
  right_names = All-right P (expr_names x) (expr_names y) names

pub negated_names : (P : Name → Type 0) (whole x : Expr) → whole ≡ node.Negate x → All P (expr_names whole) → All P (expr_names x)
negated_names P whole x is all = subst (λ names. All P names) (ap expr_names is ∙ names-Negate x) all

none_right : (over : Interval → Interval → Interval) (left : Option Interval) → interval_of (reached (of_both over left None)) ≡ None
none_right over None = refl
none_right over (Some left) = refl

module _ (kinds : CellKinds) where
  module _ (make : Expr → Expr → Expr) (operation : ℤ → ℤ → ℤ) (over : Interval → Interval → Interval) (is : IsOperation make operation over) (whole x y : Expr) (whole_is : whole ≡ make x y) where
    static-operation : static_interval kinds whole ≡ interval_of (reached (of_both over (static_interval kinds x) (static_interval kinds y)))
    static-operation = ap (static_interval kinds) whole_is ∙ ap interval_of (is.kind kinds x y)

    module _ (left : Expr) (left_is : left ≡ x) where
      pub static-none_left : None ≡ static_interval kinds left → None ≡ static_interval kinds whole
      static-none_left none =
          sym (static-operation ∙ ap (λ interval. interval_of (reached (of_both over interval (static_interval kinds y)))) (sym (none ∙ ap (static_interval kinds) left_is)))

      module _ (right : Expr) (right_is : right ≡ y) where
        pub static-none : None ≡ static_interval kinds right → None ≡ static_interval kinds whole
        static-none none =
            sym (static-operation ∙ ap (λ interval. interval_of (reached (of_both over (static_interval kinds x) interval))) (sym (none ∙ ap (static_interval kinds) right_is))
            ∙ none_right over (static_interval kinds x))

        pub static-some : (a b : Interval) → Some a ≡ static_interval kinds left → Some b ≡ static_interval kinds right → interval_of (number_within (over a b)) ≡ static_interval kinds whole
        static-some a b left_some right_some =
            sym (static-operation ∙ ap (λ interval. interval_of (reached (of_both over interval (static_interval kinds y)))) (sym (left_some ∙ ap (static_interval kinds) left_is))
            ∙ ap (λ interval. interval_of (reached (of_both over (Some a) interval))) (sym (right_some ∙ ap (static_interval kinds) right_is)))

  module _ (whole x : Expr) (is : whole ≡ node.Negate x) (inner : Expr) (inner_is : inner ≡ x) where
    static-Negate : static_interval kinds whole ≡ interval_of (reached (option_map negated (static_interval kinds inner)))
    static-Negate =
        ap (static_interval kinds) is ∙ ap interval_of (kind-Negate kinds x) ∙ ap (λ expr. interval_of (reached (option_map negated (static_interval kinds expr)))) (sym inner_is)

    pub negated-none : None ≡ static_interval kinds inner → None ≡ static_interval kinds whole
    negated-none none = sym (static-Negate ∙ ap (λ interval. interval_of (reached (option_map negated interval))) (sym none))

    pub negated-some : (a : Interval) → Some a ≡ static_interval kinds inner → interval_of (number_within (negated a)) ≡ static_interval kinds whole
    negated-some a some = sym (static-Negate ∙ ap (λ interval. interval_of (reached (option_map negated interval))) (sym some))
