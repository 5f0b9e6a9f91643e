-- The numbers of a SCHEDULE, one after another.
use Rattle.std.proofs.Common.{◌≡◌, ℕ, ◌+◌, ◌<◌, List, [], ◌∷◌, ◌++◌, length, get_or, take, Some, None, ap, ◌∙◌, subst, below_more}
use Rattle.std.specs.Prelude.{slice_get}
use Rattle.std.proofs.lemmas.List.{take_more, map-append}
use Rattle.std.proofs.lemmas.Option.{get_or_from_slice_get}
use Rattle.sa_ast.specs.declared.directive.NumberTree.{NumberTree}
use Rattle.sa_script.specs.Direct.{schedule_fault, numbers_in}

-- the number at this place isn't faulty
abbrev pub IsGood : (sessions : ℕ) → List NumberTree → ℕ → Type 0
IsGood sessions trees index = (other : NumberTree) → slice_get trees index ≡ Some other → schedule_fault sessions index other ≡ None

pub good_more : (sessions : ℕ) (trees : List NumberTree) (index : ℕ) (past : NumberTree) → ((earlier : ℕ) → earlier < index → IsGood sessions trees earlier) → schedule_fault sessions index (get_or trees index past) ≡ None
    → (earlier : ℕ) → earlier < index + 1 → IsGood sessions trees earlier
good_more sessions trees index past before here =
    below_more (IsGood sessions trees) index before
    (λ (other : NumberTree) (there : slice_get trees index ≡ Some other). subst (λ (tree : NumberTree). schedule_fault sessions index tree ≡ None) (get_or_from_slice_get trees index other past there) here)

pub numbers_more : (trees : List NumberTree) (index : ℕ) (past : NumberTree) → index < length trees → numbers_in (take (index + 1) trees) ≡ numbers_in (take index trees) ++ (get_or trees index past).number ∷ []
numbers_more trees index past within =
    ap numbers_in (take_more trees index past within) ∙ map-append (λ (tree : NumberTree). tree.number) (take index trees) (get_or trees index past ∷ [])
