-- The cells that two lists stand for, and what becomes of them at a push.
use Rattle.std.proofs.Common.{◌≡◌, ℕ, zero, suc, ◌<◌, ◌≤◌, List, [], ◌∷◌, ◌++◌, length, get_or, Bool, true, false, cond, Option, Some, None, refl, sym, ap, arith}
use Rattle.sa_table.specs.inner.Cells.{cells_of}

pub null_at : {T : Type 0} (nulls : List Bool) (items : List T) (row : ℕ) → get_or nulls row false ≡ true → None ≡ get_or (cells_of nulls items) row None
null_at nulls [] row e = refl
null_at [] (item ∷ items) row e = cc
null_at (null ∷ nulls) (item ∷ items) zero e = ap (λ is_null. cond is_null None (Some item)) (sym e)
null_at (null ∷ nulls) (item ∷ items) (suc row) e = null_at nulls items row e

pub item_at : {T : Type 0} (nulls : List Bool) (items : List T) (row : ℕ) (d : T) → row < length items → get_or nulls row false ≡ false → Some (get_or items row d) ≡ get_or (cells_of nulls items) row None
item_at nulls [] row d h e = absurd (omega arith)
item_at [] (item ∷ items) zero d h e = refl
item_at [] (item ∷ items) (suc row) d h e = item_at [] items row d (omega arith) refl
item_at (null ∷ nulls) (item ∷ items) zero d h e = ap (λ is_null. cond is_null None (Some item)) (sym e)
item_at (null ∷ nulls) (item ∷ items) (suc row) d h e = item_at nulls items row d (omega arith) e

pub cells_length : {T : Type 0} (nulls : List Bool) (items : List T) → length (cells_of nulls items) ≡ length items
cells_length nulls [] = refl
cells_length [] (item ∷ items) = ap suc (cells_length [] items)
cells_length (null ∷ nulls) (item ∷ items) = ap suc (cells_length nulls items)

pub item_pushed : {T : Type 0} (nulls : List Bool) (items : List T) (x : T) → length nulls ≤ length items → cells_of nulls (items ++ x ∷ []) ≡ cells_of nulls items ++ Some x ∷ []
item_pushed [] [] x h = refl
item_pushed (null ∷ nulls) [] x h = absurd (omega arith)
item_pushed {T} [] (item ∷ items) x h = ap (λ (rest : List (Option T)). Some item ∷ rest) (item_pushed [] items x (omega arith))
item_pushed {T} (null ∷ nulls) (item ∷ items) x h = ap (λ (rest : List (Option T)). cond null None (Some item) ∷ rest) (item_pushed nulls items x (omega arith))

-- What isn't said to be NULL may be said not to be.
pub padded : {T : Type 0} (nulls : List Bool) (items : List T) → length nulls < length items → cells_of (nulls ++ false ∷ []) items ≡ cells_of nulls items
padded nulls [] h = absurd (omega arith)
padded [] (item ∷ []) h = refl
padded [] (item ∷ other ∷ items) h = refl
padded {T} (null ∷ nulls) (item ∷ items) h = ap (λ (rest : List (Option T)). cond null None (Some item) ∷ rest) (padded nulls items (omega arith))

pub null_pushed : {T : Type 0} (nulls : List Bool) (items : List T) (x : T) → length nulls ≡ length items → cells_of (nulls ++ true ∷ []) (items ++ x ∷ []) ≡ cells_of nulls items ++ None ∷ []
null_pushed [] [] x h = refl
null_pushed (null ∷ nulls) [] x h = absurd (omega arith)
null_pushed [] (item ∷ items) x h = absurd (omega arith)
null_pushed {T} (null ∷ nulls) (item ∷ items) x h = ap (λ (rest : List (Option T)). cond null None (Some item) ∷ rest) (null_pushed nulls items x (omega arith))
