-- A shelf that grows by an index, or by the indexes of a table.
use Rattle.std.proofs.Common.{◌≡◌, ℕ, ◌+◌, ◌<◌, ◌≤◌, List, [], ◌∷◌, ◌++◌, length, get_or, ⊎_elim, sym, ap, ◌∙◌, subst, arith, length-append}
use Rattle.std.proofs.Math.ListN.{get_or-append}
use Rattle.std.proofs.lemmas.Bool.{cases_lt}
use Rattle.std.proofs.lemmas.List.{get_or_push}
use Rattle.sa_table.specs.Table.{Table}
use Rattle.sa_index.specs.Indexed.{Indexed}
use Rattle.sa_index.specs.inner.Shelf.{AreFirstKeys, AreFirstTables, AreKeysIndexed}

longer : {X : Type 0} (xs : List X) (x : X) (n : ℕ) → length xs ≡ n → length (xs ++ x ∷ []) ≡ n + 1
longer {X} xs x n long = length-append xs (x ∷ []) ∙ ap (λ k. k + 1) long

-- what holds of the first so many, and of the next one
each_pushed : {X : Type 0} (P : ℕ → X → Type 0) (xs : List X) (x : X) (n : ℕ) → length xs ≡ n
    → ((k : ℕ) (d : X) → k < n → P k (get_or xs k d)) → P n x → (k : ℕ) (d : X) → k < n + 1 → P k (get_or (xs ++ x ∷ []) k d)
each_pushed P xs x n long each here k d below =
    ⊎_elim
    (λ (before : k < n). subst (P k) (sym (get_or-append xs (x ∷ []) d k (omega arith))) (each k d before))
    (λ (behind : n ≤ k).
    let same : n ≡ k = omega arith in
    subst (λ i. P i (get_or (xs ++ x ∷ []) i d)) same (subst (P n) (sym (get_or_push xs x d n long)) here))
    (cases_lt k n)

pub first_keys-push : {I : Type 0} (indexed : I → Indexed) (tables : List Table) (table count : ℕ) (indexes : List I) (index : I)
    → AreFirstKeys indexed tables table count indexes → indexed index ≡ record { tables = tables; table = table; key = count }
    → AreFirstKeys indexed tables table (count + 1) (indexes ++ index ∷ [])
first_keys-push {I} indexed tables table count indexes index first is = record {
  long = longer indexes index count first.long;
  each = each_pushed (λ key (held : I). indexed held ≡ record { tables = tables; table = table; key = key }) indexes index count first.long first.each is;
}

pub first_tables-push : {I Held : Type 0} (held : Held → List I) (indexed : I → Indexed) (tables : List Table) (count : ℕ) (shelf : List Held) (next : Held)
    → AreFirstTables held indexed tables count shelf → AreKeysIndexed indexed tables count (held next)
    → AreFirstTables held indexed tables (count + 1) (shelf ++ next ∷ [])
first_tables-push {I} {Held} held indexed tables count shelf next first is = record {
  long = longer shelf next count first.long;
  each = each_pushed (λ table (one : Held). AreKeysIndexed indexed tables table (held one)) shelf next count first.long first.each is;
}
