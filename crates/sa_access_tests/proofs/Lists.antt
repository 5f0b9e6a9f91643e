-- What one turn more of a loop over the tables of FROM adds to the ranges of their keys.
use Rattle.std.proofs.Common.{◌≡◌, ℕ, ◌+◌, ◌<◌, ◌≤◌, List, [], ◌∷◌, ◌++◌, length, get_or, take, sym, ap, subst, ◌∙◌, zero-add}
use Rattle.std.specs.List.{enumerate_from}
use Rattle.std.proofs.lemmas.List.{get_or-map, length-map, take_all, take_more}
use Rattle.std.proofs.lemmas.List.FromFn.{get_or-enumerate_from, length-enumerate_from}
use Rattle.sa_interval.specs.declared.list.RangeList.{RangeList}
use Rattle.sa_query.specs.declared.query.Query.{Query}
use Rattle.sa_query.specs.declared.query.TableUse.{TableUse}
use Rattle.sa_table.specs.Table.{Table}
use Rattle.sa_access.specs.Asked.{range_lists, table_ranges}

module _ (tables : List Table) (query : Query) where
  abbrev numbered : List (ℕ × TableUse)
  numbered = enumerate_from 0 query.tables

  abbrev lists_of : ℕ × TableUse → List RangeList
  lists_of = table_ranges tables query.filter

  long : length (range_lists tables query) ≡ length query.tables
  long = length-map numbered lists_of ∙ length-enumerate_from 0 query.tables

  -- those of the table in a position of FROM
  at : (i : ℕ) (used : TableUse) → i < length query.tables → used ≡ get_or query.tables i used
      → get_or (range_lists tables query) i (lists_of (i, used)) ≡ lists_of (i, used)
  at i used there is =
      get_or-map lists_of numbered i (i, used) (lists_of (i, used)) (subst (λ n. i < n) (sym (length-enumerate_from 0 query.tables)) there)
      ∙ ap lists_of
      (get_or-enumerate_from 0 query.tables i (i, used) there
      ∙ ap (λ n. (n, get_or query.tables i used)) (zero-add i)
      ∙ ap (λ one. (i, one)) (sym is))

  -- those before it, and its own behind them
  pub lists_pushed : (done : List (List RangeList)) (i : ℕ) (used : TableUse) → i < length query.tables → used ≡ get_or query.tables i used
      → done ≡ take i (range_lists tables query)
      → done ++ lists_of (i, used) ∷ [] ≡ take (i + 1) (range_lists tables query)
  lists_pushed done i used there is so_far =
      ap (λ front. front ++ lists_of (i, used) ∷ []) so_far
      ∙ ap (λ one. take i (range_lists tables query) ++ one ∷ []) (sym (at i used there is))
      ∙ sym (take_more (range_lists tables query) i (lists_of (i, used)) (subst (λ n. i < n) (sym long) there))

  pub lists_whole : (done : List (List RangeList)) (i : ℕ) → length query.tables ≤ i
      → done ≡ take i (range_lists tables query) → done ≡ range_lists tables query
  lists_whole done i past so_far = so_far ∙ take_all i (range_lists tables query) (subst (λ n. n ≤ i) (sym long) past)
