-- The first table with an alias.
use Rattle.std.proofs.Common.{◌≡◌, ℕ, ◌<◌, ◌≤◌, ◌+◌, suc, List, [], ◌∷◌, ◌++◌, length, take, drop, Bool, true, false, ◌||◌, cond, Option, Some, None, option_map, refl, sym, ap, ◌∙◌, arith}
use Rattle.std.proofs.lemmas.Bool.{lt-ltb, le-ltb}
use Rattle.std.proofs.lemmas.List.{length-take-le, take-append-drop}
use Rattle.std.proofs.lemmas.List.Folds.{find-append}
use Rattle.std.specs.List.{enumerate_from, find, list_any, slice_get}
use Rattle.std.specs.Option.{is_some, option_or}
use Rattle.sa_ast.specs.declared.select.TableTree.{TableTree}
use Rattle.sa_table.specs.Create.{same_name}
use Rattle.sa_table.specs.Table.{Table}
use Rattle.sa_resolve.specs.Sight.{Source, called, source_named, source_of}
use Rattle.sa_resolve.specs.Tables.{sources_of}
use Rattle.sa_resolve.specs.inner.Sighted.{below}
use Rattle.sa_resolve.proofs.names.Positions.{enumerate_from-append}

module _ (alias : List ℕ) where
  abbrev has : ℕ × Source → Bool
  has numbered = same_name numbered.1.alias alias

  abbrev number : Option (ℕ × Source) → Option ℕ
  number found = option_map (λ numbered. numbered.0) found

  or_number : (found : Option (ℕ × Source)) (here : Bool) (n : ℕ) (source : Source)
      → number (option_or found (cond here (Some (n, source)) None)) ≡ option_or (number found) (cond here (Some n) None)
  or_number (Some it) here n source = refl
  or_number None true n source = refl
  or_number None false n source = refl

  -- one table more
  pub source_named-push : (sources : List Source) (source : Source) → number (source_named (sources ++ source ∷ []) alias)
      ≡ option_or (number (source_named sources alias)) (cond (same_name source.alias alias) (Some (length sources)) None)
  source_named-push sources source =
      ap (λ numbered. number (find has numbered)) (enumerate_from-append 0 sources (source ∷ []))
      ∙ ap number (find-append has (enumerate_from 0 sources) ((0 + length sources, source) ∷ []))
      ∙ or_number (source_named sources alias) (same_name source.alias alias) (0 + length sources) source
      ∙ ap (λ (n : ℕ). option_or (number (source_named sources alias)) (cond (same_name source.alias alias) (Some n) None)) (omega arith)

  -- A table that is found has the alias, and stands where its number says.
  pub record IsThere (n : ℕ) (sources : List Source) (found : ℕ × Source) : Type 0 where
    pub place : ℕ
    pub number_is : found.0 ≡ n + place
    pub within : place < length sources
    pub stands : slice_get sources place ≡ Some found.1

  pub found_there : (n : ℕ) (sources : List Source) (found : ℕ × Source) → find has (enumerate_from n sources) ≡ Some found → IsThere n sources found
  found_there n [] found e = let nothing : ◌≡◌ {A = Option (ℕ × Source)} None (Some found) = e in absurd cc
  found_there n (source ∷ sources) found e = by (same_name source.alias alias) (found_there (n + 1) sources found) e
    where
      by : (here : Bool) → (find has (enumerate_from (n + 1) sources) ≡ Some found → IsThere (n + 1) sources found)
          → cond here (Some (n, source)) (find has (enumerate_from (n + 1) sources)) ≡ Some found → IsThere n (source ∷ sources) found
      by true later is =
          let some : ◌≡◌ {A = Option (ℕ × Source)} (Some (n, source)) (Some found) = is in
          let same : ◌≡◌ {A = ℕ × Source} (n, source) found = cc in
          record {
            place = 0;
            number_is = omega (arith, ap (λ (f : ℕ × Source). f.0) same);
            within = omega arith;
            stands = ap (λ (f : ℕ × Source). Some f.1) same;
          }
      by false later is =
          let rest : IsThere (n + 1) sources found = later is in
          record {
            place = suc rest.place;
            number_is = omega (arith, rest.number_is);
            within = omega (arith, rest.within);
            stands = rest.stands;
          }

  below_found : (n count : ℕ) (sources : List Source) → n + length sources ≤ count → (found : Option (ℕ × Source)) → find has (enumerate_from n sources) ≡ found
      → below count (number found) ≡ number found
  below_found n count sources few None e = refl
  below_found n count sources few (Some found) e =
      let there : IsThere n sources found = found_there n sources found e in
      ap (λ (less : Bool). cond less (Some found.0) None) (lt-ltb found.0 count (omega (arith, there.number_is, there.within)))

  past_found : (n count : ℕ) (sources : List Source) → count ≤ n → (found : Option (ℕ × Source)) → find has (enumerate_from n sources) ≡ found
      → below count (number found) ≡ None
  past_found n count sources past None e = refl
  past_found n count sources past (Some found) e =
      let there : IsThere n sources found = found_there n sources found e in
      ap (λ (less : Bool). cond less (Some found.0) None) (le-ltb found.0 count (omega (arith, there.number_is)))

  below_or : (count : ℕ) (one other : Option (ℕ × Source)) → below count (number one) ≡ number one → below count (number other) ≡ None
      → below count (number (option_or one other)) ≡ number one
  below_or count None other within past = past
  below_or count (Some one) other within past = within

  -- the first one among the first tables
  pub source_named-below : (count : ℕ) (sources : List Source) → count ≤ length sources
      → below count (number (source_named sources alias)) ≡ number (source_named (take count sources) alias)
  source_named-below count sources few =
      let all : length (take count sources) ≡ count = length-take-le count sources few in
      ap (λ every. below count (number (source_named every alias))) (sym (take-append-drop count sources))
      ∙ ap (λ numbered. below count (number (find has numbered))) (enumerate_from-append 0 (take count sources) (drop count sources))
      ∙ ap (λ found. below count (number found)) (find-append has (enumerate_from 0 (take count sources)) (enumerate_from (0 + length (take count sources)) (drop count sources)))
      ∙ below_or count (source_named (take count sources) alias) (find has (enumerate_from (0 + length (take count sources)) (drop count sources)))
      (below_found 0 count (take count sources) (omega (arith, all)) (source_named (take count sources) alias) refl)
      (past_found (0 + length (take count sources)) count (drop count sources) (omega (arith, all))
      (find has (enumerate_from (0 + length (take count sources)) (drop count sources))) refl)

  -- whether a table is called so
  pub is_some-source_named : (tables : List Table) (n : ℕ) (from : List TableTree)
      → is_some (number (find has (enumerate_from n (sources_of tables from)))) ≡ list_any (λ (tree : TableTree). same_name (called tree).name alias) from
  is_some-source_named tables n [] = refl
  is_some-source_named tables n (tree ∷ from) = by (same_name (called tree).name alias) (is_some-source_named tables (n + 1) from)
    where
      by : (here : Bool)
          → is_some (number (find has (enumerate_from (n + 1) (sources_of tables from)))) ≡ list_any (λ (other : TableTree). same_name (called other).name alias) from
          → is_some (number (cond here (Some (n, source_of tables tree)) (find has (enumerate_from (n + 1) (sources_of tables from)))))
          ≡ (here || list_any (λ (other : TableTree). same_name (called other).name alias) from)
      by true later = refl
      by false later = later
