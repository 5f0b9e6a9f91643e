-- The equalities by which parts are sought, one after another.
use Rattle.std.proofs.Common.{◌≡◌, ℕ, ◌+◌, ◌<◌, ◌≤◌, Bool, true, false, ◌&&◌, List, [], ◌∷◌, ◌++◌, length, get_or, drop, Option, Some, None, refl, sym, ap, ◌∙◌, arith, append_assoc}
use Rattle.std.specs.List.{list_all}
use Rattle.std.specs.Option.{option_or}
use Rattle.std.proofs.lemmas.List.{append-nil, at_drop_all, at_drop_more}
use Rattle.sa_cond.specs.declared.cond.Cond.{Cond, out-Cond}
use Rattle.sa_simplify.specs.Flatten.{conjuncts_of}
use Rattle.sa_plan.specs.declared.access.RefPart.{RefPart}
use Rattle.sa_access.specs.Asked.{Asked}
use Rattle.sa_access.specs.Sought.{cons_some, first_sought, is_literal, sought_in, sought_parts}

and_true : (a : Bool) → (a && true) ≡ a
and_true true = refl
and_true false = refl

and_assoc : (a b c : Bool) → ((a && b) && c) ≡ (a && (b && c))
and_assoc true b c = refl
and_assoc false b c = refl

-- the next condition seeks the column, or those behind it do
pub next_sought : (earlier : List ℕ) (position column : ℕ) (conds : List Cond) (i : ℕ) (cond : Cond) (found : Option RefPart) → i < length conds → cond ≡ get_or conds i cond
    → found ≡ sought_in earlier position column (out-Cond cond)
    → first_sought earlier position column (drop i conds) ≡ option_or found (first_sought earlier position column (drop (i + 1) conds))
next_sought earlier position column conds i cond found there is found_is =
    at_drop_more (first_sought earlier position column) conds i cond there
    ∙ ap (λ (one : Cond). option_or (sought_in earlier position column (out-Cond one)) (first_sought earlier position column (drop (i + 1) conds))) (sym is)
    ∙ ap (λ (one : Option RefPart). option_or one (first_sought earlier position column (drop (i + 1) conds))) (sym found_is)

module _ (asked : Asked) (columns : List ℕ) where
  -- what a column is sought by
  abbrev found_at : ℕ → Option RefPart
  found_at column = first_sought asked.earlier asked.position column (conjuncts_of asked.query.filter)

  pub next_part : (i column : ℕ) (found : Option RefPart) → i < length columns → column ≡ get_or columns i 0 → found ≡ found_at column
      → sought_parts asked (drop i columns) ≡ cons_some found (sought_parts asked (drop (i + 1) columns))
  next_part i column found there is found_is =
      at_drop_more (sought_parts asked) columns i 0 there
      ∙ ap (λ number. cons_some (found_at number) (sought_parts asked (drop (i + 1) columns))) (sym is)
      ∙ ap (λ (one : Option RefPart). cons_some one (sought_parts asked (drop (i + 1) columns))) (sym found_is)

  pub no_more : (i : ℕ) → length columns ≤ i → sought_parts asked (drop i columns) ≡ []
  no_more i all = at_drop_all (sought_parts asked) columns i all

  -- So many parts, these and those that are sought by the columns from there on, are all parts.
  pub record IsSoFar (i count : ℕ) (literal : Bool) : Type 0 where
    pub counted : count + length (sought_parts asked (drop i columns)) ≡ length (sought_parts asked columns)
    pub literals : (literal && list_all is_literal (sought_parts asked (drop i columns))) ≡ list_all is_literal (sought_parts asked columns)
    pub few : count ≤ i

  module _ (i count : ℕ) (literal : Bool) (so_far : IsSoFar i count literal) (there : i < length columns) (column : ℕ) (is : column ≡ get_or columns i 0) where
    -- a column that isn't sought ends them
    pub ends : None ≡ found_at column → (count ≡ length (sought_parts asked columns)) × (literal ≡ list_all is_literal (sought_parts asked columns))
    ends none =
        let over : sought_parts asked (drop i columns) ≡ [] = next_part i column None there is none in (
          omega (arith, so_far.counted, ap length over),
          sym (and_true literal) ∙ ap (λ (rest : List RefPart). literal && list_all is_literal rest) (sym over) ∙ so_far.literals,
        )

    -- one that is sought is one part more
    pub goes_on : (part : RefPart) (new : ℕ) (new_literal : Bool) → Some part ≡ found_at column → new ≡ count + 1 → new_literal ≡ (literal && is_literal part)
        → IsSoFar (i + 1) new new_literal
    goes_on part new new_literal found new_is literal_is =
        let more : sought_parts asked (drop i columns) ≡ part ∷ sought_parts asked (drop (i + 1) columns) = next_part i column (Some part) there is found in
        record {
          counted = omega (arith, so_far.counted, ap length more);
          literals =
              ap (λ (test : Bool). test && list_all is_literal (sought_parts asked (drop (i + 1) columns))) literal_is
              ∙ and_assoc literal (is_literal part) (list_all is_literal (sought_parts asked (drop (i + 1) columns)))
              ∙ ap (λ (rest : List RefPart). literal && list_all is_literal rest) (sym more) ∙ so_far.literals;
          few = omega (arith, so_far.few);
        }

  pub all_counted : (i count : ℕ) (literal : Bool) → IsSoFar i count literal → length columns ≤ i
      → (count ≡ length (sought_parts asked columns)) × (literal ≡ list_all is_literal (sought_parts asked columns))
  all_counted i count literal so_far all = (
    omega (arith, so_far.counted, ap length (no_more i all)),
    sym (and_true literal) ∙ ap (λ (rest : List RefPart). literal && list_all is_literal rest) (sym (no_more i all)) ∙ so_far.literals,
  )

  -- the parts so far and those behind them
  pub one_more : (i column : ℕ) (parts new : List RefPart) (part : RefPart) → i < length columns → column ≡ get_or columns i 0 → Some part ≡ found_at column
      → parts ++ sought_parts asked (drop i columns) ≡ sought_parts asked columns → new ≡ parts ++ part ∷ []
      → new ++ sought_parts asked (drop (i + 1) columns) ≡ sought_parts asked columns
  one_more i column parts new part there is found so_far new_is =
      ap (λ (front : List RefPart). front ++ sought_parts asked (drop (i + 1) columns)) new_is
      ∙ append_assoc parts (part ∷ []) (sought_parts asked (drop (i + 1) columns))
      ∙ ap (λ (rest : List RefPart). parts ++ rest) (sym (next_part i column (Some part) there is found)) ∙ so_far

  pub whole : (i : ℕ) (parts : List RefPart) → sought_parts asked (drop i columns) ≡ [] → parts ++ sought_parts asked (drop i columns) ≡ sought_parts asked columns
      → parts ≡ sought_parts asked columns
  whole i parts over so_far = sym (append-nil parts) ∙ ap (λ (rest : List RefPart). parts ++ rest) (sym over) ∙ so_far

-- no more parts are sought than there are
pub sought_few : (asked : Asked) (columns : List ℕ) → length (sought_parts asked columns) ≤ length columns
sought_few asked [] = omega arith
sought_few asked (column ∷ columns) = at (sought_few asked columns) (first_sought asked.earlier asked.position column (conjuncts_of asked.query.filter))
  where
    at : length (sought_parts asked columns) ≤ length columns → (found : Option RefPart)
        → length (cons_some found (sought_parts asked columns)) ≤ length (column ∷ columns)
    at rest None = omega arith
    at rest (Some part) = omega (arith, rest)
