-- What holds of lists and of the texts that are made of them.
use Rattle.std.proofs.Common.{◌≡◌, ℕ, ◌<◌, ◌≤◌, List, [], ◌∷◌, ◌++◌, map, take, drop, get_or, length, refl, ap, sym, ◌∙◌, arith, append_assoc}
use Rattle.std.proofs.Math.Seq.{take-length}
use Rattle.std.specs.Prelude.{flat_map}
use Rattle.std.proofs.lemmas.List.Folds.{flat_map-map}
use Rattle.sa_ast.specs.declared.select.TableTree.{TableTree}
use Rattle.sa_print.specs.Lists.{joined, listed, list_clause}
use Rattle.sa_print.specs.Select.{join_text, table_text, tables_text}

-- nothing is left past the end
pub take_whole : {X : Type 0} (n : ℕ) (xs : List X) → n ≤ length xs → length xs ≤ n → take n xs ≡ xs
take_whole n xs most least =
    let all : n ≡ length xs = omega arith in
    rw all (take-length xs)

joined_first : {X : Type 0} (f : X → List ℕ) (between : List ℕ) (xs : List X) (d : X) → 0 < length xs → f (get_or xs 0 d) ++ flat_map (λ next. between ++ f next) (drop 1 xs) ≡ joined between (map f xs)
joined_first f between [] d some = absurd (omega arith)
joined_first f between (x ∷ xs) d some = ap (λ (more : List ℕ). f x ++ more) (sym (flat_map-map (λ next. between ++ next) f xs))

-- The texts of a list are written: the first one, and then each of the others after the text between them.
pub joined_written : {X : Type 0} (f : X → List ℕ) (between old new : List ℕ) (xs ys : List X) (first : X) (n : ℕ) → 0 < length xs → first ≡ get_or xs 0 first → ys ≡ drop 1 xs → n ≤ length ys → length ys ≤ n
    → new ≡ (old ++ f first) ++ flat_map (λ next. between ++ f next) (take n ys) → new ≡ old ++ joined between (map f xs)
joined_written {X} f between old new xs ys first n some is rest most least e =
    e
    ∙ ap (λ (zs : List X). (old ++ f first) ++ flat_map (λ next. between ++ f next) zs) (take_whole n ys most least ∙ rest)
    ∙ append_assoc old (f first) (flat_map (λ next. between ++ f next) (drop 1 xs))
    ∙ ap (λ (x : X). old ++ (f x ++ flat_map (λ next. between ++ f next) (drop 1 xs))) is
    ∙ ap (λ (more : List ℕ). old ++ more) (joined_first f between xs first some)

-- The same after the words of its clause, which stand where the list has a member.
pub clause_written : {X : Type 0} (f : X → List ℕ) (words old new : List ℕ) (xs : List X) → 0 < length xs → new ≡ (old ++ words) ++ listed (map f xs) → new ≡ old ++ list_clause words (map f xs)
clause_written f words old new [] some e = absurd (omega arith)
clause_written f words old new (x ∷ xs) some e = e ∙ append_assoc old words (listed (map f (x ∷ xs)))

tables_first : (tables : List TableTree) (d : TableTree) → 0 < length tables → table_text (get_or tables 0 d) ++ flat_map (λ table. join_text table.joined ++ table_text table) (drop 1 tables) ≡ tables_text tables
tables_first [] d some = absurd (omega arith)
tables_first (first ∷ rest) d some = refl

-- The tables of FROM are written: the first one, and then each of the others after its join.
pub tables_written : (old new : List ℕ) (tables ys : List TableTree) (first : TableTree) (n : ℕ) → 0 < length tables → first ≡ get_or tables 0 first → ys ≡ drop 1 tables → n ≤ length ys → length ys ≤ n
    → new ≡ (old ++ table_text first) ++ flat_map (λ table. join_text table.joined ++ table_text table) (take n ys) → new ≡ old ++ tables_text tables
tables_written old new tables ys first n some is rest most least e =
    let next = λ (table : TableTree). join_text table.joined ++ table_text table in
    e
    ∙ ap (λ (zs : List TableTree). (old ++ table_text first) ++ flat_map next zs) (take_whole n ys most least ∙ rest)
    ∙ append_assoc old (table_text first) (flat_map next (drop 1 tables))
    ∙ ap (λ (table : TableTree). old ++ (table_text table ++ flat_map next (drop 1 tables))) is
    ∙ ap (λ (more : List ℕ). old ++ more) (tables_first tables first some)
