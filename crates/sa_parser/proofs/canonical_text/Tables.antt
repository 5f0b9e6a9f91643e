-- The tables of FROM are read back.
use Rattle.std.proofs.Common.{◌≡◌, ℕ, ◌+◌, ◌≤◌, Bool, true, false, List, [], ◌∷◌, ◌++◌, map, length, codes, None, option_map, refl, sym, ap, ap₂, ◌∙◌, subst, append_assoc, append-nil, arith}
use Rattle.std.specs.Prelude.{flat_map, fold}
use Rattle.std.specs.List.{AllByRecursion}
use Rattle.sa_lexer.specs.declared.sign.Sign.TheVariants as signs
use Rattle.sa_lexer.specs.declared.token.Token.{Token}
use Rattle.sa_lexer.specs.declared.token.TokenKind.TheVariants as kinds
use Rattle.sa_ast.specs.declared.expression.ExprTree.{ExprTree}
use Rattle.sa_ast.specs.declared.select.TableTree.{TableTree}
use Rattle.sa_ast.specs.Place.{unplaced_name, unplaced_expr, unplaced_table}
use Rattle.sa_print.specs.Name.{canonical_name}
use Rattle.sa_print.specs.Select.{join_text, table_text, tables_text}
use Rattle.sa_parser.specs.SelectTree.{table_tree, joined_table}
use Rattle.sa_parser.specs.Form.{Form, Many, Perhaps, Sign, Word, Name, After, ◌<$>◌, ◌<*>◌, ◌<|>◌}
use Rattle.sa_parser.specs.SelectGrammar.{Table, Join, Joined, Tables}
use Rattle.sa_parser.proofs.canonical_text.Build.{made, then, first, nothing, no_more, more, chained}
use Rattle.sa_parser.proofs.canonical_text.Clauses.{expression, IsMild, mild-append, alias_of, alias_mild, alias_reads, levels_in, clause_of, clause_mild, clause_reads}
use Rattle.sa_parser.proofs.canonical_text.Each.{IfThere}
use Rattle.sa_parser.proofs.canonical_text.EachPart.{IsNamed}
use Rattle.sa_parser.proofs.canonical_text.Fine.{Reads, Fine}
use Rattle.sa_parser.proofs.canonical_text.Lexed.{Quiet, quiet_at, Lexed, token_at, joined-Lexed, same-Lexed}
use Rattle.sa_parser.proofs.canonical_text.Lists.{fold-pushed, empty-Lexed}
use Rattle.sa_parser.proofs.canonical_text.Pieces.{name-Lexed, comma_space-Lexed, spaced_word-Lexed}
use Rattle.sa_parser.proofs.canonical_text.Tokens.{name_at, name_is, sign_is, word_is}

-- A table that can stand in a text: where no JOIN stands before it, it has no ON.
pub record IsTable (table : TableTree) : Type 0 where
  pub named : IsNamed table.name
  pub alias : IfThere IsNamed table.alias
  pub on : IfThere Fine table.on
  pub alone : table.joined ≡ false → table.on ≡ None

-- its name and alias
abbrev short_text : TableTree → List ℕ
short_text table = canonical_name table.name.name ++ alias_of table.alias

abbrev bare_short : TableTree → TableTree
bare_short table = record { name = unplaced_name table.name; alias = option_map unplaced_name table.alias; joined = false; on = None }

short_reads : (table : TableTree) → IsTable table → (place : ℕ) → Reads Table unplaced_table Quiet place (short_text table) (bare_short table)
unfolding Table
short_reads table is place =
    let named = alias_reads table.alias (place + length (canonical_name table.name.name)) is.alias in
    record {
      tokens = _;
      again = table_tree (name_at table.name.name place) named.again;
      lexed = joined-Lexed (name-Lexed place table.name.name is.named) named.lexed (alias_mild table.alias);
      is = then _ _ (made Name table_tree (name_is table.name.name place (length (canonical_name table.name.name)))) named.is;
      same = λ i. record { name = record { name = table.name.name; place = 0 }; alias = named.same i; joined = false; on = None };
    }

alone_text : (table : TableTree) → table.on ≡ None → short_text table ≡ table_text table
alone_text table none =
    sym (append-nil (short_text table)) ∙ ap (λ on. short_text table ++ clause_of (codes "ON") on) (sym none)

alone_bare : (table : TableTree) → table.joined ≡ false → table.on ≡ None → bare_short table ≡ unplaced_table table
alone_bare table plain none =
    λ i. record { name = unplaced_name table.name; alias = option_map unplaced_name table.alias; joined = sym plain i; on = option_map unplaced_expr (sym none i) }

-- a table without JOIN
alone_reads : (table : TableTree) → IsTable table → table.joined ≡ false → (place : ℕ) → Reads Table unplaced_table Quiet place (table_text table) (unplaced_table table)
alone_reads table is plain place =
    let found = short_reads table is place in
    let none = is.alone plain in
    record {
      tokens = found.tokens;
      again = found.again;
      lexed = same-Lexed (alone_text table none) found.lexed;
      is = found.is;
      same = found.same ∙ alone_bare table plain none;
    }

-- a table behind JOIN
abbrev Further : Form ExprTree → Form TableTree
Further Expr = joined_table <$> Join <*> Table <*> Perhaps (After (codes "ON") Expr)

-- a table with the ones that are joined to it, behind a comma
abbrev Next : Form ExprTree → Form (List TableTree)
Next Expr = (λ _ next. next) <$> Sign signs.Comma <*> Joined Expr

join_is : (place : ℕ) → Join (record { kind = kinds.Word (codes "JOIN"); start = place; end = place + 4 } ∷ []) place
unfolding Join
join_is place =
    let Inner = Word (codes "INNER") <|> Word (codes "CROSS") in
    then _ _ (made (Perhaps Inner) (λ _ join. join) (nothing Inner)) (word_is (codes "JOIN") place 4)

further_reads : (table : TableTree) (is : IsTable table) → table.joined ≡ true → (deep place : ℕ) → levels_in table.on is.on ≤ deep
    → Reads (Further (expression deep)) unplaced_table Quiet place (codes " JOIN " ++ table_text table) (unplaced_table table)
further_reads table is joined deep place enough =
    let named = short_reads table is (place + 6) in
    let on = clause_reads (codes "ON") refl table.on is.on deep (place + length (codes " JOIN " ++ short_text table)) enough in
    record {
      tokens = _;
      again = joined_table (place + 1) named.again on.again;
      lexed =
          same-Lexed (append_assoc (codes " JOIN ") (short_text table) (clause_of (codes "ON") table.on))
          (joined-Lexed (joined-Lexed (spaced_word-Lexed place (codes "JOIN") refl) named.lexed (λ after quiet. tt)) on.lexed (clause_mild (codes "ON") table.on));
      is = then _ _ (then _ _ (made Join joined_table (join_is (place + 1))) named.is) on.is;
      same = λ i. record { name = (named.same i).name; alias = (named.same i).alias; joined = sym joined i; on = on.same i };
    }

-- what stands for a table that isn't the first
abbrev next_text : TableTree → List ℕ
next_text table = join_text table.joined ++ table_text table

next_opens : (joined : Bool) (text after : List ℕ) → Quiet ((join_text joined ++ text) ++ after)
next_opens true text after = quiet_at 32 _ refl
next_opens false text after = quiet_at 44 _ refl

next_mild : (rest : List TableTree) → IsMild (flat_map next_text rest)
next_mild [] = λ after quiet. quiet
next_mild (table ∷ rest) =
    mild-append (next_text table) (flat_map next_text rest) (λ after quiet. next_opens table.joined (table_text table) after) (next_mild rest)

-- The tables behind the first: those that are joined to what stands before them, and then groups behind commas.
record Grouped (Expr : Form ExprTree) (place : ℕ) (text : List ℕ) (values : List TableTree) : Type 0 where
  joins_tokens : List Token
  joins : List TableTree
  joins_are : Many (Further Expr) joins_tokens joins
  groups_tokens : List Token
  groups : List (List TableTree)
  groups_are : Many (Next Expr) groups_tokens groups
  lexed : Lexed Quiet place text (joins_tokens ++ groups_tokens)
  same : map unplaced_table (joins ++ flat_map (λ group. group) groups) ≡ values

-- each table can stand there
abbrev pub AreTables : List TableTree → Type 0
AreTables tables = AllByRecursion IsTable tables

abbrev pub table_levels : (tables : List TableTree) → AreTables tables → ℕ
table_levels [] are = 0
table_levels (table ∷ tables) are = levels_in table.on are.0.on + table_levels tables are.1

group_joined : (Expr : Form ExprTree) (tokens more : List Token) (table : TableTree) (joins : List TableTree) → Table tokens table → Many (Further Expr) more joins
    → Joined Expr (tokens ++ more) (table ∷ joins)
unfolding Joined
group_joined Expr tokens more_tokens table joins is are =
    let Is : List TableTree → Type 0 = λ tables. Joined Expr (tokens ++ more_tokens) tables in
    subst Is (fold-pushed (table ∷ []) joins) (chained _ _ _ _ _ (made Table (λ table. table ∷ []) is) are)

module _ (Expr : Form ExprTree) (place : ℕ) (head rest : List ℕ) (value : TableTree) (values : List TableTree) (mild : IsMild rest) where
  with_join : Reads (Further Expr) unplaced_table Quiet place head value → Grouped Expr (place + length head) rest values → Grouped Expr place (head ++ rest) (value ∷ values)
  with_join one grouped =
      let all = append_assoc one.tokens grouped.joins_tokens grouped.groups_tokens in
      record {
        joins_tokens = one.tokens ++ grouped.joins_tokens;
        joins = one.again ∷ grouped.joins;
        joins_are = more (Further Expr) grouped.joins_tokens grouped.joins one.is grouped.joins_are;
        groups_tokens = grouped.groups_tokens;
        groups = grouped.groups;
        groups_are = grouped.groups_are;
        lexed = subst (λ tokens. Lexed Quiet place (head ++ rest) tokens) (sym all) (joined-Lexed one.lexed grouped.lexed mild);
        same = ap₂ (λ x xs. x ∷ xs) one.same grouped.same;
      }

  -- a table behind a comma takes the joins that follow into its group
  with_comma : Reads Table unplaced_table Quiet (place + 2) head value → Grouped Expr (place + length (codes ", " ++ head)) rest values
      → Grouped Expr place (codes ", " ++ head ++ rest) (value ∷ values)
  with_comma one grouped =
      let comma = token_at (kinds.Sign signs.Comma) place 1 in
      let all = ap (λ tokens. comma ∷ tokens) (append_assoc one.tokens grouped.joins_tokens grouped.groups_tokens) in
      let group = group_joined Expr one.tokens grouped.joins_tokens one.again grouped.joins one.is grouped.joins_are in
      let next = then _ _ (made (Sign signs.Comma) (λ _ next. next) (sign_is signs.Comma place 1)) group in
      let whole = joined-Lexed (joined-Lexed (comma_space-Lexed place) one.lexed (λ after quiet. tt)) grouped.lexed mild in
      record {
        joins_tokens = [];
        joins = [];
        joins_are = no_more (Further Expr);
        groups_tokens = comma ∷ [] ++ (one.tokens ++ grouped.joins_tokens) ++ grouped.groups_tokens;
        groups = (one.again ∷ grouped.joins) ∷ grouped.groups;
        groups_are = more (Next Expr) grouped.groups_tokens grouped.groups next grouped.groups_are;
        lexed = subst (λ tokens. Lexed Quiet place (codes ", " ++ head ++ rest) tokens) (sym all) whole;
        same = ap₂ (λ x xs. x ∷ xs) one.same grouped.same;
      }

no_tables : (Expr : Form ExprTree) (place : ℕ) → Grouped Expr place [] []
no_tables Expr place = record {
  joins_tokens = [];
  joins = [];
  joins_are = no_more (Further Expr);
  groups_tokens = [];
  groups = [];
  groups_are = no_more (Next Expr);
  lexed = empty-Lexed Quiet place;
  same = refl;
}

with_table : (table : TableTree) (is : IsTable table) (joined : Bool) → table.joined ≡ joined → (rest : List ℕ) (values : List TableTree) → IsMild rest → (deep place : ℕ)
    → levels_in table.on is.on ≤ deep → ((there : ℕ) → Grouped (expression deep) there rest values)
    → Grouped (expression deep) place (join_text joined ++ table_text table ++ rest) (unplaced_table table ∷ values)
with_table table is true joined rest values mild deep place enough later =
    with_join (expression deep) place (codes " JOIN " ++ table_text table) rest (unplaced_table table) values mild
    (further_reads table is joined deep place enough) (later (place + length (codes " JOIN " ++ table_text table)))
with_table table is false plain rest values mild deep place enough later =
    with_comma (expression deep) place (table_text table) rest (unplaced_table table) values mild
    (alone_reads table is plain (place + 2)) (later (place + length (codes ", " ++ table_text table)))

grouped : (rest : List TableTree) (are : AreTables rest) (deep place : ℕ) → table_levels rest are ≤ deep
    → Grouped (expression deep) place (flat_map next_text rest) (map unplaced_table rest)
grouped [] are deep place enough = no_tables (expression deep) place
grouped (table ∷ rest) are deep place enough =
    with_table table are.0 table.joined refl (flat_map next_text rest) (map unplaced_table rest) (next_mild rest) deep place (omega (arith, enough))
    (λ there. grouped rest are.1 deep there (omega (arith, enough)))

fold-appended : (found : List TableTree) (groups : List (List TableTree)) → fold (λ tables next. tables ++ next) found groups ≡ found ++ flat_map (λ group. group) groups
fold-appended found [] = sym (append-nil found)
fold-appended found (group ∷ groups) = fold-appended (found ++ group) groups ∙ append_assoc found group (flat_map (λ group. group) groups)

-- the tables of FROM, of which the first has no JOIN before it
pub tables_reads : (first : TableTree) (rest : List TableTree) (are : AreTables (first ∷ rest)) → first.joined ≡ false → (deep place : ℕ) → table_levels (first ∷ rest) are ≤ deep
    → Reads (Tables (expression deep)) (map unplaced_table) Quiet place (tables_text (first ∷ rest)) (map unplaced_table (first ∷ rest))
unfolding Tables
tables_reads first rest are plain deep place enough =
    let one = alone_reads first are.0 plain place in
    let more_tables = grouped rest are.1 deep (place + length (table_text first)) (omega (arith, enough)) in
    let Expr = expression deep in
    let begun = group_joined Expr one.tokens more_tables.joins_tokens one.again more_tables.joins one.is more_tables.joins_are in
    let whole = joined-Lexed one.lexed more_tables.lexed (next_mild rest) in
    let all = append_assoc one.tokens more_tables.joins_tokens more_tables.groups_tokens in
    record {
      tokens = one.tokens ++ more_tables.joins_tokens ++ more_tables.groups_tokens;
      again = fold (λ tables next. tables ++ next) (one.again ∷ more_tables.joins) more_tables.groups;
      lexed = subst (λ tokens. Lexed Quiet place (tables_text (first ∷ rest)) tokens) (sym all) whole;
      is = chained _ _ _ _ _ begun more_tables.groups_are;
      same = ap (map unplaced_table) (fold-appended (one.again ∷ more_tables.joins) more_tables.groups) ∙ ap₂ (λ x xs. x ∷ xs) one.same more_tables.same;
    }
