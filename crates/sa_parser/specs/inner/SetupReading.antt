-- How a statement that sets tables up is read.
use Rattle.std.specs.Prelude.{ℕ, ◌^◌, Bool, true, false, ◌||◌, List, codes, Option, None}
use Rattle.sa_lexer.specs.declared.sign.Sign.TheVariants as signs
use Rattle.sa_lexer.specs.declared.token.Token.{Token}
use Rattle.sa_value.specs.declared.value.Value.{Value}
use Rattle.sa_ast.specs.declared.create.KindTree.{KindTree}
use Rattle.sa_ast.specs.declared.create.KindTree.TheVariants as kinds
use Rattle.sa_ast.specs.declared.create.CreateTree.{CreateTree}
use Rattle.sa_ast.specs.declared.insert.TupleTree.{TupleTree}
use Rattle.sa_ast.specs.declared.insert.InsertTree.{InsertTree}
use Rattle.sa_ast.specs.declared.statement.Statement.{Statement}
use Rattle.sa_ast.specs.declared.statement.Statement.TheVariants as said
use Rattle.sa_parser.specs.declared.part.ColumnOption.{ColumnOption}
use Rattle.sa_parser.specs.declared.part.ColumnOption.TheVariants as options
use Rattle.sa_parser.specs.declared.part.Part.{Part}
use Rattle.sa_parser.specs.declared.part.Part.TheVariants as parts
use Rattle.sa_parser.specs.declared.part.Parts.{Parts}
use Rattle.sa_parser.specs.SetupTree.{plain_column, key, with_option, no_parts, with_part, create_tree, varchar, literal_in, minus_value, plus_value, tuple_tree, insert_tree}
use Rattle.sa_parser.specs.inner.Reading.{Reader, one, either, perhaps, chain, placed, ◌<$>◌, ◌<*>◌, word, sign, name, number, number_below, sees_word, sees_sign, sees_name, brackets, commas}

unfoldable pub digits : Reader (Option ℕ)
digits = perhaps (sees_sign signs.LeftParen) (brackets number)

-- whether INT or INTEGER comes next
abbrev pub sees_int : List Token → Bool
sees_int tokens = sees_word (codes "INT") tokens || sees_word (codes "INTEGER") tokens

unfoldable pub kind : Reader KindTree
kind =
    either sees_int
    ((λ _ _. kinds.Int) <$> either (sees_word (codes "INT")) (word (codes "INT"))
    (word (codes "INTEGER")) <*> digits)
    (either (sees_word (codes "BIGINT")) ((λ _ _. kinds.BigInt) <$> word (codes "BIGINT") <*> digits)
    (varchar <$> word (codes "VARCHAR") <*> brackets (number_below (2 ^ 14))))

-- whether an option of a column comes next
abbrev pub sees_option : List Token → Bool
sees_option tokens =
    sees_word (codes "NOT") tokens
    || (sees_word (codes "NULL") tokens || (sees_word (codes "DEFAULT") tokens
    || (sees_word (codes "PRIMARY") tokens || sees_word (codes "UNIQUE") tokens)))

unfoldable pub option : Reader ColumnOption
option =
    either (sees_word (codes "NOT"))
    ((λ _ _. options.NotNull) <$> word (codes "NOT") <*> word (codes "NULL"))
    (either (sees_word (codes "NULL")) ((λ _. options.Null) <$> word (codes "NULL"))
    (either (sees_word (codes "DEFAULT"))
    ((λ _ _. options.Null) <$> word (codes "DEFAULT") <*> word (codes "NULL"))
    (either (sees_word (codes "PRIMARY"))
    ((λ _ _. options.PrimaryKey) <$> word (codes "PRIMARY") <*> word (codes "KEY"))
    ((λ _ _. options.Unique) <$> word (codes "UNIQUE") <*> perhaps (sees_word (codes "KEY"))
    (word (codes "KEY"))))))

unfoldable pub column : Reader Part
column = chain (plain_column <$> name <*> kind) sees_option with_option option

abbrev pub name_text : Reader (List ℕ)
name_text = (λ name. name.name) <$> name

unfoldable pub columns : Reader (List (List ℕ))
columns = brackets (commas name_text)

-- whether KEY or INDEX comes next
abbrev pub sees_key_word : List Token → Bool
sees_key_word tokens = sees_word (codes "KEY") tokens || sees_word (codes "INDEX") tokens

unfoldable pub key_word : Reader ℕ
key_word = either (sees_word (codes "KEY")) (word (codes "KEY")) (word (codes "INDEX"))

unfoldable pub key_part : Reader Part
key_part =
    either (sees_word (codes "PRIMARY"))
    ((λ _ _ columns. parts.Key (key None true true columns)) <$> word (codes "PRIMARY") <*> word
    (codes "KEY") <*> columns)
    (either (sees_word (codes "UNIQUE"))
    ((λ _ _ name columns. parts.Key (key name true false columns)) <$> word
    (codes "UNIQUE") <*> perhaps sees_key_word key_word <*> perhaps sees_name name_text <*>
    columns)
    ((λ _ name columns. parts.Key (key name false false columns)) <$> key_word <*> perhaps sees_name
    name_text <*> columns))

unfoldable pub part : Reader Part
part = either sees_name column key_part

unfoldable pub definition : Reader Parts
definition = chain (with_part no_parts <$> part)
    (sees_sign signs.Comma) with_part ((λ _ next. next) <$> sign signs.Comma <*> part)

unfoldable pub engine : Reader ℕ
engine = (λ engine _ _. engine) <$> word (codes "ENGINE") <*> perhaps (sees_sign signs.Equal)
    (sign signs.Equal) <*> name

unfoldable pub create : Reader CreateTree
create =
    chain (create_tree <$> word (codes "CREATE") <*> word
    (codes "TABLE") <*> name <*> brackets definition) (sees_word (codes "ENGINE"))
    (λ tree _. tree) engine

unfoldable pub literal : Reader Value
literal =
    either (sees_sign signs.Minus) (minus_value <$> sign signs.Minus <*> number_below (2 ^ 127))
    (either (sees_sign signs.Plus) (plus_value <$> sign signs.Plus <*> number_below (2 ^ 127))
    (one literal_in))

unfoldable pub tuple : Reader TupleTree
tuple = placed tuple_tree (brackets (commas literal))

unfoldable pub insert : Reader InsertTree
insert =
    insert_tree <$> word (codes "INSERT") <*> word (codes "INTO") <*> name <*> perhaps
    (sees_sign signs.LeftParen) (brackets (commas name))
    <*> word (codes "VALUES") <*> commas tuple

unfoldable pub setup_read : Reader Statement
setup_read = either (sees_word (codes "CREATE")) (said.Create <$> create) (said.Insert <$> insert)
