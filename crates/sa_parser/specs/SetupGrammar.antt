-- The grammar of the statements that set tables up.
-- Source: MariaDB Knowledge Base, "CREATE TABLE" and "INSERT".
use Rattle.std.specs.Prelude.{ℕ, ◌^◌, true, false, List, codes, Option, None}
use Rattle.sa_lexer.specs.declared.sign.Sign.TheVariants as signs
use Rattle.sa_value.specs.declared.value.Value.{Value}
use Rattle.sa_ast.specs.declared.create.KindTree.{KindTree}
use Rattle.sa_ast.specs.declared.create.KindTree.TheVariants as kind
use Rattle.sa_ast.specs.declared.create.CreateTree.{CreateTree}
use Rattle.sa_ast.specs.declared.insert.TupleTree.{TupleTree}
use Rattle.sa_ast.specs.declared.insert.InsertTree.{InsertTree}
use Rattle.sa_ast.specs.declared.statement.Statement.{Statement}
use Rattle.sa_ast.specs.declared.statement.Statement.TheVariants as said
use Rattle.sa_parser.specs.declared.part.ColumnOption.{ColumnOption}
use Rattle.sa_parser.specs.declared.part.ColumnOption.TheVariants as option
use Rattle.sa_parser.specs.declared.part.Part.{Part}
use Rattle.sa_parser.specs.declared.part.Part.TheVariants as part
use Rattle.sa_parser.specs.declared.part.Parts.{Parts}
use Rattle.sa_parser.specs.SetupTree.{plain_column, key, with_option, no_parts, with_part, create_tree, varchar, literal_in, minus_value, plus_value, tuple_tree, insert_tree}
use Rattle.sa_parser.specs.Form.{Form, One, Perhaps, Chain, Placed, ◌<$>◌, ◌<*>◌, ◌<|>◌, Word, Sign, Name, Number, NumberBelow, Brackets, Commas}

-- The digits that a kind shows say nothing of what it holds.
unfoldable pub Digits : Form (Option ℕ)
Digits = Perhaps (Brackets Number)

-- a whole number of 32 or 64 bits, or a text of up to 16383 characters
unfoldable pub Kind : Form KindTree
Kind =
    (λ _ _. kind.Int) <$> (Word (codes "INT") <|> Word (codes "INTEGER")) <*> Digits
    <|> ((λ _ _. kind.BigInt) <$> Word (codes "BIGINT") <*> Digits
    <|> varchar <$> Word (codes "VARCHAR") <*> Brackets (NumberBelow (2 ^ 14)))

unfoldable pub Attribute : Form ColumnOption
Attribute =
    (λ _ _. option.NotNull) <$> Word (codes "NOT") <*> Word (codes "NULL")
    <|> ((λ _. option.Null) <$> Word (codes "NULL")
    <|> ((λ _ _. option.Null) <$> Word (codes "DEFAULT") <*> Word (codes "NULL")
    <|> ((λ _ _. option.PrimaryKey) <$> Word (codes "PRIMARY") <*> Word (codes "KEY")
    <|> (λ _ _. option.Unique) <$> Word (codes "UNIQUE") <*> Perhaps (Word (codes "KEY")))))

-- a column with its options
unfoldable pub Column : Form Part
Column = Chain (plain_column <$> Name <*> Kind) with_option Attribute

-- a name, as a text
abbrev pub NameText : Form (List ℕ)
NameText = (λ name. name.name) <$> Name

abbrev pub Columns : Form (List (List ℕ))
Columns = Brackets (Commas NameText)

-- KEY and INDEX are the same.
abbrev pub KeyWord : Form ℕ
KeyWord = Word (codes "KEY") <|> Word (codes "INDEX")

unfoldable pub Key : Form Part
Key =
    (λ _ _ columns. part.Key (key None true true columns)) <$> Word (codes "PRIMARY") <*> Word
    (codes "KEY") <*> Columns
    <|> ((λ _ _ name columns. part.Key (key name true false columns)) <$> Word
    (codes "UNIQUE") <*> Perhaps KeyWord <*> Perhaps NameText <*> Columns
    <|> (λ _ name columns. part.Key (key name false false columns)) <$> KeyWord <*> Perhaps
    NameText <*> Columns)

unfoldable pub Definition : Form Parts
Definition = Chain (with_part no_parts <$> (Column <|> Key)) with_part
    ((λ _ next. next) <$> Sign signs.Comma <*> (Column <|> Key))

-- An engine is named, and says nothing more.
unfoldable pub Create : Form CreateTree
Create =
    Chain (create_tree <$> Word (codes "CREATE") <*> Word
    (codes "TABLE") <*> Name <*> Brackets Definition) (λ tree _. tree)
    ((λ engine _ _. engine) <$> Word (codes "ENGINE") <*> Perhaps (Sign signs.Equal) <*> Name)

-- a number with or without a sign, a text, or NULL
unfoldable pub Literal : Form Value
Literal =
    minus_value <$> Sign signs.Minus <*> NumberBelow (2 ^ 127)
    <|> (plus_value <$> Sign signs.Plus <*> NumberBelow (2 ^ 127) <|> One literal_in)

unfoldable pub Tuple : Form TupleTree
Tuple = Placed tuple_tree (Brackets (Commas Literal))

unfoldable pub Insert : Form InsertTree
Insert =
    insert_tree <$> Word (codes "INSERT") <*> Word (codes "INTO") <*> Name <*> Perhaps
    (Brackets (Commas Name)) <*> Word (codes "VALUES") <*> Commas Tuple

-- a statement that sets tables up
unfoldable pub setup : Form Statement
setup = said.Create <$> Create <|> said.Insert <$> Insert
