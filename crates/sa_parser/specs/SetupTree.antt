-- What the parts of a statement that sets tables up make when they are put together.
use Rattle.std.specs.Prelude.{ℕ, ℤ, pos, negsuc, ◌-ℤ◌, ◌-◌, ◌^◌, Bool, true, false, ◌&&◌, List, [], ◌∷◌, ◌++◌, codes, if◌then◌else◌, nat_lt, int_le, Option, Some, None}
use Rattle.sa_lexer.specs.declared.token.Token.{Token}
use Rattle.sa_lexer.specs.declared.token.TokenKind.{TokenKind}
use Rattle.sa_lexer.specs.declared.token.TokenKind.TheVariants as kinds
use Rattle.sa_value.specs.declared.value.Value.{Value}
use Rattle.sa_value.specs.declared.value.Value.TheVariants as value
use Rattle.sa_ast.specs.declared.name.NameTree.{NameTree}
use Rattle.sa_ast.specs.declared.create.KindTree.{KindTree}
use Rattle.sa_ast.specs.declared.create.KindTree.TheVariants.{VarChar}
use Rattle.sa_ast.specs.declared.create.ColumnTree.{ColumnTree}
use Rattle.sa_ast.specs.declared.create.KeyTree.{KeyTree}
use Rattle.sa_ast.specs.declared.create.CreateTree.{CreateTree}
use Rattle.sa_ast.specs.declared.insert.TupleTree.{TupleTree}
use Rattle.sa_ast.specs.declared.insert.InsertTree.{InsertTree}
use Rattle.sa_parser.specs.declared.part.ColumnOption.{ColumnOption}
use Rattle.sa_parser.specs.declared.part.ColumnOption.TheVariants.{NotNull, Null, PrimaryKey, Unique}
use Rattle.sa_parser.specs.declared.part.Part.{Part}
use Rattle.sa_parser.specs.declared.part.Part.TheVariants.{Column, Key}
use Rattle.sa_parser.specs.declared.part.Parts.{Parts}
use Rattle.sa_parser.specs.Token.{is_word}

-- A column without options may hold NULL and has no key.
abbrev pub plain_column : NameTree → KindTree → Part
plain_column name kind = Column (record { name = name.name; kind = kind; not_null = false }) []

-- A key has no name where none is written. A primary key is unique.
abbrev pub key : Option (List ℕ) → Bool → Bool → List (List ℕ) → KeyTree
key name unique primary columns =
    record { name = name; unique = unique; primary = primary; columns = columns }

-- a key of one column
abbrev pub own_key : ColumnTree → Bool → KeyTree
own_key column primary = key None true primary (column.name ∷ [])

-- an option of a column
abbrev pub with_option : Part → ColumnOption → Part
with_option (Column column keys) NotNull = Column (record column { not_null = true }) keys
with_option (Column column keys) Null = Column column keys
with_option (Column column keys) PrimaryKey = Column column (keys ++ own_key column true ∷ [])
with_option (Column column keys) Unique = Column column (keys ++ own_key column false ∷ [])
with_option (Key found) option = Key found

abbrev pub no_parts : Parts
no_parts = record { columns = []; keys = [] }

-- Keys are in the order of the text, a column's own at its column.
abbrev pub with_part : Parts → Part → Parts
with_part parts (Column column keys) =
    record { columns = parts.columns ++ column ∷ []; keys = parts.keys ++ keys }
with_part parts (Key found) = record parts { keys = parts.keys ++ found ∷ [] }

abbrev pub create_tree : ℕ → ℕ → NameTree → Parts → CreateTree
create_tree create table name parts = record { name = name; columns = parts.columns; keys = parts.keys }

-- VARCHAR of at most so many characters
abbrev pub varchar : ℕ → ℕ → KindTree
varchar word size = VarChar size

-- A number is an Int where 64 bits hold it, and else a Big.
unfoldable pub number_value : ℤ → Value
number_value number =
    if int_le (negsuc (2 ^ 63 - 1)) number && int_le number (pos (2 ^ 63 - 1)) then value.Int number
    else value.Big number

-- the values of one token: a number of up to 127 bits, a text, or NULL
unfoldable pub literal_of : TokenKind → Option Value
literal_of (kinds.Number number) =
    if nat_lt number (2 ^ 127) then Some (number_value (pos number)) else None
literal_of (kinds.Text text) = Some (value.Text text)
literal_of (kinds.Word word) =
    if is_word (codes "NULL") (kinds.Word word) then Some value.Null else None
literal_of kind = None

abbrev pub literal_in : Token → Option Value
literal_in token = literal_of token.kind

abbrev pub minus_value : ℕ → ℕ → Value
minus_value minus number = number_value (pos 0 -ℤ pos number)

abbrev pub plus_value : ℕ → ℕ → Value
plus_value plus number = number_value (pos number)

-- A tuple stands at its bracket.
abbrev pub tuple_tree : ℕ → List Value → TupleTree
tuple_tree place values = record { values = values; place = place }

abbrev pub insert_tree : ℕ → ℕ → NameTree → Option (List NameTree) → ℕ → List TupleTree → InsertTree
insert_tree insert into table columns values tuples =
    record { table = table; columns = columns; tuples = tuples }
