-- What the parts of an expression make when they are put together.
use Rattle.std.specs.Prelude.{ℕ, pos, negsuc, ◌-ℤ◌, Bool, true, false, List, [], ◌∷◌, ◌++◌, ◌^◌, ◌-◌, codes, is_some, if◌then◌else◌, Option, Some, None, option_map, nat_lt}
use Rattle.std.specs.Ordering.{int_eq}
use Rattle.sa_lexer.specs.declared.sign.Sign.TheVariants as signs
use Rattle.sa_lexer.specs.declared.token.Token.{Token}
use Rattle.sa_lexer.specs.declared.token.TokenKind.{TokenKind}
use Rattle.sa_lexer.specs.declared.token.TokenKind.TheVariants as kinds
use Rattle.sa_value.specs.declared.truth.CompareOp.{CompareOp}
use Rattle.sa_value.specs.declared.truth.CompareOp.TheVariants as ops
use Rattle.sa_ast.specs.declared.name.NameTree.{NameTree}
use Rattle.sa_ast.specs.declared.expression.AggregateCall.{AggregateCall}
use Rattle.sa_ast.specs.declared.expression.AggregateCall.TheVariants.{CountRows, Count, Sum, Min, Max}
use Rattle.sa_ast.specs.declared.expression.ExprNode.{ExprNode, ExprNode-F, out-ExprNode}
use Rattle.sa_ast.specs.declared.expression.ExprNode.TheVariants as node
use Rattle.sa_ast.specs.declared.expression.ExprTree.{ExprTree, roll-ExprTree, out-ExprTree}
use Rattle.sa_parser.specs.declared.members.Members.{Members}
use Rattle.sa_parser.specs.declared.members.Members.TheVariants.{Alone, Joined}
use Rattle.sa_parser.specs.declared.tail.Tail.{Tail}
use Rattle.sa_parser.specs.declared.tail.Tail.TheVariants.{Compare, IsNull, Between, Among}
use Rattle.sa_parser.specs.declared.tail.PlacedTail.{PlacedTail}
use Rattle.sa_parser.specs.Token.{is_word, is_sign}

-- a node at its place
abbrev pub tree : ℕ → ExprNode → ExprTree
tree place node = roll-ExprTree (record { node = node; place = place })

-- The expressions of one token: a number of up to 127 bits, a text, NULL, TRUE and FALSE.
unfoldable pub atom_of : TokenKind → Option ExprNode
atom_of (kinds.Number number) =
    if nat_lt number (2 ^ 127) then Some (node.Number (pos number)) else None
atom_of (kinds.Text text) = Some (node.Text text)
atom_of (kinds.Word word) =
    if is_word (codes "NULL") (kinds.Word word) then Some node.Null
    else (if is_word (codes "TRUE") (kinds.Word word) then Some (node.Known true)
    else (if is_word (codes "FALSE") (kinds.Word word) then Some (node.Known false) else None))
atom_of kind = None

abbrev pub atom_in : Token → Option ExprTree
atom_in token = option_map (tree token.start) (atom_of token.kind)

-- A column stands at its first token.
abbrev pub column_tree : NameTree → Option NameTree → ExprTree
column_tree first None = tree first.place (node.Name None first.name)
column_tree first (Some second) = tree first.place (node.Name (Some first.name) second.name)

-- the aggregates that have an argument in any case
unfoldable pub aggregate_of : TokenKind → Option AggregateCall
aggregate_of kind =
    if is_word (codes "SUM") kind then Some Sum
    else (if is_word (codes "MIN") kind then Some Min
    else (if is_word (codes "MAX") kind then Some Max else None))

abbrev pub aggregate_in : Token → Option (ℕ × AggregateCall)
aggregate_in token = option_map (λ call. (token.start, call)) (aggregate_of token.kind)

-- An aggregate stands at its name.
abbrev pub aggregate_tree : ℕ × AggregateCall → ExprTree → ExprTree
aggregate_tree called argument = tree called.0 (node.Aggregate called.1 (Some argument))

-- COUNT of all rows, or of an argument
abbrev pub count_tree : ℕ → Option ExprTree → ExprTree
count_tree place None = tree place (node.Aggregate CountRows None)
count_tree place (Some argument) = aggregate_tree (place, Count) argument

-- A minus gives a number its other sign; the least number of 128 bits has none.
abbrev pub minus_node : ExprTree → ExprNode-F ExprNode ExprTree → ExprNode
minus_node inner (ExprNode-F.Number number) = if int_eq number (negsuc (2 ^ 127 - 1))
    then node.Negate inner else node.Number (pos 0 -ℤ number)
minus_node inner other = node.Negate inner

-- It stands at the minus.
unfoldable pub minus_tree : ℕ → ExprTree → ExprTree
minus_tree place inner = tree place (minus_node inner (out-ExprNode (out-ExprTree inner).node))

-- A plus vanishes.
abbrev pub plus_tree : ℕ → ExprTree → ExprTree
plus_tree place inner = inner

abbrev pub times_tree : ExprTree → ℕ × ExprTree → ExprTree
times_tree left next = tree next.0 (node.Multiply left next.1)

-- the signs of a sum: whether the next term is taken away, and the sign's place
unfoldable pub additive_in : Token → Option (Bool × ℕ)
additive_in token =
    if is_sign signs.Plus token.kind then Some (false, token.start)
    else (if is_sign signs.Minus token.kind then Some (true, token.start) else None)

abbrev pub sum_tree : ExprTree → (Bool × ℕ) × ExprTree → ExprTree
sum_tree left next =
    tree next.0.1 (if next.0.0 then node.Subtract left next.1 else node.Add left next.1)

-- `!=` is `<>`.
abbrev pub comparison_of : TokenKind → Option CompareOp
comparison_of (kinds.Sign signs.Equal) = Some ops.Eq
comparison_of (kinds.Sign signs.NullSafeEqual) = Some ops.NullEq
comparison_of (kinds.Sign signs.NotEqual) = Some ops.Ne
comparison_of (kinds.Sign signs.BangEqual) = Some ops.Ne
comparison_of (kinds.Sign signs.Less) = Some ops.Lt
comparison_of (kinds.Sign signs.LessEqual) = Some ops.Le
comparison_of (kinds.Sign signs.Greater) = Some ops.Gt
comparison_of (kinds.Sign signs.GreaterEqual) = Some ops.Ge
comparison_of kind = None

abbrev pub comparison_in : Token → Option (CompareOp × ℕ)
comparison_in token = option_map (λ op. (op, token.start)) (comparison_of token.kind)

abbrev pub compare_tail : CompareOp × ℕ → ExprTree → PlacedTail
compare_tail op right = record { place = op.1; tail = Compare op.0 right }

abbrev pub null_tail : ℕ → Option ℕ → ℕ → PlacedTail
null_tail is negated null = record { place = is; tail = IsNull (is_some negated) }

abbrev pub between_tail : ℕ → ExprTree → ℕ → ExprTree → PlacedTail
between_tail between low and high = record { place = between; tail = Between low high false }

abbrev pub among_tail : ℕ → List ExprTree → PlacedTail
among_tail among list = record { place = among; tail = Among list false }

abbrev pub negated_tail : Tail → Tail
negated_tail (Between low high negated) = Between low high true
negated_tail (Among list negated) = Among list true
negated_tail tail = tail

-- a tail behind a NOT at this place, if there is one
abbrev pub with_not : Option ℕ → PlacedTail → PlacedTail
with_not None tail = tail
with_not (Some place) tail = record { place = place; tail = negated_tail tail.tail }

-- A predicate stands at the first word or sign behind its first operand.
abbrev pub tail_node : ExprTree → Tail → ExprNode
tail_node value (Compare op right) = node.Compare op value right
tail_node value (IsNull negated) = node.IsNull value negated
tail_node value (Between low high negated) = node.Between value low high negated
tail_node value (Among list negated) = node.Among value list negated

abbrev pub predicate_tree : ExprTree → Option PlacedTail → ExprTree
predicate_tree value None = value
predicate_tree value (Some tail) = tree tail.place (tail_node value tail.tail)

abbrev pub not_tree : ℕ → ExprTree → ExprTree
not_tree place inner = tree place (node.Not inner)

-- one more member, behind an AND or OR at this place
abbrev pub with_member : Members → ℕ × ExprTree → Members
with_member (Alone first) next = Joined next.0 (first ∷ next.1 ∷ [])
with_member (Joined place members) next = Joined place (members ++ next.1 ∷ [])

-- AND stands at the first of its signs.
abbrev pub and_tree : Members → ExprTree
and_tree (Alone only) = only
and_tree (Joined place members) = tree place (node.And members)

abbrev pub or_tree : Members → ExprTree
or_tree (Alone only) = only
or_tree (Joined place members) = tree place (node.Or members)
