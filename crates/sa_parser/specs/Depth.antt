-- How deep the tokens of a statement go. Each open bracket, NOT, sign of arithmetic, sign of a
-- number and comparison adds one. A closed bracket takes away what came since its opening one, and
-- one for that. A comma, AND, `&&`, OR and the first word of a clause take away what came since the
-- innermost open bracket, or since the beginning.
use Rattle.std.specs.Prelude.{◌≡◌, ℕ, ◌+◌, ◌≤◌, Bool, true, false, not, ◌||◌, ◌&&◌, ◌==◌, List, [], ◌∷◌, ◌++◌, length, codes, if◌then◌else◌, is_some, fold}
use Rattle.std.specs.List.{list_any}
use Rattle.sa_lexer.specs.declared.sign.Sign.TheVariants as signs
use Rattle.sa_lexer.specs.declared.token.Token.{Token}
use Rattle.sa_lexer.specs.declared.token.TokenKind.{TokenKind}
use Rattle.sa_lexer.specs.declared.token.TokenKind.TheVariants as kinds
use Rattle.sa_parser.specs.Token.{is_word, is_sign, name_of}
use Rattle.sa_parser.specs.Tree.{atom_of, comparison_of}

-- What the tokens so far have come to: the depth; for each open bracket, the innermost first, the
-- depth in front of it; whether the last token ends an operand; and whether SELECT was among them.
pub record Depth : Type 0 where
  pub depth : ℕ
  pub opened : List ℕ
  pub operand : Bool
  pub selected : Bool

abbrev pub at_first : Depth
at_first = record { depth = 0; opened = []; operand = false; selected = false }

-- the depth that the innermost open bracket has made, or none
abbrev pub depth_within : List ℕ → ℕ
depth_within [] = 0
depth_within (before ∷ opened) = before + 1

-- these words begin afresh
abbrev pub starts_clause : TokenKind → Bool
starts_clause kind =
    list_any (λ word. is_word word kind)
    (codes "AND" ∷ codes "OR" ∷ codes "FROM" ∷ codes "ON" ∷ codes "WHERE" ∷ codes "GROUP"
    ∷ codes "HAVING" ∷ codes "ORDER" ∷ codes "LIMIT" ∷ [])

-- as do a comma and `&&`
abbrev pub begins_afresh : TokenKind → Bool
begins_afresh kind = is_sign signs.Comma kind || (is_sign signs.AndAnd kind || starts_clause kind)

-- A star multiplies behind an operand; elsewhere it stands for columns or rows, and counts nothing.
abbrev pub multiplies : Bool → TokenKind → Bool
multiplies operand kind = operand && is_sign signs.Star kind

-- Whether an `=` compares: where SELECT was seen or a bracket is open. Elsewhere it is the one of
-- FORMAT, SET or ENGINE.
abbrev pub has_comparisons : Depth → Bool
has_comparisons so_far = so_far.selected || not (length so_far.opened == 0)

abbrev pub compares : Bool → TokenKind → Bool
compares equal kind = is_some (comparison_of kind) && (equal || is_sign_but_equal kind)
  where
    is_sign_but_equal : TokenKind → Bool
    is_sign_but_equal (kinds.Sign signs.Equal) = false
    is_sign_but_equal kind = true

-- what goes one level deeper
abbrev pub deepens : Depth → TokenKind → Bool
deepens so_far kind =
    is_word (codes "NOT") kind || (is_sign signs.Plus kind || (is_sign signs.Minus kind
    || (multiplies so_far.operand kind || compares (has_comparisons so_far) kind)))

-- what an operand can end with
abbrev pub ends_operand : TokenKind → Bool
ends_operand kind = is_some (name_of kind) || (is_some (atom_of kind) || is_sign signs.RightParen kind)

-- a bracket closes: what was counted within it is taken away, and one for it
abbrev pub closed : List ℕ → Depth → Depth
closed [] so_far = record so_far { depth = 0 }
closed (before ∷ opened) so_far = record so_far { depth = before; opened = opened }

-- the depth with one more token
abbrev pub counted : Depth → TokenKind → Depth
counted so_far kind =
    if is_sign signs.LeftParen kind
    then record so_far { depth = so_far.depth + 1; opened = so_far.depth ∷ so_far.opened }
    else (if is_sign signs.RightParen kind then closed so_far.opened so_far
    else (if begins_afresh kind then record so_far { depth = depth_within so_far.opened }
    else (if deepens so_far kind then record so_far { depth = so_far.depth + 1 } else so_far)))

unfoldable pub with_token : Depth → Token → Depth
with_token so_far token =
    record (counted so_far token.kind) {
      operand = ends_operand token.kind;
      selected = so_far.selected || is_word (codes "SELECT") token.kind;
    }

-- the depth behind the tokens
unfoldable pub depth_of : List Token → ℕ
depth_of tokens = (fold with_token at_first tokens).depth

-- the most levels of a statement
abbrev pub most_levels : ℕ
most_levels = 64

-- Nowhere in the tokens is it deeper than that.
abbrev pub StaysFlat : List Token → Type 0
StaysFlat tokens =
    (before behind : List Token) → tokens ≡ before ++ behind → depth_of before ≤ most_levels
