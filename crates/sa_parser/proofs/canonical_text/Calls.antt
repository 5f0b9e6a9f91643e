-- Aggregates are read back.
use Rattle.std.proofs.Common.{◌≡◌, ◌≢◌, ℕ, zero, suc, ◌+◌, ◌≤◌, true, List, [], ◌∷◌, ◌++◌, length, codes, Option, Some, None, refl, ap, ◌∙◌, arith}
use Rattle.std.specs.Prelude.{slice_index}
use Rattle.sa_lexer.specs.declared.sign.Sign.TheVariants as signs
use Rattle.sa_lexer.specs.declared.token.Token.{Token}
use Rattle.sa_lexer.specs.declared.token.TokenKind.TheVariants as kinds
use Rattle.sa_ast.specs.declared.expression.AggregateCall.{AggregateCall}
use Rattle.sa_ast.specs.declared.expression.AggregateCall.TheVariants.{CountRows, Count, Sum, Min, Max}
use Rattle.sa_ast.specs.declared.expression.ExprNode.{ExprNode-F}
use Rattle.sa_ast.specs.declared.expression.ExprNode.TheVariants as node
use Rattle.sa_ast.specs.declared.expression.ExprTree.{ExprTree}
use Rattle.sa_ast.specs.Place.{unplaced_expr}
use Rattle.sa_print.specs.Expression.{canonical_expr, call_name}
use Rattle.sa_print.specs.Lists.{bracketed}
use Rattle.sa_parser.specs.declared.rule.Rule.{Rule}
use Rattle.sa_parser.specs.declared.rule.Rule.TheVariants as rule
use Rattle.sa_print.specs.Name.{is_word}
use Rattle.sa_parser.specs.Token.{is_word as is_word_token}
use Rattle.sa_parser.specs.Tree.{tree, aggregate_of, aggregate_in, aggregate_tree, count_tree}
use Rattle.sa_parser.specs.Form.{Form, Made, Either, Sign}
use Rattle.sa_parser.specs.ExprGrammar.{Call, Primary, Factor, nested}
use Rattle.sa_parser.proofs.canonical_text.Build.{one, made, then, first, second}
use Rattle.sa_parser.proofs.canonical_text.Fine.{Reads, Fine}
use Rattle.sa_parser.proofs.canonical_text.Leaves.{fine}
use Rattle.sa_parser.proofs.canonical_text.Lexed.{Quiet, quiet_at, token_at, joined-Lexed, narrowed-Lexed}
use Rattle.sa_parser.proofs.canonical_text.Lift.{primary-Factor, factor-Sum, brackets}
use Rattle.sa_parser.proofs.canonical_text.Nodes.{text-Aggregate, bare-Aggregate}
use Rattle.sa_parser.proofs.canonical_text.Pieces.{word-Lexed, brackets-Lexed, star-Lexed}
use Rattle.sa_parser.proofs.canonical_text.Tokens.{word_is, sign_is}

module _ (inner : Rule → Form ExprTree) (tokens : List Token) (tree : ExprTree) where
  call-Factor : Call inner tokens tree → Factor inner tokens tree
  unfolding Primary
  call-Factor is = primary-Factor inner tokens tree (second _ _ (first _ _ is))

-- all rows, or an argument
abbrev Counted : (Rule → Form ExprTree) → Form (Option ExprTree)
Counted inner = Either (Made (λ _. None) (Sign signs.Star)) (Made Some (inner rule.Sum))

rows_reads : (inner : Rule → Form ExprTree) (place : ℕ)
    → Reads (Factor inner) unplaced_expr Quiet place (codes "COUNT" ++ bracketed (codes "*")) (tree 0 (node.Aggregate CountRows None))
unfolding Call
rows_reads inner place =
    let at = place + 5 in
    let star = first (Made (λ _. None) (Sign signs.Star)) (Made Some (inner rule.Sum)) (made (Sign signs.Star) (λ _. None) (sign_is signs.Star (at + 1) 1)) in
    let is = first _ _ (then _ _ (made _ count_tree (word_is (codes "COUNT") place 5)) (brackets (Counted inner) at (at + 2) star)) in
    record {
      tokens = _;
      again = tree place (node.Aggregate CountRows None);
      lexed =
          joined-Lexed (word-Lexed place (codes "COUNT") refl)
          (brackets-Lexed (narrowed-Lexed (λ after quiet. tt) (star-Lexed (at + 1)))) (λ after quiet. quiet_at 40 _ refl);
      is = call-Factor inner _ _ is;
      same = bare-Aggregate place CountRows None;
    }

pub fine-Rows : (place : ℕ) → Fine (tree place (node.Aggregate CountRows None))
fine-Rows place =
    fine place (node.Aggregate CountRows None) (record {
      layer = ExprNode-F.Aggregate CountRows None;
      opens = node.outs-Aggregate CountRows None;
      text = codes "COUNT" ++ bracketed (codes "*");
      written = λ there. text-Aggregate there CountRows None;
      value = tree 0 (node.Aggregate CountRows None);
      bare = λ there. bare-Aggregate there CountRows None;
      short = tt;
      begins = λ other after same. omega (arith, same);
      levels = 0;
      reads = λ more there enough. rows_reads (nested more) there;
    })

-- an aggregate that has an argument
abbrev pub HasArgument : AggregateCall → Type 0
HasArgument CountRows = ⊥
HasArgument call = Unit {0}

call_is : (inner : Rule → Form ExprTree) (place end : ℕ) (call : AggregateCall) (tokens : List Token) (argument : ExprTree) → HasArgument call → inner rule.Sum tokens argument
    → Call inner (token_at (kinds.Word (call_name call)) place (length (call_name call)) ∷ []
    ++ (token_at (kinds.Sign signs.LeftParen) (place + length (call_name call)) 1 ∷ [] ++ tokens ++ token_at (kinds.Sign signs.RightParen) end 1 ∷ []))
    (tree place (node.Aggregate call (Some argument)))
unfolding Call aggregate_of is_word_token
call_is inner place end CountRows tokens argument has is = absurd has
call_is inner place end Count tokens argument has is =
    let counted = second (Made Some (inner rule.Sum)) (Made (λ _. None) (Sign signs.Star)) (made (inner rule.Sum) Some is) in
    first _ _ (then _ _ (made _ count_tree (word_is (codes "COUNT") place 5)) (brackets (Counted inner) (place + 5) end counted))
call_is inner place end Sum tokens argument has is =
    let name = token_at (kinds.Word (codes "SUM")) place 3 in
    second _ _ (then _ _ (made _ aggregate_tree (one aggregate_in name (place, Sum) refl)) (brackets (inner rule.Sum) (place + 3) end is))
call_is inner place end Min tokens argument has is =
    let name = token_at (kinds.Word (codes "MIN")) place 3 in
    second _ _ (then _ _ (made _ aggregate_tree (one aggregate_in name (place, Min) refl)) (brackets (inner rule.Sum) (place + 3) end is))
call_is inner place end Max tokens argument has is =
    let name = token_at (kinds.Word (codes "MAX")) place 3 in
    second _ _ (then _ _ (made _ aggregate_tree (one aggregate_in name (place, Max) refl)) (brackets (inner rule.Sum) (place + 3) end is))

name_is_word : (call : AggregateCall) → is_word (call_name call) ≡ true
name_is_word CountRows = refl
name_is_word Count = refl
name_is_word Sum = refl
name_is_word Min = refl
name_is_word Max = refl

no_minus : (call : AggregateCall) (rest after : List ℕ) → slice_index ((call_name call ++ rest) ++ after) 0 ≢ 45
no_minus CountRows rest after same = omega (arith, same)
no_minus Count rest after same = omega (arith, same)
no_minus Sum rest after same = omega (arith, same)
no_minus Min rest after same = omega (arith, same)
no_minus Max rest after same = omega (arith, same)

call_reads : (levels place : ℕ) (call : AggregateCall) (text : List ℕ) (value : ExprTree) → HasArgument call
    → ((there : ℕ) → Reads (Factor (nested levels)) unplaced_expr Quiet there text value)
    → Reads (Factor (nested (suc levels))) unplaced_expr Quiet place (call_name call ++ bracketed text) (tree 0 (node.Aggregate call (Some value)))
unfolding nested
call_reads levels place call text value has reads =
    let at = place + length (call_name call) in
    let argument = reads (at + 1) in
    let sum : nested (suc levels) rule.Sum argument.tokens argument.again = factor-Sum (nested levels) argument.tokens argument.again argument.is in
    let is = call_is (nested (suc levels)) place (at + length (codes "(" ++ text)) call argument.tokens argument.again has sum in
    record {
      tokens = _;
      again = tree place (node.Aggregate call (Some argument.again));
      lexed = joined-Lexed (word-Lexed place (call_name call) (name_is_word call)) (brackets-Lexed argument.lexed) (λ after quiet. quiet_at 40 _ refl);
      is = call-Factor (nested (suc levels)) _ _ is;
      same = bare-Aggregate place call (Some argument.again) ∙ ap (λ some. tree 0 (node.Aggregate call (Some some))) argument.same;
    }

call_deep : (more place : ℕ) (call : AggregateCall) (text : List ℕ) (value : ExprTree) → HasArgument call → (levels : ℕ)
    → ((deep there : ℕ) → levels ≤ deep → Reads (Factor (nested deep)) unplaced_expr Quiet there text value) → suc levels ≤ more
    → Reads (Factor (nested more)) unplaced_expr Quiet place (call_name call ++ bracketed text) (tree 0 (node.Aggregate call (Some value)))
call_deep zero place call text value has levels reads enough = absurd (omega (arith, enough))
call_deep (suc more) place call text value has levels reads enough =
    call_reads more place call text value has (λ there. reads more there (omega (arith, enough)))

pub fine-Call : (place : ℕ) (call : AggregateCall) (argument : ExprTree) → HasArgument call → Fine argument → Fine (tree place (node.Aggregate call (Some argument)))
fine-Call place call argument has is =
    fine place (node.Aggregate call (Some argument)) (record {
      layer = ExprNode-F.Aggregate call (Some argument);
      opens = node.outs-Aggregate call (Some argument);
      text = call_name call ++ bracketed (canonical_expr argument);
      written = λ there. text-Aggregate there call (Some argument);
      value = tree 0 (node.Aggregate call (Some (unplaced_expr argument)));
      bare = λ there. bare-Aggregate there call (Some argument);
      short = tt;
      begins = λ other. no_minus call (bracketed (canonical_expr argument));
      levels = suc is.levels;
      reads = λ more there enough. call_deep more there call (canonical_expr argument) (unplaced_expr argument) has is.levels is.reads enough;
    })
