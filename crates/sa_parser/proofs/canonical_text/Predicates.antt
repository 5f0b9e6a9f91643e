-- Predicates with words are read back.
use Rattle.std.proofs.Common.{◌≡◌, ℕ, ◌+◌, ◌≤◌, Bool, true, false, List, [], ◌∷◌, ◌++◌, map, length, codes, is_some, Option, Some, None, refl, ap, ap₂, ◌∙◌, arith, append_assoc}
use Rattle.sa_lexer.specs.declared.sign.Sign.TheVariants as signs
use Rattle.sa_lexer.specs.declared.token.Token.{Token}
use Rattle.sa_lexer.specs.declared.token.TokenKind.TheVariants as kinds
use Rattle.sa_ast.specs.declared.expression.ExprNode.{ExprNode-F}
use Rattle.sa_ast.specs.declared.expression.ExprNode.TheVariants as node
use Rattle.sa_ast.specs.declared.expression.ExprTree.{ExprTree}
use Rattle.sa_ast.specs.Place.{unplaced_expr}
use Rattle.sa_print.specs.Expression.{canonical_expr, not_text}
use Rattle.sa_print.specs.Lists.{bracketed, listed}
use Rattle.sa_parser.specs.declared.rule.Rule.{Rule}
use Rattle.sa_parser.specs.declared.tail.PlacedTail.{PlacedTail}
use Rattle.sa_parser.specs.Tree.{tree, null_tail, between_tail, among_tail, with_not, predicate_tree}
use Rattle.sa_parser.specs.Form.{Form, Perhaps, Word, Commas}
use Rattle.sa_parser.specs.ExprGrammar.{Factor, Sum, NullTail, BetweenTail, AmongTail, PredicateTail, Predicate, Disjunction, nested}
use Rattle.sa_parser.proofs.canonical_text.Build.{made, then, first, second, nothing, some}
use Rattle.sa_parser.proofs.canonical_text.Fine.{Reads, Fine}
use Rattle.sa_parser.proofs.canonical_text.FineLists.{AllFine, levels_of, all_read}
use Rattle.sa_parser.proofs.canonical_text.Inside.{fine_inside}
use Rattle.sa_parser.proofs.canonical_text.Lexed.{Quiet, Free, quiet_at, Lexed, token_at, space-Lexed, joined-Lexed}
use Rattle.sa_parser.proofs.canonical_text.Lift.{factor-Sum, predicate-Disjunction, brackets}
use Rattle.sa_parser.proofs.canonical_text.Lists.{all_wider, commas_reads}
use Rattle.sa_parser.proofs.canonical_text.Nodes.{text-IsNull, text-Between, text-Among, bare-IsNull, bare-Between, bare-Among}
use Rattle.sa_parser.proofs.canonical_text.Pieces.{space_word-Lexed, word-Lexed, word_space-Lexed, spaced_word-Lexed, brackets-Lexed}
use Rattle.sa_parser.proofs.canonical_text.Tokens.{word_is}

-- a space, and NOT with another one if it is there
record NotPart (negated : Bool) (place : ℕ) : Type 0 where
  tokens : List Token
  found : Option ℕ
  says : is_some found ≡ negated
  lexed : Lexed Free place (32 ∷ not_text negated) tokens
  is : Perhaps (Word (codes "NOT")) tokens found

not_part : (negated : Bool) (place : ℕ) → NotPart negated place
not_part true place = record {
  tokens = token_at (kinds.Word (codes "NOT")) (place + 1) 3 ∷ [];
  found = Some (place + 1);
  says = refl;
  lexed = spaced_word-Lexed place (codes "NOT") refl;
  is = some (Word (codes "NOT")) (word_is (codes "NOT") (place + 1) 3);
}
not_part false place = record {
  tokens = [];
  found = None;
  says = refl;
  lexed = space-Lexed place;
  is = nothing (Word (codes "NOT"));
}

-- a predicate, out of its first sum and its tail
module _ (inner : Rule → Form ExprTree) (tokens more : List Token) (value : ExprTree) (tail : PlacedTail) where
  predicate_is : Factor inner tokens value → PredicateTail inner more tail → Disjunction inner (tokens ++ more) (predicate_tree value (Some tail))
  unfolding Predicate
  predicate_is is tail_is =
      predicate-Disjunction inner _ _ (then _ _ (made (Sum inner) predicate_tree (factor-Sum inner tokens value is)) (some (PredicateTail inner) tail_is))

null_is : (inner : Rule → Form ExprTree) (tokens : List Token) (found : Option ℕ) (place null : ℕ) → Perhaps (Word (codes "NOT")) tokens found
    → PredicateTail inner (token_at (kinds.Word (codes "IS")) place 2 ∷ [] ++ tokens ++ token_at (kinds.Word (codes "NULL")) null 4 ∷ []) (null_tail place found null)
unfolding PredicateTail NullTail
null_is inner tokens found place null is =
    second _ _ (first _ _ (then _ _ (then _ _ (made _ null_tail (word_is (codes "IS") place 2)) is) (word_is (codes "NULL") null 4)))

pub fine-IsNull : (place : ℕ) (x : ExprTree) (negated : Bool) → Fine x → Fine (tree place (node.IsNull x negated))
fine-IsNull place x negated value =
    fine_inside place (node.IsNull x negated) (record {
      layer = ExprNode-F.IsNull x negated;
      opens = node.outs-IsNull x negated;
      text = canonical_expr x ++ (codes " IS" ++ (32 ∷ not_text negated) ++ codes "NULL");
      written = λ there. text-IsNull there x negated ∙ ap bracketed (simp append_assoc);
      value = tree 0 (node.IsNull (unplaced_expr x) negated);
      bare = λ there. bare-IsNull there x negated;
      short = tt;
      levels = value.levels;
      reads = λ more there enough.
          let at = there + length (canonical_expr x) in
          let one = value.reads more there enough in
          let not = not_part negated (at + 3) in
          let null = at + length (codes " IS" ++ (32 ∷ not_text negated)) in
          record {
            tokens = _;
            again = tree (at + 1) (node.IsNull one.again (is_some not.found));
            lexed =
                joined-Lexed one.lexed
                (joined-Lexed (joined-Lexed (space_word-Lexed at (codes "IS") refl) not.lexed (λ after free. quiet_at 32 _ refl))
                (word-Lexed null (codes "NULL") refl) (λ after quiet. tt))
                (λ after quiet. quiet_at 32 _ refl);
            is = predicate_is (nested more) _ _ _ _ one.is (null_is (nested more) not.tokens not.found (at + 1) null not.is);
            same = bare-IsNull (at + 1) one.again (is_some not.found) ∙ ap₂ (λ x negated. tree 0 (node.IsNull x negated)) one.same not.says;
          };
    })

-- the tokens of BETWEEN and what follows it
abbrev ranged : ℕ → List Token → ℕ → List Token → List Token
ranged between low and high = token_at (kinds.Word (codes "BETWEEN")) between 7 ∷ [] ++ low ++ token_at (kinds.Word (codes "AND")) and 3 ∷ [] ++ high

between_is : (inner : Rule → Form ExprTree) (tokens low_tokens high_tokens : List Token) (found : Option ℕ) (low high : ExprTree) (between and : ℕ)
    → Perhaps (Word (codes "NOT")) tokens found → Factor inner low_tokens low → Factor inner high_tokens high
    → PredicateTail inner (tokens ++ ranged between low_tokens and high_tokens) (with_not found (between_tail between low and high))
unfolding PredicateTail BetweenTail
between_is inner tokens low_tokens high_tokens found low high between and not_is low_is high_is =
    let low_sum = factor-Sum inner low_tokens low low_is in
    let high_sum = factor-Sum inner high_tokens high high_is in
    let tail =
    then _ _ (then _ _ (then _ _ (made _ between_tail (word_is (codes "BETWEEN") between 7)) low_sum) (word_is (codes "AND") and 3)) high_sum in
    second _ _ (second _ _ (then _ _ (made _ with_not not_is) (first _ _ tail)))

between_made : (found : Option ℕ) (between and : ℕ) (x low high : ExprTree)
    → (place : ℕ) × (predicate_tree x (Some (with_not found (between_tail between low and high))) ≡ tree place (node.Between x low high (is_some found)))
between_made None between and x low high = (between, refl)
between_made (Some place) between and x low high = (place, refl)

pub fine-Between : (place : ℕ) (x low high : ExprTree) (negated : Bool) → Fine x → Fine low → Fine high → Fine (tree place (node.Between x low high negated))
fine-Between place x low high negated value least most =
    let low_text = canonical_expr low in
    let high_text = canonical_expr high in
    fine_inside place (node.Between x low high negated) (record {
      layer = ExprNode-F.Between x low high negated;
      opens = node.outs-Between x low high negated;
      text = canonical_expr x ++ ((32 ∷ not_text negated) ++ (codes "BETWEEN " ++ low_text ++ codes " AND " ++ high_text));
      written = λ there. text-Between there x low high negated ∙ ap bracketed (simp append_assoc);
      value = tree 0 (node.Between (unplaced_expr x) (unplaced_expr low) (unplaced_expr high) negated);
      bare = λ there. bare-Between there x low high negated;
      short = tt;
      levels = value.levels + (least.levels + most.levels);
      reads = λ more there enough.
          let at = there + length (canonical_expr x) in
          let one = value.reads more there (omega (arith, enough)) in
          let not = not_part negated at in
          let word = at + length (32 ∷ not_text negated) in
          let lower = least.reads more (word + 8) (omega (arith, enough)) in
          let and = word + length (codes "BETWEEN " ++ low_text) in
          let higher = most.reads more (word + length (codes "BETWEEN " ++ low_text ++ codes " AND ")) (omega (arith, enough)) in
          let (stands, whole) = between_made not.found word (and + 1) one.again lower.again higher.again in
          record {
            tokens = _;
            again = _;
            lexed =
                joined-Lexed one.lexed
                (joined-Lexed not.lexed
                (joined-Lexed
                (joined-Lexed (joined-Lexed (word_space-Lexed word (codes "BETWEEN") refl) lower.lexed (λ after quiet. tt))
                (spaced_word-Lexed and (codes "AND") refl) (λ after free. quiet_at 32 _ refl))
                higher.lexed (λ after quiet. tt))
                (λ after quiet. tt))
                (λ after quiet. quiet_at 32 _ refl);
            is =
                predicate_is (nested more) _ _ _ _ one.is
                (between_is (nested more) not.tokens lower.tokens higher.tokens not.found lower.again higher.again word (and + 1) not.is lower.is higher.is);
            same =
                ap unplaced_expr whole ∙ bare-Between stands one.again lower.again higher.again (is_some not.found)
                ∙ (λ i. tree 0 (node.Between (one.same i) (lower.same i) (higher.same i) (not.says i)));
          };
    })

-- the tokens of IN and a list in brackets
abbrev listed_in : ℕ → ℕ → List Token → ℕ → List Token
listed_in among before tokens behind =
    token_at (kinds.Word (codes "IN")) among 2 ∷ []
    ++ (token_at (kinds.Sign signs.LeftParen) before 1 ∷ [] ++ tokens ++ token_at (kinds.Sign signs.RightParen) behind 1 ∷ [])

among_is : (inner : Rule → Form ExprTree) (tokens list_tokens : List Token) (found : Option ℕ) (list : List ExprTree) (among before behind : ℕ)
    → Perhaps (Word (codes "NOT")) tokens found → Commas (Sum inner) list_tokens list
    → PredicateTail inner (tokens ++ listed_in among before list_tokens behind) (with_not found (among_tail among list))
unfolding PredicateTail AmongTail
among_is inner tokens list_tokens found list among before behind not_is list_is =
    let tail = then _ _ (made _ among_tail (word_is (codes "IN") among 2)) (brackets (Commas (Sum inner)) before behind list_is) in
    second _ _ (second _ _ (then _ _ (made _ with_not not_is) (second _ _ tail)))

among_made : (found : Option ℕ) (among : ℕ) (x : ExprTree) (list : List ExprTree)
    → (place : ℕ) × (predicate_tree x (Some (with_not found (among_tail among list))) ≡ tree place (node.Among x list (is_some found)))
among_made None among x list = (among, refl)
among_made (Some place) among x list = (place, refl)

module _ (x first : ExprTree) (rest : List ExprTree) (negated : Bool) (value : Fine x) (are : AllFine (first ∷ rest)) where
  among_reads : (more place : ℕ) → value.levels + levels_of (first ∷ rest) are ≤ more
      → Reads (Disjunction (nested more)) unplaced_expr Quiet place
      (canonical_expr x ++ ((32 ∷ not_text negated) ++ (codes "IN " ++ bracketed (listed (map canonical_expr (first ∷ rest))))))
      (tree 0 (node.Among (unplaced_expr x) (map unplaced_expr (first ∷ rest)) negated))
  among_reads more place enough =
      let at = place + length (canonical_expr x) in
      let one = value.reads more place (omega (arith, enough)) in
      let not = not_part negated at in
      let word = at + length (32 ∷ not_text negated) in
      let members = all_read (first ∷ rest) are more (omega (arith, enough)) in
      let sums = all_wider (Factor (nested more)) (Sum (nested more)) unplaced_expr canonical_expr unplaced_expr (factor-Sum (nested more)) (first ∷ rest) members in
      let list = commas_reads (Sum (nested more)) unplaced_expr canonical_expr unplaced_expr first rest sums ((word + 3) + 1) in
      let end = (word + 3) + length (codes "(" ++ listed (map canonical_expr (first ∷ rest))) in
      let (stands, whole) = among_made not.found word one.again list.again in
      record {
        tokens = _;
        again = _;
        lexed =
            joined-Lexed one.lexed
            (joined-Lexed not.lexed (joined-Lexed (word_space-Lexed word (codes "IN") refl) (brackets-Lexed list.lexed) (λ after quiet. tt)) (λ after quiet. tt))
            (λ after quiet. quiet_at 32 _ refl);
        is =
            predicate_is (nested more) _ _ _ _ one.is
            (among_is (nested more) not.tokens list.tokens not.found list.again word (word + 3) end not.is list.is);
        same =
            ap unplaced_expr whole ∙ bare-Among stands one.again list.again (is_some not.found)
            ∙ (λ i. tree 0 (node.Among (one.same i) (list.same i) (not.says i)));
      }

  pub fine-Among : (place : ℕ) → Fine (tree place (node.Among x (first ∷ rest) negated))
  fine-Among place =
      fine_inside place (node.Among x (first ∷ rest) negated) (record {
        layer = ExprNode-F.Among x (first ∷ rest) negated;
        opens = node.outs-Among x (first ∷ rest) negated;
        text = canonical_expr x ++ ((32 ∷ not_text negated) ++ (codes "IN " ++ bracketed (listed (map canonical_expr (first ∷ rest)))));
        written = λ there. text-Among there x (first ∷ rest) negated ∙ ap bracketed (simp append_assoc);
        value = tree 0 (node.Among (unplaced_expr x) (map unplaced_expr (first ∷ rest)) negated);
        bare = λ there. bare-Among there x (first ∷ rest) negated;
        short = tt;
        levels = value.levels + levels_of (first ∷ rest) are;
        reads = among_reads;
      })
