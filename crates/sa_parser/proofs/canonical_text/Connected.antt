-- AND and OR are read back.
use Rattle.std.proofs.Common.{◌≡◌, ℕ, ◌+◌, ◌≤◌, true, List, [], ◌∷◌, ◌++◌, map, length, codes, refl, sym, ap, ap₂, ◌∙◌, append_assoc, append-nil}
use Rattle.std.specs.Prelude.{flat_map, fold}
use Rattle.std.proofs.lemmas.List.{map-append}
use Rattle.std.proofs.lemmas.List.Folds.{flat_map-map}
use Rattle.sa_lexer.specs.declared.sign.Sign.TheVariants as signs
use Rattle.sa_lexer.specs.declared.token.Token.{Token}
use Rattle.sa_lexer.specs.declared.token.TokenKind.TheVariants as kinds
use Rattle.sa_ast.specs.declared.expression.ExprNode.{ExprNode-F}
use Rattle.sa_ast.specs.declared.expression.ExprNode.TheVariants as node
use Rattle.sa_ast.specs.declared.expression.ExprTree.{ExprTree}
use Rattle.sa_ast.specs.Place.{unplaced_expr}
use Rattle.sa_print.specs.Expression.{canonical_expr}
use Rattle.sa_print.specs.Lists.{joined}
use Rattle.sa_print.specs.Name.{is_word}
use Rattle.sa_parser.specs.declared.members.Members.{Members}
use Rattle.sa_parser.specs.declared.members.Members.TheVariants.{Alone, Joined}
use Rattle.sa_parser.specs.Tree.{tree, with_member, and_tree, or_tree}
use Rattle.sa_parser.specs.Form.{Form, Either, Chain, Word, Sign, ◌<$>◌, ◌<*>◌}
use Rattle.sa_parser.specs.ExprGrammar.{Factor, Negation, Conjunction, Disjunction, nested}
use Rattle.sa_parser.proofs.canonical_text.Build.{made, then, first, chained}
use Rattle.sa_parser.proofs.canonical_text.Fine.{Reads, Fine}
use Rattle.sa_parser.proofs.canonical_text.FineLists.{AllFine, levels_of, all_read}
use Rattle.sa_parser.proofs.canonical_text.Inside.{fine_inside}
use Rattle.sa_parser.proofs.canonical_text.Lexed.{Quiet, quiet_at, token_at, joined-Lexed, same-Lexed}
use Rattle.sa_parser.proofs.canonical_text.Lift.{factor-Negation, negation-Conjunction, conjunction-Disjunction}
use Rattle.sa_parser.proofs.canonical_text.Lists.{AllRead, Apart, all_wider, parts_quiet, many_reads}
use Rattle.sa_parser.proofs.canonical_text.Nodes.{text-And, text-Or, bare-And, bare-Or}
use Rattle.sa_parser.proofs.canonical_text.Pieces.{spaced_word-Lexed}
use Rattle.sa_parser.proofs.canonical_text.Tokens.{word_is}

-- members without their places
abbrev bare_members : Members → List ExprTree
bare_members (Alone only) = unplaced_expr only ∷ []
bare_members (Joined place members) = map unplaced_expr members

abbrev bare_next : ℕ × ExprTree → ExprTree
bare_next next = unplaced_expr next.1

member-added : (members : Members) (next : ℕ × ExprTree) → bare_members (with_member members next) ≡ bare_members members ++ bare_next next ∷ []
member-added (Alone only) next = refl
member-added (Joined place members) next = map-append unplaced_expr members (next.1 ∷ [])

members-added : (members : Members) (nexts : List (ℕ × ExprTree)) → bare_members (fold with_member members nexts) ≡ bare_members members ++ map bare_next nexts
members-added members [] = sym (append-nil (bare_members members))
members-added members (next ∷ nexts) =
    members-added (with_member members next) nexts ∙ ap (λ some. some ++ map bare_next nexts) (member-added members next)
    ∙ append_assoc (bare_members members) (bare_next next ∷ []) (map bare_next nexts)

-- a member behind its word
abbrev Next : Form ℕ → Form ExprTree → Form (ℕ × ExprTree)
Next Mark Is = (λ place next. (place, next)) <$> Mark <*> Is

abbrev MembersOf : Form ℕ → Form ExprTree → Form Members
MembersOf Mark Is = Chain (Alone <$> Is) with_member (Next Mark Is)

module _ (word : List ℕ) (sound : is_word word ≡ true) (Mark : Form ℕ) (Is : Form ExprTree)
    (mark : (place : ℕ) → Mark (token_at (kinds.Word word) place (length word) ∷ []) place) where
  abbrev behind : ExprTree → List ℕ
  behind item = (32 ∷ (word ++ 32 ∷ [])) ++ canonical_expr item

  next_reads : (items : List ExprTree) → AllRead Is unplaced_expr canonical_expr unplaced_expr items → AllRead (Next Mark Is) bare_next behind unplaced_expr items
  next_reads [] are = tt
  next_reads (item ∷ items) are = (
    λ place.
        let inner = are.0 (place + length (32 ∷ (word ++ 32 ∷ []))) in
        record {
          tokens = _;
          again = (place + 1, inner.again);
          lexed = joined-Lexed (spaced_word-Lexed place word sound) inner.lexed (λ after quiet. tt);
          is = then _ _ (made Mark (λ place next. (place, next)) (mark (place + 1))) inner.is;
          same = inner.same;
        },
    next_reads items are.1,
  )

  members_reads : (item : ExprTree) (items : List ExprTree) → AllRead Is unplaced_expr canonical_expr unplaced_expr (item ∷ items) → (place : ℕ)
      → Reads (MembersOf Mark Is) bare_members Quiet place (joined (32 ∷ (word ++ 32 ∷ [])) (map canonical_expr (item ∷ items))) (map unplaced_expr (item ∷ items))
  members_reads item items are place =
      let one = are.0 place in
      let apart : (item : ExprTree) → Apart (behind item) = λ item after. quiet_at 32 _ refl in
      let rest = many_reads (Next Mark Is) bare_next behind unplaced_expr apart items (next_reads items are.1) (place + length (canonical_expr item)) in
      let written : canonical_expr item ++ flat_map behind items ≡ joined (32 ∷ (word ++ 32 ∷ [])) (map canonical_expr (item ∷ items)) =
      ap (λ texts. canonical_expr item ++ texts) (sym (flat_map-map (λ next. (32 ∷ (word ++ 32 ∷ [])) ++ next) canonical_expr items)) in
      record {
        tokens = _;
        again = _;
        lexed = same-Lexed written (joined-Lexed one.lexed rest.lexed (λ after quiet. parts_quiet behind apart items after quiet));
        is = chained _ _ _ _ _ (made Is Alone one.is) rest.is;
        same = members-added (Alone one.again) rest.again ∙ ap₂ (λ x xs. x ∷ xs) one.same rest.same;
      }

and_bare : (members : Members) (x y : ExprTree) (rest : List ExprTree) → bare_members members ≡ x ∷ y ∷ rest → unplaced_expr (and_tree members) ≡ tree 0 (node.And (x ∷ y ∷ rest))
and_bare (Alone only) x y rest e = absurd cc
and_bare (Joined place members) x y rest e = bare-And place members ∙ ap (λ some. tree 0 (node.And some)) e

or_bare : (members : Members) (x y : ExprTree) (rest : List ExprTree) → bare_members members ≡ x ∷ y ∷ rest → unplaced_expr (or_tree members) ≡ tree 0 (node.Or (x ∷ y ∷ rest))
or_bare (Alone only) x y rest e = absurd cc
or_bare (Joined place members) x y rest e = bare-Or place members ∙ ap (λ some. tree 0 (node.Or some)) e

module _ (x y : ExprTree) (rest : List ExprTree) (are : AllFine (x ∷ y ∷ rest)) where
  abbrev members_of : List ExprTree
  members_of = x ∷ y ∷ rest

  and_reads : (more place : ℕ) → levels_of members_of are ≤ more
      → Reads (Disjunction (nested more)) unplaced_expr Quiet place (joined (codes " AND ") (map canonical_expr members_of)) (tree 0 (node.And (map unplaced_expr members_of)))
  unfolding Conjunction
  and_reads more place enough =
      let Mark = Either (Word (codes "AND")) (Sign signs.AndAnd) in
      let mark : (there : ℕ) → Mark (token_at (kinds.Word (codes "AND")) there 3 ∷ []) there =
      λ there. first (Word (codes "AND")) (Sign signs.AndAnd) (word_is (codes "AND") there 3) in
      let Is = Negation (nested more) in
      let each = all_wider (Factor (nested more)) Is unplaced_expr canonical_expr unplaced_expr (factor-Negation (nested more)) members_of (all_read members_of are more enough) in
      let found = members_reads (codes "AND") refl Mark Is mark x (y ∷ rest) each place in
      let is : Conjunction (nested more) found.tokens (and_tree found.again) = made (MembersOf Mark Is) and_tree found.is in
      record {
        tokens = found.tokens;
        again = and_tree found.again;
        lexed = found.lexed;
        is = conjunction-Disjunction (nested more) _ _ is;
        same = and_bare found.again (unplaced_expr x) (unplaced_expr y) (map unplaced_expr rest) found.same;
      }

  pub fine-And : (place : ℕ) → Fine (tree place (node.And members_of))
  fine-And place =
      fine_inside place (node.And members_of) (record {
        layer = ExprNode-F.And members_of;
        opens = node.outs-And members_of;
        text = joined (codes " AND ") (map canonical_expr members_of);
        written = λ there. text-And there members_of;
        value = tree 0 (node.And (map unplaced_expr members_of));
        bare = λ there. bare-And there members_of;
        short = tt;
        levels = levels_of members_of are;
        reads = and_reads;
      })

  or_reads : (more place : ℕ) → levels_of members_of are ≤ more
      → Reads (Disjunction (nested more)) unplaced_expr Quiet place (joined (codes " OR ") (map canonical_expr members_of)) (tree 0 (node.Or (map unplaced_expr members_of)))
  unfolding Disjunction
  or_reads more place enough =
      let Is = Conjunction (nested more) in
      let factor : (tokens : List Token) (again : ExprTree) → Factor (nested more) tokens again → Is tokens again =
      λ tokens again is. negation-Conjunction (nested more) tokens again (factor-Negation (nested more) tokens again is) in
      let each = all_wider (Factor (nested more)) Is unplaced_expr canonical_expr unplaced_expr factor members_of (all_read members_of are more enough) in
      let found = members_reads (codes "OR") refl (Word (codes "OR")) Is (λ there. word_is (codes "OR") there 2) x (y ∷ rest) each place in
      record {
        tokens = found.tokens;
        again = or_tree found.again;
        lexed = found.lexed;
        is = made (MembersOf (Word (codes "OR")) Is) or_tree found.is;
        same = or_bare found.again (unplaced_expr x) (unplaced_expr y) (map unplaced_expr rest) found.same;
      }

  pub fine-Or : (place : ℕ) → Fine (tree place (node.Or members_of))
  fine-Or place =
      fine_inside place (node.Or members_of) (record {
        layer = ExprNode-F.Or members_of;
        opens = node.outs-Or members_of;
        text = joined (codes " OR ") (map canonical_expr members_of);
        written = λ there. text-Or there members_of;
        value = tree 0 (node.Or (map unplaced_expr members_of));
        bare = λ there. bare-Or there members_of;
        short = tt;
        levels = levels_of members_of are;
        reads = or_reads;
      })
