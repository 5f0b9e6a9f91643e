-- DISTINCT, and the clauses behind WHERE, are read back.
use Rattle.std.proofs.Common.{◌≡◌, ℕ, ◌+◌, ◌^◌, ◌<◌, ◌≤◌, Bool, true, false, List, [], ◌∷◌, ◌++◌, map, length, codes, Option, Some, None, option_map, cond, refl, sym, ap, arith}
use Rattle.std.specs.Prelude.{◌==◌}
use Rattle.std.specs.Fmt.{decimal}
use Rattle.std.specs.List.{AllByRecursion}
use Rattle.std.proofs.lemmas.Bool.{eqb-true}
use Rattle.sa_lexer.specs.declared.sign.Sign.TheVariants as signs
use Rattle.sa_ast.specs.declared.expression.ExprTree.{ExprTree}
use Rattle.sa_ast.specs.declared.select.GroupTree.{GroupTree}
use Rattle.sa_ast.specs.declared.select.OrderTree.{OrderTree}
use Rattle.sa_ast.specs.Place.{unplaced_expr, unplaced_group, unplaced_order}
use Rattle.sa_print.specs.Expression.{canonical_expr}
use Rattle.sa_print.specs.Lists.{list_clause}
use Rattle.sa_print.specs.Name.{is_word}
use Rattle.sa_print.specs.Select.{group_text, order_text, limit_text}
use Rattle.sa_parser.specs.declared.limits.Limits.{Limits}
use Rattle.sa_parser.specs.SelectTree.{group_item, order_item, or_else, listed, limits, limit_of, offset_of, having_of}
use Rattle.sa_parser.specs.Form.{Form, Perhaps, Placed, Sign, Word, NumberBelow, Commas, ◌<$>◌, ◌<*>◌, ◌<|>◌}
use Rattle.sa_parser.specs.SelectGrammar.{Distinct, Group, Having, Direction, OrderItem, Order, Limit}
use Rattle.sa_parser.proofs.canonical_text.Build.{made, then, second, nothing, some, placed}
use Rattle.sa_parser.proofs.canonical_text.Clauses.{expression, IsBack, AllBack, levels_for, all_back, IsMild, expression_reads, levels_in, spaced, clause_of}
use Rattle.sa_parser.proofs.canonical_text.Each.{IfThere}
use Rattle.sa_parser.proofs.canonical_text.Fine.{Reads, Fine}
use Rattle.sa_parser.proofs.canonical_text.Lexed.{Quiet, Free, quiet_at, joined-Lexed}
use Rattle.sa_parser.proofs.canonical_text.Lists.{AllRead, empty-Lexed, commas_reads}
use Rattle.sa_parser.proofs.canonical_text.Pieces.{word_space-Lexed, space_word-Lexed, spaced_word-Lexed, number-Lexed}
use Rattle.sa_parser.proofs.canonical_text.Tokens.{word_is, number_below_is}

-- DISTINCT

pub distinct_reads : (distinct : Bool) (place : ℕ) → Reads Distinct (λ found. found) Free place (cond distinct (codes "DISTINCT ") []) distinct
unfolding Distinct
distinct_reads true place = record {
  tokens = _;
  again = true;
  lexed = word_space-Lexed place (codes "DISTINCT") refl;
  is = made _ (or_else false) (some _ (second _ _ (made _ (λ _. true) (word_is (codes "DISTINCT") place 8))));
  same = refl;
}
distinct_reads false place = record { tokens = []; again = false; lexed = empty-Lexed Free place; is = made _ (or_else false) (nothing _); same = refl }

-- lists behind two words

abbrev two_words : List ℕ → List ℕ
two_words word = spaced word ++ codes "BY "

module _ {A B C : Type 0} (word : List ℕ) (sound : is_word word ≡ true) (Is : Form A) (bare : A → B) (text : C → List ℕ) (value : C → B) where
  abbrev Behind : Form (List A)
  Behind = listed <$> Perhaps ((λ _ _ items. items) <$> Word word <*> Word (codes "BY") <*> Commas Is)

  behind_mild : (items : List C) → IsMild (list_clause (two_words word) (map text items))
  behind_mild [] = λ after quiet. quiet
  behind_mild (item ∷ items) = λ after quiet. quiet_at 32 _ refl

  behind_reads : (items : List C) → AllRead Is bare text value items → (place : ℕ)
      → Reads Behind (map bare) Quiet place (list_clause (two_words word) (map text items)) (map value items)
  behind_reads [] are place = record { tokens = []; again = []; lexed = empty-Lexed Quiet place; is = made _ listed (nothing _); same = refl }
  behind_reads (item ∷ items) are place =
      let by = place + length (spaced word) in
      let list = commas_reads Is bare text value item items are (place + length (two_words word)) in
      let words = then _ _ (made _ (λ _ _ items. items) (word_is word (place + 1) (length word))) (word_is (codes "BY") by 2) in
      record {
        tokens = _;
        again = list.again;
        lexed =
            joined-Lexed (joined-Lexed (spaced_word-Lexed place word sound) (word_space-Lexed by (codes "BY") refl) (λ after free. tt)) list.lexed (λ after quiet. tt);
        is = made _ listed (some _ (then _ _ words list.is));
        same = list.same;
      }

-- GROUP BY

abbrev GroupItem : Form ExprTree → Form GroupTree
GroupItem Expr = Placed group_item Expr

abbrev pub IsGroup : GroupTree → Type 0
IsGroup item = Fine item.value

group_back : (item : GroupTree) → IsGroup item → IsBack GroupItem unplaced_group group_text item
group_back item is = record {
  levels = is.levels;
  reads = λ more place enough.
      let inner = expression_reads item.value is more place enough in
      record {
        tokens = inner.tokens;
        again = _;
        lexed = inner.lexed;
        is = placed _ group_item inner.tokens inner.is;
        same = λ i. record { value = inner.same i; place = 0 };
      };
}

-- all of them
abbrev pub AreGroups : List GroupTree → Type 0
AreGroups items = AllByRecursion IsGroup items

pub groups_back : (items : List GroupTree) → AreGroups items → AllBack GroupItem unplaced_group group_text items
groups_back [] are = tt
groups_back (item ∷ items) are = (group_back item are.0, groups_back items are.1)

abbrev pub group_levels : (items : List GroupTree) → AreGroups items → ℕ
group_levels items are = levels_for GroupItem unplaced_group group_text items (groups_back items are)

pub group_mild : (items : List GroupTree) → IsMild (list_clause (codes " GROUP BY ") (map group_text items))
group_mild [] = λ after quiet. quiet
group_mild (item ∷ items) = λ after quiet. quiet_at 32 _ refl

pub group_reads : (items : List GroupTree) (are : AreGroups items) (deep place : ℕ) → group_levels items are ≤ deep
    → Reads (Group (expression deep)) (map unplaced_group) Quiet place (list_clause (codes " GROUP BY ") (map group_text items)) (map unplaced_group items)
unfolding Group
group_reads items are deep place enough =
    behind_reads (codes "GROUP") refl (GroupItem (expression deep)) unplaced_group group_text unplaced_group items
    (all_back GroupItem unplaced_group group_text items (groups_back items are) deep enough) place

-- HAVING

abbrev pub bare_having : Option (ℕ × ExprTree) → Option ExprTree
bare_having having = option_map unplaced_expr (having_of having)

pub having_reads : (having : Option ExprTree) (there : IfThere Fine having) (deep place : ℕ) → levels_in having there ≤ deep
    → Reads (Having (expression deep)) bare_having Quiet place (clause_of (codes "HAVING") having) (option_map unplaced_expr having)
unfolding Having
having_reads None there deep place enough = record { tokens = []; again = None; lexed = empty-Lexed Quiet place; is = nothing _; same = refl }
having_reads (Some tree) there deep place enough =
    let inner = expression_reads tree there deep (place + 8) enough in
    record {
      tokens = _;
      again = Some (place + 1, inner.again);
      lexed = joined-Lexed (spaced_word-Lexed place (codes "HAVING") refl) inner.lexed (λ after quiet. tt);
      is = some _ (then _ _ (made (Word (codes "HAVING")) (λ place value. (place, value)) (word_is (codes "HAVING") (place + 1) 6)) inner.is);
      same = ap Some inner.same;
    }

-- ORDER BY

abbrev down_text : Bool → List ℕ
down_text down = cond down (codes " DESC") []

down_mild : (down : Bool) → IsMild (down_text down)
down_mild true after quiet = quiet_at 32 _ refl
down_mild false after quiet = quiet

down_reads : (down : Bool) (place : ℕ) → Reads Direction (λ found. found) Quiet place (down_text down) down
unfolding Direction
down_reads true place = record {
  tokens = _;
  again = true;
  lexed = space_word-Lexed place (codes "DESC") refl;
  is = made _ (or_else false) (some _ (second _ _ (made _ (λ _. true) (word_is (codes "DESC") (place + 1) 4))));
  same = refl;
}
down_reads false place = record { tokens = []; again = false; lexed = empty-Lexed Quiet place; is = made _ (or_else false) (nothing _); same = refl }

abbrev pub IsOrder : OrderTree → Type 0
IsOrder item = Fine item.value

order_back : (item : OrderTree) → IsOrder item → IsBack OrderItem unplaced_order order_text item
unfolding OrderItem
order_back item is = record {
  levels = is.levels;
  reads = λ more place enough.
      let inner = expression_reads item.value is more place enough in
      let down = down_reads item.down (place + length (canonical_expr item.value)) in
      let pair = then _ _ (made (expression more) (λ value down. (value, down)) inner.is) down.is in
      record {
        tokens = inner.tokens ++ down.tokens;
        again = _;
        lexed = joined-Lexed inner.lexed down.lexed (down_mild item.down);
        is = placed _ order_item (inner.tokens ++ down.tokens) pair;
        same = λ i. record { value = inner.same i; down = down.same i; place = 0 };
      };
}

abbrev pub AreOrders : List OrderTree → Type 0
AreOrders items = AllByRecursion IsOrder items

pub orders_back : (items : List OrderTree) → AreOrders items → AllBack OrderItem unplaced_order order_text items
orders_back [] are = tt
orders_back (item ∷ items) are = (order_back item are.0, orders_back items are.1)

abbrev pub order_levels : (items : List OrderTree) → AreOrders items → ℕ
order_levels items are = levels_for OrderItem unplaced_order order_text items (orders_back items are)

pub order_mild : (items : List OrderTree) → IsMild (list_clause (codes " ORDER BY ") (map order_text items))
order_mild [] = λ after quiet. quiet
order_mild (item ∷ items) = λ after quiet. quiet_at 32 _ refl

pub order_reads : (items : List OrderTree) (are : AreOrders items) (deep place : ℕ) → order_levels items are ≤ deep
    → Reads (Order (expression deep)) (map unplaced_order) Quiet place (list_clause (codes " ORDER BY ") (map order_text items)) (map unplaced_order items)
unfolding Order
order_reads items are deep place enough =
    behind_reads (codes "ORDER") refl (OrderItem (expression deep)) unplaced_order order_text unplaced_order items
    (all_back OrderItem unplaced_order order_text items (orders_back items are) deep enough) place

-- LIMIT and OFFSET

-- numbers of rows
abbrev pub AreLimits : Option ℕ → ℕ → Type 0
AreLimits None offset = offset ≡ 0
AreLimits (Some limit) offset = (limit < 2 ^ 64) × (offset < 2 ^ 64)

abbrev pub limits_of : Option Limits → Option ℕ × ℕ
limits_of found = (limit_of found, offset_of found)

pub limit_mild : (limit : Option ℕ) (offset : ℕ) → IsMild (limit_text limit offset)
limit_mild None offset after quiet = quiet
limit_mild (Some limit) offset after quiet = quiet_at 32 _ refl

abbrev Offset : Form (Option (Bool × ℕ))
Offset =
    Perhaps ((λ _ second. (true, second)) <$> Sign signs.Comma <*> NumberBelow (2 ^ 64)
    <|> (λ _ second. (false, second)) <$> Word (codes "OFFSET") <*> NumberBelow (2 ^ 64))

abbrev shown_offset : Bool → ℕ → List ℕ
shown_offset none offset = cond none [] (codes " OFFSET " ++ decimal offset)

offset_reads : (limit offset : ℕ) (none : Bool) → (offset == 0) ≡ none → offset < 2 ^ 64 → (place : ℕ)
    → Reads Offset (λ found. limits limit found) Quiet place (shown_offset none offset) (record { limit = limit; offset = offset })
offset_reads limit offset true zero small place = record {
  tokens = [];
  again = None;
  lexed = empty-Lexed Quiet place;
  is = nothing _;
  same = ap (λ offset. record { limit = limit; offset = offset }) (sym (eqb-true offset 0 zero));
}
offset_reads limit offset false some_offset small place =
    let number = number_below_is (2 ^ 64) offset (place + 8) (length (decimal offset)) small in
    record {
      tokens = _;
      again = Some (false, offset);
      lexed = joined-Lexed (spaced_word-Lexed place (codes "OFFSET") refl) (number-Lexed (place + 8) offset (omega (arith, small))) (λ after quiet. tt);
      is = some _ (second _ _ (then _ _ (made (Word (codes "OFFSET")) (λ _ second. (false, second)) (word_is (codes "OFFSET") (place + 1) 6)) number));
      same = refl;
    }

offset_mild : (none : Bool) (offset : ℕ) → IsMild (shown_offset none offset)
offset_mild true offset after quiet = quiet
offset_mild false offset after quiet = quiet_at 32 _ refl

pub limit_reads : (limit : Option ℕ) (offset : ℕ) → AreLimits limit offset → (place : ℕ) → Reads Limit limits_of Quiet place (limit_text limit offset) (limit, offset)
unfolding Limit
limit_reads None offset none place = record {
  tokens = [];
  again = None;
  lexed = empty-Lexed Quiet place;
  is = nothing _;
  same = ap (λ offset. (None, offset)) (sym none);
}
limit_reads (Some limit) offset (small, also) place =
    let number = number_below_is (2 ^ 64) limit (place + 7) (length (decimal limit)) small in
    let behind = offset_reads limit offset (offset == 0) refl also (place + length (codes " LIMIT " ++ decimal limit)) in
    let found = then _ _ (made (NumberBelow (2 ^ 64)) limits number) behind.is in
    record {
      tokens = _;
      again = Some (limits limit behind.again);
      lexed =
          joined-Lexed (joined-Lexed (spaced_word-Lexed place (codes "LIMIT") refl) (number-Lexed (place + 7) limit (omega (arith, small))) (λ after quiet. tt))
          behind.lexed (offset_mild (offset == 0) offset);
      is = some _ (then _ _ (made (Word (codes "LIMIT")) (λ _ found. found) (word_is (codes "LIMIT") (place + 1) 5)) found);
      same = ap (λ found. limits_of (Some found)) behind.same;
    }
