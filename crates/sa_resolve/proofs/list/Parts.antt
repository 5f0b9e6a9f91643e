-- The parts of a select list, one after another.
use Rattle.std.proofs.Common.{◌≡◌, ℕ, zero, suc, ◌+◌, ◌<◌, ◌≤◌, List, [], ◌∷◌, ◌++◌, length, take, drop, get_or, refl, sym, ap, subst, ◌∙◌, arith}
use Rattle.std.proofs.lemmas.List.{length-append, append-nil, take_all, drop_all}
use Rattle.std.proofs.lemmas.List.Concat.{flat_map-append}
use Rattle.sa_ast.specs.declared.select.ItemTree.{ItemTree}
use Rattle.sa_table.specs.Table.{Table}
use Rattle.sa_resolve.specs.declared.select.Part.{Part}
use Rattle.sa_resolve.specs.declared.sight.Sight.{Sight}
use Rattle.sa_resolve.specs.Expression.{Scope}
use Rattle.sa_resolve.specs.Selected.{Selected, items_at, selected}
use Rattle.sa_resolve.specs.inner.Listing.{IsPart, AreParts}

module _ (tables : List Table) (scope : Scope) (sight : Sight) where
  -- the items of one tree
  abbrev pub items_of : ItemTree → List Selected
  items_of tree = items_at tables scope tree.place tree.item

  -- The tree of a part, and the lists up to it and from it on.
  pub record PartAt (before : ℕ) (trees : List ItemTree) (index : ℕ) (part : Part) : Type 0 where
    pub tree : ItemTree
    pub part_is : IsPart tables scope sight (before + length (selected tables scope (take index trees))) part
        tree
    pub taken : take (index + 1) trees ≡ take index trees ++ tree ∷ []
    pub left : drop index trees ≡ tree ∷ drop (index + 1) trees

  one_on : (before : ℕ) (tree : ItemTree) (trees : List ItemTree) (index : ℕ) (part : Part)
      → PartAt (before + length (items_of tree)) trees index part
      → PartAt before (tree ∷ trees) (suc index) part
  one_on before tree trees index part there = record {
    tree = there.tree;
    part_is = subst (λ first. IsPart tables scope sight first part there.tree) same there.part_is;
    taken = ap (λ n. take n (tree ∷ trees)) next ∙ ap (λ rest. tree ∷ rest) there.taken;
    left = there.left ∙ ap (λ n. there.tree ∷ drop n (tree ∷ trees)) (sym next);
  }
    where
      next : suc index + 1 ≡ suc (index + 1)
      next = omega arith

      same : before + length (items_of tree) + length (selected tables scope (take index trees))
          ≡ before + length (items_of tree ++ selected tables scope (take index trees))
      same = omega (arith, length-append (items_of tree) (selected tables scope (take index trees)))

  pub part_there : (before : ℕ) (parts : List Part) (trees : List ItemTree)
      → AreParts tables scope sight before parts trees
      → (index : ℕ) (part : Part) → index < length parts → part ≡ get_or parts index part
      → PartAt before trees index part
  part_there before [] trees are index part there is = absurd (omega arith)
  part_there before (one ∷ parts) [] are index part there is = absurd are
  part_there before (one ∷ parts) (tree ∷ trees) are zero part there is = record {
    tree = tree;
    part_is = subst (λ (one : Part). IsPart tables scope sight (before + 0) one tree) (sym is)
        (subst (λ first. IsPart tables scope sight first one tree) (omega arith) are.0);
    taken = refl;
    left = refl;
  }
  part_there before (one ∷ parts) (tree ∷ trees) are (suc index) part there is =
      one_on before tree trees index part
      (part_there (before + length (items_of tree)) parts trees are.1 index part (omega arith) is)

  -- as many parts as trees
  pub parts_length : (before : ℕ) (parts : List Part) (trees : List ItemTree)
      → AreParts tables scope sight before parts trees
      → length parts ≡ length trees
  parts_length before [] [] are = refl
  parts_length before (part ∷ parts) [] are = absurd are
  parts_length before [] (tree ∷ trees) are = absurd are
  parts_length before (part ∷ parts) (tree ∷ trees) are =
      ap suc (parts_length (before + length (items_of tree)) parts trees are.1)

  -- One part more, which stands after all items so far.
  pub parts_more : (before : ℕ) (parts : List Part) (trees : List ItemTree)
      → AreParts tables scope sight before parts trees
      → (part : Part) (tree : ItemTree)
      → IsPart tables scope sight (before + length (selected tables scope trees)) part tree
      → AreParts tables scope sight before (parts ++ part ∷ []) (trees ++ tree ∷ [])
  parts_more before [] [] are part tree is = (
    subst (λ first. IsPart tables scope sight first part tree)
        (omega arith) is,
    tt,
  )
  parts_more before (one ∷ parts) [] are part tree is = absurd are
  parts_more before [] (first ∷ trees) are part tree is = absurd are
  parts_more before (one ∷ parts) (first ∷ trees) are part tree is = (
    are.0,
    parts_more (before + length (items_of first)) parts trees are.1 part tree
        (subst (λ first. IsPart tables scope sight first part tree) same is),
  )
    where
      same : before + length (items_of first ++ selected tables scope trees)
          ≡ before + length (items_of first) + length (selected tables scope trees)
      same = omega (arith, length-append (items_of first) (selected tables scope trees))

  -- what is left behind the last part
  pub none_left : (before : ℕ) (parts : List Part) (trees : List ItemTree)
      → AreParts tables scope sight before parts trees
      → (index : ℕ) → length parts ≤ index → drop index trees ≡ []
  none_left before parts trees are index all =
      drop_all index trees (let n = parts_length before parts trees are in omega arith)

  -- what stands up to the last part
  pub all_taken : (before : ℕ) (parts : List Part) (trees : List ItemTree)
      → AreParts tables scope sight before parts trees
      → (index : ℕ) → length parts ≤ index → take index trees ≡ trees
  all_taken before parts trees are index all =
      take_all index trees (let n = parts_length before parts trees are in omega arith)

  -- the items up to a tree and its own
  pub selected_push : (trees : List ItemTree) (tree : ItemTree)
      → selected tables scope (trees ++ tree ∷ []) ≡ selected tables scope trees ++ items_of tree
  selected_push trees tree =
      flat_map-append (λ (tree : ItemTree). items_at tables scope tree.place tree.item) trees (tree ∷ [])
      ∙ ap (λ rest. selected tables scope trees ++ rest) (append-nil (items_of tree))
