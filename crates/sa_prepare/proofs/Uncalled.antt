-- An expression without calls of aggregates is read as one without aggregates.
use Rattle.std.proofs.Common.{◌≡◌, ℕ, List, [], ◌∷◌, ◌++◌, map, flat_map, Option, Some, None, refl, sym, ap, ◌∙◌}
use Rattle.std.specs.List.{AllByRecursion}
use Rattle.sa_ast.specs.declared.expression.ExprNode.{ExprNode, ExprNode-F, map-ExprNode, fold-ExprNode}
use Rattle.sa_ast.specs.declared.expression.ExprTree.{ExprTree}
use Rattle.sa_table.specs.Table.{Table}
use Rattle.sa_query.specs.declared.group.Aggregate.{Aggregate}
use Rattle.sa_query.specs.declared.group.Column.{Column}
use Rattle.sa_query.specs.declared.refusal.ResolveKind.TheVariants.{UnknownColumn}
use Rattle.sa_resolve.specs.Expression.{Scope, Seeks, never, first, last, Alias, by_column, by_alias, unless_none, aliases_named, plain_reading, name_reading, node_reading, reading}
use Rattle.sa_resolve.specs.Reading.{Reading, faulty_name}
use Rattle.sa_resolve.specs.Sight.{Found, one as single, none, several, plain, qualified}
use Rattle.sa_prepare.specs.Unbuilt.{node_calls, calls_in}
use Rattle.sa_resolve.proofs.fit.Layers.{With, tree_over, by_layers, fold-over}

pub none-left : {A : Type 0} (xs ys : List A) → xs ++ ys ≡ [] → xs ≡ []
none-left [] ys is = refl
none-left (x ∷ xs) ys is = cc

pub none-right : {A : Type 0} (xs ys : List A) → xs ++ ys ≡ [] → ys ≡ []
none-right [] ys is = is
none-right (x ∷ xs) ys is = cc

pub none-in : {A B : Type 0} (f : B → List A) (xs : List B) → flat_map f xs ≡ [] → AllByRecursion (λ x. f x ≡ []) xs
none-in f [] is = tt
none-in f (x ∷ xs) is = (none-left (f x) (flat_map f xs) is, none-in f xs (none-right (f x) (flat_map f xs) is))

none-mapped : {A B : Type 0} (f : B → List A) (xs : List B) → flat_map (λ one. one) (map f xs) ≡ [] → AllByRecursion (λ x. f x ≡ []) xs
none-mapped f [] is = tt
none-mapped f (x ∷ xs) is =
    let rest = flat_map (λ one. one) (map f xs) in
    (none-left (f x) rest is, none-mapped f xs (none-right (f x) rest is))

abbrev pub HasNone : Reading → Type 0
HasNone one = one.aggregates ≡ []

module _ (tables : List Table) (scope : Scope) where
  column-none : (place : ℕ) (found : Found Column) → HasNone (by_column tables scope place found)
  column-none place (single column) = refl
  column-none place none = refl
  column-none place several = refl

  alias-none : (place : ℕ) (other : Reading) (found : Found Alias) → HasNone other → HasNone (by_alias tables scope place other found)
  alias-none place other (single alias) has = refl
  alias-none place other none has = has
  alias-none place other several has = refl

  unless-none : (place : ℕ) (other : Reading) (found : Found Column) → HasNone other → HasNone (unless_none tables scope place other found)
  unless-none place other (single column) has = refl
  unless-none place other none has = has
  unless-none place other several has = refl

  plain-none : (seeks : Seeks) (place : ℕ) (name : List ℕ) → HasNone (plain_reading tables scope seeks place name)
  plain-none never place name = column-none place (plain tables scope.sources name)
  plain-none first place name =
      alias-none place (by_column tables scope place (plain tables scope.sources name)) (aliases_named tables scope name) (column-none place (plain tables scope.sources name))
  plain-none last place name =
      unless-none place (by_alias tables scope place (faulty_name UnknownColumn place) (aliases_named tables scope name)) (plain tables scope.sources name)
      (alias-none place (faulty_name UnknownColumn place) (aliases_named tables scope name) refl)

  name-none : (place : ℕ) (table : Option (List ℕ)) (name : List ℕ) → HasNone (name_reading tables scope place table name)
  name-none place None name = plain-none scope.seeks place name
  name-none place (Some alias) name = column-none place (qualified tables scope.sources alias name)

  abbrev Uncalled : ExprTree → Type 0
  Uncalled tree = calls_in tree ≡ [] → HasNone (reading tables scope tree)

  abbrev Part : Type 0
  Part = With Uncalled

  abbrev calls_of : Part → List ℕ
  calls_of part = calls_in part.0

  abbrev read : Part → Reading
  read part = reading tables scope part.0

  -- the parts of a node without calls
  parts-none : (parts : List Part) → AllByRecursion (λ part. calls_of part ≡ []) parts → flat_map (λ (one : Reading). one.aggregates) (map read parts) ≡ []
  parts-none [] all = refl
  parts-none (part ∷ parts) all =
      ap (λ (found : List Aggregate). found ++ flat_map (λ (one : Reading). one.aggregates) (map read parts)) (part.1 all.0) ∙ parts-none parts all.1

  abbrev calls_over : ExprNode-F ExprNode Part → ExprNode-F (ℕ → List ℕ) (List ℕ)
  calls_over node =
      map-ExprNode ExprNode Part (ℕ → List ℕ) (List ℕ) (fold-ExprNode (ℕ → List ℕ) (List ℕ) node_calls (λ tree. tree.node tree.place)) calls_of node

  abbrev read_over : ExprNode-F ExprNode Part → ExprNode-F (ℕ → Reading) Reading
  read_over node =
      map-ExprNode ExprNode Part (ℕ → Reading) Reading (fold-ExprNode (ℕ → Reading) Reading (node_reading tables scope) (λ tree. tree.node tree.place)) read node

  two-none : (x y : Part) → calls_of x ++ calls_of y ≡ [] → AllByRecursion (λ part. calls_of part ≡ []) (x ∷ y ∷ [])
  two-none x y is = (none-left (calls_of x) (calls_of y) is, (none-right (calls_of x) (calls_of y) is, tt))

  at_node : (node : ExprNode-F ExprNode Part) (place : ℕ) → node_calls (calls_over node) place ≡ [] → HasNone (node_reading tables scope (read_over node) place)
  at_node (ExprNode-F.Number literal) place is = refl
  at_node (ExprNode-F.Text literal) place is = refl
  at_node ExprNode-F.Null place is = refl
  at_node (ExprNode-F.Known holds) place is = refl
  at_node (ExprNode-F.Name table column) place is = name-none place table column
  at_node (ExprNode-F.Aggregate call None) place is = cc
  at_node (ExprNode-F.Aggregate call (Some part)) place is = cc
  at_node (ExprNode-F.Negate x) place is = parts-none (x ∷ []) (is, tt)
  at_node (ExprNode-F.Compare op x y) place is = parts-none (x ∷ y ∷ []) (two-none x y is)
  at_node (ExprNode-F.IsNull x negated) place is = parts-none (x ∷ []) (is, tt)
  at_node (ExprNode-F.Between x low high negated) place is =
      let front = none-left (calls_of x ++ calls_of low) (calls_of high) is in
      let both = two-none x low front in
      parts-none (x ∷ low ∷ high ∷ []) (both.0, (both.1.0, (none-right (calls_of x ++ calls_of low) (calls_of high) is, tt)))
  at_node (ExprNode-F.Among x list negated) place is =
      let rest = flat_map (λ (one : List ℕ). one) (map calls_of list) in
      parts-none (x ∷ list) (none-left (calls_of x) rest is, none-mapped calls_of list (none-right (calls_of x) rest is))
  at_node (ExprNode-F.And members) place is = parts-none members (none-mapped calls_of members is)
  at_node (ExprNode-F.Or members) place is = parts-none members (none-mapped calls_of members is)
  at_node (ExprNode-F.Not x) place is = parts-none (x ∷ []) (is, tt)
  at_node (ExprNode-F.Add x y) place is = parts-none (x ∷ y ∷ []) (two-none x y is)
  at_node (ExprNode-F.Subtract x y) place is = parts-none (x ∷ y ∷ []) (two-none x y is)
  at_node (ExprNode-F.Multiply x y) place is = parts-none (x ∷ y ∷ []) (two-none x y is)

  at_layer : (node : ExprNode-F ExprNode Part) (place : ℕ) → Uncalled (tree_over Uncalled node place)
  at_layer node place is =
      let called = fold-over (ℕ → List ℕ) (List ℕ) node_calls (λ tree. tree.node tree.place) Uncalled node place in
      let seen = fold-over (ℕ → Reading) Reading (node_reading tables scope) (λ tree. tree.node tree.place) Uncalled node place in
      ap (λ (one : Reading). one.aggregates) seen ∙ at_node node place (sym called ∙ is)

  pub uncalled : (tree : ExprTree) → calls_in tree ≡ [] → HasNone (reading tables scope tree)
  uncalled = by_layers Uncalled at_layer
