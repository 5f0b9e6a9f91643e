-- The sixth step of simplification: AND within AND and OR within OR are flattened, and known truths
-- vanish from both.
--
-- From the inside out: the members of an AND within an AND are members of the outer one, and
-- likewise for OR. TRUE is dropped from AND, FALSE from OR. An AND with FALSE is FALSE, an OR with
-- TRUE is TRUE. Without a member left an AND is TRUE and an OR FALSE; one member that is left
-- stands alone. UNKNOWN stays.
use Rattle.std.specs.Prelude.{Bool, true, false, not, List, [], ◌∷◌, filter, if◌then◌else◌}
use Rattle.std.specs.List.{flat_map, list_any}
use Rattle.sa_value.specs.declared.truth.Truth.TheVariants.{False, True}
use Rattle.sa_cond.specs.declared.cond.Cond.{Cond, Cond-F, fold-Cond, out-Cond}
use Rattle.sa_cond.specs.declared.cond.Cond.TheVariants.{Known, And, Or}
use Rattle.sa_simplify.specs.Node.{of_node}

-- whether a condition is TRUE itself
abbrev pub is_true : Cond → Bool
is_true (Known True) = true
is_true cond = false

-- whether a condition is FALSE itself
abbrev pub is_false : Cond → Bool
is_false (Known False) = true
is_false cond = false

-- the members of a node that is an AND; any other is the one member, `whole`
abbrev pub and_members : Cond-F Cond → Cond → List Cond
and_members (Cond-F.And members) whole = members
and_members node whole = whole ∷ []

-- the members of a node that is an OR; any other is the one member, `whole`
abbrev pub or_members : Cond-F Cond → Cond → List Cond
or_members (Cond-F.Or members) whole = members
or_members node whole = whole ∷ []

-- the conditions whose AND a condition is
abbrev pub conjuncts_of : Cond → List Cond
conjuncts_of cond = and_members (out-Cond cond) cond

-- the conditions whose OR a condition is
abbrev pub disjuncts_of : Cond → List Cond
disjuncts_of cond = or_members (out-Cond cond) cond

-- the AND of conditions, none of them TRUE or FALSE
abbrev pub and_or_alone : List Cond → Cond
and_or_alone [] = Known True
and_or_alone (only ∷ []) = only
and_or_alone (first ∷ second ∷ rest) = And (first ∷ second ∷ rest)

-- the OR of conditions, none of them TRUE or FALSE
abbrev pub or_or_alone : List Cond → Cond
or_or_alone [] = Known False
or_or_alone (only ∷ []) = only
or_or_alone (first ∷ second ∷ rest) = Or (first ∷ second ∷ rest)

-- the AND of members; an AND among them has neither TRUE nor FALSE for a member
abbrev pub and_of : List Cond → Cond
and_of members =
    if list_any is_false members then Known False
    else and_or_alone (flat_map conjuncts_of (filter (λ member. not (is_true member)) members))

-- the OR of members; an OR among them has neither TRUE nor FALSE for a member
abbrev pub or_of : List Cond → Cond
or_of members =
    if list_any is_true members then Known True
    else or_or_alone (flat_map disjuncts_of (filter (λ member. not (is_false member)) members))

-- One node, with what became of its members in their place.
abbrev pub node_flattened : Cond-F Cond → Cond
node_flattened (Cond-F.And members) = and_of members
node_flattened (Cond-F.Or members) = or_of members
node_flattened node = of_node node

-- the whole condition
unfoldable pub flattened : Cond → Cond
flattened = fold-Cond Cond node_flattened
