-- What a document tells of an access.
-- Source of the names: MariaDB Knowledge Base, "EXPLAIN FORMAT=JSON".
use Rattle.std.specs.Prelude.{ℕ, List, map, length, codes}
use Rattle.serde_json.specs.Data.{Data, string, array, object, Members, put, no_members}
use Rattle.serde_json.specs.View.{items_of}
use Rattle.sa_key.specs.declared.cut.Cut.{Cut}
use Rattle.sa_key.specs.declared.cut.Side.{Side}
use Rattle.sa_key.specs.declared.cut.Side.TheVariants.{Below, Above}
use Rattle.sa_key.specs.declared.range.KeyRange.{KeyRange}
use Rattle.sa_plan.specs.declared.access.Access.{Access}
use Rattle.sa_plan.specs.declared.access.Access.TheVariants.{All, Index, Range, Ref, EqRef, Const}
use Rattle.sa_plan.specs.declared.access.AccessKind.{AccessKind}
use Rattle.sa_plan.specs.declared.access.AccessKind.TheVariants as kinds
use Rattle.sa_plan.specs.declared.access.RefPart.{RefPart}
use Rattle.sa_plan.specs.declared.names.TableNames.{TableNames}
use Rattle.sa_plan.specs.declared.plan.Level.{Level}
use Rattle.sa_plan.specs.Lawful.{expr_of}
use Rattle.sa_plan.specs.Names.{key_name}
use Rattle.sa_explain.specs.Number.{count}
use Rattle.sa_explain.specs.Values.{values_data}
use Rattle.sa_explain.specs.Written.{expr_text}

-- how a kind of access is called
abbrev pub kind_name : AccessKind → List ℕ
kind_name kinds.All = codes "ALL"
kind_name kinds.Index = codes "index"
kind_name kinds.Range = codes "range"
kind_name kinds.Ref = codes "ref"
kind_name kinds.EqRef = codes "eq_ref"
kind_name kinds.Const = codes "const"

abbrev pub side_name : Side → List ℕ
side_name Below = codes "below"
side_name Above = codes "above"

abbrev pub cut_data : Cut → Data
cut_data cut =
    object (put (codes "side") (string (side_name cut.side))
    (put (codes "values") (values_data cut.tuple) no_members))

abbrev pub range_data : KeyRange → Data
range_data range =
    object (put (codes "from") (cut_data range.from) (put (codes "to") (cut_data range.to) no_members))

-- what parts of a key are sought by: literals, and columns after the aliases of their tables
abbrev pub sought_data : List TableNames → List Level → List RefPart → Data
sought_data names levels from =
    array (items_of (map (λ part. string (expr_text names levels (expr_of part))) from))

-- the members with the name of a key
abbrev pub with_key : List TableNames → (table key : ℕ) → Members → Members
with_key names table key members = put (codes "key") (string (key_name names table key)) members

-- the members with the key of an access by equalities, how many of its parts they are of, and what
-- these are sought by
abbrev pub with_sought : List TableNames → List Level → (table key : ℕ) → List RefPart → Members
    → Members
with_sought names levels table key from members =
    with_key names table key
    (put (codes "key_parts") (count (length from))
    (put (codes "ref") (sought_data names levels from) members))

-- the members with what an access reads by
abbrev pub with_access : List TableNames → List Level → (table : ℕ) → Access → Members → Members
with_access names levels table All members = members
with_access names levels table (Index key) members = with_key names table key members
with_access names levels table (Range key list) members =
    with_key names table key
    (put (codes "key_parts") (count list.parts)
    (put (codes "ranges") (array (items_of (map range_data list.ranges))) members))
with_access names levels table (Ref key from) members =
    with_sought names levels table key from members
with_access names levels table (EqRef key from) members =
    with_sought names levels table key from members
with_access names levels table (Const key from) members =
    with_sought names levels table key from members
