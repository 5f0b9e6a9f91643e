-- No document has a float.
use Rattle.std.proofs.Common.{◌≡◌, ℕ, ◌*◌, ◌/◌, ◌==◌, Bool, true, false, ◌||◌, List, [], ◌∷◌, map, codes, length, Option, Some, None, Ordering, pos, negsuc, refl, if◌then◌else◌}
use Rattle.std.specs.Ordering.{nat_cmp, match_ordering}
use Rattle.std.specs.declared.cmp.Ordering.TheVariants.{Less, Equal, Greater}
use Rattle.std.specs.Cmp.Lexicographic.{slice_cmp}
use Rattle.std.specs.Fmt.{decimal}
use Rattle.std.specs.List.{enumerate_from}
use Rattle.serde_json.specs.Data.{Data, null, string, array, object, Members, no_members, member, put}
use Rattle.serde_json.specs.View.{items_of}
use Rattle.serde_json.specs.Written.{has_float, items_have_float, members_have_float}
use Rattle.sa_value.specs.declared.value.Value.{Value}
use Rattle.sa_value.specs.declared.value.Value.TheVariants.{Null, Int, Big, Text}
use Rattle.sa_key.specs.declared.cut.Cut.{Cut}
use Rattle.sa_key.specs.declared.range.KeyRange.{KeyRange}
use Rattle.sa_interval.specs.declared.list.RangeList.{RangeList}
use Rattle.sa_print.specs.Lists.{joined}
use Rattle.sa_cond.specs.declared.cond.Cond.{Cond}
use Rattle.sa_count.specs.declared.counters.Counters.{Counters}
use Rattle.sa_count.specs.declared.report.Report.{Report}
use Rattle.sa_plan.specs.declared.access.Access.{Access}
use Rattle.sa_plan.specs.declared.access.Access.TheVariants as accesses
use Rattle.sa_plan.specs.declared.access.RefPart.{RefPart}
use Rattle.sa_plan.specs.declared.names.TableNames.{TableNames}
use Rattle.sa_plan.specs.declared.plan.Level.{Level}
use Rattle.sa_plan.specs.declared.plan.Plan.{Plan}
use Rattle.sa_plan.specs.Access.{kind_of}
use Rattle.sa_plan.specs.Lawful.{expr_of}
use Rattle.sa_plan.specs.Names.{key_name}
use Rattle.sa_explain.specs.Access.{kind_name, side_name, cut_data, range_data, sought_data, with_key, with_sought, with_access}
use Rattle.sa_explain.specs.Number.{count, two_decimals, quotient}
use Rattle.sa_explain.specs.Values.{value_data, values_data}
use Rattle.sa_explain.specs.Written.{expr_text, cond_text}
use Rattle.sa_explain.specs.Document.{with_condition, with_counters, level_members, level_data, counters_at, with_steps, nested_loop, block_members, document}

abbrev pub Exact : Members → Type 0
Exact others = members_have_float others ≡ false

neither : (a b : Bool) → a || b ≡ false → (a ≡ false) × (b ≡ false)
neither false b is = (refl, is)
neither true b is = cc

exact-match : (order : Ordering) (a b c : Members) → Exact a → Exact b → Exact c → Exact (match_ordering order a b c)
exact-match Less a b c at_a at_b at_c = at_a
exact-match Equal a b c at_a at_b at_c = at_b
exact-match Greater a b c at_a at_b at_c = at_c

pub exact-put : (key : List ℕ) (value : Data) (others : Members) → has_float value ≡ false → Exact others → Exact (put key value others)
exact-put key value no_members is all = rw is
exact-put key value (member other held rest) is all =
    let parts = neither (has_float held) (members_have_float rest) all in
    exact-match (slice_cmp nat_cmp key other)
    (member key value (member other held rest)) (member other value rest) (member other held (put key value rest))
    (rw (is, parts.0, parts.1)) (rw (is, parts.1)) (rw (parts.0, exact-put key value rest is parts.1))

exact-quotient : (hundredths divisor : ℕ) → has_float (quotient hundredths divisor) ≡ false
exact-quotient hundredths divisor =
    elim (divisor == 0) as (λ by_none. has_float (if by_none then null else string (two_decimals (hundredths / divisor))) ≡ false) [
      | true ↦ refl
      | false ↦ refl
    ]

pub exact-items : {A : Type 0} (f : A → Data) → ((x : A) → has_float (f x) ≡ false) → (xs : List A) → items_have_float (items_of (map f xs)) ≡ false
exact-items f each [] = refl
exact-items f each (x ∷ xs) = rw (each x) (exact-items f each xs)

exact-value : (value : Value) → has_float (value_data value) ≡ false
exact-value Null = refl
exact-value (Int (pos n)) = refl
exact-value (Int (negsuc n)) = refl
exact-value (Big n) = refl
exact-value (Text text) = refl

pub values_are_exact : (values : List Value) → has_float (values_data values) ≡ false
values_are_exact values = exact-items value_data exact-value values

exact-cut : (cut : Cut) → has_float (cut_data cut) ≡ false
exact-cut cut =
    let with_values : Members = put (codes "values") (values_data cut.tuple) no_members in
    let at_values : Exact with_values = exact-put (codes "values") (values_data cut.tuple) no_members (values_are_exact cut.tuple) refl in
    exact-put (codes "side") (string (side_name cut.side)) with_values refl at_values

exact-range : (range : KeyRange) → has_float (range_data range) ≡ false
exact-range range =
    let with_to : Members = put (codes "to") (cut_data range.to) no_members in
    let at_to : Exact with_to = exact-put (codes "to") (cut_data range.to) no_members (exact-cut range.to) refl in
    exact-put (codes "from") (cut_data range.from) with_to (exact-cut range.from) at_to

exact-key : (names : List TableNames) (table key : ℕ) (others : Members) → Exact others → Exact (with_key names table key others)
exact-key names table key others all = exact-put (codes "key") (string (key_name names table key)) others refl all

exact-sought : (names : List TableNames) (levels : List Level) (table key : ℕ) (from : List RefPart) (others : Members)
    → Exact others → Exact (with_sought names levels table key from others)
exact-sought names levels table key from others all =
    let sought : Data = sought_data names levels from in
    let sought_is : has_float sought ≡ false = exact-items (λ part. string (expr_text names levels (expr_of part))) (λ part. refl) from in
    let with_ref : Members = put (codes "ref") sought others in
    let with_parts : Members = put (codes "key_parts") (count (length from)) with_ref in
    let at_ref : Exact with_ref = exact-put (codes "ref") sought others sought_is all in
    let at_parts : Exact with_parts = exact-put (codes "key_parts") (count (length from)) with_ref refl at_ref in
    exact-key names table key with_parts at_parts

exact-ranges : (names : List TableNames) (levels : List Level) (table key : ℕ) (list : RangeList) (others : Members)
    → Exact others → Exact (with_access names levels table (accesses.Range key list) others)
exact-ranges names levels table key list others all =
    let ranges : Data = array (items_of (map range_data list.ranges)) in
    let with_ranges : Members = put (codes "ranges") ranges others in
    let with_parts : Members = put (codes "key_parts") (count list.parts) with_ranges in
    let at_ranges : Exact with_ranges = exact-put (codes "ranges") ranges others (exact-items range_data exact-range list.ranges) all in
    let at_parts : Exact with_parts = exact-put (codes "key_parts") (count list.parts) with_ranges refl at_ranges in
    exact-key names table key with_parts at_parts

exact-access : (names : List TableNames) (levels : List Level) (table : ℕ) (access : Access) (others : Members)
    → Exact others → Exact (with_access names levels table access others)
exact-access names levels table accesses.All others all = all
exact-access names levels table (accesses.Index key) others all = exact-key names table key others all
exact-access names levels table (accesses.Range key list) others all = exact-ranges names levels table key list others all
exact-access names levels table (accesses.Ref key from) others all = exact-sought names levels table key from others all
exact-access names levels table (accesses.EqRef key from) others all = exact-sought names levels table key from others all
exact-access names levels table (accesses.Const key from) others all = exact-sought names levels table key from others all

exact-condition : (names : List TableNames) (levels : List Level) (conditions : List Cond) (others : Members)
    → Exact others → Exact (with_condition names levels conditions others)
exact-condition names levels [] others all = all
exact-condition names levels (first ∷ rest) others all =
    exact-put (codes "attached_condition") (string (joined (codes " AND ") (map (cond_text names levels) (first ∷ rest)))) others refl all

exact-counters : (counters : Option Counters) (others : Members) → Exact others → Exact (with_counters counters others)
exact-counters None others all = all
exact-counters (Some counters) others all =
    let rows_each : Data = quotient (100 * counters.rows) counters.loops in
    let filtered : Data = quotient (10000 * counters.passed) counters.rows in
    let with_rows : Members = put (codes "r_total_rows") (count counters.rows) others in
    let with_passed : Members = put (codes "r_total_passed") (count counters.passed) with_rows in
    let with_each : Members = put (codes "r_rows") rows_each with_passed in
    let with_loops : Members = put (codes "r_loops") (count counters.loops) with_each in
    let at_rows : Exact with_rows = exact-put (codes "r_total_rows") (count counters.rows) others refl all in
    let at_passed : Exact with_passed = exact-put (codes "r_total_passed") (count counters.passed) with_rows refl at_rows in
    let at_each : Exact with_each = exact-put (codes "r_rows") rows_each with_passed (exact-quotient (100 * counters.rows) counters.loops) at_passed in
    let at_loops : Exact with_loops = exact-put (codes "r_loops") (count counters.loops) with_each refl at_each in
    exact-put (codes "r_filtered") filtered with_loops (exact-quotient (10000 * counters.passed) counters.rows) at_loops

exact-level : (names : List TableNames) (levels : List Level) (level : Level) (counters : Option Counters)
    → Exact (level_members names levels level counters)
exact-level names levels level counters =
    let with_name : Members = put (codes "table_name") (string level.alias) no_members in
    let with_estimate : Members = put (codes "rows") (count level.estimate) with_name in
    let with_kind : Members = put (codes "access_type") (string (kind_name (kind_of level.access))) with_estimate in
    let with_reading : Members = with_access names levels level.table level.access with_kind in
    let at_name : Exact with_name = exact-put (codes "table_name") (string level.alias) no_members refl refl in
    let at_estimate : Exact with_estimate = exact-put (codes "rows") (count level.estimate) with_name refl at_name in
    let at_kind : Exact with_kind = exact-put (codes "access_type") (string (kind_name (kind_of level.access))) with_estimate refl at_estimate in
    let at_reading : Exact with_reading = exact-access names levels level.table level.access with_kind at_kind in
    exact-counters counters (with_condition names levels level.conditions with_reading)
    (exact-condition names levels level.conditions with_reading at_reading)

exact-level_data : (names : List TableNames) (levels : List Level) (level : Level) (counters : Option Counters)
    → has_float (level_data names levels level counters) ≡ false
exact-level_data names levels level counters =
    exact-put (codes "table") (object (level_members names levels level counters)) no_members (exact-level names levels level counters) refl

exact-nested_loop : (names : List TableNames) (levels : List Level) (report : Option Report) → has_float (nested_loop names levels report) ≡ false
exact-nested_loop names levels report =
    exact-items (λ (numbered : ℕ × Level). level_data names levels numbered.1 (counters_at report numbered.0))
    (λ numbered. exact-level_data names levels numbered.1 (counters_at report numbered.0))
    (enumerate_from 0 levels)

exact-steps : (report : Option Report) (others : Members) → Exact others → Exact (with_steps report others)
exact-steps None others all = all
exact-steps (Some report) others all =
    let with_made : Members = put (codes "r_steps") (count report.steps) others in
    let at_made : Exact with_made = exact-put (codes "r_steps") (count report.steps) others refl all in
    exact-put (codes "r_sent") (count report.sent) with_made refl at_made

exact-block : (names : List TableNames) (plan : Plan) (report : Option Report) → Exact (block_members names plan report)
exact-block names plan report =
    let with_id : Members = put (codes "select_id") (count 1) no_members in
    let with_loop : Members = put (codes "nested_loop") (nested_loop names plan.levels report) with_id in
    let with_cost : Members = put (codes "cost") (string (decimal plan.cost)) with_loop in
    let at_id : Exact with_id = exact-put (codes "select_id") (count 1) no_members refl refl in
    let at_loop : Exact with_loop =
    exact-put (codes "nested_loop") (nested_loop names plan.levels report) with_id (exact-nested_loop names plan.levels report) at_id in
    let at_cost : Exact with_cost = exact-put (codes "cost") (string (decimal plan.cost)) with_loop refl at_loop in
    exact-steps report with_cost at_cost

pub document_is_exact : (names : List TableNames) (plan : Plan) (report : Option Report) → has_float (document names plan report) ≡ false
unfolding document
document_is_exact names plan report =
    exact-put (codes "query_block") (object (block_members names plan report)) no_members (exact-block names plan report) refl
