-- What the table has of each desk, and which session each seat stands for, as one seat's view and one word change.
use Rattle.std.proofs.Common.{◌≡◌, ◌≢◌, ℕ, ◌+◌, ◌<◌, ◌≤◌, eqb, ne_eqb, eq-eqb, cond, ◌&&◌, List, [], ◌∷◌, length, get_or, set, sum_by, refl, ap, ◌∙◌, arith, get_or-set_other}
use Rattle.std.specs.Prelude.{nat_lt}
use mathlib.Core.Option.{some}
use lib.ListN.{get_elem?}
use Rattle.std.proofs.lemmas.Bool.Decides.{nat_tests}
use Rattle.std.proofs.lemmas.List.Sums.{sum_by-cons, get_or-le-sum_by}
use Rattle.sa_desk.specs.Contents.{Contents}
use Rattle.sa_board.specs.declared.view.Known.{Known}
use Rattle.sa_board.specs.declared.view.View.{View}
use Rattle.sa_board.specs.View.{has_out, holders, stands_for, standing, is_given}
use Rattle.sa_board.specs.Rule.{Table, Lock, lock_at, IsKept}
use Rattle.sa_board.proofs.Lists.{sum-set, part_le, parts_le, bit_le}

-- A lock is what its parts are.
pub lock_is : (a b : Lock) → a.turn ≡ b.turn → a.count ≡ b.count → a.slot ≡ b.slot → a.holders ≡ b.holders → a ≡ b
lock_is a b turn count slot holders = λ k. record { turn = turn k; count = count k; slot = slot k; holders = holders k }

-- as 1 or 0, whether the seat holds the desk at an index
abbrev pub out_bit : ℕ → View → ℕ
out_bit index view = cond (has_out index view) 1 0

pub out_bit-yes : (index : ℕ) (view : View) → view.out ≡ index + 1 → out_bit index view ≡ 1
out_bit-yes index view is = ap (λ b. cond b 1 0) (eq-eqb view.out (index + 1) is)

pub out_bit-no : (index : ℕ) (view : View) → view.out ≢ index + 1 → out_bit index view ≡ 0
out_bit-no index view isnt = ap (λ b. cond b 1 0) (ne_eqb view.out (index + 1) isnt)

-- One seat's view has changed.
module _ (views : List View) (id : ℕ) (before after : View) (stands : get_elem? views id ≡ some before) where
  pub holders-set : (index : ℕ) → holders index (set views id after) + out_bit index before ≡ holders index views + out_bit index after
  holders-set index = sum-set (out_bit index) views id before after stands

  -- A seat that held the desk before and does now, or neither, leaves as many holders.
  pub holders-same : (index : ℕ) → out_bit index after ≡ out_bit index before → holders index (set views id after) ≡ holders index views
  holders-same index same = let sum = holders-set index in omega arith

  pub standing-same : (session : ℕ) → stands_for session after ≡ stands_for session before → standing session (set views id after) ≡ standing session views
  standing-same session same = let sum = sum-set (stands_for session) views id before after stands in omega arith

-- A desk whose words are not the one that changed has the same lock.
pub lock-else : (desks : ℕ) (table next : Table) (word new index : ℕ) → next.words ≡ set table.words word new → index ≢ word → desks + index ≢ word
    → get_elem? next.homes index ≡ get_elem? table.homes index → holders index next.views ≡ holders index table.views → lock_at desks next index ≡ lock_at desks table index
lock-else desks table next word new index words turn count slot held =
    lock_is (lock_at desks next index) (lock_at desks table index)
    (ap (λ (l : List ℕ). get_or l index 0) words ∙ get_or-set_other table.words word index new 0 turn)
    (ap (λ (l : List ℕ). get_or l (desks + index) 0) words ∙ get_or-set_other table.words word (desks + index) new 0 count)
    slot
    held

-- The only session of a seat that stands for one.
pub stands_for-alone : (session : ℕ) (view : View) (one : Known) → view.known ≡ one ∷ [] → stands_for session view ≡ cond (eqb one.session session) 1 0
stands_for-alone session view one alone =
    let count : Known → ℕ = λ known. cond (eqb known.session session) 1 0 in
    ap (sum_by count) alone ∙ sum_by-cons count one [] ∙ omega arith

-- A number counts once where it was given.
pub given-bounds : (made session : ℕ) → 1 ≤ is_given made session → (1 ≤ session) × (session ≤ made)
given-bounds made session given = (grind (arith, nat_tests), grind (arith, nat_tests))

pub given-le : (made session : ℕ) → is_given made session ≤ 1
given-le made session = bit_le (nat_lt 0 session && nat_lt session (made + 1))

-- Which sessions the seats stand for.
module _ (founded : List Contents) (table : Table) (kept : IsKept founded table) where
  -- A session of a seat has a number that was given.
  pub known-given : (seat k : ℕ) (view : View) (default : Known) → get_elem? table.views seat ≡ some view → k < length view.known
      → (1 ≤ (get_or view.known k default).session) × ((get_or view.known k default).session ≤ kept.made)
  known-given seat k view default at lt =
      let session = (get_or view.known k default).session in
      let count : Known → ℕ = λ known. cond (eqb known.session session) 1 0 in
      let own : count (get_or view.known k default) ≡ 1 = ap (λ b. cond b 1 0) (eq-eqb session session refl) in
      let here : count (get_or view.known k default) ≤ stands_for session view = get_or-le-sum_by count view.known k default lt in
      let part : stands_for session view ≤ standing session table.views = part_le (stands_for session) table.views seat view at in
      given-bounds kept.made session (let sum = kept.once session in omega arith)

  -- No other seat stands for the session of a seat that stands for one.
  pub known-apart : (id seat k : ℕ) (view other : View) (one default : Known) → get_elem? table.views id ≡ some view → view.known ≡ one ∷ []
      → seat ≢ id → get_elem? table.views seat ≡ some other → k < length other.known → (get_or other.known k default).session ≢ one.session
  known-apart id seat k view other one default stands alone apart at lt same =
      let session = one.session in
      let count : Known → ℕ = λ known. cond (eqb known.session session) 1 0 in
      let own : stands_for session view ≡ 1 = stands_for-alone session view one alone ∙ ap (λ b. cond b 1 0) (eq-eqb session session refl) in
      let it : count (get_or other.known k default) ≡ 1 = ap (λ b. cond b 1 0) (eq-eqb (get_or other.known k default).session session same) in
      let there : count (get_or other.known k default) ≤ stands_for session other = get_or-le-sum_by count other.known k default lt in
      let both = parts_le (stands_for session) table.views id seat view other apart stands at in
      let sum = kept.once session in
      let most = given-le kept.made session in
      absurd (omega arith)

  -- No other seat holds the desk that a seat holds.
  pub out-apart : (id seat index : ℕ) (view other : View) → index < length founded → get_elem? table.views id ≡ some view → view.out ≡ index + 1
      → seat ≢ id → get_elem? table.views seat ≡ some other → other.out ≢ index + 1
  out-apart id seat index view other within stands out apart at out_there =
      let own = out_bit-yes index view out in
      let its = out_bit-yes index other out_there in
      let both = parts_le (out_bit index) table.views id seat view other apart stands at in
      let lock = kept.locks index within in
      let held = lock.held in
      let once = lock.once in
      absurd (omega arith)
