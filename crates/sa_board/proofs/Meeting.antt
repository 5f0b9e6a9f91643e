-- What a session has met at the desks, as they go on.
use Rattle.std.proofs.Common.{◌≡◌, ◌≢◌, ℕ, ◌+◌, ◌<◌, ◌≤◌, eqb, ne_eqb, eq-eqb, true, false, List, [], ◌∷◌, ◌++◌, length, drop, set, All, sum_by, refl, sym, ap, ap₂, subst, subst₂, ◌∙◌, arith, append-nil, append_assoc, length-append, length-set, get_or-set_same, get_or-set_other}
use Rattle.std.specs.List.{count_by}
use Rattle.std.proofs.Math.Seq.{drop-append_seam}
use Rattle.std.proofs.lemmas.List.Elements.{All-append, All-weaker, filter-append}
use Rattle.std.proofs.lemmas.List.Sums.{sum_by-cons, length-filter, count_by-le-length}
use Rattle.sa_desk.specs.declared.entry.Entry.{Entry}
use Rattle.sa_desk.specs.Contents.{Contents}
use Rattle.sa_desk.specs.New.{no_desk}
use Rattle.sa_desk.specs.World.{Leaves, made_by, standing_on}
use Rattle.sa_desk.proofs.Numbered.{AreNumbered-append, filter-nothing, filter-everything}
use Rattle.sa_desk.proofs.Sums.{sum_below-le, sum_below-constant, sum_by-parts, part, Within}
use Rattle.sa_board.specs.declared.view.Known.{Known}
use Rattle.sa_board.specs.View.{desk_in}
use Rattle.sa_board.specs.Rule.{Fits, StandsThere, IsKnown}
use Rattle.sa_board.specs.Steps.{meets}
use Rattle.sa_board.proofs.Lists.{at_or_else}

-- What the desk holds now fits itself.
pub Fits-now : (session desk : ℕ) (mine : List Entry) (met now : Contents) → Fits session desk mine met now → Fits session desk mine now now
Fits-now session desk mine met now fits = record {
  begins = ([], sym (append-nil now.journal));
  same_own = refl;
  quiet = refl;
  own = sym fits.same_own ∙ fits.own;
  terms = refl;
  shares = refl;
}

-- The entries of one session, and those on one desk, of entries that are all of one session or all on one desk.
pub made_by-others : (session by : ℕ) (entries : List Entry) → All (λ entry. entry.actor ≡ by) entries → session ≢ by → made_by session entries ≡ []
made_by-others session by entries own apart =
    filter-nothing (λ (entry : Entry). eqb entry.actor session) entries
    (All-weaker (λ (entry : Entry). entry.actor ≡ by) (λ (entry : Entry). eqb entry.actor session ≡ false)
    (λ entry is. ne_eqb entry.actor session (λ same. apart (sym same ∙ is))) entries own)

pub made_by-own : (session : ℕ) (entries : List Entry) → All (λ entry. entry.actor ≡ session) entries → made_by session entries ≡ entries
made_by-own session entries own =
    filter-everything (λ (entry : Entry). eqb entry.actor session) entries
    (All-weaker (λ (entry : Entry). entry.actor ≡ session) (λ (entry : Entry). eqb entry.actor session ≡ true)
    (λ entry is. eq-eqb entry.actor session is) entries own)

pub standing_on-here : (desk : ℕ) (entries : List Entry) → All (λ entry. entry.desk ≡ desk) entries → standing_on desk entries ≡ entries
standing_on-here desk entries there =
    filter-everything (λ (entry : Entry). eqb entry.desk desk) entries
    (All-weaker (λ (entry : Entry). entry.desk ≡ desk) (λ (entry : Entry). eqb entry.desk desk ≡ true)
    (λ entry is. eq-eqb entry.desk desk is) entries there)

pub standing_on-elsewhere : (desk other : ℕ) (entries : List Entry) → All (λ entry. entry.desk ≡ other) entries → desk ≢ other → standing_on desk entries ≡ []
standing_on-elsewhere desk other entries there apart =
    filter-nothing (λ (entry : Entry). eqb entry.desk desk) entries
    (All-weaker (λ (entry : Entry). entry.desk ≡ other) (λ (entry : Entry). eqb entry.desk desk ≡ false)
    (λ entry is. ne_eqb entry.desk desk (λ same. apart (sym same ∙ is))) entries there)

-- A call of a session has led from one desk to the next.
module _ (before left : Contents) (by number : ℕ) (entries : List Entry) (leaves : Leaves before left by number entries) where
  pub made_by-left : (session : ℕ) → made_by session left.journal ≡ made_by session before.journal ++ made_by session entries
  made_by-left session =
      ap (made_by session) leaves.grown ∙ filter-append (λ (entry : Entry). eqb entry.actor session) before.journal entries

  -- The entries of others are the same.
  pub made_by-left_others : (session : ℕ) → session ≢ by → made_by session left.journal ≡ made_by session before.journal
  made_by-left_others session apart =
      made_by-left session
      ∙ ap (λ more. made_by session before.journal ++ more) (made_by-others session by entries leaves.own apart)
      ∙ append-nil (made_by session before.journal)

  -- What another session had met fits what the call has left.
  pub Fits-others : (session desk : ℕ) (mine : List Entry) (met : Contents) → 1 ≤ session → session ≢ by → Fits session desk mine met before → Fits session desk mine met left
  Fits-others session desk mine met least apart fits = record {
    begins = (
      fits.begins.0 ++ entries,
      leaves.grown ∙ ap (λ start. start ++ entries) fits.begins.1 ∙ append_assoc met.journal fits.begins.0 entries,
    );
    same_own = fits.same_own ∙ sym (made_by-left_others session apart);
    quiet = fits.quiet ∙ sym (leaves.quiet session least apart);
    own = fits.own;
    terms = fits.terms ∙ sym leaves.terms;
    shares = fits.shares ∙ sym leaves.shares;
  }

  -- What the session itself has left fits itself, with the new entries.
  pub Fits-own : (desk : ℕ) (mine : List Entry) (met : Contents) → before.terms.desk ≡ desk → Fits by desk mine met before → Fits by desk (mine ++ entries) left left
  Fits-own desk mine met is fits =
      let standing : All (λ (entry : Entry). entry.desk ≡ desk) entries = subst (λ (at : ℕ). All (λ (entry : Entry). entry.desk ≡ at) entries) is leaves.standing in
      record {
        begins = ([], sym (append-nil left.journal));
        same_own = refl;
        quiet = refl;
        own = made_by-left by
            ∙ ap₂ ◌++◌ (sym fits.same_own ∙ fits.own) (made_by-own by entries leaves.own ∙ sym (standing_on-here desk entries standing))
            ∙ sym (filter-append (λ (entry : Entry). eqb entry.desk desk) mine entries);
        terms = refl;
        shares = refl;
      }

  -- What it has met at other desks fits with the new entries too.
  pub Fits-elsewhere : (session desk : ℕ) (mine : List Entry) (met now : Contents) → desk ≢ before.terms.desk → Fits session desk mine met now → Fits session desk (mine ++ entries) met now
  Fits-elsewhere session desk mine met now apart fits = record {
    begins = fits.begins;
    same_own = fits.same_own;
    quiet = fits.quiet;
    own = fits.own
        ∙ sym (append-nil (standing_on desk mine))
        ∙ ap (λ more. standing_on desk mine ++ more) (sym (standing_on-elsewhere desk before.terms.desk entries leaves.standing apart))
        ∙ sym (filter-append (λ (entry : Entry). eqb entry.desk desk) mine entries);
    terms = fits.terms;
    shares = fits.shares;
  }

-- A session has met what a desk holds.
pub IsKnown-met : (now : List Contents) (one : Known) (index : ℕ) → index < length now → IsKnown now one → IsKnown now (meets index (desk_in now index) one)
IsKnown-met now one index within is =
    let found = desk_in now index in
    let wide = is.wide in
    record {
      wide = length-set one.met index found ∙ is.wide;
      fits = λ other lt. at_or_else
          (λ (at : ℕ). at < length now → Fits one.session (at + 1) one.mine (desk_in (set one.met index found) at) (desk_in now at))
          index other
          (λ here. subst (λ (met : Contents). Fits one.session (index + 1) one.mine met found) (sym (get_or-set_same one.met index found no_desk (omega arith))) (Fits-now one.session (index + 1) one.mine (desk_in one.met index) found (is.fits index within)))
          (λ apart there. subst (λ (met : Contents). Fits one.session (other + 1) one.mine met (desk_in now other)) (sym (get_or-set_other one.met index other found no_desk apart)) (is.fits other there))
          lt;
      numbered = is.numbered;
      there = is.there;
    }

-- A call has left this of the desk at an index.
module _ (now : List Contents) (index : ℕ) (left : Contents) (by number : ℕ) (entries : List Entry) (within : index < length now) (leaves : Leaves (desk_in now index) left by number entries) where
  -- another session
  pub IsKnown-others : (one : Known) → 1 ≤ one.session → one.session ≢ by → IsKnown now one → IsKnown (set now index left) one
  IsKnown-others one least apart is =
      let long : length (set now index left) ≡ length now = length-set now index left in
      record {
        wide = is.wide ∙ sym long;
        fits = λ other lt. at_or_else
            (λ (at : ℕ). at < length now → Fits one.session (at + 1) one.mine (desk_in one.met at) (desk_in (set now index left) at))
            index other
            (λ here. subst (λ (new : Contents). Fits one.session (index + 1) one.mine (desk_in one.met index) new) (sym (get_or-set_same now index left no_desk within))
            (Fits-others (desk_in now index) left by number entries leaves one.session (index + 1) one.mine (desk_in one.met index) least apart (is.fits index within)))
            (λ other_desk there. subst (λ (new : Contents). Fits one.session (other + 1) one.mine (desk_in one.met other) new) (sym (get_or-set_other now index other left no_desk other_desk)) (is.fits other there))
            (omega arith);
        numbered = is.numbered;
        there = subst (λ (n : ℕ). All (StandsThere n) one.mine) (sym long) is.there;
      }

  -- the session itself, with any list that is its entries and then the new ones
  pub IsKnown-own : (one : Known) (mine : List Entry) → by ≡ one.session → number ≡ length one.mine + 1 → (desk_in now index).terms.desk ≡ index + 1
      → mine ≡ one.mine ++ entries → IsKnown now one → IsKnown (set now index left) (record { session = one.session; met = set one.met index left; mine = mine })
  IsKnown-own one mine by_is number_is at_index mine_is is =
      let long : length (set now index left) ≡ length now = length-set now index left in
      let wide = is.wide in
      let from : number ≡ 1 + length one.mine = omega arith in
      let own : Leaves (desk_in now index) left one.session (1 + length one.mine) entries = subst₂ (λ (b n : ℕ). Leaves (desk_in now index) left b n entries) by_is from leaves in
      let met = set one.met index left in
      let whole : IsKnown (set now index left) (record { session = one.session; met = met; mine = one.mine ++ entries }) =
      record {
        wide = length-set one.met index left ∙ is.wide ∙ sym long;
        fits = λ other lt. at_or_else
            (λ (at : ℕ). at < length now → Fits one.session (at + 1) (one.mine ++ entries) (desk_in (set one.met index left) at) (desk_in (set now index left) at))
            index other
            (λ here. subst₂ (λ (m n : Contents). Fits one.session (index + 1) (one.mine ++ entries) m n) (sym (get_or-set_same one.met index left no_desk (omega arith))) (sym (get_or-set_same now index left no_desk within))
            (Fits-own (desk_in now index) left one.session (1 + length one.mine) entries own (index + 1) one.mine (desk_in one.met index) at_index (is.fits index within)))
            (λ apart there. subst₂ (λ (m n : Contents). Fits one.session (other + 1) (one.mine ++ entries) m n) (sym (get_or-set_other one.met index other left no_desk apart)) (sym (get_or-set_other now index other left no_desk apart))
            (Fits-elsewhere (desk_in now index) left one.session (1 + length one.mine) entries own one.session (other + 1) one.mine (desk_in one.met other) (desk_in now other) (λ same. apart (omega arith)) (is.fits other there)))
            (omega arith);
        numbered = AreNumbered-append 1 one.mine entries is.numbered own.numbered;
        there = subst (λ (n : ℕ). All (StandsThere n) (one.mine ++ entries)) (sym long)
            (All-append (StandsThere (length now)) one.mine entries is.there
            (All-weaker (λ (entry : Entry). entry.desk ≡ (desk_in now index).terms.desk) (StandsThere (length now)) (λ entry at. record { least = omega arith; most = omega arith }) entries leaves.standing));
      } in
      subst (λ (list : List Entry). IsKnown (set now index left) (record { session = one.session; met = met; mine = list })) (sym mine_is) whole

  -- what `adds` puts last is the new entries
  pub adds-entries : (met : Contents) → met ≡ desk_in now index → drop (length met.journal) left.journal ≡ entries
  adds-entries met same =
      ap (λ (desk : Contents). drop (length desk.journal) left.journal) same
      ∙ ap (drop (length (desk_in now index).journal)) leaves.grown
      ∙ drop-append_seam (desk_in now index).journal entries

-- A sum of ones is a length.
length-sum : (entries : List Entry) → sum_by (λ entry. 1) entries ≡ length entries
length-sum [] = refl
length-sum (entry ∷ rest) = omega (arith, sum_by-cons (λ (entry : Entry). 1) entry rest, length-sum rest)

-- A session has few entries, since no history is long.
pub mine-few : (now : List Contents) (one : Known) → length now ≤ 16 → ((index : ℕ) → index < length now → length (desk_in now index).journal ≤ 1048576) → IsKnown now one
    → length one.mine ≤ 16777216
mine-few now one few short is =
    let key : Entry → ℕ = λ entry. entry.desk in
    let unit : Entry → ℕ = λ entry. 1 in
    let within : All (Within key unit (length now)) one.mine =
    All-weaker (StandsThere (length now)) (Within key unit (length now)) (λ entry there. (there.least, there.most)) one.mine is.there in
    let parts = sum_by-parts key unit one.mine (length now) within in
    let each : (index : ℕ) → index < length now → sum_by (part key unit (index + 1)) one.mine ≤ 1048576 = λ index lt.
    let fits = is.fits index lt in
    let met = desk_in one.met index in
    let count : length (standing_on (index + 1) one.mine) ≡ sum_by (part key unit (index + 1)) one.mine = length-filter (λ (entry : Entry). eqb entry.desk (index + 1)) one.mine in
    let same : length (made_by one.session met.journal) ≡ length (standing_on (index + 1) one.mine) = ap length fits.own in
    let filtered : length (made_by one.session met.journal) ≡ count_by (λ (entry : Entry). eqb entry.actor one.session) met.journal = length-filter (λ (entry : Entry). eqb entry.actor one.session) met.journal in
    let some : count_by (λ (entry : Entry). eqb entry.actor one.session) met.journal ≤ length met.journal = count_by-le-length (λ (entry : Entry). eqb entry.actor one.session) met.journal in
    let whole : length (desk_in now index).journal ≡ length met.journal + length fits.begins.0 = ap length fits.begins.1 ∙ length-append met.journal fits.begins.0 in
    let most = short index lt in
    omega arith in
    let total = sum_below-le (λ (index : ℕ). sum_by (part key unit (index + 1)) one.mine) (λ (index : ℕ). 1048576) (length now) each in
    let bound = sum_below-constant 1048576 (length now) in
    let long = length-sum one.mine in
    omega arith
