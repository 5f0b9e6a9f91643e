-- A pass takes a desk out and brings it home.
use Rattle.std.proofs.Common.{◌≡◌, ℕ, suc, ◌+◌, ◌-◌, ◌*◌, ◌^◌, ◌<◌, ◌≤◌, false, Option, Some, None, List, [], ◌∷◌, ◌++◌, length, drop, get_or, set, map, unwrap_or, refl, sym, ap, ap₂, subst, subst₂, ◌∙◌, arith, append-nil, length-append, length-set, get_or-set_same}
use Rattle.std.proofs.Math.Seq.{drop-length}
use Rattle.std.proofs.lemmas.List.Elements.{All-nil}
use Rattle.sa_desk.specs.declared.entry.Entry.{Entry}
use Rattle.sa_desk.specs.Contents.{Contents, IsSound}
use Rattle.sa_desk.specs.New.{no_desk}
use Rattle.sa_desk.specs.World.{made_by, Leaves}
use Rattle.sa_board.specs.declared.view.Known.{Known}
use Rattle.sa_board.specs.declared.view.View.{View}
use Rattle.sa_board.specs.declared.pass.Pass.TheInside.{Inside}
use Rattle.sa_board.specs.View.{desk_in}
use Rattle.sa_board.specs.Rule.{Fits}
use Rattle.sa_board.specs.Steps.{Sitter, IsIdle, Took, took, meets, adds, raised, released, Raises, Returns}
use Rattle.sa_board.specs.Pass.{PassState, known_of, met_at, out_desk, new_entries, IsOut, HasTaken, at_home}
use Rattle.sa_board.specs.inner.Pass.{nobody_known, one_of, state_of, away_with, IsPass}
use Rattle.sa_board.proofs.Histories.{history-few}
use Rattle.sa_board.proofs.Lists.{alone_is}

-- A pass with no desk out has an idle seat.
pub IsIdle-pass : (pass : Inside) → IsPass pass → pass.out ≡ 0 → IsIdle pass.seat.me
IsIdle-pass pass is none = record {
  away = is.away ∙ ap away_with none;
  out = is.out ∙ none;
  one = one_of pass.seat.me.0;
  alone = is.alone;
}

-- Its seat stands for its session alone.
pub known-pass : (pass : Inside) → IsPass pass → pass.seat.me.0.known ≡ known_of (state_of pass) ∷ []
known-pass pass is =
    let one = one_of pass.seat.me.0 in
    let same : one ≡ known_of (state_of pass) = λ k. record { session = is.session k; met = one.met; mine = one.mine } in
    is.alone ∙ ap (λ (known : Known). known ∷ []) same

-- A desk fits itself, with no new entries.
leaves-same : (desk : Contents) (session number : ℕ) → IsSound desk → Leaves desk desk session number []
leaves-same desk session number sound = record {
  sound = sound;
  terms = refl;
  shares = refl;
  grown = sym (append-nil desk.journal);
  standing = All-nil (λ (entry : Entry). entry.desk ≡ desk.terms.desk);
  own = All-nil (λ (entry : Entry). entry.actor ≡ session);
  numbered = refl;
  quiet = λ other least apart. refl;
}

-- What the code of a pass has done when it has taken a desk out.
pub record TakesOut (was now : Inside) (number index : ℕ) (me : Sitter) (taken : Contents) : Type 0 where
  pub index_is : index + 1 ≡ number
  pub idle : was.out ≡ 0
  pub took_it : Took index was.seat.me me
  pub at_front : me.1 ≡ (index, Some taken) ∷ []
  pub me_is : now.seat.me ≡ (me.0, (index, None) ∷ [])
  pub table_is : now.seat.table_id ≡ was.seat.table_id
  pub session_is : now.session ≡ was.session
  pub next_is : now.next ≡ was.next
  pub out_is : now.out ≡ number
  pub desk_is : now.desk ≡ Some taken
  pub found_is : now.found ≡ length taken.journal
  pub called_is : now.called ≡ false

module _ (was now : Inside) (number index : ℕ) (me : Sitter) (taken : Contents) (is : IsPass was) (takes : TakesOut was now number index me taken) where
  abbrev one : Known
  one = one_of was.seat.me.0

  abbrev before : PassState
  before = state_of was

  abbrev later : PassState
  later = record before { met = set before.met (number - 1) taken; out = number; desk = Some taken; called = false }

  index-number : index ≡ number - 1
  index-number = let index_is = takes.index_is in omega arith

  found-taken : takes.took_it.found ≡ taken
  found-taken =
      let whole : (index, Some takes.took_it.found) ∷ [] ≡ (index, Some taken) ∷ [] = sym (ap (λ (m : Sitter). m.1) takes.took_it.after_is) ∙ takes.at_front in
      ap (λ (l : List (ℕ × Option Contents)). unwrap_or (get_or l 0 (index, None)).1 no_desk) whole

  one-took : takes.took_it.one ≡ one
  one-took = alone_is takes.took_it.one one (sym takes.took_it.alone ∙ is.alone)

  view_is : now.seat.me.0 ≡ took index taken was.seat.me.0
  view_is = ap (λ (m : Sitter). m.0) takes.me_is ∙ ap (λ (m : Sitter). m.0) takes.took_it.after_is ∙ ap (λ (d : Contents). took index d was.seat.me.0) found-taken

  known_is : now.seat.me.0.known ≡ meets index taken one ∷ []
  known_is = ap (λ (v : View). v.known) view_is ∙ ap (map (meets index taken)) is.alone

  one_is : one_of now.seat.me.0 ≡ meets index taken one
  one_is = ap (λ (l : List Known). get_or l 0 nobody_known) known_is

  there : number - 1 < length one.met
  there =
      let inside = takes.took_it.there in
      let same = ap (λ (k : Known). length k.met) one-took in
      let index_is = takes.index_is in
      omega arith

  taken-there : desk_in (set one.met (number - 1) taken) (number - 1) ≡ taken
  taken-there = get_or-set_same one.met (number - 1) taken no_desk there

  later_is : state_of now ≡ later
  later_is = λ k. record {
    table = takes.table_is k;
    session = takes.session_is k;
    met = (ap (λ (m : Known). m.met) one_is ∙ ap (λ (i : ℕ). set one.met i taken) index-number) k;
    mine = ap (λ (m : Known). m.mine) one_is k;
    out = takes.out_is k;
    desk = takes.desk_is k;
    called = takes.called_is k;
  }

  fits : Fits was.session number one.mine (met_at before number) taken
  fits =
      let first : Fits one.session (index + 1) one.mine (desk_in one.met index) taken =
      subst (λ (d : Contents). Fits one.session (index + 1) one.mine (desk_in one.met index) d) found-taken
      (subst (λ (m : Known). Fits m.session (index + 1) m.mine (desk_in m.met index) takes.took_it.found) one-took takes.took_it.fits) in
      subst (λ (s : ℕ). Fits s number one.mine (met_at before number) taken) is.session
      (subst₂ (λ (n i : ℕ). Fits one.session n one.mine (desk_in one.met i) taken) takes.index_is index-number first)

  out_later : IsOut later
  out_later =
      let index_is = takes.index_is in
      let inside = there in
      let long : length (set one.met (number - 1) taken) ≡ length one.met = length-set one.met (number - 1) taken in
      let sound : IsSound taken = subst IsSound found-taken takes.took_it.sound in
      let none : new_entries later ≡ [] = ap (λ (d : Contents). drop (length d.journal) taken.journal) taken-there ∙ drop-length taken.journal in
      record {
        desk = refl;
        least = omega arith;
        most = omega arith;
        sound = subst IsSound (sym taken-there) sound;
        number = ap (λ (d : Contents). d.terms.desk) taken-there ∙ sym (ap (λ (d : Contents). d.terms.desk) found-taken) ∙ takes.took_it.number ∙ takes.index_is;
        own = ap (λ (d : Contents). made_by was.session d.journal) taken-there ∙ sym fits.same_own ∙ fits.own;
        leaves = subst₂ (λ (d : Contents) (new : List Entry). Leaves d taken was.session (length one.mine + 1) new) (sym taken-there) (sym none) (leaves-same taken was.session (length one.mine + 1) sound);
        uncalled = λ fresh. sym taken-there;
        few = subst (λ (m : Known). length m.mine ≤ 16 * 2 ^ 20) one-took takes.took_it.few;
      }

  pub IsOut-taken : IsOut (state_of now)
  IsOut-taken = subst IsOut (sym later_is) out_later

  pub HasTaken-taken : HasTaken (state_of was) (state_of now) number
  HasTaken-taken = record { found = taken; later_is = later_is; fits = fits }

  pub IsPass-taken : IsPass now
  IsPass-taken = record {
    alone = known_is ∙ ap (λ (m : Known). m ∷ []) (sym one_is);
    session = ap (λ (m : Known). m.session) one_is ∙ is.session ∙ sym takes.session_is;
    next = takes.next_is ∙ is.next ∙ sym (ap (λ (m : Known). length m.mine + 1) one_is);
    out = ap (λ (v : View). v.out) view_is ∙ takes.index_is ∙ sym takes.out_is;
    away = ap (λ (m : Sitter). m.1) takes.me_is ∙ ap away_with (let index_is = takes.index_is in let same : suc index ≡ number = omega arith in same ∙ sym takes.out_is);
    none = λ zero. let out_is = takes.out_is in let index_is = takes.index_is in absurd (omega arith);
    found = λ least. takes.found_is ∙ sym (ap (λ (p : PassState). length (met_at p p.out).journal) later_is ∙ ap (λ (d : Contents). length d.journal) taken-there);
    is_out = λ least. IsOut-taken;
  }

-- A pass has this desk out.
module _ (pass : Inside) (is : IsPass pass) (index : ℕ) (left : Contents) (at : index + 1 ≡ pass.out) (held : pass.desk ≡ Some left) where
  abbrev here : Known
  here = one_of pass.seat.me.0

  abbrev state : PassState
  state = state_of pass

  out_here : IsOut state
  out_here = is.is_out (omega arith)

  index_at : index ≡ pass.out - 1
  index_at = omega arith

  left_is : out_desk state ≡ left
  left_is = ap (λ (d : Option Contents). unwrap_or d no_desk) held

  met_here : desk_in here.met index ≡ met_at state pass.out
  met_here = ap (desk_in here.met) index_at

  pub inside-met : index < length here.met
  inside-met = let most = out_here.most in omega arith

  new_is : new_entries state ≡ drop (length (desk_in here.met index).journal) left.journal
  new_is = ap₂ (λ (met desk : Contents). drop (length met.journal) desk.journal) (sym met_here) left_is

  leaves_here : Leaves (desk_in here.met index) left here.session (length here.mine + 1) (new_entries state)
  leaves_here =
      subst (λ (s : ℕ). Leaves (desk_in here.met index) left s (length here.mine + 1) (new_entries state)) (sym is.session)
      (subst₂ (λ (met desk : Contents). Leaves met desk pass.session (length here.mine + 1) (new_entries state)) (sym met_here) left_is out_here.leaves)

  long-left : length left.journal ≡ length (desk_in here.met index).journal + length (new_entries state)
  long-left = ap length leaves_here.grown ∙ length-append (desk_in here.met index).journal (new_entries state)

  found-here : pass.found ≡ length (desk_in here.met index).journal
  found-here = is.found (omega arith) ∙ ap (λ (d : Contents). length d.journal) (sym met_here)

  -- It has no fewer entries than when it was taken, and numbers are left.
  pub found-le : pass.found ≤ length left.journal
  found-le = let long = long-left in let found = found-here in omega arith

  pub next-fits : pass.next + (length left.journal - pass.found) < 2 ^ 32
  next-fits =
      let few = out_here.few in
      let next = is.next in
      let short = history-few left leaves_here.sound in
      omega arith

  pub Raises-pass : (count : ℕ) → count ≡ length left.journal - pass.found → Raises index pass.seat.me left count
  Raises-pass count count_is = record {
    out = is.out ∙ sym at;
    away = is.away ∙ ap away_with (let same : pass.out ≡ suc index = omega arith in same);
    one = here;
    alone = is.alone;
    entries = new_entries state;
    leaves = leaves_here;
    counted = (let long = long-left in let found = found-here in omega arith);
  }

  -- The seat once the entries are counted, and once the desk is home.
  module _ (me : Sitter) (me_is : me ≡ (raised index left pass.seat.me.0, (index, Some left) ∷ [])) where
    known_after : me.0.known ≡ adds index left here ∷ []
    known_after = ap (λ (m : Sitter). m.0.known) me_is ∙ ap (map (adds index left)) is.alone

    pub Returns-pass : Returns index me
    Returns-pass = record {
      out = ap (λ (m : Sitter). m.0.out) me_is ∙ is.out ∙ sym at;
      one = adds index left here;
      alone = known_after;
      back = ap (λ (m : Sitter). m.1) me_is ∙ ap (λ (d : Contents). (index, Some d) ∷ []) (sym (get_or-set_same here.met index left no_desk inside-met));
    }

    -- What the code of the pass has done then.
    module _ (now : Inside) (now_me : now.seat.me ≡ (released me.0, [])) (table_is : now.seat.table_id ≡ pass.seat.table_id) (session_is : now.session ≡ pass.session)
        (next_is : now.next ≡ pass.next + (length left.journal - pass.found)) (out_is : now.out ≡ 0) (desk_is : now.desk ≡ None) (called_is : now.called ≡ false) where
      known_now : now.seat.me.0.known ≡ adds index left here ∷ []
      known_now = ap (λ (m : Sitter). m.0.known) now_me ∙ known_after

      one_now : one_of now.seat.me.0 ≡ adds index left here
      one_now = ap (λ (l : List Known). get_or l 0 nobody_known) known_now

      mine_now : (adds index left here).mine ≡ here.mine ++ new_entries state
      mine_now = ap (λ (new : List Entry). here.mine ++ new) (sym new_is)

      pub IsPass-home : IsPass now
      IsPass-home = record {
        alone = known_now ∙ ap (λ (m : Known). m ∷ []) (sym one_now);
        session = ap (λ (m : Known). m.session) one_now ∙ is.session ∙ sym session_is;
        next =
            (let long = long-left in
            let found = found-here in
            let next = is.next in
            let count : length (one_of now.seat.me.0).mine ≡ length here.mine + length (new_entries state) =
            ap (λ (m : Known). length m.mine) one_now ∙ ap length mine_now ∙ length-append here.mine (new_entries state) in
            omega arith);
        out = ap (λ (m : Sitter). m.0.out) now_me ∙ sym out_is;
        away = ap (λ (m : Sitter). m.1) now_me ∙ ap away_with (sym out_is);
        none = λ zero. desk_is;
        found = λ least. absurd (omega arith);
        is_out = λ least. absurd (omega arith);
      }

      pub home_is : state_of now ≡ at_home state
      home_is = λ k. record {
        table = table_is k;
        session = session_is k;
        met = (ap (λ (m : Known). m.met) one_now ∙ ap₂ (λ (i : ℕ) (d : Contents). set here.met i d) index_at (sym left_is)) k;
        mine = (ap (λ (m : Known). m.mine) one_now ∙ mine_now) k;
        out = out_is k;
        desk = desk_is k;
        called = called_is k;
      }
