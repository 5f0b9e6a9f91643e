-- One call of a desk that is out with a pass.
use Rattle.std.proofs.Common.{◌≡◌, ◌≢◌, ℕ, ◌+◌, ◌≤◌, eqb, eq-eqb, ne_eqb, ◌&&◌, not, Bool, true, false, inl, inr, List, [], ◌++◌, length, drop, if◌then◌else◌, Option, Some, unwrap_or, refl, sym, ap, ap₂, subst, subst₂, ◌∙◌, arith, append-nil}
use Rattle.std.proofs.Math.Seq.{drop-length, drop-append_seam}
use Rattle.std.specs.Prelude.{nat_lt}
use Rattle.std.proofs.lemmas.Bool.{cases_eq}
use Rattle.std.proofs.lemmas.Bool.Decides.{nat_tests}
use Rattle.std.proofs.lemmas.List.Elements.{All-nil}
use Rattle.sa_desk.specs.declared.entry.Entry.{Entry}
use Rattle.sa_desk.specs.declared.stamp.Caller.{Caller}
use Rattle.sa_desk.specs.declared.stamp.Stamp.{Stamp}
use Rattle.sa_desk.specs.Contents.{Contents, IsSound}
use Rattle.sa_desk.specs.New.{no_desk}
use Rattle.sa_desk.specs.World.{quiet_of, no_quiet, made_by, standing_on, Leaves, Begins, next_stamp, Meets, IsCall}
use Rattle.sa_board.specs.Pass.{PassState, met_at, out_desk, new_entries, known_desk, is_callable, world_of, IsOut}

-- What is chosen where two numbers are the same, and where they aren't.
module _ {X : Type 0} (a b : ℕ) (x y : X) where
  chosen : a ≡ b → (if eqb a b then x else y) ≡ x
  chosen same = ap (λ (test : Bool). if test then x else y) (eq-eqb a b same)

  other : a ≢ b → (if eqb a b then x else y) ≡ y
  other apart = ap (λ (test : Bool). if test then x else y) (ne_eqb a b apart)

-- A desk that was called isn't called again.
called-once : (a b c : Bool) → (a && b && (c && not true)) ≡ true → {P : Type 0} → P
called-once true true true is = absurd (cc is)
called-once true true false is = absurd (cc is)
called-once true false c is = absurd (cc is)
called-once false b c is = absurd (cc is)

module _ (pass : PassState) where
  pub known-out : known_desk pass pass.out ≡ out_desk pass
  known-out = chosen pass.out pass.out (out_desk pass) (met_at pass pass.out) refl

  pub known-else : (desk : ℕ) → desk ≢ pass.out → known_desk pass desk ≡ met_at pass desk
  known-else desk apart = other desk pass.out (out_desk pass) (met_at pass desk) apart

  pub own-mine : (world_of pass).mine pass.session ≡ pass.mine ++ new_entries pass
  own-mine = chosen pass.session pass.session (pass.mine ++ new_entries pass) [] refl

  pub others-mine : (session : ℕ) → session ≢ pass.session → (world_of pass).mine session ≡ []
  others-mine session apart = other session pass.session (pass.mine ++ new_entries pass) [] apart

  pub own-seen : (desk : ℕ) → (world_of pass).seen pass.session desk ≡ (known_desk pass desk).journal
  own-seen desk = chosen pass.session pass.session (known_desk pass desk).journal [] refl

  pub others-seen : (session desk : ℕ) → session ≢ pass.session → (world_of pass).seen session desk ≡ []
  others-seen session desk apart = other session pass.session (known_desk pass desk).journal [] apart

  pub own-quiet : (desk : ℕ) → (world_of pass).quiet pass.session desk ≡ quiet_of (known_desk pass desk) pass.session
  own-quiet desk = chosen pass.session pass.session (quiet_of (known_desk pass desk) pass.session) no_quiet refl

  pub others-quiet : (session desk : ℕ) → session ≢ pass.session → (world_of pass).quiet session desk ≡ no_quiet
  others-quiet session desk apart = other session pass.session (quiet_of (known_desk pass desk) session) no_quiet apart

-- A pass has a desk out that it hasn't called.
module _ (pass : PassState) (out : IsOut pass) (fresh : pass.called ≡ false) where
  uncalled : out_desk pass ≡ met_at pass pass.out
  uncalled = out.uncalled fresh

  pub no_new : new_entries pass ≡ []
  no_new = ap (λ (desk : Contents). drop (length (met_at pass pass.out).journal) desk.journal) uncalled ∙ drop-length (met_at pass pass.out).journal

  mine_is : (world_of pass).mine pass.session ≡ pass.mine
  mine_is = own-mine pass ∙ ap (λ (more : List Entry). pass.mine ++ more) no_new ∙ append-nil pass.mine

  known_is : known_desk pass pass.out ≡ met_at pass pass.out
  known_is = known-out pass ∙ uncalled

  -- Its session meets it.
  pub Meets-out : Meets (world_of pass) pass.out pass.session
  Meets-out = record {
    sound = subst IsSound (sym known_is) out.sound;
    number = ap (λ (desk : Contents). desk.terms.desk) known_is ∙ out.number;
    terms = refl;
    shares = refl;
    others = [];
    grown = sym (append-nil ((world_of pass).seen pass.session pass.out) ∙ own-seen pass pass.out);
    of_others = All-nil (λ (entry : Entry). entry.actor ≢ pass.session);
    own = ap (λ (desk : Contents). made_by pass.session desk.journal) known_is ∙ out.own ∙ ap (standing_on pass.out) (sym mine_is);
    counted = sym (own-quiet pass pass.out);
  }

  -- A call leaves this there.
  module _ (left : Contents) (entries : List Entry) (leaves : Leaves (met_at pass pass.out) left pass.session (length pass.mine + 1) entries) where
    abbrev later : PassState
    later = record pass { desk = Some left; called = true }

    new_is : new_entries later ≡ entries
    new_is = ap (drop (length (met_at pass pass.out).journal)) leaves.grown ∙ drop-append_seam (met_at pass pass.out).journal entries

    same_else : (desk : ℕ) → desk ≢ pass.out → known_desk later desk ≡ known_desk pass desk
    same_else desk apart = known-else later desk apart ∙ sym (known-else pass desk apart)

    -- What is the same of the desk that was called, and is known of the others, is the same of all.
    same_each : {X : Type 0} (f : Contents → X) → f left ≡ f (met_at pass pass.out) → (desk : ℕ) → f (known_desk later desk) ≡ f (known_desk pass desk)
    same_each f same desk =
        elim (cases_eq desk pass.out) [
          | inl here ↦ ap (λ (n : ℕ). f (known_desk later n)) here ∙ ap f (known-out later) ∙ same ∙ ap f (sym known_is) ∙ ap (λ (n : ℕ). f (known_desk pass n)) (sym here)
          | inr apart ↦ ap f (same_else desk apart)
        ]

    seen_more : (session desk : ℕ) → Begins ((world_of pass).seen session desk) ((world_of later).seen session desk)
    seen_more session desk =
        elim (cases_eq session pass.session) [
          | inl own ↦
              elim (cases_eq desk pass.out) [
                | inl here ↦ (
                  entries,
                  ap (λ (s : ℕ). (world_of later).seen s desk) own ∙ own-seen later desk ∙ ap (λ (n : ℕ). (known_desk later n).journal) here ∙ ap (λ (d : Contents). d.journal) (known-out later) ∙ leaves.grown
                      ∙ ap (λ (journal : List Entry). journal ++ entries) (sym (ap (λ (s : ℕ). (world_of pass).seen s desk) own ∙ own-seen pass desk ∙ ap (λ (n : ℕ). (known_desk pass n).journal) here ∙ ap (λ (d : Contents). d.journal) known_is)),
                )
                | inr apart ↦ (
                  [],
                  ap (λ (s : ℕ). (world_of later).seen s desk) own ∙ own-seen later desk ∙ ap (λ (d : Contents). d.journal) (same_else desk apart)
                      ∙ sym (own-seen pass desk) ∙ ap (λ (s : ℕ). (world_of pass).seen s desk) (sym own) ∙ sym (append-nil ((world_of pass).seen session desk)),
                )
              ]
          | inr apart ↦ ([], others-seen later session desk apart ∙ sym (others-seen pass session desk apart) ∙ sym (append-nil ((world_of pass).seen session desk)))
        ]

    pub IsCall-out : IsCall (world_of pass) (world_of later) pass.out pass.session entries left
    IsCall-out = record {
      met = Meets-out;
      leaves = subst (λ (before : Contents). Leaves before left pass.session (length ((world_of pass).mine pass.session) + 1) entries) (sym known_is)
          (subst (λ (list : List Entry). Leaves (met_at pass pass.out) left pass.session (length list + 1) entries) (sym mine_is) leaves);
      seen_is = own-seen later pass.out ∙ ap (λ (d : Contents). d.journal) (known-out later);
      counted_is = own-quiet later pass.out ∙ ap (λ (d : Contents). quiet_of d pass.session) (known-out later);
      mine_is = own-mine later ∙ ap (λ (more : List Entry). pass.mine ++ more) new_is ∙ ap (λ (list : List Entry). list ++ entries) (sym mine_is);
      seen_more = seen_more;
      others_mine = λ session apart. others-mine later session apart ∙ sym (others-mine pass session apart);
      others_quiet = λ session desk apart. others-quiet later session desk apart ∙ sym (others-quiet pass session desk apart);
      quiet_elsewhere = λ desk apart. own-quiet later desk ∙ ap (λ (d : Contents). quiet_of d pass.session) (same_else desk apart) ∙ sym (own-quiet pass desk);
      same_terms = same_each (λ (d : Contents). d.terms) leaves.terms;
      same_shares = same_each (λ (d : Contents). d.shares) leaves.shares;
      left_is = λ session is. called-once (eqb pass.out pass.out) (eqb session pass.session) (nat_lt 0 pass.out) is;
      elsewhere_is = λ desk session apart is. called-once (eqb desk pass.out) (eqb session pass.session) (nat_lt 0 pass.out) is;
      still = λ desk session is. called-once (eqb desk pass.out) (eqb session pass.session) (nat_lt 0 pass.out) is;
    }

    -- The desk is out as the call has left it.
    pub IsOut-called : IsOut later
    IsOut-called = record {
      desk = refl;
      least = out.least;
      most = out.most;
      sound = out.sound;
      number = out.number;
      own = out.own;
      leaves = subst (λ (new : List Entry). Leaves (met_at pass pass.out) left pass.session (length pass.mine + 1) new) (sym new_is) leaves;
      uncalled = λ is. absurd (cc is);
      few = out.few;
    }

-- A desk that is out and wasn't called may be called for the session.
pub may-out : (pass : PassState) → 1 ≤ pass.out → pass.called ≡ false → (world_of pass).may_call pass.out pass.session ≡ true
may-out pass least fresh =
    let some : nat_lt 0 pass.out ≡ true = grind (arith, nat_tests) in
    ap₂ (λ (a b : Bool). a && b && is_callable pass) (eq-eqb pass.out pass.out refl) (eq-eqb pass.session pass.session refl)
    ∙ ap₂ (λ (some called : Bool). some && not called) some fresh

-- Which desk may be called, and for whom.
pub record IsAllowed (pass : PassState) (desk session : ℕ) : Type 0 where
  pub desk_is : desk ≡ pass.out
  pub session_is : session ≡ pass.session
  pub least : 1 ≤ pass.out
  pub fresh : pass.called ≡ false

-- Two tests that are both passed.
both-pass : (a b : Bool) → (a && b) ≡ true → (a ≡ true) × (b ≡ true)
both-pass true b is = (refl, is)
both-pass false b is = absurd (cc is)

not-called : (called : Bool) → not called ≡ true → called ≡ false
not-called true is = absurd (cc is)
not-called false is = refl

pub allowed-is : (pass : PassState) (desk session : ℕ) → (world_of pass).may_call desk session ≡ true → IsAllowed pass desk session
allowed-is pass desk session may =
    elim (cases_eq desk pass.out) [
      | inl here ↦
          elim (cases_eq session pass.session) [
            | inl own ↦
                let whole : is_callable pass ≡ true = sym (ap₂ (λ (a b : Bool). a && b && is_callable pass) (eq-eqb desk pass.out here) (eq-eqb session pass.session own)) ∙ may in
                let parts = both-pass (nat_lt 0 pass.out) (not pass.called) whole in
                let some = parts.0 in
                record { desk_is = here; session_is = own; least = grind (arith, nat_tests); fresh = not-called pass.called parts.1 }
            | inr apart ↦ refused (eqb desk pass.out) (is_callable pass) (sym (ap (λ (b : Bool). eqb desk pass.out && b && is_callable pass) (ne_eqb session pass.session apart)) ∙ may)
          ]
      | inr apart ↦ none (eqb session pass.session) (is_callable pass) (sym (ap (λ (a : Bool). a && eqb session pass.session && is_callable pass) (ne_eqb desk pass.out apart)) ∙ may)
    ]
  where
    refused : (a c : Bool) → (a && false && c) ≡ true → {P : Type 0} → P
    refused true c is = absurd (cc is)
    refused false c is = absurd (cc is)

    none : (b c : Bool) → (false && b && c) ≡ true → {P : Type 0} → P
    none b c is = absurd (cc is)

-- The code of a call calls the desk that is out, with the stamp of the session's next entry.
module _ (pass : PassState) (out : IsOut pass) (desk : ℕ) (me : Caller) (may : (world_of pass).may_call desk me.actor ≡ true) (held : Contents) (used : Stamp) (held_is : pass.desk ≡ Some held)
    (used_is : used ≡ record { actor = me.actor; seq = length pass.mine + 1; turn = me.turn }) where
  abbrev at : Contents
  at = (world_of pass).contents desk

  abbrev stamp : Stamp
  stamp = next_stamp (world_of pass) me

  allowed : IsAllowed pass desk me.actor
  allowed = allowed-is pass desk me.actor may

  at_is : at ≡ met_at pass pass.out
  at_is = ap (known_desk pass) allowed.desk_is ∙ known_is pass out allowed.fresh

  held_at : held ≡ at
  held_at = ap (λ (desk : Option Contents). unwrap_or desk no_desk) (sym held_is) ∙ out.uncalled allowed.fresh ∙ sym at_is

  used_stamp : used ≡ stamp
  used_stamp =
      used_is
      ∙ (λ k. record {
        actor = me.actor;
        seq = ap (λ (list : List Entry). length list + 1) (sym (ap (world_of pass).mine allowed.session_is ∙ mine_is pass out allowed.fresh)) k;
        turn = me.turn;
      })

  -- What its caller knows of the desk and the stamp is true of these.
  pub holds_there : (P : Contents → Stamp → Type 0) → P at stamp → P held used
  holds_there P is = subst₂ P (sym held_at) (sym used_stamp) is

  -- So the call is one of the session, and the pass has the desk out as the call has left it.
  module _ (after : Contents → Stamp → Contents) (new : Contents) (new_is : new ≡ after held used) (sound : IsSound new) (entries : List Entry)
      (left : IsSound (after at stamp) → Leaves at (after at stamp) me.actor stamp.seq entries) where
    new_is_left : new ≡ after at stamp
    new_is_left = new_is ∙ ap₂ after held_at used_stamp

    leaves : Leaves (met_at pass pass.out) (after at stamp) pass.session (length pass.mine + 1) entries
    leaves =
        subst (λ (found : Contents). Leaves found (after at stamp) pass.session (length pass.mine + 1) entries) at_is
        (subst₂ (λ (session number : ℕ). Leaves at (after at stamp) session number entries) allowed.session_is
        (ap (λ (s : Stamp). s.seq) (sym used_stamp ∙ used_is)) (left (subst IsSound new_is_left sound)))

    abbrev next : PassState
    next = record pass { desk = Some new; called = true }

    next_is : (record pass { desk = Some (after at stamp); called = true }) ≡ next
    next_is = ap (λ (d : Contents). let p : PassState = record pass { desk = Some d; called = true } in p) (sym new_is_left)

    pub IsCall-called : IsCall (world_of pass) (world_of next) desk me.actor entries (after at stamp)
    IsCall-called =
        subst₂ (λ (d s : ℕ). IsCall (world_of pass) (world_of next) d s entries (after at stamp)) (sym allowed.desk_is) (sym allowed.session_is)
        (subst (λ (p : PassState). IsCall (world_of pass) (world_of p) pass.out pass.session entries (after at stamp)) next_is
        (IsCall-out pass out allowed.fresh (after at stamp) entries leaves))

    pub IsOut-next : IsOut next
    IsOut-next = subst IsOut next_is (IsOut-called pass out allowed.fresh (after at stamp) entries leaves)
