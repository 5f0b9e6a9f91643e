-- What a session knows of the desks is still so when it takes a desk out, and when it brings one home.
use Rattle.std.proofs.Common.{◌≡◌, ℕ, ◌-◌, ◌≤◌, inl, inr, false, List, [], ◌++◌, length, drop, set, Option, None, unwrap_or, refl, sym, ap, ap₂, subst, ◌∙◌, arith, append-nil, get_or-set_same, get_or-set_other}
use Rattle.std.proofs.Math.Seq.{drop-nil}
use Rattle.std.proofs.lemmas.Bool.{cases_eq}
use Rattle.sa_desk.specs.declared.entry.Entry.{Entry}
use Rattle.sa_desk.specs.Contents.{Contents}
use Rattle.sa_desk.specs.New.{no_desk}
use Rattle.sa_desk.specs.World.{quiet_of, Begins}
use Rattle.sa_board.specs.View.{desk_in}
use Rattle.sa_board.specs.Pass.{PassState, met_at, out_desk, new_entries, known_desk, world_of, KnowsStill, IsOut, HasTaken, at_home}
use Rattle.sa_board.proofs.Calls.{known-out, known-else, no_new, own-mine, others-mine, own-seen, others-seen, own-quiet, others-quiet}

-- A desk is still what it was for a session, but for what others have done there.
record StaysSo (session : ℕ) (before later : Contents) : Type 0 where
  begins : Begins before.journal later.journal
  quiet : quiet_of later session ≡ quiet_of before session
  terms : later.terms ≡ before.terms
  shares : later.shares ≡ before.shares

stays : (session : ℕ) (before later : Contents) → later ≡ before → StaysSo session before later
stays session before later same = record {
  begins = ([], ap (λ (desk : Contents). desk.journal) same ∙ sym (append-nil before.journal));
  quiet = ap (λ (desk : Contents). quiet_of desk session) same;
  terms = ap (λ (desk : Contents). desk.terms) same;
  shares = ap (λ (desk : Contents). desk.shares) same;
}

-- Where all desks are, all that the session knows is still so.
still : (before later : PassState) → later.session ≡ before.session → later.mine ++ new_entries later ≡ before.mine ++ new_entries before
    → ((desk : ℕ) → 1 ≤ desk → StaysSo before.session (known_desk before desk) (known_desk later desk)) → KnowsStill (world_of before) (world_of later)
still before later session_is mine_is each = record {
  mine = λ session. elim (cases_eq session before.session) [
    | inl own ↦
        ap (world_of later).mine (own ∙ sym session_is) ∙ own-mine later ∙ mine_is ∙ sym (ap (world_of before).mine own ∙ own-mine before)
    | inr apart ↦ others-mine later session (λ is. apart (is ∙ session_is)) ∙ sym (others-mine before session apart)
  ];
  seen = λ session desk least. elim (cases_eq session before.session) [
    | inl own ↦
        let stays = (each desk least).begins in (
          stays.0,
          ap (λ (s : ℕ). (world_of later).seen s desk) (own ∙ sym session_is) ∙ own-seen later desk ∙ stays.1
              ∙ ap (λ (journal : List Entry). journal ++ stays.0) (sym (ap (λ (s : ℕ). (world_of before).seen s desk) own ∙ own-seen before desk)),
        )
    | inr apart ↦
        ([], others-seen later session desk (λ is. apart (is ∙ session_is)) ∙ sym (others-seen before session desk apart) ∙ sym (append-nil ((world_of before).seen session desk)))
  ];
  quiet = λ session desk least. elim (cases_eq session before.session) [
    | inl own ↦
        ap (λ (s : ℕ). (world_of later).quiet s desk) (own ∙ sym session_is) ∙ own-quiet later desk ∙ ap (quiet_of (known_desk later desk)) session_is ∙ (each desk least).quiet
        ∙ sym (ap (λ (s : ℕ). (world_of before).quiet s desk) own ∙ own-quiet before desk)
    | inr apart ↦ others-quiet later session desk (λ is. apart (is ∙ session_is)) ∙ sym (others-quiet before session desk apart)
  ];
  terms = λ desk least. (each desk least).terms;
  shares = λ desk least. (each desk least).shares;
}

-- Nothing is new where no desk is out.
pub none_new : (pass : PassState) → pass.desk ≡ None → new_entries pass ≡ []
none_new pass none =
    ap (λ (desk : Option Contents). drop (length (met_at pass pass.out).journal) (unwrap_or desk no_desk).journal) none ∙ drop-nil (length (met_at pass pass.out).journal)

module _ (before later : PassState) (desk : ℕ) (taken : HasTaken before later desk) (out : IsOut later) (idle : before.out ≡ 0) (none : before.desk ≡ None) where
  abbrev found : Contents
  found = taken.found

  out_is : later.out ≡ desk
  out_is = ap (λ (pass : PassState). pass.out) taken.later_is

  met_is : later.met ≡ set before.met (desk - 1) found
  met_is = ap (λ (pass : PassState). pass.met) taken.later_is

  each-taken : (at : ℕ) → 1 ≤ at → StaysSo before.session (known_desk before at) (known_desk later at)
  each-taken at least =
      let at_home : known_desk before at ≡ met_at before at = known-else before at (λ is. absurd (omega (arith, is, idle, least))) in
      elim (cases_eq at later.out) [
        | inl here ↦
            let it : known_desk later at ≡ found =
            ap (known_desk later) here ∙ known-out later ∙ ap (λ (pass : PassState). unwrap_or pass.desk no_desk) taken.later_is in
            let was : known_desk before at ≡ met_at before desk = at_home ∙ ap (met_at before) (here ∙ out_is) in
            subst (λ (d : Contents). StaysSo before.session d (known_desk later at)) (sym was)
            (subst (λ (d : Contents). StaysSo before.session (met_at before desk) d) (sym it)
            (record { begins = taken.fits.begins; quiet = sym taken.fits.quiet; terms = sym taken.fits.terms; shares = sym taken.fits.shares }))
        | inr apart ↦
            let some = out.least in
            stays before.session (known_desk before at) (known_desk later at)
            (known-else later at apart ∙ ap (λ (met : List Contents). desk_in met (at - 1)) met_is
            ∙ get_or-set_other before.met (desk - 1) (at - 1) found no_desk (λ is. apart (omega (arith, is, some, least, out_is))) ∙ sym at_home)
      ]

  pub KnowsStill-taken : KnowsStill (world_of before) (world_of later)
  KnowsStill-taken =
      let fresh : later.called ≡ false = ap (λ (pass : PassState). pass.called) taken.later_is in
      still before later (ap (λ (pass : PassState). pass.session) taken.later_is)
      (ap₂ (λ (mine new : List Entry). mine ++ new) (ap (λ (pass : PassState). pass.mine) taken.later_is) (no_new later out fresh)
      ∙ ap (λ (new : List Entry). before.mine ++ new) (sym (none_new before none))) each-taken

module _ (pass : PassState) (out : IsOut pass) where
  abbrev home : PassState
  home = at_home pass

  each-home : (at : ℕ) → 1 ≤ at → StaysSo pass.session (known_desk pass at) (known_desk home at)
  each-home at least =
      let met : known_desk home at ≡ met_at home at = known-else home at (λ is. absurd (omega (arith, is, least))) in
      let some = out.least in
      let most = out.most in
      stays pass.session (known_desk pass at) (known_desk home at) (
      elim (cases_eq at pass.out) [
        | inl here ↦
            met ∙ ap (λ (n : ℕ). desk_in home.met (n - 1)) here ∙ get_or-set_same pass.met (pass.out - 1) (out_desk pass) no_desk (omega (arith, some, most))
            ∙ sym (ap (known_desk pass) here ∙ known-out pass)
        | inr apart ↦
            met ∙ get_or-set_other pass.met (pass.out - 1) (at - 1) (out_desk pass) no_desk (λ is. apart (omega (arith, is, some, least))) ∙ sym (known-else pass at apart)
      ])

  pub KnowsStill-home : KnowsStill (world_of pass) (world_of home)
  KnowsStill-home = still pass home refl (ap (λ (new : List Entry). (pass.mine ++ new_entries pass) ++ new) (none_new home refl) ∙ append-nil (pass.mine ++ new_entries pass)) each-home
