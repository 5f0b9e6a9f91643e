-- The eleven sentences follow from the rule.
use Rattle.std.proofs.Common.{◌≡◌, ℕ, ◌+◌, ◌<◌, ◌≤◌, List, length, sym, ap, ◌∙◌, arith}
use Rattle.std.proofs.lemmas.List.Elements.{All-weaker}
use Rattle.std.proofs.lemmas.Bool.Decides.{nat_tests}
use Rattle.sa_desk.specs.State.{Terms}
use Rattle.sa_desk.specs.Contents.{Contents}
use Rattle.sa_board.proofs.Histories.{history-short}
use Rattle.sa_board.specs.declared.view.Known.{Known}
use Rattle.sa_board.specs.View.{desk_in, is_given}
use Rattle.sa_board.specs.Rule.{Table, Fits, IsKnown, IsKept}
use Rattle.sa_board.specs.Sentences.{EachSession, EachMeeting, SameTerms, Sentences}

given-once : (made session : ℕ) → 1 ≤ session → session ≤ made → is_given made session ≡ 1
given-once made session least most = grind (arith, nat_tests)

module _ (founded : List Contents) (table : Table) (kept : IsKept founded table) where
  each_session : (P : Known → Type 0) → ((one : Known) → IsKnown kept.now one → P one) → EachSession table P
  each_session P holds seat view at = All-weaker (IsKnown kept.now) P holds view.known (kept.seats seat view at).known

  -- What fits at each desk.
  each_meeting : (P : Known → ℕ → Type 0)
      → ((one : Known) (index : ℕ) → index < length founded → Fits one.session (index + 1) one.mine (desk_in one.met index) (desk_in kept.now index) → P one index) → EachMeeting founded table P
  each_meeting P holds =
      each_session (λ one. (index : ℕ) → index < length founded → P one index)
      (λ one known index within. holds one index within (known.fits index (let desks = kept.desks in omega arith)))

-- What a session has met has the terms with which the board was founded.
met_same : (founded : List Contents) (table : Table) (kept : IsKept founded table) (one : Known) (index : ℕ) → index < length founded
    → Fits one.session (index + 1) one.mine (desk_in one.met index) (desk_in kept.now index) → SameTerms (desk_in founded index) (desk_in one.met index) index
met_same founded table kept one index within fits =
    let lock = kept.locks index within in
    record {
      number = ap (λ (terms : Terms). terms.desk) fits.terms ∙ lock.number;
      terms = fits.terms ∙ lock.terms;
      shares = fits.shares ∙ lock.shares;
    }

pub follow : (founded : List Contents) (table : Table) → IsKept founded table → Sentences founded table
follow founded table kept = record {
  now = kept.now;
  made = kept.made;
  one_holder = λ index within. let lock = kept.locks index within in let held = lock.held in let once = lock.once in omega arith;
  turn_word = λ index within. let held = (kept.locks index within).held in ((λ one. sym held ∙ one), (λ one. held ∙ one));
  in_slot = λ index within none. let lock = kept.locks index within in lock.home (sym lock.held ∙ none);
  at_holder = λ seat index view within at out. (kept.seats seat view at).holder index (let desks = kept.desks in omega arith) out;
  length_word = λ index within. (kept.locks index within).counted;
  begins = each_meeting founded table kept _ (λ one index within fits. fits.begins);
  same_own = each_meeting founded table kept _ (λ one index within fits. fits.same_own);
  same_quiet = each_meeting founded table kept _ (λ one index within fits. fits.quiet);
  own = each_meeting founded table kept _ (λ one index within fits. fits.own);
  numbered = each_session founded table kept _ (λ one known. known.numbered);
  given = λ session least most. kept.once session ∙ given-once kept.made session least most;
  unborn = kept.unborn;
  charges = λ index within. (kept.locks index within).sound.charges;
  short = λ index within. history-short (desk_in kept.now index) (kept.locks index within).sound;
  same_terms = λ index within. let lock = kept.locks index within in record { number = lock.number; terms = lock.terms; shares = lock.shares };
  met_terms = each_meeting founded table kept (λ one index. SameTerms (desk_in founded index) (desk_in one.met index) index) (λ one index within fits. met_same founded table kept one index within fits);
}
