-- The members of a script, one after another.
use Rattle.std.proofs.Common.{◌≡◌, ℕ, ◌+◌, ◌-◌, List, [], ◌∷◌, ◌++◌, map, drop, slice_index_or, length, Some, false, refl, sym, ap, ◌∙◌, arith, append_assoc}
use Rattle.std.proofs.lemmas.List.{get_or-drop, map-append}
use Rattle.std.proofs.lemmas.List.FromFn.{get_or-map-range_with_len, length-map-range_with_len}
use Rattle.std.specs.List.{range_with_len}
use Rattle.sa_board.specs.Board.{BoardState, new_pass, new_passes}
use Rattle.sa_board.specs.Pass.{PassState}
use Rattle.sa_step.proofs.StartLemmas.{member_left}
use Rattle.sa_run.specs.declared.member.Member.{Member}
use Rattle.sa_run.specs.inner.Members.{member_in}

-- The first of what is left of a list.
at_left : {X : Type 0} (xs rest : List X) (x d : X) (count : ℕ) → drop count xs ≡ x ∷ rest → slice_index_or xs count d ≡ x
at_left xs rest x d count is = ap (λ at. slice_index_or xs at d) (let same : count ≡ count + 0 = omega arith in same) ∙ sym (get_or-drop count xs 0 d) ∙ ap (λ left. slice_index_or left 0 d) is

-- So it is with what a function gives to 1, 2 and so on.
given_left : {X : Type 0} (f : ℕ → X) (total : ℕ) (rest : List X) (x : X) (count : ℕ) → drop count (map f (range_with_len 1 total)) ≡ x ∷ rest → x ≡ f (count + 1)
given_left f total rest x count is =
    let more = member_left (map f (range_with_len 1 total)) rest x count is in
    let all = length-map-range_with_len f 1 total in
    sym (at_left (map f (range_with_len 1 total)) rest x x count is) ∙ get_or-map-range_with_len f 1 total count (count + 1) x (omega (arith, more, all)) (omega arith)

-- The next member has the next pass and the next statements.
pub member_next : (board : BoardState) (texts : List (List (List ℕ))) (count session : ℕ) (pass : PassState) (passes : List PassState) (statements : List (List ℕ)) (rest : List (List (List ℕ)))
    → drop count (new_passes board) ≡ pass ∷ passes → drop count texts ≡ statements ∷ rest → session ≡ count + 1
    → record { session = session; pass = pass; statements = Some statements; ended = false } ≡ member_in board texts (count + 1)
member_next board texts count session pass passes statements rest here left number =
    let pass_is = given_left (new_pass board) (length board.founded) passes pass count here in
    let statements_are : slice_index_or texts (count + 1 - 1) [] ≡ statements =
    ap (λ at. slice_index_or texts at []) (let same : count + 1 - 1 ≡ count = omega arith in same) ∙ at_left texts rest statements [] count left in
    rw (number, pass_is, statements_are) refl

-- One more pass is there, where one more member has come.
pub pass_pushed : (passes pushed : List PassState) (members : List Member) (member : Member) → pushed ≡ passes ++ member.pass ∷ [] → passes ≡ map (λ (member : Member). member.pass) members
    → pushed ≡ map (λ (member : Member). member.pass) (members ++ member ∷ [])
pass_pushed passes pushed members member is are =
    is ∙ ap (λ (passes : List PassState). passes ++ member.pass ∷ []) are ∙ sym (map-append (λ (member : Member). member.pass) members (member ∷ []))

pub member_come : (members rest more whole : List Member) (member : Member) → rest ≡ member ∷ more → members ++ rest ≡ whole → members ++ member ∷ [] ++ more ≡ whole
member_come members rest more whole member is all = append_assoc members (member ∷ []) more ∙ ap (λ (rest : List Member). members ++ rest) (sym is) ∙ all
