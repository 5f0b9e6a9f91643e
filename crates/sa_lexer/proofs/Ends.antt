-- Looking for the end of a piece, part by part.
use Rattle.std.proofs.Common.{◌≡◌, ℕ, zero, suc, ◌+◌, ◌-◌, ◌<◌, ◌≤◌, List, [], ◌∷◌, length, get_or, drop, Result, Ok, Err, true, false, refl, sym, ap, ◌∙◌, subst, arith, add-zero}
use Rattle.std.proofs.lemmas.Bool.{eq-eqb, ne_eqb}
use Rattle.std.proofs.lemmas.List.{drop_more, drop_all, drop-drop}
use Rattle.sa_lexer.specs.declared.fault.LexFault.{LexFault}
use Rattle.sa_lexer.specs.declared.fault.LexFault.TheVariants.{Bad, OutOfMemory}
use Rattle.sa_lexer.specs.declared.piece.PieceEnd.{PieceEnd}
use Rattle.sa_lexer.specs.Fault.{Fault, Answers}
use Rattle.sa_lexer.specs.Opening.{len_at}
use Rattle.sa_lexer.specs.Piece.{end_from, piece_end_at}

passed : (inside place : ℕ) (bytes : List ℕ) → inside ≤ length bytes → end_from inside place bytes ≡ end_from 0 (place + inside) (drop inside bytes)
unfolding end_from
passed zero place bytes within = rw add-zero refl
passed (suc inside) place [] within = absurd (omega arith)
passed (suc inside) place (byte ∷ bytes) within =
    let there : (place + 1) + inside ≡ place + suc inside = omega arith in
    passed inside (place + 1) bytes (omega arith) ∙ ap (λ (n : ℕ). end_from 0 n (drop inside bytes)) there

pub starts : (from : ℕ) (text : List ℕ) → from ≤ length text → end_from 0 from (drop from text) ≡ piece_end_at from text
starts from text within =
    let there : 0 + from ≡ from = omega arith in
    sym (passed from 0 text within ∙ ap (λ (n : ℕ). end_from 0 n (drop from text)) there)

here_is : (place byte : ℕ) (bytes : List ℕ) → byte ≡ 59 → end_from 0 place (byte ∷ bytes) ≡ Ok (record { end = place; closed = true })
unfolding end_from
here_is place byte bytes e = rw (eq-eqb byte 59 e) refl

rest_is : (place byte len : ℕ) (bytes : List ℕ) → (byte ≡ 59 → ⊥) → 0 < len → len ≤ suc (length bytes) → len_at place (byte ∷ bytes) ≡ Ok len → end_from 0 place (byte ∷ bytes) ≡ end_from 0 (place + len) (drop len (byte ∷ bytes))
unfolding end_from
rest_is place byte zero bytes other some within e = absurd (omega arith)
rest_is place byte (suc n) bytes other some within e =
    let back : suc n - 1 ≡ n = omega arith in
    let there : (place + 1) + n ≡ place + suc n = omega arith in
    rw (ne_eqb byte 59 other, e, back) (passed n (place + 1) bytes (omega arith) ∙ ap (λ (k : ℕ). end_from 0 k (drop n bytes)) there)

fault_is : (fault : LexFault) (place byte : ℕ) (bytes : List ℕ) → (byte ≡ 59 → ⊥) → Answers {T = ℕ} (Err fault) (len_at place (byte ∷ bytes)) → Answers {T = PieceEnd} (Err fault) (end_from 0 place (byte ∷ bytes))
unfolding end_from
fault_is OutOfMemory place byte bytes other e = absurd e
fault_is (Bad kind at) place byte bytes other e = rw (ne_eqb byte 59 other, e) refl

pub found : (bytes : List ℕ) (place : ℕ) (total : Result PieceEnd Fault) → place < length bytes → get_or bytes place 0 ≡ 59 → end_from 0 place (drop place bytes) ≡ total → total ≡ Ok (record { end = place; closed = true })
found bytes place total within here so_far =
    sym so_far ∙ ap (end_from 0 place) (drop_more bytes place 0 within) ∙ here_is place (get_or bytes place 0) (drop (place + 1) bytes) here

pub goes_on : (bytes : List ℕ) (place len : ℕ) (total : Result PieceEnd Fault) → place < length bytes → (get_or bytes place 0 ≡ 59 → ⊥) → 0 < len → len ≤ length (drop place bytes) → len_at place (drop place bytes) ≡ Ok len
    → end_from 0 place (drop place bytes) ≡ total → end_from 0 (place + len) (drop (place + len) bytes) ≡ total
goes_on bytes place len total within other some fits e so_far =
    let cut = drop_more bytes place 0 within in
    let step = rest_is place (get_or bytes place 0) len (drop (place + 1) bytes) other some (omega (arith, ap length cut)) (rw (← cut) e) in
    ap (end_from 0 (place + len)) (sym (drop-drop len place bytes)) ∙ (rw (← cut) at (sym step)) ∙ so_far

pub fails : (fault : LexFault) (bytes : List ℕ) (place : ℕ) (total : Result PieceEnd Fault) → place < length bytes → (get_or bytes place 0 ≡ 59 → ⊥) → Answers {T = ℕ} (Err fault) (len_at place (drop place bytes)) → end_from 0 place (drop place bytes) ≡ total
    → Answers {T = PieceEnd} (Err fault) total
fails fault bytes place total within other e so_far =
    let cut = drop_more bytes place 0 within in
    let all = fault_is fault place (get_or bytes place 0) (drop (place + 1) bytes) other (subst (λ (rest : List ℕ). Answers {T = ℕ} (Err fault) (len_at place rest)) cut e) in
    subst (λ (read : Result PieceEnd Fault). Answers {T = PieceEnd} (Err fault) read) so_far (subst (λ (rest : List ℕ). Answers {T = PieceEnd} (Err fault) (end_from 0 place rest)) (sym cut) all)

pub ends : (bytes : List ℕ) (place : ℕ) (total : Result PieceEnd Fault) → length bytes ≤ place → end_from 0 place (drop place bytes) ≡ total → total ≡ Ok (record { end = place; closed = false })
unfolding end_from
ends bytes place total past so_far = sym so_far ∙ ap (end_from 0 place) (drop_all place bytes past)
