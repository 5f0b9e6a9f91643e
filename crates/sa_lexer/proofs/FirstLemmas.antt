-- A text begins with one thing behind its blanks.
use Rattle.std.proofs.Common.{◌≡◌, ℕ, ◌+◌, ◌<◌, List, [], ◌∷◌, ◌++◌, length, take, drop, get_or, Some, None, Result, Ok, Err, true, false, refl, sym, ap, ◌∙◌, subst, arith, inl, inr, ◌⊎◌, append_assoc, length-append, append-nil}
use Rattle.std.specs.Char.{is_ascii_digit}
use Rattle.std.specs.List.{concat, prefix_len}
use Rattle.std.proofs.Math.Seq.{take-append_seam, drop-append_seam}
use Rattle.std.proofs.lemmas.Bool.Decides.{nat_tests}
use Rattle.std.proofs.lemmas.List.{take-append-drop, length-take-le, length-drop, drop-drop, drop_all, get_or_append_left}
use Rattle.std.proofs.lemmas.Str.{IsCharBoundary-after_ascii}
use Rattle.std.specs.Prelude.{codes}
use Rattle.std.specs.Str.{IsUtf8, IsCharBoundary}
use Rattle.sa_lexer.specs.declared.fault.LexKind.TheVariants.{BadByte}
use Rattle.sa_lexer.specs.declared.fault.LexFault.{LexFault}
use Rattle.sa_lexer.specs.declared.fault.LexFault.TheVariants.{Bad, OutOfMemory}
use Rattle.sa_lexer.specs.declared.opening.Opening.{Opening}
use Rattle.sa_lexer.specs.Fault.{Fault, fault, Answers}
use Rattle.sa_lexer.specs.declared.first.FirstToken.{FirstToken}
use Rattle.sa_lexer.specs.declared.first.FirstToken.TheVariants.{Nothing, Word, Other}
use Rattle.sa_lexer.specs.declared.lexeme.Lexeme.{Lexeme}
use Rattle.sa_lexer.specs.declared.opening.Opening.TheVariants.{LineComment, Comment, Quoted, Plain}
use Rattle.sa_lexer.specs.declared.token.TokenKind.TheVariants as kinds
use Rattle.sa_lexer.specs.Byte.{is_space, is_word_byte}
use Rattle.sa_lexer.specs.Opening.{opening_of, is_executable, opened_len, len_at}
use Rattle.sa_lexer.specs.Lexeme.{blank, token, lexeme_at, word_at}
use Rattle.sa_lexer.specs.Spans.{Spells}
use Rattle.sa_lexer.specs.Grammar.{IsBlank, Ends, Follow}
use Rattle.sa_lexer.specs.First.{StandsBehindBlanks, IsWordBefore, IsFirst}
use Rattle.sa_lexer.specs.inner.Front.{IsFrontBlank, IsFrontWord}
use Rattle.sa_lexer.proofs.Again.{blank_again, token_again, comment_opens, plain_opens, space_apart, read_as}
use Rattle.sa_lexer.proofs.Lexemes.{lexeme_is, word_is}
use Rattle.sa_lexer.proofs.Openings.{line_part, line_cut, comment_part, closed_cut}
use Rattle.sa_lexer.proofs.Results.{ok_is}

-- what begins with a blank
abbrev NoBlank : List ℕ → Type 0
NoBlank rest = (blank after : List ℕ) → rest ≡ blank ++ after → IsBlank blank after → ⊥

-- fronts of one list that are as long are the same
same_front : (front back other rest : List ℕ) → length front ≡ length other → front ++ back ≡ other ++ rest → (front ≡ other) × (back ≡ rest)
same_front front back other rest long e = (
  sym (take-append_seam front back) ∙ ap (λ (n : ℕ). take n (front ++ back)) long ∙ ap (take (length other)) e ∙ take-append_seam other rest,
  sym (drop-append_seam front back) ∙ ap (λ (n : ℕ). drop n (front ++ back)) long ∙ ap (drop (length other)) e ∙ drop-append_seam other rest,
)

lens_same : (m n : ℕ) → blank m ≡ blank n → m ≡ n
lens_same m n e = ap (λ (lexeme : Lexeme). lexeme.len) e

-- Two blanks at the front are one.
same_blank : (front back other rest : List ℕ) → IsBlank front back → IsBlank other rest → front ++ back ≡ other ++ rest → (front ≡ other) × (back ≡ rest)
same_blank front back other rest is too e =
    let one = (blank_again 0 front back is).is in
    let two = (blank_again 0 other rest too).is in
    let same : blank (length front) ≡ blank (length other) = ok_is (blank (length front)) (blank (length other)) (sym one ∙ ap (lexeme_at 0) e ∙ two) in
    same_front front back other rest (lens_same (length front) (length other) same) e

-- The blanks in front of what begins with none are the same.
same_blanks : (blanks others : List (List ℕ)) (rest left : List ℕ) → Follow IsBlank blanks rest → Follow IsBlank others left → NoBlank rest → NoBlank left → concat blanks ++ rest ≡ concat others ++ left
    → (length (concat blanks) ≡ length (concat others)) × (rest ≡ left)
same_blanks [] [] rest left follow too none never e = (refl, e)
same_blanks [] (other ∷ others) rest left follow too none never e =
    absurd (none other (concat others ++ left) (e ∙ append_assoc other (concat others) left) too.0)
same_blanks (front ∷ blanks) [] rest left follow too none never e =
    absurd (never front (concat blanks ++ rest) (sym e ∙ append_assoc front (concat blanks) rest) follow.0)
same_blanks (front ∷ blanks) (other ∷ others) rest left follow too none never e =
    let parted : front ++ (concat blanks ++ rest) ≡ other ++ (concat others ++ left) = sym (append_assoc front (concat blanks) rest) ∙ e ∙ append_assoc other (concat others) left in
    let (fronts, backs) = same_blank front (concat blanks ++ rest) other (concat others ++ left) follow.0 too.0 parted in
    let (lens, ends) = same_blanks blanks others rest left follow.1 too.1 none never backs in
    (omega (arith, ap length fronts, lens, length-append front (concat blanks), length-append other (concat others)), ends)

same_place : (text : List ℕ) (place other : ℕ) (rest left : List ℕ) → StandsBehindBlanks text place rest → StandsBehindBlanks text other left → NoBlank rest → NoBlank left → (place ≡ other) × (rest ≡ left)
same_place text place other rest left stands too none never =
    let (lens, ends) = same_blanks stands.blanks too.blanks rest left stands.before too.before none never (sym stands.source ∙ too.source) in
    (stands.there ∙ lens ∙ sym too.there, ends)

-- ---- what begins with no blank

none_of_nothing : NoBlank []
none_of_nothing front after e is = omega (arith, ap length e, length-append front after, (blank_again 0 front after is).some)

word_or_blank : (word : List ℕ) (len : ℕ) (n : ℕ) → token (kinds.Word word) len ≡ blank n → ⊥
word_or_blank word len n e = let clash : Some (kinds.Word word) ≡ None = ap (λ (lexeme : Lexeme). lexeme.kind) e in cc

word_read : (rest word after : List ℕ) → IsWordBefore rest word after → lexeme_at 0 rest ≡ Ok (token (kinds.Word word) (length word))
word_read rest word after is = ap (lexeme_at 0) is.source ∙ token_again 0 word after (kinds.Word word) is.spells is.ends

none_of_word : (rest word after : List ℕ) → IsWordBefore rest word after → NoBlank rest
none_of_word rest word after is front back e blanks =
    word_or_blank word (length word) (length front)
    (ok_is (token (kinds.Word word) (length word)) (blank (length front)) (sym (word_read rest word after is) ∙ ap (lexeme_at 0) e ∙ (blank_again 0 front back blanks).is))

-- ---- what is told is told alone

same_word : (rest word after other left : List ℕ) → IsWordBefore rest word after → IsWordBefore rest other left → length word ≡ length other
same_word rest word after other left is too =
    ap (λ (lexeme : Lexeme). lexeme.len)
    (ok_is (token (kinds.Word word) (length word)) (token (kinds.Word other) (length other)) (sym (word_read rest word after is) ∙ word_read rest other left too))

word_some : (rest word after : List ℕ) → IsWordBefore rest word after → 0 < length rest
word_some rest word after is = omega (arith, is.spells.1, ap length is.source, length-append word after)

pub one_first : (text : List ℕ) (first other : FirstToken) → IsFirst text first → IsFirst text other → other ≡ first
one_first text Nothing Nothing is too = refl
one_first text Nothing (Word start end) is (rest, word, after, stands, spelled, there) =
    let (places, rests) = same_place text (length text) start [] rest is stands none_of_nothing (none_of_word rest word after spelled) in
    absurd (omega (arith, ap length rests, word_some rest word after spelled))
one_first text Nothing (Other start) is (rest, stands, other) =
    let (places, rests) = same_place text (length text) start [] rest is stands none_of_nothing other.blank in
    absurd (omega (arith, ap length rests, other.some))
one_first text (Word start end) Nothing (rest, word, after, stands, spelled, there) too =
    let (places, rests) = same_place text start (length text) rest [] stands too (none_of_word rest word after spelled) none_of_nothing in
    absurd (omega (arith, ap length rests, word_some rest word after spelled))
one_first text (Word start end) (Word other last) (rest, word, after, stands, spelled, there) (left, name, behind, stays, spells, here) =
    let (places, rests) = same_place text start other rest left stands stays (none_of_word rest word after spelled) (none_of_word left name behind spells) in
    let lens = same_word rest word after name behind spelled (subst (λ (bytes : List ℕ). IsWordBefore bytes name behind) (sym rests) spells) in
    let ends : last ≡ end = omega (arith, here, there, lens, places) in
    rw (places, ends) refl
one_first text (Word start end) (Other other) (rest, word, after, stands, spelled, there) (left, stays, is) =
    let (places, rests) = same_place text start other rest left stands stays (none_of_word rest word after spelled) is.blank in
    absurd (is.word word after (subst (λ (bytes : List ℕ). IsWordBefore bytes word after) rests spelled))
one_first text (Other start) Nothing (rest, stands, is) too =
    let (places, rests) = same_place text start (length text) rest [] stands too is.blank none_of_nothing in
    absurd (omega (arith, ap length rests, is.some))
one_first text (Other start) (Word other last) (rest, stands, is) (left, name, behind, stays, spells, here) =
    let (places, rests) = same_place text start other rest left stands stays is.blank (none_of_word left name behind spells) in
    absurd (is.word name behind (subst (λ (bytes : List ℕ). IsWordBefore bytes name behind) (sym rests) spells))
one_first text (Other start) (Other other) (rest, stands, is) (left, stays, too) =
    let (places, rests) = same_place text start other rest left stands stays is.blank too.blank in
    rw places refl

-- ---- one more blank

pushed : (blanks : List (List ℕ)) (front after : List ℕ) → concat (blanks ++ front ∷ []) ++ after ≡ concat blanks ++ (front ++ after)
pushed [] front after = ap (λ (some : List ℕ). some ++ after) (append-nil front)
pushed (other ∷ blanks) front after =
    append_assoc other (concat (blanks ++ front ∷ [])) after ∙ ap (λ (more : List ℕ). other ++ more) (pushed blanks front after)
    ∙ sym (append_assoc other (concat blanks) (front ++ after))

pushed_length : (blanks : List (List ℕ)) (front : List ℕ) → length (concat (blanks ++ front ∷ [])) ≡ length (concat blanks) + length front
pushed_length blanks front =
    ap length (sym (append-nil (concat (blanks ++ front ∷ [])))) ∙ ap length (pushed blanks front [])
    ∙ length-append (concat blanks) (front ++ []) ∙ ap (λ (n : ℕ). length (concat blanks) + n) (ap length (append-nil front))

follow_push : (blanks : List (List ℕ)) (front after : List ℕ) → Follow IsBlank blanks (front ++ after) → IsBlank front after → Follow IsBlank (blanks ++ front ∷ []) after
follow_push [] front after follow is = (is, tt)
follow_push (first ∷ blanks) front after follow is =
    (subst (IsBlank first) (sym (pushed blanks front after)) follow.0, follow_push blanks front after follow.1 is)

pub blank_push : (text : List ℕ) (start len : ℕ) → StandsBehindBlanks text start (drop start text) → IsFrontBlank (drop start text) len → StandsBehindBlanks text (start + len) (drop (start + len) text)
blank_push text start len stands front =
    let rest = drop start text in
    let parted : take len rest ++ drop len rest ≡ rest = take-append-drop len rest in
    let long : length (take len rest) ≡ len = length-take-le len rest front.within in
    let further : drop len rest ≡ drop (start + len) text = drop-drop len start text in
    subst (λ (left : List ℕ). StandsBehindBlanks text (start + len) left) further (record {
      blanks = stands.blanks ++ take len rest ∷ [];
      source = stands.source ∙ ap (λ (more : List ℕ). concat stands.blanks ++ more) (sym parted) ∙ sym (pushed stands.blanks (take len rest) (drop len rest));
      before = follow_push stands.blanks (take len rest) (drop len rest) (subst (Follow IsBlank stands.blanks) (sym parted) stands.before) front.is;
      there = omega (arith, stands.there, long, pushed_length stands.blanks (take len rest));
    })

pub blank_none : (text : List ℕ) → StandsBehindBlanks text 0 (drop 0 text)
blank_none text = record { blanks = []; source = refl; before = tt; there = refl }

-- behind the last blank nothing is left
pub nothing_left : (text : List ℕ) (start : ℕ) → StandsBehindBlanks text start (drop start text) → start ≡ length text → StandsBehindBlanks text (length text) []
nothing_left text start stands all =
    let none : drop start text ≡ [] = drop_all start text (omega arith) in
    subst (λ (n : ℕ). StandsBehindBlanks text n []) all (subst (λ (rest : List ℕ). StandsBehindBlanks text start rest) none stands)

-- ---- what a blank and a word begin with

-- how a blank opens
data Opens (bytes : List ℕ) : Type 0 where
  Space : opening_of bytes ≡ Plain → is_space (get_or bytes 0 0) ≡ true → Opens bytes
  Line : opening_of bytes ≡ LineComment → Opens bytes
  Marks : opening_of bytes ≡ Comment → Opens bytes

blank_opens : (front after : List ℕ) → IsBlank front after → Opens (front ++ after)
blank_opens front after is = elim is [
  | inl space ↦
      let whole : front ++ after ≡ space.0 ∷ after = ap (λ (some : List ℕ). some ++ after) space.2 in
      let apart = space_apart space.0 space.1 in
      subst Opens (sym whole) (Space (plain_opens space.0 after apart.0 apart.1) space.1)
  | inr (inl line) ↦ Line line.0
  | inr (inr comment) ↦
      let whole : front ++ after ≡ codes "/*" ++ ((comment.0.0 ++ codes "*/") ++ after) = ap (λ (some : List ℕ). some ++ after) comment.0.1 in
      subst Opens (sym whole) (Marks (comment_opens ((comment.0.0 ++ codes "*/") ++ after)))
]

opens_of : (bytes front after : List ℕ) → bytes ≡ front ++ after → IsBlank front after → Opens bytes
opens_of bytes front after e is = subst Opens (sym e) (blank_opens front after is)

pub no_bytes : (bytes : List ℕ) → length bytes ≡ 0 → (front after : List ℕ) → bytes ≡ front ++ after → IsBlank front after → ⊥
no_bytes bytes none front after e is = omega (arith, ap length e, length-append front after, (blank_again 0 front after is).some)

executed : (bytes : List ℕ) → is_executable bytes ≡ true → lexeme_at 0 bytes ≡ Err (fault BadByte 0)
unfolding lexeme_at
executed bytes e = rw e refl

read_blank : (bytes front after : List ℕ) → bytes ≡ front ++ after → IsBlank front after → lexeme_at 0 bytes ≡ Ok (blank (length front))
read_blank bytes front after e is = ap (lexeme_at 0) e ∙ (blank_again 0 front after is).is

ok_or_err : (lexeme : Lexeme) (f : Fault) (read : Result Lexeme Fault) → read ≡ Ok lexeme → read ≡ Err f → ⊥
ok_or_err lexeme f read one two = let clash = sym one ∙ two in cc

pub no_executed : (bytes : List ℕ) → is_executable bytes ≡ true → (front after : List ℕ) → bytes ≡ front ++ after → IsBlank front after → ⊥
no_executed bytes executes front after e is = ok_or_err (blank (length front)) (fault BadByte 0) (lexeme_at 0 bytes) (read_blank bytes front after e is) (executed bytes executes)

unread : (bytes : List ℕ) (f : Fault) → is_executable bytes ≡ false → len_at 0 bytes ≡ Err f → lexeme_at 0 bytes ≡ Err f
unfolding lexeme_at
unread bytes f plain e = rw (plain, e) refl

pub no_unread : (bytes : List ℕ) (told : LexFault) → is_executable bytes ≡ false → Answers {T = ℕ} (Err told) (len_at 0 bytes) → (front after : List ℕ) → bytes ≡ front ++ after → IsBlank front after → ⊥
no_unread bytes OutOfMemory plain e front after parted is = absurd e
no_unread bytes (Bad kind place) plain e front after parted is =
    ok_or_err (blank (length front)) (fault kind place) (lexeme_at 0 bytes) (read_blank bytes front after parted is) (unread bytes (fault kind place) plain e)

pub no_quoted : (bytes : List ℕ) → opening_of bytes ≡ Quoted → (front after : List ℕ) → bytes ≡ front ++ after → IsBlank front after → ⊥
no_quoted bytes opens front after e is = elim (opens_of bytes front after e is) [
  | Space plain space ↦ let clash : Quoted ≡ Plain = sym opens ∙ plain in cc
  | Line line ↦ let clash : Quoted ≡ LineComment = sym opens ∙ line in cc
  | Marks marks ↦ let clash : Quoted ≡ Comment = sym opens ∙ marks in cc
]

pub no_plain : (bytes : List ℕ) → opening_of bytes ≡ Plain → is_space (get_or bytes 0 0) ≡ false → (front after : List ℕ) → bytes ≡ front ++ after → IsBlank front after → ⊥
no_plain bytes opens other front after e is = elim (opens_of bytes front after e is) [
  | Space plain space ↦ let clash : true ≡ false = sym space ∙ other in cc
  | Line line ↦ let clash : Plain ≡ LineComment = sym opens ∙ line in cc
  | Marks marks ↦ let clash : Plain ≡ Comment = sym opens ∙ marks in cc
]

-- a byte of white space
pub space_front : (bytes : List ℕ) → IsUtf8 bytes → 0 < length bytes → is_space (get_or bytes 0 0) ≡ true → IsFrontBlank bytes 1
space_front [] utf8 some space = absurd (omega arith)
space_front (byte ∷ bytes) utf8 some space =
    let small : byte < 128 = grind (arith, nat_tests) in
    record {
      some = omega arith;
      within = omega arith;
      is = inl (byte, space, refl);
      cut = IsCharBoundary-after_ascii (byte ∷ bytes) 0 utf8 some small;
    }

-- a comment
front_read : (bytes : List ℕ) (len : ℕ) → 0 < length bytes → lexeme_at 0 bytes ≡ Ok (blank len) → IsCharBoundary bytes len → IsFrontBlank bytes len
front_read bytes len some e cut =
    let is = lexeme_is 0 bytes (blank len) some e in
    record { some = is.some; within = is.within; is = is.is; cut = cut }

comment_lexeme : (bytes : List ℕ) (len : ℕ) (opening : Opening) → (opening ≡ LineComment) ⊎ (opening ≡ Comment) → is_executable bytes ≡ false → opening_of bytes ≡ opening → len_at 0 bytes ≡ Ok len → lexeme_at 0 bytes ≡ Ok (blank len)
unfolding len_at
comment_lexeme bytes len opening which plain opens e =
    read_as 0 bytes opening len (blank len) plain opens (ap (opened_len 0 bytes) (sym opens) ∙ e)
    (elim which [ inl line ↦ rw line refl | inr marks ↦ rw marks refl ])

pub line_comment : (bytes : List ℕ) (len : ℕ) → 0 < length bytes → is_executable bytes ≡ false → opening_of bytes ≡ LineComment → len_at 0 bytes ≡ Ok len → IsFrontBlank bytes len
line_comment bytes len some plain opens e =
    front_read bytes len some (comment_lexeme bytes len LineComment (inl refl) plain opens e)
    (subst (λ (n : ℕ). IsCharBoundary bytes n) (sym (line_part 0 bytes len opens e)) (line_cut bytes))

pub marked_comment : (bytes : List ℕ) (len : ℕ) → IsUtf8 bytes → 0 < length bytes → is_executable bytes ≡ false → opening_of bytes ≡ Comment → len_at 0 bytes ≡ Ok len → IsFrontBlank bytes len
marked_comment bytes len utf8 some plain opens e =
    front_read bytes len some (comment_lexeme bytes len Comment (inr refl) plain opens e)
    (closed_cut bytes 47 len (omega arith) utf8 (comment_part 0 bytes len opens e))

-- a word
pub word_front : (bytes : List ℕ) (len : ℕ) → 0 < length bytes → is_word_byte (get_or bytes 0 0) ≡ true → is_ascii_digit (get_or bytes 0 0) ≡ false → len ≡ prefix_len is_word_byte bytes → IsCharBoundary bytes len → IsFrontWord bytes len
unfolding word_at
word_front bytes len some word digit all cut =
    let is = word_is bytes some digit word in
    let parts : Spells (take (prefix_len is_word_byte bytes) bytes) (kinds.Word (take (prefix_len is_word_byte bytes) bytes)) × Ends (take (prefix_len is_word_byte bytes) bytes) (drop (prefix_len is_word_byte bytes) bytes) (kinds.Word (take (prefix_len is_word_byte bytes) bytes)) = is.is in
    rw all (record {
      within = is.within;
      is = record { source = sym (take-append-drop (prefix_len is_word_byte bytes) bytes); spells = parts.0; ends = parts.1 };
      cut = rw all at cut;
    })

word_first : (bytes word after : List ℕ) → IsWordBefore bytes word after → (is_word_byte (get_or bytes 0 0) ≡ true) × (is_ascii_digit (get_or bytes 0 0) ≡ false)
word_first bytes word after is =
    let spells = is.spells in
    let first : get_or bytes 0 0 ≡ get_or word 0 0 = ap (λ (some : List ℕ). get_or some 0 0) is.source ∙ get_or_append_left word after 0 0 spells.1 in
    (ap is_word_byte first ∙ spells.2 0 0 spells.1, ap is_ascii_digit first ∙ spells.3)

pub no_word : (bytes : List ℕ) → (is_word_byte (get_or bytes 0 0) ≡ true → is_ascii_digit (get_or bytes 0 0) ≡ false → ⊥) → (word after : List ℕ) → IsWordBefore bytes word after → ⊥
no_word bytes other word after is =
    let first = word_first bytes word after is in
    other first.0 first.1

-- ---- what the search tells

pub told_word : (text : List ℕ) (start len : ℕ) → StandsBehindBlanks text start (drop start text) → IsFrontWord (drop start text) len → IsFirst text (Word start (start + len))
told_word text start len stands front = (
  drop start text,
  take len (drop start text),
  drop len (drop start text),
  stands,
  front.is,
  ap (λ (n : ℕ). start + n) (sym (length-take-le len (drop start text) front.within)),
)

pub told_other : (text : List ℕ) (start : ℕ) → StandsBehindBlanks text start (drop start text) → start < length text
    → ((front after : List ℕ) → drop start text ≡ front ++ after → IsBlank front after → ⊥)
    → ((word after : List ℕ) → IsWordBefore (drop start text) word after → ⊥) → IsFirst text (Other start)
told_other text start stands within blank word = (drop start text, stands, record { some = omega (arith, length-drop start text); blank = blank; word = word })
