-- Which tokens come of a text from here on, and what each word that is put before it adds.
use Rattle.std.proofs.Common.{◌≡◌, ℕ, zero, suc, ◌+◌, ◌-◌, ◌≤◌, Bool, true, false, if◌then◌else◌, List, [], ◌∷◌, ◌++◌, length, map, replicate, None, Ok, refl, sym, ap, ◌∙◌, subst, append_assoc, length-append, arith}
use Rattle.std.proofs.lemmas.List.{map-append}
use Rattle.py_tokens.specs.declared.character.Character.{Character}
use Rattle.py_tokens.specs.declared.layout.Mode.{Mode}
use Rattle.py_tokens.specs.declared.layout.Mode.TheVariants.{Fresh, Within}
use Rattle.py_tokens.specs.declared.token.Place.{Place}
use Rattle.py_tokens.specs.declared.token.Token.{Token}
use Rattle.py_tokens.specs.declared.token.TokenKind.{TokenKind}
use Rattle.py_tokens.specs.declared.token.TokenKind.TheVariants as k
use Rattle.py_tokens.specs.declared.word.Word.{Word}
use Rattle.py_tokens.specs.declared.word.Word.TheVariants.{Blank, Joint, LineEnd, Opens, Closes, Plain}
use Rattle.py_tokens.specs.Characters.{character}
use Rattle.py_tokens.specs.Layout.{Laid, before, indented}
use Rattle.py_tokens.specs.Place.{place, place_of, token_at, before_token}
use Rattle.py_tokens.specs.Tokens.{to_come, took, depth_of}
use Rattle.py_tokens.specs.Words.{word_at, is_opening, is_closing, with_word, cut_more, cut}
use Rattle.py_tokens.proofs.Laying.{Follows, follows_opens, follows_closes, follows_plain}
use Rattle.py_tokens.proofs.Stacks.{before_append, before_nothing}
use Rattle.py_tree.specs.inner.Laid.{after_word}
use Rattle.py_tree.specs.Lexeme.{Lexeme, lexeme, lexeme_of, line_kept}
use Rattle.py_tree.specs.Writing.{joints}
use Rattle.py_tree.proofs.WrittenRows.{plain, row, ahead, word_for, Spelt, plain_row}

-- ---- from characters to tokens

-- the words of these characters
abbrev pub Cuts : ℕ → List Character → List Word → Type 0
Cuts size cs ws = (n : ℕ) → length cs ≤ n → cut n size cs ≡ record { words = ws; stop = None }

-- the tokens that come of these characters in this mode
pub record Comes (size : ℕ) (last : Place) (m : Mode) (stack : List ℕ) (cs : List Character) (ts : List Token) : Type 0
  where
    pub words : List Word
    pub cuts : Cuts size cs words
    pub come : to_come last None m stack words ≡ Ok ts

cuts_more : (size : ℕ) (c : Character) (cs more : List Character) (w : Word) (ws : List Word) →
    word_at size (c ∷ cs) ≡ Ok (w, more) → length more ≤ length cs → Cuts size more ws → Cuts size (c ∷ cs) (w ∷ ws)
unfolding cut
cuts_more size c cs more w ws e l h zero b = absurd (omega arith)
cuts_more size c cs more w ws e l h (suc n) b = ap (cut_more c (cut n size)) e ∙ ap (with_word w) (h n (omega arith))

-- one more word in front
comes_more : (size : ℕ) (last : Place) (m m' : Mode) (stack stack' : List ℕ) (c : Character) (cs more : List Character)
    (w : Word) (added ts : List Token) → word_at size (c ∷ cs) ≡ Ok (w, more) → length more ≤ length cs →
    ((ws : List Word) → to_come last None m stack (w ∷ ws) ≡ before added (to_come last None m' stack' ws)) →
    Comes size last m' stack' more ts → Comes size last m stack (c ∷ cs) (added ++ ts)
comes_more size last m m' stack stack' c cs more w added ts e l f h = record {
  words = w ∷ h.words;
  cuts = cuts_more size c cs more w h.words e l h.cuts;
  come = f h.words ∙ ap (before added) h.come;
}

pub comes_nothing : (size : ℕ) (last : Place) (m : Mode) (stack : List ℕ) (ts : List Token) →
    to_come last None m stack [] ≡ Ok ts → Comes size last m stack [] ts
unfolding cut
comes_nothing size last m stack ts e = record { words = []; cuts = nothing; come = e }
  where
    nothing : Cuts size [] []
    nothing zero b = refl
    nothing (suc n) b = refl

-- ---- bytes

-- From any place on, tokens of these lexemes come of these bytes, the first of which stands on this line.
abbrev pub Text : ℕ → Place → Mode → List ℕ → ℕ → List ℕ → List Lexeme → Type 0
Text size last m stack line bytes ls = (at : ℕ) → (ts : List Token) × Comes size last m stack (plain at line bytes) ts
    × (map lexeme_of ts ≡ ls)

mapped : (a r : List Token) (t : Token) (os ls : List Lexeme) (x : Lexeme) → map lexeme_of a ≡ os → lexeme_of t ≡ x →
    map lexeme_of r ≡ ls → map lexeme_of ((a ++ t ∷ []) ++ r) ≡ os ++ x ∷ ls
mapped a r t os ls x e f g = ap (map lexeme_of) (append_assoc a (t ∷ []) r) ∙
    (map-append lexeme_of a (t ∷ r) ∙ (λ i. e i ++ f i ∷ g i))

-- what the indentation before a line's first word adds, whatever comes after it
abbrev pub Turns : ℕ → List ℕ → List ℕ → List Lexeme → Type 0
Turns column stack stack' ls = (p : Place) →
    (added : List Token) × (map lexeme_of added ≡ ls) ×
    ((go : List ℕ → Laid) → indented p column stack go ≡ before added (go stack'))

module _ (size : ℕ) (last : Place) where
  text_end : (stack : List ℕ) (line : ℕ) (bytes : List ℕ) (ls : List Lexeme) →
      Text size last (Fresh 0) stack (line + 1) bytes ls → Text size last (Fresh 0) stack line (10 ∷ bytes) ls
  unfolding word_at
  text_end stack line bytes ls h at =
      let rest = h (at + 1) in
      let c : Character = character 10 at (at + 1) line in
      let cs : List Character = plain (at + 1) (line + 1) bytes in (
        rest.0,
        comes_more size last (Fresh 0) (Fresh 0) stack stack c cs cs (LineEnd (place_of c)) [] rest.0 refl
            (omega arith) (λ ws. before_nothing (to_come last None (Fresh 0) stack ws)) rest.1,
        rest.2,
      )

  text_blank : (column : ℕ) (stack : List ℕ) (line : ℕ) (bytes : List ℕ) (ls : List Lexeme) →
      Text size last (Fresh (column + 1)) stack line bytes ls → Text size last (Fresh column) stack line (32 ∷ bytes) ls
  unfolding word_at
  text_blank column stack line bytes ls h at =
      let rest = h (at + 1) in
      let c : Character = character 32 at (at + 1) line in
      let cs : List Character = plain (at + 1) line bytes in (
        rest.0,
        comes_more size last (Fresh column) (Fresh (column + 1)) stack stack c cs cs (Blank 32) [] rest.0 refl
            (omega arith) (λ ws. before_nothing (to_come last None (Fresh (column + 1)) stack ws)) rest.1,
        rest.2,
      )

  pub text_space : (depth : ℕ) (stack : List ℕ) (line : ℕ) (bytes : List ℕ) (ls : List Lexeme) →
      Text size last (Within depth) stack line bytes ls → Text size last (Within depth) stack line (32 ∷ bytes) ls
  unfolding word_at
  text_space depth stack line bytes ls h at =
      let rest = h (at + 1) in
      let c : Character = character 32 at (at + 1) line in
      let cs : List Character = plain (at + 1) line bytes in (
        rest.0,
        comes_more size last (Within depth) (Within depth) stack stack c cs cs (Blank 32) [] rest.0 refl
            (omega arith) (λ ws. before_nothing (to_come last None (Within depth) stack ws)) rest.1,
        rest.2,
      )

  text_joint : (depth : ℕ) (stack : List ℕ) (line : ℕ) (bytes : List ℕ) (ls : List Lexeme) →
      Text size last (Within depth) stack (line + 1) bytes ls →
      Text size last (Within depth) stack line (92 ∷ 10 ∷ bytes) ls
  unfolding word_at
  text_joint depth stack line bytes ls h at =
      let rest = h (at + 1 + 1) in
      let c : Character = character 92 at (at + 1) line in
      let cs : List Character = plain (at + 1 + 1) (line + 1) bytes in
      let end : Character = character 10 (at + 1) (at + 1 + 1) line in (
        rest.0,
        comes_more size last (Within depth) (Within depth) stack stack c (end ∷ cs) cs (Joint (place_of c)) [] rest.0
            refl
            (omega arith) (λ ws. before_nothing (to_come last None (Within depth) stack ws)) rest.1,
        rest.2,
      )

  pub text_newline : (stack : List ℕ) (line : ℕ) (bytes : List ℕ) (ls : List Lexeme) →
      Text size last (Fresh 0) stack (line + 1) bytes ls →
      Text size last (Within 0) stack line (10 ∷ bytes) (lexeme k.Newline 0 ∷ ls)
  unfolding word_at
  text_newline stack line bytes ls h at =
      let rest = h (at + 1) in
      let c : Character = character 10 at (at + 1) line in
      let cs : List Character = plain (at + 1) (line + 1) bytes in
      let t : Token = token_at k.Newline (place_of c) in (
        t ∷ rest.0,
        comes_more size last (Within 0) (Fresh 0) stack stack c cs cs (LineEnd (place_of c)) (t ∷ []) rest.0
            refl (omega arith) (λ ws. refl) rest.1,
        ap (λ z. lexeme k.Newline 0 ∷ z) rest.2,
      )

  -- ---- words

  follows : (kind : TokenKind) (m : Mode) (t : Token) → Follows m t (word_for kind t) (after_word kind (depth_of m))
  follows (k.Op o) m t = go (is_opening o) (is_closing o)
    where
      go : (p q : Bool) → Follows m t (if p then Opens t else (if q then Closes t else Plain t))
          (if p then depth_of m + 1 else (if q then depth_of m - 1 else depth_of m))
      go true q = follows_opens m t
      go false true = follows_closes m t
      go false false = follows_plain m t
  follows (k.Name bs) m t = follows_plain m t
  follows (k.Keyword n) m t = follows_plain m t
  follows (k.Int n) m t = follows_plain m t
  follows (k.Str bs) m t = follows_plain m t
  follows k.Newline m t = follows_plain m t
  follows k.Indent m t = follows_plain m t
  follows k.Dedent m t = follows_plain m t
  follows k.End m t = follows_plain m t
  follows (k.Other o) m t = follows_plain m t

  comes_word : (kind : TokenKind) (bytes : List ℕ) (m : Mode) (stack stack' : List ℕ) (at line : ℕ) (more : List ℕ)
      (added ts : List Token) → Spelt kind bytes →
      ((go : List ℕ → Laid) → took (token_at kind (place at (ahead at bytes) line)) m stack go ≡ before added
      (go stack')) →
      Comes size last (Within (after_word kind (depth_of m))) stack' (plain (ahead at bytes) line (32 ∷ more)) ts →
      Comes size last m stack (plain at line (bytes ++ 32 ∷ more)) (added ++ ts)
  comes_word kind [] m stack stack' at line more added ts s f h = absurd (let no : ⊥ = cc s.is in no)
  comes_word kind (b ∷ bs) m stack stack' at line more added ts s f h =
      let end = ahead at (b ∷ bs) in
      let rest : List Character = plain end line (32 ∷ more) in
      let t : Token = token_at kind (place at end line) in
      subst (λ z. Comes size last m stack z (added ++ ts)) (sym (plain_row at line (b ∷ bs) (32 ∷ more) s.quiet))
      (comes_more size last m (Within (after_word kind (depth_of m))) stack stack' (character b at (at + 1) line)
      (row (at + 1) line bs ++ rest) rest (word_for kind t) added ts
      (s.reads size at line end (end + 1) line (plain (end + 1) line more))
      (omega (arith, length-append (row (at + 1) line bs) rest))
      (λ ws. follows kind m t last None ws stack ∙
      f (λ z. to_come last None (Within (after_word kind (depth_of m))) z ws)) h)

  pub text_word : (kind : TokenKind) (bytes : List ℕ) (depth : ℕ) (stack : List ℕ) (line : ℕ) (more : List ℕ)
      (ls : List Lexeme) → Spelt kind bytes → line_kept kind line ≡ line →
      Text size last (Within (after_word kind depth)) stack line (32 ∷ more) ls →
      Text size last (Within depth) stack line (bytes ++ 32 ∷ more) (lexeme kind line ∷ ls)
  text_word kind bytes depth stack line more ls s kept h at =
      let rest = h (ahead at bytes) in
      let t : Token = token_at kind (place at (ahead at bytes) line) in (
        t ∷ rest.0,
        comes_word kind bytes (Within depth) stack stack at line more (t ∷ []) rest.0 s (λ go. refl) rest.1,
        λ i. lexeme kind (kept i) ∷ rest.2 i,
      )

  pub text_first : (kind : TokenKind) (bytes : List ℕ) (column : ℕ) (stack stack' : List ℕ) (line : ℕ) (more : List ℕ)
      (os ls : List Lexeme) → Spelt kind bytes → line_kept kind line ≡ line → Turns column stack stack' os →
      Text size last (Within (after_word kind 0)) stack' line (32 ∷ more) ls →
      Text size last (Fresh column) stack line (bytes ++ 32 ∷ more) (os ++ lexeme kind line ∷ ls)
  text_first kind bytes column stack stack' line more os ls s kept turns h at =
      let rest = h (ahead at bytes) in
      let t : Token = token_at kind (place at (ahead at bytes) line) in
      let turn = turns (before_token t) in (
        (turn.0 ++ t ∷ []) ++ rest.0,
        comes_word kind bytes (Fresh column) stack stack' at line more (turn.0 ++ t ∷ []) rest.0 s
            (λ go. turn.2 (λ z. before (t ∷ []) (go z)) ∙ before_append turn.0 (t ∷ []) (go stack')) rest.1,
        mapped turn.0 rest.0 t os ls (lexeme kind line) turn.1 (λ i. lexeme kind (kept i)) rest.2,
      )

  -- ---- what leads to a word

  pub past_ends : (n : ℕ) (stack : List ℕ) (line to : ℕ) (bytes : List ℕ) (ls : List Lexeme) → line + n ≡ to →
      Text size last (Fresh 0) stack to bytes ls → Text size last (Fresh 0) stack line (replicate n 10 ++ bytes) ls
  past_ends zero stack line to bytes ls e h = let same : to ≡ line = omega arith in
      subst (λ z. Text size last (Fresh 0) stack z bytes ls) same h
  past_ends (suc n) stack line to bytes ls e h =
      text_end stack line (replicate n 10 ++ bytes) ls (past_ends n stack (line + 1) to bytes ls (omega arith) h)

  pub past_blanks : (n column to : ℕ) (stack : List ℕ) (line : ℕ) (bytes : List ℕ) (ls : List Lexeme) →
      column + n ≡ to → Text size last (Fresh to) stack line bytes ls →
      Text size last (Fresh column) stack line (replicate n 32 ++ bytes) ls
  past_blanks zero column to stack line bytes ls e h = let same : to ≡ column = omega arith in
      subst (λ z. Text size last (Fresh z) stack line bytes ls) same h
  past_blanks (suc n) column to stack line bytes ls e h = text_blank column stack line (replicate n 32 ++ bytes) ls
      (past_blanks n (column + 1) to stack line bytes ls (omega arith) h)

  pub past_joints : (n depth : ℕ) (stack : List ℕ) (line to : ℕ) (bytes : List ℕ) (ls : List Lexeme) → line + n ≡ to →
      Text size last (Within depth) stack to bytes ls → Text size last (Within depth) stack line (joints n ++ bytes) ls
  past_joints zero depth stack line to bytes ls e h = let same : to ≡ line = omega arith in
      subst (λ z. Text size last (Within depth) stack z bytes ls) same h
  past_joints (suc n) depth stack line to bytes ls e h =
      text_joint depth stack line (joints n ++ bytes) ls
      (past_joints n depth stack (line + 1) to bytes ls (omega arith) h)
