-- What is written of lexemes that are laid out well is read again as tokens of these lexemes.
use Rattle.std.proofs.Common.{◌≡◌, ℕ, zero, suc, ◌+◌, ◌-◌, ◌≤◌, ◌<◌, Bool, true, false, ◌==◌, ltb, List, [], ◌∷◌, ◌++◌, map, replicate, refl, sym, ap, ◌∙◌, subst, append_assoc, eq-eqb, arith}
use Rattle.std.proofs.lemmas.Bool.{eqb-true, lt-ltb, le-ltb, eqb-false, ne_eqb}
use Rattle.py_tokens.specs.declared.layout.Mode.{Mode}
use Rattle.py_tokens.specs.declared.layout.Mode.TheVariants as mode
use Rattle.py_tokens.specs.declared.token.Place.{Place}
use Rattle.py_tokens.specs.declared.token.Token.{Token}
use Rattle.py_tokens.specs.declared.token.TokenKind.{TokenKind}
use Rattle.py_tokens.specs.declared.token.TokenKind.TheVariants as k
use Rattle.py_tokens.specs.Layout.{Laid, before, popped, closing}
use Rattle.py_tokens.specs.Place.{token_at}
use Rattle.py_tokens.proofs.Stacks.{before_append, before_nothing}
use Rattle.py_tree.specs.inner.Laid.{Stand, IsWord, brackets, after_word, MayClose, Stands, IsLaid}
use Rattle.py_tree.specs.inner.Laid.Stand.{Start, Indented, Dedented, Within}
use Rattle.py_tree.specs.Lexeme.{Lexeme, lexeme, lexeme_of, line_kept}
use Rattle.py_tree.specs.Writing.{spelling, pen, joints, worded, written}
use Rattle.py_tree.proofs.WrittenFronts.{skip}
use Rattle.py_tree.proofs.WrittenWords.{spelt}
use Rattle.py_tree.proofs.WrittenSteps.{Text, Turns, comes_nothing, text_space, text_newline, text_word, text_first, past_ends, past_blanks, past_joints}

-- ---- blocks that are open

-- the blocks below so many
abbrev pub below : ℕ → List ℕ
below zero = []
below (suc n) = n ∷ below n

abbrev pub stack : ℕ → List ℕ
stack n = n ∷ below n

abbrev dedent : Lexeme
dedent = lexeme k.Dedent 0

abbrev dedents : ℕ → List Lexeme
dedents n = replicate n dedent

-- the indentation that was passed, and whose tokens come with the next word: from so many blocks to so many
abbrev pub Owes : Stand → ℕ → ℕ → List Lexeme → Type 0
Owes Start n m os = (m ≡ n) × (os ≡ [])
Owes (Within b) n m os = (m ≡ n) × (os ≡ [])
Owes Indented n m os = (m ≡ suc n) × (os ≡ lexeme k.Indent 0 ∷ [])
Owes Dedented n m os = (m ≤ n) × (os ≡ dedents (n - m))

may_close : (s : Stand) (n m : ℕ) (os : List Lexeme) → MayClose s → Owes s n m os → (m ≤ n) × (os ≡ dedents (n - m))
may_close Start n m os c h = let e : m ≡ n = h.0 in let z : n - m ≡ 0 = omega arith in
    (omega arith, h.1 ∙ ap dedents (sym z))
may_close Dedented n m os c h = h
may_close Indented n m os c h = absurd c
may_close (Within b) n m os c h = absurd c

-- ---- what the indentation adds

turn_same : (n : ℕ) → Turns n (stack n) (stack n) []
turn_same n p = ([], refl, λ go. rw (le-ltb n n (omega arith), eq-eqb n n refl) (before_nothing (go (stack n))))

turn_deeper : (n : ℕ) → Turns (suc n) (stack n) (stack (suc n)) (lexeme k.Indent 0 ∷ [])
turn_deeper n p = (token_at k.Indent p ∷ [], refl, λ go. rw (lt-ltb n (suc n) (omega arith)) refl)

-- entries above the column are popped
Pops : ℕ → ℕ → Type 0
Pops n m = (p : Place) → (added : List Token) × (map lexeme_of added ≡ dedents (n - m)) ×
    ((go : List ℕ → Laid) → popped p m (stack n) go ≡ before added (go (stack m)))

pops_same : (n : ℕ) → Pops n n
unfolding Pops
pops_same n p = let z : 0 ≡ n - n = omega arith in
    ([], ap dedents z, λ go. rw (eq-eqb n n refl) (before_nothing (go (stack n))))

pops_more : (n m : ℕ) → m ≤ n → Pops n m → Pops (suc n) m
unfolding Pops
pops_more n m l h p =
    let more = h p in
    let one : suc (n - m) ≡ suc n - m = omega arith in (
      token_at k.Dedent p ∷ more.0,
      ap (λ z. dedent ∷ z) more.1 ∙ ap dedents one,
      λ go. rw (ne_eqb m (suc n) (λ e. omega arith), le-ltb (suc n) m (omega arith))
          (ap (before (token_at k.Dedent p ∷ [])) (more.2 go) ∙
          before_append (token_at k.Dedent p ∷ []) more.0 (go (stack m))),
    )

pops : (n m : ℕ) → m ≤ n → Pops n m
pops zero m l = let z : 0 ≡ m = omega arith in subst (λ x. Pops 0 x) z (pops_same 0)
pops (suc n) m l = go (m == suc n) refl (λ h. pops n m h)
  where
    go : (b : Bool) → (m == suc n) ≡ b → (m ≤ n → Pops n m) → Pops (suc n) m
    go true e more = subst (λ x. Pops (suc n) x) (sym (eqb-true m (suc n) e)) (pops_same (suc n))
    go false e more = let ne : m ≡ suc n → ⊥ = eqb-false m (suc n) e in let h : m ≤ n = omega arith in
        pops_more n m h (more h)

turn_back : (n m : ℕ) → m ≤ n → Turns m (stack n) (stack m) (dedents (n - m))
unfolding Pops
turn_back n m l p = let back = pops n m l p in (back.0, back.1, λ go. skip (ltb n m) _ _ (le-ltb n m l) ∙ back.2 go)

abbrev fresh : Stand → Bool
fresh (Within b) = false
fresh _ = true

turns : (s : Stand) (n m : ℕ) (os : List Lexeme) → fresh s ≡ true → Owes s n m os → Turns m (stack n) (stack m) os
turns Start n m os f h = subst (λ z. Turns m (stack z) (stack m) os) h.0
    (subst (Turns m (stack m) (stack m)) (sym h.1) (turn_same m))
turns Indented n m os f h = subst (λ z. Turns z (stack n) (stack z) os) (sym h.0)
    (subst (Turns (suc n) (stack n) (stack (suc n))) (sym h.1) (turn_deeper n))
turns Dedented n m os f h = subst (Turns m (stack n) (stack m)) (sym h.1) (turn_back n m h.0)
turns (Within b) n m os f h = absurd (cc)

closing_stack : (last : Place) (n : ℕ) → map lexeme_of (closing last (stack n)) ≡ dedents n ++ lexeme k.End 0 ∷ []
closing_stack last zero = refl
closing_stack last (suc n) = ap (λ z. dedent ∷ z) (closing_stack last n)

dedent_last : (n : ℕ) (ls : List Lexeme) → dedents n ++ dedent ∷ ls ≡ dedents (suc n) ++ ls
dedent_last zero ls = refl
dedent_last (suc n) ls = ap (λ z. dedent ∷ z) (dedent_last n ls)

-- ---- the text

abbrev mode_of : Stand → Mode
mode_of (Within b) = mode.Within b
mode_of _ = mode.Fresh 0

regroup : (a b c d : List ℕ) (x : ℕ) → a ++ (b ++ (c ++ x ∷ d)) ≡ ((a ++ b) ++ c ++ x ∷ []) ++ d
regroup a b c d x = simp append_assoc

regroup_joints : (a c d : List ℕ) (x : ℕ) → a ++ (c ++ x ∷ d) ≡ (a ++ c ++ x ∷ []) ++ d
regroup_joints a c d x = simp append_assoc

module _ (size : ℕ) (last : Place) where
  -- what is written from here on is read again, behind what is owed
  abbrev Again : ℕ → ℕ → ℕ → Stand → List Lexeme → List Lexeme → Type 0
  Again line n m s os ls = Text size last (mode_of s) (stack n) line (written (pen line m (fresh s)) ls) (os ++ ls)

  -- whatever is owed, and from any line and depth on, these are read again
  abbrev Later : List Lexeme → Type 0
  Later ls = (line n m : ℕ) (s : Stand) (os : List Lexeme) → IsLaid line m s ls → Owes s n m os → Again line n m s os ls

  again_newline : (line n m at : ℕ) (s : Stand) (os ls : List Lexeme) →
      Stands k.Newline at line m s (λ x d t. IsLaid x d t ls) (ls ≡ []) → Owes s n m os → Later ls →
      Again line n m s os (lexeme k.Newline at ∷ ls)
  again_newline line n m at s os ls h o later =
      subst (λ z. Owes z n m os → Text size last (mode_of z) (stack n) line (10 ∷ written (pen (line + 1) m true) ls)
      (os ++ lexeme k.Newline at ∷ ls)) (sym h.0)
      (λ o. subst (Text size last (mode.Within 0) (stack n) line (10 ∷ written (pen (line + 1) m true) ls))
      (λ i. (sym o.1) i ++ lexeme k.Newline ((sym h.2) i) ∷ ls)
      (text_newline size last (stack n) line (written (pen (line + 1) m true) ls) ls
      (later (line + 1) n m Start [] h.1 (o.0, refl))))
      o

  again_indent : (line n m at : ℕ) (s : Stand) (os ls : List Lexeme) →
      Stands k.Indent at line m s (λ x d t. IsLaid x d t ls) (ls ≡ []) → Owes s n m os → Later ls →
      Again line n m s os (lexeme k.Indent at ∷ ls)
  again_indent line n m at s os ls h o later =
      subst (λ z. Owes z n m os → Text size last (mode_of z) (stack n) line (written (pen line (m + 1) (fresh z)) ls)
      (os ++ lexeme k.Indent at ∷ ls)) (sym h.0)
      (λ o. let e : m ≡ n = o.0 in subst
      (Text size last (mode.Fresh 0) (stack n) line (written (pen line (m + 1) true) ls))
      (λ i. (sym o.1) i ++ lexeme k.Indent ((sym h.2) i) ∷ ls)
      (later line n (m + 1) Indented (lexeme k.Indent 0 ∷ []) h.1 (omega arith, refl)))
      o

  dedent_rest : (line n m at : ℕ) (os ls : List Lexeme) → 0 < m → IsLaid line (m - 1) Dedented ls → at ≡ 0 →
      (m ≤ n) × (os ≡ dedents (n - m)) → Later ls →
      Text size last (mode.Fresh 0) (stack n) line (written (pen line (m - 1) true) ls) (os ++ lexeme k.Dedent at ∷ ls)
  dedent_rest line n m at os ls h laid nil c later =
      let l : m ≤ n = c.0 in
      let one : suc (n - m) ≡ n - (m - 1) = omega arith in
      subst (Text size last (mode.Fresh 0) (stack n) line (written (pen line (m - 1) true) ls))
      (sym ((λ i. c.1 i ++ lexeme k.Dedent (nil i) ∷ ls) ∙
      (dedent_last (n - m) ls ∙ ap (λ z. dedents z ++ ls) one)))
      (later line n (m - 1) Dedented (dedents (n - (m - 1))) laid (omega arith, refl))

  again_dedent : (line n m at : ℕ) (s : Stand) (os ls : List Lexeme) →
      Stands k.Dedent at line m s (λ x d t. IsLaid x d t ls) (ls ≡ []) → Owes s n m os → Later ls →
      Again line n m s os (lexeme k.Dedent at ∷ ls)
  again_dedent line n m at Start os ls h o later =
      dedent_rest line n m at os ls h.1 h.2 h.3 (may_close Start n m os h.0 o) later
  again_dedent line n m at Dedented os ls h o later =
      dedent_rest line n m at os ls h.1 h.2 h.3 (may_close Dedented n m os h.0 o) later
  again_dedent line n m at Indented os ls h o later = absurd h.0
  again_dedent line n m at (Within b) os ls h o later = absurd h.0

  at_end : (line n m at : ℕ) (os ls : List Lexeme) → m ≡ 0 → ls ≡ [] → at ≡ 0 → (m ≤ n) × (os ≡ dedents (n - m)) →
      Text size last (mode.Fresh 0) (stack n) line (written (pen line m true) ls) (os ++ lexeme k.End at ∷ ls)
  at_end line n m at os ls e none nil c =
      let all : n ≡ n - m = omega arith in
      subst (λ z. Text size last (mode.Fresh 0) (stack n) line (written (pen line m true) z)
      (os ++ lexeme k.End at ∷ z)) (sym none)
      (λ place. (
        closing last (stack n),
        comes_nothing size last (mode.Fresh 0) (stack n) (closing last (stack n)) refl,
        closing_stack last n ∙ (ap (λ z. dedents z ++ lexeme k.End 0 ∷ []) all ∙
            (λ i. (sym c.1) i ++ lexeme k.End ((sym nil) i) ∷ [])),
      ))

  again_end : (line n m at : ℕ) (s : Stand) (os ls : List Lexeme) →
      Stands k.End at line m s (λ x d t. IsLaid x d t ls) (ls ≡ []) → Owes s n m os →
      Again line n m s os (lexeme k.End at ∷ ls)
  again_end line n m at Start os ls h o = at_end line n m at os ls h.1 h.2 h.3 (may_close Start n m os h.0 o)
  again_end line n m at Dedented os ls h o = at_end line n m at os ls h.1 h.2 h.3 (may_close Dedented n m os h.0 o)
  again_end line n m at Indented os ls h o = absurd h.0
  again_end line n m at (Within b) os ls h o = absurd h.0

  within_word : (kind : TokenKind) (line n m at b : ℕ) (os ls : List Lexeme) → line ≤ at → IsWord kind →
      line_kept kind at ≡ at → IsLaid at m (Within (after_word kind b)) ls → (m ≡ n) × (os ≡ []) → Later ls →
      Text size last (mode.Within b) (stack n) line
      (worded (pen line m false) at (spelling kind) ++ written (pen at m false) ls) (os ++ lexeme kind at ∷ ls)
  within_word kind line n m at b os ls h w kept laid o later =
      let more = written (pen at m false) ls in
      λ place. subst (λ z. Text size last (mode.Within b) (stack n) line z (os ++ lexeme kind at ∷ ls))
      (regroup_joints (joints (at - line)) (spelling kind) more 32)
      (subst (λ z. Text size last (mode.Within b) (stack n) line (joints (at - line) ++ (spelling kind ++ 32 ∷ more))
      (z ++ lexeme kind at ∷ ls)) (sym o.1)
      (past_joints size last (at - line) b (stack n) line at (spelling kind ++ 32 ∷ more) (lexeme kind at ∷ ls)
      (omega arith)
      (text_word size last kind (spelling kind) b (stack n) at more ls (spelt kind w) kept
      (text_space size last (after_word kind b) (stack n) at more ls
      (later at n m (Within (after_word kind b)) [] laid (o.0, refl)))))) place

  fresh_word : (kind : TokenKind) (line n m at : ℕ) (os ls : List Lexeme) → line ≤ at → IsWord kind →
      line_kept kind at ≡ at → IsLaid at m (Within (after_word kind 0)) ls → Turns m (stack n) (stack m) os → Later ls →
      Text size last (mode.Fresh 0) (stack n) line
      (worded (pen line m true) at (spelling kind) ++ written (pen at m false) ls) (os ++ lexeme kind at ∷ ls)
  fresh_word kind line n m at os ls h w kept laid turn later =
      let more = written (pen at m false) ls in
      let word = spelling kind ++ 32 ∷ more in
      λ place. subst (λ z. Text size last (mode.Fresh 0) (stack n) line z (os ++ lexeme kind at ∷ ls))
      (regroup (replicate (at - line) 10) (replicate m 32) (spelling kind) more 32)
      (past_ends size last (at - line) (stack n) line at (replicate m 32 ++ word) (os ++ lexeme kind at ∷ ls)
      (omega arith)
      (past_blanks size last m 0 m (stack n) at word (os ++ lexeme kind at ∷ ls) (omega arith)
      (text_first size last kind (spelling kind) m (stack n) (stack m) at more os ls (spelt kind w) kept turn
      (text_space size last (after_word kind 0) (stack m) at more ls
      (later at m m (Within (after_word kind 0)) [] laid (refl, refl)))))) place

  -- a word, and what follows it
  again_word : (kind : TokenKind) (line n m at : ℕ) (s : Stand) (os ls : List Lexeme) → line ≤ at → IsWord kind →
      line_kept kind at ≡ at → IsLaid at m (Within (after_word kind (brackets s))) ls → Owes s n m os → Later ls →
      Text size last (mode_of s) (stack n) line
      (worded (pen line m (fresh s)) at (spelling kind) ++ written (pen at m false) ls) (os ++ lexeme kind at ∷ ls)
  again_word kind line n m at (Within b) os ls h w kept laid o later =
      within_word kind line n m at b os ls h w kept laid o later
  again_word kind line n m at Start os ls h w kept laid o later =
      fresh_word kind line n m at os ls h w kept laid (turns Start n m os refl o) later
  again_word kind line n m at Indented os ls h w kept laid o later =
      fresh_word kind line n m at os ls h w kept laid (turns Indented n m os refl o) later
  again_word kind line n m at Dedented os ls h w kept laid o later =
      fresh_word kind line n m at os ls h w kept laid (turns Dedented n m os refl o) later

  again_one : (kind : TokenKind) (line n m at : ℕ) (s : Stand) (os ls : List Lexeme) →
      Stands kind at line m s (λ x d t. IsLaid x d t ls) (ls ≡ []) → Owes s n m os → Later ls →
      Again line n m s os (lexeme kind at ∷ ls)
  again_one k.Newline line n m at s os ls h o later = again_newline line n m at s os ls h o later
  again_one k.Indent line n m at s os ls h o later = again_indent line n m at s os ls h o later
  again_one k.Dedent line n m at s os ls h o later = again_dedent line n m at s os ls h o later
  again_one k.End line n m at s os ls h o later = again_end line n m at s os ls h o
  again_one (k.Name bs) line n m at s os ls h o later = again_word (k.Name bs) line n m at s os ls h.0 h.1 refl h.2 o
      later
  again_one (k.Keyword x) line n m at s os ls h o later = again_word (k.Keyword x) line n m at s os ls h.0 h.1 refl h.2
      o later
  again_one (k.Int x) line n m at s os ls h o later = again_word (k.Int x) line n m at s os ls h.0 h.1 refl h.2 o later
  again_one (k.Str bs) line n m at s os ls h o later = again_word (k.Str bs) line n m at s os ls h.0 h.1 refl h.2 o
      later
  again_one (k.Op x) line n m at s os ls h o later = again_word (k.Op x) line n m at s os ls h.0 h.1 refl h.2 o later
  again_one (k.Other x) line n m at s os ls h o later = absurd h

  pub again : (ls : List Lexeme) → Later ls
  again [] line n m s os h o = absurd h
  again (l ∷ ls) line n m s os h o = again_one l.kind line n m l.line s os ls h o (again ls)
