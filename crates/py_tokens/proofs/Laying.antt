-- What one more word adds to the tokens that are still to come.
use Rattle.std.proofs.Common.{◌≡◌, ℕ, ◌+◌, ◌-◌, List, [], ◌∷◌, ◌++◌, Option, Some, Result, Ok, Err, refl, sym, ap, ◌∙◌, subst, append-nil}
use Rattle.py_base.specs.declared.refusal.Refusal.{Refusal}
use Rattle.py_tokens.specs.declared.error.TokenError.{TokenError}
use Rattle.py_tokens.specs.declared.error.TokenError.TheVariants.{Refused, OutOfMemory}
use Rattle.py_tokens.specs.declared.layout.Mode.{Mode}
use Rattle.py_tokens.specs.declared.layout.Mode.TheVariants.{Fresh, Held, Within}
use Rattle.py_tokens.specs.declared.token.Place.{Place}
use Rattle.py_tokens.specs.declared.token.Token.{Token}
use Rattle.py_tokens.specs.declared.token.TokenKind.TheVariants as k
use Rattle.py_tokens.specs.declared.word.Word.{Word}
use Rattle.py_tokens.specs.declared.word.Word.TheVariants.{Blank, Comment, Joint, LineEnd, Opens, Closes, Plain}
use Rattle.py_tokens.specs.Place.{token_at, before_place, before_token}
use Rattle.py_tokens.specs.Layout.{Lines, joined, lines, tokens_in, after_blank, Laid, before, indented, lines_laid}
use Rattle.py_tokens.specs.Tokens.{to_come, Moves, begun, took, Takes, depth_of, blanked, held, Lays, Ends, Breaks}
use Rattle.py_tokens.proofs.Stacks.{before_append, before_nothing}

-- ---- words that give no token

pub lays_blank : (m : Mode) (b : ℕ) (stack : List ℕ) (out : List Token) →
    Lays (Ok (blanked b m)) m stack (Blank b) stack out out
lays_blank (Fresh c) b stack out = (
  [],
  sym (append-nil out),
  λ last stop ws.
      before_nothing (to_come last stop (Fresh (after_blank c b)) stack ws),
)
lays_blank (Held c q) b stack out =
    ([], sym (append-nil out), λ last stop ws. before_nothing (to_come last stop (Held c q) stack ws))
lays_blank (Within d) b stack out = (
  [],
  sym (append-nil out),
  λ last stop ws.
      before_nothing (to_come last stop (Within d) stack ws),
)

pub lays_comment : (m : Mode) (stack : List ℕ) (out : List Token) → Lays (Ok m) m stack Comment stack out out
lays_comment (Fresh c) stack out =
    ([], sym (append-nil out), λ last stop ws. before_nothing (to_come last stop (Fresh c) stack ws))
lays_comment (Held c q) stack out =
    ([], sym (append-nil out), λ last stop ws. before_nothing (to_come last stop (Held c q) stack ws))
lays_comment (Within d) stack out = (
  [],
  sym (append-nil out),
  λ last stop ws.
      before_nothing (to_come last stop (Within d) stack ws),
)

pub lays_joint : (m : Mode) (p : Place) (stack : List ℕ) (out : List Token) →
    Lays (Ok (held p m)) m stack (Joint p) stack out out
lays_joint (Fresh c) p stack out =
    ([], sym (append-nil out), λ last stop ws. before_nothing (to_come last stop (Held c p) stack ws))
lays_joint (Held c q) p stack out =
    ([], sym (append-nil out), λ last stop ws. before_nothing (to_come last stop (Held c q) stack ws))
lays_joint (Within d) p stack out =
    ([], sym (append-nil out), λ last stop ws. before_nothing (to_come last stop (Within d) stack ws))

pub lays_line_end : (r : Result Mode TokenError) (m : Mode) (p : Place) (stack : List ℕ) (old new : List Token) →
    Ends r m p old new → Lays r m stack (LineEnd p) stack old new
lays_line_end (Ok m') m p stack old new h = (h.0, h.1, λ last stop ws. h.2 last stop stack ws)
lays_line_end (Err e) m p stack old new h = subst (λ z. Lays (Err z) m stack (LineEnd p) stack old new) (sym h) tt

pub as_word : (r : Result Mode TokenError) (m : Mode) (stack stack' : List ℕ) (old new : List Token) (w w' : Word) →
    w ≡ w' → Lays r m stack w' stack' old new → Lays r m stack w stack' old new
as_word r m stack stack' old new w w' e h = subst (λ z. Lays r m stack z stack' old new) (sym e) h

pub as_mode : (n n' m : Mode) (stack stack' : List ℕ) (old new : List Token) (w : Word) → n ≡ n' →
    Lays (Ok n') m stack w stack' old new → Lays (Ok n) m stack w stack' old new
as_mode n n' m stack stack' old new w e h = subst (λ z. Lays (Ok z) m stack w stack' old new) (sym e) h

-- ---- tokens

-- what is still to come after a token, inside so many brackets
abbrev pub Follows : Mode → Token → Word → ℕ → Type 0
Follows m t w depth = (last : Place) (stop : Option Refusal) (ws : List Word) (stack : List ℕ) →
    to_come last stop m stack (w ∷ ws) ≡ took t m stack (λ s. to_come last stop (Within depth) s ws)

split_first : (t : Token) (ts us : List Token) (r : Laid) →
    before ((t ∷ ts) ++ us) r ≡ before (t ∷ []) (before (ts ++ us) r)
split_first t ts us r = sym (before_append (t ∷ []) (ts ++ us) r)

split_line : (last : Place) (stop : Option Refusal) (p : Place) (t : Token) (column : ℕ) (stack : List ℕ) (ls : Lines) →
    (let end = token_at k.Newline ls.0.end ∷ [] in
    indented p column stack (λ s. before ((t ∷ tokens_in ls.0.words) ++ end) (lines_laid last stop s ls.1))
    ≡ indented p column stack (λ s. before (t ∷ [])
    (before (tokens_in ls.0.words ++ end) (lines_laid last stop s ls.1))))
split_line last stop p t column stack ls =
    let end = token_at k.Newline ls.0.end ∷ [] in
    λ i. indented p column stack (λ s. split_first t (tokens_in ls.0.words) end (lines_laid last stop s ls.1) i)

pub follows_opens : (m : Mode) (t : Token) → Follows m t (Opens t) (depth_of m + 1)
follows_opens (Fresh c) t last stop ws stack =
    split_line last stop (before_token t) t c stack (lines last (joined (0 + 1) ws))
follows_opens (Held c q) t last stop ws stack =
    split_line last stop (before_place q) t c stack (lines last (joined (0 + 1) ws))
follows_opens (Within d) t last stop ws stack = let ls = lines last (joined (d + 1) ws) in
    split_first t (tokens_in ls.0.words) (token_at k.Newline ls.0.end ∷ []) (lines_laid last stop stack ls.1)

pub follows_closes : (m : Mode) (t : Token) → Follows m t (Closes t) (depth_of m - 1)
follows_closes (Fresh c) t last stop ws stack =
    split_line last stop (before_token t) t c stack (lines last (joined (0 - 1) ws))
follows_closes (Held c q) t last stop ws stack =
    split_line last stop (before_place q) t c stack (lines last (joined (0 - 1) ws))
follows_closes (Within d) t last stop ws stack = let ls = lines last (joined (d - 1) ws) in
    split_first t (tokens_in ls.0.words) (token_at k.Newline ls.0.end ∷ []) (lines_laid last stop stack ls.1)

pub follows_plain : (m : Mode) (t : Token) → Follows m t (Plain t) (depth_of m)
follows_plain (Fresh c) t last stop ws stack =
    split_line last stop (before_token t) t c stack (lines last (joined 0 ws))
follows_plain (Held c q) t last stop ws stack =
    split_line last stop (before_place q) t c stack (lines last (joined 0 ws))
follows_plain (Within d) t last stop ws stack = let ls = lines last (joined d ws) in
    split_first t (tokens_in ls.0.words) (token_at k.Newline ls.0.end ∷ []) (lines_laid last stop stack ls.1)

lays_token : (r : Result Mode TokenError) (m : Mode) (t : Token) (w : Word) (depth : ℕ) (stack stack' : List ℕ)
    (old new : List Token) → Follows m t w depth → Takes r depth (took t m) stack stack' old new →
    Lays r m stack w stack' old new
lays_token (Ok m') m t w depth stack stack' old new f h = let n = h.1 in (
  n.0,
  n.1,
  λ last stop ws. f last stop ws stack ∙ n.2 (λ s. to_come last stop (Within depth) s ws) ∙
      ap (λ z. before n.0 (to_come last stop z stack' ws)) (sym h.0),
)
lays_token (Err OutOfMemory) m t w depth stack stack' old new f h = tt
lays_token (Err (Refused e)) m t w depth stack stack' old new f h = λ last stop ws. f last stop ws stack ∙
    h (λ s. to_come last stop (Within depth) s ws)

pub lays_opens : (r : Result Mode TokenError) (m : Mode) (t : Token) (depth : ℕ) (stack stack' : List ℕ)
    (old new : List Token) → depth ≡ depth_of m → Takes r (depth + 1) (took t m) stack stack' old new →
    Lays r m stack (Opens t) stack' old new
lays_opens r m t depth stack stack' old new e h = lays_token r m t (Opens t) (depth_of m + 1) stack stack' old new
    (follows_opens m t) (subst (λ d. Takes r (d + 1) (took t m) stack stack' old new) e h)

pub lays_closes : (r : Result Mode TokenError) (m : Mode) (t : Token) (depth : ℕ) (stack stack' : List ℕ)
    (old new : List Token) → depth ≡ depth_of m - 1 → Takes r depth (took t m) stack stack' old new →
    Lays r m stack (Closes t) stack' old new
lays_closes r m t depth stack stack' old new e h = lays_token r m t (Closes t) (depth_of m - 1) stack stack' old new
    (follows_closes m t) (subst (λ d. Takes r d (took t m) stack stack' old new) e h)

pub lays_plain : (r : Result Mode TokenError) (m : Mode) (t : Token) (depth : ℕ) (stack stack' : List ℕ)
    (old new : List Token) → depth ≡ depth_of m → Takes r depth (took t m) stack stack' old new →
    Lays r m stack (Plain t) stack' old new
lays_plain r m t depth stack stack' old new e h = lays_token r m t (Plain t) (depth_of m) stack stack' old new
    (follows_plain m t) (subst (λ d. Takes r d (took t m) stack stack' old new) e h)

-- ---- a place where no rule continues

breaks_at : (p last : Place) (e : Refusal) (m : Mode) (stack : List ℕ) →
    to_come last (Some e) m stack (Plain (token_at (k.Name []) p) ∷ []) ≡ begun (before_place p) m stack (λ s. Err e)
breaks_at p last e (Fresh c) stack = refl
breaks_at p last e (Held c q) stack = refl
breaks_at p last e (Within d) stack = refl

abbrev pub reason_of : Refusal → Result (Unit {0}) TokenError → TokenError
reason_of e (Ok u) = Refused e
reason_of e (Err d) = d

breaks_before : (r : Result (Unit {0}) TokenError) (p : Place) (e : Refusal) (m : Mode)
    (stack stack' : List ℕ) (old new : List Token) →
    Moves r (begun (before_place p) m) stack stack' old new → Breaks (reason_of e r) p e m stack
breaks_before (Ok u) p e m stack stack' old new h = λ last. breaks_at p last e m stack ∙ h.2 (λ s. Err e)
breaks_before (Err (Refused d)) p e m stack stack' old new h = λ last. breaks_at p last e m stack ∙ h (λ s. Err e)
breaks_before (Err OutOfMemory) p e m stack stack' old new h = tt

pub breaks : (r : Result (Unit {0}) TokenError) (p q : Place) (e : Refusal) (m : Mode)
    (stack stack' : List ℕ) (old new : List Token) →
    q ≡ before_place p → Moves r (begun q m) stack stack' old new → Breaks (reason_of e r) p e m stack
breaks r p q e m stack stack' old new same h =
    breaks_before r p e m stack stack' old new (subst (λ z. Moves r (begun z m) stack stack' old new) same h)
