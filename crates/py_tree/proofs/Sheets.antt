-- What a writer has after statements and their blocks.
use Rattle.std.proofs.Common.{◌≡◌, ℕ, ◌+◌, ◌<◌, Bool, false, List, [], ◌∷◌, ◌++◌, length, get_or, drop, Option, Some, None, refl, sym, ap, ◌∙◌, append_assoc, append-nil}
use Rattle.py_base.proofs.Lists.{next_item}
use Rattle.py_tokens.specs.declared.keyword.TheConstants as keyword
use Rattle.py_tokens.specs.declared.operator.TheConstants as operator
use Rattle.py_tokens.specs.declared.token.TokenKind.TheVariants as k
use Rattle.py_tree.specs.declared.expr.Expr.{Expr}
use Rattle.py_tree.specs.declared.stmt.Arm.{Arm}
use Rattle.py_tree.specs.declared.stmt.Clause.{Clause}
use Rattle.py_tree.specs.declared.stmt.Handler.{Handler}
use Rattle.py_tree.specs.declared.stmt.Module.{Module}
use Rattle.py_tree.specs.declared.stmt.Stmt.{Stmt}
use Rattle.py_tree.specs.declared.stmt.Stmt.TheVariants as stmt
use Rattle.py_tree.specs.declared.writer.Writer.{Writer}
use Rattle.py_tree.specs.Lexeme.{Lexeme, lexeme}
use Rattle.py_tree.specs.Spelling.{Words, words}
use Rattle.py_tree.specs.Canonical.{Piece, Simple, Compound, on, ending, in_order, block_lexemes, head, expr_or, led_or, piece, pieces, module_text}
use Rattle.py_tree.specs.inner.Clauses.{lexemes_arm, lexemes_arms, lexemes_if, lexemes_clause, lexemes_clause_or, lexemes_handler, lexemes_handlers, simple_line, piece_lexemes, joint, resumed}
use Rattle.py_tree.specs.inner.Page.{pen_of, put, put_all, spell}
use Rattle.py_tree.specs.Writing.{Pen, mark, moved, written, first_pen}
use Rattle.py_tree.proofs.Pages.{spell_append, put_all_append}
use Rattle.py_tree.proofs.Pieces.{piece_laws, piece_for, piece_try}

pub on_spelled : (line : ℕ) (w : Writer) (ks : Words) → put_all w (on line ks) ≡ spell line w ks
on_spelled line w [] = refl
on_spelled line w (k ∷ ks) = on_spelled line (put w (lexeme k line)) ks

pub ruleset sheet_laws = (piece_laws, on_spelled, put_all_append, spell_append)

-- ---- the text

put_text : (w : Writer) (ls : List Lexeme) → (put_all w ls).text ≡ w.text ++ written (pen_of w) ls
unfolding put
put_text w [] = sym (append-nil w.text)
put_text w (l ∷ ls) = put_text (put w l) ls ∙ append_assoc w.text (mark (pen_of w) l) (written (moved (pen_of w) l) ls)

written_end : (p : Pen) (ls : List Lexeme) → written p (ls ++ lexeme k.End 0 ∷ []) ≡ written p ls
written_end p [] = refl
written_end p (l ∷ ls) = ap (λ z. mark p l ++ z) (written_end (moved p l) ls)

pub text_written : (w v : Writer) (m : Module) → w.text ≡ [] → pen_of w ≡ first_pen →
    v ≡ put_all w (in_order false (pieces m.body)) → v.text ≡ module_text m
text_written w v m e f h =
    ap (λ (z : Writer). z.text) h
    ∙ (put_text w (in_order false (pieces m.body))
    ∙ ((λ i. e i ++ written (f i) (in_order false (pieces m.body))) ∙
    sym (written_end first_pen (in_order false (pieces m.body)))))

-- ---- statements

resumed_cons : (short : Bool) (open' : Option ℕ) (p : Piece) (ps : List Piece) →
    resumed short open' (p ∷ ps) ≡ joint short open' (simple_line p) ++
    (piece_lexemes p ++ resumed short (simple_line p) ps)
resumed_cons short None (Simple line ws) ps = append_assoc (on line ws) (ending short line ps) (in_order short ps)
resumed_cons short None (Compound ls) ps = refl
resumed_cons short (Some line) (Simple next ws) ps =
    ap (λ z. joint short (Some line) (Some next) ++ z)
    (append_assoc (on next ws) (ending short next ps) (in_order short ps))
resumed_cons short (Some line) (Compound ls) ps = refl

resumed_one : (short : Bool) (open' : Option ℕ) (w v u total : Writer) (xs : List Stmt) (i : ℕ) (x : Stmt) →
    i < length xs → x ≡ get_or xs i x → v ≡ put_all w (joint short open' (simple_line (piece x))) →
    u ≡ put_all v (piece_lexemes (piece x)) →
    put_all w (resumed short open' (pieces (drop i xs))) ≡ total →
    put_all u (resumed short (simple_line (piece x)) (pieces (drop (i + 1) xs))) ≡ total
resumed_one short open' w v u total xs i x l e p q h =
    let now = piece_lexemes (piece x) in
    let before = joint short open' (simple_line (piece x)) in
    let rest = resumed short (simple_line (piece x)) (pieces (drop (i + 1) xs)) in
    ap (λ z. put_all z rest) (q ∙ ap (λ z. put_all z now) p)
    ∙ (sym (put_all_append (put_all w before) now rest)
    ∙ (sym (put_all_append w before (now ++ rest))
    ∙ (sym (ap (put_all w) (ap (λ z. resumed short open' (pieces z)) (next_item xs i x l e) ∙
    resumed_cons short open' (piece x) (pieces (drop (i + 1) xs)))) ∙ h)))

pub resumed_more : (short : Bool) (open' next : Option ℕ) (w v u total : Writer) (xs : List Stmt) (i : ℕ) (x : Stmt) →
    i < length xs → x ≡ get_or xs i x → next ≡ simple_line (piece x) → v ≡ put_all w (joint short open' next) →
    u ≡ put_all v (piece_lexemes (piece x)) →
    put_all w (resumed short open' (pieces (drop i xs))) ≡ total →
    put_all u (resumed short next (pieces (drop (i + 1) xs))) ≡ total
resumed_more short open' next w v u total xs i x l e n p q h =
    ap (λ z. put_all u (resumed short z (pieces (drop (i + 1) xs)))) n ∙
    resumed_one short open' w v u total xs i x l e (p ∙ ap (λ z. put_all w (joint short open' z)) n) q h

-- `if`, or `elif` where it isn't the first
abbrev pub arms_from : ℕ → List Arm → List Lexeme
arms_from word [] = []
arms_from word (a ∷ as') = lexemes_arm (k.Keyword word) a ++ lexemes_arms (k.Keyword keyword.ELIF) as'

arms_next : (as' : List Arm) → lexemes_arms (k.Keyword keyword.ELIF) as' ≡ arms_from keyword.ELIF as'
arms_next [] = refl
arms_next (a ∷ as') = refl

pub arms_if : (as' : List Arm) → arms_from keyword.IF as' ≡ lexemes_if as'
arms_if [] = refl
arms_if (a ∷ as') = refl

pub arms_more : (word : ℕ) (w u total : Writer) (xs : List Arm) (i : ℕ) (x : Arm) → i < length xs → x ≡ get_or xs i x →
    u ≡ put_all w (lexemes_arm (k.Keyword word) x) →
    put_all w (arms_from word (drop i xs)) ≡ total → put_all u (arms_from keyword.ELIF (drop (i + 1) xs)) ≡ total
arms_more word w u total xs i x l e q h =
    let rest = drop (i + 1) xs in
    sym (ap (put_all u) (arms_next rest))
    ∙ (ap (λ z. put_all z (lexemes_arms (k.Keyword keyword.ELIF) rest)) q
    ∙ (sym (put_all_append w (lexemes_arm (k.Keyword word) x) (lexemes_arms (k.Keyword keyword.ELIF) rest))
    ∙ (sym (ap (λ z. put_all w (arms_from word z)) (next_item xs i x l e)) ∙ h)))

pub followed : (w a b : Writer) (ls ms : List Lexeme) → a ≡ put_all w ls → b ≡ put_all a ms → b ≡ put_all w (ls ++ ms)
followed w a b ls ms e f = f ∙ (ap (λ z. put_all z ms) e ∙ sym (put_all_append w ls ms))

-- a head, and then its colon and the block
pub headed : (line : ℕ) (w a b : Writer) (ks : Words) (ps : List Piece) → a ≡ spell line w ks →
    b ≡ put_all a (lexeme (k.Op operator.COLON) line ∷ block_lexemes line ps) →
    b ≡ put_all w (head line ks ++ block_lexemes line ps)
headed line w a b ks ps e f =
    let colon = lexeme (k.Op operator.COLON) line in
    followed w (put a colon) b (head line ks) (block_lexemes line ps)
    (ap (λ z. put z colon) e
    ∙ sym (on_spelled line w (ks ++ k.Op operator.COLON ∷ []) ∙ spell_append line w ks (k.Op operator.COLON ∷ []))) f

pub handlers_more : (w u total : Writer) (xs : List Handler) (i : ℕ) (x : Handler) → i < length xs → x ≡ get_or xs i x
    → u ≡ put_all w (lexemes_handler x) →
    put_all w (lexemes_handlers (drop i xs)) ≡ total → put_all u (lexemes_handlers (drop (i + 1) xs)) ≡ total
handlers_more w u total xs i x l e q h =
    let rest = lexemes_handlers (drop (i + 1) xs) in
    ap (λ z. put_all z rest) q
    ∙ (sym (put_all_append w (lexemes_handler x) rest)
    ∙ (sym (ap (λ z. put_all w (lexemes_handlers z)) (next_item xs i x l e)) ∙ h))

pub handler_written : (w a u : Writer) (h : Handler) (ss : List Stmt) → ss ≡ h.body →
    a ≡ spell h.line w (k.Keyword keyword.EXCEPT ∷ expr_or h.test ++ led_or (k.Keyword keyword.AS) h.target) →
    u ≡ put_all a (lexeme (k.Op operator.COLON) h.line ∷ block_lexemes h.line (pieces ss)) →
    u ≡ put_all w (lexemes_handler h)
handler_written w a u h ss same e f =
    headed h.line w a u (k.Keyword keyword.EXCEPT ∷ expr_or h.test ++ led_or (k.Keyword keyword.AS) h.target)
    (pieces h.body) e
    (f ∙ ap (λ z. put_all a (lexeme (k.Op operator.COLON) h.line ∷ block_lexemes h.line (pieces z))) same)

pub for_written : (w a b u : Writer) (line : ℕ) (target over : Expr) (body ss : List Stmt) (other : Option Clause)
    (s : Stmt) → s ≡ stmt.For line target over body other → ss ≡ body →
    a ≡ spell line w (k.Keyword keyword.FOR ∷ words target ++ k.Keyword keyword.IN ∷ words over) →
    b ≡ put_all a (lexeme (k.Op operator.COLON) line ∷ block_lexemes line (pieces ss)) →
    u ≡ put_all b (lexemes_clause_or (k.Keyword keyword.ELSE) other) →
    u ≡ put_all w (piece_lexemes (piece s))
for_written w a b u line target over body ss other s is same e f g =
    let ks = k.Keyword keyword.FOR ∷ words target ++ k.Keyword keyword.IN ∷ words over in
    followed w b u (head line ks ++ block_lexemes line (pieces body)) (lexemes_clause_or (k.Keyword keyword.ELSE) other)
    (headed line w a b ks (pieces body) e
    (f ∙ ap (λ z. put_all a (lexeme (k.Op operator.COLON) line ∷ block_lexemes line (pieces z))) same)) g
    ∙ sym (ap (λ z. put_all w (piece_lexemes z)) (ap piece is ∙ piece_for line target over body other))

pub try_written : (w a b d u : Writer) (first : Clause) (each hs : List Handler) (other last : Option Clause)
    (s : Stmt) → s ≡ stmt.Try first each other last → hs ≡ each →
    a ≡ put_all w (lexemes_clause (k.Keyword keyword.TRY) first) → b ≡ put_all a (lexemes_handlers hs) →
    d ≡ put_all b (lexemes_clause_or (k.Keyword keyword.ELSE) other) →
    u ≡ put_all d (lexemes_clause_or (k.Keyword keyword.FINALLY) last) →
    u ≡ put_all w (piece_lexemes (piece s))
try_written w a b d u first each hs other last s is same e f g h =
    let begin = lexemes_clause (k.Keyword keyword.TRY) first in
    let catch = lexemes_handlers each in
    let more = lexemes_clause_or (k.Keyword keyword.ELSE) other in
    followed w d u (begin ++ catch ++ more) (lexemes_clause_or (k.Keyword keyword.FINALLY) last)
    (followed w b d (begin ++ catch) more
    (followed w a b begin catch e (f ∙ ap (λ z. put_all a (lexemes_handlers z)) same)) g) h
    ∙ sym (ap (λ z. put_all w (piece_lexemes z)) (ap piece is ∙ piece_try first each other last))
