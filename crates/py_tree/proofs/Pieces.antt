-- The equations of `piece`.
use Rattle.std.proofs.Common.{◌≡◌, ℕ, Bool, List, [], ◌∷◌, ◌++◌, map, Option, Some, None, refl, sym, ap, ◌∙◌}
use Rattle.py_tokens.specs.declared.keyword.TheConstants as keyword
use Rattle.py_tokens.specs.declared.operator.TheConstants as operator
use Rattle.py_tokens.specs.declared.token.TokenKind.{TokenKind}
use Rattle.py_tokens.specs.declared.token.TokenKind.TheVariants as k
use Rattle.py_tree.specs.declared.expr.Expr.{Expr}
use Rattle.py_tree.specs.declared.expr.Operator.{Operator}
use Rattle.py_tree.specs.declared.stmt.Stmt.{Stmt}
use Rattle.py_tree.specs.declared.stmt.Imported.{Imported}
use Rattle.py_tree.specs.declared.stmt.Param.{Param}
use Rattle.py_tree.specs.declared.stmt.Arm.{Arm}
use Rattle.py_tree.specs.declared.stmt.Clause.{Clause}
use Rattle.py_tree.specs.declared.stmt.Handler.{Handler}
use Rattle.py_tree.specs.declared.stmt.Stmt.TheVariants as s
use Rattle.py_tree.specs.declared.stmt.Stmt.TheOpen as open'
use Rattle.py_tree.specs.declared.stmt.Stmt.TheFolds.{fold-Arm, fold-Clause, fold-Handler, fold-roll-Stmt, fold_out-Arm, fold_out-Clause, fold_out-Handler}
use Rattle.py_tree.specs.Lexeme.{Lexeme}
use Rattle.py_tree.specs.Spelling.{commas, round, words}
use Rattle.py_tree.specs.Canonical.{Piece, Simple, Compound, block_lexemes, all, ended, expr_or, led_or, assigning, trailing, name_words, imported_words, param_words, base_words, head, Headless, clauses, arms, all_lexemes, stmt_piece, arm_lexemes, clause_lexemes, handler_lexemes, piece, pieces}
pub use Rattle.py_tree.specs.inner.Clauses.{lexemes_arm, lexemes_arms, lexemes_if, lexemes_clause, lexemes_clause_or, lexemes_handler, lexemes_handlers}

-- ---- simple statements

pub piece_do : (l : ℕ) (a : Expr) → piece (s.Do l a) ≡ Simple l (words a)
unfolding piece
piece_do l a = ap piece (sym (s.rolls-Do l a)) ∙ fold-roll-Stmt Piece Headless Headless (List Lexeme) stmt_piece
    arm_lexemes clause_lexemes handler_lexemes (open'.Do l a)

pub piece_assign : (l : ℕ) (es : List Expr) (a : Expr) →
    piece (s.Assign l es a) ≡ Simple l (ended (k.Op operator.ASSIGN) (all es) ++ words a)
unfolding piece
piece_assign l es a = ap piece (sym (s.rolls-Assign l es a)) ∙
    fold-roll-Stmt Piece Headless Headless (List Lexeme) stmt_piece arm_lexemes clause_lexemes handler_lexemes
    (open'.Assign l es a)

pub piece_augment : (l : ℕ) (a : Expr) (o : Operator) (b : Expr) →
    piece (s.Augment l a o b) ≡ Simple l (words a ++ assigning o ++ words b)
unfolding piece
piece_augment l a o b = ap piece (sym (s.rolls-Augment l a o b)) ∙
    fold-roll-Stmt Piece Headless Headless (List Lexeme) stmt_piece arm_lexemes clause_lexemes handler_lexemes
    (open'.Augment l a o b)

pub piece_print : (l : ℕ) (es : List Expr) (b : Bool) →
    piece (s.Print l es b) ≡ Simple l (k.Keyword keyword.PRINT ∷ commas (all es) ++ trailing b)
unfolding piece
piece_print l es b = ap piece (sym (s.rolls-Print l es b)) ∙
    fold-roll-Stmt Piece Headless Headless (List Lexeme) stmt_piece arm_lexemes clause_lexemes handler_lexemes
    (open'.Print l es b)

pub piece_pass : (l : ℕ) → piece (s.Pass l) ≡ Simple l (k.Keyword keyword.PASS ∷ [])
unfolding piece
piece_pass l = ap piece (sym (s.rolls-Pass l)) ∙ fold-roll-Stmt Piece Headless Headless (List Lexeme) stmt_piece
    arm_lexemes clause_lexemes handler_lexemes (open'.Pass l)

pub piece_break : (l : ℕ) → piece (s.Break l) ≡ Simple l (k.Keyword keyword.BREAK ∷ [])
unfolding piece
piece_break l = ap piece (sym (s.rolls-Break l)) ∙ fold-roll-Stmt Piece Headless Headless (List Lexeme) stmt_piece
    arm_lexemes clause_lexemes handler_lexemes (open'.Break l)

pub piece_continue : (l : ℕ) → piece (s.Continue l) ≡ Simple l (k.Keyword keyword.CONTINUE ∷ [])
unfolding piece
piece_continue l = ap piece (sym (s.rolls-Continue l)) ∙
    fold-roll-Stmt Piece Headless Headless (List Lexeme) stmt_piece arm_lexemes clause_lexemes handler_lexemes
    (open'.Continue l)

pub piece_return : (l : ℕ) (a : Option Expr) → piece (s.Return l a) ≡ Simple l (k.Keyword keyword.RETURN ∷ expr_or a)
unfolding piece
piece_return l a = ap piece (sym (s.rolls-Return l a)) ∙
    fold-roll-Stmt Piece Headless Headless (List Lexeme) stmt_piece arm_lexemes clause_lexemes handler_lexemes
    (open'.Return l a)

pub piece_raise : (l : ℕ) (a b : Option Expr) →
    piece (s.Raise l a b) ≡ Simple l (k.Keyword keyword.RAISE ∷ expr_or a ++ led_or (k.Op operator.COMMA) b)
unfolding piece
piece_raise l a b = ap piece (sym (s.rolls-Raise l a b)) ∙
    fold-roll-Stmt Piece Headless Headless (List Lexeme) stmt_piece arm_lexemes clause_lexemes handler_lexemes
    (open'.Raise l a b)

pub piece_del : (l : ℕ) (es : List Expr) → piece (s.Del l es) ≡ Simple l (k.Keyword keyword.DEL ∷ commas (all es))
unfolding piece
piece_del l es = ap piece (sym (s.rolls-Del l es)) ∙ fold-roll-Stmt Piece Headless Headless (List Lexeme) stmt_piece
    arm_lexemes clause_lexemes handler_lexemes (open'.Del l es)

pub piece_global : (l : ℕ) (ns : List (List ℕ)) →
    piece (s.Global l ns) ≡ Simple l (k.Keyword keyword.GLOBAL ∷ commas (map name_words ns))
unfolding piece
piece_global l ns = ap piece (sym (s.rolls-Global l ns)) ∙
    fold-roll-Stmt Piece Headless Headless (List Lexeme) stmt_piece arm_lexemes clause_lexemes handler_lexemes
    (open'.Global l ns)

pub piece_assert : (l : ℕ) (a : Expr) (b : Option Expr) →
    piece (s.Assert l a b) ≡ Simple l (k.Keyword keyword.ASSERT ∷ words a ++ led_or (k.Op operator.COMMA) b)
unfolding piece
piece_assert l a b = ap piece (sym (s.rolls-Assert l a b)) ∙
    fold-roll-Stmt Piece Headless Headless (List Lexeme) stmt_piece arm_lexemes clause_lexemes handler_lexemes
    (open'.Assert l a b)

pub piece_import : (l : ℕ) (is : List Imported) →
    piece (s.Import l is) ≡ Simple l (k.Keyword keyword.IMPORT ∷ commas (map imported_words is))
unfolding piece
piece_import l is = ap piece (sym (s.rolls-Import l is)) ∙
    fold-roll-Stmt Piece Headless Headless (List Lexeme) stmt_piece arm_lexemes clause_lexemes handler_lexemes
    (open'.Import l is)

pub piece_from : (l : ℕ) (m : List ℕ) (is : List Imported) →
    piece (s.From l m is) ≡ Simple l (k.Keyword keyword.FROM ∷ k.Name m ∷ k.Keyword keyword.IMPORT ∷ commas
    (map imported_words is))
unfolding piece
piece_from l m is = ap piece (sym (s.rolls-From l m is)) ∙
    fold-roll-Stmt Piece Headless Headless (List Lexeme) stmt_piece arm_lexemes clause_lexemes handler_lexemes
    (open'.From l m is)

-- ---- clauses

folded_arm : Arm → Headless
folded_arm = fold-Arm Piece Headless Headless (List Lexeme) stmt_piece arm_lexemes clause_lexemes handler_lexemes

folded_clause : Clause → Headless
folded_clause = fold-Clause Piece Headless Headless (List Lexeme) stmt_piece arm_lexemes clause_lexemes handler_lexemes

folded_handler : Handler → List Lexeme
folded_handler = fold-Handler Piece Headless Headless (List Lexeme) stmt_piece arm_lexemes clause_lexemes
    handler_lexemes

arm : (w : TokenKind) (a : Arm) → folded_arm a w ≡ lexemes_arm w a
unfolding folded_arm piece
arm w a = ap (λ (f : Headless). f w) (fold_out-Arm Piece Headless Headless (List Lexeme) stmt_piece arm_lexemes
    clause_lexemes handler_lexemes a)

clause : (w : TokenKind) (c : Clause) → folded_clause c w ≡ lexemes_clause w c
unfolding folded_clause piece
clause w c = ap (λ (f : Headless). f w) (fold_out-Clause Piece Headless Headless (List Lexeme) stmt_piece arm_lexemes
    clause_lexemes handler_lexemes c)

handler : (h : Handler) → folded_handler h ≡ lexemes_handler h
unfolding folded_handler piece
handler h = fold_out-Handler Piece Headless Headless (List Lexeme) stmt_piece arm_lexemes clause_lexemes
    handler_lexemes h

join : {ls ms ns os : List Lexeme} → ls ≡ ms → ns ≡ os → ls ++ ns ≡ ms ++ os
join {ls = ls} {ms = ms} {ns = ns} {os = os} e f = ap (λ z. z ++ ns) e ∙ ap (λ z. ms ++ z) f

each_arm : (w : TokenKind) (as' : List Arm) → clauses w (map folded_arm as') ≡ lexemes_arms w as'
each_arm w [] = refl
each_arm w (a ∷ as') = join (arm w a) (each_arm w as')

if_arms : (as' : List Arm) → arms (map folded_arm as') ≡ lexemes_if as'
if_arms [] = refl
if_arms (a ∷ as') = join (arm (k.Keyword keyword.IF) a) (each_arm (k.Keyword keyword.ELIF) as')

each_handler : (hs : List Handler) → all_lexemes (map folded_handler hs) ≡ lexemes_handlers hs
each_handler [] = refl
each_handler (h ∷ hs) = join (handler h) (each_handler hs)

-- ---- compound statements

compound : {ls ms : List Lexeme} → ls ≡ ms → Compound ls ≡ Compound ms
compound e = ap (λ z. Compound z) e

pub piece_if : (as' : List Arm) (d : Option Clause) →
    piece (s.If as' d) ≡ Compound (lexemes_if as' ++ lexemes_clause_or (k.Keyword keyword.ELSE) d)
unfolding piece folded_arm folded_clause folded_handler
piece_if as' None = ap piece (sym (s.rolls-If as' None)) ∙
    fold-roll-Stmt Piece Headless Headless (List Lexeme) stmt_piece arm_lexemes clause_lexemes handler_lexemes
    (open'.If as' None) ∙ compound (join (if_arms as') refl)
piece_if as' (Some d) = ap piece (sym (s.rolls-If as' (Some d))) ∙
    fold-roll-Stmt Piece Headless Headless (List Lexeme) stmt_piece arm_lexemes clause_lexemes handler_lexemes
    (open'.If as' (Some d)) ∙ compound (join (if_arms as') (clause (k.Keyword keyword.ELSE) d))

pub piece_while : (a : Arm) (d : Option Clause) →
    piece (s.While a d) ≡ Compound (lexemes_arm (k.Keyword keyword.WHILE) a ++ lexemes_clause_or
    (k.Keyword keyword.ELSE) d)
unfolding piece folded_arm folded_clause folded_handler
piece_while a None = ap piece (sym (s.rolls-While a None)) ∙
    fold-roll-Stmt Piece Headless Headless (List Lexeme) stmt_piece arm_lexemes clause_lexemes handler_lexemes
    (open'.While a None) ∙ compound (join (arm (k.Keyword keyword.WHILE) a) refl)
piece_while a (Some d) = ap piece (sym (s.rolls-While a (Some d))) ∙
    fold-roll-Stmt Piece Headless Headless (List Lexeme) stmt_piece arm_lexemes clause_lexemes handler_lexemes
    (open'.While a (Some d)) ∙ compound (join (arm (k.Keyword keyword.WHILE) a) (clause (k.Keyword keyword.ELSE) d))

pub piece_for : (l : ℕ) (t a : Expr) (ss : List Stmt) (d : Option Clause) →
    piece (s.For l t a ss d) ≡ Compound (head l (k.Keyword keyword.FOR ∷ words t ++ k.Keyword keyword.IN ∷ words a) ++
    block_lexemes l (pieces ss) ++ lexemes_clause_or (k.Keyword keyword.ELSE) d)
unfolding piece folded_arm folded_clause folded_handler
piece_for l t a ss None = ap piece (sym (s.rolls-For l t a ss None)) ∙
    fold-roll-Stmt Piece Headless Headless (List Lexeme) stmt_piece arm_lexemes clause_lexemes handler_lexemes
    (open'.For l t a ss None)
piece_for l t a ss (Some d) = ap piece (sym (s.rolls-For l t a ss (Some d))) ∙
    fold-roll-Stmt Piece Headless Headless (List Lexeme) stmt_piece arm_lexemes clause_lexemes handler_lexemes
    (open'.For l t a ss (Some d)) ∙ compound
    (ap (λ z. head l (k.Keyword keyword.FOR ∷ words t ++ k.Keyword keyword.IN ∷ words a) ++ block_lexemes l (pieces ss)
    ++ z) (clause (k.Keyword keyword.ELSE) d))

pub piece_try : (b : Clause) (hs : List Handler) (d f : Option Clause) →
    piece (s.Try b hs d f) ≡ Compound (lexemes_clause (k.Keyword keyword.TRY) b ++ lexemes_handlers hs ++
    lexemes_clause_or (k.Keyword keyword.ELSE) d ++ lexemes_clause_or (k.Keyword keyword.FINALLY) f)
unfolding piece folded_arm folded_clause folded_handler
piece_try b hs None None = ap piece (sym (s.rolls-Try b hs None None)) ∙
    fold-roll-Stmt Piece Headless Headless (List Lexeme) stmt_piece arm_lexemes clause_lexemes handler_lexemes
    (open'.Try b hs None None) ∙ compound
    (join (join (join (clause (k.Keyword keyword.TRY) b) (each_handler hs)) refl) refl)
piece_try b hs None (Some f) = ap piece (sym (s.rolls-Try b hs None (Some f))) ∙
    fold-roll-Stmt Piece Headless Headless (List Lexeme) stmt_piece arm_lexemes clause_lexemes handler_lexemes
    (open'.Try b hs None (Some f)) ∙ compound
    (join (join (join (clause (k.Keyword keyword.TRY) b) (each_handler hs)) refl)
    (clause (k.Keyword keyword.FINALLY) f))
piece_try b hs (Some d) None = ap piece (sym (s.rolls-Try b hs (Some d) None)) ∙
    fold-roll-Stmt Piece Headless Headless (List Lexeme) stmt_piece arm_lexemes clause_lexemes handler_lexemes
    (open'.Try b hs (Some d) None) ∙ compound
    (join (join (join (clause (k.Keyword keyword.TRY) b) (each_handler hs)) (clause (k.Keyword keyword.ELSE) d)) refl)
piece_try b hs (Some d) (Some f) = ap piece (sym (s.rolls-Try b hs (Some d) (Some f))) ∙
    fold-roll-Stmt Piece Headless Headless (List Lexeme) stmt_piece arm_lexemes clause_lexemes handler_lexemes
    (open'.Try b hs (Some d) (Some f)) ∙
    compound (join (join (join (clause (k.Keyword keyword.TRY) b) (each_handler hs))
    (clause (k.Keyword keyword.ELSE) d)) (clause (k.Keyword keyword.FINALLY) f))

pub piece_def : (l : ℕ) (n : List ℕ) (ps : List Param) (ss : List Stmt) →
    piece (s.Def l n ps ss) ≡ Compound (head l (k.Keyword keyword.DEF ∷ k.Name n ∷ round (commas (map param_words ps)))
    ++ block_lexemes l (pieces ss))
unfolding piece folded_arm folded_clause folded_handler
piece_def l n ps ss = ap piece (sym (s.rolls-Def l n ps ss)) ∙
    fold-roll-Stmt Piece Headless Headless (List Lexeme) stmt_piece arm_lexemes clause_lexemes handler_lexemes
    (open'.Def l n ps ss)

pub piece_class : (l : ℕ) (n : List ℕ) (a : Option Expr) (ss : List Stmt) →
    piece (s.Class l n a ss) ≡ Compound (head l (k.Keyword keyword.CLASS ∷ k.Name n ∷ base_words a) ++ block_lexemes l
    (pieces ss))
unfolding piece folded_arm folded_clause folded_handler
piece_class l n a ss = ap piece (sym (s.rolls-Class l n a ss)) ∙
    fold-roll-Stmt Piece Headless Headless (List Lexeme) stmt_piece arm_lexemes clause_lexemes handler_lexemes
    (open'.Class l n a ss)

pub ruleset piece_laws = (
  piece_do,
  piece_assign,
  piece_augment,
  piece_print,
  piece_pass,
  piece_break,
  piece_continue,
  piece_return,
  piece_raise,
  piece_del,
  piece_global,
  piece_assert,
  piece_import,
  piece_from,
  piece_if,
  piece_while,
  piece_for,
  piece_try,
  piece_def,
  piece_class,
)
