-- The equations of `words`.
use Rattle.std.proofs.Common.{◌≡◌, ℕ, ℤ, List, [], ◌∷◌, ◌++◌, map, Option, Some, None, sym, ap, ◌∙◌}
use Rattle.py_tokens.specs.declared.keyword.TheConstants as keyword
use Rattle.py_tokens.specs.declared.operator.TheConstants as operator
use Rattle.py_tokens.specs.declared.token.TokenKind.TheVariants as k
use Rattle.py_tree.specs.declared.expr.Expr.{Expr}
use Rattle.py_tree.specs.declared.expr.Expr.TheVariants as e
use Rattle.py_tree.specs.declared.expr.Trailer.{Trailer}
use Rattle.py_tree.specs.declared.expr.Trailer.TheVariants as t
use Rattle.py_tree.specs.declared.expr.Link.{Link}
use Rattle.py_tree.specs.declared.expr.Named.{Named}
use Rattle.py_tree.specs.declared.expr.Pair.{Pair}
use Rattle.py_tree.specs.declared.expr.Level.{Level}
use Rattle.py_tree.specs.declared.expr.Sign.{Sign}
use Rattle.py_tree.specs.declared.expr.Expr.TheOpen as open'
use Rattle.py_tree.specs.declared.expr.Expr.TheFolds.{fold-roll-Expr, fold-roll-Trailer, fold_out-Link, fold_out-Named, fold_out-Pair}
use Rattle.py_tree.specs.Spelling.{Words, operator_words, sign_words, commas, all_words, round, square, brace, tuple_words, expr_words, trailer_words, link_words, named_words, pair_words, words, words_trailer, words_link, words_named, words_pair}
use Rattle.py_tree.specs.Canonical.{expr_or}

pub words_link_is : (l : Link) → words_link l ≡ operator_words l.operator ++ words l.operand
unfolding words_link words
words_link_is l = fold_out-Link Words Words Words Words Words expr_words trailer_words link_words named_words
    pair_words l

pub words_named_is : (n : Named) → words_named n ≡ k.Name n.name ∷ k.Op operator.ASSIGN ∷ words n.value
unfolding words_named words
words_named_is n = fold_out-Named Words Words Words Words Words expr_words trailer_words link_words named_words
    pair_words n

pub words_pair_is : (p : Pair) → words_pair p ≡ words p.key ++ k.Op operator.COLON ∷ words p.value
unfolding words_pair words
words_pair_is p = fold_out-Pair Words Words Words Words Words expr_words trailer_words link_words named_words
    pair_words p

pub words_name : (n : List ℕ) → words (e.Name n) ≡ k.Name n ∷ []
unfolding words
words_name n = ap words (sym (e.rolls-Name n)) ∙ fold-roll-Expr Words Words Words Words Words expr_words trailer_words
    link_words named_words pair_words (open'.Name n)

pub words_int : (n : ℤ) → words (e.Int n) ≡ k.Int n ∷ []
unfolding words
words_int n = ap words (sym (e.rolls-Int n)) ∙ fold-roll-Expr Words Words Words Words Words expr_words trailer_words
    link_words named_words pair_words (open'.Int n)

pub words_str : (s : List ℕ) → words (e.Str s) ≡ k.Str s ∷ []
unfolding words
words_str n = ap words (sym (e.rolls-Str n)) ∙ fold-roll-Expr Words Words Words Words Words expr_words trailer_words
    link_words named_words pair_words (open'.Str n)

pub words_group : (a : Expr) → words (e.Group a) ≡ round (words a)
unfolding words
words_group a = ap words (sym (e.rolls-Group a)) ∙ fold-roll-Expr Words Words Words Words Words expr_words
    trailer_words link_words named_words pair_words (open'.Group a)

pub words_tuple : (es : List Expr) → words (e.Tuple es) ≡ round (tuple_words (map words es))
unfolding words
words_tuple es = ap words (sym (e.rolls-Tuple es)) ∙ fold-roll-Expr Words Words Words Words Words expr_words
    trailer_words link_words named_words pair_words (open'.Tuple es)

pub words_list : (es : List Expr) → words (e.List es) ≡ square (commas (map words es))
unfolding words
words_list es = ap words (sym (e.rolls-List es)) ∙ fold-roll-Expr Words Words Words Words Words expr_words
    trailer_words link_words named_words pair_words (open'.List es)

pub words_dict : (ps : List Pair) → words (e.Dict ps) ≡ brace (commas (map words_pair ps))
unfolding words words_pair
words_dict ps = ap words (sym (e.rolls-Dict ps)) ∙ fold-roll-Expr Words Words Words Words Words expr_words
    trailer_words link_words named_words pair_words (open'.Dict ps)

pub words_trail : (a : Expr) (rs : List Trailer) → words (e.Trail a rs) ≡ words a ++ all_words (map words_trailer rs)
unfolding words words_trailer
words_trail a rs = ap words (sym (e.rolls-Trail a rs)) ∙ fold-roll-Expr Words Words Words Words Words expr_words
    trailer_words link_words named_words pair_words (open'.Trail a rs)

pub words_power : (a b : Expr) → words (e.Power a b) ≡ words a ++ k.Op operator.POWER ∷ words b
unfolding words
words_power a b = ap words (sym (e.rolls-Power a b)) ∙ fold-roll-Expr Words Words Words Words Words expr_words
    trailer_words link_words named_words pair_words (open'.Power a b)

pub words_unary : (s : Sign) (a : Expr) → words (e.Unary s a) ≡ sign_words s ++ words a
unfolding words
words_unary s a = ap words (sym (e.rolls-Unary s a)) ∙ fold-roll-Expr Words Words Words Words Words expr_words
    trailer_words link_words named_words pair_words (open'.Unary s a)

pub words_chain : (l : Level) (a : Expr) (ls : List Link) →
    words (e.Chain l a ls) ≡ words a ++ all_words (map words_link ls)
unfolding words words_link
words_chain l a ls = ap words (sym (e.rolls-Chain l a ls)) ∙ fold-roll-Expr Words Words Words Words Words expr_words
    trailer_words link_words named_words pair_words (open'.Chain l a ls)

pub words_not : (a : Expr) → words (e.Not a) ≡ k.Keyword keyword.NOT ∷ words a
unfolding words
words_not a = ap words (sym (e.rolls-Not a)) ∙ fold-roll-Expr Words Words Words Words Words expr_words trailer_words
    link_words named_words pair_words (open'.Not a)

pub words_choice : (a b d : Expr) → words (e.Choice a b d) ≡ words a ++ k.Keyword keyword.IF ∷ words b ++ k.Keyword
    keyword.ELSE ∷ words d
unfolding words
words_choice a b d = ap words (sym (e.rolls-Choice a b d)) ∙ fold-roll-Expr Words Words Words Words Words expr_words
    trailer_words link_words named_words pair_words (open'.Choice a b d)

pub words_attribute : (n : List ℕ) → words_trailer (t.Attribute n) ≡ k.Op operator.DOT ∷ k.Name n ∷ []
unfolding words_trailer
words_attribute n = ap words_trailer (sym (t.rolls-Attribute n)) ∙
    fold-roll-Trailer Words Words Words Words Words expr_words trailer_words link_words named_words pair_words
    (open'.Attribute n)

pub words_index : (a : Expr) → words_trailer (t.Index a) ≡ square (words a)
unfolding words_trailer words
words_index a = ap words_trailer (sym (t.rolls-Index a)) ∙ fold-roll-Trailer Words Words Words Words Words expr_words
    trailer_words link_words named_words pair_words (open'.Index a)

pub words_slice : (a b : Option Expr) → words_trailer (t.Slice a b) ≡ square
    (expr_or a ++ k.Op operator.COLON ∷ expr_or b)
unfolding words_trailer words
words_slice None None = ap words_trailer (sym (t.rolls-Slice None None)) ∙
    fold-roll-Trailer Words Words Words Words Words expr_words trailer_words link_words named_words pair_words
    (open'.Slice None None)
words_slice None (Some b) = ap words_trailer (sym (t.rolls-Slice None (Some b))) ∙
    fold-roll-Trailer Words Words Words Words Words expr_words trailer_words link_words named_words pair_words
    (open'.Slice None (Some b))
words_slice (Some a) None = ap words_trailer (sym (t.rolls-Slice (Some a) None)) ∙
    fold-roll-Trailer Words Words Words Words Words expr_words trailer_words link_words named_words pair_words
    (open'.Slice (Some a) None)
words_slice (Some a) (Some b) = ap words_trailer (sym (t.rolls-Slice (Some a) (Some b))) ∙
    fold-roll-Trailer Words Words Words Words Words expr_words trailer_words link_words named_words pair_words
    (open'.Slice (Some a) (Some b))

pub words_call : (es : List Expr) (ns : List Named) →
    words_trailer (t.Call es ns) ≡ round (commas (map words es ++ map words_named ns))
unfolding words_trailer words words_named
words_call es ns = ap words_trailer (sym (t.rolls-Call es ns)) ∙
    fold-roll-Trailer Words Words Words Words Words expr_words trailer_words link_words named_words pair_words
    (open'.Call es ns)

pub ruleset spellings = (
  words_name,
  words_int,
  words_str,
  words_group,
  words_tuple,
  words_list,
  words_dict,
  words_trail,
  words_power,
  words_unary,
  words_chain,
  words_not,
  words_choice,
  words_attribute,
  words_index,
  words_slice,
  words_call,
  words_link_is,
  words_named_is,
  words_pair_is,
)
