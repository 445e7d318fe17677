-- The words of a simple statement that a text's tokens spell, and the line on which it begins.
use Rattle.std.proofs.Common.{◌≡◌, ℕ, ◌≤◌, Bool, true, false, List, [], ◌∷◌, ◌++◌, map, Option, Some, None, refl, sym, subst}
use Rattle.py_tokens.specs.declared.keyword.TheConstants as keyword
use Rattle.py_tokens.specs.declared.operator.TheConstants as operator
use Rattle.py_tokens.specs.declared.token.Token.{Token}
use Rattle.py_tokens.specs.declared.token.TokenKind.{TokenKind}
use Rattle.py_tokens.specs.declared.token.TokenKind.TheVariants as k
use Rattle.py_tokens.proofs.InOrder.{IsInLine}
use Rattle.py_tree.specs.declared.expr.Expr.{Expr}
use Rattle.py_tree.specs.declared.expr.Operator.{Operator}
use Rattle.py_tree.specs.declared.expr.Operator.TheVariants as op
use Rattle.py_tree.specs.declared.expr.Sign.{Sign}
use Rattle.py_tree.specs.declared.expr.Sign.TheVariants as sign
use Rattle.py_tree.specs.declared.stmt.Stmt.{Stmt}
use Rattle.py_tree.specs.declared.stmt.Stmt.TheVariants as s
use Rattle.py_tree.specs.declared.stmt.Imported.{Imported}
use Rattle.py_tree.specs.inner.Laid.{IsWord, after_word}
use Rattle.py_tree.specs.Spelling.{Words, words}
use Rattle.py_tree.specs.Canonical as n
use Rattle.py_tree.specs.Canonical.{Piece, piece, ended, expr_or, led_or, assigning, trailing, name_words, bound_words, imported_words}
use Rattle.py_tree.proofs.Spellings.{words_tuple}
use Rattle.py_tree.proofs.Pieces.{piece_do, piece_assign, piece_augment, piece_print, piece_pass, piece_break, piece_continue, piece_return, piece_raise, piece_del, piece_global, piece_assert, piece_import, piece_from}
use Rattle.py_grammar.specs.Words.{line_of, sign_word}
use Rattle.py_grammar.specs.Grammar as G
use Rattle.py_grammar.specs.Grammar.{Marks, Is, Strings, Exprs, Commas}
use Rattle.py_grammar.specs.Statements as S
use Rattle.py_grammar.specs.Statements.{Target, Targets, Loops, Equals, Names, Renamed, Imports, Simple}
use Rattle.py_tree.proofs.Lined.{lined_kind, IsLined, lined_after, AllKept, kept_front, kept_after}
use Rattle.canonical_laws.proofs.LinedWords.{Even, Phrase, is_some, even_nil, even_cons, even2, phrase_cons, phrase2, phrase_as, phrase_round, Evens, even_commas, even_tuple, phrase_Is, phrase_Exprs, evens_Tests}

-- ---- the first token

-- tokens that begin with one of a line
abbrev pub Starts : List Token → Type 0
Starts [] = ⊥
Starts (t ∷ ts) = IsInLine t.kind

pub starts_append : (ts us : List Token) → Starts ts → Starts (ts ++ us)
starts_append [] us h = absurd h
starts_append (t ∷ ts) us h = h

pub line_append : (ts us : List Token) → Starts ts → line_of (ts ++ us) ≡ line_of ts
line_append [] us h = absurd h
line_append (t ∷ ts) us h = refl

lined_first : (kind : TokenKind) (at a : ℕ) (rest : ℕ → Type 0) → IsInLine kind → lined_kind kind at a rest →
    (a ≤ at) × rest at
lined_first k.Newline at a rest l g = absurd l
lined_first k.Indent at a rest l g = absurd l
lined_first k.Dedent at a rest l g = absurd l
lined_first k.End at a rest l g = absurd l
lined_first (k.Name bs) at a rest l g = g
lined_first (k.Keyword n) at a rest l g = g
lined_first (k.Int n) at a rest l g = g
lined_first (k.Str bs) at a rest l g = g
lined_first (k.Op n) at a rest l g = g
lined_first (k.Other o) at a rest l g = g

-- they begin on this line or later, and what follows stands from there on
pub lined_start : (ts us : List Token) (a : ℕ) → Starts ts → IsLined a (ts ++ us) →
    (a ≤ line_of ts) × IsLined (line_of ts) us
lined_start [] us a h g = absurd h
lined_start (t ∷ ts) us a h g = let two = lined_first t.kind t.line a (λ n. IsLined n (ts ++ us)) h g in
    (two.0, lined_after ts us t.line two.1)

starts_sign : (g : Sign) → IsInLine (sign_word g)
starts_sign sign.Plus = tt
starts_sign sign.Minus = tt
starts_sign sign.Invert = tt

starts_Strings : {x : Marks} {w : List ℕ} {ts : List Token} → Strings x w ts → Starts ts
starts_Strings (G.Strings.one _ _ _) = tt
starts_Strings (G.Strings.more _ _ _ h) = tt
starts_Strings (G.Strings.unicode _) = tt

starts_Is : {x : Marks} {n : ℕ} {a : Expr} {ts : List Token} → Is x n a ts → Starts ts
starts_Is (G.Is.up _ _ h) = starts_Is h
starts_Is (G.Is.name _ _ _) = tt
starts_Is (G.Is.int _ _ _) = tt
starts_Is (G.Is.strings h) = starts_Strings h
starts_Is (G.Is.group _ _ h) = tt
starts_Is (G.Is.unit _ _ _) = tt
starts_Is (G.Is.round _ _ h) = tt
starts_Is (G.Is.no_list _ _ _) = tt
starts_Is (G.Is.list _ _ h) = tt
starts_Is (G.Is.no_dict _ _ _) = tt
starts_Is (G.Is.dict _ _ h) = tt
starts_Is (G.Is.trail {ts = ts} {us = us} h g) = starts_append ts us (starts_Is h)
starts_Is (G.Is.power _ {ts = ts} h g) = starts_append ts _ (starts_Is h)
starts_Is (G.Is.signed g _ h) = starts_sign g
starts_Is (G.Is.chain _ {ts = ts} {us = us} h g) = starts_append ts us (starts_Is h)
starts_Is (G.Is.negated _ h) = tt
starts_Is (G.Is.choice _ _ {ts = ts} {us = us} {vs = vs} h g i) =
    starts_append (ts ++ _ ∷ us) _ (starts_append ts _ (starts_Is h))
starts_Is (G.Is.float _) = tt
starts_Is (G.Is.long _) = tt
starts_Is (G.Is.backquote _) = tt
starts_Is (G.Is.lambda _) = tt
starts_Is (G.Is.yielded _ _) = tt
starts_Is (G.Is.generator _ _ h) = tt
starts_Is (G.Is.comprehension _ _ h) = tt
starts_Is (G.Is.set_of _ _ h) = tt
starts_Is (G.Is.dict_of _ _ _ h g) = tt
starts_Is (G.Is.set _ _ h) = tt
starts_Is (G.Is.set_one _ _ h) = tt

starts_Commas : {x : Marks} {es : List Expr} {ts : List Token} → Commas x es ts → Starts ts
starts_Commas (G.Commas.lone _ {ts = ts} h) = starts_append ts _ (starts_Is h)
starts_Commas (G.Commas.several _ {ts = ts} h g) = starts_append ts _ (starts_Is h)

starts_Exprs : {x : Marks} {a : Expr} {ts : List Token} → Exprs x a ts → Starts ts
starts_Exprs (G.Exprs.single h) = starts_Is h
starts_Exprs (G.Exprs.tuple h) = starts_Commas h

starts_Equals : {x : Marks} {es : List Expr} {b : Expr} {ts : List Token} → Equals x es b ts → Starts ts
starts_Equals (S.Equals.value h) = starts_Exprs h
starts_Equals (S.Equals.equals _ {ts = ts} h _ g) = starts_append ts _ (starts_Exprs h)
starts_Equals (S.Equals.yielded _) = tt

pub starts_Simple : {x : Marks} {a : Stmt} {ts : List Token} → Simple x a ts → Starts ts
starts_Simple (S.Simple.run h) = starts_Exprs h
starts_Simple (S.Simple.assign h) = starts_Equals h
starts_Simple (S.Simple.augment _ _ _ {ts = ts} _ h _ g) = starts_append ts _ (starts_Exprs h)
starts_Simple (S.Simple.print_end _ _) = tt
starts_Simple (S.Simple.print _ h) = tt
starts_Simple (S.Simple.pass _ _) = tt
starts_Simple (S.Simple.break _ _) = tt
starts_Simple (S.Simple.continue _ _) = tt
starts_Simple (S.Simple.return_none _ _) = tt
starts_Simple (S.Simple.return _ h) = tt
starts_Simple (S.Simple.raise_none _ _) = tt
starts_Simple (S.Simple.raise_one _ h) = tt
starts_Simple (S.Simple.raise_two _ _ h g) = tt
starts_Simple (S.Simple.del _ h) = tt
starts_Simple (S.Simple.global _ _ h) = tt
starts_Simple (S.Simple.assert_one _ h) = tt
starts_Simple (S.Simple.assert_two _ _ h g) = tt
starts_Simple (S.Simple.import _ h) = tt
starts_Simple (S.Simple.from _ _ _ _ _ h) = tt
starts_Simple (S.Simple.exec _) = tt
starts_Simple (S.Simple.yield _) = tt
starts_Simple (S.Simple.augment_yield _ _ _ _ {ts = ts} _ h _) = starts_append ts _ (starts_Exprs h)
starts_Simple (S.Simple.print_to _ _) = tt
starts_Simple (S.Simple.traceback _ _ _ h g) = tt
starts_Simple (S.Simple.from_wrong _ _ _ _) = tt

-- ---- the words

some_after : (ws vs : Words) → is_some vs ≡ true → is_some (ws ++ vs) ≡ true
some_after [] vs h = h
some_after (w ∷ ws) vs h = refl

phrase_after : {ws vs : Words} → Even ws → Phrase vs → Phrase (ws ++ vs)
phrase_after {ws = ws} {vs = vs} f p = record { even = even2 f p.even; some = some_after ws vs p.some }

even_ended : (w : TokenKind) (wss : List Words) → IsWord w → ((n : ℕ) → after_word w n ≡ n) → Evens wss →
    Even (ended w wss)
even_ended w [] h f e = even_nil
even_ended w (ws ∷ wss) h f e = even2 e.0 (even_cons w h f (even_ended w wss h f e.1))

pub phrase_Target : {x : Marks} {a : Expr} {ts : List Token} → Target x a ts → AllKept ts → Phrase (words a)
phrase_Target t a = phrase_Is t.spells a

pub evens_Targets : {x : Marks} {es : List Expr} {ts : List Token} → Targets x es ts → AllKept ts → Evens (map words es)
evens_Targets (S.Targets.one h) a = ((phrase_Target h a).even, tt)
evens_Targets (S.Targets.more _ {ts = ts} h g) a =
    ((phrase_Target h (kept_front ts _ a)).even, evens_Targets g (kept_after ts _ a).1)

pub phrase_Loops : {x : Marks} {a : Expr} {ts : List Token} → Loops x a ts → AllKept ts → Phrase (words a)
phrase_Loops (S.Loops.single h) a = phrase_Target h a
phrase_Loops (S.Loops.lone _ {a = b} {ts = ts} h) a =
    phrase_as (words_tuple (b ∷ [])) (phrase_round
    (even_tuple (map words (b ∷ [])) ((phrase_Target h (kept_front ts _ a)).even, tt)))
phrase_Loops (S.Loops.several _ {a = b} {b = d} {es = es} {ts = ts} h g) a =
    phrase_as (words_tuple (b ∷ d ∷ es))
    (phrase_round (even_tuple (map words (b ∷ d ∷ es)) (
      (phrase_Target h (kept_front ts _ a)).even,
      evens_Targets g (kept_after ts _ a).1,
    )))
phrase_Loops (S.Loops.several_comma _ _ {a = b} {b = d} {es = es} {ts = ts} {us = us} h g) a =
    let one = kept_front (ts ++ _ ∷ us) _ a in
    phrase_as (words_tuple (b ∷ d ∷ es))
    (phrase_round (even_tuple (map words (b ∷ d ∷ es)) (
      (phrase_Target h (kept_front ts _ one)).even,
      evens_Targets g (kept_after ts _ one).1,
    )))

phrases_Equals : {x : Marks} {es : List Expr} {b : Expr} {ts : List Token} → Equals x es b ts → AllKept ts →
    Evens (map words es) × Phrase (words b)
phrases_Equals (S.Equals.value h) a = (tt, phrase_Exprs h a)
phrases_Equals (S.Equals.equals _ {ts = ts} h _ g) a = let more = phrases_Equals g (kept_after ts _ a).1 in
    (((phrase_Exprs h (kept_front ts _ a)).even, more.0), more.1)
phrases_Equals (S.Equals.yielded _) a = (tt, phrase_as (words_tuple []) (phrase_round even_nil))

evens_Names : {ns : List (List ℕ)} {ts : List Token} → Names ns ts → AllKept ts → Evens (map name_words ns)
evens_Names (S.Names.one n _) a = (even_cons (k.Name n) a.0 (λ m. refl) even_nil, tt)
evens_Names (S.Names.more n _ _ h) a = (even_cons (k.Name n) a.0 (λ m. refl) even_nil, evens_Names h a.1.1)

even_Renamed : {m : Option (List ℕ)} {ts : List Token} → Renamed m ts → AllKept ts → Even (bound_words m)
even_Renamed S.Renamed.same a = even_nil
even_Renamed (S.Renamed.renamed n _ _) a =
    even_cons (k.Keyword keyword.AS) refl (λ m. refl) (even_cons (k.Name n) a.1.0 (λ m. refl) even_nil)

evens_Imports : {may : List ℕ → Bool} {x : Marks} {is : List Imported} {ts : List Token} → Imports may x is ts →
    AllKept ts → Evens (map imported_words is)
evens_Imports (S.Imports.one _ _ n _ _ h) a = (even_cons (k.Name n) a.0 (λ m. refl) (even_Renamed h a.1), tt)
evens_Imports (S.Imports.more _ n _ _ {ts = ts} _ h g) a = (
  even_cons (k.Name n) a.0 (λ m. refl) (even_Renamed h (kept_front ts _ a.1)),
  evens_Imports g (kept_after ts _ a.1).1,
)
evens_Imports (S.Imports.wrong _ _ _ _) a = tt

even_trailing : (b : Bool) → Even (trailing b)
even_trailing true = even_cons (k.Op operator.COMMA) refl (λ n. refl) even_nil
even_trailing false = even_nil

even_comma : {ws : Words} → Phrase ws → Even (k.Op operator.COMMA ∷ ws)
even_comma p = even_cons (k.Op operator.COMMA) refl (λ n. refl) p.even

-- ---- statements

-- a simple statement of this line
pub record IsSimple (a : Stmt) (line : ℕ) : Type 0 where
  pub words : Words
  pub is : piece a ≡ n.Simple line words
  pub good : Phrase words

simple_on : {a : Stmt} {line line' : ℕ} → line' ≡ line → IsSimple a line → IsSimple a line'
simple_on {a = a} h i = subst (IsSimple a) (sym h) i

keyword_simple : {a : Stmt} {line : ℕ} (w : ℕ) {ws : Words} → IsWord (k.Keyword w) →
    piece a ≡ n.Simple line (k.Keyword w ∷ ws) → Even ws → IsSimple a line
keyword_simple w {ws = ws} h e f = record {
  words = k.Keyword w ∷ ws;
  is = e;
  good =
      phrase_cons (k.Keyword w) h (λ n. refl) f;
}

even_assigning : (o : Operator) → Even (assigning o)
even_assigning op.Or = even_nil
even_assigning op.And = even_nil
even_assigning op.Less = even_nil
even_assigning op.Greater = even_nil
even_assigning op.Equal = even_nil
even_assigning op.GreaterEqual = even_nil
even_assigning op.LessEqual = even_nil
even_assigning op.NotEqual = even_nil
even_assigning op.In = even_nil
even_assigning op.NotIn = even_nil
even_assigning op.Is = even_nil
even_assigning op.IsNot = even_nil
even_assigning op.BitOr = even_cons (k.Op operator.BAR_ASSIGN) refl (λ n. refl) even_nil
even_assigning op.BitXor = even_cons (k.Op operator.CARET_ASSIGN) refl (λ n. refl) even_nil
even_assigning op.BitAnd = even_cons (k.Op operator.AMPERSAND_ASSIGN) refl (λ n. refl) even_nil
even_assigning op.ShiftLeft = even_cons (k.Op operator.SHIFT_LEFT_ASSIGN) refl (λ n. refl) even_nil
even_assigning op.ShiftRight = even_cons (k.Op operator.SHIFT_RIGHT_ASSIGN) refl (λ n. refl) even_nil
even_assigning op.Plus = even_cons (k.Op operator.PLUS_ASSIGN) refl (λ n. refl) even_nil
even_assigning op.Minus = even_cons (k.Op operator.MINUS_ASSIGN) refl (λ n. refl) even_nil
even_assigning op.Times = even_cons (k.Op operator.STAR_ASSIGN) refl (λ n. refl) even_nil
even_assigning op.Divide = even_cons (k.Op operator.SLASH_ASSIGN) refl (λ n. refl) even_nil
even_assigning op.Floor = even_cons (k.Op operator.FLOOR_ASSIGN) refl (λ n. refl) even_nil
even_assigning op.Remainder = even_cons (k.Op operator.PERCENT_ASSIGN) refl (λ n. refl) even_nil
even_assigning op.Power = even_cons (k.Op operator.POWER_ASSIGN) refl (λ n. refl) even_nil

augment_simple : (a b : Expr) (o : Operator) (line : ℕ) → Phrase (words a) → Phrase (words b) →
    IsSimple (s.Augment line a o b) line
augment_simple a b o line p q = record {
  words = words a ++ assigning o ++ words b;
  is = piece_augment line a o b;
  good = phrase2 (phrase2 p (even_assigning o)) q.even;
}

pub simple_is : {x : Marks} {a : Stmt} {ts : List Token} → Simple x a ts → AllKept ts → IsSimple a (line_of ts)
simple_is (S.Simple.run {a = b} {ts = ts} h) a =
    record { words = words b; is = piece_do (line_of ts) b; good = phrase_Exprs h a }
simple_is (S.Simple.assign {a = b} {b = d} {es = es} {ts = ts} h) a =
    let two = phrases_Equals h a in
    record {
      words = ended (k.Op operator.ASSIGN) (map words (b ∷ es)) ++ words d;
      is =
          piece_assign (line_of ts) (b ∷ es) d;
      good =
          phrase_after (even_ended (k.Op operator.ASSIGN) (map words (b ∷ es)) refl (λ n. refl) two.0) two.1;
    }
simple_is (S.Simple.augment _ o _ {a = b} {b = d} {ts = ts} _ h _ g) a =
    simple_on (line_append ts _ (starts_Exprs h))
    (augment_simple b d o (line_of ts) (phrase_Exprs h (kept_front ts _ a)) (phrase_Exprs g (kept_after ts _ a).1))
simple_is (S.Simple.print_end _ p) a = keyword_simple keyword.PRINT refl (piece_print p.line [] false) even_nil
simple_is (S.Simple.print p {es = es} {b = b} h) a = keyword_simple keyword.PRINT refl (piece_print p.line es b)
    (even2 (even_commas (map words es) (evens_Tests h a.1)) (even_trailing b))
simple_is (S.Simple.pass _ p) a = keyword_simple keyword.PASS refl (piece_pass p.line) even_nil
simple_is (S.Simple.break _ p) a = keyword_simple keyword.BREAK refl (piece_break p.line) even_nil
simple_is (S.Simple.continue _ p) a = keyword_simple keyword.CONTINUE refl (piece_continue p.line) even_nil
simple_is (S.Simple.return_none _ p) a = keyword_simple keyword.RETURN refl (piece_return p.line None) even_nil
simple_is (S.Simple.return p {a = b} h) a = keyword_simple keyword.RETURN refl (piece_return p.line (Some b))
    (phrase_Exprs h a.1).even
simple_is (S.Simple.raise_none _ p) a = keyword_simple keyword.RAISE refl (piece_raise p.line None None) even_nil
simple_is (S.Simple.raise_one p {a = b} h) a = keyword_simple keyword.RAISE refl (piece_raise p.line (Some b) None)
    (even2 (phrase_Is h a.1).even even_nil)
simple_is (S.Simple.raise_two p _ {a = b} {b = d} {ts = ts} h g) a =
    keyword_simple keyword.RAISE refl (piece_raise p.line (Some b) (Some d))
    (even2 (phrase_Is h (kept_front ts _ a.1)).even (even_comma (phrase_Is g (kept_after ts _ a.1).1)))
simple_is (S.Simple.del p {es = es} h) a = keyword_simple keyword.DEL refl (piece_del p.line es)
    (even_commas (map words es) (evens_Targets h a.1))
simple_is (S.Simple.global _ p {ns = ns} h) a = keyword_simple keyword.GLOBAL refl (piece_global p.line ns)
    (even_commas (map name_words ns) (evens_Names h a.1))
simple_is (S.Simple.assert_one p {a = b} h) a = keyword_simple keyword.ASSERT refl (piece_assert p.line b None)
    (even2 (phrase_Is h a.1).even even_nil)
simple_is (S.Simple.assert_two p _ {a = b} {b = d} {ts = ts} h g) a =
    keyword_simple keyword.ASSERT refl (piece_assert p.line b (Some d))
    (even2 (phrase_Is h (kept_front ts _ a.1)).even (even_comma (phrase_Is g (kept_after ts _ a.1).1)))
simple_is (S.Simple.import p {is = is} h) a = keyword_simple keyword.IMPORT refl (piece_import p.line is)
    (even_commas (map imported_words is) (evens_Imports h a.1))
simple_is (S.Simple.from m p _ _ {is = is} _ h) a = keyword_simple keyword.FROM refl (piece_from p.line m is)
    (even_cons (k.Name m) a.1.0 (λ n. refl)
    (even_cons (k.Keyword keyword.IMPORT) refl (λ n. refl)
    (even_commas (map imported_words is) (evens_Imports h a.1.1.1))))
simple_is (S.Simple.exec p) a = keyword_simple keyword.PASS refl (piece_pass p.line) even_nil
simple_is (S.Simple.yield p) a = keyword_simple keyword.PASS refl (piece_pass p.line) even_nil
simple_is (S.Simple.augment_yield _ o _ _ {a = b} {ts = ts} _ h _) a =
    simple_on (line_append ts _ (starts_Exprs h))
    (augment_simple b b o (line_of ts) (phrase_Exprs h (kept_front ts _ a)) (phrase_Exprs h (kept_front ts _ a)))
simple_is (S.Simple.print_to p _) a = keyword_simple keyword.PASS refl (piece_pass p.line) even_nil
simple_is (S.Simple.traceback p _ _ {a = b} {b = d} {ts = ts} {us = us} h g) a =
    let one = kept_front (ts ++ _ ∷ us) _ a.1 in
    keyword_simple keyword.RAISE refl (piece_raise p.line (Some b) (Some d))
    (even2 (phrase_Is h (kept_front ts _ one)).even (even_comma (phrase_Is g (kept_after ts _ one).1)))
simple_is (S.Simple.from_wrong _ p _ _) a = keyword_simple keyword.PASS refl (piece_pass p.line) even_nil
