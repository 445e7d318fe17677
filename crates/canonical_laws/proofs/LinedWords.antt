-- The words of an expression that a text's tokens spell are words of the language, and close the brackets that they
-- open.
use Rattle.std.proofs.Common.{◌≡◌, ℕ, ◌+◌, ◌-◌, ◌<◌, Bool, true, false, List, [], ◌∷◌, ◌++◌, map, Option, refl, sym, ap, ◌∙◌, subst, arith}
use Rattle.std.specs.List.{All}
use Rattle.std.proofs.lemmas.List.Elements.{All-append, All-nil}
use Rattle.py_tokens.specs.declared.keyword.TheConstants as keyword
use Rattle.py_tokens.specs.declared.operator.TheConstants as operator
use Rattle.py_tokens.specs.declared.token.Token.{Token}
use Rattle.py_tokens.specs.declared.token.TokenKind.{TokenKind}
use Rattle.py_tokens.specs.declared.token.TokenKind.TheVariants as k
use Rattle.py_tree.specs.declared.expr.Expr.{Expr}
use Rattle.py_tree.specs.declared.expr.Link.{Link}
use Rattle.py_tree.specs.declared.expr.Pair.{Pair}
use Rattle.py_tree.specs.declared.expr.Named.{Named}
use Rattle.py_tree.specs.declared.expr.Trailer.{Trailer}
use Rattle.py_tree.specs.declared.expr.Level.{Level}
use Rattle.py_tree.specs.declared.expr.Operator.{Operator}
use Rattle.py_tree.specs.declared.expr.Operator.TheVariants as op
use Rattle.py_tree.specs.declared.expr.Sign.{Sign}
use Rattle.py_tree.specs.declared.expr.Sign.TheVariants as sign
use Rattle.py_tree.specs.inner.Laid.{IsWord, after_word}
use Rattle.py_tree.specs.Spelling.{Words, operator_words, sign_words, led, commas, all_words, round, square, brace, tuple_words, words, words_trailer, words_link, words_named, words_pair}
use Rattle.py_tree.specs.Canonical.{expr_or}
use Rattle.py_tree.proofs.Spellings.{words_name, words_int, words_str, words_group, words_tuple, words_list, words_dict, words_trail, words_power, words_unary, words_chain, words_not, words_choice, words_attribute, words_index, words_slice, words_call, words_link_is, words_named_is, words_pair_is}
use Rattle.py_grammar.specs.Words.{spelled}
use Rattle.py_grammar.specs.Grammar as G
use Rattle.py_grammar.specs.Grammar.{Marks, Is, Strings, Tests, Commas, Exprs, Pairs, Links, Trailers, Trails, Maybe, Args}
use Rattle.py_tree.proofs.Lined.{AllKept, kept_front, kept_after}

-- ---- words

abbrev pub AllWords : Words → Type 0
AllWords [] = Unit {0}
AllWords (w ∷ ws) = IsWord w × AllWords ws

-- the count of open brackets after some words
abbrev pub after_words : ℕ → Words → ℕ
after_words n [] = n
after_words n (w ∷ ws) = after_words (after_word w n) ws

abbrev pub is_some : Words → Bool
is_some [] = false
is_some (w ∷ ws) = true

-- words of the language that leave the count of open brackets as it was
pub record Even (ws : Words) : Type 0 where
  pub are : AllWords ws
  pub level : (n : ℕ) → after_words n ws ≡ n

-- one or more of them
pub record Phrase (ws : Words) : Type 0 where
  pub even : Even ws
  pub some : is_some ws ≡ true

all_append : (ws vs : Words) → AllWords ws → AllWords vs → AllWords (ws ++ vs)
all_append [] vs h g = g
all_append (w ∷ ws) vs h g = (h.0, all_append ws vs h.1 g)

after_append : (ws vs : Words) (n : ℕ) → after_words n (ws ++ vs) ≡ after_words (after_words n ws) vs
after_append [] vs n = refl
after_append (w ∷ ws) vs n = after_append ws vs (after_word w n)

some_append : (ws vs : Words) → is_some ws ≡ true → is_some (ws ++ vs) ≡ true
some_append [] vs e = absurd (cc)
some_append (w ∷ ws) vs e = refl

pub even_nil : Even []
even_nil = record { are = tt; level = λ n. refl }

pub even_cons : (w : TokenKind) {ws : Words} → IsWord w → ((n : ℕ) → after_word w n ≡ n) → Even ws → Even (w ∷ ws)
even_cons w {ws = ws} h f e = record { are = (h, e.are); level = λ n. ap (λ m. after_words m ws) (f n) ∙ e.level n }

pub even2 : {ws vs : Words} → Even ws → Even vs → Even (ws ++ vs)
even2 {ws = ws} {vs = vs} e f = record {
  are = all_append ws vs e.are f.are;
  level = λ n. after_append ws vs n ∙
      f.level (after_words n ws) ∙ e.level n;
}

pub phrase_cons : (w : TokenKind) {ws : Words} → IsWord w → ((n : ℕ) → after_word w n ≡ n) → Even ws → Phrase (w ∷ ws)
phrase_cons w h f e = record { even = even_cons w h f e; some = refl }

pub phrase2 : {ws vs : Words} → Phrase ws → Even vs → Phrase (ws ++ vs)
phrase2 {ws = ws} {vs = vs} p f = record { even = even2 p.even f; some = some_append ws vs p.some }

pub even_as : {ws vs : Words} → ws ≡ vs → Even vs → Even ws
even_as e h = subst Even (sym e) h

pub phrase_as : {ws vs : Words} → ws ≡ vs → Phrase vs → Phrase ws
phrase_as e h = subst Phrase (sym e) h

less_one : (n : ℕ) → n + 1 - 1 ≡ n
less_one n = omega arith

-- an opening word, words that are even, and a closing word
closed : (w v : TokenKind) {ws : Words} → IsWord w → IsWord v → ((n : ℕ) → after_word w n ≡ n + 1) →
    ((n : ℕ) → after_word v n ≡ n - 1) → Even ws → Phrase (w ∷ ws ++ v ∷ [])
closed w v {ws = ws} h g o c e = record {
  even = record {
    are = (h, all_append ws (v ∷ []) e.are (g, tt));
    level = λ n. ap (λ m. after_words m (ws ++ v ∷ [])) (o n) ∙ after_append ws (v ∷ []) (n + 1) ∙
        ap (λ m. after_word v m) (e.level (n + 1)) ∙ c (n + 1) ∙ less_one n;
  };
  some = refl;
}

pub phrase_round : {ws : Words} → Even ws → Phrase (round ws)
phrase_round e = closed (k.Op operator.OPEN_ROUND) (k.Op operator.CLOSE_ROUND) refl refl (λ n. refl) (λ n. refl) e

phrase_square : {ws : Words} → Even ws → Phrase (square ws)
phrase_square e = closed (k.Op operator.OPEN_SQUARE) (k.Op operator.CLOSE_SQUARE) refl refl (λ n. refl) (λ n. refl) e

phrase_brace : {ws : Words} → Even ws → Phrase (brace ws)
phrase_brace e = closed (k.Op operator.OPEN_BRACE) (k.Op operator.CLOSE_BRACE) refl refl (λ n. refl) (λ n. refl) e

-- ---- lists of words

abbrev pub Evens : List Words → Type 0
Evens [] = Unit {0}
Evens (ws ∷ wss) = Even ws × Evens wss

pub evens_append : (wss vss : List Words) → Evens wss → Evens vss → Evens (wss ++ vss)
evens_append [] vss h g = g
evens_append (ws ∷ wss) vss h g = (h.0, evens_append wss vss h.1 g)

even_led : (w : TokenKind) (wss : List Words) → IsWord w → ((n : ℕ) → after_word w n ≡ n) → Evens wss → Even (led w wss)
even_led w [] h f e = even_nil
even_led w (ws ∷ wss) h f e = even_cons w h f (even2 e.0 (even_led w wss h f e.1))

pub even_commas : (wss : List Words) → Evens wss → Even (commas wss)
even_commas [] e = even_nil
even_commas (ws ∷ wss) e = even2 e.0 (even_led (k.Op operator.COMMA) wss refl (λ n. refl) e.1)

pub even_tuple : (wss : List Words) → Evens wss → Even (tuple_words wss)
even_tuple [] e = even_nil
even_tuple (ws ∷ []) e = even2 e.0 (even_cons (k.Op operator.COMMA) refl (λ n. refl) even_nil)
even_tuple (ws ∷ vs ∷ wss) e = even_commas (ws ∷ vs ∷ wss) e

even_all : (wss : List Words) → Evens wss → Even (all_words wss)
even_all [] e = even_nil
even_all (ws ∷ wss) e = even2 e.0 (even_all wss e.1)

pub keyword_even : (n : ℕ) → IsWord (k.Keyword n) → Even (k.Keyword n ∷ [])
keyword_even n h = even_cons (k.Keyword n) h (λ m. refl) even_nil

even_operator : (o : Operator) → Even (operator_words o)
even_operator op.Or = even_cons (k.Keyword keyword.OR) refl (λ n. refl) even_nil
even_operator op.And = even_cons (k.Keyword keyword.AND) refl (λ n. refl) even_nil
even_operator op.Less = even_cons (k.Op operator.LESS) refl (λ n. refl) even_nil
even_operator op.Greater = even_cons (k.Op operator.GREATER) refl (λ n. refl) even_nil
even_operator op.Equal = even_cons (k.Op operator.EQUAL) refl (λ n. refl) even_nil
even_operator op.GreaterEqual = even_cons (k.Op operator.GREATER_EQUAL) refl (λ n. refl) even_nil
even_operator op.LessEqual = even_cons (k.Op operator.LESS_EQUAL) refl (λ n. refl) even_nil
even_operator op.NotEqual = even_cons (k.Op operator.NOT_EQUAL) refl (λ n. refl) even_nil
even_operator op.In = even_cons (k.Keyword keyword.IN) refl (λ n. refl) even_nil
even_operator op.NotIn = even_cons (k.Keyword keyword.NOT) refl (λ n. refl)
    (even_cons (k.Keyword keyword.IN) refl (λ n. refl) even_nil)
even_operator op.Is = even_cons (k.Keyword keyword.IS) refl (λ n. refl) even_nil
even_operator op.IsNot = even_cons (k.Keyword keyword.IS) refl (λ n. refl)
    (even_cons (k.Keyword keyword.NOT) refl (λ n. refl) even_nil)
even_operator op.BitOr = even_cons (k.Op operator.BAR) refl (λ n. refl) even_nil
even_operator op.BitXor = even_cons (k.Op operator.CARET) refl (λ n. refl) even_nil
even_operator op.BitAnd = even_cons (k.Op operator.AMPERSAND) refl (λ n. refl) even_nil
even_operator op.ShiftLeft = even_cons (k.Op operator.SHIFT_LEFT) refl (λ n. refl) even_nil
even_operator op.ShiftRight = even_cons (k.Op operator.SHIFT_RIGHT) refl (λ n. refl) even_nil
even_operator op.Plus = even_cons (k.Op operator.PLUS) refl (λ n. refl) even_nil
even_operator op.Minus = even_cons (k.Op operator.MINUS) refl (λ n. refl) even_nil
even_operator op.Times = even_cons (k.Op operator.STAR) refl (λ n. refl) even_nil
even_operator op.Divide = even_cons (k.Op operator.SLASH) refl (λ n. refl) even_nil
even_operator op.Floor = even_cons (k.Op operator.FLOOR) refl (λ n. refl) even_nil
even_operator op.Remainder = even_cons (k.Op operator.PERCENT) refl (λ n. refl) even_nil
even_operator op.Power = even_cons (k.Op operator.POWER) refl (λ n. refl) even_nil

even_sign : (s : Sign) → Phrase (sign_words s)
even_sign sign.Plus = phrase_cons (k.Op operator.PLUS) refl (λ n. refl) even_nil
even_sign sign.Minus = phrase_cons (k.Op operator.MINUS) refl (λ n. refl) even_nil
even_sign sign.Invert = phrase_cons (k.Op operator.TILDE) refl (λ n. refl) even_nil

-- ---- expressions

word_strings : {x : Marks} {s : List ℕ} {ts : List Token} → Strings x s ts → AllKept ts → All (λ b. b < 256) s
word_strings (G.Strings.one _ _ _) a = a.0
word_strings (G.Strings.more _ s _ {r = r} h) a = All-append (λ b. b < 256) s r a.0 (word_strings h a.1)
word_strings (G.Strings.unicode _) a = All-nil (λ b. b < 256)

even_pair : (a b : Expr) → Phrase (words a) → Phrase (words b) → Even (words_pair (record { key = a; value = b }))
even_pair a b p q = even_as (words_pair_is (record { key = a; value = b }))
    (even2 p.even (even_cons (k.Op operator.COLON) refl (λ n. refl) q.even))

even_link : (o : Operator) (a : Expr) → Phrase (words a) → Even (words_link (record { operator = o; operand = a }))
even_link o a p = even_as (words_link_is (record { operator = o; operand = a })) (even2 (even_operator o) p.even)

even_named : (n : List ℕ) (a : Expr) → IsWord (k.Name n) → Phrase (words a) →
    Even (words_named (record { name = n; value = a }))
even_named n a h p = even_as (words_named_is (record { name = n; value = a }))
    (even_cons (k.Name n) h (λ m. refl) (even_cons (k.Op operator.ASSIGN) refl (λ m. refl) p.even))

even_slice : (a b : Option Expr) → Even (expr_or a) → Even (expr_or b) →
    Even (square (expr_or a ++ k.Op operator.COLON ∷ expr_or b))
even_slice a b e f = (phrase_square (even2 e (even_cons (k.Op operator.COLON) refl (λ n. refl) f))).even

mutual
  pub phrase_Is : {x : Marks} {n : ℕ} {a : Expr} {ts : List Token} → Is x n a ts → AllKept ts → Phrase (words a)
  phrase_Is (G.Is.up _ _ h) a = phrase_Is h a
  phrase_Is (G.Is.name _ n _) a = phrase_as (words_name n) (phrase_cons (k.Name n) a.0 (λ n. refl) even_nil)
  phrase_Is (G.Is.int _ n _) a = phrase_as (words_int n) (phrase_cons (k.Int n) a.0 (λ n. refl) even_nil)
  phrase_Is (G.Is.strings {s = s} h) a =
      phrase_as (words_str s) (phrase_cons (k.Str s) (word_strings h a) (λ n. refl) even_nil)
  phrase_Is (G.Is.group _ _ {a = b} {ts = ts} h) a =
      phrase_as (words_group b) (phrase_round (phrase_Is h (kept_front ts _ a.1)).even)
  phrase_Is (G.Is.unit _ _ _) a = phrase_as (words_tuple []) (phrase_round even_nil)
  phrase_Is (G.Is.round _ _ {es = es} {ts = ts} h) a =
      phrase_as (words_tuple es) (phrase_round (even_tuple (map words es) (evens_Commas h (kept_front ts _ a.1))))
  phrase_Is (G.Is.no_list _ _ _) a = phrase_as (words_list []) (phrase_square even_nil)
  phrase_Is (G.Is.list _ _ {es = es} {ts = ts} h) a =
      phrase_as (words_list es) (phrase_square (even_commas (map words es) (evens_Tests h (kept_front ts _ a.1))))
  phrase_Is (G.Is.no_dict _ _ _) a = phrase_as (words_dict []) (phrase_brace even_nil)
  phrase_Is (G.Is.dict _ _ {ps = ps} {ts = ts} h) a =
      phrase_as (words_dict ps) (phrase_brace (even_commas (map words_pair ps) (evens_Pairs h (kept_front ts _ a.1))))
  phrase_Is (G.Is.trail {a = b} {rs = rs} {ts = ts} {us = us} h g) a =
      phrase_as (words_trail b rs) (phrase2 (phrase_Is h (kept_front ts us a))
      (even_all (map words_trailer rs) (evens_Trailers g (kept_after ts us a))))
  phrase_Is (G.Is.power _ {a = b} {b = d} {ts = ts} h g) a =
      phrase_as (words_power b d) (phrase2 (phrase_Is h (kept_front ts _ a))
      (even_cons (k.Op operator.POWER) refl (λ n. refl) (phrase_Is g (kept_after ts _ a).1).even))
  phrase_Is (G.Is.signed s _ {a = b} h) a = phrase_as (words_unary s b) (phrase2 (even_sign s) (phrase_Is h a.1).even)
  phrase_Is (G.Is.chain l {a = b} {ls = ls} {ts = ts} {us = us} h g) a =
      phrase_as (words_chain l b ls) (phrase2 (phrase_Is h (kept_front ts us a))
      (even_all (map words_link ls) (evens_Links g (kept_after ts us a))))
  phrase_Is (G.Is.negated _ {a = b} h) a =
      phrase_as (words_not b) (phrase_cons (k.Keyword keyword.NOT) refl (λ n. refl) (phrase_Is h a.1).even)
  phrase_Is (G.Is.choice p q {a = b} {b = d} {d = f} {ts = ts} {us = us} {vs = vs} h g i) a =
      let one = kept_front (ts ++ _ ∷ us) _ a in
      phrase_as (words_choice b d f) (phrase2
      (phrase2 (phrase_Is h (kept_front ts _ one))
      (even_cons (k.Keyword keyword.IF) refl (λ n. refl) (phrase_Is g (kept_after ts _ one).1).even))
      (even_cons (k.Keyword keyword.ELSE) refl (λ n. refl) (phrase_Is i (kept_after (ts ++ _ ∷ us) _ a).1).even))
  phrase_Is (G.Is.float _) a = phrase_as (words_tuple []) (phrase_round even_nil)
  phrase_Is (G.Is.long _) a = phrase_as (words_tuple []) (phrase_round even_nil)
  phrase_Is (G.Is.backquote _) a = phrase_as (words_tuple []) (phrase_round even_nil)
  phrase_Is (G.Is.lambda _) a = phrase_as (words_tuple []) (phrase_round even_nil)
  phrase_Is (G.Is.yielded _ _) a = phrase_as (words_tuple []) (phrase_round even_nil)
  phrase_Is (G.Is.generator _ _ {a = b} {ts = ts} h) a =
      phrase_as (words_group b) (phrase_round (phrase_Is h (kept_front ts _ a.1)).even)
  phrase_Is (G.Is.comprehension _ _ {a = b} {ts = ts} h) a =
      phrase_as (words_list (b ∷ [])) (phrase_square
      (even_commas (words b ∷ []) ((phrase_Is h (kept_front ts _ a.1)).even, tt)))
  phrase_Is (G.Is.set_of _ _ {a = b} {ts = ts} h) a = phrase_as (words_dict (record { key = b; value = b } ∷ []))
      (phrase_brace (even_commas (words_pair (record { key = b; value = b }) ∷ [])
      (even_pair b b (phrase_Is h (kept_front ts _ a.1)) (phrase_Is h (kept_front ts _ a.1)), tt)))
  phrase_Is (G.Is.dict_of _ _ _ {a = b} {b = d} {ts = ts} {us = us} h g) a =
      let one = kept_front (ts ++ _ ∷ us) _ a.1 in
      phrase_as (words_dict (record { key = b; value = d } ∷ []))
      (phrase_brace (even_commas (words_pair (record { key = b; value = d }) ∷ [])
      (even_pair b d (phrase_Is h (kept_front ts _ one)) (phrase_Is g (kept_after ts _ one).1), tt)))
  phrase_Is (G.Is.set _ _ {a = b} {ts = ts} h) a = phrase_as (words_dict (record { key = b; value = b } ∷ []))
      (phrase_brace (even_commas (words_pair (record { key = b; value = b }) ∷ [])
      (even_pair b b (phrase_Is h (kept_front ts _ a.1)) (phrase_Is h (kept_front ts _ a.1)), tt)))
  phrase_Is (G.Is.set_one _ _ {a = b} {ts = ts} h) a = phrase_as (words_dict (record { key = b; value = b } ∷ []))
      (phrase_brace (even_commas (words_pair (record { key = b; value = b }) ∷ [])
      (even_pair b b (phrase_Is h (kept_front ts _ a.1)) (phrase_Is h (kept_front ts _ a.1)), tt)))

  pub phrase_Exprs : {x : Marks} {a : Expr} {ts : List Token} → Exprs x a ts → AllKept ts → Phrase (words a)
  phrase_Exprs (G.Exprs.single h) a = phrase_Is h a
  phrase_Exprs (G.Exprs.tuple {es = es} h) a =
      phrase_as (words_tuple es) (phrase_round (even_tuple (map words es) (evens_Commas h a)))

  pub evens_Tests : {x : Marks} {es : List Expr} {b : Bool} {ts : List Token} → Tests x es b ts → AllKept ts →
      Evens (map words es)
  evens_Tests (G.Tests.only h) a = ((phrase_Is h a).even, tt)
  evens_Tests (G.Tests.only_comma _ {ts = ts} h) a = ((phrase_Is h (kept_front ts _ a)).even, tt)
  evens_Tests (G.Tests.more_tests _ {ts = ts} h g) a =
      ((phrase_Is h (kept_front ts _ a)).even, evens_Tests g (kept_after ts _ a).1)

  evens_Commas : {x : Marks} {es : List Expr} {ts : List Token} → Commas x es ts → AllKept ts → Evens (map words es)
  evens_Commas (G.Commas.lone _ {ts = ts} h) a = ((phrase_Is h (kept_front ts _ a)).even, tt)
  evens_Commas (G.Commas.several _ {ts = ts} h g) a =
      ((phrase_Is h (kept_front ts _ a)).even, evens_Tests g (kept_after ts _ a).1)

  evens_Pairs : {x : Marks} {ps : List Pair} {ts : List Token} → Pairs x ps ts → AllKept ts → Evens (map words_pair ps)
  evens_Pairs (G.Pairs.pair _ {a = b} {b = d} {ts = ts} h g) a =
      (even_pair b d (phrase_Is h (kept_front ts _ a)) (phrase_Is g (kept_after ts _ a).1), tt)
  evens_Pairs (G.Pairs.pair_comma _ _ {a = b} {b = d} {ts = ts} {us = us} h g) a =
      let one = kept_front (ts ++ _ ∷ us) _ a in
      (even_pair b d (phrase_Is h (kept_front ts _ one)) (phrase_Is g (kept_after ts _ one).1), tt)
  evens_Pairs (G.Pairs.more_pairs _ _ {a = b} {b = d} {ts = ts} {us = us} h g i) a =
      let one = kept_front (ts ++ _ ∷ us) _ a in (
        even_pair b d (phrase_Is h (kept_front ts _ one)) (phrase_Is g (kept_after ts _ one).1),
        evens_Pairs i (kept_after (ts ++ _ ∷ us) _ a).1,
      )

  evens_Links : {x : Marks} {l : Level} {ls : List Link} {ts : List Token} → Links x l ls ts → AllKept ts →
      Evens (map words_link ls)
  evens_Links (G.Links.link _ o p q {a = b} h g) a = (even_link o b (phrase_Is g (kept_after (spelled o p q) _ a)), tt)
  evens_Links (G.Links.more_links _ o p q {a = b} {ts = ts} {us = us} h g i) a =
      let one = kept_front (spelled o p q ++ ts) us a in (
        even_link o b (phrase_Is g (kept_after (spelled o p q) ts one)),
        evens_Links i (kept_after (spelled o p q ++ ts) us a),
      )

  evens_Trailers : {x : Marks} {rs : List Trailer} {ts : List Token} → Trailers x rs ts → AllKept ts →
      Evens (map words_trailer rs)
  evens_Trailers (G.Trailers.last h) a = (even_Trails h a, tt)
  evens_Trailers (G.Trailers.more_trailers {ts = ts} {us = us} h g) a =
      (even_Trails h (kept_front ts us a), evens_Trailers g (kept_after ts us a))

  even_Trails : {x : Marks} {r : Trailer} {ts : List Token} → Trails x r ts → AllKept ts → Even (words_trailer r)
  even_Trails (G.Trails.attribute _ n _ _) a =
      even_as (words_attribute n) (even_cons (k.Op operator.DOT) refl (λ n. refl)
      (even_cons (k.Name n) a.1.0 (λ n. refl) even_nil))
  even_Trails (G.Trails.index _ _ {a = b} {ts = ts} h) a =
      even_as (words_index b) (phrase_square (phrase_Exprs h (kept_front ts _ a.1)).even).even
  even_Trails (G.Trails.slice _ _ _ {a = b} {b = d} {ts = ts} {us = us} h g) a =
      let one = kept_front (ts ++ _ ∷ us) _ a.1 in
      even_as (words_slice b d) (even_slice b d (even_Maybe h (kept_front ts _ one))
      (even_Maybe g (kept_after ts _ one).1))
  even_Trails (G.Trails.no_call _ _ _) a = even_as (words_call [] []) (phrase_round even_nil).even
  even_Trails (G.Trails.call _ _ {es = es} {ns = ns} {ts = ts} h) a =
      even_as (words_call es ns) (phrase_round
      (even_commas (map words es ++ map words_named ns) (evens_Args h (kept_front ts _ a.1)))).even
  even_Trails (G.Trails.generator_call _ _ {a = b} {ts = ts} h) a =
      even_as (words_call (b ∷ []) []) (phrase_round
      (even_commas (words b ∷ []) ((phrase_Is h (kept_front ts _ a.1)).even, tt))).even
  even_Trails (G.Trails.long_slice _ _ _ {a = b} {b = d} {ts = ts} {us = us} h g) a =
      let one = kept_front (ts ++ _ ∷ us) _ a.1 in
      even_as (words_slice b d) (even_slice b d (even_Maybe h (kept_front ts _ one))
      (even_Maybe g (kept_after ts _ one).1))
  even_Trails (G.Trails.slices _ _ _ {a = b} {b = d} {ts = ts} {us = us} h g) a =
      let one = kept_front (ts ++ _ ∷ us) _ a.1 in
      even_as (words_slice b d) (even_slice b d (even_Maybe h (kept_front ts _ one))
      (even_Maybe g (kept_after ts _ one).1))

  pub even_Maybe : {x : Marks} {a : Option Expr} {ts : List Token} → Maybe x a ts → AllKept ts → Even (expr_or a)
  even_Maybe (G.Maybe.nothing _) a = even_nil
  even_Maybe (G.Maybe.just h) a = (phrase_Is h a).even

  evens_Args : {x : Marks} {es : List Expr} {ns : List Named} {ts : List Token} → Args x es ns ts → AllKept ts →
      Evens (map words es ++ map words_named ns)
  evens_Args (G.Args.arg h) a = ((phrase_Is h a).even, tt)
  evens_Args (G.Args.arg_comma _ {ts = ts} h) a = ((phrase_Is h (kept_front ts _ a)).even, tt)
  evens_Args (G.Args.more_args _ {ts = ts} h g) a =
      ((phrase_Is h (kept_front ts _ a)).even, evens_Args g (kept_after ts _ a).1)
  evens_Args (G.Args.named n _ _ {a = b} h) a = (even_named n b a.0 (phrase_Is h a.1.1), tt)
  evens_Args (G.Args.named_comma n _ _ _ {a = b} {ts = ts} h) a =
      (even_named n b a.0 (phrase_Is h (kept_front ts _ a.1.1)), tt)
  evens_Args (G.Args.more_named n _ _ _ {a = b} {ts = ts} h g) a =
      (even_named n b a.0 (phrase_Is h (kept_front ts _ a.1.1)), evens_Args g (kept_after ts _ a.1.1).1)
  evens_Args (G.Args.starred _) a = tt
  evens_Args (G.Args.double_starred _) a = tt
