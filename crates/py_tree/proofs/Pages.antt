-- What a writer has after words and lexemes that follow one another.
use Rattle.std.proofs.Common.{◌≡◌, ℕ, suc, ◌+◌, ◌-◌, ◌<◌, Bool, true, false, not, ◌==◌, List, [], ◌∷◌, ◌++◌, length, get_or, drop, map, refl, sym, ap, ◌∙◌, append_assoc, append-nil, arith}
use Rattle.std.proofs.lemmas.Bool.{ne_eqb}
use Rattle.py_base.proofs.Lists.{next_item}
use Rattle.py_tokens.specs.declared.operator.TheConstants as operator
use Rattle.py_tokens.specs.declared.token.TokenKind.{TokenKind}
use Rattle.py_tokens.specs.declared.token.TokenKind.TheVariants as k
use Rattle.py_tree.specs.declared.expr.Expr.{Expr}
use Rattle.py_tree.specs.declared.expr.Expr.TheVariants as e
use Rattle.py_tree.specs.declared.expr.Link.{Link}
use Rattle.py_tree.specs.declared.expr.Named.{Named}
use Rattle.py_tree.specs.declared.expr.Pair.{Pair}
use Rattle.py_tree.specs.declared.expr.Trailer.TheVariants as t
use Rattle.py_tree.specs.declared.writer.Writer.{Writer}
use Rattle.py_tree.specs.Canonical.{all, ended, trailing}
use Rattle.py_tree.specs.Lexeme.{Lexeme, lexeme}
use Rattle.py_tree.specs.Spelling.{Words, led, commas, all_words, round, tuple_words, words, words_trailer, words_named, words_pair, words_link, operator_words}
use Rattle.py_tree.specs.Writing.{joints}
use Rattle.py_tree.specs.inner.Page.{put, put_all, spell, comma_if, listed}
use Rattle.py_tree.proofs.Spellings.{words_name, words_int, words_str, words_group, words_tuple, words_list, words_dict, words_trail, words_power, words_unary, words_chain, words_not, words_choice, words_attribute, words_index, words_slice, words_call, words_pair_is, words_named_is, words_link_is}

pub one_joint : (a b d whole : List ℕ) (n i : ℕ) → i < n → b ≡ a ++ 92 ∷ [] → d ≡ b ++ 10 ∷ [] →
    a ++ joints (n - i) ≡ whole → d ++ joints (n - (i + 1)) ≡ whole
one_joint a b d whole n i l p q h =
    let e : suc (n - (i + 1)) ≡ n - i = omega arith in
    ap (λ z. z ++ joints (n - (i + 1))) (q ∙ ap (λ z. z ++ 10 ∷ []) p) ∙
    (simp append_assoc (ap (λ z. a ++ joints z) e ∙ h))

pub spell_append : (line : ℕ) (w : Writer) (ks ms : Words) → spell line w (ks ++ ms) ≡ spell line (spell line w ks) ms
spell_append line w [] ms = refl
spell_append line w (k ∷ ks) ms = spell_append line (put w (lexeme k line)) ks ms

pub put_all_append : (w : Writer) (ls ms : List Lexeme) → put_all w (ls ++ ms) ≡ put_all (put_all w ls) ms
put_all_append w [] ms = refl
put_all_append w (l ∷ ls) ms = put_all_append (put w l) ls ms

-- ---- loops over items

-- with commas between them
pub listed_more : {X : Type 0} (f : X → Words) (line : ℕ) (w v u total : Writer) (comma : Bool) (xs : List X) (i : ℕ)
    (x : X) → i < length xs → x ≡ get_or xs i x → v ≡ spell line w (comma_if comma) → u ≡ spell line v (f x) →
    spell line w (listed comma (map f (drop i xs))) ≡ total → spell line u (listed true (map f (drop (i + 1) xs))) ≡
    total
listed_more f line w v u total true xs i x l e p q h =
    let rest = listed true (map f (drop (i + 1) xs)) in
    ap (λ z. spell line z rest) (q ∙ ap (λ z. spell line z (f x)) p)
    ∙ (sym (spell_append line (spell line w (comma_if true)) (f x) rest)
    ∙ (sym (ap (λ z. spell line w (listed true (map f z))) (next_item xs i x l e)) ∙ h))
listed_more f line w v u total false xs i x l e p q h =
    let rest = listed true (map f (drop (i + 1) xs)) in
    ap (λ z. spell line z rest) (q ∙ ap (λ z. spell line z (f x)) p)
    ∙ (sym (spell_append line w (f x) rest)
    ∙ (sym (ap (λ z. spell line w (listed false (map f z))) (next_item xs i x l e)) ∙ h))

-- one after another
pub all_more : {X : Type 0} (f : X → Words) (line : ℕ) (w u total : Writer) (xs : List X) (i : ℕ) (x : X) →
    i < length xs → x ≡ get_or xs i x → u ≡ spell line w (f x) →
    spell line w (all_words (map f (drop i xs))) ≡ total → spell line u (all_words (map f (drop (i + 1) xs))) ≡ total
all_more f line w u total xs i x l e q h =
    let rest = all_words (map f (drop (i + 1) xs)) in
    ap (λ z. spell line z rest) q
    ∙ (sym (spell_append line w (f x) rest)
    ∙ (sym (ap (λ z. spell line w (all_words (map f z))) (next_item xs i x l e)) ∙ h))

-- ---- lists in brackets

led_append : (k : TokenKind) (xs ys : List Words) → led k (xs ++ ys) ≡ led k xs ++ led k ys
led_append k [] ys = refl
led_append k (x ∷ xs) ys = ap (λ z. k ∷ z) (ap (λ z. x ++ z) (led_append k xs ys) ∙
    sym (append_assoc x (led k xs) (led k ys)))

both_lists : {X : Type 0} (f : X → Words) (xs : List X) (ys : List Words) →
    commas (map f xs ++ ys) ≡ commas (map f xs) ++ listed (not (length xs == 0)) ys
both_lists f [] ys = refl
both_lists f (x ∷ xs) ys =
    rw (ne_eqb (suc (length xs)) 0 (λ e. omega arith))
    (ap (λ z. f x ++ z) (led_append (k.Op operator.COMMA) (map f xs) ys) ∙
    sym (append_assoc (f x) (led (k.Op operator.COMMA) (map f xs)) (led (k.Op operator.COMMA) ys)))

lone : {X : Type 0} (f : X → Words) (xs : List X) → tuple_words (map f xs) ≡ commas (map f xs) ++ comma_if
    (length xs == 1)
lone f [] = refl
lone f (x ∷ []) = simp append-nil
lone f (x ∷ y ∷ xs) = rw (ne_eqb (suc (suc (length xs))) 1 (λ e. omega arith))
    (sym (append-nil (commas (map f (x ∷ y ∷ xs)))))

pub tuple_spelled : (es : List Expr) → words (e.Tuple es) ≡ round (commas (map words es) ++ comma_if (length es == 1))
tuple_spelled es = words_tuple es ∙ ap round (lone words es)

pub call_spelled : (es : List Expr) (ns : List Named) →
    words_trailer (t.Call es ns) ≡ round (commas (map words es) ++ listed (not (length es == 0)) (map words_named ns))
call_spelled es ns = words_call es ns ∙ ap round (both_lists words es (map words_named ns))

pub trailing_is : (b : Bool) → trailing b ≡ comma_if b
trailing_is true = refl
trailing_is false = refl

pub ruleset spelled = (
  words_name,
  words_int,
  words_str,
  words_group,
  tuple_spelled,
  words_list,
  words_dict,
  words_trail,
  words_power,
  words_unary,
  words_chain,
  words_not,
  words_choice,
  words_attribute,
  words_index,
  words_slice,
  call_spelled,
  trailing_is,
  spell_append,
)

-- ---- what stands in lists

pub pair_spelled : (line : ℕ) (w a b u : Writer) (p : Pair) → a ≡ spell line w (words p.key) →
    b ≡ put a (lexeme (k.Op operator.COLON) line) → u ≡ spell line b (words p.value) → u ≡ spell line w (words_pair p)
pair_spelled line w a b u p e f g =
    g ∙ (ap (λ z. spell line z (words p.value)) (f ∙ ap (λ z. put z (lexeme (k.Op operator.COLON) line)) e)
    ∙ sym (ap (spell line w) (words_pair_is p) ∙
    spell_append line w (words p.key) (k.Op operator.COLON ∷ words p.value)))

pub named_spelled : (line : ℕ) (w a b u : Writer) (n : Named) (name : List ℕ) → name ≡ n.name →
    a ≡ put w (lexeme (k.Name name) line) → b ≡ put a (lexeme (k.Op operator.ASSIGN) line) →
    u ≡ spell line b (words n.value) → u ≡ spell line w (words_named n)
named_spelled line w a b u n name is e f g =
    g ∙ (ap (λ z. spell line z (words n.value))
    (f ∙ ap (λ z. put z (lexeme (k.Op operator.ASSIGN) line)) (e ∙ ap (λ z. put w (lexeme (k.Name z) line)) is))
    ∙ sym (ap (spell line w) (words_named_is n)))

pub link_spelled : (line : ℕ) (w a u : Writer) (l : Link) → a ≡ spell line w (operator_words l.operator) →
    u ≡ spell line a (words l.operand) → u ≡ spell line w (words_link l)
link_spelled line w a u l e f =
    f ∙ (ap (λ z. spell line z (words l.operand)) e ∙
    sym (ap (spell line w) (words_link_is l) ∙ spell_append line w (operator_words l.operator) (words l.operand)))

-- ---- statements

-- each with a word after it
pub ended_more : (line : ℕ) (w v u total : Writer) (k : TokenKind) (xs : List Expr) (i : ℕ) (x : Expr) →
    i < length xs → x ≡ get_or xs i x → v ≡ spell line w (words x) → u ≡ put v (lexeme k line) →
    spell line w (ended k (all (drop i xs))) ≡ total → spell line u (ended k (all (drop (i + 1) xs))) ≡ total
ended_more line w v u total k xs i x l e p q h =
    let rest = ended k (all (drop (i + 1) xs)) in
    ap (λ z. spell line z rest) (q ∙ ap (λ z. put z (lexeme k line)) p)
    ∙ (sym (spell_append line w (words x) (k ∷ rest))
    ∙ (sym (ap (λ z. spell line w (ended k (all z))) (next_item xs i x l e)) ∙ h))
