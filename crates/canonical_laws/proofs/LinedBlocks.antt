-- The lexemes of the module that a text's tokens spell are laid out.
use Rattle.std.proofs.Common.{◌≡◌, ℕ, ◌+◌, ◌-◌, ◌<◌, ◌≤◌, Bool, true, false, ◌==◌, if◌then◌else◌, List, [], ◌∷◌, ◌++◌, map, Option, Some, None, Ok, refl, sym, ap, ◌∙◌, subst, append_assoc, append-nil, arith}
use Rattle.std.proofs.lemmas.Bool.{eqb-true, eqb-false}
use Rattle.py_tokens.specs.declared.keyword.TheConstants as keyword
use Rattle.py_tokens.specs.declared.operator.TheConstants as operator
use Rattle.py_tokens.specs.declared.token.Token.{Token}
use Rattle.py_tokens.specs.declared.token.TokenKind.TheVariants as k
use Rattle.py_tokens.specs.Tables.{keywords}
use Rattle.py_tokens.specs.Layout.{tokens_of_text}
use Rattle.py_tree.specs.declared.expr.Expr.{Expr}
use Rattle.py_tree.specs.declared.stmt.Stmt.{Stmt}
use Rattle.py_tree.specs.declared.stmt.Module.{Module}
use Rattle.py_tree.specs.declared.stmt.Param.{Param}
use Rattle.py_tree.specs.declared.stmt.Arm.{Arm}
use Rattle.py_tree.specs.declared.stmt.Clause.{Clause}
use Rattle.py_tree.specs.declared.stmt.Handler.{Handler}
use Rattle.py_tree.specs.Lexeme.{Lexeme, lexeme}
use Rattle.py_tree.specs.inner.Laid.{Stand, brackets, IsLaid, has_number}
use Rattle.py_tree.specs.inner.Laid.Stand.{Start, Indented, Dedented, Within}
use Rattle.py_tree.specs.Spelling.{Words, commas, round, words}
use Rattle.py_tree.specs.Canonical as n
use Rattle.py_tree.specs.Canonical.{Piece, piece, pieces, on, newline, ending, in_order, begins_on, block_lexemes, head, expr_or, led_or, param_words, base_words, lexemes}
use Rattle.py_tree.proofs.Pieces.{lexemes_arms, lexemes_clause_or, lexemes_handlers, piece_if, piece_while, piece_for, piece_try, piece_def, piece_class}
use Rattle.py_tokens.specs.Place.{token_at as at}
use Rattle.py_grammar.specs.Codes as code
use Rattle.py_grammar.specs.Words.{line_of}
use Rattle.py_grammar.specs.Statements as S
use Rattle.py_grammar.specs.Statements.{Line, Parameter, Parameters, Params, Base, Caught, Statement, Suite, Block, Elifs, Else, Finally, Excepts, Compound, Body, IsModule}
use Rattle.py_grammar.specs.Grammar.{Marks}
use Rattle.py_tree.proofs.Lined.{IsLined, AllKept, lined_le, lined_tail, lined_after, kept_front, kept_after}
use Rattle.py_tree.proofs.LinedKinds.{Bytes}
use Rattle.py_tree.proofs.LinedText.{lined_text, kept_text}
use Rattle.canonical_laws.proofs.LinedWords.{Even, Phrase, Evens, even_nil, even_cons, even2, phrase_cons, phrase_round, even_commas, phrase_Is, phrase_Exprs, even_Maybe}
use Rattle.canonical_laws.proofs.LinedSimple.{Starts, starts_append, line_append, lined_start, phrase_Target, phrase_Loops}
use Rattle.canonical_laws.proofs.LinedLaid.{regroup, clause_laid, close_brackets, Ready, starts_Line, line_begins, After, line_laid}

-- ---- heads

even_Parameter : {x : Marks} {d : Bool} {a : Param} {ts : List Token} → Parameter x d a ts → AllKept ts →
    Even (param_words a)
even_Parameter (S.Parameter.plain _ n _) a = even_cons (k.Name n) a.0 (λ m. refl) even_nil
even_Parameter (S.Parameter.default n _ _ h) a =
    even_cons (k.Name n) a.0 (λ m. refl) (even_cons (k.Op operator.ASSIGN) refl (λ m. refl) (phrase_Is h a.1.1).even)

evens_Parameters : {x : Marks} {b : Bool} {ps : List Param} {ts : List Token} → Parameters x b ps ts → AllKept ts →
    Evens (map param_words ps)
evens_Parameters (S.Parameters.one _ _ _ h) a = (even_Parameter h a, tt)
evens_Parameters (S.Parameters.one_comma _ _ _ {ts = ts} _ h) a = (even_Parameter h (kept_front ts _ a), tt)
evens_Parameters (S.Parameters.more _ _ _ {ts = ts} _ h g) a =
    (even_Parameter h (kept_front ts _ a), evens_Parameters g (kept_after ts _ a).1)
evens_Parameters (S.Parameters.starred _ _) a = tt
evens_Parameters (S.Parameters.double_starred _ _) a = tt
evens_Parameters (S.Parameters.tuple _ _) a = tt

evens_Params : {x : Marks} {ps : List Param} {ts : List Token} → Params x ps ts → AllKept ts →
    Evens (map param_words ps)
evens_Params (S.Params.none _) a = tt
evens_Params (S.Params.some h) a = evens_Parameters h a

even_round_or : (a : Option Expr) → Even (expr_or a) → Even (base_words a)
even_round_or None e = even_nil
even_round_or (Some b) e = (phrase_round e).even

even_Base : {x : Marks} {a : Option Expr} {ts : List Token} → Base x a ts → AllKept ts → Even (base_words a)
even_Base (S.Base.none _) a = even_nil
even_Base (S.Base.round _ _ {a = b} {ts = ts} h) a = even_round_or b (even_Maybe h (kept_front ts _ a.1))
even_Base (S.Base.bases _ _ {ts = ts} h) a = (phrase_round (phrase_Is h (kept_front ts _ a.1)).even).even

even_as_word : {ws : Words} → Phrase ws → Even (k.Keyword keyword.AS ∷ ws)
even_as_word p = even_cons (k.Keyword keyword.AS) refl (λ m. refl) p.even

even_Caught : {x : Marks} {a b : Option Expr} {ts : List Token} → Caught x a b ts → AllKept ts →
    Even (expr_or a ++ led_or (k.Keyword keyword.AS) b)
even_Caught (S.Caught.all _) a = even_nil
even_Caught (S.Caught.test h) a = even2 (phrase_Is h a).even even_nil
even_Caught (S.Caught.named _ {ts = ts} h g) a =
    even2 (phrase_Is h (kept_front ts _ a)).even (even_as_word (phrase_Target g (kept_after ts _ a).1))
even_Caught (S.Caught.comma _ {ts = ts} h g) a =
    even2 (phrase_Is h (kept_front ts _ a)).even (even_as_word (phrase_Target g (kept_after ts _ a).1))

-- ---- what may follow

-- no simple statement before line c comes first
abbrev NotBefore : ℕ → List Piece → Type 0
NotBefore c [] = Unit {0}
NotBefore c (n.Simple next ws ∷ ps) = c ≤ next
NotBefore c (n.Compound ls ∷ ps) = Unit {0}

differ : (l m : ℕ) → l < m → (l == m) ≡ false
differ l m h = go (l == m) refl
  where
    go : (p : Bool) → (l == m) ≡ p → (l == m) ≡ false
    go true e = let same : l ≡ m = eqb-true l m e in absurd (omega arith)
    go false e = e

ends_line : (c l : ℕ) (ps : List Piece) → l < c → NotBefore c ps → ending false l ps ≡ newline
ends_line c l [] h g = refl
ends_line c l (n.Simple next ws ∷ ps) h g = let lt : l < next = omega arith in
    ap (λ (z : Bool). if z then on l (k.Op operator.SEMICOLON ∷ []) else newline) (differ l next lt)
ends_line c l (n.Compound ls ∷ ps) h g = refl

begins_later : (c l : ℕ) (ps : List Piece) → l < c → NotBefore c ps → begins_on l ps ≡ false
begins_later c l [] h g = refl
begins_later c l (n.Simple next ws ∷ ps) h g = let lt : l < next = omega arith in differ l next lt
begins_later c l (n.Compound ls ∷ ps) h g = refl

-- what follows a statement inside so many blocks, from line c on: statements, and what follows them
abbrev Follow : ℕ → ℕ → List Piece → List Lexeme → Type 0
Follow c depth qs tail = NotBefore c qs × Ready depth c (in_order false qs ++ tail)

after_line : (c depth : ℕ) (qs : List Piece) (tail : List Lexeme) → Follow c depth qs tail → After false c depth qs tail
after_line c depth qs tail f = (λ l h. ends_line c l qs h f.0, λ j h. f.1 j Start h tt)

less_one : (n : ℕ) → n ≡ n + 1 - 1
less_one n = omega arith

dedent_ready : (depth c : ℕ) (rest : List Lexeme) → Ready depth c rest → Ready (depth + 1) c (lexeme k.Dedent 0 ∷ rest)
dedent_ready depth c rest f = λ j s h m.
    (m, omega arith, subst (λ d. IsLaid j d Dedented rest) (less_one depth) (f j Dedented h tt), refl)

pieces_append : (as' bs : List Stmt) → pieces as' ++ pieces bs ≡ pieces (as' ++ bs)
pieces_append [] bs = refl
pieces_append (a ∷ as') bs = ap (λ z. piece a ∷ z) (pieces_append as' bs)

-- ---- blocks

-- a block, on its clause's line or not
block_cases : (l depth : ℕ) (ps : List Piece) (rest : List Lexeme) →
    (begins_on l ps ≡ true → IsLaid l depth (Within 0) (in_order true ps ++ rest)) →
    (begins_on l ps ≡ false → IsLaid (l + 1) (depth + 1) Indented (in_order false ps ++ (lexeme k.Dedent 0 ∷ rest))) →
    IsLaid l depth (Within 0) (block_lexemes l ps ++ rest)
block_cases l depth ps rest short long = go (begins_on l ps) refl
  where
    go : (p : Bool) → begins_on l ps ≡ p → IsLaid l depth (Within 0) (block_lexemes l ps ++ rest)
    go true e = subst (λ (z : Bool). IsLaid l depth (Within 0)
        ((if z then in_order true ps else (newline ++ lexeme k.Indent 0 ∷ in_order false ps ++ lexeme k.Dedent 0 ∷ []))
        ++ rest)) (sym e) (short e)
    go false e = subst (λ (z : Bool). IsLaid l depth (Within 0)
        ((if z then in_order true ps else (newline ++ lexeme k.Indent 0 ∷ in_order false ps ++ lexeme k.Dedent 0 ∷ []))
        ++ rest)) (sym e) (
          refl,
          (
            refl,
            subst (IsLaid (l + 1) (depth + 1) Indented)
                (sym (append_assoc (in_order false ps) (lexeme k.Dedent 0 ∷ []) rest)) (long e),
            refl,
          ),
          refl,
        )

short_block : {x : Marks} {as' : List Stmt} {ts : List Token} → Line x as' ts → AllKept ts →
    (l depth : ℕ) (rest : List Lexeme) (us : List Token) → IsLined l (ts ++ us) →
    ((c : ℕ) → IsLined c us → Ready depth c rest) → IsLaid l depth (Within 0) (block_lexemes l (pieces as') ++ rest)
short_block {as' = as'} {ts = ts} h keep l depth rest us g f =
    let begin = line_begins h keep in
    let two = lined_start ts us l (starts_Line h) g in
    let low : l ≤ line_of ts = two.0 in
    let same : begins_on l (pieces as') ≡ (l == line_of ts) = ap (begins_on l) begin.is in
    block_cases l depth (pieces as') rest
    (λ e. subst (λ z. IsLaid l depth (Within 0) (in_order true z ++ rest)) (append-nil (pieces as'))
    (line_laid h keep true [] rest us l depth g (λ c m. (λ i lt. refl, λ j le. f c m j Start le tt)) l (Within 0)
    refl low))
    (λ e. let other : l ≡ line_of ts → ⊥ = eqb-false l (line_of ts) (sym same ∙ e) in
    let up : l + 1 ≤ line_of ts = omega arith in
    subst (λ z. IsLaid (l + 1) (depth + 1) Indented (in_order false z ++ (lexeme k.Dedent 0 ∷ rest)))
    (append-nil (pieces as')) (line_laid h keep false [] (lexeme k.Dedent 0 ∷ rest) us l (depth + 1) g
    (λ c m. (λ i lt. refl, λ j le. dedent_ready depth c rest (f c m) j Start le tt)) (l + 1) Indented refl up))

-- ---- the first token and the first piece

starts_Compound : {x : Marks} {a : Stmt} {ts : List Token} → Compound x a ts → Starts ts
starts_Compound (S.Compound.if' _ _ _ _ _ _) = tt
starts_Compound (S.Compound.while _ _ _ _ _) = tt
starts_Compound (S.Compound.for' _ _ _ _ _ _ _) = tt
starts_Compound (S.Compound.try _ _ _ _ _ _) = tt
starts_Compound (S.Compound.try_finally _ _ _ _) = tt
starts_Compound (S.Compound.def _ _ _ _ _ _ _ _) = tt
starts_Compound (S.Compound.class _ _ _ _ _ _) = tt

starts_Statement : {x : Marks} {as' : List Stmt} {ts : List Token} → Statement x as' ts → Starts ts
starts_Statement (S.Statement.line h) = starts_Line h
starts_Statement (S.Statement.compound h) = starts_Compound h
starts_Statement (S.Statement.decorated _) = tt
starts_Statement (S.Statement.with' _) = tt

starts_Suite : {x : Marks} {as' : List Stmt} {ts : List Token} → Suite x as' ts → Starts ts
starts_Suite (S.Suite.last_of h) = starts_Statement h
starts_Suite (S.Suite.then {ts = ts} {us = us} h _) = starts_append ts us (starts_Statement h)

not_compound : (c : ℕ) (p : Piece) (ls : List Lexeme) (qs : List Piece) → p ≡ n.Compound ls → NotBefore c (p ∷ qs)
not_compound c p ls qs e = subst (λ z. NotBefore c (z ∷ qs)) (sym e) tt

compound_not_before : {x : Marks} {a : Stmt} {ts : List Token} → Compound x a ts → (qs : List Piece) (c : ℕ) →
    NotBefore c (piece a ∷ qs)
compound_not_before (S.Compound.if' p _ {a = e} {as' = ss} {rs = rs} {d = d} _ _ _ _) qs c =
    not_compound c _ _ qs (piece_if (record { line = p.line; test = e; body = ss } ∷ rs) d)
compound_not_before (S.Compound.while p _ {a = e} {as' = ss} {d = d} _ _ _) qs c =
    not_compound c _ _ qs (piece_while (record { line = p.line; test = e; body = ss }) d)
compound_not_before (S.Compound.for' p _ _ {a = t} {b = e} {as' = ss} {d = d} _ _ _ _) qs c =
    not_compound c _ _ qs (piece_for p.line t e ss d)
compound_not_before (S.Compound.try p _ {as' = ss} {hs = hs} {d = d} {f = f} _ _ _ _) qs c =
    not_compound c _ _ qs (piece_try (record { line = p.line; body = ss }) hs d f)
compound_not_before (S.Compound.try_finally p _ {as' = ss} {f = f} _ _) qs c =
    not_compound c _ _ qs (piece_try (record { line = p.line; body = ss }) [] None (Some f))
compound_not_before (S.Compound.def m p _ _ _ _ {ps = ps} {as' = ss} _ _) qs c =
    not_compound c _ _ qs (piece_def p.line m ps ss)
compound_not_before (S.Compound.class m p _ _ {a = a} {as' = ss} _ _) qs c =
    not_compound c _ _ qs (piece_class p.line m a ss)

statement_not_before : {as' : List Stmt} {ts : List Token} → Statement None as' ts → AllKept ts →
    (qs : List Piece) (c : ℕ) → c ≤ line_of ts → NotBefore c (pieces as' ++ qs)
statement_not_before (S.Statement.line h) keep qs c le = let begin = line_begins h keep in
    subst (λ z. NotBefore c (z ++ qs)) (sym begin.is) le
statement_not_before (S.Statement.compound h) keep qs c le = compound_not_before h qs c

suite_not_before : {as' : List Stmt} {ts : List Token} → Suite None as' ts → AllKept ts → (c : ℕ) → c ≤ line_of ts →
    NotBefore c (pieces as')
suite_not_before (S.Suite.last_of {as' = as'} h) keep c le =
    subst (NotBefore c) (append-nil (pieces as')) (statement_not_before h keep [] c le)
suite_not_before (S.Suite.then {as' = as'} {bs = bs} {ts = ts} {us = us} h g) keep c le =
    subst (NotBefore c) (pieces_append as' bs)
    (statement_not_before h (kept_front ts us keep) (pieces bs) c
    (subst (λ m. c ≤ m) (line_append ts us (starts_Statement h)) le))

of_compound : (p : Piece) (ls : List Lexeme) (qs : List Piece) (tail : List Lexeme) (j depth : ℕ) (s : Stand) →
    p ≡ n.Compound ls → IsLaid j depth s (ls ++ (in_order false qs ++ tail)) →
    IsLaid j depth s (in_order false (p ∷ qs) ++ tail)
of_compound p ls qs tail j depth s e r = subst (λ z. IsLaid j depth s (in_order false (z ∷ qs) ++ tail)) (sym e)
    (subst (IsLaid j depth s) (sym (append_assoc ls (in_order false qs) tail)) r)

-- tokens after a clause's head
block_lined : (ts : List Token) (t : Token) (us more : List Token) (a : ℕ) → IsLined a ((ts ++ t ∷ us) ++ more) →
    IsLined a (us ++ more)
block_lined ts t us more a g = lined_tail t (us ++ more) a
    (lined_after ts (t ∷ us ++ more) a (subst (IsLined a) (append_assoc ts (t ∷ us) more) g))

lined_out : (ts us more : List Token) (a : ℕ) → IsLined a ((ts ++ us) ++ more) → IsLined a (ts ++ (us ++ more))
lined_out ts us more a g = subst (IsLined a) (append_assoc ts us more) g

le2 : (a b c : ℕ) → a ≤ b → b ≤ c → a ≤ c
le2 a b c h g = omega arith

keyword_phrase : (w : ℕ) {ws : Words} → has_number keywords w ≡ true → Even ws → Phrase (k.Keyword w ∷ ws)
keyword_phrase w h e = phrase_cons (k.Keyword w) h (λ m. refl) e

-- a clause, and what follows it
abbrev clause_words : Words → ℕ → List Stmt → List Lexeme
clause_words ws line ss = head line ws ++ block_lexemes line (pieces ss)

mutual
  block_laid : {ss : List Stmt} {ts : List Token} → Block None ss ts → AllKept ts →
      (l depth : ℕ) (rest : List Lexeme) (more : List Token) → IsLined l (ts ++ more) →
      ((c : ℕ) → IsLined c more → Ready depth c rest) → IsLaid l depth (Within 0) (block_lexemes l (pieces ss) ++ rest)
  block_laid (S.Block.short h) keep l depth rest more g f = short_block h keep l depth rest more g f
  block_laid (S.Block.long p q r {as' = ss} {ts = ts} h) keep l depth rest more g f =
      let kept = kept_front ts (at k.Dedent r ∷ []) keep.1.1 in
      let low : l ≤ p.line = g.0 in
      let tokens = lined_out ts (at k.Dedent r ∷ []) more (p.line + 1) g.1 in
      let two = lined_start ts (at k.Dedent r ∷ more) (p.line + 1) (starts_Suite h) tokens in
      let first : p.line + 1 ≤ line_of ts = two.0 in
      let up : l + 1 ≤ line_of ts = omega arith in
      let lt : l < p.line + 1 = omega arith in
      block_cases l depth (pieces ss) rest
      (λ e. absurd (let no = begins_later (p.line + 1) l (pieces ss) lt (suite_not_before h kept (p.line + 1) first) in
      cc))
      (λ e. suite_laid h kept (lexeme k.Dedent 0 ∷ rest) (at k.Dedent r ∷ more) (p.line + 1) (depth + 1) tokens
      (λ c m. dedent_ready depth c rest (f c m)) (l + 1) Indented refl up)

  suite_laid : {ss : List Stmt} {ts : List Token} → Suite None ss ts → AllKept ts →
      (tail : List Lexeme) (more : List Token) (a depth : ℕ) → IsLined a (ts ++ more) →
      ((c : ℕ) → IsLined c more → Ready depth c tail) → (j : ℕ) (s : Stand) → brackets s ≡ 0 → j ≤ line_of ts →
      IsLaid j depth s (in_order false (pieces ss) ++ tail)
  suite_laid (S.Suite.last_of {as' = ss} h) keep tail more a depth g f j s b le =
      subst (λ z. IsLaid j depth s (in_order false z ++ tail)) (append-nil (pieces ss))
      (statement_laid h keep [] tail more a depth g (λ c m. (tt, f c m)) j s b le)
  suite_laid (S.Suite.then {as' = ss} {bs = rs} {ts = ts} {us = us} h hs) keep tail more a depth g f j s b le =
      let first = starts_Statement h in
      let kept = kept_after ts us keep in
      subst (λ z. IsLaid j depth s (in_order false z ++ tail)) (pieces_append ss rs)
      (statement_laid h (kept_front ts us keep) (pieces rs) tail (us ++ more) a depth (lined_out ts us more a g)
      (λ c m. let low = (lined_start us more c (starts_Suite hs) m).0 in (
        suite_not_before hs kept c low,
        λ i t h may. suite_laid hs kept tail more c depth m f i t (close_brackets t may)
            (le2 i c (line_of us) h low),
      ))
      j s b (subst (λ m. j ≤ m) (line_append ts us first) le))

  statement_laid : {ss : List Stmt} {ts : List Token} → Statement None ss ts → AllKept ts →
      (qs : List Piece) (tail : List Lexeme) (more : List Token) (a depth : ℕ) → IsLined a (ts ++ more) →
      ((c : ℕ) → IsLined c more → Follow c depth qs tail) → (j : ℕ) (s : Stand) → brackets s ≡ 0 → j ≤ line_of ts →
      IsLaid j depth s (in_order false (pieces ss ++ qs) ++ tail)
  statement_laid (S.Statement.line h) keep qs tail more a depth g f j s b le =
      line_laid h keep false qs tail more a depth g (λ c m. after_line c depth qs tail (f c m)) j s b le
  statement_laid (S.Statement.compound h) keep qs tail more a depth g f j s b le =
      compound_laid h keep qs tail more a depth g (λ c m. (f c m).1) j s b le

  elifs_laid : {rs : List Arm} {ts : List Token} → Elifs None rs ts → AllKept ts →
      (a depth : ℕ) (rest : List Lexeme) (more : List Token) → IsLined a (ts ++ more) →
      ((c : ℕ) → IsLined c more → Ready depth c rest) → Ready depth a (lexemes_arms (k.Keyword keyword.ELIF) rs ++ rest)
  elifs_laid (S.Elifs.no_elif _) keep a depth rest more g f = f a g
  elifs_laid (S.Elifs.elif p q {a = e} {as' = ss} {rs = rs} {ts = ts} {us = us} {vs = vs} h b r) keep a depth rest more
      g f = λ j s le m.
      let one = kept_front (ts ++ at code.colon q ∷ us) vs keep.1 in
      subst (IsLaid j depth s) (sym (append_assoc (clause_words (k.Keyword keyword.ELIF ∷ words e) p.line ss)
      (lexemes_arms (k.Keyword keyword.ELIF) rs) rest))
      (clause_laid (k.Keyword keyword.ELIF ∷ words e) p.line j depth s (block_lexemes p.line (pieces ss))
      (lexemes_arms (k.Keyword keyword.ELIF) rs ++ rest)
      (keyword_phrase keyword.ELIF refl (phrase_Is h (kept_front ts _ one)).even) (close_brackets s m)
      (le2 j a p.line le g.0)
      (block_laid b (kept_after ts _ one).1 p.line depth (lexemes_arms (k.Keyword keyword.ELIF) rs ++ rest)
      (vs ++ more) (block_lined ts (at code.colon q) us (vs ++ more) p.line
      (lined_out (ts ++ at code.colon q ∷ us) vs more p.line g.1))
      (λ c m. elifs_laid r (kept_after (ts ++ at code.colon q ∷ us) vs keep.1) c depth rest more m f)))

  else_laid : {d : Option Clause} {ts : List Token} → Else None d ts → AllKept ts →
      (a depth : ℕ) (rest : List Lexeme) (more : List Token) → IsLined a (ts ++ more) →
      ((c : ℕ) → IsLined c more → Ready depth c rest) →
      Ready depth a (lexemes_clause_or (k.Keyword keyword.ELSE) d ++ rest)
  else_laid (S.Else.no_else _) keep a depth rest more g f = f a g
  else_laid (S.Else.else' p q {as' = ss} {ts = ts} b) keep a depth rest more g f = λ j s le m.
      clause_laid (k.Keyword keyword.ELSE ∷ []) p.line j depth s (block_lexemes p.line (pieces ss)) rest
      (keyword_phrase keyword.ELSE refl even_nil) (close_brackets s m) (le2 j a p.line le g.0)
      (block_laid b keep.1.1 p.line depth rest more (block_lined [] (at code.colon q) ts more p.line g.1) f)

  finally_laid : {d : Option Clause} {ts : List Token} → Finally None d ts → AllKept ts →
      (a depth : ℕ) (rest : List Lexeme) (more : List Token) → IsLined a (ts ++ more) →
      ((c : ℕ) → IsLined c more → Ready depth c rest) →
      Ready depth a (lexemes_clause_or (k.Keyword keyword.FINALLY) d ++ rest)
  finally_laid (S.Finally.no_finally _) keep a depth rest more g f = f a g
  finally_laid (S.Finally.finally p q {as' = ss} {ts = ts} b) keep a depth rest more g f = λ j s le m.
      clause_laid (k.Keyword keyword.FINALLY ∷ []) p.line j depth s (block_lexemes p.line (pieces ss)) rest
      (keyword_phrase keyword.FINALLY refl even_nil) (close_brackets s m) (le2 j a p.line le g.0)
      (block_laid b keep.1.1 p.line depth rest more (block_lined [] (at code.colon q) ts more p.line g.1) f)

  excepts_laid : {hs : List Handler} {ts : List Token} → Excepts None hs ts → AllKept ts →
      (a depth : ℕ) (rest : List Lexeme) (more : List Token) → IsLined a (ts ++ more) →
      ((c : ℕ) → IsLined c more → Ready depth c rest) → Ready depth a (lexemes_handlers hs ++ rest)
  excepts_laid (S.Excepts.except_one p q {a = e} {b = t} {as' = ss} {ts = ts} {us = us} h b) keep a depth rest more g
      f = λ j s le m.
      let ws = k.Keyword keyword.EXCEPT ∷ expr_or e ++ led_or (k.Keyword keyword.AS) t in
      subst (IsLaid j depth s) (sym (append_assoc (clause_words ws p.line ss) [] rest))
      (clause_laid ws p.line j depth s (block_lexemes p.line (pieces ss)) rest
      (keyword_phrase keyword.EXCEPT refl (even_Caught h (kept_front ts _ keep.1))) (close_brackets s m)
      (le2 j a p.line le g.0)
      (block_laid b (kept_after ts _ keep.1).1 p.line depth rest more
      (block_lined ts (at code.colon q) us more p.line g.1) f))
  excepts_laid (S.Excepts.except_more p q {a = e} {b = t} {as' = ss} {hs = hs} {ts = ts} {us = us} {vs = vs} h b r)
      keep a depth rest more g f = λ j s le m.
      let ws = k.Keyword keyword.EXCEPT ∷ expr_or (Some e) ++ led_or (k.Keyword keyword.AS) t in
      let one = kept_front (ts ++ at code.colon q ∷ us) vs keep.1 in
      subst (IsLaid j depth s) (sym (append_assoc (clause_words ws p.line ss) (lexemes_handlers hs) rest))
      (clause_laid ws p.line j depth s (block_lexemes p.line (pieces ss)) (lexemes_handlers hs ++ rest)
      (keyword_phrase keyword.EXCEPT refl (even_Caught h (kept_front ts _ one))) (close_brackets s m)
      (le2 j a p.line le g.0)
      (block_laid b (kept_after ts _ one).1 p.line depth (lexemes_handlers hs ++ rest) (vs ++ more)
      (block_lined ts (at code.colon q) us (vs ++ more) p.line
      (lined_out (ts ++ at code.colon q ∷ us) vs more p.line g.1))
      (λ c m. excepts_laid r (kept_after (ts ++ at code.colon q ∷ us) vs keep.1) c depth rest more m f)))

  compound_laid : {a : Stmt} {ts : List Token} → Compound None a ts → AllKept ts →
      (qs : List Piece) (tail : List Lexeme) (more : List Token) (a' depth : ℕ) → IsLined a' (ts ++ more) →
      ((c : ℕ) → IsLined c more → Ready depth c (in_order false qs ++ tail)) → (j : ℕ) (s : Stand) → brackets s ≡ 0 →
      j ≤ line_of ts → IsLaid j depth s (in_order false (piece a ∷ qs) ++ tail)
  compound_laid (S.Compound.if' p q {a = e} {as' = ss} {rs = rs} {d = d} {ts = ts} {us = us} {vs = vs} {ws = ws} h b r
      l) keep qs tail more a depth g f j s br le =
      let rest = in_order false qs ++ tail in
      let elses = lexemes_clause_or (k.Keyword keyword.ELSE) d in
      let arms = lexemes_arms (k.Keyword keyword.ELIF) rs in
      let one = kept_front ((ts ++ at code.colon q ∷ us) ++ vs) ws keep.1 in
      let two = kept_front (ts ++ at code.colon q ∷ us) vs one in
      let tokens = lined_out (ts ++ at code.colon q ∷ us) vs (ws ++ more) p.line
      (lined_out ((ts ++ at code.colon q ∷ us) ++ vs) ws more p.line g.1) in
      of_compound _ _ qs tail j depth s (piece_if (record { line = p.line; test = e; body = ss } ∷ rs) d)
      (subst (IsLaid j depth s) (sym (regroup (clause_words (k.Keyword keyword.IF ∷ words e) p.line ss) arms elses
      rest))
      (clause_laid (k.Keyword keyword.IF ∷ words e) p.line j depth s (block_lexemes p.line (pieces ss))
      (arms ++ (elses ++ rest))
      (keyword_phrase keyword.IF refl (phrase_Is h (kept_front ts _ two)).even) br le
      (block_laid b (kept_after ts _ two).1 p.line depth (arms ++ (elses ++ rest)) (vs ++ (ws ++ more))
      (block_lined ts (at code.colon q) us (vs ++ (ws ++ more)) p.line tokens)
      (λ c m. elifs_laid r (kept_after (ts ++ at code.colon q ∷ us) vs one) c depth (elses ++ rest) (ws ++ more) m
      (λ c m. else_laid l (kept_after ((ts ++ at code.colon q ∷ us) ++ vs) ws keep.1) c depth rest more m f)))))
  compound_laid (S.Compound.while p q {a = e} {as' = ss} {d = d} {ts = ts} {us = us} {vs = vs} h b l) keep qs tail more
      a depth g f j s br le =
      let rest = in_order false qs ++ tail in
      let elses = lexemes_clause_or (k.Keyword keyword.ELSE) d in
      let one = kept_front (ts ++ at code.colon q ∷ us) vs keep.1 in
      of_compound _ _ qs tail j depth s (piece_while (record { line = p.line; test = e; body = ss }) d)
      (subst (IsLaid j depth s) (sym (append_assoc (clause_words (k.Keyword keyword.WHILE ∷ words e) p.line ss) elses
      rest))
      (clause_laid (k.Keyword keyword.WHILE ∷ words e) p.line j depth s (block_lexemes p.line (pieces ss))
      (elses ++ rest)
      (keyword_phrase keyword.WHILE refl (phrase_Is h (kept_front ts _ one)).even) br le
      (block_laid b (kept_after ts _ one).1 p.line depth (elses ++ rest) (vs ++ more)
      (block_lined ts (at code.colon q) us (vs ++ more) p.line
      (lined_out (ts ++ at code.colon q ∷ us) vs more p.line g.1))
      (λ c m. else_laid l (kept_after (ts ++ at code.colon q ∷ us) vs keep.1) c depth rest more m f))))
  compound_laid (S.Compound.for' p q r {a = t} {b = e} {as' = ss} {d = d} {ts = ts} {us = us} {vs = vs} {ws = ws} h i b
      l) keep qs tail more a depth g f j s br le =
      let rest = in_order false qs ++ tail in
      let elses = lexemes_clause_or (k.Keyword keyword.ELSE) d in
      let head' = k.Keyword keyword.FOR ∷ words t ++ k.Keyword keyword.IN ∷ words e in
      let one = kept_front ((ts ++ at code.in_ q ∷ us) ++ at code.colon r ∷ vs) ws keep.1 in
      let two = kept_front (ts ++ at code.in_ q ∷ us) (at code.colon r ∷ vs) one in
      of_compound _ _ qs tail j depth s (piece_for p.line t e ss d)
      (subst (IsLaid j depth s) (sym (append_assoc (clause_words head' p.line ss) elses rest))
      (clause_laid head' p.line j depth s (block_lexemes p.line (pieces ss)) (elses ++ rest)
      (keyword_phrase keyword.FOR refl (even2 (phrase_Loops h (kept_front ts _ two)).even
      (even_cons (k.Keyword keyword.IN) refl (λ m. refl) (phrase_Exprs i (kept_after ts _ two).1).even))) br le
      (block_laid b (kept_after (ts ++ at code.in_ q ∷ us) (at code.colon r ∷ vs) one).1 p.line depth (elses ++ rest)
      (ws ++ more) (block_lined (ts ++ at code.in_ q ∷ us) (at code.colon r) vs (ws ++ more) p.line
      (lined_out ((ts ++ at code.in_ q ∷ us) ++ at code.colon r ∷ vs) ws more p.line g.1))
      (λ c m. else_laid l (kept_after ((ts ++ at code.in_ q ∷ us) ++ at code.colon r ∷ vs) ws keep.1) c depth rest more
      m f))))
  compound_laid (S.Compound.try p q {as' = ss} {hs = hs} {d = d} {f = fin} {ts = ts} {us = us} {vs = vs} {ws = ws} b x
      l y) keep qs tail more a depth g f j s br le =
      let rest = in_order false qs ++ tail in
      let handlers = lexemes_handlers hs in
      let elses = lexemes_clause_or (k.Keyword keyword.ELSE) d in
      let last = lexemes_clause_or (k.Keyword keyword.FINALLY) fin in
      let first = clause_words (k.Keyword keyword.TRY ∷ []) p.line ss in
      let one = kept_front ((ts ++ us) ++ vs) ws keep.1.1 in
      let two = kept_front (ts ++ us) vs one in
      let colon = lined_tail (at code.colon q) ((((ts ++ us) ++ vs) ++ ws) ++ more) p.line g.1 in
      let tokens = lined_out ts us (vs ++ (ws ++ more)) p.line
      (lined_out (ts ++ us) vs (ws ++ more) p.line (lined_out ((ts ++ us) ++ vs) ws more p.line colon)) in
      of_compound _ _ qs tail j depth s (piece_try (record { line = p.line; body = ss }) hs d fin)
      (subst (IsLaid j depth s) (sym (append_assoc ((first ++ handlers) ++ elses) last rest ∙
      regroup first handlers elses (last ++ rest)))
      (clause_laid (k.Keyword keyword.TRY ∷ []) p.line j depth s (block_lexemes p.line (pieces ss))
      (handlers ++ (elses ++ (last ++ rest)))
      (keyword_phrase keyword.TRY refl even_nil) br le
      (block_laid b (kept_front ts us two) p.line depth (handlers ++ (elses ++ (last ++ rest)))
      (us ++ (vs ++ (ws ++ more))) tokens
      (λ c m. excepts_laid x (kept_after ts us two) c depth (elses ++ (last ++ rest)) (vs ++ (ws ++ more)) m
      (λ c m. else_laid l (kept_after (ts ++ us) vs one) c depth (last ++ rest) (ws ++ more) m
      (λ c m. finally_laid y (kept_after ((ts ++ us) ++ vs) ws keep.1.1) c depth rest more m f))))))
  compound_laid (S.Compound.try_finally p q {as' = ss} {f = fin} {ts = ts} {us = us} b y) keep qs tail more a depth g f
      j s br le =
      let rest = in_order false qs ++ tail in
      let last = lexemes_clause_or (k.Keyword keyword.FINALLY) (Some fin) in
      let first = clause_words (k.Keyword keyword.TRY ∷ []) p.line ss in
      let colon = lined_tail (at code.colon q) ((ts ++ us) ++ more) p.line g.1 in
      of_compound _ _ qs tail j depth s (piece_try (record { line = p.line; body = ss }) [] None (Some fin))
      (subst (IsLaid j depth s) (sym (append_assoc ((first ++ []) ++ []) last rest ∙
      regroup first [] [] (last ++ rest)))
      (clause_laid (k.Keyword keyword.TRY ∷ []) p.line j depth s (block_lexemes p.line (pieces ss)) (last ++ rest)
      (keyword_phrase keyword.TRY refl even_nil) br le
      (block_laid b (kept_front ts us keep.1.1) p.line depth (last ++ rest) (us ++ more)
      (lined_out ts us more p.line colon)
      (λ c m. finally_laid y (kept_after ts us keep.1.1) c depth rest more m f))))
  compound_laid (S.Compound.def m p q r r' q' {ps = ps} {as' = ss} {ts = ts} {us = us} h b) keep qs tail more a depth g
      f j s br le =
      let rest = in_order false qs ++ tail in
      let kept = keep.1.1.1 in
      let rest-tokens = (ts ++ at code.close_round r' ∷ at code.colon q' ∷ us) ++ more in
      let inner = lined_tail (at code.open_round r) rest-tokens p.line
      (lined_tail (at (k.Name m) q) (at code.open_round r ∷ rest-tokens) p.line g.1) in
      of_compound _ _ qs tail j depth s (piece_def p.line m ps ss)
      (clause_laid (k.Keyword keyword.DEF ∷ k.Name m ∷ round (commas (map param_words ps))) p.line j depth s
      (block_lexemes p.line (pieces ss)) rest
      (keyword_phrase keyword.DEF refl (even_cons (k.Name m) keep.1.0 (λ n. refl)
      (phrase_round (even_commas (map param_words ps) (evens_Params h (kept_front ts _ kept)))).even)) br le
      (block_laid b (kept_after ts _ kept).1.1 p.line depth rest more
      (lined_tail (at code.colon q') (us ++ more) p.line
      (block_lined ts (at code.close_round r') (at code.colon q' ∷ us) more p.line inner)) f))
  compound_laid (S.Compound.class m p q r {a = t} {as' = ss} {ts = ts} {us = us} h b) keep qs tail more a depth g f j s
      br le =
      let rest = in_order false qs ++ tail in
      let kept = keep.1.1 in
      of_compound _ _ qs tail j depth s (piece_class p.line m t ss)
      (clause_laid (k.Keyword keyword.CLASS ∷ k.Name m ∷ base_words t) p.line j depth s
      (block_lexemes p.line (pieces ss)) rest
      (keyword_phrase keyword.CLASS refl
      (even_cons (k.Name m) keep.1.0 (λ n. refl) (even_Base h (kept_front ts _ kept)))) br le
      (block_laid b (kept_after ts _ kept).1 p.line depth rest more
      (block_lined ts (at code.colon r) us more p.line
      (lined_tail (at (k.Name m) q) ((ts ++ at code.colon r ∷ us) ++ more) p.line g.1)) f))

-- ---- modules

body_laid : {ss : List Stmt} {ts : List Token} → Body None ss ts → AllKept ts → (a : ℕ) → IsLined a ts →
    Follow a 0 (pieces ss) (lexeme k.End 0 ∷ [])
body_laid (S.Body.end _ p) keep a g = (tt, λ j s le m. (m, refl, refl, refl))
body_laid (S.Body.newline p {ts = ts} h) keep a g = let low : a ≤ p.line = g.0 in let up : a ≤ p.line + 1 =
    omega arith in body_laid h keep.1 a (lined_le ts a (p.line + 1) up g.1)
body_laid (S.Body.more {as' = ss} {bs = rs} {ts = ts} {us = us} h hs) keep a g =
    let low = (lined_start ts us a (starts_Statement h) g).0 in
    let kept = kept_front ts us keep in (
      subst (NotBefore a) (pieces_append ss rs) (statement_not_before h kept (pieces rs) a low),
      λ j s le m. subst (λ z. IsLaid j 0 s (in_order false z ++ lexeme k.End 0 ∷ [])) (pieces_append ss rs)
          (statement_laid h kept (pieces rs) (lexeme k.End 0 ∷ []) us a 0 g
          (λ c m. body_laid hs (kept_after ts us keep) c m) j s (close_brackets s m) (le2 j a (line_of ts) le low)),
    )

-- the lexemes of a text's module are laid out
pub lexemes_laid : (text : List ℕ) (ts : List Token) (m : Module) → Bytes text → tokens_of_text text ≡ Ok ts →
    IsModule m ts → IsLaid 1 0 Start (lexemes m)
lexemes_laid text ts m b e h = let same : 1 ≤ 1 = omega arith in
    (body_laid h (kept_text text ts b e) 1 (lined_text text ts b e)).1 1 Start same tt
