-- The mirror of the code: nothing public rests on it.
-- Reading expressions from left to right, with the first refusal that is met: what the code computes, as a function on
-- lists.
-- `Grammar` says what it means; `docs/LANGUAGE.md`, "Grammar", "Height" and "What is left out".
use Rattle.std.specs.Prelude.{ℕ, zero, suc, ◌+◌, List, [], ◌∷◌, ◌++◌, Result, Ok, Err, nat_lt, nat_le, ◌==◌, ◌&&◌, ◌||◌, if◌then◌else◌, Bool, true, false, Option, Some, None}
use Rattle.py_tokens.specs.declared.token.Token.{Token}
use Rattle.py_tokens.specs.declared.token.Other.TheVariants as other
use Rattle.py_tokens.specs.declared.token.TokenKind.{TokenKind}
use Rattle.py_tokens.specs.declared.token.TokenKind.TheVariants as k
use Rattle.py_tree.specs.declared.form.Form.{Form}
use Rattle.py_tree.specs.declared.form.Form.TheVariants.{Bare}
use Rattle.py_grammar.specs.declared.rung.Rung.{Rung}
use Rattle.py_grammar.specs.declared.rung.Rung.TheVariants.{Trailed, Powered, Signed, Chained, Negated, Chosen, Listed}
use Rattle.py_grammar.specs.declared.tall.Tall.{Tall}
use Rattle.py_grammar.specs.inner.Tall.{plain, push, none, start, push_link, push_pair, push_named, push_trailer, of_name, of_int, of_string, of_group, unit, of_tuple, of_list, of_dict, of_trail, of_power, of_sign, of_chain, of_not, of_choice, of_attribute, of_index, of_slice, of_call}
use Rattle.py_tree.specs.declared.expr.Expr.{Expr}
use Rattle.py_tree.specs.declared.expr.Link.{Link}
use Rattle.py_tree.specs.declared.expr.Pair.{Pair}
use Rattle.py_tree.specs.declared.expr.Trailer.{Trailer}
use Rattle.py_tree.specs.declared.expr.Named.{Named}
use Rattle.py_tree.specs.declared.expr.Level.{Level}
use Rattle.py_tree.specs.declared.expr.Level.TheVariants as level
use Rattle.py_tree.specs.declared.expr.Operator.{Operator}
use Rattle.py_tree.specs.declared.expr.Operator.TheVariants as op
use Rattle.py_tree.specs.declared.expr.Sign.{Sign}
use Rattle.py_tree.specs.declared.expr.Sign.TheVariants as sign
use Rattle.py_grammar.specs.Words.{below}
use Rattle.py_base.specs.declared.refusal.Construct.{Construct}
use Rattle.py_base.specs.declared.refusal.Construct.TheVariants as left
use Rattle.py_grammar.specs.declared.fault.Fault.{Fault}
use Rattle.py_grammar.specs.declared.fault.Fault.TheVariants.{Unexpected, LeftOut, Deep}

-- a value and the tokens after it, or why and where it stops
abbrev pub Reads : Type 0 → Type 0
Reads A = Result (A × List Token) (Fault × List Token)

infixl 10 ◌>>=◌
abbrev pub ◌>>=◌ : {A B : Type 0} → Reads A → (A × List Token → Reads B) → Reads B
(Ok x) >>= f = f x
(Err e) >>= f = Err e

abbrev pub Reader : Type 0 → Type 0
Reader A = List Token → Reads A

-- ---- what comes next

-- the kind of the first token; where there is none, that of the end
abbrev pub first : List Token → TokenKind
first [] = k.End
first (t ∷ ts) = t.kind

abbrev pub rest : List Token → List Token
rest [] = []
rest (t ∷ ts) = ts

-- whether a kind is this operator or this keyword
abbrev pub is_op : ℕ → TokenKind → Bool
is_op n (k.Op m) = m == n
is_op n _ = false

abbrev pub is_keyword : ℕ → TokenKind → Bool
is_keyword n (k.Keyword m) = m == n
is_keyword n _ = false

abbrev pub refuse : {A : Type 0} → Fault → Reader A
refuse f ts = Err (f, ts)

-- this operator
unfoldable pub op_at : ℕ → Reader (Unit {0})
op_at n ts = if is_op n (first ts) then Ok (tt, rest ts) else Err (Unexpected, ts)

unfoldable pub keyword_at : ℕ → Reader (Unit {0})
keyword_at n ts = if is_keyword n (first ts) then Ok (tt, rest ts) else Err (Unexpected, ts)

abbrev pub name_of : TokenKind → Option (List ℕ)
name_of (k.Name n) = Some n
name_of _ = None

abbrev pub name_or : Option (List ℕ) → Reader (List ℕ)
name_or (Some n) ts = Ok (n, rest ts)
name_or None ts = Err (Unexpected, ts)

unfoldable pub name_at : Reader (List ℕ)
name_at ts = name_or (name_of (first ts)) ts

abbrev pub is_some : {A : Type 0} → Option A → Bool
is_some (Some o) = true
is_some None = false

-- whether an expression of level n may begin so
abbrev pub starts : ℕ → TokenKind → Bool
starts n (k.Name m) = true
starts n (k.Int i) = true
starts n (k.Str s) = true
starts n (k.Op m) = m == 32 || (m == 34 || (m == 36 || (nat_le 3 n && (m == 21 || (m == 22 || m == 29)))))
starts n (k.Keyword m) = nat_le 11 n && m == 21
starts n _ = false

-- the construct, of those that are left out, that begins so where an expression of level n may begin
abbrev pub left_at : ℕ → TokenKind → Option Construct
left_at n (k.Other other.Float) = Some left.Float
left_at n (k.Other other.Long) = Some left.Long
left_at n (k.Other other.Unicode) = Some left.Unicode
left_at n (k.Op m) = if m == 44 then Some left.Backquote else None
left_at n (k.Keyword m) = if nat_le 14 n && m == 20 then Some left.Lambda else None
left_at n _ = None

-- why none begins here
abbrev pub no_start : Option Construct → Fault
no_start (Some c) = LeftOut c
no_start None = Unexpected

-- whether an expression of level n comes next, or what is left out in its place
abbrev pub comes : ℕ → TokenKind → Bool
comes n kind = starts n kind || is_some (left_at n kind)

-- ---- operators between operands

-- the operator of this level that a token begins; `in` may follow `not`, and `not` may follow `is`
abbrev pub operator_of : Level → TokenKind → Option Operator
operator_of level.Or (k.Keyword m) = if m == 22 then Some op.Or else None
operator_of level.And (k.Keyword m) = if m == 0 then Some op.And else None
operator_of level.Compare (k.Keyword m) =
    if m == 18 then Some op.In else (if m == 21 then Some op.NotIn else (if m == 19 then Some op.Is else None))
operator_of level.Compare (k.Op m) =
    if m == 30 then Some op.Less else (if m == 31 then Some op.Greater else (if m == 10 then Some op.Equal else
    (if m == 9 then Some op.GreaterEqual else
    (if m == 8 then Some op.LessEqual else (if m == 11 then Some op.NotEqual else None)))))
operator_of level.BitOr (k.Op m) = if m == 27 then Some op.BitOr else None
operator_of level.BitXor (k.Op m) = if m == 28 then Some op.BitXor else None
operator_of level.BitAnd (k.Op m) = if m == 26 then Some op.BitAnd else None
operator_of level.Shift (k.Op m) = if m == 6 then Some op.ShiftLeft else (if m == 7 then Some op.ShiftRight else None)
operator_of level.Sum (k.Op m) = if m == 21 then Some op.Plus else (if m == 22 then Some op.Minus else None)
operator_of level.Term (k.Op m) = if m == 23 then Some op.Times else
    (if m == 24 then Some op.Divide else
    (if m == 5 then Some op.Floor else (if m == 25 then Some op.Remainder else None)))
operator_of _ _ = None

-- the rest of an operator after its first token
abbrev pub operator_rest : Operator → Reader Operator
operator_rest op.NotIn ts = keyword_at 18 ts >>= λ x. Ok (op.NotIn, x.1)
operator_rest op.Is ts = if is_keyword 21 (first ts) then Ok (op.IsNot, rest ts) else Ok (op.Is, ts)
operator_rest o ts = Ok (o, ts)

-- ---- expressions

abbrev pub Test : Type 0
Test = Reader (Tall Expr)

-- What reads with a budget one less: an expression of a level; and what a comma after this test begins.
pub record Below : Type 0 where
  pub read : ℕ → Test
  pub after : Tall Expr → Test

-- a string that comes next; nothing, where none does
abbrev pub string_of : TokenKind → Option (List ℕ)
string_of (k.Str s) = Some s
string_of _ = None

abbrev pub is_unicode : TokenKind → Bool
is_unicode (k.Other other.Unicode) = true
is_unicode _ = false

abbrev pub joined : (List ℕ → Reader (List ℕ)) → Option (List ℕ) → List ℕ → Reader (List ℕ)
joined go (Some s) found ts = go (found ++ s) (rest ts)
joined go None found ts = if is_unicode (first ts) then Err (LeftOut left.Unicode, ts) else Ok (found, ts)

-- strings after one that was read; the first number bounds the turns
unfoldable pub strings_at : ℕ → List ℕ → Reader (List ℕ)
strings_at zero found ts = Ok (found, ts)
strings_at (suc g) found ts = joined (strings_at g) (string_of (first ts)) found ts

-- further tests, each after a comma; the truth value says that a comma trails
unfoldable pub tests_at : Test → ℕ → Tall (List Expr) → Reader (Tall (List Expr) × Bool)
tests_at next zero found ts = Ok ((found, false), ts)
tests_at next (suc g) found ts =
    if is_op 38 (first ts) then (if comes 14 (first (rest ts)) then (do
      a ← next (rest ts)
      tests_at next g (push found a.0) a.1) else Ok ((found, true), rest ts)) else Ok ((found, false), ts)

-- after `(` and a test
abbrev pub round_close : Below → ℕ → Tall Expr × List Token → Reads (Tall Expr)
round_close under g a =
    if is_op 33 (first a.1) then Ok (of_group a.0, rest a.1) else
    (if is_op 38 (first a.1) then (do
      es ← tests_at (under.read 14) g (start a.0) a.1
      close ← op_at 33 es.1
      Ok (of_tuple (es.0).0, close.1)) else
    (if is_keyword 13 (first a.1) then Err (LeftOut left.Comprehension, a.1) else Err (Unexpected, a.1)))

-- after `(`
unfoldable pub round_at : Below → ℕ → Test
round_at under g ts =
    if is_op 33 (first ts) then Ok (unit, rest ts) else
    (if is_keyword 30 (first ts) then Err (LeftOut left.Generator, ts) else (under.read 14 ts >>= round_close under g))

abbrev pub list_close : Below → ℕ → Tall Expr × List Token → Reads (Tall Expr)
list_close under g a = if is_keyword 13 (first a.1) then Err (LeftOut left.Comprehension, a.1) else (do
  es ← tests_at (under.read 14) g (start a.0) a.1
  close ← op_at 35 es.1
  Ok (of_list (es.0).0, close.1))

-- after `[`
unfoldable pub list_at : Below → ℕ → Test
list_at under g ts = if is_op 35 (first ts) then Ok (of_list none, rest ts) else
    (under.read 14 ts >>= list_close under g)

-- further pairs, each after a comma
unfoldable pub pairs_at : Test → ℕ → Tall (List Pair) → Reader (Tall (List Pair))
pairs_at next zero found ts = Ok (found, ts)
pairs_at next (suc g) found ts =
    if is_op 38 (first ts) then (if comes 14 (first (rest ts)) then (do
      a ← next (rest ts)
      colon ← op_at 39 a.1
      b ← next colon.1
      pairs_at next g (push_pair found a.0 b.0) b.1) else Ok (found, rest ts)) else Ok (found, ts)

abbrev pub dict_close : Below → ℕ → Tall Expr → Tall Expr × List Token → Reads (Tall Expr)
dict_close under g a b = if is_keyword 13 (first b.1) then Err (LeftOut left.Comprehension, b.1) else (do
  ps ← pairs_at (under.read 14) g (push_pair (plain [] 0) a b.0) b.1
  close ← op_at 37 ps.1
  Ok (of_dict ps.0, close.1))

abbrev pub dict_value : Below → ℕ → Tall Expr × List Token → Reads (Tall Expr)
dict_value under g a =
    if is_op 39 (first a.1) then (under.read 14 (rest a.1) >>= dict_close under g a.0) else
    (if is_op 38 (first a.1) || is_op 37 (first a.1) then Err (LeftOut left.Set, a.1) else
    (if is_keyword 13 (first a.1) then Err (LeftOut left.Comprehension, a.1) else Err (Unexpected, a.1)))

-- after `{`
unfoldable pub dict_at : Below → ℕ → Test
dict_at under g ts = if is_op 37 (first ts) then Ok (of_dict (plain [] 0), rest ts) else
    (under.read 14 ts >>= dict_value under g)

abbrev pub atom_of : Below → ℕ → TokenKind → Test
atom_of under g (k.Name n) ts = Ok (of_name n, rest ts)
atom_of under g (k.Int n) ts = Ok (of_int n, rest ts)
atom_of under g (k.Str s) ts = strings_at g s (rest ts) >>= λ x. Ok (of_string x.0, x.1)
atom_of under g (k.Op n) ts =
    if n == 32 then round_at under g (rest ts) else
    (if n == 34 then list_at under g (rest ts) else
    (if n == 36 then dict_at under g (rest ts) else Err (no_start (left_at 0 (k.Op n)), ts)))
atom_of under g other ts = Err (no_start (left_at 0 other), ts)

unfoldable pub atom_at : Below → ℕ → Test
atom_at under g ts = atom_of under g (first ts) ts

-- ---- trailers

abbrev pub is_bare : Form → Bool
is_bare Bare = true
is_bare _ = false

-- the name of an argument by keyword: a bare name was read, with this first token, and `=` is next
abbrev pub keyed : Form → TokenKind → TokenKind → Option (List ℕ)
keyed f word next = if is_bare f && is_op 42 next then name_of word else None

-- arguments by keyword alone, after the comma that follows one
unfoldable pub named_at : Test → ℕ → Tall (List Named) → Reader (Tall (List Named))
named_at next zero found ts = Ok (found, ts)
named_at next (suc g) found ts =
    if is_op 38 (first ts) then (if is_op 33 (first (rest ts)) then Ok (found, rest ts) else
    (if is_op 23 (first (rest ts)) || is_op 4 (first (rest ts)) then Err (LeftOut left.StarArgument, rest ts) else (do
      n ← name_at (rest ts)
      equals ← op_at 42 n.1
      a ← next equals.1
      named_at next g (push_named found n.0 a.0) a.1))) else Ok (found, ts)

abbrev pub is_none : {A : Type 0} → List A → Bool
is_none [] = true
is_none (x ∷ xs) = false

abbrev pub arg_by : Test → ℕ → (Tall (List Expr) → Reader (Tall Trailer)) → Tall (List Expr) → Tall Expr × List Token →
    Option (List ℕ) → Reads (Tall Trailer)
arg_by next g go found a (Some n) = do
  b ← next (rest a.1)
  ns ← named_at next g (push_named (plain [] 0) n b.0) b.1
  Ok (of_call found ns.0, ns.1)
arg_by next g go found a None =
    if is_none found.tree && is_keyword 13 (first a.1) then Err (LeftOut left.Comprehension, a.1) else
    (if is_op 38 (first a.1) then (if is_op 33 (first (rest a.1)) then Ok (
      of_call (push found a.0) (plain [] 0),
      rest a.1,
    )
    else go (push found a.0) (rest a.1))
    else Ok (of_call (push found a.0) (plain [] 0), a.1))

-- one argument or more
unfoldable pub args_at : Test → ℕ → Tall (List Expr) → Reader (Tall Trailer)
args_at next zero found ts = Ok (of_call found (plain [] 0), ts)
args_at next (suc g) found ts =
    if is_op 23 (first ts) || is_op 4 (first ts) then Err (LeftOut left.StarArgument, ts) else (do
      a ← next ts
      arg_by next g (args_at next g) found a (keyed a.0.form (first ts) (first a.1)))

abbrev pub slice_close : Option (Tall Expr) → Option (Tall Expr) → Reader (Tall Trailer)
slice_close a b ts =
    if is_op 39 (first ts) || is_op 38 (first ts) then Err (LeftOut left.SliceForm, ts) else (do
      close ← op_at 35 ts
      Ok (of_slice a b, close.1))

-- after the first colon of a slice
unfoldable pub slice_at : Below → Option (Tall Expr) → Reader (Tall Trailer)
slice_at under a ts = if comes 14 (first ts) then (do
  b ← under.read 14 ts
  slice_close a (Some b.0) b.1) else slice_close a None ts

abbrev pub index_close : Below → Tall Expr × List Token → Reads (Tall Trailer)
index_close under a = if is_op 39 (first a.1) then slice_at under (Some a.0) (rest a.1) else (do
  b ← under.after a.0 a.1
  close ← op_at 35 b.1
  Ok (of_index b.0, close.1))

-- after `[` of a trailer
unfoldable pub subscript_at : Below → Reader (Tall Trailer)
subscript_at under ts = if is_op 39 (first ts) then slice_at under None (rest ts) else
    (under.read 14 ts >>= index_close under)

-- after `(` of a trailer
unfoldable pub call_at : Below → ℕ → Reader (Tall Trailer)
call_at under g ts = if is_op 33 (first ts) then Ok (of_call none (plain [] 0), rest ts) else (do
  x ← args_at (under.read 14) g none ts
  close ← op_at 33 x.1
  Ok (x.0, close.1))

abbrev pub trails : TokenKind → Bool
trails kind = is_op 40 kind || (is_op 34 kind || is_op 32 kind)

unfoldable pub trailer_at : Below → ℕ → Reader (Tall Trailer)
trailer_at under g ts =
    if is_op 40 (first ts) then (name_at (rest ts) >>= λ n. Ok (of_attribute n.0, n.1)) else
    (if is_op 34 (first ts) then subscript_at under (rest ts) else call_at under g (rest ts))

unfoldable pub trailers_at : Below → ℕ → ℕ → Tall (List Trailer) → Reader (Tall (List Trailer))
trailers_at under g zero found ts = Ok (found, ts)
trailers_at under g (suc n) found ts = if trails (first ts) then (do
  r ← trailer_at under g ts
  trailers_at under g n (push_trailer found r.0) r.1) else Ok (found, ts)

-- after an atom
unfoldable pub trail_at : Below → ℕ → ℕ → Tall Expr × List Token → Reads (Tall Expr)
trail_at under g d a = if trails (first a.1) then (if nat_lt d (a.0.tall + 1) then Err (Deep, a.1) else (do
  rs ← trailers_at under g g (plain [] 0) a.1
  Ok (of_trail a.0 rs.0, rs.1))) else Ok a

-- ---- operators

-- after what may be raised to a power
unfoldable pub power_at : Below → ℕ → Tall Expr × List Token → Reads (Tall Expr)
power_at under d a = if is_op 4 (first a.1) then (if nat_lt d (a.0.tall + 1) then Err (Deep, a.1) else (do
  b ← under.read 3 (rest a.1)
  Ok (of_power a.0 b.0, b.1))) else Ok a

abbrev pub sign_of : TokenKind → Option Sign
sign_of (k.Op n) = if n == 21 then Some sign.Plus else
    (if n == 22 then Some sign.Minus else (if n == 29 then Some sign.Invert else None))
sign_of _ = None

abbrev pub linked : Test → (Tall (List Link) → Reader (Tall (List Link))) → Option Operator → Tall (List Link) →
    Reader (Tall (List Link))
linked next go None found ts = Ok (found, ts)
linked next go (Some o) found ts = do
  o' ← operator_rest o (rest ts)
  a ← next o'.1
  go (push_link found o'.0 a.0) a.1

unfoldable pub links_at : Level → Test → ℕ → Tall (List Link) → Reader (Tall (List Link))
links_at l next zero found ts = Ok (found, ts)
links_at l next (suc g) found ts = linked next (links_at l next g) (operator_of l (first ts)) found ts

abbrev pub links : Level → TokenKind → Bool
links l kind = is_some (operator_of l kind)

-- after the first operand
unfoldable pub chain_at : Level → Test → ℕ → ℕ → Tall Expr × List Token → Reads (Tall Expr)
chain_at l next g d a = if links l (first a.1) then (if nat_lt d (a.0.tall + 1) then Err (Deep, a.1) else (do
  ls ← links_at l next g (plain [] 0) a.1
  Ok (of_chain l a.0 ls.0, ls.1))) else Ok a

-- after what may be chosen
unfoldable pub choice_at : Below → ℕ → Tall Expr × List Token → Reads (Tall Expr)
choice_at under d a = if is_keyword 16 (first a.1) then (if nat_lt d (a.0.tall + 1) then Err (Deep, a.1) else (do
  b ← under.read 13 (rest a.1)
  word ← keyword_at 9 b.1
  x ← under.read 14 word.1
  Ok (of_choice a.0 b.0 x.0, x.1))) else Ok a

-- after a test, where a comma makes a tuple
unfoldable pub after_at : Below → ℕ → ℕ → Tall Expr → Test
after_at under g d a ts = if is_op 38 (first ts) then (if nat_lt d (a.tall + 1) then Err (Deep, ts) else (do
  es ← tests_at (under.read 14) g (start a) ts
  Ok (of_tuple (es.0).0, es.1))) else Ok (a, ts)

abbrev pub signed : Below → ℕ → Test → Option Sign → Test
signed under d operand None ts = operand ts
signed under d operand (Some s) ts = if nat_lt d 2 then Err (Deep, ts) else
    (under.read 3 (rest ts) >>= λ a. Ok (of_sign s a.0, a.1))

abbrev pub rung_of : ℕ → Rung
rung_of n =
    if n == 0 then Trailed else (if n == 1 then Powered else
    (if n == 2 then Signed else (if n == 3 then Chained level.Term else
    (if n == 4 then Chained level.Sum else
    (if n == 5 then Chained level.Shift else (if n == 6 then Chained level.BitAnd else
    (if n == 7 then Chained level.BitXor else
    (if n == 8 then Chained level.BitOr else (if n == 9 then Chained level.Compare else
    (if n == 10 then Negated else (if n == 11 then Chained level.And else
    (if n == 12 then Chained level.Or else (if n == 13 then Chosen else Listed)))))))))))))

-- by what is added; `operand` reads the level below
abbrev pub rung_at : Rung → Below → ℕ → ℕ → Test → Test
rung_at Trailed under g d operand ts = operand ts >>= trail_at under g d
rung_at Powered under g d operand ts = operand ts >>= power_at under d
rung_at Signed under g d operand ts = signed under d operand (sign_of (first ts)) ts
rung_at (Chained l) under g d operand ts = operand ts >>= chain_at l (under.read (below l)) g d
rung_at Negated under g d operand ts = if is_keyword 21 (first ts) then
    (if nat_lt d 2 then Err (Deep, ts) else (under.read 11 (rest ts) >>= λ a. Ok (of_not a.0, a.1))) else operand ts
rung_at Chosen under g d operand ts = if is_keyword 20 (first ts) then Err (LeftOut left.Lambda, ts) else
    (operand ts >>= choice_at under d)
rung_at Listed under g d operand ts = operand ts >>= λ a. after_at under g d a.0 a.1

unfoldable pub level_at : Below → ℕ → ℕ → ℕ → Test
level_at under g d zero ts = atom_at under g ts
level_at under g d (suc n) ts = rung_at (rung_of n) under g d (level_at under g d n) ts

-- where no height is left
abbrev pub too_deep : ℕ → TokenKind → Fault
too_deep n kind = if starts n kind then Deep else no_start (left_at n kind)

-- with a budget of heights; g bounds the turns of each loop
unfoldable pub reads : ℕ → ℕ → Below
reads g zero = record { read = λ n ts. Err (too_deep n (first ts), ts); after = λ a ts. Err (Deep, ts) }
reads g (suc d) = record { read = level_at (reads g d) g (suc d); after = after_at (reads g d) g (suc d) }
