-- The table of templates: one for each construct, over the code of its parts. States `docs/LANGUAGE.md`, "Code of a
-- tree".
-- In each of them `ln` is the line of the simple statement or clause that the construct stands in.
use Rattle.std.specs.Prelude.{ℕ, List, [], ◌∷◌, length, map}
use Rattle.py_code.specs.declared.instr.Constant.{Constant}
use Rattle.py_code.specs.declared.instr.Constant.TheVariants.{None as NoValue, Root}
use Rattle.py_code.specs.declared.instr.Instr.{Instr}
use Rattle.py_code.specs.declared.instr.Instr.TheVariants.{Setup, Const, Pop, Dup, Rot2, Dup2, Rot3, LoadLocal, StoreLocal, DelLocal, LoadGlobal, StoreGlobal, DelGlobal, LoadName, StoreName, DelName, LoadAttr, StoreAttr, DelAttr, LoadMethod, LoadItem, StoreItem, DelItem, Slice, Not, InPlace, Compare, Jump, JumpFalse, KeepFalse, Unpack, Iter, Next, Call, CallMethod, Return, MakeFunction, ClassBody, Try, PopTry, ExcMatch, MakeRaised, Raise, PrintItem, PrintNewline}
use Rattle.py_templates.specs.declared.way.Way.{Way}
use Rattle.py_templates.specs.declared.way.Way.TheVariants.{Break, Continue, Out}
use Rattle.py_templates.specs.declared.home.Home.{Home}
use Rattle.py_templates.specs.declared.home.Home.TheVariants.{Slot, Cell, Body}
use Rattle.py_templates.specs.Template.{Piece, Op, Hidden, To, Here, Alone, Sub, template, row}

-- the names of labels
abbrev pub E : ℕ
E = 0

abbrev pub A : ℕ
A = 1

abbrev pub F : ℕ
F = 1

abbrev pub H : ℕ
H = 1

abbrev pub N : ℕ
N = 1

-- the label N of an except clause or of an arm, which has no other
abbrev pub M : ℕ
M = 0

abbrev pub B : ℕ
B = 2

-- what loads a name, stores to it and deletes it, by where it lives
abbrev pub load : Home → Instr
load (Slot s) = LoadLocal s
load (Cell g) = LoadGlobal g
load (Body n) = LoadName n

abbrev pub store : Home → Instr
store (Slot s) = StoreLocal s
store (Cell g) = StoreGlobal g
store (Body n) = StoreName n

abbrev pub del : Home → Instr
del (Slot s) = DelLocal s
del (Cell g) = DelGlobal g
del (Body n) = DelName n

module _ (ln : ℕ) where
  abbrev pub nothing : Piece
  nothing = template ln 0 0 []

  -- Expressions.

  abbrev pub one : Instr → Piece
  one i = template ln 0 0 (Op i ∷ [])

  abbrev pub constant : Constant → Piece
  constant c = one (Const c)

  abbrev pub name : Home → Piece
  name x = one (load x)

  -- an operator over one value: -a, not a, a.n
  abbrev pub one_value : Instr → Piece → Piece
  one_value i a = template ln 0 0 (Alone a ∷ Op i ∷ [])

  -- over two: a + b, a < b, a[b]
  abbrev pub two_values : Instr → Piece → Piece → Piece
  two_values i a b = template ln 0 0 (Alone a ∷ Alone b ∷ Op i ∷ [])

  -- a OPERATOR b OPERATOR c: the operand and its operator, behind the value so far
  abbrev pub link : Instr → Piece → Piece
  link i b = template ln 0 0 (Alone b ∷ Op i ∷ [])

  abbrev pub operators : Piece → List Piece → Piece
  operators a links = template ln 0 0 (Alone a ∷ Alone (row links) ∷ [])

  -- a and b and c: each operand but the last, and the whole; j is KEEP_FALSE or KEEP_TRUE
  abbrev pub kept : (ℕ → Instr) → Piece → Piece
  kept j a = template ln 0 0 (Alone a ∷ To 1 j E ∷ [])

  abbrev pub all_kept : List Piece → Piece → Piece
  all_kept firsts last = template ln 0 1 (Sub 0 (row firsts) ∷ Alone last ∷ Here E ∷ [])

  -- a < b < c: each operand between with its operator, and the whole
  abbrev pub between : ℕ → Piece → Piece
  between o b = template ln 0 0 (Alone b ∷ Op Dup ∷ Op Rot3 ∷ Op (Compare o) ∷ To 1 KeepFalse F ∷ [])

  abbrev pub chained : Piece → List Piece → Piece → ℕ → Piece
  chained a betweens last o = template ln 0 2
      (Alone a ∷ Sub 0 (row betweens) ∷ Alone last ∷ Op (Compare o) ∷ To 0 Jump E ∷ Here F ∷ Op Rot2 ∷ Op Pop ∷ Here E
      ∷ [])

  -- x if c else y
  abbrev pub conditional : Piece → Piece → Piece → Piece
  conditional x c y = template ln 0 2 (Alone c ∷ To 0 JumpFalse N ∷ Alone x ∷ To 0 Jump E ∷ Here N ∷ Alone y ∷ Here E ∷
      [])

  -- What stands behind an atom: .n, [i], [i:j], a call, and a call of .m; each takes the value so far from the stack. A
  -- call has n arguments without a keyword, and those of keyword list k.
  abbrev pub attribute : ℕ → Piece
  attribute n = template ln 0 0 (Op (LoadAttr n) ∷ [])

  abbrev pub index : Piece → Piece
  index i = template ln 0 0 (Alone i ∷ Op LoadItem ∷ [])

  abbrev pub slice : Piece → Piece → Piece
  slice i j = template ln 0 0 (Alone i ∷ Alone j ∷ Op Slice ∷ [])

  abbrev pub call : List Piece → ℕ → List Piece → Piece
  call args k values = template ln 0 0 (Alone (row args) ∷ Alone (row values) ∷ Op (Call (length args) k) ∷ [])

  abbrev pub method_call : ℕ → List Piece → ℕ → List Piece → Piece
  method_call m args k values = template ln 0 0
      (Op (LoadMethod m) ∷ Alone (row args) ∷ Alone (row values) ∷ Op (CallMethod (length args) k) ∷ [])

  abbrev pub trail : Piece → List Piece → Piece
  trail o behind = template ln 0 0 (Alone o ∷ Alone (row behind) ∷ [])

  -- tuples, lists, dictionaries
  abbrev pub built : Instr → List Piece → Piece
  built i items = template ln 0 0 (Alone (row items) ∷ Op i ∷ [])

  abbrev pub pair : Piece → Piece → Piece
  pair a b = template ln 0 0 (Alone a ∷ Alone b ∷ [])

  -- Targets, behind the value; deleted targets.

  abbrev pub to_attr : Piece → ℕ → Piece
  to_attr o n = template ln 0 0 (Alone o ∷ Op (StoreAttr n) ∷ [])

  abbrev pub to_item : Piece → Piece → Piece
  to_item o i = template ln 0 0 (Alone o ∷ Alone i ∷ Op StoreItem ∷ [])

  abbrev pub to_all : List Piece → Piece
  to_all ts = template ln 0 0 (Op (Unpack (length ts)) ∷ Alone (row ts) ∷ [])

  abbrev pub del_attr : Piece → ℕ → Piece
  del_attr o n = template ln 0 0 (Alone o ∷ Op (DelAttr n) ∷ [])

  abbrev pub del_item : Piece → Piece → Piece
  del_item o i = template ln 0 0 (Alone o ∷ Alone i ∷ Op DelItem ∷ [])

  -- Simple statements.

  -- t = u = e: a store to each target but the last, and the whole
  abbrev pub also : Piece → Piece
  also t = template ln 0 0 (Op Dup ∷ Alone t ∷ [])

  abbrev pub assign : Piece → List Piece → Piece → Piece
  assign e firsts last = template ln 0 0 (Alone e ∷ Alone (row firsts) ∷ Alone last ∷ [])

  abbrev pub add_name : Home → ℕ → Piece → Piece
  add_name x o e = template ln 0 0 (Op (load x) ∷ Alone e ∷ Op (InPlace o) ∷ Op (store x) ∷ [])

  abbrev pub add_attr : Piece → ℕ → ℕ → Piece → Piece
  add_attr a n o e = template ln 0 0 (Alone a ∷ Op Dup ∷ Op (LoadAttr n) ∷ Alone e ∷ Op (InPlace o) ∷ Op Rot2 ∷ Op
      (StoreAttr n) ∷ [])

  abbrev pub add_item : Piece → Piece → ℕ → Piece → Piece
  add_item a i o e = template ln 0 0 (Alone a ∷ Alone i ∷ Op Dup2 ∷ Op LoadItem ∷ Alone e ∷ Op (InPlace o) ∷ Op Rot3 ∷
      Op StoreItem ∷ [])

  abbrev pub expression : Piece → Piece
  expression e = template ln 0 0 (Alone e ∷ Op Pop ∷ [])

  abbrev pub print_one : Piece → Piece
  print_one e = template ln 0 0 (Alone e ∷ Op PrintItem ∷ [])

  abbrev pub print_line : List Piece → Piece
  print_line es = template ln 0 0 (Alone (row (map print_one es)) ∷ Op PrintNewline ∷ [])

  abbrev pub raise_one : Piece → Piece
  raise_one e = template ln 0 0 (Alone e ∷ Op (MakeRaised 0) ∷ Op Raise ∷ [])

  abbrev pub raise_two : Piece → Piece → Piece
  raise_two e v = template ln 0 0 (Alone e ∷ Alone v ∷ Op (MakeRaised 1) ∷ Op Raise ∷ [])

  -- root 13 is the class AssertionError
  abbrev pub assert_with : Piece → Piece → Piece
  assert_with c m = template ln 0 1 (Alone c ∷ Op Not ∷ To 0 JumpFalse E ∷ Op (Const (Root 13)) ∷ Alone m ∷ Op
      (Call 1 0) ∷ Op Raise ∷ Here E ∷ [])

  abbrev pub assert_alone : Piece → Piece
  assert_alone c = template ln 0 1 (Alone c ∷ Op Not ∷ To 0 JumpFalse E ∷ Op (Const (Root 13)) ∷ Op (MakeRaised 0) ∷ Op
      Raise ∷ Here E ∷ [])

  abbrev pub import_one : Constant → Home → Piece
  import_one c x = template ln 0 0 (Op (Const c) ∷ Op (store x) ∷ [])

  -- Compound statements. f is the number of the body's code.

  abbrev pub def : List Piece → ℕ → Home → Piece
  def defaults f x = template ln 0 0 (Alone (row defaults) ∷ Op (MakeFunction f (length defaults)) ∷ Op (store x) ∷ [])

  -- without a base, b is CONST object
  abbrev pub class : Piece → ℕ → Home → Piece
  class b f x = template ln 0 0 (Alone b ∷ Op (ClassBody f) ∷ Op (store x) ∷ [])

  -- an arm of an `if`, with its own line, and the whole
  abbrev pub arm : Piece → Piece → Piece
  arm c body = template ln 0 1 (Alone c ∷ To 0 JumpFalse M ∷ Sub 2 body ∷ To 1 Jump E ∷ Here M ∷ [])

  abbrev pub all_arms : List Piece → Piece → Piece
  all_arms arms other = template ln 0 1 (Sub 0 (row arms) ∷ Sub 1 other ∷ Here E ∷ [])

  abbrev pub while : Piece → Piece → Piece → Piece
  while c body other = template ln 0 3 (Here A ∷ Alone c ∷ To 0 JumpFalse B ∷ Sub 0 body ∷ To 0 Jump A ∷ Here B ∷ Sub 1
      other ∷ Here E ∷ [])

  abbrev pub for : Piece → Piece → Piece → Piece → Piece
  for t e body other = template ln 0 3 (Alone e ∷ Op Iter ∷ Here A ∷ To 0 Next B ∷ Alone t ∷ Sub 0 body ∷ To 0 Jump A ∷
      Here B ∷ Sub 1 other ∷ Here E ∷ [])

  abbrev pub try_except : Piece → List Piece → Piece → Piece
  try_except body clauses other = template ln 1 2
      (To 0 Try H ∷ Sub 0 body ∷ Op PopTry ∷ Sub 1 other ∷ To 0 Jump E ∷ Here H ∷ Hidden 0 StoreLocal ∷ Sub 0
      (row clauses) ∷ Hidden 0 LoadLocal ∷ Op Raise ∷ Here E ∷ [])

  -- a clause stands inside its try; x and E are the try's
  abbrev pub clause_bare : Piece → Piece
  clause_bare body = template ln 0 0 (Sub 1 body ∷ To 1 Jump E ∷ [])

  abbrev pub clause_test : Piece → Piece → Piece
  clause_test c body = template ln 0 1 (Hidden 1 LoadLocal ∷ Alone c ∷ Op ExcMatch ∷ To 0 JumpFalse M ∷ Sub 1 body ∷ To
      1 Jump E ∷ Here M ∷ [])

  abbrev pub clause_target : Piece → Piece → Piece → Piece
  clause_target c t body = template ln 0 1
      (Hidden 1 LoadLocal ∷ Alone c ∷ Op ExcMatch ∷ To 0 JumpFalse M ∷ Hidden 1 LoadLocal ∷ Alone t ∷ Sub 1 body ∷ To 1
      Jump E ∷ Here M ∷ [])

  abbrev pub try_finally : Piece → Piece → Piece
  try_finally inner fin = template ln 1 2
      (To 0 Try H ∷ Sub 0 inner ∷ Op PopTry ∷ Sub 1 fin ∷ To 0 Jump E ∷ Here H ∷ Hidden 0 StoreLocal ∷ Sub 1 fin ∷
      Hidden 0 LoadLocal ∷ Op Raise ∷ Here E ∷ [])

-- The constructs round a statement that show it their labels or slot, or that a leave passes; one frame each.
pub data Around : Type 0 where
  InWhile : Around  -- in the body of a while
  InFor : Around  -- in the body of a for
  InTry : Around  -- in the block of a try with except clauses
  InClause : Around  -- in an except clause
  InFinally : Piece → Around  -- in the part of a try that this finally body follows

module _ (ln : ℕ) where
  -- What is done on a way out of these constructs, the innermost first: to the end of the innermost loop (`break`), to
  -- its next turn (`continue`), or out of the body. At a loop, rest is the way on from there.
  abbrev pub past_while : Way → Piece → Piece
  past_while Break rest = template ln 0 0 (To 1 Jump E ∷ [])
  past_while Continue rest = template ln 0 0 (To 1 Jump A ∷ [])
  past_while Out rest = template ln 0 0 (Sub 2 rest ∷ [])

  abbrev pub past_for : Way → Piece → Piece
  past_for Break rest = template ln 0 0 (Op Pop ∷ To 1 Jump E ∷ [])
  past_for Continue rest = template ln 0 0 (To 1 Jump A ∷ [])
  past_for Out rest = template ln 0 0 (Op Pop ∷ Sub 2 rest ∷ [])

  abbrev pub way_out : Way → List Around → Piece
  way_out w [] = nothing ln
  way_out w (InWhile ∷ c) = past_while w (way_out w c)
  way_out w (InFor ∷ c) = past_for w (way_out w c)
  way_out w (InTry ∷ c) = template ln 0 0 (Op PopTry ∷ Sub 2 (way_out w c) ∷ [])
  way_out w (InClause ∷ c) = template ln 0 0 (Sub 2 (way_out w c) ∷ [])
  way_out w (InFinally fin ∷ c) = template ln 0 0 (Op PopTry ∷ Sub 2 fin ∷ Sub 2 (way_out w c) ∷ [])

  -- without a value, e is CONST None
  abbrev pub return : Piece → List Around → Piece
  return e c = template ln 1 0 (Alone e ∷ Hidden 0 StoreLocal ∷ Sub 1 (way_out Out c) ∷ Hidden 0 LoadLocal ∷ Op Return
      ∷ [])

  -- a raise alone: the exception of the innermost clause round it
  abbrev pub raise_again : List Around → Piece
  raise_again [] = nothing ln
  raise_again (InClause ∷ c) = template ln 0 0 (Hidden 1 LoadLocal ∷ Op Raise ∷ [])
  raise_again (_ ∷ c) = template ln 0 0 (Sub 2 (raise_again c) ∷ [])

  -- the whole of a body, whose `def` or `class` has this line
  abbrev pub body_code : Piece → Piece
  body_code b = template ln 0 0 (Sub 1 b ∷ Op (Const NoValue) ∷ Op Return ∷ [])

  abbrev pub module_code : Piece → Piece
  module_code b = template ln 0 0 (Op Setup ∷ Sub 1 b ∷ Op (Const NoValue) ∷ Op Return ∷ [])
