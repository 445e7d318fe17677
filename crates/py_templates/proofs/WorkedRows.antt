-- Expressions and statements by hand, node by node. The names are those of a function with the locals a and b, in a
-- program with the strings n and s and the globals g and h, whose calls have the keywords k.
use Rattle.std.proofs.Common.{◌≡◌, ℕ, List, [], ◌∷◌, Some, None, true, false, refl}
use Rattle.std.specs.Prelude.{pos, codes}
use Rattle.py_code.specs.declared.instr.Constant.TheVariants.{None as NoValue, Root, Int as IntValue, Builtin}
use Rattle.py_code.specs.declared.instr.Instr.{Instr}
use Rattle.py_code.specs.declared.instr.Instr.TheVariants.{Const, Pop, Not, Dup, Rot2, Dup2, Rot3, LoadLocal, StoreLocal, DelLocal, LoadGlobal, StoreGlobal, StoreName, LoadAttr, StoreAttr, LoadMethod, LoadItem, StoreItem, DelItem, Slice, Binary, InPlace, Compare, Jump, JumpFalse, KeepFalse, BuildDict, Unpack, Call, CallMethod, MakeFunction, ClassBody, Raise, PrintItem, PrintNewline}
use Rattle.py_tree.specs.declared.expr.Level.TheVariants as level
use Rattle.py_tree.specs.declared.expr.Expr.TheOpen as open'
use Rattle.py_templates.specs.declared.way.Way.TheVariants.{Continue}
use Rattle.py_templates.specs.Template.{Piece, row}
use Rattle.py_templates.specs.Table.{InWhile, constant, assign, also, all_arms, arm, assert_with, class, def, expression, import_one, print_line, print_one, way_out, while}
use Rattle.py_templates.specs.Names.{Known, home, library, member, main_texts, first_cell}
use Rattle.py_templates.specs.Expressions.{Coded, Trailed, expr_step, trailer_step, store_at, del_at, add_at}
use Rattle.py_templates.specs.Uses.{Use, Text, Global, Keys, Inside, name_read, name_bound, texts_from, cells_from, keys_from}

known : Known
known = record {
  is_class = false;
  locals = codes "a" ∷ codes "b" ∷ [];
  texts = codes "n" ∷ codes "s" ∷ [];
  cells =
      codes "g" ∷ codes "h" ∷ [];
  keys = [] ∷ (codes "k" ∷ []) ∷ [];
}

-- a class body that binds n
in_class : Known
in_class = record {
  is_class = true;
  locals = codes "n" ∷ [];
  texts = codes "n" ∷ codes "s" ∷ [];
  cells =
      codes "g" ∷ codes "n" ∷ [];
  keys = [] ∷ [];
}

named : List ℕ → Coded
named x = expr_step known 1 (open'.Name x)

number : ℕ → Coded
number i = expr_step known 1 (open'.Int (pos i))

trail : Coded → List Trailed → Coded
trail o ts = expr_step known 1 (open'.Trail o ts)

attribute : List ℕ → Trailed
attribute m = trailer_step known 1 (open'.Attribute m)

code_at : Piece → List Instr
code_at p = p.code [] 0 9

-- a and g and b
all_of : code_at (expr_step known 1 (open'.Chain level.And (named (codes "a"))
    ((0, (named (codes "g")).value) ∷ (0, (named (codes "b")).value) ∷ []))).value ≡
    LoadLocal 0 ∷ KeepFalse 5 ∷ LoadGlobal 23 ∷ KeepFalse 5 ∷ LoadLocal 1 ∷ []
unfolding known named code_at
all_of = refl

-- a + g - 1
sum : code_at (expr_step known 1 (open'.Chain level.Sum (named (codes "a"))
    ((5, (named (codes "g")).value) ∷ (6, (number 1).value) ∷ []))).value ≡
    LoadLocal 0 ∷ LoadGlobal 23 ∷ Binary 5 ∷ Const (IntValue (pos 1)) ∷ Binary 6 ∷ []
unfolding known named number code_at
sum = refl

-- a < b, and a < b is g
less : code_at (expr_step known 1 (open'.Chain level.Compare (named (codes "a"))
    ((0, (named (codes "b")).value) ∷ []))).value ≡ LoadLocal 0 ∷ LoadLocal 1 ∷ Compare 0 ∷ []
unfolding known named code_at
less = refl

less_is : code_at (expr_step known 1 (open'.Chain level.Compare (named (codes "a"))
    ((0, (named (codes "b")).value) ∷ (8, (named (codes "g")).value) ∷ []))).value ≡
    LoadLocal 0 ∷ LoadLocal 1 ∷ Dup ∷ Rot3 ∷ Compare 0 ∷ KeepFalse 9 ∷ LoadGlobal 23 ∷ Compare 8 ∷ Jump 11 ∷ Rot2 ∷ Pop
    ∷ []
unfolding known named code_at
less_is = refl

-- a if h else None
chosen : code_at (expr_step known 1 (open'.Choice (named (codes "a")) (named (codes "h"))
    (named (codes "None")))).value ≡ LoadGlobal 24 ∷ JumpFalse 4 ∷ LoadLocal 0 ∷ Jump 5 ∷ Const NoValue ∷ []
unfolding known named code_at
chosen = refl

-- a.n(b, k=1)[b].s
method : code_at (trail (named (codes "a"))
    (attribute (codes "n") ∷ trailer_step known 1
    (open'.Call (named (codes "b") ∷ []) ((codes "k", (number 1).value) ∷ [])) ∷ trailer_step known 1
    (open'.Index (named (codes "b"))) ∷ attribute (codes "s") ∷ [])).value ≡
    LoadLocal 0 ∷ LoadMethod 21 ∷ LoadLocal 1 ∷ Const (IntValue (pos 1)) ∷ CallMethod 1 1 ∷ LoadLocal 1 ∷ LoadItem ∷
    LoadAttr 22 ∷ []
unfolding known named number trail attribute code_at
method = refl

-- g(a)[:b]
cut : code_at (trail (named (codes "g"))
    (trailer_step known 1 (open'.Call (named (codes "a") ∷ []) []) ∷ trailer_step known 1
    (open'.Slice None (Some (named (codes "b")))) ∷ [])).value ≡
    LoadGlobal 23 ∷ LoadLocal 0 ∷ Call 1 0 ∷ Const NoValue ∷ LoadLocal 1 ∷ Slice ∷ []
unfolding known named trail code_at
cut = refl

-- {'s': a}
dictionary : code_at (expr_step known 1 (open'.Dict
    (row ((expr_step known 1 (open'.Str (codes "s"))).value ∷ (named (codes "a")).value ∷ []) ∷ []))).value ≡ Const
    (Root 22) ∷ LoadLocal 0 ∷ BuildDict 1 ∷ []
unfolding known named code_at
dictionary = refl

-- g = a, b.n = h
targets : Coded
targets = expr_step known 1 (open'.Tuple
    (named (codes "a") ∷ trail (named (codes "b")) (attribute (codes "n") ∷ []) ∷ []))

assigned : code_at (assign 1 (named (codes "h")).value (also 1 (store_at 1 (named (codes "g")).place) ∷ [])
    (store_at 1 targets.place)) ≡
    LoadGlobal 24 ∷ Dup ∷ StoreGlobal 23 ∷ Unpack 2 ∷ StoreLocal 0 ∷ LoadLocal 1 ∷ StoreAttr 21 ∷ []
unfolding known named trail attribute targets code_at
assigned = refl

-- del a, g[1]
deleted : code_at (row (del_at 1 (named (codes "a")).place ∷ del_at 1
    (trail (named (codes "g")) (trailer_step known 1 (open'.Index (number 1)) ∷ [])).place ∷ [])) ≡
    DelLocal 0 ∷ LoadGlobal 23 ∷ Const (IntValue (pos 1)) ∷ DelItem ∷ []
unfolding known named number trail code_at
deleted = refl

-- a += 1; a.n -= 1; a[b] *= 1
added : code_at (row (add_at 1 (named (codes "a")).place 5 (number 1).value ∷ add_at 1
    (trail (named (codes "a")) (attribute (codes "n") ∷ [])).place 6 (number 1).value ∷ add_at 1
    (trail (named (codes "a")) (trailer_step known 1 (open'.Index (named (codes "b"))) ∷ [])).place 7 (number 1).value
    ∷ [])) ≡
    LoadLocal 0 ∷ Const (IntValue (pos 1)) ∷ InPlace 5 ∷ StoreLocal 0
    ∷ LoadLocal 0 ∷ Dup ∷ LoadAttr 21 ∷ Const (IntValue (pos 1)) ∷ InPlace 6 ∷ Rot2 ∷ StoreAttr 21
    ∷ LoadLocal 0 ∷ LoadLocal 1 ∷ Dup2 ∷ LoadItem ∷ Const (IntValue (pos 1)) ∷ InPlace 7 ∷ Rot3 ∷ StoreItem ∷ []
unfolding known named number trail attribute code_at
added = refl

-- if a: print 1 elif b: print 1, else: g
arms : code_at (all_arms 0 (arm 1 (named (codes "a")).value (print_line 1 ((number 1).value ∷ [])) ∷ arm 2
    (named (codes "b")).value (row (print_one 2 (number 1).value ∷ [])) ∷ []) (expression 3 (named (codes "g")).value))
    ≡
    LoadLocal 0 ∷ JumpFalse 6 ∷ Const (IntValue (pos 1)) ∷ PrintItem ∷ PrintNewline ∷ Jump 13
    ∷ LoadLocal 1 ∷ JumpFalse 11 ∷ Const (IntValue (pos 1)) ∷ PrintItem ∷ Jump 13
    ∷ LoadGlobal 23 ∷ Pop ∷ []
unfolding known named number code_at
arms = refl

-- while a: continue else: g
loop : code_at (while 1 (named (codes "a")).value (way_out 2 Continue (InWhile ∷ []))
    (expression 3 (named (codes "g")).value)) ≡ LoadLocal 0 ∷ JumpFalse 4 ∷ Jump 0 ∷ Jump 0 ∷ LoadGlobal 23 ∷ Pop ∷ []
unfolding known named code_at
loop = refl

-- assert a, 's'
asserted : code_at (assert_with 1 (named (codes "a")).value (expr_step known 1 (open'.Str (codes "s"))).value) ≡
    LoadLocal 0 ∷ Not ∷ JumpFalse 7 ∷ Const (Root 13) ∷ Const (Root 22) ∷ Call 1 0 ∷ Raise ∷ []
unfolding known named code_at
asserted = refl

-- in a class body: n = g, where n is its own name and g a global one; and a class with this body
in_body : code_at (assign 1 (expr_step in_class 1 (open'.Name (codes "g"))).value []
    (store_at 1 (expr_step in_class 1 (open'.Name (codes "n"))).place)) ≡ LoadGlobal 23 ∷ StoreName 21 ∷ []
unfolding in_class code_at
in_body = refl

of_class : code_at (class 1 (constant 1 (Root 1)) 2 (home known (codes "h"))) ≡ Const (Root 1) ∷ ClassBody 2 ∷
    StoreGlobal 24 ∷ []
unfolding known code_at
of_class = refl

-- a function with the default 1, and import thread, from threading import Lock
function : code_at (def 1 ((number 1).value ∷ []) 3 (home known (codes "b"))) ≡ Const (IntValue (pos 1)) ∷ MakeFunction
    3 1 ∷ StoreLocal 1 ∷ []
unfolding known number code_at
function = refl

imports : code_at (row (import_one 1 (library (codes "thread")) (home known (codes "g")) ∷ import_one 1
    (member (codes "Lock")) (home known (codes "h")) ∷ import_one 1 (member (codes "error")) (home known (codes "a")) ∷
    [])) ≡
    Const (Builtin 19) ∷ StoreGlobal 23 ∷ Const (Builtin 24) ∷ StoreGlobal 24 ∷ Const (Root 20) ∷ StoreLocal 0 ∷ []
unfolding known code_at
imports = refl

-- ---- names

-- in a class body that binds n: a read of n uses the string and the cell, a store only the string; g is a global
inside : Inside
inside = record { number = 2; is_class = true; locals = codes "n" ∷ [] }

name_uses : (name_read inside (codes "n") ≡ Text (codes "n") ∷ Global (codes "n") ∷ []) ×
    (name_bound inside (codes "n") ≡ Text (codes "n") ∷ []) × (name_bound inside (codes "g") ≡ Global (codes "g") ∷ [])
    × (name_read inside (codes "None") ≡ [])
unfolding inside
name_uses = (refl, refl, refl, refl)

some_uses : List Use
some_uses = Text (codes "s") ∷ Global (codes "g") ∷ Text (codes "n") ∷ Keys 0 (codes "k" ∷ []) ∷ Text (codes "s") ∷
    Global (codes "__name__") ∷ Keys 1 (codes "j" ∷ []) ∷ Keys 0 (codes "k" ∷ []) ∷ Global (codes "g") ∷ []

numbers : (texts_from [] some_uses ≡ codes "s" ∷ codes "n" ∷ []) ×
    (cells_from [] some_uses ≡ codes "g" ∷ codes "__name__" ∷ []) ×
    (keys_from 0 ([] ∷ []) some_uses ≡ [] ∷ (codes "k" ∷ []) ∷ []) ×
    (keys_from 1 ([] ∷ []) some_uses ≡ [] ∷ (codes "j" ∷ []) ∷ [])
unfolding some_uses
numbers = (refl, refl, refl, refl)

-- `__main__` stands behind the other strings, and the cells behind it
main : (main_texts (codes "g" ∷ codes "__name__" ∷ []) ≡ codes "__main__" ∷ []) × (main_texts (codes "g" ∷ []) ≡ []) ×
    (first_cell (codes "s" ∷ codes "n" ∷ []) (codes "g" ∷ codes "__name__" ∷ []) ≡ 24)
main = (refl, refl, refl)
