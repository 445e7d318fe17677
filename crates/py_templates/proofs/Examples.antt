-- What the table gives on small pieces, place by place.
use Rattle.std.proofs.Common.{◌≡◌, [], ◌∷◌, refl}
use Rattle.py_code.specs.declared.instr.Constant.TheVariants.{None as NoValue}
use Rattle.py_code.specs.declared.instr.Instr.TheVariants.{Setup, Const, Pop, Dup, Rot2, Rot3, LoadLocal, StoreLocal, Compare, Jump, JumpFalse, KeepFalse, Iter, Next, Return, Try, PopTry, ExcMatch, Raise}
use Rattle.py_templates.specs.declared.way.Way.TheVariants.{Break}
use Rattle.py_templates.specs.declared.home.Home.TheVariants.{Slot}
use Rattle.py_templates.specs.Template.{Piece, row}
use Rattle.py_templates.specs.Table.{one, name, between, chained, expression, for, try_except, clause_bare, clause_target, try_finally, way_out, return, raise_again, module_code, InFor, InClause, InFinally}

a : Piece
a = name 1 (Slot 0)

b : Piece
b = name 1 (Slot 1)

c : Piece
c = name 1 (Slot 2)

d : Piece
d = name 1 (Slot 3)

-- a < b < c < d
chain : (chained 1 a (between 1 0 b ∷ between 1 0 c ∷ []) d 0).code [] 0 9 ≡
    LoadLocal 0 ∷ LoadLocal 1 ∷ Dup ∷ Rot3 ∷ Compare 0 ∷ KeepFalse 14 ∷
    LoadLocal 2 ∷ Dup ∷ Rot3 ∷ Compare 0 ∷ KeepFalse 14 ∷
    LoadLocal 3 ∷ Compare 0 ∷ Jump 16 ∷ Rot2 ∷ Pop ∷ []
unfolding a b c d
chain = refl

-- for x in a: try: break finally: b, in a module; the first hidden slot is 9
fin : Piece
fin = row (expression 4 b ∷ [])

loop : Piece
loop = for 1 (one 1 (StoreLocal 5)) a (row
    (try_finally 2 (row (way_out 3 Break (InFinally fin ∷ InFor ∷ []) ∷ [])) fin ∷ [])) (row [])

left : (module_code 1 (row (loop ∷ []))).code [] 0 9 ≡
    Setup ∷ LoadLocal 0 ∷ Iter ∷ Next 21 ∷ StoreLocal 5 ∷
    Try 15 ∷ PopTry ∷ LoadLocal 1 ∷ Pop ∷ Pop ∷ Jump 21 ∷ PopTry ∷ LoadLocal 1 ∷ Pop ∷ Jump 20 ∷
    StoreLocal 9 ∷ LoadLocal 1 ∷ Pop ∷ LoadLocal 9 ∷ Raise ∷ Jump 3 ∷ Const NoValue ∷ Return ∷ []
unfolding a b fin loop
left = refl

-- (b stands for an expression of line 1)
lines : (module_code 1 (row (loop ∷ []))).lines ≡ 1 ∷ 1 ∷ 1 ∷ 1 ∷ 1 ∷ 2 ∷ 3 ∷ 1 ∷ 4 ∷ 3 ∷ 3 ∷ 2 ∷ 1 ∷ 4 ∷ 2 ∷ 2 ∷ 1 ∷ 4
    ∷ 2 ∷ 2 ∷ 1 ∷ 1 ∷ 1 ∷ []
unfolding a b fin loop
lines = refl

-- try: b except c as x: raise except: return a
tried : Piece
tried = try_except 1 (row (expression 1 b ∷ []))
    (clause_target 2 c (one 2 (StoreLocal 5)) (row (raise_again 2 (InClause ∷ []) ∷ [])) ∷ clause_bare 3
    (row (return 3 a (InClause ∷ []) ∷ [])) ∷ []) (row [])

caught : tried.code [] 0 9 ≡
    Try 5 ∷ LoadLocal 1 ∷ Pop ∷ PopTry ∷ Jump 22 ∷ StoreLocal 9 ∷
    LoadLocal 9 ∷ LoadLocal 2 ∷ ExcMatch ∷ JumpFalse 15 ∷ LoadLocal 9 ∷ StoreLocal 5 ∷ LoadLocal 9 ∷ Raise ∷ Jump 22 ∷
    LoadLocal 0 ∷ StoreLocal 10 ∷ LoadLocal 10 ∷ Return ∷ Jump 22 ∷ LoadLocal 9 ∷ Raise ∷ []
unfolding a b c tried
caught = refl
