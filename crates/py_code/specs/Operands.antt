-- The words of a listing: what each instruction is called, what its operands name, and the names of what has a number.
-- States `docs/LANGUAGE.md`, "Listing".
use Rattle.std.specs.Prelude.{ℕ, codes, List}
use Rattle.py_base.specs.declared.kind.Kind.{Kind}
use Rattle.py_base.specs.declared.kind.Kind.TheVariants.{Str, Tuple, List as ListKind, Dict, Cell, Function, Class, Instance, Method, Iter as IterKind, Range, Lock, Thread}
use Rattle.py_code.specs.declared.instr.Instr.{Instr}
use Rattle.py_code.specs.declared.instr.Instr.TheVariants.{Setup, Const, Pop, Dup, Rot2, Dup2, Rot3, LoadLocal, StoreLocal, DelLocal, LoadGlobal, StoreGlobal, DelGlobal, LoadName, StoreName, DelName, LoadAttr, StoreAttr, DelAttr, LoadMethod, LoadItem, StoreItem, DelItem, Slice, Unary, Not, Binary, InPlace, Compare, Jump, JumpFalse, KeepFalse, KeepTrue, BuildTuple, BuildList, BuildDict, Unpack, Iter, Next, Call, CallMethod, Return, MakeFunction, ClassBody, Try, PopTry, ExcMatch, MakeRaised, Raise, PrintItem, PrintNewline}
use Rattle.py_code.specs.declared.assembly.operand.Operand.{Operand}
use Rattle.py_code.specs.declared.assembly.operand.Operand.TheVariants.{Nothing, Pushed, Slot, Record, Body, UnarySign, BinarySign, CompareSign, Place, Count, Arguments, Defaults}

-- what an instruction is called
abbrev pub mnemonic : Instr → List ℕ
mnemonic Setup = codes "SETUP"
mnemonic (Const c) = codes "CONST"
mnemonic Pop = codes "POP"
mnemonic Dup = codes "DUP"
mnemonic Rot2 = codes "ROT2"
mnemonic Dup2 = codes "DUP2"
mnemonic Rot3 = codes "ROT3"
mnemonic (LoadLocal s) = codes "LOAD_LOCAL"
mnemonic (StoreLocal s) = codes "STORE_LOCAL"
mnemonic (DelLocal s) = codes "DEL_LOCAL"
mnemonic (LoadGlobal g) = codes "LOAD_GLOBAL"
mnemonic (StoreGlobal g) = codes "STORE_GLOBAL"
mnemonic (DelGlobal g) = codes "DEL_GLOBAL"
mnemonic (LoadName n) = codes "LOAD_NAME"
mnemonic (StoreName n) = codes "STORE_NAME"
mnemonic (DelName n) = codes "DEL_NAME"
mnemonic (LoadAttr n) = codes "LOAD_ATTR"
mnemonic (StoreAttr n) = codes "STORE_ATTR"
mnemonic (DelAttr n) = codes "DEL_ATTR"
mnemonic (LoadMethod n) = codes "LOAD_METHOD"
mnemonic LoadItem = codes "LOAD_ITEM"
mnemonic StoreItem = codes "STORE_ITEM"
mnemonic DelItem = codes "DEL_ITEM"
mnemonic Slice = codes "SLICE"
mnemonic (Unary o) = codes "UNARY"
mnemonic Not = codes "NOT"
mnemonic (Binary o) = codes "BINARY"
mnemonic (InPlace o) = codes "INPLACE"
mnemonic (Compare o) = codes "COMPARE"
mnemonic (Jump t) = codes "JUMP"
mnemonic (JumpFalse t) = codes "JUMP_FALSE"
mnemonic (KeepFalse t) = codes "KEEP_FALSE"
mnemonic (KeepTrue t) = codes "KEEP_TRUE"
mnemonic (BuildTuple n) = codes "BUILD_TUPLE"
mnemonic (BuildList n) = codes "BUILD_LIST"
mnemonic (BuildDict n) = codes "BUILD_DICT"
mnemonic (Unpack n) = codes "UNPACK"
mnemonic Iter = codes "ITER"
mnemonic (Next t) = codes "NEXT"
mnemonic (Call n l) = codes "CALL"
mnemonic (CallMethod n l) = codes "CALL_METHOD"
mnemonic Return = codes "RETURN"
mnemonic (MakeFunction f n) = codes "MAKE_FUNCTION"
mnemonic (ClassBody f) = codes "CLASS_BODY"
mnemonic (Try t) = codes "TRY"
mnemonic PopTry = codes "POP_TRY"
mnemonic ExcMatch = codes "EXC_MATCH"
mnemonic (MakeRaised n) = codes "MAKE_RAISED"
mnemonic Raise = codes "RAISE"
mnemonic PrintItem = codes "PRINT_ITEM"
mnemonic PrintNewline = codes "PRINT_NEWLINE"

-- what its operands name
abbrev pub operand_of : Instr → Operand
operand_of (Const c) = Pushed c
operand_of (LoadLocal s) = Slot s
operand_of (StoreLocal s) = Slot s
operand_of (DelLocal s) = Slot s
operand_of (LoadGlobal g) = Record g
operand_of (StoreGlobal g) = Record g
operand_of (DelGlobal g) = Record g
operand_of (LoadName n) = Record n
operand_of (StoreName n) = Record n
operand_of (DelName n) = Record n
operand_of (LoadAttr n) = Record n
operand_of (StoreAttr n) = Record n
operand_of (DelAttr n) = Record n
operand_of (LoadMethod n) = Record n
operand_of (Unary o) = UnarySign o
operand_of (Binary o) = BinarySign o
operand_of (InPlace o) = BinarySign o
operand_of (Compare o) = CompareSign o
operand_of (Jump t) = Place t
operand_of (JumpFalse t) = Place t
operand_of (KeepFalse t) = Place t
operand_of (KeepTrue t) = Place t
operand_of (BuildTuple n) = Count n
operand_of (BuildList n) = Count n
operand_of (BuildDict n) = Count n
operand_of (Unpack n) = Count n
operand_of (Next t) = Place t
operand_of (Call n l) = Arguments n l
operand_of (CallMethod n l) = Arguments n l
operand_of (MakeFunction f n) = Defaults f n
operand_of (ClassBody f) = Body f
operand_of (Try t) = Place t
operand_of (MakeRaised n) = Count n
operand_of _ = Nothing

-- a kind of record
abbrev pub kind_name : Kind → List ℕ
kind_name Str = codes "Str"
kind_name Tuple = codes "Tuple"
kind_name ListKind = codes "List"
kind_name Dict = codes "Dict"
kind_name Cell = codes "Cell"
kind_name Function = codes "Function"
kind_name Class = codes "Class"
kind_name Instance = codes "Instance"
kind_name Method = codes "Method"
kind_name IterKind = codes "Iter"
kind_name Range = codes "Range"
kind_name Lock = codes "Lock"
kind_name Thread = codes "Thread"
