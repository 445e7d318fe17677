-- What each instruction asks of the stack, what it leaves there, and where it goes on. States `docs/LANGUAGE.md`,
-- "Instructions".
use Rattle.std.specs.Prelude.{◌≡◌, ℕ, ◌+◌, ◌-◌, ◌<◌, ◌≤◌, ◌^◌, List, [], ◌∷◌, Option, Some, None, Bool, true, false, All, get_or, length}
use Rattle.py_base.specs.Numbers.{unary_signs, binary_signs, compare_signs, builtin_count}
use Rattle.py_code.specs.declared.instr.Constant.{Constant}
use Rattle.py_code.specs.declared.instr.Constant.TheVariants.{Builtin, Root}
use Rattle.py_code.specs.declared.instr.Instr.{Instr}
use Rattle.py_code.specs.declared.instr.Instr.TheVariants.{Setup, Const, Pop, Dup, Rot2, Dup2, Rot3, LoadLocal, StoreLocal, DelLocal, LoadGlobal, StoreGlobal, DelGlobal, LoadName, StoreName, DelName, LoadAttr, StoreAttr, DelAttr, LoadMethod, LoadItem, StoreItem, DelItem, Slice, Unary, Not, Binary, InPlace, Compare, Jump, JumpFalse, KeepFalse, KeepTrue, BuildTuple, BuildList, BuildDict, Unpack, Iter, Next, Call, CallMethod, Return, MakeFunction, ClassBody, Try, PopTry, ExcMatch, MakeRaised, Raise, PrintItem, PrintNewline}

-- what the instructions of a code may name
pub record Limits : Type 0 where
  pub slots : ℕ  -- the slots of its frames
  pub keys : List (List ℕ)  -- its keyword lists
  pub strings : ℕ  -- the number of the first root that is a string
  pub cells : ℕ  -- the number of the first root that is a global's cell
  pub roots : ℕ  -- how many roots there are
  pub params : List ℕ  -- how many parameters each code has
  pub first : ℕ  -- the first place that a jump may name: 1 in the module, else 0

-- where an instruction goes on
pub data Flow : Type 0 where
  On : Flow  -- at the next place
  Ends : Flow  -- nowhere in this code
  Over : ℕ → Flow  -- at this place
  Fork : ℕ → ℕ → Flow  -- at the next place, or at this one, with so many values pushed there
  Opens : ℕ → Flow  -- at the next place, with one more block, whose handler stands at this place
  Closes : Flow  -- at the next place, with one block less

-- how many values an instruction takes from the stack, how many it then pushes where the next place follows, and what
-- follows
pub record Effect : Type 0 where
  pub pops : ℕ
  pub pushes : ℕ
  pub flow : Flow

-- so many values are taken, and then so many pushed; the next place follows
abbrev pub plain : ℕ → ℕ → Effect
plain a b = record { pops = a; pushes = b; flow = On }

-- the same, where another place follows or may follow
abbrev pub jumps : ℕ → ℕ → Flow → Effect
jumps a b f = record { pops = a; pushes = b; flow = f }

-- One row for each instruction. A call takes the function (and its object), the arguments and one value for each
-- keyword.
abbrev pub effect : Limits → Instr → Effect
effect k Setup = plain 0 0
effect k (Const c) = plain 0 1
effect k Pop = plain 1 0
effect k Dup = plain 1 2
effect k Rot2 = plain 2 2
effect k Dup2 = plain 2 4
effect k Rot3 = plain 3 3
effect k (LoadLocal s) = plain 0 1
effect k (StoreLocal s) = plain 1 0
effect k (DelLocal s) = plain 0 0
effect k (LoadGlobal g) = plain 0 1
effect k (StoreGlobal g) = plain 1 0
effect k (DelGlobal g) = plain 0 0
effect k (LoadName n) = plain 0 1
effect k (StoreName n) = plain 1 0
effect k (DelName n) = plain 0 0
effect k (LoadAttr n) = plain 1 1
effect k (StoreAttr n) = plain 2 0
effect k (DelAttr n) = plain 1 0
effect k (LoadMethod n) = plain 1 2
effect k LoadItem = plain 2 1
effect k StoreItem = plain 3 0
effect k DelItem = plain 2 0
effect k Slice = plain 3 1
effect k (Unary o) = plain 1 1
effect k Not = plain 1 1
effect k (Binary o) = plain 2 1
effect k (InPlace o) = plain 2 1
effect k (Compare o) = plain 2 1
effect k (Jump t) = jumps 0 0 (Over t)
effect k (JumpFalse t) = jumps 1 0 (Fork t 0)
effect k (KeepFalse t) = jumps 1 0 (Fork t 1)
effect k (KeepTrue t) = jumps 1 0 (Fork t 1)
effect k (BuildTuple n) = plain n 1
effect k (BuildList n) = plain n 1
effect k (BuildDict n) = plain (n + n) 1
effect k (Unpack n) = plain 1 n
effect k Iter = plain 1 1
effect k (Next t) = jumps 1 2 (Fork t 0)
effect k (Call n l) = plain (1 + (n + length (get_or k.keys l []))) 1
effect k (CallMethod n l) = plain (2 + (n + length (get_or k.keys l []))) 1
effect k Return = jumps 1 0 Ends
effect k (MakeFunction f n) = plain n 1
effect k (ClassBody f) = plain 1 1
effect k (Try t) = jumps 0 0 (Opens t)
effect k PopTry = jumps 0 0 Closes
effect k ExcMatch = plain 2 1
effect k (MakeRaised n) = plain (1 + n) 1
effect k Raise = jumps 1 0 Ends
effect k PrintItem = plain 1 0
effect k PrintNewline = plain 0 0

-- the root of a string
abbrev pub IsText : Limits → ℕ → Type 0
IsText k n = (k.strings ≤ n) × (n < k.cells)

-- the root of a global's cell
abbrev pub IsCell : Limits → ℕ → Type 0
IsCell k g = (k.cells ≤ g) × (g < k.roots)

-- what CONST may push: of the roots the classes and the strings
abbrev pub IsConstant : Limits → Constant → Type 0
IsConstant k (Builtin b) = b < builtin_count
IsConstant k (Root r) = (0 < r) × (r < k.cells)
IsConstant k _ = Unit {0}

-- a keyword list of strings
abbrev pub IsKeys : Limits → ℕ → Type 0
IsKeys k l = (l < length k.keys) × All (IsText k) (get_or k.keys l [])

-- what the operands name is there, and of the kind that the instruction needs
abbrev pub IsKnown : Limits → Instr → Type 0
IsKnown k (Const c) = IsConstant k c
IsKnown k (LoadLocal s) = s < k.slots
IsKnown k (StoreLocal s) = s < k.slots
IsKnown k (DelLocal s) = s < k.slots
IsKnown k (LoadGlobal g) = IsCell k g
IsKnown k (StoreGlobal g) = IsCell k g
IsKnown k (DelGlobal g) = IsCell k g
IsKnown k (LoadName n) = IsText k n
IsKnown k (StoreName n) = IsText k n
IsKnown k (DelName n) = IsText k n
IsKnown k (LoadAttr n) = IsText k n
IsKnown k (StoreAttr n) = IsText k n
IsKnown k (DelAttr n) = IsText k n
IsKnown k (LoadMethod n) = IsText k n
IsKnown k (Unary o) = o < length unary_signs
IsKnown k (Binary o) = o < length binary_signs
IsKnown k (InPlace o) = o < length binary_signs
IsKnown k (Compare o) = o < length compare_signs
IsKnown k (Call n l) = IsKeys k l
IsKnown k (CallMethod n l) = IsKeys k l
IsKnown k (MakeFunction f n) = (f < length k.params) × (n ≤ get_or k.params f 0)
IsKnown k (ClassBody f) = f < length k.params
IsKnown k (MakeRaised n) = n ≤ 1
IsKnown k _ = Unit {0}

-- the shape of a place: the height of the stack, and the heights of the open blocks, the innermost first
pub record Sh : Type 0 where
  pub height : ℕ
  pub blocks : List ℕ

-- the height below which nothing may be taken: that of the innermost block
abbrev pub floor_of : List ℕ → ℕ
floor_of [] = 0
floor_of (h ∷ hs) = h

-- all blocks but the innermost
abbrev pub tail_of : List ℕ → List ℕ
tail_of [] = []
tail_of (h ∷ hs) = hs

-- the blocks that are open behind it
abbrev pub blocks_after : Flow → ℕ → List ℕ → List ℕ
blocks_after (Opens t) h bs = h ∷ bs
blocks_after Closes h bs = tail_of bs
blocks_after _ h bs = bs

-- the shape behind an instruction
abbrev pub after : Effect → Sh → Sh
after e s = record { height = s.height - e.pops + e.pushes; blocks = blocks_after e.flow s.height s.blocks }

-- how many values are pushed at the place that it names; a handler finds the exception
abbrev pub pushed_there : Flow → ℕ
pushed_there (Fork t n) = n
pushed_there (Opens t) = 1
pushed_there _ = 0

-- the shape at the place that it names
abbrev pub there : Effect → Sh → Sh
there e s = record { height = s.height - e.pops + pushed_there e.flow; blocks = s.blocks }

-- the place that it names
abbrev pub target_of : Flow → Option ℕ
target_of (Over t) = Some t
target_of (Fork t n) = Some t
target_of (Opens t) = Some t
target_of _ = None

-- the place that it names is none before the first that may be named
abbrev pub Forward : ℕ → Flow → Type 0
Forward first f = (q : ℕ) → target_of f ≡ Some q → first ≤ q

-- whether the next place follows
abbrev pub goes_on : Flow → Bool
goes_on Ends = false
goes_on (Over t) = false
goes_on _ = true

-- a block that is ended is open
abbrev pub HasBlock : Flow → List ℕ → Type 0
HasBlock Closes [] = ⊥
HasBlock _ bs = Unit {0}

-- The instruction finds what it needs: its operands lie above the innermost block, and the stack stays below 2^32
-- values.
pub record Fine (k : Limits) (i : Instr) (s : Sh) : Type 0 where
  pub operands : floor_of s.blocks + (effect k i).pops ≤ s.height
  pub room : s.height + (effect k i).pushes + 1 < 2 ^ 32
  pub block : HasBlock (effect k i).flow s.blocks
  pub known : IsKnown k i
