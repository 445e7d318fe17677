-- The program of a module, and the line of what is too large. States `docs/LANGUAGE.md`, "Code of a tree" and "Names in
-- code".
use Rattle.std.specs.Prelude.{ℕ, zero, suc, ◌+◌, List, [], ◌∷◌, ◌++◌, Option, Some, None, Bool, true, false, if◌then◌else◌, length, map, min, nat_lt, get_or, replicate}
use Rattle.std.specs.List.{list_any}
use Rattle.py_code.specs.declared.program.Root.{Root}
use Rattle.py_code.specs.declared.program.Code.{Code}
use Rattle.py_code.specs.declared.program.Program.{Program}
use Rattle.py_code.specs.Right.{roots_of}
use Rattle.py_tree.specs.declared.stmt.Stmt.{Stmt}
use Rattle.py_tree.specs.declared.stmt.Module.{Module}
use Rattle.py_templates.specs.Template.{Piece}
use Rattle.py_templates.specs.Table.{body_code, module_code}
use Rattle.py_templates.specs.Names.{Known, main_texts, text}
use Rattle.py_templates.specs.Statements.{Body, stated_block}
use Rattle.py_templates.specs.Uses.{Use, module_uses, texts_from, cells_from, keys_from}

-- ---- the bodies

-- the module's own statements are a body too
abbrev pub module_body : List Stmt → Body
module_body ss = record {
  line = 1;
  name = [];
  is_class = false;
  params = 0;
  block = λ n.
      (stated_block ss).code n [] 1;
}

-- the module's, and then that of each `def` and `class` in the order of the text, outer ones before inner ones
abbrev pub bodies : List Stmt → List Body
bodies ss = module_body ss ∷ (stated_block ss).inner 1

-- ---- the roots

-- those with these strings and global names
abbrev pub roots_with : List (List ℕ) → List (List ℕ) → List Root
roots_with texts cells = roots_of (texts ++ main_texts cells) cells

-- ---- the codes

-- a function's own names have slots, and hidden slots follow
abbrev pub slots_named : Bool → List (List ℕ) → List (List ℕ)
slots_named true ns = []
slots_named false ns = ns

abbrev pub code_by : Body → Known → Piece → Code
code_by y n p = record {
  name = y.name;
  instrs = p.code [] 0 (length (slots_named y.is_class n.locals));
  lines = p.lines;
  slots = slots_named y.is_class n.locals ++ replicate p.slots [];
  params = y.params;
  keys = map (map (text n)) n.keys;
}

-- the whole code of a body: the module's begins with SETUP
abbrev pub whole : ℕ → Body → Known → Piece
whole zero y n = module_code y.line (y.block n)
whole (suc b) y n = body_code y.line (y.block n)

-- the code of the body with that number
abbrev pub code_at : ℕ → Body → Known → Code
code_at b y n = code_by y n (whole b y n)

-- ---- what is too large

-- a string of more than 1,048,576 bytes
abbrev pub is_long : List ℕ → Bool
is_long x = nat_lt 1048576 (length x)

-- the least of two lines
abbrev pub least : Option ℕ → Option ℕ → Option ℕ
least None b = b
least (Some a) None = Some a
least (Some a) (Some b) = Some (min a b)

-- the line of a body with more than 65,535 instructions
abbrev pub large_at : ℕ → Body → Known → Option ℕ
large_at b y n = if nat_lt 65535 (whole b y n).size then Some y.line else None

-- The codes of bodies that are numbered from b on, and the least line of one that is too large, where this is known of
-- names.
module _ (known : ℕ → Body → Known) where
  abbrev pub codes_from : ℕ → List Body → List Code
  codes_from b [] = []
  codes_from b (y ∷ ys) = code_at b y (known b y) ∷ codes_from (b + 1) ys

  abbrev pub large_bodies : ℕ → List Body → Option ℕ
  large_bodies b [] = None
  large_bodies b (y ∷ ys) = least (large_at b y (known b y)) (large_bodies (b + 1) ys)

-- The names that the bodies bind, from the list of their scopes.
module _ (locals : List (List (List ℕ))) (ss : List Stmt) where
  abbrev pub locals_of : ℕ → List (List ℕ)
  locals_of b = get_or locals b []

  abbrev pub uses : List Use
  uses = module_uses locals_of ss

  abbrev pub texts : List (List ℕ)
  texts = texts_from [] uses

  abbrev pub cells : List (List ℕ)
  cells = cells_from [] uses

  -- keyword list 0 is empty
  abbrev pub names_of : ℕ → Body → Known
  names_of b y = record {
    is_class = y.is_class;
    locals = locals_of b;
    texts = texts;
    cells = cells;
    keys =
        keys_from b ([] ∷ []) uses;
  }

  -- the cell of the count of threads, the classes, the strings, the cells of the global names
  abbrev pub roots : List Root
  roots = roots_with texts cells

  -- more functions or roots than 65,535, or a string that is too long
  abbrev pub too_many : Bool
  too_many = if nat_lt 65535 (length (bodies ss)) then true else
      (if nat_lt 65535 (length roots) then true else list_any is_long texts)

  -- The line of TooLarge, or none. No line is before line 1.
  abbrev pub too_large : Option ℕ
  too_large = if too_many then Some 1 else large_bodies names_of 0 (bodies ss)

-- the program of a module, where nothing is too large
unfoldable pub program_of : List (List (List ℕ)) → Module → Program
program_of locals m = record {
  codes = codes_from (names_of locals m.body) 0 (bodies m.body);
  roots =
      roots locals m.body;
}

-- the line of what is too large, or none
unfoldable pub too_large_in : List (List (List ℕ)) → Module → Option ℕ
too_large_in locals m = too_large locals m.body
