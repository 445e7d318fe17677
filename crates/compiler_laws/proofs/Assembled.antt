-- The program of a legal module is right, where nothing is too large: roots, codes and what they say of one another.
use Rattle.std.proofs.Common.{◌≡◌, ◌∙◌, ◌||◌, ℕ, zero, suc, ◌+◌, ◌<◌, ◌≤◌, ◌^◌, List, [], ◌∷◌, ◌++◌, Some, None, Bool, true, false, nat_lt, refl, sym, ap, subst, arith, length, map, get_or, length-append, append_assoc}
use Rattle.std.specs.Prelude.{All, if◌then◌else◌, slice_get}
use Rattle.std.specs.List.{list_any}
use Rattle.std.proofs.lemmas.Bool.{ltb-false}
use Rattle.std.proofs.lemmas.List.{get_or-append-add, get_or-map, length-map, map-append, get_or_append_left}
use Rattle.std.proofs.lemmas.List.Elements.{All-cons}
use Rattle.std.proofs.lemmas.List.Folds.{list_any-append}
use Rattle.std.proofs.lemmas.Option.{slice_get-get_or}
use Rattle.std.proofs.lemmas.Slice.Eq.{bytes_eq-Decides}
use Rattle.std.proofs.Math.Seq.{get_or-append_seam}
use Rattle.py_code.specs.declared.instr.Constant.TheVariants.{None as NoValue}
use Rattle.py_code.specs.declared.instr.Instr.{Instr}
use Rattle.py_code.specs.declared.instr.Instr.TheVariants.{Setup, Const, Return}
use Rattle.py_code.specs.declared.program.Root.{Root}
use Rattle.py_code.specs.declared.program.Code.{Code}
use Rattle.py_code.specs.Effects.{Limits}
use Rattle.py_base.specs.Numbers.{class_count}
use Rattle.py_code.specs.Right.{opens_body, all_instrs, is_body, HasCellAt, Belongs, text_root, cell_root, class_roots, names_of, texts_of, first_place, limits_of, SetsUp, IsRightCode, AreRight, IsRightProgram}
use Rattle.py_code.proofs.RightRows.{texts_told, names_told}
use Rattle.py_tree.specs.declared.stmt.Stmt.{Stmt}
use Rattle.py_tree.specs.declared.stmt.Module.{Module}
use Rattle.py_templates.specs.Template.{Op, Sub}
use Rattle.py_templates.specs.Names.{Known, number_in, text, main_texts}
use Rattle.py_base.specs.NameLists.{has}
use Rattle.py_names.specs.Outline.{is_none}
use Rattle.py_templates.specs.Uses.{Use, Text, Global, Keys, module_uses}
use Rattle.py_templates.specs.Statements.{Body, stated_block}
use Rattle.compiler_laws.proofs.Legal.{legal_all}
use Rattle.py_templates.specs.Whole as whole
use Rattle.py_templates.proofs.ExprInduct.{Every}
use Rattle.compiler_laws.proofs.World.{known, lim, Slotted, BodiesOk}
use Rattle.compiler_laws.proofs.Surrounds.{Does}
use Rattle.compiler_laws.proofs.Numbers.{Noted, all_noted}
use Rattle.compiler_laws.proofs.RootsMade.{parts, roots_right}
use Rattle.compiler_laws.proofs.Sits.{Opens, opens_front, opens_back, Sits, sub_parts, BodiesSit, AllOpen, module_opens}
use Rattle.compiler_laws.proofs.Fit.{Fit, NoteOk}
use Rattle.compiler_laws.proofs.Clean.{IsClean, template_clean, parts_clean}
use Rattle.compiler_laws.proofs.StmtClean.{Flagged, BodiesClean}
use Rattle.compiler_laws.proofs.BodyClean.{module_clean}
use Rattle.compiler_laws.proofs.BelongRows.{no_setup, every_all, opens_none, belongs_from, number_is}
use Rattle.compiler_laws.proofs.Program.{IsWhole}
use Rattle.compiler_laws.proofs.CodesRight as made
use Rattle.py_templates.proofs.Leasts.{least_apart}
use Rattle.compiler_laws.proofs.ParamSlots.{ParamsFit}

-- the instructions of a whole code: those that fit, behind SETUP in the first one
abbrev FitAll : (ℕ → Type 0) → (ℕ → Bool) → ℕ → Bool → List Instr → Type 0
FitAll ok flags zero z [] = ⊥
FitAll ok flags zero z (i ∷ is) = (i ≡ Setup) × Every (Fit ok flags z) is
FitAll ok flags (suc j) z is = Every (Fit ok flags z) is

fit_setup : (ok : ℕ → Type 0) (flags : ℕ → Bool) (j : ℕ) (z : Bool) (is : List Instr) → FitAll ok flags j z is →
    SetsUp j is
fit_setup ok flags zero z [] h = h
fit_setup ok flags zero z (i ∷ is) h = (h.0, no_setup ok flags z is h.1)
fit_setup ok flags (suc j) z is h = no_setup ok flags z is h

fit_none : (ok : ℕ → Type 0) (flags : ℕ → Bool) (j : ℕ) (z : Bool) (f : ℕ) (is : List Instr) → FitAll ok flags j z is →
    flags f ≡ false → list_any (opens_body f) is ≡ false
fit_none ok flags zero z f [] h e = refl
fit_none ok flags zero z f (i ∷ is) h e = subst (λ k. (opens_body f k || list_any (opens_body f) is) ≡ false) (sym h.0)
    (opens_none ok flags z f is h.1 e)
fit_none ok flags (suc j) z f is h e = opens_none ok flags z f is h e

fit_belongs : (cs : List Code) (rs : List Root) (flags : ℕ → Bool) (j : ℕ) (z : Bool) →
    (z ≡ true → is_body cs j ≡ true) → ((f : ℕ) → flags f ≡ false → is_body cs f ≡ false) → (is : List Instr) →
    FitAll (λ r. HasCellAt (names_of rs) (slice_get rs r)) flags j z is → All (Belongs cs rs j) is
fit_belongs cs rs flags zero z own other [] h = absurd h
fit_belongs cs rs flags zero z own other (i ∷ is) h =
    All-cons (Belongs cs rs zero) i is (subst (Belongs cs rs zero) (sym h.0) tt)
    (every_all (Fit (λ r. HasCellAt (names_of rs) (slice_get rs r)) flags z) (Belongs cs rs zero)
    (belongs_from cs rs zero flags z own other) is h.1)
fit_belongs cs rs flags (suc j) z own other is h =
    every_all (Fit (λ r. HasCellAt (names_of rs) (slice_get rs r)) flags z) (Belongs cs rs (suc j))
    (belongs_from cs rs (suc j) flags z own other) is h

whole_fit : (ok : ℕ → Type 0) (flags : ℕ → Bool) (j : ℕ) (z : Bool) (y : Body) (n : Known) (h : ℕ) →
    IsClean ok flags z (y.block n) → FitAll ok flags j z ((whole.whole j y n).code [] 0 h)
whole_fit ok flags zero z y n h c = (
  refl,
  parts_clean ok flags z (Sub 1 (y.block n) ∷ Op (Const NoValue) ∷ Op Return ∷ []) (c, (tt, (tt, tt)))
      (record { labels = []; slot = 0 } ∷ []) 1 (h + 0 + 0),
)
whole_fit ok flags (suc j) z y n h c = template_clean ok flags z y.line 0 0
    (Sub 1 (y.block n) ∷ Op (Const NoValue) ∷ Op Return ∷ []) (c, (tt, (tt, tt))) [] 0 h

whole_sits : (knows : ℕ → Bool → Known) (all : List Instr) (j : ℕ) (y : Body) (n : Known) (h : ℕ) →
    ((g : ℕ) → Opens ((whole.whole j y n).code [] 0 h) g → Opens all g) → Sits knows all (y.block n)
whole_sits knows all zero y n h s = (sub_parts knows all y.line 0 0
    (Op Setup ∷ Sub 1 (y.block n) ∷ Op (Const NoValue) ∷ Op Return ∷ [])
    (record { env = []; place = 0; slot = h; opens = s })).1.0
whole_sits knows all (suc j) y n h s = (sub_parts knows all y.line 0 0
    (Sub 1 (y.block n) ∷ Op (Const NoValue) ∷ Op Return ∷ []) (record { env = []; place = 0; slot = h; opens = s })).0

-- each instruction has its line
whole_lined : (k : Limits) (j : ℕ) (y : Body) (n : Known) (h : ℕ) → Does k [] (y.block n) →
    (whole.whole j y n).size < 2 ^ 16 → length (whole.whole j y n).lines ≡ length ((whole.whole j y n).code [] 0 h)
whole_lined k zero y n h d few =
    let b = y.block n in
    let t = d.typed [] 0 [] (omega arith) (omega (arith, few)) in
    let l = t.lined in
    let c = t.sized [] 1 (h + 0 + 0) in
    omega (
      arith,
      l,
      c,
      length-append b.lines (y.line ∷ y.line ∷ []),
      length-append (b.code [] 1 (h + 0 + 0)) (Const NoValue ∷ Return ∷ []),
    )
whole_lined k (suc j) y n h d few =
    let b = y.block n in
    let t = d.typed [] 0 [] (omega arith) (omega (arith, few)) in
    let l = t.lined in
    let c = t.sized [] 0 (h + 0) in
    omega (
      arith,
      l,
      c,
      length-append b.lines (y.line ∷ y.line ∷ []),
      length-append (b.code [] 0 (h + 0)) (Const NoValue ∷ Return ∷ []),
    )

-- a body that is no line of what is too large
large_none : (b : Bool) (l : ℕ) → (if b then Some l else None) ≡ None → b ≡ false
large_none true l e = absurd (cc)
large_none false l e = refl

or_false : (b c : Bool) → b ≡ false → c ≡ false → (b || c) ≡ false
or_false b c e f = subst (λ x. (x || c) ≡ false) (sym e) f

same_limits : (a c : Limits) → a.slots ≡ c.slots → a.keys ≡ c.keys → a.strings ≡ c.strings → a.cells ≡ c.cells →
    a.roots ≡ c.roots → a.params ≡ c.params → a.first ≡ c.first → a ≡ c
same_limits a c e1 e2 e3 e4 e5 e6 e7 i =
    record { slots = e1 i; keys = e2 i; strings = e3 i; cells = e4 i; roots = e5 i; params = e6 i; first = e7 i }

module _ (locals : List (List (List ℕ))) (ss : List Stmt) where
  abbrev all_locals : ℕ → List (List ℕ)
  all_locals = whole.locals_of locals ss

  abbrev us : List Use
  us = whole.uses locals ss

  abbrev all_texts : List (List ℕ)
  all_texts = whole.texts locals ss

  abbrev all_cells : List (List ℕ)
  all_cells = whole.cells locals ss

  abbrev all_keys : ℕ → List (List (List ℕ))
  all_keys = made.all_keys locals ss

  abbrev all_params : List ℕ
  all_params = made.all_params locals ss

  abbrev knows : ℕ → Bool → Known
  knows = known all_locals all_texts all_cells all_keys all_params

  abbrev nm : ℕ → Body → Known
  nm = whole.names_of locals ss

  abbrev rs : List Root
  rs = whole.roots locals ss

  abbrev codes : ℕ → List Body → List Code
  codes j ys = whole.codes_from nm j ys

  abbrev cs : List Code
  cs = codes 0 (whole.bodies ss)

  abbrev all : List Instr
  all = all_instrs cs

  abbrev code : ℕ → Body → Code
  code j y = whole.code_at j y (nm j y)

  abbrev inner : List Body
  inner = (stated_block ss).inner 1

  abbrev ok : ℕ → Type 0
  ok r = HasCellAt (names_of rs) (slice_get rs r)

  abbrev to : List ℕ → Type 0
  to x = has x all_texts ≡ true

  abbrev go : List ℕ → Type 0
  go x = has x all_cells ≡ true

  abbrev flags : ℕ → Bool
  flags f = get_or (map (λ y. y.is_class) (whole.bodies ss)) f false

  -- a string that is a global name too is the name of a cell
  abbrev TT : List (List ℕ)
  TT = all_texts ++ main_texts all_cells

  holds : (x : List ℕ) → to x → go x → ok (text (knows 0 false) x)
  holds x t g =
      let k = number_in x all_texts in
      let y = get_or all_texts k [] in
      let n = number_is x all_texts [] t in
      let w = n.0 in
      let same : x ≡ y = (bytes_eq-Decides x y).0 n.1 in
      let lt = length-append all_texts (main_texts all_cells) in
      let lm = length-map TT text_root in
      let a : get_or rs (21 + k) (text_root [])
      ≡ get_or (map text_root TT ++ map cell_root all_cells) k (text_root []) =
      get_or-append-add (cell_root [] ∷ class_roots 0 class_count) (map text_root TT ++ map cell_root all_cells) k
      (text_root []) in
      let b = get_or_append_left (map text_root TT) (map cell_root all_cells) (text_root []) k (omega (
        arith,
        w,
        lm,
        lt,
      )) in
      let c = get_or-map text_root TT k [] (text_root []) (omega (arith, w, lt)) in
      let e = get_or_append_left all_texts (main_texts all_cells) [] k w in
      let v : get_or rs (21 + k) (text_root []) ≡ text_root y = a ∙ b ∙ c ∙ ap text_root e in
      let within : 21 + k < length rs = omega (
        arith,
        w,
        lm,
        lt,
        length-append (map text_root TT) (map cell_root all_cells),
      ) in
      let s : slice_get rs (21 + k) ≡ Some (text_root y) = slice_get-get_or rs (21 + k) (text_root []) within ∙
      ap Some v in
      let h : has y (names_of rs) ≡ true = ap (has y) (names_told TT all_cells) ∙ subst (λ z. has z all_cells
      ≡ true) same g in
      subst (HasCellAt (names_of rs)) (sym s) h

  -- uses are in their lists
  notes : (vs : List Use) → Every (Noted all_texts all_cells all_keys) vs → Every (NoteOk to go) vs
  notes [] h = tt
  notes (Text x ∷ vs) h = (h.0, notes vs h.1)
  notes (Global x ∷ vs) h = (h.0, notes vs h.1)
  notes (Keys c ks ∷ vs) h = (tt, notes vs h.1)

  -- what a code may name
  codes_params : (j : ℕ) (ys : List Body) → map (λ x. x.params) (codes j ys) ≡ map (λ y. y.params) ys
  codes_params j [] = refl
  codes_params j (y ∷ ys) = ap (λ l. y.params ∷ l) (codes_params (j + 1) ys)

  limits_same : (j : ℕ) (y : Body) → lim all_locals all_texts all_cells all_keys all_params j (length (code j y).slots)
      (first_place j) ≡ limits_of cs rs j
      (code j y)
  limits_same j y =
      let lt = length-append all_texts (main_texts all_cells) in
      let tl : length (texts_of rs) ≡ length TT = ap length (texts_told TT all_cells) in
      let cells : 21 + length all_texts + length (main_texts all_cells) ≡ 21 + length (texts_of rs) = omega (
        arith,
        tl,
        lt,
      ) in
      let roots : 21 + length all_texts + length (main_texts all_cells) + length all_cells ≡ length rs =
      omega (
        arith,
        lt,
        length-map TT text_root,
        length-map all_cells cell_root,
        length-append (map text_root TT) (map cell_root all_cells),
      ) in
      same_limits (lim all_locals all_texts all_cells all_keys all_params j (length (code j y).slots) (first_place j))
      (limits_of cs rs j (code j y)) refl refl
      refl cells roots (sym (codes_params 0 (whole.bodies ss))) refl

  -- the code of each body is among all instructions
  codes_sit : (j : ℕ) (ys : List Body) → ((g : ℕ) → Opens (all_instrs (codes j ys)) g → Opens all g) →
      BodiesSit knows all j ys
  codes_sit j [] h = tt
  codes_sit j (y ∷ ys) h =
      let a = (code j y).instrs in
      let c = all_instrs (codes (j + 1) ys) in (
        whole_sits knows all j y (knows j y.is_class) (length (whole.slots_named y.is_class (all_locals j)))
            (λ g o. h g (opens_front a c g o)),
        codes_sit (j + 1) ys (λ g o. h g (opens_back a c g o)),
      )

  all_open : AllOpen knows all 0 (whole.bodies ss)
  all_open = let s = codes_sit 0 (whole.bodies ss) (λ g o. o) in ((λ e. absurd (cc)), module_opens knows all ss s.0 s.1)

  module _ (free : (j : ℕ) (x : List ℕ) → is_none x ≡ true → has x (all_locals j) ≡ false) where
    abbrev FlagsOf : (ℕ → Bool) → ℕ → List Body → Type 0
    FlagsOf fs f ys = Flagged all_locals all_texts all_cells all_keys all_params
        (made.none locals ss) ok fs to go holds free f ys

    abbrev Cleans : ℕ → List Body → Type 0
    Cleans f ys = BodiesClean all_locals all_texts all_cells all_keys all_params
        (made.none locals ss) ok flags to go holds free f ys

    flag_all : (pre ys : List Body) → 0 < length pre →
        FlagsOf (λ f. get_or (map (λ y. y.is_class) (pre ++ ys)) f false) (length pre) ys
    flag_all pre [] lt = tt
    flag_all pre (y ∷ ys) lt =
        let fs : List Bool = map (λ y. y.is_class) (pre ++ y ∷ ys) in
        let parts : fs ≡ map (λ y. y.is_class) pre ++ y.is_class ∷ map (λ y. y.is_class) ys =
        map-append (λ y. y.is_class) pre (y ∷ ys) in
        let long : length (map (λ y. y.is_class) pre) ≡ length pre = length-map pre (λ y. y.is_class) in
        let here : get_or fs (length pre) false ≡ y.is_class = ap (λ l. get_or l (length pre) false) parts ∙
        sym (ap (λ i. get_or (map (λ y. y.is_class) pre ++ y.is_class ∷ map (λ y. y.is_class) ys) i false) long) ∙
        get_or-append_seam (map (λ y. y.is_class) pre) y.is_class (map (λ y. y.is_class) ys) false in
        let m : length (pre ++ y ∷ []) ≡ length pre + 1 = omega (arith, length-append pre (y ∷ [])) in
        let rest = flag_all (pre ++ y ∷ []) ys (omega (arith, m)) in
        let rest' = subst (λ l. FlagsOf (λ f. get_or (map (λ y. y.is_class) l) f false) (length (pre ++ y ∷ [])) ys)
        (append_assoc pre (y ∷ []) ys) rest in
        ((lt, here), subst (λ i. FlagsOf (λ f. get_or fs f false) i ys) m rest')

    cleans : legal_all ss false false ≡ true → Cleans 0 (whole.bodies ss)
    unfolding module_uses
    cleans h = module_clean all_locals all_texts all_cells all_keys all_params
        (made.none locals ss) ok flags to go holds free ss h
        (notes us (all_noted [] [] (λ j. [] ∷ []) us)) (flag_all (whole.module_body ss ∷ []) inner (omega arith))

    fits : (j : ℕ) (y : Body) → IsClean ok flags y.is_class (y.block (knows j y.is_class)) →
        FitAll ok flags j y.is_class (code j y).instrs
    fits j y c = whole_fit ok flags j y.is_class y (knows j y.is_class)
        (length (whole.slots_named y.is_class (all_locals j))) c

    -- what is no class body's isn't opened
    none_open : (f : ℕ) → flags f ≡ false → (j : ℕ) (ys : List Body) → Cleans j ys →
        list_any (opens_body f) (all_instrs (codes j ys)) ≡ false
    none_open f e j [] h = refl
    none_open f e j (y ∷ ys) h =
        let a = (code j y).instrs in
        let c = all_instrs (codes (j + 1) ys) in
        list_any-append (opens_body f) a c ∙ or_false (list_any (opens_body f) a) (list_any (opens_body f) c)
        (fit_none ok flags j y.is_class f a (fits j y h.0) e) (none_open f e (j + 1) ys h.1)

    other : Cleans 0 (whole.bodies ss) → (f : ℕ) → flags f ≡ false → is_body cs f ≡ false
    other h f e = none_open f e 0 (whole.bodies ss) h

    code_ok : Cleans 0 (whole.bodies ss) → (j : ℕ) (y : Body) →
        ((sl p : ℕ) → Slotted all_locals all_texts all_cells all_keys all_params j y.is_class sl →
        Does (lim all_locals all_texts all_cells all_keys all_params j sl p) [] (y.block (knows j y.is_class)))
        → IsClean ok flags y.is_class (y.block (knows j y.is_class)) → (y.is_class ≡ true → Opens all j) →
        whole.large_at j y (nm j y) ≡ None → y.params ≤ length (whole.slots_named y.is_class (all_locals j)) →
        IsRightCode cs rs j (code j y)
    code_ok h j y d c o e q =
        let few = ltb-false 65535 (whole.whole j y (nm j y)).size
        (large_none (nat_lt 65535 (whole.whole j y (nm j y)).size) y.line e) in
        let fit = fits j y c in
        let long = made.slots_long locals ss j y in
        let slots = length (whole.slots_named y.is_class (all_locals j)) in
        let whole_code = subst (λ k. IsWhole k (code j y).instrs) (limits_same j y)
        (made.code_right locals ss j y d (omega (arith, few))) in
        record {
          lined = whole_lined (lim all_locals all_texts all_cells all_keys all_params j (slots + 0) 0) j y
              (knows j y.is_class) slots
              (d (slots + 0) 0 (made.named_slotted locals ss y.is_class j 0)) (omega (arith, few));
          slotted = omega (arith, q, long);
          sets_up = fit_setup ok flags j y.is_class (code j y).instrs fit;
          belongs = fit_belongs cs rs flags j y.is_class o (other h) (code j y).instrs fit;
          forward = whole_code.forward;
          typed = whole_code.right;
        }

    codes_right : Cleans 0 (whole.bodies ss) → (j : ℕ) (ys : List Body) →
        BodiesOk all_locals all_texts all_cells all_keys all_params j ys → Cleans j ys →
        AllOpen knows all j ys → whole.large_bodies nm j ys ≡ None → ParamsFit locals j ys →
        AreRight cs rs j (codes j ys)
    codes_right h j [] d c o e q = tt
    codes_right h j (y ∷ ys) d c o e q =
        let p = least_apart (whole.large_at j y (nm j y)) (whole.large_bodies nm (j + 1) ys) e in
        (code_ok h j y d.0 c.0 o.0 p.0 q.0, codes_right h (j + 1) ys d.1 c.1 o.1 p.1 q.1)

    pub right_program : legal_all ss false false ≡ true → ParamsFit locals 0 (whole.bodies ss) →
        whole.too_large locals ss ≡ None → IsRightProgram (record { codes = cs; roots = rs })
    right_program h q e =
        let p = parts locals ss e in
        let c = cleans h in
        record {
          roots = roots_right locals ss p.0;
          first = omega arith;
          each =
              codes_right c 0 (whole.bodies ss) (made.all_do locals ss h) c all_open p.1 q;
        }

-- What a module compiles to is right, where it is legal, `None` is no name that a body binds, parameters are among the
-- names that their function binds, and nothing is too large.
pub program_right : (locals : List (List (List ℕ))) (m : Module) → legal_all m.body false false ≡ true →
    ((j : ℕ) (x : List ℕ) → is_none x ≡ true → has x (whole.locals_of locals m.body j) ≡ false) →
    ParamsFit locals 0 (whole.bodies m.body) → whole.too_large_in locals m ≡ None →
    IsRightProgram (whole.program_of locals m)
unfolding whole.program_of whole.too_large_in
program_right locals m h free q e = right_program locals m.body free h q e
