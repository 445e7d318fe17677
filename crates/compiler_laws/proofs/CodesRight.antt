-- Each code of a legal module is right by itself: its instructions lead from shape to shape.
use Rattle.std.proofs.Common.{◌≡◌, ◌∙◌, ◌==◌, ℕ, zero, suc, ◌+◌, ◌<◌, ◌^◌, List, [], ◌∷◌, ◌++◌, Bool, true, false, refl, sym, ap, subst, arith, length, map, get_or, length-append, append_assoc}
use Rattle.std.specs.Prelude.{if◌then◌else◌, replicate}
use Rattle.std.specs.List.{list_any}
use Rattle.std.proofs.Math.Seq.{get_or-append_seam}
use Rattle.std.proofs.lemmas.List.{length-map, map-append, length-replicate}
use Rattle.py_code.specs.declared.program.Code.{Code}
use Rattle.py_code.specs.Right.{first_place}
use Rattle.py_tree.specs.declared.stmt.Stmt.{Stmt}
use Rattle.py_templates.specs.Table.{body_code, module_code}
use Rattle.py_templates.specs.Names.{same_names}
use Rattle.py_templates.specs.Uses.{Use, Text, Global, Keys, with_keys, keys_from, module_uses}
use Rattle.py_templates.specs.Statements.{Body, stated_block}
use Rattle.compiler_laws.proofs.Legal.{legal_all}
use Rattle.py_templates.specs.Whole as whole
use Rattle.compiler_laws.proofs.Surrounds.{Does}
use Rattle.compiler_laws.proofs.Program.{IsWhole, body_right, module_right}
use Rattle.compiler_laws.proofs.World.{known, lim, Wide, HasNone, Slotted, Standing, BodiesOk}
use Rattle.compiler_laws.proofs.StmtTyped.{block_rel}
use Rattle.compiler_laws.proofs.BodyTyped.{stmts_rel}
use Rattle.compiler_laws.proofs.Numbers as numbers

-- the keyword lists of a body begin with the empty one
keys_grow : (kss rest : List (List (List ℕ))) (ks : List (List ℕ)) (a b : Bool) → kss ≡ [] ∷ rest →
    (more : List (List (List ℕ))) × ((if a then (if b then kss else kss ++ ks ∷ []) else kss) ≡ [] ∷ more)
keys_grow kss rest ks true true e = (rest, e)
keys_grow kss rest ks true false e = (rest ++ ks ∷ [], ap (λ l. l ++ ks ∷ []) e)
keys_grow kss rest ks false b e = (rest, e)

keys_first : (j : ℕ) (us : List Use) (kss rest : List (List (List ℕ))) → kss ≡ [] ∷ rest →
    (more : List (List (List ℕ))) × (keys_from j kss us ≡ [] ∷ more)
keys_first j [] kss rest e = (rest, e)
keys_first j (Text x ∷ us) kss rest e = keys_first j us kss rest e
keys_first j (Global x ∷ us) kss rest e = keys_first j us kss rest e
keys_first j (Keys c ks ∷ us) kss rest e = let g = keys_grow kss rest ks (j == c) (list_any (same_names ks) kss) e in
    keys_first j us (if j == c then with_keys kss ks else kss) g.0 g.1

-- bodies stand at their numbers
stand_all : (locals : ℕ → List (List ℕ)) (texts cells : List (List ℕ)) (keys : ℕ → List (List (List ℕ)))
    (pre ys : List Body) → Standing locals texts cells keys (map (λ y. y.params) (pre ++ ys)) (length pre) ys
stand_all locals texts cells keys pre [] = tt
stand_all locals texts cells keys pre (y ∷ ys) =
    let ps : List ℕ = map (λ y. y.params) (pre ++ y ∷ ys) in
    let parts : ps ≡ map (λ y. y.params) pre ++ y.params ∷ map (λ y. y.params) ys =
    map-append (λ y. y.params) pre (y ∷ ys) in
    let long : length (map (λ y. y.params) pre) ≡ length pre = length-map pre (λ y. y.params) in
    let lp = length-map (pre ++ y ∷ ys) (λ y. y.params) in
    let here : get_or ps (length pre) 0 ≡ y.params = ap (λ l. get_or l (length pre) 0) parts ∙
    sym (ap (λ i. get_or (map (λ y. y.params) pre ++ y.params ∷ map (λ y. y.params) ys) i 0) long) ∙
    get_or-append_seam (map (λ y. y.params) pre) y.params (map (λ y. y.params) ys) 0 in
    let m : length (pre ++ y ∷ []) ≡ length pre + 1 = omega (arith, length-append pre (y ∷ [])) in
    let rest = stand_all locals texts cells keys (pre ++ y ∷ []) ys in
    let rest' = subst (λ l. Standing locals texts cells keys (map (λ y. y.params) l) (length (pre ++ y ∷ [])) ys)
    (append_assoc pre (y ∷ []) ys) rest in (
      (omega (arith, lp, length-append pre (y ∷ ys)), here),
      subst (λ i. Standing locals texts cells keys ps i ys) m rest',
    )

module _ (locals : List (List (List ℕ))) (ss : List Stmt) where
  abbrev pub all_locals : ℕ → List (List ℕ)
  all_locals = whole.locals_of locals ss

  abbrev pub us : List Use
  us = whole.uses locals ss

  abbrev pub all_texts : List (List ℕ)
  all_texts = whole.texts locals ss

  abbrev pub all_cells : List (List ℕ)
  all_cells = whole.cells locals ss

  abbrev pub all_keys : ℕ → List (List (List ℕ))
  all_keys j = keys_from j ([] ∷ []) us

  abbrev pub all_params : List ℕ
  all_params = map (λ y. y.params) (whole.bodies ss)

  pub none : HasNone all_locals all_texts all_cells all_keys all_params
  none j = keys_first j us ([] ∷ []) [] refl

  pub wide : Wide all_locals all_texts all_cells all_keys all_params us
  wide = numbers.wide all_locals all_texts all_cells all_keys all_params us (numbers.all_noted [] [] (λ j. [] ∷ []) us)

  standing : Standing all_locals all_texts all_cells all_keys all_params 1 ((stated_block ss).inner 1)
  standing = stand_all all_locals all_texts all_cells all_keys (whole.module_body ss ∷ []) ((stated_block ss).inner 1)

  -- the code of each body does what a block does
  abbrev pub AllDo : ℕ → List Body → Type 0
  AllDo f ys = BodiesOk all_locals all_texts all_cells all_keys all_params f ys

  pub all_do : legal_all ss false false ≡ true → AllDo 0 (whole.bodies ss)
  unfolding module_uses
  all_do h =
      let r = block_rel all_locals all_texts all_cells all_keys all_params none
      (stmts_rel all_locals all_texts all_cells all_keys all_params none ss) in
      ((λ sl p s. r.good 0 false sl p s 1 [] h wide standing), r.inner false false 0 false 1 h wide standing)

  -- the slots of a code
  pub named_slotted : (z : Bool) (j : ℕ) (m : ℕ) →
      Slotted all_locals all_texts all_cells all_keys all_params j z (length (whole.slots_named z (all_locals j)) + m)
  named_slotted false j m e = omega arith
  named_slotted true j m e = absurd (cc)

  abbrev pub code_at : ℕ → Body → Code
  code_at j y = whole.code_by y (whole.names_of locals ss j y) (whole.whole j y (whole.names_of locals ss j y))

  pub slots_long : (j : ℕ) (y : Body) →
      length (code_at j y).slots ≡ length (whole.slots_named y.is_class (all_locals j)) +
      (whole.whole j y (whole.names_of locals ss j y)).slots
  slots_long j y = let p = whole.whole j y (whole.names_of locals ss j y) in let e : List ℕ = [] in let n =
      length-replicate p.slots e in omega
      (arith, n, length-append (whole.slots_named y.is_class (all_locals j)) (replicate p.slots []))

  -- a code that isn't too large is right
  pub code_right : (j : ℕ) (y : Body) →
      ((sl p : ℕ) → Slotted all_locals all_texts all_cells all_keys all_params j y.is_class sl →
      Does (lim all_locals all_texts all_cells all_keys all_params j sl p) []
      (y.block (known all_locals all_texts all_cells all_keys all_params j y.is_class))) →
      (whole.whole j y (whole.names_of locals ss j y)).size < 2 ^ 16 →
      IsWhole (lim all_locals all_texts all_cells all_keys all_params j (length (code_at j y).slots) (first_place j))
      (code_at j y).instrs
  code_right zero y d few =
      let b = y.block (known all_locals all_texts all_cells all_keys all_params zero y.is_class) in
      let h = length (whole.slots_named y.is_class (all_locals zero)) in
      let m = slots_long zero y in
      module_right (lim all_locals all_texts all_cells all_keys all_params zero
      (length (code_at zero y).slots) 1) y.line h b
      (d (length (code_at zero y).slots) 1
      (subst (Slotted all_locals all_texts all_cells all_keys all_params zero y.is_class) (sym m)
      (named_slotted y.is_class zero (module_code y.line b).slots))) (omega arith) (omega (arith, m)) few
  code_right (suc j) y d few =
      let b = y.block (known all_locals all_texts all_cells all_keys all_params (suc j) y.is_class) in
      let h = length (whole.slots_named y.is_class (all_locals (suc j))) in
      let m = slots_long (suc j) y in
      body_right (lim all_locals all_texts all_cells all_keys all_params (suc j)
      (length (code_at (suc j) y).slots) 0) y.line h b
      (d (length (code_at (suc j) y).slots) 0
      (subst (Slotted all_locals all_texts all_cells all_keys all_params (suc j) y.is_class) (sym m)
      (named_slotted y.is_class (suc j) (body_code y.line b).slots))) refl (omega (arith, m)) few
