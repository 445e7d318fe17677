-- A whole body is right.
use Rattle.std.proofs.Common.{◌≡◌, ℕ, zero, suc, ◌+◌, ◌<◌, ◌≤◌, ◌^◌, ⊎_elim, get_or, List, [], ◌∷◌, ◌++◌, Option, Some, None, length, refl, sym, ap, ◌∙◌, subst, arith, length-append, append_assoc, map}
use Rattle.std.specs.Prelude.{slice_get}
use Rattle.std.proofs.Math.Seq.{get_or-append_seam}
use Rattle.std.proofs.lemmas.List.{length-map}
use Rattle.std.proofs.lemmas.Bool.{cases_lt}
use Rattle.std.proofs.lemmas.Option.{slice_get-get_or, slice_get_within}
use Rattle.py_code.specs.declared.instr.Constant.TheVariants.{None as NoValue}
use Rattle.py_code.specs.declared.instr.Instr.{Instr}
use Rattle.py_code.specs.declared.instr.Instr.TheVariants.{Setup, Const, Return}
use Rattle.py_code.specs.Effects.{Limits, Sh}
use Rattle.py_code.specs.Typing.{shape_at, start, RightAt, IsRight, AllForward}
use Rattle.py_templates.specs.Template.{Piece, Op, Sub, template}
use Rattle.py_templates.specs.Table.{body_code, module_code}
use Rattle.py_templates.proofs.Typed.{HasCode, HasShapes, code_front, code_back, shapes_front, shapes_back, EnvFits, AllRight, Typed, op_right, none_right, template_typed}
use Rattle.compiler_laws.proofs.Ops.{sh, op}
use Rattle.compiler_laws.proofs.Surrounds.{Does}

code_all : (is pre : List Instr) → HasCode (pre ++ is) (length pre) is
code_all [] pre = tt
code_all (i ∷ is) pre =
    let within : length pre < length (pre ++ i ∷ is) = omega (arith, length-append pre (i ∷ is)) in
    let here = slice_get-get_or (pre ++ i ∷ is) (length pre) i within ∙ ap Some (get_or-append_seam pre i is i) in
    let m : length (pre ++ i ∷ []) ≡ length pre + 1 = omega (arith, length-append pre (i ∷ [])) in
    let rest = code_all is (pre ++ i ∷ []) in
    let rest' = subst (λ l. HasCode l (length (pre ++ i ∷ [])) is) (append_assoc pre (i ∷ []) is) rest in
    (here, subst (λ k. HasCode (pre ++ i ∷ is) k is) m rest')

shapes_all : (ss : List Sh) (pre : List (Option Sh)) → HasShapes (pre ++ map Some ss) (length pre) ss
shapes_all [] pre = tt
shapes_all (s ∷ ss) pre =
    let here = get_or-append_seam pre (Some s) (map Some ss) None in
    let m : length (pre ++ Some s ∷ []) ≡ length pre + 1 = omega (arith, length-append pre (Some s ∷ [])) in
    let rest = shapes_all ss (pre ++ Some s ∷ []) in
    let rest' = subst (λ l. HasShapes l (length (pre ++ Some s ∷ [])) ss)
    (append_assoc pre (Some s ∷ []) (map Some ss)) rest in
    (here, subst (λ k. HasShapes (pre ++ Some s ∷ map Some ss) k ss) m rest')

-- the instructions before the body's: none, or SETUP
pub record Front (k : Limits) (pre : List Instr) (ss : List Sh) : Type 0 where
  pub long : length ss ≡ length pre
  pub lo : k.first ≤ length pre
  pub right : (code : List Instr) (t : List (Option Sh)) → HasCode code 0 pre → HasShapes t 0 ss →
      shape_at t (length pre) ≡ Some start → AllRight k code t 0 (length pre) × (shape_at t 0 ≡ Some start)

-- a code is right, and none of its instructions leads back too far
pub record IsWhole (k : Limits) (code : List Instr) : Type 0 where
  pub right : IsRight k code
  pub forward : AllForward k code

some_at : (ss : List Sh) (p : ℕ) → p < length ss → (s : Sh) × (shape_at (map Some ss) p ≡ Some s)
some_at [] p lt = absurd (omega (arith, lt))
some_at (s ∷ ss) zero lt = (s, refl)
some_at (s ∷ ss) (suc p) lt = some_at ss p (omega (arith, lt))

-- these, a piece that leaves one value, and RETURN
pub closed : (k : Limits) (pre : List Instr) (ss : List Sh) (b : Piece) (h : ℕ) → Front k pre ss →
    Typed k b [] start (sh 1 []) → h + b.slots ≤ k.slots → length pre + (b.size + 1) < 2 ^ 16 →
    IsWhole k (pre ++ (b.code [] (length pre) h ++ Return ∷ []))
closed k pre ss b h front t le few = record {
  right = (
    shapes,
    record {
      few = omega (arith, len_code, few);
      long = long;
      starts = front_right.1;
      each =
          each;
    },
  );
  forward = forward;
}
  where
    n : ℕ
    n = length pre

    code1 : List Instr
    code1 = b.code [] (length pre) h

    code : List Instr
    code = pre ++ (code1 ++ Return ∷ [])

    all_ss : List Sh
    all_ss = ss ++ (t.shapes ++ sh 1 [] ∷ [])

    shapes : List (Option Sh)
    shapes = map Some all_ss

    len_code : length code ≡ length pre + (b.size + 1)
    len_code = omega (
      arith,
      length-append pre (code1 ++ Return ∷ []),
      length-append code1 (Return ∷ []),
      t.sized [] (length pre) h,
    )

    len : length all_ss ≡ length code
    len = omega (
      arith,
      length-append ss (t.shapes ++ sh 1 [] ∷ []),
      length-append t.shapes (sh 1 [] ∷ []),
      t.long,
      front.long,
      len_code,
    )

    long : length shapes ≡ length code
    long = simp length-map len

    all : HasShapes shapes 0 all_ss
    all = shapes_all all_ss []

    has : HasCode code 0 code
    has = code_all code []

    rest_code : HasCode code (length pre) (code1 ++ Return ∷ [])
    rest_code = code_back code 0 (length pre) pre (code1 ++ Return ∷ []) (omega arith) has

    rest_shapes : HasShapes shapes (length pre) (t.shapes ++ sh 1 [] ∷ [])
    rest_shapes = shapes_back shapes 0 (length pre) ss (t.shapes ++ sh 1 [] ∷ []) (omega (arith, front.long)) all

    last_code : HasCode code (length pre + b.size) (Return ∷ [])
    last_code = code_back code (length pre) (length pre + b.size) code1 (Return ∷ [])
        (ap (λ x. length pre + x) (t.sized [] (length pre) h)) rest_code

    last_shapes : HasShapes shapes (length pre + b.size) (sh 1 [] ∷ [])
    last_shapes = shapes_back shapes (length pre) (length pre + b.size) t.shapes (sh 1 [] ∷ [])
        (ap (λ x. length pre + x) t.long) rest_shapes

    body_starts : shape_at shapes (length pre) ≡ Some start
    body_starts = t.head shapes (length pre) (shapes_front shapes (length pre) t.shapes (sh 1 [] ∷ []) rest_shapes)
        last_shapes.0

    front_right : AllRight k code shapes 0 (length pre) × (shape_at shapes 0 ≡ Some start)
    front_right = front.right code shapes (code_front code 0 pre (code1 ++ Return ∷ []) has)
        (shapes_front shapes 0 ss (t.shapes ++ sh 1 [] ∷ []) all) body_starts

    inside : AllRight k code shapes (length pre) b.size
    inside = t.right code shapes [] (length pre) h front.lo
        (code_front code (length pre) code1 (Return ∷ []) rest_code)
        (shapes_front shapes (length pre) t.shapes (sh 1 [] ∷ []) rest_shapes) last_shapes.0 none le
      where
        none : EnvFits k shapes [] []
        none d = record { labels = λ l s e. cc; slot = λ lt. omega (arith, lt) }

    at_return : (i : Instr) (s : Sh) (p : ℕ) → length pre + b.size ≡ p → slice_get code p ≡ Some i →
        shape_at shapes p ≡ Some s → RightAt k shapes p i s
    at_return i s p e hi hs =
        let a : slice_get code p ≡ Some Return = sym (ap (slice_get code) e) ∙ last_code.0 in
        let c : shape_at shapes p ≡ Some (sh 1 []) = sym (ap (shape_at shapes) e) ∙ last_shapes.0 in
        let ei : Return ≡ i = cc in
        let es : sh 1 [] ≡ s = cc in
        let r : RightAt k shapes p Return (sh 1 []) =
        record {
          fine = record { operands = omega arith; room = omega arith; block = tt; known = tt };
          leads =
              record { jump = λ q x. cc; next = λ x. cc };
        } in
        rw (← ei, ← es) r

    each : (p : ℕ) (i : Instr) (s : Sh) → slice_get code p ≡ Some i → shape_at shapes p ≡ Some s →
        RightAt k shapes p i s
    each p i s hi hs =
        let w : p < length code = slice_get_within code p i hi in
        ⊎_elim (λ (x : p < length pre). front_right.0.at p i s (omega arith) (omega (arith, x)) hi hs)
        (λ (x : length pre ≤ p). ⊎_elim (λ (y : p < length pre + b.size). inside.at p i s x (omega (arith, y)) hi hs)
        (λ (y : length pre + b.size ≤ p). at_return i s p (omega (arith, y, w, len_code)) hi hs)
        (cases_lt p (length pre + b.size)))
        (cases_lt p (length pre))

    -- each place has a shape, so what holds of the places that have one holds of each instruction
    forward : AllForward k code
    forward p d lt =
        let s = some_at all_ss p (omega (arith, lt, len)) in
        let r = each p (get_or code p d) s.0 (slice_get-get_or code p d lt) s.1 in
        λ q e. (r.leads.jump q e).0

no_front : (k : Limits) → k.first ≡ 0 → Front k [] []
no_front k e = record { long = refl; lo = omega (arith, e); right = λ code t hc hs st. (none_right k code t 0, st) }

setup_front : (k : Limits) → k.first ≤ 1 → Front k (Setup ∷ []) (start ∷ [])
setup_front k le = record {
  long = refl;
  lo = le;
  right = λ code t hc hs st. (
    op_right k code t 0 Setup start start hc.0 hs.0 st (op k Setup 0 0 [] refl tt (omega arith) (omega arith) refl),
    hs.0,
  );
}

valued : (k : Limits) (ln : ℕ) (b : Piece) → Does k [] b → b.size < 2 ^ 16 →
    Typed k (template ln 0 0 (Sub 1 b ∷ Op (Const NoValue) ∷ [])) [] start (sh 1 [])
valued k ln b d few = template_typed k ln 0 0 (Sub 1 b ∷ Op (Const NoValue) ∷ []) [] [] start (sh 1 []) refl refl (
  start,
  d.typed [] 0 [] (omega arith) (omega (arith, few)),
  (sh 1 [], op k (Const NoValue) 0 1 [] refl tt (omega arith) (omega arith) refl, refl),
)

-- the code of a function's or class's body
pub body_right : (k : Limits) (ln h : ℕ) (b : Piece) → Does k [] b → k.first ≡ 0 → h + b.slots ≤ k.slots →
    (body_code ln b).size < 2 ^ 16 → IsWhole k ((body_code ln b).code [] 0 h)
body_right k ln h b d e le few =
    let r = closed k [] [] (template ln 0 0 (Sub 1 b ∷ Op (Const NoValue) ∷ [])) h (no_front k e)
    (valued k ln b d (omega (arith, few))) (omega (arith, le)) (omega (arith, few)) in
    simp append_assoc at r

-- the code of the module
pub module_right : (k : Limits) (ln h : ℕ) (b : Piece) → Does k [] b → k.first ≤ 1 → h + b.slots ≤ k.slots →
    (module_code ln b).size < 2 ^ 16 → IsWhole k ((module_code ln b).code [] 0 h)
module_right k ln h b d e le few =
    let r = closed k (Setup ∷ []) (start ∷ []) (template ln 0 0 (Sub 1 b ∷ Op (Const NoValue) ∷ [])) h
    (setup_front k e) (valued k ln b d (omega (arith, few))) (omega (arith, le)) (omega (arith, few)) in
    let q : IsWhole k (Setup ∷ (b.code [] 1 (h + 0) ++ Const NoValue ∷ Return ∷ [])) = simp append_assoc at r in
    let z : h + 0 ≡ h + 0 + 0 = omega arith in
    subst (λ y. IsWhole k (Setup ∷ (b.code [] 1 y ++ Const NoValue ∷ Return ∷ []))) z q
