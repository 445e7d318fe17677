-- What a program is put together from: the codes one after another, and roots.
use Rattle.std.proofs.Common.{◌≡◌, ℕ, zero, suc, ◌+◌, ◌<◌, ◌≤◌, List, [], ◌∷◌, ◌++◌, Option, None, length, get_or, refl, sym, ap, ◌∙◌, arith, map, take, subst, ◌-◌}
use Rattle.std.specs.Prelude.{unwrap_or, replicate}
use Rattle.std.proofs.lemmas.List.{take_more}
use Rattle.py_code.specs.declared.instr.Instr.{Instr}
use Rattle.py_code.specs.declared.program.Code.{Code}
use Rattle.py_uses.specs.declared.bodies.Body.{Body as Gathered}
use Rattle.py_code.specs.declared.instr.Constant.TheVariants.{None as NoValue}
use Rattle.py_code.specs.declared.instr.Instr.TheVariants.{Setup, Const, Return}
use Rattle.py_emit.specs.declared.draft.Draft.TheVariants.{Op as DraftOp}
use Rattle.py_templates.specs.Template.{Frame, Piece, Op, Sub}
use Rattle.py_templates.specs.Table.{body_code, module_code}
use Rattle.py_emit.proofs.Emits.{plain_emitted}
use Rattle.py_templates.specs.Names.{Known, text}
use Rattle.py_emit.specs.inner.State.{St, fresh, put, done, places_of, no_frames, Agree, Emitted}
use Rattle.py_templates.specs.Statements.{Body}
use Rattle.py_uses.specs.inner.Gathered.{body_of, numbered}
use Rattle.py_uses.specs.inner.Tallies.{Tally}
use Rattle.py_compile.specs.inner.Bodies.{known_by, known_in}
use Rattle.py_templates.proofs.Leasts.{least_apart, least_both, least_none}
use Rattle.py_templates.specs.Whole.{whole, slots_named, code_at, large_at, least, codes_from, large_bodies}
use Rattle.py_uses.proofs.Gathers.{numbered_more}
use Rattle.py_code.specs.Right.{class_roots}

-- ---- the codes

pub length_numbered : (f : ℕ) (xs : List Gathered) → length (numbered f xs) ≡ length xs
length_numbered f [] = refl
length_numbered f (x ∷ xs) = ap suc (length_numbered (f + 1) xs)

length_take_below : {X : Type 0} (xs : List X) (i : ℕ) → i < length xs → length (take i xs) ≡ i
length_take_below [] i lt = absurd (omega (arith, lt))
length_take_below (x ∷ xs) zero lt = refl
length_take_below (x ∷ xs) (suc i) lt = ap suc (length_take_below xs i (omega (arith, lt)))

-- one body more, where these are numbered from 0 on
pub numbered_next : (bs : List Gathered) (i : ℕ) (d : Gathered) → i < length bs →
    numbered 0 (take (i + 1) bs) ≡ numbered 0 (take i bs) ++ body_of i (get_or bs i d) ∷ []
numbered_next bs i d lt =
    let n : 0 + length (take i bs) ≡ i = omega (arith, length_take_below bs i lt) in
    ap (numbered 0) (take_more bs i d lt) ∙ numbered_more 0 (take i bs) (get_or bs i d) ∙
    ap (λ k. numbered 0 (take i bs) ++ body_of k (get_or bs i d) ∷ []) n

module _ (known : ℕ → Body → Known) where
  pub codes_more : (b : ℕ) (ys : List Body) (y : Body) → codes_from known b (ys ++ y ∷ []) ≡ codes_from known b ys ++
      code_at (b + length ys) y (known (b + length ys) y) ∷ []
  codes_more b [] y = let e : b ≡ b + 0 = omega arith in ap (λ k. code_at k y (known k y) ∷ []) e
  codes_more b (x ∷ xs) y =
      let e : b + 1 + length xs ≡ b + suc (length xs) = omega arith in
      ap (λ z. code_at b x (known b x) ∷ z) (codes_more (b + 1) xs y) ∙
      ap (λ k. code_at b x (known b x) ∷ codes_from known (b + 1) xs ++ code_at k y (known k y) ∷ []) e

  pub large_more : (b : ℕ) (ys : List Body) (y : Body) →
      large_bodies known b (ys ++ y ∷ []) ≡ least (large_bodies known b ys)
      (large_at (b + length ys) y (known (b + length ys) y))
  large_more b [] y = let e : b ≡ b + 0 = omega arith in least_none (large_at b y (known b y)) ∙
      ap (λ k. large_at k y (known k y)) e
  large_more b (x ∷ xs) y =
      let e : b + 1 + length xs ≡ b + suc (length xs) = omega arith in
      ap (λ z. least (large_at b x (known b x)) z) (large_more (b + 1) xs y)
      ∙ sym (least_both (large_at b x (known b x)) (large_bodies known (b + 1) xs)
      (large_at (b + 1 + length xs) y (known (b + 1 + length xs) y)))
      ∙ ap (λ k. least (least (large_at b x (known b x)) (large_bodies known (b + 1) xs)) (large_at k y (known k y))) e

-- within a list no default counts
within_list : {X : Type 0} (xs : List X) (i : ℕ) (d e : X) → i < length xs → get_or xs i d ≡ get_or xs i e
within_list [] i d e lt = absurd (omega (arith, lt))
within_list (x ∷ xs) zero d e lt = refl
within_list (x ∷ xs) (suc i) d e lt = within_list xs i d e (omega (arith, lt))

-- one body more
module _ (locals : List (List (List ℕ))) (used : Tally) (bs : List Gathered) where
  K : ℕ → Body → Known
  K = known_in locals used

  abbrev pub SoFar : ℕ → ℕ → Option ℕ → List Code → Type 0
  SoFar i number found out =
      (number ≡ i)
      × ((found ≡ large_bodies (known_in locals used) 0 (numbered 0 (take i bs)))
      × (found ≡ None → out ≡ codes_from (known_in locals used) 0 (numbered 0 (take i bs))))

  turn_at : (i : ℕ) (y : Gathered) (own : List (List ℕ)) (found found' : Option ℕ) (out out' : List Code) →
      i < length bs → y ≡ get_or bs i y → own ≡ get_or locals i [] → SoFar i i found out →
      found' ≡ least found (large_at i (body_of i y) (known_by own used i y.is_class)) →
      (found' ≡ None → out' ≡ out ++ code_at i (body_of i y) (known_by own used i y.is_class) ∷ []) →
      SoFar (i + 1) (i + 1) found' out'
  unfolding K
  turn_at i y own found found' out out' lt hy hown so e f =
      (refl, (larges, λ none. codes none))
    where
      more : numbered 0 (take (i + 1) bs) ≡ numbered 0 (take i bs) ++ body_of i y ∷ []
      more = numbered_next bs i y lt ∙ ap (λ z. numbered 0 (take i bs) ++ body_of i z ∷ []) (sym hy)

      at : 0 + length (numbered 0 (take i bs)) ≡ i
      at = let p = length_numbered 0 (take i bs) in let q = length_take_below bs i lt in omega (arith, p, q)

      larges : found' ≡ large_bodies K 0 (numbered 0 (take (i + 1) bs))
      larges =
          e ∙ ap (λ o. least found (large_at i (body_of i y) (known_by o used i y.is_class))) hown
          ∙ ap (λ o. least o (large_at i (body_of i y) (K i (body_of i y)))) so.1.0
          ∙ ap (λ k. least (large_bodies K 0 (numbered 0 (take i bs))) (large_at k (body_of i y) (K k (body_of i y))))
          (sym at)
          ∙ sym (large_more K 0 (numbered 0 (take i bs)) (body_of i y))
          ∙ ap (large_bodies K 0) (sym more)

      codes : found' ≡ None → out' ≡ codes_from K 0 (numbered 0 (take (i + 1) bs))
      codes none =
          f none
          ∙ ap (λ z. z ++ code_at i (body_of i y) (known_by own used i y.is_class) ∷ [])
          (so.1.1 (least_apart found (large_at i (body_of i y) (known_by own used i y.is_class)) (sym e ∙ none)).0)
          ∙ ap (λ o. codes_from K 0 (numbered 0 (take i bs)) ++ code_at i (body_of i y) (known_by o used i y.is_class)
          ∷ []) hown
          ∙ ap (λ k. codes_from K 0 (numbered 0 (take i bs)) ++ code_at k (body_of i y) (K k (body_of i y)) ∷ [])
          (sym at)
          ∙ sym (codes_more K 0 (numbered 0 (take i bs)) (body_of i y))
          ∙ ap (codes_from K 0) (sym more)

  pub codes_turn : (i number : ℕ) (y : Gathered) (own : List (List ℕ)) (found found' : Option ℕ) (out out' : List Code)
      →
      i < length bs → length bs ≤ length locals → y ≡ get_or bs i y → own ≡ get_or locals number own →
      SoFar i number found out →
      found' ≡ least found (large_at number (body_of number y) (known_by own used number y.is_class)) →
      (found' ≡ None → out' ≡ out ++ code_at number (body_of number y) (known_by own used number y.is_class) ∷ []) →
      SoFar (i + 1) (number + 1) found' out'
  codes_turn i number y own found found' out out' lt long hy hown so e f =
      subst (λ n. SoFar (i + 1) (n + 1) found' out') (sym so.0)
      (turn_at i y own found found' out out' lt hy (subst (λ n. own ≡ get_or locals n own) so.0 hown ∙
      within_list locals i own [] (omega (arith, lt, long))) (refl, so.1)
      (subst (λ n. found' ≡ least found (large_at n (body_of n y) (known_by own used n y.is_class))) so.0 e)
      (subst (λ n. found' ≡ None → out' ≡ out ++ code_at n (body_of n y) (known_by own used n y.is_class) ∷ []) so.0 f))

-- the same of both, where both know the same
module _ (k1 k2 : ℕ → Body → Known) (n : ℕ) (same : (b : ℕ) (y : Body) → b < n → k1 b y ≡ k2 b y) where
  pub codes_same : (b : ℕ) (ys : List Body) → b + length ys ≤ n → codes_from k1 b ys ≡ codes_from k2 b ys
  codes_same b [] le = refl
  codes_same b (y ∷ ys) le =
      ap (λ z. code_at b y z ∷ codes_from k1 (b + 1) ys) (same b y (omega (arith, le)))
      ∙ ap (λ z. code_at b y (k2 b y) ∷ z) (codes_same (b + 1) ys (omega (arith, le)))

  pub large_same : (b : ℕ) (ys : List Body) → b + length ys ≤ n → large_bodies k1 b ys ≡ large_bodies k2 b ys
  large_same b [] le = refl
  large_same b (y ∷ ys) le =
      ap (λ z. least (large_at b y z) (large_bodies k1 (b + 1) ys)) (same b y (omega (arith, le)))
      ∙ ap (λ z. least (large_at b y (k2 b y)) z) (large_same (b + 1) ys (omega (arith, le)))

-- ---- a body's code

pub places_agree : (labels : List (Option ℕ)) → Agree labels (places_of labels)
places_agree [] l p h = cc
places_agree (x ∷ xs) zero p h = ap (λ o. unwrap_or o 0) h
places_agree (x ∷ xs) (suc l) p h = places_agree xs l p h

-- what was emitted from the start on
pub emitted_code : (k : ℕ) (e : St) (p : Piece) → Emitted (fresh k) e p no_frames →
    done (places_of e.labels) e.code ≡ p.code [] 0 k
emitted_code k e p h = h.code (places_of e.labels) (places_agree e.labels)

-- a code is what its parts are
pub code_is : (b : ℕ) (y : Body) (n n' : Known) (named hidden : ℕ) (e0 e : St) (is : List Instr) (ls : List ℕ)
    (ss : List (List ℕ)) (ks : List (List ℕ)) (lists : List (List (List ℕ))) (nm : List ℕ) →
    n ≡ n' → e0 ≡ fresh named → named ≡ length (slots_named y.is_class n'.locals) →
    Emitted e0 e (whole b y n) no_frames →
    is ≡ done (places_of e.labels) e.code → ls ≡ e.lines → ss ≡ slots_named y.is_class n'.locals ++ replicate hidden []
    → hidden ≡ e.slots - named →
    ks ≡ map (map (text n)) lists → lists ≡ n'.keys → nm ≡ y.name →
    record { name = nm; instrs = is; lines = ls; slots = ss; params = y.params; keys = ks } ≡ code_at b y n'
code_is b y n n' named hidden e0 e is ls ss ks lists nm hn he hk em hi hl hs hh hkeys hlists hname =
    λ i. record {
      name = hname i;
      instrs = (hi ∙ emitted_code k e p whole_em) i;
      lines = (hl ∙ whole_em.lines) i;
      slots = (hs ∙ ap (λ h. slots_named y.is_class n'.locals ++ replicate h []) left) i;
      params = y.params;
      keys =
          (hkeys ∙ ap (λ z. map (map (text z)) lists) hn ∙ ap (map (map (text n'))) hlists) i;
    }
  where
    k : ℕ
    k = length (slots_named y.is_class n'.locals)

    p : Piece
    p = whole b y n'

    whole_em : Emitted (fresh k) e p no_frames
    whole_em = subst (λ z. Emitted (fresh k) e (whole b y z) no_frames) hn
        (subst (λ z. Emitted z e (whole b y n) no_frames) (he ∙ ap fresh hk) em)

    left : hidden ≡ p.slots
    left = omega (arith, hh, hk, whole_em.slots)

module _ (line : ℕ) (b : Piece) (env : List ℕ → List Frame) where
  pub body_arm : (e m1 m2 m3 : St) → Emitted e m1 b env → m2 ≡ put m1 line (DraftOp (Const NoValue)) →
      m3 ≡ put m2 line (DraftOp Return) → Emitted e m3 (body_code line b) env
  body_arm e m1 m2 m3 h1 h2 h3 = plain_emitted line env (Sub 1 b ∷ Op (Const NoValue) ∷ Op Return ∷ []) e m3 refl refl
      (m1, h1, (m2, h2, (m3, h3, refl)))

  pub module_arm : (e m0 m1 m2 m3 : St) → m0 ≡ put e line (DraftOp Setup) → Emitted m0 m1 b env →
      m2 ≡ put m1 line (DraftOp (Const NoValue)) → m3 ≡ put m2 line (DraftOp Return) →
      Emitted e m3 (module_code line b) env
  module_arm e m0 m1 m2 m3 h0 h1 h2 h3 =
      plain_emitted line env (Op Setup ∷ Sub 1 b ∷ Op (Const NoValue) ∷ Op Return ∷ []) e m3 refl refl
      (m0, h0, (m1, h1, (m2, h2, (m3, h3, refl))))

-- ---- the roots

pub classes_more : (c n : ℕ) → class_roots c (n + 1) ≡ class_roots c n ++ class_roots (c + n) 1
classes_more c zero = let e : c ≡ c + 0 = omega arith in ap (λ k. class_roots k 1) e
classes_more c (suc n) =
    let e : c + 1 + n ≡ c + suc n = omega arith in
    let f : suc n + 1 ≡ suc (n + 1) = omega arith in
    ap (class_roots c) f ∙ ap (λ z. class_roots c 1 ++ z) (classes_more (c + 1) n) ∙
    ap (λ k. class_roots c (suc n) ++ class_roots k 1) e
