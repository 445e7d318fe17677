-- What reading compound statements tells.
use Rattle.std.proofs.Common.{◌≡◌, ℕ, zero, suc, ◌+◌, ◌<◌, ◌≤◌, max, Bool, true, false, ◌&&◌, ◌||◌, List, [], ◌∷◌, ◌++◌, length, Ok, Err, Option, Some, None, inl, inr, refl, sym, ap, ◌∙◌, subst, append_assoc, append-nil, arith, if◌then◌else◌}
use Rattle.std.proofs.lemmas.Bool.{and_parts}
use Rattle.py_tokens.specs.declared.token.Token.{Token}
use Rattle.py_tokens.specs.declared.token.TokenKind.{TokenKind}
use Rattle.py_tokens.specs.declared.token.TokenKind.TheVariants as k
use Rattle.py_tokens.specs.declared.token.Place.{Place}
use Rattle.py_tokens.specs.Place.{token_at as at}
use Rattle.py_tree.specs.declared.expr.Expr.{Expr}
use Rattle.py_tree.specs.declared.expr.Expr.TheVariants as ex
use Rattle.py_tree.specs.Height.{height, tops, top_or}
use Rattle.py_tree.proofs.Heights as hh
use Rattle.py_base.specs.declared.refusal.Construct.TheVariants as left
use Rattle.py_grammar.specs.declared.fault.Fault.TheVariants.{Unexpected, LeftOut}
use Rattle.py_grammar.specs.Codes as c
use Rattle.py_grammar.specs.Grammar as G
use Rattle.py_grammar.specs.Grammar.{Marks, Is, Strings, Tests, Commas, Exprs, Pairs, Links, Trailers, Trails, Maybe, Args}
use Rattle.py_grammar.specs.declared.tall.Tall.{Tall}
use Rattle.py_grammar.specs.inner.Tall.{tree_or, push, start as start', of_tuple}
use Rattle.py_grammar.specs.inner.Aiming.{Readers}
use Rattle.py_grammar.specs.inner.Reading.{◌>>=◌, first, is_op, is_keyword, comes, is_some, op_at}
use Rattle.py_grammar.proofs.Steps.{of}
use Rattle.py_grammar.proofs.Facts.{no}
use Rattle.py_grammar.proofs.ReadSteps.{tests_nil}
use Rattle.py_grammar.proofs.Values.{plus_tests, push_tests, of_or, as_tuple}
use Rattle.py_grammar.proofs.Told.{Mode, any, low, marked, Fits, Opens, near, with_none, more, Told, told_done, told_ends, told_refused, told_left, told_as, told_if, told_post, told_take, told_word, told_bind, told_map, told_when, told_room, on, here, move, there}
use Rattle.py_grammar.proofs.Tells.{only_op, only_keyword, told_need, told_need_name, p0, word, is_word, free, length_after}
use Rattle.py_grammar.proofs.Atoms.{either}
use Rattle.py_grammar.specs.Statements as S
use Rattle.py_grammar.specs.Statements.{slices, Target, Targets, Loops, Equals}
use Rattle.py_grammar.specs.inner.Lines.{loops_at, loop_at, maybe_at, ends_loop}
use Rattle.py_grammar.specs.Statements.{Names, Renamed, Imports, Simple}
use Rattle.py_tree.specs.declared.stmt.Stmt.{Stmt}
use Rattle.py_tree.specs.declared.stmt.Stmt.TheVariants as st
use Rattle.py_tree.specs.Tall.{tall}
use Rattle.py_tree.proofs.Talls as ht
use Rattle.py_grammar.proofs.Simples.{Lowers, Targeting, told_target, FollowTargets, no_target, another, then_targets}
use Rattle.py_grammar.specs.Statements.{Line, Parameter, Later, Parameters, Params, Base, Caught, Statement, Suite as Suites, Block, Elifs, Else, Finally, Excepts, Compound}
use Rattle.py_grammar.specs.inner.Lines.{Suite, param_at, params_at, def_at, base_at, class_at}
use Rattle.py_tree.specs.declared.stmt.Param.{Param}
use Rattle.py_tree.specs.Tall.{tall_block, defaults}
use Rattle.py_grammar.proofs.Bodies.{TellBlock, body0, pass0, block0, tall0, told_body}

tree_of : (o : Option Expr) → tree_or (of_or o) ≡ o
tree_of None = refl
tree_of (Some a) = refl

-- ---- the targets of `for`

mutual
  pub data CommaedLoops : Marks → List Expr → List Token → Type 0 where
    loop_comma : (x : Marks) (p : Place) → CommaedLoops x [] (at c.comma p ∷ [])
    further_loop : (p : Place) {x : Marks} {a : Expr} {es : List Expr} {ts us : List Token} → Target x a ts →
        FollowLoops x es us → CommaedLoops x (a ∷ es) (at c.comma p ∷ (ts ++ us))

  pub data FollowLoops : Marks → List Expr → List Token → Type 0 where
    no_loop : (x : Marks) → FollowLoops x [] []
    looped : {x : Marks} {es : List Expr} {us : List Token} → CommaedLoops x es us → FollowLoops x es us

data Ended : Marks → List Expr → List Token → Type 0 where
  whole : {x : Marks} {es : List Expr} {us : List Token} → Targets x es us → Ended x es us
  with_comma : (q : Place) {x : Marks} {es : List Expr} {us : List Token} → Targets x es us →
      Ended x es (us ++ at c.comma q ∷ [])

ended_more : {x : Marks} {a : Expr} {es : List Expr} {ts us : List Token} (p : Place) → Target x a ts → Ended x es us →
    Ended x (a ∷ es) (ts ++ at c.comma p ∷ us)
ended_more p t (whole e) = whole (S.Targets.more p t e)
ended_more {x = x} {a = a} {ts = ts} p t (with_comma q {us = us} e) =
    move (Ended x _) (append_assoc ts (at c.comma p ∷ us) (at c.comma q ∷ [])) (with_comma q (S.Targets.more p t e))

ended : {x : Marks} {a : Expr} {es : List Expr} {ts us : List Token} → Target x a ts → FollowLoops x es us →
    Ended x (a ∷ es) (ts ++ us)
ended {x = x} {a = a} {ts = ts} t (no_loop _) = move (Ended x (a ∷ [])) (sym (append-nil ts)) (whole (S.Targets.one t))
ended t (looped (loop_comma _ p)) = with_comma p (S.Targets.one t)
ended t (looped (further_loop p t2 f)) = ended_more p t (ended t2 f)

several_of : {x : Marks} {a b : Expr} {es : List Expr} {ts us : List Token} (p : Place) → Target x a ts →
    Ended x (b ∷ es) us → Loops x (ex.Tuple (a ∷ b ∷ es)) (ts ++ at c.comma p ∷ us)
several_of p t (whole e) = S.Loops.several p t e
several_of {x = x} {ts = ts} p t (with_comma q {us = us} e) =
    move (Loops x _) (append_assoc ts (at c.comma p ∷ us) (at c.comma q ∷ [])) (S.Loops.several_comma p q t e)

then_loops : {x : Marks} {a : Expr} {es : List Expr} {ts us : List Token} → Target x a ts → CommaedLoops x es us →
    Loops x (ex.Tuple (a ∷ es)) (ts ++ us)
then_loops t (loop_comma _ p) = S.Loops.lone p t
then_loops t (further_loop p t2 f) = several_of p t (ended t2 f)

several_targets : {x : Marks} {a : Expr} {es : List Expr} {ts us : List Token} (p : Place) → Target x a ts →
    Targets x es us → (t : Expr) × Loops x t (ts ++ at c.comma p ∷ us)
several_targets p t (S.Targets.one r) = (_, S.Loops.several p t (S.Targets.one r))
several_targets p t (S.Targets.more q r s) = (_, S.Loops.several p t (S.Targets.more q r s))

several_targets_comma : {x : Marks} {a : Expr} {es : List Expr} {ts us : List Token} (p q : Place) → Target x a ts →
    Targets x es us → (t : Expr) × Loops x t ((ts ++ at c.comma p ∷ us) ++ at c.comma q ∷ [])
several_targets_comma p q t (S.Targets.one r) = (_, S.Loops.several_comma p q t (S.Targets.one r))
several_targets_comma p q t (S.Targets.more j r s) = (_, S.Loops.several_comma p q t (S.Targets.more j r s))

loops_comma : (a : Expr) (fs : List Token) (es : List Expr) (vs : List Token) (p : Place) →
    Target (Some left.SliceForm) a fs → FollowTargets (Some left.SliceForm) es vs →
    (t : Expr) × Loops (Some left.SliceForm) t ((fs ++ vs) ++ at c.comma p ∷ [])
loops_comma a fs es vs p is (no_target _) = (
  ex.Tuple (a ∷ []),
  move (λ z. Loops (Some left.SliceForm) (ex.Tuple (a ∷ [])) (z ++ at c.comma p ∷ []))
      (sym (append-nil fs)) (S.Loops.lone p is),
)
loops_comma a fs es vs p is (another q r) = several_targets_comma q p is r

loops_end : (a : Expr) (fs : List Token) (es : List Expr) (vs : List Token) → Target (Some left.SliceForm) a fs →
    FollowTargets (Some left.SliceForm) es vs → (t : Expr) × Loops (Some left.SliceForm) t (fs ++ vs)
loops_end a fs es vs is (no_target _) = (
  a,
  move (Loops (Some left.SliceForm) a) (sym (append-nil fs))
      (S.Loops.single is),
)
loops_end a fs es vs is (another q r) = several_targets q is r

module _ (w y g d : ℕ) (lower' lower : Readers) (targets : Targeting y g d lower' lower) where
  abbrev pub LoopsHole : List Token → Type 0
  LoopsHole pre = (m : Mode) (es : List Expr) (us : List Token) → FollowLoops m.marks es us → Fits m (tops es) d →
      Opens m (pre ++ us)

  abbrev pub LoopsSlice : List Token → Type 0
  LoopsSlice pre = (es : List Expr) (us : List Token) (κ : TokenKind) (p : Place) →
      FollowTargets (Some left.SliceForm) es us → ends_loop κ ≡ true →
      Opens (marked left.SliceForm) (pre ++ (us ++ at κ p ∷ []))

  abbrev pub TellLoops : ℕ → Type 0
  TellLoops f = (found : Tall (List Expr)) (pre ts : List Token) → length ts ≤ f → f ≤ g → LoopsHole pre →
      LoopsSlice pre → Told y pre ts (loops_at lower' (more w f) found)
      (λ v fs. (es : List Expr) × (v ≡ plus_tests found es) × ((x : Marks) → FollowLoops x es fs) × (tops es ≤ d))
      (loops_at lower f found ts)

  pub tell_loop_comma : (f : ℕ) → TellLoops f → (found : Tall (List Expr)) (pre : List Token) (p : Place)
      (us : List Token) → length us ≤ f → f ≤ g → LoopsHole pre → LoopsSlice pre →
      Told y pre (at c.comma p ∷ us) (loops_at lower' (more w (suc f)) found)
      (λ v fs. (es : List Expr) × (v ≡ plus_tests found es) × ((x : Marks) → CommaedLoops x es fs) × (tops es ≤ d))
      (loops_at lower (suc f) found (at c.comma p ∷ us))
  unfolding loops_at
  tell_loop_comma f again found pre p us l i hole slice = told_take (told_if (comes 1)
      (λ c'. told_target d _ _ (targets.target ends_loop (pre ++ at c.comma p ∷ []) us (omega (arith, l, i))
      (hole low [] _ (looped (loop_comma None p)) (λ b. omega arith))
      (λ m a vs r h. on [] (simp (append_assoc, append-nil))
      (hole m (a ∷ []) _ (looped (further_loop p r (no_loop m.marks))) (λ b. omega (arith, h b))))
      (λ a vs κ p2 r e. here (simp append_assoc) (slice (a ∷ []) _ κ p2 (another p (S.Targets.one r)) e)))
      (λ a fs rest q is h. told_post (λ v vs r.
      (a ∷ r.0, r.1 ∙ push_tests found a r.0, (λ x. further_loop p (is x) (r.2 x)), omega (arith, h, r.3)))
      (again (push found (of a)) ((pre ++ at c.comma p ∷ []) ++ fs) rest (omega (arith, l, length_after us fs rest q)) i
      (λ m es vs r j. here (simp append_assoc)
      (hole m (a ∷ es) _ (looped (further_loop p (is m.marks) r)) (λ b. omega (arith, h, j b))))
      (λ es vs κ p2 r e. here (simp append_assoc)
      (slice (a ∷ es) _ κ p2 (another p (then_targets (is (Some left.SliceForm)) r)) e)))))
      (λ c'. told_done ([], sym (tests_nil found), (λ x. loop_comma x p), omega arith)))

  pub tell_loops : (f : ℕ) → TellLoops f
  unfolding loops_at
  tell_loops zero found pre [] l i hole slice = told_ends found ([], sym (tests_nil found), no_loop, omega arith) refl
      (λ us s. with_none (λ z. loops_at lower' w found z ≡ Ok (found, z)) us (ends w) s)
    where
      ends : (n : ℕ) → loops_at lower' n found [] ≡ Ok (found, [])
      ends zero = refl
      ends (suc n) = refl
  tell_loops zero found pre (t ∷ ts) l i hole slice = absurd (omega (arith, l))
  tell_loops (suc f) found pre ts l i hole slice = told_word (is_op 38) c.comma (only_op 38) refl
      (λ p us q. rw q (told_as {X' = loops_at lower' (more w (suc f)) found} (λ vs s. rw s refl)
      (told_post (λ v fs r. (r.0, r.1, (λ x. looped (r.2 x)), r.3))
      (tell_loop_comma f (tell_loops f) found pre p us (omega (arith, l, ap length q)) (omega (arith, i)) hole
      slice))))
      (λ e. told_done ([], sym (tests_nil found), no_loop, omega arith))

  pub tell_some_loops : (f : ℕ) (found : Tall (List Expr)) (pre ts : List Token) → is_op 38 (first ts) ≡ true →
      length ts ≤ f → f ≤ g → LoopsHole pre → LoopsSlice pre →
      Told y pre ts (loops_at lower' (more w f) found)
      (λ v fs. (es : List Expr) × (v ≡ plus_tests found es) × ((x : Marks) → CommaedLoops x es fs) × (tops es ≤ d))
      (loops_at lower f found ts)
  tell_some_loops zero found pre [] e l i hole slice = no (sym e)
  tell_some_loops zero found pre (t ∷ ts) e l i hole slice = absurd (omega (arith, l))
  tell_some_loops (suc f) found pre ts e l i hole slice = let h =
      there ts c.comma (only_op 38 (first ts) e) (λ z. cc) in
      rw h.2 (tell_loop_comma f (tell_loops f) found pre h.0 h.1 (omega (arith, l, ap length h.2)) (omega (arith, i))
      hole slice)

-- with a budget d + 1 for one target, and d for each of several
module _ (w y g d : ℕ) (under' under lower' lower : Readers) (targets : Targeting y g (suc d) under' under)
    (lowers : Targeting y g d lower' lower) where
  pub tell_loop : (pre ts : List Token) → length ts ≤ g → Opens low pre →
      ((m : Mode) (t : Expr) (us : List Token) → Loops m.marks t us → Fits m (height t) (suc d) → Opens m (pre ++ us)) →
      ((t : Expr) (us : List Token) (p : Place) → Loops (Some left.SliceForm) t us →
      Opens (marked left.SliceForm) (pre ++ (us ++ at c.in_ p ∷ []))) →
      Told y pre ts (loop_at under' lower' (more y (suc d)) (more w g))
      (λ v fs. (t : Expr) × (v ≡ of t) × ((x : Marks) → Loops x t fs) × (height t ≤ suc d))
      (loop_at under lower (suc d) g ts)
  unfolding loop_at
  tell_loop pre ts l o hole slice =
      told_target (suc d) _ _ (targets.target ends_loop pre ts l o (λ m a us r h. hole m a us (S.Loops.single r) h)
      (λ a us κ p r e. elim (either (is_op 38 κ) (is_keyword 18 κ) e) [
        | inl q ↦ rw (only_op 38 κ q) (hole (marked left.SliceForm) (ex.Tuple (a ∷ [])) _ (S.Loops.lone p r) free)
        | inr q ↦ rw (only_keyword 18 κ q) (slice a us p (S.Loops.single r))
      ]))
      (λ a fs rest q is h. told_word (is_op 38) c.comma (only_op 38) refl
      (λ p us q2. told_room (suc d) (height a + 1) c.comma (ap first q2)
      (hole low a fs (S.Loops.single (is None)) (λ b. h))
      (λ i. here (simp append_assoc) (hole any (ex.Tuple (a ∷ [])) _ (S.Loops.lone i (is None)) free))
      (λ room. told_map of_tuple (tell_some_loops w y g d lower' lower lowers g (start' (of a)) (pre ++ fs) rest
      (ap (λ z. is_op 38 (first z)) q2) (omega (arith, l, length_after ts fs rest q)) (omega arith)
      (λ m es vs r j. near m pre fs vs (follow m a fs (is m.marks) h room es vs r j))
      (λ es vs κ p2 r e. move (λ z. Opens (marked left.SliceForm) z) (sym (append_assoc pre fs (vs ++ at κ p2 ∷ [])))
      (follow_slice a fs (is (Some left.SliceForm)) es vs κ p2 r e)))
      (λ v vs r. (
        ex.Tuple (a ∷ r.0),
        ap of_tuple r.1 ∙ as_tuple a r.0,
        (λ x. then_loops (is x) (r.2 x)),
        omega (arith, room, r.3, hh.height_tuple (a ∷ r.0)),
      ))))
      (λ e. told_done (a, refl, (λ x. move (Loops x a) (sym (append-nil fs)) (S.Loops.single (is x))), h)))
    where
      follow : (m : Mode) (a : Expr) (fs : List Token) → Target m.marks a fs → height a ≤ suc d → height a + 1 ≤ suc d
          → (es : List Expr) (vs : List Token) → FollowLoops m.marks es vs → Fits m (tops es) d →
          Opens m (pre ++ (fs ++ vs))
      follow m a fs is h room es vs (no_loop _) j =
          hole m a _ (move (Loops m.marks a) (sym (append-nil fs)) (S.Loops.single is)) (λ b. h)
      follow m a fs is h room es vs (looped r) j =
          hole m (ex.Tuple (a ∷ es)) _ (then_loops is r) (λ b. omega (arith, room, j b, hh.height_tuple (a ∷ es)))

      follow_slice : (a : Expr) (fs : List Token) → Target (Some left.SliceForm) a fs →
          (es : List Expr) (vs : List Token) (κ : TokenKind) (p : Place) → FollowTargets (Some left.SliceForm) es vs →
          ends_loop κ ≡ true → Opens (marked left.SliceForm) (pre ++ (fs ++ (vs ++ at κ p ∷ [])))
      follow_slice a fs is es vs κ p f e = elim (either (is_op 38 κ) (is_keyword 18 κ) e) [
        | inl q ↦ rw (only_op 38 κ q) (let r = loops_comma a fs es vs p is f in
            here (simp append_assoc) (hole (marked left.SliceForm) r.0 _ r.1 free))
        | inr q ↦ rw (only_keyword 18 κ q) (let r = loops_end a fs es vs is f in
            here (simp append_assoc) (slice r.0 _ p r.1))
      ]

-- ---- parameters

pub data FollowParams : Marks → Bool → List Param → List Token → Type 0 where
  no_param : (x : Marks) (b : Bool) → FollowParams x b [] []
  params_comma : (x : Marks) (b : Bool) (p : Place) → FollowParams x b [] (at c.comma p ∷ [])
  further_params : (p : Place) {x : Marks} {b : Bool} {as' : List Param} {us : List Token} → Parameters x b as' us →
      FollowParams x b as' (at c.comma p ∷ us)

then_params : {x : Marks} {a : Param} {ts us : List Token} (b e : Bool) → Later b e → Parameter x e a ts →
    {as' : List Param} → FollowParams x e as' us → Parameters x b (a ∷ as') (ts ++ us)
then_params {x = x} {a = a} {ts = ts} b e l p (no_param _ _) =
    move (Parameters x b (a ∷ [])) (sym (append-nil ts)) (S.Parameters.one b e l p)
then_params b e l p (params_comma _ _ q) = S.Parameters.one_comma b e q l p
then_params b e l p (further_params q r) = S.Parameters.more b e q l p r

later_true : (b : Bool) → Later b true
later_true true = tt
later_true false = tt

module _ (w y g d : ℕ) (under' under : Readers) (below : Lowers y g d under' under) (block' block : Suite)
    (tell : TellBlock y g d block' block) (z2 : 2 ≤ d) where
  abbrev pub ParamsHole : Bool → List Token → Type 0
  ParamsHole b pre = (m : Mode) (as' : List Param) (us : List Token) → Parameters m.marks b as' us →
      Fits m (defaults as') d → Opens m (pre ++ us)

  abbrev pub ParamRead : Bool → Param → List Token → Type 0
  ParamRead b v fs = Later b (is_some v.default) × ((x : Marks) → Parameter x (is_some v.default) v fs) ×
      (top_or v.default ≤ d)

  word_param : (x : Marks) (b : Bool) → Parameters x b (record { name = []; default = Some (ex.Name []) } ∷ [])
      (at (k.Name []) p0 ∷ at c.assign p0 ∷ word)
  word_param x b = S.Parameters.one b true (later_true b) (S.Parameter.default [] p0 p0 (is_word 14 x (omega arith)))

  pub tell_param : (b : Bool) (pre ts : List Token) → length ts ≤ g → Opens low pre → ParamsHole b pre →
      Told y pre ts (param_at under' b) (ParamRead b) (param_at under b ts)
  unfolding param_at
  tell_param b pre ts l o hole = told_if (λ κ. is_op 23 κ || is_op 4 κ)
      (λ t. elim (either (is_op 23 (first ts)) (is_op 4 (first ts)) t) [
        | inl q ↦ told_left c.star (only_op 23 (first ts) q) o
            (λ p. hole (marked left.StarArgument) [] _ (S.Parameters.starred b p) free)
        | inr q ↦ told_left c.power (only_op 4 (first ts) q) o
            (λ p. hole (marked left.StarArgument) [] _ (S.Parameters.double_starred b p) free)
      ])
      (λ e1. told_word (is_op 32) c.open_round (only_op 32) refl
      (λ p us q. told_left c.open_round (ap first q) o
      (λ i. hole (marked left.TupleArgument) [] _ (S.Parameters.tuple b i) free))
      (λ e2. told_need_name _ _ o (λ n p us q.
      let o2 : Opens low (pre ++ at (k.Name n) p ∷ []) =
      on (at c.assign p0 ∷ word) (simp append_assoc)
      (hole low (record { name = n; default = Some (ex.Name []) } ∷ []) _
      (S.Parameters.one b true (later_true b) (S.Parameter.default n p p0 (is_word 14 None (omega arith))))
      (λ z. omega (arith, z2, hh.height_name []))) in
      told_word (is_op 42) c.assign (only_op 42) refl
      (λ p2 us2 q2. rw q2 (told_take (told_map (λ a. record { name = n; default = Some a.tree })
      (below.read 14 (omega arith) ((pre ++ at (k.Name n) p ∷ []) ++ at c.assign p2 ∷ []) us2
      (omega (arith, l, ap length q, ap length q2))
      (on word (simp append_assoc) (hole low (record { name = n; default = Some (ex.Name []) } ∷ []) _
      (S.Parameters.one b true (later_true b) (S.Parameter.default n p p2 (is_word 14 None (omega arith))))
      (λ z. omega (arith, z2, hh.height_name []))))
      (λ m a vs r h. here (simp append_assoc)
      (hole m (record { name = n; default = Some a } ∷ []) _
      (S.Parameters.one b true (later_true b) (S.Parameter.default n p p2 r)) (λ z. omega (arith, h z)))))
      (λ v vs r. subst (λ z. ParamRead b (record { name = n; default = Some z.tree })
      (at (k.Name n) p ∷ at c.assign p2 ∷ vs)) (sym r.1) (
        later_true b,
        (λ x. S.Parameter.default n p p2 (r.2 x)),
        r.3,
      )))))
      (λ e3. plain n p us o2 b refl))))
    where
      plain : (n : List ℕ) (p : Place) (us : List Token) → Opens low (pre ++ at (k.Name n) p ∷ []) → (e : Bool) →
          b ≡ e → Told y (pre ++ at (k.Name n) p ∷ []) us
          (λ vs. if b then Err (Unexpected, vs) else Ok (record { name = n; default = None }, vs))
          (λ v fs. ParamRead b v (at (k.Name n) p ∷ fs))
          (if b then Err (Unexpected, us) else Ok (record { name = n; default = None }, us))
      plain n p us o2 true e = told_when b (λ q. told_refused o2) (λ q. no (sym e ∙ q))
      plain n p us o2 false e = told_when b (λ q. no (sym q ∙ e))
          (λ q. told_done (subst (λ z. Later z false) (sym e) tt, (λ x. S.Parameter.plain x n p), omega arith))

  abbrev pub TellParams : ℕ → Type 0
  TellParams f = (b : Bool) (found : List Param) (pre ts : List Token) → length ts < f → f ≤ g → Opens low pre →
      ParamsHole b pre →
      Told y pre ts (params_at under' (more w f) b found)
      (λ v fs. (as' : List Param) × (v ≡ found ++ as') × ((x : Marks) → Parameters x b as' fs) ×
      (defaults as' ≤ d)) (params_at under f b found ts)

  pub tell_params : (f : ℕ) → TellParams f
  unfolding params_at
  tell_params zero b found pre ts l i o hole = absurd (omega (arith, l))
  tell_params (suc f) b found pre ts l i o hole =
      told_bind _ _ _ (tell_param b pre ts (omega (arith, l, i)) o hole)
      (λ v fs rest q r.
      let o2 : Opens low (pre ++ fs) = hole low (v ∷ []) _ (S.Parameters.one b (is_some v.default) r.0 (r.1 None))
      (λ z. omega (arith, r.2)) in
      told_word (is_op 38) c.comma (only_op 38) refl
      (λ p us q2. rw q2 (told_take (told_if (is_op 33)
      (λ c'. told_done (
        v ∷ [],
        refl,
        (λ x. S.Parameters.one_comma b (is_some v.default) p r.0 (r.1 x)),
        omega (arith, r.2),
      ))
      (λ c'. told_post (λ v2 vs s. (
        v ∷ s.0,
        s.1 ∙ append_assoc found (v ∷ []) s.0,
        (λ x. S.Parameters.more b (is_some v.default) p r.0 (r.1 x) (s.2 x)),
        omega (arith, r.2, s.3),
      ))
      (tell_params f (is_some v.default) (found ++ v ∷ []) ((pre ++ fs) ++ at c.comma p ∷ []) us
      (omega (arith, l, ap length q2, length_after ts fs rest q)) (omega (arith, i))
      (here (simp append_assoc) (hole low (v ∷ []) _ (S.Parameters.one_comma b (is_some v.default) p r.0 (r.1 None))
      (λ z. omega (arith, r.2))))
      (λ m as' vs s j. here (simp append_assoc)
      (hole m (v ∷ as') _ (S.Parameters.more b (is_some v.default) p r.0 (r.1 m.marks) s)
      (λ z. omega (arith, r.2, j z)))))))))
      (λ e. told_done (
        v ∷ [],
        refl,
        (λ x.
            move (Parameters x b (v ∷ [])) (sym (append-nil fs)) (S.Parameters.one b (is_some v.default) r.0 (r.1 x))),
        omega (arith, r.2),
      )))

  abbrev CompoundHole' : List Token → Type 0
  CompoundHole' pre = (m : Mode) (a : Stmt) (us : List Token) → Compound m.marks a us → Fits m (tall a) (suc d) →
      Opens m (pre ++ us)

  abbrev ReadCompound' : Stmt → List Token → Type 0
  ReadCompound' v fs = ((x : Marks) → Compound x v fs) × (tall v ≤ suc d)

  pub tell_def : (p : Place) (pre ts : List Token) → length ts ≤ g → CompoundHole' pre →
      Told y (pre ++ at c.def_ p ∷ []) ts (def_at under' block' (more w g) p.line)
      (λ v us. ReadCompound' v (at c.def_ p ∷ us)) (def_at under block g p.line ts)
  unfolding def_at
  tell_def p pre ts l hole =
      let fit : (n : List ℕ) (ps : List Param) (ss : List Stmt) →
      tall (st.Def p.line n ps ss) ≡ max (defaults ps) (tall_block ss) + 1 = λ n ps ss.
      ht.tall_def p.line n ps ss in
      told_need_name _ _ (on (at (k.Name []) p0 ∷ at c.open_round p0 ∷ at c.close_round p0 ∷ at c.colon p0 ∷ body0)
      (simp append_assoc) (hole low (st.Def p.line [] [] pass0) _
      (S.def [] p p0 p0 p0 p0 (S.Params.none None) (block0 None)) (λ b. omega (arith, z2, tall0, fit [] [] pass0))))
      (λ n p2 us q. told_need 32 _ _ (on (at c.open_round p0 ∷ at c.close_round p0 ∷ at c.colon p0 ∷ body0)
      (simp append_assoc) (hole low (st.Def p.line n [] pass0) _
      (S.def n p p2 p0 p0 p0 (S.Params.none None) (block0 None)) (λ b. omega (arith, z2, tall0, fit n [] pass0))))
      (λ p3 us2 q2.
      let o3 : Opens low (((pre ++ at c.def_ p ∷ []) ++ at (k.Name n) p2 ∷ []) ++ at c.open_round p3 ∷ []) =
      on (at c.close_round p0 ∷ at c.colon p0 ∷ body0) (simp append_assoc)
      (hole low (st.Def p.line n [] pass0) _ (S.def n p p2 p3 p0 p0 (S.Params.none None) (block0 None))
      (λ b. omega (arith, z2, tall0, fit n [] pass0))) in
      told_bind _ _ (λ v fs. ((x : Marks) → Params x v fs) × (defaults v ≤ d))
      (told_if (is_op 33) (λ c'. told_done (S.Params.none, omega arith))
      (λ c'. told_post (λ v fs r. rw r.1 ((λ x. S.Params.some (r.2 x)), r.3))
      (tell_params g false [] (((pre ++ at c.def_ p ∷ []) ++ at (k.Name n) p2 ∷ []) ++ at c.open_round p3 ∷ []) us2
      (omega (arith, l, ap length q, ap length q2)) (omega arith) o3
      (λ m as' vs r j. on (at c.close_round p0 ∷ at c.colon p0 ∷ body0) (simp append_assoc)
      (hole m (st.Def p.line n as' pass0) _ (S.def n p p2 p3 p0 p0 (S.Params.some r) (block0 m.marks))
      (λ b. omega (arith, z2, tall0, j b, fit n as' pass0)))))))
      (λ ps fs rest q3 r. told_need 33 _ _
      (on (at c.close_round p0 ∷ at c.colon p0 ∷ body0) (simp append_assoc)
      (hole low (st.Def p.line n ps pass0) _ (S.def n p p2 p3 p0 p0 (r.0 None) (block0 None))
      (λ b. omega (arith, z2, tall0, r.1, fit n ps pass0))))
      (λ p4 us4 q4. told_body g d block' block _ _ tell
      (omega (arith, l, ap length q, ap length q2, length_after us2 fs rest q3, ap length q4)) z2
      (λ m p5 ss vs s j. here (simp append_assoc)
      (hole m (st.Def p.line n ps ss) _ (S.def n p p2 p3 p4 p5 (r.0 m.marks) s)
      (λ b. omega (arith, r.1, j b, fit n ps ss))))
      (λ p5 ss gs rest2 q5 s h. told_done (
        (λ x. move (Compound x (st.Def p.line n ps ss))
            (ap (λ z. at c.def_ p ∷ at (k.Name n) p2 ∷ at c.open_round p3 ∷
            (fs ++ at c.close_round p4 ∷ at c.colon p5 ∷ z)) (sym (append-nil gs)))
            (S.def n p p2 p3 p4 p5 (r.0 x) (s x))),
        omega (arith, r.1, h, fit n ps ss),
      ))))))

  pub tell_base : (pre ts : List Token) → length ts ≤ g →
      ((m : Mode) (o : Option Expr) (us : List Token) → Base m.marks o us → Fits m (top_or o) d → Opens m (pre ++ us)) →
      Told y pre ts (base_at under') (λ v fs. (o : Option Expr) × (v ≡ of_or o) × ((x : Marks) → Base x o fs) ×
      (top_or o ≤ d)) (base_at under ts)
  unfolding base_at maybe_at
  tell_base pre ts l hole = told_word (is_op 32) c.open_round (only_op 32) refl
      (λ p us q. rw q (told_take (told_bind _ _
      (λ v fs. (o : Option Expr) × (v ≡ of_or o) × ((x : Marks) → Maybe x o fs) × (top_or o ≤ d))
      (told_if (comes 14)
      (λ c'. told_map (λ a. Some a) (below.read 14 (omega arith) (pre ++ at c.open_round p ∷ []) us
      (omega (arith, l, ap length q))
      (on (at c.close_round p0 ∷ []) (simp append_assoc)
      (hole low None _ (S.Base.round p p0 (G.nothing None)) (λ b. omega arith)))
      (λ m a vs r h. on (at c.close_round p0 ∷ []) (simp append_assoc)
      (hole m (Some a) _ (S.Base.round p p0 (G.just r)) h)))
      (λ v fs r. (Some r.0, ap (λ z. Some z) r.1, (λ x. G.just (r.2 x)), r.3)))
      (λ c'. told_done (None, refl, G.nothing, omega arith)))
      (λ v fs rest q2 r. subst (λ z. Told y ((pre ++ at c.open_round p ∷ []) ++ fs) rest
      (λ us. if is_some z && is_op 38 (first us) then Err (LeftOut left.MultipleBases, us) else
      (op_at 33 us >>= λ close. Ok (z, close.1)))
      (λ b us. (o : Option Expr) × (b ≡ of_or o) × ((x : Marks) → Base x o (at c.open_round p ∷ (fs ++ us))) ×
      (top_or o ≤ d)) (if is_some z && is_op 38 (first rest) then Err (LeftOut left.MultipleBases, rest) else
      (op_at 33 rest >>= λ close. Ok (z, close.1)))) (sym r.1)
      (let o2 : Opens low ((pre ++ at c.open_round p ∷ []) ++ fs) =
      on (at c.close_round p0 ∷ []) (simp append_assoc) (hole low r.0 _ (S.Base.round p p0 (r.2 None)) (λ b. r.3))
      in
      told_if (λ κ. is_some (of_or r.0) && is_op 38 κ)
      (λ t. told_left c.comma (only_op 38 (first rest) (and_parts (is_some (of_or r.0)) _ t).1) o2
      (λ i. here (simp append_assoc) (many pre p fs r.0 r.2 (and_parts (is_some (of_or r.0)) _ t).0 i hole)))
      (λ e. told_need 33 _ _ o2 (λ p2 us2 q3. told_done (r.0, refl, (λ x. S.Base.round p p2 (r.2 x)), r.3))))))))
      (λ e. told_done (None, refl, S.Base.none, omega arith))
    where
      many : (pre : List Token) (p : Place) (fs : List Token) (o : Option Expr) → ((x : Marks) → Maybe x o fs) →
          is_some (of_or o) ≡ true → (i : Place) →
          ((m : Mode) (o : Option Expr) (us : List Token) → Base m.marks o us → Fits m (top_or o) d →
          Opens m (pre ++ us)) → Opens (marked left.MultipleBases)
          (pre ++ at c.open_round p ∷ (fs ++ at c.comma i ∷ []))
      many pre p fs None r e i hole = no (sym e)
      many pre p fs (Some a) r e i hole =
          hole (marked left.MultipleBases) (Some a) _ (S.Base.bases p i (just_of (r (Some left.MultipleBases)))) free
        where
          just_of : {x : Marks} {a : Expr} {us : List Token} → Maybe x (Some a) us → Is x 14 a us
          just_of (G.just q) = q

  pub tell_class : (p : Place) (pre ts : List Token) → length ts ≤ g → CompoundHole' pre →
      Told y (pre ++ at c.class_ p ∷ []) ts (class_at under' block' p.line)
      (λ v us. ReadCompound' v (at c.class_ p ∷ us)) (class_at under block p.line ts)
  unfolding class_at
  tell_class p pre ts l hole =
      let fit : (n : List ℕ) (a : Option Expr) (ss : List Stmt) →
      tall (st.Class p.line n a ss) ≡ max (top_or a) (tall_block ss) + 1 = λ n a ss. ht.tall_class p.line n a ss in
      told_need_name _ _ (on (at (k.Name []) p0 ∷ at c.colon p0 ∷ body0) (simp append_assoc)
      (hole low (st.Class p.line [] None pass0) _ (S.class [] p p0 p0 (S.Base.none None) (block0 None))
      (λ b. omega (arith, z2, tall0, fit [] None pass0))))
      (λ n p2 us q. told_bind _ _ _ (tell_base ((pre ++ at c.class_ p ∷ []) ++ at (k.Name n) p2 ∷ []) us
      (omega (arith, l, ap length q))
      (λ m o vs r j. on (at c.colon p0 ∷ body0) (simp append_assoc)
      (hole m (st.Class p.line n o pass0) _ (S.class n p p2 p0 r (block0 m.marks))
      (λ b. omega (arith, z2, tall0, j b, fit n o pass0)))))
      (λ v fs rest q2 r. told_body g d block' block _ _ tell
      (omega (arith, l, ap length q, length_after us fs rest q2)) z2
      (λ m p5 ss vs s j. here (simp append_assoc)
      (hole m (st.Class p.line n r.0 ss) _ (S.class n p p2 p5 (r.2 m.marks) s)
      (λ b. omega (arith, r.3, j b, fit n r.0 ss))))
      (λ p5 ss gs rest2 q5 s h. told_done
      (subst (λ z. ReadCompound' (st.Class p.line n z ss)
      (at c.class_ p ∷ at (k.Name n) p2 ∷ (fs ++ at c.colon p5 ∷ (gs ++ [])))) (sym (ap tree_or r.1 ∙ tree_of r.0)) (
        (λ x. move (Compound x (st.Class p.line n r.0 ss))
            (ap (λ z. at c.class_ p ∷ at (k.Name n) p2 ∷ (fs ++ at c.colon p5 ∷ z)) (sym (append-nil gs)))
            (S.class n p p2 p5 (r.2 x) (s x))),
        omega (arith, r.3, h, fit n r.0 ss),
      )))))
