-- Each step of the stack of tasks, where the parts are done, the task was done: values.
use Rattle.std.proofs.Common.{◌≡◌, ℕ, ℤ, ◌+◌, ◌<◌, List, [], ◌∷◌, length, Result, Ok, Err, IfOk, refl, sym, ap, ◌∙◌, subst, arith, length-append}
use Rattle.py_code.specs.declared.instr.Constant.TheVariants.{Root, Int as IntValue}
use Rattle.py_code.specs.declared.instr.Instr.{Instr}
use Rattle.py_code.specs.declared.instr.Instr.TheVariants.{Const, Unary, Not, Binary, BuildTuple, BuildList, BuildDict, Compare, Rot2, Pop}
use Rattle.py_base.specs.declared.operator.binary.TheConstants.{POWER}
use Rattle.py_tree.specs.declared.expr.Expr.{Expr}
use Rattle.py_tree.specs.declared.expr.Trailer.{Trailer}
use Rattle.py_tree.specs.declared.expr.Link.{Link}
use Rattle.py_tree.specs.declared.expr.Pair.{Pair}
use Rattle.py_tree.specs.declared.expr.Level.{Level}
use Rattle.py_tree.specs.declared.expr.Level.TheVariants as level
use Rattle.py_tree.specs.declared.expr.Sign.{Sign}
use Rattle.py_tree.specs.declared.expr.Expr.TheVariants as tree
use Rattle.py_emit.specs.declared.draft.Draft.TheVariants.{Op as DraftOp, To as DraftTo}
use Rattle.py_emit.specs.declared.draft.Far.{Far}
use Rattle.py_emit.specs.declared.draft.Far.TheVariants.{Always, IfFalse, KeepingFalse, KeepingTrue}
use Rattle.py_templates.specs.Template.{Piece}
use Rattle.py_templates.specs.Table.{one, one_value, two_values, operators, all_kept, chained, conditional, built}
use Rattle.py_templates.specs.Names.{Known, home, text}
use Rattle.py_emit.specs.inner.State.{St, put, marked, opened, no_frames, Emitted}
use Rattle.py_templates.specs.Expressions.{operator, sign_number, AtName, NoPlace, Coded, name_value, trailed, chain, coded, value, values, linked, links, betweens, last_link, pairs, behind, trailers}
use Rattle.py_emit.specs.inner.Tasks.{Todo, Value, Values, Behind, Pairs, Links, Kept, Between, Op, To, Mark, Runs, RunsAll, size, sizes, deciding, deciding_last, linked_one, Leads}
use Rattle.py_emit.specs.inner.TaskWeights.{all_weights, Advances, Splits}
use Rattle.py_emit.proofs.TaskWeights.{weight_name, weight_int, weight_str, weight_group, weight_tuple, weight_list, weight_dict, weight_trail, weight_power, weight_unary, weight_chain, weight_not, weight_choice}
use Rattle.py_emit.proofs.Arms.{one_arm, one_value_arm, two_values_arm, built_arm, trail_arm, operators_arm, conditional_arm, all_kept_arm, chained_arm}
use Rattle.py_templates.proofs.Coded.{coded_name, coded_int, coded_str, coded_group, coded_tuple, coded_list, coded_dict, coded_trail, coded_power, coded_unary, coded_chain, coded_not, coded_choice}

-- what holds of a result's value, by what was told of it
pub then_ok : {T : Type 0} {E : Type 0} (r : Result T E) (P Q : Type 0) → IfOk r (λ _. P) → (P → Q) → IfOk r (λ _. Q)
then_ok (Ok x) P Q h f = f h
then_ok (Err x) P Q h f = tt

-- a step, where what was to be done and what is left are known by equations
pub advances_as : (n : Known) (t t' : Todo) (ts new after : List Todo) (e e1 : St) →
    ((ln : ℕ) → Advances n ln (t' ∷ ts) e after e1) → t ≡ t' → new ≡ after → (ln : ℕ) → Advances n ln (t ∷ ts) e new e1
advances_as n t t' ts new after e e1 l q r ln =
    subst (λ z. Advances n ln (z ∷ ts) e new e1) (sym q) (subst (λ z. Advances n ln (t' ∷ ts) e z e1) (sym r) (l ln))

pub split_as : (n : Known) (t t' : Todo) (ts new after : List Todo) →
    ((ln : ℕ) (e : St) → Advances n ln (t' ∷ ts) e after e) → t ≡ t' → new ≡ after → Splits n (t ∷ ts) new
split_as n t t' ts new after l q r = record
    { advances = λ ln e. advances_as n t t' ts new after e e (λ k. l k e) q r ln }

-- a step in this state
pub split_at : (n : Known) (ln : ℕ) (t t' : Todo) (ts new : List Todo) (e : St) → Splits n (t' ∷ ts) new → t ≡ t' →
    Advances n ln (t ∷ ts) e new e
split_at n ln t t' ts new e s q = subst (λ z. Advances n ln (z ∷ ts) e new e) (sym q) (s.advances ln e)

module _ (n : Known) (ln : ℕ) where
  -- Runs of tasks.

  pub lead_none : (ts : List Todo) (e : St) → Leads n ln ts e ts e
  lead_none ts e = record { whole = λ e' h. h; size = refl }

  pub lead_then : (a b d : List Todo) (e0 e1 e2 : St) → Leads n ln a e0 b e1 → Leads n ln b e1 d e2 →
      Leads n ln a e0 d e2
  lead_then a b d e0 e1 e2 p q = record { whole = λ e' h. p.whole e' (q.whole e' h); size = p.size ∙ q.size }

  pub lead_end : (t : Todo) (e0 e : St) → Leads n ln (t ∷ []) e0 [] e → Runs n ln t e0 e
  lead_end t e0 e p = last e (p.whole e refl)
    where
      last : (m : St) → RunsAll n ln (t ∷ []) e0 m → Runs n ln t e0 m
      last m (k, h, r) = subst (λ z. Runs n ln t e0 z) r h

  pub lead_op : (i : Instr) (ts : List Todo) (e m : St) → m ≡ put e ln (DraftOp i) → Advances n ln (Op i ∷ ts) e ts m
  lead_op i ts e m q = record {
    leads = record {
      whole = λ e' h. (m, q, h);
      size = let l : length m.code ≡ length e.code + 1 =
          ap (λ z. length z.code) q ∙ length-append e.code (DraftOp i ∷ []) in omega (arith, l);
    };
    fewer = omega arith;
  }

  pub lead_to : (f : Far) (l : ℕ) (ts : List Todo) (e m : St) → m ≡ put e ln (DraftTo f l) →
      Advances n ln (To f l ∷ ts) e ts m
  lead_to f l ts e m q = record {
    leads = record {
      whole = λ e' h. (m, q, h);
      size = let k : length m.code ≡ length e.code + 1 =
          ap (λ z. length z.code) q ∙ length-append e.code (DraftTo f l ∷ []) in omega (arith, k);
    };
    fewer = omega arith;
  }

  pub lead_mark : (l : ℕ) (ts : List Todo) (e m : St) → m ≡ marked e l → Advances n ln (Mark l ∷ ts) e ts m
  lead_mark l ts e m q = record {
    leads =
        record {
          whole = λ e' h. (m, q, h);
          size = let k : length m.code ≡ length e.code = ap (λ z. length z.code) q in
              omega (arith, k);
        };
    fewer = omega arith;
  }

  -- A task that stands for a piece.

  pub by_piece : (t : Todo) (p : Piece) (after ts : List Todo) (e : St) →
      ((m : St) → Emitted e m p no_frames → Runs n ln t e m) → size n ln t ≡ p.size →
      ((e' : St) → RunsAll n ln after e e' → (m : St) × Emitted e m p no_frames × RunsAll n ln ts m e') →
      p.size + sizes n ln ts ≡ sizes n ln after → all_weights after < all_weights (t ∷ ts) →
      Advances n ln (t ∷ ts) e after e
  by_piece t p after ts e runs same parts total few =
      record { leads = record { whole = λ e' h. go e' (parts e' h); size = omega (arith, same, total) }; fewer = few }
    where
      go : (e' : St) → (m : St) × Emitted e m p no_frames × RunsAll n ln ts m e' → RunsAll n ln (t ∷ ts) e e'
      go e' (m, h, r) = (m, runs m h, r)

  by_value : (x : Expr) (c : Coded) (after ts : List Todo) (e : St) → coded n ln x ≡ c →
      ((e' : St) → RunsAll n ln after e e' → (m : St) × Emitted e m c.value no_frames × RunsAll n ln ts m e') →
      c.value.size + sizes n ln ts ≡ sizes n ln after → all_weights after < all_weights (Value x ∷ ts) →
      Advances n ln (Value x ∷ ts) e after e
  by_value x c after ts e q = by_piece (Value x) c.value after ts e
      (λ m h. subst (λ z. Emitted e m z.value no_frames) (sym q) h) (ap (λ z. z.value.size) q)

  pub value_power : (a b : Expr) (ts : List Todo) (e : St) →
      Advances n ln (Value (tree.Power a b) ∷ ts) e (Value a ∷ Value b ∷ Op (Binary POWER) ∷ ts) e
  value_power a b ts e = by_value (tree.Power a b) _ (Value a ∷ Value b ∷ Op (Binary POWER) ∷ ts) ts e
      (coded_power n ln a b) go (omega arith) (omega (arith, weight_power a b))
    where
      go : (e' : St) → RunsAll n ln (Value a ∷ Value b ∷ Op (Binary POWER) ∷ ts) e e' →
          (m : St) × Emitted e m (two_values ln (Binary POWER) (value n ln a) (value n ln b)) no_frames × RunsAll n ln
          ts m e'
      go e' (m1, h1, (m2, h2, (m3, h3, r))) =
          (m3, two_values_arm ln no_frames (Binary POWER) (value n ln a) (value n ln b) e m1 m2 m3 h1 h2 h3, r)

  pub one_parts : (i : Instr) (ts : List Todo) (e e' : St) → RunsAll n ln (Op i ∷ ts) e e' →
      (m : St) × Emitted e m (one ln i) no_frames × RunsAll n ln ts m e'
  one_parts i ts e e' (m1, h1, r) = (m1, one_arm ln no_frames i e m1 h1, r)

  one_value_parts : (a : Expr) (i : Instr) (ts : List Todo) (e e' : St) → RunsAll n ln (Value a ∷ Op i ∷ ts) e e' →
      (m : St) × Emitted e m (one_value ln i (value n ln a)) no_frames × RunsAll n ln ts m e'
  one_value_parts a i ts e e' (m1, h1, (m2, h2, r)) = (m2, one_value_arm ln no_frames i (value n ln a) e m1 m2 h1 h2, r)

  pub value_name : (x : List ℕ) (i : Instr) (ts : List Todo) (e : St) → name_value n ln x ≡ one ln i →
      Advances n ln (Value (tree.Name x) ∷ ts) e (Op i ∷ ts) e
  value_name x i ts e q = by_value (tree.Name x) (record { value = one ln i; place = AtName (home n x) }) (Op i ∷ ts)
      ts e (coded_name n ln x ∙ ap (λ z. record { value = z; place = AtName (home n x) }) q) (one_parts i ts e)
      (omega arith) (omega (arith, weight_name x))

  pub value_int : (i : ℤ) (ts : List Todo) (e : St) →
      Advances n ln (Value (tree.Int i) ∷ ts) e (Op (Const (IntValue i)) ∷ ts) e
  value_int i ts e = by_value (tree.Int i) _ (Op (Const (IntValue i)) ∷ ts) ts e (coded_int n ln i)
      (one_parts (Const (IntValue i)) ts e) (omega arith) (omega (arith, weight_int i))

  pub value_str : (s : List ℕ) (ts : List Todo) (e : St) →
      Advances n ln (Value (tree.Str s) ∷ ts) e (Op (Const (Root (text n s))) ∷ ts) e
  value_str s ts e = by_value (tree.Str s) _ (Op (Const (Root (text n s))) ∷ ts) ts e (coded_str n ln s)
      (one_parts (Const (Root (text n s))) ts e) (omega arith) (omega (arith, weight_str s))

  pub value_group : (a : Expr) (ts : List Todo) (e : St) → Advances n ln (Value (tree.Group a) ∷ ts) e (Value a ∷ ts) e
  value_group a ts e = by_value (tree.Group a) (coded n ln a) (Value a ∷ ts) ts e (coded_group n ln a) (λ e' h. h)
      (omega arith) (omega (arith, weight_group a))

  built_parts : (xs : List Expr) (i : Instr) (ts : List Todo) (e e' : St) → RunsAll n ln (Values xs ∷ Op i ∷ ts) e e' →
      (m : St) × Emitted e m (built ln i (values n ln xs)) no_frames × RunsAll n ln ts m e'
  built_parts xs i ts e e' (m1, h1, (m2, h2, r)) = (m2, built_arm ln no_frames i (values n ln xs) e m1 m2 h1 h2, r)

  pub value_tuple : (xs : List Expr) (ts : List Todo) (e : St) →
      Advances n ln (Value (tree.Tuple xs) ∷ ts) e (Values xs ∷ Op (BuildTuple (length xs)) ∷ ts) e
  value_tuple xs ts e = by_value (tree.Tuple xs) _ (Values xs ∷ Op (BuildTuple (length xs)) ∷ ts) ts e
      (coded_tuple n ln xs) (built_parts xs (BuildTuple (length xs)) ts e) (omega arith)
      (omega (arith, weight_tuple xs))

  pub value_list : (xs : List Expr) (ts : List Todo) (e : St) →
      Advances n ln (Value (tree.List xs) ∷ ts) e (Values xs ∷ Op (BuildList (length xs)) ∷ ts) e
  value_list xs ts e = by_value (tree.List xs) _ (Values xs ∷ Op (BuildList (length xs)) ∷ ts) ts e
      (coded_list n ln xs) (built_parts xs (BuildList (length xs)) ts e) (omega arith) (omega (arith, weight_list xs))

  pub value_dict : (ps : List Pair) (ts : List Todo) (e : St) →
      Advances n ln (Value (tree.Dict ps) ∷ ts) e (Pairs ps ∷ Op (BuildDict (length ps)) ∷ ts) e
  value_dict ps ts e = by_value (tree.Dict ps) _ (Pairs ps ∷ Op (BuildDict (length ps)) ∷ ts) ts e (coded_dict n ln ps)
      go (omega arith) (omega (arith, weight_dict ps))
    where
      go : (e' : St) → RunsAll n ln (Pairs ps ∷ Op (BuildDict (length ps)) ∷ ts) e e' →
          (m : St) × Emitted e m (built ln (BuildDict (length ps)) (pairs n ln ps)) no_frames × RunsAll n ln ts m e'
      go e' (m1, h1, (m2, h2, r)) = (
        m2,
        built_arm ln no_frames (BuildDict (length ps)) (pairs n ln ps) e m1 m2 h1 h2,
        r,
      )

  pub value_trail : (a : Expr) (xs : List Trailer) (ts : List Todo) (e : St) →
      Advances n ln (Value (tree.Trail a xs) ∷ ts) e (Value a ∷ Behind xs ∷ ts) e
  value_trail a xs ts e = by_value (tree.Trail a xs) _ (Value a ∷ Behind xs ∷ ts) ts e (coded_trail n ln a xs) go
      (omega arith) (omega (arith, weight_trail a xs))
    where
      go : (e' : St) → RunsAll n ln (Value a ∷ Behind xs ∷ ts) e e' →
          (m : St) × Emitted e m (trailed n ln (value n ln a) (trailers n ln xs)) no_frames × RunsAll n ln ts m e'
      go e' (m1, h1, (m2, h2, r)) = (
        m2,
        trail_arm ln no_frames (value n ln a) (behind n ln (trailers n ln xs)) e m1 m2
            h1 h2,
        r,
      )

  pub value_unary : (g : Sign) (a : Expr) (ts : List Todo) (e : St) →
      Advances n ln (Value (tree.Unary g a) ∷ ts) e (Value a ∷ Op (Unary (sign_number g)) ∷ ts) e
  value_unary g a ts e = by_value (tree.Unary g a) _ (Value a ∷ Op (Unary (sign_number g)) ∷ ts) ts e
      (coded_unary n ln g a) (one_value_parts a (Unary (sign_number g)) ts e) (omega arith)
      (omega (arith, weight_unary g a))

  pub value_not : (a : Expr) (ts : List Todo) (e : St) →
      Advances n ln (Value (tree.Not a) ∷ ts) e (Value a ∷ Op Not ∷ ts) e
  value_not a ts e = by_value (tree.Not a) _ (Value a ∷ Op Not ∷ ts) ts e (coded_not n ln a)
      (one_value_parts a Not ts e) (omega arith) (omega (arith, weight_not a))

  -- A template with labels begins at e, and its tasks are done from `opened e` on.

  from_opened : (x : Expr) (c : Coded) (count : ℕ) (after ts : List Todo) (e e1 : St) → coded n ln x ≡ c →
      e1 ≡ opened e count 0 → ((e' : St) → RunsAll n ln after e1 e' →
      (m : St) × Emitted e m c.value no_frames × RunsAll n ln ts m e') →
      c.value.size + sizes n ln ts ≡ sizes n ln after → all_weights after < all_weights (Value x ∷ ts) →
      Advances n ln (Value x ∷ ts) e after e1
  from_opened x c count after ts e e1 q opens parts total few = record {
    leads = record {
      whole = λ e' h. go e' (parts e' h);
      size = let s : (value n ln x).size ≡ c.value.size =
          ap (λ z. z.value.size) q in let l : length e1.code ≡ length e.code = ap (λ z. length z.code) opens in
          omega (arith, s, l, total);
    };
    fewer = few;
  }
    where
      go : (e' : St) → (m : St) × Emitted e m c.value no_frames × RunsAll n ln ts m e' →
          RunsAll n ln (Value x ∷ ts) e e'
      go e' (m, h, r) = (m, subst (λ z. Emitted e m z.value no_frames) (sym q) h, r)

  pub value_choice : (x c y : Expr) (base : ℕ) (ts : List Todo) (e e1 : St) → base ≡ length e.labels →
      e1 ≡ opened e 2 0 → Advances n ln (Value (tree.Choice x c y) ∷ ts) e
      (Value c ∷ To IfFalse (base + 1) ∷ Value x ∷ To Always base ∷ Mark (base + 1) ∷ Value y ∷ Mark base ∷ ts) e1
  value_choice x c y base ts e e1 eb eo =
      from_opened (tree.Choice x c y) _ 2
      (Value c ∷ To IfFalse (base + 1) ∷ Value x ∷ To Always base ∷ Mark (base + 1) ∷ Value y ∷ Mark base ∷ ts) ts e e1
      (coded_choice n ln x c y) eo go (omega arith) (omega (arith, weight_choice x c y))
    where
      go : (e' : St) → RunsAll n ln (Value c ∷ To IfFalse (base + 1) ∷ Value x ∷ To Always base ∷ Mark (base + 1) ∷
          Value y ∷ Mark base ∷ ts) e1 e' →
          (m : St) × Emitted e m (conditional ln (value n ln x) (value n ln c) (value n ln y)) no_frames × RunsAll n ln
          ts m e'
      go e' (m1, h1, (m2, h2, (m3, h3, (m4, h4, (m5, h5, (m6, h6, (m7, h7, r))))))) = (
        m7,
        conditional_arm ln no_frames (value n ln x) (value n ln c) (value n ln y) base e.slots e e1 m1 m2 m3 m4
            m5 m6 m7 eb refl eo h1 h2 h3 h4 h5 h6 h7,
        r,
      )

  -- `and` and `or`

  logical_parts : (f : Far) (a : Expr) (ls : List Link) (base : ℕ) (ts : List Todo) (e e1 : St) →
      base ≡ length e.labels → e1 ≡ opened e 1 0 → (e' : St) → RunsAll n ln (Kept f base a ls ∷ Mark base ∷ ts) e1 e' →
      (m : St) × Emitted e m (all_kept ln (deciding n ln f a ls) (deciding_last n ln a ls)) no_frames × RunsAll n ln ts
      m e'
  logical_parts f a ls base ts e e1 eb eo e' (m2, (m1, h1, h2), (m3, h3, r)) = (
    m3,
    all_kept_arm ln no_frames (deciding n ln f a ls) (deciding_last n ln a ls) base e.slots e e1 m1 m2 m3 eb
        refl eo h1 h2 h3,
    r,
  )

  pub value_or : (a : Expr) (ls : List Link) (base : ℕ) (ts : List Todo) (e e1 : St) → base ≡ length e.labels →
      e1 ≡ opened e 1 0 → Advances n ln (Value (tree.Chain level.Or a ls) ∷ ts) e
      (Kept KeepingTrue base a ls ∷ Mark base ∷ ts) e1
  value_or a ls base ts e e1 eb eo = from_opened (tree.Chain level.Or a ls) _ 1
      (Kept KeepingTrue base a ls ∷ Mark base ∷ ts) ts e e1 (coded_chain n ln level.Or a ls) eo
      (logical_parts KeepingTrue a ls base ts e e1 eb eo) (omega arith) (omega (arith, weight_chain level.Or a ls))

  pub value_and : (a : Expr) (ls : List Link) (base : ℕ) (ts : List Todo) (e e1 : St) → base ≡ length e.labels →
      e1 ≡ opened e 1 0 → Advances n ln (Value (tree.Chain level.And a ls) ∷ ts) e
      (Kept KeepingFalse base a ls ∷ Mark base ∷ ts) e1
  value_and a ls base ts e e1 eb eo = from_opened (tree.Chain level.And a ls) _ 1
      (Kept KeepingFalse base a ls ∷ Mark base ∷ ts) ts e e1 (coded_chain n ln level.And a ls) eo
      (logical_parts KeepingFalse a ls base ts e e1 eb eo) (omega arith) (omega (arith, weight_chain level.And a ls))

  -- comparisons

  pub value_alone : (a : Expr) (ts : List Todo) (e : St) → Advances n ln (Value (tree.Chain level.Compare a []) ∷ ts) e
      (Value a ∷ ts) e
  value_alone a ts e = by_value (tree.Chain level.Compare a []) _ (Value a ∷ ts) ts e
      (coded_chain n ln level.Compare a []) (λ e' h. h) (omega arith) (omega (arith, weight_chain level.Compare a []))

  pub value_compared : (a : Expr) (x : Link) (ts : List Todo) (e : St) →
      Advances n ln (Value (tree.Chain level.Compare a (x ∷ [])) ∷ ts) e
      (Value a ∷ Value x.operand ∷ Op (Compare (operator x.operator)) ∷ ts) e
  value_compared a x ts e = by_value (tree.Chain level.Compare a (x ∷ [])) _
      (Value a ∷ Value x.operand ∷ Op (Compare (operator x.operator)) ∷ ts) ts e
      (coded_chain n ln level.Compare a (x ∷ [])) go (omega arith)
      (omega (arith, weight_chain level.Compare a (x ∷ [])))
    where
      go : (e' : St) → RunsAll n ln (Value a ∷ Value x.operand ∷ Op (Compare (operator x.operator)) ∷ ts) e e' →
          (m : St) × Emitted e m (two_values ln (Compare (operator x.operator)) (value n ln a) (value n ln x.operand))
          no_frames × RunsAll n ln ts m e'
      go e' (m1, h1, (m2, h2, (m3, h3, r))) = (
        m3,
        two_values_arm ln no_frames (Compare (operator x.operator)) (value n ln a) (value n ln x.operand) e m1
            m2 m3 h1 h2 h3,
        r,
      )

  pub value_chained : (a : Expr) (x y : Link) (ys : List Link) (base : ℕ) (ts : List Todo) (e e1 : St) →
      base ≡ length e.labels → e1 ≡ opened e 2 0 → Advances n ln (Value (tree.Chain level.Compare a (x ∷ y ∷ ys)) ∷ ts)
      e (Value a ∷ Between (base + 1) x (y ∷ ys) ∷ To Always base ∷ Mark (base + 1) ∷ Op Rot2 ∷ Op Pop ∷ Mark base ∷
      ts) e1
  value_chained a x y ys base ts e e1 eb eo = from_opened (tree.Chain level.Compare a (x ∷ y ∷ ys)) _ 2
      (Value a ∷ Between (base + 1) x (y ∷ ys) ∷ To Always base ∷ Mark (base + 1) ∷ Op Rot2 ∷ Op Pop ∷ Mark base ∷ ts)
      ts e e1 (coded_chain n ln level.Compare a (x ∷ y ∷ ys)) eo go (omega arith)
      (omega (arith, weight_chain level.Compare a (x ∷ y ∷ ys)))
    where
      links2 : List (ℕ × Piece)
      links2 = linked n ln (y ∷ ys)

      go : (e' : St) → RunsAll n ln (Value a ∷ Between (base + 1) x (y ∷ ys) ∷ To Always base ∷ Mark (base + 1) ∷ Op
          Rot2 ∷ Op Pop ∷ Mark base ∷ ts) e1 e' →
          (m : St) × Emitted e m (chained ln (value n ln a) (betweens ln (linked_one n ln x) links2)
          (last_link (linked_one n ln x) links2).1 (last_link (linked_one n ln x) links2).0) no_frames × RunsAll n ln
          ts m e'
      go e' (m1, h1, (m4, h, (m5, h5, (m6, h6, (m7, h7, (m8, h8, (m9, h9, r))))))) = let w = h base refl in (
        m9,
        chained_arm ln no_frames (value n ln a) (betweens ln (linked_one n ln x) links2)
            (last_link (linked_one n ln x) links2).1 (last_link (linked_one n ln x) links2).0 base e.slots e e1 m1 w.0
            w.1 m4 m5 m6 m7 m8 m9 eb refl eo h1 w.2 w.3 w.4 h5 h6 h7 h8 h9,
        r,
      )

  -- the other levels

  operated_parts : (a : Expr) (ls : List Link) (ts : List Todo) (e e' : St) →
      RunsAll n ln (Value a ∷ Links ls ∷ ts) e e' →
      (m : St) × Emitted e m (operators ln (value n ln a) (links ln (linked n ln ls))) no_frames × RunsAll n ln ts m e'
  operated_parts a ls ts e e' (m1, h1, (m2, h2, r)) =
      (m2, operators_arm ln no_frames (value n ln a) (links ln (linked n ln ls)) e m1 m2 h1 h2, r)

  pub value_operated : (l : Level) (a : Expr) (ls : List Link) (ts : List Todo) (e : St) →
      chain ln l (value n ln a) (linked n ln ls) ≡ operators ln (value n ln a) (links ln (linked n ln ls)) →
      Advances n ln (Value (tree.Chain l a ls) ∷ ts) e (Value a ∷ Links ls ∷ ts) e
  value_operated l a ls ts e q = by_value (tree.Chain l a ls)
      (record { value = operators ln (value n ln a) (links ln (linked n ln ls)); place = NoPlace })
      (Value a ∷ Links ls ∷ ts) ts e (coded_chain n ln l a ls ∙ ap (λ z. record { value = z; place = NoPlace }) q)
      (operated_parts a ls ts e) (omega arith) (omega (arith, weight_chain l a ls))
