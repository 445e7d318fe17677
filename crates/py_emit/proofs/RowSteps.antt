-- Each step of the stack of tasks: rows of parts, and what stands behind an atom.
use Rattle.std.proofs.Common.{◌≡◌, ℕ, ◌+◌, ◌<◌, ◌≤◌, List, [], ◌∷◌, length, Option, Some, None, refl, sym, ap, ◌∙◌, subst, arith}
use Rattle.py_code.specs.declared.instr.Constant.TheVariants.{None as NoValue}
use Rattle.py_code.specs.declared.instr.Instr.TheVariants.{Const, Binary, Compare, Dup, Rot3, LoadAttr, LoadItem, Slice, LoadMethod, Call, CallMethod}
use Rattle.py_tree.specs.declared.expr.Expr.{Expr}
use Rattle.py_tree.specs.declared.expr.Trailer.{Trailer}
use Rattle.py_tree.specs.declared.expr.Link.{Link}
use Rattle.py_tree.specs.declared.expr.Named.{Named}
use Rattle.py_tree.specs.declared.expr.Pair.{Pair}
use Rattle.py_tree.specs.declared.expr.Trailer.TheVariants as trailer
use Rattle.py_emit.specs.declared.draft.Draft.TheVariants.{Op as DraftOp, To as DraftTo}
use Rattle.py_emit.specs.declared.draft.Far.{Far}
use Rattle.py_emit.specs.declared.draft.Far.TheVariants.{KeepingFalse}
use Rattle.py_templates.specs.Template.{row}
use Rattle.py_templates.specs.Table.{link, kept, between, attribute, index, slice, call, method_call, pair}
use Rattle.py_templates.specs.Names.{Known, text, key_list}
use Rattle.py_emit.specs.inner.State.{St, put, jump_of, frame_there, no_frames, Emitted}
use Rattle.py_templates.specs.Expressions.{operator, Trailed, Attr, Index, Cut, Called, key_names, coded_trailer, value, values, linked, links, betweens, last_link, pairs, key_values, behind, trailers, value_some}
use Rattle.py_emit.specs.inner.Tasks.{Todo, Value, Values, Behind, Pairs, Keys, Links, Kept, Between, Op, To, Runs, RunsAll, size, sizes, deciding, linked_one, bound_task}
use Rattle.py_emit.specs.inner.TaskWeights.{weight_some, task_weight, all_weights, Advances}
use Rattle.py_emit.proofs.TaskWeights.{weight_attribute, weight_index, weight_slice, weight_call}
use Rattle.py_emit.proofs.Emits.{row_none}
use Rattle.py_emit.proofs.Rests.{row_cons}
use Rattle.py_emit.proofs.Arms.{one_arm, pair_arm, link_arm, attribute_arm, index_arm, slice_arm, call_arm, method_arm, kept_arm, between_arm}
use Rattle.py_templates.proofs.Coded.{coded_attribute, coded_index, coded_slice, coded_call}
use Rattle.py_emit.proofs.Steps.{by_piece}
use Rattle.py_templates.proofs.Lengths.{values_length}

module _ (n : Known) (ln : ℕ) where
  -- Rows.

  pub values_none : (ts : List Todo) (e : St) → Advances n ln (Values [] ∷ ts) e ts e
  values_none ts e = record {
    leads = record { whole = λ e' h. (e, row_none no_frames e, h); size = omega arith };
    fewer = omega arith;
  }

  pub values_more : (x : Expr) (xs : List Expr) (ts : List Todo) (e : St) →
      Advances n ln (Values (x ∷ xs) ∷ ts) e (Value x ∷ Values xs ∷ ts) e
  values_more x xs ts e = by_piece n ln (Values (x ∷ xs)) (row (values n ln (x ∷ xs))) (Value x ∷ Values xs ∷ ts) ts e
      (λ m h. h) refl go (omega arith) (omega arith)
    where
      go : (e' : St) → RunsAll n ln (Value x ∷ Values xs ∷ ts) e e' →
          (m : St) × Emitted e m (row (values n ln (x ∷ xs))) no_frames × RunsAll n ln ts m e'
      go e' (m1, h1, (m2, h2, r)) = (m2, row_cons no_frames (value n ln x) (values n ln xs) e m1 m2 h1 h2, r)

  pub pairs_none : (ts : List Todo) (e : St) → Advances n ln (Pairs [] ∷ ts) e ts e
  pairs_none ts e = record {
    leads = record { whole = λ e' h. (e, row_none no_frames e, h); size = omega arith };
    fewer = omega arith;
  }

  pub pairs_more : (x : Pair) (xs : List Pair) (ts : List Todo) (e : St) →
      Advances n ln (Pairs (x ∷ xs) ∷ ts) e (Value x.key ∷ Value x.value ∷ Pairs xs ∷ ts) e
  pairs_more x xs ts e = by_piece n ln (Pairs (x ∷ xs)) (row (pairs n ln (x ∷ xs)))
      (Value x.key ∷ Value x.value ∷ Pairs xs ∷ ts) ts e (λ m h. h) refl go (omega arith) (omega arith)
    where
      go : (e' : St) → RunsAll n ln (Value x.key ∷ Value x.value ∷ Pairs xs ∷ ts) e e' →
          (m : St) × Emitted e m (row (pairs n ln (x ∷ xs))) no_frames × RunsAll n ln ts m e'
      go e' (m1, h1, (m2, h2, (m3, h3, r))) = (
        m3,
        row_cons no_frames (pair ln (value n ln x.key) (value n ln x.value)) (pairs n ln xs) e m2 m3
            (pair_arm ln no_frames (value n ln x.key) (value n ln x.value) e m1 m2 h1 h2) h3,
        r,
      )

  pub keys_none : (ts : List Todo) (e : St) → Advances n ln (Keys [] ∷ ts) e ts e
  keys_none ts e = record {
    leads = record { whole = λ e' h. (e, row_none no_frames e, h); size = omega arith };
    fewer = omega arith;
  }

  pub keys_more : (x : Named) (xs : List Named) (ts : List Todo) (e : St) →
      Advances n ln (Keys (x ∷ xs) ∷ ts) e (Value x.value ∷ Keys xs ∷ ts) e
  keys_more x xs ts e = by_piece n ln (Keys (x ∷ xs)) (row (key_values n ln (x ∷ xs))) (Value x.value ∷ Keys xs
      ∷ ts) ts e
      (λ m h. h) refl go (omega arith) (omega arith)
    where
      go : (e' : St) → RunsAll n ln (Value x.value ∷ Keys xs ∷ ts) e e' →
          (m : St) × Emitted e m (row (key_values n ln (x ∷ xs))) no_frames × RunsAll n ln ts m e'
      go e' (m1, h1, (m2, h2, r)) = (m2, row_cons no_frames (value n ln x.value) (key_values n ln xs) e m1 m2 h1 h2, r)

  pub links_none : (ts : List Todo) (e : St) → Advances n ln (Links [] ∷ ts) e ts e
  links_none ts e = record {
    leads = record { whole = λ e' h. (e, row_none no_frames e, h); size = omega arith };
    fewer = omega arith;
  }

  pub links_more : (x : Link) (xs : List Link) (ts : List Todo) (e : St) →
      Advances n ln (Links (x ∷ xs) ∷ ts) e (Value x.operand ∷ Op (Binary (operator x.operator)) ∷ Links xs ∷ ts) e
  links_more x xs ts e = by_piece n ln (Links (x ∷ xs)) (row (links ln (linked n ln (x ∷ xs))))
      (Value x.operand ∷ Op (Binary (operator x.operator)) ∷ Links xs ∷ ts) ts e (λ m h. h) refl go (omega arith)
      (omega arith)
    where
      go : (e' : St) → RunsAll n ln (Value x.operand ∷ Op (Binary (operator x.operator)) ∷ Links xs ∷ ts) e e' →
          (m : St) × Emitted e m (row (links ln (linked n ln (x ∷ xs)))) no_frames × RunsAll n ln ts m e'
      go e' (m1, h1, (m2, h2, (m3, h3, r))) = (
        m3,
        row_cons no_frames (link ln (Binary (operator x.operator)) (value n ln x.operand))
            (links ln (linked n ln xs)) e m2 m3
            (link_arm ln no_frames (Binary (operator x.operator)) (value n ln x.operand) e m1 m2 h1 h2) h3,
        r,
      )

  pub kept_none : (f : Far) (l : ℕ) (a : Expr) (ts : List Todo) (e : St) →
      Advances n ln (Kept f l a [] ∷ ts) e (Value a ∷ ts) e
  kept_none f l a ts e = record { leads = record { whole = go; size = omega arith }; fewer = omega arith }
    where
      go : (e' : St) → RunsAll n ln (Value a ∷ ts) e e' → RunsAll n ln (Kept f l a [] ∷ ts) e e'
      go e' (m1, h1, r) = (m1, (e, row_none (λ places. frame_there l 1 0 places ∷ []) e, h1), r)

  pub kept_more : (f : Far) (l : ℕ) (a : Expr) (x : Link) (xs : List Link) (ts : List Todo) (e : St) →
      Advances n ln (Kept f l a (x ∷ xs) ∷ ts) e (Value a ∷ To f l ∷ Kept f l x.operand xs ∷ ts) e
  kept_more f l a x xs ts e = record { leads = record { whole = go; size = omega arith }; fewer = omega arith }
    where
      go : (e' : St) → RunsAll n ln (Value a ∷ To f l ∷ Kept f l x.operand xs ∷ ts) e e' →
          RunsAll n ln (Kept f l a (x ∷ xs) ∷ ts) e e'
      go e' (m1, h1, (m2, h2, (m3, (k, hk, hl), r))) = (
        m3,
        (
          k,
          row_cons (λ places. frame_there l 1 0 places ∷ []) (kept ln (jump_of f) (value n ln a))
              (deciding n ln f x.operand xs) e m2 k (kept_arm ln l f (value n ln a) e m1 m2 h1 h2) hk,
          hl,
        ),
        r,
      )

  pub between_none : (f : ℕ) (x : Link) (ts : List Todo) (e : St) →
      Advances n ln (Between f x [] ∷ ts) e (Value x.operand ∷ Op (Compare (operator x.operator)) ∷ ts) e
  between_none f x ts e = record { leads = record { whole = go; size = omega arith }; fewer = omega arith }
    where
      go : (e' : St) → RunsAll n ln (Value x.operand ∷ Op (Compare (operator x.operator)) ∷ ts) e e' →
          RunsAll n ln (Between f x [] ∷ ts) e e'
      go e' (m1, h1, (m2, h2, r)) = (
        m2,
        λ l eq. (e, m1, row_none (λ places. frame_there l 2 0 places ∷ []) e, h1, h2),
        r,
      )

  pub between_more : (f : ℕ) (x y : Link) (ys : List Link) (ts : List Todo) (e : St) →
      Advances n ln (Between f x (y ∷ ys) ∷ ts) e
      (Value x.operand ∷ Op Dup ∷ Op Rot3 ∷ Op (Compare (operator x.operator)) ∷ To KeepingFalse f ∷ Between f y ys ∷
      ts) e
  between_more f x y ys ts e = record { leads = record { whole = go; size = omega arith }; fewer = omega arith }
    where
      go : (e' : St) → RunsAll n ln (Value x.operand ∷ Op Dup ∷ Op Rot3 ∷ Op (Compare (operator x.operator)) ∷ To
          KeepingFalse f ∷ Between f y ys ∷ ts) e e' → RunsAll n ln (Between f x (y ∷ ys) ∷ ts) e e'
      go e' (m1, h1, (m2, h2, (m3, h3, (m4, h4, (m5, h5, (m6, h6, r)))))) = (m6, λ l eq. joined l eq (h6 l eq), r)
        where
          joined : (l : ℕ) → f ≡ l + 1 →
              (j : St) × (k : St) × Emitted m5 j (row (betweens ln (linked_one n ln y) (linked n ln ys)))
              (λ places. frame_there l 2 0 places ∷ []) × Emitted j k
              (last_link (linked_one n ln y) (linked n ln ys)).1 no_frames ×
              (m6 ≡ put k ln (DraftOp (Compare (last_link (linked_one n ln y) (linked n ln ys)).0))) →
              (j : St) × (k : St) × Emitted e j (row (betweens ln (linked_one n ln x) (linked n ln (y ∷ ys))))
              (λ places. frame_there l 2 0 places ∷ []) × Emitted j k
              (last_link (linked_one n ln x) (linked n ln (y ∷ ys))).1 no_frames ×
              (m6 ≡ put k ln (DraftOp (Compare (last_link (linked_one n ln x) (linked n ln (y ∷ ys))).0)))
          joined l eq (j, k, hj, hk, hm) = (
            j,
            k,
            row_cons (λ places. frame_there l 2 0 places ∷ [])
                (between ln (operator x.operator) (value n ln x.operand))
                (betweens ln (linked_one n ln y) (linked n ln ys)) e m5 j
                (between_arm ln l (operator x.operator) (value n ln x.operand) e m1 m2 m3 m4 m5 h1 h2 h3 h4
                (h5 ∙ ap (λ z. put m4 ln (DraftTo KeepingFalse z)) eq)) hj,
            hk,
            hm,
          )

  -- What stands behind an atom.

  by_behind : (x : Trailer) (c : Trailed) (xs : List Trailer) (after ts : List Todo) (e : St) →
      coded_trailer n ln x ≡ c → ((e' : St) → RunsAll n ln after e e' →
      (m : St) × Emitted e m (row (behind n ln (c ∷ trailers n ln xs))) no_frames × RunsAll n ln ts m e') →
      (row (behind n ln (c ∷ trailers n ln xs))).size + sizes n ln ts ≡ sizes n ln after →
      all_weights after < all_weights (Behind (x ∷ xs) ∷ ts) → Advances n ln (Behind (x ∷ xs) ∷ ts) e after e
  by_behind x c xs after ts e q = by_piece n ln (Behind (x ∷ xs)) (row (behind n ln (c ∷ trailers n ln xs))) after ts e
      (λ m h. subst (λ z. Emitted e m (row (behind n ln (z ∷ trailers n ln xs))) no_frames) (sym q) h)
      (ap (λ z. (row (behind n ln (z ∷ trailers n ln xs))).size) q)

  pub behind_none : (ts : List Todo) (e : St) → Advances n ln (Behind [] ∷ ts) e ts e
  behind_none ts e = record {
    leads = record { whole = λ e' h. (e, row_none no_frames e, h); size = omega arith };
    fewer = omega arith;
  }

  pub behind_index : (i : Expr) (xs : List Trailer) (ts : List Todo) (e : St) →
      Advances n ln (Behind (trailer.Index i ∷ xs) ∷ ts) e (Value i ∷ Op LoadItem ∷ Behind xs ∷ ts) e
  behind_index i xs ts e = by_behind (trailer.Index i) _ xs (Value i ∷ Op LoadItem ∷ Behind xs ∷ ts) ts e
      (coded_index n ln i) go (omega arith) (omega (arith, weight_index i))
    where
      go : (e' : St) → RunsAll n ln (Value i ∷ Op LoadItem ∷ Behind xs ∷ ts) e e' →
          (m : St) × Emitted e m (row (behind n ln (Index (value n ln i) ∷ trailers n ln xs))) no_frames × RunsAll n ln
          ts m e'
      go e' (m1, h1, (m2, h2, (m3, h3, r))) = (
        m3,
        row_cons no_frames (index ln (value n ln i)) (behind n ln (trailers n ln xs)) e m2 m3
            (index_arm ln no_frames (value n ln i) e m1 m2 h1 h2) h3,
        r,
      )

  bound_runs : (b : Option Expr) (e m : St) → Runs n ln (bound_task b) e m → Emitted e m (value_some n ln b) no_frames
  bound_runs None e m h = one_arm ln no_frames (Const NoValue) e m h
  bound_runs (Some x) e m h = h

  bound_weight : (b : Option Expr) → task_weight (bound_task b) ≤ weight_some b
  bound_weight None = omega arith
  bound_weight (Some x) = omega arith

  bound_size : (b : Option Expr) → size n ln (bound_task b) ≡ (value_some n ln b).size
  bound_size None = refl
  bound_size (Some x) = refl

  pub behind_slice : (i j : Option Expr) (xs : List Trailer) (ts : List Todo) (e : St) →
      Advances n ln (Behind (trailer.Slice i j ∷ xs) ∷ ts) e (bound_task i ∷ bound_task j ∷ Op Slice ∷ Behind xs ∷ ts) e
  behind_slice i j xs ts e = by_behind (trailer.Slice i j) _ xs
      (bound_task i ∷ bound_task j ∷ Op Slice ∷ Behind xs ∷ ts) ts e (coded_slice n ln i j) go
      (omega (arith, bound_size i, bound_size j)) (omega (arith, weight_slice i j, bound_weight i, bound_weight j))
    where
      go : (e' : St) → RunsAll n ln (bound_task i ∷ bound_task j ∷ Op Slice ∷ Behind xs ∷ ts) e e' →
          (m : St) × Emitted e m (row (behind n ln (Cut (value_some n ln i) (value_some n ln j) ∷ trailers n ln xs)))
          no_frames × RunsAll n ln ts m e'
      go e' (m1, h1, (m2, h2, (m3, h3, (m4, h4, r)))) = (
        m4,
        row_cons no_frames (slice ln (value_some n ln i) (value_some n ln j)) (behind n ln (trailers n ln xs)) e
            m3 m4 (slice_arm ln no_frames (value_some n ln i) (value_some n ln j) e m1 m2 m3 (bound_runs i e m1 h1)
            (bound_runs j m1 m2 h2) h3) h4,
        r,
      )

  pub behind_call : (args : List Expr) (ks : List Named) (xs : List Trailer) (ts : List Todo) (e : St) →
      Advances n ln (Behind (trailer.Call args ks ∷ xs) ∷ ts) e
      (Values args ∷ Keys ks ∷ Op (Call (length args) (key_list n (key_names ks))) ∷ Behind xs ∷ ts) e
  behind_call args ks xs ts e = by_behind (trailer.Call args ks) _ xs
      (Values args ∷ Keys ks ∷ Op (Call (length args) (key_list n (key_names ks))) ∷ Behind xs ∷ ts) ts e
      (coded_call n ln args ks) go (omega arith) (omega (arith, weight_call args ks))
    where
      k : ℕ
      k = key_list n (key_names ks)

      go : (e' : St) → RunsAll n ln (Values args ∷ Keys ks ∷ Op (Call (length args) k) ∷ Behind xs ∷ ts) e e' →
          (m : St) × Emitted e m (row (behind n ln
          (Called (values n ln args) (key_names ks) (key_values n ln ks) ∷ trailers n ln xs))) no_frames × RunsAll n ln
          ts m e'
      go e' (m1, h1, (m2, h2, (m3, h3, (m4, h4, r)))) = (
        m4,
        row_cons no_frames (call ln (values n ln args) k (key_values n ln ks)) (behind n ln (trailers n ln xs))
            e m3 m4 (call_arm ln no_frames (values n ln args) k (key_values n ln ks) e m1 m2 m3 h1 h2
            (h3 ∙ ap (λ z. put m2 ln (DraftOp (Call z k))) (sym (values_length n ln args)))) h4,
        r,
      )

  -- An attribute: with nothing behind it, with something that is no call, with a call.

  by_attribute : (m : List ℕ) (cs : List Trailed) (xs : List Trailer) (after ts : List Todo) (e : St) →
      trailers n ln xs ≡ cs → ((e' : St) → RunsAll n ln after e e' →
      (k : St) × Emitted e k (row (behind n ln (Attr m ∷ cs))) no_frames × RunsAll n ln ts k e') →
      (row (behind n ln (Attr m ∷ cs))).size + sizes n ln ts ≡ sizes n ln after →
      all_weights after < all_weights (Behind (trailer.Attribute m ∷ xs) ∷ ts) →
      Advances n ln (Behind (trailer.Attribute m ∷ xs) ∷ ts) e after e
  by_attribute m cs xs after ts e q = by_piece n ln (Behind (trailer.Attribute m ∷ xs))
      (row (behind n ln (Attr m ∷ cs)))
      after ts e (λ k h. subst (λ z. Emitted e k (row (behind n ln z)) no_frames) (sym whole) h)
      (ap (λ z. (row (behind n ln z)).size) whole)
    where
      whole : trailers n ln (trailer.Attribute m ∷ xs) ≡ Attr m ∷ cs
      whole = ap (λ z. z ∷ trailers n ln xs) (coded_attribute n ln m) ∙ ap (λ z. Attr m ∷ z) q

  attribute_then : (m : List ℕ) (cs : List Trailed) (xs : List Trailer) (ts : List Todo) (e : St) →
      trailers n ln xs ≡ cs → behind n ln (Attr m ∷ cs) ≡ attribute ln (text n m) ∷ behind n ln cs →
      Advances n ln (Behind (trailer.Attribute m ∷ xs) ∷ ts) e (Op (LoadAttr (text n m)) ∷ Behind xs ∷ ts) e
  attribute_then m cs xs ts e q b = by_attribute m cs xs (Op (LoadAttr (text n m)) ∷ Behind xs ∷ ts) ts e q go total
      (omega (arith, weight_attribute m))
    where
      total : (row (behind n ln (Attr m ∷ cs))).size + sizes n ln ts ≡ sizes n ln
          (Op (LoadAttr (text n m)) ∷ Behind xs ∷ ts)
      total = let s : (row (behind n ln (Attr m ∷ cs))).size ≡ 1 + 0 + (row (behind n ln cs)).size =
          ap (λ z. (row z).size) b in
          let t : (row (behind n ln (trailers n ln xs))).size ≡ (row (behind n ln cs)).size =
          ap (λ z. (row (behind n ln z)).size) q in
          omega (arith, s, t)

      go : (e' : St) → RunsAll n ln (Op (LoadAttr (text n m)) ∷ Behind xs ∷ ts) e e' →
          (k : St) × Emitted e k (row (behind n ln (Attr m ∷ cs))) no_frames × RunsAll n ln ts k e'
      go e' (m1, h1, (m2, h2, r)) = (
        m2,
        subst (λ z. Emitted e m2 (row z) no_frames) (sym b)
            (row_cons no_frames (attribute ln (text n m)) (behind n ln cs) e m1 m2
            (attribute_arm ln no_frames (text n m) e m1 h1)
            (subst (λ z. Emitted m1 m2 (row (behind n ln z)) no_frames) q h2)),
        r,
      )

  pub attribute_none : (m : List ℕ) (ts : List Todo) (e : St) → Advances n ln (Behind (trailer.Attribute m ∷ []) ∷ ts)
      e (Op (LoadAttr (text n m)) ∷ Behind [] ∷ ts) e
  attribute_none m ts e = attribute_then m [] [] ts e refl refl

  pub attribute_attribute : (m k : List ℕ) (xs : List Trailer) (ts : List Todo) (e : St) →
      Advances n ln (Behind (trailer.Attribute m ∷ trailer.Attribute k ∷ xs) ∷ ts) e
      (Op (LoadAttr (text n m)) ∷ Behind (trailer.Attribute k ∷ xs) ∷ ts) e
  attribute_attribute m k xs ts e = attribute_then m (Attr k ∷ trailers n ln xs) (trailer.Attribute k ∷ xs) ts e
      (ap (λ z. z ∷ trailers n ln xs) (coded_attribute n ln k)) refl

  pub attribute_index : (m : List ℕ) (i : Expr) (xs : List Trailer) (ts : List Todo) (e : St) →
      Advances n ln (Behind (trailer.Attribute m ∷ trailer.Index i ∷ xs) ∷ ts) e
      (Op (LoadAttr (text n m)) ∷ Behind (trailer.Index i ∷ xs) ∷ ts) e
  attribute_index m i xs ts e = attribute_then m (Index (value n ln i) ∷ trailers n ln xs) (trailer.Index i ∷ xs) ts e
      (ap (λ z. z ∷ trailers n ln xs) (coded_index n ln i)) refl

  pub attribute_slice : (m : List ℕ) (i j : Option Expr) (xs : List Trailer) (ts : List Todo) (e : St) →
      Advances n ln (Behind (trailer.Attribute m ∷ trailer.Slice i j ∷ xs) ∷ ts) e
      (Op (LoadAttr (text n m)) ∷ Behind (trailer.Slice i j ∷ xs) ∷ ts) e
  attribute_slice m i j xs ts e = attribute_then m (Cut (value_some n ln i) (value_some n ln j) ∷ trailers n ln xs)
      (trailer.Slice i j ∷ xs) ts e (ap (λ z. z ∷ trailers n ln xs) (coded_slice n ln i j)) refl

  pub attribute_call : (m : List ℕ) (args : List Expr) (ks : List Named) (xs : List Trailer) (ts : List Todo) (e : St)
      → Advances n ln (Behind (trailer.Attribute m ∷ trailer.Call args ks ∷ xs) ∷ ts) e
      (Op (LoadMethod (text n m)) ∷ Values args ∷ Keys ks ∷ Op (CallMethod (length args) (key_list n (key_names ks))) ∷
      Behind xs ∷ ts) e
  attribute_call m args ks xs ts e = by_attribute m
      (Called (values n ln args) (key_names ks) (key_values n ln ks) ∷ trailers n ln xs) (trailer.Call args ks ∷ xs)
      (Op (LoadMethod (text n m)) ∷ Values args ∷ Keys ks ∷ Op (CallMethod (length args) k) ∷ Behind xs ∷ ts) ts e
      (ap (λ z. z ∷ trailers n ln xs) (coded_call n ln args ks)) go (omega arith)
      (omega (arith, weight_attribute m, weight_call args ks))
    where
      k : ℕ
      k = key_list n (key_names ks)

      go : (e' : St) → RunsAll n ln (Op (LoadMethod (text n m)) ∷ Values args ∷ Keys ks ∷ Op
          (CallMethod (length args) k) ∷ Behind xs ∷ ts) e e' →
          (j : St) × Emitted e j (row (behind n ln
          (Attr m ∷ Called (values n ln args) (key_names ks) (key_values n ln ks) ∷ trailers n ln xs))) no_frames ×
          RunsAll n ln ts j e'
      go e' (m1, h1, (m2, h2, (m3, h3, (m4, h4, (m5, h5, r))))) = (
        m5,
        row_cons no_frames (method_call ln (text n m) (values n ln args) k (key_values n ln ks))
            (behind n ln (trailers n ln xs)) e m4 m5
            (method_arm ln no_frames (text n m) (values n ln args) k (key_values n ln ks) e m1 m2 m3 m4 h1 h2 h3
            (h4 ∙ ap (λ z. put m3 ln (DraftOp (CallMethod z k))) (sym (values_length n ln args)))) h5,
        r,
      )
