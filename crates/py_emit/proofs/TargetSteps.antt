-- Each step of the stack of tasks: targets.
use Rattle.std.proofs.Common.{◌≡◌, ℕ, ◌+◌, ◌<◌, List, [], ◌∷◌, ◌++◌, length, refl, sym, ap, ◌∙◌, subst, arith}
use Rattle.py_code.specs.declared.instr.Instr.{Instr}
use Rattle.py_code.specs.declared.instr.Instr.TheVariants.{Dup, Dup2, Rot2, Rot3, LoadAttr, StoreAttr, DelAttr, LoadItem, StoreItem, DelItem, InPlace, Unpack}
use Rattle.py_tree.specs.declared.expr.Expr.{Expr}
use Rattle.py_tree.specs.declared.expr.Trailer.{Trailer}
use Rattle.py_tree.specs.declared.expr.Operator.{Operator}
use Rattle.py_tree.specs.declared.expr.Expr.TheVariants as tree
use Rattle.py_tree.specs.declared.expr.Trailer.TheVariants as trailer
use Rattle.py_emit.specs.declared.draft.Draft.TheVariants.{Op as DraftOp}
use Rattle.py_templates.specs.Template.{Piece, Op as PutOp, Alone, row}
use Rattle.py_templates.specs.Table.{load, store, del, nothing, one_value, two_values, to_all, add_name, add_attr, add_item}
use Rattle.py_templates.specs.Names.{Known, home, text}
use Rattle.py_emit.specs.inner.State.{St, put, no_frames, Emitted}
use Rattle.py_templates.specs.Expressions.{operator, Place, AtName, Spread, NoPlace, Trailed, Attr, Index, front_of, store_at, del_at, add_at, trailed, last_place, place_by, place_of_trail, coded, coded_trailer, value, stored, deleted, all_stored, all_deleted, behind, trailers}
use Rattle.py_emit.specs.inner.Tasks.{Todo, Value, Behind, Store, Stores, Delete, Deletes, Augment, Op, RunsAll, size, sizes}
use Rattle.py_emit.specs.inner.TaskWeights.{weight, weights, all_weights, Advances}
use Rattle.py_emit.proofs.TaskWeights.{weight_name, weight_group, weight_tuple, weight_list, weight_trail, weight_attribute, weight_index, weight_pos, weights_last}
use Rattle.py_emit.proofs.Emits.{plain_emitted, row_none}
use Rattle.py_emit.proofs.Rests.{row_cons}
use Rattle.py_emit.proofs.Arms.{one_value_arm, two_values_arm, trail_arm}
use Rattle.py_templates.proofs.Coded.{coded_name, coded_group, coded_tuple, coded_list, coded_trail, coded_attribute, coded_index}
use Rattle.py_emit.proofs.Steps.{by_piece, one_parts}
use Rattle.py_templates.proofs.Lengths.{stored_length}

module _ (n : Known) (ln : ℕ) where
  -- Targets.

  trailers_last : (xs : List Trailer) (x : Trailer) (c : Trailed) → coded_trailer n ln x ≡ c →
      trailers n ln (xs ++ x ∷ []) ≡ trailers n ln xs ++ c ∷ []
  trailers_last [] x c q = ap (λ z. z ∷ []) q
  trailers_last (y ∷ ys) x c q = ap (λ z. coded_trailer n ln y ∷ z) (trailers_last ys x c q)

  front_last : (cs : List Trailed) (c : Trailed) → front_of (cs ++ c ∷ []) ≡ cs
  front_last [] c = refl
  front_last (t ∷ []) c = refl
  front_last (t ∷ u ∷ us) c = ap (λ z. t ∷ z) (front_last (u ∷ us) c)

  place_last : (o : Piece) (cs : List Trailed) (c : Trailed) → place_by n ln o (cs ++ c ∷ []) ≡ last_place n ln o c
  place_last o [] c = refl
  place_last o (t ∷ []) c = refl
  place_last o (t ∷ u ∷ us) c = place_last o (u ∷ us) c

  -- the object of a target: an atom with all that stands behind it but for the last
  abbrev object : Expr → List Trailer → Piece
  object a front = trailed n ln (value n ln a) (trailers n ln front)

  pub trail_place : (a : Expr) (front : List Trailer) (x : Trailer) (c : Trailed) → coded_trailer n ln x ≡ c →
      (coded n ln (tree.Trail a (front ++ x ∷ []))).place ≡ last_place n ln
      (trailed n ln (value n ln a) (trailers n ln front)) c
  trail_place a front x c q =
      ap (λ z. z.place) (coded_trail n ln a (front ++ x ∷ []))
      ∙ ap (λ z. place_of_trail n ln (value n ln a) z) (trailers_last front x c q)
      ∙ ap (λ z. place_by n ln (trailed n ln (value n ln a) z) (trailers n ln front ++ c ∷ []))
      (front_last (trailers n ln front) c)
      ∙ place_last (trailed n ln (value n ln a) (trailers n ln front)) (trailers n ln front) c

  object_runs : (a : Expr) (front : List Trailer) (e m1 m2 : St) → Emitted e m1 (value n ln a) no_frames →
      Emitted m1 m2 (row (behind n ln (trailers n ln front))) no_frames →
      Emitted e m2 (trailed n ln (value n ln a) (trailers n ln front)) no_frames
  object_runs a front e m1 m2 h1 h2 = trail_arm ln no_frames (value n ln a) (behind n ln (trailers n ln front)) e m1 m2
      h1 h2

  -- a template of two parts: an object and an instruction
  part_runs : (a : Expr) (front : List Trailer) (i : Instr) (ts : List Todo) (e e' : St) →
      RunsAll n ln (Value a ∷ Behind front ∷ Op i ∷ ts) e e' →
      (m : St) × Emitted e m (one_value ln i (trailed n ln (value n ln a) (trailers n ln front))) no_frames × RunsAll n
      ln ts m e'
  part_runs a front i ts e e' (m1, h1, (m2, h2, (m3, h3, r))) = (
    m3,
    one_value_arm ln no_frames i (trailed n ln (value n ln a) (trailers n ln front)) e m2 m3
        (object_runs a front e m1 m2 h1 h2) h3,
    r,
  )

  item_runs : (a : Expr) (front : List Trailer) (i : Expr) (j : Instr) (ts : List Todo) (e e' : St) →
      RunsAll n ln (Value a ∷ Behind front ∷ Value i ∷ Op j ∷ ts) e e' →
      (m : St) × Emitted e m (two_values ln j (trailed n ln (value n ln a) (trailers n ln front)) (value n ln i))
      no_frames × RunsAll n ln ts m e'
  item_runs a front i j ts e e' (m1, h1, (m2, h2, (m3, h3, (m4, h4, r)))) = (
    m4,
    two_values_arm ln no_frames j (trailed n ln (value n ln a) (trailers n ln front)) (value n ln i) e m2 m3 m4
        (object_runs a front e m1 m2 h1 h2) h3 h4,
    r,
  )

  by_store : (x : Expr) (p : Place) (after ts : List Todo) (e : St) → (coded n ln x).place ≡ p →
      ((e' : St) → RunsAll n ln after e e' → (m : St) × Emitted e m (store_at ln p) no_frames × RunsAll n ln ts m e') →
      (store_at ln p).size + sizes n ln ts ≡ sizes n ln after → all_weights after < all_weights (Store x ∷ ts) →
      Advances n ln (Store x ∷ ts) e after e
  by_store x p after ts e q = by_piece n ln (Store x) (store_at ln p) after ts e
      (λ m h. subst (λ z. Emitted e m (store_at ln z) no_frames) (sym q) h) (ap (λ z. (store_at ln z).size) q)

  by_delete : (x : Expr) (p : Place) (after ts : List Todo) (e : St) → (coded n ln x).place ≡ p →
      ((e' : St) → RunsAll n ln after e e' → (m : St) × Emitted e m (del_at ln p) no_frames × RunsAll n ln ts m e') →
      (del_at ln p).size + sizes n ln ts ≡ sizes n ln after → all_weights after < all_weights (Delete x ∷ ts) →
      Advances n ln (Delete x ∷ ts) e after e
  by_delete x p after ts e q = by_piece n ln (Delete x) (del_at ln p) after ts e
      (λ m h. subst (λ z. Emitted e m (del_at ln z) no_frames) (sym q) h) (ap (λ z. (del_at ln z).size) q)

  by_augment : (x : Expr) (p : Place) (o : Operator) (y : Expr) (after ts : List Todo) (e : St) →
      (coded n ln x).place ≡ p → ((e' : St) → RunsAll n ln after e e' →
      (m : St) × Emitted e m (add_at ln p (operator o) (value n ln y)) no_frames × RunsAll n ln ts m e') →
      (add_at ln p (operator o) (value n ln y)).size + sizes n ln ts ≡ sizes n ln after →
      all_weights after < all_weights (Augment x o y ∷ ts) → Advances n ln (Augment x o y ∷ ts) e after e
  by_augment x p o y after ts e q = by_piece n ln (Augment x o y) (add_at ln p (operator o) (value n ln y)) after ts e
      (λ m h. subst (λ z. Emitted e m (add_at ln z (operator o) (value n ln y)) no_frames) (sym q) h)
      (ap (λ z. (add_at ln z (operator o) (value n ln y)).size) q)

  nothing_runs : (ts : List Todo) (e e' : St) → RunsAll n ln ts e e' →
      (m : St) × Emitted e m (nothing ln) no_frames × RunsAll n ln ts m e'
  nothing_runs ts e e' h = (e, plain_emitted ln no_frames [] e e refl refl refl, h)

  -- what is no target
  pub store_nowhere : (x : Expr) (ts : List Todo) (e : St) → (coded n ln x).place ≡ NoPlace →
      Advances n ln (Store x ∷ ts) e ts e
  store_nowhere x ts e q = by_store x NoPlace ts ts e q (nothing_runs ts e) (omega arith) (omega (arith, weight_pos x))

  pub delete_nowhere : (x : Expr) (ts : List Todo) (e : St) → (coded n ln x).place ≡ NoPlace →
      Advances n ln (Delete x ∷ ts) e ts e
  delete_nowhere x ts e q = by_delete x NoPlace ts ts e q (nothing_runs ts e) (omega arith)
      (omega (arith, weight_pos x))

  pub augment_nowhere : (x : Expr) (o : Operator) (y : Expr) (ts : List Todo) (e : St) →
      add_at ln (coded n ln x).place (operator o) (value n ln y) ≡ nothing ln →
      Advances n ln (Augment x o y ∷ ts) e ts e
  augment_nowhere x o y ts e q = by_piece n ln (Augment x o y) (nothing ln) ts ts e
      (λ m h. subst (λ z. Emitted e m z no_frames) (sym q) h) (ap (λ z. z.size) q) (nothing_runs ts e) (omega arith)
      (omega (arith, weight_pos x))

  pub store_name : (x : List ℕ) (ts : List Todo) (e : St) →
      Advances n ln (Store (tree.Name x) ∷ ts) e (Op (store (home n x)) ∷ ts) e
  store_name x ts e = by_store (tree.Name x) (AtName (home n x)) (Op (store (home n x)) ∷ ts) ts e
      (ap (λ z. z.place) (coded_name n ln x)) (one_parts n ln (store (home n x)) ts e) (omega arith)
      (omega (arith, weight_name x))

  pub delete_name : (x : List ℕ) (ts : List Todo) (e : St) →
      Advances n ln (Delete (tree.Name x) ∷ ts) e (Op (del (home n x)) ∷ ts) e
  delete_name x ts e = by_delete (tree.Name x) (AtName (home n x)) (Op (del (home n x)) ∷ ts) ts e
      (ap (λ z. z.place) (coded_name n ln x)) (one_parts n ln (del (home n x)) ts e) (omega arith)
      (omega (arith, weight_name x))

  pub augment_name : (x : List ℕ) (o : Operator) (y : Expr) (ts : List Todo) (e : St) →
      Advances n ln (Augment (tree.Name x) o y ∷ ts) e
      (Op (load (home n x)) ∷ Value y ∷ Op (InPlace (operator o)) ∷ Op (store (home n x)) ∷ ts) e
  augment_name x o y ts e = by_augment (tree.Name x) (AtName (home n x)) o y
      (Op (load (home n x)) ∷ Value y ∷ Op (InPlace (operator o)) ∷ Op (store (home n x)) ∷ ts) ts e
      (ap (λ z. z.place) (coded_name n ln x)) go (omega arith) (omega (arith, weight_name x))
    where
      go : (e' : St) → RunsAll n ln (Op (load (home n x)) ∷ Value y ∷ Op (InPlace (operator o)) ∷ Op (store (home n x))
          ∷ ts) e e' → (m : St) × Emitted e m (add_name ln (home n x) (operator o) (value n ln y)) no_frames × RunsAll
          n ln ts m e'
      go e' (m1, h1, (m2, h2, (m3, h3, (m4, h4, r)))) = (
        m4,
        plain_emitted ln no_frames
            (PutOp (load (home n x)) ∷ Alone (value n ln y) ∷ PutOp (InPlace (operator o)) ∷ PutOp (store (home n x)) ∷
            []) e m4 refl refl (m1, h1, (m2, h2, (m3, h3, (m4, h4, refl)))),
        r,
      )

  pub store_group : (a : Expr) (ts : List Todo) (e : St) → Advances n ln (Store (tree.Group a) ∷ ts) e (Store a ∷ ts) e
  store_group a ts e = by_store (tree.Group a) (coded n ln a).place (Store a ∷ ts) ts e
      (ap (λ z. z.place) (coded_group n ln a)) (λ e' h. h) (omega arith) (omega (arith, weight_group a))

  pub delete_group : (a : Expr) (ts : List Todo) (e : St) →
      Advances n ln (Delete (tree.Group a) ∷ ts) e (Delete a ∷ ts) e
  delete_group a ts e = by_delete (tree.Group a) (coded n ln a).place (Delete a ∷ ts) ts e
      (ap (λ z. z.place) (coded_group n ln a)) (λ e' h. h) (omega arith) (omega (arith, weight_group a))

  pub augment_group : (a : Expr) (o : Operator) (y : Expr) (ts : List Todo) (e : St) →
      Advances n ln (Augment (tree.Group a) o y ∷ ts) e (Augment a o y ∷ ts) e
  augment_group a o y ts e = by_augment (tree.Group a) (coded n ln a).place o y (Augment a o y ∷ ts) ts e
      (ap (λ z. z.place) (coded_group n ln a)) (λ e' h. h) (omega arith) (omega (arith, weight_group a))

  -- a sequence of targets
  pub store_all : (x : Expr) (xs : List Expr) (ts : List Todo) (e : St) →
      (coded n ln x).place ≡ Spread (to_all ln (all_stored n ln xs)) (row (all_deleted n ln xs)) →
      weight x ≡ weights xs + 3 → Advances n ln (Store x ∷ ts) e (Op (Unpack (length xs)) ∷ Stores xs ∷ ts) e
  store_all x xs ts e q w = by_store x (Spread (to_all ln (all_stored n ln xs)) (row (all_deleted n ln xs)))
      (Op (Unpack (length xs)) ∷ Stores xs ∷ ts) ts e q go (omega arith) (omega (arith, w))
    where
      go : (e' : St) → RunsAll n ln (Op (Unpack (length xs)) ∷ Stores xs ∷ ts) e e' →
          (m : St) × Emitted e m (to_all ln (all_stored n ln xs)) no_frames × RunsAll n ln ts m e'
      go e' (m1, h1, (m2, h2, r)) = (
        m2,
        plain_emitted ln no_frames (PutOp (Unpack (length (all_stored n ln xs))) ∷ Alone (row (all_stored n ln xs)) ∷
            []) e m2 refl refl (
              m1,
              h1 ∙ ap (λ z. put e ln (DraftOp (Unpack z))) (sym (stored_length n ln xs)),
              (m2, h2, refl),
            ),
        r,
      )

  pub store_tuple : (xs : List Expr) (ts : List Todo) (e : St) →
      Advances n ln (Store (tree.Tuple xs) ∷ ts) e (Op (Unpack (length xs)) ∷ Stores xs ∷ ts) e
  store_tuple xs ts e = store_all (tree.Tuple xs) xs ts e (ap (λ z. z.place) (coded_tuple n ln xs)) (weight_tuple xs)

  pub store_list : (xs : List Expr) (ts : List Todo) (e : St) →
      Advances n ln (Store (tree.List xs) ∷ ts) e (Op (Unpack (length xs)) ∷ Stores xs ∷ ts) e
  store_list xs ts e = store_all (tree.List xs) xs ts e (ap (λ z. z.place) (coded_list n ln xs)) (weight_list xs)

  delete_every : (x : Expr) (xs : List Expr) (ts : List Todo) (e : St) →
      (coded n ln x).place ≡ Spread (to_all ln (all_stored n ln xs)) (row (all_deleted n ln xs)) →
      weight x ≡ weights xs + 3 → Advances n ln (Delete x ∷ ts) e (Deletes xs ∷ ts) e
  delete_every x xs ts e q w = by_delete x (Spread (to_all ln (all_stored n ln xs)) (row (all_deleted n ln xs)))
      (Deletes xs ∷ ts) ts e q (λ e' h. h) (omega arith) (omega (arith, w))

  pub delete_tuple : (xs : List Expr) (ts : List Todo) (e : St) →
      Advances n ln (Delete (tree.Tuple xs) ∷ ts) e (Deletes xs ∷ ts) e
  delete_tuple xs ts e = delete_every (tree.Tuple xs) xs ts e (ap (λ z. z.place) (coded_tuple n ln xs))
      (weight_tuple xs)

  pub delete_list : (xs : List Expr) (ts : List Todo) (e : St) →
      Advances n ln (Delete (tree.List xs) ∷ ts) e (Deletes xs ∷ ts) e
  delete_list xs ts e = delete_every (tree.List xs) xs ts e (ap (λ z. z.place) (coded_list n ln xs)) (weight_list xs)

  pub store_attribute : (a : Expr) (front : List Trailer) (m : List ℕ) (ts : List Todo) (e : St) →
      Advances n ln (Store (tree.Trail a (front ++ trailer.Attribute m ∷ [])) ∷ ts) e
      (Value a ∷ Behind front ∷ Op (StoreAttr (text n m)) ∷ ts) e
  store_attribute a front m ts e = by_store (tree.Trail a (front ++ trailer.Attribute m ∷ [])) _
      (Value a ∷ Behind front ∷ Op (StoreAttr (text n m)) ∷ ts) ts e
      (trail_place a front (trailer.Attribute m) (Attr m) (coded_attribute n ln m))
      (part_runs a front (StoreAttr (text n m)) ts e) (omega arith)
      (omega (
        arith,
        weight_trail a (front ++ trailer.Attribute m ∷ []),
        weights_last front (trailer.Attribute m),
        weight_attribute m,
      ))

  pub delete_attribute : (a : Expr) (front : List Trailer) (m : List ℕ) (ts : List Todo) (e : St) →
      Advances n ln (Delete (tree.Trail a (front ++ trailer.Attribute m ∷ [])) ∷ ts) e
      (Value a ∷ Behind front ∷ Op (DelAttr (text n m)) ∷ ts) e
  delete_attribute a front m ts e = by_delete (tree.Trail a (front ++ trailer.Attribute m ∷ [])) _
      (Value a ∷ Behind front ∷ Op (DelAttr (text n m)) ∷ ts) ts e
      (trail_place a front (trailer.Attribute m) (Attr m) (coded_attribute n ln m))
      (part_runs a front (DelAttr (text n m)) ts e) (omega arith)
      (omega (
        arith,
        weight_trail a (front ++ trailer.Attribute m ∷ []),
        weights_last front (trailer.Attribute m),
        weight_attribute m,
      ))

  pub store_index : (a : Expr) (front : List Trailer) (i : Expr) (ts : List Todo) (e : St) →
      Advances n ln (Store (tree.Trail a (front ++ trailer.Index i ∷ [])) ∷ ts) e
      (Value a ∷ Behind front ∷ Value i ∷ Op StoreItem ∷ ts) e
  store_index a front i ts e = by_store (tree.Trail a (front ++ trailer.Index i ∷ [])) _
      (Value a ∷ Behind front ∷ Value i ∷ Op StoreItem ∷ ts) ts e
      (trail_place a front (trailer.Index i) (Index (value n ln i)) (coded_index n ln i))
      (item_runs a front i StoreItem ts e) (omega arith)
      (omega (
        arith,
        weight_trail a (front ++ trailer.Index i ∷ []),
        weights_last front (trailer.Index i),
        weight_index i,
      ))

  pub delete_index : (a : Expr) (front : List Trailer) (i : Expr) (ts : List Todo) (e : St) →
      Advances n ln (Delete (tree.Trail a (front ++ trailer.Index i ∷ [])) ∷ ts) e
      (Value a ∷ Behind front ∷ Value i ∷ Op DelItem ∷ ts) e
  delete_index a front i ts e = by_delete (tree.Trail a (front ++ trailer.Index i ∷ [])) _
      (Value a ∷ Behind front ∷ Value i ∷ Op DelItem ∷ ts) ts e
      (trail_place a front (trailer.Index i) (Index (value n ln i)) (coded_index n ln i))
      (item_runs a front i DelItem ts e) (omega arith)
      (omega (
        arith,
        weight_trail a (front ++ trailer.Index i ∷ []),
        weights_last front (trailer.Index i),
        weight_index i,
      ))

  pub augment_attribute : (a : Expr) (front : List Trailer) (m : List ℕ) (o : Operator) (y : Expr) (ts : List Todo)
      (e : St) → Advances n ln (Augment (tree.Trail a (front ++ trailer.Attribute m ∷ [])) o y ∷ ts) e
      (Value a ∷ Behind front ∷ Op Dup ∷ Op (LoadAttr (text n m)) ∷ Value y ∷ Op (InPlace (operator o)) ∷ Op Rot2 ∷ Op
      (StoreAttr (text n m)) ∷ ts) e
  augment_attribute a front m o y ts e = by_augment (tree.Trail a (front ++ trailer.Attribute m ∷ [])) _ o y
      (Value a ∷ Behind front ∷ Op Dup ∷ Op (LoadAttr (text n m)) ∷ Value y ∷ Op (InPlace (operator o)) ∷ Op Rot2 ∷ Op
      (StoreAttr (text n m)) ∷ ts) ts e (trail_place a front (trailer.Attribute m) (Attr m) (coded_attribute n ln m))
      go (omega arith) (omega (
        arith,
        weight_trail a (front ++ trailer.Attribute m ∷ []),
        weights_last front (trailer.Attribute m),
        weight_attribute m,
      ))
    where
      go : (e' : St) → RunsAll n ln (Value a ∷ Behind front ∷ Op Dup ∷ Op (LoadAttr (text n m)) ∷ Value y ∷ Op
          (InPlace (operator o)) ∷ Op Rot2 ∷ Op (StoreAttr (text n m)) ∷ ts) e e' →
          (k : St) × Emitted e k (add_attr ln (object a front) (text n m) (operator o) (value n ln y)) no_frames ×
          RunsAll n ln ts k e'
      go e' (m1, h1, (m2, h2, (m3, h3, (m4, h4, (m5, h5, (m6, h6, (m7, h7, (m8, h8, r)))))))) = (
        m8,
        plain_emitted ln no_frames (Alone (object a front) ∷ PutOp Dup ∷ PutOp (LoadAttr (text n m)) ∷ Alone
            (value n ln y) ∷ PutOp (InPlace (operator o)) ∷ PutOp Rot2 ∷ PutOp (StoreAttr (text n m)) ∷ []) e m8 refl
            refl
            (m2, object_runs a front e m1 m2 h1 h2, (m3, h3, (m4, h4, (m5, h5, (m6, h6, (m7, h7, (m8, h8, refl))))))),
        r,
      )

  pub augment_index : (a : Expr) (front : List Trailer) (i : Expr) (o : Operator) (y : Expr) (ts : List Todo) (e : St)
      → Advances n ln (Augment (tree.Trail a (front ++ trailer.Index i ∷ [])) o y ∷ ts) e
      (Value a ∷ Behind front ∷ Value i ∷ Op Dup2 ∷ Op LoadItem ∷ Value y ∷ Op (InPlace (operator o)) ∷ Op Rot3 ∷ Op
      StoreItem ∷ ts) e
  augment_index a front i o y ts e = by_augment (tree.Trail a (front ++ trailer.Index i ∷ [])) _ o y
      (Value a ∷ Behind front ∷ Value i ∷ Op Dup2 ∷ Op LoadItem ∷ Value y ∷ Op (InPlace (operator o)) ∷ Op Rot3 ∷ Op
      StoreItem ∷ ts) ts e (trail_place a front (trailer.Index i) (Index (value n ln i)) (coded_index n ln i)) go
      (omega arith) (omega (
        arith,
        weight_trail a (front ++ trailer.Index i ∷ []),
        weights_last front (trailer.Index i),
        weight_index i,
      ))
    where
      go : (e' : St) → RunsAll n ln (Value a ∷ Behind front ∷ Value i ∷ Op Dup2 ∷ Op LoadItem ∷ Value y ∷ Op
          (InPlace (operator o)) ∷ Op Rot3 ∷ Op StoreItem ∷ ts) e e' →
          (k : St) × Emitted e k (add_item ln (object a front) (value n ln i) (operator o) (value n ln y)) no_frames ×
          RunsAll n ln ts k e'
      go e' (m1, h1, (m2, h2, (m3, h3, (m4, h4, (m5, h5, (m6, h6, (m7, h7, (m8, h8, (m9, h9, r))))))))) = (
        m9,
        plain_emitted ln no_frames (Alone (object a front) ∷ Alone (value n ln i) ∷ PutOp Dup2 ∷ PutOp LoadItem ∷ Alone
            (value n ln y) ∷ PutOp (InPlace (operator o)) ∷ PutOp Rot3 ∷ PutOp StoreItem ∷ []) e m9 refl refl (
              m2,
              object_runs a front e m1 m2 h1 h2,
              (m3, h3, (m4, h4, (m5, h5, (m6, h6, (m7, h7, (m8, h8, (m9, h9, refl))))))),
            ),
        r,
      )

  -- rows of targets
  pub stores_none : (ts : List Todo) (e : St) → Advances n ln (Stores [] ∷ ts) e ts e
  stores_none ts e = record {
    leads = record { whole = λ e' h. (e, row_none no_frames e, h); size = omega arith };
    fewer = omega arith;
  }

  pub stores_more : (x : Expr) (xs : List Expr) (ts : List Todo) (e : St) →
      Advances n ln (Stores (x ∷ xs) ∷ ts) e (Store x ∷ Stores xs ∷ ts) e
  stores_more x xs ts e = by_piece n ln (Stores (x ∷ xs)) (row (all_stored n ln (x ∷ xs))) (Store x ∷ Stores xs
      ∷ ts) ts e
      (λ m h. h) refl go (omega arith) (omega arith)
    where
      go : (e' : St) → RunsAll n ln (Store x ∷ Stores xs ∷ ts) e e' →
          (m : St) × Emitted e m (row (all_stored n ln (x ∷ xs))) no_frames × RunsAll n ln ts m e'
      go e' (m1, h1, (m2, h2, r)) = (m2, row_cons no_frames (stored n ln x) (all_stored n ln xs) e m1 m2 h1 h2, r)

  pub deletes_none : (ts : List Todo) (e : St) → Advances n ln (Deletes [] ∷ ts) e ts e
  deletes_none ts e = record {
    leads = record { whole = λ e' h. (e, row_none no_frames e, h); size = omega arith };
    fewer = omega arith;
  }

  pub deletes_more : (x : Expr) (xs : List Expr) (ts : List Todo) (e : St) →
      Advances n ln (Deletes (x ∷ xs) ∷ ts) e (Delete x ∷ Deletes xs ∷ ts) e
  deletes_more x xs ts e = by_piece n ln (Deletes (x ∷ xs)) (row (all_deleted n ln (x ∷ xs))) (Delete x ∷ Deletes xs
      ∷ ts)
      ts e (λ m h. h) refl go (omega arith) (omega arith)
    where
      go : (e' : St) → RunsAll n ln (Delete x ∷ Deletes xs ∷ ts) e e' →
          (m : St) × Emitted e m (row (all_deleted n ln (x ∷ xs))) no_frames × RunsAll n ln ts m e'
      go e' (m1, h1, (m2, h2, r)) = (m2, row_cons no_frames (deleted n ln x) (all_deleted n ln xs) e m1 m2 h1 h2, r)
