-- What the operations on lists answer and leave, and what they raise.
use Rattle.std.proofs.Common.{◌≡◌, ◌≢◌, ℕ, ◌+◌, ◌<◌, ◌≤◌, ◌==◌, eqb, ltb, false, ℤ, List, [], ◌∷◌, ◌++◌, length, take, drop, reverse, set, Option, Some, None, pos, negsuc, inl, inr, refl, sym, ap, subst, ◌∙◌, arith, append_assoc, append-nil, add-one}
use Rattle.std.proofs.Math.Seq.{take-suc-set}
use Rattle.std.proofs.lemmas.List.{length-set, length-drop, length-reverse, drop-set-lt, drop-drop, take_all}
use Rattle.std.proofs.lemmas.Bool.{cond-true, cond-false, lt-ltb, le-ltb, ne_eqb, cases_lt}
use Rattle.std.proofs.lemmas.Bool.Decides.{nat_tests}
use Rattle.py_data.specs.declared.value.Value.{Value}
use Rattle.py_data.specs.declared.record.Got.{Got}
use Rattle.py_data.specs.declared.record.Got.TheVariants.{Is, Raise}
use Rattle.py_data.specs.declared.record.TheConstants.{LENGTH_LIMIT}
use Rattle.py_data.specs.Fault.{index_fault, empty_fault, memory_fault}
use Rattle.py_data.specs.Heap.{Heap, Rec, at, put_at, value_at, new_rec, with_value, with_push, cut_to}
use Rattle.py_data.specs.declared.change.Change.TheVariants as change
use Rattle.py_data.specs.Row.{Row, Ret, Do, Read, Edit, Make, bind}
use Rattle.py_data.specs.Sense.{Sense, Lawful, Edits, Run}
use Rattle.py_data.proofs.Rows.{bind_run}
use Rattle.py_data.proofs.Same.{one_rec}
use Rattle.py_data.proofs.Steps.{at_is, put_here}
use Rattle.obj_seq.specs.Seq.{place, if_place, bound, bound_or, part, put_row, gap_row, shift_row, item_row, item_at, set_item_row, set_item_at, del_item_row, del_item_at, pop_at, insert_at, slice_at}
use Rattle.obj_seq.specs.Laws.{Leaves, Says, ItemLaw, SetLaw, PopLaw, DelLaw, InsertLaw, ReverseLaw, SliceLaw, IndexLaw, PopIndexLaw, EmptyLaw, FullLaw}

-- one change of a record
pub record Changed (a : ℕ) (r : Rec) (h h1 : Heap) : Type 0 where
  pub is : h1 a ≡ Some r
  pub others : (b : ℕ) → b ≢ a → h1 b ≡ h b

pub changed : (a : ℕ) (f : Rec → Rec) (r : Rec) (h h1 : Heap) → h a ≡ Some r → Edits a f h h1 → Changed a (f r) h h1
changed a f r h h1 e d = record {
  is = ap (λ g. g a) d.1 ∙ put_here h a (f (at h a)) ∙ ap (λ q. Some (f q)) (at_is h a r e);
  others = λ b n. ap (λ g. g b) d.1 ∙ cond-false (eqb b a) (Some (f (at h a))) (h b) (ne_eqb b a n);
}

-- a record but for its values and its room
abbrev IsElse : Rec → Rec → Type 0
IsElse r q = q ≡ record r { values = q.values; room = q.room }

leaves_after : (a : ℕ) (r q : Rec) (values : List Value) (h h1 h2 : Heap) → Changed a q h h1 → IsElse r q →
    Leaves a q values h1 h2 → Leaves a r values h h2
leaves_after a r q values h h1 h2 c k l =
    record {
      now = l.now;
      is = l.is;
      same = l.same ∙
          ap {A = Rec} {B = Rec} (λ z. record z { values = values; room = l.now.room }) k;
      others = λ b n. l.others b n ∙
          c.others b n;
    }

leaves_now : (a : ℕ) (r q : Rec) (values : List Value) (h h1 : Heap) → Changed a q h h1 → IsElse r q →
    q.values ≡ values → Leaves a r values h h1
leaves_now a r q values h h1 c k e = record
    { now = q; is = c.is; same = k ∙ ap {B = Rec} (λ vs. record r { values = vs; room = q.room }) e; others = c.others }

-- the values before the next place, once this one was set
front : (xs ys : List Value) (k : ℕ) (x : Value) → k < length xs → take (k + 1) (set xs k x) ++ ys ≡ take k xs ++ x ∷ ys
front xs ys k x h = rw (add-one k, take-suc-set xs k x h) (append_assoc (take k xs) (x ∷ []) ys)

-- there is a place k if something stands from there on
some_behind : (xs ys : List Value) (k : ℕ) (y : Value) → drop k xs ≡ y ∷ ys → k < length xs
some_behind xs ys k y e = omega (arith, length-drop k xs, ap length e)

behind : (xs ys : List Value) (k : ℕ) (x y : Value) → drop (k + 1) xs ≡ y ∷ ys → drop (k + 1 + 1) (set xs k x) ≡ ys
behind xs ys k x y e = drop-set-lt (k + 1 + 1) xs k x (omega arith) ∙ sym (drop-drop 1 (k + 1) xs) ∙ ap (drop 1) e

pub place_within : (i : ℤ) (n k : ℕ) → place i n ≡ Some k → k < n
place_within (pos m) n k e = elim (cases_lt m n) [ inl l ↦ grind (arith, nat_tests) | inr l ↦ grind (arith, nat_tests) ]
place_within (negsuc m) n k e = elim (cases_lt m n) [
  | inl l ↦ grind (arith, nat_tests)
  | inr l ↦
      grind (arith, nat_tests)
]

pub bound_within : (i : ℤ) (n : ℕ) → bound i n ≤ n
bound_within (pos m) n = omega arith
bound_within (negsuc m) n = omega arith

module _ {S X : Type 0} {u : Sense S X} (L : Lawful u) (a : ℕ) where
  gap_leaves : (k : ℕ) (xs : List Value) (r : Rec) (v w : X) → u.heap v a ≡ Some r → drop (k + 1) r.values ≡ xs →
      k < length r.values → Run u (gap_row {S = S} a k xs) v tt w →
      Leaves a r (take k r.values ++ xs) (u.heap v) (u.heap w)
  unfolding gap_row Run
  gap_leaves k [] r v w e f h d =
      let c = changed a (cut_to k) r (u.heap v) (u.heap d.1) e (L.effect (Edit a (change.Cut k)) v tt d.1 d.2) in
      let l = leaves_now a r (cut_to k r) (take k r.values ++ []) (u.heap v) (u.heap d.1) c refl
      (sym (append-nil (take k r.values))) in
      subst (λ z. Leaves a r (take k r.values ++ []) (u.heap v) (u.heap z)) (sym d.3.1) l
  gap_leaves k (x ∷ xs) r v w e f h d =
      let c = changed a (with_value k x) r (u.heap v) (u.heap d.1) e (L.effect (Edit a (change.Set k x)) v tt d.1 d.2)
      in
      let more : k + 1 < length (set r.values k x) =
      omega (arith, some_behind r.values xs (k + 1) x f, length-set r.values k x) in
      let l = gap_leaves (k + 1) xs (with_value k x r) d.1 w c.is (behind r.values xs k x x f) more d.3 in
      let l1 = leaves_after a r (with_value k x r) (take (k + 1) (set r.values k x) ++ xs) (u.heap v) (u.heap d.1)
      (u.heap w) c refl l in
      subst (λ vs. Leaves a r vs (u.heap v) (u.heap w)) (front r.values xs k x h) l1

  shift_leaves : (k : ℕ) (x : Value) (ys : List Value) (r : Rec) (v w : X) → u.heap v a ≡ Some r → drop k r.values ≡ ys
      → k ≤ length r.values → Run u (shift_row {S = S} a k x ys) v tt w →
      Leaves a r (take k r.values ++ x ∷ ys) (u.heap v) (u.heap w)
  unfolding shift_row Run
  shift_leaves k x [] r v w e f h d =
      let c = changed a (with_push x) r (u.heap v) (u.heap d.1) e (L.effect (Edit a (change.Push x)) v tt d.1 d.2) in
      let all : take k r.values ≡ r.values = take_all k r.values (omega (arith, length-drop k r.values, ap length f)) in
      let l = leaves_now a r (with_push x r) (take k r.values ++ x ∷ []) (u.heap v) (u.heap d.1) c refl
      (ap (λ vs. vs ++ x ∷ []) (sym all)) in
      subst (λ z. Leaves a r (take k r.values ++ x ∷ []) (u.heap v) (u.heap z)) (sym d.3.1) l
  shift_leaves k x (y ∷ ys) r v w e f h d =
      let c = changed a (with_value k x) r (u.heap v) (u.heap d.1) e (L.effect (Edit a (change.Set k x)) v tt d.1 d.2)
      in
      let less = some_behind r.values ys k y f in
      let rest : drop (k + 1) (set r.values k x) ≡ ys = drop-set-lt (k + 1) r.values k x (omega arith) ∙
      sym (drop-drop 1 k r.values) ∙ ap (drop 1) f in
      let more : k + 1 ≤ length (set r.values k x) = omega (arith, less, length-set r.values k x) in
      let l = shift_leaves (k + 1) y ys (with_value k x r) d.1 w c.is rest more d.3 in
      let l1 = leaves_after a r (with_value k x r) (take (k + 1) (set r.values k x) ++ y ∷ ys) (u.heap v) (u.heap d.1)
      (u.heap w) c refl l in
      subst (λ vs. Leaves a r vs (u.heap v) (u.heap w)) (front r.values (y ∷ ys) k x less) l1

  put_leaves : (k : ℕ) (xs : List Value) (r : Rec) (v w : X) → u.heap v a ≡ Some r → k + length xs ≡ length r.values →
      Run u (put_row {S = S} a k xs) v tt w → Leaves a r (take k r.values ++ xs) (u.heap v) (u.heap w)
  unfolding put_row Run
  put_leaves k [] r v w e f d =
      let all : r.values ≡ take k r.values ++ [] =
      sym (append-nil (take k r.values) ∙ take_all k r.values (omega arith)) in
      let same : u.heap w ≡ u.heap v = ap u.heap d.1 in
      record {
        now = r;
        is = ap (λ h. h a) same ∙ e;
        same = ap {B = Rec} (λ vs. record r { values = vs }) all;
        others =
            λ b n. ap (λ h. h b) same;
      }
  put_leaves k (x ∷ xs) r v w e f d =
      let c = changed a (with_value k x) r (u.heap v) (u.heap d.1) e (L.effect (Edit a (change.Set k x)) v tt d.1 d.2)
      in
      let less : k < length r.values = omega arith in
      let more : k + 1 + length xs ≡ length (set r.values k x) = omega (arith, length-set r.values k x) in
      let l = put_leaves (k + 1) xs (with_value k x r) d.1 w c.is more d.3 in
      let l1 = leaves_after a r (with_value k x r) (take (k + 1) (set r.values k x) ++ xs) (u.heap v) (u.heap d.1)
      (u.heap w) c refl l in
      subst (λ vs. Leaves a r vs (u.heap v) (u.heap w)) (front r.values xs k x less) l1

  -- a row looks at the record that is there, and goes on
  pub looked : {A : Type 0} (f : Rec → Row S A) (r : Rec) (v w : X) (res : A) → u.heap v a ≡ Some r →
      Run u (Do (Read a) f) v res w → (m : X) × (u.heap m ≡ u.heap v) × Run u (f r) m res w
  unfolding Run
  looked f r v w res e d =
      let g = L.effect (Read a) v d.0 d.1 d.2 in
      (d.1, g.1, subst (λ q. Run u (f q) d.1 res w) (one_rec (u.heap v a) r d.0 e g.0) d.3)

  -- where it then answers, all records are as they were
  pub says : {A : Type 0} (f : Rec → Row S A) (r : Rec) (y res : A) (v w : X) → u.heap v a ≡ Some r → f r ≡ Ret y →
      Run u (Do (Read a) f) v res w → Says u y res v w
  unfolding Run
  says f r y res v w e g d =
      let l = looked f r v w res e d in
      let s = subst (λ row. Run u row l.0 res w) g l.2 in
      (s.0, ap u.heap s.1 ∙ l.1)

  -- where it goes on with changes, they are changes of that record
  leads : {A : Type 0} (f : Rec → Row S A) (r : Rec) (row : Row S A) (y res : A) (items : List Value) (v w : X) →
      u.heap v a ≡ Some r → f r ≡ row
      → ((m : X) → u.heap m a ≡ Some r → Run u row m res w → (res ≡ y) × Leaves a r items (u.heap m) (u.heap w)) →
      Run u (Do (Read a) f) v res w → (res ≡ y) × Leaves a r items (u.heap v) (u.heap w)
  leads f r row y res items v w e g n d =
      let l = looked f r v w res e d in
      let x = n l.0 (ap (λ h. h a) l.1 ∙ e) (subst (λ z. Run u z l.0 res w) g l.2) in
      (x.0, subst (λ h. Leaves a r items h (u.heap w)) l.1 x.1)

  -- changes, and an answer
  then_leaves : {A : Type 0} (row : Row S (Unit {0})) (r : Rec) (items : List Value) (y res : A) (m w : X) →
      ((z : X) → Run u row m tt z → Leaves a r items (u.heap m) (u.heap z)) → Run u (bind row (λ _. Ret y)) m res w
      → (res ≡ y) × Leaves a r items (u.heap m) (u.heap w)
  unfolding Run
  then_leaves row r items y res m w n d =
      let b = bind_run u row (λ _. Ret y) m res w d in
      (b.3.0, subst (λ z. Leaves a r items (u.heap m) (u.heap z)) (sym b.3.1) (n b.1 b.2))

  set_leaves : (k : ℕ) (x : Value) (r : Rec) (m w : X) (res : Got (Unit {0})) → u.heap m a ≡ Some r →
      Run u (Do (Edit a (change.Set k x)) (λ _. Ret (Is tt))) m res w
      → (res ≡ Is tt) × Leaves a r (set r.values k x) (u.heap m) (u.heap w)
  unfolding Run
  set_leaves k x r m w res e d =
      let c = changed a (with_value k x) r (u.heap m) (u.heap d.1) e (L.effect (Edit a (change.Set k x)) m tt d.1 d.2)
      in
      let l = leaves_now a r (with_value k x r) (set r.values k x) (u.heap m) (u.heap d.1) c refl refl in
      (d.3.0, subst (λ z. Leaves a r (set r.values k x) (u.heap m) (u.heap z)) (sym d.3.1) l)

  -- the gap of an item that was taken out is closed
  closed_leaves : {A : Type 0} (k : ℕ) (r : Rec) (y res : A) (m w : X) → k < length r.values → u.heap m a ≡ Some r →
      Run u (bind (gap_row {S = S} a k (drop (k + 1) r.values)) (λ _. Ret y)) m res w
      → (res ≡ y) × Leaves a r (take k r.values ++ drop (k + 1) r.values) (u.heap m) (u.heap w)
  closed_leaves k r y res m w l e d =
      then_leaves (gap_row a k (drop (k + 1) r.values)) r (take k r.values ++ drop (k + 1) r.values) y res m w
      (λ z s. gap_leaves k (drop (k + 1) r.values) r m z e refl l s) d

-- ---- which row it is
some_place : {A : Type 0} (o : Option ℕ) (k : ℕ) (f : ℕ → A) (z : A) → o ≡ Some k → if_place o f z ≡ f k
unfolding if_place
some_place o k f z e = ap (λ o. if_place o f z) e

no_place : {A : Type 0} (o : Option ℕ) (f : ℕ → A) (z : A) → o ≡ None → if_place o f z ≡ z
unfolding if_place
no_place o f z e = ap (λ o. if_place o f z) e

-- a list that isn't empty
not_empty : (n : ℕ) → 0 < n → (n == 0) ≡ false
not_empty n l = ne_eqb n 0 (λ e. absurd (omega (arith, l, e)))

module _ {S X : Type 0} {u : Sense S X} (L : Lawful u) where
  pub item_law_shown : ItemLaw u
  item_law_shown a i r k v w res e f d = says L a (item_at i) r (Is (value_at r.values k)) res v w e
      (some_place (place i (length r.values)) k _ _ f) d

  pub set_law : SetLaw u
  set_law a i x r k v w res e f d =
      leads L a (set_item_at a i x) r (Do (Edit a (change.Set k x)) (λ _. Ret (Is tt))) (Is tt) res (set r.values k x)
      v w e (some_place (place i (length r.values)) k _ _ f) (λ m g s. set_leaves L a k x r m w res g s) d

  pub pop_law_shown : PopLaw u
  pop_law_shown a i r k v w res e f d =
      let l = place_within i (length r.values) k f in
      leads L a (pop_at a i) r (bind (gap_row a k (drop (k + 1) r.values)) (λ _. Ret (Is (value_at r.values k))))
      (Is (value_at r.values k)) res (take k r.values ++ drop (k + 1) r.values) v w e
      (cond-false (length r.values == 0) _ _ (not_empty (length r.values) (omega (arith, l))) ∙
      some_place (place i (length r.values)) k _ _ f)
      (λ m g s. closed_leaves L a k r (Is (value_at r.values k)) res m w l g s) d

  pub del_law : DelLaw u
  del_law a i r k v w res e f d =
      leads L a (del_item_at a i) r (bind (gap_row a k (drop (k + 1) r.values)) (λ _. Ret (Is tt))) (Is tt) res
      (take k r.values ++ drop (k + 1) r.values) v w e
      (some_place (place i (length r.values)) k _ _ f)
      (λ m g s. closed_leaves L a k r (Is tt) res m w (place_within i (length r.values) k f) g s) d

  pub insert_law_shown : InsertLaw u
  insert_law_shown a i x r v w res e f d =
      let k = bound i (length r.values) in
      let items = take k r.values ++ x ∷ drop k r.values in
      leads L a (insert_at a i x) r (bind (shift_row a k x (drop k r.values)) (λ _. Ret (Is tt))) (Is tt) res items v w
      e
      (cond-true (ltb (length r.values) LENGTH_LIMIT) _ _ (lt-ltb (length r.values) LENGTH_LIMIT f))
      (λ m g s. then_leaves L a (shift_row a k x (drop k r.values)) r items (Is tt) res m w
      (λ z t. shift_leaves L a k x (drop k r.values) r m z g refl (bound_within i (length r.values)) t) s) d

  pub reverse_law_shown : ReverseLaw u
  reverse_law_shown a r v w e d =
      let l = looked L a (λ q. put_row a 0 (reverse q.values)) r v w tt e d in
      subst (λ h. Leaves a r (reverse r.values) h (u.heap w)) l.1
      (put_leaves L a 0 (reverse r.values) r l.0 w (ap (λ h. h a) l.1 ∙ e) (omega (arith, length-reverse r.values))
      l.2)

  pub slice_law_shown : SliceLaw u
  unfolding Run
  slice_law_shown a from to r v w res e d =
      let l = looked L a (slice_at from to) r v w res e d in
      let m = l.2 in
      let made = new_rec r.kind (part r.values (bound_or from 0 (length r.values))
      (bound_or to (length r.values) (length r.values))) [] in
      let f = L.effect (Make made) l.0 m.0 m.1 m.2 in
      let last : u.heap w ≡ put_at (u.heap v) m.0 made = ap u.heap m.3.1 ∙ f.1 ∙ ap (λ h. put_at h m.0 made) l.1 in (
        m.0,
        m.3.0,
        ap (λ h. h m.0) (sym l.1) ∙ f.0,
        ap (λ h. h m.0) last ∙ put_here (u.heap v) m.0 made,
        λ c n. ap (λ h. h c) last ∙ cond-false (eqb c m.0) (Some made) (u.heap v c) (ne_eqb c m.0 n),
      )

  -- ---- what is raised
  pub item_index : IndexLaw u item_row
  item_index a i r v w res e f d = says L a (item_at i) r (Raise index_fault) res v w e
      (no_place (place i (length r.values)) _ _ f) d

  pub set_index : (x : Value) → IndexLaw u (λ a i. set_item_row a i x)
  set_index x a i r v w res e f d = says L a (set_item_at a i x) r (Raise index_fault) res v w e
      (no_place (place i (length r.values)) _ _ f) d

  pub del_index : IndexLaw u del_item_row
  del_index a i r v w res e f d = says L a (del_item_at a i) r (Raise index_fault) res v w e
      (no_place (place i (length r.values)) _ _ f) d

  pub pop_index : PopIndexLaw u
  pop_index a i r v w res e l f d =
      says L a (pop_at a i) r (Raise index_fault) res v w e
      (cond-false (length r.values == 0) _ _ (not_empty (length r.values) l) ∙
      no_place (place i (length r.values)) _ _ f) d

  pub pop_empty : EmptyLaw u
  pop_empty a i r v w res e f d = says L a (pop_at a i) r (Raise empty_fault) res v w e
      (cond-true (length r.values == 0) _ _ (ap (λ vs. length vs == 0) f)) d

  pub insert_full : FullLaw u
  insert_full a i x r v w res e f d = says L a (insert_at a i x) r (Raise memory_fault) res v w e
      (cond-false (ltb (length r.values) LENGTH_LIMIT) _ _ (le-ltb (length r.values) LENGTH_LIMIT f)) d
