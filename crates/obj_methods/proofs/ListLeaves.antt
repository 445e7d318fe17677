-- What `append`, `remove` and `sort` leave and answer.
use Rattle.std.proofs.Common.{arith, ◌≡◌, ℕ, ◌+◌, ◌<◌, ltb, pos, List, [], ◌∷◌, ◌++◌, length, take, drop, set, Some, None, refl, sym, ap, subst, ◌∙◌, append_assoc, append-nil, add-one, inl, inr}
use Rattle.std.proofs.Math.Seq.{take-suc-set}
use Rattle.std.proofs.lemmas.Bool.{cond-true, cond-false, lt-ltb, le-ltb}
use Rattle.std.proofs.lemmas.List.{length-set, take_all}
use Rattle.py_base.specs.declared.kind.Kind.TheVariants.{List as ListKind, Cell}
use Rattle.py_data.specs.declared.value.Value.{Value}
use Rattle.py_data.specs.declared.value.Value.TheVariants.{None as NoneValue}
use Rattle.py_data.specs.declared.change.Change.TheVariants as change
use Rattle.py_data.specs.declared.record.Got.{Got}
use Rattle.py_data.specs.declared.record.Got.TheVariants.{Is, Raise}
use Rattle.py_data.specs.declared.record.TheConstants.{LENGTH_LIMIT}
use Rattle.py_data.specs.Closed.{IsItem}
use Rattle.py_data.specs.Every.{Every}
use Rattle.py_data.specs.Fault.{memory_fault, operand_fault}
use Rattle.py_data.specs.Heap.{Heap, Rec, with_value, with_push}
use Rattle.py_data.specs.Looking.{Looks, got_row, size_row}
use Rattle.py_data.specs.Order.{Rules, IsOrdered}
use Rattle.py_data.specs.Row.{Row, Ret, Do, Edit, bind}
use Rattle.py_data.specs.Sense.{Sense, Lawful, Run}
use Rattle.py_data.proofs.ItemLemmas.{fit_items}
use Rattle.py_data.proofs.Looking.{looks_read, looks_ret, looks_run}
use Rattle.py_data.proofs.Rows.{bind_run}
use Rattle.obj_seq.specs.Laws.{Leaves, Says}
use Rattle.obj_seq.specs.Seq.{place, put_row, del_item_row}
use Rattle.obj_seq.proofs.Leaving.{changed, looked, says, del_law}
use Rattle.obj_ops.specs.Sequences.{values_row}
use Rattle.obj_methods.specs.Laws.{AppendFullLaw, AppendLaw, IsSorted, RemoveLackLaw, RemoveLaw, SortLaw, SortRefusedLaw}
use Rattle.obj_methods.specs.Lists.{append_row, append_to, done, lack_fault, put_all, remove_at, remove_row, search_row, sort_items, sort_row}
use Rattle.obj_methods.specs.Sorting.{sorted_row}
use Rattle.obj_methods.proofs.SearchLooks.{first_found, none_is, place_in, search_looks}
use Rattle.obj_methods.proofs.SortLooks.{Answered, sorted_looks}

-- the values of a list of a heap in order
pub list_items : (rules : Rules) (h : Heap) (a : ℕ) (r : Rec) → IsOrdered rules h → h a ≡ Some r → r.kind ≡ ListKind →
    Every (IsItem h) r.values
list_items rules h a r order e k = fit_items rules h a r (order.each a r e) (λ c. let q : ListKind ≡ Cell = sym k ∙
    c in cc)

pub values_looks : (S : Type 0) (h : Heap) (a : ℕ) (r : Rec) → h a ≡ Some r →
    Looks {S = S} (λ vs. vs ≡ r.values) (values_row a) h
unfolding values_row
values_looks S h a r e = looks_read (λ vs. vs ≡ r.values) a (λ r. Ret r.values) h r e
    (looks_ret S (λ vs. vs ≡ r.values) r.values h refl)

front : (xs ys : List Value) (k : ℕ) (x : Value) → k < length xs → take (k + 1) (set xs k x) ++ ys ≡ take k xs ++ x ∷ ys
front xs ys k x h = rw (add-one k, take-suc-set xs k x h) (append_assoc (take k xs) (x ∷ []) ys)

module _ {S X : Type 0} {u : Sense S X} (L : Lawful u) where
  -- ---- append
  pub append_law : AppendLaw u
  unfolding append_row append_to size_row bind Run
  append_law a x r v w res e l d =
      let f : Rec → Row S (Got Value) = λ q. append_to a x (length q.values) in
      let row : Row S (Got Value) = Do (Edit a (change.Push x)) (λ _. Ret (Is NoneValue)) in
      let z = looked L a f r v w res e d in
      let g : f r ≡ row = cond-true (ltb (length r.values) LENGTH_LIMIT) row (Ret (Raise memory_fault))
      (lt-ltb (length r.values) LENGTH_LIMIT l) in
      let s : Run u row z.0 res w = subst (λ p. Run u p z.0 res w) g z.2 in
      let c = changed a (with_push x) r (u.heap z.0) (u.heap s.1) (ap (λ h. h a) z.1 ∙ e)
      (L.effect (Edit a (change.Push x)) z.0 tt s.1 s.2) in
      let left : Leaves a r (r.values ++ x ∷ []) (u.heap z.0) (u.heap s.1) =
      record { now = with_push x r; is = c.is; same = refl; others = c.others } in (
        s.3.0,
        subst (λ h. Leaves a r (r.values ++ x ∷ []) h (u.heap w)) z.1
            (subst (λ y. Leaves a r (r.values ++ x ∷ []) (u.heap z.0) (u.heap y)) (sym s.3.1) left),
      )

  pub append_full_law : AppendFullLaw u
  unfolding append_row append_to size_row bind
  append_full_law a x r v w res e l d =
      says L a (λ q. append_to a x (length q.values)) r (Raise memory_fault) res v w e
      (cond-false (ltb (length r.values) LENGTH_LIMIT) _ _ (le-ltb (length r.values) LENGTH_LIMIT l)) d

  -- ---- values in places
  module _ (a : ℕ) where
    put_leaves : (k : ℕ) (xs : List Value) (r : Rec) (v w : X) → u.heap v a ≡ Some r → k + length xs ≡ length r.values
        → Run u (put_row {S = S} a k xs) v tt w → Leaves a r (take k r.values ++ xs) (u.heap v) (u.heap w)
    unfolding put_row Run
    put_leaves k [] r v w e f d =
        let all : r.values ≡ take k r.values ++ [] =
        sym (append-nil (take k r.values) ∙ take_all k r.values (omega arith)) in
        let same : u.heap w ≡ u.heap v = ap u.heap d.1 in
        record {
          now = r;
          is = ap (λ h. h a) same ∙ e;
          same = ap {B = Rec} (λ vs. record r { values = vs }) all;
          others = λ b n. ap (λ h. h b) same;
        }
    put_leaves k (x ∷ xs) r v w e f d =
        let c = changed a (with_value k x) r (u.heap v) (u.heap d.1) e
        (L.effect (Edit a (change.Set k x)) v tt d.1 d.2) in
        let less : k < length r.values = omega arith in
        let more : k + 1 + length xs ≡ length (set r.values k x) = omega (arith, length-set r.values k x) in
        let l = put_leaves (k + 1) xs (with_value k x r) d.1 w c.is more d.3 in
        let all : Leaves a r (take (k + 1) (set r.values k x) ++ xs) (u.heap v) (u.heap w) =
        record { now = l.now; is = l.is; same = l.same; others = λ b n. l.others b n ∙ c.others b n } in
        subst (λ vs. Leaves a r vs (u.heap v) (u.heap w)) (front r.values xs k x less) all

  module _ (rules : Rules) where
    -- ---- remove
    -- what the search has answered, and what is then done
    searched : (a : ℕ) (x : Value) (r : Rec) (v w : X) (res : Got Value) → IsOrdered rules (u.heap v) →
        u.heap v a ≡ Some r → r.kind ≡ ListKind → IsItem (u.heap v) x → Run u (remove_row a x) v res w
        → (m : X) × (u.heap m ≡ u.heap v) × Run u (got_row (remove_at a) (place_in (u.heap v) x 0 r.values)) m res w
    unfolding remove_row
    searched a x r v w res order e k i d =
        let b = bind_run u (search_row a x) (got_row (remove_at a)) v res w d in
        let s = looks_run u L (λ z h. z ≡ place_in (u.heap v) x 0 r.values) (search_row a x) v b.1 b.0
        (search_looks S rules (u.heap v) order x i a r e k) b.2 in
        (b.1, s.1, subst (λ z. Run u (got_row (remove_at a) z) b.1 res w) s.0 b.3)

    pub remove_law : RemoveLaw u rules
    unfolding remove_at Run
    remove_law a x r k v w res order e list i f d =
        let s = searched a x r v w res order e list i d in
        let t : Run u (bind (del_item_row a (pos k)) (λ g. Ret (done g))) s.0 res w =
        subst (λ p. Run u (got_row (remove_at a) p) s.0 res w) (first_found (u.heap v) x r.values k f) s.2 in
        let b = bind_run u (del_item_row a (pos k)) (λ g. Ret (done g)) s.0 res w t in
        let at : place (pos k) (length r.values) ≡ Some k =
        cond-true (ltb k (length r.values)) (Some k) None (lt-ltb k (length r.values) f.within) in
        let gone = del_law L a (pos k) r k s.0 b.1 b.0 (ap (λ h. h a) s.1 ∙ e) at b.2 in
        let left = subst (λ h. Leaves a r (take k r.values ++ drop (k + 1) r.values) h (u.heap b.1)) s.1 gone.1 in (
          b.3.0 ∙ ap done gone.0,
          subst (λ y. Leaves a r (take k r.values ++ drop (k + 1) r.values) (u.heap v)
              (u.heap y)) (sym b.3.1) left,
        )

    pub remove_lack_law : RemoveLackLaw u rules
    unfolding remove_at Run
    remove_lack_law a x r v w res order e list i n d =
        let s = searched a x r v w res order e list i d in
        let row : Row S (Got Value) = Ret (Raise lack_fault) in
        let t : Run u row s.0 res w = subst (λ p. Run u (got_row (remove_at a) p) s.0 res w)
        (none_is (u.heap v) x r.values 0 n) s.2 in
        (t.0, ap u.heap t.1 ∙ s.1)

    -- ---- sort
    -- what sorting has answered, and what is then done
    ordered : (a : ℕ) (r : Rec) (v w : X) (res : Got Value) → IsOrdered rules (u.heap v) → u.heap v a ≡ Some r →
        r.kind ≡ ListKind → Run u (sort_row a) v res w
        → (z : Got (List Value)) × (m : X) × Answered S (u.heap v) r.values z × (u.heap m ≡ u.heap v) × Run u
        (got_row (put_all a) z) m res w
    unfolding sort_row sort_items
    ordered a r v w res order e k d =
        let b = bind_run u (values_row a) (sort_items a) v res w d in
        let s = looks_run u L (λ vs h. vs ≡ r.values) (values_row a) v b.1 b.0 (values_looks S (u.heap v) a r e) b.2 in
        let t : Run u (bind (sorted_row r.values) (got_row (put_all a))) b.1 res w =
        subst (λ vs. Run u (sort_items a vs) b.1 res w) s.0 b.3 in
        let c = bind_run u (sorted_row r.values) (got_row (put_all a)) b.1 res w t in
        let items = subst (λ h. Every (IsItem h) r.values) (sym s.1) (list_items rules (u.heap v) a r order e k) in
        let o = looks_run u L (λ z h. Answered S h r.values z) (sorted_row r.values) b.1 c.1 c.0
        (sorted_looks S (u.heap b.1) r.values items) c.2 in
        (c.0, c.1, subst (λ h. Answered S h r.values c.0) s.1 o.0, o.1 ∙ s.1, c.3)

    put_left : (a : ℕ) (r : Rec) (ys : List Value) (m w : X) (res : Got Value) → u.heap m a ≡ Some r →
        length ys ≡ length r.values → Run u (put_all a ys) m res w →
        (res ≡ Is NoneValue) × Leaves a r ys (u.heap m) (u.heap w)
    unfolding put_all Run
    put_left a r ys m w res e l d =
        let b = bind_run u (put_row a 0 ys) (λ _. Ret (Is NoneValue)) m res w d in (
          b.3.0,
          subst (λ y. Leaves a r ys (u.heap m) (u.heap y)) (sym b.3.1)
              (put_leaves a 0 ys r m b.1 e (omega (arith, l)) b.2),
        )

    pub sort_law : SortLaw u rules
    unfolding Run
    sort_law a r v w res order e k c d = by (ordered a r v w res order e k d)
      where
        told : (m : X) (z : Got (List Value)) → Answered S (u.heap v) r.values z → u.heap m ≡ u.heap v →
            Run u (got_row (put_all a) z) m res w → (res ≡ Is NoneValue) × (ys : List Value) × IsSorted (u.heap v)
            r.values ys × Leaves a r ys (u.heap v) (u.heap w)
        told m z (inl o) h n =
            let p = put_left a r o.values m w res (ap (λ g. g a) h ∙ e) o.count
            (subst (λ y. Run u (got_row (put_all a) y) m res w) o.is n) in
            (p.0, o.values, o.sorted, subst (λ g. Leaves a r o.values g (u.heap w)) h p.1)
        told m z (inr o) h n = absurd (o.0 c)

        by : (z : Got (List Value)) × (m : X) × Answered S (u.heap v) r.values z × (u.heap m ≡ u.heap v) × Run u
            (got_row (put_all a) z) m res w → (res ≡ Is NoneValue) × (ys : List Value) × IsSorted (u.heap v) r.values
            ys × Leaves a r ys (u.heap v) (u.heap w)
        by t = told t.1 t.0 t.2 t.3 t.4

    pub sort_refused_law : SortRefusedLaw u rules
    unfolding Run
    sort_refused_law a r v w res order e k c d = by (ordered a r v w res order e k d)
      where
        told : (m : X) (z : Got (List Value)) → Answered S (u.heap v) r.values z → u.heap m ≡ u.heap v →
            Run u (got_row (put_all a) z) m res w → Says u (Raise operand_fault) res v w
        told m z (inl o) h n = absurd (c o.can)
        told m z (inr o) h n = let row : Row S (Got Value) = Ret (Raise operand_fault) in let s : Run u row m res w =
            subst (λ y. Run u (got_row (put_all a) y) m res w) o.1 n in (s.0, ap u.heap s.1 ∙ h)

        by : (z : Got (List Value)) × (m : X) × Answered S (u.heap v) r.values z × (u.heap m ≡ u.heap v) × Run u
            (got_row (put_all a) z) m res w → Says u (Raise operand_fault) res v w
        by t = told t.1 t.0 t.2 t.3 t.4
