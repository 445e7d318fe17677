-- Rows that look at a record and collect a part of its values.
use Rattle.std.proofs.Common.{◌≡◌, ℕ, List, [], length, Option, Ok, Err, refl, sym, ap, subst, ◌∙◌, ℤ}
use Rattle.py_data.specs.declared.value.Value.{Value}
use Rattle.py_data.specs.declared.value.Value.TheVariants.{Ref}
use Rattle.py_base.specs.declared.kind.Kind.{Kind}
use Rattle.py_data.specs.declared.stop.Stop.{Stop}
use Rattle.py_data.specs.declared.stop.Stop.TheVariants.{OutOfMemory}
use Rattle.py_data.specs.declared.record.Got.TheVariants.{Is}
use Rattle.py_data.specs.Heap.{Rec, at, new_rec}
use Rattle.py_data.specs.Row.{Row, Ret, Do, Read, Make}
use Rattle.py_data.specs.Sense.{Sense, Lawful, Safe, Meets, Run, Stopped, IsLive}
use Rattle.py_data.specs.inner.Rest.{Leads}
use Rattle.py_data.proofs.Rows.{again}
use Rattle.py_data.proofs.Steps.{leads_own}
use Rattle.obj_seq.specs.Seq.{part, bound_or, slice_at, slice_row}
use Rattle.py_data.proofs.AfterLook.{leads_looked, looked_record}
use Rattle.obj_seq.proofs.Places.{slice_is}

module _ {S X A : Type 0} (u : Sense S X) where
  -- an answer alone changes nothing
  pub answered : (x b : A) (v w : X) → Meets u (Ret x) v w (Ok b) → (b ≡ x) × (w ≡ v)
  unfolding Meets Run
  answered x b v w h = h

  pub not_answered : (x : A) (v w : X) (e : Stop) → Meets u (Ret x) v w (Err e) → (e ≡ OutOfMemory) × (w ≡ v)
  unfolding Meets Stopped
  not_answered x v w e h = h

module _ {S X : Type 0} (u : Sense S X) (L : Lawful u) (a : ℕ) (from to : Option ℤ) (v m1 m2 m3 : X) (q : Rec) where
  pub slice_leads : (kind : Kind) (values : List Value) (bytes : List ℕ) (n i j : ℕ) →
      u.does (Read a) v (at (u.heap v) a) m1 → u.does (Read a) m1 q m2
      → Meets u (Ret (part (at (u.heap m2) a).values i j)) m2 m3 (Ok values) → kind ≡ (at (u.heap v) a).kind →
      n ≡ length (at (u.heap m1) a).values
      → i ≡ bound_or from 0 n → j ≡ bound_or to n n → bytes ≡ [] →
      Safe u.partial (slice_row {S = S} a from to) (u.heap v) → IsLive u v
      → Leads u (slice_row {S = S} a from to) v
      (Do (Make (new_rec kind values bytes)) (λ b. Ret (Is (Ref (record { 0 = b }))))) m3
  slice_leads kind values bytes n i j d g h k e f l m s live =
      let same2 = again L a v m1 m2 (at (u.heap v) a) q d g in
      let one = answered u (part (at (u.heap m2) a).values i j) values m2 m3 h in
      let n1 = e ∙ ap (λ r. length r.values) (looked_record L d refl) in
      let values1 = one.0 ∙ ap (λ r. part r.values i j) (looked_record L d same2) in
      let made = slice_is (at (u.heap v) a) kind values bytes from to n i j k n1 f l values1 m in
      leads_looked L d (one.1 ∙ same2) (slice_at from to)
      (λ _. Do (Make (new_rec kind values bytes)) (λ b. Ret (Is (Ref (record { 0 = b }))))) s live
      (ap (λ r. Do (Make r) (λ b. Ret (Is (Ref (record { 0 = b }))))) (sym made))

-- no memory for a part, while the view is as it was after a look
pub starved_looked : {S X A B : Type 0} {u : Sense S X} (L : Lawful u) {a : ℕ} {v m w : X} (x : X) (e : Stop) (y : A)
    (k : Rec → Row S B) → u.does (Read a) v (at (u.heap v) a) m → w ≡ m → Meets u (Ret y) w x (Err e)
    → Safe u.partial (Do (Read a) k) (u.heap v) → IsLive u v → Meets u (Do (Read a) k) v x (Err e)
starved_looked {u = u} L {a = a} {v = v} {w = w} x e y k d s h safe live =
    let none = not_answered u y w x e h in
    let l = leads_looked L d (none.1 ∙ s) k k safe live refl in
    subst (λ z. Meets u (Do (Read a) k) v x (Err z)) (sym none.0) (leads_own l)
