-- Rows that look at a record first, and go on with what it says; and what stands after a further look, or when another
-- record was made.
use Rattle.std.proofs.Common.{◌≡◌, ◌≢◌, ℕ, eqb, Some, Result, Ok, Err, sym, ap, subst, ◌∙◌}
use Rattle.std.proofs.lemmas.Bool.{cond-false, ne_eqb}
use Rattle.std.specs.Result.{IsErrAnd}
use Rattle.py_data.specs.declared.value.Value.{Value}
use Rattle.py_data.specs.declared.stop.Stop.{Stop}
use Rattle.py_data.specs.declared.stop.Stop.TheVariants.{OutOfMemory}
use Rattle.py_data.specs.Heap.{Rec, at, value_at}
use Rattle.py_data.specs.Row.{Row, Ret, Do, Read, Make, bind}
use Rattle.py_data.specs.Sense.{Sense, Lawful, Safe, Meets, IsLive}
use Rattle.py_data.specs.inner.Rest.{Leads, Stands}
use Rattle.py_data.proofs.Rows.{meets_own, meets_ret, meets_do, read_heap, safe_next}
use Rattle.py_data.proofs.Steps.{as_err, meets_bind, leads_begin, leads_do, stands_again}

module _ {S X A B : Type 0} (u : Sense S X) (L : Lawful u) (a : ℕ) (k : Rec → Row S B) (v m : X) (row : Rec → Row S A)
    (f : A → Row S B)
    (looked : u.does (Read a) v (at (u.heap v) a) m) (is : k (at (u.heap v) a) ≡ bind (row (at (u.heap v) a)) f) where
  same_record : at (u.heap m) a ≡ at (u.heap v) a
  same_record = ap (λ h. at h a) (read_heap L a v m (at (u.heap v) a) looked)

  -- the part is done, and then the answer is there
  pub after_look : (w : X) (x : A) (b : B) → Meets u (row (at (u.heap m) a)) m w (Ok x) → f x ≡ Ret b →
      Meets u (Do (Read a) k) v w (Ok b)
  after_look w x b h e =
      let part : Meets u (row (at (u.heap v) a)) m w (Ok x) = subst (λ r. Meets u (row r) m w (Ok x)) same_record h in
      let whole = meets_bind u (row (at (u.heap v) a)) f m w w x (Ok b) part
      (subst (λ q. Meets u q w w (Ok b)) (sym e) (meets_ret u b w)) in
      meets_do u (Read a) k v m w (at (u.heap v) a) (Ok b) looked (subst (λ q. Meets u q m w (Ok b)) (sym is) whole)

-- the row after one look, or several, at its first record
module _ {S X : Type 0} {u : Sense S X} (L : Lawful u) {a : ℕ} {v m x : X}
    (looked : u.does (Read a) v (at (u.heap v) a) m) (same : x ≡ m) where
  pub looked_record : at (u.heap x) a ≡ at (u.heap v) a
  looked_record = ap (λ z. at (u.heap z) a) same ∙ ap (λ h. at h a) (read_heap L a v m (at (u.heap v) a) looked)

  pub leads_looked : {B : Type 0} (k rest : Rec → Row S B) → Safe u.partial (Do (Read a) k) (u.heap v) → IsLive u v →
      k (at (u.heap v) a) ≡ rest (at (u.heap v) a) → Leads u (Do (Read a) k) v (rest (at (u.heap x) a)) x
  leads_looked k rest s l is =
      let one = leads_do L (at (u.heap v) a) (leads_begin u (Do (Read a) k) v s l) looked in
      let here = subst (λ z. Leads u (Do (Read a) k) v (k (at (u.heap v) a)) z) (sym same) one in
      subst (λ q. Leads u (Do (Read a) k) v q x) (is ∙ ap rest (sym looked_record)) here

module _ {S X : Type 0} (u : Sense S X) where
  -- a further look, while the view is as it was
  pub looked_again : (L : Lawful u) {a : ℕ} {r q : Rec} {v w x : X} → Stands u a r v → w ≡ v → u.does (Read a) w q x →
      x ≡ v
  looked_again L {a = a} {r = r} {q = q} h e d = stands_again L q (subst (Stands u a r) (sym e) h) d ∙ e

  -- no memory of its own, while the view is as it was
  pub starved_again : {A : Type 0} (row : Row S A) (v w : X) (res : Result A Stop) → w ≡ v →
      IsErrAnd res (λ e. e ≡ OutOfMemory) → Meets u row v w res
  starved_again row v w res e h = subst (λ r. Meets u row v w r) (sym (as_err res OutOfMemory h))
      (subst (λ z. Meets u row v z (Err OutOfMemory)) (sym e) (meets_own u row v))

  pub value_before : (a : ℕ) (v w : X) (x : Value) (i : ℕ) → w ≡ v → x ≡ value_at (at (u.heap w) a).values i →
      x ≡ value_at (at (u.heap v) a).values i
  value_before a v w x i e h = subst (λ z. x ≡ value_at (at (u.heap z) a).values i) e h

  -- a row that looks first, and goes on with what it saw
  pub look_then : {A : Type 0} (L : Lawful u) (a : ℕ) (k : Rec → Row S A) (v m w : X) (res : Result A Stop) →
      u.does (Read a) v (at (u.heap v) a) m → Meets u (k (at (u.heap m) a)) m w res → Meets u (Do (Read a) k) v w res
  look_then L a k v m w res d h =
      let same : at (u.heap m) a ≡ at (u.heap v) a = ap (λ h. at h a) (read_heap L a v m (at (u.heap v) a) d) in
      meets_do u (Read a) k v m w (at (u.heap v) a) res d (subst (λ r. Meets u (k r) m w res) same h)

  -- what such a row asks behind the look
  pub safe_looked : {A : Type 0} (L : Lawful u) (a : ℕ) (k : Rec → Row S A) (v m : X) →
      u.does (Read a) v (at (u.heap v) a) m → Safe u.partial (Do (Read a) k) (u.heap v) →
      Safe u.partial (k (at (u.heap m) a)) (u.heap m)
  safe_looked L a k v m d s =
      let same : at (u.heap m) a ≡ at (u.heap v) a = ap (λ h. at h a) (read_heap L a v m (at (u.heap v) a) d) in
      subst (λ r. Safe u.partial (k r) (u.heap m)) (sym same) (safe_next L (Read a) k v m (at (u.heap v) a) s d)

-- a record stands when another was made
pub stands_made : {S X : Type 0} {u : Sense S X} (L : Lawful u) {a b : ℕ} {r made : Rec} {w x : X} → Stands u a r w →
    u.does (Make made) w b x → Stands u a r x
stands_made {u = u} L {a = a} {b = b} {r = r} {made = made} {w = w} {x = x} h d =
    let e = L.effect (Make made) w b x d in
    let new : a ≢ b = λ same. let s = h.is in let n = e.0 in let s1 = ap (u.heap w) same in absurd (cc) in
    record {
      is = ap (λ g. g a) e.1 ∙ cond-false (eqb a b) (Some made) (u.heap w a) (ne_eqb a b new) ∙ h.is;
      seen = L.stays (Make made) w b x a d h.seen;
    }
