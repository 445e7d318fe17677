-- The bytes of a record that were copied whole.
use Rattle.std.proofs.Common.{◌≡◌, ℕ, List, length, drop, take, true, Result, Ok, Err, inl, inr, refl, sym, ap, subst, ◌∙◌}
use Rattle.std.proofs.Math.Seq.{take-length}
use Rattle.std.proofs.lemmas.Bool.{cond-true}
use Rattle.py_data.specs.declared.stop.Stop.{Stop}
use Rattle.py_data.specs.declared.stop.Stop.TheVariants.{OutOfMemory}
use Rattle.py_data.specs.declared.record.Got.TheVariants.{Is, Raise}
use Rattle.py_data.specs.Heap.{Rec, at}
use Rattle.py_data.specs.Row.{Row, Ret, Do, Read}
use Rattle.py_data.specs.inner.Rest.{Stands, Leads}
use Rattle.py_data.specs.Sense.{Sense, Lawful, Asks, Meets, Safe, IsLive, Run, Stopped}
use Rattle.py_data.specs.Looking.{bytes_row}
use Rattle.py_data.proofs.Rows.{read_heap, read_at, again, meets_do, meets_ret}
use Rattle.py_data.proofs.Steps.{stands_again, stands_read, there_is}
use Rattle.py_data.specs.Fault.{argument_fault}
use Rattle.py_data.proofs.AfterLook.{looked_record, leads_looked}
use Rattle.obj_seq.specs.Iter.{is_str}
use Rattle.obj_str.specs.Methods.{text_in, text_at}

-- a look that shows the length, and another one that copies so many bytes
pub bytes_met : {S X : Type 0} {u : Sense S X} (L : Lawful u) (a n : ℕ) (v m w : X) (got out : List ℕ) →
    u.does (Read a) v (at (u.heap v) a) m → n ≡ length (at (u.heap v) a).bytes → u.does (Read a) m (at (u.heap m) a) w
    → out ≡ take n (drop 0 (at (u.heap m) a).bytes) → got ≡ out → Meets u (bytes_row {S = S} a) v w (Ok got)
unfolding bytes_row
bytes_met {u = u} L a n v m w got out d e f o g =
    let r = at (u.heap v) a in
    let same : at (u.heap m) a ≡ r = ap (λ h. at h a) (read_heap L a v m r d) in
    let still : w ≡ m = again L a v m w r (at (u.heap m) a) d f in
    let all : got ≡ r.bytes = g ∙ (o ∙ (ap (λ q. take n q.bytes) same ∙
    (ap (λ k. take k r.bytes) e ∙ take-length r.bytes))) in
    meets_do u (Read a) (λ r. Ret r.bytes) v m w r (Ok got) d
    (subst (λ z. Meets u (Ret r.bytes) m z (Ok got)) (sym still)
    (subst (λ b. Meets u (Ret r.bytes) m m (Ok b)) (sym all) (meets_ret u r.bytes m)))

stands_asks : {S X : Type 0} (u : Sense S X) (a : ℕ) (v : X) (r : Rec) → Stands u a r v →
    Asks {S = S} u.partial (Read a) (u.heap v)
unfolding Asks
stands_asks u a v r s = there_is (u.heap v) a r u.partial (λ r. Unit {0}) s.is tt

-- the bytes of a record that was looked at before
module _ {S X : Type 0} {u : Sense S X} (L : Lawful u) (a : ℕ) (v : X) (stands : Stands u a (at (u.heap v) a) v) where
  pub bytes_safe : Safe u.partial (bytes_row {S = S} a) (u.heap v)
  unfolding Safe bytes_row
  bytes_safe = (stands_asks u a v (at (u.heap v) a) stands, λ r h e. tt)

  pub bytes_again : (w : X) (res : Result (List ℕ) Stop) → Meets u (bytes_row {S = S} a) v w res →
      Meets u (Ret (at (u.heap v) a).bytes) v w res
  unfolding Meets Run Stopped bytes_row
  bytes_again w (Ok got) m =
      let answer : (got ≡ m.0.bytes) × (w ≡ m.1) = m.3 in
      (answer.0 ∙ ap (λ r. r.bytes) (sym (read_at L a v m.1 m.0 m.2)), answer.1 ∙ stands_again L m.0 stands m.2)
  bytes_again w (Err e) m = elim m [
    | inl starved ↦ starved
    | inr more ↦ elim more [
      | inl refused ↦ absurd (L.sure a v e w stands.seen refused)
      | inr d ↦ let end : (e ≡ OutOfMemory) × (w ≡ d.1) = d.3 in (end.0, end.1 ∙ stands_again L d.0 stands d.2)
    ]
  ]

-- a value that is made of an answer
module _ {S X A B : Type 0} (u : Sense S X) (x : A) (v w : X) where
  pub answer_ok : (f : A → B) (y : A) → Meets u (Ret x) v w (Ok y) → Meets u (Ret (f x)) v w (Ok (f y))
  unfolding Meets Run
  answer_ok f y m = (ap f m.0, m.1)

  pub answer_err : (y : B) (e : Stop) → Meets u (Ret x) v w (Err e) → Meets u (Ret y) v w (Err e)
  unfolding Meets Stopped
  answer_err y e m = m

-- without memory a row that was done was stopped at its end
pub done_starved : {S X A : Type 0} (u : Sense S X) (row : Row S A) (v w : X) (a : A) → Meets u row v w (Ok a) →
    Meets u row v w (Err OutOfMemory)
unfolding Meets Run Stopped
done_starved u (Ret x) v w a m = (refl, m.1)
done_starved u (Do c k) v w a m = inr (inr (m.0, m.1, m.2, done_starved u (k m.0) m.1 w a m.3))

-- the bytes of a record whose kind was looked at
module _ {S X : Type 0} {u : Sense S X} (L : Lawful u) (a : ℕ) (v m : X)
    (looked : u.does (Read a) v (at (u.heap v) a) m) (str : is_str (at (u.heap v) a).kind ≡ true) where
  str_in : text_in {S = S} (at (u.heap v) a) ≡ Ret (Is (at (u.heap v) a).bytes)
  str_in = cond-true (is_str (at (u.heap v) a).kind) (Ret (Is (at (u.heap v) a).bytes)) (Ret (Raise argument_fault)) str

  -- a string has a text
  pub text_told : Meets u (text_at {S = S} a) v m (Ok (Is (at (u.heap v) a).bytes))
  unfolding text_at
  text_told = meets_do u (Read a) text_in v m m (at (u.heap v) a) (Ok (Is (at (u.heap v) a).bytes)) looked
      (subst (λ row. Meets u row m m (Ok (Is (at (u.heap v) a).bytes))) (sym str_in)
      (meets_ret u (Is (at (u.heap v) a).bytes) m))

  text_leads : Safe u.partial (text_at {S = S} a) (u.heap v) → IsLive u v →
      Leads u (text_at a) v (Ret (Is (at (u.heap m) a).bytes)) m
  unfolding text_at
  text_leads safe live = leads_looked L looked refl text_in (λ r. Ret (Is r.bytes)) safe live str_in

  -- it stands where it was looked at
  pub text_stands : Stands u a (at (u.heap m) a) m
  text_stands = subst (λ r. Stands u a r m) (sym (looked_record L looked refl)) (stands_read L (at (u.heap v) a) looked)

  pub text_met : Safe u.partial (text_at {S = S} a) (u.heap v) → IsLive u v → (w : X) (got : List ℕ) →
      Meets u (bytes_row {S = S} a) m w (Ok got) → Meets u (text_at a) v w (Ok (Is got))
  text_met safe live w got d = (text_leads safe live).finish w (Ok (Is got))
      (answer_ok u (at (u.heap m) a).bytes m w Is got (bytes_again L a m text_stands w (Ok got) d))

  pub text_stopped : Safe u.partial (text_at {S = S} a) (u.heap v) → IsLive u v → (w : X) (e : Stop) →
      Meets u {A = List ℕ} (bytes_row {S = S} a) m w (Err e) → Meets u (text_at a) v w (Err e)
  text_stopped safe live w e d = (text_leads safe live).finish w (Err e)
      (answer_err u (at (u.heap m) a).bytes m w (Is (at (u.heap m) a).bytes) e
      (bytes_again L a m text_stands w (Err e) d))
