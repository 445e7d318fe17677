-- Rows that make an iterator, and let one go on.
use Rattle.std.proofs.Common.{◌≡◌, ℕ, false, [], ◌∷◌, Option, Some, refl, sym, ap, subst, ◌∙◌}
use Rattle.std.proofs.lemmas.Bool.{cond-false}
use Rattle.py_data.specs.declared.record.Got.{Got}
use Rattle.py_data.specs.declared.value.Value.{Value}
use Rattle.py_data.specs.declared.value.Value.TheVariants.{Ref}
use Rattle.py_base.specs.declared.kind.Kind.TheVariants.{Str}
use Rattle.py_data.specs.Heap.{Rec, at, new_rec}
use Rattle.py_data.specs.Row.{Row, Do, Read, Make}
use Rattle.py_data.specs.Sense.{Sense, Lawful, Safe, IsLive}
use Rattle.obj_seq.specs.declared.advance.Parts.{Parts}
use Rattle.py_data.proofs.Steps.{leads_begin, leads_do}
use Rattle.py_data.specs.inner.Rest.{Leads}
use Rattle.py_data.proofs.Rows.{again}
use Rattle.obj_seq.specs.Iter.{count_of, is_iter, iter_of, iter_parts, make_iter_row, next_by, go_or_end, byte_or_end, next_row}
use Rattle.py_data.proofs.AfterLook.{leads_looked, looked_record}

pub iter_leads : {S X : Type 0} {u : Sense S X} (L : Lawful u) {a : ℕ} {v m x : X} {q : Rec} (o : Option ℕ) →
    u.does (Read a) v (at (u.heap v) a) m → u.does (Read a) m q x → is_iter (at (u.heap v) a).kind ≡ false
    → o ≡ count_of (at (u.heap m) a).kind (at (u.heap m) a).values (at (u.heap m) a).bytes →
    Safe {S = S} u.partial (Do (Read a) (iter_of a)) (u.heap v) → IsLive u v
    → Leads u (Do (Read a) (iter_of {S = S} a)) v (make_iter_row a o) x
iter_leads {S = S} {u = u} L {a = a} {v = v} {m = m} {x = x} {q = q} o d g none e s live =
    let same = again L a v m x (at (u.heap v) a) q d g in
    let l = leads_looked L d same (iter_of a) (λ r. make_iter_row a (count_of r.kind r.values r.bytes)) s live
    (cond-false _ _ _ none) in
    let here = looked_record L d same ∙ sym (looked_record L d refl) in
    subst (λ c. Leads u (Do (Read a) (iter_of {S = S} a)) v (make_iter_row a c) x)
    (ap (λ r. count_of r.kind r.values r.bytes) here ∙ sym e) l

-- what is left once a string of one byte was made
pub made_leads : {S X : Type 0} {u : Sense S X} (L : Lawful u) (it place : ℕ) {byte : ℕ} {v m : X} (o : Option ℕ)
    (made : Rec) (b : ℕ) → o ≡ Some byte → made ≡ new_rec Str [] (byte ∷ [])
    → Safe {S = S} u.partial (byte_or_end it place o) (u.heap v) → IsLive u v → u.does (Make made) v b m →
    Leads u (byte_or_end {S = S} it place o) v (go_or_end it place (Some (Ref (record { 0 = b })))) m
unfolding byte_or_end
made_leads {S = S} {u = u} L it place {byte = byte} {v = v} {m = m} o made b e f s live d =
    let first = leads_begin u (byte_or_end {S = S} it place o) v s live in
    let first1 = subst (λ q. Leads u (byte_or_end {S = S} it place o) v (byte_or_end it place q) v) e first in
    leads_do L b first1 (subst (λ r. u.does (Make r) v b m) f d)

-- what is left of an iterator's step once its parts are known
pub parts_leads : {S X : Type 0} {u : Sense S X} (L : Lawful u) {it : ℕ} {v m : X} (o : Option (Option Parts)) →
    u.does (Read it) v (at (u.heap v) it) m → o ≡ iter_parts (at (u.heap v) it).kind (at (u.heap v) it).values
    → Safe {S = S} u.partial (next_row it) (u.heap v) → IsLive u v → Leads u (next_row {S = S} it) v (next_by it o) m
parts_leads {S = S} {u = u} L {it = it} {v = v} {m = m} o d e s live =
    let k : Rec → Row S (Got (Option Value)) = λ q. next_by it (iter_parts q.kind q.values) in
    let l = leads_looked L d refl k k s live refl in
    subst (λ p. Leads u (next_row {S = S} it) v (next_by it p) m)
    (ap (λ q. iter_parts q.kind q.values) (looked_record L d refl) ∙ sym e) l
