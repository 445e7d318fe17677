-- What one look at a record tells of it, and what an iterator over it comes to.
use Rattle.std.proofs.Common.{◌≡◌, ◌≢◌, ℕ, zero, suc, ◌==◌, Bool, true, false, cond, List, [], ◌∷◌, length, slice_get, Option, Some, None, refl, sym, ap, ◌∙◌}
use native.Mathlib.Omega.{arith}
use Rattle.std.proofs.lemmas.Bool.{cond-false, ne_eqb}
use Rattle.py_data.specs.declared.value.Value.{Value}
use Rattle.py_data.specs.declared.value.Value.TheVariants.{Unset}
use Rattle.py_data.specs.declared.record.Got.TheVariants.{Raise}
use Rattle.py_data.specs.Fault.{size_fault}
use Rattle.py_data.specs.Heap.{Rec, at, value_at}
use Rattle.py_data.specs.Looking.{head_of}
use Rattle.py_data.specs.Row.{Ret, Do, Read}
use Rattle.py_data.specs.Sense.{Sense, Lawful, Safe, IsLive}
use Rattle.py_data.specs.inner.Rest.{Leads}
use Rattle.py_data.proofs.Rows.{again}
use Rattle.obj_seq.specs.declared.advance.Ahead.{Ahead}
use Rattle.obj_seq.specs.declared.advance.Ahead.TheVariants.{Text, Changed, Item}
use Rattle.obj_seq.specs.Iter.{three, pick, has_changed, is_str, go_or_end, byte_or_end, next_over}
use Rattle.obj_seq.specs.inner.Heads.{three_in, ahead_of, ahead_row}
use Rattle.py_data.proofs.AfterLook.{leads_looked, looked_record}

-- the look tells whether there are three values, and which
pub three_of_head : (r : Rec) → three_in (head_of r) ≡ three r.values
three_of_head r = of_values r.values where
  of_values : (vs : List Value) → cond (length vs == 3) (Some (value_at vs 0, value_at vs 1, value_at vs 2)) None ≡
      three vs
  of_values [] = refl
  of_values (x ∷ []) = refl
  of_values (x ∷ y ∷ []) = refl
  of_values (x ∷ y ∷ z ∷ []) = refl
  of_values (x ∷ y ∷ z ∷ w ∷ more) = cond-false _ _ _ (ne_eqb (length (x ∷ y ∷ z ∷ w ∷ more)) 3 (omega arith))

-- a value that holds something tells that its place is there
pub set_item : (vs : List Value) (i : ℕ) (x : Value) → x ≡ value_at vs i → x ≢ Unset → Some x ≡ slice_get vs i
set_item [] i x e n = absurd (n e)
set_item (y ∷ ys) zero x e n = ap Some e
set_item (y ∷ ys) (suc i) x e n = set_item ys i x e n

-- an iterator's step, by what the look tells
by_tests : {S : Type 0} (it at : ℕ) (byte : Option ℕ) (x : Option Value) (s c : Bool) →
    cond s (byte_or_end {S = S} it at byte) (cond c (Ret (Raise size_fault)) (go_or_end it at x)) ≡
    ahead_row it at byte (cond s Text (cond c Changed (Item x)))
by_tests it at byte x true c = refl
by_tests it at byte x false true = refl
by_tests it at byte x false false = refl

pub by_ahead : {S : Type 0} (it at count : ℕ) (r : Rec) → next_over {S = S} it at count r ≡
    ahead_row it at (slice_get r.bytes at) (ahead_of r.kind r.values at count)
by_ahead it at count r = by_tests it at (slice_get r.bytes at) (pick r.kind r.values at) (is_str r.kind)
    (has_changed r.kind r.values count)

-- what is left of an iterator's step once the look told what it comes to, and of a string once its byte is known
module _ {S X : Type 0} {u : Sense S X} (L : Lawful u) {a : ℕ} {v m : X} (it place count : ℕ) (o : Ahead)
    (looked : u.does (Read a) v (at (u.heap v) a) m)
    (is : o ≡ ahead_of (at (u.heap v) a).kind (at (u.heap v) a).values place count)
    (safe : Safe {S = S} u.partial (Do (Read a) (next_over it place count)) (u.heap v)) (live : IsLive u v) where
  row_leads : {x : X} (b : Option ℕ) (p : Ahead) → x ≡ m → b ≡ slice_get (at (u.heap v) a).bytes place → o ≡ p →
      Leads u (Do (Read a) (next_over {S = S} it place count)) v (ahead_row it place b p) x
  row_leads b p same e f =
      leads_looked L looked same (next_over it place count) (λ r. ahead_row it place b p) safe live
      (by_ahead it place count (at (u.heap v) a) ∙
      ap (λ z. ahead_row it place (slice_get (at (u.heap v) a).bytes place) z) (sym is ∙ f) ∙
      ap (λ z. ahead_row it place z p) (sym e))

  pub text_leads : {x : X} {q : Rec} (b : Option ℕ) → o ≡ Text → u.does (Read a) m q x →
      b ≡ slice_get (at (u.heap m) a).bytes place
      → Leads u (Do (Read a) (next_over {S = S} it place count)) v (byte_or_end it place b) x
  text_leads {x = x} {q = q} b f d e =
      row_leads b Text (again L a v m x (at (u.heap v) a) q looked d)
      (e ∙ ap (λ r. slice_get r.bytes place) (looked_record L looked refl)) f

  pub item_leads : (y : Option Value) → o ≡ Item y →
      Leads u (Do (Read a) (next_over {S = S} it place count)) v (go_or_end it place y) m
  item_leads y f = row_leads (slice_get (at (u.heap v) a).bytes place) (Item y) refl refl f
