-- The loops that close and open a gap in a list.
use Rattle.std.proofs.Common.{◌≡◌, ℕ, ◌+◌, ◌<◌, ◌≤◌, List, drop, sym, subst, Result, Ok, Err, arith}
use Rattle.py_data.specs.declared.value.Value.{Value}
use Rattle.py_data.specs.declared.stop.Stop.{Stop}
use Rattle.py_data.specs.Heap.{Rec, at, value_at}
use Rattle.py_data.specs.declared.change.Change.{Change}
use Rattle.py_data.specs.declared.change.Change.TheVariants as change
use Rattle.py_data.specs.Row.{Row, Ret, Do, Read, Edit}
use Rattle.py_data.specs.Sense.{Sense, Lawful, Meets, Answers}
use Rattle.py_data.specs.inner.Rest.{Leads}
use Rattle.py_data.proofs.Steps.{leads_do, leads_ret, leads_refused}
use Rattle.obj_seq.specs.Seq.{gap_row, shift_row}
use Rattle.obj_seq.proofs.Tail.{Tail, tail_looked, tail_value, tail_end, tail_set}

-- before a turn at place j: the rest of the row moves what stands behind j
pub record Closing {S X : Type 0} (u : Sense S X) (a k n : ℕ) (xs : List Value) (j : ℕ) (v w : X) : Type 0 where
  pub leads : Leads u (gap_row {S = S} a k (drop (k + 1) xs)) v (gap_row a j (drop (j + 1) xs)) w
  pub tail : Tail u a n xs (j + 1) w

-- before a turn at place j: the rest of the row puts a value there, and moves what stands from j on
pub record Opening {S X : Type 0} (u : Sense S X) (a k n : ℕ) (x : Value) (xs : List Value) (j : ℕ) (held : Value)
    (v w : X) : Type 0 where
  pub leads : Leads u (shift_row {S = S} a k x (drop k xs)) v (shift_row a j held (drop j xs)) w
  pub tail : Tail u a n xs j w

-- a value was read, and what held of the view before still holds
pub record Looked {S X : Type 0} (u : Sense S X) (P : X → Type 0) (a m : ℕ) (x : X) (y : Value) : Type 0 where
  pub still : P x
  pub value : y ≡ value_at (at (u.heap x) a).values m

looked_same : {S X : Type 0} (u : Sense S X) (P : X → Type 0) (a m : ℕ) (w x : X) (y : Value) → x ≡ w → P w →
    y ≡ value_at (at (u.heap w) a).values m → Looked u P a m x y
looked_same u P a m w x y s h e = record {
  still = subst P (sym s) h;
  value =
      subst (λ z. y ≡ value_at (at (u.heap z) a).values m) (sym s) e;
}

module _ {S X : Type 0} {u : Sense S X} {a k n : ℕ} {xs : List Value} {j : ℕ} {v w : X} where
  pub closing_looked : (L : Lawful u) {q : Rec} {x : X} {y : Value} → Closing u a k n xs j v w → u.does (Read a) w q x
      → y ≡ value_at (at (u.heap w) a).values (j + 1) → Looked u (Closing u a k n xs j v) a (j + 1) x y
  closing_looked L {q = q} {x = x} {y = y} h d e = looked_same u (Closing u a k n xs j v) a (j + 1) w x y
      (tail_looked L h.tail d) h e

  pub closing_next : Closing u a k n xs j v w → (y : Value) → j + 1 < n → y ≡ value_at (at (u.heap w) a).values (j + 1)
      → Leads u (gap_row {S = S} a k (drop (k + 1) xs)) v
      (Do (Edit a (change.Set j y)) (λ _. gap_row a (j + 1) (drop (j + 1 + 1) xs))) w
  unfolding gap_row
  closing_next h y less e = subst (λ vs. Leads u (gap_row {S = S} a k (drop (k + 1) xs)) v (gap_row a j vs) w)
      (tail_value h.tail y less e) h.leads

  pub closing_more : (L : Lawful u) {x : X} (y : Value) → Closing u a k n xs j v w → j + 1 < n →
      y ≡ value_at (at (u.heap w) a).values (j + 1) → u.does (Edit a (change.Set j y)) w tt x →
      Closing u a k n xs (j + 1) v x
  closing_more L {x = x} y h less e d = record {
    leads = leads_do L tt (closing_next h y less e) d;
    tail =
        tail_set L j y h.tail (omega arith) d;
  }

  pub closing_end : Closing u a k n xs j v w → n ≤ j + 1 →
      Leads u (gap_row {S = S} a k (drop (k + 1) xs)) v (Do (Edit a (change.Cut j)) (λ _. Ret tt)) w
  unfolding gap_row
  closing_end h less = subst (λ vs. Leads u (gap_row {S = S} a k (drop (k + 1) xs)) v (gap_row a j vs) w)
      (tail_end h.tail less) h.leads

  module _ {x : Value} {held : Value} where
    pub opening_looked : (L : Lawful u) {q : Rec} {z : X} {y : Value} → Opening u a k n x xs j held v w →
        u.does (Read a) w q z → y ≡ value_at (at (u.heap w) a).values j →
        Looked u (Opening u a k n x xs j held v) a j z y
    opening_looked L {q = q} {z = z} {y = y} h d e = looked_same u (Opening u a k n x xs j held v) a j w z y
        (tail_looked L h.tail d) h e

    pub opening_next : Opening u a k n x xs j held v w → (y : Value) → j < n → y ≡ value_at (at (u.heap w) a).values j
        → Leads u (shift_row {S = S} a k x (drop k xs)) v
        (Do (Edit a (change.Set j held)) (λ _. shift_row a (j + 1) y (drop (j + 1) xs))) w
    unfolding shift_row
    opening_next h y less e = subst (λ vs. Leads u (shift_row {S = S} a k x (drop k xs)) v (shift_row a j held vs) w)
        (tail_value h.tail y less e) h.leads

    pub opening_more : (L : Lawful u) {z : X} (y : Value) → Opening u a k n x xs j held v w → j < n →
        y ≡ value_at (at (u.heap w) a).values j → u.does (Edit a (change.Set j held)) w tt z →
        Opening u a k n x xs (j + 1) y v z
    opening_more L {z = z} y h less e d =
        record { leads = leads_do L tt (opening_next h y less e) d; tail = tail_set L j held h.tail (omega arith) d }

    pub opening_end : Opening u a k n x xs j held v w → n ≤ j →
        Leads u (shift_row {S = S} a k x (drop k xs)) v (Do (Edit a (change.Push held)) (λ _. Ret tt)) w
    unfolding shift_row
    opening_end h less = subst (λ vs. Leads u (shift_row {S = S} a k x (drop k xs)) v (shift_row a j held vs) w)
        (tail_end h.tail less) h.leads

-- a row whose last call's answer is the call's own
pub last_edit : {S X : Type 0} {u : Sense S X} {row : Row S (Unit {0})} {a : ℕ} {c : Change} {v w : X} (L : Lawful u)
    (x : X) (res : Result (Unit {0}) Stop)
    → Leads u row v (Do (Edit a c) (λ _. Ret tt)) w → Answers u (Edit a c) (λ y. y) w x res → Meets u row v x res
last_edit L x (Ok y) l d = leads_ret (leads_do L y l d)
last_edit L x (Err e) l d = leads_refused l d
