-- A loop that changes a list from the front on: what stands behind is as it was at first.
use Rattle.std.proofs.Common.{◌≡◌, ℕ, ◌+◌, ◌<◌, ◌≤◌, List, [], ◌∷◌, length, drop, sym, ap, ◌∙◌, arith, add-one}
use Rattle.std.proofs.Math.Seq.{drop-cons}
use Rattle.std.proofs.Math.ListN.{drop_of_length-le}
use Rattle.std.proofs.lemmas.List.{length-set, drop-set-lt, drop-drop}
use Rattle.py_data.specs.declared.value.Value.{Value}
use Rattle.py_data.specs.declared.value.Value.TheVariants.{Unset}
use Rattle.py_data.specs.Heap.{Rec, at, value_at, with_value}
use Rattle.py_data.specs.declared.change.Change.TheVariants as change
use Rattle.py_data.specs.Row.{Read, Edit}
use Rattle.py_data.specs.Sense.{Sense, Lawful}
use Rattle.py_data.specs.inner.Rest.{Stands}
use Rattle.py_data.proofs.Steps.{stands_again, stands_edit, at_is}

pub drop_next : (xs : List Value) (k : ℕ) → k < length xs → drop k xs ≡ value_at xs k ∷ drop (k + 1) xs
drop_next xs k h = rw (add-one k) (drop-cons xs k Unset h)

same_tail : (xs ys : List Value) (k : ℕ) → drop k xs ≡ drop k ys → drop (k + 1) xs ≡ drop (k + 1) ys
same_tail xs ys k h = sym (drop-drop 1 k xs) ∙ ap (drop 1) h ∙ drop-drop 1 k ys

-- At w the list at a, which was looked at, has n items, and from place m on those that xs has there.
pub record Tail {S X : Type 0} (u : Sense S X) (a n : ℕ) (xs : List Value) (m : ℕ) (w : X) : Type 0 where
  pub now : Rec
  pub stands : Stands u a now w
  pub items : drop m now.values ≡ drop m xs
  pub count : length now.values ≡ n

module _ {S X : Type 0} {u : Sense S X} {a n : ℕ} {xs : List Value} {m : ℕ} {w : X} where
  here : (h : Tail u a n xs m w) → at (u.heap w) a ≡ h.now
  here h = at_is (u.heap w) a h.now h.stands.is

  -- a further look at the record
  pub tail_looked : (L : Lawful u) {q : Rec} {x : X} → Tail u a n xs m w → u.does (Read a) w q x → x ≡ w
  tail_looked L {q = q} h d = stands_again L q h.stands d

  -- the value that is found there is the first of what stands behind
  pub tail_value : Tail u a n xs m w → (y : Value) → m < n → y ≡ value_at (at (u.heap w) a).values m →
      drop m xs ≡ y ∷ drop (m + 1) xs
  tail_value h y less e =
      let same : (at (u.heap w) a).values ≡ h.now.values = ap (λ r. r.values) (here h) in
      sym h.items ∙ drop_next h.now.values m (rw h.count less) ∙
      rw (e, same) (ap (λ t. value_at h.now.values m ∷ t) (same_tail h.now.values xs m h.items))

  pub tail_end : Tail u a n xs m w → n ≤ m → drop m xs ≡ []
  tail_end h less = sym h.items ∙ drop_of_length-le h.now.values (rw h.count less)

  -- after a change before the next place
  pub tail_set : (L : Lawful u) {x : X} (j : ℕ) (y : Value) → Tail u a n xs m w → j ≤ m →
      u.does (Edit a (change.Set j y)) w tt x → Tail u a n xs (m + 1) x
  tail_set L {x = x} j y h less d = record {
    now = with_value j y (at (u.heap w) a);
    stands = stands_edit L (change.Set j y) d;
    items = drop-set-lt (m + 1) (at (u.heap w) a).values j y (omega arith) ∙
        (ap (λ r. drop (m + 1) r.values) (here h) ∙ same_tail h.now.values xs m h.items);
    count = length-set (at (u.heap w) a).values j y ∙ ap (λ r. length r.values) (here h) ∙ h.count;
  }
