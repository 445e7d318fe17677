-- Records that a segment sees: what calls of the store need of one that is there, and when bytes are the same.
use Rattle.std.proofs.Common.{◌≡◌, ◌↔◌, ℕ, ◌+◌, ◌-◌, ◌<◌, ◌≤◌, Bool, false, IsTrue, List, ◌++◌, length, take, drop, Option, Some, None, IsSome, unwrap_or, refl, sym, ◌∙◌, ap, subst, arith, length-take, length-drop}
use Rattle.std.proofs.lemmas.Bool.{both_ways}
use Rattle.std.proofs.Math.Seq.{take-add}
use Rattle.py_data.specs.Heap.{Rec, Heap, Has, at, blank}
use Rattle.py_data.specs.Sense.{IfThere}
use Rattle.py_data.proofs.Steps.{at_is}
use Rattle.seg_store.specs.Store.{HasPlace, HasBytes}
use Rattle.stm_segment.proofs.Seeing.{at_there}

-- what holds of the record that is there
pub where_at : (h : Heap) (a : ℕ) (P : Rec → Type 0) → Has h a → P (at h a) → IfThere false (h a) P
unfolding at
where_at h a P there p = go (h a) there p
  where
    go : (o : Option Rec) → IsSome o → P (unwrap_or o blank) → IfThere false o P
    go None t q = absurd (both_ways false refl t)
    go (Some r) t q = q

-- a place that it has
pub has_place : (h : Heap) (a i n : ℕ) → Has h a → n ≡ length (at h a).values → i < n → HasPlace h a i
has_place h a i n there e lt = where_at h a (λ r. i < length r.values) there (omega (arith, e))

-- bytes that it has
pub has_bytes : (h : Heap) (a from n : ℕ) → Has h a → from + n ≤ length (at h a).bytes → HasBytes h a from n
has_bytes h a from n there le = where_at h a (λ r. from + n ≤ length r.bytes) there le

-- the first parts of two lists are the same, and so are the next ones
pub more_same : {X : Type 0} (xs ys : List X) (d n : ℕ) → take d xs ≡ take d ys →
    take n (drop d xs) ≡ take n (drop d ys)
    → take (d + n) xs ≡ take (d + n) ys
more_same xs ys d n e f = take-add d n xs ∙ ap (λ z. z ++ take n (drop d xs)) e ∙ ap (λ z. take d ys ++ z) f ∙
    sym (take-add d n ys)

-- where the next part was compared as it was cut out
pub part_same : {X : Type 0} (xs ys : List X) (d n : ℕ) → take d xs ≡ take d ys → d + n ≤ length ys →
    take (length (take (d + n - d) (drop d ys))) (drop d xs) ≡ take (d + n - d) (drop d ys) →
    take (d + n) xs ≡ take (d + n) ys
part_same xs ys d n e le h =
    let m : d + n - d ≡ n = omega arith in
    let l : length (take n (drop d ys)) ≡ n = omega (arith, length-take n (drop d ys), length-drop d ys) in
    more_same xs ys d n e (ap (λ z. take z (drop d xs)) (sym l) ∙
    subst (λ z. take (length (take z (drop d ys))) (drop d xs) ≡ take z (drop d ys)) m h)

-- it is this one exactly where this one is seen there
pub seen_is : (h : Heap) (a : ℕ) (r : Rec) (b : Bool) → Has h a → IsTrue b ↔ (at h a ≡ r) → IsTrue b ↔ (h a ≡ Some r)
seen_is h a r b t f = (λ y. at_there h a t ∙ ap Some (f.0 y), λ e. f.1 (at_is h a r e))
