-- The index of a dictionary, as it is read.
use Rattle.std.proofs.Common.{◌≡◌, ℕ, zero, suc, ◌+◌, ◌*◌, ◌/◌, ◌^◌, ◌<◌, ◌≤◌, false, cond, length, sym, ap, ◌∙◌, subst, arith}
use Rattle.std.proofs.Math.Nat.{pow-succ', pow-le-pow_right}
use Rattle.py_base.specs.declared.kind.Kind.TheVariants.{Dict}
use Rattle.py_data.specs.Heap.{has_bytes, length_of}
use Rattle.paged_store.specs.Words.{Words, size_of, class_in, index_class_in, decode, kind_by, body_size, index_size}
use Rattle.paged_store.specs.inner.Formed.{Formed, HasIndex}
use Rattle.paged_store.specs.inner.Indexed.{pairs_by}
use Rattle.paged_store.proofs.RecordWords.{kind_is, values_length, count_fits, size_of_next}

-- a dictionary's index has half as many words as its body
index_class : (w : Words) (d : ℕ) → (decode w d).kind ≡ Dict → Formed w d →
    (class_in (w (2 * d)) ≡ index_class_in (w (2 * d)) + 1) × (1 ≤ index_class_in (w (2 * d)))
index_class w d k f = subst (λ z. HasIndex z (class_in (w (2 * d))) (index_class_in (w (2 * d))))
    (sym (kind_is w d) ∙ k) f.index

size_doubles : (c : ℕ) → 1 ≤ c → (size_of (c + 1) ≡ 2 * size_of c) × (2 ≤ size_of c)
size_doubles zero h = absurd (omega arith)
size_doubles (suc c) h =
    let a : size_of (suc c) ≡ 2 ^ suc c = size_of_next c in
    let b : size_of (suc (suc c)) ≡ 2 ^ suc (suc c) = size_of_next (suc c) in
    let e : 2 ^ suc (suc c) ≡ 2 * 2 ^ suc c = pow-succ' 2 (suc c) in
    let z : 1 ≤ suc c = omega arith in
    let l : 2 ^ 1 ≤ 2 ^ suc c = pow-le-pow_right (omega arith) z in
    let g : size_of (suc c + 1) ≡ size_of (suc (suc c)) = ap size_of {x = suc c + 1} {y = suc (suc c)} (omega arith) in
    (g ∙ b ∙ e ∙ ap (λ z. 2 * z) (sym a), omega arith)

pub index_small : (w : Words) (d : ℕ) → (decode w d).kind ≡ Dict → Formed w d → index_class_in (w (2 * d)) ≤ 20
index_small w d k f = omega (arith, index_class w d k f, f.class)

pub index_most : (w : Words) (d : ℕ) → (decode w d).kind ≡ Dict → Formed w d → index_size w d ≤ 2 ^ 20
index_most w d k f =
    let c : (class_in (w (2 * d)) ≡ index_class_in (w (2 * d)) + 1) × (1 ≤ index_class_in (w (2 * d))) =
    index_class w d k f in
    by (index_class_in (w (2 * d))) c.1 (index_small w d k f)
  where
    by : (c : ℕ) → 1 ≤ c → c ≤ 20 → size_of c ≤ 2 ^ 20
    by zero h l = absurd (omega arith)
    by (suc c) h l = subst (λ z. z ≤ 2 ^ 20) (sym (size_of_next c)) (pow-le-pow_right (omega arith) l)

-- and more slots than there can be pairs
pub index_room : (w : Words) (d : ℕ) → (decode w d).kind ≡ Dict → Formed w d → pairs_by w d < index_size w d
index_room w d k f =
    let none : has_bytes (kind_by w d) ≡ false = ap has_bytes (sym (kind_is w d) ∙ k) in
    let c : (class_in (w (2 * d)) ≡ index_class_in (w (2 * d)) + 1) × (1 ≤ index_class_in (w (2 * d))) =
    index_class w d k f in
    let s : (size_of (index_class_in (w (2 * d)) + 1) ≡ 2 * index_size w d) × (2 ≤ index_size w d) =
    size_doubles (index_class_in (w (2 * d))) c.1 in
    let b : body_size w d ≡ size_of (index_class_in (w (2 * d)) + 1) = ap size_of c.0 in
    omega (arith, values_length w d none, count_fits w d none f, s.0, s.1, b)

pub pairs_count : (w : Words) (d n : ℕ) → (decode w d).kind ≡ Dict → n ≡ length_of (decode w d) → n / 2 ≡ pairs_by w d
pairs_count w d n k e = ap (λ z. z / 2)
    (e ∙ ap (λ t. cond t (length (decode w d).bytes) (length (decode w d).values)) (ap has_bytes k))
