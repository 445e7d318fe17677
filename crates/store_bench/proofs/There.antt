-- What a call needs of the record at an address, from what the store told of it.
use Rattle.std.proofs.Common.{◌≡◌, ℕ, Bool, true, false, cond, inl, inr, ◌||◌, ◌+◌, ◌*◌, ◌/◌, ◌<◌, ◌≤◌, length, Option, Some, None, unwrap_or, IsSome, sym, ◌∙◌, ap, subst, arith}
use Rattle.std.specs.Prelude.{MatchOption}
use Rattle.std.proofs.lemmas.Bool.Decides.{eqb_tells}
use Rattle.py_base.specs.declared.kind.Kind.{Kind}
use Rattle.py_base.specs.declared.kind.Kind.TheVariants.{List as ListKind, Dict}
use Rattle.py_data.specs.declared.record.TheConstants.{LENGTH_LIMIT}
use Rattle.py_data.specs.declared.value.Value.{Value}
use Rattle.py_data.specs.declared.change.Change.TheVariants.{Set, Push, Cut, Pair, Unpair}
use Rattle.py_data.specs.Changes.{Allows, Suits, IsValuePlace}
use Rattle.py_data.specs.Heap.{Rec, Heap, Marks, Has, at, blank, has_bytes, length_of, is_tracked}
use Rattle.py_data.specs.Shape.{Fits, IsKey, ArePairs, KindIn, find, is_key_kind}
use Rattle.py_data.specs.Sight.{no_marks, with_mark}
use Rattle.store_bench.specs.Known.{Knows}
use Rattle.seg_store.specs.Store.{Where, HasPlace, HasBytes, CanFind, CanChange}

-- what the record has that stands there
pub where_there : (h : Heap) (a : ℕ) (p : Rec → Type 0) → Has h a → p (at h a) → Where h a p
unfolding at
where_there h a p s q = by_some (h a) s q
  where
    by_some : (o : Option Rec) → IsSome o → p (unwrap_or o blank) → MatchOption o (false ≡ true) p
    by_some None s q = cc
    by_some (Some r) s q = q

pub place_there : (h : Heap) (a i n : ℕ) → Has h a → n ≡ length (at h a).values → i < n → HasPlace h a i
place_there h a i n s e l = where_there h a (λ r. i < length r.values) s (subst (λ x. i < x) e l)

-- a kind that has bytes, whose length is that of its bytes
bytes_long : (b : Bool) (n x y : ℕ) → b ≡ true → n ≡ cond b x y → n ≡ x
bytes_long true n x y t e = e
bytes_long false n x y t e = cc

pub bytes_there : (h : Heap) (a from n m : ℕ) → Has h a → true ≡ has_bytes (at h a).kind → n ≡ length_of (at h a) →
    from + m ≤ n → HasBytes h a from m
bytes_there h a from n m s b e l = where_there h a (λ r. from + m ≤ length r.bytes) s
    (subst (λ x. from + m ≤ x) (bytes_long (has_bytes (at h a).kind) n _ _ (sym b) e) l)

pub key_there : (h : Heap) (a : ℕ) (k : Kind) → Has h a → k ≡ (at h a).kind → is_key_kind k ≡ true →
    KindIn (h a) (λ q. is_key_kind q ≡ true)
unfolding at
key_there h a k s e q = by_some (h a) s e
  where
    by_some : (o : Option Rec) → IsSome o → k ≡ (unwrap_or o blank).kind → KindIn o (λ q. is_key_kind q ≡ true)
    by_some None s e = cc
    by_some (Some r) s e = subst (λ x. is_key_kind x ≡ true) e q

pub kind_there : (h : Heap) (a : ℕ) (k : Kind) → Has h a → k ≡ (at h a).kind → KindIn (h a) (λ q. q ≡ k)
unfolding at
kind_there h a k s e = by_some (h a) s e
  where
    by_some : (o : Option Rec) → IsSome o → k ≡ (unwrap_or o blank).kind → KindIn o (λ q. q ≡ k)
    by_some None s e = cc
    by_some (Some r) s e = sym e

pub cut_there : (h : Heap) (a : ℕ) (k : Kind) → Has h a → k ≡ (at h a).kind → (i : ℕ) → k ≡ ListKind →
    CanChange h a (Cut i)
cut_there h a k s e i c = where_there h a (λ r. Allows (Cut i) r × Suits false h (Cut i) r) s ((sym e ∙ c, tt), tt)

module _ (h : Heap) (a : ℕ) (k : Kind) (n : ℕ) (s : Has h a) (e : k ≡ (at h a).kind)
    (f : n ≡ length (at h a).values) where
  pub set_there : (i : ℕ) (v : Value) → i < n → (is_tracked k ≡ true) × IsValuePlace k i → CanChange h a (Set i v)
  set_there i v l t = where_there h a (λ r. Allows (Set i v) r × Suits false h (Set i v) r) s
      (subst (λ x. ((is_tracked x ≡ true) × (i < length (at h a).values)) × IsValuePlace x i) e
      ((t.0, subst (λ x. i < x) f l), t.1))

  pub push_there : (v : Value) → k ≡ ListKind → n < LENGTH_LIMIT → CanChange h a (Push v)
  push_there v c l = where_there h a (λ r. Allows (Push v) r × Suits false h (Push v) r) s
      ((sym e ∙ c, subst (λ x. x < LENGTH_LIMIT) f l), tt)

  pub unpair_there : (i : ℕ) → k ≡ Dict → i < n / 2 → CanChange h a (Unpair i)
  unpair_there i c l = where_there h a (λ r. Allows (Unpair i) r × Suits false h (Unpair i) r) s
      ((sym e ∙ c, subst (λ x. 2 * i + 1 < x) f (omega arith)), tt)

pub find_there : (h : Heap) (a : ℕ) (k : Kind) (key : Value) → Has h a → k ≡ (at h a).kind → k ≡ Dict → IsKey h key →
    ArePairs h (at h a).values → CanFind h a key
find_there h a k key s e d i p = where_there h a (λ r. Fits h r key) s (sym e ∙ d, i, p)

pub pair_there : (h : Heap) (a n : ℕ) (key v : Value) → Has h a → n ≡ length (at h a).values → n + 1 < LENGTH_LIMIT →
    CanFind h a key → None ≡ find h (at h a).values key → CanChange h a (Pair key v)
unfolding at
pair_there h a n key v s e l f g = by_some (h a) s e f g
  where
    by_some : (o : Option Rec) → IsSome o → n ≡ length (unwrap_or o blank).values →
        MatchOption o (false ≡ true) (λ r. Fits h r key) → None ≡ find h (unwrap_or o blank).values key →
        MatchOption o (false ≡ true) (λ r. Allows (Pair key v) r × Suits false h (Pair key v) r)
    by_some None s e f g = cc
    by_some (Some r) s e f g = ((f.0, subst (λ x. x + 1 < LENGTH_LIMIT) e l), (f, sym g))

pub byte_within : (r : Rec) (n i : ℕ) → n ≡ length_of r → true ≡ has_bytes r.kind → i < n → i < length r.bytes
byte_within r n i e b l = subst (λ x. i < x) (bytes_long (has_bytes r.kind) n _ _ (sym b) e) l

pub knows_none : (h : Heap) (f : Marks) → f ≡ no_marks → Knows h f
knows_none h f e a t = by_mark (ap (λ (g : Marks). g a) e)
  where
    by_mark : f a ≡ false → Has h a
    by_mark n = cc

pub knows_more : (h : Heap) (f g : Marks) (a : ℕ) → Knows h f → Has h a → g ≡ with_mark a f → Knows h g
knows_more h f g a k s e b t = elim (eqb_tells b a) [
  | inl y ↦ subst (Has h) (sym y.1) s
  | inr n ↦ k b (subst (λ x. (x || f b) ≡ true) n.0 (subst (λ (m : Marks). m b ≡ true) e t))
]
