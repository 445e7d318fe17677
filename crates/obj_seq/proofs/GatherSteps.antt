-- The steps of the code that gathers the items of an object.
use Rattle.std.proofs.Common.{◌≡◌, ◌≢◌, ℕ, zero, suc, ◌+◌, ◌-◌, ◌*◌, ◌<◌, ◌≤◌, eqb, List, [], ◌∷◌, ◌++◌, length, drop, take, get_or, Some, Option, None, Result, Ok, Err, MatchResult, refl, sym, ap, subst, ◌∙◌, arith, add-one}
use Rattle.std.proofs.Math.Seq.{drop-cons}
use Rattle.std.proofs.lemmas.List.{length-drop}
use Rattle.std.proofs.lemmas.Bool.{cond-true, cond-false, lt-ltb, le-ltb, ne_eqb}
use Rattle.py_data.specs.declared.value.Value.{Value}
use Rattle.py_data.specs.declared.value.Value.TheVariants.{Ref}
use Rattle.py_base.specs.declared.kind.Kind.{Kind}
use Rattle.py_base.specs.declared.kind.Kind.TheVariants.{Str, Tuple, List as ListKind, Dict, Iter, Range}
use Rattle.py_data.specs.declared.record.Fault.{Fault}
use Rattle.py_data.specs.declared.record.Got.{Got}
use Rattle.py_data.specs.declared.record.Got.TheVariants.{Is, Raise}
use Rattle.py_data.specs.declared.record.TheConstants.{LENGTH_LIMIT}
use Rattle.py_data.specs.Fault.{memory_fault, iterable_fault}
use Rattle.py_data.specs.Range.{range_length}
use Rattle.py_data.specs.Looking.{walk_row}
use Rattle.py_data.specs.declared.stop.Stop.{Stop}
use Rattle.py_data.specs.declared.stop.Stop.TheVariants.{OutOfMemory}
use Rattle.py_data.specs.Heap.{Rec, at, value_at, new_rec}
use Rattle.py_data.specs.Row.{Row, Ret, Do, Read, Make}
use Rattle.py_data.specs.Sense.{Sense, Lawful, Asks, Safe, Meets, Run, Stopped, IsLive}
use Rattle.py_data.specs.inner.Rest.{Leads, Stands}
use Rattle.py_data.proofs.AfterLook.{stands_made}
use Rattle.py_data.proofs.Rows.{meets_ret, meets_answer, meets_do, read_heap, safe_next}
use Rattle.py_data.proofs.Steps.{stands_again, there_is, at_is, safe_first, meets_bind, meets_bind_err, leads_begin, leads_do, leads_ret}
use Rattle.py_data.proofs.Turns.{walk_safe, walk_stop, walk_more, walk_done, walk_end}
use Rattle.obj_seq.specs.declared.span.Span.{Span}
use Rattle.obj_seq.specs.Seq.{part}
use Rattle.obj_seq.specs.Iter.{next_row}
use Rattle.obj_seq.specs.Gather.{keys_of, letters_row, numbers, numbers_row, taken, take_row, left_row, gather_as, gather_of}

-- a record that stands may be looked at
pub stands_asks : {S X : Type 0} {u : Sense S X} {a : ℕ} {r : Rec} {w : X} → Stands u a r w →
    Asks {S = S} u.partial (Read a) (u.heap w)
unfolding Asks
stands_asks {u = u} {a = a} {r = r} {w = w} s = there_is (u.heap w) a r u.partial (λ r. Unit {0}) s.is tt

module _ {S X : Type 0} (u : Sense S X) where
  -- another answer that is made of an answer, and a view that is as it was
  pub ret_as : {A B : Type 0} (f : A → B) (x : A) (y : B) (v m w : X) (a : A) → m ≡ v → f x ≡ y →
      Meets u (Ret x) m w (Ok a) → Meets u (Ret y) v w (Ok (f a))
  unfolding Meets Run
  ret_as f x y v m w a same e d = (ap f d.0 ∙ e, d.1 ∙ same)

  pub err_as : {A B : Type 0} (x : A) (y : B) (v m w : X) (e : Stop) → m ≡ v → Meets u (Ret x) m w (Err e) →
      Meets u (Ret y) v w (Err e)
  unfolding Meets Stopped
  err_as x y v m w e same d = (d.0, d.1 ∙ same)

  pub ret_is : {B : Type 0} (x y : B) (v w : X) → w ≡ v → y ≡ x → Meets u (Ret x) v w (Ok y)
  unfolding Meets Run
  ret_is x y v w same e = (e, same)

whole : (vs : List Value) → take (length vs) vs ≡ vs
whole [] = refl
whole (x ∷ vs) = ap (λ t. x ∷ t) (whole vs)

pub part_all : (vs : List Value) (n : ℕ) → n ≡ length vs → part vs 0 n ≡ vs
part_all vs n e = let z : n - 0 ≡ length vs = omega (arith, e) in rw z (whole vs)

-- ---- keys
pub keys_next : (vs : List Value) (i : ℕ) → 2 * i + 1 < length vs →
    keys_of (take (2 * (i + 1)) vs) ≡ keys_of (take (2 * i) vs) ++ value_at vs (2 * i) ∷ []
keys_next [] i h = absurd (omega arith)
keys_next (k ∷ []) i h = absurd (omega arith)
keys_next (k ∷ x ∷ rest) zero h = refl
keys_next (k ∷ x ∷ rest) (suc i) h =
    let a : 2 * (suc i + 1) ≡ suc (suc (2 * (i + 1))) = omega arith in
    let b : 2 * suc i ≡ suc (suc (2 * i)) = omega arith in
    rw (a, b) (ap (λ t. k ∷ t) (keys_next rest i (omega arith)))

pub keys_end : (vs : List Value) (i : ℕ) → length vs ≤ 2 * i + 1 → keys_of (take (2 * i) vs) ≡ keys_of vs
keys_end [] zero h = refl
keys_end (k ∷ []) zero h = refl
keys_end (k ∷ x ∷ rest) zero h = absurd (omega arith)
keys_end [] (suc i) h = let b : 2 * suc i ≡ suc (suc (2 * i)) = omega arith in rw b refl
keys_end (k ∷ []) (suc i) h = let b : 2 * suc i ≡ suc (suc (2 * i)) = omega arith in rw b refl
keys_end (k ∷ x ∷ rest) (suc i) h = let b : 2 * suc i ≡ suc (suc (2 * i)) = omega arith in
    rw b (ap (λ t. k ∷ t) (keys_end rest i (omega arith)))

-- ---- letters
-- before the turn for byte i
pub record Lettering {S X : Type 0} (u : Sense S X) (a n : ℕ) (bs : List ℕ) (i : ℕ) (refs : List Value)
    (v w : X) : Type 0 where
  pub leads : Leads u (letters_row {S = S} [] bs) v (letters_row refs (drop i bs)) w
  pub now : Rec
  pub stands : Stands u a now w
  pub bytes : now.bytes ≡ bs
  pub count : length bs ≡ n

module _ {S X : Type 0} {u : Sense S X} {a n : ℕ} {bs : List ℕ} {i : ℕ} {refs : List Value} {v w : X} where
  -- the turn's byte was copied
  pub lettering_looked : (L : Lawful u) {q : Rec} {x : X} → Lettering u a n bs i refs v w → u.does (Read a) w q x →
      Lettering u a n bs i refs v x
  lettering_looked L {q = q} h d = subst (Lettering u a n bs i refs v) (sym (stands_again L q h.stands d)) h

  pub lettering_here : Lettering u a n bs i refs v w → (at (u.heap w) a).bytes ≡ bs
  lettering_here h = ap (λ r. r.bytes) (at_is (u.heap w) a h.now h.stands.is) ∙ h.bytes

  pub lettering_next : Lettering u a n bs i refs v w → (byte : ℕ) (made : Rec) → i < n → byte ≡ get_or bs i 0 →
      made ≡ new_rec Str [] (byte ∷ [])
      → Leads u (letters_row {S = S} [] bs) v
      (Do (Make made) (λ b. letters_row (refs ++ Ref (record { 0 = b }) ∷ []) (drop (i + 1) bs))) w
  unfolding letters_row
  lettering_next h byte made less e f =
      let inside : i < length bs = omega (arith, h.count) in
      let here : drop i bs ≡ byte ∷ drop (i + 1) bs = rw (e, add-one i) (drop-cons bs i 0 inside) in
      rw f (subst (λ l. Leads u (letters_row {S = S} [] bs) v (letters_row refs l) w) here h.leads)

  pub lettering_more : (L : Lawful u) → Lettering u a n bs i refs v w → (byte : ℕ) (made : Rec) (b : ℕ) (z : X) →
      i < n → byte ≡ get_or bs i 0 → made ≡ new_rec Str [] (byte ∷ []) → u.does (Make made) w b z
      → Lettering u a n bs (i + 1) (refs ++ Ref (record { 0 = b }) ∷ []) v z
  lettering_more L h byte made b z less e f m = record {
    leads = leads_do L b (lettering_next h byte made less e f) m;
    now = h.now;
    stands = stands_made L h.stands m;
    bytes = h.bytes;
    count = h.count;
  }

letters_end : {S : Type 0} (refs : List Value) (rest : List ℕ) → length rest ≤ 0 →
    letters_row {S = S} refs rest ≡ Ret (Is refs)
unfolding letters_row
letters_end refs [] h = refl
letters_end refs (x ∷ rest) h = absurd (omega arith)

pub lettering_last : {S X : Type 0} {u : Sense S X} {a n : ℕ} {bs : List ℕ} {i : ℕ} {refs : List Value} {v w : X} →
    Lettering u a n bs i refs v w → n ≤ i → Meets u (letters_row {S = S} [] bs) v w (Ok (Is refs))
lettering_last {S = S} {u = u} {bs = bs} {i = i} {refs = refs} {v = v} {w = w} h less =
    leads_ret (subst (λ row. Leads u (letters_row {S = S} [] bs) v row w)
    (letters_end refs (drop i bs) (omega (arith, length-drop i bs, h.count))) h.leads)

-- ---- numbers
module _ {S X : Type 0} (u : Sense S X) where
  pub numbers_many : (o : Option Span) (s : Span) (v : X) (res : Got (List Value)) → o ≡ Some s →
      LENGTH_LIMIT < range_length s.start s.stop s.step → res ≡ Raise memory_fault →
      Meets u (numbers_row o) v v (Ok res)
  unfolding numbers_row
  numbers_many o s v res e less f =
      let row : numbers_row {S = S} (Some s) ≡ Ret (Raise memory_fault) =
      cond-true _ _ _ (lt-ltb LENGTH_LIMIT (range_length s.start s.stop s.step) less) in
      subst (λ o. Meets u (numbers_row o) v v (Ok res)) (sym e)
      (subst (λ r. Meets u r v v (Ok res)) (sym row)
      (subst (λ z. Meets u (Ret (Raise memory_fault)) v v (Ok z)) (sym f) (meets_ret u (Raise memory_fault) v)))

  pub numbers_few : (o : Option Span) (s : Span) (v : X) (xs : List Value) → o ≡ Some s →
      range_length s.start s.stop s.step ≤ LENGTH_LIMIT →
      xs ≡ numbers s.start s.step (range_length s.start s.stop s.step) → Meets u (numbers_row o) v v (Ok (Is xs))
  unfolding numbers_row
  numbers_few o s v xs e few f =
      let row : numbers_row {S = S} (Some s) ≡ Ret (Is (numbers s.start s.step (range_length s.start s.stop s.step))) =
      cond-false _ _ _ (le-ltb LENGTH_LIMIT (range_length s.start s.stop s.step) few) in
      subst (λ o. Meets u (numbers_row o) v v (Ok (Is xs))) (sym e)
      (subst (λ r. Meets u r v v (Ok (Is xs))) (sym row)
      (subst (λ z. Meets u (Ret (Is (numbers s.start s.step (range_length s.start s.stop s.step)))) v v
      (Ok (Is z))) (sym f) (meets_ret u _ v)))

-- ---- what is left of an iterator
module _ {S X : Type 0} {u : Sense S X} (it : ℕ) {v w : X} (xs : List Value) (i : ℕ) (less : i < LENGTH_LIMIT + 1)
    (leads : Leads u (left_row {S = S} it) v (walk_row (take_row it) (Raise memory_fault) (LENGTH_LIMIT + 1 - i) xs) w)
  where
    pub left_safe : Safe u.partial (next_row {S = S} it) (u.heap w)
    left_safe = safe_first u.partial (next_row it) (λ g. Ret (taken xs g)) (u.heap w)
        (walk_safe (take_row it) (Raise memory_fault) i (LENGTH_LIMIT + 1) xs less leads)

    taken_met : (x : X) (g : Got (Option Value)) → Meets u (next_row it) w x (Ok g) →
        Meets u (take_row it xs) w x (Ok (taken xs g))
    taken_met x g m = meets_bind u (next_row it) (λ g. Ret (taken xs g)) w x x g (Ok (taken xs g)) m
        (meets_ret u (taken xs g) x)

    pub left_stop : (x : X) (e : Stop) → Meets u (next_row it) w x (Err e) → Meets u (left_row it) v x (Err e)
    left_stop x e m = walk_stop (take_row it) (Raise memory_fault) x e i (LENGTH_LIMIT + 1) xs less leads
        (meets_bind_err u (next_row it) (λ g. Ret (taken xs g)) w x e m)

    pub left_more : (L : Lawful u) (x : X) (g : Got (Option Value)) (y : Value) → Meets u (next_row it) w x (Ok g) →
        g ≡ Is (Some y) → Leads u (left_row it) v
        (walk_row (take_row it) (Raise memory_fault) (LENGTH_LIMIT + 1 - (i + 1)) (xs ++ y ∷ [])) x
    left_more L x g y m e = walk_more (take_row it) (Raise memory_fault) L x i (LENGTH_LIMIT + 1) xs (xs ++ y ∷ []) less
        leads (subst (λ g. Meets u (take_row it xs) w x (Ok (taken xs g))) e (taken_met x g m))

    pub left_end : (L : Lawful u) (x : X) (g : Got (Option Value)) → Meets u (next_row it) w x (Ok g) → g ≡ Is None →
        Meets u (left_row it) v x (Ok (Is xs))
    left_end L x g m e = walk_done (take_row it) (Raise memory_fault) L x i (LENGTH_LIMIT + 1) xs (Is xs) less leads
        (subst (λ g. Meets u (take_row it xs) w x (Ok (taken xs g))) e (taken_met x g m))

    pub left_raised : (L : Lawful u) (x : X) (g : Got (Option Value)) (e : Fault) → Meets u (next_row it) w x (Ok g) →
        g ≡ Raise e → Meets u (left_row it) v x (Ok (Raise e))
    left_raised L x g e m f = walk_done (take_row it) (Raise memory_fault) L x i (LENGTH_LIMIT + 1) xs (Raise e) less
        leads (subst (λ g. Meets u (take_row it xs) w x (Ok (taken xs g))) f (taken_met x g m))

module _ {S X : Type 0} (u : Sense S X) (it : ℕ) (v : X) where
  pub left_begin : (xs : List Value) → xs ≡ [] → Safe u.partial (left_row {S = S} it) (u.heap v) → IsLive u v →
      Leads u (left_row {S = S} it) v (walk_row (take_row it) (Raise memory_fault) (LENGTH_LIMIT + 1) xs) v
  unfolding left_row
  left_begin xs e s l = subst (λ xs. Leads u (left_row {S = S} it) v
      (walk_row (take_row it) (Raise memory_fault) (LENGTH_LIMIT + 1) xs) v) (sym e)
      (leads_begin u (left_row {S = S} it) v s l)

  pub left_last : (w : X) (xs : List Value) (i : ℕ) (res : Got (List Value)) → LENGTH_LIMIT + 1 ≤ i →
      Leads u (left_row {S = S} it) v (walk_row (take_row it) (Raise memory_fault) (LENGTH_LIMIT + 1 - i) xs) w →
      res ≡ Raise memory_fault → Meets u (left_row it) v w (Ok res)
  left_last w xs i res more l e = subst (λ z. Meets u (left_row it) v w (Ok z)) (sym e)
      (walk_end (take_row it) (Raise memory_fault) i (LENGTH_LIMIT + 1) xs more l)

-- ---- all kinds
-- a record of another kind has no items
no_items : {S : Type 0} (a : ℕ) (k : Kind) (vs : List Value) (bs : List ℕ) → (k ≡ Str → ⊥) → (k ≡ Tuple → ⊥) →
    (k ≡ ListKind → ⊥) → (k ≡ Dict → ⊥) → (k ≡ Iter → ⊥) → (k ≡ Range → ⊥)
    → gather_as {S = S} a k vs bs ≡ Ret (Raise iterable_fault)
no_items a Str vs bs n o p q r s = absurd (n refl)
no_items a Tuple vs bs n o p q r s = absurd (o refl)
no_items a ListKind vs bs n o p q r s = absurd (p refl)
no_items a Dict vs bs n o p q r s = absurd (q refl)
no_items a Iter vs bs n o p q r s = absurd (r refl)
no_items a Range vs bs n o p q r s = absurd (s refl)
no_items a _ vs bs n o p q r s = refl

pub raised_met : {S X : Type 0} (u : Sense S X) (a : ℕ) (k : Kind) (r : Rec) (v : X)
    (res : Result (Got (List Value)) Stop) → k ≡ r.kind → (k ≡ Str → ⊥) → (k ≡ Tuple → ⊥) → (k ≡ ListKind → ⊥) →
    (k ≡ Dict → ⊥) → (k ≡ Iter → ⊥) → (k ≡ Range → ⊥)
    → MatchResult res (λ g. g ≡ Raise iterable_fault) (λ e. e ≡ OutOfMemory) → Meets u (gather_of {S = S} a r) v v res
raised_met {S = S} u a k r v res e n o p q s t m =
    subst (λ k. Meets u (gather_as {S = S} a k r.values r.bytes) v v res) e
    (subst (λ row. Meets u row v v res) (sym (no_items a k r.values r.bytes n o p q s t))
    (meets_answer u (Raise iterable_fault) v res m))
