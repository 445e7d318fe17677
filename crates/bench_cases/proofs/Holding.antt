-- What calls of a view ask and leave of a record that a measure works on.
use Rattle.std.proofs.Common.{◌≡◌, ℕ, ◌+◌, ◌*◌, ◌<◌, List, [], ◌∷◌, length, Result, Ok, Err, refl, sym, ap, subst, ◌∙◌, arith, length-append}
use Rattle.std.specs.Prelude.{IfOk}
use Rattle.std.proofs.lemmas.List.{length-set}
use Rattle.py_data.specs.declared.value.Addr.{Addr}
use Rattle.py_data.specs.declared.value.Value.{Value}
use Rattle.py_data.specs.declared.stop.Stop.{Stop}
use Rattle.py_data.specs.declared.change.Change.{Change}
use Rattle.py_data.specs.declared.change.Change.TheVariants.{Set, Push}
use Rattle.py_base.specs.declared.kind.Kind.{Kind}
use Rattle.py_base.specs.declared.kind.Kind.TheVariants.{List as ListKind, Dict}
use Rattle.py_data.specs.Heap.{Heap, Rec, at, put_at, new_rec, value_at, is_tracked}
use Rattle.py_data.specs.Changes.{after, IsValuePlace}
use Rattle.py_data.specs.Row.{Read, Edit, Make}
use Rattle.py_data.specs.Sense.{Sense, Bracket, Lawful, IsBracket, IsLive, IfThere, Asks, Answers, Shows}
use Rattle.py_data.proofs.Steps.{put_here, at_is, there_is, asks_edit}
use Rattle.bench_cases.specs.Holds.{HoldsRecord, Holds}

module _ {S X : Type 0} {u : Sense S X} (L : Lawful u) where
  -- a record in the place of one that stands there
  put_in : (k : Kind) (a n : ℕ) (r : Rec) (h : Heap) (w : X) → IsLive u w → u.heap w ≡ put_at h a r → r.kind ≡ k →
      length r.values ≡ n → HoldsRecord u k a n w
  put_in k a n r h w live e kind long = record {
    live = live;
    r = r;
    is = ap (λ g. g a) e ∙ put_here h a r;
    kind =
        kind;
    long = long;
  }

  pub made : (k : Kind) (vs : List Value) (bs : List ℕ) (v w : X) (res : Result Addr Stop) →
      Answers u (Make (new_rec k vs bs)) (λ a. a.0) v w res → IfOk res (λ a. HoldsRecord u k a.0 (length vs) w)
  made k vs bs v w (Ok a) m = put_in k a.0 (length vs) (new_rec k vs bs) (u.heap v) w
      (L.live (Make (new_rec k vs bs)) v a.0 w m) (L.effect (Make (new_rec k vs bs)) v a.0 w m).1 refl refl
  made k vs bs v w (Err e) m = tt

  pub opened : {b : Bracket S X} → IsBracket u b → (k : Kind) (a n : ℕ) (v w : X) → b.opens v w → HoldsRecord u k a n v
      → HoldsRecord u k a n w
  opened B k a n v w o h = let e = B.opened v w o in
      record { live = e.2; r = h.r; is = ap (λ g. g a) e.0 ∙ h.is; kind = h.kind; long = h.long }

  -- a change of it leaves it, with its kind and maybe another length
  changed : (k : Kind) (a n m : ℕ) (c : Change) (v w : X) (res : Result (Unit {0}) Stop) → HoldsRecord u k a n v →
      ((r : Rec) → r.kind ≡ k → length r.values ≡ n → ((after c r).kind ≡ k) × (length (after c r).values ≡ m))
      → Answers u (Edit a c) (λ x. x) v w res → IfOk res (λ _. HoldsRecord u k a m w)
  changed k a n m c v w (Ok x) h keeps did =
      let e = L.effect (Edit a c) v x w did in
      let p = keeps h.r h.kind h.long in
      put_in k a m (after c h.r) (u.heap v) w (L.live (Edit a c) v x w did)
      (e.1 ∙ ap (λ r. put_at (u.heap v) a (after c r)) (at_is (u.heap v) a h.r h.is)) p.0 p.1
  changed k a n m c v w (Err e) h keeps did = tt

  pub push_asks : (a n : ℕ) (x : Value) (v : X) → n < 1_048_576 → HoldsRecord u ListKind a n v →
      Asks {S = S} u.partial (Edit a (Push x)) (u.heap v)
  push_asks a n x v l h = asks_edit S u.partial (u.heap v) a h.r (Push x) h.is (h.kind, let e = h.long in omega arith)
      tt

  pub pushed : (a n : ℕ) (x : Value) (v w : X) (res : Result (Unit {0}) Stop) → HoldsRecord u ListKind a n v →
      Answers u (Edit a (Push x)) (λ x. x) v w res → IfOk res (λ _. HoldsRecord u ListKind a (n + 1) w)
  pushed a n x v w res h did = changed ListKind a n (n + 1) (Push x) v w res h
      (λ r k l. (k, omega (arith, length-append r.values (x ∷ [])))) did

  pub set_asks : (a n place : ℕ) (x : Value) (v : X) → place < n → HoldsRecord u Dict a (2 * n) v →
      Asks {S = S} u.partial (Edit a (Set (2 * place + 1) x)) (u.heap v)
  set_asks a n place x v l h =
      asks_edit S u.partial (u.heap v) a h.r (Set (2 * place + 1) x) h.is
      (ap is_tracked h.kind, let e = h.long in omega arith)
      (subst (λ k. IsValuePlace k (2 * place + 1)) (sym h.kind) (place, refl))

  pub was_set : (a n i : ℕ) (x : Value) (v w : X) (res : Result (Unit {0}) Stop) → HoldsRecord u Dict a n v →
      Answers u (Edit a (Set i x)) (λ x. x) v w res → IfOk res (λ _. HoldsRecord u Dict a n w)
  was_set a n i x v w res h did = changed Dict a n n (Set i x) v w res h (λ r k l. (k, length-set r.values i x ∙ l)) did

  pub val_asks : (a n i : ℕ) (v : X) → i < n → Holds u a n v → IfThere u.partial (u.heap v a) (λ r. i < length r.values)
  val_asks a n i v l h = there_is (u.heap v) a h.1.r u.partial (λ r. i < length r.values) h.1.is
      (let e = h.1.long in omega arith)

  -- a look leaves it
  pub looked : (a n i : ℕ) (v w : X) (x : Value) → Holds u a n v → Shows u a (λ r. value_at r.values i) v w (Ok x) →
      Holds u a n w
  looked a n i v w x h did =
      let e = L.effect (Read a) v (at (u.heap v) a) w did.0 in (
        h.0,
        record {
          live = L.live (Read a) v (at (u.heap v) a) w did.0;
          r = h.1.r;
          is = ap (λ g. g a) e.1 ∙ h.1.is;
          kind = h.1.kind;
          long = h.1.long;
        },
      )
