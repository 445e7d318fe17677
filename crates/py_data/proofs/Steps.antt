-- One call of a row after another: what is left of the row, and how a Stop ends it.
use Rattle.std.proofs.Common.{◌≡◌, ℕ, Bool, true, eqb, Some, Result, Ok, Err, MatchOption, refl, sym, ap, subst, ◌∙◌, unwrap_or}
use Rattle.std.proofs.lemmas.Bool.{eq-eqb, cond-true}
use Rattle.std.specs.Result.{IsErrAnd}
use Rattle.py_data.specs.declared.stop.Stop.{Stop}
use Rattle.py_data.specs.declared.stop.Stop.TheVariants.{OutOfMemory}
use Rattle.py_data.specs.Heap.{Heap, Rec, at, blank, put_at}
use Rattle.py_data.specs.declared.change.Change.{Change}
use Rattle.py_data.specs.Changes.{after, Allows, Suits}
use Rattle.py_data.specs.Row.{Call, Reply, Row, Ret, Do, Read, Edit, bind}
use Rattle.py_data.specs.Sense.{Sense, Lawful, Asks, Safe, Run, Meets, IsLive}
use Rattle.py_data.specs.inner.Rest.{Leads, Stands}
use Rattle.py_data.proofs.Rows.{run_bind, stop_first, stop_then, meets_ret, meets_own, meets_refused, meets_do, safe_asks, safe_next}

pub as_err : {A : Type 0} (res : Result A Stop) (e : Stop) → IsErrAnd res (λ x. x ≡ e) → res ≡ Err e
as_err (Ok x) e h = absurd h
as_err (Err x) e h = ap Err h

pub put_here : (h : Heap) (a : ℕ) (r : Rec) → put_at h a r a ≡ Some r
put_here h a r = cond-true (eqb a a) (Some r) (h a) (eq-eqb a a refl)

pub at_is : (h : Heap) (a : ℕ) (r : Rec) → h a ≡ Some r → at h a ≡ r
unfolding at
at_is h a r e = ap (λ o. unwrap_or o blank) e

pub there_is : (h : Heap) (a : ℕ) (r : Rec) (p : Bool) (P : Rec → Type 0) → h a ≡ Some r → P r →
    MatchOption (h a) (p ≡ true) P
there_is h a r p P e x = subst (λ o. MatchOption o (p ≡ true) P) (sym e) x

pub there_of : (h : Heap) (a : ℕ) (r : Rec) (p : Bool) (P : Rec → Type 0) → h a ≡ Some r →
    MatchOption (h a) (p ≡ true) P → P r
there_of h a r p P e x = subst (λ o. MatchOption o (p ≡ true) P) e x

-- the conditions of a part
pub safe_first : {S A B : Type 0} (q : Bool) (p : Row S A) (f : A → Row S B) (h : Heap) → Safe q (bind p f) h →
    Safe q p h
unfolding Safe bind
safe_first q (Ret x) f h s = tt
safe_first q (Do c k) f h s = (s.0, λ r h1 e. safe_first q (k r) f h1 (s.1 r h1 e))

-- a change of a record that is there may be made
pub asks_edit : (S : Type 0) (p : Bool) (h : Heap) (a : ℕ) (r : Rec) (c : Change) → h a ≡ Some r → Allows c r →
    Suits p h c r → Asks {S = S} p (Edit a c) h
unfolding Asks
asks_edit S p h a r c e allows suits = there_is h a r p (λ r. Allows c r × Suits p h c r) e (allows, suits)

-- a row is safe where its first part is, and what follows it is safe over every heap
pub safe_bind : {S A B : Type 0} (q : Bool) (p : Row S A) (f : A → Row S B) (h : Heap) → Safe q p h →
    ((a : A) (h1 : Heap) → Safe q (f a) h1) → Safe q (bind p f) h
unfolding Safe bind
safe_bind q (Ret x) f h s more = more x h
safe_bind q (Do c k) f h s more = (s.0, λ r h1 e. safe_bind q (k r) f h1 (s.1 r h1 e) more)

module _ {S X A B : Type 0} (u : Sense S X) where
  pub meets_bind : (p : Row S A) (f : A → Row S B) (v m w : X) (a : A) (res : Result B Stop) → Meets u p v m (Ok a) →
      Meets u (f a) m w res → Meets u (bind p f) v w res
  unfolding Meets
  meets_bind p f v m w a (Ok b) h g = run_bind u p f v m w a b h g
  meets_bind p f v m w a (Err e) h g = stop_then u p f v m w a e h g

  pub meets_bind_err : (p : Row S A) (f : A → Row S B) (v w : X) (e : Stop) → Meets u p v w (Err e) →
      Meets u (bind p f) v w (Err e)
  unfolding Meets
  meets_bind_err p f v w e h = stop_first u p f v w e h

  -- the conditions of what follows a part
  pub safe_then : (L : Lawful u) (p : Row S A) (f : A → Row S B) (v w : X) (a : A) →
      Safe u.partial (bind p f) (u.heap v) → Meets u p v w (Ok a) → Safe u.partial (f a) (u.heap w)
  unfolding Safe bind Meets Run
  safe_then L (Ret x) f v w a s m = subst (λ z. Safe u.partial (f a) (u.heap z)) (sym m.1)
      (subst (λ z. Safe u.partial (f z) (u.heap v)) (sym m.0) s)
  safe_then L (Do c k) f v w a s m = safe_then L (k m.0) f m.1 w a (s.1 m.0 (u.heap m.1) (L.effect c v m.0 m.1 m.2)) m.3

module _ {S X A : Type 0} (u : Sense S X) where
  -- a part that was done leaves a view that has not stopped
  pub live_after : (L : Lawful u) (p : Row S A) (v w : X) (a : A) → Meets u p v w (Ok a) → IsLive u v → IsLive u w
  unfolding Meets Run
  live_after L (Ret x) v w a m h = subst (IsLive u) (sym m.1) h
  live_after L (Do c k) v w a m h = live_after L (k m.0) m.1 w a m.3 (L.live c v m.0 m.1 m.2)

  pub seen_after : (L : Lawful u) (p : Row S A) (v w : X) (a : A) (b : ℕ) → Meets u p v w (Ok a) → u.seen b v →
      u.seen b w
  unfolding Meets Run
  seen_after L (Ret x) v w a b m h = subst (u.seen b) (sym m.1) h
  seen_after L (Do c k) v w a b m h = seen_after L (k m.0) m.1 w a b m.3 (L.stays c v m.0 m.1 b m.2 h)

  -- the Stop that `?` hands on
  pub stop_as : (row : Row S A) (v w : X) (e : Stop) (res : Result A Stop) → Meets u row v w (Err e) →
      IsErrAnd res (λ x. x ≡ e) → Meets u row v w res
  stop_as row v w e res m h = subst (Meets u row v w) (sym (as_err res e h)) m

  pub leads_begin : (row : Row S A) (v : X) → Safe u.partial row (u.heap v) → IsLive u v → Leads u row v row v
  leads_begin row v h l = record { finish = λ x res m. m; safe = h; live = l }

module _ {S X A : Type 0} {u : Sense S X} {row : Row S A} {v w : X} where
  pub leads_ret : {a : A} → Leads u row v (Ret a) w → Meets u row v w (Ok a)
  leads_ret {a = a} l = l.finish w (Ok a) (meets_ret u a w)

  pub leads_own : {rest : Row S A} → Leads u row v rest w → Meets u row v w (Err OutOfMemory)
  leads_own {rest = rest} l = l.finish w (Err OutOfMemory) (meets_own u rest w)

  pub leads_do : (L : Lawful u) {c : Call S} {k : Reply c → Row S A} {x : X} (r : Reply c) → Leads u row v (Do c k) w →
      u.does c w r x → Leads u row v (k r) x
  leads_do L {c = c} {k = k} {x = x} r l d = record {
    finish = λ y res m. l.finish y res (meets_do u c k w x y r res d m);
    safe = safe_next L c k w x r l.safe d;
    live = L.live c w r x d;
  }

  pub leads_refused : {c : Call S} {k : Reply c → Row S A} {x : X} {e : Stop} → Leads u row v (Do c k) w →
      u.refuses c w e x → Meets u row v x (Err e)
  leads_refused {c = c} {k = k} {x = x} {e = e} l d = l.finish x (Err e) (meets_refused u c k w x e d)

  pub leads_asks : {c : Call S} {k : Reply c → Row S A} → Leads u row v (Do c k) w → Asks u.partial c (u.heap w)
  leads_asks {c = c} {k = k} l = safe_asks u.partial c k (u.heap w) l.safe

module _ {S X A B : Type 0} {u : Sense S X} {row : Row S B} {v w : X} where
  pub leads_call : (L : Lawful u) (p : Row S A) (f : A → Row S B) (x : X) (a : A) → Leads u row v (bind p f) w →
      Meets u p w x (Ok a) → Leads u row v (f a) x
  leads_call L p f x a l m = record {
    finish = λ y res n. l.finish y res (meets_bind u p f w x y a res m n);
    safe = safe_then u L p f w x a l.safe m;
    live = live_after u L p w x a m l.live;
  }

  pub leads_call_stop : (p : Row S A) (f : A → Row S B) (x : X) (e : Stop) → Leads u row v (bind p f) w →
      Meets u p w x (Err e) → Meets u row v x (Err e)
  leads_call_stop p f x e l m = l.finish x (Err e) (meets_bind_err u p f w x e m)

module _ {S X : Type 0} {u : Sense S X} where
  pub stands_again : (L : Lawful u) {a : ℕ} {q : Rec} {v w : X} (r : Rec) → Stands u a q v → u.does (Read a) v r w →
      w ≡ v
  stands_again L {a = a} {v = v} {w = w} r h d = L.same a v r w h.seen d

  pub stands_read : (L : Lawful u) {a : ℕ} {v w : X} (r : Rec) → u.does (Read a) v r w → Stands u a r w
  stands_read L {a = a} {v = v} {w = w} r d =
      let f = L.effect (Read a) v r w d in
      record { is = ap (λ h. h a) f.1 ∙ f.0; seen = L.seen (Read a) v r w a d refl }

  -- after a change of the record
  pub stands_edit : (L : Lawful u) {a : ℕ} {v w : X} (c : Change) → u.does (Edit a c) v tt w →
      Stands u a (after c (at (u.heap v) a)) w
  stands_edit L {a = a} {v = v} {w = w} c d =
      let e = L.effect (Edit a c) v tt w d in
      record {
        is = ap (λ h. h a) e.1 ∙ put_here (u.heap v) a (after c (at (u.heap v) a));
        seen =
            L.seen (Edit a c) v tt w a d refl;
      }

-- what a safe row asks of a part, after a look at a record
pub part_after : {S X A B : Type 0} {u : Sense S X} (L : Lawful u) (a : ℕ) (k : Rec → Row S B) (v m : X) (r : Rec)
    (p : Row S A) (f : A → Row S B)
    → Safe u.partial (Do (Read a) k) (u.heap v) → u.does (Read a) v r m → k r ≡ bind p f → Safe u.partial p (u.heap m)
part_after {u = u} L a k v m r p f s d e =
    safe_first u.partial p f (u.heap m) (subst (λ z. Safe u.partial z (u.heap m)) e (safe_next L (Read a) k v m r s d))

-- what a safe row asks after a part
pub asks_then : {S X A B : Type 0} (u : Sense S X) (L : Lawful u) (p : Row S A) (f : A → Row S B) (v w : X) (a : A)
    (c : Call S) (k : Reply c → Row S B)
    → Safe u.partial (bind p f) (u.heap v) → Meets u p v w (Ok a) → f a ≡ Do c k → Asks u.partial c (u.heap w)
asks_then u L p f v w a c k s m e = safe_asks u.partial c k (u.heap w)
    (subst (λ z. Safe u.partial z (u.heap w)) e (safe_then u L p f v w a s m))

-- what a safe row asks behind a part, where what follows is known by another name
pub safe_rest : {S X A B : Type 0} {u : Sense S X} (L : Lawful u) (p : Row S A) (f : A → Row S B) (rest : Row S B)
    (v w : X) (a : A) → Meets u p v w (Ok a) → Safe u.partial (bind p f) (u.heap v) → f a ≡ rest →
    Safe u.partial rest (u.heap w)
safe_rest {u = u} L p f rest v w a m s e = subst (λ z. Safe u.partial z (u.heap w)) e (safe_then u L p f v w a s m)

pub ruleset call_steps = (meets_bind, meets_bind_err, safe_first, safe_rest, live_after, stop_as, part_after, asks_then)
