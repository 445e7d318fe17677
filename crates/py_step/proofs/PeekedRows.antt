-- What a row comes to over one heap: how it is put together, and how such a row runs there.
use Rattle.std.proofs.Common.{◌≡◌, ℕ, Bool, true, false, Some, refl, sym, ap, subst, ◌∙◌}
use Rattle.py_data.specs.Heap.{Heap, Has, at, value_at}
use Rattle.py_data.specs.Looking.{kind_row, look_row}
use Rattle.py_data.specs.Row.{Row, Ret, Do, Read, bind}
use Rattle.py_data.specs.Sense.{Run}
use Rattle.py_data.specs.Sight.{Sight, Does, opened, looked_at}
use Rattle.py_data.proofs.Steps.{at_is}
use Rattle.py_data.proofs.Looking.{some_of}
use Rattle.lock_run.specs.declared.client.Outcome.{Outcome}
use Rattle.lock_run.specs.Client.{Waiting, Going}
use Rattle.obj_threads.specs.Quiet.{Never}
use Rattle.py_frames.specs.State.{State}
use Rattle.py_step.specs.inner.Peeked.{Comes, Avoids, Tells, EndsInWait}

-- the record that is there
pub there_at : (h : Heap) (a : ℕ) → Has h a → h a ≡ Some (at h a)
there_at h a i = let r = some_of (h a) i in r.1 ∙ ap Some (sym (at_is h a r.0 r.1))

module _ {S A : Type 0} (p : A → Type 0) (h : Heap) where
  -- a row that never gives such an answer
  pub never_avoids : (row : Row S A) → Never p row → Avoids p h row
  unfolding Never Avoids
  never_avoids (Ret a) n = n
  never_avoids (Do (Read a) k) n = never_avoids (k (at h a)) (n (at h a))
  never_avoids (Do c k) n = n

module _ {S A B : Type 0} (h : Heap) where
  comes_then : (row : Row S A) (f : A → Row S B) (y : A) (z : B) → Comes h row y → Comes h (f y) z →
      Comes h (bind row f) z
  unfolding Comes bind
  comes_then (Ret a) f y z c d = subst (λ q. Comes h (f q) z) (sym c) d
  comes_then (Do (Read a) k) f y z c d = (c.0, comes_then (k (at h a)) f y z c.1 d)
  comes_then (Do c k) f y z i d = absurd i

  avoids_then : (p : B → Type 0) (row : Row S A) (f : A → Row S B) (y : A) → Comes h row y → Avoids p h (f y) →
      Avoids p h (bind row f)
  unfolding Comes Avoids bind
  avoids_then p (Ret a) f y c d = subst (λ q. Avoids p h (f q)) (sym c) d
  avoids_then p (Do (Read a) k) f y c d = avoids_then p (k (at h a)) f y c.1 d
  avoids_then p (Do c k) f y i d = absurd i

  -- what follows a row that comes to an answer
  pub tells_then : (b : Bool) (p : B → Type 0) (row : Row S A) (f : A → Row S B) (y : A) → Comes h row y →
      Tells b p h (f y) → Tells b p h (bind row f)
  tells_then true p row f y c t = (t.0, t.1, comes_then row f y t.0 c t.2)
  tells_then false p row f y c t = avoids_then p row f y c t

  never_after : (q : A → Type 0) (p : B → Type 0) (row : Row S A) (f : A → Row S B) → Never q row →
      ((a : A) → (q a → ⊥) → Never p (f a)) → Never p (bind row f)
  unfolding Never bind
  never_after q p (Ret a) f i n = n a i
  never_after q p (Do c k) f i n = λ r. never_after q p (k r) f (i r) n

  avoids_after : (q : A → Type 0) (p : B → Type 0) (row : Row S A) (f : A → Row S B) → Avoids q h row →
      ((a : A) → (q a → ⊥) → Never p (f a)) → Avoids p h (bind row f)
  unfolding Avoids bind
  avoids_after q p (Ret a) f i n = never_avoids p h (f a) (n a i)
  avoids_after q p (Do (Read a) k) f i n = avoids_after q p (k (at h a)) f i n
  avoids_after q p (Do c k) f i n = λ r. never_after q p (k r) f (i r) n

  -- such an answer is followed by one of the other kind, and no other answer is
  pub tells_after : (b : Bool) (q : A → Type 0) (p : B → Type 0) (row : Row S A) (f : A → Row S B) → Tells b q h row →
      ((a : A) → q a → (z : B) × p z × Comes h (f a) z) → ((a : A) → (q a → ⊥) → Never p (f a)) →
      Tells b p h (bind row f)
  tells_after true q p row f t m n = let z = m t.0 t.1 in (z.0, z.1, comes_then row f t.0 z.0 t.2 z.2)
  tells_after false q p row f t m n = avoids_after q p row f t n

module _ (S : Type 0) (h : Heap) (a : ℕ) (there : Has h a) where
  pub comes_kind : Comes {S = S} h (kind_row a) (at h a).kind
  unfolding Comes kind_row
  comes_kind = (there, refl)

  pub comes_look : (i : ℕ) → Comes {S = S} h (look_row a i) (value_at (at h a).values i)
  unfolding Comes look_row
  comes_look i = (there, refl)

-- ---- how such a row runs

module _ {S A : Type 0} (h : Heap) where
  comes_does : (row : Row S A) (y : A) (s : Sight S) → Comes h row y → s.heap ≡ h → (z : Sight S) × Does row s y z
  unfolding Comes Run
  comes_does (Ret a) y s c e = (s, (sym c, refl))
  comes_does (Do (Read a) k) y s c e =
      let n = comes_does (k (at h a)) y (looked_at a (at h a) s) c.1 e in
      (n.0, (at h a, looked_at a (at h a) s, (ap (λ g. g a) e ∙ there_at h a c.0, refl), n.1))
  comes_does (Do c k) y s i e = absurd i

  never_does : (p : A → Type 0) (row : Row S A) (s t : Sight S) (y : A) → Never p row → Does row s y t → p y → ⊥
  unfolding Run Never
  never_does p (Ret a) s t y n d i = n (subst p d.0 i)
  never_does p (Do c k) s t y n d i = never_does p (k d.0) d.1 t y (n d.0) d.3 i

  avoids_does : (p : A → Type 0) (row : Row S A) (s t : Sight S) (y : A) → Avoids p h row → s.heap ≡ h →
      Does row s y t → p y → ⊥
  unfolding Avoids Run
  avoids_does p (Ret a) s t y n e d i = n (subst p d.0 i)
  avoids_does p (Do (Read a) k) s t y n e d i =
      let q = at_is h a d.0 (ap (λ g. g a) (sym e) ∙ d.2.0) in
      avoids_does p (k d.0) d.1 t y (subst (λ r. Avoids p h (k r)) q n) (ap (λ z. z.heap) d.2.1 ∙ e) d.3 i
  avoids_does p (Do c k) s t y n e d i = never_does p (k d.0) d.1 t y (n d.0) d.3 i

-- ---- a step

module _ (h : Heap) (row : Row State (Outcome × State)) where
  pub step_waits : (b : Bool) → Tells b EndsInWait h row → b ≡ true → Waiting row h
  step_waits true t e = λ w. let d = comes_does h row t.0 (opened State h w) t.2 refl in
      (t.0.1, d.0, subst (λ o. Does row (opened State h w) (o, t.0.1) d.0) t.1 d.1)
  step_waits false t e = absurd (let q : false ≡ true = e in cc)

  pub step_goes : (b : Bool) → Tells b EndsInWait h row → b ≡ false → Going row h
  step_goes false t e = λ w q z d. avoids_does h EndsInWait row (opened State h w) z _ t refl d refl
  step_goes true t e = absurd (let q : true ≡ false = e in cc)
