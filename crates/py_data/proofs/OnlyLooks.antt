-- Rows that do nothing but look, whatever the looks answer: how they are put together, and that they are steady.
use Rattle.std.proofs.Common.{◌≡◌, ℕ, zero, suc, false, Result, Ok, Err, refl, sym, subst}
use Rattle.py_data.specs.Looking.{IsLook, kind_row, look_row, bytes_row, walk_row, walk_on}
use Rattle.py_data.specs.Row.{Call, Reply, Row, Ret, Do, Read, Find, Edit, Make, Start, Put, Take, MidLine, SetMidLine, bind}
use Rattle.py_data.specs.Steady.{grows, shrinks, WritesThen, Steady, Calm}
use Rattle.py_data.proofs.CalmRows.{ret_calm, do_calm}

-- each call of a row is a look
unfoldable pub OnlyLooks : {S A : Type 0} → Row S A → Type 0
OnlyLooks (Ret a) = Unit {0}
OnlyLooks (Do c k) = IsLook c × ((r : Reply c) → OnlyLooks (k r))

-- a look lets nothing grow or shrink
still : {S : Type 0} (c : Call S) → IsLook c → (grows c ≡ false) × (shrinks c ≡ false)
still (Read a) i = (refl, refl)
still (Find d key) i = (refl, refl)
still (Edit a c) i = absurd i
still (Make r) i = absurd i
still (Start s) i = absurd i
still (Put on bytes) i = absurd i
still (Take most) i = absurd i
still MidLine i = absurd i
still (SetMidLine mid) i = absurd i

-- and asks for nothing but a record
look_asks : {S A : Type 0} (c : Call S) (k : Reply c → Row S A) → IsLook c → WritesThen c k
look_asks MidLine k i = absurd i
look_asks _ k i = tt

module _ {S A B : Type 0} where
  pub only_bind : (row : Row S A) (f : A → Row S B) → OnlyLooks row → ((a : A) → OnlyLooks (f a)) →
      OnlyLooks (bind row f)
  unfolding OnlyLooks bind
  only_bind (Ret a) f i n = n a
  only_bind (Do c k) f i n = (i.0, λ r. only_bind (k r) f (i.1 r) n)

  -- looks, and then a steady row
  pub looks_steady : (row : Row S A) (f : A → Row S B) → OnlyLooks row → ((a : A) → Steady false (f a)) →
      Steady false (bind row f)
  unfolding OnlyLooks Steady bind
  looks_steady (Ret a) f i n = n a
  looks_steady (Do c k) f i n =
      let s = still c i.0 in (
        (refl, look_asks c (λ r. bind (k r) f) i.0),
        λ r.
            subst (λ b. Steady b (bind (k r) f)) (sym s.0) (looks_steady (k r) f (i.1 r) n),
      )

pub only_walk : {S A B : Type 0} (f : A → Row S (Result A B)) (end : B) → ((a : A) → OnlyLooks (f a)) →
    (m : ℕ) (a : A) → OnlyLooks (walk_row f end m a)
unfolding walk_row OnlyLooks
only_walk f end i zero a = tt
only_walk {S} {A} {B} f end i (suc m) a =
    only_bind (f a) (walk_on (walk_row f end m)) (i a) (walked (only_walk f end i m))
  where
    walked : ((a : A) → OnlyLooks (walk_row f end m a)) → (r : Result A B) → OnlyLooks (walk_on (walk_row f end m) r)
    walked more (Ok a) = more a
    walked more (Err b) = tt

-- alone
pub only_steady : {S A : Type 0} (row : Row S A) → OnlyLooks row → Steady false row
unfolding OnlyLooks Steady
only_steady (Ret a) i = tt
only_steady (Do c k) i =
    let s = still c i.0 in
    ((refl, look_asks c k i.0), λ r. subst (λ b. Steady b (k r)) (sym s.0) (only_steady (k r) (i.1 r)))

pub only_calm : {S A : Type 0} (row : Row S A) → OnlyLooks row → Calm row
unfolding OnlyLooks
only_calm {S} (Ret a) i = ret_calm S a
only_calm (Do c k) i = do_calm c k (still c i.0).1 (look_asks c k i.0) (λ r. only_calm (k r) (i.1 r))

module _ (S : Type 0) where
  -- ---- looks at one record
  pub only_look : (a i : ℕ) → OnlyLooks {S = S} (look_row a i)
  unfolding look_row OnlyLooks
  only_look a i = (tt, λ r. tt)

  pub only_kind : (a : ℕ) → OnlyLooks {S = S} (kind_row a)
  unfolding kind_row OnlyLooks
  only_kind a = (tt, λ r. tt)

  pub only_bytes : (a : ℕ) → OnlyLooks {S = S} (bytes_row a)
  unfolding bytes_row OnlyLooks
  only_bytes a = (tt, λ r. tt)

  pub only_ret : {A : Type 0} (a : A) → OnlyLooks {S = S} (Ret a)
  unfolding OnlyLooks
  only_ret a = tt
