-- Rows that make nothing shorter: how they are put together. Such a row is steady behind whatever grew before it.
use Rattle.std.proofs.Common.{◌≡◌, ℕ, zero, suc, ◌+◌, Bool, true, false, cond, ◌||◌, ◌&&◌, length, Option, refl, ap, ◌∙◌}
use Rattle.py_data.specs.declared.value.Value.{Value}
use Rattle.py_data.specs.declared.change.Change.TheVariants as change
use Rattle.py_data.specs.declared.record.Got.{Got}
use Rattle.py_data.specs.declared.record.Got.TheVariants.{Is, Raise}
use Rattle.py_data.specs.Heap.{Rec, value_at}
use Rattle.py_data.specs.Row.{Call, Reply, Row, Ret, Do, Read, Find, Edit, Make, Put, MidLine, bind}
use Rattle.py_data.specs.Looking.{until_row, each_row, got_row, kind_row, size_row, look_row, bytes_row}
use Rattle.py_data.specs.Steady.{grows, shrinks, Writes, WritesThen, Steady, Calm}

pub never : (g : Bool) → (g && false) ≡ false
never true = refl
never false = refl

-- a call that makes nothing shorter, and what follows
pub do_calm : {S A : Type 0} (c : Call S) (k : Reply c → Row S A) → shrinks c ≡ false → WritesThen c k →
    ((r : Reply c) → Calm (k r)) → Calm (Do c k)
unfolding Steady
do_calm c k e w n g = ((ap (λ b. g && b) e ∙ never g, w), λ r. n r (g || grows c))

-- with more behind it a row writes still
writes_bind : {S A B : Type 0} (row : Row S A) (f : A → Row S B) → Writes row → Writes (bind row f)
unfolding bind
writes_bind (Do (Put on bytes) k) f w = tt
writes_bind _ f w = absurd w

pub asks_bind : {S A B : Type 0} (c : Call S) (k : Reply c → Row S A) (f : A → Row S B) → WritesThen c k →
    WritesThen c (λ r. bind (k r) f)
asks_bind MidLine k f w = λ mid. writes_bind (k mid) f (w mid)
asks_bind _ k f w = tt

module _ (S : Type 0) where
  pub ret_calm : {A : Type 0} (x : A) → Calm {S = S} (Ret x)
  unfolding Steady
  ret_calm x g = tt

  -- ---- one call, and what follows
  pub read_calm : {A : Type 0} (a : ℕ) (k : Rec → Row S A) → ((r : Rec) → Calm (k r)) → Calm (Do (Read a) k)
  unfolding Steady
  read_calm a k n g = ((never g, tt), λ r. n r (g || false))

  pub find_calm : {A : Type 0} (a : ℕ) (x : Value) (k : Option ℕ → Row S A) → ((o : Option ℕ) → Calm (k o)) →
      Calm (Do (Find a x) k)
  unfolding Steady
  find_calm a x k n g = ((never g, tt), λ o. n o (g || false))

  pub push_calm : {A : Type 0} (a : ℕ) (x : Value) (k : Unit {0} → Row S A) → Calm (k tt) →
      Calm (Do (Edit a (change.Push x)) k)
  unfolding Steady
  push_calm a x k n g = ((never g, tt), λ u. n (g || true))

  pub make_calm : {A : Type 0} (r : Rec) (k : ℕ → Row S A) → ((a : ℕ) → Calm (k a)) → Calm (Do (Make r) k)
  unfolding Steady
  make_calm r k n g = ((never g, tt), λ a. n a (g || true))

  -- ---- two rows
  pub cond_calm : {A : Type 0} (b : Bool) (p q : Row S A) → Calm p → Calm q → Calm (cond b p q)
  cond_calm true p q s t = s
  cond_calm false p q s t = t

  -- the first row need only be steady where it stands
  pub bind_steady : {A B : Type 0} (g : Bool) (row : Row S A) (f : A → Row S B) → Steady g row → ((a : A) → Calm (f a))
      → Steady g (bind row f)
  unfolding Steady bind
  bind_steady g (Ret a) f s n = n a g
  bind_steady g (Do c k) f s n = ((s.0.0, asks_bind c k f s.0.1), λ r. bind_steady (g || grows c) (k r) f (s.1 r) n)

  pub bind_calm : {A B : Type 0} (row : Row S A) (f : A → Row S B) → Calm row → ((a : A) → Calm (f a)) →
      Calm (bind row f)
  bind_calm row f s n g = bind_steady g row f (s g) n

  pub got_calm : {A B : Type 0} (f : A → Row S (Got B)) → ((a : A) → Calm (f a)) → (x : Got A) → Calm (got_row f x)
  got_calm f n (Is a) = n a
  got_calm f n (Raise e) = ret_calm (Raise e)

  -- ---- loops
  pub until_calm : {A : Type 0} (f : ℕ → Row S A) (goes : A → Bool) (end : A) → ((i : ℕ) → Calm (f i)) → (i m : ℕ) →
      Calm (until_row f goes end i m)
  unfolding until_row
  until_calm f goes end n i zero = ret_calm end
  until_calm f goes end n i (suc m) =
      bind_calm (f i) (λ a. cond (goes a) (until_row f goes end (i + 1) m) (Ret a)) (n i)
      (λ a. cond_calm (goes a) (until_row f goes end (i + 1) m) (Ret a) (until_calm f goes end n (i + 1) m)
      (ret_calm a))

  pub each_calm : {A : Type 0} (f : ℕ → A → Row S (Got A)) → ((i : ℕ) (a : A) → Calm (f i a)) → (i m : ℕ) (a : A) →
      Calm (each_row f i m a)
  unfolding each_row
  each_calm f n i zero a = ret_calm (Is a)
  each_calm f n i (suc m) a = bind_calm (f i a) (got_row (each_row f (i + 1) m)) (n i a)
      (got_calm (each_row f (i + 1) m) (each_calm f n (i + 1) m))

  -- ---- looks at one record
  pub kind_calm : (a : ℕ) → Calm {S = S} (kind_row a)
  unfolding kind_row
  kind_calm a = read_calm a (λ r. Ret r.kind) (λ r. ret_calm _)

  pub size_calm : (a : ℕ) → Calm {S = S} (size_row a)
  unfolding size_row
  size_calm a = read_calm a (λ r. Ret (length r.values)) (λ r. ret_calm _)

  pub look_calm : (a i : ℕ) → Calm {S = S} (look_row a i)
  unfolding look_row
  look_calm a i = read_calm a (λ r. Ret (value_at r.values i)) (λ r. ret_calm _)

  pub bytes_calm : (a : ℕ) → Calm {S = S} (bytes_row a)
  unfolding bytes_row
  bytes_calm a = read_calm a (λ r. Ret r.bytes) (λ r. ret_calm _)
