-- The turns of code that does the rows of loops.
use Rattle.std.proofs.Common.{◌≡◌, ℕ, zero, suc, ◌+◌, ◌-◌, ◌<◌, ◌≤◌, Bool, true, false, cond, Result, Ok, Err, subst, arith}
use Rattle.py_data.specs.declared.stop.Stop.{Stop}
use Rattle.py_data.specs.declared.record.Got.{Got}
use Rattle.py_data.specs.declared.record.Got.TheVariants.{Is, Raise}
use Rattle.py_data.specs.Row.{Row, Ret, bind}
use Rattle.py_data.specs.Sense.{Sense, Lawful, Safe, Meets}
use Rattle.py_data.specs.inner.Rest.{Leads}
use Rattle.py_data.proofs.Steps.{leads_call, leads_call_stop, leads_ret, safe_first}
use Rattle.py_data.specs.Looking.{until_row, each_row, got_row, walk_row, walk_on}

-- what follows a turn
abbrev pub behind : {S A : Type 0} → (ℕ → Row S A) → (A → Bool) → A → ℕ → ℕ → A → Row S A
behind f goes end i m a = cond (goes a) (until_row f goes end (i + 1) m) (Ret a)

module _ {S X A : Type 0} {u : Sense S X} {row : Row S A} {v w : X} (f : ℕ → Row S A) (goes : A → Bool) (end : A) where
  pub until_turn : (i n : ℕ) → i < n → Leads u row v (until_row f goes end i (n - i)) w →
      Leads u row v (bind (f i) (behind f goes end i (n - (i + 1)))) w
  unfolding until_row
  until_turn i n l h =
      let e : n - i ≡ suc (n - (i + 1)) = omega arith in
      subst (λ m. Leads u row v (until_row f goes end i m) w) e h

  -- what a turn asks
  pub until_safe : (i n : ℕ) → i < n → Leads u row v (until_row f goes end i (n - i)) w →
      Safe u.partial (f i) (u.heap w)
  until_safe i n l h = let t = until_turn i n l h in safe_first u.partial (f i) (behind f goes end i (n - (i + 1)))
      (u.heap w) t.safe

  pub until_stop : (x : X) (e : Stop) (i n : ℕ) → i < n → Leads u row v (until_row f goes end i (n - i)) w →
      Meets u (f i) w x (Err e) → Meets u row v x (Err e)
  until_stop x e i n l h m = leads_call_stop (f i) (behind f goes end i (n - (i + 1))) x e (until_turn i n l h) m

  pub until_more : (L : Lawful u) (x : X) (a : A) (i n : ℕ) → i < n → Leads u row v (until_row f goes end i (n - i)) w
      → Meets u (f i) w x (Ok a) → goes a ≡ true → Leads u row v (until_row f goes end (i + 1) (n - (i + 1))) x
  until_more L x a i n l h m g =
      let t = leads_call L (f i) (behind f goes end i (n - (i + 1))) x a (until_turn i n l h) m in
      subst (λ b. Leads u row v (cond b (until_row f goes end (i + 1) (n - (i + 1))) (Ret a)) x) g t

  pub until_found : (L : Lawful u) (x : X) (a : A) (i n : ℕ) → i < n → Leads u row v (until_row f goes end i (n - i)) w
      → Meets u (f i) w x (Ok a) → goes a ≡ false → Meets u row v x (Ok a)
  until_found L x a i n l h m g =
      let t = leads_call L (f i) (behind f goes end i (n - (i + 1))) x a (until_turn i n l h) m in
      leads_ret (subst (λ b. Leads u row v (cond b (until_row f goes end (i + 1) (n - (i + 1))) (Ret a)) x) g t)

  pub until_end : (i n : ℕ) → n ≤ i → Leads u row v (until_row f goes end i (n - i)) w → Meets u row v w (Ok end)
  unfolding until_row
  until_end i n l h =
      let e : n - i ≡ zero = omega arith in
      leads_ret (subst (λ m. Leads u row v (until_row f goes end i m) w) e h)

module _ {S X A : Type 0} {u : Sense S X} {row : Row S (Got A)} {v w : X} (f : ℕ → A → Row S (Got A)) where
  pub each_turn : (i n : ℕ) (a : A) → i < n → Leads u row v (each_row f i (n - i) a) w →
      Leads u row v (bind (f i a) (got_row (each_row f (i + 1) (n - (i + 1))))) w
  unfolding each_row
  each_turn i n a l h =
      let e : n - i ≡ suc (n - (i + 1)) = omega arith in
      subst (λ m. Leads u row v (each_row f i m a) w) e h

  pub each_safe : (i n : ℕ) (a : A) → i < n → Leads u row v (each_row f i (n - i) a) w →
      Safe u.partial (f i a) (u.heap w)
  each_safe i n a l h = let t = each_turn i n a l h in
      safe_first u.partial (f i a) (got_row (each_row f (i + 1) (n - (i + 1)))) (u.heap w) t.safe

  pub each_stop : (x : X) (e : Stop) (i n : ℕ) (a : A) → i < n → Leads u row v (each_row f i (n - i) a) w →
      Meets u (f i a) w x (Err e) → Meets u row v x (Err e)
  each_stop x e i n a l h m = leads_call_stop (f i a) (got_row (each_row f (i + 1) (n - (i + 1)))) x e
      (each_turn i n a l h) m

  pub each_more : (L : Lawful u) (x : X) (i n : ℕ) (a b : A) → i < n → Leads u row v (each_row f i (n - i) a) w →
      Meets u (f i a) w x (Ok (Is b)) → Leads u row v (each_row f (i + 1) (n - (i + 1)) b) x
  each_more L x i n a b l h m = leads_call L (f i a) (got_row (each_row f (i + 1) (n - (i + 1)))) x (Is b)
      (each_turn i n a l h) m

  pub each_raised : (L : Lawful u) (x : X) (i n : ℕ) (a : A) (e : _) → i < n → Leads u row v (each_row f i (n - i) a) w
      → Meets u (f i a) w x (Ok (Raise e)) → Meets u row v x (Ok (Raise e))
  each_raised L x i n a e l h m = leads_ret
      (leads_call L (f i a) (got_row (each_row f (i + 1) (n - (i + 1)))) x (Raise e) (each_turn i n a l h) m)

  pub each_end : (i n : ℕ) (a : A) → n ≤ i → Leads u row v (each_row f i (n - i) a) w → Meets u row v w (Ok (Is a))
  unfolding each_row
  each_end i n a l h =
      let e : n - i ≡ zero = omega arith in
      leads_ret (subst (λ m. Leads u row v (each_row f i m a) w) e h)

module _ {S X A B : Type 0} {u : Sense S X} {row : Row S B} {v w : X} (f : A → Row S (Result A B)) (end : B) where
  pub walk_turn : (i n : ℕ) (a : A) → i < n → Leads u row v (walk_row f end (n - i) a) w →
      Leads u row v (bind (f a) (walk_on (walk_row f end (n - (i + 1))))) w
  unfolding walk_row
  walk_turn i n a l h =
      let e : n - i ≡ suc (n - (i + 1)) = omega arith in
      subst (λ m. Leads u row v (walk_row f end m a) w) e h

  pub walk_safe : (i n : ℕ) (a : A) → i < n → Leads u row v (walk_row f end (n - i) a) w →
      Safe u.partial (f a) (u.heap w)
  walk_safe i n a l h = let t = walk_turn i n a l h in
      safe_first u.partial (f a) (walk_on (walk_row f end (n - (i + 1)))) (u.heap w) t.safe

  pub walk_stop : (x : X) (e : Stop) (i n : ℕ) (a : A) → i < n → Leads u row v (walk_row f end (n - i) a) w →
      Meets u (f a) w x (Err e) → Meets u row v x (Err e)
  walk_stop x e i n a l h m = leads_call_stop (f a) (walk_on (walk_row f end (n - (i + 1)))) x e (walk_turn i n a l h) m

  pub walk_more : (L : Lawful u) (x : X) (i n : ℕ) (a b : A) → i < n → Leads u row v (walk_row f end (n - i) a) w →
      Meets u (f a) w x (Ok (Ok b)) → Leads u row v (walk_row f end (n - (i + 1)) b) x
  walk_more L x i n a b l h m = leads_call L (f a) (walk_on (walk_row f end (n - (i + 1)))) x (Ok b)
      (walk_turn i n a l h) m

  pub walk_done : (L : Lawful u) (x : X) (i n : ℕ) (a : A) (b : B) → i < n → Leads u row v (walk_row f end (n - i) a) w
      → Meets u (f a) w x (Ok (Err b)) → Meets u row v x (Ok b)
  walk_done L x i n a b l h m = leads_ret
      (leads_call L (f a) (walk_on (walk_row f end (n - (i + 1)))) x (Err b) (walk_turn i n a l h) m)

  pub walk_end : (i n : ℕ) (a : A) → n ≤ i → Leads u row v (walk_row f end (n - i) a) w → Meets u row v w (Ok end)
  unfolding walk_row
  walk_end i n a l h =
      let e : n - i ≡ zero = omega arith in
      leads_ret (subst (λ m. Leads u row v (walk_row f end m a) w) e h)
