-- When the call of a value waits: it is a builtin, or a Method of one, whose call waits.
use Rattle.std.proofs.Common.{arith, ◌≡◌, ℕ, Bool, false, List, [], ◌∷◌, length, drop, Option, inr, refl, sym, ap, subst, ◌∙◌}
use Rattle.std.specs.Prelude.{◌==◌, option_map}
use Rattle.std.proofs.lemmas.Bool.Decides.{nat_tests}
use Rattle.py_base.specs.declared.kind.Kind.{Kind}
use Rattle.py_base.specs.declared.kind.Kind.TheVariants.{Function, Class, Method}
use Rattle.py_data.specs.declared.record.Got.{Got}
use Rattle.py_data.specs.declared.record.Got.TheVariants.{Is, Raise}
use Rattle.py_data.specs.declared.value.Addr.{Addr}
use Rattle.py_data.specs.declared.value.Value.{Value}
use Rattle.py_data.specs.declared.value.Value.TheVariants.{Unset, None as NoneValue, Bool as BoolValue, Int, Ref, Builtin}
use Rattle.py_data.specs.Closed.{Refers}
use Rattle.py_data.specs.Heap.{Heap, Has, at, value_at}
use Rattle.py_data.specs.Looking.{kind_row, look_row}
use Rattle.py_data.specs.Row.{Row, Ret, Do, bind}
use Rattle.obj_threads.specs.declared.answer.Answer.{Answer}
use Rattle.obj_threads.specs.declared.answer.Answer.TheVariants.{Value as ValueAnswer, Waits as WaitsAnswer, Start as StartAnswer}
use Rattle.obj_threads.specs.Quiet.{Never}
use Rattle.obj_builtins.specs.Calls.{call_row}
use Rattle.py_frames.specs.declared.next.Next.{Next}
use Rattle.py_frames.specs.declared.next.Next.TheVariants.{Waits}
use Rattle.py_frames.specs.Binding.{Given, with_own}
use Rattle.py_frames.specs.CallRows.{answered, keyed_call, key_pairs, keys_row, builtin_call, owned_call, method_of, method_call, record_call, value_call}
use Rattle.py_frames.specs.ClassCalls.{Site}
use Rattle.py_frames.specs.Raising.{values_row}
use Rattle.py_frames.specs.State.{State}
use Rattle.py_step.specs.inner.Peeked.{Comes, Tells, AnswersWait, LeadsToWait, IsOf}
use Rattle.py_step.proofs.BuiltinWaits.{other_goes}
use Rattle.py_frames.proofs.QuietSteps.{start_works}
use Rattle.py_step.proofs.PeekedRows.{never_avoids, tells_then, tells_after, comes_kind, comes_look}
use Rattle.py_frames.proofs.WorkingRows.{Works, then_works, goes, raises, class_call_works, function_call_works}

-- the Thread record of the thread, as a call gets it
abbrev pub me_of : Option Addr → Option ℕ
me_of o = option_map (λ a. a.0) o

module _ (h : Heap) where
  abbrev Told : Bool → Row State Next → Type 0
  Told b row = Tells b LeadsToWait h row

  -- ---- what a builtin answers
  wait_leads : (s : Site) (g : Got Answer) → AnswersWait g → (z : Next) × LeadsToWait z × Comes h (answered s g) z
  unfolding answered Comes
  wait_leads s g e = subst (λ g. (z : Next) × LeadsToWait z × Comes h (answered s g) z) (sym e) (Waits, refl, refl)

  rest_works : (s : Site) (g : Got Answer) → (AnswersWait g → ⊥) → Works (answered s g)
  unfolding answered
  rest_works s (Is (ValueAnswer x)) n = goes State _
  rest_works s (Is WaitsAnswer) n = absurd (n refl)
  rest_works s (Is (StartAnswer target args thread)) n = start_works s thread target args.0
  rest_works s (Raise e) n = raises State s.roots e

  pub builtin_tells : (b : Bool) (s : Site) (g : Given) (own : Value) (n : ℕ) → g.names ≡ [] →
      Tells {S = State} b AnswersWait h (call_row s.roots (me_of s.thread) n own g.args []) →
      Told b (builtin_call s own g n)
  unfolding builtin_call keyed_call keys_row bind
  builtin_tells b s g own n e t =
      let row : List ℕ → Row State Next = λ ns.
      bind (keys_row s.roots ns g.values) (λ keys. keyed_call s n own g.args keys) in
      let told : Told b (row []) = tells_after h b AnswersWait LeadsToWait
      (call_row s.roots (me_of s.thread) n own g.args []) (λ g. answered s g) t (wait_leads s) (rest_works s) in
      subst (λ ns. Told b (row ns)) (sym e) told

  -- ---- with a keyword
  some_keys : (x : Value) (xs : List Value) → (length (x ∷ xs) == 0) ≡ false
  some_keys x xs = grind (arith, nat_tests)

  never_then : (row : Row State (Got Answer)) (s : Site) → Never AnswersWait row → Works (bind row (λ g. answered s g))
  unfolding Never bind
  never_then (Ret g) s n = rest_works s g n
  never_then (Do c k) s n = λ r. never_then (k r) s (n r)

  keyed_builtin : (s : Site) (g : Given) (own : Value) (b m : ℕ) (ns : List ℕ) → g.names ≡ m ∷ ns →
      Works (builtin_call s own g b)
  unfolding builtin_call keys_row values_row keyed_call bind Never
  keyed_builtin s g own b m ns e =
      let row : List ℕ → Row State Next = λ ns.
      bind (keys_row s.roots ns g.values) (λ keys. keyed_call s b own g.args keys) in
      let works : Works (row (m ∷ ns)) = λ r.
      never_then _ s (other_goes State s.roots (me_of s.thread) b own g.args (key_pairs r.values (m ∷ ns) g.values)
      (inr (some_keys (value_at r.values m) (value_at g.values 0 ∷ key_pairs r.values ns (drop 1 g.values))))) in
      subst (λ ns. Works (row ns)) (sym e) works

  -- ---- a Method
  pub own_names : (own : Value) (g : Given) → (with_own own g).names ≡ g.names
  own_names Unset g = refl
  own_names _ g = refl

  pub own_args : (own : Value) (g k : Given) → g.args ≡ k.args → (with_own own g).args ≡ (with_own own k).args
  own_args Unset g k e = e
  own_args NoneValue g k e = ap (λ xs. NoneValue ∷ xs) e
  own_args (BoolValue b) g k e = ap (λ xs. BoolValue b ∷ xs) e
  own_args (Int n) g k e = ap (λ xs. Int n ∷ xs) e
  own_args (Ref a) g k e = ap (λ xs. Ref a ∷ xs) e
  own_args (Builtin n) g k e = ap (λ xs. Builtin n ∷ xs) e

  owned_works : (s : Site) (f : Value) (g : Given) (own : Value) → ((b : ℕ) → f ≡ Builtin b → ⊥) →
      Works (owned_call s f g own)
  unfolding owned_call
  owned_works s (Builtin b) g own n = absurd (n b refl)
  owned_works s Unset g own n = function_call_works State s _ _
  owned_works s NoneValue g own n = function_call_works State s _ _
  owned_works s (BoolValue b) g own n = function_call_works State s _ _
  owned_works s (Int m) g own n = function_call_works State s _ _
  owned_works s (Ref a) g own n = function_call_works State s _ _

  owned_keyed : (s : Site) (f : Value) (g : Given) (own : Value) (m : ℕ) (ns : List ℕ) → g.names ≡ m ∷ ns →
      Works (owned_call s f g own)
  unfolding owned_call
  owned_keyed s (Builtin b) g own m ns e = keyed_builtin s g own b m ns e
  owned_keyed s Unset g own m ns e = function_call_works State s _ _
  owned_keyed s NoneValue g own m ns e = function_call_works State s _ _
  owned_keyed s (BoolValue b) g own m ns e = function_call_works State s _ _
  owned_keyed s (Int n) g own m ns e = function_call_works State s _ _
  owned_keyed s (Ref a) g own m ns e = function_call_works State s _ _

  module _ (a : ℕ) (there : Has h a) where
    looked : (b : Bool) (s : Site) (g : Given) →
        Told b (owned_call s (value_at (at h a).values 0) g (value_at (at h a).values 1)) → Told b (method_call s g a)
    unfolding method_call method_of
    looked b s g t =
        tells_then h b LeadsToWait (look_row a 0) (λ f. method_of s a g f) (value_at (at h a).values 0)
        (comes_look State h a there 0)
        (tells_then h b LeadsToWait (look_row a 1) (λ own. owned_call s (value_at (at h a).values 0) g own)
        (value_at (at h a).values 1) (comes_look State h a there 1) t)

    -- of a builtin, and of all else
    pub method_tells : (b : Bool) (n : ℕ) (s : Site) (g : Given) → value_at (at h a).values 0 ≡ Builtin n →
        g.names ≡ [] → Tells {S = State} b AnswersWait h
        (call_row s.roots (me_of s.thread) n (value_at (at h a).values 1) g.args []) → Told b (method_call s g a)
    unfolding owned_call
    method_tells b n s g e names t = looked b s g
        (subst (λ f. Told b (owned_call s f g (value_at (at h a).values 1))) (sym e) (builtin_tells b s g _ n names t))

    pub method_goes : (s : Site) (g : Given) → ((b : ℕ) → value_at (at h a).values 0 ≡ Builtin b → ⊥) →
        Told false (method_call s g a)
    method_goes s g n = looked false s g (never_avoids LeadsToWait h _ (owned_works s _ g _ n))

  -- ---- the call of a builtin by a site, for the thread and the arguments that are known to be its own
  pub known_tells : (b : Bool) (s : Site) (g : Given) (me : Option Addr) (args : List Value) (own x : Value) (n : ℕ) →
      s.thread ≡ me → g.args ≡ args → own ≡ x
      → Tells {S = State} b AnswersWait h (call_row s.roots (me_of me) n x args []) →
      Tells {S = State} b AnswersWait h (call_row s.roots (me_of s.thread) n own g.args [])
  known_tells b s g me args own x n e f i t =
      subst (λ x. Tells {S = State} b AnswersWait h (call_row s.roots (me_of s.thread) n x g.args [])) (sym i)
      (subst (λ me. Tells {S = State} b AnswersWait h (call_row s.roots (me_of me) n x g.args [])) (sym e)
      (subst (λ args. Tells {S = State} b AnswersWait h (call_row s.roots (me_of me) n x args [])) (sym f) t))

  -- ---- the call of a value
  pub plain_call : (b : Bool) (s : Site) (own f : Value) (g : Given) (n : ℕ) → f ≡ Builtin n → g.names ≡ [] →
      Tells {S = State} b AnswersWait h (call_row s.roots (me_of s.thread) n own g.args []) →
      Told b (value_call s own g f)
  unfolding value_call
  plain_call b s own f g n e names t = subst (λ f. Told b (value_call s own g f)) (sym e)
      (builtin_tells b s g own n names t)

  pub bound_call : (b : Bool) (s : Site) (own f : Value) (g : Given) (a : Addr) → f ≡ Ref a → Has h a.0 →
      (at h a.0).kind ≡ Method → Told b (method_call s (with_own own g) a.0) → Told b (value_call s own g f)
  unfolding value_call record_call
  bound_call b s own f g a e there k t =
      subst (λ f. Told b (value_call s own g f)) (sym e)
      (tells_then h b LeadsToWait (kind_row a.0) (λ k. record_call s (with_own own g) a.0 k) (at h a.0).kind
      (comes_kind State h a.0 there) (subst (λ k. Told b (record_call s (with_own own g) a.0 k)) (sym k) t))

  record_works : (s : Site) (g : Given) (a : ℕ) (k : Kind) → (k ≡ Method → ⊥) → Works (record_call s g a k)
  unfolding record_call
  record_works s g a Function n = function_call_works State s g a
  record_works s g a Method n = absurd (n refl)
  record_works s g a Class n = class_call_works State s g a
  record_works s g a _ n = raises State s.roots _

  -- another record
  pub record_goes : (s : Site) (own f : Value) (g : Given) (a : Addr) → f ≡ Ref a → Refers h f → (IsOf h Method f → ⊥)
      → Told false (value_call s own g f)
  unfolding value_call
  record_goes s own f g a e i n =
      let there : Has h a.0 = subst (Refers h) e i in
      let other : (at h a.0).kind ≡ Method → ⊥ = subst (λ f. IsOf h Method f → ⊥) e n in
      subst (λ f. Told false (value_call s own g f)) (sym e)
      (tells_then h false LeadsToWait (kind_row a.0) (λ k. record_call s (with_own own g) a.0 k) (at h a.0).kind
      (comes_kind State h a.0 there) (never_avoids LeadsToWait h _ (record_works s _ a.0 _ other)))

  -- a value that is neither a builtin nor a record
  pub value_goes : (s : Site) (own f : Value) (g : Given) → ((b : ℕ) → f ≡ Builtin b → ⊥) →
      ((a : Addr) → f ≡ Ref a → ⊥) → Told false (value_call s own g f)
  unfolding value_call
  value_goes s own (Builtin b) g n m = absurd (n b refl)
  value_goes s own (Ref a) g n m = absurd (m a refl)
  value_goes s own Unset g n m = never_avoids LeadsToWait h _ (raises State s.roots _)
  value_goes s own NoneValue g n m = never_avoids LeadsToWait h _ (raises State s.roots _)
  value_goes s own (BoolValue b) g n m = never_avoids LeadsToWait h _ (raises State s.roots _)
  value_goes s own (Int i) g n m = never_avoids LeadsToWait h _ (raises State s.roots _)

  -- with a keyword
  record_keyed : (s : Site) (g : Given) (a : ℕ) (k : Kind) (m : ℕ) (ns : List ℕ) → g.names ≡ m ∷ ns →
      Works (record_call s g a k)
  unfolding record_call method_call method_of
  record_keyed s g a Method m ns e = then_works State (look_row a 0) _
      (λ f. then_works State (look_row a 1) _ (λ own. owned_keyed s f g own m ns e))
  record_keyed s g a Function m ns e = function_call_works State s g a
  record_keyed s g a Class m ns e = class_call_works State s g a
  record_keyed s g a _ m ns e = raises State s.roots _

  pub keyed_works : (s : Site) (own f : Value) (g : Given) (m : ℕ) (ns : List ℕ) → g.names ≡ m ∷ ns →
      Works (value_call s own g f)
  unfolding value_call
  keyed_works s own (Builtin b) g m ns e = keyed_builtin s g own b m ns e
  keyed_works s own (Ref a) g m ns e = then_works State (kind_row a.0) _
      (λ k. record_keyed s (with_own own g) a.0 k m ns (own_names own g ∙ e))
  keyed_works s own _ g m ns e = raises State s.roots _
