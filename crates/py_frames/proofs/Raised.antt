-- What holds of rows that raise, and of rows that end in the answer of an operation.
use Rattle.std.proofs.Common.{◌≡◌, ℕ, List, [], ◌∷◌, Some, refl, sym, subst}
use Rattle.py_base.specs.declared.kind.Kind.TheVariants.{Instance}
use Rattle.py_data.specs.declared.value.Value.{Value}
use Rattle.py_data.specs.declared.record.Fault.{Fault}
use Rattle.py_data.specs.declared.record.Got.{Got}
use Rattle.py_data.specs.declared.record.Got.TheVariants.{Is, Raise}
use Rattle.py_data.specs.Answers.{IsFault, IsGot, IsAnswer}
use Rattle.py_data.specs.Closed.{Refers}
use Rattle.py_data.specs.Heap.{Heap, Rec, value_at}
use Rattle.py_data.specs.Holds.{Holds}
use Rattle.py_data.specs.Looking.{Looks, look_row}
use Rattle.py_data.specs.Order.{Extends}
use Rattle.py_data.specs.Row.{Row, Ret, bind}
use Rattle.py_data.specs.Shape.{RefTo}
use Rattle.py_data.proofs.Holding.{holds_ret, holds_bind}
use Rattle.py_data.proofs.HoldingCalls.{holds_looks}
use Rattle.py_data.proofs.Looking.{look_looks}
use Rattle.py_code.specs.declared.program.Program.{Program}
use Rattle.py_code.specs.Effects.{Effect as InstrEffect}
use Rattle.obj_class.specs.Exceptions.{IsRaised, fault_row}
use Rattle.obj_class.proofs.FaultHolds.{fault_holds}
use Rattle.py_frames.specs.declared.state.Frame.{Frame}
use Rattle.py_frames.specs.declared.next.Next.{Next}
use Rattle.py_frames.specs.declared.next.Next.TheVariants.{Goes, Throws, Fails}
use Rattle.py_frames.specs.Fits.{IsThrough, Fits}
use Rattle.py_frames.specs.Raising.{raise_row, fail_row, give, done}
use Rattle.py_frames.specs.Sound.{rules_of}
use Rattle.py_frames.proofs.Given.{Context, context_stays, at_ref}

-- what an exception makes is an instance
raised_ref : (vs : List Value) (e : Fault) (x : Value) (h : Heap) → IsRaised vs e x h → RefTo h Instance x
raised_ref vs e x h r = subst (RefTo h Instance) (sym r.is) (at_ref h Instance r.instance _ r.of refl)

-- one value is pushed, or none, and the next place follows
abbrev pub Pushes : InstrEffect → Type 0
Pushes e = IsThrough e.flow × (e.pushes ≡ 1)

abbrev pub Passes : InstrEffect → Type 0
Passes e = IsThrough e.flow × (e.pushes ≡ 0)

module _ {S : Type 0} (p : Program) (count roots : ℕ) (stands : Heap → S → Type 0) where
  abbrev pub Keeps : {A : Type 0} → (A → Heap → Type 0) → Row S A → Heap → Type 0
  Keeps q row h = Holds (rules_of p count) stands q row h

  -- a row, and what follows over each heap in order that extends the first
  pub then_holds : {A B : Type 0} (q : A → Heap → Type 0) (z : B → Heap → Type 0) (row : Row S A) (f : A → Row S B)
      (h : Heap) → Context p count roots h → Keeps q row h
      → ((a : A) (h1 : Heap) → Context p count roots h1 → Extends h h1 → q a h1 → Keeps z (f a) h1) →
      Keeps z (bind row f) h
  then_holds q z row f h c i n = holds_bind (rules_of p count) stands q z row f h c.order i
      (λ a h1 order x j. n a h1 (context_stays p count roots h h1 x order c) x j)

  -- looks, and what follows over the same heap
  pub after_looks : {A B : Type 0} (q : A → Type 0) (z : B → Heap → Type 0) (row : Row S A) (f : A → Row S B)
      (h : Heap) → Context p count roots h → Looks q row h → ((a : A) → q a → Keeps z (f a) h) → Keeps z (bind row f) h
  after_looks q z row f h c i n = holds_looks (rules_of p count) stands z q row f h c.order i n

  -- a value of a record that is there
  pub after_look : {B : Type 0} (z : B → Heap → Type 0) (a i : ℕ) (r : Rec) (f : Value → Row S B) (h : Heap) →
      Context p count roots h → h a ≡ Some r → Keeps z (f (value_at r.values i)) h → Keeps z (bind (look_row a i) f) h
  after_look z a i r f h c e n = after_looks (λ x. x ≡ value_at r.values i) z (look_row a i) f h c
      (look_looks S h a r e i) (λ x q. subst (λ y. Keeps z (f y) h) (sym q) n)

  -- a root
  pub after_root : {B : Type 0} (z : B → Heap → Type 0) (i : ℕ) (f : Value → Row S B) (h : Heap) →
      (c : Context p count roots h) → Keeps z (f (value_at c.rooted.known.list.values i)) h →
      Keeps z (bind (look_row roots i) f) h
  after_root z i f h c n = after_look z roots i c.rooted.known.list f h c c.rooted.known.here n

  module _ (e : InstrEffect) (f : Frame) where
    -- the row leads to what the instruction may lead to
    abbrev pub Leads : Row S Next → Heap → Type 0
    Leads row h = Keeps (Fits p e f) row h

    pub raises : (fault : Fault) (h : Heap) → Context p count roots h → IsFault h fault →
        Leads (raise_row roots fault) h
    unfolding raise_row
    raises fault h c i =
        let r = c.rooted.known in
        then_holds (IsRaised r.list.values fault) (Fits p e f) (fault_row roots fault) (λ x. Ret (Throws x)) h c
        (fault_holds (rules_of p count) stands h roots fault c.order r i)
        (λ x h1 c1 y g. holds_ret (rules_of p count) stands (Fits p e f) (Throws x) h1
        (raised_ref r.list.values fault x h1 g))

    pub fails : (fault : Fault) (h : Heap) → Context p count roots h → IsFault h fault → Leads (fail_row roots fault) h
    unfolding fail_row
    fails fault h c i =
        let r = c.rooted.known in
        then_holds (IsRaised r.list.values fault) (Fits p e f) (fault_row roots fault) (λ x. Ret (Fails x)) h c
        (fault_holds (rules_of p count) stands h roots fault c.order r i)
        (λ x h1 c1 y g. holds_ret (rules_of p count) stands (Fits p e f) (Fails x) h1
        (raised_ref r.list.values fault x h1 g))

    pub leads_to : (next : Next) (h : Heap) → Fits p e f next h → Leads (Ret next) h
    leads_to next h i = holds_ret (rules_of p count) stands (Fits p e f) next h i

    pub goes_one : (x : Value) (h : Heap) → Pushes e → Refers h x → Leads (Ret (Goes (x ∷ []))) h
    goes_one x h t i = leads_to (Goes (x ∷ [])) h (t.0, sym t.1, (i, tt))

    pub goes_on : (h : Heap) → Passes e → Leads (Ret (Goes [])) h
    goes_on h t = leads_to (Goes []) h (t.0, sym t.1, tt)

    -- the answer of an operation is pushed, or its exception raised
    pub given : (g : Got Value) (h : Heap) → Context p count roots h → Pushes e → IsGot (λ v h. Refers h v) g h →
        Leads (give roots g) h
    unfolding give
    given (Is x) h c t i = goes_one x h t i
    given (Raise fault) h c t i = raises fault h c i

    item_got : (g : Got Value) (h : Heap) → IsAnswer g h → IsGot (λ v h. Refers h v) g h
    item_got (Is x) h i = i.0
    item_got (Raise fault) h i = i

    pub gives : (row : Row S (Got Value)) (h : Heap) → Context p count roots h → Pushes e → Keeps IsAnswer row h →
        Leads (bind row (λ g. give roots g)) h
    gives row h c t i = then_holds IsAnswer (Fits p e f) row (λ g. give roots g) h c i
        (λ g h1 c1 x j. given g h1 c1 t (item_got g h1 j))

    -- the operation is done, or raises
    pub finished : {A : Type 0} (q : A → Heap → Type 0) (g : Got A) (h : Heap) → Context p count roots h → Passes e →
        IsGot q g h → Leads (done roots g) h
    unfolding done
    finished q (Is a) h c t i = goes_on h t
    finished q (Raise fault) h c t i = raises fault h c i

    pub finishes : {A : Type 0} (q : A → Heap → Type 0) (row : Row S (Got A)) (h : Heap) → Context p count roots h →
        Passes e → Keeps (IsGot q) row h → Leads (bind row (λ g. done roots g)) h
    finishes q row h c t i = then_holds (IsGot q) (Fits p e f) row (λ g. done roots g) h c i
        (λ g h1 c1 x j. finished q g h1 c1 t j)
