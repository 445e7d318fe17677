-- What a row comes to over one heap by looks alone: what the code that tells whether a step would wait, and its proofs,
-- say to each other: nothing public rests on it.
use Rattle.std.specs.Prelude.{◌≡◌, Bool, true, false}
use Rattle.py_base.specs.declared.kind.Kind.{Kind}
use Rattle.py_data.specs.declared.value.Value.{Value}
use Rattle.py_data.specs.declared.value.Value.TheVariants.{Ref}
use Rattle.py_data.specs.declared.record.Got.{Got}
use Rattle.py_data.specs.declared.record.Got.TheVariants.{Is}
use Rattle.py_data.specs.Closed.{IsClosed}
use Rattle.py_data.specs.Heap.{Heap, Has, at}
use Rattle.py_data.specs.Row.{Reply, Row, Ret, Do, Read}
use Rattle.lock_run.specs.declared.client.Outcome.{Outcome}
use Rattle.lock_run.specs.declared.client.Outcome.TheVariants.{Waits as WaitsNow}
use Rattle.obj_threads.specs.declared.answer.Answer.{Answer}
use Rattle.obj_threads.specs.declared.answer.Answer.TheVariants.{Waits as WaitsAnswer}
use Rattle.obj_threads.specs.Quiet.{Never}
use Rattle.py_frames.specs.declared.next.Next.{Next}
use Rattle.py_frames.specs.declared.next.Next.TheVariants.{Waits}
use Rattle.py_frames.specs.State.{State}

-- ---- rows over one heap

-- the row looks at records that are there, does nothing else, and answers this
unfoldable pub Comes : {S A : Type 0} → Heap → Row S A → A → Type 0
Comes h (Ret a) y = a ≡ y
Comes h (Do (Read a) k) y = Has h a × Comes h (k (at h a)) y
Comes h (Do c k) y = ⊥

-- behind the records that it looks at first, no answer of the row is such a one
unfoldable pub Avoids : {S A : Type 0} → (A → Type 0) → Heap → Row S A → Type 0
Avoids p h (Ret a) = p a → ⊥
Avoids p h (Do (Read a) k) = Avoids p h (k (at h a))
Avoids p h (Do c k) = (r : Reply c) → Never p (k r)

-- whether the row comes to such an answer
abbrev pub Tells : {S A : Type 0} → Bool → (A → Type 0) → Heap → Row S A → Type 0
Tells {S} {A} true p h row = (y : A) × p y × Comes h row y
Tells false p h row = Avoids p h row

-- ---- answers that wait

-- of the call of a builtin
abbrev pub AnswersWait : Got Answer → Type 0
AnswersWait g = g ≡ Is WaitsAnswer

-- of an instruction
abbrev pub LeadsToWait : Next → Type 0
LeadsToWait next = next ≡ Waits

-- of a step
abbrev pub EndsInWait : Outcome × State → Type 0
EndsInWait z = z.0 ≡ WaitsNow

-- ---- what a call looks at

-- each record of the heap is closed in it
pub record AreClosed (h : Heap) : Type 0 where
  pub each : IsClosed h

-- the value is the address of a record of this kind
abbrev pub IsOf : Heap → Kind → Value → Type 0
IsOf h k (Ref a) = (at h a.0).kind ≡ k
IsOf h k _ = ⊥
