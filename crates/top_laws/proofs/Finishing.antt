-- The laws of a call in whose way nothing stands.
use Rattle.std.proofs.Common.{◌≡◌, ℕ, ◌<◌, List, Option, Some, None, refl}
use Rattle.py_base.specs.declared.refusal.Refusal.{Refusal}
use Rattle.lock_run.specs.Prog.{Prog}
use Rattle.lock_run.specs.RunState.{steps_done, IsStuck}
use Rattle.lock_run.specs.Machine.{Machine}
use Rattle.seg_store.specs.Meaning.{Meaning}
use Rattle.stm_words.specs.declared.call.Options.{Options}
use Rattle.stm_words.specs.Options.{options_of}
use Rattle.stm_top.specs.declared.status.Status.{Status}
use Rattle.stm_top.specs.TopCall.{Devices, Told, limits_of, Answered}
use Rattle.top_laws.specs.Known.{IsShort, Leads, start_of, NoneRose}
use Rattle.top_laws.specs.Ends.{AtFinished}
use Rattle.top_laws.specs.Laws.{FinishedLaw, CompleteLaw}
use Rattle.top_laws.proofs.Standing.{where_free, where_idle, where_roomy}
use Rattle.top_laws.proofs.Refusing.{program_law}
use Rattle.top_laws.proofs.Leading.{stands_law, full_law, counts_law}

module _ {P S : Type 0} (is_code : List ℕ → P → Type 0) (refused : List ℕ → Refusal → Type 0) (rows : P → Prog S)
    (one : (text : List ℕ) (p q : P) → is_code text p → is_code text q → p ≡ q)
    (none : (text : List ℕ) (p : P) (r : Refusal) → is_code text p → refused text r → ⊥) where
  by_store : (words : List (List ℕ)) (a : Devices) (x : Status) (text : List ℕ) (t : Told) (b : Devices)
      (o : Options) (p : P) (m : Machine S) (s : Option Meaning) → t.store ≡ s →
      Answered is_code refused rows words a x text t b → options_of words ≡ Some o →
      (l : Leads is_code rows o.script a t.history p m) → IsShort o.script l.text → NoneRose a b →
      (IsStuck (rows p) m → ⊥) → steps_done t.history < o.budget →
      AtFinished (rows p) (limits_of o) (start_of l) t.history m x
  by_store words a x text t b o p m None k h e l short quiet go below =
      where_idle (rows p) o.budget t.history m (limits_of o) (start_of l) a b x
      (program_law is_code refused rows none words a x text t b o l.text p h e l.whole short l.is k) quiet
  by_store words a x text t b o p m (Some store) k h e l short quiet go below =
      where_free (rows p) o.budget t.history m (limits_of o) (start_of l) a b x
      (stands_law is_code refused rows one words a x text t b o store p m h e k l)
      (full_law is_code refused rows one words a x text t b o store p m h e k l)
      (counts_law is_code refused rows one words a x text t b o store p m h e k l) quiet go below

  pub finished_law : FinishedLaw is_code refused rows
  finished_law words a x text t b o p m h e l short quiet go below =
      by_store words a x text t b o p m t.store refl h e l short quiet go below

  pub complete_law : CompleteLaw is_code refused rows
  complete_law words a x text t b o p m h e l short quiet go below room =
      where_roomy (rows p) o.budget t.history m (limits_of o) (start_of l) x
      (finished_law words a x text t b o p m h e l short quiet go below) room
