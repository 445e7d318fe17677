-- What the cause says with the options that the words give, and of a report with a store.
use Rattle.std.proofs.Common.{◌≡◌, ◌≢◌, ◌⊎◌, inl, inr, ℕ, List, Option, Some, None, refl, sym, subst}
use Rattle.std.specs.Prelude.{IsSome}
use Rattle.py_base.specs.declared.refusal.Refusal.{Refusal}
use Rattle.lock_run.specs.Prog.{Prog}
use Rattle.stm_words.specs.declared.call.Options.{Options}
use Rattle.stm_words.specs.Options.{options_of}
use Rattle.stm_top.specs.declared.status.Status.{Status}
use Rattle.stm_top.specs.declared.status.Status.TheVariants.{Usage, Refused, LoaderFailed, InputFailed, OutOfMemory, ScriptTooLong}
use Rattle.stm_top.specs.TopCall.{Devices, Told, NothingRan, Answered}
use Rattle.top_laws.proofs.Opening.{RanAt, CausedAt, Cause, NoOptions, NoMemory, With, opened}

pub some_or_none : {A : Type 0} (o : Option A) (x : A) → o ≡ Some x → o ≡ None → ⊥
some_or_none o x e n = absurd (cc)

pub same_some : {A : Type 0} (o : Option A) (x y : A) → o ≡ Some x → o ≡ Some y → x ≡ y
same_some o x y e f = cc

pub is_some : {A : Type 0} (o : Option A) (x : A) → o ≡ Some x → IsSome o
is_some {A} o x e = subst (λ (y : Option A). IsSome y) (sym e) refl

module _ {P S : Type 0} (is_code : List ℕ → P → Type 0) (refused : List ℕ → Refusal → Type 0) (rows : P → Prog S) where
  -- a run leaves a store
  pub ran_store : (x : Status) (o : Options) (a : Devices) (t : Told) (b : Devices) →
      RanAt is_code refused rows x o a t b → t.store ≡ None → ⊥
  ran_store x o a t b r e = some_or_none t.store r.0.store.meaning r.0.store.is e

  pub answer_cause : (words : List (List ℕ)) (a : Devices) (x : Status) (text : List ℕ) (t : Told) (b : Devices) →
      (h : Answered is_code refused rows words a x text t b) →
      Cause is_code refused rows words a t (record b { err = h.err_before }) text x
  answer_cause words a x text t b h =
      opened is_code refused rows words a t (record b { err = h.err_before }) text x h.answer (sym h.is) h.cause h.says

  -- there was no memory for the words, or the status has its cause with these options
  abbrev pub CausedOr : Status → List ℕ → Options → Devices → Told → Devices → Type 0
  CausedOr x text o a t b = ((x ≡ OutOfMemory) × NothingRan a t b) ⊎ CausedAt is_code refused rows x text o a t b

  with_options : (words : List (List ℕ)) (a : Devices) (t : Told) (b : Devices) (text : List ℕ) (x : Status)
      (o : Options) → Cause is_code refused rows words a t b text x → options_of words ≡ Some o →
      CausedOr x text o a t b
  with_options words a t b text x o (NoOptions e n h) k = absurd (some_or_none (options_of words) o k n)
  with_options words a t b text x o (NoMemory e h) k = inl (e, h)
  with_options words a t b text x o (With h) k =
      inr (subst (λ (y : Options). CausedAt is_code refused rows x text y a t b)
      (same_some (options_of words) h.0 o h.1 k) h.2)

  pub answer_or : (words : List (List ℕ)) (a : Devices) (x : Status) (text : List ℕ) (t : Told) (b : Devices)
      (o : Options) → (h : Answered is_code refused rows words a x text t b) → options_of words ≡ Some o →
      CausedOr x text o a t (record b { err = h.err_before })
  answer_or words a x text t b o h e =
      with_options words a t (record b { err = h.err_before }) text x o (answer_cause words a x text t b h) e

  ran_by : (x : Status) (text : List ℕ) (o : Options) (a : Devices) (t : Told) (b : Devices) →
      CausedAt is_code refused rows x text o a t b → t.store ≢ None → RanAt is_code refused rows x o a t b
  ran_by Usage text o a t b h e = absurd h
  ran_by Refused text o a t b h e = absurd (e h.1.0.store)
  ran_by LoaderFailed text o a t b h e = absurd (e h.0.store)
  ran_by ScriptTooLong text o a t b h e = absurd (e h.0.store)
  ran_by InputFailed text o a t b (inl h) e = absurd (e h.0.store)
  ran_by InputFailed text o a t b (inr h) e = h
  ran_by OutOfMemory text o a t b (inl h) e = absurd (e h.0.store)
  ran_by OutOfMemory text o a t b (inr h) e = h
  ran_by x text o a t b h e = h

  -- and with a store it is a run's
  pub caused_ran : (x : Status) (text : List ℕ) (o : Options) (a : Devices) (t : Told) (b : Devices) →
      CausedOr x text o a t b → t.store ≢ None → RanAt is_code refused rows x o a t b
  caused_ran x text o a t b (inl h) e = absurd (e h.1.store)
  caused_ran x text o a t b (inr h) e = ran_by x text o a t b h e
