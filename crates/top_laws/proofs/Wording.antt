-- The laws by the report's store and by the words.
use Rattle.std.proofs.Common.{◌≡◌, ◌≢◌, ℕ, List, Some, None, sym, subst}
use Rattle.py_base.specs.declared.refusal.Refusal.{Refusal}
use Rattle.lock_run.specs.Prog.{Prog}
use Rattle.stm_words.specs.declared.call.Options.{Options}
use Rattle.stm_words.specs.Options.{options_of}
use Rattle.stm_top.specs.declared.status.Status.{Status}
use Rattle.stm_top.specs.declared.status.Status.TheVariants.{Usage, Refused, LoaderFailed, InputFailed, OutOfMemory, ScriptTooLong}
use Rattle.stm_top.specs.TopCall.{Devices, Told}
use Rattle.top_laws.specs.Ends.{MayBeIdle, MayHaveRun, AtNoOptions}
use Rattle.top_laws.specs.Laws.{IdleLaw, RanLaw, NoOptionsLaw, OptionsLaw}
use Rattle.top_laws.proofs.Opening.{CausedAt, Cause, NoOptions, NoMemory, With}
use Rattle.top_laws.proofs.Causes.{some_or_none, ran_store, answer_cause}

module _ {P S : Type 0} (is_code : List ℕ → P → Type 0) (refused : List ℕ → Refusal → Type 0) (rows : P → Prog S) where
  idle_by : (x : Status) (text : List ℕ) (o : Options) (a : Devices) (t : Told) (b : Devices) →
      CausedAt is_code refused rows x text o a t b → t.store ≡ None → MayBeIdle x
  idle_by Usage text o a t b h e = tt
  idle_by Refused text o a t b h e = tt
  idle_by LoaderFailed text o a t b h e = tt
  idle_by InputFailed text o a t b h e = tt
  idle_by OutOfMemory text o a t b h e = tt
  idle_by ScriptTooLong text o a t b h e = tt
  idle_by x text o a t b h e = absurd (ran_store is_code refused rows x o a t b h e)

  idle_caused : (words : List (List ℕ)) (a : Devices) (t : Told) (b : Devices) (text : List ℕ) (x : Status) →
      Cause is_code refused rows words a t b text x → t.store ≡ None → MayBeIdle x
  idle_caused words a t b text x (NoOptions e n h) s = subst MayBeIdle (sym e) tt
  idle_caused words a t b text x (NoMemory e h) s = subst MayBeIdle (sym e) tt
  idle_caused words a t b text x (With h) s = idle_by x text h.0 a t b h.2 s

  pub idle_law : IdleLaw is_code refused rows
  idle_law words a x text t b h e =
      idle_caused words a t (record b { err = h.err_before }) text x
      (answer_cause is_code refused rows words a x text t b h) e

  ran_by : (x : Status) (text : List ℕ) (o : Options) (a : Devices) (t : Told) (b : Devices) →
      CausedAt is_code refused rows x text o a t b → t.store ≢ None → MayHaveRun x
  ran_by Usage text o a t b h e = absurd h
  ran_by Refused text o a t b h e = absurd (e h.1.0.store)
  ran_by LoaderFailed text o a t b h e = absurd (e h.0.store)
  ran_by ScriptTooLong text o a t b h e = absurd (e h.0.store)
  ran_by _ text o a t b h e = tt

  ran_caused : (words : List (List ℕ)) (a : Devices) (t : Told) (b : Devices) (text : List ℕ) (x : Status) →
      Cause is_code refused rows words a t b text x → t.store ≢ None → MayHaveRun x
  ran_caused words a t b text x (NoOptions e n h) s = absurd (s h.store)
  ran_caused words a t b text x (NoMemory e h) s = absurd (s h.store)
  ran_caused words a t b text x (With h) s = ran_by x text h.0 a t b h.2 s

  pub ran_law : RanLaw is_code refused rows
  ran_law words a x text t b store h e =
      ran_caused words a t (record b { err = h.err_before }) text x
      (answer_cause is_code refused rows words a x text t b h) (some_or_none t.store store e)

  no_options : (words : List (List ℕ)) (a : Devices) (t : Told) (b : Devices) (text : List ℕ) (x : Status) →
      Cause is_code refused rows words a t b text x → options_of words ≡ None → AtNoOptions x
  no_options words a t b text x (NoOptions e n h) k = subst AtNoOptions (sym e) tt
  no_options words a t b text x (NoMemory e h) k = subst AtNoOptions (sym e) tt
  no_options words a t b text x (With h) k = absurd (some_or_none (options_of words) h.0 h.1 k)

  pub no_options_law : NoOptionsLaw is_code refused rows
  no_options_law words a x text t b h e =
      no_options words a t (record b { err = h.err_before }) text x
      (answer_cause is_code refused rows words a x text t b h) e

  usage_caused : (words : List (List ℕ)) (a : Devices) (t : Told) (b : Devices) (text : List ℕ) (x : Status)
      (o : Options) → Cause is_code refused rows words a t b text x → options_of words ≡ Some o → x ≢ Usage
  usage_caused words a t b text x o (NoOptions e n h) k q = some_or_none (options_of words) o k n
  usage_caused words a t b text x o (NoMemory e h) k q = absurd (cc)
  usage_caused words a t b text x o (With h) k q =
      subst (λ (y : Status). CausedAt is_code refused rows y text h.0 a t b) q h.2

  pub options_law : OptionsLaw is_code refused rows
  options_law words a x text t b o h e =
      usage_caused words a t (record b { err = h.err_before }) text x o
      (answer_cause is_code refused rows words a x text t b h) e
