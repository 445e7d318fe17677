-- The laws by the script: one that is refused, one that is too long, and one that has a program.
use Rattle.std.proofs.Common.{◌≡◌, ◌⊎◌, [], inl, inr, ℕ, List, None, sym, subst}
use Rattle.py_base.specs.declared.refusal.Refusal.{Refusal}
use Rattle.lock_run.specs.Prog.{Prog}
use Rattle.stm_words.specs.declared.call.Options.{Options}
use Rattle.stm_top.specs.declared.status.Status.{Status}
use Rattle.stm_top.specs.declared.status.Status.TheVariants.{Usage, Refused, LoaderFailed, InputFailed, OutOfMemory, ScriptTooLong}
use Rattle.stm_top.specs.Answer.{refusal_text}
use Rattle.stm_top.specs.Script.{Origin, Taken}
use Rattle.stm_top.specs.TopCall.{Devices, Told, origin}
use Rattle.top_laws.specs.Known.{IsScriptOf, IsShort, IsLong}
use Rattle.top_laws.specs.Ends.{AtRefused, AtTooLong, AtUntaken}
use Rattle.top_laws.specs.Laws.{RefusedLaw, TooLongLaw, ProgramLaw}
use Rattle.top_laws.proofs.Telling.{taken_text, long_taken, short_or_long, loader_rose, source_rose}
use Rattle.top_laws.proofs.Causes.{ran_store, CausedOr, answer_or}
use Rattle.top_laws.proofs.Opening.{RanAt, CausedAt}

module _ {P S : Type 0} (is_code : List ℕ → P → Type 0) (refused : List ℕ → Refusal → Type 0) (rows : P → Prog S) where
  -- ---- too long

  long_ran : (x : Status) (o : Options) (a : Devices) (t : Told) (b : Devices) (script : List ℕ) →
      RanAt is_code refused rows x o a t b → IsScriptOf o.script script a → IsLong o.script script → ⊥
  long_ran x o a t b script h e l =
      let y : Origin = record { loader = b.loader; input = h.0.source } in
      long_taken o.script script h.0.text a y e l h.0.taken

  long_by : (x : Status) (o : Options) (a : Devices) (t : Told) (b : Devices) (script text : List ℕ) →
      CausedAt is_code refused rows x text o a t b → IsScriptOf o.script script a → IsLong o.script script →
      AtTooLong a b x
  long_by Usage o a t b script text h e l = absurd h
  long_by Refused o a t b script text h e l = absurd (long_taken o.script script h.1.1 a (origin b) e l h.1.2)
  long_by LoaderFailed o a t b script text h e l = loader_rose o.script a b h.1
  long_by ScriptTooLong o a t b script text h e l = tt
  long_by InputFailed o a t b script text (inl h) e l = source_rose o.script a b h.1
  long_by InputFailed o a t b script text (inr h) e l = absurd (long_ran InputFailed o a t b script h e l)
  long_by OutOfMemory o a t b script text h e l = tt
  long_by x o a t b script text h e l = absurd (long_ran x o a t b script h e l)

  long_or : (x : Status) (o : Options) (a : Devices) (t : Told) (b : Devices) (script text : List ℕ) →
      CausedOr is_code refused rows x text o a t b → IsScriptOf o.script script a → IsLong o.script script →
      AtTooLong a b x
  long_or x o a t b script text (inl h) e l = subst (λ (x : Status). AtTooLong a b x) (sym h.0) tt
  long_or x o a t b script text (inr h) e l = long_by x o a t b script text h e l

  pub too_long_law : TooLongLaw is_code refused rows
  too_long_law words a x text t b o script h e told l =
      long_or x o a t (record b { err = h.err_before }) script text
      (answer_or is_code refused rows words a x text t b o h e) told l

  module _ (none : (text : List ℕ) (p : P) (r : Refusal) → is_code text p → refused text r → ⊥) where
    -- ---- with a program

    program_or : (o : Options) (a b : Devices) (script taken : List ℕ) (p : P) (r : Refusal) →
        IsScriptOf o.script script a → is_code script p → Taken o.script taken (origin a) (origin b) →
        refused taken r → ⊥
    program_or o a b script taken p r e code k why =
        let same = taken_text o.script script taken a (origin b) e k in
        none script p r code (subst (λ (x : List ℕ). refused x r) same why)

    program_by : (x : Status) (o : Options) (a : Devices) (t : Told) (b : Devices) (script text : List ℕ) (p : P) →
        CausedAt is_code refused rows x text o a t b → IsScriptOf o.script script a → IsShort o.script script →
        is_code script p → t.store ≡ None → AtUntaken a b x
    program_by Usage o a t b script text p h e l code s = absurd h
    program_by Refused o a t b script text p h e l code s =
        absurd (program_or o a b script h.1.1 p h.0 e code h.1.2 h.1.3)
    program_by LoaderFailed o a t b script text p h e l code s = loader_rose o.script a b h.1
    program_by ScriptTooLong o a t b script text p h e l code s =
        absurd (short_or_long o.script script a (origin b) e l h.1)
    program_by InputFailed o a t b script text p (inl h) e l code s = source_rose o.script a b h.1
    program_by InputFailed o a t b script text p (inr h) e l code s =
        absurd (ran_store is_code refused rows InputFailed o a t b h s)
    program_by OutOfMemory o a t b script text p h e l code s = tt
    program_by x o a t b script text p h e l code s = absurd (ran_store is_code refused rows x o a t b h s)

    program_caused : (x : Status) (o : Options) (a : Devices) (t : Told) (b : Devices) (script text : List ℕ)
        (p : P) → CausedOr is_code refused rows x text o a t b → IsScriptOf o.script script a →
        IsShort o.script script → is_code script p → t.store ≡ None → AtUntaken a b x
    program_caused x o a t b script text p (inl h) e l code s =
        subst (λ (x : Status). AtUntaken a b x) (sym h.0) tt
    program_caused x o a t b script text p (inr h) e l code s = program_by x o a t b script text p h e l code s

    pub program_law : ProgramLaw is_code refused rows
    program_law words a x text t b o script p h e told l code s =
        program_caused x o a t (record b { err = h.err_before }) script text p
        (answer_or is_code refused rows words a x text t b o h e) told l code s

    -- ---- refused

    refused_ran : (x : Status) (o : Options) (a : Devices) (t : Told) (b : Devices) (script : List ℕ)
        (r : Refusal) → RanAt is_code refused rows x o a t b → IsScriptOf o.script script a →
        refused script r → ⊥
    refused_ran x o a t b script r h e why =
        let y : Origin = record { loader = b.loader; input = h.0.source } in
        let same = taken_text o.script script h.0.text a y e h.0.taken in
        none script h.0.program r (subst (λ (x : List ℕ). is_code x h.0.program) same h.0.is) why

    module _ (one : (text : List ℕ) (r s : Refusal) → refused text r → refused text s → r ≡ s) where
      refused_text : (o : Options) (a b : Devices) (script taken text : List ℕ) (r s : Refusal) →
          IsScriptOf o.script script a → refused script r → Taken o.script taken (origin a) (origin b) →
          refused taken s → (text ≡ refusal_text s) ⊎ (text ≡ []) → AtRefused r text a b Refused
      refused_text o a b script taken text r s e why k h says =
          let same = taken_text o.script script taken a (origin b) e k in
          let is : s ≡ r = one script s r (subst (λ (x : List ℕ). refused x s) same h) why in
          subst (λ (x : Refusal). (text ≡ refusal_text x) ⊎ (text ≡ [])) is says

      refused_by : (x : Status) (o : Options) (a : Devices) (t : Told) (b : Devices) (script text : List ℕ)
          (r : Refusal) → CausedAt is_code refused rows x text o a t b → IsScriptOf o.script script a →
          IsShort o.script script → refused script r → AtRefused r text a b x
      refused_by Usage o a t b script text r h e l why = absurd h
      refused_by Refused o a t b script text r h e l why =
          refused_text o a b script h.1.1 text r h.0 e why h.1.2 h.1.3 h.2
      refused_by LoaderFailed o a t b script text r h e l why = loader_rose o.script a b h.1
      refused_by ScriptTooLong o a t b script text r h e l why =
          absurd (short_or_long o.script script a (origin b) e l h.1)
      refused_by InputFailed o a t b script text r (inl h) e l why = source_rose o.script a b h.1
      refused_by InputFailed o a t b script text r (inr h) e l why =
          absurd (refused_ran InputFailed o a t b script r h e why)
      refused_by OutOfMemory o a t b script text r h e l why = tt
      refused_by x o a t b script text r h e l why = absurd (refused_ran x o a t b script r h e why)

      refused_or : (x : Status) (o : Options) (a : Devices) (t : Told) (b : Devices) (script text : List ℕ)
          (r : Refusal) → CausedOr is_code refused rows x text o a t b → IsScriptOf o.script script a →
          IsShort o.script script → refused script r → AtRefused r text a b x
      refused_or x o a t b script text r (inl h) e l why =
          subst (λ (x : Status). AtRefused r text a b x) (sym h.0) tt
      refused_or x o a t b script text r (inr h) e l why =
          refused_by x o a t b script text r h e l why

      pub refused_law : RefusedLaw is_code refused rows
      refused_law words a x text t b o script r h e told l why =
          refused_or x o a t (record b { err = h.err_before }) script text r
          (answer_or is_code refused rows words a x text t b o h e) told l why
