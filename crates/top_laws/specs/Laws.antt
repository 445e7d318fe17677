-- Laws of what the top call answers, in the words in which `src/laws.rt` ensures them. States `docs/LANGUAGE.md`, "The
-- top call".
use Rattle.std.specs.Prelude.{◌≡◌, ◌≢◌, ℕ, ◌<◌, List, Some, None}
use Rattle.py_base.specs.declared.refusal.Refusal.{Refusal}
use Rattle.lock_run.specs.Prog.{Prog}
use Rattle.lock_run.specs.RunState.{steps_done, SomeReady, IsDone, IsStuck}
use Rattle.lock_run.specs.Machine.{Machine}
use Rattle.seg_store.specs.Meaning.{Meaning}
use Rattle.stm_words.specs.declared.call.Options.{Options}
use Rattle.stm_words.specs.Options.{options_of}
use Rattle.stm_top.specs.declared.status.Status.{Status}
use Rattle.stm_top.specs.declared.status.Status.TheVariants.{Usage}
use Rattle.stm_top.specs.TopCall.{Devices, Told, limits_of, Answered}
use Rattle.top_laws.specs.Known.{IsScriptOf, IsInputOf, IsShort, IsLong, Leads, start_of, HasRoom, NoneRose}
use Rattle.top_laws.specs.Ends.{MayBeIdle, MayHaveRun, AtNoOptions, AtRefused, AtTooLong, AtUntaken, StandsAt, EndsItself, AtDone, AtStuck, AtReady, LeftAt, AtFinished, AtComplete}

module _ {P S : Type 0} (is_code : List ℕ → P → Type 0) (refused : List ℕ → Refusal → Type 0) (rows : P → Prog S) where
  -- ---- by the report's store

  -- without a store nothing ran, and the status is one of those of such a call
  abbrev pub IdleLaw : Type 0
  IdleLaw = (words : List (List ℕ)) (a : Devices) (status : Status) (text : List ℕ) (t : Told) (b : Devices) →
      Answered is_code refused rows words a status text t b → t.store ≡ None → MayBeIdle status

  -- with a store threads ran, and the status is one of those of such a call
  abbrev pub RanLaw : Type 0
  RanLaw =
      (words : List (List ℕ)) (a : Devices) (status : Status) (text : List ℕ) (t : Told) (b : Devices)
      (store : Meaning) → Answered is_code refused rows words a status text t b → t.store ≡ Some store →
      MayHaveRun status

  -- ---- by the words and the script

  -- words that give no options
  abbrev pub NoOptionsLaw : Type 0
  NoOptionsLaw = (words : List (List ℕ)) (a : Devices) (status : Status) (text : List ℕ) (t : Told) (b : Devices) →
      Answered is_code refused rows words a status text t b → options_of words ≡ None → AtNoOptions status

  -- and words that give some
  abbrev pub OptionsLaw : Type 0
  OptionsLaw =
      (words : List (List ℕ)) (a : Devices) (status : Status) (text : List ℕ) (t : Told) (b : Devices)
      (o : Options) → Answered is_code refused rows words a status text t b → options_of words ≡ Some o →
      status ≢ Usage

  -- a script that is refused
  abbrev pub RefusedLaw : Type 0
  RefusedLaw =
      (words : List (List ℕ)) (a : Devices) (status : Status) (text : List ℕ) (t : Told) (b : Devices)
      (o : Options) (script : List ℕ) (refusal : Refusal) → Answered is_code refused rows words a status text t b →
      options_of words ≡ Some o → IsScriptOf o.script script a → IsShort o.script script → refused script refusal →
      AtRefused refusal text a b status

  -- a script that is longer than one may be
  abbrev pub TooLongLaw : Type 0
  TooLongLaw =
      (words : List (List ℕ)) (a : Devices) (status : Status) (text : List ℕ) (t : Told) (b : Devices)
      (o : Options) (script : List ℕ) → Answered is_code refused rows words a status text t b →
      options_of words ≡ Some o → IsScriptOf o.script script a → IsLong o.script script →
      AtTooLong a b status

  -- a script that has a program, where nothing ran
  abbrev pub ProgramLaw : Type 0
  ProgramLaw =
      (words : List (List ℕ)) (a : Devices) (status : Status) (text : List ℕ) (t : Told) (b : Devices)
      (o : Options) (script : List ℕ) (p : P) → Answered is_code refused rows words a status text t b →
      options_of words ≡ Some o → IsScriptOf o.script script a → IsShort o.script script → is_code script p →
      t.store ≡ None → AtUntaken a b status

  -- ---- by the machine to which the history leads

  -- where threads ran and the script and the input behind it are told, the history leads to some machine
  abbrev pub LeadsLaw : Type 0
  LeadsLaw =
      (words : List (List ℕ)) (a : Devices) (status : Status) (text : List ℕ) (t : Told) (b : Devices)
      (o : Options) (store : Meaning) (script input : List ℕ) →
      Answered is_code refused rows words a status text t b → options_of words ≡ Some o → t.store ≡ Some store →
      IsScriptOf o.script script a → IsInputOf o.script input a →
      (p : P) × (m : Machine S) × Leads is_code rows o.script a t.history p m

  -- how it stands at each status, where threads ran
  abbrev pub StandsLaw : Type 0
  StandsLaw =
      (words : List (List ℕ)) (a : Devices) (status : Status) (text : List ℕ) (t : Told) (b : Devices)
      (o : Options) (store : Meaning) (p : P) (m : Machine S) →
      Answered is_code refused rows words a status text t b → options_of words ≡ Some o → t.store ≡ Some store →
      Leads is_code rows o.script a t.history p m → StandsAt (rows p) o.budget t.history m status

  -- all threads have ended in it
  abbrev pub DoneLaw : Type 0
  DoneLaw =
      (words : List (List ℕ)) (a : Devices) (status : Status) (text : List ℕ) (t : Told) (b : Devices)
      (o : Options) (store : Meaning) (p : P) (m : Machine S) →
      Answered is_code refused rows words a status text t b → options_of words ≡ Some o → t.store ≡ Some store →
      Leads is_code rows o.script a t.history p m → IsDone (rows p) m → AtDone (rows p) m status

  -- threads live in it, and each one waits
  abbrev pub StuckLaw : Type 0
  StuckLaw =
      (words : List (List ℕ)) (a : Devices) (status : Status) (text : List ℕ) (t : Told) (b : Devices)
      (o : Options) (store : Meaning) (p : P) (m : Machine S) →
      Answered is_code refused rows words a status text t b → options_of words ≡ Some o → t.store ≡ Some store →
      Leads is_code rows o.script a t.history p m → IsStuck (rows p) m → AtStuck a b status

  -- a thread can go on in it
  abbrev pub ReadyLaw : Type 0
  ReadyLaw =
      (words : List (List ℕ)) (a : Devices) (status : Status) (text : List ℕ) (t : Told) (b : Devices)
      (o : Options) (store : Meaning) (p : P) (m : Machine S) →
      Answered is_code refused rows words a status text t b → options_of words ≡ Some o → t.store ≡ Some store →
      Leads is_code rows o.script a t.history p m → SomeReady (rows p) m → AtReady o.budget t.history a b status

  -- Two calls whose histories lead to the same machine of the same program have the same status, where each run came to
  -- its end by itself, whatever else their words say.
  abbrev pub SameLaw : Type 0
  SameLaw =
      (words words1 : List (List ℕ)) (a a1 : Devices) (status status1 : Status) (text text1 : List ℕ) (t t1 : Told)
      (b b1 : Devices) (o o1 : Options) (store store1 : Meaning) (p : P) (m : Machine S) →
      Answered is_code refused rows words a status text t b → options_of words ≡ Some o → t.store ≡ Some store →
      Leads is_code rows o.script a t.history p m → EndsItself status →
      Answered is_code refused rows words1 a1 status1 text1 t1 b1 → options_of words1 ≡ Some o1 →
      t1.store ≡ Some store1 → Leads is_code rows o1.script a1 t1.history p m → EndsItself status1 →
      status ≡ status1

  -- the store that is reported has its heap
  abbrev pub HeapLaw : Type 0
  HeapLaw =
      (words : List (List ℕ)) (a : Devices) (status : Status) (text : List ℕ) (t : Told) (b : Devices)
      (o : Options) (store : Meaning) (p : P) (m : Machine S) →
      Answered is_code refused rows words a status text t b → options_of words ≡ Some o → t.store ≡ Some store →
      Leads is_code rows o.script a t.history p m → store.image ≡ m.heap

  -- what the devices are left with, at 0, 1, 9 and 10
  abbrev pub LeftLaw : Type 0
  LeftLaw =
      (words : List (List ℕ)) (a : Devices) (status : Status) (text : List ℕ) (t : Told) (b : Devices)
      (o : Options) (store : Meaning) (p : P) (m : Machine S) →
      Answered is_code refused rows words a status text t b → options_of words ≡ Some o → t.store ≡ Some store →
      Leads is_code rows o.script a t.history p m → LeftAt a text b m status

  -- ---- where nothing stands in the way

  -- The words give options, the script is told and has a program, no device failed, not each living thread waits, and
  -- the history has fewer steps than the budget.
  abbrev pub FinishedLaw : Type 0
  FinishedLaw =
      (words : List (List ℕ)) (a : Devices) (status : Status) (text : List ℕ) (t : Told) (b : Devices)
      (o : Options) (p : P) (m : Machine S) →
      Answered is_code refused rows words a status text t b → options_of words ≡ Some o →
      (l : Leads is_code rows o.script a t.history p m) → IsShort o.script l.text → NoneRose a b →
      (IsStuck (rows p) m → ⊥) → steps_done t.history < o.budget →
      AtFinished (rows p) (limits_of o) (start_of l) t.history m status

  -- And the heap has room for all that the history asked for.
  abbrev pub CompleteLaw : Type 0
  CompleteLaw =
      (words : List (List ℕ)) (a : Devices) (status : Status) (text : List ℕ) (t : Told) (b : Devices)
      (o : Options) (p : P) (m : Machine S) →
      Answered is_code refused rows words a status text t b → options_of words ≡ Some o →
      (l : Leads is_code rows o.script a t.history p m) → IsShort o.script l.text → NoneRose a b →
      (IsStuck (rows p) m → ⊥) → steps_done t.history < o.budget →
      HasRoom (rows p) (limits_of o) (start_of l) t.history m → AtComplete (rows p) m status
