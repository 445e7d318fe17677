-- The steps of the top call, put together.
use Rattle.std.proofs.Common.{◌≡◌, ◌≤◌, inl, inr, ℕ, ◌+◌, true, false, ◌==◌, List, [], ◌∷◌, ◌++◌, Option, Some, None, Result, Ok, refl, sym, ap, subst, ◌∙◌, arith, append-nil, length, length-append, decimal}
use Rattle.std.proofs.lemmas.Bool.Decides.{nat_tests}
use Rattle.std.proofs.lemmas.Fmt.{length-decimal-le}
use Rattle.py_base.specs.declared.refusal.Refusal.{Refusal}
use Rattle.py_data.specs.declared.stop.Conflict.{Conflict}
use Rattle.py_data.specs.World.{grown}
use Rattle.stm_io.specs.declared.error.PutError.{PutError}
use Rattle.stm_io.specs.Outside.{LoaderState, SourceState, SinkState, Rose, Puts, PutCause}
use Rattle.lock_run.specs.declared.turn.Turn.{Turn}
use Rattle.lock_run.specs.Prog.{Prog}
use Rattle.stm_core.specs.Events.{Limits}
use Rattle.stm_words.specs.declared.call.Options.{Options}
use Rattle.stm_words.specs.declared.call.Script.{Script}
use Rattle.stm_words.specs.declared.call.Script.TheVariants.{Source, File, Demo}
use Rattle.stm_words.specs.Demo.{lines, before, before_number, behind_number, numbered, behind, demo_of}
use Rattle.stm_words.specs.Options.{IsScript}
use Rattle.stm_top.specs.declared.answer.Answer.{Answer}
use Rattle.stm_top.specs.declared.answer.Answer.TheVariants.{Done, Failed, Usage, Refused, LoaderFailed, InputFailed, OutputFailed, ErrorOutputFailed, HeapFull, Stuck, BudgetSpent, OutOfMemory, ScriptTooLong}
use Rattle.stm_top.specs.Script.{Origin, Taken, AskedAtMost}
use Rattle.stm_top.specs.Serial.{Serial}
use Rattle.stm_top.specs.TopCall.{Devices, Told, origin, limits_of, Faults, faults_of, NoneFell, RunEnded, NothingRan, TextPut, Ran, CausedBy}
use Rattle.stm_top.specs.inner.Ending.{NoScript, RunEnds, ThreadsEnded, NoProgram, TextEnded}
use Rattle.stm_top.proofs.Taking.{rose_earlier}

-- no text is put where there is none
pub nothing_put : (text : List ℕ) (s : SinkState) → text ≡ [] → TextPut text s s
nothing_put text s e = record {
  result = Ok tt;
  puts = sym (ap (grown s.told) e ∙ grown_nothing s.told);
  cause =
      omega arith;
  empty = λ q. refl;
}
  where
    grown_nothing : (o : Option (List ℕ)) → grown o [] ≡ o
    grown_nothing None = refl
    grown_nothing (Some xs) = ap Some (append-nil xs)

pub no_bytes : (text : List ℕ) → (length text == 0) ≡ true → text ≡ []
no_bytes [] e = refl
no_bytes (b ∷ bs) e = absurd (grind (arith, nat_tests, e))

-- a text that has a byte was put
pub text_put : (text : List ℕ) (s u : SinkState) (result : Result (Unit {0}) PutError) →
    (length text == 0) ≡ false → Puts s.told text result u.told → PutCause s.faults u.faults result → TextPut text s u
text_put text s u result e puts cause = record {
  result = result;
  puts = puts;
  cause = cause;
  empty = λ q. absurd (some text q e);
}
  where
    some : (text : List ℕ) → text ≡ [] → (length text == 0) ≡ false → ⊥
    some [] q e = absurd (grind (arith, nat_tests, e))
    some (b ∷ bs) q e = absurd (cc)

-- ---- a script that was taken
taken_later : (script : Script) (text : List ℕ) (x y : Origin) → Taken script text x y → x.input.faults ≤ y.input.faults
taken_later Source text x y h = h.0.faults
taken_later (File name) text x y h = let e = ap (λ (s : SourceState). s.faults) h.2 in omega (arith, e)
taken_later (Demo n) text x y h = let e = ap (λ (s : SourceState). s.faults) h.2 in omega (arith, e)

-- the text of a workload is short
length_lines : (xs : List (List ℕ)) (x : List ℕ) (ys : List (List ℕ)) →
    length (lines (xs ++ x ∷ ys)) ≡ length (lines xs) + (length x + (1 + length (lines ys)))
length_lines [] x ys = let one = length-append x (10 ∷ lines ys) in omega (arith, one)
length_lines (l ∷ xs) x ys =
    let one = length-append l (10 ∷ lines (xs ++ x ∷ ys)) in
    let other = length-append l (10 ∷ lines xs) in
    let more = length_lines xs x ys in
    omega (arith, one, other, more)

demo_short : (n : ℕ) → n ≤ 1000000 → length (demo_of n) ≤ 4194304
demo_short n h =
    let number : length (decimal n) ≤ 7 = length-decimal-le 7 n (omega arith) (omega (arith, h)) (omega (arith, h)) in
    let whole = length_lines before (numbered (decimal n)) behind in
    let line = length-append before_number (decimal n ++ behind_number) in
    let end = length-append (decimal n) behind_number in
    let first : length (lines before) ≡ 464 = refl in
    let last : length (lines behind) ≡ 160 = refl in
    let left : length before_number ≡ 44 = refl in
    let right : length behind_number ≡ 12 = refl in
    omega (arith, number, whole, line, end, first, last, left, right)

pub taken_short : (script : Script) (text : List ℕ) (x y : Origin) → IsScript script → Taken script text x y →
    length text ≤ 4194304
taken_short Source text x y w h = h.0.short
taken_short (File name) text x y w h = h.1
taken_short (Demo n) text x y w h = subst (λ z. length z ≤ 4194304) (sym h.0) (demo_short n w)

-- the source counted no fewer failures after the script was taken than before
earlier : (answer : Answer) {input : SourceState} {out err : Option (List ℕ)} {history : List Turn}
    {conflicts : List Conflict} {input1 : SourceState} {out1 err1 : Option (List ℕ)} {S : Type 0} {p : Prog S} {n : ℕ}
    (l : Limits) (w : Option ℕ)
    (a a1 b : Faults) (r : Serial p n input out err history conflicts input1 out1 err1)
    → a.input ≤ a1.input → a1.out ≡ a.out → a1.err ≡ a.err → RunEnded l w answer a1 b r → RunEnded l w answer a b r
earlier Done l w a a1 b r i o e h = h
earlier Failed l w a a1 b r i o e h = h
earlier InputFailed l w a a1 b r i o e h = (h.0, rose_earlier a.input a1.input b.input i h.1)
earlier OutputFailed l w a a1 b r i o e h = (h.0, subst (λ z. Rose z b.out) o h.1)
earlier ErrorOutputFailed l w a a1 b r i o e h = (h.0, subst (λ z. Rose z b.err) e h.1)
earlier (HeapFull reserved need limit) l w a a1 b r i o e h = h
earlier Stuck l w a a1 b r i o e h = h
earlier (BudgetSpent steps) l w a a1 b r i o e h = h
earlier OutOfMemory l w a a1 b r i o e h = h
earlier Usage l w a a1 b r i o e h = h
earlier (Refused refusal) l w a a1 b r i o e h = h
earlier LoaderFailed l w a a1 b r i o e h = h
earlier ScriptTooLong l w a a1 b r i o e h = h

none_fell : (a a1 b : Faults) → a.input ≤ a1.input → a1.out ≡ a.out → a1.err ≡ a.err → NoneFell a1 b → NoneFell a b
none_fell a a1 b i o e h = record {
  input = let y = h.input in omega (arith, i, y);
  out = let y = h.out in omega (arith, o, y);
  err = let y = h.err in omega (arith, e, y);
}

-- the devices once a script was taken
abbrev pub with_origin : Devices → Origin → Devices
with_origin a x = record a { loader = x.loader; input = x.input }

module _ {P S : Type 0} (is_code : List ℕ → P → Type 0) (refused : List ℕ → Refusal → Type 0) (rows : P → Prog S)
    (o : Options) (a b : Devices) (t : Told) where
  abbrev Caused : Answer → Type 0
  Caused answer = CausedBy is_code refused rows answer o a t b

  -- no script was taken
  pub no_script : (answer : Answer) (x : Origin) → origin b ≡ x → NothingRan a t b →
      NoScript answer o.script (origin a) x → Caused answer
  no_script LoaderFailed x e n h = (n, subst (NoScript LoaderFailed o.script (origin a)) (sym e) h)
  no_script InputFailed x e n h = inl (n, subst (NoScript InputFailed o.script (origin a)) (sym e) h)
  no_script ScriptTooLong x e n h = (n, subst (NoScript ScriptTooLong o.script (origin a)) (sym e) h)
  no_script OutOfMemory x e n h = inl (n, inl (subst (NoScript OutOfMemory o.script (origin a)) (sym e) h))
  no_script Done x e n h = absurd h
  no_script Failed x e n h = absurd h
  no_script Usage x e n h = absurd h
  no_script (Refused refusal) x e n h = absurd h
  no_script OutputFailed x e n h = absurd h
  no_script ErrorOutputFailed x e n h = absurd h
  no_script (HeapFull reserved need limit) x e n h = absurd h
  no_script Stuck x e n h = absurd h
  no_script (BudgetSpent steps) x e n h = absurd h

  module _ (text : List ℕ) (x : Origin) (taken : Taken o.script text (origin a) x) where
    -- the same devices but for the loader and the source: nothing ran
    as_before : NothingRan (with_origin a x) t b → NothingRan a t b
    as_before n = record { history = n.history; conflicts = n.conflicts; store = n.store; out = n.out; err = n.err }

    asks : origin b ≡ x → AskedAtMost o.script (origin a) (origin b)
    asks e = inr (text, subst (Taken o.script text (origin a)) (sym e) taken)

    unmade : (answer : Answer) → origin b ≡ x → NothingRan (with_origin a x) t b →
        NoProgram is_code refused rows text answer → Caused answer
    unmade (Refused refusal) e n h = (as_before n, text, subst (Taken o.script text (origin a)) (sym e) taken, h)
    unmade OutOfMemory e n h = inl (as_before n, asks e)
    unmade Done e n h = absurd h
    unmade Failed e n h = absurd h
    unmade Usage e n h = absurd h
    unmade LoaderFailed e n h = absurd h
    unmade InputFailed e n h = absurd h
    unmade OutputFailed e n h = absurd h
    unmade ErrorOutputFailed e n h = absurd h
    unmade (HeapFull reserved need limit) e n h = absurd h
    unmade Stuck e n h = absurd h
    unmade (BudgetSpent steps) e n h = absurd h
    unmade ScriptTooLong e n h = absurd h

    module _ (program : P) (is : is_code text program) where
      ran : (answer : Answer) → b.loader ≡ x.loader → RunEnds (rows program) (limits_of o) answer (with_origin a x) t b
          → Ran is_code refused rows o a t b
      ran answer e r = record {
        text = text;
        source = x.input;
        taken = subst (λ z. Taken o.script text (origin a) (record { loader = z; input = x.input })) (sym e) taken;
        program = program;
        is = is;
        serial = r.serial;
        store = r.store;
        counts = none_fell (faults_of a) (faults_of (with_origin a x)) (faults_of b)
            (taken_later o.script text (origin a) x taken) refl refl r.counts;
      }

      ended : (answer : Answer) (e : b.loader ≡ x.loader)
          (r : RunEnds (rows program) (limits_of o) answer (with_origin a x) t b) →
          RunEnded (limits_of o) t.reserved answer (faults_of a) (faults_of b) (ran answer e r).serial
      unfolding ran
      ended answer e r = earlier answer (limits_of o) t.reserved (faults_of a) (faults_of (with_origin a x))
          (faults_of b) r.serial (taken_later o.script text (origin a) x taken) refl refl r.ended

      caused : (answer : Answer) → b.loader ≡ x.loader → RunEnds (rows program) (limits_of o) answer (with_origin a x)
          t b → Caused answer
      caused Done e r = (ran Done e r, ended Done e r)
      caused Failed e r = (ran Failed e r, ended Failed e r)
      caused InputFailed e r = inr (ran InputFailed e r, ended InputFailed e r)
      caused OutputFailed e r = (ran OutputFailed e r, ended OutputFailed e r)
      caused ErrorOutputFailed e r = (ran ErrorOutputFailed e r, ended ErrorOutputFailed e r)
      caused (HeapFull reserved need limit) e r =
          (ran (HeapFull reserved need limit) e r, ended (HeapFull reserved need limit) e r)
      caused Stuck e r = (ran Stuck e r, ended Stuck e r)
      caused (BudgetSpent steps) e r = (ran (BudgetSpent steps) e r, ended (BudgetSpent steps) e r)
      caused OutOfMemory e r = inr (ran OutOfMemory e r, ended OutOfMemory e r)
      caused Usage e r = absurd r.ended
      caused (Refused refusal) e r = absurd r.ended
      caused LoaderFailed e r = absurd r.ended
      caused ScriptTooLong e r = absurd r.ended

      threads_ran : (answer : Answer) → ThreadsEnded (rows program) o answer (with_origin a x) t b → Caused answer
      threads_ran answer h = elim h.1 [
        | inl n ↦ subst (λ z. CausedBy is_code refused rows z o a t b) (sym n.2)
            (inl (as_before n.0, asks (λ i. record { loader = h.0 i; input = n.1 i })))
        | inr r ↦ caused answer h.0 r
      ]

    pub text_ran : (answer : Answer) → TextEnded is_code refused rows text o answer (with_origin a x) t b →
        Caused answer
    text_ran answer (inl z) = unmade answer z.1 z.0 z.2
    text_ran answer (inr z) = threads_ran z.0 z.1 answer z.2
