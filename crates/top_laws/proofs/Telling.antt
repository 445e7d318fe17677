-- A script that is told is the one that is taken, and so is the input behind it; and why a script isn't taken.
use Rattle.std.proofs.Common.{◌≡◌, ℕ, ◌+◌, ◌<◌, ◌≤◌, min, List, [], ◌++◌, length, take, Option, Some, sym, ap, subst, ◌∙◌, arith, append-nil, length-append}
use Rattle.std.specs.Prelude.{IfSome}
use Rattle.std.proofs.lemmas.List.{length-take, take_all}
use Rattle.stm_io.specs.Outside.{SourceState, Rose}
use Rattle.lock_run.proofs.Stepping.{if_some}
use Rattle.stm_words.specs.declared.call.Script.{Script}
use Rattle.stm_words.specs.declared.call.Script.TheVariants.{Source, File, Demo}
use Rattle.stm_top.specs.Script.{TakenFrom, ScriptTaken, Origin, Taken, TooLong, NotLoaded, NotTaken}
use Rattle.stm_top.specs.TopCall.{Devices, origin}
use Rattle.top_laws.specs.Known.{IsScriptOf, IsInputOf, IsShort, IsLong, ends_behind}

-- ---- a front of a file

short_min : (n k l : ℕ) → l ≡ min n k → l < n → k ≤ n
short_min n k l e h = omega arith

full_min : (n k l : ℕ) → l ≡ min n k → l ≡ n → n ≤ k
full_min n k l e h = omega arith

-- a front that is shorter than it may be is all of it
whole_front : (n : ℕ) (xs : List ℕ) → length (take n xs) < n → take n xs ≡ xs
whole_front n xs h = take_all n xs (short_min n (length xs) (length (take n xs)) (length-take n xs) h)

file_text : (n : ℕ) (o : Option (List ℕ)) (script text : List ℕ) → o ≡ Some script →
    IfSome o (λ file. text ≡ take n file) → length text < n → text ≡ script
file_text n o script text e h l =
    let front : text ≡ take n script = if_some o script (λ file. text ≡ take n file) e h in
    front ∙ whole_front n script (subst (λ (xs : List ℕ). length xs < n) front l)

file_long : (n : ℕ) (o : Option (List ℕ)) (script text : List ℕ) → o ≡ Some script →
    IfSome o (λ file. text ≡ take n file) → length text ≡ n → n ≤ length script
file_long n o script text e h l =
    let front : text ≡ take n script = if_some o script (λ file. text ≡ take n file) e h in
    full_min n (length script) (length (take n script)) (length-take n script) (sym (ap length front) ∙ l)

-- ---- the source

source_taken : (o : Option (List ℕ)) (script text : List ℕ) (now : Option (List ℕ)) → o ≡ Some script →
    TakenFrom o text now → TakenFrom (Some script) text now
source_taken o script text now e h = subst (λ (x : Option (List ℕ)). TakenFrom x text now) e h

source_text : (script text : List ℕ) (x y : SourceState) → x.told ≡ Some script → ScriptTaken text x y →
    (text ≡ script) × (y.told ≡ Some [])
source_text script text x y e h =
    let k = source_taken x.told script text y.told e h.taken in
    let none : k.0 ≡ [] = if_some y.told k.0 (λ rest. rest ≡ []) k.1 h.nothing_left in
    (sym (k.2 ∙ ap (λ (l : List ℕ). text ++ l) none ∙ append-nil text), k.1 ∙ ap Some none)

-- ---- what was taken

pub taken_text : (s : Script) (script text : List ℕ) (a : Devices) (y : Origin) → IsScriptOf s script a →
    Taken s text (origin a) y → text ≡ script
taken_text Source script text a y e h = (source_text script text a.input y.input e h.0).0
taken_text (File name) script text a y e h =
    let short : length text < 4194305 = omega (arith, h.1) in
    file_text 4194305 (a.loader.told name) script text e h.0.is short
taken_text (Demo n) script text a y e h = h.0 ∙ sym e

pub taken_rest : (s : Script) (script text rest : List ℕ) (a : Devices) (y : Origin) → IsScriptOf s script a →
    IsInputOf s rest a → Taken s text (origin a) y → y.input.told ≡ Some rest
taken_rest Source script text rest a y e i h = (source_text script text a.input y.input e h.0).1 ∙ ap Some (sym i)
taken_rest (File name) script text rest a y e i h = ap (λ (x : SourceState). x.told) h.2 ∙ i
taken_rest (Demo n) script text rest a y e i h = ap (λ (x : SourceState). x.told) h.2 ∙ i

-- and so often it had come to its end
pub taken_ends : (s : Script) (text : List ℕ) (a : Devices) (y : Origin) → Taken s text (origin a) y →
    y.input.ends ≡ ends_behind s a
taken_ends Source text a y h = h.0.ends
taken_ends (File name) text a y h = ap (λ (x : SourceState). x.ends) h.2
taken_ends (Demo n) text a y h = ap (λ (x : SourceState). x.ends) h.2

-- a script that is too long isn't taken
pub long_taken : (s : Script) (script text : List ℕ) (a : Devices) (y : Origin) → IsScriptOf s script a →
    IsLong s script → Taken s text (origin a) y → ⊥
long_taken Source script text a y e l h =
    let same = ap length (taken_text Source script text a y e h) in
    let short = h.0.short in
    absurd (omega arith)
long_taken (File name) script text a y e l h =
    let same = ap length (taken_text (File name) script text a y e h) in
    let short = h.1 in
    absurd (omega arith)
long_taken (Demo n) script text a y e l h = l

-- ---- what wasn't

-- of a script that is short there isn't too much
pub short_or_long : (s : Script) (script : List ℕ) (a : Devices) (y : Origin) → IsScriptOf s script a →
    IsShort s script → TooLong s (origin a) y → ⊥
short_or_long Source script a y e short h =
    let k = source_taken a.input.told script h.0.bytes y.input.told e h.0.so_far.taken in
    let all : length script ≡ length h.0.bytes + length k.0 = ap length k.2 ∙ length-append h.0.bytes k.0 in
    let front = h.0.long in
    absurd (omega (arith, all, front))
short_or_long (File name) script a y e short h =
    let long = file_long 4194305 (a.loader.told name) script h.0 e h.1.is h.2 in absurd (omega arith)
short_or_long (Demo n) script a y e short h = h

pub loader_rose : (s : Script) (a b : Devices) → NotLoaded s (origin a) (origin b) →
    Rose a.loader.faults b.loader.faults
loader_rose Source a b h = absurd h
loader_rose (File name) a b h = h.0.1
loader_rose (Demo n) a b h = absurd h

pub source_rose : (s : Script) (a b : Devices) → NotTaken s (origin a) (origin b) →
    Rose a.input.faults b.input.faults
source_rose Source a b h = h.0.rose
source_rose (File name) a b h = absurd h
source_rose (Demo n) a b h = absurd h
