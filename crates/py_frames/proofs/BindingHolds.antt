-- The frame of a call fits, and to bind arguments takes looks alone.
use Rattle.std.proofs.Common.{arith, ◌≡◌, ℕ, suc, ◌+◌, ◌-◌, ◌<◌, ◌≤◌, Bool, true, false, cond, leb, List, [], ◌∷◌, ◌++◌, length, map, drop, Some, None, refl, sym, ap, subst, ◌∙◌, lit<}
use Rattle.std.specs.Str.{bytes_eq}
use Rattle.std.proofs.lemmas.Bool.{and_parts, leb-true}
use Rattle.std.proofs.lemmas.List.{length-append, length-drop, length-take-le}
use Rattle.py_base.specs.declared.kind.Kind.TheVariants.{Function}
use Rattle.py_data.specs.declared.value.Value.{Value}
use Rattle.py_data.specs.declared.value.Value.TheVariants.{Unset}
use Rattle.py_data.specs.declared.record.Got.{Got}
use Rattle.py_data.specs.declared.record.Got.TheVariants.{Is, Raise}
use Rattle.py_data.specs.Answers.{IsGot}
use Rattle.py_data.specs.Closed.{Refers}
use Rattle.py_data.specs.Every.{Every}
use Rattle.py_data.specs.Fault.{argument_fault}
use Rattle.py_data.specs.Heap.{Heap, Rec, value_at}
use Rattle.py_data.specs.Looking.{Looks, look_row}
use Rattle.py_data.specs.Row.{Ret}
use Rattle.py_data.specs.Shape.{RefTo}
use Rattle.py_data.proofs.EveryLemmas.{every_and}
use Rattle.py_data.proofs.Looking.{looks_ret, looks_read, looks_then, look_looks}
use Rattle.py_code.specs.declared.program.Code.{Code}
use Rattle.py_code.specs.declared.program.Program.{Program}
use Rattle.py_code.specs.Right.{IsRightProgram, is_body}
use Rattle.obj_class.specs.Bases.{ref}
use Rattle.obj_class.proofs.Parts.{is_at}
use Rattle.py_frames.specs.declared.state.Frame.{Frame}
use Rattle.py_frames.specs.Binding.{Given, unset_slots, parameters, are_filled, fits_call, value_named, last_defaults, filled, bound_slots, entered, bound_to, defaulted_row, numbered_row, bound_row}
use Rattle.py_frames.specs.Raising.{place_in, count_in, values_row}
use Rattle.py_frames.specs.Sound.{IsFunctionOf, rules_of, IsFrame}
use Rattle.py_frames.specs.State.{code_at, root_name}
use Rattle.py_frames.proofs.FunctionHolds.{started_fits, unset_held, unset_long}
use Rattle.py_frames.proofs.Settle.{every_drop}
use Rattle.py_frames.proofs.Given.{Context, right_at, value_refers}

-- ---- what parameters get refers

module _ (h : Heap) where
  named_held : (n : List ℕ) (ks : List (List ℕ)) (vs : List Value) (d : Value) → Every (Refers h) vs → Refers h d →
      Refers h (value_named n ks vs d)
  named_held n [] vs d i j = j
  named_held n (k ∷ ks) vs d i j = by (bytes_eq k n) (named_held n ks (drop 1 vs) d (every_drop (Refers h) 1 vs i) j)
    where
      by : (b : Bool) → Refers h (value_named n ks (drop 1 vs) d) →
          Refers h (cond b (value_at vs 0) (value_named n ks (drop 1 vs) d))
      by true more = value_refers h vs 0 i
      by false more = more

  filled_held : (ns ks : List (List ℕ)) (vs ds : List Value) → Every (Refers h) vs → Every (Refers h) ds →
      Every (Refers h) (filled ns ks vs ds)
  filled_held [] ks vs ds i j = tt
  filled_held (n ∷ ns) ks vs ds i j = (
    named_held n ks vs (value_at ds 0) i (value_refers h ds 0 j),
    filled_held ns ks vs (drop 1 ds) i (every_drop (Refers h) 1 ds j),
  )

  defaults_held : (m : ℕ) (ds : List Value) → Every (Refers h) ds → Every (Refers h) (last_defaults m ds)
  defaults_held m ds i = every_and (Refers h) (unset_slots (m - length ds)) (drop (length ds - m) ds)
      (unset_held h (m - length ds)) (every_drop (Refers h) (length ds - m) ds i)

  slots_held : (c : Code) (args : List Value) (ks : List (List ℕ)) (vs ds : List Value) → Every (Refers h) args →
      Every (Refers h) vs → Every (Refers h) ds → Every (Refers h) (bound_slots c args ks vs ds)
  slots_held c args ks vs ds i j k =
      let names = drop (length args) (parameters c) in
      let more = filled names ks vs (last_defaults (length names) ds) in
      every_and (Refers h) args (more ++ unset_slots (length c.slots - c.params)) i
      (every_and (Refers h) more (unset_slots (length c.slots - c.params))
      (filled_held names ks vs (last_defaults (length names) ds) j (defaults_held (length names) ds k))
      (unset_held h (length c.slots - c.params)))

filled_long : (ns ks : List (List ℕ)) (vs ds : List Value) → length (filled ns ks vs ds) ≡ length ns
filled_long [] ks vs ds = refl
filled_long (n ∷ ns) ks vs ds = ap suc (filled_long ns ks vs (drop 1 ds))

slots_long : (c : Code) (args : List Value) (ks : List (List ℕ)) (vs ds : List Value) → length args ≤ c.params →
    c.params ≤ length c.slots → length (bound_slots c args ks vs ds) ≡ length c.slots
slots_long c args ks vs ds l m =
    let names = drop (length args) (parameters c) in
    let more = filled names ks vs (last_defaults (length names) ds) in
    let rest = unset_slots (length c.slots - c.params) in
    let a : length (bound_slots c args ks vs ds) ≡ length args + length (more ++ rest) =
    length-append args (more ++ rest) in
    let b : length (more ++ rest) ≡ length more + length rest = length-append more rest in
    let d = filled_long names ks vs (last_defaults (length names) ds) in
    let g : length names ≡ length (parameters c) - length args = length-drop (length args) (parameters c) in
    let k : length (parameters c) ≡ c.params = length-take-le c.params c.slots m in
    let u = unset_long (length c.slots - c.params) in
    omega (arith, a, b, d, g, k, u, l, m)

-- ---- the frame

-- a frame that is no class body's
abbrev pub IsEntry : Program → Frame → Heap → Type 0
IsEntry p f h = IsFrame p h 0 f × (f.names ≡ None)

-- what is given is there
pub record AreGiven (h : Heap) (g : Given) : Type 0 where
  pub args : Every (Refers h) g.args
  pub values : Every (Refers h) g.values

module _ (p : Program) (h : Heap) (g : Given) (n : ℕ) (ds : List Value) where
  abbrev c : Code
  c = code_at p n

  abbrev keys : List (List ℕ)
  keys = map (root_name p) g.names

  pub bound_fits : IsRightProgram p → n < length p.codes → 0 < n → is_body p.codes n ≡ false → AreGiven h g →
      Every (Refers h) ds → IsGot (IsEntry p) (bound_to p g n ds) h
  unfolding bound_to
  bound_fits right l some none given held = by (fits_call c (length g.args) keys (length ds)) refl
    where
      by : (b : Bool) → fits_call c (length g.args) keys (length ds) ≡ b →
          IsGot (IsEntry p) (cond b (Is (entered n (bound_slots c g.args keys g.values ds))) (Raise argument_fault)) h
      by true e =
          let few = leb-true (length g.args) c.params
          (and_parts (leb (length g.args) c.params)
          (are_filled (drop (length g.args) (parameters c)) keys (length ds)) e).0 in
          let long = slots_long c g.args keys g.values ds few (right_at p n right l).slotted in (
            started_fits p h n (bound_slots c g.args keys g.values ds) Unset None right l some long
                (slots_held h c g.args keys g.values ds given.args given.values held) tt
                (λ t. absurd (let z : true ≡ false = sym t ∙ none in cc)),
            refl,
          )
      by false e = (lit< tt, lit< tt, tt)

-- ---- the looks

-- all values of a record that is there
pub values_looks : (S : Type 0) (h : Heap) (a : ℕ) (r : Rec) → h a ≡ Some r →
    Looks {S = S} (λ vs. vs ≡ r.values) (values_row a) h
unfolding values_row
values_looks S h a r e = looks_read (λ vs. vs ≡ r.values) a (λ r. Ret r.values) h r e
    (looks_ret S (λ vs. vs ≡ r.values) r.values h refl)

module _ (S : Type 0) (p : Program) (count roots : ℕ) (right : IsRightProgram p) where
  pub bound_looks : (g : Given) (f : ℕ) (h : Heap) → Context p count roots h → RefTo h Function (ref f) →
      AreGiven h g → Looks {S = S} (λ x. IsGot (IsEntry p) x h) (bound_row p g f) h
  unfolding bound_row numbered_row defaulted_row rules_of
  bound_looks g f h c i given =
      let q : Got Frame → Type 0 = λ x. IsGot (IsEntry p) x h in
      let t = is_at h Function f i in
      let vs = t.rec.values in
      let fn : IsFunctionOf p h vs = (c.order.each f t.rec t.here).function t.kind in
      let n : count_in (value_at vs 1) ≡ fn.number = ap (λ vs. count_in (value_at vs 1)) fn.is in
      let d : place_in (value_at vs 2) ≡ fn.defaults.0 = ap (λ vs. place_in (value_at vs 2)) fn.is in
      let here : h (place_in (value_at vs 2)) ≡ Some fn.tuple = ap h d ∙ fn.here in
      let held : Every (Refers h) fn.tuple.values = (c.order.each fn.defaults.0 fn.tuple fn.here).closed.refers in
      let fits : q (bound_to p g fn.number fn.tuple.values) = bound_fits p h g fn.number fn.tuple.values right fn.there
      fn.some fn.none given held in
      looks_then (λ x. x ≡ value_at vs 1) q (look_row f 1) (λ n. numbered_row p g f (count_in n)) h
      (look_looks S h f t.rec t.here 1)
      (λ x e. looks_then (λ y. y ≡ value_at vs 2) q (look_row f 2) (λ d. defaulted_row p g (count_in x) (place_in d)) h
      (look_looks S h f t.rec t.here 2)
      (λ y u. looks_then (λ ds. ds ≡ fn.tuple.values) q (values_row (place_in y))
      (λ ds. Ret (bound_to p g (count_in x) ds)) h
      (subst (λ z. Looks {S = S} (λ ds. ds ≡ fn.tuple.values) (values_row (place_in z)) h) (sym u)
      (values_looks S h (place_in (value_at vs 2)) fn.tuple here))
      (λ ds w. looks_ret S q (bound_to p g (count_in x) ds) h
      (subst (λ z. q (bound_to p g z ds)) (sym (ap count_in e ∙ n))
      (subst (λ z. q (bound_to p g fn.number z)) (sym w) fits)))))
