-- A row that doesn't use the world, over another world.
use Rattle.std.proofs.Common.{◌≡◌, true, false, refl, ◌∙◌, ap}
use Rattle.std.proofs.lemmas.Bool.{both_ways}
use Rattle.py_data.specs.Heap.{Heap}
use Rattle.py_data.specs.Row.{Call, Reply, Row, Ret, Do, Read, Find, Edit, Make, Start, Put, Take, MidLine, SetMidLine}
use Rattle.py_data.specs.Sense.{Run}
use Rattle.py_data.specs.Sight.{Sight, Act, Does, opened}
use Rattle.py_data.specs.World.{World}
use Rattle.py_data.proofs.Grow.{back, does_grows}

-- the same sight, but for its world
abbrev over : {S : Type 0} → World → Sight S → Sight S
over v s = record s { world = v }

used_by : {S : Type 0} (t z : Sight S) → t ≡ z → z.used ≡ true → t.used ≡ false → ⊥
used_by t z e y n = both_ways t.used n (ap (λ t. t.used) e ∙ y)

act_any : {S : Type 0} (v : World) (c : Call S) (s : Sight S) (r : Reply c) (t : Sight S) → Act c s r t →
    t.used ≡ false → Act c (over v s) r (over v t)
act_any v (Read a) s r t d n = (d.0, ap (over v) d.1)
act_any v (Find a key) s r t d n = (d.0, d.1, d.2, d.3, ap (over v) d.4)
act_any v (Edit a x) s r t d n = (d.0, d.1, d.2, ap (over v) d.3)
act_any v (Make q) s r t d n = (d.0, ap (over v) d.1)
act_any v (Start p) s r t d n = ap (over v) d
act_any v (Put on bytes) s r t d n = absurd (used_by t _ d refl n)
act_any v (Take most) s r t d n = absurd (used_by t _ d.1 refl n)
act_any v MidLine s r t d n = absurd (used_by t _ d.1 refl n)
act_any v (SetMidLine mid) s r t d n = absurd (used_by t _ d refl n)

does_any : {S A : Type 0} (v : World) (w : Row S A) (s t : Sight S) (y : A) → Does w s y t → t.used ≡ false →
    Does w (over v s) y (over v t)
unfolding Run
does_any v (Ret x) s t y d n = (d.0, ap (over v) d.1)
does_any v (Do c k) s t y d n =
    let unused = back d.1.used t.used (does_grows (k d.0) d.1 t y d.3).used n in
    (d.0, over v d.1, act_any v c s d.0 d.1 d.2 unused, does_any v (k d.0) d.1 t y d.3 n)

pub world_law : {S A : Type 0} (w : Row S A) (h : Heap) (v other : World) (t : Sight S) (y : A) →
    Does w (opened S h v) y t → t.used ≡ false
    → (t.world ≡ v) × Does w (opened S h other) y (record t { world = other })
world_law {S} w h v other t y d n = (
  (does_grows w (opened S h v) t y d).world n,
  does_any other w (opened S h v) t y d n,
)
