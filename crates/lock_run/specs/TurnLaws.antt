-- Laws of turns and runs, in the words in which `src/laws.rt` ensures them. States `docs/HEAP.md`, "Turns and runs".
use Rattle.std.specs.Prelude.{◌≡◌, ◌↔◌, ℕ, List, [], ◌∷◌, ◌++◌, Option, None, IsSome, true, false}
use Rattle.py_data.specs.Heap.{Heap}
use Rattle.py_data.specs.World.{World}
use Rattle.py_data.specs.Sight.{Sight, opened, mem}
use Rattle.py_data.specs.Frames.{AgreesOn}
use Rattle.lock_run.specs.declared.turn.TurnWhy.{TurnWhy}
use Rattle.lock_run.specs.declared.turn.TurnWhy.TheVariants.{NotThere, Ended, Waits, BadNames, ReadFault, WriteFault, ErrFault, OutOfMemory}
use Rattle.lock_run.specs.declared.turn.Turn.{Turn}
use Rattle.lock_run.specs.Prog.{Prog}
use Rattle.lock_run.specs.Machine.{Machine, Steps, DoesTurn, Runs}
use Rattle.lock_run.specs.Turns.{LockState, Stands, TurnDone, TurnCut}

-- a cause that lies outside of the machine: want of memory, or a fault of a device
abbrev pub IsOutside : TurnWhy → Type 0
IsOutside ReadFault = Unit {0}
IsOutside WriteFault = Unit {0}
IsOutside ErrFault = Unit {0}
IsOutside OutOfMemory = Unit {0}
IsOutside NotThere = ⊥
IsOutside Ended = ⊥
IsOutside Waits = ⊥
IsOutside BadNames = ⊥

-- where the machine can do a turn and the source tells its bytes, that turn is cut by an outer cause only
abbrev pub AcceptLaw : Type 0 → Type 0
AcceptLaw S =
    (p : Prog S) (t : Turn) (done : ℕ) (why : TurnWhy) (a b : LockState S) (o e : Option (List ℕ)) (m m1 : Machine S)
    → IsSome m.world.input → Stands o e a.view a.threads m → DoesTurn p m t m1 → TurnCut p t done why a b →
    IsOutside why

-- a turn leads from a machine to one machine only, where the source tells its bytes
abbrev pub OneTurnLaw : Type 0 → Type 0
OneTurnLaw S = (p : Prog S) (t : Turn) (m m1 m2 : Machine S) → IsSome m.world.input → DoesTurn p m t m1 →
    DoesTurn p m t m2 → m2 ≡ m1

-- a turn that was done leads to the machine that the turn leads to
abbrev pub DoneLaw : Type 0 → Type 0
DoneLaw S =
    (p : Prog S) (t : Turn) (a b : LockState S) (o e : Option (List ℕ)) (m m1 : Machine S)
    → IsSome m.world.input → Stands o e a.view a.threads m → DoesTurn p m t m1 → TurnDone p t a b →
    Stands o e b.view b.threads m1

-- after a turn the source tells its bytes still
abbrev pub ToldLaw : Type 0 → Type 0
ToldLaw S = (p : Prog S) (t : Turn) (m m1 : Machine S) → IsSome m.world.input → DoesTurn p m t m1 →
    IsSome m1.world.input

-- the same steps over another heap and world
pub record SameSteps {S : Type 0} (p : Prog S) (n : ℕ) (q : S) (h1 : Heap) (v1 : World) (r : S) (t t1 : Sight S) : Type
    0 where
  pub steps : Steps p n q (opened S h1 v1) r t1
  pub looked : (a : ℕ) → t1.looked a ≡ t.looked a
  pub made : t1.made ≡ t.made
  pub started : t1.started ≡ t.started
  pub changes : (a : ℕ) → t.touched a ≡ true → t1.heap a ≡ t.heap a
  pub others : (a : ℕ) → t.touched a ≡ false → t1.heap a ≡ h1 a
  pub world : t.used ≡ false → t1.world ≡ v1
  pub world_used : t.used ≡ true → t1.world ≡ t.world

-- The frame law of steps: over another heap that has each fixed record of the first, agrees with it on what the steps
-- looked at and has none of their names, they are the same steps; and over another world, if they don't use the world.
abbrev pub StepsLaw : Type 0 → Type 0
StepsLaw S =
    (p : Prog S) (n : ℕ) (q r : S) (h h1 : Heap) (v v1 : World) (t : Sight S) → Steps p n q (opened S h v) r t →
    AgreesOn t.looked h h1
    → ((a : ℕ) → mem a t.made ≡ true → h1 a ≡ None) → (t.used ≡ true → v1 ≡ v) →
    (t1 : Sight S) × SameSteps p n q h1 v1 r t t1

-- a run and one turn more are a run
abbrev pub SnocLaw : Type 0 → Type 0
SnocLaw S = (p : Prog S) (ts : List Turn) (t : Turn) (m m1 m2 : Machine S) → Runs p m ts m1 → DoesTurn p m1 t m2 →
    Runs p m (ts ++ t ∷ []) m2

-- a run of two lists is a run of the one and then a run of the other
abbrev pub AppendLaw : Type 0 → Type 0
AppendLaw S = (p : Prog S) (ts us : List Turn) (m m2 : Machine S) →
    Runs p m (ts ++ us) m2 ↔ ((m1 : Machine S) × Runs p m ts m1 × Runs p m1 us m2)

-- a run leads from a machine to one machine only, where the source tells its bytes
abbrev pub OneRunLaw : Type 0 → Type 0
OneRunLaw S = (p : Prog S) (ts : List Turn) (m m1 m2 : Machine S) → IsSome m.world.input → Runs p m ts m1 →
    Runs p m ts m2 → m2 ≡ m1
