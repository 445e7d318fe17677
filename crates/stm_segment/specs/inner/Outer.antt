-- What code and proofs say to each other: nothing public rests on it.
-- What each call of a segment's view does to the devices. States `docs/HEAP.md`, "The view of a segment".
use Rattle.std.specs.Prelude.{◌≡◌, ℕ, ◌≤◌, true, List, length, take}
use Rattle.py_data.specs.declared.stop.Side.{Side}
use Rattle.py_data.specs.declared.stop.Out.TheVariants.{Output, ErrorOutput}
use Rattle.py_data.specs.declared.stop.Stop.{Stop}
use Rattle.py_data.specs.declared.stop.Stop.TheVariants.{NeedSolo, ReadFault, WriteFault, ErrFault}
use Rattle.py_data.specs.Row.{Call, Reply, Put, Take, MidLine, SetMidLine}
use Rattle.py_data.specs.World.{ends_after, grown, shrunk, IsLine}
use Rattle.stm_io.specs.Outside.{Rose}
use Rattle.stm_segment.specs.Devices.{DeviceState}

-- ---- calls that are done

-- Only a solo transaction writes, takes input and sets the flag.
abbrev pub OuterDoes : {S : Type 0} → Side → (c : Call S) → DeviceState → Reply c → DeviceState → Type 0
OuterDoes me (Put Output bytes) p r q = (me.solo ≡ true) ×
    (q ≡ record p { out = grown p.out bytes; writes = q.writes }) × (p.writes ≤ q.writes)
OuterDoes me (Put ErrorOutput bytes) p r q =
    (me.solo ≡ true) × (q ≡ record p { err = grown p.err bytes; errs = q.errs }) × (p.errs ≤ q.errs)
OuterDoes me (Take most) p l q =
    (me.solo ≡ true) × IsLine p.input most l × (length l ≤ most) ×
    (q ≡ record p { input = shrunk p.input (length l); ends = ends_after l p.ends; reads = q.reads }) ×
    (p.reads ≤ q.reads)
OuterDoes me MidLine p b q = (b ≡ p.mid) × (q ≡ p)
OuterDoes me (SetMidLine b) p r q = (me.solo ≡ true) × (q ≡ record p { mid = b })
OuterDoes me c p r q = q ≡ p

-- ---- calls that are refused

-- A write that was refused: at a fault of the output a front of the bytes was written, and where there was no memory
-- none of them.
abbrev pub WriteRefused : Stop → Side → List ℕ → DeviceState → DeviceState → Type 0
WriteRefused NeedSolo me bytes p q = q ≡ p
WriteRefused WriteFault me bytes p q =
    (me.solo ≡ true) × ((n : ℕ) × (q ≡ record p { out = grown p.out (take n bytes); writes = q.writes })) ×
    (p.writes ≤ q.writes) × Rose p.writes q.writes
WriteRefused _ me bytes p q = (me.solo ≡ true) × (q ≡ record p { writes = q.writes }) × (p.writes ≤ q.writes)

-- the same of the error output
abbrev pub ErrRefused : Stop → Side → List ℕ → DeviceState → DeviceState → Type 0
ErrRefused NeedSolo me bytes p q = q ≡ p
ErrRefused ErrFault me bytes p q = (me.solo ≡ true) ×
    ((n : ℕ) × (q ≡ record p { err = grown p.err (take n bytes); errs = q.errs })) × (p.errs ≤ q.errs) × Rose p.errs
    q.errs
ErrRefused _ me bytes p q = (me.solo ≡ true) × (q ≡ record p { errs = q.errs }) × (p.errs ≤ q.errs)

-- a line that wasn't taken: at a fault of the input some bytes may be gone
abbrev pub TakeRefused : Stop → Side → DeviceState → DeviceState → Type 0
TakeRefused NeedSolo me p q = q ≡ p
TakeRefused ReadFault me p q = (me.solo ≡ true) ×
    ((n : ℕ) × (q ≡ record p { input = shrunk p.input n; reads = q.reads })) × (p.reads ≤ q.reads) × Rose p.reads
    q.reads
TakeRefused _ me p q = (me.solo ≡ true) × (q ≡ record p { reads = q.reads }) × (p.reads ≤ q.reads)

abbrev pub OuterRefuses : {S : Type 0} → Side → Call S → Stop → DeviceState → DeviceState → Type 0
OuterRefuses me (Put Output bytes) s p q = WriteRefused s me bytes p q
OuterRefuses me (Put ErrorOutput bytes) s p q = ErrRefused s me bytes p q
OuterRefuses me (Take most) s p q = TakeRefused s me p q
OuterRefuses me c s p q = q ≡ p

-- ---- how a step is opened and taken back

abbrev pub OuterOpens : DeviceState → DeviceState → Type 0
OuterOpens p q = q ≡ record p { was_mid = p.mid }

-- the flag is as it was when the step was opened; what was written and taken stays so
abbrev pub OuterUndoes : DeviceState → DeviceState → Type 0
OuterUndoes p q = q ≡ record p { mid = p.was_mid }
