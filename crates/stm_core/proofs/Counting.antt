-- What calls of a segment's view keep of the devices: no count of faults falls, and one that isn't solo leaves them
-- alone.
use Rattle.std.proofs.Common.{◌≡◌, ◌≤◌, ℕ, Bool, true, false, List, Option, sym, ◌∙◌, ap, arith}
use Rattle.std.proofs.lemmas.Bool.{both_ways}
use Rattle.py_data.specs.declared.stop.Side.{Side}
use Rattle.py_data.specs.declared.stop.Stop.{Stop}
use Rattle.py_data.specs.declared.stop.Stop.TheVariants.{NeedSolo, ReadFault, WriteFault, ErrFault}
use Rattle.py_data.specs.declared.stop.Out.TheVariants.{Output, ErrorOutput}
use Rattle.py_data.specs.Heap.{Heap}
use Rattle.py_data.specs.Row.{Call, Reply, Read, Find, Edit, Make, Start, Put, Take, MidLine, SetMidLine}
use Rattle.stm_io.specs.Outside.{Rose}
use Rattle.stm_segment.specs.declared.halt.Halt.{Halt}
use Rattle.stm_segment.specs.declared.halt.Halt.TheVariants as halt
use Rattle.stm_segment.specs.inner.Halts.{stop_of}
use Rattle.stm_segment.specs.Devices.{DeviceState, IsLeftAlone, CountsGrow, StopRose}
use Rattle.stm_segment.specs.inner.Hold.{Hold, SegWhy}
use Rattle.stm_segment.specs.inner.Outer.{OuterDoes, WriteRefused, ErrRefused, TakeRefused, OuterRefuses, OuterOpens, OuterUndoes}

-- ---- one call

-- what a call keeps of the devices, as the transaction is solo or not
pub record DevicesKept (solo : Bool) (p q : DeviceState) : Type 0 where
  pub counts : CountsGrow p q
  pub was_mid : q.was_mid ≡ p.was_mid
  pub alone : solo ≡ false → q ≡ p

pub counts_same : (p q : DeviceState) → q.reads ≡ p.reads → q.writes ≡ p.writes → q.errs ≡ p.errs → CountsGrow p q
counts_same p q a b c = record { reads = omega (arith, a); writes = omega (arith, b); errs = omega (arith, c) }

pub counts_then : (p q r : DeviceState) → CountsGrow p q → CountsGrow q r → CountsGrow p r
counts_then p q r a b = record {
  reads = let x = a.reads in let y = b.reads in omega (arith, x, y);
  writes = let x = a.writes in let y = b.writes in omega (arith, x, y);
  errs = let x = a.errs in let y = b.errs in omega (arith, x, y);
}

pub kept_same : (solo : Bool) (p q : DeviceState) → q ≡ p → DevicesKept solo p q
kept_same solo p q h = record {
  counts = counts_same p q (ap (λ (z : DeviceState). z.reads) h) (ap (λ (z : DeviceState). z.writes) h)
      (ap (λ (z : DeviceState). z.errs) h);
  was_mid = ap (λ (z : DeviceState). z.was_mid) h;
  alone = λ m. h;
}

pub kept_then : (solo : Bool) (p q r : DeviceState) → DevicesKept solo p q → DevicesKept solo q r → DevicesKept solo p r
kept_then solo p q r a b = record {
  counts = counts_then p q r a.counts b.counts;
  was_mid = b.was_mid ∙ a.was_mid;
  alone = λ m. b.alone m ∙ a.alone m;
}

-- a solo one used the output, the error output or the input
kept_out : (solo : Bool) (p q : DeviceState) (told : Option (List ℕ)) → solo ≡ true →
    q ≡ record p { out = told; writes = q.writes } → p.writes ≤ q.writes → DevicesKept solo p q
kept_out solo p q told m h le = record {
  counts = record {
    reads = let a : q.reads ≡ p.reads = ap (λ (z : DeviceState). z.reads) h in omega (arith, a);
    writes = le;
    errs = let a : q.errs ≡ p.errs = ap (λ (z : DeviceState). z.errs) h in omega (arith, a);
  };
  was_mid = ap (λ (z : DeviceState). z.was_mid) h;
  alone = λ n. absurd (both_ways solo n m);
}

kept_err : (solo : Bool) (p q : DeviceState) (told : Option (List ℕ)) → solo ≡ true →
    q ≡ record p { err = told; errs = q.errs } → p.errs ≤ q.errs → DevicesKept solo p q
kept_err solo p q told m h le = record {
  counts = record {
    reads = let a : q.reads ≡ p.reads = ap (λ (z : DeviceState). z.reads) h in omega (arith, a);
    writes = let a : q.writes ≡ p.writes = ap (λ (z : DeviceState). z.writes) h in omega (arith, a);
    errs = le;
  };
  was_mid = ap (λ (z : DeviceState). z.was_mid) h;
  alone = λ n. absurd (both_ways solo n m);
}

kept_in : (solo : Bool) (p q : DeviceState) (told : Option (List ℕ)) (ends : ℕ) → solo ≡ true →
    q ≡ record p { input = told; ends = ends; reads = q.reads } → p.reads ≤ q.reads → DevicesKept solo p q
kept_in solo p q told ends m h le = record {
  counts = record {
    reads = le;
    writes = let a : q.writes ≡ p.writes = ap (λ (z : DeviceState). z.writes) h in
        omega (arith, a);
    errs = let a : q.errs ≡ p.errs = ap (λ (z : DeviceState). z.errs) h in omega (arith, a);
  };
  was_mid = ap (λ (z : DeviceState). z.was_mid) h;
  alone = λ n. absurd (both_ways solo n m);
}

-- a call that was done
pub does_keeps : {S : Type 0} (me : Side) (c : Call S) (p : DeviceState) (r : Reply c) (q : DeviceState) →
    OuterDoes me c p r q → DevicesKept me.solo p q
does_keeps me (Put Output bytes) p r q h = kept_out me.solo p q _ h.0 h.1 h.2
does_keeps me (Put ErrorOutput bytes) p r q h = kept_err me.solo p q _ h.0 h.1 h.2
does_keeps me (Take most) p r q h = kept_in me.solo p q _ _ h.0 h.3 h.4
does_keeps me MidLine p r q h = kept_same me.solo p q h.1
does_keeps me (SetMidLine b) p r q h = record {
  counts = counts_same p q (ap (λ (z : DeviceState). z.reads) h.1) (ap (λ (z : DeviceState). z.writes) h.1)
      (ap (λ (z : DeviceState). z.errs) h.1);
  was_mid = ap (λ (z : DeviceState). z.was_mid) h.1;
  alone = λ n. absurd (both_ways me.solo n h.0);
}
does_keeps me (Read a) p r q h = kept_same me.solo p q h
does_keeps me (Find a v) p r q h = kept_same me.solo p q h
does_keeps me (Edit a x) p r q h = kept_same me.solo p q h
does_keeps me (Make x) p r q h = kept_same me.solo p q h
does_keeps me (Start x) p r q h = kept_same me.solo p q h

-- ---- a call that was refused

write_keeps : (s : Stop) (me : Side) (bytes : List ℕ) (p q : DeviceState) → WriteRefused s me bytes p q →
    DevicesKept me.solo p q
write_keeps NeedSolo me bytes p q h = kept_same me.solo p q h
write_keeps WriteFault me bytes p q h = kept_out me.solo p q _ h.0 h.1.1 h.2
write_keeps _ me bytes p q h = kept_out me.solo p q p.out h.0 h.1 h.2

err_keeps : (s : Stop) (me : Side) (bytes : List ℕ) (p q : DeviceState) → ErrRefused s me bytes p q →
    DevicesKept me.solo p q
err_keeps NeedSolo me bytes p q h = kept_same me.solo p q h
err_keeps ErrFault me bytes p q h = kept_err me.solo p q _ h.0 h.1.1 h.2
err_keeps _ me bytes p q h = kept_err me.solo p q p.err h.0 h.1 h.2

take_keeps : (s : Stop) (me : Side) (p q : DeviceState) → TakeRefused s me p q → DevicesKept me.solo p q
take_keeps NeedSolo me p q h = kept_same me.solo p q h
take_keeps ReadFault me p q h = kept_in me.solo p q _ p.ends h.0 h.1.1 h.2
take_keeps _ me p q h = kept_in me.solo p q p.input p.ends h.0 h.1 h.2

pub refuses_keeps : {S : Type 0} (me : Side) (c : Call S) (s : Stop) (p q : DeviceState) → OuterRefuses me c s p q →
    DevicesKept me.solo p q
refuses_keeps me (Put Output bytes) s p q h = write_keeps s me bytes p q h
refuses_keeps me (Put ErrorOutput bytes) s p q h = err_keeps s me bytes p q h
refuses_keeps me (Take most) s p q h = take_keeps s me p q h
refuses_keeps me MidLine s p q h = kept_same me.solo p q h
refuses_keeps me (SetMidLine b) s p q h = kept_same me.solo p q h
refuses_keeps me (Read a) s p q h = kept_same me.solo p q h
refuses_keeps me (Find a v) s p q h = kept_same me.solo p q h
refuses_keeps me (Edit a x) s p q h = kept_same me.solo p q h
refuses_keeps me (Make x) s p q h = kept_same me.solo p q h
refuses_keeps me (Start x) s p q h = kept_same me.solo p q h

-- the count of the device that failed rose
pub refuses_rose : {S : Type 0} (k : ℕ) (me : Side) (c : Call S) (s : Halt) (p q : DeviceState) (h : Heap) (d : Hold S)
    → SegWhy k me s c h d → OuterRefuses me c (stop_of s) p q → StopRose s p q
refuses_rose k me (Take most) halt.ReadFault p q h d w o = o.3
refuses_rose k me _ halt.ReadFault p q h d w o = absurd w.1
refuses_rose k me (Put Output bytes) halt.WriteFault p q h d w o = o.3
refuses_rose k me _ halt.WriteFault p q h d w o = absurd w.1
refuses_rose k me (Put ErrorOutput bytes) halt.ErrFault p q h d w o = o.3
refuses_rose k me _ halt.ErrFault p q h d w o = absurd w.1
refuses_rose k me c (halt.Lost f) p q h d w o = tt
refuses_rose k me c halt.NeedSolo p q h d w o = tt
refuses_rose k me c (halt.Full i l j) p q h d w o = tt
refuses_rose k me c halt.OutOfMemory p q h d w o = tt

-- and it rose from an earlier number, which isn't higher
rose_from : (a b c : ℕ) → a ≤ b → Rose b c → Rose a c
rose_from a b c le h = omega arith

pub rose_after : (s : Halt) (p q r : DeviceState) → CountsGrow p q → StopRose s q r → StopRose s p r
rose_after halt.ReadFault p q r a h = rose_from p.reads q.reads r.reads a.reads h
rose_after halt.WriteFault p q r a h = rose_from p.writes q.writes r.writes a.writes h
rose_after halt.ErrFault p q r a h = rose_from p.errs q.errs r.errs a.errs h
rose_after _ p q r a h = tt

-- to a later number, which isn't lower
rose_to : (a b c : ℕ) → Rose a b → b ≤ c → Rose a c
rose_to a b c h le = omega arith

rose_before : (s : Halt) (p q r : DeviceState) → StopRose s p q → CountsGrow q r → StopRose s p r
rose_before halt.ReadFault p q r h a = rose_to p.reads q.reads r.reads h a.reads
rose_before halt.WriteFault p q r h a = rose_to p.writes q.writes r.writes h a.writes
rose_before halt.ErrFault p q r h a = rose_to p.errs q.errs r.errs h a.errs
rose_before _ p q r h a = tt

-- ---- a step

-- what a step leaves of the devices, whichever way it ends
pub record StepLeaves (solo : Bool) (p q : DeviceState) : Type 0 where
  pub counts : CountsGrow p q
  pub alone : solo ≡ false → IsLeftAlone p q

counts_opened : (p q : DeviceState) → OuterOpens p q → CountsGrow p q
counts_opened p q h = counts_same p q (ap (λ (z : DeviceState). z.reads) h) (ap (λ (z : DeviceState). z.writes) h)
    (ap (λ (z : DeviceState). z.errs) h)

counts_undone : (p q : DeviceState) → OuterUndoes p q → CountsGrow p q
counts_undone p q h = counts_same p q (ap (λ (z : DeviceState). z.reads) h) (ap (λ (z : DeviceState). z.writes) h)
    (ap (λ (z : DeviceState). z.errs) h)

-- one that was done
pub leaves_done : (solo : Bool) (p p1 q : DeviceState) → OuterOpens p p1 → DevicesKept solo p1 q → StepLeaves solo p q
leaves_done solo p p1 q op k = record {
  counts = counts_then p p1 q (counts_opened p p1 op) k.counts;
  alone = λ m. let h : q ≡ record p { was_mid = p.mid } = k.alone m ∙ op in h ∙
      ap (λ (b : Bool). record p { was_mid = b }) (sym (ap (λ (z : DeviceState). z.was_mid) h));
}

-- one that was cut and taken back
pub leaves_cut : (solo : Bool) (p p1 q1 q : DeviceState) → OuterOpens p p1 → DevicesKept solo p1 q1 →
    OuterUndoes q1 q → StepLeaves solo p q
leaves_cut solo p p1 q1 q op k un = record {
  counts = counts_then p q1 q (counts_then p p1 q1 (counts_opened p p1 op) k.counts) (counts_undone q1 q un);
  alone = λ m. let h : q ≡ record p { was_mid = p.mid } = un ∙ ap (λ (z : DeviceState). record z { mid = z.was_mid })
      (k.alone m ∙ op) in h ∙ ap (λ (b : Bool). record p { was_mid = b }) (sym (ap (λ (z : DeviceState). z.was_mid) h));
}

-- its flag is as it was before
pub flag_cut : (solo : Bool) (p p1 q1 q : DeviceState) → OuterOpens p p1 → DevicesKept solo p1 q1 → OuterUndoes q1 q →
    q.mid ≡ p.mid
flag_cut solo p p1 q1 q op k un = ap (λ (z : DeviceState). z.mid) un ∙ k.was_mid ∙
    ap (λ (z : DeviceState). z.was_mid) op

-- and the count of the device that failed rose
pub rose_cut : (s : Halt) (p p1 q1 q : DeviceState) → OuterOpens p p1 → StopRose s p1 q1 → OuterUndoes q1 q →
    StopRose s p q
rose_cut s p p1 q1 q op h un = rose_before s p q1 q (rose_after s p p1 q1 (counts_opened p p1 op) h)
    (counts_undone q1 q un)
