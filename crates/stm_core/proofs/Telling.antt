-- What calls of a segment's view tell the devices, and the world that they show then.
use Rattle.std.proofs.Common.{◌≡◌, ℕ, List, [], length, take, Option, Some, None, refl, sym, ◌∙◌, ap, subst, append-nil}
use Rattle.py_data.specs.declared.stop.Side.{Side}
use Rattle.py_data.specs.declared.stop.Stop.{Stop}
use Rattle.py_data.specs.declared.stop.Stop.TheVariants.{NeedSolo, ReadFault, WriteFault, ErrFault}
use Rattle.py_data.specs.declared.stop.Out.TheVariants.{Output, ErrorOutput}
use Rattle.py_data.specs.Heap.{Heap}
use Rattle.py_data.specs.World.{World, ends_after, wrote, took, grown, shrunk}
use Rattle.py_data.specs.Row.{Call, Reply, Row, Ret, Do, Read, Find, Edit, Make, Start, Put, Take, MidLine, SetMidLine}
use Rattle.lock_run.specs.Cut.{PartOf}
use Rattle.lock_run.proofs.Following.{grown_then}
use Rattle.stm_segment.specs.declared.halt.Halt.{Halt}
use Rattle.stm_segment.specs.declared.halt.Halt.TheVariants as halt
use Rattle.stm_segment.specs.Devices.{DeviceState, Tells, ShowsWorld}
use Rattle.stm_segment.specs.inner.Hold.{Hold, SegWhy}
use Rattle.stm_segment.specs.inner.Outer.{WriteRefused, ErrRefused, TakeRefused, OuterRefuses}
use Rattle.stm_core.specs.inner.Whole.{StopOf}

-- ---- the world that the devices show

-- devices always show a world: the one whose outputs are empty now
abbrev pub world_now : DeviceState → World
world_now p = record { input = p.input; ends = p.ends; out = []; err = []; mid = p.mid }

pub shown_now : (p : DeviceState) → ShowsWorld p.out p.err p (world_now p)
shown_now p = record { tells = record { input = refl; ends = refl; out = none p.out; err = none p.err }; mid = refl }
  where
    none : (o : Option (List ℕ)) → o ≡ grown o []
    none None = refl
    none (Some xs) = ap Some (sym (append-nil xs))

pub shows_out : (t e : Option (List ℕ)) (p q : DeviceState) (w : World) (bytes : List ℕ) → ShowsWorld t e p w →
    q ≡ record p { out = grown p.out bytes; writes = q.writes } → ShowsWorld t e q (wrote Output bytes w)
shows_out t e p q w bytes s h = subst (λ (z : DeviceState). ShowsWorld t e z (wrote Output bytes w)) (sym h)
    (record {
      tells = record {
        input = s.tells.input;
        ends = s.tells.ends;
        out = ap (λ l. grown l bytes) s.tells.out ∙
            grown_then t w.out bytes;
        err = s.tells.err;
      };
      mid = s.mid;
    })

pub shows_err : (t e : Option (List ℕ)) (p q : DeviceState) (w : World) (bytes : List ℕ) → ShowsWorld t e p w →
    q ≡ record p { err = grown p.err bytes; errs = q.errs } → ShowsWorld t e q (wrote ErrorOutput bytes w)
shows_err t e p q w bytes s h = subst (λ (z : DeviceState). ShowsWorld t e z (wrote ErrorOutput bytes w)) (sym h)
    (record {
      tells = record {
        input = s.tells.input;
        ends = s.tells.ends;
        out = s.tells.out;
        err = ap (λ l. grown l bytes) s.tells.err ∙
            grown_then e w.err bytes;
      };
      mid = s.mid;
    })

pub shows_in : (t e : Option (List ℕ)) (p q : DeviceState) (w : World) (n : ℕ) → ShowsWorld t e p w →
    q ≡ record p { input = shrunk p.input n; reads = q.reads } →
    ShowsWorld t e q (record w { input = shrunk w.input n })
shows_in t e p q w n s h = subst (λ (z : DeviceState). ShowsWorld t e z (record w { input = shrunk w.input n })) (sym h)
    (record {
      tells = record {
        input = ap (λ l. shrunk l n) s.tells.input;
        ends = s.tells.ends;
        out = s.tells.out;
        err = s.tells.err;
      };
      mid = s.mid;
    })

pub shows_took : (t e : Option (List ℕ)) (p q : DeviceState) (w : World) (l : List ℕ) → ShowsWorld t e p w →
    q ≡ record p { input = shrunk p.input (length l); ends = ends_after l p.ends; reads = q.reads } →
    ShowsWorld t e q (took l w)
shows_took t e p q w l s h = subst (λ (z : DeviceState). ShowsWorld t e z (took l w)) (sym h)
    (record {
      tells = record {
        input = ap (λ i. shrunk i (length l)) s.tells.input;
        ends = ap (ends_after l) s.tells.ends;
        out = s.tells.out;
        err = s.tells.err;
      };
      mid = s.mid;
    })

-- only counts and flags differ
pub tells_same : (t e : Option (List ℕ)) (p q : DeviceState) (w : World) → Tells t e p w → q.input ≡ p.input →
    q.ends ≡ p.ends → q.out ≡ p.out → q.err ≡ p.err → Tells t e q w
tells_same t e p q w h a n b c = record {
  input = h.input ∙ sym a;
  ends = h.ends ∙ sym n;
  out = b ∙ h.out;
  err = c ∙ h.err;
}

-- ---- a call that was refused

-- no part of the next call was told
pub part_none : {S A : Type 0} (row : Row S A) (w : World) → PartOf row w w
part_none (Ret a) w = refl
part_none (Do (Put Output bytes) f) w = (0, λ i. record w { out = sym (append-nil w.out) i })
part_none (Do (Put ErrorOutput bytes) f) w = (0, λ i. record w { err = sym (append-nil w.err) i })
part_none (Do (Take most) f) w = (0, λ i. record w { input = none w.input i })
  where
    none : (o : Option (List ℕ)) → o ≡ shrunk o 0
    none None = refl
    none (Some xs) = refl
part_none (Do MidLine f) w = refl
part_none (Do (SetMidLine b) f) w = refl
part_none (Do (Read a) f) w = refl
part_none (Do (Find a v) f) w = refl
part_none (Do (Edit a x) f) w = refl
part_none (Do (Make x) f) w = refl
part_none (Do (Start x) f) w = refl

-- a fault of a device is one of the call that was refused
pub fault_of : {S A : Type 0} (k : ℕ) (me : Side) (s : Halt) (c : Call S) (f : Reply c → Row S A) (h : Heap)
    (d : Hold S) → SegWhy k me s c h d → StopOf s (Do c f)
fault_of k me halt.ReadFault (Take most) f h d w = tt
fault_of k me halt.ReadFault _ f h d w = absurd w.1
fault_of k me halt.WriteFault (Put Output bytes) f h d w = tt
fault_of k me halt.WriteFault _ f h d w = absurd w.1
fault_of k me halt.ErrFault (Put ErrorOutput bytes) f h d w = tt
fault_of k me halt.ErrFault _ f h d w = absurd w.1
fault_of k me (halt.Lost c) q f h d w = tt
fault_of k me halt.NeedSolo c f h d w = tt
fault_of k me (halt.Full i l j) c f h d w = tt
fault_of k me halt.OutOfMemory c f h d w = tt

-- From the world w on, the devices were told this, which is a part of the row's next call.
pub record Told {S A : Type 0} (t e : Option (List ℕ)) (row : Row S A) (w : World) (q : DeviceState) : Type 0 where
  pub told : World
  pub tells : Tells t e q told
  pub part : PartOf row w told

-- nothing was told
pub told_none : {S A : Type 0} (t e : Option (List ℕ)) (row : Row S A) (w : World) (p q : DeviceState) →
    Tells t e p w → q.input ≡ p.input → q.ends ≡ p.ends → q.out ≡ p.out → q.err ≡ p.err → Told t e row w q
told_none t e row w p q h a n b c = record { told = w; tells = tells_same t e p q w h a n b c; part = part_none row w }

told_same : {S A : Type 0} (t e : Option (List ℕ)) (row : Row S A) (w : World) (p q : DeviceState) → Tells t e p w →
    q ≡ p → Told t e row w q
told_same t e row w p q h same = told_none t e row w p q h (ap (λ (z : DeviceState). z.input) same)
    (ap (λ (z : DeviceState). z.ends) same) (ap (λ (z : DeviceState). z.out) same)
    (ap (λ (z : DeviceState). z.err) same)

write_told : {S A : Type 0} (t e : Option (List ℕ)) (bytes : List ℕ) (f : Unit {0} → Row S A) (w : World) (s : Stop)
    (me : Side) (p q : DeviceState) → ShowsWorld t e p w → WriteRefused s me bytes p q →
    Told t e (Do (Put Output bytes) f) w q
write_told t e bytes f w NeedSolo me p q h r = told_same t e (Do (Put Output bytes) f) w p q h.tells r
write_told t e bytes f w WriteFault me p q h r = let n = r.1.0 in
    record {
      told = wrote Output (take n bytes) w;
      tells = (shows_out t e p q w (take n bytes) h r.1.1).tells;
      part =
          (n, refl);
    }
write_told t e bytes f w _ me p q h r = told_none t e (Do (Put Output bytes) f) w p q h.tells
    (ap (λ (z : DeviceState). z.input) r.1) (ap (λ (z : DeviceState). z.ends) r.1)
    (ap (λ (z : DeviceState). z.out) r.1) (ap (λ (z : DeviceState). z.err) r.1)

err_told : {S A : Type 0} (t e : Option (List ℕ)) (bytes : List ℕ) (f : Unit {0} → Row S A) (w : World) (s : Stop)
    (me : Side) (p q : DeviceState) → ShowsWorld t e p w → ErrRefused s me bytes p q →
    Told t e (Do (Put ErrorOutput bytes) f) w q
err_told t e bytes f w NeedSolo me p q h r = told_same t e (Do (Put ErrorOutput bytes) f) w p q h.tells r
err_told t e bytes f w ErrFault me p q h r = let n = r.1.0 in
    record {
      told = wrote ErrorOutput (take n bytes) w;
      tells = (shows_err t e p q w (take n bytes) h r.1.1).tells;
      part = (n, refl);
    }
err_told t e bytes f w _ me p q h r = told_none t e (Do (Put ErrorOutput bytes) f) w p q h.tells
    (ap (λ (z : DeviceState). z.input) r.1) (ap (λ (z : DeviceState). z.ends) r.1)
    (ap (λ (z : DeviceState). z.out) r.1) (ap (λ (z : DeviceState). z.err) r.1)

take_told : {S A : Type 0} (t e : Option (List ℕ)) (most : ℕ) (f : List ℕ → Row S A) (w : World) (s : Stop) (me : Side)
    (p q : DeviceState) → ShowsWorld t e p w → TakeRefused s me p q → Told t e (Do (Take most) f) w q
take_told t e most f w NeedSolo me p q h r = told_same t e (Do (Take most) f) w p q h.tells r
take_told t e most f w ReadFault me p q h r = let n = r.1.0 in
    record {
      told = record w { input = shrunk w.input n };
      tells = (shows_in t e p q w n h r.1.1).tells;
      part =
          (n, refl);
    }
take_told t e most f w _ me p q h r = told_none t e (Do (Take most) f) w p q h.tells
    (ap (λ (z : DeviceState). z.input) r.1) (ap (λ (z : DeviceState). z.ends) r.1)
    (ap (λ (z : DeviceState). z.out) r.1) (ap (λ (z : DeviceState). z.err) r.1)

-- of a call that was refused a part was told
pub call_told : {S A : Type 0} (t e : Option (List ℕ)) (c : Call S) (f : Reply c → Row S A) (w : World) (s : Stop)
    (me : Side) (p q : DeviceState) → ShowsWorld t e p w → OuterRefuses me c s p q → Told t e (Do c f) w q
call_told t e (Put Output bytes) f w s me p q h r = write_told t e bytes f w s me p q h r
call_told t e (Put ErrorOutput bytes) f w s me p q h r = err_told t e bytes f w s me p q h r
call_told t e (Take most) f w s me p q h r = take_told t e most f w s me p q h r
call_told t e MidLine f w s me p q h r = told_same t e (Do MidLine f) w p q h.tells r
call_told t e (SetMidLine b) f w s me p q h r = told_same t e (Do (SetMidLine b) f) w p q h.tells r
call_told t e (Read a) f w s me p q h r = told_same t e (Do (Read a) f) w p q h.tells r
call_told t e (Find a v) f w s me p q h r = told_same t e (Do (Find a v) f) w p q h.tells r
call_told t e (Edit a x) f w s me p q h r = told_same t e (Do (Edit a x) f) w p q h.tells r
call_told t e (Make x) f w s me p q h r = told_same t e (Do (Make x) f) w p q h.tells r
call_told t e (Start x) f w s me p q h r = told_same t e (Do (Start x) f) w p q h.tells r
