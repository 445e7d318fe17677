-- What code and proofs say to each other: nothing public rests on it.
-- What a segment's view says of itself as a view. States `docs/HEAP.md`, "The view of a segment" and "Views".
use Rattle.std.specs.Prelude.{◌≡◌, ℕ, ◌+◌, ◌/◌, Bool, true, false, Option, Some}
use Rattle.py_data.specs.declared.stop.Side.{Side}
use Rattle.py_data.specs.declared.stop.Stop.{Stop}
use Rattle.py_data.specs.declared.stop.Stop.TheVariants.{NeedHeap}
use Rattle.py_data.specs.Heap.{Rec, is_tracked}
use Rattle.py_data.specs.Row.{Call, Reply, Read, Edit, Make}
use Rattle.py_data.specs.Sense.{Sense, Bracket}
use Rattle.seg_store.specs.Meaning.{Meaning, sees, saw}
use Rattle.stm_segment.specs.declared.books.Books.{Books}
use Rattle.stm_segment.specs.Books.{Worlds, core_of}
use Rattle.stm_segment.specs.Devices.{DeviceState}
use Rattle.stm_segment.specs.InUse.{core_use, wants_more, RisesUpTo, IfTold}
use Rattle.stm_segment.specs.inner.Halts.{stop_of}
use Rattle.stm_segment.specs.inner.Hold.{Hold, SegDoes, SegRefuses, SegOpens, SegUndoes}
use Rattle.stm_segment.specs.inner.Outer.{OuterDoes, OuterRefuses, OuterOpens, OuterUndoes}

-- the Stops that a segment's view can give: all but the one of a view of a part of the heap
abbrev pub seg_stops : Stop → Bool
seg_stops NeedHeap = false
seg_stops _ = true

-- a record that the segment sees, and whose look is noted where looks at it are
pub record Seen {T : Type 0} (a k : ℕ) (d : Hold T) : Type 0 where
  pub entry : Rec
  pub is : sees d.meaning k a ≡ Some entry
  pub noted : is_tracked entry.kind ≡ true → (d.meaning.part k).looked a ≡ true

-- ---- how far a call lets the store's peaks rise

-- what is in use while segment k, whose transaction is out of its hand, sees what it does
abbrev pub seg_use : {S : Type 0} → Worlds → ℕ → Meaning → Books S → ℕ → ℕ
seg_use w k m b = core_use (m.limit / 2) m.segments k (sees m k) (core_of w m b)

-- In whatever worlds, each peak is at most what it was, or at most what is in use then and so many more of its class.
pub record RisesThere {S : Type 0} (k : ℕ) (m : Meaning) (b : Books S) (more : ℕ → ℕ) (p q : Option (ℕ → ℕ)) :
    Type 0 where
  pub rises : (w : Worlds) → IfTold p q (λ f g. RisesUpTo f g (λ c. seg_use w k m b c + more c))

-- ---- a view that says more than another one

-- the same view, with one fact more of each call that is done, and of each that is refused
abbrev pub with_more : {S X : Type 0} → Sense S X → ((c : Call S) → X → Reply c → X → Type 0) →
    (Call S → X → Stop → X → Type 0) → Sense S X
with_more u more refused = record u {
  does = λ c v r w. u.does c v r w × more c v r w;
  refuses = λ c v e w. u.refuses c v e w × refused c v e w;
}

-- and of how a step is opened and taken back
abbrev pub with_both : {S X : Type 0} → Bracket S X → (X → X → Type 0) → Bracket S X
with_both b more = record b {
  opens = λ v w. b.opens v w × more v w;
  undoes = λ v w. b.undoes v w × more v w;
}

-- ---- the view

-- a view of type X: what it holds, its devices, its segment, the side that it acts for, and that two values of it
-- borrow the same things
module _ {T X : Type 0} (hold : X → Hold T) (devices : X → DeviceState) (segment : X → ℕ) (me : X → Side)
    (same : X → X → Type 0) where
  -- a look at a record that was seen changes nothing
  abbrev pub Quiet : Call T → X → X → Type 0
  Quiet (Read a) v w = Seen a (segment v) (hold v) → w ≡ v
  Quiet _ v w = Unit {0}

  -- a look at a record that was seen isn't refused
  abbrev pub Unsure : Call T → X → Type 0
  Unsure (Read a) v = Seen a (segment v) (hold v) → ⊥
  Unsure _ v = Unit {0}

  -- the same segment acts for the same side on the same store
  pub record Stays (v w : X) : Type 0 where
    pub segment_is : segment w ≡ segment v
    pub me_is : me w ≡ me v
    pub same_is : same v w

  abbrev pub seg_sense : Sense T X
  seg_sense = record {
    heap = λ v. sees (hold v).meaning (segment v);
    partial = false;
    stopped = λ v. (hold v).last.stopped;
    can_stop = seg_stops;
    does = λ c v r w. SegDoes (segment v) (me v) c (hold v) r (hold w) × OuterDoes (me v) c (devices v) r (devices w) ×
        Stays v w × Quiet c v w;
    refuses = λ c v e w. SegRefuses (segment v) (me v) c (hold v) (hold w).last.halt (hold w) ×
        OuterRefuses (me v) c e (devices v) (devices w) × Stays v w × Unsure c v × (e ≡ stop_of (hold w).last.halt);
    seen = λ a v. Seen a (segment v) (hold v);
  }

  -- how it opens a step and takes it back
  abbrev pub seg_bracket : Bracket T X
  seg_bracket = record {
    base = λ v. saw (hold v).meaning (segment v);
    solo = λ v. (me v).solo;
    opens = λ v w. SegOpens (segment v) (hold v) (hold w) × OuterOpens (devices v) (devices w) × Stays v w;
    undoes = λ v w. SegUndoes (segment v) (hold v) (hold w) × OuterUndoes (devices v) (devices w) × Stays v w;
  }

  -- ---- the same of a view whose store may tell its peaks

  module _ (peaks : X → Option (ℕ → ℕ)) where
    abbrev pub SamePeaks : X → X → Type 0
    SamePeaks v w = peaks w ≡ peaks v

    -- A call that was done: a change and a new record let no peak pass what is in use once they are done, and the
    -- others leave the peaks.
    abbrev pub Tells : (c : Call T) → X → Reply c → X → Type 0
    Tells (Edit a x) v r w = RisesThere (segment w) (hold w).meaning (hold w).books (λ c. 0) (peaks v) (peaks w)
    Tells (Make q) v r w = RisesThere (segment w) (hold w).meaning (hold w).books (λ c. 0) (peaks v) (peaks w)
    Tells c v r w = SamePeaks v w

    -- One that was refused: nor what would be in use if it had been done.
    abbrev pub TellsRefused : Call T → X → Stop → X → Type 0
    TellsRefused (Edit a x) v e w = RisesThere (segment v) (hold v).meaning (hold v).books
        (wants_more {S = T} (Edit a x) (sees (hold v).meaning (segment v))) (peaks v) (peaks w)
    TellsRefused (Make q) v e w = RisesThere (segment v) (hold v).meaning (hold v).books
        (wants_more {S = T} (Make q) (sees (hold v).meaning (segment v))) (peaks v) (peaks w)
    TellsRefused c v e w = SamePeaks v w

    abbrev pub told_sense : Sense T X
    told_sense = with_more seg_sense Tells TellsRefused

    abbrev pub told_bracket : Bracket T X
    told_bracket = with_both seg_bracket SamePeaks
