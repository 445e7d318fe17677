-- What an instruction leads to leaves frames that fit.
use Rattle.std.proofs.Common.{arith, ◌≡◌, ℕ, zero, suc, ◌+◌, ◌-◌, ◌≤◌, true, List, [], ◌∷◌, ◌++◌, length, take, drop, Option, Some, None, IsTrue, refl, sym, ap, subst, ◌∙◌, slice_set}
use Rattle.std.specs.Prelude.{is_some}
use Rattle.std.proofs.lemmas.List.{length-append, length-take-le, length-set}
use Rattle.py_base.specs.declared.kind.Kind.TheVariants.{Dict, Class, Instance}
use Rattle.py_data.specs.declared.value.Addr.{Addr}
use Rattle.py_data.specs.declared.value.Value.{Value}
use Rattle.py_data.specs.declared.value.Value.TheVariants.{Unset, None as NoneValue, Bool as BoolValue, Int, Ref, Builtin}
use Rattle.py_data.specs.Closed.{Refers}
use Rattle.py_data.specs.Every.{Every}
use Rattle.py_data.specs.Heap.{Heap, Rec}
use Rattle.py_data.specs.Order.{Extends}
use Rattle.py_data.specs.Shape.{RefTo, KindIn}
use Rattle.py_data.proofs.EveryLemmas.{every_and, every_weaken}
use Rattle.py_data.proofs.Keep.{refers_stays, ref_stays}
use Rattle.py_code.specs.declared.instr.Instr.{Instr}
use Rattle.py_code.specs.declared.program.Program.{Program}
use Rattle.py_code.specs.Effects.{Limits, Flow, On, Ends, Over, Fork, Opens as OpensFlow, Closes as ClosesFlow, Effect, effect, Sh, floor_of, tail_of, after, there, target_of, goes_on, HasBlock}
use Rattle.py_code.specs.Typing.{shape_at, RightAt}
use Rattle.py_code.specs.Right.{first_place}
use Rattle.py_frames.specs.declared.state.Block.{Block}
use Rattle.py_frames.specs.declared.state.Frame.{Frame}
use Rattle.py_frames.specs.declared.state.Dying.{Dying}
use Rattle.py_frames.specs.declared.next.Next.{Next}
use Rattle.py_frames.specs.declared.next.Next.TheVariants.{Goes, Jumps, Stores, Opens, Closes, Enters, Leaves, Fails, Begins, Throws, Waits}
use Rattle.py_frames.specs.State.{State, handled, unwound, unwound_by, thrown_to, pushed, returned, advanced, settled, line_at, limits}
use Rattle.py_frames.specs.Sound.{heights, BlocksFit, HasNames, IsMade, IsFrame, AreFrames, IsThread, CanGoOn, IsState}
use Rattle.py_frames.specs.Fits.{IsThrough, IsTo, IsOpening, IsClosing, Fits}

-- ---- lists of values
pub every_take : {A : Type 0} (P : A → Type 0) (n : ℕ) (xs : List A) → Every P xs → Every P (take n xs)
every_take P zero xs i = tt
every_take P (suc n) [] i = tt
every_take P (suc n) (x ∷ xs) i = (i.0, every_take P n xs i.1)

pub every_drop : {A : Type 0} (P : A → Type 0) (n : ℕ) (xs : List A) → Every P xs → Every P (drop n xs)
every_drop P zero xs i = i
every_drop P (suc n) [] i = tt
every_drop P (suc n) (x ∷ xs) i = every_drop P n xs i.1

pub every_set : {A : Type 0} (P : A → Type 0) (xs : List A) (k : ℕ) (x : A) → Every P xs → P x →
    Every P (slice_set xs k x)
every_set P [] k x i j = tt
every_set P (y ∷ ys) zero x i j = (j, i.1)
every_set P (y ∷ ys) (suc k) x i j = (i.0, every_set P ys k x i.1 j)

-- the values of a stack below its n operands
abbrev below_top : ℕ → List Value → List Value
below_top n xs = take (length xs - n) xs

-- ---- over a heap that keeps the records
made_stays : (h h1 : Heap) (v : Value) → Extends h h1 → IsMade h v → IsMade h1 v
made_stays h h1 Unset x i = tt
made_stays h h1 (Ref a) x i = ref_stays h h1 x Instance (Ref a) i
made_stays h h1 NoneValue x i = absurd i
made_stays h h1 (BoolValue b) x i = absurd i
made_stays h h1 (Int n) x i = absurd i
made_stays h h1 (Builtin b) x i = absurd i

names_stay : (h h1 : Heap) (o : Option Addr) (v : Value) → Extends h h1 → HasNames h o v → HasNames h1 o v
names_stay h h1 (Some d) v x i = (ref_stays h h1 x Dict (Ref d) i.0, ref_stays h h1 x Class v i.1)
names_stay h h1 None v x i = made_stays h h1 v x i

pub frame_stays : (p : Program) (h h1 : Heap) (extra : ℕ) (f : Frame) → Extends h h1 → IsFrame p h extra f →
    IsFrame p h1 extra f
frame_stays p h h1 extra f x i = record {
  is = i.is;
  typing = i.typing;
  typed = i.typed;
  shape = i.shape;
  begun = i.begun;
  blocks = i.blocks;
  slots = i.slots;
  held = every_weaken (Refers h) (Refers h1) (λ v j. refers_stays h h1 x v j) f.slots i.held;
  stacked = every_weaken (Refers h) (Refers h1) (λ v j. refers_stays h h1 x v j) f.stack i.stacked;
  names = names_stay h h1 f.names f.made x i.names;
  body = i.body;
}

pub frames_stay : (p : Program) (h h1 : Heap) (extra : ℕ) (fs : List Frame) → Extends h h1 → AreFrames p h extra fs →
    AreFrames p h1 extra fs
frames_stay p h h1 extra [] x i = tt
frames_stay p h h1 extra (f ∷ fs) x i = (frame_stays p h h1 extra f x i.0, frames_stay p h h1 1 fs x i.1)

pub goes_stays : (p : Program) (h h1 : Heap) (d : Option Dying) (fs : List Frame) → Extends h h1 → CanGoOn p h d fs →
    CanGoOn p h1 d fs
goes_stays p h h1 (Some d) fs x i = ref_stays h h1 x Instance d.exc i
goes_stays p h h1 None fs x i = frames_stay p h h1 0 fs x i

pub thread_stays : (h h1 : Heap) (o : Option Addr) → Extends h h1 → IsThread h o → IsThread h1 o
thread_stays h h1 None x i = tt
thread_stays h h1 (Some a) x i = ref_stays h h1 x _ (Ref a) i

pub state_stays : (p : Program) (r : Addr) (h h1 : Heap) (s : State) → Extends h h1 → IsState p r h s → IsState p r h1 s
state_stays p r h h1 s x i = record {
  roots_are = i.roots_are;
  thread = thread_stays h h1 s.thread x i.thread;
  goes =
      goes_stays p h h1 s.dying s.frames x i.goes;
}

-- ---- shapes
abbrev sh : ℕ → List ℕ → Sh
sh n bs = record { height = n; blocks = bs }

sh_same : (o : Option Sh) (a b : ℕ) (bs : List ℕ) → o ≡ Some (sh a bs) → a ≡ b → o ≡ Some (sh b bs)
sh_same o a b bs i e = i ∙ ap (λ n. Some (sh n bs)) e

blocks_over : (t : List (Option Sh)) (first n m : ℕ) (bs : List Block) → BlocksFit t first n bs →
    floor_of (heights bs) ≤ m → BlocksFit t first m bs
blocks_over t first n m [] i l = tt
blocks_over t first n m (b ∷ bs) i l = (l, i.1, i.2, i.3)

cut_length : (n : ℕ) (xs ys : List Value) → length (below_top n xs ++ ys) ≡ length xs - n + length ys
cut_length n xs ys = length-append (below_top n xs) ys ∙
    ap (λ k. k + length ys) (length-take-le (length xs - n) xs (omega arith))

module _ (p : Program) (h : Heap) where
  module _ (f : Frame) (n : ℕ) (i : IsFrame p h 0 f) where
    -- a frame at another place, with other values on its stack
    moved : (extra : ℕ) (ys : List Value) (q : ℕ) → floor_of (heights f.blocks) + n ≤ length f.stack + 0 →
        Every (Refers h) ys → first_place f.code ≤ q
        → shape_at i.typing q ≡ Some (sh (length f.stack + 0 - n + (length ys + extra)) (heights f.blocks)) →
        IsFrame p h extra (advanced n ys q f)
    moved extra ys q l c b e =
        let same : length (below_top n f.stack ++ ys) ≡ length f.stack - n + length ys = cut_length n f.stack ys in
        record {
          is = i.is;
          typing = i.typing;
          typed = i.typed;
          shape = sh_same (shape_at i.typing q) (length f.stack + 0 - n + (length ys + extra))
              (length (below_top n f.stack ++ ys) + extra) (heights f.blocks) e (omega (arith, same));
          begun = b;
          blocks = blocks_over i.typing (first_place f.code) (length f.stack) (length (below_top n f.stack ++ ys))
              f.blocks i.blocks (omega (arith, l, same));
          slots = i.slots;
          held = i.held;
          stacked = every_and (Refers h) (below_top n f.stack) ys
              (every_take (Refers h) (length f.stack - n) f.stack i.stacked) c;
          names = i.names;
          body = i.body;
        }

  -- another value in a slot
  stored : (g : Frame) (j : ℕ) (x : Value) → IsFrame p h 0 g → Refers h x →
      IsFrame p h 0 (record g { slots = slice_set g.slots j x })
  stored g j x m c = record {
    is = m.is;
    typing = m.typing;
    typed = m.typed;
    shape = m.shape;
    begun = m.begun;
    blocks =
        m.blocks;
    slots = length-set g.slots j x ∙ m.slots;
    held = every_set (Refers h) g.slots j x m.held c;
    stacked =
        m.stacked;
    names = m.names;
    body = m.body;
  }

  -- ---- raising
  handled_fits : (extra : ℕ) (x : Value) (f : Frame) (b : Block) (bs : List Block) → f.blocks ≡ b ∷ bs → Refers h x →
      IsFrame p h extra f → IsFrame p h 0 (handled x f b bs)
  handled_fits extra x f b bs e c i =
      let fit : BlocksFit i.typing (first_place f.code) (length f.stack) (b ∷ bs) =
      subst (BlocksFit i.typing (first_place f.code) (length f.stack)) e i.blocks in
      let same : length (take b.height f.stack ++ x ∷ []) ≡ b.height + 1 =
      length-append (take b.height f.stack) (x ∷ []) ∙ ap (λ k. k + 1) (length-take-le b.height f.stack fit.0) in
      record {
        is = i.is;
        typing = i.typing;
        typed = i.typed;
        shape = sh_same (shape_at i.typing b.handler) (b.height + 1) (length (take b.height f.stack ++ x ∷ []) + 0)
            (heights bs) fit.2 (omega (arith, same));
        begun = fit.1;
        blocks = blocks_under i.typing (first_place f.code) b.height (length (take b.height f.stack ++ x ∷ [])) bs
            fit.3 (omega (arith, same));
        slots = i.slots;
        held = i.held;
        stacked = every_and (Refers h) (take b.height f.stack) (x ∷ [])
            (every_take (Refers h) b.height f.stack i.stacked) (c, tt);
        names = i.names;
        body = i.body;
      }
    where
      blocks_under : (t : List (Option Sh)) (first n m : ℕ) (bs : List Block) → BlocksFit t first n bs → n ≤ m →
          BlocksFit t first m bs
      blocks_under t first n m [] i l = tt
      blocks_under t first n m (b ∷ bs) i l = (let z = i.0 in omega (arith, z, l), i.1, i.2, i.3)

  pub unwound_fits : (extra : ℕ) (x : Value) (fs : List Frame) → Refers h x → AreFrames p h extra fs →
      AreFrames p h 0 (unwound x fs)
  unwound_fits extra x [] c i = tt
  unwound_fits extra x (f ∷ fs) c i = by f.blocks refl (unwound_fits 1 x fs c i.1)
    where
      by : (bs : List Block) → f.blocks ≡ bs → AreFrames p h 0 (unwound x fs) →
          AreFrames p h 0 (unwound_by x f fs bs (unwound x fs))
      by [] e more = more
      by (b ∷ bs) e more = (handled_fits extra x f b bs e c i.0, i.1)

  thrown_fits : (s : State) (x : Value) (line : ℕ) (fs : List Frame) → s.dying ≡ None → RefTo h Instance x →
      AreFrames p h 0 fs → let t = thrown_to s x line fs in CanGoOn p h t.dying t.frames
  thrown_fits s x line (f ∷ fs) e c i = subst (λ d. CanGoOn p h d (f ∷ fs)) (sym e) i
  thrown_fits s x line [] e c i = c

  -- ---- returning
  pushed_fits : (x : Value) (g : Frame) → Refers h x → IsFrame p h 1 g → IsFrame p h 0 (pushed x g)
  pushed_fits x g c i =
      let same : length (g.stack ++ x ∷ []) ≡ length g.stack + 1 = length-append g.stack (x ∷ []) in
      record {
        is = i.is;
        typing = i.typing;
        typed = i.typed;
        shape = sh_same (shape_at i.typing g.pc) (length g.stack + 1) (length (g.stack ++ x ∷ []) + 0)
            (heights g.blocks) i.shape (omega (arith, same));
        begun = i.begun;
        blocks = blocks_more i.typing (first_place g.code) (length g.stack) (length (g.stack ++ x ∷ [])) g.blocks
            i.blocks (omega (arith, same));
        slots = i.slots;
        held = i.held;
        stacked = every_and (Refers h) g.stack (x ∷ []) i.stacked (c, tt);
        names = i.names;
        body = i.body;
      }
    where
      blocks_more : (t : List (Option Sh)) (first n m : ℕ) (bs : List Block) → BlocksFit t first n bs → n ≤ m →
          BlocksFit t first m bs
      blocks_more t first n m [] i l = tt
      blocks_more t first n m (b ∷ bs) i l = (let z = i.0 in omega (arith, z, l), i.1, i.2, i.3)

  returned_fits : (s : State) (x : Value) (fs : List Frame) → s.dying ≡ None → Refers h x → AreFrames p h 1 fs →
      let t = (returned s x fs).1 in CanGoOn p h t.dying t.frames
  returned_fits s x [] e c i = subst (λ d. CanGoOn p h d []) (sym e) tt
  returned_fits s x (g ∷ fs) e c i = subst (λ d. CanGoOn p h d (pushed x g ∷ fs)) (sym e) (pushed_fits x g c i.0, i.1)

  value_of : (k : _) (x : Value) → RefTo h k x → Refers h x
  value_of k (Ref a) i = has_of (h a.0) i
    where
      has_of : (o : Option Rec) → KindIn o (λ q. q ≡ k) → is_some o ≡ true
      has_of None i = absurd i
      has_of (Some r) i = refl
  value_of k Unset i = tt
  value_of k NoneValue i = tt
  value_of k (BoolValue b) i = tt
  value_of k (Int n) i = tt
  value_of k (Builtin b) i = absurd i

  -- ---- what an instruction leads to
  module _ (s : State) (e : s.dying ≡ None) (f : Frame) (fs : List Frame) (i : IsFrame p h 0 f)
      (below : AreFrames p h 1 fs) (instr : Instr) where
    abbrev k : Limits
    k = limits p f

    abbrev n : ℕ
    n = let z = effect k instr in z.pops

    module _ (right : RightAt k i.typing f.pc instr (sh (length f.stack + 0) (heights f.blocks))) where
      through : (fl : Flow) (pops pushes : ℕ) → effect k instr ≡ record { pops = pops; pushes = pushes; flow = fl } →
          IsThrough fl
          → shape_at i.typing (f.pc + 1) ≡ Some (sh (length f.stack + 0 - pops + pushes) (heights f.blocks))
      through On pops pushes d t = subst
          (λ z. IsTrue (goes_on z.flow) →
          shape_at i.typing (f.pc + 1) ≡ Some (after z (sh (length f.stack + 0) (heights f.blocks)))) d
          right.leads.next refl
      through (Fork u m) pops pushes d t =
          subst (λ z. IsTrue (goes_on z.flow) →
          shape_at i.typing (f.pc + 1) ≡ Some (after z (sh (length f.stack + 0) (heights f.blocks)))) d
          right.leads.next refl
      through Ends pops pushes d t = absurd t
      through (Over u) pops pushes d t = absurd t
      through (OpensFlow u) pops pushes d t = absurd t
      through ClosesFlow pops pushes d t = absurd t

      abbrev Led : Effect → Type 0
      Led z = (q : ℕ) → target_of z.flow ≡ Some q →
          (first_place f.code ≤ q) × (shape_at i.typing q ≡ Some (there z (sh (length f.stack + 0) (heights f.blocks))))

      leading : (fl : Flow) (pops pushes t m : ℕ) → effect k instr ≡ record { pops = pops; pushes = pushes; flow = fl }
          → IsTo fl t m
          → (first_place f.code ≤ t) × (shape_at i.typing t ≡ Some
          (sh (length f.stack + 0 - pops + m) (heights f.blocks)))
      leading (Over u) pops pushes t m d c =
          let z = subst Led d right.leads.jump u refl in
          subst (λ q. (first_place f.code ≤ q) ×
          (shape_at i.typing q ≡ Some (sh (length f.stack + 0 - pops + m) (heights f.blocks)))) (sym c.0)
          (subst (λ q. (first_place f.code ≤ u) ×
          (shape_at i.typing u ≡ Some (sh (length f.stack + 0 - pops + q) (heights f.blocks)))) (sym c.1) z)
      leading (Fork u w) pops pushes t m d c =
          let z = subst Led d right.leads.jump u refl in
          subst (λ q. (first_place f.code ≤ q) ×
          (shape_at i.typing q ≡ Some (sh (length f.stack + 0 - pops + m) (heights f.blocks)))) (sym c.0)
          (subst (λ q. (first_place f.code ≤ u) ×
          (shape_at i.typing u ≡ Some (sh (length f.stack + 0 - pops + q) (heights f.blocks)))) (sym c.1) z)
      leading On pops pushes t m d c = absurd c
      leading Ends pops pushes t m d c = absurd c
      leading (OpensFlow u) pops pushes t m d c = absurd c
      leading ClosesFlow pops pushes t m d c = absurd c

      next_begun : first_place f.code ≤ f.pc + 1
      next_begun = let z = i.begun in omega (arith, z)

      running : (g : Frame) (gs : List Frame) → IsFrame p h 0 g → AreFrames p h 1 gs → CanGoOn p h s.dying (g ∷ gs)
      running g gs a b = subst (λ d. CanGoOn p h d (g ∷ gs)) (sym e) (a, b)

      -- with no operands and nothing pushed, at the next place, with another block
      opened_fits : (t : ℕ) (fl : Flow) (pops pushes : ℕ) →
          effect k instr ≡ record { pops = pops; pushes = pushes; flow = fl } → IsOpening fl t → pops ≡ 0 → pushes ≡ 0
          → IsFrame p h 0 (record (advanced pops [] (f.pc + 1) f)
          { blocks = record { handler = t; height = length f.stack - pops } ∷ f.blocks })
      opened_fits t (OpensFlow u) pops pushes d c a b =
          let same : length (below_top pops f.stack ++ []) ≡ length f.stack - pops + 0 = cut_length pops f.stack [] in
          let tall : length f.stack ≡ length f.stack - pops = omega (arith, a) in
          let led = subst Led d right.leads.jump u refl in
          let more : shape_at i.typing (f.pc + 1) ≡ Some
          (sh (length f.stack + 0 - pops + pushes) ((length f.stack + 0) ∷ heights f.blocks)) =
          subst (λ z. IsTrue (goes_on z.flow) →
          shape_at i.typing (f.pc + 1) ≡ Some (after z (sh (length f.stack + 0) (heights f.blocks)))) d
          right.leads.next refl in
          let high : length f.stack + 0 ≡ length f.stack - pops = omega (arith, a) in
          let here : shape_at i.typing (f.pc + 1) ≡ Some
          (sh (length f.stack + 0 - pops + pushes) ((length f.stack - pops) ∷ heights f.blocks)) = more ∙
          ap (λ z. Some (sh (length f.stack + 0 - pops + pushes) (z ∷ heights f.blocks))) high in
          record {
            is = i.is;
            typing = i.typing;
            typed = i.typed;
            shape = sh_same (shape_at i.typing (f.pc + 1)) (length f.stack + 0 - pops + pushes)
                (length (below_top pops f.stack ++ []) + 0) ((length f.stack - pops) ∷ heights f.blocks) here
                (omega (arith, same, a, b));
            begun = next_begun;
            blocks = (
              omega (arith, same),
              subst (λ q. first_place f.code ≤ q) (sym c) led.0,
              subst (λ q. shape_at i.typing q ≡ Some (sh (length f.stack - pops + 1) (heights f.blocks))) (sym c)
                  (sh_same (shape_at i.typing u) (length f.stack + 0 - pops + 1) (length f.stack - pops + 1)
                  (heights f.blocks) led.1 (omega (arith, a))),
              subst (λ q. BlocksFit i.typing (first_place f.code) q f.blocks) tall i.blocks,
            );
            slots = i.slots;
            held = i.held;
            stacked = every_and (Refers h) (below_top pops f.stack) []
                (every_take (Refers h) (length f.stack - pops) f.stack i.stacked) tt;
            names = i.names;
            body = i.body;
          }
      opened_fits t On pops pushes d c a b = absurd c
      opened_fits t Ends pops pushes d c a b = absurd c
      opened_fits t (Over u) pops pushes d c a b = absurd c
      opened_fits t (Fork u w) pops pushes d c a b = absurd c
      opened_fits t ClosesFlow pops pushes d c a b = absurd c

      closed_by : (bs : List Block) → f.blocks ≡ bs → HasBlock ClosesFlow (heights f.blocks) → (pops pushes : ℕ) →
          pushes ≡ 0 → floor_of (heights f.blocks) + pops ≤ length f.stack + 0
          → shape_at i.typing (f.pc + 1) ≡ Some (sh (length f.stack + 0 - pops + pushes) (tail_of (heights f.blocks)))
          → IsFrame p h 0 (record (advanced pops [] (f.pc + 1) f) { blocks = drop 1 f.blocks })
      closed_by [] q has pops pushes b l here = absurd (subst (λ z. HasBlock ClosesFlow (heights z)) q has)
      closed_by (x ∷ bs) q has pops pushes b l here =
          let same : length (below_top pops f.stack ++ []) ≡ length f.stack - pops + 0 = cut_length pops f.stack [] in
          let fit : BlocksFit i.typing (first_place f.code) (length f.stack) (x ∷ bs) =
          subst (BlocksFit i.typing (first_place f.code) (length f.stack)) q i.blocks in
          let low : x.height + pops ≤ length f.stack + 0 =
          subst (λ z. floor_of (heights z) + pops ≤ length f.stack + 0) q l in
          record {
            is = i.is;
            typing = i.typing;
            typed = i.typed;
            shape =
                let there : shape_at i.typing (f.pc + 1) ≡ Some
                (sh (length f.stack + 0 - pops + pushes) (heights (drop 1 f.blocks))) = here ∙
                ap (λ z. Some (sh (length f.stack + 0 - pops + pushes) z))
                (ap (λ z. tail_of (heights z)) q ∙ sym (ap (λ z. heights (drop 1 z)) q)) in
                sh_same (shape_at i.typing (f.pc + 1)) (length f.stack + 0 - pops + pushes)
                (length (below_top pops f.stack ++ []) + 0) (heights (drop 1 f.blocks)) there
                (omega (arith, same, b));
            begun = next_begun;
            blocks = subst (λ z. BlocksFit i.typing (first_place f.code) (length (below_top pops f.stack ++ []))
                (drop 1 z)) (sym q) (blocks_up i.typing (first_place f.code) x.height
                (length (below_top pops f.stack ++ [])) bs fit.3 (omega (arith, same, low)));
            slots = i.slots;
            held = i.held;
            stacked = every_and (Refers h) (below_top pops f.stack) []
                (every_take (Refers h) (length f.stack - pops) f.stack i.stacked) tt;
            names = i.names;
            body = i.body;
          }
        where
          blocks_up : (t : List (Option Sh)) (first n m : ℕ) (bs : List Block) → BlocksFit t first n bs → n ≤ m →
              BlocksFit t first m bs
          blocks_up t first n m [] i l = tt
          blocks_up t first n m (b ∷ bs) i l = (let z = i.0 in omega (arith, z, l), i.1, i.2, i.3)

      closed_fits : (fl : Flow) (pops pushes : ℕ) → effect k instr ≡ record { pops = pops; pushes = pushes; flow = fl }
          → IsClosing fl → pushes ≡ 0 → floor_of (heights f.blocks) + pops ≤ length f.stack + 0
          → IsFrame p h 0 (record (advanced pops [] (f.pc + 1) f) { blocks = drop 1 f.blocks })
      closed_fits ClosesFlow pops pushes d c b l =
          closed_by f.blocks refl (subst (λ z. HasBlock z.flow (heights f.blocks)) d right.fine.block) pops pushes b l
          (subst (λ z. IsTrue (goes_on z.flow) →
          shape_at i.typing (f.pc + 1) ≡ Some (after z (sh (length f.stack + 0) (heights f.blocks)))) d
          right.leads.next refl)
      closed_fits On pops pushes d c b l = absurd c
      closed_fits Ends pops pushes d c b l = absurd c
      closed_fits (Over u) pops pushes d c b l = absurd c
      closed_fits (Fork u w) pops pushes d c b l = absurd c
      closed_fits (OpensFlow u) pops pushes d c b l = absurd c

      pub settled_fits : (frames : s.frames ≡ f ∷ fs) (next : Next) → Fits p (effect k instr) f next h → let t =
          (settled p s n f fs next).1 in CanGoOn p h t.dying t.frames
      unfolding settled
      settled_fits frames (Goes ys) c =
          let z = effect k instr in
          let here = through z.flow z.pops z.pushes refl c.0 in
          running (advanced n ys (f.pc + 1) f) fs
          (moved f n i 0 ys (f.pc + 1) right.fine.operands c.2 next_begun
          (sh_same (shape_at i.typing (f.pc + 1)) (length f.stack + 0 - n + z.pushes)
          (length f.stack + 0 - n + (length ys + 0)) (heights f.blocks) here (let l = c.1 in omega (arith, l))))
          below
      settled_fits frames (Jumps t ys) c =
          let z = effect k instr in
          let here = leading z.flow z.pops z.pushes t (length ys) refl c.0 in
          running (advanced n ys t f) fs
          (moved f n i 0 ys t right.fine.operands c.1 here.0
          (sh_same (shape_at i.typing t) (length f.stack + 0 - n + length ys)
          (length f.stack + 0 - n + (length ys + 0)) (heights f.blocks) here.1 (omega arith))) below
      settled_fits frames (Stores j x) c =
          let z = effect k instr in
          let here = through z.flow z.pops z.pushes refl c.0 in
          let m = moved f n i 0 [] (f.pc + 1) right.fine.operands tt next_begun
          (sh_same (shape_at i.typing (f.pc + 1)) (length f.stack + 0 - n + z.pushes)
          (length f.stack + 0 - n + (0 + 0)) (heights f.blocks) here (let l = c.1 in omega (arith, l))) in
          running (record (advanced n [] (f.pc + 1) f) { slots = slice_set f.slots j x }) fs
          (stored (advanced n [] (f.pc + 1) f) j x m c.3)
          below
      settled_fits frames (Opens t) c =
          let z = effect k instr in
          running (record (advanced n [] (f.pc + 1) f)
          { blocks = record { handler = t; height = length f.stack - n } ∷ f.blocks }) fs
          (opened_fits t z.flow z.pops z.pushes refl c.0 c.1 c.2) below
      settled_fits frames Closes c =
          let z = effect k instr in
          running (record (advanced n [] (f.pc + 1) f) { blocks = drop 1 f.blocks }) fs
          (closed_fits z.flow z.pops z.pushes refl c.0 c.1 right.fine.operands) below
      settled_fits frames (Enters g) c =
          let z = effect k instr in
          let here = through z.flow z.pops z.pushes refl c.0 in
          running g (advanced n [] (f.pc + 1) f ∷ fs) c.2 (
            moved f n i 1 [] (f.pc + 1) right.fine.operands tt next_begun
                (sh_same (shape_at i.typing (f.pc + 1)) (length f.stack + 0 - n + z.pushes)
                (length f.stack + 0 - n + (0 + 1)) (heights f.blocks) here (let l = c.1 in omega (arith, l))),
            below,
          )
      settled_fits frames (Leaves x) c = returned_fits s x fs e c below
      settled_fits frames (Fails x) c = thrown_fits s x (line_at p f) (unwound x fs) e c
          (unwound_fits 1 x fs (value_of Instance x c) below)
      settled_fits frames (Begins a) c = absurd c
      settled_fits frames (Throws x) c = thrown_fits s x (line_at p f) (unwound x (f ∷ fs)) e c
          (unwound_fits 0 x (f ∷ fs) (value_of Instance x c) (i, below))
      settled_fits frames Waits c = subst (λ z. CanGoOn p h s.dying z) (sym frames) (running f fs i below)
