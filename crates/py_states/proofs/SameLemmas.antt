-- Equal frames lie in memory in the same way.
use Rattle.std.proofs.Common.{arith, ◌≡◌, ℕ, ◌+◌, ◌-◌, ◌≤◌, Bool, true, false, List, [], ◌∷◌, ◌++◌, length, take, drop, reverse, IsTrue, ◌↔◌, refl, sym, ap, ◌∙◌}
use Rattle.std.proofs.lemmas.List.{length-take-le, length-drop, take-append-drop, reverse-reverse}
use Rattle.py_data.specs.declared.value.Value.{Value}
use Rattle.py_frames.specs.declared.state.Block.{Block}
use Rattle.py_frames.specs.declared.state.Frame.{Frame}
use Rattle.py_states.specs.declared.head.Head.{Head}
use Rattle.py_states.specs.Innermost.{innermost}
use Rattle.py_states.specs.inner.Laid.{frame_of, laid, IsLaid}

-- the three lists are the same
pub record Alike (hs ks : List Head) (vs ws : List Value) (bs cs : List Block) : Type 0 where
  pub heads : hs ≡ ks
  pub values : vs ≡ ws
  pub blocks : bs ≡ cs

pub alike_frames : {hs ks : List Head} {vs ws : List Value} {bs cs : List Block} → Alike hs ks vs ws bs cs →
    laid hs vs bs ≡ laid ks ws cs
alike_frames a = λ i. laid (a.heads i) (a.values i) (a.blocks i)

-- lists that are cut at equal places into equal parts
joined : {A : Type 0} (n m : ℕ) (xs ys : List A) → take n xs ≡ take m ys → drop n xs ≡ drop m ys → xs ≡ ys
joined n m xs ys e q = sym (take-append-drop n xs) ∙ ((λ i. e i ++ q i) ∙ take-append-drop m ys)

cut_same : {A : Type 0} (n m : ℕ) (xs ys : List A) → n ≤ length xs → m ≤ length ys → take n xs ≡ take m ys → n ≡ m
cut_same n m xs ys l k e = sym (length-take-le n xs l) ∙ (ap length e ∙ length-take-le m ys k)

own_slots : (b s : ℕ) (vs : List Value) → b + s ≤ length vs → s ≤ length (drop b vs)
own_slots b s vs l = let e : length (drop b vs) ≡ length vs - b = length-drop b vs in omega (arith, l, e)

one_alike : (h k : Head) (hs ks : List Head) (vs ws : List Value) (bs cs : List Block) → h.base + h.slots ≤ length vs →
    k.base + k.slots ≤ length ws
    → h.blocks ≤ length bs → k.blocks ≤ length cs → frame_of h (drop h.base vs) (take h.blocks bs) ≡ frame_of k
    (drop k.base ws) (take k.blocks cs)
    → Alike hs ks (take h.base vs) (take k.base ws) (drop h.blocks bs) (drop k.blocks cs) →
    Alike (h ∷ hs) (k ∷ ks) vs ws bs cs
one_alike h k hs ks vs ws bs cs l m n o f a =
    let p : take h.slots (drop h.base vs) ≡ take k.slots (drop k.base ws) = ap (λ (z : Frame). z.slots) f in
    let q : drop h.slots (drop h.base vs) ≡ drop k.slots (drop k.base ws) = ap (λ (z : Frame). z.stack) f in
    let r : take h.blocks bs ≡ take k.blocks cs = ap (λ (z : Frame). z.blocks) f in
    let base : h.base ≡ k.base = cut_same h.base k.base vs ws (omega (arith, l)) (omega (arith, m)) a.values in
    let slots : h.slots ≡ k.slots = cut_same h.slots k.slots (drop h.base vs) (drop k.base ws)
    (own_slots h.base h.slots vs l) (own_slots k.base k.slots ws m) p in
    let blocks : h.blocks ≡ k.blocks = cut_same h.blocks k.blocks bs cs n o r in
    let code : h.code ≡ k.code = ap (λ (z : Frame). z.code) f in
    let pc : h.pc ≡ k.pc = ap (λ (z : Frame). z.pc) f in
    let made : h.made ≡ k.made = ap (λ (z : Frame). z.made) f in
    let names : h.names ≡ k.names = ap (λ (z : Frame). z.names) f in
    record {
      heads = λ i. record {
        code = code i;
        pc = pc i;
        made = made i;
        names = names i;
        base = base i;
        slots = slots i;
        blocks = blocks i;
      } ∷ a.heads i;
      values = joined h.base k.base vs ws a.values (joined h.slots k.slots (drop h.base vs) (drop k.base ws) p q);
      blocks = joined h.blocks k.blocks bs cs r a.blocks;
    }

pub frames_alike : (hs ks : List Head) (vs ws : List Value) (bs cs : List Block) → IsLaid hs vs bs → IsLaid ks ws cs →
    laid hs vs bs ≡ laid ks ws cs → Alike hs ks vs ws bs cs
frames_alike [] [] vs ws bs cs l m e = record { heads = refl; values = l.0 ∙ sym m.0; blocks = l.1 ∙ sym m.1 }
frames_alike [] (k ∷ ks) vs ws bs cs l m e = absurd (cc)
frames_alike (h ∷ hs) [] vs ws bs cs l m e = absurd (cc)
frames_alike (h ∷ hs) (k ∷ ks) vs ws bs cs l m e =
    one_alike h k hs ks vs ws bs cs l.0 m.0 l.1 m.1 (ap innermost e)
    (frames_alike hs ks (take h.base vs) (take k.base ws) (drop h.blocks bs) (drop k.blocks cs) l.2 m.2 (ap (drop 1) e))

-- ---- what tests of the lists tell

-- the lists of two piles are equal where the piles are
pub piles : {A : Type 0} (xs ys es fs : List A) → es ≡ reverse xs → fs ≡ reverse ys → es ≡ fs → xs ≡ ys
piles xs ys es fs e f q = sym (reverse-reverse xs) ∙ (ap reverse (sym e ∙ (q ∙ f)) ∙ reverse-reverse ys)

-- a test that says no of a part
pub differ : {P Q : Type 0} (b : Bool) → IsTrue b ↔ Q → b ≡ false → (P → Q) → IsTrue false ↔ P
differ b i e f = ((λ t. absurd (cc)), λ p. let t : b ≡ true = i.1 (f p) in let u : false ≡ true = sym e ∙ t in u)
