-- What changes of the three lists make of the frames.
use Rattle.std.proofs.Common.{arith, ◌≡◌, ℕ, zero, suc, min, ◌+◌, ◌-◌, ◌<◌, ◌≤◌, ◌==◌, cond, List, [], ◌∷◌, ◌++◌, append_assoc, length, take, drop, drop_of_length-le, replicate, Option, Some, None, ◌≢◌, refl, sym, ap, subst, ◌∙◌, slice_set, eq-eqb}
use Rattle.std.proofs.Math.Dec.{eqb-suc-zero}
use Rattle.std.proofs.lemmas.Bool.{ne_eqb}
use Rattle.std.proofs.lemmas.List.{length-drop, length-take, length-take-le, take-take, take-append-le, drop-append-le, drop-drop, drop-take, take_at, drop_at, take_min, append-nil, take-set-le, set_past, take_all, drop-set-add, drop-set-lt}
use Rattle.py_data.specs.declared.value.Value.{Value}
use Rattle.py_frames.specs.declared.state.Block.{Block}
use Rattle.py_frames.specs.declared.state.Frame.{Frame}
use Rattle.py_data.specs.declared.value.Value.TheVariants.{Unset}
use Rattle.py_frames.specs.Binding.{entered, unset_slots}
use Rattle.py_frames.specs.State.{advanced, operands, pushed, stored}
use Rattle.py_states.specs.Innermost.{innermost}
use Rattle.py_states.specs.declared.head.Head.{Head}
use Rattle.py_states.specs.inner.Laid.{frame_of, laid, moved, IsLaid, opening}
use Rattle.py_states.specs.inner.Changes.{on_top, restacked, placed, catching, catching_by}
use Rattle.py_states.proofs.TopLemmas.{pushed_is}

-- there is a frame for each head
pub length_laid : (hs : List Head) (vs : List Value) (bs : List Block) → length (laid hs vs bs) ≡ length hs
length_laid [] vs bs = refl
length_laid (h ∷ hs) vs bs = ap suc (length_laid hs (take h.base vs) (drop h.blocks bs))

-- ---- the stack of the innermost frame, which lies above a floor of b values and s slots: of its values the first m
-- stay, so that k values stay in all, and others come behind them

module _ (b s m k : ℕ) (vs ys : List Value) (low : b + s ≤ length vs) (is : k ≡ length vs - (length vs - b - s - m))
  where
    kept : length (take k vs) ≡ k
    kept = length-take-le k vs (omega (arith, is))

    cut_low : take b (take k vs ++ ys) ≡ take b vs
    cut_low = take-append-le b (take k vs) ys (omega (arith, low, is, kept)) ∙ take-take b k vs (omega (arith, low, is))

    cut_own : drop b (take k vs ++ ys) ≡ take (k - b) (drop b vs) ++ ys
    cut_own =
        let e : k ≡ b + (k - b) = omega (arith, low, is) in
        drop-append-le b (take k vs) ys (omega (arith, low, is, kept)) ∙
        ap (λ z. z ++ ys) (ap (λ n. drop b (take n vs)) e ∙ drop-take b (k - b) vs)

    own : length (drop b vs) ≡ length vs - b
    own = length-drop b vs

    stays : length (take (k - b) (drop b vs)) ≡ k - b
    stays = length-take-le (k - b) (drop b vs) (omega (arith, is, own))

    cut_slots : take s (drop b (take k vs ++ ys)) ≡ take s (drop b vs)
    cut_slots =
        ap (take s) cut_own
        ∙ (take-append-le s (take (k - b) (drop b vs)) ys (omega (arith, low, is, stays)) ∙
        take-take s (k - b) (drop b vs) (omega (arith, low, is)))

    above : length (drop s (drop b vs)) ≡ length vs - b - s
    above = length-drop s (drop b vs) ∙ ap (λ n. n - s) own

    cut_stack : drop s (drop b (take k vs ++ ys)) ≡ take m (drop s (drop b vs)) ++ ys
    cut_stack =
        let e : k - b ≡ s + (k - b - s) = omega (arith, low, is) in
        let f : k - b - s ≡ min m (length (drop s (drop b vs))) = omega (arith, low, is, above) in
        ap (drop s) cut_own
        ∙ (drop-append-le s (take (k - b) (drop b vs)) ys (omega (arith, low, is, stays))
        ∙ ap (λ z. z ++ ys)
        (ap (λ n. drop s (take n (drop b vs))) e
        ∙ (drop-take s (k - b - s) (drop b vs)
        ∙ (ap (λ n. take n (drop s (drop b vs))) f ∙ take_min m (drop s (drop b vs))))))

restacked_cons : (h : Head) (hs : List Head) (m k : ℕ) (vs ys : List Value) (bs : List Block) →
    h.base + h.slots ≤ length vs → k ≡ length vs - (length vs - h.base - h.slots - m)
    → laid (h ∷ hs) (take k vs ++ ys) bs ≡ on_top (restacked m ys) (laid (h ∷ hs) vs bs)
restacked_cons h hs m k vs ys bs low is =
    let p = cut_slots h.base h.slots m k vs ys low is in
    let q = cut_stack h.base h.slots m k vs ys low is in
    let r = cut_low h.base h.slots m k vs ys low is in
    λ i. record {
      code = h.code;
      pc = h.pc;
      slots = p i;
      stack = q i;
      blocks = take h.blocks bs;
      made = h.made;
      names =
          h.names;
    } ∷ laid hs (r i) (drop h.blocks bs)

pub restacked_laid : (h : Head) (hs : List Head) (m k : ℕ) (vs ys : List Value) (bs : List Block) → hs ≡ h ∷ drop 1 hs
    → IsLaid hs vs bs
    → k ≡ length vs - (length vs - h.base - h.slots - m) → laid hs (take k vs ++ ys) bs ≡ on_top (restacked m ys)
    (laid hs vs bs)
restacked_laid h hs m k vs ys bs e laid_so is =
    let whole : IsLaid (h ∷ drop 1 hs) vs bs = subst (λ z. IsLaid z vs bs) e laid_so in
    subst (λ z. laid z (take k vs ++ ys) bs ≡ on_top (restacked m ys) (laid z vs bs)) (sym e)
    (restacked_cons h (drop 1 hs) m k vs ys bs whole.0 is)

-- one value more
pushed_cons : (x : Value) (h : Head) (hs : List Head) (vs : List Value) (bs : List Block) →
    h.base + h.slots ≤ length vs → laid (h ∷ hs) (vs ++ x ∷ []) bs ≡ on_top (pushed x) (laid (h ∷ hs) vs bs)
pushed_cons x h hs vs bs low =
    let n : ℕ = length vs in
    let m : ℕ = n - h.base - h.slots in
    let own : length (drop h.base vs) ≡ n - h.base = length-drop h.base vs in
    let tall : length (drop h.slots (drop h.base vs)) ≡ m =
    length-drop h.slots (drop h.base vs) ∙ ap (λ z. z - h.slots) own in
    ap (λ z. laid (h ∷ hs) (z ++ x ∷ []) bs) (sym (take_all n vs (omega arith)))
    ∙ (restacked_cons h hs m n vs (x ∷ []) bs low (omega (arith, low))
    ∙ pushed_is m x (laid (h ∷ hs) vs bs) (sym tall))

pub pushed_laid : (x : Value) (h : Head) (hs : List Head) (vs : List Value) (bs : List Block) → hs ≡ h ∷ drop 1 hs →
    IsLaid hs vs bs → laid hs (vs ++ x ∷ []) bs ≡ on_top (pushed x) (laid hs vs bs)
pushed_laid x h hs vs bs e laid_so =
    let whole : IsLaid (h ∷ drop 1 hs) vs bs = subst (λ z. IsLaid z vs bs) e laid_so in
    subst (λ z. laid z (vs ++ x ∷ []) bs ≡ on_top (pushed x) (laid z vs bs)) (sym e)
    (pushed_cons x h (drop 1 hs) vs bs whole.0)

-- the innermost frame at another place, with others in the place of its n operands
advanced_cons : (h : Head) (hs : List Head) (n t k : ℕ) (vs ys : List Value) (bs : List Block) →
    h.base + h.slots ≤ length vs → k ≡ h.base + h.slots + (length vs - (h.base + h.slots) - n)
    → laid (record h { pc = t } ∷ hs) (take k vs ++ ys) bs ≡ on_top (advanced n ys t) (laid (h ∷ hs) vs bs)
advanced_cons h hs n t k vs ys bs low is =
    let own : length (drop h.base vs) ≡ length vs - h.base = length-drop h.base vs in
    let tall : length (drop h.slots (drop h.base vs)) ≡ length vs - h.base - h.slots =
    length-drop h.slots (drop h.base vs) ∙ ap (λ z. z - h.slots) own in
    let m : ℕ = length (drop h.slots (drop h.base vs)) - n in
    let left : k ≡ length vs - (length vs - h.base - h.slots - m) = omega (arith, low, is, tall) in
    ap (on_top (placed t)) (restacked_cons h hs m k vs ys bs low left)

pub advanced_laid : (h : Head) (hs : List Head) (n t k : ℕ) (vs ys : List Value) (bs : List Block) →
    hs ≡ h ∷ drop 1 hs → IsLaid hs vs bs → k ≡ h.base + h.slots + (length vs - (h.base + h.slots) - n)
    → laid (moved t hs) (take k vs ++ ys) bs ≡ on_top (advanced n ys t) (laid hs vs bs)
advanced_laid h hs n t k vs ys bs e laid_so is =
    let whole : IsLaid (h ∷ drop 1 hs) vs bs = subst (λ z. IsLaid z vs bs) e laid_so in
    subst (λ z. laid (moved t z) (take k vs ++ ys) bs ≡ on_top (advanced n ys t) (laid z vs bs)) (sym e)
    (advanced_cons h (drop 1 hs) n t k vs ys bs whole.0 is)

pub passed_laid : (h : Head) (hs : List Head) (n t k : ℕ) (vs : List Value) (bs : List Block) →
    hs ≡ h ∷ drop 1 hs → IsLaid hs vs bs → k ≡ h.base + h.slots + (length vs - (h.base + h.slots) - n)
    → laid (moved t hs) (take k vs) bs ≡ on_top (advanced n [] t) (laid hs vs bs)
passed_laid h hs n t k vs bs e laid_so is =
    ap (λ z. laid (moved t hs) z bs) (sym (append-nil (take k vs))) ∙ advanced_laid h hs n t k vs [] bs e laid_so is

-- ---- a slot of the innermost frame

set_within : (s i : ℕ) (xs : List Value) (x : Value) → take s (slice_set xs i x) ≡ slice_set (take s xs) i x
set_within zero i xs x = refl
set_within (suc s) i [] x = refl
set_within (suc s) zero (y ∷ ys) x = refl
set_within (suc s) (suc i) (y ∷ ys) x = ap (λ z. y ∷ z) (set_within s i ys x)

stored_cons : (h : Head) (hs : List Head) (i : ℕ) (x : Value) (vs : List Value) (bs : List Block) → i < h.slots
    → laid (h ∷ hs) (slice_set vs (h.base + i) x) bs ≡ on_top (stored i x) (laid (h ∷ hs) vs bs)
stored_cons h hs i x vs bs l =
    let own : drop h.base (slice_set vs (h.base + i) x) ≡ slice_set (drop h.base vs) i x = drop-set-add h.base vs i x in
    let p : take h.slots (drop h.base (slice_set vs (h.base + i) x)) ≡ slice_set (take h.slots (drop h.base vs)) i x =
    ap (take h.slots) own ∙ set_within h.slots i (drop h.base vs) x in
    let q : drop h.slots (drop h.base (slice_set vs (h.base + i) x)) ≡ drop h.slots (drop h.base vs) =
    ap (drop h.slots) own ∙ drop-set-lt h.slots (drop h.base vs) i x l in
    let r : take h.base (slice_set vs (h.base + i) x) ≡ take h.base vs =
    take-set-le h.base vs (h.base + i) x (omega arith) in
    λ j. record {
      code = h.code;
      pc = h.pc;
      slots = p j;
      stack = q j;
      blocks = take h.blocks bs;
      made = h.made;
      names =
          h.names;
    } ∷ laid hs (r j) (drop h.blocks bs)

pub stored_laid : (h : Head) (hs : List Head) (i : ℕ) (x : Value) (vs : List Value) (bs : List Block) →
    hs ≡ h ∷ drop 1 hs → i < h.slots
    → laid hs (slice_set vs (h.base + i) x) bs ≡ on_top (stored i x) (laid hs vs bs)
stored_laid h hs i x vs bs e l = subst (λ z. laid z (slice_set vs (h.base + i) x) bs ≡ on_top (stored i x)
    (laid z vs bs)) (sym e) (stored_cons h (drop 1 hs) i x vs bs l)

both_on_top : (f g : Frame → Frame) (fs : List Frame) → on_top g (on_top f fs) ≡ on_top (λ z. g (f z)) fs
both_on_top f g [] = refl
both_on_top f g (z ∷ zs) = refl

pub kept_laid : (h : Head) (hs : List Head) (n i t k : ℕ) (x : Value) (vs : List Value) (bs : List Block) →
    hs ≡ h ∷ drop 1 hs → IsLaid hs vs bs → k ≡ h.base + h.slots + (length vs - (h.base + h.slots) - n) → i < h.slots
    → laid (moved t hs) (slice_set (take k vs) (h.base + i) x) bs
    ≡ on_top (λ f. stored i x (advanced n [] t f)) (laid hs vs bs)
kept_laid h hs n i t k x vs bs e laid_so is l =
    let there : moved t hs ≡ record h { pc = t } ∷ drop 1 (moved t hs) =
    ap (moved t) e ∙ ap (λ z. record h { pc = t } ∷ z) (sym (ap (λ z. drop 1 (moved t z)) e)) in
    stored_laid (record h { pc = t }) (moved t hs) i x (take k vs) bs there l
    ∙ (ap (on_top (stored i x)) (passed_laid h hs n t k vs bs e laid_so is)
    ∙ both_on_top (advanced n [] t) (stored i x) (laid hs vs bs))

-- a slot that the innermost frame doesn't have
past_on_top : (h : Head) (hs : List Head) (n i t : ℕ) (x : Value) (vs : List Value) (bs : List Block) → h.slots ≤ i →
    on_top (advanced n [] t) (laid (h ∷ hs) vs bs)
    ≡ on_top (λ f. stored i x (advanced n [] t f)) (laid (h ∷ hs) vs bs)
past_on_top h hs n i t x vs bs l =
    let slots : List Value = take h.slots (drop h.base vs) in
    let few : length slots ≤ h.slots = omega (arith, length-take h.slots (drop h.base vs)) in
    let same : slice_set slots i x ≡ slots = set_past slots i x (omega (arith, l, few)) in
    let f : Frame = frame_of h (drop h.base vs) (take h.blocks bs) in
    λ j. record (advanced n [] t f) { slots = sym same j } ∷ laid hs (take h.base vs) (drop h.blocks bs)

pub not_kept_laid : (h : Head) (hs : List Head) (n i t k : ℕ) (x : Value) (vs : List Value) (bs : List Block) →
    hs ≡ h ∷ drop 1 hs → IsLaid hs vs bs → k ≡ h.base + h.slots + (length vs - (h.base + h.slots) - n) → h.slots ≤ i
    → laid (moved t hs) (take k vs) bs ≡ on_top (λ f. stored i x (advanced n [] t f)) (laid hs vs bs)
not_kept_laid h hs n i t k x vs bs e laid_so is l =
    passed_laid h hs n t k vs bs e laid_so is
    ∙ subst (λ z. on_top (advanced n [] t) (laid z vs bs)
    ≡ on_top (λ f. stored i x (advanced n [] t f)) (laid z vs bs)) (sym e) (past_on_top h (drop 1 hs) n i t x vs bs l)

-- ---- the first frame that has an open block

opened_so : (n i : ℕ) (bs : List Block) (rest : Option ℕ) → n ≤ length bs →
    cond (n == 0) rest (Some i) ≡ catching_by i (take n bs) rest
opened_so zero i bs rest l = refl
opened_so (suc n) i [] rest l = absurd (omega (arith, l))
opened_so (suc n) i (b ∷ bs) rest l = rw (eqb-suc-zero n) refl

opening_is : (i : ℕ) (hs : List Head) (vs : List Value) (bs : List Block) → IsLaid hs vs bs →
    opening i hs ≡ catching i (laid hs vs bs)
opening_is i [] vs bs is = refl
opening_is i (h ∷ hs) vs bs is =
    ap (λ r. cond (h.blocks == 0) r (Some i)) (opening_is (i + 1) hs (take h.base vs) (drop h.blocks bs) is.2)
    ∙ opened_so h.blocks i bs (catching (i + 1) (laid hs (take h.base vs) (drop h.blocks bs))) is.1

pub opening_laid : (i k : ℕ) (hs : List Head) (vs : List Value) (bs : List Block) → IsLaid hs vs bs →
    opening i (drop k hs) ≡ catching i (drop k (laid hs vs bs))
opening_laid i zero hs vs bs is = opening_is i hs vs bs is
opening_laid i (suc k) [] vs bs is = refl
opening_laid i (suc k) (h ∷ hs) vs bs is = opening_laid i k hs (take h.base vs) (drop h.blocks bs) is.2

-- one head more
pub opening_here : (i : ℕ) (hs : List Head) (h : Head) → drop i hs ≡ h ∷ drop (i + 1) hs → h.blocks ≢ 0 →
    opening i (drop i hs) ≡ Some i
opening_here i hs h e l = ap (opening i) e ∙ ap (λ b. cond b (opening (i + 1) (drop (i + 1) hs)) (Some i))
    (ne_eqb h.blocks 0 l)

pub opening_next : (i : ℕ) (hs : List Head) (h : Head) → drop i hs ≡ h ∷ drop (i + 1) hs → h.blocks ≡ 0 →
    opening i (drop i hs) ≡ opening (i + 1) (drop (i + 1) hs)
opening_next i hs h e l = ap (opening i) e ∙ ap (λ b. cond b (opening (i + 1) (drop (i + 1) hs)) (Some i))
    (eq-eqb h.blocks 0 l)

-- ---- a frame at the start of a code, whose slots are m values of the innermost stack, and k more

pub unset_is : (k : ℕ) → replicate k Unset ≡ unset_slots k
unset_is zero = refl
unset_is (suc k) = ap (λ xs. Unset ∷ xs) (unset_is k)

-- the stack of the innermost frame is that high
tall : (h : Head) (hs : List Head) (m : ℕ) (vs : List Value) (bs : List Block) → hs ≡ h ∷ drop 1 hs →
    (let f = innermost (laid hs vs bs) in m < length f.stack) → m < length vs - h.base - h.slots
tall h hs m vs bs e l =
    let q : m < length (drop h.slots (drop h.base vs)) =
    subst (λ z. let f = innermost (laid z vs bs) in m < length f.stack) e l in
    let own : length (drop h.base vs) ≡ length vs - h.base = length-drop h.base vs in
    let above : length (drop h.slots (drop h.base vs)) ≡ length vs - h.base - h.slots =
    length-drop h.slots (drop h.base vs) ∙ ap (λ z. z - h.slots) own in
    subst (λ z. m < z) above q

module _ (h : Head) (hs : List Head) (m k b t code : ℕ) (vs ws us : List Value) (bs : List Block)
    (e : hs ≡ h ∷ drop 1 hs) (laid_so : IsLaid hs vs bs)
    (l : let f = innermost (laid hs vs bs) in m < length f.stack) (is : b ≡ length vs - m - 1)
    (q : ws ≡ take b vs ++ drop (b + 1) vs) (r : us ≡ ws ++ replicate k Unset) where
  low : h.base + h.slots + m + 1 ≤ length vs
  low = omega (arith, tall h hs m vs bs e l)

  front : length (take b vs) ≡ b
  front = length-take-le b vs (omega (arith, is))

  all_is : us ≡ take b vs ++ (drop (b + 1) vs ++ unset_slots k)
  all_is = r ∙ (ap (λ z. z ++ replicate k Unset) q ∙ (append_assoc (take b vs) (drop (b + 1) vs) (replicate k Unset) ∙
      ap (λ z. take b vs ++ (drop (b + 1) vs ++ z)) (unset_is k)))

  below : take b us ≡ take b vs
  below = ap (take b) all_is ∙ take_at (take b vs) (drop (b + 1) vs ++ unset_slots k) b front

  new : drop b us ≡ drop (b + 1) vs ++ unset_slots k
  new = ap (drop b) all_is ∙ drop_at (take b vs) (drop (b + 1) vs ++ unset_slots k) b front

  new_is : length (drop b us) ≡ length us - b
  new_is = length-drop b us

  -- the values of the stack
  moved_up : drop (b + 1) vs ≡ operands m (innermost (laid hs vs bs))
  moved_up =
      let own : length (drop h.base vs) ≡ length vs - h.base = length-drop h.base vs in
      let above : length (drop h.slots (drop h.base vs)) ≡ length vs - h.base - h.slots =
      length-drop h.slots (drop h.base vs) ∙ ap (λ z. z - h.slots) own in
      let n : ℕ = length (drop h.slots (drop h.base vs)) - m in
      let same : b + 1 ≡ h.base + (h.slots + n) = omega (arith, is, low, above) in
      ap (λ z. drop z vs) same
      ∙ (sym (drop-drop (h.slots + n) h.base vs)
      ∙ (sym (drop-drop n h.slots (drop h.base vs))
      ∙ sym (ap (λ z. operands m (innermost (laid z vs bs))) e)))

  abbrev head_is : Head
  head_is = record {
    code = code;
    pc = 0;
    made = Unset;
    names = None;
    base = b;
    slots = length us - b;
    blocks = 0;
  }

  under : laid (moved t hs) (take b us) bs ≡ on_top (advanced (m + 1) [] t) (laid hs vs bs)
  under = ap (λ z. laid (moved t hs) z bs) below
      ∙ passed_laid h hs (m + 1) t b vs bs e laid_so (omega (arith, is, low))

  pub entered_laid : laid (head_is ∷ moved t hs) us bs
      ≡ entered code (operands m (innermost (laid hs vs bs)) ++ unset_slots k)
      ∷ on_top (advanced (m + 1) [] t) (laid hs vs bs)
  entered_laid =
      let whole : take (length us - b) (drop b us) ≡ operands m (innermost (laid hs vs bs)) ++ unset_slots k =
      take_all (length us - b) (drop b us) (omega (arith, new_is))
      ∙ (new ∙ ap (λ z. z ++ unset_slots k) moved_up) in
      let none : drop (length us - b) (drop b us) ≡ [] =
      drop_of_length-le (drop b us) (omega (arith, new_is)) in
      λ i. record {
        code = code;
        pc = 0;
        slots = whole i;
        stack = none i;
        blocks = [];
        made = Unset;
        names = None;
      } ∷ under i
