-- The words of a record that is made.
use Rattle.std.proofs.Common.{◌≡◌, ◌⊎◌, ℕ, ◌+◌, ◌*◌, ◌/◌, ◌^◌, ◌<◌, ◌≤◌, Bool, true, false, cond, List, [], length, get_or, refl, sym, ap, ◌∙◌, inl, inr, arith}
use Rattle.py_base.specs.declared.kind.Kind.{Kind}
use Rattle.py_base.specs.declared.kind.Kind.TheVariants.{Str, Tuple, List as ListKind, Dict, Cell, Function, Class, Instance, Method, Iter, Range, Lock, Thread}
use Rattle.py_data.specs.declared.value.Value.{Value}
use Rattle.py_data.specs.declared.value.Value.TheVariants.{Unset}
use Rattle.py_data.specs.Heap.{has_bytes, has_rooms, room_of, length_by, value_at, new_rec}
use Rattle.seg_store.specs.Extents.{class_holding, class_of_room}
use Rattle.seg_store.specs.Store.{NoneOf, OneList}
use Rattle.paged_store.specs.Words.{Words, listed, clipped, value_in, byte_in, size_of, room_in, kind_in, class_in, index_class_in, first_in, record_of, decode, kind_by, count_by, body_by, body_size, body_words}
use Rattle.paged_store.specs.inner.Formed.{Formed, Lays, FitsValue, HasIndex, words_for}
use Rattle.dict_index.specs.Packed.{packed}
use Rattle.paged_store.specs.inner.Written.{owned_by, parted, made_class, made_index, made_head, ValueAt, Makes, TakesRecord, Changed}
use Rattle.paged_store.proofs.HeadWords.{head_kind, head_class, head_index, head_first, head_below}
use Rattle.paged_store.proofs.ListedLemmas.{listed_is}
use Rattle.paged_store.proofs.ByteWords.{bytes_back}
use Rattle.paged_store.proofs.RecordWords.{size_is, clipped_at, value_same}
use Rattle.paged_store.proofs.ClassLemmas.{class_holding_most, class_holding_holds, room_back, room_holds, no_room, dict_class}
use Rattle.paged_store.proofs.ChangeWords.{value_there}
use Rattle.paged_store.proofs.GrowWords.{new_at, new_part}

-- ---- the class of the body

class_choice : (b : Bool) (x y : ℕ) → x ≤ 21 → y ≤ 21 → cond b x y ≤ 21
class_choice true x y h l = h
class_choice false x y h l = l

pub made_class_most : (k : Kind) (n : ℕ) → made_class k n ≤ 21
unfolding made_class
made_class_most k n = class_choice (has_rooms k) (class_of_room (room_of k n))
    (class_holding (words_for (has_bytes k) n)) (class_holding_most (2 * room_of k n))
    (class_holding_most (words_for (has_bytes k) n))

words_few : (b : Bool) (n : ℕ) → n ≤ 2 ^ 20 → words_for b n ≤ 2 ^ 21
words_few true n h = omega arith
words_few false n h = omega arith

-- what is said of the two forms of a class, by the kind
rooms_or_not : (k : Kind) → ((has_rooms k ≡ true) × (has_bytes k ≡ false)) ⊎ (has_rooms k ≡ false)
rooms_or_not Str = inr refl
rooms_or_not Tuple = inr refl
rooms_or_not ListKind = inl (refl, refl)
rooms_or_not Dict = inl (refl, refl)
rooms_or_not Cell = inr refl
rooms_or_not Function = inr refl
rooms_or_not Class = inr refl
rooms_or_not Instance = inr refl
rooms_or_not Method = inr refl
rooms_or_not Iter = inr refl
rooms_or_not Range = inr refl
rooms_or_not Lock = inr refl
rooms_or_not Thread = inr refl

-- the body holds the values or the bytes
pub made_holds : (k : Kind) (n : ℕ) → n ≤ 2 ^ 20 → words_for (has_bytes k) n ≤ size_of (made_class k n)
unfolding made_class
made_holds k n h = elim (rooms_or_not k) [
  | inl c ↦ rw (c.0, c.1) (let s : size_of (class_of_room (room_of k n)) ≡ 2 * room_in
      (class_of_room (room_of k n)) = size_is (class_of_room (room_of k n)) in
      let r : room_in (class_of_room (room_of k n)) ≡ room_of k n = room_back k n c.0 in let m : n ≤ room_of k n =
      room_holds k n c.0 h in omega arith)
  | inr c ↦ rw c (class_holding_holds (words_for (has_bytes k) n) (words_few (has_bytes k) n h))
]

-- the body's class tells the room
pub made_room : (k : Kind) (n : ℕ) → cond (has_rooms k) (room_in (made_class k n)) 0 ≡ room_of k n
unfolding made_class
made_room k n = elim (rooms_or_not k) [
  | inl c ↦ rw c.0 (room_back k n c.0)
  | inr c ↦ rw c (sym (no_room k n c))
]

pub dict_made : (n : ℕ) → 2 ≤ made_class Dict n
unfolding made_class
dict_made n = dict_class n

pub made_index_fits : (k : Kind) (n : ℕ) → HasIndex k (made_class k n) (made_index k (made_class k n))
made_index_fits Dict n = let c : 2 ≤ made_class Dict n = dict_made n in (omega arith, omega arith)
made_index_fits Str n = refl
made_index_fits Tuple n = refl
made_index_fits ListKind n = refl
made_index_fits Cell n = refl
made_index_fits Function n = refl
made_index_fits Class n = refl
made_index_fits Instance n = refl
made_index_fits Method n = refl
made_index_fits Iter n = refl
made_index_fits Range n = refl
made_index_fits Lock n = refl
made_index_fits Thread n = refl

pub made_index_small : (k : Kind) (c : ℕ) → made_index k c ≤ c
made_index_small Dict c = omega arith
made_index_small Str c = omega arith
made_index_small Tuple c = omega arith
made_index_small ListKind c = omega arith
made_index_small Cell c = omega arith
made_index_small Function c = omega arith
made_index_small Class c = omega arith
made_index_small Instance c = omega arith
made_index_small Method c = omega arith
made_index_small Iter c = omega arith
made_index_small Range c = omega arith
made_index_small Lock c = omega arith
made_index_small Thread c = omega arith

pub record MadeHead (k : Kind) (n : ℕ) : Type 0 where
  pub kind : kind_in (made_head k n) ≡ k
  pub class : class_in (made_head k n) ≡ made_class k n
  pub index : index_class_in (made_head k n) ≡ made_index k (made_class k n)
  pub first : first_in (made_head k n) ≡ made_class k n
  pub small : made_head k n < 2 ^ 32

pub made_parts : (k : Kind) (n : ℕ) → MadeHead k n
unfolding made_head
made_parts k n =
    let c : ℕ = made_class k n in
    let l : made_class k n ≤ 21 = made_class_most k n in
    let i : made_index k (made_class k n) ≤ made_class k n = made_index_small k (made_class k n) in
    record {
      kind = head_kind k c (made_index k c) c;
      class = head_class k c (made_index k c) c (omega arith);
      index = head_index k c (made_index k c) c (omega arith) (omega arith);
      first = head_first k c (made_index k c) c (omega arith) (omega arith);
      small = head_below k c (made_index k c) c (omega arith) (omega arith) (omega arith);
    }

-- ---- the record

made_rec : (h c room : ℕ) (body : Words) (k : Kind) (vs : List Value) (bs : List ℕ) → kind_in h ≡ k →
    cond (has_bytes k) [] (listed c (value_in body)) ≡ vs → cond (has_bytes k) (listed c (byte_in body)) [] ≡ bs →
    cond (has_rooms k) (room_in (class_in h)) 0 ≡ room → cond (has_rooms k) (room_in (first_in h)) 0 ≡ room →
    record_of h c body ≡ record { kind = k; values = vs; bytes = bs; room = room; first = room }
unfolding record_of
made_rec h c room body k vs bs kind values bytes now first = λ z. record {
  kind = kind z;
  values = (ap (λ x. cond (has_bytes x) [] (listed c (value_in body))) kind ∙ values) z;
  bytes = (ap (λ x. cond (has_bytes x) (listed c (byte_in body)) []) kind ∙ bytes) z;
  room = (ap (λ x. cond (has_rooms x) (room_in (class_in h)) 0) kind ∙ now) z;
  first = (ap (λ x. cond (has_rooms x) (room_in (first_in h)) 0) kind ∙ first) z;
}

made_values : (b : Bool) (w : Words) (n c place : ℕ) (vs : List Value) (bs : List ℕ) →
    c ≡ cond b (length bs) (length vs) → words_for b c ≤ n → NoneOf b vs bs →
    ((i : ℕ) → i < length vs → FitsValue (value_at vs i)) →
    ((i : ℕ) → i < length vs → ValueAt w (place + 2 * i) (value_at vs i)) →
    cond b [] (listed c (value_in (clipped n (λ j. w (place + j))))) ≡ vs
made_values true w n c place vs bs e l one each there = sym one
made_values false w n c place vs bs e l one each there =
    listed_is c (value_in (clipped n (λ j. w (place + j)))) vs Unset (sym e) (λ i h.
    let s : i < length vs = rw (← e) h in
    sym (value_same (clipped n (λ j. w (place + j))) (λ j. w (place + j)) i
    (clipped_at n (2 * i) (λ j. w (place + j)) (omega arith))
    (clipped_at n (2 * i + 1) (λ j. w (place + j)) (omega arith)) ∙
    value_there w place i (value_at vs i) (each i s) (there i s)))

made_bytes : (b : Bool) (w : Words) (n c place : ℕ) (vs : List Value) (bs : List ℕ) →
    c ≡ cond b (length bs) (length vs) → words_for b c ≤ n → NoneOf b vs bs → ((k : ℕ) → get_or bs k 0 < 256) →
    ((j : ℕ) → j < (length bs + 7) / 8 → w (place + j) ≡ packed bs j) →
    cond b (listed c (byte_in (clipped n (λ j. w (place + j))))) [] ≡ bs
made_bytes true w n c place vs bs e l one small there =
    ap (λ z. listed z (byte_in (clipped n (λ j. w (place + j))))) e ∙
    bytes_back bs (clipped n (λ j. w (place + j))) small (λ j h. clipped_at n j (λ i. w (place + i)) (omega arith) ∙
    there j h)
made_bytes false w n c place vs bs e l one small there = sym one

-- a room is of values
same_room : (k : Kind) (vs : List Value) (bs : List ℕ) → room_of k (length_by k vs bs) ≡ room_of k (length vs)
same_room k vs bs = elim (rooms_or_not k) [
  | inl c ↦ rw c.1 refl
  | inr c ↦ no_room k (length_by k vs bs) c ∙ sym (no_room k (length vs) c)
]

module _ (now : Words) (a : ℕ) (kind : Kind) (vs : List Value) (bs : List ℕ) (short : length_by kind vs bs ≤ 2 ^ 20)
    (one : OneList kind vs bs) (each : (i : ℕ) → i < length vs → FitsValue (value_at vs i))
    (small : (k : ℕ) → get_or bs k 0 < 256) (m : Makes now a kind vs bs) where
  made_kind_is : kind_by now a ≡ kind
  made_kind_is = ap kind_in m.first ∙ (made_parts kind (length_by kind vs bs)).kind

  made_class_is : class_in (now (2 * a)) ≡ made_class kind (length_by kind vs bs)
  made_class_is = ap class_in m.first ∙ (made_parts kind (length_by kind vs bs)).class

  made_index_is : index_class_in (now (2 * a)) ≡ made_index kind (made_class kind (length_by kind vs bs))
  made_index_is = ap index_class_in m.first ∙ (made_parts kind (length_by kind vs bs)).index

  made_first_is : first_in (now (2 * a)) ≡ made_class kind (length_by kind vs bs)
  made_first_is = ap first_in m.first ∙ (made_parts kind (length_by kind vs bs)).first

  made_fits : words_for (has_bytes kind) (count_by now a) ≤ body_size now a
  made_fits = rw (m.count, made_class_is) (made_holds kind (length_by kind vs bs) short)

  pub formed_made : Formed now a
  formed_made = record {
    class = rw made_class_is (made_class_most kind (length_by kind vs bs));
    first = rw (made_class_is, made_first_is) (omega arith);
    index = rw (made_kind_is, made_class_is, made_index_is) (made_index_fits kind (length_by kind vs bs));
    holds = rw made_kind_is made_fits;
    even = m.even;
  }

  pub decode_made : decode now a ≡ new_rec kind vs bs
  unfolding decode
  decode_made =
      let room : cond (has_rooms kind) (room_in (made_class kind (length_by kind vs bs))) 0 ≡ room_of kind
      (length vs) = made_room kind (length_by kind vs bs) ∙ same_room kind vs bs in
      made_rec (now (2 * a)) (count_by now a) (room_of kind (length vs)) (body_words now a) kind vs bs made_kind_is
      (made_values (has_bytes kind) now (body_size now a) (count_by now a) (body_by now a) vs bs m.count made_fits
      one each m.values)
      (made_bytes (has_bytes kind) now (body_size now a) (count_by now a) (body_by now a) vs bs m.count made_fits one
      small m.bytes)
      (rw made_class_is room)
      (rw made_first_is room)

pub lays_made : (own role w now : Words) (a : ℕ) (e part : ℕ → ℕ) → TakesRecord own w now a e part →
    Lays (owned_by own e a) (parted role e part) now a
lays_made own role w now a e part t = record {
  head = λ p i. (let z : (0 < e p) × (part p ≡ 0) = t.head p i in
      (new_at (e p) (own p) a z.0, new_part (e p) (role p) (part p) 0 z.0 z.1));
  body = λ p i. (let z : (0 < e p) × (part p ≡ 2 * class_in (now (2 * a))) = t.body p i in
      (new_at (e p) (own p) a z.0, new_part (e p) (role p) (part p) (2 * class_in (now (2 * a))) z.0 z.1));
  index = λ p i. (let z : (0 < e p) × (part p ≡ 2 * index_class_in (now (2 * a)) + 1) = t.index p i in
      (new_at (e p) (own p) a z.0, new_part (e p) (role p) (part p) (2 * index_class_in (now (2 * a)) + 1) z.0 z.1));
}

pub make_changed : (own role w now : Words) (a : ℕ) (e part : ℕ → ℕ) (kind : Kind) (vs : List Value) (bs : List ℕ) →
    length_by kind vs bs ≤ 2 ^ 20 → OneList kind vs bs → ((i : ℕ) → i < length vs → FitsValue (value_at vs i)) →
    ((k : ℕ) → get_or bs k 0 < 256) → Makes now a kind vs bs → TakesRecord own w now a e part →
    Changed own role w now a e part (new_rec kind vs bs)
make_changed own role w now a e part kind vs bs short one each small m t = record {
  means = decode_made now a kind vs bs short one each small m;
  formed = formed_made now a kind vs bs short one each small m;
  lays = lays_made own role w now a e part t;
  others = λ p o z. t.others p z;
}

-- ---- the class that the body of each kind has

pub list_made : (n : ℕ) → made_class ListKind n ≡ class_of_room (room_of ListKind n)
unfolding made_class
list_made n = refl

pub dict_made_is : (n : ℕ) → made_class Dict n ≡ class_of_room (room_of Dict n)
unfolding made_class
dict_made_is n = refl

pub text_made : (n : ℕ) → made_class Str n ≡ class_holding ((n + 7) / 8)
unfolding made_class
text_made n = refl

pub values_made : (k : Kind) (n : ℕ) → (k ≡ Str → ⊥) → (k ≡ ListKind → ⊥) → (k ≡ Dict → ⊥) →
    made_class k n ≡ class_holding (2 * n)
unfolding made_class
values_made Str n s l d = absurd (s refl)
values_made Tuple n s l d = refl
values_made ListKind n s l d = absurd (l refl)
values_made Dict n s l d = absurd (d refl)
values_made Cell n s l d = refl
values_made Function n s l d = refl
values_made Class n s l d = refl
values_made Instance n s l d = refl
values_made Method n s l d = refl
values_made Iter n s l d = refl
values_made Range n s l d = refl
values_made Lock n s l d = refl
values_made Thread n s l d = refl
