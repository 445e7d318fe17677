-- The extents that a record wants where it grows or is made.
use Rattle.std.proofs.Common.{◌≡◌, ◌≢◌, ℕ, suc, ◌+◌, ◌-◌, ◌*◌, ◌/◌, ◌^◌, ◌<◌, ◌≤◌, Bool, true, false, ◌&&◌, eqb, leb, List, length, Some, None, refl, sym, ap, ◌∙◌, inl, inr, arith}
use Rattle.std.proofs.lemmas.Bool.Decides.{eqb_tells, leb_tells}
use Rattle.py_base.specs.declared.kind.Kind.{Kind}
use Rattle.py_base.specs.declared.kind.Kind.TheVariants.{Str, Tuple, List as ListKind, Dict, Cell, Function, Class, Instance, Method, Iter, Range, Lock, Thread}
use Rattle.py_data.specs.declared.value.Value.{Value}
use Rattle.py_data.specs.Heap.{Rec, has_rooms, with_push, with_pair, doubled, room_of, length_by, new_rec}
use Rattle.seg_store.specs.Extents.{class_holding, class_of_room, body, one_if, first_class, bodies, bodies_of, extents, Wants}
use Rattle.paged_store.specs.Words.{Words, room_in, class_in, first_in, kind_by, decode}
use Rattle.paged_store.specs.inner.Formed.{Formed}
use Rattle.paged_store.proofs.RecordWords.{room_is, first_is}
use Rattle.paged_store.proofs.ClassLemmas.{class_of_room_in, class_holding_none, dict_class}
use Rattle.paged_store.specs.inner.Written.{made_class}
use Rattle.paged_store.proofs.MakeWords.{made_class_most, dict_made}
use Rattle.paged_store.proofs.PushWords.{room_doubles}
use Rattle.paged_store.proofs.GrowWords.{room_next, doubled_above, grown_then_paired}

-- ---- bodies

first_class_most : (f : ℕ) → f ≤ 21 → first_class (room_in f) ≤ f + 1
first_class_most f h = elim (eqb_tells (room_in f) 0) [
  | inl e ↦ rw e.0 (omega arith)
  | inr e ↦ rw e.0 (let z : class_of_room (room_in f) ≡ f = class_of_room_in f h in omega arith)
]

-- no body is above the greatest
pub no_body : (first room c : ℕ) → class_of_room room < c → bodies first room c ≡ 0
no_body first room c h = elim (eqb_tells room 0) [
  | inl e ↦ rw e.0 refl
  | inr e ↦ rw e.0 (elim (leb_tells c (class_of_room room)) [
    | inl l ↦ absurd
        (let z : c ≤ class_of_room room = l.1 in omega arith)
    | inr l ↦ rw l.0 (no_test (leb (first_class first) c))
  ])
]
  where
    no_test : (b : Bool) → one_if (b && false) ≡ 0
    no_test true = refl
    no_test false = refl

pub a_body : (first room c : ℕ) → room ≢ 0 → first_class first ≤ c → c ≤ class_of_room room → bodies first room c ≡ 1
a_body first room c some low high = elim (eqb_tells room 0) [
  | inl e ↦ absurd (some e.1)
  | inr e ↦ rw e.0 (elim (leb_tells (first_class first) c) [
    | inl l ↦ rw l.0 (elim (leb_tells c (class_of_room room))
        [ inl m ↦ rw m.0 refl | inr m ↦ absurd (let z : class_of_room room < c = m.1 in omega arith) ])
    | inr l ↦ absurd (let z : c < first_class first = l.1 in omega arith)
  ])
]

-- a body that there was is there
pub same_body : (first room more c : ℕ) → room ≢ 0 → more ≢ 0 → c ≤ class_of_room room → c ≤ class_of_room more →
    bodies first room c ≡ bodies first more c
same_body first room more c some some_more l m = elim (leb_tells (first_class first) c) [
  | inl h ↦ a_body first room c some h.1 l ∙ sym (a_body first more c some_more h.1 m)
  | inr h ↦ none room some h.0 ∙ sym (none more some_more h.0)
]
  where
    none : (room : ℕ) → room ≢ 0 → leb (first_class first) c ≡ false → bodies first room c ≡ 0
    none room some h = elim (eqb_tells room 0) [ inl e ↦ absurd (some e.1) | inr e ↦ rw (e.0, h) refl ]

pub list_extents : (r : Rec) (c : ℕ) → r.kind ≡ ListKind → extents r c ≡ one_if (eqb c 2) + bodies r.first r.room c
unfolding extents
list_extents r c k = ap (λ (z : Kind). one_if (eqb c 2) + bodies_of r z c) k

pub dict_extents : (r : Rec) (c : ℕ) → r.kind ≡ Dict →
    extents r c ≡ one_if (eqb c 2) + (bodies r.first r.room c + bodies r.first r.room (c + 1))
unfolding extents
dict_extents r c k = ap (λ (z : Kind). one_if (eqb c 2) + bodies_of r z c) k

-- ---- growth

-- the rooms of a record whose body is of class c, and of the same with the room doubled
pub record Doubles (r q : Rec) (c f : ℕ) : Type 0 where
  pub room : r.room ≡ room_in c
  pub first : r.first ≡ room_in f
  pub order : f ≤ c
  pub below : c < 21
  pub kind : q.kind ≡ r.kind
  pub same : q.first ≡ r.first
  pub twice : q.room ≡ doubled r.room

module _ (r q : Rec) (c f : ℕ) (d : Doubles r q c f) where
  pub old_class : class_of_room r.room ≡ c
  old_class = ap class_of_room d.room ∙ class_of_room_in c (omega (arith, d.below))

  pub new_class : class_of_room q.room ≡ suc c
  new_class = ap class_of_room (d.twice ∙ ap doubled d.room ∙ sym (room_next c)) ∙ class_of_room_in (suc c) d.below

  pub new_some : q.room ≢ 0
  new_some e = let l : r.room < doubled r.room = doubled_above r.room in let t : q.room ≡ doubled r.room = d.twice in
      omega arith

  pub new_low : first_class q.first ≤ c + 1
  new_low = let l : first_class (room_in f) ≤ f + 1 = first_class_most f (omega (arith, d.order, d.below)) in
      let o : f ≤ c = d.order in rw (d.same ∙ d.first) (omega arith)

  old_next : bodies r.first r.room (c + 1) ≡ 0
  old_next = no_body r.first r.room (c + 1) (omega (arith, old_class))

  old_beyond : bodies r.first r.room (c + 1 + 1) ≡ 0
  old_beyond = no_body r.first r.room (c + 1 + 1) (omega (arith, old_class))

  new_next : bodies q.first q.room (c + 1) ≡ 1
  new_next = a_body q.first q.room (c + 1) new_some new_low (omega (arith, new_class))

  -- a List wants its next body
  pub list_wants : r.kind ≡ ListKind → Wants (Some r) q (2 ^ (c + 1))
  list_wants k = record {
    class = c + 1;
    least = omega arith;
    most = omega (arith, d.below);
    words = refl;
    more = rw (list_extents r (c + 1) k, list_extents q (c + 1) (d.kind ∙ k)) (omega (arith, old_next, new_next));
  }

  -- a Dict wants its next body
  pub dict_wants : r.kind ≡ Dict → Wants (Some r) q (2 ^ (c + 1))
  dict_wants k = record {
    class = c + 1;
    least = omega arith;
    most = omega (arith, d.below);
    words = refl;
    more = rw (dict_extents r (c + 1) k, dict_extents q (c + 1) (d.kind ∙ k))
        (omega (arith, old_next, old_beyond, new_next));
  }

  -- and the index of half as many words
  pub dict_wants_index : r.kind ≡ Dict → 1 ≤ c → r.room ≢ 0 → Wants (Some r) q (2 ^ c)
  dict_wants_index k low some =
      let same : bodies r.first r.room c ≡ bodies q.first q.room c =
      rw d.same (same_body r.first r.room q.room c some new_some (omega (arith, old_class))
      (omega (arith, new_class))) in
      record {
        class = c;
        least = low;
        most = omega (arith, d.below);
        words = refl;
        more = rw (dict_extents r c k, dict_extents q c (d.kind ∙ k)) (omega (arith, same, old_next, new_next));
      }

-- ---- the record at an address

pub push_doubles : (w : Words) (a : ℕ) (v : Value) → Formed w a → has_rooms (kind_by w a) ≡ true →
    class_in (w (2 * a)) < 21 → length (decode w a).values ≡ (decode w a).room →
    Doubles (decode w a) (with_push v (decode w a)) (class_in (w (2 * a))) (first_in (w (2 * a)))
push_doubles w a v f k below full = record {
  room = room_is w a k;
  first = first_is w a k;
  order = f.first;
  below = below;
  kind = refl;
  same = refl;
  twice = room_doubles (length (decode w a).values) (decode w a).room full;
}

pub pair_doubles : (w : Words) (a : ℕ) (key v : Value) → Formed w a → has_rooms (kind_by w a) ≡ true →
    class_in (w (2 * a)) < 21 → length (decode w a).values ≡ (decode w a).room → 2 ≤ (decode w a).room →
    Doubles (decode w a) (with_pair key v (decode w a)) (class_in (w (2 * a))) (first_in (w (2 * a)))
pair_doubles w a key v f k below full some = record {
  room = room_is w a k;
  first = first_is w a k;
  order = f.first;
  below = below;
  kind = refl;
  same = refl;
  twice = sym (ap (λ (r : Rec). r.room) (grown_then_paired (decode w a) key v full some));
}

-- ---- a new record

body_some : (words : ℕ) → 1 ≤ class_holding words → body words (class_holding words) ≡ 1
body_some words h = elim (eqb_tells words 0) [
  | inl e ↦ absurd (let z : class_holding words ≡ 0 = ap class_holding e.1 ∙ class_holding_none in omega arith)
  | inr e ↦ rw e.0 (elim (eqb_tells (class_holding words) (class_holding words))
      [ inl d ↦ rw d.0 refl | inr d ↦ absurd (d.1 refl) ])
]

rooms_some : (room : ℕ) → 1 ≤ class_of_room room → bodies room room (class_of_room room) ≡ 1
rooms_some room h =
    let some : room ≢ 0 = λ e. (let z : class_of_room room ≡ 0 = ap class_of_room e ∙ class_holding_none in
    omega arith) in
    a_body room room (class_of_room room) some (elim (eqb_tells room 0)
    [ inl e ↦ absurd (some e.1) | inr e ↦ rw e.0 (omega arith) ]) (omega arith)

made_more : (k : Kind) (vs : List Value) (bs : List ℕ) → 1 ≤ made_class k (length_by k vs bs) →
    0 < extents (new_rec k vs bs) (made_class k (length_by k vs bs))
unfolding extents made_class
made_more Str vs bs h = omega (arith, body_some ((length bs + 7) / 8) h)
made_more ListKind vs bs h = omega (arith, rooms_some (room_of ListKind (length vs)) h)
made_more Dict vs bs h = omega (arith, rooms_some (room_of Dict (length vs)) h)
made_more Tuple vs bs h = omega (arith, body_some (2 * length vs) h)
made_more Cell vs bs h = omega (arith, body_some (2 * length vs) h)
made_more Function vs bs h = omega (arith, body_some (2 * length vs) h)
made_more Class vs bs h = omega (arith, body_some (2 * length vs) h)
made_more Instance vs bs h = omega (arith, body_some (2 * length vs) h)
made_more Method vs bs h = omega (arith, body_some (2 * length vs) h)
made_more Iter vs bs h = omega (arith, body_some (2 * length vs) h)
made_more Range vs bs h = omega (arith, body_some (2 * length vs) h)
made_more Lock vs bs h = omega (arith, body_some (2 * length vs) h)
made_more Thread vs bs h = omega (arith, body_some (2 * length vs) h)

-- it wants a header
pub make_wants_header : (k : Kind) (vs : List Value) (bs : List ℕ) → Wants None (new_rec k vs bs) 4
unfolding extents
make_wants_header k vs bs = record {
  class = 2;
  least = omega arith;
  most = omega arith;
  words = refl;
  more =
      omega arith;
}

-- its body, if it has one
pub make_wants_body : (k : Kind) (vs : List Value) (bs : List ℕ) → 1 ≤ made_class k (length_by k vs bs) →
    Wants None (new_rec k vs bs) (2 ^ made_class k (length_by k vs bs))
make_wants_body k vs bs h = record {
  class = made_class k (length_by k vs bs);
  least = h;
  most = made_class_most k (length_by k vs bs);
  words = refl;
  more = made_more k vs bs h;
}

index_more : (vs : List Value) (bs : List ℕ) → 0 < extents (new_rec Dict vs bs) (made_class Dict (length vs) - 1)
unfolding extents made_class
index_more vs bs =
    let room : ℕ = room_of Dict (length vs) in
    let low : 2 ≤ class_of_room room = dict_class (length vs) in
    let back : class_of_room room - 1 + 1 ≡ class_of_room room = omega arith in
    omega (arith, ap (bodies room room) back, rooms_some room (omega arith))

-- and, if it is a Dict, its index
pub make_wants_index : (vs : List Value) (bs : List ℕ) →
    Wants None (new_rec Dict vs bs) (2 ^ (made_class Dict (length vs) - 1))
make_wants_index vs bs =
    let low : 2 ≤ made_class Dict (length vs) = dict_made (length vs) in
    let high : made_class Dict (length vs) ≤ 21 = made_class_most Dict (length vs) in
    record {
      class = made_class Dict (length vs) - 1;
      least = omega arith;
      most = omega arith;
      words = refl;
      more = index_more vs bs;
    }
