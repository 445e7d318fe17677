-- The extents that a new record takes, and the draft that has made it.
use Rattle.std.proofs.Common.{◌≡◌, ℕ, ◌+◌, ◌*◌, ◌/◌, ◌%◌, ◌<◌, ◌≤◌, true, ◌||◌, List, [], ◌∷◌, ◌++◌, length, take, set, map, sym, ◌∙◌, ap, subst, arith}
use Rattle.std.proofs.lemmas.Bool.{or_left, or_right}
use Rattle.std.proofs.lemmas.List.{length-map, length-append, map-set, take-map, map-append}
use Rattle.std.proofs.Math.Seq.{set-append_seam, take-append_seam}
use Rattle.py_data.specs.declared.record.Record.{Record}
use Rattle.py_data.specs.declared.value.Addr.{Addr}
use Rattle.py_data.specs.Collection.{places}
use Rattle.page_table.specs.Pages.{Table, Lies}
use Rattle.paged_store.specs.declared.extent.Extent.{Extent}
use Rattle.paged_store.specs.Words.{in_span, size_of, head_word}
use Rattle.paged_store.specs.inner.Written.{made_head}
use Rattle.paged_store.specs.Paged.{in_extents}
use Rattle.paged_store.specs.inner.Claiming.{extent_for}
use Rattle.paged_store.specs.inner.Taking.{Takes}
use Rattle.paged_store.specs.declared.value.Header.{Header}
use Rattle.paged_store.specs.inner.Making.{made_length as made_count, body_class, index_class, made_extents, made_words, Places}
use Rattle.paged_store.specs.inner.Writing.{Desk, CanPut, with_words, filled_words}
use Rattle.paged_store.proofs.RecordWords.{size_of_next}
use Rattle.paged_store.proofs.MakeWords.{made_class_most, made_index_small}
use Rattle.paged_store.proofs.GrowTakes.{extent_in, next_even}
use Rattle.paged_store.proofs.WriteCall.{extents_both}

-- the classes of its extents are at most the greatest
pub classes_few : (r : Record) → (body_class r ≤ 21) × (index_class r ≤ 21)
classes_few r = (let m = made_class_most r.kind (made_count r) in let i = made_index_small r.kind (body_class r) in
    (m, omega (arith, m, i)))

-- ---- the extents

module _ (k head body index : ℕ) (r : Record) (old taken : Desk)
    (t : Takes k (made_extents r head body index) old taken) where
  -- a header lies at an even place behind the first
  head_lies : Lies 2 head taken.table.reserved
  head_lies = t.claims.lie 0 (record { place = 0; class = 0 }) (omega arith)

  pub head_even : head ≡ 2 * (head / 2)
  head_even = (let e = head_lies.even in omega (arith, e))

  pub head_some : 1 ≤ head / 2
  head_some = (let f = head_lies.first in omega (arith, f))

  pub head_ends : head + 4 ≤ taken.table.reserved
  head_ends = (let f = head_lies.within in omega (arith, f))

  first_two : (p : ℕ) → in_extents (made_extents r head body index) p
      ≡ ((in_extents (extent_for 2 head) p || in_extents (extent_for (body_class r) body) p) || in_extents
      (extent_for (index_class r) index) p)
  first_two p = extents_both (extent_for 2 head ++ extent_for (body_class r) body) (extent_for (index_class r) index) p
      ∙ ap (λ b. b || in_extents (extent_for (index_class r) index) p)
      (extents_both (extent_for 2 head) (extent_for (body_class r) body) p)

  pub in_header : (p : ℕ) → in_span head 4 p ≡ true → in_extents (made_extents r head body index) p ≡ true
  in_header p h = first_two p ∙ or_left _ _
      (or_left _ _ (extent_in 2 head p ∙ ap (λ n. in_span head n p) (size_of_next 1) ∙ h))

  pub in_its_body : (p : ℕ) → in_span body (size_of (body_class r)) p ≡ true →
      in_extents (made_extents r head body index) p ≡ true
  in_its_body p h = first_two p ∙ or_left _ _ (or_right _ _ (extent_in (body_class r) body p ∙ h))

  pub in_its_index : (p : ℕ) → in_span index (size_of (index_class r)) p ≡ true →
      in_extents (made_extents r head body index) p ≡ true
  in_its_index p h = first_two p ∙ or_right _ _ (extent_in (index_class r) index p ∙ h)

  pub head_can : CanPut k (2 * (head / 2)) 4 taken.table
  head_can = record {
    within = (let e = head_even in omega (arith, e, head_ends));
    own = λ p h. t.opened p (in_header p (ap (λ n. in_span n 4 p) head_even ∙ h));
  }

  pub body_can : (c : ℕ) → c ≡ body_class r → body + size_of c ≤ taken.table.reserved →
      CanPut k body (size_of c) taken.table
  body_can c e b = record {
    within = b;
    own = λ p h.
        t.opened p (in_its_body p (ap (λ z. in_span body (size_of z) p) (sym e) ∙ h));
  }

  pub body_even : (c : ℕ) → c ≡ body_class r → 0 < size_of c → body % 2 ≡ 0
  body_even c e some = next_even 1 head (body_class r) body taken.table.reserved (extent_for (index_class r) index)
      (subst (λ z. 0 < size_of z) e some) t.claims.lie

  pub index_can : (c : ℕ) → c ≡ index_class r → index + size_of c ≤ taken.table.reserved →
      CanPut k index (size_of c) taken.table
  index_can c e b = record {
    within = b;
    own = λ p h.
        t.opened p (in_its_index p (ap (λ z. in_span index (size_of z) p) (sym e) ∙ h));
  }

-- the extents of these classes are those of the record
pub takes_made : (k head body index c i : ℕ) (r : Record) (old taken : Desk) → c ≡ body_class r → i ≡ index_class r
    → Takes k (extent_for 2 head ++ extent_for c body ++ extent_for i index) old taken →
    Takes k (made_extents r head body index) old taken
takes_made k head body index c i r old taken ec ei h =
    let P : ℕ → ℕ → Type 0 = λ x y. Takes k (extent_for 2 head ++ extent_for x body ++ extent_for y index) old taken in
    let Q : ℕ → Type 0 = λ z. P z i in
    let R : ℕ → Type 0 = λ z. P (body_class r) z in
    subst R ei (subst Q ec h)

-- ---- the draft

-- what was made besides makes no difference to what is taken
pub takes_besides : (k : ℕ) (xs : List Extent) (old taken : Desk) (more made : List ℕ) → made ≡ old.draft.made
    → Takes k xs (record old { draft = record old.draft { made = more } }) taken
    → Takes k xs old (record { table = taken.table; draft = record taken.draft { made = made } })
takes_besides k xs old taken more made e t = record {
  own = t.own;
  grows = t.grows;
  claims = t.claims;
  draft = λ i. record (t.draft i) { made = e i };
  opened = t.opened;
}

pub made_set : (m n : List Addr) (j a : ℕ) → places n ≡ places m ++ 0 ∷ [] → j ≡ length m
    → places (set n j (record { 0 = a })) ≡ places m ++ a ∷ []
made_set m n j a e f =
    map-set (λ (y : Addr). y.0) n j (record { 0 = a })
    ∙ (λ i. set (e i) ((f ∙ sym (length-map m (λ (y : Addr). y.0))) i) a)
    ∙ set-append_seam (places m) 0 [] a

pub made_cut : (m n : List Addr) (j : ℕ) → places n ≡ places m ++ 0 ∷ [] → j ≡ length m → places (take j n) ≡ places m
made_cut m n j e f = sym (take-map (λ (y : Addr). y.0) j n)
    ∙ (λ i. take ((f ∙ sym (length-map m (λ (y : Addr). y.0))) i) (e i)) ∙ take-append_seam (places m) (0 ∷ [])

pub made_length : (m n : List Addr) → places n ≡ places m ++ 0 ∷ [] → length n ≡ length m + 1
made_length m n e =
    let a = length-map n (λ (y : Addr). y.0) in
    let b = ap length e in
    let c = length-append (places m) (0 ∷ []) in
    let d = length-map m (λ (y : Addr). y.0) in
    omega (arith, a, b, c, d)

-- what was pushed, and kept by the draft that took extents
pub made_pushed : (m n p : List Addr) → places n ≡ places p → p ≡ m ++ (record { 0 = 0 }) ∷ [] →
    places n ≡ places m ++ 0 ∷ []
made_pushed m n p e f = e ∙ ap (map (λ (y : Addr). y.0)) f ∙ map-append (λ (y : Addr). y.0) m ((record { 0 = 0 }) ∷ [])

-- ---- the record is placed

pub words_made : (k a body index : ℕ) (h : Header) (r : Record) (t new : Table) → h.kind ≡ r.kind →
    h.class ≡ body_class r
    → h.index ≡ index_class r → h.first ≡ body_class r
    → new ≡ with_words k (filled_words (t.word k) a (head_word h.kind h.class h.index h.first) (made_count r) body
    index (size_of h.index) r.values r.bytes) t
    → new ≡ with_words k (made_words (t.word k) a body index r) t
unfolding made_head
words_made k a body index h r t new ek ec ei ef e = e ∙ (λ i. with_words k
    (filled_words (t.word k) a (head_word (ek i) (ec i) (ei i) (ef i)) (made_count r) body index (size_of (ei i))
    r.values r.bytes) t)

pub places_by : (k head body index : ℕ) (r : Record) (old taken new : Desk) →
    Takes k (made_extents r head body index) old taken
    → body + size_of (body_class r) ≤ taken.table.reserved → index + size_of (index_class r) ≤ taken.table.reserved
    → new ≡ record {
      table = with_words k (made_words (taken.table.word k) (head / 2) body index r) taken.table;
      draft = record taken.draft { made = taken.draft.made ++ head / 2 ∷ [] };
    } → Places k (head / 2) r old new
places_by k head body index r old taken new t b i e = record {
  head = head;
  body = body;
  index = index;
  is = head_even k head body index r old taken t;
  some = head_some k head body index r old taken t;
  taken = taken;
  takes = t;
  head_within = head_ends k head body index r old taken t;
  body_within = b;
  index_within = i;
  puts = e;
}
