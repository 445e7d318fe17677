-- What is seen of a sound state stands in words that can be read.
use Rattle.std.proofs.Common.{◌≡◌, ℕ, zero, suc, ◌+◌, ◌-◌, ◌*◌, ◌<◌, Bool, true, false, cond, ◌||◌, List, [], ◌∷◌, length, Option, Some, None, IsSome, MatchOption, unwrap_or, refl, sym, ap, ◌∙◌, subst, arith}
use Rattle.std.proofs.Props.{props}
use Rattle.std.proofs.Math.Logic.{∥∥₁_elim}
use Rattle.py_base.specs.declared.kind.Kind.{Kind}
use Rattle.py_base.specs.declared.kind.Kind.TheVariants.{Str, Tuple, List as ListKind, Dict, Cell, Function, Class, Instance, Method, Iter, Range, Lock, Thread}
use Rattle.py_data.specs.declared.value.Value.{Value}
use Rattle.py_data.specs.declared.value.Value.TheVariants.{Unset, None as NoneValue, Bool as BoolValue, Int, Ref, Builtin}
use Rattle.py_data.specs.Heap.{Rec, Heap, Has, at, blank, value_at}
use Rattle.py_data.specs.Shape.{KindIn, is_key_kind, IsKey, ArePairs, Fits}
use Rattle.seg_store.specs.Meaning.{sees}
use Rattle.seg_store.specs.Store.{Where, CanFind}
use Rattle.page_table.specs.Pages.{Table}
use Rattle.paged_store.specs.declared.sight.Seen.{Seen}
use Rattle.paged_store.specs.declared.sight.Seen.TheVariants.{Image, Segment}
use Rattle.paged_store.specs.Words.{Words, decode, body_by, body_size, in_head, in_body, in_index, in_record}
use Rattle.paged_store.specs.inner.Formed.{Formed, HasIndex}
use Rattle.paged_store.specs.State.{State, meaning_in}
use Rattle.paged_store.specs.inner.Sound.{Sound}
use Rattle.paged_store.specs.Paged.{Paged, state_of}
use Rattle.paged_store.specs.inner.Fine.{Fine}
use Rattle.paged_store.specs.inner.Sight.{Stands, CanRead, IsSeen, words_seen, record_seen, IsKeySeen, KeysSeen, IsKnown, KnowsKeys}
use Rattle.paged_store.proofs.SpanLemmas.{in_span_at, head_at, in_first, in_second}
use Rattle.paged_store.proofs.StateLemmas.{image_reserved}
use Rattle.paged_store.proofs.SightLemmas.{seen_formed, seen_reserved, seen_words, seen_there}

-- a record whose places are reserved stands
pub stands_by : (w : Words) (reserved a : ℕ) → ((p : ℕ) → in_record w a p ≡ true → p < reserved) → Formed w a →
    Stands w reserved a
stands_by w reserved a h f = record {
  head = (let l : 2 * a + 3 < reserved = h (2 * a + 3)
      (in_first (in_head a (2 * a + 3)) (in_body w a (2 * a + 3)) (in_index w a (2 * a + 3))
      (head_at a 3 (omega arith))) in omega arith);
  body = λ some. (let l : body_by w a + (body_size w a - 1) < reserved = last (body_by w a + (body_size w a - 1))
      (in_span_at (body_by w a) (body_size w a) (body_size w a - 1) (omega arith)) in omega arith);
  formed = f;
}
  where
    last : (p : ℕ) → in_body w a p ≡ true → p < reserved
    last p i = h p (in_second (in_head a p) (in_body w a p) (in_index w a p) i)

-- each record of a heap is that which words stand for, and stands
pub record Shows (w : Words) (reserved : ℕ) (h : Heap) : Type 0 where
  pub is : (a : ℕ) → Has h a → h a ≡ Some (decode w a)
  pub stands : (a : ℕ) → Has h a → Stands w reserved a

there_some : (t : Bool) (r : Rec) → IsSome (cond t (Some r) None) → t ≡ true
there_some true r e = refl
there_some false r e = absurd (cc)

some_there : (t : Bool) (r : Rec) → t ≡ true → ◌≡◌ {A = Option Rec} (cond t (Some r) None) (Some r)
some_there true r e = refl
some_there false r e = absurd (cc)

-- so are those that a segment sees, and those of the image
pub seen_shows : (own role : Words) (s : State) (k : ℕ) → Sound own role s →
    Shows (s.now k).word s.reserved (sees (meaning_in s) k)
seen_shows own role s k g = record {
  is = λ a e. (λ i. seen_words own role s k g i a) ∙
      some_there (s.image a || (s.now k).holds a) (decode (s.now k).word a) (seen_there own role s k g a e);
  stands = λ a e. (let t = seen_there own role s k g a e in
      stands_by (s.now k).word s.reserved a (λ p i. seen_reserved own role s k g a p t i)
      (seen_formed own role s k g a t));
}

pub image_shows : (own role : Words) (s : State) → Sound own role s → Shows s.shared s.reserved (meaning_in s).image
unfolding meaning_in
image_shows own role s g = record {
  is = λ a e. some_there (s.image a) (decode s.shared a) (there_some (s.image a) (decode s.shared a) e);
  stands = λ a e. (let t = there_some (s.image a) (decode s.shared a) e in
      stands_by s.shared s.reserved a (λ p i. image_reserved own role s g a p t i) (g.formed a t));
}

-- ---- what calls need

there_of : (o : Option Rec) (P : Rec → Type 0) → MatchOption o (false ≡ true) P → (r : Rec) × (o ≡ Some r) × P r
there_of None P e = absurd (cc)
there_of (Some r) P e = (r, refl, e)

has_some : (o : Option Rec) (r : Rec) → o ≡ Some r → IsSome o
has_some None r e = absurd (cc)
has_some (Some s) r e = refl

pub has_kind : (o : Option Rec) (P : Kind → Type 0) → KindIn o P → IsSome o
has_kind None P e = absurd e
has_kind (Some r) P e = refl

module _ (t : Table) (seen : Seen) (h : Heap) (z : Shows (words_seen t seen) t.reserved h) (i : IsSeen t seen) where
  -- a record that is there can be read, and is the one that words stand for
  pub can_read : (a : ℕ) → Has h a → CanRead t seen a
  can_read a e = record { segment = i; stands = z.stands a e }

  pub at_seen : (a : ℕ) → Has h a → at h a ≡ record_seen t seen a
  unfolding at
  at_seen a e = ap (λ o. unwrap_or o blank) (z.is a e)

  -- so is one that has some property, and what it stands for has the property
  module _ (a : ℕ) (P : Rec → Type 0) (f : Where h a P) where
    pub where_has : Has h a
    where_has = let r = there_of (h a) P f in has_some (h a) r.0 r.1

    pub where_seen : P (record_seen t seen a)
    where_seen =
        let r = there_of (h a) P f in
        let e : r.0 ≡ record_seen t seen a =
        (let x : ◌≡◌ {A = Option Rec} (Some r.0) (Some (record_seen t seen a)) = sym r.1 ∙ z.is a where_has in cc) in
        subst P e r.2

  -- the record of a key can be read
  pub key_read : (v : Value) → IsKey h v → IsKeySeen t seen v
  key_read Unset k = tt
  key_read NoneValue k = tt
  key_read (BoolValue b) k = tt
  key_read (Int n) k = tt
  key_read (Ref a) k = can_read a.0 (has_kind (h a.0) (λ q. is_key_kind q ≡ true) k)
  key_read (Builtin n) k = tt

  pub key_known : (v : Value) → IsKey h v → IsKnown h (words_seen t seen) v
  key_known Unset k = tt
  key_known NoneValue k = tt
  key_known (BoolValue b) k = tt
  key_known (Int n) k = tt
  key_known (Ref a) k = z.is a.0 (has_kind (h a.0) (λ q. is_key_kind q ≡ true) k)
  key_known (Builtin n) k = tt

  key_of : (vs : List Value) → ArePairs h vs → (n : ℕ) → 2 * n + 1 < length vs → IsKey h (value_at vs (2 * n))
  key_of [] p n l = absurd (omega arith)
  key_of (k ∷ []) p n l = absurd p
  key_of (k ∷ v ∷ rest) p zero l = p.0
  key_of (k ∷ v ∷ rest) p (suc n) l =
      let next : suc (suc (2 * n)) ≡ 2 * suc n = omega arith in
      subst (λ m. IsKey h (value_at (k ∷ v ∷ rest) m)) next (key_of rest p.1 n (omega arith))

  -- what a search for a key needs
  module _ (d : ℕ) (key : Value) (f : CanFind h d key) where
    fits : Fits h (record_seen t seen d) key
    fits = where_seen d (λ r. Fits h r key) f

    pub find_there : CanRead t seen d
    find_there = can_read d (where_has d (λ r. Fits h r key) f)

    pub find_kind : (record_seen t seen d).kind ≡ Dict
    find_kind = fits.0

    pub find_key_seen : IsKeySeen t seen key
    find_key_seen = key_read key fits.1

    pub find_keys_seen : KeysSeen t seen (record_seen t seen d).values
    find_keys_seen = record { each = λ n l. key_read _ (key_of (record_seen t seen d).values fits.2 n l) }

    pub find_knows : KnowsKeys h (words_seen t seen) (record_seen t seen d).values key
    find_knows = record {
      each = λ n l. key_known _ (key_of (record_seen t seen d).values fits.2 n l);
      sought = key_known key fits.1;
    }

-- ---- they are propositions

index_prop : (k : Kind) (c i : ℕ) → IsProp (HasIndex k c i)
index_prop Dict c i = hlevel props
index_prop Str c i = hlevel props
index_prop Tuple c i = hlevel props
index_prop ListKind c i = hlevel props
index_prop Cell c i = hlevel props
index_prop Function c i = hlevel props
index_prop Class c i = hlevel props
index_prop Instance c i = hlevel props
index_prop Method c i = hlevel props
index_prop Iter c i = hlevel props
index_prop Range c i = hlevel props
index_prop Lock c i = hlevel props
index_prop Thread c i = hlevel props

pub stands_prop : (w : Words) (reserved a : ℕ) → IsProp (Stands w reserved a)
stands_prop w reserved a = hlevel (props, index_prop)

pub shows_prop : (w : Words) (reserved : ℕ) (h : Heap) → IsProp (Shows w reserved h)
shows_prop w reserved h = hlevel (props, index_prop)

-- ---- what is seen of a store

pub fine_seen : (p : Paged) (k : ℕ) → Fine p →
    Shows (words_seen p.table (Segment k)) p.table.reserved (sees (meaning_in (state_of p)) k)
unfolding state_of
fine_seen p k f = ∥∥₁_elim f.sound (shows_prop _ _ _) (λ g. seen_shows g.0 g.1.0 (state_of p) k g.1.1)

pub fine_image : (p : Paged) → Fine p →
    Shows (words_seen p.table Image) p.table.reserved (meaning_in (state_of p)).image
unfolding state_of
fine_image p f = ∥∥₁_elim f.sound (shows_prop _ _ _) (λ g. image_shows g.0 g.1.0 (state_of p) g.1.1)
