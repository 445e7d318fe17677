-- A segment changes a record in the words that it has, on a store's fields; or the change is refused.
use Rattle.std.proofs.Common.{get_or, ◌||◌, ◌≡◌, ℕ, ◌<◌, ◌≤◌, Bool, true, false, [], refl, arith}
use Rattle.std.proofs.Math.Logic.{∥∥₁_map}
use Rattle.py_data.specs.declared.change.Change.{Change}
use Rattle.py_data.specs.Changes.{after}
use Rattle.py_data.specs.Heap.{Rec}
use Rattle.seg_store.specs.Extents.{extents}
use Rattle.seg_store.specs.Meaning.{Meaning, sees, holds}
use Rattle.seg_store.specs.Calls.{after_change}
use Rattle.seg_store.specs.Store.{CanChange, IsStore}
use Rattle.paged_store.specs.Words.{Words, decode, in_record}
use Rattle.paged_store.specs.inner.Formed.{Lays}
use Rattle.paged_store.specs.State.{meaning_in}
use Rattle.paged_store.specs.inner.Sound.{Sound}
use Rattle.paged_store.specs.inner.Moves.{never}
use Rattle.paged_store.specs.Paged.{Paged, state_of, spare_at}
use Rattle.paged_store.specs.inner.Fine.{Fine}
use Rattle.paged_store.specs.inner.Writing.{Desk, Wrote, Refused}
use Rattle.paged_store.specs.inner.Written.{Changed}
use Rattle.paged_store.proofs.OwnerLemmas.{place_own}
use Rattle.paged_store.proofs.StockMove.{less_stocks}
use Rattle.paged_store.proofs.Keeping.{change_kept}
use Rattle.paged_store.proofs.FineLemmas.{known_of, Leaves}
use Rattle.paged_store.proofs.IndexFrame.{Renews}
use Rattle.paged_store.proofs.KeyedLemmas.{keyed_change, fixed_change}
use Rattle.paged_store.proofs.LookCalls.{in_hand}
use Rattle.paged_store.proofs.WriteCall.{Rewritten, turned, turned_to, turn_leaves, stay_leaves}

-- Words that stand for the record r at a: only places of t have other words, and they are all places of the record.
pub record InPlaceOf (w now : Words) (t : ℕ → Bool) (a : ℕ) (r : Rec) : Type 0 where
  pub inside : (q : ℕ) → t q ≡ true → in_record w a q ≡ true
  pub off : (q : ℕ) → t q ≡ false → now q ≡ w q
  pub changed : (own role : Words) → Lays own role w a → Changed own role w now a never never r

-- what always holds of a store holds where more is reserved
pub still_store : (n n1 : ℕ) (m : Meaning) → IsStore n m → n1 ≤ m.limit → IsStore n1 m
still_store n n1 m w room = record {
  some = w.some;
  few = w.few;
  room = room;
  changes = w.changes;
  kept = w.kept;
  front = w.front;
  locked = w.locked;
  unused = w.unused;
  apart = w.apart;
  stored = w.stored;
  stored_changes = w.stored_changes;
  stored_kept = w.stored_kept;
}

module _ (p : Paged) (k a : ℕ) (f : Fine p) (l : k < p.table.segments)
    (held : holds ((meaning_in (state_of p)).part k) a ≡ true)
    (new : Desk) where
  abbrev old : Desk
  old = record { table = p.table; draft = p.drafts k }

  pub is_held : in_hand k (p.drafts k) a ≡ true
  unfolding meaning_in state_of
  is_held = held

  module _ (now : Words) (t : ℕ → Bool) (h : Wrote k now t old new) where
    rewritten : (own role : Words) (r : Rec) → Sound own role (state_of p) → InPlaceOf (p.table.word k) now t a r
        → Rewritten p k new now t [] f (turned k now t old new h) own role a r
    unfolding state_of
    rewritten own role r g i =
        let e = h.same.shelf in
        let lays : Lays own role (p.table.word k) a = (g.now k).lays a is_held in
        let c = i.changed own role lays in
        record {
          part = never;
          stocks = less_stocks own role (state_of p) (spare_at new.table) new.table.reserved g
              (λ q. (let x : spare_at new.table q ≡ spare_at p.table q =
              (λ z. spare_at (record p.table { shelf = e z }) q) in omega (arith, x)))
              (let m = h.same.reserved in omega (arith, m));
          rewrites = record {
            once = λ q. omega arith;
            free = λ q z. absurd (omega arith);
            untouched = λ q x z. i.off q x;
            touches = λ q x. place_own own role (p.table.word k) a q lays (i.inside q x);
            lays = c.lays;
            formed = c.formed;
          };
          means = c.means;
        }

    room_kept : new.table.reserved ≤ (meaning_in (state_of p)).limit
    room_kept = (let w = known_of p f in let r = w.room in let e = h.same.reserved in omega (arith, r, e))

    -- the record is another
    pub change_leaves : (c : Change) → CanChange (sees (meaning_in (state_of p)) k) a c
        → InPlaceOf (p.table.word k) now t a (after c (decode (p.table.word k) a))
        → ((n : ℕ) → 1 ≤ n → extents (after c (decode (p.table.word k) a)) n ≡ extents (decode (p.table.word k) a) n)
        → Renews (λ b. get_or p.present b false || in_hand k (p.drafts k) b) (p.table.word k) now a
        (after c (decode (p.table.word k) a))
        → Leaves (turned_to p k new) (after_change k a (after c) (meaning_in (state_of p)))
    change_leaves c can i same right = turn_leaves p k new now t [] f (turned k now t old new h) a is_held (after c) l
        (λ own role g. rewritten own role (after c (decode (p.table.word k) a)) g i)
        (change_kept p.table.reserved new.table.reserved k (meaning_in (state_of p)) (known_of p f) room_kept a c held
        can)
        (λ n z. let e = same n z in omega (arith, e))
        (∥∥₁_map f.keyed (λ q. keyed_change (meaning_in (state_of p)) k a c q can))
        ((fixed_change (meaning_in (state_of p)) k a c can).now k) right

  same_words : (t : ℕ → Bool) (own role : Words) → ((q : ℕ) → t q ≡ true → in_record (p.table.word k) a q ≡ true) →
      Sound own role (state_of p)
      → InPlaceOf (p.table.word k) (p.table.word k) t a (decode (p.table.word k) a)
  unfolding state_of
  same_words t own role inside g = record {
    inside = inside;
    off = λ q x. refl;
    changed = λ own1 role1 lays. record {
      means = refl;
      formed = (g.now k).formed a is_held;
      lays = lays;
      others =
          λ q x z. refl;
    };
  }

  -- nothing is
  pub refused_leaves : (t : ℕ → Bool) → ((q : ℕ) → t q ≡ true → in_record (p.table.word k) a q ≡ true)
      → Refused k t old new → Leaves (turned_to p k new) (meaning_in (state_of p))
  refused_leaves t inside r =
      let w : Words = p.table.word k in
      stay_leaves p k new w r.touched [] f (turned k w r.touched old new r.wrote) a is_held l refl
      (λ own role g. rewritten w r.touched r.wrote own role (decode w a) g
      (same_words r.touched own role (λ q x. inside q (r.within q x)) g))
      (still_store p.table.reserved new.table.reserved (meaning_in (state_of p)) (known_of p f)
      (room_kept w r.touched r.wrote)) refl
