-- The index of a Dict that was made is empty, and its pairs can be entered in it.
use Rattle.std.proofs.Common.{◌≡◌, ℕ, zero, suc, ◌*◌, ◌^◌, ◌<◌, ◌≤◌, true, ◌||◌, List, [], ◌∷◌, inl, inr, sym, ◌∙◌, ap, subst, arith}
use Rattle.std.proofs.Props.{props}
use Rattle.std.proofs.Math.Logic.{∥∥₁_elim}
use Rattle.py_base.specs.declared.kind.Kind.{Kind}
use Rattle.py_base.specs.declared.kind.Kind.TheVariants.{Dict}
use Rattle.py_data.specs.declared.record.Record.{Record}
use Rattle.py_data.specs.declared.value.Value.{Value}
use Rattle.py_data.specs.declared.value.Value.TheVariants.{Unset, None as NoneValue, Bool as BoolValue, Int, Ref, Builtin}
use Rattle.py_data.specs.Heap.{Rec, Heap, Has, value_at}
use Rattle.py_data.specs.Made.{rec_of}
use Rattle.py_data.specs.Shape.{is_key_kind, IsKey, ArePairs, HasShape, IsShaped}
use Rattle.seg_store.specs.Meaning.{sees}
use Rattle.seg_store.specs.Store.{OneList}
use Rattle.dict_index.specs.Index.{IsBlank}
use Rattle.page_table.specs.Pages.{Table}
use Rattle.paged_store.specs.declared.sight.Seen.TheVariants.{Segment}
use Rattle.paged_store.specs.Words.{Words, in_span, size_of, decode, index_by, index_size, body_by, body_size, in_head, in_body}
use Rattle.paged_store.specs.inner.Formed.{AgreeOn, Lays}
use Rattle.paged_store.specs.State.{meaning_in}
use Rattle.paged_store.specs.inner.Sound.{Sound}
use Rattle.paged_store.specs.inner.Moves.{never}
use Rattle.paged_store.specs.Paged.{Paged, state_of, extents_at}
use Rattle.paged_store.specs.inner.Fine.{Fine}
use Rattle.paged_store.specs.inner.Indexed.{index_words}
use Rattle.paged_store.specs.inner.Indexing.{Avoids, KeyAvoids, CanIndex, Puts}
use Rattle.paged_store.specs.inner.Making.{made_length, body_class, index_class, made_extents, made_words, FitsRecord, FitsBody, Places}
use Rattle.paged_store.specs.inner.Sight.{Stands, IsKeySeen, KeysSeen}
use Rattle.paged_store.specs.inner.Writing.{Desk, CanPut}
use Rattle.paged_store.specs.inner.Written.{Changed, owned_by, parted}
use Rattle.paged_store.proofs.PartLemmas.{false_from, index_not_head, index_not_body}
use Rattle.paged_store.proofs.FrameLemmas.{head_same, body_places, places_agree, formed_agrees, agree_on_own}
use Rattle.paged_store.proofs.StateLemmas.{none_or_some}
use Rattle.paged_store.proofs.SightLemmas.{seen_lays, seen_formed, seen_some, seen_reserved, seen_there}
use Rattle.paged_store.proofs.StandLemmas.{stands_by, stands_prop, has_kind}
use Rattle.paged_store.proofs.PutLemmas.{can_still}
use Rattle.paged_store.proofs.MakeTakes.{index_can}
use Rattle.paged_store.proofs.MadeWords.{part, index_taken, now_body, now_body_size, now_index, now_index_size, made_blank, made_changed}
use Rattle.paged_store.proofs.MakeCall.{taken_turns, freed, placed_is, placed_off}
use Rattle.paged_store.proofs.GrowTakes.{next_even}
use Rattle.paged_store.specs.inner.Claiming.{extent_for}

-- what holds of keys, and of no value, holds of the values at even places
pub pairs_each : (h : Heap) (P : Value → Type 0) → P Unset → ((v : Value) → IsKey h v → P v) → (vs : List Value)
    → ArePairs h vs → (j : ℕ) → P (value_at vs (2 * j))
pairs_each h P none each [] p j = none
pairs_each h P none each (k ∷ []) p j = absurd p
pairs_each h P none each (k ∷ v ∷ rest) p zero = each k p.0
pairs_each h P none each (k ∷ v ∷ rest) p (suc j) =
    let next : suc (suc (2 * j)) ≡ 2 * suc j = omega arith in
    subst (λ m. P (value_at (k ∷ v ∷ rest) m)) next (pairs_each h P none each rest p.1 j)

module _ (p : Paged) (k a : ℕ) (f : Fine p) (l : k < p.table.segments) (r : Record) (placed : Desk)
    (z : Places k a r (record { table = p.table; draft = p.drafts k }) placed) (fits : FitsBody r) where
  abbrev w : Words
  w = p.table.word k

  abbrev t : Table
  t = placed.table

  abbrev v : Words
  v = placed.table.word k

  abbrev now : Words
  now = made_words w a z.body z.index r

  abbrev e : ℕ → ℕ
  e = extents_at (made_extents r (2 * a) z.body z.index)

  is_now : v ≡ now
  is_now = placed_is p k a f l r placed z fits

  at_index : index_by v a ≡ z.index
  at_index = ap (λ y. index_by y a) is_now ∙ now_index w a z.body z.index r fits

  room : index_size v a ≡ size_of (index_class r)
  room = ap (λ y. index_size y a) is_now ∙ now_index_size w a z.body z.index r fits

  -- words that are put there
  pub made_puts : (u : Table) → Puts k (index_by v a) (index_size v a) t u
      → Puts k z.index (size_of (index_class r)) t u
  made_puts u x = subst (λ n. Puts k z.index n t u) room (subst (λ q. Puts k q (index_size v a) t u) at_index x)

  once : (q : ℕ) → e q ≤ 1
  once q = ∥∥₁_elim f.sound (hlevel props) (λ y. (freed p k a f l r placed z fits y.0 y.1.0 y.1.1).once q)

  pub made_empty : IsBlank (index_size v a) (index_words v a)
  made_empty = subst (λ y. IsBlank (index_size y a) (index_words y a)) (sym is_now)
      (made_blank w a z.body z.index r fits once)

  -- ---- the records that were there

  abbrev h : Heap
  h = sees (meaning_in (state_of p)) k

  index_in : (q : ℕ) → in_span (index_by v a) (index_size v a) q ≡ true → 0 < e q
  index_in q i = index_taken w a z.body z.index r q ((λ j. in_span (sym at_index j) (sym room j) q) ∙ i)

  reserved : t.reserved ≡ z.taken.table.reserved
  reserved = ap (λ (d : Desk). d.table.reserved) z.puts

  module _ (own role : Words) (g : Sound own role (state_of p)) (b : ℕ) (there : Has h b) where
    seen : ((state_of p).image b || ((state_of p).now k).holds b) ≡ true
    seen = seen_there own role (state_of p) k g b there

    lays : Lays own role w b
    unfolding state_of
    lays = seen_lays own role (state_of p) k g b seen

    not_free : (q : ℕ) → own q ≡ b → 0 < e q → ⊥
    not_free q o s = seen_some own role (state_of p) k g b seen
        (sym o ∙ ((freed p k a f l r placed z fits own role g).free q s).0)

    still : AgreeOn w v b
    still = agree_on_own own role w v b lays (λ q o. elim (none_or_some (e q)) [
      | inl n ↦ sym (placed_off p k a f l r placed z fits q n)
      | inr s ↦ absurd (not_free q o s)
    ])

    avoids : Avoids v (index_by v a) (index_size v a) b
    avoids = record {
      head = λ q i. false_from (in_head b q) (λ x. not_free q (lays.head q x).0 (index_in q i));
      body = λ q i. false_from (in_body v b q) (λ x. not_free q
          (lays.body q (body_places w v b q (head_same w v b still.head) ∙ x)).0 (index_in q i));
    }

    stands : Stands v t.reserved b
    unfolding state_of
    stands = stands_by v t.reserved b
        (λ q i. let x = seen_reserved own role (state_of p) k g b q seen (places_agree w v b q still ∙ i) in
        let m = (taken_turns p k a f l r placed z fits).more in omega (arith, x, m, reserved))
        (formed_agrees w v b still (seen_formed own role (state_of p) k g b seen))

  there_avoids : (b : ℕ) → Has h b → Avoids v (index_by v a) (index_size v a) b
  there_avoids b there = ∥∥₁_elim f.sound (hlevel props) (λ y. avoids y.0 y.1.0 y.1.1 b there)

  there_stands : (b : ℕ) → Has h b → Stands v t.reserved b
  there_stands b there = ∥∥₁_elim f.sound (stands_prop _ _ _) (λ y. stands y.0 y.1.0 y.1.1 b there)

  -- ---- keys

  key_avoids : (x : Value) → IsKey h x → KeyAvoids v (index_by v a) (index_size v a) x
  key_avoids Unset i = tt
  key_avoids NoneValue i = tt
  key_avoids (BoolValue b) i = tt
  key_avoids (Int n) i = tt
  key_avoids (Ref b) i = there_avoids b.0 (has_kind (h b.0) (λ q. is_key_kind q ≡ true) i)
  key_avoids (Builtin n) i = tt

  segment : k < t.segments
  segment = subst (λ n. k < n) (sym (ap (λ (d : Desk). d.table.segments) z.puts
      ∙ (taken_turns p k a f l r placed z fits).segments)) l

  key_seen : (x : Value) → IsKey h x → IsKeySeen t (Segment k) x
  key_seen Unset i = tt
  key_seen NoneValue i = tt
  key_seen (BoolValue b) i = tt
  key_seen (Int n) i = tt
  key_seen (Ref b) i = record {
    segment = segment;
    stands = there_stands b.0 (has_kind (h b.0) (λ q. is_key_kind q ≡ true) i);
  }
  key_seen (Builtin n) i = tt

  -- ---- the Dict

  module _ (short : made_length r ≤ 2 ^ 20) (one : OneList r.kind r.values r.bytes) (each : FitsRecord r)
      (shape : IsShaped h (rec_of r)) (is_dict : r.kind ≡ Dict) where
    its : Changed never never w v a e (part w a z.body z.index r) (rec_of r)
    its = subst (λ y. Changed never never w y a e (part w a z.body z.index r) (rec_of r)) (sym is_now)
        (made_changed w a z.body z.index r fits once never never short one each
        (λ some. next_even 1 z.head (body_class r) z.body _ (extent_for (index_class r) z.index) some
        z.takes.claims.lie))

    its_values : (decode v a).values ≡ r.values
    its_values = ap (λ (q : Rec). q.values) its.means

    pairs : ArePairs h r.values
    pairs = (let P : Kind → Type 0 = λ q. HasShape h q r.values in let x : P Dict = subst P is_dict shape.0 in x.0)

    body_at : body_by v a ≡ z.body
    body_at = ap (λ y. body_by y a) is_now ∙ now_body w a z.body z.index r fits

    body_room : body_size v a ≡ size_of (body_class r)
    body_room = ap (λ y. body_size y a) is_now ∙ now_body_size w a z.body z.index r fits

    it_stands : Stands v t.reserved a
    it_stands = record {
      head = (let x = z.head_within in let y = z.is in omega (arith, x, y, reserved));
      body = λ some. (let x = z.body_within in omega (arith, x, body_at, body_room, reserved));
      formed = its.formed;
    }

    its_span : CanPut k (index_by v a) (index_size v a) t
    its_span = subst (λ q. CanPut k q (index_size v a) t) (sym at_index) (subst (λ n. CanPut k z.index n t) (sym room)
        (can_still k z.index (size_of (index_class r)) (made_words (z.taken.table.word k) a z.body z.index r)
        z.taken.table t (ap (λ (d : Desk). d.table) z.puts)
        (index_can k z.head z.body z.index r _ z.taken z.takes (index_class r) (λ i. index_class r) z.index_within)))

    pub made_can : CanIndex k a (index_by v a) (index_size v a) t
    made_can = record {
      slots = record {
        segment = segment;
        stands = it_stands;
        kind = ap (λ (q : Rec). q.kind) its.means ∙ is_dict;
        at = λ i. index_by v a;
        size = λ i. index_size v a;
        keys = subst (KeysSeen t (Segment k)) (sym its_values)
            (record { each = λ j n. pairs_each h (IsKeySeen t (Segment k)) tt key_seen r.values pairs j });
        apart = record {
          head = λ q i. index_not_head (owned_by never e a) (parted never e (part w a z.body z.index r)) v
              a q its.lays i;
          body = λ q i. index_not_body (owned_by never e a) (parted never e (part w a z.body z.index r)) v
              a q its.lays i;
        };
        keys_apart = λ j. subst (λ (vs : List Value). KeyAvoids v (index_by v a) (index_size v a) (value_at vs (2 * j)))
            (sym its_values)
            (pairs_each h (KeyAvoids v (index_by v a) (index_size v a)) tt key_avoids r.values pairs j);
        within = its_span.within;
      };
      may = its_span;
    }
