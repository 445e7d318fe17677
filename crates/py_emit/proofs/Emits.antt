-- What is emitted part by part is the code of the template.
use Rattle.std.proofs.Common.{◌≡◌, ◌≢◌, ℕ, zero, suc, ◌+◌, ◌<◌, ◌≤◌, ◌⊎◌, inl, inr, List, [], ◌∷◌, ◌++◌, Option, Some, None, Bool, true, false, length, get_or, refl, sym, ap, ◌∙◌, subst, arith, length-append, length-set, append_assoc, drop, eq-eqb, append-nil, ltb-true, get_or-append-add}
use Rattle.std.specs.Prelude.{IsTrue, if◌then◌else◌, nat_lt, not, replicate}
use Rattle.std.proofs.lemmas.Bool.{cases_lt, eqb-true}
use Rattle.std.proofs.lemmas.List.{get_or-set_same, get_or-set_other, get_or_past, get_or_append_left, get_or-replicate, length-replicate, map-append}
use Rattle.py_emit.specs.declared.draft.Draft.{Draft}
use Rattle.py_emit.specs.declared.draft.Draft.TheVariants.{Op as DraftOp, To as DraftTo}
use Rattle.py_emit.specs.declared.draft.Far.{Far}
use Rattle.py_templates.specs.Template.{row, Frame, Piece, Part, Op, Hidden, To, Here, Alone, Sub, part_size, part_slots, part_lines, size_of, slots_of, lines_of, stands, place_of, labels_from, label_at, slot_at, own_slot, part_code, code_of, template}
use Rattle.py_emit.specs.inner.State.{St, put, marked, opened, jump_of, done_one, done, number, labels_there, frame_there, no_frames, Agree, Emitted}
use Rattle.py_templates.proofs.Typed.{has_label, all_stand, if_both, stands_below}

-- each label stands once, and below a count
abbrev pub not_twice : Part → List Part → Bool
not_twice (Here l) xs = not (has_label xs l)
not_twice _ xs = true

abbrev pub once : List Part → Bool
once [] = true
once (x ∷ xs) = if not_twice x xs then once xs else false

abbrev pub part_below : ℕ → Part → Bool
part_below count (Here l) = nat_lt l count
part_below count _ = true

abbrev pub below : ℕ → List Part → Bool
below count [] = true
below count (x ∷ xs) = if part_below count x then below count xs else false

once_use : (x : Part) (xs : List Part) (k : ℕ) → IsTrue (not_twice x xs) → IsTrue (stands x k) →
    IsTrue (has_label xs k) → ⊥
once_use (Here l) xs k h st has = let e : l ≡ k = eqb-true l k st in no_both (has_label xs l) h (rw e has)
  where
    no_both : (b : Bool) → IsTrue (not b) → IsTrue b → ⊥
    no_both true h1 h2 = cc
    no_both false h1 h2 = cc
once_use (Op i) xs k h st has = cc
once_use (Hidden d j) xs k h st has = cc
once_use (To d j m) xs k h st has = cc
once_use (Alone b) xs k h st has = cc
once_use (Sub m b) xs k h st has = cc

has_here : (b c : Bool) → IsTrue b → IsTrue (if b then true else c)
has_here true c h = refl
has_here false c h = cc

has_there : (b c : Bool) → IsTrue c → IsTrue (if b then true else c)
has_there true c h = refl
has_there false c h = h

pick2 : (b c : Bool) (v : Option ℕ) (p q : ℕ) → IsTrue (if b then true else c) → (IsTrue b → v ≡ Some p) →
    (IsTrue c → v ≡ Some q) → v ≡ Some (if b then p else q)
pick2 true c v p q h f g = f refl
pick2 false c v p q h f g = g h

number_apart : (base k j : ℕ) → number base k ≡ number base j → k ≡ j
number_apart base zero zero e = refl
number_apart base zero (suc j) e = absurd (omega (arith, e))
number_apart base (suc k) zero e = absurd (omega (arith, e))
number_apart base (suc k) (suc j) e = omega (arith, e)

number_is : (base k : ℕ) → number base k ≡ base + k
number_is base zero = omega arith
number_is base (suc k) = refl

module _ (line base : ℕ) (env : List ℕ → List Frame) where
  -- one part was emitted; the template's own construct is the first of env
  abbrev pub StepOk : Part → St → St → Type 0
  StepOk (Op i) e m = m ≡ put e line (DraftOp i)
  StepOk (Hidden d j) e m = (s : ℕ) × ((ls : List ℕ) → slot_at (env ls) d ≡ s) × (m ≡ put e line (DraftOp (j s)))
  StepOk (To d j l) e m = (f : Far) × (x : ℕ) × ((q : ℕ) → jump_of f q ≡ j q) ×
      ((ls : List ℕ) → label_at (env ls) d l ≡ get_or ls x 0) × (m ≡ put e line (DraftTo f x))
  StepOk (Here l) e m = m ≡ marked e (number base l)
  StepOk (Alone b) e m = Emitted e m b no_frames
  StepOk (Sub d b) e m = Emitted e m b (λ ls. drop d (env ls))

  -- one part after another
  abbrev pub Emits : List Part → St → St → Type 0
  Emits [] e e' = e ≡ e'
  Emits (x ∷ xs) e e' = (m : St) × StepOk x e m × Emits xs m e'

  record Step (x : Part) (e m : St) : Type 0 where
    size : length m.code ≡ length e.code + part_size x
    slots : m.slots ≡ e.slots + part_slots x
    lines : m.lines ≡ e.lines ++ part_lines line x
    more : length e.labels ≤ length m.labels
    kept : (l : ℕ) → l < length e.labels → ((k : ℕ) → IsTrue (stands x k) → l ≢ number base k) →
        get_or m.labels l None ≡ get_or e.labels l None
    mark : (k : ℕ) → IsTrue (stands x k) → get_or m.labels (number base k) None ≡ Some (length e.code)
    code : (ls : List ℕ) → Agree m.labels ls → done ls m.code ≡ done ls e.code ++ part_code (env ls) x (length e.code)
        e.slots

  put_step : (x : Part) (d : Draft) (e m : St) → part_size x ≡ 1 → part_slots x ≡ 0 → part_lines line x ≡ line ∷ [] →
      ((k : ℕ) → IsTrue (stands x k) → ⊥) →
      ((ls : List ℕ) → done_one ls d ∷ [] ≡ part_code (env ls) x (length e.code) e.slots) → m ≡ put e line d →
      Step x e m
  put_step x d e m s1 s2 s3 st eq em = subst (λ z. Step x e z) (sym em) (record {
    size = omega (arith, length-append e.code (d ∷ []), s1);
    slots = omega (arith, s2);
    lines = ap (λ z. e.lines ++ z) (sym s3);
    more = omega arith;
    kept = λ l lt ne. refl;
    mark = λ k h. absurd (st k h);
    code = λ ls ag. map-append (done_one ls) e.code (d ∷ []) ∙ ap (λ z. done ls e.code ++ z) (eq ls);
  })

  sub_step : (x : Part) (b : Piece) (env2 : List ℕ → List Frame) (e m : St) → part_size x ≡ b.size →
      part_slots x ≡ b.slots → part_lines line x ≡ b.lines → ((k : ℕ) → IsTrue (stands x k) → ⊥) →
      ((ls : List ℕ) → b.code (env2 ls) (length e.code) e.slots ≡ part_code (env ls) x (length e.code) e.slots) →
      Emitted e m b env2 → Step x e m
  sub_step x b env2 e m s1 s2 s3 st eq em = record {
    size = em.size ∙ ap (λ z. length e.code + z) (sym s1);
    slots = em.slots ∙ ap (λ z. e.slots + z) (sym s2);
    lines = em.lines ∙ ap (λ z. e.lines ++ z) (sym s3);
    more = em.more;
    kept = λ l lt ne. em.kept l lt;
    mark = λ k h. absurd (st k h);
    code = λ ls ag. em.code ls ag ∙ ap (λ z. done ls e.code ++ z) (eq ls);
  }

  here_step : (l : ℕ) (e m : St) → number base l < length e.labels → m ≡ marked e (number base l) → Step (Here l) e m
  here_step l e m lt em = subst (λ z. Step (Here l) e z) (sym em) (record {
    size = omega arith;
    slots = omega arith;
    lines = sym (append-nil e.lines);
    more = omega (arith, length-set e.labels (number base l) (Some (length e.code)));
    kept = λ k less ne. get_or-set_other e.labels (number base l) k (Some (length e.code)) None
        (ne l (eq-eqb l l refl));
    mark = λ k h. let q : l ≡ k = eqb-true l k h in
        rw (← q) (get_or-set_same e.labels (number base l) (Some (length e.code)) None lt);
    code = λ ls ag. sym (append-nil (done ls e.code));
  })

  step : (x : Part) (e m : St) → ((k : ℕ) → IsTrue (stands x k) → number base k < length e.labels) → StepOk x e m →
      Step x e m
  step (Op i) e m w ok = put_step (Op i) (DraftOp i) e m refl refl refl (λ k h. cc) (λ ls. refl) ok
  step (Hidden d j) e m w (s, same, ok) = put_step (Hidden d j) (DraftOp (j s)) e m refl refl refl (λ k h. cc)
      (λ ls. ap (λ z. j z ∷ []) (sym (same ls))) ok
  step (To d j l) e m w (f, x, jf, same, ok) = put_step (To d j l) (DraftTo f x) e m refl refl refl (λ k h. cc)
      (λ ls. ap (λ z. z ∷ []) (jf (get_or ls x 0) ∙ ap j (sym (same ls)))) ok
  step (Here l) e m w ok = here_step l e m (w l (eq-eqb l l refl)) ok
  step (Alone b) e m w ok = sub_step (Alone b) b no_frames e m refl refl refl (λ z h. cc) (λ ls. refl) ok
  step (Sub d b) e m w ok = sub_step (Sub d b) b (λ ls. drop d (env ls)) e m refl refl refl (λ z h. cc) (λ ls. refl) ok

  record Chain (xs : List Part) (e e' : St) : Type 0 where
    size : length e'.code ≡ length e.code + size_of xs
    slots : e'.slots ≡ e.slots + slots_of xs
    lines : e'.lines ≡ e.lines ++ lines_of line xs
    more : length e.labels ≤ length e'.labels
    kept : (l : ℕ) → l < length e.labels → ((k : ℕ) → IsTrue (has_label xs k) → l ≢ number base k) →
        get_or e'.labels l None ≡ get_or e.labels l None
    mark : (k : ℕ) → IsTrue (has_label xs k) →
        get_or e'.labels (number base k) None ≡ Some (place_of xs k (length e.code))
    code : (ls : List ℕ) → Agree e'.labels ls → done ls e'.code ≡ done ls e.code ++ code_of (env ls) xs (length e.code)
        e.slots

  -- the labels that will stand don't stand yet
  abbrev Fresh : List Part → St → Type 0
  Fresh xs e = (k : ℕ) → IsTrue (has_label xs k) →
      (number base k < length e.labels) × (get_or e.labels (number base k) None ≡ None)

  apart : (x : Part) (xs : List Part) → IsTrue (not_twice x xs) → (k : ℕ) → IsTrue (has_label xs k) → (j : ℕ) →
      IsTrue (stands x j) → number base k ≢ number base j
  apart x xs nt k has j st eq = let q : k ≡ j = number_apart base k j eq in once_use x xs j nt st (rw (← q) has)

  fresh_rest : (x : Part) (xs : List Part) (e m : St) → Step x e m → IsTrue (not_twice x xs) → Fresh (x ∷ xs) e →
      Fresh xs m
  fresh_rest x xs e m s nt fr k has = let f = fr k (has_there (stands x k) (has_label xs k) has) in
      (omega (arith, f.0, s.more), s.kept (number base k) f.0 (apart x xs nt k has) ∙ f.1)

  chain_cons : (x : Part) (xs : List Part) (e m e' : St) → Step x e m → IsTrue (not_twice x xs) → Fresh (x ∷ xs) e →
      Fresh xs m → Chain xs m e' → Chain (x ∷ xs) e e'
  chain_cons x xs e m e' s nt fr fresh rest =
      record {
        size = omega (arith, s.size, rest.size);
        slots = omega (arith, s.slots, rest.slots);
        lines = lines;
        more = omega (arith, s.more, rest.more);
        kept = kept;
        mark = mark;
        code = code;
      }
    where
      lines : e'.lines ≡ e.lines ++ (part_lines line x ++ lines_of line xs)
      lines = rest.lines ∙ ap (λ z. z ++ lines_of line xs) s.lines ∙
          append_assoc e.lines (part_lines line x) (lines_of line xs)

      kept : (l : ℕ) → l < length e.labels → ((k : ℕ) → IsTrue (has_label (x ∷ xs) k) → l ≢ number base k) →
          get_or e'.labels l None ≡ get_or e.labels l None
      kept l lt ne = rest.kept l (omega (arith, lt, s.more))
          (λ k has. ne k (has_there (stands x k) (has_label xs k) has)) ∙
          s.kept l lt (λ k st. ne k (has_here (stands x k) (has_label xs k) st))

      mark : (k : ℕ) → IsTrue (has_label (x ∷ xs) k) →
          get_or e'.labels (number base k) None ≡ Some (place_of (x ∷ xs) k (length e.code))
      mark k has = pick2 (stands x k) (has_label xs k) (get_or e'.labels (number base k) None) (length e.code)
          (place_of xs k (length e.code + part_size x)) has
          (λ st. let f = fr k has in rest.kept (number base k) (omega (arith, f.0, s.more))
          (λ j hasj eq. apart x xs nt j hasj k st (sym eq)) ∙ s.mark k st)
          (λ more. rest.mark k more ∙ ap (λ z. Some (place_of xs k z)) s.size)

      earlier : (ls : List ℕ) → Agree e'.labels ls → Agree m.labels ls
      earlier ls ag l p h = ag l p (rest.kept l (within (cases_lt l (length m.labels)))
          (λ k has eq. let z : get_or m.labels l None ≡ None = ap (λ y. get_or m.labels y None) eq ∙ (fresh k has).1 in
          cc) ∙ h)
        where
          within : (l < length m.labels) ⊎ (length m.labels ≤ l) → l < length m.labels
          within (inl lt) = lt
          within (inr le) = let z : get_or m.labels l None ≡ None = get_or_past m.labels l None le in absurd (cc)

      code : (ls : List ℕ) → Agree e'.labels ls → done ls e'.code ≡ done ls e.code ++ code_of (env ls) (x ∷ xs)
          (length e.code) e.slots
      code ls ag =
          rest.code ls ag
          ∙ ap (λ z. z ++ code_of (env ls) xs (length m.code) m.slots) (s.code ls (earlier ls ag))
          ∙ append_assoc (done ls e.code) (part_code (env ls) x (length e.code) e.slots)
          (code_of (env ls) xs (length m.code) m.slots)
          ∙ ap (λ z. done ls e.code ++ (part_code (env ls) x (length e.code) e.slots ++ code_of (env ls) xs z m.slots))
          s.size
          ∙ ap (λ z. done ls e.code ++ (part_code (env ls) x (length e.code) e.slots ++ code_of (env ls) xs
          (length e.code + part_size x) z)) s.slots

  chain : (xs : List Part) (e e' : St) → Emits xs e e' → IsTrue (once xs) → Fresh xs e → Chain xs e e'
  chain [] e e' eq on fr = subst (λ z. Chain [] e z) eq
      (record {
        size = omega arith;
        slots = omega arith;
        lines = sym (append-nil e.lines);
        more = omega arith;
        kept =
            λ l lt ne. refl;
        mark = λ k h. cc;
        code = λ ls ag. sym (append-nil (done ls e.code));
      })
  chain (x ∷ xs) e e' (m, a, b) on fr =
      let s = step x e m (λ k st. (fr k (has_here (stands x k) (has_label xs k) st)).0) a in
      let both = if_both (not_twice x xs) (once xs) on in
      let fr2 = fresh_rest x xs e m s both.0 fr in
      chain_cons x xs e m e' s both.0 fr fr2 (chain xs m e' b both.1 fr2)

below_use : (count : ℕ) (xs : List Part) (k : ℕ) → IsTrue (below count xs) → IsTrue (has_label xs k) → k < count
below_use count [] k b h = cc
below_use count (x ∷ xs) k b h = let w = if_both (part_below count x) (below count xs) b in
    go (stands x k) (has_label xs k) h (part_use x w.0) (below_use count xs k w.1)
  where
    go : (a c : Bool) → IsTrue (if a then true else c) → (IsTrue a → k < count) → (IsTrue c → k < count) → k < count
    go true c h f g = f refl
    go false c h f g = g h

    part_use : (x : Part) → IsTrue (part_below count x) → IsTrue (stands x k) → k < count
    part_use (Here l) b st = let e : l ≡ k = eqb-true l k st in let lt : l < count = ltb-true l count b in
        omega (arith, e, lt)
    part_use (Op i) b st = cc
    part_use (Hidden d j) b st = cc
    part_use (To d j m) b st = cc
    part_use (Alone x) b st = cc
    part_use (Sub m x) b st = cc

-- where the labels stand, their places are those of the template
labels_same : (ls : List ℕ) (base : ℕ) (xs : List Part) (p n a : ℕ) →
    ((l : ℕ) → l < a + n → get_or ls (number base l) 0 ≡ place_of xs l p) →
    labels_there ls base n a ≡ labels_from xs p n a
labels_same ls base xs p zero a h = refl
labels_same ls base xs p (suc n) a h = ap (λ z. z ∷ labels_there ls base n (suc a)) (h a (omega arith)) ∙
    ap (λ z. place_of xs a p ∷ z) (labels_same ls base xs p n (suc a) (λ l lt. h l (omega (arith, lt))))

-- once for all templates
pub template_emitted : (line own count base slot : ℕ) (env : List ℕ → List Frame) (xs : List Part) (e e1 e' : St) →
    base ≡ length e.labels → slot ≡ e.slots → e1 ≡ opened e count own → IsTrue (once xs) → IsTrue (below count xs) →
    IsTrue (all_stand count xs) → Emits line base (λ ls. frame_there base count (own_slot own slot) ls ∷ env ls) xs e1
    e' → Emitted e e' (template line own count xs) env
template_emitted line own count base slot env xs e e1 e' eb es eo on be st em =
    record {
      size = ch.size;
      slots = omega (arith, ch.slots);
      lines = ch.lines;
      more = omega (arith, ch.more, long);
      kept = kept;
      code = code;
    }
  where
    env1 : List ℕ → List Frame
    env1 ls = frame_there base count (own_slot own slot) ls ∷ env ls

    long : length (e.labels ++ replicate count None) ≡ length e.labels + count
    long = length-append e.labels (replicate count None) ∙ ap (λ z. length e.labels + z) (length-replicate count None)

    at : (k : ℕ) → number base k ≡ length e.labels + k
    at k = number_is base k ∙ ap (λ z. z + k) eb

    new : Fresh line base env1 xs (opened e count own)
    new k has = let lt = below_use count xs k be has in (
      omega (arith, lt, long, at k),
      ap (λ z. get_or (e.labels ++ replicate count None) z None) (at k) ∙
          get_or-append-add e.labels (replicate count None) k None ∙ get_or-replicate count k None None lt,
    )

    ch : Chain line base env1 xs (opened e count own) e'
    ch = chain line base env1 xs (opened e count own) e' (subst (λ z. Emits line base env1 xs z e') eo em) on new

    kept : (l : ℕ) → l < length e.labels → get_or e'.labels l None ≡ get_or e.labels l None
    kept l lt = ch.kept l (omega (arith, lt, long)) (λ k has eq. omega (arith, eq, lt, at k)) ∙
        get_or_append_left e.labels (replicate count None) None l lt

    code : (ls : List ℕ) → Agree e'.labels ls → done ls e'.code ≡ done ls e.code ++ (template line own count xs).code
        (env ls) (length e.code) e.slots
    code ls ag =
        ch.code ls ag
        ∙ ap (λ z. done ls e.code ++ code_of (record { labels = z; slot = own_slot own slot } ∷ env ls) xs
        (length e.code) (e.slots + own))
        (labels_same ls base xs (length e.code) count 0
        (λ l lt. ag (number base l) _ (ch.mark l (stands_below count xs l st (omega (arith, lt))))))
        ∙ ap (λ z. done ls e.code ++ code_of
        (record { labels = labels_from xs (length e.code) count 0; slot = own_slot own z } ∷ env ls) xs
        (length e.code) (e.slots + own)) es

-- a template with no label and no slot
pub plain_emitted : (line : ℕ) (env : List ℕ → List Frame) (xs : List Part) (e e' : St) → IsTrue (once xs) →
    IsTrue (below 0 xs) → Emits line (length e.labels) (λ ls. frame_there (length e.labels) 0 0 ls ∷ env ls) xs e e' →
    Emitted e e' (template line 0 0 xs) env
plain_emitted line env xs e e' on be em = template_emitted line 0 0 (length e.labels) e.slots env xs e e e' refl refl
    opens on be refl em
  where
    opens : e ≡ opened e 0 0
    opens = let a : e.labels ≡ e.labels ++ [] = sym (append-nil e.labels) in let b : e.slots ≡ e.slots + 0 =
        omega arith in
        ap (λ l. record { code = e.code; lines = e.lines; labels = l; slots = e.slots }) a ∙
        ap (λ s. record { code = e.code; lines = e.lines; labels = e.labels ++ []; slots = s }) b

-- a row without pieces
pub row_none : (env : List ℕ → List Frame) (e : St) → Emitted e e (row []) env
row_none env e = plain_emitted 0 env [] e e refl refl refl
