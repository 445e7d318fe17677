-- One span, extent or note more.
use Rattle.std.proofs.Common.{◌≡◌, ℕ, ◌+◌, ◌^◌, ◌<◌, Bool, true, false, cond, ◌||◌, eqb, List, [], ◌∷◌, ◌++◌, length, get_or, take, drop, refl, sym, ◌∙◌, ap, arith}
use Rattle.std.proofs.lemmas.Bool.Decides.{nat_tests}
use Rattle.std.proofs.lemmas.List.{take_more, drop_more}
use Rattle.page_table.specs.Pages.{Table, Lies, in_span, after_write, after_push, after_restore}
use Rattle.paged_store.specs.declared.extent.Span.{Span}
use Rattle.paged_store.specs.declared.extent.Extent.{Extent}
use Rattle.paged_store.specs.declared.extent.Note.{Note}
use Rattle.paged_store.specs.Words.{Words}
use Rattle.paged_store.specs.inner.Moves.{put, given, nowhere}
use Rattle.paged_store.specs.Paged.{in_spans, in_extent, in_extents, rewound}
use Rattle.paged_store.specs.inner.Ending.{LieSideBySide, pushes, restores, with_words}
use Rattle.paged_store.proofs.MeaningLemmas.{put_here}
use Rattle.paged_store.proofs.OverLemmas.{put_self}

-- ---- the places of one more

or_more : (x y z : Bool) → ((x || y) || z) ≡ (x || (y || z))
or_more true y z = refl
or_more false y z = refl

or_last : (x : Bool) → (x || false) ≡ x
or_last true = refl
or_last false = refl

abbrev pub either_of : (ℕ → Bool) → (ℕ → Bool) → ℕ → Bool
either_of f g = λ p. f p || g p

pub spans_more : (xs : List Span) (y : Span) →
    in_spans (xs ++ y ∷ []) ≡ either_of (in_spans xs) (in_span y.place y.words)
spans_more xs y = λ i p. here xs p i
  where
    here : (xs : List Span) (p : ℕ) → in_spans (xs ++ y ∷ []) p ≡ (in_spans xs p || in_span y.place y.words p)
    here [] p = or_last (in_span y.place y.words p)
    here (x ∷ xs) p = ap (λ b. in_span x.place x.words p || b) (here xs p) ∙
        sym (or_more (in_span x.place x.words p) (in_spans xs p) (in_span y.place y.words p))

pub extents_more : (xs : List Extent) (y : Extent) → in_extents (xs ++ y ∷ []) ≡ either_of (in_extents xs) (in_extent y)
extents_more xs y = λ i p. here xs p i
  where
    here : (xs : List Extent) (p : ℕ) → in_extents (xs ++ y ∷ []) p ≡ (in_extents xs p || in_extent y p)
    here [] p = or_last (in_extent y p)
    here (x ∷ xs) p = ap (λ b. in_extent x p || b) (here xs p) ∙
        sym (or_more (in_extent x p) (in_extents xs p) (in_extent y p))

-- ---- extents that lie side by side

pub run_one : (end from n : ℕ) (xs : List Extent) (d : Extent) → from < length xs → n ≡ 2 ^ (get_or xs from d).class →
    Lies (get_or xs from d).class (get_or xs from d).place end → LieSideBySide end xs from (from + 1)
    (get_or xs from d).place n
run_one end from n xs d h e lies =
    let x : Extent = get_or xs from d in
    record {
      more = omega arith;
      most = omega (arith, h);
      within = omega (arith, e, lies.within);
      places = ap in_extents (take_more xs from d h) ∙ extents_more (take from xs) x
          ∙ ap (λ m. either_of (in_extents (take from xs)) (in_span x.place m)) (sym e);
    }

pub run_more : (end from to place words n : ℕ) (xs : List Extent) (d : Extent) →
    LieSideBySide end xs from to place words →
    to < length xs → n ≡ 2 ^ (get_or xs to d).class → (get_or xs to d).place ≡ place + words →
    Lies (get_or xs to d).class (get_or xs to d).place end → LieSideBySide end xs from (to + 1) place (words + n)
run_more end from to place words n xs d run h e next lies =
    let x : Extent = get_or xs to d in
    record {
      more = omega (arith, run.more);
      most = omega (arith, h);
      within = omega (arith, e, next, lies.within);
      places = ap in_extents (take_more xs to d h) ∙ extents_more (take to xs) x
          ∙ (λ i. either_of (run.places i) (in_span (next i) (sym e i)))
          ∙ (λ i p. joined p i);
    }
  where
    span_then : (p : ℕ) → (in_span place words p || in_span (place + words) n p) ≡ in_span place (words + n) p
    span_then p = grind (arith, nat_tests)

    joined : (p : ℕ) → ((in_extents (take from xs) p || in_span place words p) || in_span (place + words) n p)
        ≡ (in_extents (take from xs) p || in_span place (words + n) p)
    joined p = or_more (in_extents (take from xs) p) (in_span place words p) (in_span (place + words) n p)
        ∙ ap (λ b. in_extents (take from xs) p || b) (span_then p)

-- ---- words that are published and restored

choose : (a b : Bool) (x y : ℕ) → cond b x (cond a x y) ≡ cond (a || b) x y
choose true true x y = refl
choose true false x y = refl
choose false b x y = refl

given_twice : (f g : ℕ → Bool) (v w : Words) → given g v (given f v w) ≡ given (either_of f g) v w
given_twice f g v w = λ i p. choose (f p) (g p) (v p) (w p) i

pub given_same : (f : ℕ → Bool) (w : Words) → given f w w ≡ w
given_same f w = λ i p. here (f p) (w p) i
  where
    here : (b : Bool) (x : ℕ) → cond b x x ≡ x
    here true x = refl
    here false x = refl

pub pushes_twice : (k : ℕ) (f g : ℕ → Bool) (t : Table) → pushes k g (pushes k f t) ≡ pushes k (either_of f g) t
pushes_twice k f g t = (λ i. record t {
  shared = given g (given_same f (t.word k) i) (given f (t.word k) t.shared);
  word = λ j. given g (given_same f (t.word k) i) (given f (t.word k) (t.word j));
}) ∙ (λ i. record t {
  shared = given_twice f g (t.word k) t.shared i;
  word = λ j. given_twice f g (t.word k) (t.word j) i;
})

pub put_twice : {A : Type 0} (k : ℕ) (x y : A) (f : ℕ → A) → put k x (put k y f) ≡ put k x f
put_twice k x y f = λ i j. here (eqb j k) (f j) i
  where
    here : (b : Bool) (z : _) → cond b x (cond b y z) ≡ cond b x z
    here true z = refl
    here false z = refl

pub restores_twice : (k : ℕ) (f g : ℕ → Bool) (t : Table) → restores k g (restores k f t) ≡ restores k (either_of f g) t
restores_twice k f g t =
    (λ i. record t {
      word = put k (given g t.shared (put_here k (given f t.shared (t.word k)) t.word i))
          (put k (given f t.shared (t.word k)) t.word);
    })
    ∙ (λ i. record t {
      word = put_twice k (given_twice f g t.shared (t.word k) i) (given f t.shared (t.word k)) t.word
          i;
    })

pub pushes_none : (k : ℕ) (t : Table) → pushes k nowhere t ≡ t
pushes_none k t = refl

pub restores_none : (k : ℕ) (t : Table) → restores k nowhere t ≡ t
restores_none k t = λ i. record t { word = put_self k (t.word k) t.word refl i }

-- the steps of the loops
pub push_span_step : (k i : ℕ) (xs : List Span) (d : Span) (t u v : Table) → i < length xs →
    u ≡ pushes k (in_spans (take i xs)) t
    → v ≡ after_push k (get_or xs i d).place (get_or xs i d).words u → v ≡ pushes k (in_spans (take (i + 1) xs)) t
push_span_step k i xs d t u v l a b =
    let x : Span = get_or xs i d in
    b ∙ ap (after_push k x.place x.words) a ∙ pushes_twice k (in_spans (take i xs)) (in_span x.place x.words) t
    ∙ ap (λ f. pushes k f t) (sym (ap in_spans (take_more xs i d l) ∙ spans_more (take i xs) x))

pub push_run_step : (k from to place words end : ℕ) (xs : List Extent) (t u v : Table) →
    LieSideBySide end xs from to place words → u ≡ pushes k (in_extents (take from xs)) t →
    v ≡ after_push k place words u →
    v ≡ pushes k (in_extents (take to xs)) t
push_run_step k from to place words end xs t u v run a b =
    b ∙ ap (after_push k place words) a ∙ pushes_twice k (in_extents (take from xs)) (in_span place words) t
    ∙ ap (λ f. pushes k f t) (sym run.places)

pub restore_span_step : (k i : ℕ) (xs : List Span) (d : Span) (t u v : Table) → i < length xs →
    u ≡ restores k (in_spans (take i xs)) t
    → v ≡ after_restore k (get_or xs i d).place (get_or xs i d).words u → v ≡ restores k (in_spans (take (i + 1) xs)) t
restore_span_step k i xs d t u v l a b =
    let x : Span = get_or xs i d in
    b ∙ ap (after_restore k x.place x.words) a ∙ restores_twice k (in_spans (take i xs)) (in_span x.place x.words) t
    ∙ ap (λ f. restores k f t) (sym (ap in_spans (take_more xs i d l) ∙ spans_more (take i xs) x))

pub restore_run_step : (k from to place words end : ℕ) (xs : List Extent) (t u v : Table) →
    LieSideBySide end xs from to place words → u ≡ restores k (in_extents (take from xs)) t →
    v ≡ after_restore k place words u → v ≡ restores k (in_extents (take to xs)) t
restore_run_step k from to place words end xs t u v run a b =
    b ∙ ap (after_restore k place words) a ∙ restores_twice k (in_extents (take from xs)) (in_span place words) t
    ∙ ap (λ f. restores k f t) (sym run.places)

-- ---- notes that are written back

pub words_same : (k : ℕ) (t : Table) → with_words k (t.word k) t ≡ t
words_same k t = λ i. record t { word = put_self k (t.word k) t.word refl i }

pub write_step : (k i : ℕ) (xs : List Note) (d : Note) (t u v : Table) → i < length xs →
    u ≡ with_words k (rewound (drop (i + 1) xs) (t.word k)) t
    → v ≡ after_write k (get_or xs i d).place (get_or xs i d).word u →
    v ≡ with_words k (rewound (drop i xs) (t.word k)) t
write_step k i xs d t u v l a b =
    let x : Note = get_or xs i d in
    let w : Words = rewound (drop (i + 1) xs) (t.word k) in
    b ∙ ap (after_write k x.place x.word) a ∙
    (λ j. record t { word = put k (put x.place x.word (put_here k w t.word j)) (put k w t.word) })
    ∙ (λ j. record t { word = put_twice k (put x.place x.word w) w t.word j })
    ∙ ap (λ ys. with_words k (rewound ys (t.word k)) t) (sym (drop_more xs i d l))
