-- What the functions on bytes mean, in words of texts and their parts.
use Rattle.std.proofs.Common.{arith, ◌≡◌, ◌≢◌, ℕ, zero, suc, ◌+◌, ◌-◌, ◌<◌, ◌≤◌, Bool, true, false, cond, ◌&&◌, List, [], ◌∷◌, ◌++◌, length, take, drop, filter, map, Option, Some, None, refl, sym, ap, subst, ◌∙◌, length-append, take-append-drop, append_assoc}
use Rattle.std.specs.Prelude.{◌==◌, option_map, not}
use Rattle.std.specs.Char.{to_ascii_uppercase, to_ascii_lowercase}
use Rattle.std.proofs.lemmas.Bool.{eqb-true, cond-false, false≢true, cond-true}
use Rattle.std.proofs.lemmas.Bool.Decides.{nat_tests}
use Rattle.std.proofs.lemmas.Slice.Eq.{bytes_eq-Decides}
use Rattle.py_data.specs.Every.{Every}
use Rattle.obj_str.specs.Pieces.{begins, find, onto, cut, joined, split, is_blank, cut_blanks, has_bytes, upper, lower, between_all, replaced, without_front, kept, without_end, strip}
use Rattle.obj_str.specs.Laws.{FindLaw, EndsLaw, SplitLaw, SharesNone, ReplaceLaw, IsWord, is_other, flat, WordsLaw, IsBetween, StripLaw, LettersLaw}
use Rattle.obj_str.proofs.BlankLemmas.{strip_twice}
use Rattle.obj_str.proofs.Fitting.{joined_first}
use Rattle.obj_str.proofs.PiecesLemmas.{and_both, behind, begins_front, first_split, cut_here, cut_later, cut_skip}

-- ---- find
-- what a search answers, by recursion
none_here : (bs part : List ℕ) (j : ℕ) → find bs part ≡ None → j ≤ length bs → begins part (drop j bs) ≡ false
none_here [] part zero f l = by (begins part []) f
  where
    by : (t : Bool) → cond {A = Option ℕ} t (Some 0) None ≡ None → t ≡ false
    by true e = absurd (let q : ◌≡◌ {A = Option ℕ} (Some 0) None = e in cc)
    by false e = refl
none_here [] part (suc j) f l = absurd (omega (arith, l))
none_here (b ∷ bs) part zero f l = by (begins part (b ∷ bs)) (find bs part) f
  where
    by : (t : Bool) (o : Option ℕ) → cond {A = Option ℕ} t (Some 0) (option_map (λ k. k + 1) o) ≡ None → t ≡ false
    by true o e = absurd (let q : ◌≡◌ {A = Option ℕ} (Some 0) None = e in cc)
    by false o e = refl
none_here (b ∷ bs) part (suc j) f l = none_here bs part j (by (begins part (b ∷ bs)) (find bs part) f)
    (omega (arith, l))
  where
    by : (t : Bool) (o : Option ℕ) → cond {A = Option ℕ} t (Some 0) (option_map (λ k. k + 1) o) ≡ None → o ≡ None
    by true o e = absurd (let q : ◌≡◌ {A = Option ℕ} (Some 0) None = e in cc)
    by false None e = refl
    by false (Some k) e = absurd (let q : ◌≡◌ {A = Option ℕ} (Some (k + 1)) None = e in cc)

record There (bs part : List ℕ) (k : ℕ) : Type 0 where
  within : k ≤ length bs
  here : begins part (drop k bs) ≡ true
  before : (j : ℕ) → j < k → begins part (drop j bs) ≡ false

there : (bs part : List ℕ) (k : ℕ) → find bs part ≡ Some k → There bs part k
there [] part k f = by (begins part []) refl f
  where
    by : (t : Bool) → begins part [] ≡ t → cond {A = Option ℕ} t (Some 0) None ≡ Some k → There [] part k
    by true e g = let z : 0 ≡ k = cc in subst (There [] part) z
        (record { within = omega arith; here = e; before = λ j l. absurd (omega (arith, l)) })
    by false e g = absurd (let q : ◌≡◌ {A = Option ℕ} None (Some k) = g in cc)
there (b ∷ bs) part k f = by (begins part (b ∷ bs)) (find bs part) refl refl f (λ n g. there bs part n g)
  where
    next : (n : ℕ) → begins part (b ∷ bs) ≡ false → There bs part n → There (b ∷ bs) part (suc n)
    next n e t = record { within = omega (arith, t.within); here = t.here; before = λ j l. at j l }
      where
        at : (j : ℕ) → j < suc n → begins part (drop j (b ∷ bs)) ≡ false
        at zero l = e
        at (suc j) l = t.before j (omega (arith, l))

    by : (t : Bool) (o : Option ℕ) → begins part (b ∷ bs) ≡ t → find bs part ≡ o →
        cond {A = Option ℕ} t (Some 0) (option_map (λ k. k + 1) o) ≡ Some k →
        ((n : ℕ) → find bs part ≡ Some n → There bs part n) → There (b ∷ bs) part k
    by true o e s g rest = let z : 0 ≡ k = cc in
        subst (There (b ∷ bs) part) z (record {
          within = omega arith;
          here = e;
          before = λ j l.
              absurd (omega (arith, l));
        })
    by false None e s g rest = absurd (let q : ◌≡◌ {A = Option ℕ} None (Some k) = g in cc)
    by false (Some n) e s g rest =
        let one : n + 1 ≡ k = cc in
        let more : suc n ≡ k = omega (arith, one) in
        subst (There (b ∷ bs) part) more (next n e (rest n s))

-- a place that a search answers is within the text
pub find_within : (bs part : List ℕ) (k : ℕ) → Some k ≡ find bs part → k ≤ length bs
find_within bs part k f = (there bs part k (sym f)).within

not_front : (part bs rest : List ℕ) → begins part bs ≡ false → bs ≢ part ++ rest
not_front part bs rest e same = false≢true (sym e ∙ (ap (begins part) same ∙ begins_front part rest))

pub find_law : FindLaw
find_law = record {
  there = λ bs part k f. let t = there bs part k f in (t.within, sym (behind part (drop k bs) t.here));
  least = λ bs part k j f l rest. not_front part (drop j bs) rest ((there bs part k f).before j l);
  none = λ bs part j f l rest. not_front part (drop j bs) rest (none_here bs part j f l);
}

-- ---- ends
tail_of : (front part : List ℕ) → drop (length (front ++ part) - length part) (front ++ part) ≡ part
tail_of front part =
    let n : length (front ++ part) - length part ≡ length front = omega (arith, length-append front part) in
    ap (λ k. drop k (front ++ part)) n ∙ past front
  where
    past : (xs : List ℕ) → drop (length xs) (xs ++ part) ≡ part
    past [] = refl
    past (x ∷ xs) = past xs

pub ends_law : EndsLaw
ends_law = record {
  begins_is = λ part bs e. sym (behind part bs e);
  is_begins = begins_front;
  ends_is = λ part bs e.
      sym (ap (λ l. take (length bs - length part) bs ++ l)
      ((bytes_eq-Decides part (drop (length bs - length part) bs)).0 e) ∙
      take-append-drop (length bs - length part) bs);
  is_ends = λ part front. (bytes_eq-Decides part (drop (length (front ++ part) - length part) (front ++ part))).1
      (sym (tail_of front part));
}

-- ---- split
joined_onto : (sep : List ℕ) (b : ℕ) (ps : List (List ℕ)) → joined sep (onto b ps) ≡ b ∷ joined sep ps
joined_onto sep b [] = refl
joined_onto sep b (p ∷ []) = refl
joined_onto sep b (p ∷ q ∷ ps) = refl

joined_cut : (c : ℕ) (cs : List ℕ) (n : ℕ) (bs : List ℕ) → joined (c ∷ cs) (cut n (c ∷ cs) bs) ≡ drop n bs
joined_cut c cs zero [] = refl
joined_cut c cs (suc n) [] = refl
joined_cut c cs (suc n) (b ∷ bs) = joined_cut c cs n bs
joined_cut c cs zero (b ∷ bs) = by (begins (c ∷ cs) (b ∷ bs)) refl (joined_cut c cs (length cs) bs)
    (joined_cut c cs zero bs)
  where
    by : (t : Bool) → begins (c ∷ cs) (b ∷ bs) ≡ t → joined (c ∷ cs) (cut (length cs) (c ∷ cs) bs) ≡ drop (length cs)
        bs → joined (c ∷ cs) (cut zero (c ∷ cs) bs) ≡ bs → joined (c ∷ cs) (split (c ∷ cs) (b ∷ bs)) ≡ b ∷ bs
    by true e skip next =
        ap (joined (c ∷ cs)) (cut_here c cs b bs e)
        ∙ (joined_first (c ∷ cs) [] (split (c ∷ cs) (drop (length cs) bs)) (first_split (c ∷ cs) (drop (length cs) bs))
        ∙ (ap (λ l. (c ∷ cs) ++ joined (c ∷ cs) l) (sym (cut_skip (length cs) (c ∷ cs) bs)) ∙
        (ap (λ l. (c ∷ cs) ++ l) skip ∙ behind (c ∷ cs) (b ∷ bs) e)))
    by false e skip next = ap (joined (c ∷ cs)) (cut_later c cs b bs e) ∙
        (joined_onto (c ∷ cs) b (split (c ∷ cs) bs) ∙ ap (λ l. b ∷ l) next)

pub split_joined : (c : ℕ) (cs bs : List ℕ) → joined (c ∷ cs) (split (c ∷ cs) bs) ≡ bs
split_joined c cs bs = joined_cut c cs 0 bs

-- what begins with the first piece, which is a front of the text, begins the text
begins_more : (part xs ys : List ℕ) → begins part xs ≡ true → begins part (xs ++ ys) ≡ true
begins_more [] xs ys e = refl
begins_more (p ∷ ps) [] ys e = absurd (let q : false ≡ true = e in cc)
begins_more (p ∷ ps) (x ∷ xs) ys e = let b = and_both (p == x) (begins ps xs) e in rw (b.0) (begins_more ps xs ys b.1)

not_shorter : (part xs ys : List ℕ) → begins part (xs ++ ys) ≡ false → begins part xs ≡ false
not_shorter part xs ys e = by (begins part xs) refl
  where
    by : (t : Bool) → begins part xs ≡ t → t ≡ false
    by true f = absurd (let q : true ≡ false = sym (begins_more part xs ys f) ∙ e in cc)
    by false f = refl

-- a text in which a part stands nowhere, and a byte before it
none_onto : (part p : List ℕ) (b : ℕ) → begins part (b ∷ p) ≡ false → find p part ≡ None → find (b ∷ p) part ≡ None
none_onto part p b e f = cond-false (begins part (b ∷ p)) (Some 0) (option_map (λ k. k + 1) (find p part)) e ∙
    ap (option_map (λ k. k + 1)) f

-- the first piece is a front of the text
front_none : (c : ℕ) (cs : List ℕ) (b : ℕ) (bs : List ℕ) (ps : List (List ℕ)) → joined (c ∷ cs) ps ≡ bs →
    begins (c ∷ cs) (b ∷ bs) ≡ false → Every (λ p. find p (c ∷ cs) ≡ None) ps
    → Every (λ p. find p (c ∷ cs) ≡ None) (onto b ps)
front_none c cs b bs [] e f i = (
  none_onto (c ∷ cs) [] b (subst (λ l. begins (c ∷ cs) (b ∷ l) ≡ false) (sym e) f) refl,
  tt,
)
front_none c cs b bs (p ∷ []) e f i = (
  none_onto (c ∷ cs) p b (subst (λ l. begins (c ∷ cs) (b ∷ l) ≡ false) (sym e) f)
      i.0,
  tt,
)
front_none c cs b bs (p ∷ q ∷ ps) e f i =
    let whole : bs ≡ p ++ ((c ∷ cs) ++ joined (c ∷ cs) (q ∷ ps)) = sym e ∙
    append_assoc p (c ∷ cs) (joined (c ∷ cs) (q ∷ ps)) in (
      none_onto (c ∷ cs) p b (not_shorter (c ∷ cs) (b ∷ p) ((c ∷ cs) ++ joined (c ∷ cs) (q ∷ ps))
          (subst (λ l. begins (c ∷ cs) (b ∷ l) ≡ false) whole f)) i.0,
      i.1,
    )

pieces_none : (c : ℕ) (cs : List ℕ) (n : ℕ) (bs : List ℕ) → Every (λ p. find p (c ∷ cs) ≡ None) (cut n (c ∷ cs) bs)
pieces_none c cs zero [] = (refl, tt)
pieces_none c cs (suc n) [] = (refl, tt)
pieces_none c cs (suc n) (b ∷ bs) = pieces_none c cs n bs
pieces_none c cs zero (b ∷ bs) = by (begins (c ∷ cs) (b ∷ bs)) refl (pieces_none c cs (length cs) bs)
    (pieces_none c cs zero bs)
  where
    by : (t : Bool) → begins (c ∷ cs) (b ∷ bs) ≡ t → Every (λ p. find p (c ∷ cs) ≡ None) (cut (length cs) (c ∷ cs) bs)
        → Every (λ p. find p (c ∷ cs) ≡ None) (split (c ∷ cs) bs) →
        Every (λ p. find p (c ∷ cs) ≡ None) (split (c ∷ cs) (b ∷ bs))
    by true e skip next = subst (Every (λ p. find p (c ∷ cs) ≡ None)) (sym (cut_here c cs b bs e))
        (refl, subst (Every (λ p. find p (c ∷ cs) ≡ None)) (cut_skip (length cs) (c ∷ cs) bs) skip)
    by false e skip next = subst (Every (λ p. find p (c ∷ cs) ≡ None)) (sym (cut_later c cs b bs e))
        (front_none c cs b bs (split (c ∷ cs) bs) (split_joined c cs bs) e next)

pub split_law : SplitLaw
split_law = record { joined = joins; none = nones }
  where
    joins : (sep bs : List ℕ) → sep ≢ [] → joined sep (split sep bs) ≡ bs
    joins [] bs n = absurd (n refl)
    joins (c ∷ cs) bs n = split_joined c cs bs

    nones : (sep bs : List ℕ) → sep ≢ [] → Every (λ p. find p sep ≡ None) (split sep bs)
    nones [] bs n = absurd (n refl)
    nones (c ∷ cs) bs n = pieces_none c cs 0 bs

-- ---- replace
-- a part that shares no byte with another one doesn't reach into it
not_into : (os zs : List ℕ) (n : ℕ) (ns rest : List ℕ) → SharesNone os (n ∷ ns) → begins os (zs ++ n ∷ rest) ≡ true →
    begins os zs ≡ true
not_into [] zs n ns rest i e = refl
not_into (o ∷ os) [] n ns rest i e = absurd (i.0.0 (eqb-true o n (and_both (o == n) (begins os rest) e).0))
not_into (o ∷ os) (z ∷ zs) n ns rest i e =
    let b = and_both (o == z) (begins os (zs ++ n ∷ rest)) e in
    rw (b.0) (not_into os zs n ns rest i.1 b.1)

not_begun : (o : ℕ) (os : List ℕ) (n : ℕ) (ns rest : List ℕ) → o ≢ n → begins (o ∷ os) (n ∷ rest) ≡ false
not_begun o os n ns rest i = by (o == n) refl
  where
    by : (t : Bool) → (o == n) ≡ t → (t && begins os rest) ≡ false
    by true e = absurd (i (eqb-true o n e))
    by false e = refl

-- it stands nowhere across it
across : (o : ℕ) (os ns ys : List ℕ) → Every (λ y. o ≢ y) ns → find ys (o ∷ os) ≡ None → find (ns ++ ys) (o ∷ os) ≡ None
across o os [] ys i f = f
across o os (n ∷ ns) ys i f = none_onto (o ∷ os) (ns ++ ys) n (not_begun o os n ns (ns ++ ys) i.0)
    (across o os ns ys i.1 f)

none_rest : (b : ℕ) (bs part : List ℕ) → find (b ∷ bs) part ≡ None → find bs part ≡ None
none_rest b bs part f = by (begins part (b ∷ bs)) (find bs part) f
  where
    by : (t : Bool) (o : Option ℕ) → cond {A = Option ℕ} t (Some 0) (option_map (λ k. k + 1) o) ≡ None → o ≡ None
    by true o e = absurd (let q : ◌≡◌ {A = Option ℕ} (Some 0) None = e in cc)
    by false None e = refl
    by false (Some k) e = absurd (let q : ◌≡◌ {A = Option ℕ} (Some (k + 1)) None = e in cc)

none_between : (o : ℕ) (os : List ℕ) (n : ℕ) (ns xs ys : List ℕ) → SharesNone (o ∷ os) (n ∷ ns) →
    find xs (o ∷ os) ≡ None → find ys (o ∷ os) ≡ None → find ((xs ++ n ∷ ns) ++ ys) (o ∷ os) ≡ None
none_between o os n ns [] ys i f g = across o os (n ∷ ns) ys i.0 g
none_between o os n ns (x ∷ xs) ys i f g =
    none_onto (o ∷ os) ((xs ++ n ∷ ns) ++ ys) x (by (begins (o ∷ os) (x ∷ ((xs ++ n ∷ ns) ++ ys))) refl)
    (none_between o os n ns xs ys i (none_rest x xs (o ∷ os) f) g)
  where
    by : (t : Bool) → begins (o ∷ os) (x ∷ ((xs ++ n ∷ ns) ++ ys)) ≡ t → t ≡ false
    by true e =
        let whole = subst (λ l. begins (o ∷ os) (x ∷ l) ≡ true) (append_assoc xs (n ∷ ns) ys) e in
        let q : true ≡ false = sym (not_into (o ∷ os) (x ∷ xs) n ns (ns ++ ys) i whole) ∙
        none_here (x ∷ xs) (o ∷ os) 0 f (omega arith) in
        absurd cc
    by false e = refl

none_joined : (o : ℕ) (os : List ℕ) (n : ℕ) (ns : List ℕ) (ps : List (List ℕ)) → SharesNone (o ∷ os) (n ∷ ns) →
    Every (λ p. find p (o ∷ os) ≡ None) ps → find (joined (n ∷ ns) ps) (o ∷ os) ≡ None
none_joined o os n ns [] i e = refl
none_joined o os n ns (p ∷ []) i e = e.0
none_joined o os n ns (p ∷ q ∷ ps) i e = none_between o os n ns p (joined (n ∷ ns) (q ∷ ps)) i e.0
    (none_joined o os n ns (q ∷ ps) i e.1)

pub replace_law : ReplaceLaw
replace_law = record { none = nones; same = same }
  where
    nones : (old new bs : List ℕ) → old ≢ [] → new ≢ [] → SharesNone old new → find (replaced old new bs) old ≡ None
    nones [] new bs i j s = absurd (i refl)
    nones (o ∷ os) [] bs i j s = absurd (j refl)
    nones (o ∷ os) (n ∷ ns) bs i j s = none_joined o os n ns (split (o ∷ os) bs) s (pieces_none o os 0 bs)

    nothing : (bs : List ℕ) → between_all [] bs ≡ bs
    nothing [] = refl
    nothing (b ∷ bs) = ap (λ l. b ∷ l) (nothing bs)

    same : (part bs : List ℕ) → replaced part part bs ≡ bs
    same [] bs = nothing bs
    same (c ∷ cs) bs = split_joined c cs bs

-- ---- blanks
no_blanks : (bs : List ℕ) → Every (Every (λ b. is_blank b ≡ false)) (cut_blanks bs)
no_blanks [] = (tt, tt)
no_blanks (b ∷ bs) = by (is_blank b) refl (no_blanks bs)
  where
    more : (ps : List (List ℕ)) → is_blank b ≡ false → Every (Every (λ b. is_blank b ≡ false)) ps →
        Every (Every (λ b. is_blank b ≡ false)) (onto b ps)
    more [] e i = ((e, tt), tt)
    more (p ∷ ps) e i = ((e, i.0), i.1)

    by : (t : Bool) → is_blank b ≡ t → Every (Every (λ b. is_blank b ≡ false)) (cut_blanks bs) →
        Every (Every (λ b. is_blank b ≡ false)) (cond t ([] ∷ cut_blanks bs) (onto b (cut_blanks bs)))
    by true e i = (tt, i)
    by false e i = more (cut_blanks bs) e i

are_words : (ps : List (List ℕ)) → Every (Every (λ b. is_blank b ≡ false)) ps → Every IsWord (filter has_bytes ps)
are_words [] i = tt
are_words ([] ∷ ps) i = are_words ps i.1
are_words ((b ∷ p) ∷ ps) i = ((refl, i.0), are_words ps i.1)

-- ---- what strip takes away
record Fronted (bs : List ℕ) : Type 0 where
  left : List ℕ
  is : bs ≡ left ++ without_front bs
  blank : Every (λ b. is_blank b ≡ true) left

fronted : (bs : List ℕ) → Fronted bs
fronted [] = record { left = []; is = refl; blank = tt }
fronted (b ∷ bs) = by (is_blank b) refl (fronted bs)
  where
    by : (t : Bool) → is_blank b ≡ t → Fronted bs → Fronted (b ∷ bs)
    by true e f = record {
      left = b ∷ f.left;
      is = ap (λ l. b ∷ l) f.is ∙ ap (λ l. b ∷ (f.left ++ l))
          (sym (cond-true (is_blank b) (without_front bs) (b ∷ bs) e));
      blank = (e, f.blank);
    }
    by false e f = record { left = []; is = sym (cond-false (is_blank b) (without_front bs) (b ∷ bs) e); blank = tt }

record Ended (bs : List ℕ) : Type 0 where
  right : List ℕ
  is : bs ≡ without_end bs ++ right
  blank : Every (λ b. is_blank b ≡ true) right

ended : (bs : List ℕ) → Ended bs
ended [] = record { right = []; is = refl; blank = tt }
ended (b ∷ bs) = by (without_end bs) refl (ended bs)
  where
    none : (t : Bool) → is_blank b ≡ t → (r : List ℕ) → bs ≡ r → Every (λ b. is_blank b ≡ true) r → without_end bs ≡ []
        → Ended (b ∷ bs)
    none true e r f i g =
        let here : without_end (b ∷ bs) ≡ [] = ap (kept b) g ∙ cond-true (is_blank b) [] (b ∷ []) e in
        record { right = b ∷ r; is = ap (λ l. b ∷ l) f ∙ ap (λ l. l ++ b ∷ r) (sym here); blank = (e, i) }
    none false e r f i g =
        let here : without_end (b ∷ bs) ≡ b ∷ [] = ap (kept b) g ∙ cond-false (is_blank b) [] (b ∷ []) e in
        record { right = r; is = ap (λ l. b ∷ l) f ∙ ap (λ l. l ++ r) (sym here); blank = i }

    by : (ys : List ℕ) → without_end bs ≡ ys → Ended bs → Ended (b ∷ bs)
    by [] g f = none (is_blank b) refl f.right (f.is ∙ ap (λ l. l ++ f.right) g) f.blank g
    by (y ∷ ys) g f =
        let here : without_end (b ∷ bs) ≡ b ∷ without_end bs = ap (kept b) g ∙ ap (λ l. b ∷ l) (sym g) in
        record { right = f.right; is = ap (λ l. b ∷ l) f.is ∙ ap (λ l. l ++ f.right) (sym here); blank = f.blank }

stripped : (bs : List ℕ) → IsBetween bs (strip bs)
stripped bs =
    let f = fronted bs in
    let e = ended (without_front bs) in
    record {
      left = f.left;
      right = e.right;
      is = f.is ∙ ap (λ l. f.left ++ l) e.is;
      left_blank = f.blank;
      right_blank = e.blank;
    }

-- the bytes of pieces one behind another
flat_onto : (b : ℕ) (ps : List (List ℕ)) → flat (onto b ps) ≡ b ∷ flat ps
flat_onto b [] = refl
flat_onto b (p ∷ ps) = refl

flat_blanks : (bs : List ℕ) → flat (cut_blanks bs) ≡ filter is_other bs
flat_blanks [] = refl
flat_blanks (b ∷ bs) = by (is_blank b) (flat_blanks bs)
  where
    by : (t : Bool) → flat (cut_blanks bs) ≡ filter is_other bs →
        flat (cond t ([] ∷ cut_blanks bs) (onto b (cut_blanks bs))) ≡ cond (not t) (b ∷ filter is_other bs)
        (filter is_other bs)
    by true e = e
    by false e = flat_onto b (cut_blanks bs) ∙ ap (λ l. b ∷ l) e

flat_words : (ps : List (List ℕ)) → flat (filter has_bytes ps) ≡ flat ps
flat_words [] = refl
flat_words ([] ∷ ps) = flat_words ps
flat_words ((b ∷ p) ∷ ps) = ap (λ l. (b ∷ p) ++ l) (flat_words ps)

pub words_law : WordsLaw
words_law = record {
  are = λ bs. are_words (cut_blanks bs) (no_blanks bs);
  kept = λ bs. flat_words (cut_blanks bs) ∙
      flat_blanks bs;
}

pub strip_law : StripLaw
strip_law = record { between = stripped; twice = strip_twice }

-- ---- letters
upper_byte : (b : ℕ) → to_ascii_uppercase (to_ascii_lowercase b) ≡ to_ascii_uppercase b
upper_byte b = grind (arith, nat_tests)

lower_byte : (b : ℕ) → to_ascii_lowercase (to_ascii_uppercase b) ≡ to_ascii_lowercase b
lower_byte b = grind (arith, nat_tests)

pub letters_law : LettersLaw
letters_law = record {
  upper_lower = ups;
  lower_upper = lows;
  upper_long = λ bs. long to_ascii_uppercase bs;
  lower_long = λ bs. long to_ascii_lowercase bs;
}
  where
    ups : (bs : List ℕ) → upper (lower bs) ≡ upper bs
    ups [] = refl
    ups (b ∷ bs) = ap (λ x. x ∷ upper (lower bs)) (upper_byte b) ∙ ap (λ l. to_ascii_uppercase b ∷ l) (ups bs)

    lows : (bs : List ℕ) → lower (upper bs) ≡ lower bs
    lows [] = refl
    lows (b ∷ bs) = ap (λ x. x ∷ lower (upper bs)) (lower_byte b) ∙ ap (λ l. to_ascii_lowercase b ∷ l) (lows bs)

    long : (f : ℕ → ℕ) (bs : List ℕ) → length (map f bs) ≡ length bs
    long f [] = refl
    long f (b ∷ bs) = ap suc (long f bs)
