-- The characters of a literal have one prefix and one body.
use Rattle.std.proofs.Common.{◌≡◌, ℕ, Bool, true, false, ◌==◌, ◌&&◌, List, [], ◌∷◌, ◌++◌, length, drop, Option, Some, ◌⊎◌, inl, inr, ⊎_elim, refl, sym, ap, ap₂, ◌∙◌, subst, append_assoc, arith, eq-eqb, ne_eqb}
use Rattle.std.proofs.lemmas.Bool.{and_left, and_from}
use Rattle.std.proofs.lemmas.Option.{same_Some}
use Rattle.py_tokens.specs.declared.character.Character.{Character}
use Rattle.py_tokens.specs.declared.class.Class.TheVariants.{Byte, NameStart, Name, Quote}
use Rattle.py_tokens.specs.declared.literal.Prefix.{Prefix}
use Rattle.py_tokens.specs.declared.literal.Quoting.{Quoting}
use Rattle.py_tokens.specs.Classes.{holds, next_is, run, after}
use Rattle.py_tokens.specs.Strings.{prefix, prefix_of, quotes, quotes_len, quotes_at}
use Rattle.front_laws.specs.Spells.{Prefixes, none, IsMark, Quotes, one, three, Closed, end, more, kept, Literal, literal}
use Rattle.front_laws.proofs.Runs.{after_each, after_none, run_each}
use Rattle.front_laws.proofs.StringFronts.{prefix_is, prefix_name, prefix_first, quotes_start}
use Rattle.front_laws.proofs.Tables.{never}

-- ---- prefixes

-- the prefix that the characters before quotes are
known_prefix : List Character → Option Prefix
known_prefix [] = Some (prefix false false)
known_prefix (c ∷ cs) = prefix_of (c ∷ cs)

prefix_known : (ps : List Character) (p : Prefix) → Prefixes ps p → known_prefix ps ≡ Some p
unfolding known_prefix
prefix_known [] p none = refl
prefix_known (c ∷ ps) p h =
    ⊎_elim (λ e. let f : length (c ∷ ps) ≡ 0 = ap length e in absurd (omega (arith, f))) (λ e. e)
    (prefix_is (c ∷ ps) p h)

one_prefix : (ps : List Character) (p q : Prefix) → Prefixes ps p → Prefixes ps q → p ≡ q
one_prefix ps p q h g = same_Some p q (sym (prefix_known ps p h) ∙ prefix_known ps q g)

-- ---- quotes

marked : ℕ → Bool → Quoting
marked m triple = record { mark = m; triple = triple }

mark_no_name : (m : ℕ) → IsMark m → holds Name m ≡ false
mark_no_name m (inl e) = ap (holds Name) e
mark_no_name m (inr e) = ap (holds Name) e

mark_no_slash : (m b : ℕ) → IsMark m → b ≡ m → b ≡ 92 → ⊥
mark_no_slash m b (inl k) e f = omega (arith, k, e, f)
mark_no_slash m b (inr k) e f = omega (arith, k, e, f)

-- no name goes on into quotes
quotes_no_name : (q : Quoting) (qs rest : List Character) → IsMark q.mark → Quotes q qs →
    next_is Name (qs ++ rest) ≡ false
quotes_no_name q qs rest k (one m c e) = ap (holds Name) e ∙ mark_no_name m k
quotes_no_name q qs rest k (three m c d f e g h) = ap (holds Name) e ∙ mark_no_name m k

quotes_true : (q : Quoting) (qs : List Character) → Quotes q qs → quotes q qs ≡ true
quotes_true q qs (one m c e) = and_from (c.byte == m) true (eq-eqb c.byte m e) refl
quotes_true q qs (three m c d f e g h) =
    and_from (c.byte == m) (d.byte == m && f.byte == m) (eq-eqb c.byte m e)
    (and_from (d.byte == m) (f.byte == m) (eq-eqb d.byte m g) (eq-eqb f.byte m h))

quotes_no_slash : (q : Quoting) (c : Character) (cs : List Character) → IsMark q.mark → Quotes q (c ∷ cs) →
    c.byte ≡ 92 → ⊥
quotes_no_slash q c cs k (one m _ e) f = mark_no_slash m c.byte k e f
quotes_no_slash q c cs k (three m _ d x e g h) f = mark_no_slash m c.byte k e f

behind_quotes : (q : Quoting) (qs cs : List Character) → Quotes q qs → drop (quotes_len q) (qs ++ cs) ≡ cs
behind_quotes q qs cs (one m c e) = refl
behind_quotes q qs cs (three m c d f e g h) = refl

-- ---- bodies

one_body : (q : Quoting) (b d cs : List Character) → IsMark q.mark → Closed q b cs → Closed q d cs → b ≡ d
one_body q b d cs k (end w) (end v) = refl
one_body q b d cs k (end w) (more c n g l h) = never (quotes q cs) g (quotes_true q cs w)
one_body q b d cs k (end w) (kept c x e h) = absurd (quotes_no_slash q c _ k w e)
one_body q b d cs k (more c n g l h) (end w) = never (quotes q cs) g (quotes_true q cs w)
one_body q b d cs k (more c {body = xs} {cs = zs} n g l h) (more _ {body = ys} _ _ _ f) =
    ap (λ ts. c ∷ ts) (one_body q xs ys zs k h f)
one_body q b d cs k (more c n g l h) (kept _ x e f) = absurd (n e)
one_body q b d cs k (kept c x e h) (end w) = absurd (quotes_no_slash q c _ k w e)
one_body q b d cs k (kept c x e h) (more _ n g l f) = absurd (n e)
one_body q b d cs k (kept c x {body = xs} {cs = zs} e h) (kept _ _ {body = ys} _ f) =
    ap (λ ts. c ∷ x ∷ ts) (one_body q xs ys zs k h f)

-- ---- how a literal is quoted

few_marks : (m : ℕ) (cs : List Character) → length cs ≡ 1 → (next_is (Byte m) cs && next_is (Byte m) (drop 1 cs)) ≡
    false
few_marks m [] e = refl
few_marks m (c ∷ []) e = and_false (c.byte == m)
  where
    and_false : (b : Bool) → (b && false) ≡ false
    and_false true = refl
    and_false false = refl
few_marks m (c ∷ d ∷ cs) e = absurd (omega (arith, e))

quotes_one : (m : ℕ) (qs : List Character) → Quotes (marked m false) qs → length qs ≡ 1
unfolding marked
quotes_one m qs (one _ c e) = refl

-- behind a mark that opens a body alone, no two more follow
opens_alone : (m : ℕ) (body cs : List Character) → IsMark m → Closed (marked m false) body cs →
    (next_is (Byte m) cs && next_is (Byte m) (drop 1 cs)) ≡ false
unfolding marked
opens_alone m body cs k (end w) = few_marks m cs (quotes_one m cs w)
opens_alone m body cs k (more c {cs = ds} n g l h) = and_left (c.byte == m) _ (true_left (c.byte == m) g)
  where
    true_left : (b : Bool) → (b && true) ≡ false → b ≡ false
    true_left true e = e
    true_left false e = refl
opens_alone m body cs k (kept c d {cs = ds} e h) =
    and_left (c.byte == m) _ (ne_eqb c.byte m (λ f. mark_no_slash m c.byte k f e))

quoted_once : (q : Quoting) (qs body cs : List Character) → IsMark q.mark → Quotes q qs → Closed q body cs →
    quotes_at (qs ++ cs) ≡ q
unfolding marked
quoted_once q qs body cs k (one m c e) h =
    let alone : (next_is (Byte c.byte) cs && next_is (Byte c.byte) (drop 1 cs)) ≡ false =
    ap (λ b. next_is (Byte b) cs && next_is (Byte b) (drop 1 cs)) e ∙ opens_alone m body cs k h in
    ap₂ marked e alone
quoted_once q qs body cs k (three m c d f e g i) h =
    ap₂ marked e (and_from (d.byte == c.byte) (f.byte == c.byte) (eq-eqb d.byte c.byte (g ∙ sym e))
    (eq-eqb f.byte c.byte (i ∙ sym e)))

-- ---- literals

run_is : (q : Quoting) (ps qs cs : List Character) (p : Prefix) → Prefixes ps p → IsMark q.mark → Quotes q qs →
    run Name ((ps ++ qs) ++ cs) ≡ ps
run_is q ps qs cs p h k w =
    ap (run Name) (append_assoc ps qs cs) ∙
    run_each Name ps (qs ++ cs) (prefix_name ps p h) (quotes_no_name q qs cs k w)

after_is : (q : Quoting) (ps qs cs : List Character) (p : Prefix) → Prefixes ps p → IsMark q.mark → Quotes q qs →
    after Name ((ps ++ qs) ++ cs) ≡ qs ++ cs
after_is q ps qs cs p h k w =
    ap (after Name) (append_assoc ps qs cs) ∙ after_each Name ps (qs ++ cs) (prefix_name ps p h)
    ∙ after_none Name (qs ++ cs) (quotes_no_name q qs cs k w)

-- the same quotes and what follows them
same_body : (q r : Quoting) (qs rs b d cs ds : List Character) → IsMark q.mark → Quotes q qs → Quotes r rs →
    Closed q b cs → Closed r d ds →
    q ≡ r → qs ++ cs ≡ rs ++ ds → b ≡ d
same_body q r qs rs b d cs ds k v w h g e f =
    let same : cs ≡ ds = sym (behind_quotes q qs cs v) ∙ ap (λ x. drop (quotes_len x) (qs ++ cs)) e ∙
    ap (λ xs. drop (quotes_len r) xs) f
    ∙ behind_quotes r rs ds w in
    one_body q b d cs k h (subst (λ x. Closed x d cs) (sym e) (subst (Closed r d) (sym same) g))

same_literal : (xs ys b d : List Character) (p r : Prefix) → Literal xs p b → Literal ys r d → xs ≡ ys →
    (p ≡ r) × (b ≡ d)
same_literal xs ys b d p r (literal q {ps = ps} {qs = qs} {cs = cs} h k w close)
    (literal o {ps = os} {qs = rs} {cs = ds} g j v shut) e =
    let front : ps ≡ os = sym (run_is q ps qs cs p h k w) ∙ ap (run Name) e ∙ run_is o os rs ds r g j v in
    let rest : qs ++ cs ≡ rs ++ ds = sym (after_is q ps qs cs p h k w) ∙ ap (after Name) e ∙
    after_is o os rs ds r g j v in
    let quoting : q ≡ o = sym (quoted_once q qs b cs k w close) ∙ ap quotes_at rest ∙
    quoted_once o rs d ds j v shut in (
      one_prefix os p r (subst (λ zs. Prefixes zs p) front h) g,
      same_body q o qs rs b d cs ds k w v close shut quoting
          rest,
    )

pub one_literal : (cs b d : List Character) (p r : Prefix) → Literal cs p b → Literal cs r d → (p ≡ r) × (b ≡ d)
one_literal cs b d p r h g = same_literal cs cs b d p r h g refl

-- ---- how a literal begins

-- behind what could be a name there are quotes
pub literal_starts : (cs b : List Character) (p : Prefix) → Literal cs p b → next_is Quote (after Name cs) ≡ true
literal_starts cs b p (literal q {ps = ps} {qs = qs} {cs = ds} h k w close) =
    ap (next_is Quote) (after_is q ps qs ds p h k w) ∙ quotes_start q qs ds k w

first_cases : (ps rest : List Character) (p : Prefix) → Prefixes ps p → next_is Quote rest ≡ true →
    (next_is NameStart (ps ++ rest) ≡ true) ⊎ (next_is Quote (ps ++ rest) ≡ true)
first_cases [] rest p h e = inr e
first_cases (c ∷ ps) rest p h e = inl (prefix_first c ps p h)

-- a letter or a quote is first
pub literal_first : (cs b : List Character) (p : Prefix) → Literal cs p b →
    (next_is NameStart cs ≡ true) ⊎ (next_is Quote cs ≡ true)
literal_first cs b p (literal q {ps = ps} {qs = qs} {cs = ds} h k w close) =
    subst (λ xs. (next_is NameStart xs ≡ true) ⊎ (next_is Quote xs ≡ true)) (sym (append_assoc ps qs ds))
    (first_cases ps (qs ++ ds) p h (quotes_start q qs ds k w))
