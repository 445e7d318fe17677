-- What reading expressions tells.
use Rattle.std.proofs.Common.{◌≡◌, ℕ, zero, suc, ◌≤◌, Bool, true, false, List, [], ◌∷◌, ◌++◌, length, Ok, Option, Some, None, refl, sym, ap, ◌∙◌, subst, append_assoc, append-nil, arith, length-append}
use Rattle.py_tokens.specs.declared.token.Token.{Token}
use Rattle.py_tokens.specs.declared.token.TokenKind.{TokenKind}
use Rattle.py_tokens.specs.declared.token.TokenKind.TheVariants as k
use Rattle.py_tokens.specs.declared.token.Other.TheVariants as other
use Rattle.py_tokens.specs.declared.token.Place.{Place}
use Rattle.py_tokens.specs.Place.{token_at as at}
use Rattle.py_tree.specs.declared.expr.Expr.{Expr}
use Rattle.py_tree.specs.declared.expr.Expr.TheVariants as e
use Rattle.py_tree.specs.Height.{height, tops}
use Rattle.py_base.specs.declared.refusal.Construct.TheVariants as left
use Rattle.py_grammar.specs.Codes as c
use Rattle.py_grammar.specs.Grammar as G
use Rattle.py_grammar.specs.Grammar.{Marks, Is, Strings, Tests, Commas, Exprs, Pairs, Links, Trailers, Trails, Maybe, Args}
use Rattle.py_grammar.specs.declared.tall.Tall.{Tall}
use Rattle.py_grammar.specs.inner.Tall.{push}
use Rattle.py_grammar.specs.inner.Reading.{joined as joined_strings, name_or, name_of, string_of, is_unicode, strings_at, Reads, Test, ◌>>=◌, first, rest, is_op, is_keyword, comes, is_some, tests_at, keyword_at, op_at, name_at}
use Rattle.py_grammar.proofs.Steps.{of}
use Rattle.py_grammar.proofs.Facts.{no, some_inj}
use Rattle.py_grammar.proofs.ReadSteps.{tests_nil}
use Rattle.py_grammar.proofs.Begin.{s_tests_end, s_strings_end}
use Rattle.py_grammar.proofs.Values.{plus_tests, push_tests}
use Rattle.py_grammar.proofs.Told.{Mode, low, marked, Fits, Opens, near, with_none, more, Told, told_done, told_ends, told_refused, told_left, told_as, told_if, told_post, told_take, told_word, told_bind, told_kind, bare, there}

-- ---- the token of a kind

pub only_op : (n : ℕ) (x : TokenKind) → is_op n x ≡ true → x ≡ k.Op n
only_op n (k.Op m) e = ap (λ z. k.Op z) (grind (arith, e))
only_op n (k.Name m) e = no (sym e)
only_op n (k.Keyword m) e = no (sym e)
only_op n (k.Int m) e = no (sym e)
only_op n (k.Str m) e = no (sym e)
only_op n k.Newline e = no (sym e)
only_op n k.Indent e = no (sym e)
only_op n k.Dedent e = no (sym e)
only_op n k.End e = no (sym e)
only_op n (k.Other o) e = no (sym e)

pub only_keyword : (n : ℕ) (x : TokenKind) → is_keyword n x ≡ true → x ≡ k.Keyword n
only_keyword n (k.Keyword m) e = ap (λ z. k.Keyword z) (grind (arith, e))
only_keyword n (k.Name m) e = no (sym e)
only_keyword n (k.Op m) e = no (sym e)
only_keyword n (k.Int m) e = no (sym e)
only_keyword n (k.Str m) e = no (sym e)
only_keyword n k.Newline e = no (sym e)
only_keyword n k.Indent e = no (sym e)
only_keyword n k.Dedent e = no (sym e)
only_keyword n k.End e = no (sym e)
only_keyword n (k.Other o) e = no (sym e)

pub only_unicode : (x : TokenKind) → is_unicode x ≡ true → x ≡ k.Other other.Unicode
only_unicode (k.Other other.Unicode) e = refl
only_unicode x e = no (sym e)

-- ---- a place for an expression

-- An expression of level n and of a height of at most d may stand here.
abbrev pub Hole : ℕ → ℕ → List Token → Type 0
Hole n d pre = (m : Mode) (a : Expr) (us : List Token) → Is m.marks n a us → Fits m (height a) d → Opens m (pre ++ us)

-- It was taken.
abbrev pub Read : ℕ → ℕ → Tall Expr → List Token → Type 0
Read n d v fs = (a : Expr) × (v ≡ of a) × ((x : Marks) → Is x n a fs) × (height a ≤ d)

-- A reader of a level tells, where at most g tokens are left.
abbrev pub Tell : ℕ → ℕ → ℕ → ℕ → Test → Test → Type 0
Tell y g d n next' next = (pre ts : List Token) → length ts ≤ g → Opens low pre → Hole n d pre →
    Told y pre ts next' (Read n d) (next ts)

pub told_read : {A : Type 0} {y : ℕ} {pre ts : List Token} {again : Test} {r : Reads (Tall Expr)}
    {Q : A → List Token → Type 0} (n d : ℕ) (K' K : Tall Expr × List Token → Reads A) →
    Told y pre ts again (Read n d) r →
    ((a : Expr) (fs rest : List Token) → ts ≡ fs ++ rest → ((x : Marks) → Is x n a fs) → height a ≤ d →
    Told y (pre ++ fs) rest (λ us. K' (of a, us)) (λ b us. Q b (fs ++ us)) (K (of a, rest))) →
    Told y pre ts (λ us. again us >>= K') Q (r >>= K)
told_read {y = y} {pre = pre} {Q = Q} n d K' K p h =
    told_bind K' K (Read n d) p (λ v fs rest e q.
    subst (λ z. Told y (pre ++ fs) rest (λ us. K' (z, us)) (λ b us. Q b (fs ++ us)) (K (z, rest))) (sym q.1)
    (h q.0 fs rest e q.2 q.3))

-- ---- tokens that have to come

pub told_need : {A : Type 0} {y : ℕ} {pre ts : List Token} {Q : A → List Token → Type 0} (n : ℕ)
    (K' K : Unit {0} × List Token → Reads A) → Opens low pre →
    ((p : Place) (us : List Token) → ts ≡ at (k.Op n) p ∷ us →
    Told y (pre ++ at (k.Op n) p ∷ []) us (λ vs. K' (tt, vs)) (λ b fs. Q b (at (k.Op n) p ∷ fs)) (K (tt, us))) →
    Told y pre ts (λ us. op_at n us >>= K') Q (op_at n ts >>= K)
unfolding op_at
told_need {y = y} {pre = pre} {Q = Q} n K' K o h = told_bind K' K (λ u fs. (p : Place) × (fs ≡ at (k.Op n) p ∷ []))
    (told_word (is_op n) (k.Op n) (only_op n) refl (λ p us q. rw q (told_take (told_done (p, refl))))
    (λ q. told_refused o))
    (λ u fs rest e r. subst (λ z. Told y (pre ++ z) rest (λ us. K' (u, us)) (λ b us. Q b (z ++ us)) (K (u, rest)))
    (sym r.1) (h r.0 rest (e ∙ ap (λ z. z ++ rest) r.1)))

pub told_need_word : {A : Type 0} {y : ℕ} {pre ts : List Token} {Q : A → List Token → Type 0} (n : ℕ)
    (K' K : Unit {0} × List Token → Reads A) → Opens low pre →
    ((p : Place) (us : List Token) → ts ≡ at (k.Keyword n) p ∷ us →
    Told y (pre ++ at (k.Keyword n) p ∷ []) us (λ vs. K' (tt, vs)) (λ b fs. Q b (at (k.Keyword n) p ∷ fs))
    (K (tt, us))) → Told y pre ts (λ us. keyword_at n us >>= K') Q (keyword_at n ts >>= K)
unfolding keyword_at
told_need_word {y = y} {pre = pre} {Q = Q} n K' K o h =
    told_bind K' K (λ u fs. (p : Place) × (fs ≡ at (k.Keyword n) p ∷ []))
    (told_word (is_keyword n) (k.Keyword n) (only_keyword n) refl (λ p us q. rw q (told_take (told_done (p, refl))))
    (λ q. told_refused o))
    (λ u fs rest e r. subst (λ z. Told y (pre ++ z) rest (λ us. K' (u, us)) (λ b us. Q b (z ++ us)) (K (u, rest)))
    (sym r.1) (h r.0 rest (e ∙ ap (λ z. z ++ rest) r.1)))

pub only_name : (x : TokenKind) (n : List ℕ) → name_of x ≡ Some n → x ≡ k.Name n
only_name (k.Name m) n e = ap (λ z. k.Name z) (some_inj m n e)
only_name x n e = no (sym (ap is_some e))

pub only_string : (x : TokenKind) (n : List ℕ) → string_of x ≡ Some n → x ≡ k.Str n
only_string (k.Str m) n e = ap (λ z. k.Str z) (some_inj m n e)
only_string x n e = no (sym (ap is_some e))

tell_name : {y : ℕ} {pre ts : List Token} → Opens low pre →
    Told y pre ts name_at (λ n fs. (p : Place) × (fs ≡ at (k.Name n) p ∷ [])) (name_at ts)
unfolding name_at
tell_name {y = y} {pre = pre} {ts = ts} o = told_kind (λ κ us. name_or (name_of κ) us) (go (name_of (first ts)) refl)
  where
    go : (m : Option (List ℕ)) → name_of (first ts) ≡ m →
        Told y pre ts (name_or (name_of (first ts))) (λ n fs. (p : Place) × (fs ≡ at (k.Name n) p ∷ []))
        (name_or (name_of (first ts)) ts)
    go (Some n) e = rw e (let h = there ts (k.Name n) (only_name (first ts) n e) (λ q. cc) in
        rw h.2 (told_take (told_done (h.0, refl))))
    go None e = rw e (told_refused o)

pub told_need_name : {A : Type 0} {y : ℕ} {pre ts : List Token} {Q : A → List Token → Type 0}
    (K' K : List ℕ × List Token → Reads A) → Opens low pre →
    ((n : List ℕ) (p : Place) (us : List Token) → ts ≡ at (k.Name n) p ∷ us →
    Told y (pre ++ at (k.Name n) p ∷ []) us (λ vs. K' (n, vs)) (λ b fs. Q b (at (k.Name n) p ∷ fs)) (K (n, us))) →
    Told y pre ts (λ us. name_at us >>= K') Q (name_at ts >>= K)
told_need_name {y = y} {pre = pre} {Q = Q} K' K o h =
    told_bind K' K (λ n fs. (p : Place) × (fs ≡ at (k.Name n) p ∷ [])) (tell_name o)
    (λ n fs rest e r. subst (λ z. Told y (pre ++ z) rest (λ us. K' (n, us)) (λ b us. Q b (z ++ us)) (K (n, rest)))
    (sym r.1) (h n r.0 rest (e ∙ ap (λ z. z ++ rest) r.1)))

-- ---- the least expression

abbrev pub p0 : Place
p0 = record { from = 0; to = 0; line = 0 }

abbrev pub word : List Token
word = at (k.Name []) p0 ∷ []

pub is_word : (n : ℕ) (x : Marks) → n ≤ 14 → Is x n (e.Name []) word
is_word zero x l = G.name x [] p0
is_word (suc n) x l = G.up n (omega (arith, l)) (is_word n x (omega (arith, l)))

-- a mode without bound
pub free : {A : Type 0} → false ≡ true → A
free h = no (sym h)

pub length_after : (ts fs rest : List Token) → ts ≡ fs ++ rest → length rest ≤ length ts
length_after ts fs rest e = omega (arith, ap length e, length-append fs rest)

-- ---- what follows a first test

-- one comma or more
pub data Commaed : Marks → List Expr → Bool → List Token → Type 0 where
  trailing : (x : Marks) (p : Place) → Commaed x [] true (at c.comma p ∷ [])
  further : (p : Place) {x : Marks} {es : List Expr} {b : Bool} {us : List Token} → Tests x es b us →
      Commaed x es b (at c.comma p ∷ us)

pub data Following : Marks → List Expr → Bool → List Token → Type 0 where
  no_more : (x : Marks) → Following x [] false []
  commaed : {x : Marks} {es : List Expr} {b : Bool} {us : List Token} → Commaed x es b us → Following x es b us

pub then_tests : {x : Marks} {a : Expr} {es : List Expr} {b : Bool} {ts us : List Token} → Is x 14 a ts →
    Following x es b us → Tests x (a ∷ es) b (ts ++ us)
then_tests {x = x} {a = a} {ts = ts} p (no_more _) = subst (Tests x (a ∷ []) false) (sym (append-nil ts)) (G.only p)
then_tests p (commaed (trailing _ q)) = G.only_comma q p
then_tests p (commaed (further q r)) = G.more_tests q p r

pub then_commas : {x : Marks} {a : Expr} {es : List Expr} {b : Bool} {ts us : List Token} → Is x 14 a ts →
    Commaed x es b us → Commas x (a ∷ es) (ts ++ us)
then_commas p (trailing _ q) = G.lone q p
then_commas p (further q r) = G.several q p r

pub data AfterTest : Marks → Expr → Expr → List Token → Type 0 where
  itself : (x : Marks) (a : Expr) → AfterTest x a a []
  tupled : {x : Marks} {a : Expr} {es : List Expr} {b : Bool} {us : List Token} → Commaed x es b us →
      AfterTest x a (e.Tuple (a ∷ es)) us

pub then_exprs : {x : Marks} {a b : Expr} {ts us : List Token} → Is x 14 a ts → AfterTest x a b us →
    Exprs x b (ts ++ us)
then_exprs {x = x} {a = a} {ts = ts} p (itself _ _) = subst (Exprs x a) (sym (append-nil ts)) (G.single p)
then_exprs p (tupled q) = G.tuple (then_commas p q)

pub data MoreStrings : Marks → List ℕ → List Token → Type 0 where
  no_string : (x : Marks) → MoreStrings x [] []
  strung : {x : Marks} {s : List ℕ} {ts : List Token} → Strings x s ts → MoreStrings x s ts

pub then_strings : {x : Marks} (s : List ℕ) (p : Place) {r : List ℕ} {ts : List Token} → MoreStrings x r ts →
    Strings x (s ++ r) (at (k.Str s) p ∷ ts)
then_strings {x = x} s p (no_string _) = subst (λ z. Strings x z (at (k.Str s) p ∷ [])) (sym (append-nil s))
    (G.one x s p)
then_strings {x = x} s p (strung q) = G.more x s p q

-- ---- readers

-- with w more turns and y more of a budget
module _ (w y : ℕ) where
  abbrev TellStrings : ℕ → Type 0
  TellStrings f = (found : List ℕ) (pre ts : List Token) → length ts ≤ f →
      ((m : Mode) (s : List ℕ) (us : List Token) → MoreStrings m.marks s us → Opens m (pre ++ us)) →
      Told y pre ts (strings_at (more w f) found)
      (λ v fs. (s : List ℕ) × (v ≡ found ++ s) × ((x : Marks) → MoreStrings x s fs)) (strings_at f found ts)

  pub tell_strings : (f : ℕ) → TellStrings f
  unfolding strings_at
  tell_strings zero found pre [] l hole = told_ends found ([], sym (append-nil found), no_string) refl
      (λ us s. with_none (λ z. strings_at w found z ≡ Ok (found, z)) us (s_strings_end w found [] refl) s)
  tell_strings zero found pre (t ∷ ts) l hole = absurd (omega (arith, l))
  tell_strings (suc f) found pre ts l hole =
      told_kind (λ κ us. joined_strings (strings_at (more w f)) (string_of κ) found us)
      (go (tell_strings f) (string_of (first ts)) refl)
    where
      go : TellStrings f → (o : Option (List ℕ)) → string_of (first ts) ≡ o →
          Told y pre ts (joined_strings (strings_at (more w f)) (string_of (first ts)) found)
          (λ v fs. (s : List ℕ) × (v ≡ found ++ s) × ((x : Marks) → MoreStrings x s fs))
          (joined_strings (strings_at f) (string_of (first ts)) found ts)
      go again (Some s) q = rw q (let h = there ts (k.Str s) (only_string (first ts) s q) (λ z. cc) in rw h.2 (told_take
          (told_post (λ v fs r. (s ++ r.0, r.1 ∙ append_assoc found s r.0, λ x. strung (then_strings s h.0 (r.2 x))))
          (again (found ++ s) (pre ++ at (k.Str s) h.0 ∷ []) h.1 (omega (arith, l, ap length h.2))
          (λ m r us i. near m pre (at (k.Str s) h.0 ∷ []) us
          (hole m (s ++ r) _ (strung (then_strings s h.0 i))))))))
      go again None q = rw q (told_if is_unicode
          (λ u. told_left (k.Other other.Unicode) (only_unicode (first ts) u)
          (bare low pre (hole low [] [] (no_string None)))
          (λ p. hole (marked left.Unicode) [] _ (strung (G.unicode p))))
          (λ u. told_done ([], sym (append-nil found), no_string)))

  abbrev pub Listing : ℕ → List Token → Type 0
  Listing d pre = (m : Mode) (es : List Expr) (b : Bool) (us : List Token) → Following m.marks es b us →
      Fits m (tops es) d → Opens m (pre ++ us)

  abbrev pub Commaing : ℕ → List Token → Type 0
  Commaing d pre = (m : Mode) (es : List Expr) (b : Bool) (us : List Token) → Commaed m.marks es b us →
      Fits m (tops es) d → Opens m (pre ++ us)

  abbrev TellTests : (g d : ℕ) (next' next : Test) → ℕ → Type 0
  TellTests g d next' next f = (found : Tall (List Expr)) (pre ts : List Token) → length ts ≤ f → f ≤ g →
      Listing d pre →
      Told y pre ts (tests_at next' (more w f) found)
      (λ v fs. (es : List Expr) × (v.0 ≡ plus_tests found es) × ((x : Marks) → Following x es v.1 fs) ×
      (tops es ≤ d)) (tests_at next f found ts)

  tell_comma : (g d : ℕ) (next' next : Test) → Tell y g d 14 next' next → (f : ℕ) → TellTests g d next' next f →
      (found : Tall (List Expr)) (pre : List Token) (p : Place) (us : List Token) → length us ≤ f → f ≤ g →
      Commaing d pre →
      Told y pre (at c.comma p ∷ us) (tests_at next' (more w (suc f)) found)
      (λ v fs. (es : List Expr) × (v.0 ≡ plus_tests found es) × ((x : Marks) → Commaed x es v.1 fs) ×
      (tops es ≤ d)) (tests_at next (suc f) found (at c.comma p ∷ us))
  unfolding tests_at
  tell_comma g d next' next tell f again found pre p us l i hole = told_take (told_if (comes 14)
      (λ c'. told_read 14 d _ _ (tell (pre ++ at c.comma p ∷ []) us (omega (arith, l))
      (hole low [] true _ (trailing None p) (λ b. omega arith))
      (λ m a vs r h. near m pre (at c.comma p ∷ []) vs
      (hole m (a ∷ []) false _ (further p (G.only r)) (λ b. omega (arith, h b)))))
      (λ a fs rest q' is h. told_post (λ v us r.
      (a ∷ r.0, r.1 ∙ push_tests found a r.0, λ x. further p (then_tests (is x) (r.2 x)), omega (arith, r.3)))
      (again (push found (of a)) ((pre ++ at c.comma p ∷ []) ++ fs) rest (omega (arith, l, length_after us fs rest q'))
      i
      (λ m es b vs r j. near m (pre ++ at c.comma p ∷ []) fs vs
      (near m pre (at c.comma p ∷ []) (fs ++ vs)
      (hole m (a ∷ es) b _ (further p (then_tests (is m.marks) r)) (λ z. omega (arith, j z))))))))
      (λ c'. told_done ([], sym (tests_nil found), (λ x. trailing x p), omega arith)))

  pub tell_tests : (g d : ℕ) (next' next : Test) → Tell y g d 14 next' next → (f : ℕ) → TellTests g d next' next f
  unfolding tests_at
  tell_tests g d next' next tell zero found pre [] l i hole =
      told_ends (found, false) ([], sym (tests_nil found), no_more, omega arith) refl
      (λ us s. with_none (λ z. tests_at next' w found z ≡ Ok ((found, false), z)) us
      (s_tests_end next' w found [] refl) s)
  tell_tests g d next' next tell zero found pre (t ∷ ts) l i hole = absurd (omega (arith, l))
  tell_tests g d next' next tell (suc f) found pre ts l i hole =
      told_word (is_op 38) c.comma (only_op 38) refl
      (λ p us q. rw q (told_as {X' = tests_at next' (more w (suc f)) found} (λ vs s. rw s refl)
      (told_post (λ v fs r. (r.0, r.1, (λ x. commaed (r.2 x)), r.3))
      (tell_comma g d next' next tell f (tell_tests g d next' next tell f) found pre p us
      (omega (arith, l, ap length q)) (omega arith) (λ m es b vs r h. hole m es b vs (commaed r) h)))))
      (λ q. told_done ([], sym (tests_nil found), no_more, omega arith))

  -- where a comma comes
  pub tell_commas : (g d : ℕ) (next' next : Test) → Tell y g d 14 next' next →
      (f : ℕ) (found : Tall (List Expr)) (pre ts : List Token) → length ts ≤ f → f ≤ g → is_op 38 (first ts) ≡ true →
      Commaing d pre →
      Told y pre ts (tests_at next' (more w f) found)
      (λ v fs. (es : List Expr) × (v.0 ≡ plus_tests found es) × ((x : Marks) → Commaed x es v.1 fs) ×
      (tops es ≤ d)) (tests_at next f found ts)
  tell_commas g d next' next tell zero found pre [] l i e hole = no (sym e)
  tell_commas g d next' next tell zero found pre (t ∷ ts) l i e hole = absurd (omega (arith, l))
  tell_commas g d next' next tell (suc f) found pre ts l i e hole = let h =
      there ts c.comma (only_op 38 (first ts) e) (λ z. cc) in
      rw h.2 (tell_comma g d next' next tell f (tell_tests g d next' next tell f) found pre h.0 h.1
      (omega (arith, l, ap length h.2)) (omega arith) hole)
