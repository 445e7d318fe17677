-- What reading tells, whatever it answers: what was taken, or why it stopped and that nothing else could follow.
use Rattle.std.proofs.Common.{◌≡◌, ℕ, zero, suc, ◌+◌, ◌≤◌, ◌==◌, nat_lt, Bool, true, false, List, [], ◌∷◌, ◌++◌, Ok, Err, Some, None, refl, sym, ap, ◌∙◌, subst, append_assoc, append-nil, if◌then◌else◌, arith}
use Rattle.py_tokens.specs.declared.token.Token.{Token}
use Rattle.py_tokens.specs.declared.token.TokenKind.{TokenKind}
use Rattle.py_tokens.specs.declared.token.TokenKind.TheVariants as k
use Rattle.py_tokens.specs.declared.token.Place.{Place}
use Rattle.py_tokens.specs.Place.{token_at as at}
use Rattle.py_tree.specs.declared.stmt.Stmt.{Stmt}
use Rattle.py_tree.specs.Tall.{talls}
use Rattle.py_base.specs.declared.refusal.Construct.{Construct}
use Rattle.py_grammar.specs.declared.fault.Fault.{Fault}
use Rattle.py_grammar.specs.declared.fault.Fault.TheVariants.{Unexpected, LeftOut, Deep}
use Rattle.py_grammar.specs.Grammar.{Marks}
use Rattle.py_grammar.specs.Statements.{Body}
use Rattle.py_grammar.specs.Words.{line_of}
use Rattle.std.proofs.Common.{nat_le}
use Rattle.py_grammar.specs.inner.Reading.{Reads, Reader, ◌>>=◌, first}

-- ---- what modules begin with

-- with which marks, and whether of a height of at most 100
pub record Mode : Type 0 where
  pub marks : Marks
  pub bounded : Bool

abbrev pub any : Mode
any = record { marks = None; bounded = false }

abbrev pub low : Mode
low = record { marks = None; bounded = true }

abbrev pub marked : Construct → Mode
marked c = record { marks = Some c; bounded = false }

-- a height that the mode allows where d is left
abbrev pub Fits : Mode → ℕ → ℕ → Type 0
Fits m h d = m.bounded ≡ true → h ≤ d

-- some module of the mode begins with these tokens
pub record Opens (m : Mode) (ts : List Token) : Type 0 where
  pub body : List Stmt
  pub more : List Token
  pub spells : Body m.marks body (ts ++ more)
  pub fits : Fits m (talls body) 99

pub cut : (m : Mode) (ts us : List Token) → Opens m (ts ++ us) → Opens m ts
cut m ts us o = record {
  body = o.body;
  more = us ++ o.more;
  spells =
      subst (Body m.marks o.body) (append_assoc ts us o.more) o.spells;
  fits = o.fits;
}

-- grouped to the left
pub near : (m : Mode) (ts us vs : List Token) → Opens m (ts ++ (us ++ vs)) → Opens m ((ts ++ us) ++ vs)
near m ts us vs o = subst (Opens m) (sym (append_assoc ts us vs)) o

-- up to here
pub within : (m : Mode) (ts us vs : List Token) → Opens m (ts ++ (us ++ vs)) → Opens m (ts ++ us)
within m ts us vs o = cut m (ts ++ us) vs (near m ts us vs o)

pub bare : (m : Mode) (ts : List Token) → Opens m (ts ++ []) → Opens m ts
bare m ts o = subst (Opens m) (append-nil ts) o

pub alone : (m : Mode) (ts : List Token) → Opens m ts → Opens m (ts ++ [])
alone m ts o = subst (Opens m) (sym (append-nil ts)) o

-- by an equation of lists, and up to where more follows
pub on : {m : Mode} {ts us : List Token} (vs : List Token) → ts ≡ us ++ vs → Opens m ts → Opens m us
on {m = m} {us = us} vs e o = cut m us vs (subst (Opens m) e o)

pub here : {m : Mode} {ts us : List Token} → ts ≡ us → Opens m ts → Opens m us
here {m = m} e o = subst (Opens m) e o

pub move : {ts us : List Token} (P : List Token → Type 0) → ts ≡ us → P ts → P us
move P e p = subst P e p

-- ---- the first token

-- both begin with the same token, or are empty
abbrev pub SameFirst : List Token → List Token → Type 0
SameFirst [] [] = Unit {0}
SameFirst [] (u ∷ us) = ⊥
SameFirst (t ∷ ts) [] = ⊥
SameFirst (t ∷ ts) (u ∷ us) = t ≡ u

pub same_after : (fs rest us : List Token) → SameFirst rest us → SameFirst (fs ++ rest) (fs ++ us)
same_after [] rest us h = h
same_after (f ∷ fs) rest us h = refl

pub same_first : (ts us : List Token) → SameFirst ts us → first us ≡ first ts
same_first [] [] h = refl
same_first [] (u ∷ us) h = absurd h
same_first (t ∷ ts) [] h = absurd h
same_first (t ∷ ts) (u ∷ us) h = ap (λ z. z.kind) (sym h)

-- a list that begins like one that begins with t, and where the split comes after it
pub first_split : (ts fs rest us : List Token) → ts ≡ fs ++ rest → SameFirst rest us → first (fs ++ us) ≡ first ts
first_split ts fs rest us e s = same_first (fs ++ rest) (fs ++ us) (same_after fs rest us s) ∙ ap first (sym e)

-- what holds of each list that begins with the same token
pub with_first : (P : List Token → Type 0) (t : Token) (ts us : List Token) → ((vs : List Token) → P (t ∷ vs)) →
    SameFirst (t ∷ ts) us → P us
with_first P t ts [] h s = absurd s
with_first P t ts (u ∷ us) h s = subst (λ z. P (z ∷ us)) s (h us)

pub with_none : (P : List Token → Type 0) (us : List Token) → P [] → SameFirst [] us → P us
with_none P [] h s = h
with_none P (u ∷ us) h s = absurd s

-- ---- more of a bound

-- w more than n
abbrev pub more : ℕ → ℕ → ℕ
more w zero = w
more w (suc n) = suc (more w n)

pub more_is : (w n : ℕ) → more w n ≡ n + w
more_is w zero = omega arith
more_is w (suc n) = omega (arith, more_is w n)

-- ---- what is told

-- what modules of the fault's mode begin with
abbrev pub Beyond : Fault → List Token → Type 0
Beyond Unexpected ts = Unit {0}
Beyond (LeftOut c) ts = Opens (marked c) ts
Beyond Deep ts = Opens any ts

-- A refusal stays with a budget of y more, but where the height was its cause.
abbrev pub Stays : ℕ → Fault → Type 0
Stays y Deep = y ≡ 0
Stays y Unexpected = Unit {0}
Stays y (LeftOut c) = Unit {0}

-- `pre` was read before, `ts` is left, `again` is the same reader with more turns and a greater budget.
module _ {A : Type 0} (y : ℕ) (pre ts : List Token) (again : Reader A) where
  pub record Took (Q : A → List Token → Type 0) (a : A) (rest : List Token) : Type 0 where
    pub front : List Token
    pub split : ts ≡ front ++ rest
    pub holds : Q a front
    pub same : (us : List Token) → SameFirst rest us → again (front ++ us) ≡ Ok (a, us)

  pub record Stopped (f : Fault) (rest : List Token) : Type 0 where
    pub front : List Token
    -- Deep is for a token that is there
    pub ahead : f ≡ Deep → rest ≡ [] → Opens any
        ((pre ++ front) ++ at k.End (record { from = 0; to = 0; line = 0 }) ∷ [])
    pub split : ts ≡ front ++ rest
    -- a module begins with what was taken
    pub before : Opens low (pre ++ front)
    -- and one of the fault's mode also with the refused token
    pub beyond : (t : Token) (us : List Token) → rest ≡ t ∷ us → Beyond f ((pre ++ front) ++ t ∷ [])
    pub same : (us : List Token) → SameFirst rest us → Stays y f → again (front ++ us) ≡ Err (f, us)

  abbrev pub Tells : (A → List Token → Type 0) → Reads A → Type 0
  Tells Q (Ok x) = Took Q x.0 x.1
  Tells Q (Err x) = Stopped x.0 x.1

  pub record Told (Q : A → List Token → Type 0) (r : Reads A) : Type 0 where
    pub tells : Tells Q r

not_deep_unexpected : Unexpected ≡ Deep → ⊥
not_deep_unexpected e = cc

not_deep_left : (c : Construct) → LeftOut c ≡ Deep → ⊥
not_deep_left c e = cc

-- ---- how it is told

-- nothing is taken
pub told_done : {A : Type 0} {y : ℕ} {pre ts : List Token} {Q : A → List Token → Type 0} {a : A} → Q a [] →
    Told y pre ts (λ us. Ok (a, us)) Q (Ok (a, ts))
told_done h = record { tells = record { front = []; split = refl; holds = h; same = λ us s. refl } }

-- nothing is taken, by equations
pub told_ends : {A : Type 0} {y : ℕ} {pre ts : List Token} {again : Reader A} {Q : A → List Token → Type 0}
    {r : Reads A} (a : A) → Q a [] → r ≡ Ok (a, ts) → ((us : List Token) → SameFirst ts us → again us ≡ Ok (a, us)) →
    Told y pre ts again Q r
told_ends {y = y} {pre = pre} {ts = ts} {again = again} {Q = Q} a h e s =
    subst (Told y pre ts again Q) (sym e) (record { tells = record { front = []; split = refl; holds = h; same = s } })

pub told_refused : {A : Type 0} {y : ℕ} {pre ts : List Token} {Q : A → List Token → Type 0} → Opens low pre →
    Told y pre ts (λ us. Err (Unexpected, us)) Q (Err (Unexpected, ts))
told_refused {pre = pre} o = record {
  tells =
      record {
        front = [];
        split = refl;
        before = alone low pre o;
        beyond = λ t us e. tt;
        ahead = λ d e.
            absurd (not_deep_unexpected d);
        same = λ us s z. refl;
      };
}

-- the first token, where its kind is known
pub first_token : (ts : List Token) (κ : TokenKind) (t : Token) (us : List Token) → first ts ≡ κ → ts ≡ t ∷ us →
    t ≡ at κ (record { from = t.from; to = t.to; line = t.line })
first_token ts κ t us e q = ap (λ z. at z (record { from = t.from; to = t.to; line = t.line })) (ap first (sym q) ∙ e)

pub there : (ts : List Token) (κ : TokenKind) → first ts ≡ κ → (κ ≡ k.End → ⊥) →
    (p : Place) × (us : List Token) × (ts ≡ at κ p ∷ us)
there [] κ e n = absurd (n (sym e))
there (t ∷ us) κ e n = (
  record { from = t.from; to = t.to; line = t.line },
  us,
  ap (λ z. at z (record { from = t.from; to = t.to; line = t.line }) ∷ us) e,
)

-- this kind is refused as left out
pub told_left : {A : Type 0} {y : ℕ} {pre ts : List Token} {Q : A → List Token → Type 0} {c : Construct}
    (κ : TokenKind) → first ts ≡ κ → Opens low pre → ((p : Place) → Opens (marked c) (pre ++ at κ p ∷ [])) →
    Told y pre ts (λ us. Err (LeftOut c, us)) Q (Err (LeftOut c, ts))
told_left {pre = pre} {ts = ts} {c = c} κ e o b = record {
  tells = record {
    front = [];
    ahead = λ d q. absurd (not_deep_left c d);
    split = refl;
    before = alone low pre o;
    beyond = λ t us q. subst (λ z. Opens (marked c) (z ++ t ∷ [])) (sym (append-nil pre))
        (subst (λ z. Opens (marked c) (pre ++ z ∷ [])) (sym (first_token ts κ t us e q)) (b _));
    same = λ us s z. refl;
  };
}

-- the same reader in other words, where its first token is the same
pub told_as : {A : Type 0} {y : ℕ} {pre ts : List Token} {X' again : Reader A} {Q : A → List Token → Type 0}
    {q : Reads A} → ((us : List Token) → first us ≡ first ts → again us ≡ X' us) → Told y pre ts X' Q q →
    Told y pre ts again Q q
told_as {ts = ts} {q = Ok x} h t = let p = t.tells in
    record {
      tells = record {
        front = p.front;
        split = p.split;
        holds = p.holds;
        same = λ us s.
            h (p.front ++ us) (first_split ts p.front x.1 us p.split s) ∙ p.same us s;
      };
    }
told_as {ts = ts} {q = Err x} h t = let p = t.tells in
    record {
      tells = record {
        front = p.front;
        split = p.split;
        before = p.before;
        beyond = p.beyond;
        ahead = p.ahead;
        same = λ us s z. h (p.front ++ us) (first_split ts p.front x.1 us p.split s) ∙ p.same us s z;
      };
    }

pub told_same : {A : Type 0} {y : ℕ} {pre ts : List Token} {X' again : Reader A} {Q : A → List Token → Type 0}
    {q r : Reads A} → r ≡ q → ((us : List Token) → first us ≡ first ts → again us ≡ X' us) → Told y pre ts X' Q q →
    Told y pre ts again Q r
told_same {y = y} {pre = pre} {ts = ts} {again = again} {Q = Q} e h t =
    subst (Told y pre ts again Q) (sym e) (told_as h t)

pub told_if : {A : Type 0} {y : ℕ} {pre ts : List Token} {X' Y' : Reader A} {X Y : Reads A}
    {Q : A → List Token → Type 0} (p : TokenKind → Bool) → (p (first ts) ≡ true → Told y pre ts X' Q X) →
    (p (first ts) ≡ false → Told y pre ts Y' Q Y) →
    Told y pre ts (λ us. if p (first us) then X' us else Y' us) Q (if p (first ts) then X else Y)
told_if {A = A} {y = y} {pre = pre} {ts = ts} {X' = X'} {Y' = Y'} {X = X} {Y = Y} {Q = Q} p h i = go (p (first ts)) refl
  where
    go : (b : Bool) → p (first ts) ≡ b → Told y pre ts (λ us. if p (first us) then X' us else Y' us) Q
        (if p (first ts) then X else Y)
    go true e = told_same {X' = X'} {q = X} (rw e refl) (λ us s. rw s (rw e refl)) (h e)
    go false e = told_same {X' = Y'} {q = Y} (rw e refl) (λ us s. rw s (rw e refl)) (i e)

-- a height more than what is left is refused
pub told_deep : {A : Type 0} {y : ℕ} {pre ts : List Token} {X' : Reader A} {X : Reads A} {Q : A → List Token → Type 0}
    (d n : ℕ) (κ : TokenKind) → first ts ≡ κ → Opens low pre → ((p : Place) → Opens any (pre ++ at κ p ∷ [])) →
    (n ≤ d → Told y pre ts X' Q X) →
    Told y pre ts (λ us. if nat_lt (more y d) n then Err (Deep, us) else X' us) Q
    (if nat_lt d n then Err (Deep, ts) else X)
told_deep {A = A} {y = y} {pre = pre} {ts = ts} {X' = X'} {X = X} {Q = Q} d n κ w o b h = go (nat_lt d n) refl
  where
    small : nat_lt d n ≡ false → nat_lt (more y d) n ≡ false
    small e = let i : n ≤ d = grind (arith, e) in let j : n ≤ more y d = omega (arith, more_is y d) in grind (arith, j)

    go : (b : Bool) → nat_lt d n ≡ b → Told y pre ts (λ us. if nat_lt (more y d) n then Err (Deep, us) else X' us) Q
        (if nat_lt d n then Err (Deep, ts) else X)
    go true e = rw e (record {
      tells = record {
        front = [];
        ahead = λ dd r. subst (λ z. Opens any (z ++ at k.End (record { from = 0; to = 0; line = 0 }) ∷ []))
            (sym (append-nil pre)) (subst (λ z. Opens any (pre ++ at z (record { from = 0; to = 0; line = 0 }) ∷ []))
            (sym w ∙ ap first r) (b (record { from = 0; to = 0; line = 0 })));
        split = refl;
        before = alone low pre o;
        beyond = λ t us q. subst (λ z. Opens any (z ++ t ∷ [])) (sym (append-nil pre))
            (subst (λ z. Opens any (pre ++ z ∷ [])) (sym (first_token ts κ t us w q)) (b _));
        same = λ us s z. let i : more y d ≡ d = omega (arith, more_is y d, z) in rw i (rw e refl);
      };
    })
    go false e = told_same {X' = X'} {q = X} (rw e refl) (λ us s. rw (small e) refl) (h (grind (arith, e)))

-- what holds of what was taken
pub told_post : {A : Type 0} {y : ℕ} {pre ts : List Token} {again : Reader A} {Q T : A → List Token → Type 0}
    {r : Reads A} → ((a : A) (fs : List Token) → Q a fs → T a fs) → Told y pre ts again Q r → Told y pre ts again T r
told_post {r = Ok x} h t = let p = t.tells in
    record { tells = record { front = p.front; split = p.split; holds = h x.0 p.front p.holds; same = p.same } }
told_post {r = Err x} h t = let p = t.tells in
    record {
      tells = record {
        front = p.front;
        split = p.split;
        before = p.before;
        beyond = p.beyond;
        ahead = p.ahead;
        same = p.same;
      };
    }

-- a token is taken
pub told_take : {A : Type 0} {y : ℕ} {pre : List Token} {ts : List Token} {again : Reader A}
    {Q : A → List Token → Type 0} {r : Reads A} {t : Token} →
    Told y (pre ++ t ∷ []) ts (λ us. again (t ∷ us)) (λ a fs. Q a (t ∷ fs)) r → Told y pre (t ∷ ts) again Q r
told_take {r = Ok x} {t = t} q = let p = q.tells in
    record { tells = record { front = t ∷ p.front; split = ap (λ z. t ∷ z) p.split; holds = p.holds; same = p.same } }
told_take {pre = pre} {r = Err x} {t = t} q = let p = q.tells in record {
  tells = record {
    front = t ∷ p.front;
    split = ap (λ z. t ∷ z) p.split;
    before = subst (Opens low) (append_assoc pre (t ∷ []) p.front) p.before;
    beyond = λ u us e. subst (λ z. Beyond x.0 (z ++ u ∷ [])) (append_assoc pre (t ∷ []) p.front) (p.beyond u us e);
    ahead = λ d e. subst (λ z. Opens any (z ++ at k.End (record { from = 0; to = 0; line = 0 }) ∷ []))
        (append_assoc pre (t ∷ []) p.front) (p.ahead d e);
    same = p.same;
  };
}

-- where the first token passes the test, which only this kind does
pub told_word : {A : Type 0} {y : ℕ} {pre ts : List Token} {X' Y' : Reader A} {X Y : Reads A}
    {Q : A → List Token → Type 0} (p : TokenKind → Bool) (κ : TokenKind) → ((x : TokenKind) → p x ≡ true → x ≡ κ) →
    p k.End ≡ false →
    ((i : Place) (us : List Token) → ts ≡ at κ i ∷ us → Told y pre ts X' Q X) →
    (p (first ts) ≡ false → Told y pre ts Y' Q Y) →
    Told y pre ts (λ us. if p (first us) then X' us else Y' us) Q (if p (first ts) then X else Y)
told_word {A = A} {y = y} {pre = pre} {ts = ts} {X' = X'} {Y' = Y'} {X = X} {Y = Y} {Q = Q} p κ is not h i =
    told_if p (λ e. go ts e refl) i
  where
    go : (us : List Token) → p (first us) ≡ true → ts ≡ us → Told y pre ts X' Q X
    go [] e q = absurd (grind (arith, e, not))
    go (t ∷ us) e q =
        let l : Place = record { from = t.from; to = t.to; line = t.line } in
        let same : t ≡ at κ l = ap (λ z. at z l) (is t.kind e) in
        h l us (q ∙ ap (λ z. z ∷ us) same)

-- one reader after another
pub told_bind : {A B : Type 0} {y : ℕ} {pre ts : List Token} {again : Reader A} {r : Reads A}
    {Q : B → List Token → Type 0} (K' K : A × List Token → Reads B) (T : A → List Token → Type 0) →
    Told y pre ts again T r → ((a : A) (fs rest : List Token) → ts ≡ fs ++ rest → T a fs →
    Told y (pre ++ fs) rest (λ us. K' (a, us)) (λ b us. Q b (fs ++ us)) (K (a, rest))) →
    Told y pre ts (λ us. again us >>= K') Q (r >>= K)
told_bind {r = Err x} K' K T q h = let p = q.tells in
    record {
      tells = record {
        front = p.front;
        split = p.split;
        before = p.before;
        beyond = p.beyond;
        ahead = p.ahead;
        same = λ us s z. ap (λ r. r >>= K') (p.same us s z);
      };
    }
told_bind {A = A} {B = B} {y = y} {pre = pre} {ts = ts} {again = again} {r = Ok x} {Q = Q} K' K T q h =
    go (K x) (h x.0 q.tells.front x.1 q.tells.split q.tells.holds)
  where
    follows : (fs us vs : List Token) (b : Reads B) → x.1 ≡ fs ++ us → SameFirst us vs → K' (x.0, fs ++ vs) ≡ b →
        (again ((q.tells.front ++ fs) ++ vs) >>= K') ≡ b
    follows fs us vs b e s i =
        ap (λ z. again z >>= K') (append_assoc q.tells.front fs vs)
        ∙ ap (λ r. r >>= K') (q.tells.same (fs ++ vs)
        (subst (λ z. SameFirst z (fs ++ vs)) (sym e) (same_after fs us vs s))) ∙ i

    go : (r : Reads B) → Told y (pre ++ q.tells.front) x.1 (λ us. K' (x.0, us)) (λ b us. Q b (q.tells.front ++ us)) r →
        Told y pre ts (λ us. again us >>= K') Q r
    go (Ok z) o = let p = o.tells in record {
      tells = record {
        front = q.tells.front ++ p.front;
        split = q.tells.split ∙ ap (λ z. q.tells.front ++ z) p.split ∙ sym (append_assoc q.tells.front p.front z.1);
        holds = p.holds;
        same = λ us s. follows p.front z.1 us (Ok (z.0, us)) p.split s (p.same us s);
      };
    }
    go (Err z) o = let p = o.tells in record {
      tells = record {
        front = q.tells.front ++ p.front;
        split = q.tells.split ∙ ap (λ z. q.tells.front ++ z) p.split ∙ sym (append_assoc q.tells.front p.front z.1);
        before = subst (Opens low) (append_assoc pre q.tells.front p.front) p.before;
        beyond = λ t us e. subst (λ w. Beyond z.0 (w ++ t ∷ [])) (append_assoc pre q.tells.front p.front)
            (p.beyond t us e);
        ahead = λ d e. subst (λ w. Opens any (w ++ at k.End (record { from = 0; to = 0; line = 0 }) ∷ []))
            (append_assoc pre q.tells.front p.front) (p.ahead d e);
        same = λ us s h. follows p.front z.1 us (Err (z.0, us)) p.split s (p.same us s h);
      };
    }

-- another value of what was read
pub told_map : {A B : Type 0} {y : ℕ} {pre ts : List Token} {again : Reader A} {r : Reads A}
    {T : A → List Token → Type 0} {Q : B → List Token → Type 0} (f : A → B) → Told y pre ts again T r →
    ((a : A) (fs : List Token) → T a fs → Q (f a) fs) →
    Told y pre ts (λ us. again us >>= λ x. Ok (f x.0, x.1)) Q (r >>= λ x. Ok (f x.0, x.1))
told_map {r = Ok x} f q h = let p = q.tells in
    record {
      tells = record {
        front = p.front;
        split = p.split;
        holds = h x.0 p.front p.holds;
        same = λ us s.
            ap (λ r. r >>= λ x. Ok (f x.0, x.1)) (p.same us s);
      };
    }
told_map {r = Err x} f q h = let p = q.tells in
    record {
      tells = record {
        front = p.front;
        split = p.split;
        before = p.before;
        beyond = p.beyond;
        ahead = p.ahead;
        same = λ us s z. ap (λ r. r >>= λ x. Ok (f x.0, x.1)) (p.same us s z);
      };
    }

-- by the first token's kind
pub told_kind : {A : Type 0} {y : ℕ} {pre ts : List Token} {Q : A → List Token → Type 0} {r : Reads A}
    (F' : TokenKind → Reader A) → Told y pre ts (F' (first ts)) Q r → Told y pre ts (λ us. F' (first us) us) Q r
told_kind F' t = told_as (λ us s. ap (λ z. F' z us) s) t

pub told_pre : {A : Type 0} {y : ℕ} {pre pre' ts : List Token} {again : Reader A} {r : Reads A}
    {Q : A → List Token → Type 0} → pre ≡ pre' → Told y pre ts again Q r → Told y pre' ts again Q r
told_pre {y = y} {ts = ts} {again = again} {r = r} {Q = Q} e t = subst (λ z. Told y z ts again Q r) e t

-- by the line on which it begins
line_split : (ts fs us vs : List Token) → ts ≡ fs ++ us → SameFirst us vs → line_of (fs ++ vs) ≡ line_of ts
line_split ts fs us vs e s = same_line (fs ++ us) (fs ++ vs) (same_after fs us vs s) ∙ ap line_of (sym e)
  where
    same_line : (ts us : List Token) → SameFirst ts us → line_of us ≡ line_of ts
    same_line [] [] h = refl
    same_line [] (u ∷ us) h = absurd h
    same_line (t ∷ ts) [] h = absurd h
    same_line (t ∷ ts) (u ∷ us) h = ap (λ z. z.line) (sym h)

pub told_line : {A : Type 0} {y : ℕ} {pre ts : List Token} {Q : A → List Token → Type 0} {r : Reads A}
    (F' : ℕ → Reader A) → Told y pre ts (F' (line_of ts)) Q r → Told y pre ts (λ us. F' (line_of us) us) Q r
told_line {ts = ts} {r = Ok x} F' t = let p = t.tells in
    record {
      tells = record {
        front = p.front;
        split = p.split;
        holds = p.holds;
        same = λ us s.
            ap (λ z. F' z (p.front ++ us)) (line_split ts p.front x.1 us p.split s) ∙ p.same us s;
      };
    }
told_line {ts = ts} {r = Err x} F' t = let p = t.tells in
    record {
      tells = record {
        front = p.front;
        split = p.split;
        before = p.before;
        beyond = p.beyond;
        ahead = p.ahead;
        same = λ us s z. ap (λ z. F' z (p.front ++ us)) (line_split ts p.front x.1 us p.split s) ∙ p.same us s z;
      };
    }

-- a height for which there is room
pub told_room : {A : Type 0} {y : ℕ} {pre ts : List Token} {X' : Reader A} {X : Reads A} {Q : A → List Token → Type 0}
    (d n : ℕ) (κ : TokenKind) → first ts ≡ κ → Opens low pre → ((p : Place) → Opens any (pre ++ at κ p ∷ [])) →
    (n ≤ d → Told y pre ts X' Q X) →
    Told y pre ts (λ us. if nat_le n (more y d) then X' us else Err (Deep, us)) Q
    (if nat_le n d then X else Err (Deep, ts))
told_room {A = A} {y = y} {pre = pre} {ts = ts} {X' = X'} {X = X} {Q = Q} d n κ w o b h = go (nat_le n d) refl
  where
    small : nat_le n d ≡ true → nat_le n (more y d) ≡ true
    small e = let i : n ≤ d = grind (arith, e) in let j : n ≤ more y d = omega (arith, more_is y d) in grind (arith, j)

    go : (b : Bool) → nat_le n d ≡ b → Told y pre ts (λ us. if nat_le n (more y d) then X' us else Err (Deep, us)) Q
        (if nat_le n d then X else Err (Deep, ts))
    go false e = rw e (record {
      tells = record {
        front = [];
        split = refl;
        before = alone low pre o;
        beyond = λ t us q. subst (λ z. Opens any (z ++ t ∷ [])) (sym (append-nil pre))
            (subst (λ z. Opens any (pre ++ z ∷ [])) (sym (first_token ts κ t us w q)) (b _));
        ahead = λ dd r. subst (λ z. Opens any (z ++ at k.End (record { from = 0; to = 0; line = 0 }) ∷ []))
            (sym (append-nil pre)) (subst (λ z. Opens any (pre ++ at z (record { from = 0; to = 0; line = 0 }) ∷ []))
            (sym w ∙ ap first r) (b (record { from = 0; to = 0; line = 0 })));
        same = λ us s z. let i : more y d ≡ d = omega (arith, more_is y d, z) in rw i (rw e refl);
      };
    })
    go true e = told_same {X' = X'} {q = X} (rw e refl) (λ us s. rw (small e) refl) (h (grind (arith, e)))

-- a refusal in another reader's words
pub told_err : {A B : Type 0} {y : ℕ} {pre ts : List Token} {again : Reader A} {again' : Reader B}
    {Q : A → List Token → Type 0} {Q' : B → List Token → Type 0} {f : Fault} {us : List Token} →
    ((vs : List Token) (ws : List Token) → again vs ≡ Err (f, ws) → again' vs ≡ Err (f, ws)) →
    Told y pre ts again Q (Err (f, us)) → Told y pre ts again' Q' (Err (f, us))
told_err h t = let p = t.tells in record {
  tells = record {
    front = p.front;
    split = p.split;
    before = p.before;
    beyond = p.beyond;
    ahead = p.ahead;
    same =
        λ us s z. h (p.front ++ us) us (p.same us s z);
  };
}

-- by a test that is not of the tokens
pub told_when : {A : Type 0} {y : ℕ} {pre ts : List Token} {X' Y' : Reader A} {X Y : Reads A}
    {Q : A → List Token → Type 0} (b : Bool) → (b ≡ true → Told y pre ts X' Q X) → (b ≡ false → Told y pre ts Y' Q Y) →
    Told y pre ts (λ us. if b then X' us else Y' us) Q (if b then X else Y)
told_when true h i = h refl
told_when false h i = i refl

-- by the number of a keyword that comes first
pub told_case : {A : Type 0} {y : ℕ} {pre ts : List Token} {X' Y' : Reader A} {X Y : Reads A}
    {Q : A → List Token → Type 0} (n m : ℕ) → first ts ≡ k.Keyword n →
    ((p : Place) (us : List Token) → ts ≡ at (k.Keyword m) p ∷ us → Told y pre ts X' Q X) →
    ((n == m) ≡ false → Told y pre ts Y' Q Y) →
    Told y pre ts (λ us. if n == m then X' us else Y' us) Q (if n == m then X else Y)
told_case {ts = ts} n m q h i = told_when (n == m)
    (λ e. let f = there ts (k.Keyword m) (q ∙ ap (λ z. k.Keyword z) (grind (arith, e))) (λ z. cc) in h f.0 f.1 f.2) i
