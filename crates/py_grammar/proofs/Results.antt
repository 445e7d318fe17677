-- What the reading of a module answers: a module of these tokens and of a height of at most 100, every such module, or
-- where and why there is none.
use Rattle.std.proofs.Common.{◌≡◌, ℕ, ◌+◌, ◌≤◌, ◌<◌, max, List, [], ◌∷◌, ◌++◌, length, Ok, Err, Some, None, suc, inl, inr, refl, sym, ap, ◌∙◌, subst, append_assoc, append-nil, arith, length-append}
use Rattle.std.proofs.lemmas.Bool.{or_parts}
use Rattle.py_base.specs.declared.refusal.Construct.{Construct}
use Rattle.py_tokens.specs.declared.token.Token.{Token}
use Rattle.py_tokens.specs.declared.token.TokenKind.TheVariants as k
use Rattle.py_tokens.specs.declared.token.Place.{Place}
use Rattle.py_tokens.specs.Place.{token_at as at}
use Rattle.py_tree.specs.declared.stmt.Stmt.{Stmt}
use Rattle.py_tree.specs.declared.stmt.Module.{Module}
use Rattle.py_tree.specs.Tall.{tall_module, talls}
use Rattle.py_grammar.specs.declared.fault.Fault.{Fault}
use Rattle.py_grammar.specs.declared.fault.Fault.TheVariants.{Unexpected, LeftOut, Deep}
use Rattle.py_grammar.specs.Grammar.{Marks}
use Rattle.py_grammar.specs.Statements as S
use Rattle.py_grammar.specs.Statements.{Body, IsModule}
use Rattle.py_grammar.specs.Words.{line_of}
use Rattle.py_grammar.specs.inner.Reading.{Reads, ◌>>=◌, is_some}
use Rattle.py_grammar.specs.inner.Lines.{statements_at, body_more, module_at}
use Rattle.py_grammar.specs.Refused.{Begins, BeginsWith, Because, RefusedAt, EndsOnce}
use Rattle.py_grammar.proofs.Steps.{Reaches}
use Rattle.py_grammar.proofs.Facts.{no}
use Rattle.py_grammar.proofs.TargetReads.{slack}
use Rattle.py_grammar.proofs.BlockSteps.{highest_talls}
use Rattle.py_grammar.proofs.Whole.{complete_body, only}
use Rattle.py_grammar.proofs.Told.{Beyond, any, Opens, SameFirst, more, more_is, Stays, Told, Stopped}
use Rattle.py_grammar.proofs.NoEnd.{NoEnd, nil, step, no2, no_Statement}
use Rattle.py_grammar.proofs.Aims.{aims}
use Rattle.py_grammar.specs.inner.Lines.{is_end}
use Rattle.py_grammar.proofs.Bodied.{Targets', BodyHole, tell_body}

targets : (w y g : ℕ) → Targets' w y g
targets w y g d = aims w y g d

abbrev Taken : List Stmt → List Token → Type 0
Taken v fs = (ss : List Stmt) × (v ≡ [] ++ ss) × ((x : Marks) → Body x ss fs) × (talls ss ≤ 99)

whole : (d : ℕ) → d ≡ 99 → BodyHole d []
whole d e m ss us p h = record {
  body = ss;
  more = [];
  spells = subst (Body m.marks ss) (sym (append-nil us)) p;
  fits =
      λ z. omega (arith, h z, e);
}

some_tokens : (ts : List Token) → EndsOnce ts → 0 < length ts
some_tokens [] h = absurd h
some_tokens (t ∷ ts) h = omega arith

told_body : (w y : ℕ) (ts : List Token) → EndsOnce ts →
    Told y [] ts (body_more (statements_at (more w (length ts)) (more y 99)) (more w (length ts)) []) Taken
    (body_more (statements_at (length ts) 99) (length ts) [] ts)
told_body w y ts h = tell_body w y (length ts) 98 (targets w y (length ts)) (length ts) [] [] ts (omega arith)
    (omega arith) (some_tokens ts h) h (whole 99 refl)

-- ---- after End comes nothing

body_last : {x : Marks} {ss : List Stmt} {ts : List Token} → Body x ss ts →
    (fs : List Token) × (p : Place) × (ts ≡ fs ++ at k.End p ∷ [])
body_last (S.Body.end x p) = ([], p, refl)
body_last (S.Body.newline p r) = let l = body_last r in (at k.Newline p ∷ l.0, l.1, ap (λ z. at k.Newline p ∷ z) l.2)
body_last (S.Body.more {ts = ts} {us = us} q r) = let l = body_last r in
    (ts ++ l.0, l.1, ap (λ z. ts ++ z) l.2 ∙ sym (append_assoc ts l.0 (at k.End l.1 ∷ [])))

cons_none : (t : Token) (ts : List Token) → t ∷ ts ≡ [] → ⊥
cons_none t ts e = cc

ends_rest : (xs : List Token) (p : Place) (ys : List Token) → EndsOnce (xs ++ at k.End p ∷ ys) → ys ≡ []
ends_rest [] p ys (inl q) = q.1
ends_rest [] p ys (inr q) = absurd (q.0 refl)
ends_rest (x ∷ []) p ys (inl q) = absurd (cons_none _ _ q.1)
ends_rest (x ∷ z ∷ xs) p ys (inl q) = absurd (cons_none _ _ q.1)
ends_rest (x ∷ xs) p ys (inr q) = ends_rest xs p ys q.1

-- a body is tokens without End, and End
body_front : {ss : List Stmt} {ts : List Token} → Body None ss ts →
    (fs : List Token) × (p : Place) × (ts ≡ fs ++ at k.End p ∷ []) × NoEnd fs
body_front (S.Body.end x p) = ([], p, refl, nil)
body_front (S.Body.newline p r) = let l = body_front r in
    (at k.Newline p ∷ l.0, l.1, ap (λ z. at k.Newline p ∷ z) l.2, step refl l.3)
body_front (S.Body.more {ts = ts} {us = us} q r) = let l = body_front r in
    (ts ++ l.0, l.1, ap (λ z. ts ++ z) l.2 ∙ sym (append_assoc ts l.0 (at k.End l.1 ∷ [])), no2 (no_Statement q) l.3)

tail : List Token → List Token
tail [] = []
tail (t ∷ ts) = ts

first_or : Token → List Token → Token
first_or d [] = d
first_or d (t ∷ ts) = t

none_both : (xs ys : List Token) → xs ++ ys ≡ [] → (xs ≡ []) × (ys ≡ [])
none_both [] ys e = (refl, e)
none_both (x ∷ xs) ys e = absurd (cons_none x (xs ++ ys) e)

ends_more : (xs ys us : List Token) (p : Place) → EndsOnce xs → NoEnd us → xs ++ ys ≡ us ++ at k.End p ∷ [] → ys ≡ []
unfolding tail first_or
ends_more [] ys us p h n e = absurd h
ends_more (x ∷ xs) ys (u ∷ us) p (inl q) n e = let same : x ≡ u = ap (first_or x) e in
    no (sym (ap (λ z. is_end z.kind) (sym same) ∙ ap is_end q.0) ∙ (or_parts (is_end u.kind) _ n.none).0)
ends_more (x ∷ xs) ys (u ∷ us) p (inr q) n e =
    ends_more xs ys us p q.1 (record { none = (or_parts (is_end u.kind) _ n.none).1 }) (ap tail e)
ends_more (x ∷ xs) ys [] p (inl q) n e = (none_both xs ys (ap tail e)).1
ends_more (x ∷ xs) ys [] p (inr q) n e = absurd (subst EndsOnce ((none_both xs ys (ap tail e)).0) q.1)

body_rest : {x : Marks} {ss : List Stmt} (fs rest : List Token) → Body x ss fs → EndsOnce (fs ++ rest) → rest ≡ []
body_rest fs rest p h = let l = body_last p in
    ends_rest l.0 l.1 rest (subst EndsOnce (ap (λ z. z ++ rest) l.2 ∙ append_assoc l.0 (at k.End l.1 ∷ []) rest) h)

module_tall : (m : Module) → tall_module m ≡ talls m.body + 1
unfolding tall_module
module_tall m = ap (λ z. z + 1) (highest_talls m.body)

pub found : (ts : List Token) (m : Module) (rest : List Token) → EndsOnce ts → module_at (length ts) ts ≡ Ok (m, rest)
    → IsModule m ts × (tall_module m ≤ 100)
unfolding module_at
found ts m rest h e = go (body_more (statements_at (length ts) 99) (length ts) [] ts) (told_body 0 0 ts h) e
  where
    go : (r : Reads (List Stmt)) → Told 0 [] ts
        (body_more (statements_at (more 0 (length ts)) (more 0 99)) (more 0 (length ts)) []) Taken r →
        (r >>= λ b. Ok (record { body = b.0 }, b.1)) ≡ Ok (m, rest) → IsModule m ts × (tall_module m ≤ 100)
    go (Err x) t q = absurd (bad q)
      where
        bad : ◌≡◌ {A = Reads Module} (Err x) (Ok (m, rest)) → ⊥
        bad q = cc
    go (Ok x) t q =
        let p = t.tells in
        let is : m ≡ record { body = x.0 } = sym (ap value q) in
        let none = body_rest p.front x.1 (p.holds.2 None) (subst EndsOnce p.split h) in
        let all : ts ≡ p.front = p.split ∙ ap (λ z. p.front ++ z) none ∙ append-nil p.front in
        let body : Body None x.0 ts = subst (λ z. Body None z ts) (sym p.holds.1)
        (subst (Body None p.holds.0) (sym all) (p.holds.2 None)) in
        let low' : talls x.0 ≤ 99 = omega (arith, ap talls p.holds.1, p.holds.3) in
        subst (λ z. IsModule z ts × (tall_module z ≤ 100)) (sym is)
        (body, omega (arith, module_tall (record { body = x.0 }), low'))
      where
        value : Reads Module → Module
        value (Ok z) = z.0
        value (Err z) = m

-- ---- refusals

cancel : (fs gs rest : List Token) → fs ++ rest ≡ gs ++ rest → fs ≡ gs
unfolding tail first_or
cancel [] [] rest e = refl
cancel [] (g ∷ gs) rest e = absurd (omega (arith, ap length e, length-append gs rest))
cancel (f ∷ fs) [] rest e = absurd (omega (arith, ap length e, length-append fs rest))
cancel (f ∷ fs) (g ∷ gs) rest e = let a : f ≡ g = ap (first_or f) e in let b : fs ++ rest ≡ gs ++ rest = ap tail e in
    ap (λ z. z ∷ fs) a ∙ ap (λ z. g ∷ z) (cancel fs gs rest b)

err_ok : {A : Type 0} (x : Fault × List Token) (y : A × List Token) (r : Reads A) → r ≡ Err x → r ≡ Ok y → ⊥
err_ok x y r p q = let e : Err x ≡ Ok y = sym p ∙ q in cc

same_fault : {A : Type 0} (x y : Fault × List Token) (r : Reads A) → r ≡ Err x → r ≡ Err y → x.0 ≡ y.0
same_fault x y r p q = let e : Err x ≡ Err y = sym p ∙ q in let same : x ≡ y = cc in ap (λ z. z.0) same

same_left : (c d : Construct) → LeftOut c ≡ LeftOut d → c ≡ d
same_left c d e = cc

not_left : (c : Construct) → Unexpected ≡ LeftOut c → ⊥
not_left c e = cc

-- these tokens are refused so, and no other construct could be why
pub record Refuses (ts : List Token) (f : Fault) (line : ℕ) : Type 0 where
  pub is : RefusedAt ts f line
  pub alone : (c d : Construct) → f ≡ LeftOut c → BeginsWith d (is.front ++ is.token ∷ []) → c ≡ d

always : (f : Fault) → Stays 0 f
always Unexpected = tt
always (LeftOut c) = tt
always Deep = refl

module _ (ts : List Token) (h : EndsOnce ts) (f : Fault) (rest : List Token)
    (e : body_more (statements_at (length ts) 99) (length ts) [] ts ≡ Err (f, rest)) where
  stop : (w y : ℕ) → Stopped y [] ts (body_more (statements_at (more w (length ts)) (more y 99)) (more w (length ts))
      []) f rest
  stop w y = (subst (Told y [] ts (body_more (statements_at (more w (length ts)) (more y 99)) (more w (length ts)) [])
      Taken) e (told_body w y ts h)).tells

  abbrev front : List Token
  front = (stop 0 0).front

  same_front : (w y : ℕ) → (stop w y).front ≡ front
  same_front w y = cancel ((stop w y).front) front rest (sym (stop w y).split ∙ (stop 0 0).split)

  again : (w y : ℕ) (us : List Token) → SameFirst rest us → Stays y f →
      body_more (statements_at (more w (length ts)) (more y 99)) (more w (length ts)) [] (front ++ us) ≡ Err (f, us)
  again w y us s z = ap (λ q. body_more (statements_at (more w (length ts)) (more y 99)) (more w (length ts)) []
      (q ++ us)) (sym (same_front w y)) ∙ (stop w y).same us s z

  module _ (t : Token) (us : List Token) (r : rest ≡ t ∷ us) where
    reads_it : {x : Marks} {ss : List Stmt} (y : ℕ) (more' : List Token) → Body x ss ((front ++ t ∷ []) ++ more') →
        slack x + talls ss ≤ more y 99 → Stays y f →
        (body_more (statements_at (more (length (front ++ t ∷ more')) (length ts)) (more y 99))
        (more (length (front ++ t ∷ more')) (length ts)) [] (front ++ t ∷ more') ≡ Err (f, t ∷ more')) ×
        Reaches x (body_more (statements_at (more (length (front ++ t ∷ more')) (length ts)) (more y 99))
        (more (length (front ++ t ∷ more')) (length ts)) [] (front ++ t ∷ more')) ([] ++ ss) []
    reads_it {x = x} {ss = ss} y more' p i z =
        let n = length (front ++ t ∷ more') in let big : n ≤ more n (length ts) =
        omega (arith, more_is n (length ts)) in (
          again n y (t ∷ more') (subst (λ q. SameFirst q (t ∷ more')) (sym r) refl) z,
          complete_body (subst (Body x ss) (append_assoc front (t ∷ []) more') p) (more n (length ts)) (more y 99)
              (more n (length ts)) [] big big i,
        )

    none_with : (y : ℕ) → Stays y f → (d : ℕ) → d ≤ more y 99 + 1 → Begins d (front ++ t ∷ []) → ⊥
    none_with y z d i b =
        let q = reads_it y b.1 b.2 (omega (arith, b.3, module_tall b.0, i)) z in
        elim q.1 [ inl ok ↦ err_ok _ _ _ q.0 ok | inr bad ↦ no (sym (ap is_some bad.2)) ]

    before : Begins 100 front
    before = let o = (stop 0 0).before in let m : Module = record { body = o.body } in
        (m, o.more, o.spells, omega (arith, o.fits refl, module_tall m))

    beyond_any : Opens any ((stop 0 0).front ++ t ∷ []) → (d : ℕ) × Begins d (front ++ t ∷ [])
    beyond_any o = let m : Module = record { body = o.body } in (tall_module m, (m, o.more, o.spells, omega arith))

    -- Where the height isn't why, a construct with which some module begins so is why: reading stops at its mark,
    -- whatever follows.
    reason : (c : Construct) → BeginsWith c (front ++ t ∷ []) → ((y : ℕ) → Stays y f) → f ≡ LeftOut c
    reason c b stays =
        let d = suc (talls b.0) in
        let i : slack (Some c) + talls b.0 ≤ more d 99 = omega (arith, more_is d 99) in
        let w = reads_it d b.1 b.2 i (stays d) in
        elim w.1 [
          | inl ok ↦ absurd (err_ok _ _ _ w.0 ok)
          | inr bad ↦
              at_mark bad.0 bad.2 (same_fault (f, t ∷ b.1) (LeftOut bad.0, bad.1) _ w.0 bad.3)
        ]
      where
        at_mark : (e : Construct) → Some c ≡ Some e → f ≡ LeftOut e → f ≡ LeftOut c
        at_mark e p q = let same : e ≡ c = cc in q ∙ ap (λ z. LeftOut z) same

    because : Because f (front ++ t ∷ [])
    because = go f refl
      where
        more_room : (d : ℕ) → d ≤ more d 99 + 1
        more_room d = omega (arith, more_is d 99)

        none : (d : ℕ) → Stays d f → Begins d (front ++ t ∷ []) → ⊥
        none d z b = none_with d z d (more_room d) b

        go : (g : Fault) → f ≡ g → Because g (front ++ t ∷ [])
        go Deep q = beyond_any (subst (λ z. Beyond z ((stop 0 0).front ++ t ∷ [])) q ((stop 0 0).beyond t us r))
        go (LeftOut c) q = (
          (λ d. none d (subst (Stays d) (sym q) tt)),
          let o =
              subst (λ z. Beyond z ((stop 0 0).front ++ t ∷ [])) q ((stop 0 0).beyond t us r) in
              (o.body, o.more, o.spells),
        )
        go Unexpected q = (
          (λ d. none d (subst (Stays d) (sym q) tt)),
          λ c b.
              not_left c (sym q ∙ reason c b (λ y. subst (Stays y) (sym q) tt)),
        )

    refused_there : Refuses ts f (line_of rest)
    refused_there = record {
      is = record {
        front = front;
        token = t;
        rest = us;
        split = (stop 0 0).split ∙ ap (λ z. front ++ z) r;
        line_is =
            ap line_of r;
        before = before;
        here = none_with 0 (always f) 100 (omega arith);
        because = because;
      };
      alone = λ c d q b. same_left c d (sym q ∙ reason d b (λ y. subst (Stays y) (sym q) tt));
    }

  -- All tokens are never taken.
  not_none : rest ≡ [] → ⊥
  not_none r =
      let same : ts ≡ front = (stop 0 0).split ∙ ap (λ z. front ++ z) r ∙ append-nil front in
      let o = (stop 0 0).before in closed same o.body o.more o.spells (omega (arith, o.fits refl))
    where
      no_more : (same : ts ≡ front) (ss : List Stmt) (more' : List Token) → Body None ss (front ++ more') → more' ≡ []
      no_more same ss more' p = let l = body_front p in ends_more front more' l.0 l.1 (subst EndsOnce same h) l.3 l.2

      closed : (same : ts ≡ front) (ss : List Stmt) (more' : List Token) → Body None ss (front ++ more') →
          talls ss ≤ 99 → ⊥
      closed same ss more' p i =
          let q : Body None ss ts = subst (Body None ss) (ap (λ z. front ++ z) (no_more same ss more' p) ∙
          append-nil front ∙ sym same) p in
          elim (complete_body q (length ts) 99 (length ts) [] (omega arith) (omega arith) (omega (arith, i)))
          [ inl ok ↦ err_ok _ _ _ e ok | inr bad ↦ no (sym (ap is_some bad.2)) ]

refused_by : (ts : List Token) (h : EndsOnce ts) (f : Fault) (rest : List Token) →
    body_more (statements_at (length ts) 99) (length ts) [] ts ≡ Err (f, rest) → Refuses ts f (line_of rest)
refused_by ts h f [] e = absurd (not_none ts h f [] e refl)
refused_by ts h f (t ∷ us) e = refused_there ts h f (t ∷ us) e t us refl

pub refuses : (ts : List Token) (f : Fault) (rest : List Token) → EndsOnce ts →
    module_at (length ts) ts ≡ Err (f, rest) → Refuses ts f (line_of rest)
unfolding module_at
refuses ts f rest h e = refused_by ts h f rest (go (body_more (statements_at (length ts) 99) (length ts) [] ts) e)
  where
    fault_of : Reads Module → Fault × List Token
    fault_of (Err x) = x
    fault_of (Ok x) = (f, rest)

    wrong : (x : Module × List Token) → ◌≡◌ {A = Reads Module} (Ok x) (Err (f, rest)) → ⊥
    wrong x q = cc

    go : (r : Reads (List Stmt)) → ◌≡◌ {A = Reads Module} (r >>= λ b. Ok (record { body = b.0 }, b.1)) (Err (f, rest))
        → r ≡ Err (f, rest)
    go (Ok x) q = absurd (wrong _ q)
    go (Err x) q = ap (λ z. Err z) (ap fault_of q)

pub refused : (ts : List Token) (f : Fault) (rest : List Token) → EndsOnce ts →
    module_at (length ts) ts ≡ Err (f, rest) → RefusedAt ts f (line_of rest)
refused ts f rest h e = (refuses ts f rest h e).is

-- a list of tokens has at most one tree
pub unique : (ts : List Token) (m n : Module) → IsModule m ts → IsModule n ts → m ≡ n
unique ts m n p q =
    let d = max (talls m.body) (talls n.body) in
    let a = read_body (complete_body p (length ts) d (length ts) [] (omega arith) (omega arith) (omega arith)) in
    let b = read_body (complete_body q (length ts) d (length ts) [] (omega arith) (omega arith) (omega arith)) in
    ap (λ z. record { body = z }) (ap (body_or m.body) (sym a ∙ b))
  where
    read_body : {r : Reads (List Stmt)} {v : List Stmt} → Reaches None r v [] → r ≡ Ok (v, [])
    read_body (inl p) = p
    read_body (inr p) = no (sym (ap is_some p.2))

    body_or : List Stmt → Reads (List Stmt) → List Stmt
    body_or ss (Ok x) = x.0
    body_or ss (Err x) = ss
