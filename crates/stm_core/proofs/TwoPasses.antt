-- The two passes of a commit are moves.
use Rattle.std.proofs.Common.{◌≡◌, ◌≢◌, ◌≤◌, ℕ, true, false, cond, eqb, List, [], ◌∷◌, ◌++◌, Option, Some, None, refl, sym, ◌∙◌, ap, subst, inl, inr, arith, All}
use Rattle.std.proofs.lemmas.List.Elements.{All-append, All-cons, All-nil}
use Rattle.std.proofs.lemmas.Bool.{cases_Bool, both_ways, or_cases, or_right, or_left, eqb-true, eqb-false, eq-eqb, ne_eqb, cond-true, cond-false}
use Rattle.py_data.specs.Heap.{Marks}
use Rattle.py_data.specs.Sight.{mem}
use Rattle.lock_run.specs.Prog.{Prog}
use Rattle.lock_run.specs.Machine.{Machine}
use Rattle.stm_segment.specs.CoreState.{Transaction, Segment, Idle, Doomed, Running, CoreState, with_segment, with_conflict}
use Rattle.stm_segment.specs.Conflict.{conflict, wins, IsStanding}
use Rattle.stm_core.specs.Good.{Good}
use Rattle.stm_core.specs.Moves.{Move, Dooms, Commits, Next, Follows}
use Rattle.stm_core.specs.Advanced.{IsOwn}
use Rattle.stm_core.specs.Passes.{met, doom_met, doom_one, doom_readers, after_commit, NoneWins}
use Rattle.stm_core.proofs.Kept.{set_cases, good_after}

-- the dooms of the second pass
pub record Clears {S : Type 0} (c : Prog S) (most i : ℕ) (x : Transaction S) (js : List ℕ) (k k' : CoreState S) : Type
    0 where
  pub moves : List (Move S)
  pub follows : Follows c most k moves k'
  pub own : All (IsOwn i) moves
  pub mine : k'.segments i ≡ Running x
  pub fewer : (j : ℕ) (y : Transaction S) → k'.segments j ≡ Running y → k.segments j ≡ Running y
  pub unread : (j : ℕ) (y : Transaction S) → mem j js ≡ true → j ≢ i → k'.segments j ≡ Running y →
      met x.changed y.looked ≡ None

pub met_some : (rest : List ℕ) (m : Marks) (a : ℕ) → met rest m ≡ Some a → (mem a rest ≡ true) × (m a ≡ true)
met_some [] m a e = absurd cc
met_some (b ∷ rest) m a e = elim (cases_Bool (m b)) [
  | inl y ↦ let same : b ≡ a = let p : cond (m b) (Some b) (met rest m) ≡ Some b =
      cond-true (m b) (Some b) (met rest m) y in cc in
      (or_left (eqb a b) (mem a rest) (eq-eqb a b (sym same)), subst (λ n. m n ≡ true) same y)
  | inr n ↦ let r = met_some rest m a (sym (cond-false (m b) (Some b) (met rest m) n) ∙ e) in
      (or_right (eqb a b) (mem a rest) r.0, r.1)
]

pub met_none : (rest : List ℕ) (m : Marks) (a : ℕ) → met rest m ≡ None → mem a rest ≡ true → m a ≡ false
met_none [] m a e h = absurd (both_ways false refl h)
met_none (b ∷ rest) m a e h = elim (cases_Bool (m b)) [
  | inl y ↦ absurd (let p : cond (m b) (Some b) (met rest m) ≡ Some b = cond-true (m b) (Some b) (met rest m) y in cc)
  | inr n ↦ elim (or_cases (eqb a b) (mem a rest) h) [
    | inl y ↦ subst (λ z. m z ≡ false) (sym (eqb-true a b y)) n
    | inr y ↦ met_none rest m a (sym (cond-false (m b) (Some b) (met rest m) n) ∙ e) y
  ]
]

pub follows_append : {S : Type 0} (c : Prog S) (most : ℕ) (k u v : CoreState S) (ms ns : List (Move S)) →
    Follows c most k ms u → Follows c most u ns v → Follows c most k (ms ++ ns) v
follows_append c most k u v [] ns f g = subst (λ w. Follows c most w ns v) f g
follows_append c most k u v (m ∷ ms) ns f g = (f.0, f.1, follows_append c most f.0 u v ms ns f.2 g)

-- one slot
clears_one : {S : Type 0} (c : Prog S) (most i : ℕ) (x : Transaction S) (j : ℕ) (k : CoreState S) →
    k.segments i ≡ Running x → NoneWins i x k → j ≢ i → (s : Segment S) → k.segments j ≡ s →
    Clears c most i x (j ∷ []) k (doom_one i x j k s)
clears_one {S} c most i x j k mine wins ne Idle is = record {
  moves = [];
  follows = refl;
  own = All-nil (IsOwn i);
  mine = mine;
  fewer = λ l y e. e;
  unread = λ l y m d e. elim (or_cases (eqb l j) false m) [
    | inl h ↦ absurd (let p : Idle ≡ Running y = sym is ∙ (ap k.segments (sym (eqb-true l j h)) ∙ e) in cc)
    | inr h ↦ absurd (both_ways false refl h)
  ];
}
clears_one {S} c most i x j k mine wins ne (Doomed f) is = record {
  moves = [];
  follows = refl;
  own = All-nil (IsOwn i);
  mine = mine;
  fewer = λ l y e. e;
  unread = λ l y m d e. elim (or_cases (eqb l j) false m) [
    | inl h ↦ absurd (let p : Doomed f ≡ Running y = sym is ∙ (ap k.segments (sym (eqb-true l j h)) ∙ e) in cc)
    | inr h ↦ absurd (both_ways false refl h)
  ];
}
clears_one {S} c most i x j k mine wins ne (Running z) is = go (met x.changed z.looked) refl
  where
    go : (o : Option ℕ) → met x.changed z.looked ≡ o → Clears c most i x (j ∷ []) k (doom_met i x j z k o)
    go None e = record {
      moves = [];
      follows = refl;
      own = All-nil (IsOwn i);
      mine = mine;
      fewer = λ l y h. h;
      unread = λ l y m d h. elim (or_cases (eqb l j) false m) [
        | inl q ↦ let same : z ≡ y = (let p : Running z ≡ Running y = sym is ∙
            (ap k.segments (sym (eqb-true l j q)) ∙ h) in cc) in
            subst (λ (r : Transaction S). met x.changed r.looked ≡ None) same e
        | inr q ↦ absurd (both_ways false refl q)
      ];
    }
    go (Some a) e =
        let f = conflict i x j z a false 1 in
        let r = met_some x.changed z.looked a e in
        let stands : IsStanding c k f = record {
          x = x;
          y = z;
          writes = mine;
          reads = is;
          is = refl;
          differ = λ q.
              ne (sym q);
          held = r.0;
          met = r.1;
          lost = omega arith;
          loses = wins j z a ne is e;
        } in
        record {
          moves = Dooms f ∷ [];
          follows = (with_conflict f (with_segment j (Doomed f) k), (stands, refl), refl);
          own = All-cons (IsOwn i) (Dooms f) [] tt (All-nil (IsOwn i));
          mine = cond-false (eqb i j) (Doomed f) (k.segments i) (ne_eqb i j (λ q. ne (sym q))) ∙ mine;
          fewer = λ l y h. elim (set_cases j l (Doomed f) (Running y) k.segments h) [
            | inl q ↦ let w = q.1 in absurd cc
            | inr q ↦ q.1
          ];
          unread = λ l y m d h. elim (or_cases (eqb l j) false m) [
            | inl q ↦ elim (set_cases j l (Doomed f) (Running y) k.segments h) [
              | inl p ↦ let w = p.1 in absurd cc
              | inr p ↦ absurd (p.0 (eqb-true l j q))
            ]
            | inr q ↦ absurd (both_ways false refl q)
          ];
        }

pub clears : {S : Type 0} (c : Prog S) (most i : ℕ) (x : Transaction S) (js : List ℕ) (k : CoreState S) →
    k.segments i ≡ Running x → NoneWins i x k → Clears c most i x js k (doom_readers i x js k)
clears c most i x [] k mine wins = record {
  moves = [];
  follows = refl;
  own = All-nil (IsOwn i);
  mine = mine;
  fewer =
      λ j y e. e;
  unread = λ j y m d e. absurd (both_ways false refl m);
}
clears {S} c most i x (j ∷ js) k mine wins =
    let u = cond (eqb j i) k (doom_one i x j k (k.segments j)) in
    let one : Clears c most i x (cond (eqb j i) [] (j ∷ [])) k u = elim (cases_Bool (eqb j i)) [
      | inl y ↦ subst (λ b. Clears c most i x (cond b [] (j ∷ [])) k (cond b k (doom_one i x j k (k.segments j))))
          (sym y)
          (record {
            moves = [];
            follows = refl;
            own = All-nil (IsOwn i);
            mine = mine;
            fewer = λ l z e. e;
            unread =
                λ l z m d e. absurd (both_ways false refl m);
          })
      | inr n ↦ subst (λ b. Clears c most i x (cond b [] (j ∷ [])) k (cond b k (doom_one i x j k (k.segments j))))
          (sym n)
          (clears_one c most i x j k mine wins (eqb-false j i n) (k.segments j) refl)
    ] in
    let rest = clears c most i x js u one.mine (λ l y a d e. wins l y a d (one.fewer l y e)) in
    record {
      moves = one.moves ++ rest.moves;
      follows = follows_append c most k u (doom_readers i x js u) one.moves rest.moves one.follows rest.follows;
      own = All-append (IsOwn i) one.moves rest.moves one.own rest.own;
      mine = rest.mine;
      fewer = λ l y e. one.fewer l y (rest.fewer l y e);
      unread = λ l y m d e. elim (or_cases (eqb l j) (mem l js) m) [
        | inl q ↦ one.unread l y (in_one l q d) d (rest.fewer l y e)
        | inr q ↦ rest.unread l y q d e
      ];
    }
  where
    in_one : (l : ℕ) → eqb l j ≡ true → l ≢ i → mem l (cond (eqb j i) [] (j ∷ [])) ≡ true
    in_one l q d =
        let n : eqb j i ≡ false = ne_eqb j i (λ e. d (eqb-true l j q ∙ e)) in
        ap (mem l) (cond-false (eqb j i) [] (j ∷ []) n) ∙ or_left (eqb l j) false q

-- a commit that no winning reader stands against is moves, and so keeps the core good
pub commit_follows : {S : Type 0} (c : Prog S) (most i : ℕ) (x : Transaction S) (js : List ℕ) (k : CoreState S) →
    k.segments i ≡ Running x → 1 ≤ x.steps → NoneWins i x k
    → ((j : ℕ) (y : Transaction S) → k.segments j ≡ Running y → mem j js ≡ true) →
    (ms : List (Move S)) × Follows c most k ms (after_commit i x js k)
commit_follows {S} c most i x js k is some wins all =
    let r = clears c most i x js k is wins in
    let u = doom_readers i x js k in
    let last : Next c most u (Commits i x) (after_commit i x js k) = (
      r.mine,
      some,
      λ j y d e a m. met_none x.changed y.looked a (r.unread j y (all j y (r.fewer j y e)) d e) m,
      refl,
    ) in (
      r.moves ++ Commits i x ∷ [],
      follows_append c most k u (after_commit i x js k) r.moves (Commits i x ∷ [])
          r.follows (after_commit i x js k, last, refl),
    )

pub commit_good : {S : Type 0} (c : Prog S) (m0 : Machine S) (most i : ℕ) (x : Transaction S) (js : List ℕ)
    (k : CoreState S) → Good c m0 most k → k.segments i ≡ Running x → 1 ≤ x.steps → NoneWins i x k
    → ((j : ℕ) (y : Transaction S) → k.segments j ≡ Running y → mem j js ≡ true) →
    Good c m0 most (after_commit i x js k)
commit_good c m0 most i x js k g is some wins all = let f = commit_follows c most i x js k is some wins all in
    good_after c m0 most k (after_commit i x js k) f.0 g f.1
