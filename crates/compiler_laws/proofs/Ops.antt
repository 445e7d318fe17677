-- The instructions between their shapes.
use Rattle.std.proofs.Common.{◌≡◌, ℕ, ◌+◌, ◌-◌, ◌<◌, ◌≤◌, ◌^◌, List, ◌∷◌, Some, refl, sym, ap, ◌∙◌, subst, arith}
use Rattle.py_code.specs.declared.instr.Instr.{Instr}
use Rattle.py_code.specs.declared.instr.Instr.TheVariants.{LoadLocal, StoreLocal, Pop, Jump, JumpFalse, KeepFalse, KeepTrue, Next, Return, Try, PopTry, Raise}
use Rattle.py_code.specs.Effects.{Limits, effect, On, Fork, Sh, there, after, target_of, floor_of, blocks_after, HasBlock, IsKnown}
use Rattle.py_templates.proofs.Typed.{Goes, Jumps}

abbrev pub sh : ℕ → List ℕ → Sh
sh h bs = record { height = h; blocks = bs }

module _ (k : Limits) where
  pub op : (i : Instr) (h h' : ℕ) (bs : List ℕ) → (effect k i).flow ≡ On → IsKnown k i →
      floor_of bs + (effect k i).pops ≤ h → h + (effect k i).pushes + 1 < 2 ^ 32 →
      h - (effect k i).pops + (effect k i).pushes ≡ h' → Goes k i (sh h bs) (sh h' bs)
  op i h h' bs ef kn le room eh = record {
    fine = record { operands = le; room = room; block = subst (λ f. HasBlock f bs) (sym ef) tt; known = kn };
    stays = ap target_of ef;
    next = λ e. ap (λ f. sh (h - (effect k i).pops + (effect k i).pushes) (blocks_after f h bs)) ef ∙
        ap (λ x. sh x bs) eh;
  }

  pub load_op : (x h : ℕ) (bs : List ℕ) → x < k.slots → floor_of bs ≤ h → h + 2 < 2 ^ 32 →
      Goes k (LoadLocal x) (sh h bs) (sh (h + 1) bs)
  load_op x h bs kn le room = op (LoadLocal x) h (h + 1) bs refl kn (omega (arith, le)) (omega (arith, room))
      (omega arith)

  pub store_op : (x h : ℕ) (bs : List ℕ) → x < k.slots → floor_of bs ≤ h → h + 2 < 2 ^ 32 →
      Goes k (StoreLocal x) (sh (h + 1) bs) (sh h bs)
  store_op x h bs kn le room = op (StoreLocal x) (h + 1) h bs refl kn (omega (arith, le)) (omega (arith, room))
      (omega arith)

  pub pop_op : (h : ℕ) (bs : List ℕ) → floor_of bs ≤ h → h + 2 < 2 ^ 32 → Goes k Pop (sh (h + 1) bs) (sh h bs)
  pop_op h bs le room = op Pop (h + 1) h bs refl tt (omega (arith, le)) (omega (arith, room)) (omega arith)

  pub pop_try_op : (h : ℕ) (bs : List ℕ) → h + 1 < 2 ^ 32 → Goes k PopTry (sh h (h ∷ bs)) (sh h bs)
  pop_try_op h bs room = record {
    fine =
        record { operands = omega arith; room = omega (arith, room); block = tt; known = tt };
    stays = refl;
    next = λ e.
        let q : h - 0 + 0 ≡ h = omega arith in ap (λ x. sh x bs) q;
  }

  -- the shape behind an end is free
  pub raise_op : (h : ℕ) (bs : List ℕ) (s : Sh) → floor_of bs ≤ h → h + 2 < 2 ^ 32 → Goes k Raise (sh (h + 1) bs) s
  raise_op h bs s le room = record {
    fine =
        record { operands = omega (arith, le); room = omega (arith, room); block = tt; known = tt };
    stays = refl;
    next =
        λ e. cc;
  }

  pub return_op : (h : ℕ) (bs : List ℕ) (s : Sh) → floor_of bs ≤ h → h + 2 < 2 ^ 32 → Goes k Return (sh (h + 1) bs) s
  return_op h bs s le room = record {
    fine =
        record { operands = omega (arith, le); room = omega (arith, room); block = tt; known = tt };
    stays = refl;
    next =
        λ e. cc;
  }

  pub jump_op : (h : ℕ) (bs : List ℕ) (s : Sh) → floor_of bs ≤ h → h + 1 < 2 ^ 32 → Jumps k Jump (sh h bs) (sh h bs) s
  jump_op h bs s le room = record {
    fine = λ q.
        record { operands = omega (arith, le); room = omega (arith, room); block = tt; known = tt };
    to = λ q r e.
        (cc, let w : h - 0 + 0 ≡ h = omega arith in ap (λ x. sh x bs) w);
    next = λ q e. cc;
  }

  -- a test: it takes the top; there, n values more
  pub fork_op : (j : ℕ → Instr) (a n h low : ℕ) (bs : List ℕ) → ((q : ℕ) → (effect k (j q)).flow ≡ Fork q n) →
      ((q : ℕ) → (effect k (j q)).pops ≡ 1) → ((q : ℕ) → (effect k (j q)).pushes ≡ a) → ((q : ℕ) → IsKnown k (j q)) →
      h ≡ low + 1 → floor_of bs ≤ low → low + a + 2 < 2 ^ 32 → Jumps k j (sh h bs) (sh (low + n) bs) (sh (low + a) bs)
  fork_op j a n h low bs ef ep eu kn eh le room = record {
    fine = λ q. record {
      operands = omega (arith, le, ep q, eh);
      room = omega (arith, room, eu q, eh);
      block =
          subst (λ f. HasBlock f bs) (sym (ef q)) tt;
      known = kn q;
    };
    to = λ q r e. (fork_to q r (ap target_of (sym (ef q)) ∙ e), fork_there q);
    next = λ q e. fork_next q;
  }
    where
      fork_to : (q r : ℕ) → target_of (Fork q n) ≡ Some r → q ≡ r
      fork_to q r e = cc

      low_is : (q : ℕ) → h - (effect k (j q)).pops ≡ low
      low_is q = omega (arith, ep q, eh)

      fork_there : (q : ℕ) → there (effect k (j q)) (sh h bs) ≡ sh (low + n) bs
      fork_there q = let z : h - (effect k (j q)).pops + n ≡ low + n = omega (arith, low_is q) in
          rw (ef q) (ap (λ x. sh x bs) z)

      fork_next : (q : ℕ) → after (effect k (j q)) (sh h bs) ≡ sh (low + a) bs
      fork_next q = let z : h - (effect k (j q)).pops + (effect k (j q)).pushes ≡ low + a =
          omega (arith, low_is q, eu q) in rw (ef q) (ap (λ x. sh x bs) z)

  pub jump_false : (h : ℕ) (bs : List ℕ) → floor_of bs ≤ h → h + 2 < 2 ^ 32 →
      Jumps k JumpFalse (sh (h + 1) bs) (sh h bs) (sh h bs)
  jump_false h bs le room = let z : h + 0 ≡ h = omega arith in
      subst (λ x. Jumps k JumpFalse (sh (h + 1) bs) (sh x bs) (sh x bs)) z
      (fork_op JumpFalse 0 0 (h + 1) h bs (λ q. refl) (λ q. refl) (λ q. refl) (λ q. tt) refl le (omega (arith, room)))

  pub keep_false : (h : ℕ) (bs : List ℕ) → floor_of bs ≤ h → h + 2 < 2 ^ 32 →
      Jumps k KeepFalse (sh (h + 1) bs) (sh (h + 1) bs) (sh h bs)
  keep_false h bs le room = let z : h + 0 ≡ h = omega arith in
      subst (λ x. Jumps k KeepFalse (sh (h + 1) bs) (sh (h + 1) bs) (sh x bs)) z
      (fork_op KeepFalse 0 1 (h + 1) h bs (λ q. refl) (λ q. refl) (λ q. refl) (λ q. tt) refl le (omega (arith, room)))

  pub keep_true : (h : ℕ) (bs : List ℕ) → floor_of bs ≤ h → h + 2 < 2 ^ 32 →
      Jumps k KeepTrue (sh (h + 1) bs) (sh (h + 1) bs) (sh h bs)
  keep_true h bs le room = let z : h + 0 ≡ h = omega arith in
      subst (λ x. Jumps k KeepTrue (sh (h + 1) bs) (sh (h + 1) bs) (sh x bs)) z
      (fork_op KeepTrue 0 1 (h + 1) h bs (λ q. refl) (λ q. refl) (λ q. refl) (λ q. tt) refl le (omega (arith, room)))

  pub next_op : (h : ℕ) (bs : List ℕ) → floor_of bs ≤ h → h + 4 < 2 ^ 32 →
      Jumps k Next (sh (h + 1) bs) (sh h bs) (sh (h + 1 + 1) bs)
  next_op h bs le room = let z : h + 0 ≡ h = omega arith in let y : h + 2 ≡ h + 1 + 1 = omega arith in
      subst (λ x. Jumps k Next (sh (h + 1) bs) (sh x bs) (sh (h + 1 + 1) bs)) z
      (subst (λ x. Jumps k Next (sh (h + 1) bs) (sh (h + 0) bs) (sh x bs)) y
      (fork_op Next 2 0 (h + 1) h bs (λ q. refl) (λ q. refl) (λ q. refl) (λ q. tt) refl le (omega (arith, room))))

  pub try_op : (h : ℕ) (bs : List ℕ) → floor_of bs ≤ h → h + 1 < 2 ^ 32 →
      Jumps k Try (sh h bs) (sh (h + 1) bs) (sh h (h ∷ bs))
  try_op h bs le room = record {
    fine = λ q.
        record { operands = omega (arith, le); room = omega (arith, room); block = tt; known = tt };
    to = λ q r e.
        (cc, let w : h - 0 + 1 ≡ h + 1 = omega arith in ap (λ x. sh x bs) w);
    next = λ q e. let w : h - 0 + 0 ≡ h =
        omega arith in ap (λ x. sh x (h ∷ bs)) w;
  }
