-- Lines that are taken one after another make a script.
use Rattle.std.proofs.Common.{◌≡◌, ◌≢◌, ℕ, zero, suc, ◌+◌, ◌-◌, ◌≤◌, Bool, true, false, cond, ◌==◌, List, [], ◌∷◌, ◌++◌, length, length-append, take, drop, Option, Some, None, IfSome, Result, Ok, Err, IfErr, refl, sym, ap, subst, ◌∙◌, arith, append_assoc}
use Rattle.std.specs.Result.{IsErrAnd}
use Rattle.std.specs.Io.BufRead.{take_through}
use Rattle.std.proofs.Math.Seq.{drop-append-add, drop-append_seam}
use Rattle.py_data.specs.World.{counted, ends_after, line_of, IsLine, shrunk}
use Rattle.stm_io.specs.Outside.{SourceState, Rose, TakeStops}
use Rattle.stm_io.specs.declared.error.TakeError.{TakeError}
use Rattle.stm_io.specs.declared.error.TakeError.TheVariants.{Failed, OutOfMemory}
use Rattle.stm_top.specs.Script.{TakenFrom, TakenSoFar, ScriptTaken, TakingFailed, TakingWanted, TakingStopped}

-- ---- a line is a front of what is left
through_front : (b : ℕ) (xs : List ℕ) → (rest : List ℕ) × (xs ≡ take_through b xs ++ rest)
through_front b [] = ([], refl)
through_front b (x ∷ xs) = one_or_more (x == b) b x xs (through_front b xs)
  where
    one_or_more : (t : Bool) (b x : ℕ) (xs : List ℕ) → ((rest : List ℕ) × (xs ≡ take_through b xs ++ rest)) →
        (rest : List ℕ) × (x ∷ xs ≡ cond t (x ∷ []) (x ∷ take_through b xs) ++ rest)
    one_or_more true b x xs f = (xs, refl)
    one_or_more false b x xs f = (f.0, ap (λ z. x ∷ z) f.1)

front_of : (n : ℕ) (xs : List ℕ) → take n xs ++ drop n xs ≡ xs
front_of zero xs = refl
front_of (suc n) [] = refl
front_of (suc n) (x ∷ xs) = ap (λ z. x ∷ z) (front_of n xs)

line_front : (most : ℕ) (xs : List ℕ) → (rest : List ℕ) × (xs ≡ line_of most xs ++ rest)
line_front most xs =
    let f = through_front 10 (take most xs) in (
      f.0 ++ drop most xs,
      sym (front_of most xs) ∙ ap (λ z. z ++ drop most xs) f.1 ∙
          append_assoc (line_of most xs) f.0 (drop most xs),
    )

-- an empty line of what is left means that nothing is
nothing_more : (most : ℕ) (xs : List ℕ) → 1 ≤ most → line_of most xs ≡ [] → xs ≡ []
nothing_more most [] p e = refl
nothing_more zero (x ∷ xs) p e = absurd (omega arith)
nothing_more (suc most) (x ∷ xs) p e = absurd (some (x == 10) e)
  where
    some : (t : Bool) → cond t (x ∷ []) (x ∷ take_through 10 (take most xs)) ≡ [] → ⊥
    some true e = cc
    some false e = cc

-- ---- a line more
taken_line : (told : Option (List ℕ)) (bytes l : List ℕ) (now next : Option (List ℕ)) (most : ℕ) →
    TakenFrom told bytes now → IsLine now most l → next ≡ shrunk now (length l) → TakenFrom told (bytes ++ l) next
taken_line None bytes l now next most t i e = e ∙ ap (λ z. shrunk z (length l)) t
taken_line (Some xs) bytes l now next most t i e =
    let rest = t.0 in
    let line : l ≡ line_of most rest = subst (λ z. IsLine z most l) t.1 i in
    let f = line_front most rest in
    let g : rest ≡ l ++ f.0 = f.1 ∙ ap (λ z. z ++ f.0) (sym line) in (
      f.0,
      e ∙ ap (λ z. shrunk z (length l)) t.1 ∙ ap Some (ap (λ z. drop (length l) z) g ∙ drop-append_seam l f.0),
      t.2 ∙ ap (λ z. bytes ++ z) g ∙ sym (append_assoc bytes l f.0),
    )

pub one_line_more : (bytes l : List ℕ) (a s u : SourceState) (most : ℕ) → TakenSoFar bytes a s → IsLine s.told most l →
    u.told ≡ shrunk s.told (length l) → u.ends ≡ ends_after l s.ends → s.faults ≤ u.faults → l ≢ [] →
    TakenSoFar (bytes ++ l) a u
one_line_more bytes [] a s u most t i e n f h = absurd (h refl)
one_line_more bytes (x ∷ xs) a s u most t i e n f h = record {
  taken = taken_line a.told bytes (x ∷ xs) s.told u.told most t.taken i e;
  ends = n ∙ t.ends;
  faults = let y = t.faults in omega (arith, y, f);
}

left_none : (now next : Option (List ℕ)) (most : ℕ) → 1 ≤ most → IsLine now most [] → next ≡ shrunk now 0 →
    IfSome next (λ rest. rest ≡ [])
left_none None next most p i e = subst (λ z. IfSome z (λ rest. rest ≡ [])) (sym e) tt
left_none (Some xs) next most p i e = subst (λ z. IfSome z (λ rest. rest ≡ [])) (sym e) (nothing_more most xs p (sym i))

taken_still : (told : Option (List ℕ)) (bytes : List ℕ) (now next : Option (List ℕ)) → TakenFrom told bytes now →
    next ≡ shrunk now 0 → TakenFrom told bytes next
taken_still None bytes now next t e = e ∙ ap (λ z. shrunk z 0) t
taken_still (Some xs) bytes now next t e = (t.0, e ∙ ap (λ z. shrunk z 0) t.1, t.2)

pub room_more : (s l n : ℕ) → s ≤ 4194304 → l ≤ 4194305 - s → n ≡ s + l → n ≤ 4194305
room_more s l n a b e = omega (arith, a, b, e)

pub at_the_end : (bytes l : List ℕ) (a s u : SourceState) (most : ℕ) → TakenSoFar bytes a s → length bytes ≤ 4194304 →
    l ≡ [] → 1 ≤ most → IsLine s.told most l → u.told ≡ shrunk s.told (length l) → u.ends ≡ ends_after l s.ends →
    s.faults ≤ u.faults → ScriptTaken bytes a u
at_the_end bytes [] a s u most t b h p i e n f = record {
  short = b;
  taken = taken_still a.told bytes s.told u.told t.taken e;
  nothing_left = left_none s.told u.told most p i e;
  ends = n ∙ ap counted t.ends;
  faults = let y = t.faults in omega (arith, y, f);
}
at_the_end bytes (x ∷ xs) a s u most t b h p i e n f = absurd (let q : x ∷ xs ≡ [] = h in cc)

-- ---- a failure
gone_more : (told : Option (List ℕ)) (bytes : List ℕ) (now next : Option (List ℕ)) (k : ℕ) → TakenFrom told bytes now →
    next ≡ shrunk now k → next ≡ shrunk told (length bytes + k)
gone_more None bytes now next k t e = e ∙ ap (λ z. shrunk z k) t
gone_more (Some xs) bytes now next k t e =
    e ∙ ap (λ z. shrunk z k) t.1 ∙ ap Some (sym (drop-append-add bytes t.0 k)) ∙
    ap (λ z. Some (drop (length bytes + k) z)) (sym t.2)

-- it rose from an earlier number too, which isn't higher
pub rose_earlier : (a b c : ℕ) → a ≤ b → Rose b c → Rose a c
rose_earlier a b c p r = omega (arith, p, r)

failed_there : (bytes : List ℕ) (a s u : SourceState) → TakenSoFar bytes a s → TakeStops Failed s u → TakingFailed a u
failed_there bytes a s u t h = record {
  gone = length bytes + h.0.0;
  told = gone_more a.told bytes s.told u.told h.0.0 t.taken h.0.1;
  ends = h.1 ∙ t.ends;
  rose = rose_earlier a.faults s.faults u.faults t.faults h.2;
}

-- ---- want of memory
wanted_there : (bytes : List ℕ) (a s u : SourceState) → length bytes ≤ 4194305 → TakenSoFar bytes a s →
    TakeStops OutOfMemory s u → s.faults ≤ u.faults → TakingWanted a u
wanted_there bytes a s u b t h f = record {
  bytes = bytes;
  short = b;
  so_far = record {
    taken = subst (λ z. TakenFrom a.told bytes z) (sym h.0) t.taken;
    ends = h.1 ∙ t.ends;
    faults = let y = t.faults in omega (arith, y, f);
  };
}

pub stopped_there : (e : TakeError) (bytes : List ℕ) (a s u : SourceState) → length bytes ≤ 4194305 →
    TakenSoFar bytes a s → TakeStops e s u → s.faults ≤ u.faults → TakingStopped e a u
stopped_there Failed bytes a s u b t h f = failed_there bytes a s u t h
stopped_there OutOfMemory bytes a s u b t h f = wanted_there bytes a s u b t h f

-- a call that ends so
pub ends_so : {A : Type 0} (result : Result A TakeError) (e : TakeError) (a u : SourceState) → TakingStopped e a u →
    IsErrAnd result (λ x. x ≡ e) → IfErr result (λ x. TakingStopped x a u)
ends_so (Ok t) e a u s h = tt
ends_so (Err x) e a u s h = subst (λ z. TakingStopped z a u) (sym h) s

-- a line was taken, and there was no room for it
pub no_room : (bytes l : List ℕ) (a s u : SourceState) (most : ℕ) → TakenSoFar bytes a s → length bytes ≤ 4194304 →
    length l ≤ 4194305 - length bytes → IsLine s.told most l → u.told ≡ shrunk s.told (length l) →
    u.ends ≡ ends_after l s.ends → s.faults ≤ u.faults → l ≢ [] → TakingStopped OutOfMemory a u
no_room bytes l a s u most t b n i e z f h = record {
  bytes = bytes ++ l;
  short = room_more (length bytes) (length l) (length (bytes ++ l)) b n (length-append bytes l);
  so_far = one_line_more bytes l a s u most t i e z f h;
}

nothing_taken : (told : Option (List ℕ)) → TakenFrom told [] told
nothing_taken None = refl
nothing_taken (Some xs) = (xs, refl, refl)

pub at_first : (a : SourceState) → TakenSoFar [] a a
at_first a = record { taken = nothing_taken a.told; ends = refl; faults = omega arith }
