-- The names decide what a row does, where the source tells its bytes.
use Rattle.std.proofs.Common.{◌≡◌, inl, inr, ℕ, List, [], ◌∷◌, ◌++◌, length, drop, Option, Some, None, refl, sym, ◌∙◌, ap, subst, append_assoc, append-nil}
use Rattle.py_data.specs.declared.change.Change.{Change}
use Rattle.py_data.specs.Changes.{after}
use Rattle.py_data.specs.Heap.{Rec}
use Rattle.py_data.specs.Row.{Call, Reply, Row, Ret, Do, Read, Find, Edit, Make, Start, Put, Take, MidLine, SetMidLine}
use Rattle.py_data.specs.Shape.{find}
use Rattle.py_data.specs.Sense.{Run, Upto}
use Rattle.py_data.specs.declared.stop.Out.TheVariants.{Output, ErrorOutput}
use Rattle.py_data.specs.Sight.{Sight, Act, Does, Edited, looked_at, edited, made_new, in_world, pure}
use Rattle.py_data.specs.Laws.{IsTold}
use Rattle.py_data.proofs.Whole.{run_steps, upto_steps}
use Rattle.py_data.specs.World.{IsLine, shrunk, took}

-- the names that a call takes
abbrev pub names_of : {S : Type 0} (c : Call S) → Reply c → List ℕ
names_of (Make q) n = n ∷ []
names_of (Read a) r = []
names_of (Find d key) r = []
names_of (Edit a x) r = []
names_of (Start p) r = []
names_of (Put on bytes) r = []
names_of (Take most) r = []
names_of MidLine r = []
names_of (SetMidLine mid) r = []

none_new : {S : Type 0} (s t : Sight S) → t.made ≡ s.made → t.made ≡ s.made ++ []
none_new s t e = e ∙ sym (append-nil s.made)

pub act_made : {S : Type 0} (c : Call S) (s : Sight S) (r : Reply c) (t : Sight S) → Act c s r t →
    t.made ≡ s.made ++ names_of c r
act_made (Read a) s r t d = none_new s t (ap (λ t. t.made) d.1)
act_made (Find a key) s r t d = none_new s t (ap (λ t. t.made) d.4)
act_made (Edit a x) s r t d = none_new s t (ap (λ t. t.made) d.3)
act_made (Make q) s n t d = ap (λ t. t.made) d.1
act_made (Start p) s r t d = none_new s t (ap (λ t. t.made) d)
act_made (Put on bytes) s r t d = none_new s t (ap (λ t. t.made) d)
act_made (Take most) s r t d = none_new s t (ap (λ t. t.made) d.1)
act_made MidLine s r t d = none_new s t (ap (λ t. t.made) d.1)
act_made (SetMidLine mid) s r t d = none_new s t (ap (λ t. t.made) d)

pub does_made : {S A : Type 0} (w : Row S A) (s t : Sight S) (y : A) → Does w s y t →
    (rest : List ℕ) × (t.made ≡ s.made ++ rest)
unfolding Run
does_made (Ret x) s t y d = ([], ap (λ t. t.made) d.1 ∙ sym (append-nil s.made))
does_made (Do c k) s t y d =
    let m = does_made (k d.0) d.1 t y d.3 in (
      names_of c d.0 ++ m.0,
      m.1 ∙ ap (λ l. l ++ m.0) (act_made c s d.0 d.1 d.2) ∙
          append_assoc s.made (names_of c d.0) m.0,
    )

same_first : (xs ys zs : List ℕ) (n m : ℕ) → xs ++ n ∷ ys ≡ xs ++ m ∷ zs → n ≡ m
same_first [] ys zs n m e = cc
same_first (x ∷ xs) ys zs n m e = same_first xs ys zs n m cc

same_new : {S : Type 0} (c : Call S) (r q : Reply c) (xs ys zs : List ℕ) →
    xs ++ (names_of c r ++ ys) ≡ xs ++ (names_of c q ++ zs) → names_of c q ≡ names_of c r
same_new (Make p) n m xs ys zs e = ap (λ a. a ∷ []) (sym (same_first xs ys zs n m e))
same_new (Read a) r q xs ys zs e = refl
same_new (Find d key) r q xs ys zs e = refl
same_new (Edit a x) r q xs ys zs e = refl
same_new (Start p) r q xs ys zs e = refl
same_new (Put on bytes) r q xs ys zs e = refl
same_new (Take most) r q xs ys zs e = refl
same_new MidLine r q xs ys zs e = refl
same_new (SetMidLine mid) r q xs ys zs e = refl

-- the names of a call, of what is done behind it and of what comes after both
names_then : {S : Type 0} (c : Call S) (s : Sight S) (r : Reply c) (m t : Sight S) (more rest : List ℕ) → Act c s r m →
    t.made ≡ m.made ++ more → t.made ++ rest ≡ s.made ++ (names_of c r ++ (more ++ rest))
names_then c s r m t more rest a e =
    ap (λ l. l ++ rest) (e ∙ ap (λ l. l ++ more) (act_made c s r m a) ∙ append_assoc s.made (names_of c r) more) ∙
    append_assoc s.made (names_of c r ++ more) rest ∙ ap (λ l. s.made ++ l) (append_assoc (names_of c r) more rest)

-- two equal records at an address
pub one_rec : (o : Option Rec) (r q : Rec) → o ≡ Some r → o ≡ Some q → q ≡ r
one_rec o r q e f = let g : Some q ≡ Some r = sym f ∙ e in cc

same_edited : {S : Type 0} (a : ℕ) (x : Change) (s t t' : Sight S) → Edited a x s t → Edited a x s t' → t' ≡ t
same_edited a x s t t' d e = e.3 ∙ ap (λ r. edited a (after x r) s) (one_rec (s.heap a) d.0 e.0 d.1 e.1) ∙ sym d.3

same_line : (i : Option (List ℕ)) (bytes l k : List ℕ) (most : ℕ) → i ≡ Some bytes → IsLine i most l →
    IsLine i most k → k ≡ l
same_line (Some xs) bytes l k most e d f = f ∙ sym d
same_line None bytes l k most e d f = cc

first_name : (n m : ℕ) → m ∷ [] ≡ n ∷ [] → m ≡ n
first_name n m e = cc

pub act_same : {S : Type 0} (c : Call S) (s : Sight S) (r q : Reply c) (t t' : Sight S) → IsTold s → Act c s r t →
    Act c s q t' → names_of c q ≡ names_of c r → (q ≡ r) × (t' ≡ t)
act_same (Read a) s r q t t' k d e n = let p = one_rec (s.heap a) r q d.0 e.0 in
    (p, e.1 ∙ ap (λ r. looked_at a r s) p ∙ sym d.1)
act_same (Find a key) s r q t t' k d e n =
    let p = one_rec (s.heap a) d.0 e.0 d.1 e.1 in
    (e.3 ∙ ap (λ r. find s.heap r.values key) p ∙ sym d.3, e.4 ∙ ap (λ r. looked_at a r s) p ∙ sym d.4)
act_same (Edit a x) s r q t t' k d e n = (refl, same_edited a x s t t' d e)
act_same (Make p) s r q t t' k d e n = let x = first_name r q n in (x, e.1 ∙ ap (λ m. made_new m p s) x ∙ sym d.1)
act_same (Start p) s r q t t' k d e n = (refl, e ∙ sym d)
act_same (Put on bytes) s r q t t' k d e n = (refl, e ∙ sym d)
act_same (Take most) s r q t t' k d e n = let x = same_line s.world.input k.bytes r q most k.is d.0 e.0 in
    (x, e.1 ∙ ap (λ l. in_world (took l s.world) s) x ∙ sym d.1)
act_same MidLine s r q t t' k d e n = (e.0 ∙ sym d.0, e.1 ∙ sym d.1)
act_same (SetMidLine mid) s r q t t' k d e n = (refl, e ∙ sym d)

told_by : {S : Type 0} (s t : Sight S) → t.world.input ≡ s.world.input → IsTold s → IsTold t
told_by s t e k = record { bytes = k.bytes; is = e ∙ k.is }

pub act_told : {S : Type 0} (c : Call S) (s : Sight S) (r : Reply c) (t : Sight S) → Act c s r t → IsTold s → IsTold t
act_told (Read a) s r t d k = told_by s t (ap (λ t. t.world.input) d.1) k
act_told (Find a key) s r t d k = told_by s t (ap (λ t. t.world.input) d.4) k
act_told (Edit a x) s r t d k = told_by s t (ap (λ t. t.world.input) d.3) k
act_told (Make q) s n t d k = told_by s t (ap (λ t. t.world.input) d.1) k
act_told (Start p) s r t d k = told_by s t (ap (λ t. t.world.input) d) k
act_told (Put Output bytes) s r t d k = told_by s t (ap (λ t. t.world.input) d) k
act_told (Put ErrorOutput bytes) s r t d k = told_by s t (ap (λ t. t.world.input) d) k
act_told (Take most) s l t d k = record {
  bytes = drop (length l) k.bytes;
  is = ap (λ t. t.world.input) d.1 ∙
      ap (λ i. shrunk i (length l)) k.is;
}
act_told MidLine s r t d k = told_by s t (ap (λ t. t.world.input) d.1) k
act_told (SetMidLine mid) s r t d k = told_by s t (ap (λ t. t.world.input) d) k

-- a call of both of two ways to do a row is the same where the names of both are the first of one list
one_call : {S : Type 0} (c : Call S) (s : Sight S) (r q : Reply c) (m n t z : Sight S) (more more1 rest rest1 : List ℕ)
    → IsTold s → Act c s r m → Act c s q n → t.made ≡ m.made ++ more → z.made ≡ n.made ++ more1
    → z.made ++ rest1 ≡ t.made ++ rest → (q ≡ r) × (n ≡ m)
one_call c s r q m n t z more more1 rest rest1 k d e f g h =
    act_same c s r q m n k d e (same_new c r q s.made (more ++ rest) (more1 ++ rest1)
    (sym (names_then c s r m t more rest d f) ∙ sym h ∙ names_then c s q n z more1 rest1 e g))

pub does_told : {S A : Type 0} (w : Row S A) (s t : Sight S) (y : A) → Does w s y t → IsTold s → IsTold t
does_told w s t y d = run_steps pure (λ s t. IsTold s → IsTold t) (λ s k. k) (λ s m t f g k. g (f k))
    (λ c s r t. act_told c s r t) w s y t d

pub upto_made : {S A : Type 0} (w q : Row S A) (s t : Sight S) → Upto pure w s q t →
    (rest : List ℕ) × (t.made ≡ s.made ++ rest)
upto_made w q s t d =
    upto_steps pure (λ s t. (rest : List ℕ) × (t.made ≡ s.made ++ rest)) (λ s. ([], sym (append-nil s.made)))
    (λ s m t f g. (f.0 ++ g.0, g.1 ∙ ap (λ l. l ++ g.0) f.1 ∙ append_assoc s.made f.0 g.0))
    (λ c s r t a. (names_of c r, act_made c s r t a)) w s q t d

-- two ways to do a row whose names are the first of one list
pub does_along : {S A : Type 0} (w : Row S A) (s t t1 : Sight S) (y y1 : A) (rest rest1 : List ℕ) → IsTold s →
    Does w s y t → Does w s y1 t1 → t1.made ++ rest1 ≡ t.made ++ rest → (y1 ≡ y) × (t1 ≡ t)
unfolding Run
does_along (Ret x) s t t1 y y1 rest rest1 k d e m = (e.0 ∙ sym d.0, e.1 ∙ sym d.1)
does_along (Do c f) s t t1 y y1 rest rest1 k d e m =
    let p = does_made (f d.0) d.1 t y d.3 in
    let q = does_made (f e.0) e.1 t1 y1 e.3 in
    let one = one_call c s d.0 e.0 d.1 e.1 t t1 p.0 q.0 rest rest1 k d.2 e.2 p.1 q.1 m in
    does_along (f d.0) d.1 t t1 y y1 rest rest1 (act_told c s d.0 d.1 d.2 k) d.3
    (subst (λ z. Run pure (f z) d.1 y1 t1) one.0 (subst (λ z. Run pure (f e.0) z y1 t1) one.1 e.3)) m

-- a row that was begun along the names with which it can be done: what is left of it leads to the same end
pub upto_along : {S A : Type 0} (w q : Row S A) (s z t : Sight S) (y : A) (rest rest1 : List ℕ) → IsTold s →
    Does w s y t → Upto pure w s q z → z.made ++ rest1 ≡ t.made ++ rest → Does q z y t
unfolding Run Upto
upto_along {S} (Ret x) q s z t y rest rest1 k d u m =
    subst (λ (v : Row S _). Run pure v z y t) (sym u.0) (subst (λ (v : Sight S). Run pure (Ret x) v y t) (sym u.1) d)
upto_along {S} (Do c f) q s z t y rest rest1 k d u m = elim u [
  | inl e ↦ subst (λ (v : Row S _). Run pure v z y t) (sym e.0)
      (subst (λ (v : Sight S). Run pure (Do c f) v y t) (sym e.1) d)
  | inr e ↦
      let p = does_made (f d.0) d.1 t y d.3 in
      let g = upto_made (f e.0) q e.1 z e.3 in
      let one = one_call c s d.0 e.0 d.1 e.1 t z p.0 g.0 rest rest1 k d.2 e.2 p.1 g.1 m in
      upto_along (f d.0) q d.1 z t y rest rest1 (act_told c s d.0 d.1 d.2 k) d.3
      (subst (λ v. Upto pure (f v) d.1 q z) one.0 (subst (λ v. Upto pure (f e.0) v q z) one.1 e.3)) m
]
