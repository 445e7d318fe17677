-- What a module uses, as it was gathered from nothing on.
use Rattle.std.proofs.Common.{◌≡◌, ℕ, ◌+◌, ◌<◌, ◌==◌, List, [], ◌∷◌, Bool, true, false, length, get_or, refl, sym, ap, ◌∙◌, arith, length-set}
use Rattle.std.specs.Prelude.{if◌then◌else◌, slice_set, replicate}
use Rattle.std.proofs.lemmas.Bool.{eqb-true}
use Rattle.std.proofs.lemmas.List.{get_or-set_same, get_or-set_other, length-replicate, get_or-replicate}
use Rattle.py_templates.specs.Uses.{Use, Text, Global, Keys, with_keys, texts_from, cells_from, keys_from, module_uses}
use Rattle.py_tree.specs.declared.stmt.Stmt.{Stmt}
use Rattle.py_uses.specs.declared.tally.Place.{Place}
use Rattle.py_uses.specs.inner.Tallies.{Listed, Tally, block_uses, bump, done as after, inside, locals_in, tally, tally_one}
use Rattle.py_uses.proofs.Tallying.{bump_is}
use Rattle.py_uses.proofs.UsedStatements.{block}

pub tally_texts : (t : Tally) (us : List Use) → (tally t us).texts ≡ texts_from t.texts us
tally_texts t [] = refl
tally_texts t (Text x ∷ us) = tally_texts (tally_one t (Text x)) us
tally_texts t (Global x ∷ us) = tally_texts (tally_one t (Global x)) us
tally_texts t (Keys b ks ∷ us) = tally_texts (tally_one t (Keys b ks)) us

pub tally_cells : (t : Tally) (us : List Use) → (tally t us).cells ≡ cells_from t.cells us
tally_cells t [] = refl
tally_cells t (Text x ∷ us) = tally_cells (tally_one t (Text x)) us
tally_cells t (Global x ∷ us) = tally_cells (tally_one t (Global x)) us
tally_cells t (Keys b ks ∷ us) = tally_cells (tally_one t (Keys b ks)) us

pub tally_count : (t : Tally) (us : List Use) → length (tally t us).keys ≡ length t.keys
tally_count t [] = refl
tally_count t (Text x ∷ us) = tally_count (tally_one t (Text x)) us
tally_count t (Global x ∷ us) = tally_count (tally_one t (Global x)) us
tally_count t (Keys b ks ∷ us) = tally_count (tally_one t (Keys b ks)) us ∙
    length-set t.keys b (with_keys (get_or t.keys b []) ks)

after_keys : (b c : ℕ) (ks : List (List ℕ)) (keys : List (List (List (List ℕ)))) → b < length keys → (x : Bool) →
    (b == c) ≡ x →
    get_or (slice_set keys c (with_keys (get_or keys c []) ks)) b [] ≡
    (if x then with_keys (get_or keys b []) ks else get_or keys b [])
after_keys b c ks keys lt true e = let q : b ≡ c = eqb-true b c e in
    rw (← q) (get_or-set_same keys b (with_keys (get_or keys b []) ks) [] lt)
after_keys b c ks keys lt false e = get_or-set_other keys c b (with_keys (get_or keys c []) ks) [] (λ q. apart q)
  where
    apart : b ≡ c → ⊥
    apart q = let z : (b == b) ≡ false = ap (λ k. b == k) q ∙ e in absurd (grind (arith))

pub tally_keys : (b : ℕ) (t : Tally) (us : List Use) → b < length t.keys →
    get_or (tally t us).keys b [] ≡ keys_from b (get_or t.keys b []) us
tally_keys b t [] lt = refl
tally_keys b t (Text x ∷ us) lt = tally_keys b (tally_one t (Text x)) us lt
tally_keys b t (Global x ∷ us) lt = tally_keys b (tally_one t (Global x)) us lt
tally_keys b t (Keys c ks ∷ us) lt =
    tally_keys b (tally_one t (Keys c ks)) us
    (omega (arith, lt, length-set t.keys c (with_keys (get_or t.keys c []) ks)))
    ∙ ap (λ z. keys_from b z us) (after_keys b c ks t.keys lt (b == c) refl)

-- what a module uses was gathered, of so many bodies
pub record Told (n : ℕ) (us : List Use) (t : Tally) : Type 0 where
  pub texts : t.texts ≡ texts_from [] us
  pub cells : t.cells ≡ cells_from [] us
  pub keys : Listed n t.keys us

module _ (all : List (List (List ℕ))) (ss : List Stmt) (n : ℕ) where
  start : Tally
  start = record { texts = []; cells = []; keys = replicate n ([] ∷ []); next = 1 }

  pub module_told : (t0 t1 t2 : Tally) (place : Place) →
      t0 ≡ record { texts = []; cells = []; keys = replicate n ([] ∷ []); next = 0 } →
      place ≡ record { number = t0.next; is_class = false } → t1 ≡ bump t0 1 →
      t2 ≡ after t1 (inside all place) (block_uses all ss) → Told n (module_uses (locals_in all) ss) t2
  unfolding start module_uses
  module_told t0 t1 t2 place e at f g = record {
    texts = ap (λ z. z.texts) final ∙ tally_texts start us ∙ ap (texts_from []) (sym same);
    cells = ap (λ z. z.cells) final ∙ tally_cells start us ∙ ap (cells_from []) (sym same);
    keys = record {
      count = ap (λ z. length z.keys) final ∙ tally_count start us ∙
          length-replicate {A = List (List (List ℕ))} n ([] ∷ []);
      lists = λ b lt. ap (λ z. get_or z.keys b []) final ∙
          tally_keys b start us (omega (arith, lt, length-replicate {A = List (List (List ℕ))} n ([] ∷ []))) ∙
          ap (λ z. keys_from b z us) (get_or-replicate n b ([] ∷ []) [] lt) ∙ ap (keys_from b ([] ∷ [])) (sym same);
    };
  }
    where
      us : List Use
      us = (block_uses all ss).uses (inside all (record { number = 0; is_class = false })) 1

      same : module_uses (locals_in all) ss ≡ us
      same = ap (λ z. z.uses (inside all (record { number = 0; is_class = false })) 1) (block all ss)

      final : t2 ≡ record (tally start us) { next = (tally start us).next + (block_uses all ss).bodies }
      final =
          g ∙ ap (λ z. after z (inside all place) (block_uses all ss)) (f ∙ ap (λ z. bump z 1) e)
          ∙ ap (λ z. after start (inside all z) (block_uses all ss))
          (at ∙ ap (λ z. record { number = z.next; is_class = false }) e)
          ∙ bump_is (tally start us) (block_uses all ss).bodies
