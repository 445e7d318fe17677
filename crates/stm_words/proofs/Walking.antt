-- How the walk of `clap` goes over the words, and what comes of it in the end.
use Rattle.std.proofs.Common.{◌≡◌, ◌∙◌, ℕ, Bool, cond, true, false, refl, sym, ap, subst, List, [], ◌∷◌, ◌++◌, map, Option, Some, None, codes, append-nil, append_assoc, inl, inr}
use Rattle.std.specs.Prelude.{if◌then◌else◌, ◌⊎◌, ◌&&◌, option_map, option_to_list}
use Rattle.std.specs.Option.{option_map_or}
use Rattle.clap.specs.Kinds.{Kinds}
use Rattle.clap.specs.Faults.{settle_fault, turn_fault, use_fault}
use Rattle.clap.specs.Walk.{Held, Text, Waiting, Walk, idle, is_pending, settled, settled_rows, pushed, used, used_by_id, walked}
use Rattle.clap.specs.declared.error.kind.ErrorKind.TheVariants as kind
use Rattle.stm_words.specs.declared.call.Options.{Options}
use Rattle.stm_words.specs.Options.{Use, Place, places}
use Rattle.stm_words.proofs.Meaning.{Doomed, answer, places_append, twice_a_place}
use Rattle.stm_words.proofs.Rows.{Adds, Repeats, Single, adds, file_rule, finish, finished, id_of, rows, rule_by_id, rule_of_use, rules, shape, text_of}

-- ---- what comes of a walk

abbrev pub if_none : Kinds → Option Options → Option Options
if_none [] o = o
if_none (k ∷ ks) o = None

-- the options from a walk on over words, if it is refused nowhere
abbrev pub outcome : Walk → List Text → Option Options
outcome w [] = if_none (settle_fault rules false w.held) (finish (settled rules w.held).rows)
outcome w (x ∷ xs) = if_none (turn_fault shape [] w x) (outcome (walked rules [] w x) xs)

-- ---- where the walk stands

abbrev pub Pending : Type 0
Pending = Option (Text × List Text)

abbrev pub held : List Use → Pending → Held
held us p = record { rows = rows us; pending = p; skip = 0 }

-- a use that is not settled yet
abbrev pub last : Option Use → Pending
last = option_map (λ u. (id_of u, text_of u ∷ []))

abbrev pub position_after : Bool → ℕ
position_after b = if b then 2 else 1

-- `placed` says whether a word went to the positional
abbrev pub at : (placed trailing : Bool) → Waiting → Held → Walk
at placed trailing waiting h = record {
  held = h;
  waiting = waiting;
  position = position_after placed;
  is_trailing =
      trailing;
  stopped = None;
}

abbrev pub with_last : List Use → Option Use → List Use
with_last us p = us ++ option_to_list p

-- the place is there, where a word went to the positional
abbrev pub Placed : Bool → List Use → Type 0
Placed false us = Unit {0}
Placed true us = (v : List ℕ) × (vs : List (List ℕ)) × (places us ≡ v ∷ vs)

pub placed_more : (b : Bool) (us ws : List Use) → Placed b us → Placed b (us ++ ws)
placed_more false us ws h = tt
placed_more true us ws (v, vs, e) = (v, vs ++ places ws, places_append us ws ∙ ap (λ xs. xs ++ places ws) e)

pub placed_now : (us : List Use) (v : List ℕ) → Placed true (us ++ Place v ∷ [])
placed_now us v = go (places us) refl
  where
    go : (vs : List (List ℕ)) → places us ≡ vs → Placed true (us ++ Place v ∷ [])
    go [] e = (v, [], places_append us (Place v ∷ []) ∙ ap (λ xs. xs ++ v ∷ []) e)
    go (x ∷ xs) e = (x, xs ++ v ∷ [], places_append us (Place v ∷ []) ∙ ap (λ ys. ys ++ v ∷ []) e)

pub placed_twice : (us : List Use) (v : List ℕ) → Placed true us → Doomed (us ++ Place v ∷ [])
placed_twice us v (x, xs, e) = twice_a_place us x xs v e

-- ---- settling

-- what is pending is settled: it is one use more, or one too many
pub record Settled (us : List Use) (p : Option Use) : Type 0 where
  pub quiet : settle_fault rules false (held us (last p)) ≡ []
  pub rows : settled_rows rules (last p) (rows us) ≡ rows (with_last us p)
  pub single : Single (with_last us p)

pub record Faulty (us : List Use) (p : Option Use) : Type 0 where
  pub fault : settle_fault rules false (held us (last p)) ≡ kind.ArgumentConflict ∷ []
  pub doomed : Doomed (with_last us p)

settle_found : (us : List Use) (u : Use)
    → settle_fault rules false (held us (last (Some u))) ≡ use_fault false (rule_of_use u) (text_of u ∷ []) (rows us)
settle_found us u = ap (λ o. option_map_or (λ a. use_fault false a (text_of u ∷ []) (rows us)) o []) (rule_by_id u)

settled_found : (us : List Use) (u : Use)
    → settled_rows rules (last (Some u)) (rows us) ≡ used (rule_of_use u) (text_of u ∷ []) (rows us)
settled_found us u = ap (λ o. used_by_id o (text_of u ∷ []) (rows us)) (rule_by_id u)

pub settles : (us : List Use) (p : Option Use) → Single us → Settled us p ⊎ Faulty us p
settles us None single = inl (record {
  quiet = refl;
  rows = ap rows (sym (append-nil us));
  single =
      subst Single (sym (append-nil us)) single;
})
settles us (Some u) single = go (adds us u single)
  where
    go : Adds us u ⊎ Repeats us u → Settled us (Some u) ⊎ Faulty us (Some u)
    go (inl a) = inl (record {
      quiet = settle_found us u ∙ a.quiet;
      rows = settled_found us u
          ∙ a.rows;
      single = a.single;
    })
    go (inr r) = inr (record { fault = settle_found us u ∙ r.fault; doomed = r.doomed })

-- the words are at their end
pub ended : (placed trailing : Bool) (waiting : Waiting) (us : List Use) (p : Option Use) → Single us
    → outcome (at placed trailing waiting (held us (last p))) [] ≡ answer (with_last us p)
ended placed trailing waiting us p single = go (settles us p single)
  where
    go : Settled us p ⊎ Faulty us p
        → outcome (at placed trailing waiting (held us (last p))) [] ≡ answer (with_last us p)
    go (inl s) = ap (λ k. if_none k (finish (settled_rows rules (last p) (rows us)))) s.quiet ∙ ap finish s.rows
        ∙ finished (with_last us p) s.single
    go (inr f) = ap (λ k. if_none k (finish (settled_rows rules (last p) (rows us)))) f.fault ∙ sym (f.doomed [])
        ∙ ap answer (append-nil (with_last us p))

-- ---- a word for the positional

-- what is held once the word went to the positional
abbrev pub with_place : Held → Text → Held
with_place h w = record {
  rows = settled_rows rules h.pending h.rows;
  pending = Some (codes "file", w ∷ []);
  skip =
      h.skip;
}

pub trailing_turn : (waiting : Waiting) (h : Held) (w : Text)
    → turn_fault shape [] (at false true waiting h) w ≡ settle_fault rules false h
trailing_turn waiting h w = elim (is_pending file_rule h.pending) as
    (λ b. cond (b && false) [] (settle_fault rules false h) ≡ settle_fault rules false h) [ true ↦ refl | false ↦ refl ]

pub trailing_walk : (waiting : Waiting) (h : Held) (w : Text)
    → walked rules [] (at false true waiting h) w ≡ at true true idle (with_place h w)
unfolding walked
trailing_walk waiting h w = elim (is_pending file_rule h.pending) as
    (λ b. at true true idle (pushed (codes "file") w (cond (b && false) h (settled rules h))) ≡ at true true idle
    (with_place h w)) [ true ↦ refl | false ↦ refl ]

abbrev pub behind_one : (us : List Use) (u : Use) (more : List Use)
    → answer ((us ++ u ∷ []) ++ more) ≡ answer (us ++ u ∷ more)
behind_one us u more = ap answer (append_assoc us (u ∷ []) more)

-- behind `--` each word goes to the positional
pub behind : (ws : List Text) (us : List Use) (p : Option Use) (b : Bool) (waiting : Waiting) → Single us
    → Placed b (with_last us p)
    → outcome (at b true waiting (held us (last p))) ws ≡ answer (with_last us p ++ map Place ws)
behind [] us p b waiting single placed = ended b true waiting us p single
    ∙ ap answer (sym (append-nil (with_last us p)))
behind (w ∷ ws) us p true waiting single placed = sym (sym (behind_one (with_last us p) (Place w) (map Place ws))
    ∙ placed_twice (with_last us p) w placed (map Place ws))
behind (w ∷ ws) us p false waiting single placed = go (behind ws (with_last us p) (Some (Place w)) true idle)
    (settles us p single)
  where
    turn : (ks : Kinds) → settle_fault rules false (held us (last p)) ≡ ks
        → outcome (at false true waiting (held us (last p)))
        (w ∷ ws) ≡ if_none ks (outcome (walked rules [] (at false true waiting (held us (last p))) w) ws)
    turn ks e = ap (λ k. if_none k (outcome (walked rules [] (at false true waiting (held us (last p))) w) ws))
        (trailing_turn waiting (held us (last p)) w ∙ e)

    go : (Single (with_last us p) → Placed true (with_last us p ++ Place w ∷ [])
        → outcome (at true true idle (held (with_last us p)
        (last (Some (Place w))))) ws ≡ answer ((with_last us p ++ Place w ∷ []) ++ map Place ws))
        → Settled us p ⊎ Faulty us p
        → outcome (at false true waiting (held us (last p)))
        (w ∷ ws) ≡ answer (with_last us p ++ Place w ∷ map Place ws)
    go rest (inr f) = turn _ f.fault ∙ sym (f.doomed (Place w ∷ map Place ws))
    go rest (inl s) = turn _ s.quiet ∙ ap (λ walk. outcome walk ws) (trailing_walk waiting (held us (last p)) w)
        ∙ ap (λ rs. outcome (at true true idle (record { rows = rs; pending = Some (codes "file", w ∷ []); skip = 0 }))
        ws) s.rows
        ∙ rest s.single (placed_now (with_last us p) w) ∙ behind_one (with_last us p) (Place w) (map Place ws)
