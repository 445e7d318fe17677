-- Each kind of step keeps the rule of the lock.
use Rattle.std.proofs.Common.{◌≡◌, ℕ, zero, suc, ◌+◌, ◌≤◌, ◌≢◌, if◌then◌else◌, List, [], ◌∷◌, ◌++◌, set, length, sym, refl, ap, ◌∙◌, subst, arith, ⊎_elim, true, false, true≢false, eqb, get_or, length-set, get_or-set_same, Option, Some, None, All}
use Rattle.std.proofs.lemmas.Option.{same_Some}
use Rattle.std.proofs.lemmas.Bool.Decides.{nat_tests}
use Rattle.std.proofs.lemmas.List.Sums.{sum_by_push}
use Rattle.std.proofs.lemmas.List.Elements.{All-nil, All-cons, All-append, All-weaker}
use mathlib.Core.Logic.{dite}
use mathlib.Core.Option as maybe
use mathlib.Core.Option.{some, none, some-injective, some-ne-none}
use native.Mathlib.Decide.{ℕ_discrete, dec_lt}
use lib.ListN.{get_elem?}
use prog.Atomic.{either}
use Rattle.atomic_table.specs.Table.{State, Me, Act, keeps, takes, gives, rest, Valid, stepped, carried_after, Allows, Splits, Joins, opening, Final, Seen}
use Rattle.atomic_table.proofs.Lists.{at_set, at_snoc, set_here, exchanged}
use Rattle.heap_lock.specs.declared.view.View.{View}
use Rattle.heap_lock.specs.Parts.{times, HasAllParts, IsDescending}
use Rattle.heap_lock.specs.Rule.{HasValue, FollowsRule, first_view, split_left, split_right, joined, spent, Takes, Gives, IsSeat}
use Rattle.heap_lock.proofs.Sums.{sum_by_change, one_le_sum_by, two_le_sum_by, sum_by_zeros}
use Rattle.heap_lock.proofs.PartsLemmas.{times_split, times_merged, times_all_parts, times_Contains, none_left, some_from_length}

module _ {T J : Type 0} (job : T → J) (good : T → Type 0) (grows : T → T → Type 0)
    (same : (x : T) → grows x x) (along : (x y z : T) → grows x y → grows y z → grows x z) (n : ℕ) (j : J) where
  abbrev Kept : State (Option T) (View T J) → Type 0
  Kept = FollowsRule job good grows n j

  -- 1 of a view that holds
  abbrev count : View T J → ℕ
  count v = if v.holds then 1 else 0

  -- what the rule says of each view
  abbrev FitsJob : View T J → Type 0
  FitsJob v = (v.parts ≡ [] → v.holds ≡ false) × (v.parts ≢ [] → v.job ≡ Some j)

  abbrev AllFit : List (View T J) → Type 0
  AllFit vs = (id : ℕ) (v : View T J) → get_elem? vs id ≡ some v → FitsJob v

  -- what the rule says of each view where the last value is x
  abbrev Sees : T → View T J → Type 0
  Sees x v = All (λ y. grows y x) v.seen × (v.holds ≡ true → v.taken ≡ Some x)

  abbrev AllSee : T → List (View T J) → Type 0
  AllSee x vs = (id : ℕ) (v : View T J) → get_elem? vs id ≡ some v → Sees x v

  all_see : (s : State (Option T) (View T J)) (k : Kept s) → AllSee k.value s.views
  all_see s k id v e = (k.value_is_later id v e, k.holder_took_value id v e)

  see_after : (x : T) (vs : List (View T J)) (id : ℕ) (w : View T J)
      → ((i : ℕ) (v : View T J) → i ≢ id → get_elem? vs i ≡ some v → Sees x v) → Sees x w → AllSee x (set vs id w)
  see_after x vs id w old new k u e = ⊎_elim (λ t. subst (Sees x) t.1 new) (λ t. old k u t.0 t.1) (at_set vs id k w u e)

  -- a seat that has seen one value
  seen_alone : (x y : T) → grows y x → All (λ z. grows z x) (y ∷ [])
  seen_alone x y more = All-cons (λ z. grows z x) y [] more (All-nil (λ z. grows z x))

  all_fit : (s : State (Option T) (View T J)) → Kept s → AllFit s.views
  all_fit s k id v e = (k.only_live_hold id v e, k.one_job id v e)

  count_free : (v : View T J) → v.holds ≡ false → count v ≡ 0
  count_free v e = ap (λ b. if b then 1 else 0) e

  count_held : (v : View T J) → v.holds ≡ true → count v ≡ 1
  count_held v e = ap (λ b. if b then 1 else 0) e

  fits_after : (vs : List (View T J)) (id : ℕ) (w : View T J) → AllFit vs → FitsJob w → AllFit (set vs id w)
  fits_after vs id w old new k u e = ⊎_elim (λ t. subst (FitsJob) t.1 new) (λ t. old k u t.1) (at_set vs id k w u e)

  -- making
  fits_alone : (v : View T J) → FitsJob v → AllFit (v ∷ [])
  fits_alone v fits zero u e = subst (FitsJob) (some-injective v u e) fits
  fits_alone v fits (suc k) u e = absurd (some-ne-none u (sym e))

  sees_alone : (x : T) (v : View T J) → Sees x v → AllSee x (v ∷ [])
  sees_alone x v sees zero u e = subst (Sees x) (some-injective v u e) sees
  sees_alone x v sees (suc k) u e = absurd (some-ne-none u (sym e))

  pub makes_lock : (x y : T) → y ≡ x → good x → job x ≡ j → Kept (opening (0 ∷ []) (Some x ∷ []) (first_view n j y))
  makes_lock x y e fine is =
      let first : View T J = first_view n j y in
      let alone : AllFit (first ∷ []) = fits_alone first ((λ _. refl), λ _. refl) in
      let sees : AllSee x (first ∷ []) =
      sees_alone x first (
        seen_alone x y (subst (λ z. grows z x) (sym e) (same x)),
        λ no.
            absurd (true≢false (sym no)),
      ) in record {
        one_word = refl;
        free_or_held = omega arith;
        parts_once = λ part. omega (arith, times_all_parts part n);
        one_job = λ id v e. (alone id v e).1;
        only_live_hold = λ id v e. (alone id v e).0;
        holders = refl;
        value = x;
        value_is_good = fine;
        value_for_job = is;
        free_has_value = λ _. refl;
        value_is_later = λ id v e. (sees id v e).0;
        holder_took_value = λ id v e. (sees id v e).1;
      }

  -- A step of one seat on the word, which becomes m, while its view becomes w and keeps its parts
  changes : (s : State (Option T) (View T J)) → Kept s → (id : ℕ) (v w : View T J) → get_elem? s.views id ≡ some v →
      (m : ℕ) (homes : List (maybe.Option (Option T)))
      → m ≤ 1 → w.parts ≡ v.parts → FitsJob w → get_or s.words 0 0 + count w ≡ m + count v
      → (x : T) → good x → job x ≡ j → (m ≡ 0 → HasValue x homes) → AllSee x (set s.views id w)
      → Kept record { words = set s.words 0 m; homes = homes; views = set s.views id w }
  changes s k id v w at m homes low equal fits sum x fine for_job home sees =
      let is : get_or (set s.words 0 m) 0 0 ≡ m = get_or-set_same s.words 0 m 0 (let l = k.one_word in omega arith) in
      let after : AllFit (set s.views id w) = fits_after s.views id w (all_fit s k) fits in record {
        one_word = length-set s.words 0 m ∙ k.one_word;
        free_or_held = let l = low in omega arith;
        parts_once = λ part.
            let t = sum_by_change (λ (u : View T J). times part u.parts) s.views id v w at in
            let e : times part w.parts ≡ times part v.parts = ap (times part) equal in
            let a = k.parts_once part in
            omega arith;
        one_job = λ i u e. (after i u e).1;
        only_live_hold = λ i u e. (after i u e).0;
        holders = let t = sum_by_change count s.views id v w at in let h = k.holders in omega arith;
        value = x;
        value_is_good = fine;
        value_for_job = for_job;
        free_has_value = λ z. home (sym is ∙ z);
        value_is_later = λ i u e. (sees i u e).0;
        holder_took_value = λ i u e. (sees i u e).1;
      }

  -- take
  takes_lock : (id : ℕ) (v : View T J) → v.parts ≢ [] → v.holds ≡ false
      → Allows Kept 1 id (v, []) 0 (λ m. either (eqb m 0) 1 m) (Takes job good grows (v, []))
  takes_lock id v some_part free s k wide at lim =
      let found : ℕ = get_or s.words 0 0 in
      let After : ℕ → Type 0 = λ m. (w : View T J) × (a : Act (Option T)) × Valid s.homes [] a × Kept
      (stepped s 0 m id [] w a) × Takes job good grows (v, []) found (w, carried_after [] a) in
      let is : v.job ≡ Some j = k.one_job id v at some_part in
      let none_of_v = count_free v free in
      exchanged found 0 1 After
      (λ e. let x = k.value in
      let w : View T J = record v { holds = true; taken = Some x } in
      let sees : AllSee x (set s.views id w) = see_after x s.views id w (λ i u _ q. all_see s k i u q)
      (k.value_is_later id v at, λ _. refl) in (
        w,
        takes 0 (Some x),
        k.free_has_value e,
        changes s k id v w at 1 (set s.homes 0 none) (omega arith) refl ((λ no. absurd (some_part no)), λ _. is)
            (omega (arith, e))
            x k.value_is_good k.value_for_job (λ z. absurd (omega arith)) sees,
        (
          (λ _. (x, refl, k.value_is_good, is ∙ ap Some (sym k.value_for_job), k.value_is_later id v at)),
          λ ne.
              absurd (ne e),
        ),
      ))
      (λ ne. let sees : AllSee k.value (set s.views id v) =
      see_after k.value s.views id v (λ i u _ q. all_see s k i u q) (all_see s k id v at) in (
        v,
        keeps,
        tt,
        changes s k id v v at found s.homes k.free_or_held refl (all_fit s k id v at) refl
            k.value k.value_is_good k.value_for_job (λ z. absurd (ne z)) sees,
        ((λ z. absurd (ne z)), λ _. refl),
      ))

  -- Give: beside a view that holds no other one does
  alone_holds : (s : State (Option T) (View T J)) → Kept s → (id i : ℕ) (v u : View T J)
      → get_elem? s.views id ≡ some v → get_elem? s.views i ≡ some u → i ≢ id → v.holds ≡ true → u.holds ≡ true → ⊥
  alone_holds s k id i v u at at' ne holds holds' =
      let two = two_le_sum_by count s.views id i v u ne at at' in
      let a = count_held v holds in
      let b = count_held u holds' in
      let word = k.free_or_held in
      let held = k.holders in
      absurd (omega arith)

  -- and so what was put in has grown from all that any seat has seen
  gives_lock : (id : ℕ) (v : View T J) (x : T) → v.holds ≡ true → good x → v.job ≡ Some (job x) →
      ((y : T) → v.taken ≡ Some y → grows y x)
      → Allows Kept 1 id (v, (0, Some x) ∷ []) 0 (λ _. 0) (λ _. Gives (v, (0, Some x) ∷ []))
  gives_lock id v x holds fine fits grown s k wide at lim =
      let some_part : v.parts ≢ [] = λ no. true≢false (sym holds ∙ k.only_live_hold id v at no) in
      let is : v.job ≡ Some j = k.one_job id v at some_part in
      let equal : job x ≡ j = same_Some (job x) j (sym fits ∙ is) in
      let w : View T J = record v { holds = false; seen = x ∷ []; taken = None } in
      let more : grows k.value x = grown k.value (k.holder_took_value id v at holds) in
      let seen : (u : View T J) → All (λ y. grows y k.value) u.seen → All (λ y. grows y x) u.seen =
      λ u. All-weaker (λ y. grows y k.value) (λ y. grows y x) (λ y old. along y k.value x old more) u.seen in
      let sees : AllSee x (set s.views id w) = see_after x s.views id w
      (λ i u ne q. (seen u (k.value_is_later i u q), λ h. absurd (alone_holds s k id i v u at q ne holds h)))
      (seen_alone x x (same x), λ no. absurd (true≢false (sym no))) in
      let one = count_held v holds in
      let most = one_le_sum_by count s.views id v at in
      let word = k.free_or_held in
      let held = k.holders in (
        w,
        gives,
        tt,
        changes s k id v w at 0 (set s.homes 0 (some (Some x))) (omega arith) refl ((λ no. refl), λ _. is) (omega arith)
            x fine equal (λ _. set_here s.homes 0 (some (Some x)) (omega arith)) sees,
        (x, refl, refl),
      )

  -- split
  pub splits_lock : (id : ℕ) (v : View T J) → v.holds ≡ false → 2 ≤ length v.parts →
      Splits Kept id v (split_left v) (split_right v)
  splits_lock id v free two s k at =
      let left : View T J = split_left v in
      let right : View T J = split_right v in
      let is : v.job ≡ Some j = k.one_job id v at (some_from_length v.parts (omega arith)) in
      let vs : List (View T J) = set s.views id left in
      let fits : AllFit vs = fits_after s.views id left (all_fit s k) ((λ _. free), λ _. is) in
      let after : AllFit (vs ++ right ∷ []) = λ i u e.
      ⊎_elim (fits i u) (λ (equal : right ≡ u). subst FitsJob equal ((λ _. refl), λ _. is))
      (at_snoc vs right u i e) in
      let sees : AllSee k.value vs = see_after k.value s.views id left (λ i u _ q. all_see s k i u q)
      (all_see s k id v at) in
      let right_sees : Sees k.value right = (k.value_is_later id v at, λ no. absurd (true≢false (sym no))) in
      let all_after : AllSee k.value (vs ++ right ∷ []) = λ i u e.
      ⊎_elim (sees i u) (λ (equal : right ≡ u). subst (Sees k.value) equal right_sees) (at_snoc vs right u i e) in
      record {
        one_word = k.one_word;
        free_or_held = k.free_or_held;
        parts_once = λ part.
            let f : View T J → ℕ = λ u. times part u.parts in
            let a = sum_by_change f s.views id v left at in
            let b = sum_by_push f vs right in
            let c = times_split part v.parts in
            let d = k.parts_once part in
            omega arith;
        one_job = λ i u e. (after i u e).1;
        only_live_hold = λ i u e. (after i u e).0;
        holders = let a = sum_by_change count s.views id v left at in let b = sum_by_push count vs right in let c =
            k.holders in omega arith;
        value = k.value;
        value_is_good = k.value_is_good;
        value_for_job = k.value_for_job;
        free_has_value = k.free_has_value;
        value_is_later = λ i u e. (all_after i u e).0;
        holder_took_value = λ i u e. (all_after i u e).1;
      }

  -- join
  pub joins_lock : (id : ℕ) (v : View T J) (other : ℕ) (w : View T J) → v.parts ≢ [] → v.holds ≡ false →
      w.holds ≡ false → Joins Kept id v other w (joined v w) spent
  joins_lock id v other w some_part free free' s k at apart at' =
      let both : View T J = joined v w in
      let is : v.job ≡ Some j = k.one_job id v at some_part in
      let vs : List (View T J) = set s.views id both in
      let fits : AllFit vs = fits_after s.views id both (all_fit s k) ((λ _. free), λ _. is) in
      let after : AllFit (set vs other spent) = fits_after vs other spent fits ((λ _. refl), λ no. absurd (no refl)) in
      let w_at : get_elem? s.views other ≡ some w =
      ⊎_elim (λ t. absurd (apart t.0)) (λ t. t.1) (at_set s.views id other both w at') in
      let seen = All-append (λ y. grows y k.value) v.seen w.seen (k.value_is_later id v at)
      (k.value_is_later other w w_at) in
      let sees : AllSee k.value vs = see_after k.value s.views id both (λ i u _ q. all_see s k i u q)
      (seen, λ h. absurd (true≢false (sym h ∙ free))) in
      let all_after : AllSee k.value (set vs other spent) = see_after k.value vs other spent (λ i u _ q. sees i u q)
      (All-nil (λ y. grows y k.value), λ no. absurd (true≢false (sym no))) in record {
        one_word = k.one_word;
        free_or_held = k.free_or_held;
        parts_once = λ part.
            let f : View T J → ℕ = λ u. times part u.parts in
            let a = sum_by_change f s.views id v both at in
            let b = sum_by_change f vs other w spent at' in
            let c = times_merged part w.parts v.parts in
            let d = k.parts_once part in
            omega arith;
        one_job = λ i u e. (after i u e).1;
        only_live_hold = λ i u e. (after i u e).0;
        holders = let a = sum_by_change count s.views id v both at in let b =
            sum_by_change count vs other w spent at' in let c = k.holders in let d = count_free w free' in omega arith;
        value = k.value;
        value_is_good = k.value_is_good;
        value_for_job = k.value_for_job;
        free_has_value = k.free_has_value;
        value_is_later = λ i u e. (all_after i u e).0;
        holder_took_value = λ i u e. (all_after i u e).1;
      }

  -- Close: beside a seat with all the parts no other seat has a part
  none_beside : (s : State (Option T) (View T J)) → Kept s → (id i : ℕ) (v u : View T J)
      → get_elem? s.views id ≡ some v → get_elem? s.views i ≡ some u → i ≢ id → HasAllParts n v.parts → u.parts ≡ []
  none_beside s k id i v u at at' apart all = none_left u.parts (λ part.
      let f : View T J → ℕ = λ x. times part x.parts in
      let most = two_le_sum_by f s.views id i v u apart at at' in
      let once = k.parts_once part in
      dite (dec_lt part n)
      (λ within. let one : 1 ≤ times part v.parts = times_Contains part v.parts (all.each part within) in
      grind (arith, nat_tests))
      (λ beyond. grind (arith, nat_tests)))

  -- and so the lock is free
  closes_free : (s : State (Option T) (View T J)) → Kept s → (id : ℕ) (v : View T J) → get_elem? s.views id ≡ some v →
      v.holds ≡ false → HasAllParts n v.parts → get_or s.words 0 0 ≡ 0
  closes_free s k id v at free all = sym k.holders ∙ sum_by_zeros count s.views (λ i u e. dite (ℕ_discrete i id)
      (λ same. let is : v ≡ u = some-injective v u (sym at ∙ (ap (get_elem? s.views) (sym same) ∙ e)) in
      ap count (sym is) ∙ count_free v free)
      (λ apart. count_free u (k.only_live_hold i u e (none_beside s k id i v u at e apart all))))

  -- and its slot gives a good value of the seat's job, which has grown from all that the seat has seen
  pub closes_lock : (id : ℕ) (v : View T J) (ws : List ℕ) (xs : List (Option T)) (r : Option T)
      → Final (Seen Kept id v) ws xs → v.parts ≢ [] → v.holds ≡ false → HasAllParts n v.parts → get_elem? xs 0 ≡ some r
      → (x : T) × (r ≡ Some x) × good x × (v.job ≡ Some (job x)) × All (λ y. grows y x) v.seen
  closes_lock id v ws xs r final some_part free all at =
      let s : State (Option T) (View T J) = final.0 in
      let k : Kept s = final.1.0 in
      let here : get_elem? s.views id ≡ some v = final.1.1 in
      let h = k.free_has_value (closes_free s k id v here free all) in
      let is : v.job ≡ Some j = k.one_job id v here some_part in (
        k.value,
        some-injective r (Some k.value) (sym at ∙ final.4 0 (Some k.value) h),
        k.value_is_good,
        is ∙ ap Some (sym k.value_for_job),
        k.value_is_later id v here,
      )

  -- take and give for a seat as a call has it
  pub takes_at : (slots id : ℕ) (seat : Me (Option T) (View T J)) → slots ≡ 1 → IsSeat seat → seat.0.holds ≡ false
      → Allows Kept slots id seat 0 (λ m. either (eqb m 0) 1 m) (Takes job good grows seat)
  takes_at slots id seat one is free = subst
      (λ (out : List (ℕ × Option T)). Allows Kept slots id (seat.0, out) 0 (λ m. either (eqb m 0) 1 m)
      (Takes job good grows (seat.0, out))) (sym (is.nothing_out free))
      (subst (λ k. Allows Kept k id (seat.0, []) 0 (λ m. either (eqb m 0) 1 m) (Takes job good grows (seat.0, [])))
      (sym one) (takes_lock id seat.0 is.live free))

  pub gives_at : (slots id : ℕ) (before seat : Me (Option T) (View T J)) (x : T)
      → slots ≡ 1 → IsSeat before → before.0.holds ≡ true → good x → before.0.job ≡ Some (job x) →
      ((y : T) → before.0.taken ≡ Some y → grows y x)
      → seat ≡ (before.0, (0, Some x) ∷ rest before.1) → Allows Kept slots id seat 0 (λ _. 0) (λ _. Gives seat)
  gives_at slots id before seat x one is holds fine fits grown exchanged =
      let v : View T J = before.0 in
      let equal : seat ≡ (v, (0, Some x) ∷ []) = exchanged ∙
      ap (λ (out : List (ℕ × Option T)). (v, (0, Some x) ∷ rest out)) (is.slot_out holds) in
      subst (λ (m : Me (Option T) (View T J)). Allows Kept slots id m 0 (λ _. 0) (λ _. Gives m)) (sym equal)
      (subst (λ k. Allows Kept k id (v, (0, Some x) ∷ []) 0 (λ _. 0) (λ _. Gives (v, (0, Some x) ∷ []))) (sym one)
      (gives_lock id v x holds fine fits grown))

-- a seat that holds nothing
pub free_seat : {T J : Type 0} (parts : List ℕ) (job : Option J) (seen : List T) → parts ≢ [] → IsDescending parts
    → IsSeat {T = T} (record { parts = parts; holds = false; job = job; seen = seen; taken = None }, [])
free_seat parts job seen some_part order =
    record {
      live = some_part;
      descending = order;
      nothing_out = λ _. refl;
      slot_out = λ no.
          absurd (true≢false (sym no));
    }

-- a seat whose parts change, and what it has seen
pub seat_with : {T J : Type 0} (seat : Me (Option T) (View T J)) (parts : List ℕ) (seen : List T) → IsSeat seat →
    parts ≢ [] → IsDescending parts
    → IsSeat (record seat.0 { parts = parts; seen = seen }, seat.1)
seat_with seat parts seen is some_part order =
    record { live = some_part; descending = order; nothing_out = is.nothing_out; slot_out = is.slot_out }
