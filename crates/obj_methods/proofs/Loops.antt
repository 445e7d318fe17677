-- The turns of the loops over values, and the methods of numbers that name none.
use Rattle.std.proofs.Common.{arith, ◌≡◌, ◌≢◌, ℕ, ◌+◌, ◌-◌, ◌<◌, ◌≤◌, ◌==◌, Bool, true, false, cond, List, [], ◌∷◌, length, drop, get_or, Option, Some, None, ℤ, Result, Ok, Err, MatchResult, refl, sym, subst, ◌∙◌, ap}
use Rattle.std.proofs.Math.ListN.{drop_of_length-le}
use Rattle.std.proofs.lemmas.Bool.{eqb-true}
use Rattle.std.proofs.lemmas.List.{drop_more}
use Rattle.py_data.specs.declared.stop.Stop.{Stop}
use Rattle.py_data.specs.declared.stop.Stop.TheVariants.{OutOfMemory}
use Rattle.py_data.specs.declared.record.Fault.{Fault}
use Rattle.py_data.specs.declared.record.Got.{Got}
use Rattle.py_data.specs.declared.record.Got.TheVariants.{Is, Raise}
use Rattle.py_data.specs.declared.value.Value.{Value}
use Rattle.py_data.specs.declared.value.Value.TheVariants.{Unset}
use Rattle.py_data.specs.declared.change.Change.TheVariants as change
use Rattle.py_data.specs.Fault.{operand_fault}
use Rattle.py_data.specs.Heap.{value_at}
use Rattle.py_data.specs.Looking.{until_row, got_row}
use Rattle.py_data.specs.Row.{Ret, Do, Edit, bind}
use Rattle.py_data.specs.inner.Rest.{Leads}
use Rattle.py_data.specs.Sense.{Sense, Lawful, Safe, Meets, IsLive}
use Rattle.py_data.proofs.Rows.{meets_answer}
use Rattle.py_data.proofs.Steps.{leads_begin, leads_call, leads_call_stop, leads_ret, safe_first, meets_bind}
use Rattle.obj_seq.specs.Seq.{put_row}
use Rattle.obj_methods.specs.declared.words.Word.{Word}
use Rattle.obj_methods.specs.Dicts.{dict_method_row}
use Rattle.obj_methods.specs.Lists.{place_row, goes_on, first_of, search_row, found, index_with, list_method_row}
use Rattle.obj_methods.specs.Sorting.{word_row, words_row}

module _ {S X : Type 0} {u : Sense S X} where
  -- ---- texts that are read
  module _ (vs : List Value) {v : X} where
    pub words_begin : (ws : List Word) → ws ≡ [] → Safe u.partial (words_row {S = S} vs []) (u.heap v) → IsLive u v →
        Leads u (words_row {S = S} vs []) v (words_row (drop 0 vs) ws) v
    words_begin ws e s l = subst (λ z. Leads u (words_row {S = S} vs []) v (words_row vs z) v) (sym e)
        (leads_begin u (words_row {S = S} vs []) v s l)

  module _ (vs : List Value) {v w : X} where
    next : (i : ℕ) (ws : List Word) → i < length vs → Leads u (words_row {S = S} vs []) v (words_row (drop i vs) ws) w
        → Leads u (words_row {S = S} vs []) v
        (bind (word_row (value_at vs i) ws) (got_row (words_row (drop (i + 1) vs)))) w
    unfolding words_row
    next i ws l h = subst (λ xs. Leads u (words_row {S = S} vs []) v (words_row xs ws) w) (drop_more vs i Unset l) h

    pub words_safe : (i : ℕ) (ws : List Word) → i < length vs →
        Leads u (words_row {S = S} vs []) v (words_row (drop i vs) ws) w →
        Safe u.partial (word_row {S = S} (value_at vs i) ws) (u.heap w)
    words_safe i ws l h = let t = next i ws l h in
        safe_first u.partial (word_row (value_at vs i) ws) (got_row (words_row (drop (i + 1) vs))) (u.heap w) t.safe

    pub words_stop : (x : X) (e : Stop) (i : ℕ) (ws : List Word) → i < length vs →
        Leads u (words_row {S = S} vs []) v (words_row (drop i vs) ws) w →
        Meets u (word_row {S = S} (value_at vs i) ws) w x (Err e) → Meets u (words_row {S = S} vs []) v x (Err e)
    words_stop x e i ws l h m = leads_call_stop (word_row (value_at vs i) ws) (got_row (words_row (drop (i + 1) vs))) x
        e (next i ws l h) m

    pub words_more : (L : Lawful u) (x : X) (i : ℕ) (ws more : List Word) → i < length vs →
        Leads u (words_row {S = S} vs []) v (words_row (drop i vs) ws) w →
        Meets u (word_row {S = S} (value_at vs i) ws) w x (Ok (Is more)) →
        Leads u (words_row {S = S} vs []) v (words_row (drop (i + 1) vs) more) x
    words_more L x i ws more l h m = leads_call L (word_row (value_at vs i) ws) (got_row (words_row (drop (i + 1) vs)))
        x (Is more) (next i ws l h) m

    pub words_raised : (L : Lawful u) (x : X) (i : ℕ) (ws : List Word) (e : Fault) → i < length vs →
        Leads u (words_row {S = S} vs []) v (words_row (drop i vs) ws) w →
        Meets u (word_row {S = S} (value_at vs i) ws) w x (Ok (Raise e)) →
        Meets u (words_row {S = S} vs []) v x (Ok (Raise e))
    words_raised L x i ws e l h m = leads_ret
        (leads_call L (word_row (value_at vs i) ws) (got_row (words_row (drop (i + 1) vs))) x (Raise e) (next i ws l h)
        m)

    pub words_end : (i : ℕ) (ws : List Word) → length vs ≤ i →
        Leads u (words_row {S = S} vs []) v (words_row (drop i vs) ws) w →
        Meets u (words_row {S = S} vs []) v w (Ok (Is ws))
    unfolding words_row
    words_end i ws l h = leads_ret (subst (λ xs. Leads u (words_row {S = S} vs []) v (words_row xs ws) w)
        (drop_of_length-le vs l) h)

  -- ---- values in places
  module _ (a : ℕ) (vs : List Value) {v w : X} where
    pub put_next : (i : ℕ) (y : Value) → i < length vs → ((d : Value) → y ≡ get_or vs i d) →
        Leads u (put_row {S = S} a 0 vs) v (put_row a i (drop i vs)) w →
        Leads u (put_row {S = S} a 0 vs) v (Do (Edit a (change.Set i y)) (λ _. put_row a (i + 1) (drop (i + 1) vs))) w
    unfolding put_row
    put_next i y l e h = subst (λ xs. Leads u (put_row {S = S} a 0 vs) v (put_row a i xs) w)
        (drop_more vs i Unset l ∙ ap (λ x. x ∷ drop (i + 1) vs) (sym (e Unset))) h

    pub put_last : (i : ℕ) → length vs ≤ i → Leads u (put_row {S = S} a 0 vs) v (put_row a i (drop i vs)) w →
        Meets u (put_row {S = S} a 0 vs) v w (Ok tt)
    unfolding put_row
    put_last i l h = leads_ret (subst (λ xs. Leads u (put_row {S = S} a 0 vs) v (put_row a i xs) w)
        (drop_of_length-le vs l) h)

  -- ---- items that are compared
  pub first_begin : (x : Value) (a n : ℕ) (v : X) → Safe u.partial (first_of {S = S} x a n) (u.heap v) → IsLive u v →
      Leads u (first_of {S = S} x a n) v (until_row (place_row x a) goes_on (Is None) 0 (n - 0)) v
  unfolding first_of
  first_begin x a n v s l =
      let e : n - 0 ≡ n = omega arith in
      subst (λ m. Leads u (first_of {S = S} x a n) v (until_row (place_row x a) goes_on (Is None) 0 m) v) (sym e)
      (leads_begin u (first_of {S = S} x a n) v s l)

-- ---- the place that was found
pub index_met : {S X : Type 0} (u : Sense S X) (a : ℕ) (x : Value) (o : Option Value) (p : Got (Option ℤ)) (v m : X)
    (res : Result (Got Value) Stop) → o ≡ Some x → Meets u (search_row {S = S} a x) v m (Ok p)
    → MatchResult res (λ g. g ≡ found p) (λ e. e ≡ OutOfMemory) → Meets u (index_with {S = S} a o) v m res
unfolding index_with
index_met {S = S} u a x o p v m res e d r =
    subst (λ z. Meets u (index_with {S = S} a z) v m res) (sym e)
    (meets_bind u (search_row a x) (λ g. Ret (found g)) v m m p res d (meets_answer u (found p) m res r))

-- ---- a number of no method
unlike : {A : Type 0} (m n : ℕ) (x y : A) → m ≢ n → cond (m == n) x y ≡ y
unlike m n x y i = by (m == n) refl
  where
    by : (t : Bool) → (m == n) ≡ t → cond t x y ≡ y
    by true e = absurd (i (eqb-true m n e))
    by false e = refl

other_list : (S : Type 0) (m a : ℕ) (args : List Value) → m ≢ 34 → m ≢ 35 → m ≢ 36 → m ≢ 37 → m ≢ 38 → m ≢ 39 →
    m ≢ 40 → m ≢ 41 → list_method_row {S = S} m a args ≡ Ret (Raise operand_fault)
unfolding list_method_row
other_list S m a args append pop insert extend index remove reverse sort =
    unlike m 34 _ _ append ∙ (unlike m 35 _ _ pop ∙
    (unlike m 36 _ _ insert ∙ (unlike m 37 _ _ extend ∙
    (unlike m 38 _ _ index ∙ (unlike m 39 _ _ remove ∙ (unlike m 40 _ _ reverse ∙ unlike m 41 _ _ sort))))))

pub other_list_met : {S X : Type 0} (u : Sense S X) (m a : ℕ) (args : List Value) (v : X)
    (res : Result (Got Value) Stop) → m ≢ 34 → m ≢ 35 → m ≢ 36 → m ≢ 37 → m ≢ 38 → m ≢ 39 → m ≢ 40 → m ≢ 41
    → MatchResult res (λ g. g ≡ Raise operand_fault) (λ e. e ≡ OutOfMemory) → Meets u (list_method_row m a args) v v res
other_list_met {S = S} u m a args v res append pop insert extend index remove reverse sort r =
    subst (λ row. Meets u row v v res) (sym (other_list S m a args append pop insert extend index remove reverse sort))
    (meets_answer u (Raise operand_fault) v res r)

other_dict : (S : Type 0) (m d : ℕ) (args : List Value) → m ≢ 42 → m ≢ 43 → m ≢ 44 → m ≢ 45 → m ≢ 46 → m ≢ 47 →
    dict_method_row {S = S} m d args ≡ Ret (Raise operand_fault)
unfolding dict_method_row
other_dict S m d args get keys values items has pop =
    unlike m 42 _ _ get ∙ (unlike m 43 _ _ keys ∙
    (unlike m 44 _ _ values ∙ (unlike m 45 _ _ items ∙ (unlike m 46 _ _ has ∙ unlike m 47 _ _ pop))))

pub other_dict_met : {S X : Type 0} (u : Sense S X) (m d : ℕ) (args : List Value) (v : X)
    (res : Result (Got Value) Stop) → m ≢ 42 → m ≢ 43 → m ≢ 44 → m ≢ 45 → m ≢ 46 → m ≢ 47
    → MatchResult res (λ g. g ≡ Raise operand_fault) (λ e. e ≡ OutOfMemory) → Meets u (dict_method_row m d args) v v res
other_dict_met {S = S} u m d args v res get keys values items has pop r =
    subst (λ row. Meets u row v v res) (sym (other_dict S m d args get keys values items has pop))
    (meets_answer u (Raise operand_fault) v res r)
