-- The loop that joins the texts of values, and the one that makes the strings of pieces.
use Rattle.std.proofs.Common.{◌≡◌, ◌≢◌, ℕ, ◌==◌, MatchResult, Bool, true, false, cond, List, [], ◌∷◌, ◌++◌, length, Option, Some, None, Result, Ok, Err, refl, sym, ap, subst, ◌∙◌, append_assoc}
use Rattle.std.specs.Prelude.{leb}
use Rattle.std.proofs.lemmas.Bool.{eqb-true}
use Rattle.py_data.specs.declared.stop.Stop.{Stop}
use Rattle.py_data.specs.declared.stop.Stop.TheVariants.{OutOfMemory}
use Rattle.py_data.specs.declared.value.Value.{Value}
use Rattle.py_data.specs.declared.record.Fault.{Fault}
use Rattle.py_data.specs.declared.record.Got.{Got}
use Rattle.py_data.specs.declared.record.Got.TheVariants.{Is, Raise}
use Rattle.py_data.specs.declared.record.TheConstants.{LENGTH_LIMIT}
use Rattle.py_data.specs.Fault.{memory_fault, operand_fault}
use Rattle.py_data.specs.Looking.{got_row}
use Rattle.py_data.specs.inner.Rest.{Leads}
use Rattle.py_data.specs.Row.{Row, Ret, bind}
use Rattle.py_data.specs.Sense.{Sense, Lawful, Safe, IsLive, Meets}
use Rattle.py_data.proofs.Rows.{meets_answer}
use Rattle.py_data.proofs.Steps.{leads_begin, leads_call, leads_call_stop, leads_ret, safe_first}
use Rattle.obj_str.specs.Adding.{Adds}
use Rattle.obj_str.specs.Cutting.{fitting, fitted_row, more_of, has_none}
use Rattle.obj_str.specs.Methods.{text_item, texts_then, texts_row, piece_row, strings_then, method_row}
use Rattle.obj_str.specs.Pieces.{joined}
use Rattle.obj_str.specs.Strings.{made_text, new_text}
use Rattle.obj_str.proofs.Fitting.{fitting_more}

-- ---- a text and what stands behind it
joined_last : (sep : List ℕ) (q : List ℕ) (qs : List (List ℕ)) (p : List ℕ) →
    joined sep (q ∷ (qs ++ p ∷ [])) ≡ joined sep (q ∷ qs) ++ (sep ++ p)
joined_last sep q [] p = append_assoc q sep p
joined_last sep q (r ∷ qs) p = ap (λ l. (q ++ sep) ++ l) (joined_last sep r qs p) ∙
    sym (append_assoc (q ++ sep) (joined sep (r ∷ qs)) (sep ++ p))

more_fits : (sep text p : List ℕ) → more_of sep (fitting text) p ≡ fitting (text ++ (sep ++ p))
more_fits sep text p = by (leb (length text) LENGTH_LIMIT) (fitting_more text (sep ++ p))
  where
    by : (b : Bool) → (cond b (Some text) None ≡ None → fitting (text ++ (sep ++ p)) ≡ None) →
        more_of sep (cond b (Some text) None) p ≡ fitting (text ++ (sep ++ p))
    by true f = refl
    by false f = sym (f refl)

added : (sep : List ℕ) (ps : List (List ℕ)) (p : List ℕ) →
    more_of (cond (has_none ps) [] sep) (fitting (joined sep ps)) p ≡ fitting (joined sep (ps ++ p ∷ []))
added sep [] p = refl
added sep (q ∷ qs) p = more_fits sep (joined sep (q ∷ qs)) p ∙ ap fitting (sym (joined_last sep q qs p))

some_now : (ps : List (List ℕ)) (p : List ℕ) → has_none (ps ++ p ∷ []) ≡ false
some_now [] p = refl
some_now (q ∷ qs) p = refl

-- a new string of a text, by whether it fits
pub new_text_is : (S : Type 0) (bs : List ℕ) → new_text {S = S} bs ≡ fitted_row (fitting bs)
unfolding new_text fitted_row
new_text_is S bs = by (leb (length bs) LENGTH_LIMIT)
  where
    by : (b : Bool) → cond b (made_text {S = S} bs) (Ret (Raise memory_fault)) ≡ fitted_row (cond b (Some bs) None)
    by true = refl
    by false = refl

module _ {S X : Type 0} (u : Sense S X) where
  -- a text that fits is made as the whole text is
  pub fitting_safe : (bs : List ℕ) (text : Option (List ℕ)) (v : X) → text ≡ fitting bs →
      Safe u.partial (new_text {S = S} bs) (u.heap v) → Safe u.partial (fitted_row {S = S} text) (u.heap v)
  fitting_safe bs text v e s = subst (λ row. Safe u.partial row (u.heap v)) (new_text_is S bs ∙ ap fitted_row (sym e)) s

  pub fitting_met : (bs : List ℕ) (text : Option (List ℕ)) (v w : X) (res : Result (Got Value) Stop) →
      text ≡ fitting bs → Meets u (fitted_row {S = S} text) v w res → Meets u (new_text bs) v w res
  fitting_met bs text v w res e m = subst (λ row. Meets u row v w res) (sym (new_text_is S bs ∙ ap fitted_row (sym e)))
      m

-- ---- texts that are joined
abbrev pub whole_text : {S : Type 0} → List ℕ → List (List ℕ) → Row S (Got Value)
whole_text sep ps = new_text (joined sep ps)

-- what was done so far: the texts that were read, and the text that they make
pub record Joining {S X : Type 0} (u : Sense S X) (sep : List ℕ) (row : Row S (Got Value)) (v : X) (rest : List Value)
    (text : Option (List ℕ)) (first : Bool) (w : X) : Type 0 where
  pub ps : List (List ℕ)
  pub leads : Leads u row v (texts_then (whole_text sep) rest ps) w
  pub is : text ≡ fitting (joined sep ps)
  pub none : first ≡ has_none ps

module _ {S X : Type 0} {u : Sense S X} where
  pub join_begin : (sep : List ℕ) (vs : List Value) (v : X) (text : Option (List ℕ)) → text ≡ Some [] →
      Safe u.partial (texts_row {S = S} sep vs) (u.heap v) → IsLive u v →
      Joining u sep (texts_row sep vs) v vs text true v
  join_begin sep vs v text e s l = record {
    ps = [];
    leads = leads_begin u (texts_row sep vs) v s l;
    is = e;
    none =
        refl;
  }

  module _ {sep : List ℕ} {row : Row S (Got Value)} {v w : X} {rest : List Value} {text : Option (List ℕ)}
      {first : Bool} (j : Joining u sep row v rest text first w) (x : Value) (more : List Value)
      (split : rest ≡ x ∷ more) where
    join_leads : Leads u row v (bind (text_item x) (got_row (λ p. texts_then (whole_text sep) more (j.ps ++ p ∷ [])))) w
    unfolding texts_then
    join_leads = subst (λ l. Leads u row v (texts_then (whole_text sep) l j.ps) w) split j.leads

    pub join_safe : Safe u.partial (text_item {S = S} x) (u.heap w)
    join_safe = safe_first u.partial (text_item x) (got_row (λ p. texts_then (whole_text sep) more (j.ps ++ p ∷ [])))
        (u.heap w) join_leads.safe

    pub join_stop : (y : X) (e : Stop) → Meets u (text_item {S = S} x) w y (Err e) → Meets u row v y (Err e)
    join_stop y e m = leads_call_stop (text_item x) (got_row (λ p. texts_then (whole_text sep) more (j.ps ++ p ∷ [])))
        y e join_leads m

    pub join_raise : (L : Lawful u) (y : X) (e : Fault) → Meets u (text_item {S = S} x) w y (Ok (Raise e)) →
        Meets u row v y (Ok (Raise e))
    join_raise L y e m = leads_ret (leads_call L (text_item x)
        (got_row (λ p. texts_then (whole_text sep) more (j.ps ++ p ∷ []))) y (Raise e) join_leads m)

    pub join_turn : (L : Lawful u) (between : List ℕ) (y : X) (longer : Option (List ℕ)) → between ≡ cond first [] sep
        → Adds u between text x w y (Ok (Is longer)) → Joining u sep row v more longer false y
    join_turn L between y longer b a = record {
      ps = j.ps ++ a.0 ∷ [];
      leads = leads_call L (text_item x) (got_row (λ p. texts_then (whole_text sep) more (j.ps ++ p ∷ []))) y (Is a.0)
          join_leads a.1;
      is = a.2 ∙ (ap (λ z. more_of z text a.0) (b ∙ ap (λ t. cond t [] sep) j.none) ∙
          (ap (λ z. more_of (cond (has_none j.ps) [] sep) z a.0) j.is ∙ added sep j.ps a.0));
      none = sym (some_now j.ps a.0);
    }

  module _ {sep : List ℕ} {row : Row S (Got Value)} {v w : X} {rest : List Value} {text : Option (List ℕ)}
      {first : Bool} (j : Joining u sep row v rest text first w) (end : rest ≡ []) where
    end_leads : Leads u row v (new_text (joined sep j.ps)) w
    unfolding texts_then
    end_leads = subst (λ l. Leads u row v (texts_then (whole_text sep) l j.ps) w) end j.leads

    pub end_safe : Safe u.partial (fitted_row {S = S} text) (u.heap w)
    end_safe = fitting_safe u (joined sep j.ps) text w j.is end_leads.safe

    pub end_met : (y : X) (res : Result (Got Value) Stop) → Meets u (fitted_row {S = S} text) w y res →
        Meets u row v y res
    end_met y res m = end_leads.finish y res (fitting_met u (joined sep j.ps) text w y res j.is m)

-- ---- strings that are made
module _ {S X : Type 0} {u : Sense S X} {row : Row S (Got Value)} {v w : X} (k : List Value → Row S (Got Value))
    (ps : List (List ℕ)) (vs : List Value) (p : List ℕ) (qs : List (List ℕ)) (pieces : ps ≡ p ∷ qs)
    (leads : Leads u row v (strings_then k ps vs) w) where
  made_leads : Leads u row v (bind (piece_row p) (λ x. strings_then k qs (vs ++ x ∷ []))) w
  unfolding strings_then
  made_leads = subst (λ l. Leads u row v (strings_then k l vs) w) pieces leads

  pub made_safe : Safe u.partial (piece_row {S = S} p) (u.heap w)
  made_safe = safe_first u.partial (piece_row p) (λ x. strings_then k qs (vs ++ x ∷ [])) (u.heap w) made_leads.safe

  pub made_stop : (y : X) (e : Stop) → Meets u (piece_row {S = S} p) w y (Err e) → Meets u row v y (Err e)
  made_stop y e m = leads_call_stop (piece_row p) (λ x. strings_then k qs (vs ++ x ∷ [])) y e made_leads m

  pub made_turn : (L : Lawful u) (y : X) (x : Value) → Meets u (piece_row {S = S} p) w y (Ok x) →
      Leads u row v (strings_then k qs (vs ++ x ∷ [])) y
  made_turn L y x m = leads_call L (piece_row p) (λ x. strings_then k qs (vs ++ x ∷ [])) y x made_leads m

  -- and put behind the others
  pub made_more : (L : Lawful u) (y : X) (x : Value) (all : List Value) → Meets u (piece_row {S = S} p) w y (Ok x) →
      all ≡ vs ++ x ∷ [] → Leads u row v (strings_then k qs all) y
  made_more L y x all m e = subst (λ xs. Leads u row v (strings_then k qs xs) y) (sym e) (made_turn L y x m)

-- all are made, and what is left is done with the values
module _ {S X : Type 0} {u : Sense S X} {row : Row S (Got Value)} {v w : X} (k : List Value → Row S (Got Value))
    (ps : List (List ℕ)) (vs all : List Value) (none : ps ≡ []) (same : all ≡ vs)
    (leads : Leads u row v (strings_then k ps vs) w) where
  all_leads : Leads u row v (k all) w
  unfolding strings_then
  all_leads = subst (λ xs. Leads u row v (k xs) w) (sym same)
      (subst (λ l. Leads u row v (strings_then k l vs) w) none leads)

  pub all_safe : Safe u.partial (k all) (u.heap w)
  all_safe = all_leads.safe

  pub all_met : (y : X) (res : Result (Got Value) Stop) → Meets u (k all) w y res → Meets u row v y res
  all_met y res m = all_leads.finish y res m

-- ---- a number of no method
unlike : {A : Type 0} (m n : ℕ) (x y : A) → m ≢ n → cond (m == n) x y ≡ y
unlike m n x y i = by (m == n) refl
  where
    by : (t : Bool) → (m == n) ≡ t → cond t x y ≡ y
    by true e = absurd (i (eqb-true m n e))
    by false e = refl

other_row : (S : Type 0) (m a : ℕ) (args : List Value) → m ≢ 25 → m ≢ 26 → m ≢ 27 → m ≢ 28 → m ≢ 29 → m ≢ 30 → m ≢ 31 →
    m ≢ 32 → m ≢ 33 → method_row {S = S} m a args ≡ Ret (Raise operand_fault)
unfolding method_row
other_row S m a args join split strip upper lower begins ends find replace =
    unlike m 25 _ _ join ∙ (unlike m 26 _ _ split ∙
    (unlike m 27 _ _ strip ∙ (unlike m 28 _ _ upper ∙
    (unlike m 29 _ _ lower ∙ (unlike m 30 _ _ begins ∙
    (unlike m 31 _ _ ends ∙ (unlike m 32 _ _ find ∙ unlike m 33 _ _ replace)))))))

pub other_met : {S X : Type 0} (u : Sense S X) (m a : ℕ) (args : List Value) (v : X) (res : Result (Got Value) Stop) →
    m ≢ 25 → m ≢ 26 → m ≢ 27 → m ≢ 28 → m ≢ 29 → m ≢ 30 → m ≢ 31 → m ≢ 32 → m ≢ 33
    → MatchResult res (λ g. g ≡ Raise operand_fault) (λ e. e ≡ OutOfMemory) → Meets u (method_row m a args) v v res
other_met {S = S} u m a args v res join split strip upper lower begins ends find replace r =
    subst (λ row. Meets u row v v res) (sym
    (other_row S m a args join split strip upper lower begins ends find replace))
    (meets_answer u (Raise operand_fault) v res r)
