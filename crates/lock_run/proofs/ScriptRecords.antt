-- The records of a script: the loops that make the Cells and start the threads.
use Rattle.std.proofs.Common.{◌≡◌, ℕ, zero, suc, ◌+◌, ◌-◌, ◌<◌, ◌≤◌, List, [], Ok, Err, sym, subst, arith}
use Rattle.py_data.specs.declared.value.Addr.{Addr}
use Rattle.py_data.specs.declared.stop.Stop.{Stop}
use Rattle.py_data.specs.declared.stop.Stop.TheVariants.{OutOfMemory}
use Rattle.py_data.specs.Row.{Do, Make, Start}
use Rattle.py_data.specs.Sense.{Sense, Lawful, Meets, IsLive}
use Rattle.py_data.specs.inner.Rest.{Leads}
use Rattle.py_data.proofs.Steps.{leads_do, leads_ret, leads_refused, leads_own}
use Rattle.lock_run.specs.declared.script.ScriptState.{ScriptState}
use Rattle.lock_run.specs.declared.script.ScriptState.TheVariants.{Acts}
use Rattle.lock_run.specs.Script.{zero_cell, with_cell, make_cells, start_threads}
use Rattle.lock_run.specs.inner.ScriptSafe.{cells_safe, threads_safe}

-- ---- the loop that makes the Cells, before its turn i
pub record Making {S X : Type 0} (u : Sense S X) (n i : ℕ) (cells : List Addr) (v w : X) : Type 0 where
  pub leads : Leads u (make_cells {S = S} n []) v (make_cells (n - i) cells) w

left_over : (n i : ℕ) → i < n → n - i ≡ suc (n - (i + 1))
left_over n i h = omega arith

none_left : (n i : ℕ) → n ≤ i → n - i ≡ zero
none_left n i h = omega arith

all_left : (n : ℕ) → n - 0 ≡ n
all_left n = omega arith

module _ {S X : Type 0} {u : Sense S X} {n : ℕ} {v : X} where
  pub making_first : IsLive u v → Making u n 0 [] v v
  making_first l = record {
    leads = subst (λ k. Leads u (make_cells {S = S} n []) v (make_cells k []) v)
        (sym (all_left n)) (record { finish = λ x res m. m; safe = cells_safe S u.partial n [] (u.heap v); live = l });
  }

  module _ {i : ℕ} {cells : List Addr} {w : X} (m : Making u n i cells v w) where
    making_next : i < n → Leads u (make_cells {S = S} n []) v
        (Do (Make zero_cell) (λ a. make_cells (n - (i + 1)) (with_cell cells a))) w
    unfolding make_cells
    making_next h = subst (λ k. Leads u (make_cells {S = S} n []) v (make_cells k cells) w) (left_over n i h) m.leads

    pub making_more : (L : Lawful u) (a : ℕ) (x : X) → i < n → u.does (Make zero_cell) w a x →
        Making u n (i + 1) (with_cell cells a) v x
    making_more L a x h d = record { leads = leads_do L a (making_next h) d }

    pub making_refused : (e : Stop) (x : X) → i < n → u.refuses (Make zero_cell) w e x →
        Meets u (make_cells {S = S} n []) v x (Err e)
    making_refused e x h d = leads_refused (making_next h) d

    pub making_starved : Meets u (make_cells {S = S} n []) v w (Err OutOfMemory)
    making_starved = leads_own m.leads

    pub making_last : n ≤ i → Meets u (make_cells {S = S} n []) v w (Ok cells)
    unfolding make_cells
    making_last h = leads_ret (subst (λ k. Leads u (make_cells {S = S} n []) v (make_cells k cells) w)
        (none_left n i h) m.leads)

-- ---- the loop that starts the threads, before its turn i
pub record Starting {X : Type 0} (u : Sense ScriptState X) (n i : ℕ) (cells : List Addr) (list : Addr) (v w : X) : Type
    0 where
  pub leads : Leads u (start_threads n 0 cells list) v (start_threads (n - i) i cells list) w

module _ {X : Type 0} {u : Sense ScriptState X} {n : ℕ} {cells : List Addr} {list : Addr} {v : X} where
  pub starting_first : IsLive u v → Starting u n 0 cells list v v
  starting_first l = record {
    leads = subst
        (λ k. Leads u (start_threads n 0 cells list) v (start_threads k 0 cells list) v) (sym (all_left n))
        (record { finish = λ x res m. m; safe = threads_safe u.partial n 0 cells list (u.heap v); live = l });
  }

  module _ {i : ℕ} {w : X} (m : Starting u n i cells list v w) where
    starting_next : i < n → Leads u (start_threads n 0 cells list) v
        (Do (Start (Acts i 0 cells list)) (λ _. start_threads (n - (i + 1)) (i + 1) cells list)) w
    unfolding start_threads
    starting_next h = subst (λ k. Leads u (start_threads n 0 cells list) v (start_threads k i cells list) w)
        (left_over n i h) m.leads

    pub starting_more : (L : Lawful u) (x : X) → i < n → u.does (Start (Acts i 0 cells list)) w tt x →
        Starting u n (i + 1) cells list v x
    starting_more L x h d = record { leads = leads_do L tt (starting_next h) d }

    pub starting_refused : (e : Stop) (x : X) → i < n → u.refuses (Start (Acts i 0 cells list)) w e x →
        Meets u (start_threads n 0 cells list) v x (Err e)
    starting_refused e x h d = leads_refused (starting_next h) d

    pub starting_starved : Meets u (start_threads n 0 cells list) v w (Err OutOfMemory)
    starting_starved = leads_own m.leads

    pub starting_last : n ≤ i → Meets u (start_threads n 0 cells list) v w (Ok tt)
    unfolding start_threads
    starting_last h = leads_ret (subst (λ k. Leads u (start_threads n 0 cells list) v (start_threads k i cells list) w)
        (none_left n i h) m.leads)
