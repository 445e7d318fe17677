-- The steps of a script, over any view.
use Rattle.std.proofs.Common.{◌≡◌, ◌↔◌, ℕ, ◌+◌, Bool, true, List, length, Option, Some, None, Ok, Err, IsTrue, eqb, sym, ap, subst, ◌∙◌}
use Rattle.std.proofs.lemmas.Bool.{eqb-true, eq-eqb}
use Rattle.std.specs.Bool.{Decides}
use Rattle.py_data.specs.declared.value.Addr.{Addr}
use Rattle.py_data.specs.declared.stop.Stop.{Stop}
use Rattle.py_data.specs.Row.{Row, Ret}
use Rattle.py_data.specs.Sense.{Sense, Bracket, IsBracket, Run, Stopped, Meets, Safe}
use Rattle.py_data.proofs.Parts.{safe_shown}
use Rattle.py_data.proofs.Rows.{run_bind, run_ret, stop_first}
use Rattle.lock_run.specs.declared.client.Outcome.{Outcome}
use Rattle.lock_run.specs.declared.client.Outcome.TheVariants.{Ended}
use Rattle.lock_run.specs.declared.script.Act.{Act}
use Rattle.lock_run.specs.declared.script.ScriptState.{ScriptState}
use Rattle.lock_run.specs.declared.script.ScriptState.TheVariants.{Prelude, Acts, Over}
use Rattle.lock_run.specs.Client.{StandsIn, Stepped, StepStopped}
use Rattle.lock_run.specs.Script.{prelude_row, act_row, act_at, now_done, at_act, script_row, IsStanding, ScriptSound}
use Rattle.lock_run.specs.inner.ScriptLaws.{one_of}
use Rattle.lock_run.specs.inner.ScriptSafe.{act_safe}

-- the acts of a thread have the records that they ask for
pub perform_safe : {X : Type 0} (u : Sense ScriptState X) (b : Bracket ScriptState X) (p : Bool) (s : ScriptState)
    (number done : ℕ) (cells : List Addr) (list : Addr) (act : Act) (v v1 : X) → IsBracket u b → b.opens v v1
    → StandsIn ScriptSound p (u.heap v) s → s ≡ Acts number done cells list →
    Safe {S = ScriptState} p (act_row cells list act) (u.heap v1)
perform_safe u b p s number done cells list act v v1 bracket opens i e =
    let stands = i.standing in
    let l : IsStanding i.heap s = one_of i.heap stands.0 stands.1 s stands.2 stands.3.all in
    let safe = safe_shown p (act_row {S = ScriptState} cells list act) (u.heap v) i.heap i.shown
    (act_safe ScriptState i.heap cells list act (subst (IsStanding i.heap) e l)) in
    subst (λ h. Safe {S = ScriptState} p (act_row cells list act) h) (sym (bracket.opened v v1 opens).0) safe

-- a thread that was ended
pub has_ended : (out : Outcome) (s1 : ScriptState) → out ≡ Ended → s1 ≡ Over →
    ◌≡◌ {A = Outcome × ScriptState} (out, s1) (Ended, Over)
has_ended out s1 e f = let start : ◌≡◌ {A = Outcome × ScriptState} (out, s1) (Ended, s1) = ap (λ o. (o, s1)) e in
    start ∙ ap (λ s. (Ended, s)) f

module _ {X : Type 0} (u : Sense ScriptState X) (b : Bracket ScriptState X) (n : ℕ) (lists : List (List Act))
    (s : ScriptState) (v v1 : X) (opens : b.opens v v1) where
  abbrev then_over : Unit {0} → Row ScriptState (Outcome × ScriptState)
  then_over _ = Ret (Ended, Over)

  -- the step of thread 0
  pub prelude_done : (count : ℕ) (q : Outcome × ScriptState) (w : X) → count ≡ length lists → s ≡ Prelude →
      q ≡ (Ended, Over) → Meets u (prelude_row n count) v1 w (Ok tt) → Stepped u b (script_row n lists s) v q.0 q.1 w
  unfolding script_row Meets
  prelude_done count q w c e ends m =
      let all : Meets u (prelude_row n (length lists)) v1 w (Ok tt) =
      subst (λ k. Meets u (prelude_row n k) v1 w (Ok tt)) c m in
      let r = run_bind u (prelude_row n (length lists)) then_over v1 w w tt (Ended, Over) all
      (run_ret u (Ended, Over) w) in (
        v1,
        opens,
        subst (λ z. Run u (script_row n lists s) v1 z w) (sym ends)
            (subst (λ z. Run u (script_row n lists z) v1 (Ended, Over) w) (sym e) r),
      )

  pub prelude_stopped : (count : ℕ) (stop : Stop) (w w1 : X) → count ≡ length lists → s ≡ Prelude →
      Meets u (prelude_row n count) v1 w (Err stop) → b.undoes w w1 → StepStopped u b (script_row n lists s) v stop w1
  unfolding script_row Meets
  prelude_stopped count stop w w1 c e m un =
      let all : Meets u (prelude_row n (length lists)) v1 w (Err stop) =
      subst (λ k. Meets u (prelude_row n k) v1 w (Err stop)) c m in (
        v1,
        w,
        opens,
        subst (λ q. Stopped u (script_row n lists q) v1 stop w) (sym e)
            (stop_first u (prelude_row n (length lists)) then_over v1 w stop all),
        un,
      )

  module _ (number done : ℕ) (cells : List Addr) (list : Addr) (e : s ≡ Acts number done cells list) where
    after : Unit {0} → Row ScriptState (Outcome × ScriptState)
    after _ = Ret (now_done (act_at lists number (done + 1)) number (done + 1) cells list)

    -- an act, after which the thread has this act left or none
    pub act_done : (act : Act) (next : Option Act) (q : Outcome × ScriptState) (w : X) →
        act_at lists number done ≡ Some act → act_at lists number (done + 1) ≡ next →
        q ≡ now_done next number (done + 1) cells list
        → Meets u (act_row cells list act) v1 w (Ok tt) → Stepped u b (script_row n lists s) v q.0 q.1 w
    unfolding script_row Meets after
    act_done act next q w is left ends m =
        let p = now_done next number (done + 1) cells list in
        let last : Run u (after tt) w p w = subst (λ o. Run u (Ret (now_done o number (done + 1) cells list)) w p w)
        (sym left) (run_ret u p w) in
        let r = run_bind u (act_row cells list act) after v1 w w tt p m last in (
          v1,
          opens,
          subst (λ z. Run u (script_row n lists s) v1 z w) (sym ends)
              (subst (λ z. Run u (script_row n lists z) v1 p w) (sym e)
              (subst (λ o. Run u (at_act lists number done cells list o) v1 p w) (sym is) r)),
        )

    pub act_stopped : (act : Act) (stop : Stop) (w w1 : X) → act_at lists number done ≡ Some act →
        Meets u (act_row cells list act) v1 w (Err stop) → b.undoes w w1 →
        StepStopped u b (script_row n lists s) v stop w1
    unfolding script_row Meets after
    act_stopped act stop w w1 is m un =
        let r = stop_first u (act_row cells list act) after v1 w stop m in (
          v1,
          w,
          opens,
          subst (λ z. Stopped u (script_row n lists z) v1 stop w) (sym e)
              (subst (λ o. Stopped u (at_act lists number done cells list o) v1 stop w) (sym is) r),
          un,
        )

    -- no act is left
    pub none_left : (q : Outcome × ScriptState) → act_at lists number done ≡ None → q ≡ (Ended, Over) →
        Stepped u b (script_row n lists s) v q.0 q.1 v1
    unfolding script_row
    none_left q is ends = (
      v1,
      opens,
      subst (λ z. Run u (script_row n lists s) v1 z v1) (sym ends)
          (subst (λ z. Run u (script_row n lists z) v1 (Ended, Over) v1) (sym e)
          (subst (λ o. Run u (at_act lists number done cells list o) v1 (Ended, Over) v1) (sym is)
          (run_ret u (Ended, Over) v1))),
    )

-- ---- equal lists of addresses
pub same_lists : (xs ys zs ws : List Addr) (test : Bool) → xs ≡ zs → ys ≡ ws → Decides test (xs ≡ ys) →
    IsTrue test ↔ (zs ≡ ws)
same_lists xs ys zs ws test e f d = ((λ t. sym e ∙ d.0 (is_true t) ∙ f), λ q. true_is (d.1 (e ∙ q ∙ sym f)))
  where
    is_true : IsTrue test → test ≡ true
    is_true t = t

    true_is : test ≡ true → IsTrue test
    true_is t = t

pub addresses_decide : (a b : Addr) → Decides (eqb a.0 b.0) (a ≡ b)
addresses_decide a b = (
  (λ t. let q : a.0 ≡ b.0 = eqb-true a.0 b.0 t in let f : ℕ → Addr = λ n. record { 0 = n } in
      ap f q),
  λ e. eq-eqb a.0 b.0 (ap (λ x. x.0) e),
)
