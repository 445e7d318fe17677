-- Events one after another: what the loop over a list of them keeps.
use Rattle.std.proofs.Common.{◌≡◌, Bool, true, false, List, [], ◌∷◌, ◌++◌, append_assoc, append-nil, refl, sym, ◌∙◌, subst}
use Rattle.lock_run.specs.Prog.{Prog}
use Rattle.stm_core.specs.declared.events.Event.{Event}
use Rattle.stm_core.specs.declared.events.Reply.{Reply}
use Rattle.stm_core.specs.declared.events.Reply.TheVariants.{Skipped}
use Rattle.stm_segment.specs.CoreState.{CoreState}
use Rattle.stm_core.specs.Outside.{Outer}
use Rattle.stm_core.specs.Events.{Limits, may_make, Made, MadeIf, EventMade, EventsMade}
use Rattle.stm_core.specs.SaneCore.{LeadsBetween}

module _ {S : Type 0} (p : Prog S) (l : Limits) where
  -- an event whose condition holds was made
  pub made : (e : Event) (r : Reply) (o o1 : Outer S) → may_make l o.core e ≡ true → Made p l e r o o1 →
      EventMade p l e r o o1
  made e r o o1 h m = subst (λ b. MadeIf p l e b r o o1) (sym h) m

  -- and one whose condition doesn't was skipped
  pub skipped : (e : Event) (o : Outer S) → may_make l o.core e ≡ false → EventMade p l e Skipped o o
  skipped e o h = subst (λ b. MadeIf p l e b Skipped o o) (sym h) (refl, refl)

  -- What was made so far: whatever the events that are left are replied, all together were made.
  pub record SoFar (list : List Event) (done : List Reply) (rest : List Event) (o now : Outer S) : Type 0 where
    pub on : (more : List Reply) (o1 : Outer S) → EventsMade p l rest more now o1 →
        EventsMade p l list (done ++ more) o o1

  pub none_yet : (list : List Event) (o : Outer S) → SoFar list [] list o o
  none_yet list o = record { on = λ more o1 h. h }

  pub one_more : (list : List Event) (done : List Reply) (e : Event) (rest : List Event) (r : Reply)
      (o now u : Outer S) → SoFar list done (e ∷ rest) o now → EventMade p l e r now u →
      SoFar list (done ++ r ∷ []) rest o u
  one_more list done e rest r o now u s m =
      record {
        on = λ more o1 h. subst (λ z. EventsMade p l list z o o1) (sym (append_assoc done (r ∷ []) more))
            (s.on (r ∷ more) o1 (u, m, h));
      }

  pub all_made : (list : List Event) (done : List Reply) (o now : Outer S) → SoFar list done [] o now →
      EventsMade p l list done o now
  all_made list done o now s = subst (λ z. EventsMade p l list z o now) (append-nil done) (s.on [] now refl)

-- the condition that was tested is that of the event in hand
pub may_now : {S : Type 0} (l : Limits) (c : CoreState S) (b : Bool) (e e1 : Event) → b ≡ true → b ≡ may_make l c e →
    e ≡ e1 → may_make l c e1 ≡ true
may_now l c b e e1 n h q = subst (λ z. may_make l c z ≡ true) q (sym h ∙ n)

-- a call whose condition held made the event
pub made_now : {S : Type 0} (p : Prog S) (l : Limits) (A B : Outer S → Type 0) (b : Bool) (e e1 : Event) (r : Reply)
    (leads : Outer S → Outer S → Type 0) → b ≡ true → ((o : Outer S) → A o → b ≡ may_make l o.core e) → e ≡ e1 →
    LeadsBetween A B leads → ((o o1 : Outer S) → leads o o1 → Made p l e1 r o o1)
    → LeadsBetween A B (EventMade p l e r)
made_now {S} p l A B b e e1 r leads n h q led gives o a =
    let z = led o a in (
      z.0,
      z.1,
      made p l e r o z.0 (sym (h o a) ∙ n)
          (subst (λ (v : Event). Made p l v r o z.0) (sym q) (gives o z.0 z.2)),
    )

-- one turn of the loop, for another core of the same client and limits
pub turn : {C S : Type 0} (prog : C → Prog S) (client now_client : C) (l now_l : Limits) (list : List Event)
    (done done1 : List Reply) (e : Event) (rest more : List Event) (r : Reply) (o now u : Outer S) →
    SoFar (prog client) l list done rest o now
    → rest ≡ e ∷ more → now_client ≡ client → now_l ≡ l → EventMade (prog now_client) now_l e r now u →
    done1 ≡ done ++ r ∷ [] → SoFar (prog client) l list done1 more o u
turn {S = S} prog client now_client l now_l list done done1 e rest more r o now u s rest_is client_is l_is m done_is =
    let s1 : SoFar (prog client) l list done (e ∷ more) o now =
    subst (λ z. SoFar (prog client) l list done z o now) rest_is s in
    let m1 : EventMade (prog client) l e r now u = subst (λ z. EventMade (prog z) l e r now u) client_is
    (subst (λ z. EventMade (prog now_client) z e r now u) l_is m) in
    subst (λ z. SoFar (prog client) l list z more o u) (sym done_is)
    (one_more (prog client) l list done e more r o now u s1 m1)

-- the loop's end
pub ended : {S : Type 0} (p : Prog S) (l : Limits) (list : List Event) (done : List Reply) (rest : List Event)
    (o now : Outer S) → SoFar p l list done rest o now → rest ≡ [] → EventsMade p l list done o now
ended p l list done rest o now s e = all_made p l list done o now (subst (λ z. SoFar p l list done z o now) e s)
