-- What a view gave last tells why a step over it was cut.
use Rattle.std.proofs.Common.{◌≡◌, Result, Ok, Err, IfErr, OnErr, refl, ap, subst, sym, ◌∙◌}
use Rattle.py_data.specs.declared.stop.Stop.{Stop}
use Rattle.stm_segment.specs.declared.halt.Halt.{Halt}
use Rattle.stm_segment.specs.declared.halt.Halt.TheVariants.{Lost, NeedSolo, Full, ReadFault, WriteFault, ErrFault, OutOfMemory}
use Rattle.stm_segment.specs.inner.Halts.{stop_of, halt_for, told}

given_again : (h : Halt) → halt_for (stop_of h) h ≡ h
given_again (Lost f) = refl
given_again NeedSolo = refl
given_again (Full r n l) = refl
given_again ReadFault = refl
given_again WriteFault = refl
given_again ErrFault = refl
given_again OutOfMemory = refl

-- where its word is the Stop that was given
pub halt_given : (e : Stop) (h : Halt) → e ≡ stop_of h → halt_for e h ≡ h
halt_given e h w = ap (λ z. halt_for z h) w ∙ given_again h

-- what is told of a step that was cut holds of the Halt that is written down
pub on_err_told : {T : Type 0} (P : Halt → Type 0) (r : Result T Stop) (q before h : Halt) → q ≡ told r before h →
    IfErr r (λ e. P (halt_for e h)) → OnErr r (P q)
on_err_told P (Ok a) q before h e k = tt
on_err_told P (Err a) q before h e k = subst P (sym e) k
