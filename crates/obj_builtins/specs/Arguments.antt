-- What arguments are to a builtin function: how many, and of which forms. States `docs/LANGUAGE.md`, "Builtins".
use Rattle.std.specs.Prelude.{List, [], ◌∷◌}
use Rattle.py_base.specs.declared.kind.Kind.{Kind}
use Rattle.py_base.specs.declared.kind.Kind.TheVariants.{Str, Tuple, List as ListKind, Dict, Class, Instance}
use Rattle.py_data.specs.declared.value.Addr.{Addr}
use Rattle.py_data.specs.declared.value.Value.{Value}
use Rattle.py_data.specs.declared.value.Value.TheVariants.{Bool as BoolValue, Int, Ref, Builtin}
use Rattle.py_data.specs.Looking.{kind_row}
use Rattle.py_data.specs.Row.{Row, Ret, bind}
use Rattle.obj_builtins.specs.declared.arguments.Few.{Few}
use Rattle.obj_builtins.specs.declared.arguments.Few.TheVariants.{Nothing, One, Many}
use Rattle.obj_builtins.specs.declared.arguments.Form.{Form}
use Rattle.obj_builtins.specs.declared.arguments.Form.TheVariants.{Number, Truth, Text, Items, ListOf, Pairs, Class as ClassForm, Object, Named, Other}

-- no argument, one alone, or more
abbrev pub few : List Value → Few
few [] = Nothing
few (x ∷ []) = One x
few (x ∷ y ∷ zs) = Many

-- what a record is to a builtin function, by its kind
abbrev pub form_of : Kind → Addr → Form
form_of Str a = Text a
form_of Tuple a = Items a
form_of ListKind a = ListOf
form_of Dict a = Pairs
form_of Class a = ClassForm a
form_of Instance a = Object a
form_of _ a = Other

unfoldable pub form_at : {S : Type 0} → Addr → Row S Form
form_at a = bind (kind_row a.0) (λ k. Ret (form_of k a))

-- what a value is: of a reference the record's kind is looked at
unfoldable pub form_row : {S : Type 0} → Value → Row S Form
form_row (Ref a) = form_at a
form_row (Int i) = Ret (Number i)
form_row (BoolValue b) = Ret (Truth b)
form_row (Builtin b) = Ret (Named b)
form_row _ = Ret Other
