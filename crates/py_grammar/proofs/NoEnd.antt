-- In what comes before it, there is no End.
use Rattle.std.proofs.Common.{◌≡◌, ℕ, Bool, true, false, ◌||◌, List, [], ◌∷◌, ◌++◌, Option, refl}
use Rattle.std.proofs.lemmas.Bool.{or_from, or_parts}
use Rattle.py_tokens.specs.declared.token.Token.{Token}
use Rattle.py_tokens.specs.declared.token.Place.{Place}
use Rattle.py_tree.specs.declared.expr.Expr.{Expr}
use Rattle.py_tree.specs.declared.expr.Link.{Link}
use Rattle.py_tree.specs.declared.expr.Pair.{Pair}
use Rattle.py_tree.specs.declared.expr.Named.{Named}
use Rattle.py_tree.specs.declared.expr.Trailer.{Trailer}
use Rattle.py_tree.specs.declared.expr.Sign.{Sign}
use Rattle.py_tree.specs.declared.expr.Sign.TheVariants as sign
use Rattle.py_tree.specs.declared.expr.Level.{Level}
use Rattle.py_tree.specs.declared.expr.Operator.{Operator}
use Rattle.py_tree.specs.declared.expr.Operator.TheVariants as op
use Rattle.py_grammar.specs.Words.{spelled, sign_word}
use Rattle.py_grammar.specs.Grammar as G
use Rattle.py_grammar.specs.Grammar.{Marks, Is, Strings, Tests, Commas, Exprs, Pairs, Links, Trailers, Trails, Maybe, Args}
use Rattle.py_grammar.specs.Statements as S
use Rattle.py_grammar.specs.Statements.{slices, Target, Targets, Loops, Equals}
use Rattle.py_grammar.specs.Statements.{Names, Renamed, Imports, Simple}
use Rattle.py_tree.specs.declared.stmt.Stmt.{Stmt}
use Rattle.py_tree.specs.declared.stmt.Imported.{Imported}
use Rattle.py_grammar.specs.Statements.{Line, Parameter, Later, Parameters, Params, Base, Caught, Statement, Suite as Suites, Block, Elifs, Else, Finally, Excepts, Compound}
use Rattle.py_grammar.specs.inner.Lines.{is_end}
use Rattle.py_tree.specs.declared.stmt.Param.{Param}
use Rattle.py_tree.specs.declared.stmt.Arm.{Arm}
use Rattle.py_tree.specs.declared.stmt.Clause.{Clause}
use Rattle.py_tree.specs.declared.stmt.Handler.{Handler}
use Rattle.py_grammar.specs.Statements.{Body}

abbrev pub has_end : List Token → Bool
has_end [] = false
has_end (t ∷ ts) = is_end t.kind || has_end ts

pub record NoEnd (ts : List Token) : Type 0 where
  pub none : has_end ts ≡ false

pub nil : NoEnd []
nil = record { none = refl }

pub step : {t : Token} {ts : List Token} → is_end t.kind ≡ false → NoEnd ts → NoEnd (t ∷ ts)
step {t = t} {ts = ts} e n = record { none = or_from (is_end t.kind) (has_end ts) e n.none }

append_none : (ts us : List Token) → has_end ts ≡ false → has_end us ≡ false → has_end (ts ++ us) ≡ false
append_none [] us e f = f
append_none (t ∷ ts) us e f = or_from (is_end t.kind) _ (or_parts (is_end t.kind) _ e).0
    (append_none ts us (or_parts (is_end t.kind) _ e).1 f)

pub no2 : {ts us : List Token} → NoEnd ts → NoEnd us → NoEnd (ts ++ us)
no2 {ts = ts} {us = us} n m = record { none = append_none ts us n.none m.none }

no_sign : (s : Sign) → is_end (sign_word s) ≡ false
no_sign sign.Plus = refl
no_sign sign.Minus = refl
no_sign sign.Invert = refl

no_spelled : (o : Operator) (p q : Place) → NoEnd (spelled o p q)
no_spelled op.Or p q = record { none = refl }
no_spelled op.And p q = record { none = refl }
no_spelled op.Less p q = record { none = refl }
no_spelled op.Greater p q = record { none = refl }
no_spelled op.Equal p q = record { none = refl }
no_spelled op.GreaterEqual p q = record { none = refl }
no_spelled op.LessEqual p q = record { none = refl }
no_spelled op.NotEqual p q = record { none = refl }
no_spelled op.In p q = record { none = refl }
no_spelled op.NotIn p q = record { none = refl }
no_spelled op.Is p q = record { none = refl }
no_spelled op.IsNot p q = record { none = refl }
no_spelled op.BitOr p q = record { none = refl }
no_spelled op.BitXor p q = record { none = refl }
no_spelled op.BitAnd p q = record { none = refl }
no_spelled op.ShiftLeft p q = record { none = refl }
no_spelled op.ShiftRight p q = record { none = refl }
no_spelled op.Plus p q = record { none = refl }
no_spelled op.Minus p q = record { none = refl }
no_spelled op.Times p q = record { none = refl }
no_spelled op.Divide p q = record { none = refl }
no_spelled op.Floor p q = record { none = refl }
no_spelled op.Remainder p q = record { none = refl }
no_spelled op.Power p q = record { none = refl }

no_Strings : {i0 : Marks} {i1 : List ℕ} {ts : List Token} → Strings i0 i1 ts → NoEnd ts
no_Strings (G.Strings.one _ _ _) = step refl nil
no_Strings (G.Strings.more _ _ _ h1) = step refl (no_Strings h1)
no_Strings (G.Strings.unicode _) = step refl nil

mutual
  no_Is : {i0 : Marks} {i1 : ℕ} {i2 : Expr} {ts : List Token} → Is i0 i1 i2 ts → NoEnd ts
  no_Is (G.Is.up _ _ h1) = no_Is h1
  no_Is (G.Is.name _ _ _) = step refl nil
  no_Is (G.Is.int _ _ _) = step refl nil
  no_Is (G.Is.strings h1) = no_Strings h1
  no_Is (G.Is.group _ _ h1) = step refl (no2 (no_Is h1) (step refl nil))
  no_Is (G.Is.unit _ _ _) = step refl (step refl nil)
  no_Is (G.Is.round _ _ h1) = step refl (no2 (no_Commas h1) (step refl nil))
  no_Is (G.Is.no_list _ _ _) = step refl (step refl nil)
  no_Is (G.Is.list _ _ h1) = step refl (no2 (no_Tests h1) (step refl nil))
  no_Is (G.Is.no_dict _ _ _) = step refl (step refl nil)
  no_Is (G.Is.dict _ _ h1) = step refl (no2 (no_Pairs h1) (step refl nil))
  no_Is (G.Is.trail h1 h2) = no2 (no_Is h1) (no_Trailers h2)
  no_Is (G.Is.power _ h1 h2) = no2 (no_Is h1) (step refl (no_Is h2))
  no_Is (G.Is.signed s _ h1) = step (no_sign s) (no_Is h1)
  no_Is (G.Is.chain _ h1 h2) = no2 (no_Is h1) (no_Links h2)
  no_Is (G.Is.negated _ h1) = step refl (no_Is h1)
  no_Is (G.Is.choice _ _ h1 h2 h3) = no2 (no2 (no_Is h1) (step refl (no_Is h2))) (step refl (no_Is h3))
  no_Is (G.Is.float _) = step refl nil
  no_Is (G.Is.long _) = step refl nil
  no_Is (G.Is.backquote _) = step refl nil
  no_Is (G.Is.lambda _) = step refl nil
  no_Is (G.Is.yielded _ _) = step refl (step refl nil)
  no_Is (G.Is.generator _ _ h1) = step refl (no2 (no_Is h1) (step refl nil))
  no_Is (G.Is.comprehension _ _ h1) = step refl (no2 (no_Is h1) (step refl nil))
  no_Is (G.Is.set_of _ _ h1) = step refl (no2 (no_Is h1) (step refl nil))
  no_Is (G.Is.dict_of _ _ _ h1 h2) = step refl (no2 (no2 (no_Is h1) (step refl (no_Is h2))) (step refl nil))
  no_Is (G.Is.set _ _ h1) = step refl (no2 (no_Is h1) (step refl nil))
  no_Is (G.Is.set_one _ _ h1) = step refl (no2 (no_Is h1) (step refl nil))

  no_Exprs : {i0 : Marks} {i1 : Expr} {ts : List Token} → Exprs i0 i1 ts → NoEnd ts
  no_Exprs (G.Exprs.single h1) = no_Is h1
  no_Exprs (G.Exprs.tuple h1) = no_Commas h1

  no_Tests : {i0 : Marks} {i1 : List Expr} {i2 : Bool} {ts : List Token} → Tests i0 i1 i2 ts → NoEnd ts
  no_Tests (G.Tests.only h1) = no_Is h1
  no_Tests (G.Tests.only_comma _ h1) = no2 (no_Is h1) (step refl nil)
  no_Tests (G.Tests.more_tests _ h1 h2) = no2 (no_Is h1) (step refl (no_Tests h2))

  no_Commas : {i0 : Marks} {i1 : List Expr} {ts : List Token} → Commas i0 i1 ts → NoEnd ts
  no_Commas (G.Commas.lone _ h1) = no2 (no_Is h1) (step refl nil)
  no_Commas (G.Commas.several _ h1 h2) = no2 (no_Is h1) (step refl (no_Tests h2))

  no_Pairs : {i0 : Marks} {i1 : List Pair} {ts : List Token} → Pairs i0 i1 ts → NoEnd ts
  no_Pairs (G.Pairs.pair _ h1 h2) = no2 (no_Is h1) (step refl (no_Is h2))
  no_Pairs (G.Pairs.pair_comma _ _ h1 h2) = no2 (no2 (no_Is h1) (step refl (no_Is h2))) (step refl nil)
  no_Pairs (G.Pairs.more_pairs _ _ h1 h2 h3) = no2 (no2 (no_Is h1) (step refl (no_Is h2))) (step refl (no_Pairs h3))

  no_Links : {i0 : Marks} {i1 : Level} {i2 : List Link} {ts : List Token} → Links i0 i1 i2 ts → NoEnd ts
  no_Links (G.Links.link _ o p q _ h1) = no2 (no_spelled o p q) (no_Is h1)
  no_Links (G.Links.more_links _ o p q _ h1 h2) = no2 (no2 (no_spelled o p q) (no_Is h1)) (no_Links h2)

  no_Trailers : {i0 : Marks} {i1 : List Trailer} {ts : List Token} → Trailers i0 i1 ts → NoEnd ts
  no_Trailers (G.Trailers.last h1) = no_Trails h1
  no_Trailers (G.Trailers.more_trailers h1 h2) = no2 (no_Trails h1) (no_Trailers h2)

  no_Trails : {i0 : Marks} {i1 : Trailer} {ts : List Token} → Trails i0 i1 ts → NoEnd ts
  no_Trails (G.Trails.attribute _ _ _ _) = step refl (step refl nil)
  no_Trails (G.Trails.index _ _ h1) = step refl (no2 (no_Exprs h1) (step refl nil))
  no_Trails (G.Trails.slice _ _ _ h1 h2) = step refl (no2 (no2 (no_Maybe h1) (step refl (no_Maybe h2))) (step refl nil))
  no_Trails (G.Trails.no_call _ _ _) = step refl (step refl nil)
  no_Trails (G.Trails.call _ _ h1) = step refl (no2 (no_Args h1) (step refl nil))
  no_Trails (G.Trails.generator_call _ _ h1) = step refl (no2 (no_Is h1) (step refl nil))
  no_Trails (G.Trails.long_slice _ _ _ h1 h2) =
      step refl (no2 (no2 (no_Maybe h1) (step refl (no_Maybe h2))) (step refl nil))
  no_Trails (G.Trails.slices _ _ _ h1 h2) =
      step refl (no2 (no2 (no_Maybe h1) (step refl (no_Maybe h2))) (step refl nil))

  no_Maybe : {i0 : Marks} {i1 : Option Expr} {ts : List Token} → Maybe i0 i1 ts → NoEnd ts
  no_Maybe (G.Maybe.nothing _) = nil
  no_Maybe (G.Maybe.just h1) = no_Is h1

  no_Args : {i0 : Marks} {i1 : List Expr} {i2 : List Named} {ts : List Token} → Args i0 i1 i2 ts → NoEnd ts
  no_Args (G.Args.arg h1) = no_Is h1
  no_Args (G.Args.arg_comma _ h1) = no2 (no_Is h1) (step refl nil)
  no_Args (G.Args.more_args _ h1 h2) = no2 (no_Is h1) (step refl (no_Args h2))
  no_Args (G.Args.named _ _ _ h1) = step refl (step refl (no_Is h1))
  no_Args (G.Args.named_comma _ _ _ _ h1) = step refl (step refl (no2 (no_Is h1) (step refl nil)))
  no_Args (G.Args.more_named _ _ _ _ h1 h2) = step refl (step refl (no2 (no_Is h1) (step refl (no_Args h2))))
  no_Args (G.Args.starred _) = step refl nil
  no_Args (G.Args.double_starred _) = step refl nil

no_Target : {x : Marks} {a : Expr} {ts : List Token} → Target x a ts → NoEnd ts
no_Target t = no_Is t.spells

no_Targets : {i0 : Marks} {i1 : List Expr} {ts : List Token} → Targets i0 i1 ts → NoEnd ts
no_Targets (S.Targets.one h1) = no_Target h1
no_Targets (S.Targets.more _ h1 h2) = no2 (no_Target h1) (step refl (no_Targets h2))

no_Loops : {i0 : Marks} {i1 : Expr} {ts : List Token} → Loops i0 i1 ts → NoEnd ts
no_Loops (S.Loops.single h1) = no_Target h1
no_Loops (S.Loops.lone _ h1) = no2 (no_Target h1) (step refl nil)
no_Loops (S.Loops.several _ h1 h2) = no2 (no_Target h1) (step refl (no_Targets h2))
no_Loops (S.Loops.several_comma _ _ h1 h2) = no2 (no2 (no_Target h1) (step refl (no_Targets h2))) (step refl nil)

no_Equals : {i0 : Marks} {i1 : List Expr} {i2 : Expr} {ts : List Token} → Equals i0 i1 i2 ts → NoEnd ts
no_Equals (S.Equals.value h1) = no_Exprs h1
no_Equals (S.Equals.equals _ h1 _ h2) = no2 (no_Exprs h1) (step refl (no_Equals h2))
no_Equals (S.Equals.yielded _) = step refl nil

no_Names : {i0 : List (List ℕ)} {ts : List Token} → Names i0 ts → NoEnd ts
no_Names (S.Names.one _ _) = step refl nil
no_Names (S.Names.more _ _ _ h1) = step refl (step refl (no_Names h1))

no_Renamed : {i0 : Option (List ℕ)} {ts : List Token} → Renamed i0 ts → NoEnd ts
no_Renamed (S.Renamed.same) = nil
no_Renamed (S.Renamed.renamed _ _ _) = step refl (step refl nil)

no_Imports : {i0 : (List ℕ → Bool)} {i1 : Marks} {i2 : List Imported} {ts : List Token} → Imports i0 i1 i2 ts → NoEnd ts
no_Imports (S.Imports.one _ _ _ _ _ h1) = step refl (no_Renamed h1)
no_Imports (S.Imports.more _ _ _ _ _ h1 h2) = step refl (no2 (no_Renamed h1) (step refl (no_Imports h2)))
no_Imports (S.Imports.wrong _ _ _ _) = step refl nil

no_Simple : {i0 : Marks} {i1 : Stmt} {ts : List Token} → Simple i0 i1 ts → NoEnd ts
no_Simple (S.Simple.run h1) = no_Exprs h1
no_Simple (S.Simple.assign h1) = no_Equals h1
no_Simple (S.Simple.augment _ _ _ _ h1 _ h2) = no2 (no_Exprs h1) (step refl (no_Exprs h2))
no_Simple (S.Simple.print_end _ _) = step refl nil
no_Simple (S.Simple.print _ h1) = step refl (no_Tests h1)
no_Simple (S.Simple.pass _ _) = step refl nil
no_Simple (S.Simple.break _ _) = step refl nil
no_Simple (S.Simple.continue _ _) = step refl nil
no_Simple (S.Simple.return_none _ _) = step refl nil
no_Simple (S.Simple.return _ h1) = step refl (no_Exprs h1)
no_Simple (S.Simple.raise_none _ _) = step refl nil
no_Simple (S.Simple.raise_one _ h1) = step refl (no_Is h1)
no_Simple (S.Simple.raise_two _ _ h1 h2) = step refl (no2 (no_Is h1) (step refl (no_Is h2)))
no_Simple (S.Simple.del _ h1) = step refl (no_Targets h1)
no_Simple (S.Simple.global _ _ h1) = step refl (no_Names h1)
no_Simple (S.Simple.assert_one _ h1) = step refl (no_Is h1)
no_Simple (S.Simple.assert_two _ _ h1 h2) = step refl (no2 (no_Is h1) (step refl (no_Is h2)))
no_Simple (S.Simple.import _ h1) = step refl (no_Imports h1)
no_Simple (S.Simple.from _ _ _ _ _ h1) = step refl (step refl (step refl (no_Imports h1)))
no_Simple (S.Simple.exec _) = step refl nil
no_Simple (S.Simple.yield _) = step refl nil
no_Simple (S.Simple.augment_yield _ _ _ _ _ h1 _) = no2 (no_Exprs h1) (step refl (step refl nil))
no_Simple (S.Simple.print_to _ _) = step refl (step refl nil)
no_Simple (S.Simple.traceback _ _ _ h1 h2) = step refl (no2 (no2 (no_Is h1) (step refl (no_Is h2))) (step refl nil))
no_Simple (S.Simple.from_wrong _ _ _ _) = step refl (step refl nil)

no_Line : {i0 : Marks} {i1 : List Stmt} {ts : List Token} → Line i0 i1 ts → NoEnd ts
no_Line (S.Line.end _ h1) = no2 (no_Simple h1) (step refl nil)
no_Line (S.Line.end_semicolon _ _ h1) = no2 (no_Simple h1) (step refl (step refl nil))
no_Line (S.Line.more _ h1 h2) = no2 (no_Simple h1) (step refl (no_Line h2))

no_Parameter : {i0 : Marks} {i1 : Bool} {i2 : Param} {ts : List Token} → Parameter i0 i1 i2 ts → NoEnd ts
no_Parameter (S.Parameter.plain _ _ _) = step refl nil
no_Parameter (S.Parameter.default _ _ _ h1) = step refl (step refl (no_Is h1))

no_Parameters : {i0 : Marks} {i1 : Bool} {i2 : List Param} {ts : List Token} → Parameters i0 i1 i2 ts → NoEnd ts
no_Parameters (S.Parameters.one _ _ _ h1) = no_Parameter h1
no_Parameters (S.Parameters.one_comma _ _ _ _ h1) = no2 (no_Parameter h1) (step refl nil)
no_Parameters (S.Parameters.more _ _ _ _ h1 h2) = no2 (no_Parameter h1) (step refl (no_Parameters h2))
no_Parameters (S.Parameters.starred _ _) = step refl nil
no_Parameters (S.Parameters.double_starred _ _) = step refl nil
no_Parameters (S.Parameters.tuple _ _) = step refl nil

no_Params : {i0 : Marks} {i1 : List Param} {ts : List Token} → Params i0 i1 ts → NoEnd ts
no_Params (S.Params.none _) = nil
no_Params (S.Params.some h1) = no_Parameters h1

no_Base : {i0 : Marks} {i1 : Option Expr} {ts : List Token} → Base i0 i1 ts → NoEnd ts
no_Base (S.Base.none _) = nil
no_Base (S.Base.round _ _ h1) = step refl (no2 (no_Maybe h1) (step refl nil))
no_Base (S.Base.bases _ _ h1) = step refl (no2 (no_Is h1) (step refl nil))

no_Caught : {i0 : Marks} {i1 : Option Expr} {i2 : Option Expr} {ts : List Token} → Caught i0 i1 i2 ts → NoEnd ts
no_Caught (S.Caught.all _) = nil
no_Caught (S.Caught.test h1) = no_Is h1
no_Caught (S.Caught.named _ h1 h2) = no2 (no_Is h1) (step refl (no_Target h2))
no_Caught (S.Caught.comma _ h1 h2) = no2 (no_Is h1) (step refl (no_Target h2))

mutual
  pub no_Statement : {i0 : Marks} {i1 : List Stmt} {ts : List Token} → Statement i0 i1 ts → NoEnd ts
  no_Statement (S.Statement.line h1) = no_Line h1
  no_Statement (S.Statement.compound h1) = no_Compound h1
  no_Statement (S.Statement.decorated _) = step refl nil
  no_Statement (S.Statement.with' _) = step refl nil

  no_Suite : {i0 : Marks} {i1 : List Stmt} {ts : List Token} → Suites i0 i1 ts → NoEnd ts
  no_Suite (S.Suite.last_of h1) = no_Statement h1
  no_Suite (S.Suite.then h1 h2) = no2 (no_Statement h1) (no_Suite h2)

  no_Block : {i0 : Marks} {i1 : List Stmt} {ts : List Token} → Block i0 i1 ts → NoEnd ts
  no_Block (S.Block.short h1) = no_Line h1
  no_Block (S.Block.long _ _ _ h1) = step refl (step refl (no2 (no_Suite h1) (step refl nil)))

  no_Elifs : {i0 : Marks} {i1 : List Arm} {ts : List Token} → Elifs i0 i1 ts → NoEnd ts
  no_Elifs (S.Elifs.no_elif _) = nil
  no_Elifs (S.Elifs.elif _ _ h1 h2 h3) = step refl (no2 (no2 (no_Is h1) (step refl (no_Block h2))) (no_Elifs h3))

  no_Else : {i0 : Marks} {i1 : Option Clause} {ts : List Token} → Else i0 i1 ts → NoEnd ts
  no_Else (S.Else.no_else _) = nil
  no_Else (S.Else.else' _ _ h1) = step refl (step refl (no_Block h1))

  no_Finally : {i0 : Marks} {i1 : Option Clause} {ts : List Token} → Finally i0 i1 ts → NoEnd ts
  no_Finally (S.Finally.no_finally _) = nil
  no_Finally (S.Finally.finally _ _ h1) = step refl (step refl (no_Block h1))

  no_Excepts : {i0 : Marks} {i1 : List Handler} {ts : List Token} → Excepts i0 i1 ts → NoEnd ts
  no_Excepts (S.Excepts.except_one _ _ h1 h2) = step refl (no2 (no_Caught h1) (step refl (no_Block h2)))
  no_Excepts (S.Excepts.except_more _ _ h1 h2 h3) =
      step refl (no2 (no2 (no_Caught h1) (step refl (no_Block h2))) (no_Excepts h3))

  no_Compound : {i0 : Marks} {i1 : Stmt} {ts : List Token} → Compound i0 i1 ts → NoEnd ts
  no_Compound (S.Compound.if' _ _ h1 h2 h3 h4) =
      step refl (no2 (no2 (no2 (no_Is h1) (step refl (no_Block h2))) (no_Elifs h3)) (no_Else h4))
  no_Compound (S.Compound.while _ _ h1 h2 h3) = step refl (no2 (no2 (no_Is h1) (step refl (no_Block h2))) (no_Else h3))
  no_Compound (S.Compound.for' _ _ _ h1 h2 h3 h4) =
      step refl (no2 (no2 (no2 (no_Loops h1) (step refl (no_Exprs h2))) (step refl (no_Block h3))) (no_Else h4))
  no_Compound (S.Compound.try _ _ h1 h2 h3 h4) =
      step refl (step refl (no2 (no2 (no2 (no_Block h1) (no_Excepts h2)) (no_Else h3)) (no_Finally h4)))
  no_Compound (S.Compound.try_finally _ _ h1 h2) = step refl (step refl (no2 (no_Block h1) (no_Finally h2)))
  no_Compound (S.Compound.def _ _ _ _ _ _ h1 h2) =
      step refl (step refl (step refl (no2 (no_Params h1) (step refl (step refl (no_Block h2))))))
  no_Compound (S.Compound.class _ _ _ _ h1 h2) = step refl (step refl (no2 (no_Base h1) (step refl (no_Block h2))))
