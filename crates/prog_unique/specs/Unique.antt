-- No variable is bound where one of that number is bound already, in a program with source matches. As `IsUnique` of ir_plain says it of the plain tree.
use Rattle.std.specs.Prelude.{ℕ, Bool, Option, List, [], ◌∷◌}
use Rattle.mlc_names.specs.declared.label.Label.{Label}
use Rattle.mlc_base.specs.declared.place.Place.{Place}
use Rattle.mlc_prims.specs.LitOf.{Literal}
use Rattle.mlc_prims.specs.declared.basis.BasisPrimitive.{BasisPrimitive}
use Rattle.ty_core.specs.Types.{Typ}
use Rattle.ty_core.specs.declared.name.TyName.{TyName}
use Rattle.ty_core.specs.declared.scheme.Quantified.{Quantified}
use Rattle.ir_plain.specs.Unique.{IsOutside}
use Rattle.ir_poly.specs.Prog.{Exc, Pat, any_pat, variable_pat, constant_pat, con_pat, con_of_pat, ref_of_pat, exn_pat, exn_of_pat, fields_pat, as_pat, PatFields, no_pats, a_pat, Exp, constant_exp, variable_exp, own_exp, con_exp, ref_exp, exn_exp, prim_exp, fields_exp, let_exp, app_exp, case_exp, chain_exp, handle_exp, raise_exp, fn_exp, counted_exp, Fields, no_fields, a_field, Chain, only, link, Rules, no_rules, a_rule, Fun, last, by_rules, more, Decs, no_decs, val_dec, exception_dec, counted_dec, Binds, no_binds, a_bind, Funs, no_funs, a_fun}

-- bs are the variables that are bound already, bs' those that are bound afterwards

-- the variables of a pattern, each new where it stands
mutual
  pub data PatUnique : List ℕ → Pat → List ℕ → Type 0 where
    any_unique : {bs : List ℕ} → PatUnique bs any_pat bs
    variable_unique : {bs : List ℕ} {x : ℕ} → IsOutside x bs → PatUnique bs (variable_pat x) (x ∷ bs)
    constant_unique : {bs : List ℕ} {l : Literal} → PatUnique bs (constant_pat l) bs
    con_unique : {bs : List ℕ} {c : ℕ} → PatUnique bs (con_pat c) bs
    con_of_unique : {bs bs' : List ℕ} {c : ℕ} {t : Typ} {p : Pat} → PatUnique bs p bs' → PatUnique bs (con_of_pat c t p) bs'
    ref_of_unique : {bs bs' : List ℕ} {t : Typ} {p : Pat} → PatUnique bs p bs' → PatUnique bs (ref_of_pat t p) bs'
    exn_unique : {bs : List ℕ} {x : Exc} → PatUnique bs (exn_pat x) bs
    exn_of_unique : {bs bs' : List ℕ} {x : Exc} {t : Typ} {p : Pat} → PatUnique bs p bs' → PatUnique bs (exn_of_pat x t p) bs'
    fields_unique : {bs bs' : List ℕ} {further : Bool} {ps : PatFields} → PatsUnique bs ps bs' → PatUnique bs (fields_pat further ps) bs'
    as_unique : {bs bs' : List ℕ} {x : ℕ} {p : Pat} → IsOutside x bs → PatUnique (x ∷ bs) p bs' → PatUnique bs (as_pat x p) bs'

  pub data PatsUnique : List ℕ → PatFields → List ℕ → Type 0 where
    no_pats_unique : {bs : List ℕ} → PatsUnique bs no_pats bs
    pats_unique : {bs cs bs' : List ℕ} {l : Label} {t : Typ} {p : Pat} {ps : PatFields} → PatUnique bs p cs → PatsUnique cs ps bs' → PatsUnique bs (a_pat l t p ps) bs'

-- the names of a function in front, and those of a group
abbrev pub names_onto : List ℕ → List ℕ → List ℕ
names_onto [] bs = bs
names_onto (x ∷ xs) bs = x ∷ names_onto xs bs

abbrev pub funs_onto : Funs → List ℕ → List ℕ
funs_onto no_funs bs = bs
funs_onto (a_fun xs t f fs) bs = names_onto xs (funs_onto fs bs)

-- they are new, and each once
pub data NamesAreNew (bs : List ℕ) : List ℕ → Type 0 where
  no_names : NamesAreNew bs []
  new_name : {x : ℕ} {xs : List ℕ} → IsOutside x (names_onto xs bs) → NamesAreNew bs xs → NamesAreNew bs (x ∷ xs)

pub data FunsAreNew (bs : List ℕ) : Funs → Type 0 where
  no_new_funs : FunsAreNew bs no_funs
  new_funs : {xs : List ℕ} {t : Typ} {f : Fun} {fs : Funs} → NamesAreNew (funs_onto fs bs) xs → FunsAreNew bs fs → FunsAreNew bs (a_fun xs t f fs)

mutual
  pub data IsUnique : List ℕ → Exp → Type 0 where
    constant_exp_unique : {bs : List ℕ} {l : Literal} {t : Typ} → IsUnique bs (constant_exp l t)
    variable_exp_unique : {bs : List ℕ} {x : ℕ} {ts : List Typ} {t : Typ} → IsUnique bs (variable_exp x ts t)
    own_unique : {bs : List ℕ} {x : ℕ} {t : Typ} → IsUnique bs (own_exp x t)
    con_exp_unique : {bs : List ℕ} {c : ℕ} {y : TyName} {ts : List Typ} {t : Typ} → IsUnique bs (con_exp c y ts t)
    ref_unique : {bs : List ℕ} {a t : Typ} → IsUnique bs (ref_exp a t)
    exn_exp_unique : {bs : List ℕ} {x : Exc} {t : Typ} → IsUnique bs (exn_exp x t)
    prim_unique : {bs : List ℕ} {p : BasisPrimitive} {ts : List Typ} {t : Typ} → IsUnique bs (prim_exp p ts t)
    record_unique : {bs : List ℕ} {t : Typ} {fs : Fields} → FieldsUnique bs fs → IsUnique bs (fields_exp t fs)
    let_unique : {bs bs' : List ℕ} {t : Typ} {ds : Decs} {e : Exp} → DecsUnique bs ds bs' → IsUnique bs' e → IsUnique bs (let_exp t ds e)
    app_unique : {bs : List ℕ} {place : Place} {t : Typ} {f a : Exp} → IsUnique bs f → IsUnique bs a → IsUnique bs (app_exp place t f a)
    case_unique : {bs : List ℕ} {place : Place} {t : Typ} {e : Exp} {rs : Rules} → IsUnique bs e → RulesUnique bs rs → IsUnique bs (case_exp place t e rs)
    chain_unique : {bs : List ℕ} {b : Bool} {t : Typ} {c : Chain} → ChainUnique bs c → IsUnique bs (chain_exp b t c)
    handle_unique : {bs : List ℕ} {t : Typ} {e : Exp} {rs : Rules} → IsUnique bs e → RulesUnique bs rs → IsUnique bs (handle_exp t e rs)
    raise_unique : {bs : List ℕ} {t : Typ} {e : Exp} → IsUnique bs e → IsUnique bs (raise_exp t e)
    fn_unique : {bs : List ℕ} {t : Typ} {f : Fun} → FunUnique bs f → IsUnique bs (fn_exp t f)
    counted_unique : {bs : List ℕ} {n : ℕ} {t : Typ} {e : Exp} → IsUnique bs e → IsUnique bs (counted_exp n t e)

  pub data FieldsUnique : List ℕ → Fields → Type 0 where
    no_fields_unique : {bs : List ℕ} → FieldsUnique bs no_fields
    field_unique : {bs : List ℕ} {l : Label} {e : Exp} {fs : Fields} → IsUnique bs e → FieldsUnique bs fs → FieldsUnique bs (a_field l e fs)

  pub data ChainUnique : List ℕ → Chain → Type 0 where
    only_unique : {bs : List ℕ} {e : Exp} → IsUnique bs e → ChainUnique bs (only e)
    link_unique : {bs : List ℕ} {e : Exp} {c : Chain} → IsUnique bs e → ChainUnique bs c → ChainUnique bs (link e c)

  pub data RulesUnique : List ℕ → Rules → Type 0 where
    no_rules_unique : {bs : List ℕ} → RulesUnique bs no_rules
    rule_unique : {bs bs' : List ℕ} {p : Pat} {e : Exp} {rs : Rules} → PatUnique bs p bs' → IsUnique bs' e → RulesUnique bs rs → RulesUnique bs (a_rule p e rs)

  pub data FunUnique : List ℕ → Fun → Type 0 where
    last_unique : {bs : List ℕ} {x : ℕ} {t : Typ} {e : Exp} → IsOutside x bs → IsUnique (x ∷ bs) e → FunUnique bs (last x t e)
    by_rules_unique : {bs : List ℕ} {place : Place} {t u : Typ} {rs : Rules} → RulesUnique bs rs → FunUnique bs (by_rules place t u rs)
    more_unique : {bs : List ℕ} {x : ℕ} {t : Typ} {f : Fun} → IsOutside x bs → FunUnique (x ∷ bs) f → FunUnique bs (more x t f)

  -- the functions' bodies see the group, the right sides don't; what follows sees all of them
  pub data DecsUnique : List ℕ → Decs → List ℕ → Type 0 where
    no_decs_unique : {bs : List ℕ} → DecsUnique bs no_decs bs
    val_unique : {bs cs bs' : List ℕ} {qs : List Quantified} {vs : Binds} {fs : Funs} {ds : Decs} → FunsAreNew bs fs → FunsUnique (funs_onto fs bs) fs
        → BindsUnique bs (funs_onto fs bs) vs cs → DecsUnique cs ds bs' → DecsUnique bs (val_dec qs vs fs ds) bs'
    exception_unique : {bs bs' : List ℕ} {x i : ℕ} {t : Option Typ} {ds : Decs} → IsOutside x bs → DecsUnique (x ∷ bs) ds bs'
        → DecsUnique bs (exception_dec x i t ds) bs'
    counted_decs_unique : {bs bs' : List ℕ} {n : ℕ} {ds : Decs} → DecsUnique bs ds bs' → DecsUnique bs (counted_dec n ds) bs'

  -- right sides where bs are bound, patterns onto those of the bindings before
  pub data BindsUnique : List ℕ → List ℕ → Binds → List ℕ → Type 0 where
    no_binds_unique : {bs cs : List ℕ} → BindsUnique bs cs no_binds cs
    bind_unique : {bs cs ds cs' : List ℕ} {place : Place} {b : Bool} {p : Pat} {t : Typ} {e : Exp} {vs : Binds} → IsUnique bs e → PatUnique cs p ds
        → BindsUnique bs ds vs cs' → BindsUnique bs cs (a_bind place b p t e vs) cs'

  pub data FunsUnique : List ℕ → Funs → Type 0 where
    no_funs_unique : {bs : List ℕ} → FunsUnique bs no_funs
    fun_unique : {bs : List ℕ} {xs : List ℕ} {t : Typ} {f : Fun} {fs : Funs} → FunUnique bs f → FunsUnique bs fs → FunsUnique bs (a_fun xs t f fs)
