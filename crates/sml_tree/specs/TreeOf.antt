-- The bare tree that a tree of the code stands for.
use Rattle.std.specs.Prelude.{List, [], ◌∷◌, Option, map, option_map}
use Rattle.mlc_names.specs.declared.label.Label.{Label}
use Rattle.mlc_base.specs.declared.place.Place.{Place}
use Rattle.sml_tree.specs.Terminal as term
use Rattle.sml_tree.specs.BareTree as bare
use Rattle.sml_tree.specs.Derived.{tuple, tuple_pat, product, app_of, Operand, chain_of, VidAt, join}
use Rattle.sml_tree.specs.Derived.{join_pats, TyAt, arrows, sequence_of, list_of, list_pat_of, fun_dec_of, tys_of, withtype_of}
use Rattle.sml_tree.specs.Derived as derived
use Rattle.sml_tree.specs.declared.ident.LongVid.{LongVid}
use Rattle.sml_tree.specs.declared.ident.LongId.{LongId}
use Rattle.sml_tree.specs.declared.ident.Constant.{Constant}
use Rattle.sml_tree.specs.declared.ident.Constant.TheVariants as constant
use Rattle.sml_tree.specs.declared.tree.Joint.{Joint}
use Rattle.sml_tree.specs.declared.tree.Ty.{Ty, Ty-F, fold-Ty}
use Rattle.sml_tree.specs.declared.tree.TyField.{TyField, TyField-F, fold-TyField}
use Rattle.sml_tree.specs.declared.tree.TyPart.{TyPart, TyPart-F, fold-TyPart}
use Rattle.sml_tree.specs.declared.tree.Pat.{Pat, Pat-F, fold-Pat}
use Rattle.sml_tree.specs.declared.tree.PatField.{PatField, PatField-F, fold-PatField}
use Rattle.sml_tree.specs.declared.tree.PatPart.{PatPart, PatPart-F, fold-PatPart}
use Rattle.sml_tree.specs.declared.tree.TypeBind.{TypeBind}
use Rattle.sml_tree.specs.declared.tree.ConBind.{ConBind}
use Rattle.sml_tree.specs.declared.tree.DataBind.{DataBind}
use Rattle.sml_tree.specs.declared.tree.ExBind.{ExBind}
use Rattle.sml_tree.specs.declared.tree.ExBind.TheVariants as exn
use Rattle.sml_tree.specs.declared.tree.LongIdAt.{LongIdAt}
use Rattle.sml_tree.specs.declared.tree.Dec.{Dec, Dec-F, fold-Dec}
use Rattle.sml_tree.specs.declared.tree.Exp.{Exp, Exp-F, fold-Exp}
use Rattle.sml_tree.specs.declared.tree.Bind.{Bind, Bind-F, fold-Bind}
use Rattle.sml_tree.specs.declared.tree.Clause.{Clause, Clause-F, fold-Clause}
use Rattle.sml_tree.specs.declared.tree.ExpField.{ExpField, ExpField-F, fold-ExpField}
use Rattle.sml_tree.specs.declared.tree.Function.{Function, Function-F, fold-Function}
use Rattle.sml_tree.specs.declared.tree.Part.{Part, Part-F, fold-Part}
use Rattle.sml_tree.specs.declared.tree.Rule.{Rule, Rule-F, fold-Rule}

abbrev pub long_vid_of : LongVid → term.LongVid
long_vid_of x = record { qualifiers = x.qualifiers.items; vid = x.vid }

abbrev pub long_id_of : LongId → term.LongId
long_id_of x = record { qualifiers = x.qualifiers.items; id = x.id }

abbrev pub constant_of : Constant → term.Constant
constant_of (constant.Int n) = term.int n
constant_of (constant.Word n) = term.word n
constant_of (constant.Char n) = term.char n
constant_of (constant.Str s) = term.string s.items

-- Elements of lists.

pub record TyFieldOf : Type 0 where
  pub label : Label
  pub ty : bare.Ty

pub record PatFieldOf : Type 0 where
  pub label : Label
  pub pat : bare.Pat

pub record ExpFieldOf : Type 0 where
  pub label : Label
  pub exp : bare.Exp

-- a rule or a binding
pub record RuleOf : Type 0 where
  pub place : Place
  pub pat : bare.Pat
  pub exp : bare.Exp

abbrev pub ty_fields_of : List TyFieldOf → bare.TyFields
ty_fields_of [] = bare.no_ty_fields
ty_fields_of (a ∷ as_) = bare.ty_field a.label a.ty (ty_fields_of as_)

abbrev pub pat_fields_of : List PatFieldOf → bare.PatFields
pat_fields_of [] = bare.no_pat_fields
pat_fields_of (a ∷ as_) = bare.pat_field a.label a.pat (pat_fields_of as_)

abbrev pub exp_fields_of : List ExpFieldOf → bare.ExpFields
exp_fields_of [] = bare.no_exp_fields
exp_fields_of (a ∷ as_) = bare.exp_field a.label a.exp (exp_fields_of as_)

abbrev pub rules_of : List RuleOf → bare.Rules
rules_of [] = bare.no_rules
rules_of (a ∷ as_) = bare.rule a.place a.pat a.exp (rules_of as_)

abbrev pub binds_of : List RuleOf → bare.Binds
binds_of [] = bare.no_binds
binds_of (a ∷ as_) = bare.bind a.place a.pat a.exp (binds_of as_)

abbrev pub decs_of : List bare.Dec → bare.Decs
decs_of [] = bare.no_decs
decs_of (d ∷ ds) = bare.dec d (decs_of ds)

-- Types.

abbrev pub node_ty : Ty-F bare.Ty TyFieldOf TyAt → bare.Ty
node_ty (Ty-F.Var p a) = bare.var p a
node_ty (Ty-F.Record p fs) = bare.fields p (ty_fields_of fs.items)
node_ty (Ty-F.Con p ts q c) = bare.con p (tys_of ts.items) q (long_id_of c)
node_ty (Ty-F.Product p ts) = product p ts.items
node_ty (Ty-F.Arrow p t ts) = arrows p t.value ts.items

abbrev pub node_ty_field : TyField-F bare.Ty TyFieldOf TyAt → TyFieldOf
node_ty_field a = record { label = a.label; ty = a.ty }

abbrev pub node_ty_part : TyPart-F bare.Ty TyFieldOf TyAt → TyAt
node_ty_part a = record { place = a.place; ty = a.ty }

abbrev pub ty_of : Ty → bare.Ty
ty_of = fold-Ty bare.Ty TyFieldOf TyAt node_ty node_ty_field node_ty_part

abbrev pub ty_field_of : TyField → TyFieldOf
ty_field_of = fold-TyField bare.Ty TyFieldOf TyAt node_ty node_ty_field node_ty_part

abbrev pub ty_part_of : TyPart → TyAt
ty_part_of = fold-TyPart bare.Ty TyFieldOf TyAt node_ty node_ty_field node_ty_part

abbrev pub some_ty_of : Option Ty → Option bare.Ty
some_ty_of t = option_map ty_of t

-- Patterns.

abbrev pub node_pat : Pat-F bare.Pat PatFieldOf (Operand VidAt bare.Pat) → bare.Pat
node_pat (Pat-F.Wild p) = bare.wild_pat p
node_pat (Pat-F.Constant p c) = bare.constant_pat p (constant_of c)
node_pat (Pat-F.Vid p x) = bare.vid_pat p (long_vid_of x)
node_pat (Pat-F.BuiltIn p b) = bare.built_pat p b
node_pat (Pat-F.Record p fs b) = bare.fields_pat p (pat_fields_of fs.items) b
node_pat (Pat-F.Tuple p as_) = tuple_pat p as_.items
node_pat (Pat-F.List p as_) = list_pat_of p as_.items
node_pat (Pat-F.Con p q x a) = bare.con_pat p q (long_vid_of x) a.value
node_pat (Pat-F.BuiltCon p b a) = bare.built_con_pat p b a.value
node_pat (Pat-F.Chain p r a ps) = chain_of join_pats r p a.value ps.items
node_pat (Pat-F.Typed p a t) = bare.typed_pat p a.value (ty_of t)
node_pat (Pat-F.As p v t a) = bare.as_pat p v (some_ty_of t) a.value

abbrev pub node_pat_field : PatField-F bare.Pat PatFieldOf (Operand VidAt bare.Pat) → PatFieldOf
node_pat_field a = record { label = a.label; pat = a.pat }

abbrev pub node_pat_part : PatPart-F bare.Pat PatFieldOf (Operand VidAt bare.Pat) → Operand VidAt bare.Pat
node_pat_part a = record { joint = record { place = a.vid_place; vid = a.vid }; place = a.place; operand = a.pat }

abbrev pub pat_of : Pat → bare.Pat
pat_of = fold-Pat bare.Pat PatFieldOf (Operand VidAt bare.Pat) node_pat node_pat_field node_pat_part

abbrev pub pat_field_of : PatField → PatFieldOf
pat_field_of = fold-PatField bare.Pat PatFieldOf (Operand VidAt bare.Pat) node_pat node_pat_field node_pat_part

abbrev pub pat_part_of : PatPart → Operand VidAt bare.Pat
pat_part_of = fold-PatPart bare.Pat PatFieldOf (Operand VidAt bare.Pat) node_pat node_pat_field node_pat_part

-- Bindings of types and exceptions.

abbrev pub type_bind_of : TypeBind → bare.TypeBind
type_bind_of b = record { place = b.place; tyvars = b.tyvars.items; tycon = b.tycon; ty = ty_of b.ty }

abbrev pub con_bind_of : ConBind → bare.ConBind
con_bind_of c = record { place = c.place; vid = c.vid; of_ty = some_ty_of c.of_ty }

abbrev pub data_bind_of : DataBind → bare.DataBind
data_bind_of b = record { place = b.place; tyvars = b.tyvars.items; tycon = b.tycon; cons = map con_bind_of b.cons.items }

abbrev pub ex_bind_of : ExBind → bare.ExBind
ex_bind_of (exn.New p v t) = bare.new_exn p v (some_ty_of t)
ex_bind_of (exn.Same p v q x) = bare.same_exn p v q (long_vid_of x)

abbrev pub long_id_at_of : LongIdAt → bare.LongIdAt
long_id_at_of x = record { place = x.place; long = long_id_of x.long }

-- Expressions and declarations.

abbrev pub node_dec : Dec-F bare.Dec bare.Exp RuleOf derived.Clause ExpFieldOf derived.Function (Operand Joint bare.Exp) RuleOf → bare.Dec
node_dec (Dec-F.Val p as_ bs cs) = bare.val_dec p as_.place as_.tyvars.items (binds_of bs.items) (binds_of cs.items)
node_dec (Dec-F.Fun p as_ gs) = fun_dec_of p as_.place as_.tyvars.items gs.items
node_dec (Dec-F.Abbreviation p bs) = bare.type_dec p (map type_bind_of bs.items)
node_dec (Dec-F.Datatype p bs) = bare.datatype_dec p (map data_bind_of bs.items)
node_dec (Dec-F.Withtype p ds bs) = withtype_of p (map data_bind_of ds.items) (map type_bind_of bs.items)
node_dec (Dec-F.Replicate p x c) = bare.replicate_dec p x (long_id_at_of c)
node_dec (Dec-F.Exception p bs) = bare.exception_dec p (map ex_bind_of bs.items)
node_dec (Dec-F.Local p ds es) = bare.local_dec p (decs_of ds.items) (decs_of es.items)
node_dec (Dec-F.Open p xs) = bare.open_dec p (map long_id_at_of xs.items)
node_dec (Dec-F.Declarations p ds) = bare.sequence_dec p (decs_of ds.items)

abbrev pub node_exp : Exp-F bare.Dec bare.Exp RuleOf derived.Clause ExpFieldOf derived.Function (Operand Joint bare.Exp) RuleOf → bare.Exp
node_exp (Exp-F.Constant p c) = bare.constant_exp p (constant_of c)
node_exp (Exp-F.Vid p x) = bare.vid_exp p (long_vid_of x)
node_exp (Exp-F.BuiltIn p b) = bare.built_exp p b
node_exp (Exp-F.Record p fs) = bare.fields_exp p (exp_fields_of fs.items)
node_exp (Exp-F.Tuple p es) = tuple p es.items
node_exp (Exp-F.List p es) = list_of p es.items
node_exp (Exp-F.Sequence p e es) = sequence_of p e.value es.items
node_exp (Exp-F.Let p ds e) = bare.let_in p (decs_of ds.items) e.value
node_exp (Exp-F.Apply p e es) = app_of p e.value es.items
node_exp (Exp-F.Chain p r e ps) = chain_of join r p e.value ps.items
node_exp (Exp-F.Typed p e t) = bare.typed p e.value (ty_of t)
node_exp (Exp-F.Handle p e rs) = bare.handle p e.value (rules_of rs.items)
node_exp (Exp-F.Raise p e) = bare.raise p e.value
node_exp (Exp-F.Fn p rs) = bare.fn p (rules_of rs.items)

abbrev pub node_bind : Bind-F bare.Dec bare.Exp RuleOf derived.Clause ExpFieldOf derived.Function (Operand Joint bare.Exp) RuleOf → RuleOf
node_bind b = record { place = b.place; pat = pat_of b.pat; exp = b.exp }

abbrev pub node_clause : Clause-F bare.Dec bare.Exp RuleOf derived.Clause ExpFieldOf derived.Function (Operand Joint bare.Exp) RuleOf → derived.Clause
node_clause c = record { place = c.place; pats = map pat_of c.pats.items; body = c.exp }

abbrev pub node_exp_field : ExpField-F bare.Dec bare.Exp RuleOf derived.Clause ExpFieldOf derived.Function (Operand Joint bare.Exp) RuleOf → ExpFieldOf
node_exp_field a = record { label = a.label; exp = a.exp }

abbrev pub node_function : Function-F bare.Dec bare.Exp RuleOf derived.Clause ExpFieldOf derived.Function (Operand Joint bare.Exp) RuleOf → derived.Function
node_function g = record { place = g.place; vid_place = g.vid_place; vid = g.vid; clauses = g.clauses.items }

abbrev pub node_part : Part-F bare.Dec bare.Exp RuleOf derived.Clause ExpFieldOf derived.Function (Operand Joint bare.Exp) RuleOf → Operand Joint bare.Exp
node_part a = record { joint = a.joint; place = a.place; operand = a.exp }

abbrev pub node_rule : Rule-F bare.Dec bare.Exp RuleOf derived.Clause ExpFieldOf derived.Function (Operand Joint bare.Exp) RuleOf → RuleOf
node_rule b = record { place = b.place; pat = pat_of b.pat; exp = b.exp }

abbrev pub dec_of : Dec → bare.Dec
dec_of =
    fold-Dec bare.Dec bare.Exp RuleOf derived.Clause ExpFieldOf derived.Function (Operand Joint bare.Exp) RuleOf
    node_dec node_exp node_bind node_clause node_exp_field node_function node_part node_rule

abbrev pub exp_of : Exp → bare.Exp
exp_of =
    fold-Exp bare.Dec bare.Exp RuleOf derived.Clause ExpFieldOf derived.Function (Operand Joint bare.Exp) RuleOf
    node_dec node_exp node_bind node_clause node_exp_field node_function node_part node_rule

abbrev pub bind_of : Bind → RuleOf
bind_of =
    fold-Bind bare.Dec bare.Exp RuleOf derived.Clause ExpFieldOf derived.Function (Operand Joint bare.Exp) RuleOf
    node_dec node_exp node_bind node_clause node_exp_field node_function node_part node_rule

abbrev pub clause_of : Clause → derived.Clause
clause_of =
    fold-Clause bare.Dec bare.Exp RuleOf derived.Clause ExpFieldOf derived.Function (Operand Joint bare.Exp) RuleOf
    node_dec node_exp node_bind node_clause node_exp_field node_function node_part node_rule

abbrev pub exp_field_of : ExpField → ExpFieldOf
exp_field_of =
    fold-ExpField bare.Dec bare.Exp RuleOf derived.Clause ExpFieldOf derived.Function (Operand Joint bare.Exp) RuleOf
    node_dec node_exp node_bind node_clause node_exp_field node_function node_part node_rule

abbrev pub function_of : Function → derived.Function
function_of =
    fold-Function bare.Dec bare.Exp RuleOf derived.Clause ExpFieldOf derived.Function (Operand Joint bare.Exp) RuleOf
    node_dec node_exp node_bind node_clause node_exp_field node_function node_part node_rule

abbrev pub part_of : Part → Operand Joint bare.Exp
part_of =
    fold-Part bare.Dec bare.Exp RuleOf derived.Clause ExpFieldOf derived.Function (Operand Joint bare.Exp) RuleOf
    node_dec node_exp node_bind node_clause node_exp_field node_function node_part node_rule

abbrev pub rule_of : Rule → RuleOf
rule_of =
    fold-Rule bare.Dec bare.Exp RuleOf derived.Clause ExpFieldOf derived.Function (Operand Joint bare.Exp) RuleOf
    node_dec node_exp node_bind node_clause node_exp_field node_function node_part node_rule
