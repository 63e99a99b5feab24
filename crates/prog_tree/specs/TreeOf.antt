-- The clean tree of the code's tree.
use Rattle.std.specs.Prelude.{ℕ, Bool, List, [], ◌∷◌, map, Option, Vec}
use Rattle.std.specs.Global.{Global}
use Rattle.std.specs.Option.{option_map}
use Rattle.mlc_names.specs.declared.label.Label.{Label}
use Rattle.mlc_names.specs.declared.label.Label.TheVariants.{Number}
use Rattle.mlc_base.specs.declared.place.Place.{Place}
use Rattle.ir_tables.specs.of_ty_core.Types.{Typ}
use Rattle.ir_tables.specs.of_ty_core.declared.scheme.Quantified.{Quantified}
use Rattle.ir_tables.specs.of_ir_poly.Prog as t
use Rattle.ir_tables.specs.Tables.{literal_at}
use Rattle.prog_tree.specs.declared.tree.Exception.{Exception}
use Rattle.prog_tree.specs.declared.tree.Exception.TheVariants as exception
use Rattle.prog_tree.specs.declared.tree.Parameter.{Parameter}
use Rattle.prog_tree.specs.declared.tree.Head.{Head}
use Rattle.prog_tree.specs.declared.tree.Head.TheVariants as head
use Rattle.prog_tree.specs.declared.tree.Side.{Side}
use Rattle.prog_tree.specs.declared.tree.Side.TheVariants as side
use Rattle.prog_tree.specs.declared.tree.Atom.{Atom}
use Rattle.prog_tree.specs.declared.tree.Atom.TheVariants as atom
use Rattle.prog_tree.specs.declared.tree.Used.{Used}
use Rattle.prog_tree.specs.declared.tree.Used.TheVariants as used
use Rattle.prog_tree.specs.declared.tree.Join.{Join}
use Rattle.prog_tree.specs.declared.tree.Binding.{Binding}
use Rattle.prog_tree.specs.declared.tree.Pat.{Pat, Pat-F, fold-Pat}
use Rattle.prog_tree.specs.declared.tree.PatField.{PatField, PatField-F, fold-PatField}
use Rattle.prog_tree.specs.declared.tree.PatPart.{PatPart, PatPart-F, fold-PatPart}
use Rattle.prog_tree.specs.declared.tree.Exp.{Exp, Exp-F, fold-Exp}
use Rattle.prog_tree.specs.declared.tree.Function.{Function, Function-F, fold-Function}
use Rattle.prog_tree.specs.declared.tree.Dec.{Dec, Dec-F, fold-Dec}
use Rattle.prog_tree.specs.declared.tree.Rule.{Rule, Rule-F, fold-Rule}

-- what the numbers of a tree stand for
pub record Reading : Type 0 where
  pub type : ℕ → Typ
  pub parameters : ℕ → List Quantified
  pub strings : List (List ℕ)

abbrev pub exc_of : Exception → t.Exc
exc_of (exception.Initial n) = t.fixed n
exc_of (exception.Held x) = t.held x

-- Patterns

pub record PatFieldTree : Type 0 where
  pub label : Label
  pub type : Typ
  pub pat : t.Pat

-- a further operand of a chain, with the types of the pair and of its parts
pub record PatPartTree : Type 0 where
  pub head : Head
  pub whole : Typ
  pub left : Typ
  pub right : Typ
  pub pat : t.Pat

abbrev pub before : Head → Typ → t.Pat → t.Pat
before (head.Constructor c) a p = t.con_of_pat c a p
before head.Reference a p = t.ref_of_pat a p
before (head.Exception x) a p = t.exn_of_pat (exc_of x) a p

abbrev pub fields_of : List PatFieldTree → t.PatFields
fields_of [] = t.no_pats
fields_of (f ∷ fs) = t.a_pat f.label f.type f.pat (fields_of fs)

-- a constructor between two patterns
abbrev pub join_pats : PatPartTree → t.Pat → t.Pat → t.Pat
join_pats j p q = before j.head j.whole (t.fields_pat Bool.false (t.a_pat (Number 1) j.left p (t.a_pat (Number 2) j.right q t.no_pats)))

abbrev pub left_pats : t.Pat → List PatPartTree → t.Pat
left_pats p [] = p
left_pats p (j ∷ js) = left_pats (join_pats j p j.pat) js

abbrev pub right_pats : t.Pat → List PatPartTree → t.Pat
right_pats p [] = p
right_pats p (j ∷ js) = join_pats j p (right_pats j.pat js)

abbrev pub chain_pats : Side → t.Pat → List PatPartTree → t.Pat
chain_pats side.Left p js = left_pats p js
chain_pats side.Right p js = right_pats p js

-- Expressions

pub record RuleTree : Type 0 where
  pub pat : t.Pat
  pub exp : t.Exp

-- one declaration
pub data DecTree : Type 0 where
  val_tree : List Quantified → t.Binds → t.Funs → DecTree
  exception_tree : ℕ → ℕ → Option Typ → DecTree
  counted_tree : ℕ → DecTree

abbrev pub record_of : List (Label × t.Exp) → t.Fields
record_of [] = t.no_fields
record_of (f ∷ fs) = t.a_field f.0 f.1 (record_of fs)

abbrev pub rules_of : List RuleTree → t.Rules
rules_of [] = t.no_rules
rules_of (r ∷ rs) = t.a_rule r.pat r.exp (rules_of rs)

abbrev pub chain_of : List t.Exp → t.Exp → t.Chain
chain_of [] e = t.only e
chain_of (a ∷ as_) e = t.link a (chain_of as_ e)

abbrev pub sequence_of : Place → Typ → List t.Exp → t.Exp → t.Exp
sequence_of place a [] e = e
sequence_of place a (d ∷ ds) e = t.case_exp place a d (t.a_rule t.any_pat (sequence_of place a ds e) t.no_rules)

-- an application to arguments, each with its type
abbrev pub apply_by : (ℕ → Typ) → Place → t.Exp → List (ℕ × t.Exp) → t.Exp
apply_by g place f [] = f
apply_by g place f (a ∷ as_) = apply_by g place (t.app_exp place (g a.0) f a.1) as_

abbrev pub join : (ℕ → Typ) → Join → t.Exp → t.Exp → t.Exp → t.Exp
join g j operator d e = t.app_exp j.place (g j.ty) operator (t.fields_exp (g j.pair) (t.a_field (Number 1) d (t.a_field (Number 2) e t.no_fields)))

abbrev pub left_joins : (ℕ → Typ) → t.Exp → List (Join × t.Exp × t.Exp) → t.Exp
left_joins g e [] = e
left_joins g e (j ∷ js) = left_joins g (join g j.0 j.1 e j.2) js

abbrev pub right_joins : (ℕ → Typ) → t.Exp → List (Join × t.Exp × t.Exp) → t.Exp
right_joins g e [] = e
right_joins g e (j ∷ js) = join g j.0 j.1 e (right_joins g j.2 js)

abbrev pub joins_by : (ℕ → Typ) → Side → t.Exp → List (Join × t.Exp × t.Exp) → t.Exp
joins_by g side.Left e js = left_joins g e js
joins_by g side.Right e js = right_joins g e js

abbrev pub binds_by : (ℕ → Typ) → List (Binding × RuleTree) → t.Binds
binds_by g [] = t.no_binds
binds_by g (b ∷ bs) = t.a_bind b.0.place b.0.general b.1.pat (g b.0.ty) b.1.exp (binds_by g bs)

-- functions that are declared together, each with its variables and its type
abbrev pub funs_by : (ℕ → Typ) → List (Vec ℕ Global × ℕ × t.Fun) → t.Funs
funs_by g [] = t.no_funs
funs_by g (f ∷ fs) = t.a_fun f.0.items (g f.1) f.2 (funs_by g fs)

abbrev pub put : DecTree → t.Decs → t.Decs
put (val_tree qs bs fs) ds = t.val_dec qs bs fs ds
put (exception_tree x i a) ds = t.exception_dec x i a ds
put (counted_tree n) ds = t.counted_dec n ds

abbrev pub decs_of : List DecTree → t.Decs
decs_of [] = t.no_decs
decs_of (d ∷ ds) = put d (decs_of ds)

module _ (R : Reading) where
  abbrev pub types_of : List ℕ → List Typ
  types_of = map R.type

  abbrev pub node_pat : Pat-F t.Pat PatFieldTree PatPartTree → t.Pat
  node_pat Pat-F.Any = t.any_pat
  node_pat (Pat-F.Variable x) = t.variable_pat x
  node_pat (Pat-F.Constant c) = t.constant_pat (literal_at R.strings c)
  node_pat (Pat-F.Constructor c) = t.con_pat c
  node_pat (Pat-F.Exception x) = t.exn_pat (exc_of x)
  node_pat (Pat-F.Before h a p) = before h (R.type a) p.value
  node_pat (Pat-F.Record further fs) = t.fields_pat further (fields_of fs.items)
  node_pat (Pat-F.As x p) = t.as_pat x p.value
  node_pat (Pat-F.Chain s p js) = chain_pats s p.value js.items

  abbrev pub node_pat_field : PatField-F t.Pat PatFieldTree PatPartTree → PatFieldTree
  node_pat_field f = record { label = f.label; type = R.type f.ty; pat = f.pat }

  abbrev pub node_pat_part : PatPart-F t.Pat PatFieldTree PatPartTree → PatPartTree
  node_pat_part j = record { head = j.head; whole = R.type j.pair.ty; left = R.type j.pair.left; right = R.type j.pair.right; pat = j.pat }

  abbrev pub pat_of : Pat → t.Pat
  pat_of = fold-Pat t.Pat PatFieldTree PatPartTree node_pat node_pat_field node_pat_part

  abbrev pub pat_field_of : PatField → PatFieldTree
  pat_field_of = fold-PatField t.Pat PatFieldTree PatPartTree node_pat node_pat_field node_pat_part

  abbrev pub pat_part_of : PatPart → PatPartTree
  pat_part_of = fold-PatPart t.Pat PatFieldTree PatPartTree node_pat node_pat_field node_pat_part

  abbrev pub atom_of : Atom → Typ → t.Exp
  atom_of (atom.Constant c) a = t.constant_exp (literal_at R.strings c) a
  atom_of (atom.Own x) a = t.own_exp x a
  atom_of (atom.Exception x) a = t.exn_exp (exc_of x) a
  atom_of (atom.Reference b) a = t.ref_exp (R.type b) a

  abbrev pub use_of : Used → List ℕ → Typ → t.Exp
  use_of (used.Variable x) ts a = t.variable_exp x (types_of ts) a
  use_of (used.Constructor c y) ts a = t.con_exp c y (types_of ts) a
  use_of (used.Primitive p) ts a = t.prim_exp p (types_of ts) a

  abbrev pub after_parameters : List Parameter → t.Fun → t.Fun
  after_parameters [] f = f
  after_parameters (x ∷ xs) f = t.more x.variable (R.type x.ty) (after_parameters xs f)

  abbrev pub node_dec : Dec-F DecTree t.Exp t.Fun RuleTree → DecTree
  node_dec (Dec-F.Val ps bs fs) = val_tree (R.parameters ps) (binds_by R.type bs.items) (funs_by R.type fs.items)
  node_dec (Dec-F.Exception x i a) = exception_tree x i (option_map R.type a)
  node_dec (Dec-F.Weight n) = counted_tree n

  abbrev pub node_exp : Exp-F DecTree t.Exp t.Fun RuleTree → t.Exp
  node_exp (Exp-F.Atom c a) = atom_of c (R.type a)
  node_exp (Exp-F.Use u ts a) = use_of u ts.items (R.type a)
  node_exp (Exp-F.Record a fs) = t.fields_exp (R.type a) (record_of fs.items)
  node_exp (Exp-F.Let a ds e) = t.let_exp (R.type a) (decs_of ds.items) e.value
  node_exp (Exp-F.Apply place f as_) = apply_by R.type place f.value as_.items
  node_exp (Exp-F.Infix s e js) = joins_by R.type s e.value js.items
  node_exp (Exp-F.Case place a e rs) = t.case_exp place (R.type a) e.value (rules_of rs.items)
  node_exp (Exp-F.Sequence place a es e) = sequence_of place (R.type a) es.items e.value
  node_exp (Exp-F.Test b a es e) = t.chain_exp b (R.type a) (chain_of es.items e.value)
  node_exp (Exp-F.Handle a e rs) = t.handle_exp (R.type a) e.value (rules_of rs.items)
  node_exp (Exp-F.Raise a e) = t.raise_exp (R.type a) e.value
  node_exp (Exp-F.Fn a f) = t.fn_exp (R.type a) f
  node_exp (Exp-F.Counted n a e) = t.counted_exp n (R.type a) e.value

  abbrev pub node_function : Function-F DecTree t.Exp t.Fun RuleTree → t.Fun
  node_function (Function-F.Named xs x e) = after_parameters xs.items (t.last x.variable (R.type x.ty) e.value)
  node_function (Function-F.ByRules xs place a u rs) = after_parameters xs.items (t.by_rules place (R.type a) (R.type u) (rules_of rs.items))

  abbrev pub node_rule : Rule-F DecTree t.Exp t.Fun RuleTree → RuleTree
  node_rule r = record { pat = pat_of r.pat; exp = r.exp }

  abbrev pub tree_of : Exp → t.Exp
  tree_of = fold-Exp DecTree t.Exp t.Fun RuleTree node_dec node_exp node_function node_rule

  abbrev pub function_of : Function → t.Fun
  function_of = fold-Function DecTree t.Exp t.Fun RuleTree node_dec node_exp node_function node_rule

  abbrev pub dec_of : Dec → DecTree
  dec_of = fold-Dec DecTree t.Exp t.Fun RuleTree node_dec node_exp node_function node_rule

  abbrev pub rule_of : Rule → RuleTree
  rule_of = fold-Rule DecTree t.Exp t.Fun RuleTree node_dec node_exp node_function node_rule

  -- a program's body
  abbrev pub body_of : List Dec → t.Decs
  body_of ds = decs_of (map dec_of ds)

  -- parts with what stands before them
  abbrev pub field_of : Label × Exp → Label × t.Exp
  field_of f = (f.0, tree_of f.1)

  abbrev pub bind_of : Binding × Rule → Binding × RuleTree
  bind_of b = (b.0, rule_of b.1)

  abbrev pub argument_of : ℕ × Exp → ℕ × t.Exp
  argument_of a = (a.0, tree_of a.1)

  abbrev pub join_of : Join × Exp × Exp → Join × t.Exp × t.Exp
  join_of j = (j.0, tree_of j.1, tree_of j.2)

  abbrev pub fun_of : Vec ℕ Global × ℕ × Function → Vec ℕ Global × ℕ × t.Fun
  fun_of f = (f.0, f.1, function_of f.2)
