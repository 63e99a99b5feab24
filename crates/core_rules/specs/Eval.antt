-- Evaluation in the run algebra. [Definition 6.7] A phrase is evaluated left to right in an environment; calls go through `apply`, which takes the turns.
-- Where no case applies the run goes wrong.
use Rattle.std.specs.Prelude.{ℕ, zero, suc, Bool, true, false, List, [], ◌∷◌, Option, Some, None, option_map, option_and_then, if◌then◌else◌}
use Rattle.mlc_runs.specs.Run.{World, Answer, gives, raises, stops, out_of_turns, then_do, or_handle, or_fail, fail, take_turn, writes, new_reference, assign, new_exception}
use Rattle.mlc_names.specs.declared.label.Label.TheVariants.{Number}
use Rattle.mlc_base.specs.declared.place.Place.{Place}
use Rattle.ty_basis.specs.of_mlc_prims.LitOf.{Literal, string, truth}
use Rattle.ty_basis.specs.of_mlc_prims.PrimOf.{Gives, made, raised}
use Rattle.ty_basis.specs.of_mlc_prims.declared.prim.PrimExn.{PrimExn}
use Rattle.ty_basis.specs.of_mlc_prims.declared.prim.PrimExn.TheVariants.{Overflow, Div, Subscript, Size, Chr}
use Rattle.sml_tree.specs.declared.ident.Vid.{Vid}
use Rattle.sml_tree.specs.declared.ident.Vid.TheVariants.{Named}
use Rattle.sml_tree.specs.declared.ident.BuiltIn.TheVariants.{True, False}
use Rattle.sml_tree.specs.BareTree.{LongIdAt, ConBind, DataBind, TypeBind, ExBind, new_exn, same_exn, Pat, vid_pat, typed_pat, as_pat, Exp, constant_exp, vid_exp, built_exp, fields_exp, let_in, app, typed, handle, raise, fn, ExpFields, no_exp_fields, exp_field, Rules, no_rules, rule, Decs, no_decs, dec, Dec, val_dec, type_dec, datatype_dec, replicate_dec, exception_dec, local_dec, open_dec, sequence_dec, Binds, no_binds, bind}
use Rattle.ty_basis.specs.of_ty_core.declared.env.Status.TheVariants.{Variable, Constructor, Exception}
use Rattle.ty_basis.specs.of_mlc_prims.Table.{row_of}
use Rattle.ty_basis.specs.of_mlc_prims.declared.basis.BasisPrimitive.{BasisPrimitive}
use Rattle.ty_basis.specs.of_mlc_prims.declared.basis.BasisPrimitive.TheVariants as prim
use Rattle.core_rules.specs.Values.{built, declared, Value, literal, record_of, con, con_of, ref, address, exn, exn_of, primitive, closure, Fields, no_fields, field, field_in, count, unit_value, Env, nothing, value, tycon, plus, along, tycon_in, structure_in, long_value_in}
use Rattle.core_rules.specs.Match.{constant_of, literal_in, fields_in, address_in, exn_in, same_value, match, Matching, binds, fails, misfits}

-- Packets. The exceptions of the initial basis have the first names, in this order.

abbrev pub match_packet : Value
match_packet = exn 0

abbrev pub bind_packet : Value
bind_packet = exn 1

abbrev pub packet_of : PrimExn → Value
packet_of e = elim e [ Overflow ↦ exn 2 | Div ↦ exn 3 | Subscript ↦ exn 4 | Size ↦ exn 5 | Chr ↦ exn 6 ]

abbrev pub raise_value : Value → World Value → Answer Value Value
raise_value v w = or_fail (exn_in v) w (λ t. raises v w)

-- Primitives [6.4].

abbrev pub truth_value : Bool → Value
truth_value b = if b then con (built True) else con (built False)

abbrev pub value_of : Literal → Value
value_of l = elim l [ truth b ↦ truth_value b | k ↦ literal k ]

abbrev pub giving : Gives → World Value → Answer Value Value
giving g w = elim g [ made l ↦ gives (value_of l) w | raised e ↦ raises (packet_of e) w ]

-- n fields, with the labels from k on
abbrev pub parts : ℕ → ℕ → Fields → Option (List Value)
parts k zero fs = Some []
parts k (suc n) fs = option_and_then (λ v. option_map (λ vs. v ∷ vs) (parts (suc k) n fs)) (field_in (Number k) fs)

-- the arguments of a primitive: those of a tuple, or the value alone
abbrev pub arguments : Value → List Value
arguments v = elim (option_and_then (λ fs. parts 1 (count fs) fs) (fields_in v)) [ None ↦ v ∷ [] | Some vs ↦ vs ]

abbrev pub literals : List Value → Option (List Literal)
literals [] = Some []
literals (v ∷ vs) = option_and_then (λ l. option_map (λ ls. l ∷ ls) (literals vs)) (literal_in v)

abbrev pub perform_equals : List Value → World Value → Answer Value Value
perform_equals (v ∷ u ∷ []) w = or_fail (same_value v u) w (λ b. gives (truth_value b) w)
perform_equals vs w = fail w

abbrev pub perform_assign : List Value → World Value → Answer Value Value
perform_assign (r ∷ v ∷ []) w = or_fail (address_in r) w (λ a. assign a v w (λ w. gives unit_value w))
perform_assign vs w = fail w

abbrev pub perform_print : List Literal → World Value → Answer Value Value
perform_print (string s ∷ []) w = gives unit_value (writes s w)
perform_print ls w = fail w

abbrev pub perform_literals : BasisPrimitive → List Literal → World Value → Answer Value Value
perform_literals q ls w = elim q [ prim.Print ↦ perform_print ls w | other ↦ or_fail (row_of other ls) w (λ g. giving g w) ]

abbrev pub perform : BasisPrimitive → List Value → World Value → Answer Value Value
perform prim.Equals vs w = perform_equals vs w
perform prim.Assign vs w = perform_assign vs w
perform q vs w = or_fail (literals vs) w (λ ls. perform_literals q ls w)

-- Recursive bindings [6.6]. An identifier that stands alone in a pattern is a variable there.

-- these identifiers, bound to v
abbrev pub each_bound : Pat → Value → Env → Env
each_bound (vid_pat p x) v e = value x.vid Variable v e
each_bound (typed_pat p a t) v e = each_bound a v e
each_bound (as_pat p x t a) v e = value x Variable v (each_bound a v e)
each_bound a v e = e

-- each function of the bindings all, as a closure that has them all
abbrev pub unrolled : Env → Binds → Binds → Env
unrolled e all no_binds = nothing
unrolled e all (bind p a (fn q rs) bs) = each_bound a (closure rs e all) (unrolled e all bs)
unrolled e all (bind p a f bs) = unrolled e all bs

-- Rec VE
abbrev pub recursive : Env → Binds → Env
recursive e bs = unrolled e bs bs

-- each right side is written as `fn`
abbrev pub all_fns : Binds → Bool
all_fns no_binds = true
all_fns (bind p a (fn q rs) bs) = all_fns bs
all_fns (bind p a e bs) = false

abbrev pub with_recursive : Env → Binds → Bool → Env → World Value → Answer Value Env
with_recursive e rs fns d w = if fns then gives (plus d (recursive e rs)) w else fail w

abbrev pub Apply : Type 0
Apply = Place → Value → Value → World Value → Answer Value Value

abbrev pub on_match : {A : Type 0} → Matching → World Value → (Env → World Value → Answer Value A) → (World Value → Answer Value A) → Answer Value A
on_match (binds d) w go otherwise = go d w
on_match fails w go otherwise = otherwise w
on_match misfits w go otherwise = fail w

-- Declarations without expressions

abbrev pub cons_env : List ConBind → Env
cons_env [] = nothing
cons_env (c ∷ cs) = value c.vid Constructor (con (declared c.vid)) (cons_env cs)

abbrev pub types_env : List TypeBind → Env
types_env [] = nothing
types_env (b ∷ bs) = tycon b.tycon nothing (types_env bs)

abbrev pub datatypes_env : List DataBind → Env
datatypes_env [] = nothing
datatypes_env (b ∷ bs) = plus (datatypes_env bs) (tycon b.tycon (cons_env b.cons) (cons_env b.cons))

abbrev pub long_tycon_in : Env → LongIdAt → Option Env
long_tycon_in e x = option_and_then (λ d. tycon_in d x.long.id) (along e x.long.qualifiers)

abbrev pub long_structure_in : Env → LongIdAt → Option Env
long_structure_in e x = option_and_then (λ d. structure_in d x.long.id) (along e x.long.qualifiers)

abbrev pub opened : Env → List LongIdAt → Option Env
opened e [] = Some nothing
opened e (x ∷ xs) = option_and_then (λ d. option_map (plus d) (opened e xs)) (long_structure_in e x)

-- the identifier that a binding of an exception tells
abbrev pub identifier : Vid → ℕ
identifier v = elim v [ Named x ↦ x | u ↦ 0 ]

abbrev pub eval_exns : Env → List ExBind → World Value → Answer Value Env
eval_exns e [] w = gives nothing w
eval_exns e (new_exn p x t ∷ bs) w = new_exception (identifier x) w (λ n w. then_do (eval_exns e bs w) (λ d w. gives (value x Exception (exn n) d) w))
eval_exns e (same_exn p x q y ∷ bs) w = or_fail (long_value_in e y) w (λ f. then_do (eval_exns e bs w) (λ d w. gives (value x f.status f.value d) w))

-- Expressions, and declarations with the environment that they make

abbrev mutual
  pub eval : Apply → Env → Exp → World Value → Answer Value Value
  eval call e (constant_exp p c) w = gives (literal (constant_of c)) w
  eval call e (vid_exp p x) w = or_fail (long_value_in e x) w (λ f. gives f.value w)
  eval call e (built_exp p b) w = gives (con (built b)) w
  eval call e (fields_exp p fs) w = then_do (eval_fields call e fs w) (λ vs w. gives (record_of vs) w)
  eval call e (let_in p ds b) w = then_do (eval_decs call e ds w) (λ d w. eval call (plus e d) b w)
  -- an operator that is written as `fn` takes no turn
  eval call e (app p (fn q rs) a) w = then_do (eval call e a w) (λ v w. eval_rules call e rs v match_packet w)
  eval call e (app p f a) w = then_do (eval call e f w) (λ g w. then_do (eval call e a w) (λ v w. call p g v w))
  eval call e (typed p b t) w = eval call e b w
  eval call e (handle p b rs) w = or_handle (eval call e b w) (λ k w. eval_rules call e rs k k w)
  eval call e (raise p b) w = then_do (eval call e b w) raise_value
  eval call e (fn p rs) w = gives (closure rs e no_binds) w

  pub eval_fields : Apply → Env → ExpFields → World Value → Answer Value Fields
  eval_fields call e no_exp_fields w = gives no_fields w
  eval_fields call e (exp_field l b fs) w = then_do (eval call e b w) (λ v w. then_do (eval_fields call e fs w) (λ vs w. gives (field l v vs) w))

  -- the first rule that matches v; where none does, k is raised
  pub eval_rules : Apply → Env → Rules → Value → Value → World Value → Answer Value Value
  eval_rules call e no_rules v k w = raises k w
  eval_rules call e (rule p a b rs) v k w = on_match (match e w.store a v) w (λ d w. eval call (plus e d) b w) (λ w. eval_rules call e rs v k w)

  pub eval_decs : Apply → Env → Decs → World Value → Answer Value Env
  eval_decs call e no_decs w = gives nothing w
  eval_decs call e (dec d ds) w = then_do (eval_dec call e d w) (λ d w. then_do (eval_decs call (plus e d) ds w) (λ d' w. gives (plus d d') w))

  pub eval_dec : Apply → Env → Dec → World Value → Answer Value Env
  eval_dec call e (val_dec p q as_ bs rs) w = then_do (eval_binds call e bs w) (with_recursive e rs (all_fns rs))
  eval_dec call e (type_dec p bs) w = gives (types_env bs) w
  eval_dec call e (datatype_dec p bs) w = gives (datatypes_env bs) w
  eval_dec call e (replicate_dec p x y) w = or_fail (long_tycon_in e y) w (λ d. gives (tycon x d d) w)
  eval_dec call e (exception_dec p bs) w = eval_exns e bs w
  eval_dec call e (local_dec p ds ds') w = then_do (eval_decs call e ds w) (λ d w. eval_decs call (plus e d) ds' w)
  eval_dec call e (open_dec p xs) w = or_fail (opened e xs) w (λ d. gives d w)
  eval_dec call e (sequence_dec p ds) w = eval_decs call e ds w

  pub eval_binds : Apply → Env → Binds → World Value → Answer Value Env
  eval_binds call e no_binds w = gives nothing w
  eval_binds call e (bind p a b bs) w =
      then_do (eval call e b w) (λ v w. on_match (match e w.store a v) w (λ d w. then_do (eval_binds call e bs w) (λ d' w. gives (plus d d') w))
      (λ w. raises bind_packet w))

-- Calls [rules 101 to 108]: a function entered with its argument by a turn. Bodies are evaluated by go.
abbrev pub enter : (Env → Rules → Value → World Value → Answer Value Value) → Apply
enter go p (con c) v w = take_turn p w (λ w. gives (con_of c v) w)
enter go p ref v w = take_turn p w (λ w. new_reference v w (λ a w. gives (address a) w))
enter go p (exn n) v w = take_turn p w (λ w. gives (exn_of n v) w)
enter go p (primitive q) v w = take_turn p w (λ w. perform q (arguments v) w)
enter go p (closure rs e bs) v w = take_turn p w (λ w. go (plus e (recursive e bs)) rs v w)
enter go p f v w = fail w

-- calls nested k deep, which is no limit where k is at least the turns
abbrev pub apply : ℕ → Apply
apply zero = enter (λ e rs v w. stops out_of_turns w)
apply (suc k) = enter (λ e rs v w. eval_rules (apply k) e rs v match_packet w)
