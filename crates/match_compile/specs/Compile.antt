-- Rule by rule, each rule tested from its first pattern node to its last; every value in the order in which it is made. Each variable of the source gets
-- the number of a new one. New ones are numbered from 1 on, in the order of the text.
use Rattle.std.specs.Prelude.{ℕ, zero, suc, Bool, true, false, not, ◌&&◌, List, [], ◌∷◌, ◌++◌, length, map, Option, Some, nat_eq, nat_lt, if◌then◌else◌}
use Rattle.mlc_names.specs.declared.label.Label.TheVariants.{Number}
use Rattle.mlc_base.specs.declared.place.Place.{Place}
use Rattle.mlc_names.specs.declared.label.Label.{Label}
use Rattle.mlc_prims.specs.declared.basis.BasisPrimitive.{BasisPrimitive}
use Rattle.ty_core.specs.Types.{Typ, name, var, con, typs_of}
use Rattle.ty_core.specs.Statics.{replace}
use Rattle.ty_core.specs.declared.mark.Mark.{Mark}
use Rattle.ty_core.specs.declared.mark.Mark.TheVariants.{Any, Equality, Class}
use Rattle.ty_core.specs.declared.scheme.Quantified.{Quantified}
use Rattle.label_rows.specs.Order.{label_before}
use Rattle.ir_poly.specs.of_ir_values.Values.{same_label, truth_number}
use Rattle.ir_poly.specs.of_ir_values.Primitives.{match_name, bind_name}
use Rattle.ir_poly.specs.of_ir_plain.Tree as te
use Rattle.ir_poly.specs.of_ir_plain.Tree.{is_literal, is_con, is_con_of, is_exn, is_exn_of, is_record, no_atoms, an_atom, no_row, a_row, ret, let_in, exception_in, name_in, rec_in, switch, first, counted, no_arms, arm, use_of, const, con_alone, construct, ref_alone, refer, content, pack, make_record, select, prim_alone, prim, app, fn, block, handle, raise, raise_initial}
use Rattle.ir_poly.specs.Prog.{Exc, fixed, held, Pat, any_pat, variable_pat, constant_pat, con_pat, con_of_pat, ref_of_pat, exn_pat, exn_of_pat, fields_pat, as_pat, PatFields, no_pats, a_pat, Exp, constant_exp, variable_exp, own_exp, con_exp, ref_exp, exn_exp, prim_exp, fields_exp, let_exp, app_exp, case_exp, chain_exp, handle_exp, raise_exp, fn_exp, counted_exp, Fields, no_fields, a_field, Chain, only, link, Rules, no_rules, a_rule, Fun, last, by_rules, more, Decs, no_decs, val_dec, exception_dec, counted_dec, Binds, no_binds, a_bind, Funs, no_funs, a_fun, type_of}
use Rattle.ir_poly.specs.ProgMeaning.{size_of}
use Rattle.ir_poly.specs.ProgChecked.{parameters_if}
use Rattle.ir_poly.specs.Tests.{Use, inst, poly, Tests}
use Rattle.ir_poly.specs.Types.{of_name, bool_name, exn_name, unit_type, row_type, in_scope, prim_type}
use Rattle.ir_poly.specs.TestsTyped.{option_read}
use Rattle.ir_poly.specs.WellFormed.{Program}

-- The numbers that the source's variables have got. No variable has the number 0: it stands for one that isn't bound.

abbrev pub Names : Type 0
Names = ℕ → ℕ

abbrev pub no_names : Names
no_names = λ x. 0

abbrev pub named : (y k : ℕ) → Names → Names
named y k N = λ x. if nat_eq x y then k else N x

abbrev pub each_named : List ℕ → (k : ℕ) → Names → Names
each_named [] k N = N
each_named (x ∷ xs) k N = named x k (each_named xs k N)

-- functions of a group, numbered from b on, and the number after them
abbrev pub funs_named : Funs → (b : ℕ) → Names → Names
funs_named no_funs b N = N
funs_named (a_fun xs t f fs) b N = each_named xs b (funs_named fs (suc b) N)

abbrev pub past_group : Funs → (b : ℕ) → ℕ
past_group no_funs b = b
past_group (a_fun xs t f fs) b = past_group fs (suc b)

-- A type is written over the parameters in scope. One of a declaration's parameters stands for unit in a binding that isn't generalised.

abbrev pub standing : List Quantified → ℕ → Typ
standing D v = if in_scope D v then var v else unit_type

abbrev pub scoped : List Quantified → Typ → Typ
scoped D t = replace (standing D) t

abbrev pub all_scoped : List Quantified → List Typ → List Typ
all_scoped D ts = map (replace (standing D)) ts

abbrev pub option_scoped : List Quantified → Option Typ → Option Typ
option_scoped D t = option_read (standing D) t

-- A parameter stands for itself where it is in scope, so of what is put for it nothing is asked but equality.
abbrev pub opened : Mark → Mark
opened Any = Any
opened Equality = Equality
opened (Class c) = Any

abbrev pub unclassed : List Quantified → List Quantified
unclassed [] = []
unclassed (q ∷ qs) = record { variable = q.variable; mark = opened q.mark } ∷ unclassed qs

-- the parameters as types
abbrev pub own_types : List Quantified → List Typ
own_types [] = []
own_types (q ∷ qs) = var q.variable ∷ own_types qs

abbrev pub bool_type : Typ
bool_type = of_name bool_name

abbrev pub exception_type : Typ
exception_type = of_name exn_name

-- Steps

-- a new variable as an atom
abbrev pub atom : ℕ → Use
atom n = inst n []

-- a new variable with the value of an operation
abbrev pub put : List Quantified → (n : ℕ) → Typ → te.Op poly → Tests → Tests
put D n u o rest = let_in n [] (scoped D u) o rest

-- a test of an atom of type t, and what follows where it holds
abbrev pub test : List Quantified → (t : Typ) → (a : ℕ) → te.Case poly → Tests → Tests
test D t a c rest = switch (atom a) (scoped D t) (arm c rest no_arms)

abbrev pub excepted : Names → Exc → te.Exception poly
excepted N (fixed i) = te.fixed i
excepted N (held x) = te.held (inst (N x) [])

-- what is raised where no rule applies: the packet that was matched, or an exception of the initial basis
pub data Otherwise : Type 0 where
  again : Otherwise
  initial : ℕ → Otherwise

abbrev pub otherwise_op : (a : ℕ) → Otherwise → te.Op poly
otherwise_op a again = raise (atom a)
otherwise_op a (initial i) = raise_initial i

-- the type is that of the phrase that gives no value here
abbrev pub otherwise : List Quantified → (n : ℕ) → Typ → (a : ℕ) → Otherwise → Tests
otherwise D n u a o = put D n u (otherwise_op a o) (ret (atom n))

-- Patterns

-- where the variables of patterns are found: each with the number of a new one, and its type; the last one first
pub data Spots : Type 0 where
  no_spots : Spots
  spot : (x a : ℕ) → Typ → Spots → Spots

abbrev pub spots_named : Spots → Names → Names
spots_named no_spots N = N
spots_named (spot x a t vs) N = named x a (spots_named vs N)

abbrev mutual
  pub past_pat : Pat → (n : ℕ) → ℕ
  past_pat any_pat n = n
  past_pat (variable_pat x) n = n
  past_pat (constant_pat l) n = n
  past_pat (con_pat c) n = n
  past_pat (con_of_pat c u p) n = past_pat p (suc n)
  past_pat (ref_of_pat u p) n = past_pat p (suc n)
  past_pat (exn_pat x) n = suc n
  past_pat (exn_of_pat x u p) n = past_pat p (suc (suc n))
  past_pat (fields_pat further ps) n = past_pats ps n
  past_pat (as_pat x p) n = past_pat p n

  pub past_pats : PatFields → (n : ℕ) → ℕ
  past_pats no_pats n = n
  past_pats (a_pat l u p ps) n = past_pats ps (past_pat p (suc n))

-- in front of vs those of a pattern that is matched with the value of type t in the variable a, with new ones from n on
abbrev mutual
  pub spots : Pat → Typ → (n a : ℕ) → Spots → Spots
  spots any_pat t n a vs = vs
  spots (variable_pat x) t n a vs = spot x a t vs
  spots (constant_pat l) t n a vs = vs
  spots (con_pat c) t n a vs = vs
  spots (con_of_pat c u p) t n a vs = spots p u (suc n) n vs
  spots (ref_of_pat u p) t n a vs = spots p u (suc n) n vs
  spots (exn_pat x) t n a vs = vs
  spots (exn_of_pat x u p) t n a vs = spots p u (suc (suc n)) (suc n) vs
  spots (fields_pat further ps) t n a vs = field_spots ps n vs
  spots (as_pat x p) t n a vs = spots p t n a (spot x a t vs)

  pub field_spots : PatFields → (n : ℕ) → Spots → Spots
  field_spots no_pats n vs = vs
  field_spots (a_pat l u p ps) n vs = field_spots ps (past_pat p (suc n)) (spots p u (suc n) n vs)

-- the tests of the value of type t in the variable a, and what follows where they hold
abbrev mutual
  pub tests : List Quantified → Names → Pat → (t : Typ) → (n a : ℕ) → Tests → Tests
  tests D N any_pat t n a rest = rest
  tests D N (variable_pat x) t n a rest = rest
  tests D N (constant_pat l) t n a rest = test D t a (is_literal l) rest
  tests D N (con_pat c) t n a rest = test D t a (is_con c) rest
  tests D N (con_of_pat c u p) t n a rest = test D t a (is_con_of c n (scoped D u)) (tests D N p u (suc n) n rest)
  tests D N (ref_of_pat u p) t n a rest = put D n u (content (scoped D u) (atom a)) (tests D N p u (suc n) n rest)
  tests D N (exn_pat x) t n a rest = name_in n (excepted N x) (test D t a (is_exn (atom n)) rest)
  tests D N (exn_of_pat x u p) t n a rest =
      name_in n (excepted N x) (test D t a (is_exn_of (atom n) (suc n) (scoped D u)) (tests D N p u (suc (suc n)) (suc n) rest))
  tests D N (fields_pat further ps) t n a rest = test D t a (is_record (size_of further ps)) (field_tests D N ps t n a rest)
  tests D N (as_pat x p) t n a rest = tests D N p t n a rest

  pub field_tests : List Quantified → Names → PatFields → (t : Typ) → (n a : ℕ) → Tests → Tests
  field_tests D N no_pats t n a rest = rest
  field_tests D N (a_pat l u p ps) t n a rest =
      put D n u (select (scoped D t) l (atom a)) (tests D N p u (suc n) n (field_tests D N ps t (past_pat p (suc n)) a rest))

-- Bindings. One that is generalised has its value in a block; where its pattern isn't a variable alone, the variables are in a record, labelled 1, 2, ..,
-- and each is one of its fields.

pub data Shape : Type 0 where
  plain : Shape
  alone : ℕ → Shape
  recorded : Shape

abbrev pub general_shape : Pat → Shape
general_shape (variable_pat x) = alone x
general_shape any_pat = recorded
general_shape (constant_pat l) = recorded
general_shape (con_pat c) = recorded
general_shape (con_of_pat c u p) = recorded
general_shape (ref_of_pat u p) = recorded
general_shape (exn_pat x) = recorded
general_shape (exn_of_pat x u p) = recorded
general_shape (fields_pat further ps) = recorded
general_shape (as_pat x p) = recorded

abbrev pub shape_over : List Quantified → Pat → Shape
shape_over [] p = plain
shape_over (q ∷ qs) p = general_shape p

abbrev pub shape : List Quantified → Bool → Pat → Shape
shape qs b p = shape_over (parameters_if b qs) p

abbrev pub row_of : Spots → (l : ℕ) → List (Label × Typ)
row_of no_spots l = []
row_of (spot x a t vs) l = (Number l, t) ∷ row_of vs (suc l)

abbrev pub spots_row : Spots → (l : ℕ) → te.Row poly
spots_row no_spots l = no_row
spots_row (spot x a t vs) l = a_row (Number l) (atom a) (spots_row vs (suc l))

abbrev pub record_type : Spots → Typ
record_type vs = row_type (row_of vs 1)

-- the record of all variables
abbrev pub together : List Quantified → Spots → (j : ℕ) → Tests
together D vs j = put D j (record_type vs) (make_record (scoped D (record_type vs)) (spots_row vs 1)) (ret (atom j))

-- the field l of the record in the variable r, which is generalised over qs and has type u, with new variables from k on
abbrev pub part : List Quantified → List Quantified → Typ → (r l : ℕ) → Typ → (k : ℕ) → Tests
part D qs u r l t k = put D k u (use_of (inst r (own_types qs))) (put D (suc k) t (select (scoped D u) (Number l) (atom k)) (ret (atom (suc k))))

-- each variable takes three new ones
abbrev pub split : List Quantified → List Quantified → Typ → (r : ℕ) → Spots → (l k : ℕ) → Tests → Tests
split D qs u r no_spots l k rest = rest
split D qs u r (spot x a t vs) l k rest =
    let_in (suc (suc k)) qs (scoped (qs ++ D) t) (block (part (qs ++ D) qs u r l t k)) (split D qs u r vs (suc l) (suc (suc (suc k))) rest)

abbrev pub past_split : Spots → (k : ℕ) → ℕ
past_split no_spots k = k
past_split (spot x a t vs) k = past_split vs (suc (suc (suc k)))

abbrev pub split_spots : Spots → (k : ℕ) → Spots → Spots
split_spots no_spots k us = us
split_spots (spot x a t vs) k us = spot x (suc (suc k)) t (split_spots vs (suc (suc (suc k))) us)

-- the number after a binding whose value is in the variable i, and where its variables are
abbrev pub past_shape : Shape → Pat → Typ → (i : ℕ) → ℕ
past_shape plain p t i = past_pat p (suc i)
past_shape (alone x) p t i = suc (suc i)
past_shape recorded p t i = past_split (spots p t (suc i) i no_spots) (suc (suc (suc (past_pat p (suc i)))))

abbrev pub shape_spots : Shape → Pat → Typ → (i : ℕ) → Spots → Spots
shape_spots plain p t i us = spots p t (suc i) i us
shape_spots (alone x) p t i us = spot x (suc i) t us
shape_spots recorded p t i us = split_spots (spots p t (suc i) i no_spots) (suc (suc (suc (past_pat p (suc i))))) us

-- a binding whose value is in the variable i: what makes and tests it before the rest; what makes the value; what makes the record
abbrev pub shaped : Shape → List Quantified → List Quantified → Pat → Typ → (i : ℕ) → (plainly value all rest : Tests) → Tests
shaped plain D qs p t i plainly value all rest = plainly
shaped (alone x) D qs p t i plainly value all rest = let_in (suc i) qs (scoped (qs ++ D) t) (block value) rest
shaped recorded D qs p t i plainly value all rest =
    let vs = spots p t (suc i) i no_spots in let j = past_pat p (suc i) in let u = record_type vs in
    let_in (suc (suc j)) qs (scoped (qs ++ D) u) (block (first all (otherwise (qs ++ D) (suc j) u i (initial bind_name))))
    (split D qs u (suc (suc j)) vs 1 (suc (suc (suc j))) rest)

-- a group without functions is none
abbrev pub grouped : List Quantified → te.Funs poly → Tests → Tests
grouped qs te.no_funs rest = rest
grouped qs (te.fun x t f fs) rest = rec_in qs (te.fun x t f fs) rest

-- Applications: a constructor, `ref` or an exception makes its value at once, and so does a primitive of two arguments or more whose tuple is written.

pub data Built : Type 0 where
  a_con : ℕ → Built
  a_ref : Typ → Built
  an_exn : Exc → Built

pub data Way : Type 0 where
  by_call : Way
  by_building : Built → Way
  by_performing : BasisPrimitive → Typ → Way

-- the type that a primitive is used at
abbrev pub used_at : List Typ → Typ
used_at [] = unit_type
used_at (u ∷ us) = u

-- k fields with the labels l, l + 1, ..
abbrev pub are_numbered : (l k : ℕ) → Fields → Bool
are_numbered l zero no_fields = true
are_numbered l zero (a_field m e fs) = false
are_numbered l (suc k) no_fields = false
are_numbered l (suc k) (a_field m e fs) = same_label (Number l) m && are_numbered (suc l) k fs

abbrev pub is_tuple : (k : ℕ) → Exp → Bool
is_tuple k (fields_exp t fs) = are_numbered 1 k fs
is_tuple k (counted_exp n t e) = is_tuple k e
is_tuple k e = false

abbrev pub arity : BasisPrimitive → ℕ
arity p = length (prim_type p).arguments

abbrev pub performed : Bool → BasisPrimitive → Typ → Way
performed true p u = by_performing p u
performed false p u = by_call

abbrev pub way : (function argument : Exp) → Way
way (con_exp c y ts t) a = by_building (a_con c)
way (ref_exp u t) a = by_building (a_ref u)
way (exn_exp x t) a = by_building (an_exn x)
way (prim_exp p ts t) a = performed (nat_lt 1 (arity p) && is_tuple (arity p) a) p (used_at ts)
way (counted_exp n t f) a = way f a
way f a = by_call

-- the nodes that a function stands for that isn't made itself
abbrev pub weighed : Exp → Tests → Tests
weighed (counted_exp n t f) rest = counted n (weighed f rest)
weighed f rest = rest

-- an exception's name is brought in first
abbrev pub past_built : Built → (n : ℕ) → ℕ
past_built (a_con c) n = n
past_built (a_ref u) n = n
past_built (an_exn x) n = suc n

abbrev pub beginning : Names → Built → (n : ℕ) → Tests → Tests
beginning N (a_con c) n rest = rest
beginning N (a_ref u) n rest = rest
beginning N (an_exn x) n rest = name_in n (excepted N x) rest

-- what is built of type t from the value of type u in the variable a
abbrev pub building : List Quantified → Built → Place → (t u : Typ) → (n a : ℕ) → te.Op poly
building D (a_con c) place t u n a = construct (Some place) c (scoped D t) (atom a)
building D (a_ref w) place t u n a = refer (Some place) (scoped D w) (atom a)
building D (an_exn x) place t u n a = pack (Some place) (scoped D u) (atom n) (atom a)

-- A match of one rule whose pattern any value fits needs no tests: the variables are the value, and the rule's expression comes at once. So are sequences.

abbrev pub fits_all : Pat → Bool
fits_all any_pat = true
fits_all (variable_pat x) = true
fits_all (as_pat x p) = fits_all p
fits_all p = false

abbrev pub is_direct : Rules → Bool
is_direct no_rules = false
is_direct (a_rule p e no_rules) = fits_all p
is_direct (a_rule p e (a_rule q d rs)) = false

-- one of three ways
abbrev pub along : {A : Type 0} → Way → (called : A) → (built : Built → A) → (done : BasisPrimitive → Typ → A) → A
along by_call called built done = called
along (by_building b) called built done = built b
along (by_performing p u) called built done = done p u

-- Numbers: the variable that has the value of an expression, which is its last new one; and the next one after a phrase.

abbrev mutual
  pub value_at : Exp → (n : ℕ) → ℕ
  value_at (constant_exp l t) n = n
  value_at (variable_exp x ts t) n = n
  value_at (own_exp x t) n = n
  value_at (con_exp c y ts t) n = n
  value_at (ref_exp u t) n = n
  value_at (exn_exp x t) n = suc n
  value_at (prim_exp p ts t) n = n
  value_at (fields_exp t fs) n = past_fields fs n
  value_at (let_exp t ds e) n = suc (suc (value_at e (past_decs ds n)))
  value_at (app_exp place t f a) n = along (way f a) (suc (value_at a (suc (value_at f n)))) (λ b. suc (value_at a (past_built b n))) (λ p u. past_tuple a n)
  value_at (case_exp place t e rs) n = if is_direct rs then value_of_rule rs (suc (value_at e n)) else past_rules rs (suc (value_at e n))
  value_at (chain_exp b t c) n = suc (past_chain c n)
  value_at (handle_exp t e rs) n = past_rules rs (suc (suc (value_at e n)))
  value_at (raise_exp t e) n = suc (value_at e n)
  value_at (fn_exp t f) n = past_fun f n
  value_at (counted_exp k t e) n = value_at e n

  pub value_of_rule : Rules → (n : ℕ) → ℕ
  value_of_rule no_rules n = n
  value_of_rule (a_rule p e rs) n = value_at e n

  pub past_tuple : Exp → (n : ℕ) → ℕ
  past_tuple (fields_exp t fs) n = past_fields fs n
  past_tuple (counted_exp k t e) n = past_tuple e n
  past_tuple e n = n

  pub past_fields : Fields → (n : ℕ) → ℕ
  past_fields no_fields n = n
  past_fields (a_field l e fs) n = past_fields fs (suc (value_at e n))

  pub past_chain : Chain → (n : ℕ) → ℕ
  past_chain (only e) n = suc (value_at e n)
  past_chain (link e c) n = past_chain c (suc (value_at e n))

  pub past_rules : Rules → (n : ℕ) → ℕ
  past_rules no_rules n = suc n
  past_rules (a_rule p e rs) n = past_rules rs (suc (value_at e (past_pat p n)))

  pub past_fun : Fun → (n : ℕ) → ℕ
  past_fun (last x t e) n = suc (value_at e (suc n))
  past_fun (by_rules place t u rs) n = past_rules rs (suc n)
  past_fun (more x t f) n = past_fun f (suc n)

  pub past_decs : Decs → (n : ℕ) → ℕ
  past_decs no_decs n = n
  past_decs (val_dec qs bs fs ds) n = past_decs ds (past_funs fs (past_group fs (past_binds (unclassed qs) bs n)))
  past_decs (exception_dec x identifier t ds) n = past_decs ds (suc n)
  past_decs (counted_dec k ds) n = past_decs ds n

  pub past_binds : List Quantified → Binds → (n : ℕ) → ℕ
  past_binds qs no_binds n = n
  past_binds qs (a_bind place b p t e bs) n = past_binds qs bs (past_shape (shape qs b p) p t (value_at e n))

  pub past_funs : Funs → (n : ℕ) → ℕ
  past_funs no_funs n = n
  past_funs (a_fun xs t f fs) n = past_funs fs (past_fun f n)

-- Names after phrases

abbrev pub binds_spots : List Quantified → Binds → (n : ℕ) → Spots → Spots
binds_spots qs no_binds n us = us
binds_spots qs (a_bind place b p t e bs) n us =
    binds_spots qs bs (past_shape (shape qs b p) p t (value_at e n)) (shape_spots (shape qs b p) p t (value_at e n) us)

-- with the functions that are declared beside the bindings
abbrev pub val_named : List Quantified → Binds → Funs → (n : ℕ) → Names → Names
val_named qs bs fs n N = spots_named (binds_spots qs bs n no_spots) (funs_named fs (past_binds qs bs n) N)

abbrev pub decs_named : Decs → (n : ℕ) → Names → Names
decs_named no_decs n N = N
decs_named (val_dec qs bs fs ds) n N =
    decs_named ds (past_funs fs (past_group fs (past_binds (unclassed qs) bs n))) (val_named (unclassed qs) bs fs n N)
decs_named (exception_dec x identifier t ds) n N = decs_named ds (suc n) (named x n N)
decs_named (counted_dec k ds) n N = decs_named ds n N

-- where the values of fields are
abbrev pub field_row : Fields → (n : ℕ) → te.Row poly
field_row no_fields n = no_row
field_row (a_field l e fs) n = a_row l (atom (value_at e n)) (field_row fs (suc (value_at e n)))

abbrev pub field_atoms : Fields → (n : ℕ) → te.Atoms poly
field_atoms no_fields n = no_atoms
field_atoms (a_field l e fs) n = an_atom (atom (value_at e n)) (field_atoms fs (suc (value_at e n)))

-- in the order of labels, as a record has its fields
abbrev pub put_atom : Label → Use → te.Row poly → te.Row poly
put_atom l a no_row = a_row l a no_row
put_atom l a (a_row k b row) = if label_before k l then a_row k b (put_atom l a row) else a_row l a (a_row k b row)

abbrev pub sorted_row : te.Row poly → te.Row poly
sorted_row no_row = no_row
sorted_row (a_row l a row) = put_atom l a (sorted_row row)

abbrev pub tuple_atoms : Exp → (n : ℕ) → te.Atoms poly
tuple_atoms (fields_exp t fs) n = field_atoms fs n
tuple_atoms (counted_exp k t e) n = tuple_atoms e n
tuple_atoms e n = no_atoms

-- D are the parameters in scope, N the names, n the number of the next new variable.
abbrev mutual
  -- the value of e is made, and then comes the rest
  pub making : List Quantified → Names → Exp → (n : ℕ) → Tests → Tests
  making D N (constant_exp l t) n rest = put D n t (const l) rest
  making D N (variable_exp x ts t) n rest = put D n t (use_of (inst (N x) (all_scoped D ts))) rest
  making D N (own_exp x t) n rest = put D n t (use_of (inst (N x) [])) rest
  making D N (con_exp c y ts t) n rest = put D n t (con_alone c (scoped D (con (name y) (typs_of ts)))) rest
  making D N (ref_exp u t) n rest = put D n t (ref_alone (scoped D u)) rest
  making D N (exn_exp x t) n rest = name_in n (excepted N x) (put D (suc n) t (use_of (atom n)) rest)
  making D N (prim_exp p ts t) n rest = put D n t (prim_alone p (scoped D (used_at ts))) rest
  -- the fields in the order written
  making D N (fields_exp t fs) n rest = making_all D N fs n (put D (past_fields fs n) t (make_record (scoped D t) (sorted_row (field_row fs n))) rest)
  making D N (let_exp t ds e) n rest =
      let i = past_decs ds n in let j = value_at e i in
      put D (suc (suc j)) t (block (first (decs D N ds n (making D (decs_named ds n N) e i (ret (atom j)))) (otherwise D (suc j) t n (initial bind_name)))) rest
  making D N (app_exp place t f a) n rest =
      along (way f a)
      (let i = value_at f n in let j = value_at a (suc i) in making D N f n (making D N a (suc i) (put D (suc j) t (app place (atom i) (atom j)) rest)))
      (λ b. let i = value_at a (past_built b n) in
      beginning N b n (weighed f (making D N a (past_built b n) (put D (suc i) t (building D b place t (type_of a) n i) rest))))
      (λ p u. weighed f (making_tuple D N a n (put D (past_tuple a n) t (prim (Some place) p (scoped D u) (tuple_atoms a n)) rest)))
  making D N (case_exp place t e rs) n rest =
      let i = value_at e n in
      making D N e n
      (if is_direct rs then making_rule D N rs (type_of e) (suc i) i rest
      else put D (past_rules rs (suc i)) t (block (rules D N rs (type_of e) t (suc i) i (initial match_name))) rest)
  making D N (chain_exp b t c) n rest =
      put D (suc (past_chain c n)) t (block (first (links D N c b n) (otherwise D (past_chain c n) bool_type n (initial match_name)))) rest
  making D N (handle_exp t e rs) n rest =
      let i = value_at e n in
      put D (past_rules rs (suc (suc i))) t
      (handle (making D N e n (ret (atom i))) (suc i) (rules D N rs exception_type t (suc (suc i)) (suc i) again)) rest
  making D N (raise_exp t e) n rest = making D N e n (put D (suc (value_at e n)) t (raise (atom (value_at e n))) rest)
  making D N (fn_exp t f) n rest = put D (past_fun f n) t (fn (function D N f n)) rest
  making D N (counted_exp k t e) n rest = counted k (making D N e n rest)

  -- the expression of a rule that any value fits, where the value of type u is in the variable a
  pub making_rule : List Quantified → Names → Rules → (u : Typ) → (n a : ℕ) → Tests → Tests
  making_rule D N no_rules u n a rest = rest
  making_rule D N (a_rule p e rs) u n a rest = making D (spots_named (spots p u n a no_spots) N) e n rest

  -- the fields of a tuple that is written
  pub making_tuple : List Quantified → Names → Exp → (n : ℕ) → Tests → Tests
  making_tuple D N (fields_exp t fs) n rest = making_all D N fs n rest
  making_tuple D N (counted_exp k t e) n rest = counted k (making_tuple D N e n rest)
  making_tuple D N e n rest = rest

  pub making_all : List Quantified → Names → Fields → (n : ℕ) → Tests → Tests
  making_all D N no_fields n rest = rest
  making_all D N (a_field l e fs) n rest = making D N e n (making_all D N fs (suc (value_at e n)) rest)

  -- one operand after the other as long as they are b; the first that isn't, or the last, is the value
  pub links : List Quantified → Names → Chain → Bool → (n : ℕ) → Tests
  links D N (only e) b n = making D N e n (ret (atom (value_at e n)))
  links D N (link e c) b n =
      let i = value_at e n in
      making D N e n
      (switch (atom i) bool_type (arm (is_con (truth_number b)) (links D N c b (suc i)) (arm (is_con (truth_number (not b))) (ret (atom i)) no_arms)))

  -- rules for a value of type u, with results of type t
  pub rules : List Quantified → Names → Rules → (u t : Typ) → (n a : ℕ) → Otherwise → Tests
  rules D N no_rules u t n a o = otherwise D n t a o
  rules D N (a_rule p e rs) u t n a o =
      let i = past_pat p n in let j = value_at e i in
      first (tests D N p u n a (making D (spots_named (spots p u n a no_spots) N) e i (ret (atom j)))) (rules D N rs u t (suc j) a o)

  pub function : List Quantified → Names → Fun → (n : ℕ) → te.Fun poly
  function D N (last x t e) n = te.last n (scoped D t) (making D (named x n N) e (suc n) (ret (atom (value_at e (suc n)))))
  function D N (by_rules place t u rs) n = te.last n (scoped D t) (rules D N rs t u (suc n) n (initial match_name))
  function D N (more x t f) n = te.more n (scoped D t) (function D (named x n N) f (suc n))

  -- those of a group, in the variables from b on
  pub functions : List Quantified → Names → Funs → (b n : ℕ) → te.Funs poly
  functions D N no_funs b n = te.no_funs
  functions D N (a_fun xs t f fs) b n = te.fun b (scoped D t) (function D N f n) (functions D N fs (suc b) (past_fun f n))

  -- the bindings, and then the rest; it misses where a pattern that isn't generalised fails
  pub bindings : List Quantified → Names → List Quantified → Binds → (n : ℕ) → Tests → Tests
  bindings D N qs no_binds n rest = rest
  bindings D N qs (a_bind place b p t e bs) n rest =
      let s = shape qs b p in let i = value_at e n in let j = past_pat p (suc i) in
      let next = bindings D N qs bs (past_shape s p t i) rest in
      shaped s D qs p t i (making D N e n (tests D N p t (suc i) i next)) (making (qs ++ D) N e n (ret (atom i)))
      (making (qs ++ D) N e n (tests (qs ++ D) N p t (suc i) i (together (qs ++ D) (spots p t (suc i) i no_spots) j))) next

  pub decs : List Quantified → Names → Decs → (n : ℕ) → Tests → Tests
  decs D N no_decs n rest = rest
  decs D N (val_dec qs bs fs ds) n rest =
      let rs = unclassed qs in let b = past_binds rs bs n in let m = past_group fs b in
      bindings D N rs bs n
      (grouped rs (functions (rs ++ D) (funs_named fs b N) fs b m) (decs D (val_named rs bs fs n N) ds (past_funs fs m) rest))
  decs D N (exception_dec x identifier t ds) n rest = exception_in n identifier (option_scoped D t) (decs D (named x n N) ds (suc n) rest)
  decs D N (counted_dec k ds) n rest = counted k (decs D N ds n rest)

-- a program gives unit, or raises Bind
abbrev pub compile : Decs → Tests
compile ds =
    let k = past_decs ds 1 in
    first (decs [] no_names ds 1 (put [] k unit_type (make_record unit_type no_row) (ret (atom k)))) (otherwise [] (suc k) unit_type 0 (initial bind_name))

abbrev pub compiled : Program Decs → Program Tests
compiled p = record { initial = p.initial; constructors = p.constructors; body = compile p.body }
