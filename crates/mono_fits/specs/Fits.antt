-- What a checker asks of each node, by recursion along the tree: its type, that its atoms are bound in its own function, and that what it binds is new.
-- G has what is in scope, L of it what is bound in the same function; exn is the number of the type of exceptions.
use Rattle.std.specs.Prelude.{ℕ, Bool, true, false, ◌&&◌, List, [], ◌∷◌, Option, Some, None, option_and_then, option_map, nat_eq, nat_lt, if◌then◌else◌}
use Rattle.mlc_names.specs.declared.label.Label.{Label}
use Rattle.ir_values.specs.Values.{same_label}
use Rattle.ir_plain.specs.Tree.{Case, is_literal, is_con, is_con_of, is_exn as is_exn_case, is_exn_of, is_record, Exception, fixed, held, Atoms, no_atoms, an_atom, Row, no_row, a_row, Exp, ret, let_in, exception_in, name_in, rec_in, switch, first, miss, counted, Arms, no_arms, arm, Op, use_of, const, con_alone, construct, ref_alone, refer, content, pack, make_record, select, prim_alone, prim, app, fn, block, handle, raise, raise_initial, Fun, last, more, Funs, no_funs, fun}
use Rattle.ir_mono.specs.Types as table
use Rattle.ir_mono.specs.Types.{node_at}
use Rattle.ir_mono.specs.Mono.{mono}
use Rattle.ir_mono.specs.Typing.{Sort, of_type, exception, Sorts, sort_of, group_sorts}
use Rattle.mono_fits.specs.Asked.{given, same_argument, is_record_node, are_distinct, is_exn, is_reference, result_from, is_function, has_literal, has_constructor, is_alone_use, is_exception, is_maker, field_of, is_sized, is_primitive, performs}

abbrev pub type_in : Sort → Option ℕ
type_in (of_type t) = Some t
type_in (exception a) = None

abbrev pub argument_in : Sort → Option (Option ℕ)
argument_in (of_type t) = None
argument_in (exception a) = Some a

-- the type of an atom, and the argument of an exception
abbrev pub type_of : Sorts → ℕ → Option ℕ
type_of L x = option_and_then type_in (sort_of L x)

abbrev pub argument_of : Sorts → ℕ → Option (Option ℕ)
argument_of L x = option_and_then argument_in (sort_of L x)

abbrev pub is_atom : Sorts → ℕ → ℕ → Bool
is_atom L x t = given (type_of L x) (nat_eq t)

abbrev pub is_exception_of : Sorts → ℕ → Option ℕ → Bool
is_exception_of L x a = given (argument_of L x) (same_argument a)

abbrev pub is_none : {A : Type 0} → Option A → Bool
is_none None = true
is_none (Some a) = false

abbrev pub is_new : Sorts → ℕ → Bool
is_new G x = is_none (sort_of G x)

module _ (types : List table.Row) (exn : ℕ) where
  -- the types of atoms
  abbrev pub types_of : Sorts → Atoms (mono types) → Option (List ℕ)
  types_of L no_atoms = Some []
  types_of L (an_atom x as_) = option_and_then (λ t. option_map (λ ts. t ∷ ts) (types_of L as_)) (type_of L x)

  abbrev pub row_fits : Sorts → Row (mono types) → List Label → List ℕ → Bool
  row_fits L no_row [] [] = true
  row_fits L no_row [] (t ∷ ts) = false
  row_fits L no_row (k ∷ ls) ts = false
  row_fits L (a_row l x row) [] ts = false
  row_fits L (a_row l x row) (k ∷ ls) [] = false
  row_fits L (a_row l x row) (k ∷ ls) (t ∷ ts) = same_label l k && (is_atom L x t && row_fits L row ls ts)

  abbrev pub name_argument : Sorts → Exception (mono types) → Option (Option ℕ)
  name_argument G (fixed n) = if nat_lt n 7 then Some None else None
  name_argument G (held x) = argument_of G x

  abbrev pub sort_fits : Sort → ℕ → Bool
  sort_fits (of_type u) t = nat_eq u t
  sort_fits (exception a) t = is_exception types a t

  -- what is in scope where an arm fits
  abbrev pub case_onto : Case (mono types) → Sorts → Sorts
  case_onto (is_literal l) G = G
  case_onto (is_con c) G = G
  case_onto (is_con_of c x a) G = (x, of_type a) ∷ G
  case_onto (is_exn_case y) G = G
  case_onto (is_exn_of y x a) G = (x, of_type a) ∷ G
  case_onto (is_record size) G = G

  abbrev pub case_fits : Sorts → Sorts → Case (mono types) → ℕ → Bool
  case_fits G L (is_literal l) t = has_literal types l t
  case_fits G L (is_con c) t = has_constructor types t c None
  case_fits G L (is_con_of c x a) t = has_constructor types t c (Some a) && is_new G x
  case_fits G L (is_exn_case y) t = is_exn types t && is_exception_of L y None
  case_fits G L (is_exn_of y x a) t = is_exn types t && (is_exception_of L y (Some a) && is_new G x)
  case_fits G L (is_record size) t = is_sized types size t

  -- the functions of a group are new, and each once
  abbrev pub are_new : Sorts → Funs (mono types) → Bool
  are_new G no_funs = true
  are_new G (fun x a f fs) = are_new G fs && is_new (group_sorts types fs G) x

  abbrev mutual
    pub exp_fits : Bool → Sorts → Sorts → Exp (mono types) → ℕ → Bool
    exp_fits m G L (ret x) t = is_atom L x t
    exp_fits m G L (let_in x ps a o e) t = op_fits G L o a && (is_new G x && exp_fits m ((x, of_type a) ∷ G) ((x, of_type a) ∷ L) e t)
    exp_fits m G L (exception_in x i a e) t = is_new G x && exp_fits m ((x, exception a) ∷ G) ((x, exception a) ∷ L) e t
    exp_fits m G L (name_in x y e) t = given (name_argument G y) (λ a. is_new G x && exp_fits m ((x, exception a) ∷ G) ((x, exception a) ∷ L) e t)
    exp_fits m G L (rec_in ps fs e) t =
        are_new G fs && (funs_fit (group_sorts types fs G) fs && exp_fits m (group_sorts types fs G) (group_sorts types fs L) e t)
    exp_fits m G L (switch x u arms) t = m && (is_atom L x u && arms_fit G L arms u t)
    exp_fits m G L (first e d) t = exp_fits true G L e t && exp_fits m G L d t
    exp_fits m G L miss t = m
    exp_fits m G L (counted k e) t = exp_fits m G L e t

    pub arms_fit : Sorts → Sorts → Arms (mono types) → ℕ → ℕ → Bool
    arms_fit G L no_arms u t = true
    arms_fit G L (arm c e arms) u t = case_fits G L c u && (exp_fits true (case_onto c G) (case_onto c L) e t && arms_fit G L arms u t)

    pub op_fits : Sorts → Sorts → Op (mono types) → ℕ → Bool
    op_fits G L (use_of x) t = given (sort_of G x) (λ s. sort_fits s t)
    op_fits G L (const l) t = has_literal types l t
    op_fits G L (con_alone c u) t = is_alone_use types c u t
    op_fits G L (construct m c u x) t = nat_eq u t && given (type_of L x) (λ a. has_constructor types t c (Some a))
    op_fits G L (ref_alone a) t = is_maker types a t
    op_fits G L (refer m a x) t = is_atom L x a && is_reference types t a
    op_fits G L (content u x) t = nat_eq u t && given (type_of L x) (λ r. is_reference types r t)
    op_fits G L (pack m a y x) t = is_exception_of L y (Some a) && (is_atom L x a && is_exn types t)
    op_fits G L (make_record u row) t = nat_eq u t && given (node_at types t) (is_record_node (λ ls ts. row_fits L row ls ts && are_distinct ls))
    op_fits G L (select u l x) t = is_atom L x u && given (field_of types u l) (nat_eq t)
    op_fits G L (prim_alone p u) t = is_primitive types p u t
    op_fits G L (prim m p u as_) t = given (types_of L as_) (λ ts. performs types p u ts t)
    op_fits G L (app place f x) t = given (type_of L f) (λ u. given (type_of L x) (λ a. is_function types u a t))
    op_fits G L (fn f) t = fun_fits G f t
    op_fits G L (block e) t = exp_fits false G L e t
    op_fits G L (handle e x d) t = exp_fits false G L e t && (is_new G x && exp_fits false ((x, of_type exn) ∷ G) ((x, of_type exn) ∷ L) d t)
    op_fits G L (raise x) t = given (type_of L x) (is_exn types)
    op_fits G L (raise_initial n) t = nat_lt n 7

    -- each parameter belongs to a function of its own
    pub fun_fits : Sorts → Fun (mono types) → ℕ → Bool
    fun_fits G (last x a e) t = given (result_from types t a) (λ u. is_new G x && exp_fits false ((x, of_type a) ∷ G) ((x, of_type a) ∷ []) e u)
    fun_fits G (more x a f) t = given (result_from types t a) (λ u. is_new G x && fun_fits ((x, of_type a) ∷ G) f u)

    pub funs_fit : Sorts → Funs (mono types) → Bool
    funs_fit G no_funs = true
    funs_fit G (fun x a f fs) = fun_fits G f a && funs_fit G fs

  abbrev pub if_so : Bool → Option ℕ → Option ℕ
  if_so b found = if b then found else None

  abbrev pub with_found : (ℕ → Bool) → Option ℕ → Option ℕ
  with_found f None = None
  with_found f (Some t) = if_so (f t) (Some t)

  -- the type of an expression where no miss goes on: that of the atom that it ends with
  abbrev pub type_found : Sorts → Sorts → Exp (mono types) → Option ℕ
  type_found G L (ret x) = type_of L x
  type_found G L (let_in x ps a o e) = if_so (op_fits G L o a && is_new G x) (type_found ((x, of_type a) ∷ G) ((x, of_type a) ∷ L) e)
  type_found G L (exception_in x i a e) = if_so (is_new G x) (type_found ((x, exception a) ∷ G) ((x, exception a) ∷ L) e)
  type_found G L (name_in x y e) = option_and_then (λ a. if_so (is_new G x) (type_found ((x, exception a) ∷ G) ((x, exception a) ∷ L) e)) (name_argument G y)
  type_found G L (rec_in ps fs e) = if_so (are_new G fs && funs_fit (group_sorts types fs G) fs) (type_found (group_sorts types fs G) (group_sorts types fs L) e)
  type_found G L (switch x u arms) = None
  type_found G L (first e d) = with_found (exp_fits true G L e) (type_found G L d)
  type_found G L miss = None
  type_found G L (counted k e) = type_found G L e
