-- How large a program is, written out: the nodes of its copies, and the types that equality needs, each once. It may have at most greatest_expansion of them.
use Rattle.std.specs.Prelude.{◌≡◌, ℕ, ◌+◌, List, [], ◌∷◌, ◌++◌, length, Some}
use Rattle.mlc_prims.specs.declared.basis.BasisPrimitive.{BasisPrimitive}
use Rattle.mlc_prims.specs.declared.basis.BasisPrimitive.TheVariants.{Equals}
use Rattle.mlc_names.specs.declared.label.Label.{Label}
use Rattle.ty_core.specs.Types.{Typ, Typs, more, con, labels}
use Rattle.ir_mono.specs.of_ir_plain.Tree.{Exp, ret, let_in, exception_in, name_in, rec_in, switch, first, miss, counted, Arms, no_arms, arm, Op, prim_alone, prim, fn, block, handle, Fun, last, more as more_of, Funs, no_funs, fun}
use Rattle.ir_mono.specs.of_ir_plain.Weight.{weight}
use Rattle.ir_mono.specs.of_ir_poly.Types.{Constructor}
use Rattle.ir_mono.specs.of_ir_poly.TestsChecked.{HasConstructor}
use Rattle.monomorphise.specs.Monomorphise.{Named}

abbrev pub if_equals : BasisPrimitive → Typ → List Typ
if_equals Equals t = t ∷ []
if_equals p t = []

-- the types at which values are compared
abbrev mutual
  pub compared : Exp Named → List Typ
  compared (ret k) = []
  compared (let_in k u t o e) = op_compared o ++ compared e
  compared (exception_in k i t e) = compared e
  compared (name_in k j e) = compared e
  compared (rec_in u fs e) = funs_compared fs ++ compared e
  compared (switch k t arms) = arms_compared arms
  compared (first e d) = compared e ++ compared d
  compared miss = []
  compared (counted n e) = compared e

  pub arms_compared : Arms Named → List Typ
  arms_compared no_arms = []
  arms_compared (arm c e arms) = compared e ++ arms_compared arms

  pub op_compared : Op Named → List Typ
  op_compared (prim_alone p t) = if_equals p t
  op_compared (prim m p t as_) = if_equals p t
  op_compared (fn f) = fun_compared f
  op_compared (block e) = compared e
  op_compared (handle e k d) = compared e ++ compared d
  op_compared _ = []

  pub fun_compared : Fun Named → List Typ
  fun_compared (last k t e) = compared e
  fun_compared (more_of k t f) = fun_compared f

  pub funs_compared : Funs Named → List Typ
  funs_compared no_funs = []
  funs_compared (fun k t f fs) = fun_compared f ++ funs_compared fs

pub data IsOneOf (t : Typ) : List Typ → Type 0 where
  this : {ts : List Typ} → IsOneOf t (t ∷ ts)
  further : {u : Typ} {ts : List Typ} → IsOneOf t ts → IsOneOf t (u ∷ ts)

pub data IsPart (t : Typ) : Typs → Type 0 where
  this_part : {ts : Typs} → IsPart t (more t ts)
  further_part : {u : Typ} {ts : Typs} → IsPart t ts → IsPart t (more u ts)

-- Equality at a type needs the types of a record's fields, and of the arguments of a datatype's constructors; what references hold it doesn't look at.
pub data IsNeeded (constructors : List Constructor) (roots : List Typ) : Typ → Type 0 where
  needed_itself : {t : Typ} → IsOneOf t roots → IsNeeded constructors roots t
  needed_field : {ls : List Label} {ts : Typs} {t : Typ} → IsNeeded constructors roots (con (labels ls) ts) → IsPart t ts → IsNeeded constructors roots t
  needed_argument : {t a : Typ} (c : ℕ) → IsNeeded constructors roots t → HasConstructor constructors c t (Some a) → IsNeeded constructors roots a

pub data AreDifferent : List Typ → Type 0 where
  none_differ : AreDifferent []
  one_differs : {t : Typ} {ts : List Typ} → (IsOneOf t ts → ⊥) → AreDifferent ts → AreDifferent (t ∷ ts)

-- the program has n nodes; where the types that equality needs have no end it has no such number
pub record Expands (constructors : List Constructor) (e : Exp Named) (n : ℕ) : Type 0 where
  pub types : List Typ
  pub each_once : AreDifferent types
  pub all : (t : Typ) → IsNeeded constructors (compared e) t → IsOneOf t types
  pub only : (t : Typ) → IsOneOf t types → IsNeeded constructors (compared e) t
  pub count : n ≡ weight e + length types
