-- What a type of a solver is in the end, as far as its first node.
use Rattle.std.specs.Prelude.{◌≡◌, ◌<◌, ◌^◌, ◌-◌, ℕ, List, nat_eq, if◌then◌else◌, length, ⊤}
use Rattle.ty_core.specs.Types.{Typ, var, con, none, labels, name}
use Rattle.ty_core.specs.Marks.{overloaded}
use Rattle.ty_core.specs.TypesOf.{head_of}
use Rattle.ty_core.specs.declared.mark.Class.{Class}
use Rattle.ty_core.specs.declared.mark.Mark.{Mark}
use Rattle.ty_core.specs.declared.ty.Head.{Head}
use Rattle.ty_table.specs.TypeAt.{type_at, types_at, AllBelow}
use Rattle.ty_solve.specs.Substitution.{Entry, free, bound, row, sub, subs}
use Rattle.ty_solve.specs.Said.{said}
use Rattle.ty_solve.specs.Weight.{weight, weights}
use Rattle.ty_solve.specs.Limits.{limit_at}
use Rattle.ty_solve.specs.declared.limit.Limit.{Limit}
use Rattle.ty_solve.specs.declared.solver.Solver.{Solver}
use Rattle.elab_state.specs.States.{dead_level}
use Rattle.ty_basis.specs.Types.{unit_type}
use Rattle.final_types.specs.declared.node.Node.{Node}
use Rattle.final_types.specs.declared.node.Node.TheVariants.{Parameter, Same, Of}

-- the default of a class: the first of int, word, char and string that it has [Definition, appendix E]
abbrev pub default_of : Class → ℕ
default_of c = if c.int then 0 else (if c.word then 1 else (if c.char then 2 else 3))

-- what an open variable stands for: those that are done with were generalised
abbrev pub open_by : Limit → ℕ → Mark → Typ
open_by l v Mark.Any = if nat_eq l.level dead_level then var v else unit_type
open_by l v Mark.Equality = if nat_eq l.level dead_level then var v else unit_type
open_by l v (Mark.Class c) = con (name (overloaded (default_of c))) none

abbrev pub value_by : (ℕ → Limit) → (ℕ → Typ) → ℕ → Entry → Typ
value_by b g v (free k) = open_by (b v) v k
value_by b g v (bound t) = sub g t
value_by b g v (row e ks us) = con (labels ks) (subs g us)

-- g says what each variable of the solver stands for in the end
abbrev pub IsEnd : Solver → (ℕ → Typ) → Type 0
IsEnd M g = (v : ℕ) → g v ≡ value_by (limit_at M.limits.items) g v (said M.subst v)

abbrev pub types_of : Solver → List Typ
types_of M = M.subst.types

pub record IsParameter (M : Solver) (t : Typ) (v : ℕ) : Type 0 where
  pub small : v < 2 ^ 64 - 1
  pub is : (g : ℕ → Typ) → IsEnd M g → sub g t ≡ var v

pub record IsSame (M : Solver) (t : Typ) (u : ℕ) : Type 0 where
  pub held : u < length (types_of M)
  pub is : (g : ℕ → Typ) → IsEnd M g → sub g t ≡ sub g (type_at (types_of M) u)
  pub lighter : weight M.subst.acyclic.0 (type_at (types_of M) u) < weight M.subst.acyclic.0 t

pub record IsOf (M : Solver) (t : Typ) (h : Head) (ks : List ℕ) : Type 0 where
  pub held : AllBelow (length (types_of M)) ks
  pub is : (g : ℕ → Typ) → IsEnd M g → sub g t ≡ con (head_of h) (subs g (types_at (types_of M) ks))
  pub lighter : weights M.subst.acyclic.0 (types_at (types_of M) ks) < weight M.subst.acyclic.0 t

-- of a variable of no class
abbrev pub IsPlain : Mark → Type 0
IsPlain Mark.Any = ⊤
IsPlain Mark.Equality = ⊤
IsPlain (Mark.Class c) = ⊥

-- what is seen of the type t is so
abbrev pub IsNode : Solver → Typ → Node → Type 0
IsNode M t (Parameter v) = IsParameter M t v
IsNode M t (Same u) = IsSame M t u
IsNode M t (Of h ks) = IsOf M t h ks.items
