-- Programs counted: with the types that equality needs, each once; and one whose types never end.
use Rattle.std.proofs.Common.{◌≡◌, ℕ, List, [], ◌∷◌, Some, None, refl}
use Rattle.mlc_prims.specs.declared.basis.BasisPrimitive.TheVariants.{Equals}
use Rattle.ty_core.specs.Types.{Typ, var, con, name, none, more}
use Rattle.ty_core.specs.declared.name.TyName.{TyName}
use Rattle.ty_core.specs.declared.name.Equality.TheVariants.{ByArguments}
use Rattle.ir_mono.specs.of_ir_plain.Tree.{Exp, ret, let_in, counted, prim, no_atoms}
use Rattle.ir_mono.specs.of_ir_poly.Types.{int_name, bool_name, of_name, pair_type, Constructor, constructor_of}
use Rattle.monomorphise.specs.Counting.{expansion_within}
use Rattle.monomorphise.specs.Monomorphise.{Named, copy_of}

abbrev integer : Typ
integer = of_name int_name

abbrev datatype : ℕ → TyName
datatype n = record { stamp = n; arity = 1; equality = ByArguments }

abbrev at : ℕ → Typ → Typ
at n t = con (name (datatype n)) (more t none)

-- datatype 'a tree = Leaf | Node of 'a * 'a tree  datatype 'a deep = End | Twice of ('a * 'a) deep
abbrev constructors : List Constructor
constructors =
    constructor_of (datatype 8) 20 None ∷ constructor_of (datatype 8) 21 (Some (pair_type (var 0) (at 8 (var 0))))
    ∷ constructor_of (datatype 9) 22 None ∷ constructor_of (datatype 9) 23 (Some (at 9 (pair_type (var 0) (var 0)))) ∷ []

-- three nodes, and an equality
abbrev compares : Typ → Exp Named
compares t = counted 3 (let_in (copy_of 1 []) tt (of_name bool_name) (prim None Equals t no_atoms) (ret (copy_of 1 [])))

-- the tree, the pair, the integer
regular : expansion_within 9 constructors (compares (at 8 integer)) ≡ Some 6
regular = refl

just-enough : expansion_within 6 constructors (compares (at 8 integer)) ≡ Some 6
just-enough = refl

one-too-many : expansion_within 5 constructors (compares (at 8 integer)) ≡ None
one-too-many = refl

-- at (int * int) deep, ((int * int) * (int * int)) deep, ..
never-ends : expansion_within 9 constructors (compares (at 9 integer)) ≡ None
never-ends = refl
