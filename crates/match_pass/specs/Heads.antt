-- Parameters of a function, bound before its body is made.
use Rattle.std.specs.Prelude.{◌≡◌, ℕ, suc, List}
use Rattle.plain_tree.specs.declared.tree.Parameter.{Parameter}
use Rattle.prog_tree.specs.declared.tree.Parameter as source
use Rattle.general_bindings.specs.of_match_types.Views.{Keeps, Stands, in_view}
use Rattle.general_bindings.specs.of_match_types.declared.work.Work.{Work}
use Rattle.general_bindings.specs.of_match_types.declared.work.ValueType.TheVariants.{Source}
use Rattle.general_bindings.specs.of_exp_blocks.Binding.{Bound, AllBound}

-- all of a list, and then the last one
pub record Headed (old new : Work) (xs : List source.Parameter) (z : source.Parameter) (made : List Parameter) (p : Parameter) : Type 0 where
  pub work : Work
  pub before : AllBound old work xs made
  pub last : Bound work new z p

-- all of a list, and then a new variable of the source's type a, which has no name
pub record Unnamed (old new : Work) (xs : List source.Parameter) (a : ℕ) (made : List Parameter) (p : Parameter) : Type 0 where
  pub work : Work
  pub before : AllBound old work xs made
  pub keeps : Keeps work new
  pub next : new.next ≡ suc work.next
  pub variable : p.variable ≡ work.next
  pub type : Stands new p.ty (in_view (Source a))
