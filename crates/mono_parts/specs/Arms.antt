-- Arms: the variable that one binds, and its scope.
use Rattle.std.specs.Prelude.{◌≡◌, ℕ, List, [], Option, None, Some}
use Rattle.ty_core.specs.Types.{Typ}
use Rattle.ty_core.specs.Statics.{replace}
use Rattle.ty_table.specs.TypeAt.{type_at}
use Rattle.plain_tree.specs.declared.tree.Case.{Case}
use Rattle.plain_tree.specs.declared.tree.Case.TheVariants as case
use Rattle.plain_tree.specs.declared.tree.Parameter.{Parameter}
use Rattle.monomorphise.specs.Monomorphise.{copy_of}
use Rattle.mono_scopes.specs.Scopes.{variable}
use Rattle.mono_state.specs.of_mono_words.Seen.{Seen, within, out}
use Rattle.mono_state.specs.Seen.{Held, name_in}

abbrev pub bound_in : Case → Option ℕ
bound_in (case.Constant c) = None
bound_in (case.Constructor c) = None
bound_in (case.ConstructorOf c x) = Some x.variable
bound_in (case.Exception a) = None
bound_in (case.ExceptionOf a x) = Some x.variable
bound_in (case.Record size) = None

-- the scope of a variable is entered, if there is one; and left
abbrev pub entered : Option ℕ → Seen → Seen
entered None s = s
entered (Some x) s = within (variable x) s

abbrev pub left : Option ℕ → Seen → Seen
left None s = s
left (Some x) s = out s

-- the variable's copy, and its type with s put for variables
pub record ParameterIs (H : Held) (s : ℕ → Typ) (sources : List Typ) (x made : Parameter) : Type 0 where
  pub variable : name_in H made.variable ≡ copy_of x.variable []
  pub type : type_at H.types made.ty ≡ replace s (type_at sources x.ty)
