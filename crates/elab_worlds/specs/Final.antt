-- What variables stand for at the end of elaboration, and the world that a state tells then.
use Rattle.std.specs.Prelude.{◌≡◌, ◌++◌, ℕ, true, false, if◌then◌else◌, List, [], refl}
use Rattle.ty_core.specs.Types.{Typ, var, con, none, labels, name}
use Rattle.ty_core.specs.Marks.{overloaded}
use Rattle.ty_core.specs.declared.mark.Class.{Class}
use Rattle.ty_core.specs.declared.mark.Mark.{Mark}
use Rattle.ty_core.specs.declared.scheme.Quantified.{Quantified}
use Rattle.ty_table.specs.TypeAt.{type_at}
pub use Rattle.ty_basis.specs.Types.{unit_type}
use Rattle.ty_solve.specs.Substitution.{Entry, free, bound, row, sub, subs}
use Rattle.ir_poly.specs.Types.{in_scope, initial_constructors}
use Rattle.elab_state.specs.States.{types_in, made, said_in, general_in, numbers_in, reading_in, table_in}
use Rattle.elab_state.specs.declared.state.State.{State}
use Rattle.elab_steps.specs.Growing.{Grows}
use Rattle.elab_steps.specs.Ordered.{is_ordered}
pub use Rattle.elab_steps.specs.Flexible.{is_row}
pub use Rattle.elab_steps.specs.Tidy.{AreConstructors, is_parameter}
use Rattle.elab_steps.specs.Tidy.{IsTidy}
use Rattle.elab_steps.specs.World.{World, Comes}

-- a state that may be the last one: it is tidy, and what was generalised may be a parameter
pub record IsLast (S : State) (l : ℕ) : Type 0 where
  pub tidy : IsTidy S l
  pub parameters : (v : ℕ) → in_scope (general_in S) v ≡ true → is_parameter (said_in S v) ≡ true

-- the default of a class: the first of int, word, char and string that it has [Definition, appendix E]
abbrev pub default_of : Class → ℕ
default_of c = if c.int then 0 else (if c.word then 1 else (if c.char then 2 else 3))

-- what an open variable stands for: one that was generalised is itself, others are of the default of their class, or of the unit type
abbrev pub open_at : List Quantified → ℕ → Mark → Typ
open_at qs v Mark.Any = if in_scope qs v then var v else unit_type
open_at qs v Mark.Equality = if in_scope qs v then var v else unit_type
open_at qs v (Mark.Class c) = con (name (overloaded (default_of c))) none

-- what any variable does: a row is the record of its known fields
abbrev pub final_at : List Quantified → (ℕ → Typ) → ℕ → Entry → Typ
final_at qs g v (free k) = open_at qs v k
final_at qs g v (bound t) = sub g t
final_at qs g v (row e ks us) = con (labels ks) (subs g us)

-- g says what each variable of the state stands for in the end
abbrev pub IsFinal : State → (ℕ → Typ) → Type 0
IsFinal S g = (v : ℕ) → g v ≡ final_at (general_in S) g v (said_in S v)

-- the fields of each record are settled, and in each type of the table the labels of records stand in order
pub record IsOrdered (S : State) : Type 0 where
  pub settled : (v : ℕ) → is_row (said_in S v) ≡ false
  pub types : (k : ℕ) → is_ordered (type_at (types_in S) k) ≡ true

abbrev pub AreOrdered : (ℕ → Typ) → Type 0
AreOrdered g = (v : ℕ) → is_ordered (g v) ≡ true

-- the world of it: no parameter is in scope outside all declarations
abbrev pub final_world : State → (g : ℕ → Typ) → AreOrdered g → World
final_world S g h = record {
  raw = type_at (types_in S);
  value = g;
  naming = numbers_in S;
  reading = reading_in S g;
  table = initial_constructors ++ table_in S;
  parameters = λ l. [];
  admits = λ v. true;
  initial = λ x. refl;
  nested = λ l v i. i;
  admitted = λ l v i. i;
  ordered = h;
}

-- there is just one such g, and in its world what the state says comes true
pub record HasEnd (S : State) : Type 0 where
  pub values : ℕ → Typ
  pub final : IsFinal S values
  pub only : (g : ℕ → Typ) → IsFinal S g → (v : ℕ) → g v ≡ values v
  pub ordered : AreOrdered values
  pub comes : Comes S (final_world S values ordered)

abbrev pub StatesEnd : Type 0
StatesEnd = (S : State) (l : ℕ) → IsLast S l → AreConstructors S → IsOrdered S → HasEnd S

abbrev pub FinalsCome : Type 0
FinalsCome = (S : State) (l : ℕ) → IsLast S l → AreConstructors S → (g : ℕ → Typ) → IsFinal S g → (h : AreOrdered g) → Comes S (final_world S g h)

abbrev pub FinalsAreOrdered : Type 0
FinalsAreOrdered = (S : State) → IsOrdered S → (g : ℕ → Typ) → IsFinal S g → AreOrdered g

-- Where elaboration went on from a tidy state, the state after may be the last one; and its constructors may stand in a program's table where those before may.
pub record MayEnd (S : State) : Type 0 where
  pub last : IsLast S S.level
  pub constructors : AreConstructors S

abbrev pub LaterMayEnd : Type 0
LaterMayEnd = (S T : State) → IsTidy S S.level → AreConstructors S → Grows S T → MayEnd T

-- so it is from a new state on
abbrev pub RunsMayEnd : Type 0
RunsMayEnd = (S T : State) → made S ≡ 0 → general_in S ≡ [] → table_in S ≡ [] → S.level ≡ 0 → Grows S T → MayEnd T
