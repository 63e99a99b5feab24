-- What is claimed of declarations that elaborate to a program: the program resolves them, it is well typed, and they have a typing.
use Rattle.std.specs.Prelude.{◌≡◌, ℕ, true, nat_lt, List, [], Some}
use Rattle.ty_core.specs.Types.{Typ, no_variable, admits}
use Rattle.ty_core.specs.Statics.{TypeFunction, replace}
use Rattle.core_elab.specs.of_sml_tree.BareTree.{Ty, Decs}
use Rattle.core_elab.specs.of_core_rules.Objects.{TypeStructure, Env, Over}
use Rattle.core_elab.specs.of_core_rules.Elaborated.{type_in, type_of}
use Rattle.core_elab.specs.of_core_rules.Initial.{initial_context}
use Rattle.core_elab.specs.of_core_rules.Meaning.{meaning}
use Rattle.core_elab.specs.of_core_rules.Choices.{Choices}
use Rattle.core_elab.specs.of_core_rules.Typing.{DecsHave}
use Rattle.core_elab.specs.of_ir_poly.Prog as prog
use Rattle.core_elab.specs.of_ir_poly.ProgMeaning.{run}
use Rattle.core_elab.specs.of_ir_poly.Types.{Constructor, admits_in}
use Rattle.core_elab.specs.of_ir_poly.TestsChecked.{Knowns}
use Rattle.core_elab.specs.of_ir_poly.ProgChecked.{DecsChecked}
use Rattle.core_elab.specs.Scopes.{Scope}
use Rattle.core_elab.specs.Laws.{initial_identifiers}
use Rattle.core_elab.specs.Resolves.{DecsTo}
use Rattle.elab_typed.specs.Numbers.{KeepsInitial}
use Rattle.elab_typed.specs.Contexts.{KeptEnv, env_under, Around, context_under, generic, initial_around}
use Rattle.elab_typed.specs.Elaborates.{Stands, DecsElab}

-- the program resolves the declarations
abbrev pub ElaboratedResolves : Type 0
ElaboratedResolves = (table : List Constructor) (A : Around) (k : ℕ) (ds : Decs) (es : prog.Decs) (made : ℕ) (number : ℕ → ℕ) (d : KeptEnv) (r : Scope)
    (G : Knowns) (c : Choices) (j : ℕ) → DecsElab table A k ds es made number d r G c j → DecsTo A.scope k ds es r j

-- it is well typed as a checker decides it
abbrev pub ElaboratedIsChecked : Type 0
ElaboratedIsChecked = (table : List Constructor) (A : Around) (k : ℕ) (ds : Decs) (es : prog.Decs) (made : ℕ) (number : ℕ → ℕ) (d : KeptEnv) (r : Scope)
    (G : Knowns) (c : Choices) (j : ℕ) → KeepsInitial A.number → DecsElab table A k ds es made number d r G c j → DecsChecked table A.parameters A.known es G

-- types that the parameters in scope may stand for, over the names in use
pub record Fits (A : Around) (s : ℕ → Typ) : Type 0 where
  pub admits : (v : ℕ) → admits_in A.parameters v ≡ true → Rattle.ty_core.specs.Types.admits no_variable (s v) ≡ true
  pub over : (v : ℕ) → Over A.names (s v)

-- the declarations have a typing, whatever the parameters in scope stand for
abbrev pub ElaboratedHasTyping : Type 0
ElaboratedHasTyping = (table : List Constructor) (A : Around) (k : ℕ) (ds : Decs) (es : prog.Decs) (made : ℕ) (number : ℕ → ℕ) (d : KeptEnv) (r : Scope)
    (G : Knowns) (c : Choices) (j : ℕ) → DecsElab table A k ds es made number d r G c j → (s : ℕ → Typ) → Fits A s
    → DecsHave no_variable (context_under s A) ds made (env_under s d) c

-- a program for declarations in the initial basis: it is well typed, they have a typing, and it does what they do at every number of turns
pub record IsProgramOf (table : List Constructor) (ds : Decs) (es : prog.Decs) : Type 0 where
  pub after : Knowns
  pub checked : DecsChecked table [] [] es after
  pub made : ℕ
  pub env : Env
  pub choices : Choices
  pub typed : DecsHave no_variable initial_context ds made env choices
  pub same : (m : ℕ) → run initial_identifiers es m ≡ meaning ds m

abbrev pub ElaborationIsRight : Type 0
ElaborationIsRight = (table : List Constructor) (ds : Decs) (es : prog.Decs) (made : ℕ) (number : ℕ → ℕ) (d : KeptEnv) (r : Scope) (G : Knowns) (c : Choices)
    (j : ℕ) → DecsElab table initial_around 0 ds es made number d r G c j → IsProgramOf table ds es

-- only the parameters stand in the body of a type function
abbrev pub IsClosed : TypeFunction → Type 0
IsClosed f = (r s : ℕ → Typ) → ((v : ℕ) → nat_lt v f.arity ≡ true → r v ≡ s v) → replace r f.body ≡ replace s f.body

abbrev pub TypesAreClosed : Around → Type 0
TypesAreClosed A = (qs : List ℕ) (x : ℕ) (f : TypeStructure) → type_in (generic A).env qs x ≡ Some f → IsClosed f.function

-- where the types in scope are closed, what an annotation stands for follows the parameters in scope
abbrev pub AnnotationsStand : Type 0
AnnotationsStand = (A : Around) (ty : Ty) (t : Typ) → TypesAreClosed A → type_of (generic A) ty ≡ Some t → Stands A ty t
