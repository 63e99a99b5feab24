-- What is claimed of the two shapes.
use Rattle.std.specs.Prelude.{◌≡◌, ℕ, Bool, true, false, List, []}
use Rattle.ir_plain.specs.of_mlc_runs.Run.{World}
use Rattle.ty_basis.specs.of_ty_core.Types.{Typ, admits, no_variable}
use Rattle.ty_basis.specs.of_ty_core.Statics.{replace}
use Rattle.ty_basis.specs.of_ty_core.declared.scheme.Quantified.{Quantified}
use Rattle.ir_plain.specs.Tree.{Exp, Op}
use Rattle.ir_plain.specs.Meaning.{V, Scope, Apply, Go, eval}
use Rattle.ir_poly.specs.Prog as tree
use Rattle.ir_poly.specs.Prog.{type_of}
use Rattle.ir_poly.specs.ProgChecked as prog
use Rattle.ir_poly.specs.ProgTyped as read
use Rattle.ir_poly.specs.Tests.{poly}
use Rattle.ir_poly.specs.Types.{Constructor, admits_in}
use Rattle.ir_poly.specs.TestsChecked.{Knowns, Checked, OpChecked}
use Rattle.ir_poly.specs.TestsTyped.{Typed, OpTyped}

-- a program that is checked is typed, whatever types its variables stand for; a generalised binding in it at all types that its parameters may stand for
abbrev pub CheckedIsTyped : Type 0
CheckedIsTyped = (table : List Constructor) (m : Bool) (e : Exp poly) (t : Typ) → Checked table m [] [] e t → (s : ℕ → Typ) → Typed table m s [] e (replace s t)

-- the same under parameters: they may stand for types, where they admit equality for such as do
abbrev pub CheckedIsTypedUnder : Type 0
CheckedIsTypedUnder = (table : List Constructor) (D : List Quantified) (o : Op poly) (t : Typ) → OpChecked table D [] o t
    → (s : ℕ → Typ) → ((v : ℕ) → admits_in D v ≡ true → admits no_variable (s v) ≡ true) → OpTyped table s [] o (replace s t)

-- what is checked where no miss goes on doesn't miss: it is all one what is done there
abbrev pub NeverMisses : Type 0
NeverMisses =
    (table : List Constructor) (e : Exp poly) (t : Typ) → Checked table false [] [] e t
    → (call : Apply poly) (env : Scope poly) (w : World (V poly)) (other other' : Go poly) → eval call e env w other ≡ eval call e env w other'

-- an expression with source matches has one type, the one that it has written
abbrev pub TypedAsWritten : Type 0
TypedAsWritten = (table : List Constructor) (D : List Quantified) (G : Knowns) (e : tree.Exp) (t : Typ) → prog.Checked table D G e t → t ≡ type_of e

-- so are its instances: where s says what parameters stand for, an expression's type is the written one, read at s
abbrev pub TypedAsRead : Type 0
TypedAsRead =
    (table : List Constructor) (s : ℕ → Typ) (G : Knowns) (e : tree.Exp) (t : Typ) → read.Typed table s G e t → t ≡ replace s (type_of e)

-- a program with source matches that is checked is typed whatever types its variables stand for; a generalised binding in it at all types that its parameters
-- may stand for
abbrev pub CheckedProgIsTyped : Type 0
CheckedProgIsTyped =
    (table : List Constructor) (ds : tree.Decs) (G : Knowns) → prog.DecsChecked table [] [] ds G
    → (s : ℕ → Typ) → (H : Knowns) × read.DecsTyped table s [] ds H

-- the same under parameters, of an expression: they may stand for types, where they admit equality for such as do
abbrev pub CheckedProgIsTypedUnder : Type 0
CheckedProgIsTypedUnder =
    (table : List Constructor) (D : List Quantified) (e : tree.Exp) (t : Typ) → prog.Checked table D [] e t
    → (s : ℕ → Typ) → ((v : ℕ) → admits_in D v ≡ true → admits no_variable (s v) ≡ true) → read.Typed table s [] e (replace s t)
