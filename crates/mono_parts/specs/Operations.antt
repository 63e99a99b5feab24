-- Operations that hold no expression: what they say, and what their copies are.
use Rattle.std.specs.Prelude.{◌≡◌, ℕ, Bool, List, [], ◌∷◌, ◌++◌, map, Option, None, Some, if◌then◌else◌, ⊤}
use Rattle.ty_core.specs.Types.{Typ}
use Rattle.ty_core.specs.Statics.{replace}
use Rattle.ty_table.specs.TypeAt.{type_at}
use Rattle.ir_tables.specs.declared.tables.Tables.{Tables}
use Rattle.ir_plain.specs.Tree.{Op, make_record, prim}
use Rattle.ir_poly.specs.Tests.{inst}
use Rattle.plain_tree.specs.TreeOf.{row_of, atoms_of}
use Rattle.plain_tree.specs.declared.tree.Operation.{Operation}
use Rattle.plain_tree.specs.declared.tree.Operation.TheVariants as op
use Rattle.tests_check.specs.Reads.{reading}
use Rattle.monomorphise.specs.Expansion.{if_equals}
use Rattle.monomorphise.specs.Monomorphise.{Name, Named, copy_of, Groups, used, copy_row, copy_atoms, row_needs, atoms_needs}
use Rattle.mono_state.specs.of_mono_words.Words.{Sign, op_sign, record_sign, perform_sign, spell_row, spell_atoms}
use Rattle.mono_state.specs.of_mono_words.Seen.{Seen, made}
use Rattle.mono_state.specs.Seen.{Held, name_in}
use Rattle.mono_state.specs.declared.word.Act.{Act}
use Rattle.mono_state.specs.declared.word.Act.TheVariants as act

-- the type that an operation says, and the atoms that it says beside lists
abbrev pub type_in : Operation → Option ℕ
type_in (op.Constructor c t) = Some t
type_in (op.Construct m c t a) = Some t
type_in (op.Reference t) = Some t
type_in (op.Refer m t a) = Some t
type_in (op.Content t a) = Some t
type_in (op.Pack m t x a) = Some t
type_in (op.Record t fs) = Some t
type_in (op.Select t l a) = Some t
type_in (op.Primitive p t) = Some t
type_in (op.Perform m p t as_) = Some t
type_in _ = None

abbrev pub first_in : Operation → Option ℕ
first_in (op.Construct m c t a) = Some a
first_in (op.Refer m t a) = Some a
first_in (op.Content t a) = Some a
first_in (op.Pack m t x a) = Some x
first_in (op.Select t l a) = Some a
first_in (op.Apply place f a) = Some f
first_in (op.Raise a) = Some a
first_in _ = None

abbrev pub second_in : Operation → Option ℕ
second_in (op.Pack m t x a) = Some a
second_in (op.Apply place f a) = Some a
second_in _ = None

-- the operation with another type and other atoms; without turns where they are taken away
abbrev pub act_with : Operation → Bool → (ty first second : ℕ) → Act
act_with (op.Use x ts) strip t a b = act.Use a
act_with (op.Constant c) strip t a b = act.Constant c
act_with (op.Constructor c u) strip t a b = act.Constructor c t
act_with (op.Construct m c u k) strip t a b = act.Construct (if strip then None else m) c t a
act_with (op.Reference u) strip t a b = act.Reference t
act_with (op.Refer m u k) strip t a b = act.Refer m t a
act_with (op.Content u k) strip t a b = act.Content t a
act_with (op.Pack m u x k) strip t a b = act.Pack (if strip then None else m) t a b
act_with (op.Record u fs) strip t a b = act.Record t
act_with (op.Select u l k) strip t a b = act.Select t l a
act_with (op.Primitive p u) strip t a b = act.Primitive p t
act_with (op.Perform m p u as_) strip t a b = act.Perform m p t
act_with (op.Apply place f k) strip t a b = act.Apply place a b
act_with (op.Raise k) strip t a b = act.Raise a
act_with (op.RaiseInitial n) strip t a b = act.RaiseInitial n

-- the number of the copy's type, and of an atom's copy, if there is one
abbrev pub IfType : Held → (ℕ → Typ) → List Typ → Option ℕ → ℕ → Type 0
IfType H s sources None n = ⊤
IfType H s sources (Some t) n = type_at H.types n ≡ replace s (type_at sources t)

abbrev pub IfName : Held → Option ℕ → ℕ → Type 0
IfName H None n = ⊤
IfName H (Some x) n = name_in H n ≡ copy_of x []

abbrev pub if_needs : Option ℕ → List Name
if_needs None = []
if_needs (Some x) = copy_of x [] ∷ []

-- what is said first is a variable at types, or an atom
abbrev pub FirstIs : Held → Tables → Groups → (ℕ → Typ) → Operation → ℕ → Type 0
FirstIs H t g s (op.Use x us) n = name_in H n ≡ used g s (inst x (map (type_at t.types) us.items))
FirstIs H t g s o n = IfName H (first_in o) n

abbrev pub first_needs : Tables → Groups → (ℕ → Typ) → Operation → List Name
first_needs t g s (op.Use x us) = used g s (inst x (map (type_at t.types) us.items)) ∷ []
first_needs t g s o = if_needs (first_in o)

abbrev pub own_needs : Tables → Groups → (ℕ → Typ) → Operation → List Name
own_needs t g s o = first_needs t g s o ++ if_needs (second_in o)

-- an operation's word, behind which its list of atoms stands
abbrev pub own_sign : Op Named → Sign
own_sign (make_record t row) = record_sign t
own_sign (prim m p t as_) = perform_sign m p t
own_sign o = op_sign o

abbrev pub list_made : Tables → Operation → Seen → Seen
list_made t (op.Record u fs) = made (spell_row (copy_row (row_of (reading t) fs.items))) (row_needs (row_of (reading t) fs.items)) [] 0
list_made t (op.Perform m p u as_) = made (spell_atoms (copy_atoms (atoms_of (reading t) as_.items))) (atoms_needs (atoms_of (reading t) as_.items)) [] 0
list_made t o = λ s. s

abbrev pub compared_in : Held → Act → List Typ
compared_in H (act.Primitive p t) = if_equals p (type_at H.types t)
compared_in H (act.Perform m p t) = if_equals p (type_at H.types t)
compared_in H a = []
