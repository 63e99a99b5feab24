-- Types put for all variables of a type.
use Rattle.std.proofs.Common.{◌≡◌, ◌<◌, ℕ, ◌-◌, Bool, true, false, List, length, nat_lt, slice_index_or, slice_get, Some, if◌then◌else◌, refl, sym, ap, ◌∙◌, arith}
use Rattle.ty_core.specs.Types.{Typ, var}
use Rattle.ty_core.specs.Statics.{replace}
use Rattle.ty_core.specs.declared.scheme.Quantified.{Quantified}
use Rattle.ty_table.specs.TypeAt.{type_at, top}
use Rattle.ty_instance.specs.Images.{image_at}
use Rattle.match_names.specs.of_match_compile.Compile.{standing, scoped}
use Rattle.ir_known.specs.Knows.{marks_of}
use Rattle.match_types.specs.Views.{Sees, Keeps, Stands, source_at, in_view}
use Rattle.match_types.specs.declared.work.ValueType.TheVariants.{Source}
use Rattle.match_types.specs.declared.work.Work.{Work}
use Rattle.match_types.proofs.Scoping.{replace-below, scoped-same}
use Rattle.match_types.proofs.Seeing.{sees-before, keeps-on, stands-at, held-within, held-is, earlier-stays}

-- images of all variables below a type's top
pub scoped-images : (ts : List Typ) (images : List ℕ) (D : List Quantified) (t : Typ) → length images ≡ top t
    → ((v : ℕ) → v < top t → type_at ts (slice_index_or images v 0) ≡ standing D v) → replace (image_at ts images) t ≡ scoped D t
scoped-images ts images D t e h = replace-below (top t) (image_at ts images) (standing D) (λ v lt. within v lt (nat_lt v (length images)) refl) t (omega arith)
  where
    within : (v : ℕ) → v < top t → (b : Bool) → nat_lt v (length images) ≡ b → image_at ts images v ≡ standing D v
    within v lt true k = ap (λ b. if b then type_at ts (slice_index_or images v 0) else var (v - length images)) k ∙ h v lt
    within v lt false k = absurd (grind arith)

-- an instance whose variables stand for what stands for them
pub instance-stands : (w1 w3 w : Work) (k t r : ℕ) (images : List ℕ) → Keeps w1 w3 → Keeps w3 w → Stands w1 k (source_at t) → k < length w1.tables.types → length images ≡ top (type_at w1.tables.types k)
    → ((v : ℕ) → v < top (type_at w1.tables.types k) → type_at w3.tables.types (slice_index_or images v 0) ≡ standing (marks_of w1.scope) v)
    → slice_get w.tables.types r ≡ Some (replace (image_at w3.tables.types images) (type_at w3.tables.types k)) → Stands w r (in_view (Source t))
instance-stands w1 w3 w k t r images h1 h3 is lt len at made v s =
    let s1 : Sees w1 v = sees-before w1 w v (keeps-on w1 w3 w h1 h3) s in
    stands-at w v r s (held-within w.tables.types r (replace (image_at w3.tables.types images) (type_at w3.tables.types k)) made)
    ∙ held-is w.tables.types r (replace (image_at w3.tables.types images) (type_at w3.tables.types k)) made
    ∙ ap (replace (image_at w3.tables.types images)) (earlier-stays w1.tables.types w3.tables.types k h1.types lt)
    ∙ scoped-images w3.tables.types images (marks_of w1.scope) (type_at w1.tables.types k) len at
    ∙ sym (scoped-same v.scope (marks_of w1.scope) s1.same_scope (type_at w1.tables.types k)) ∙ ap (scoped v.scope) (sym (stands-at w1 v k s1 lt) ∙ is v s1)
