-- A record's atoms in the order of labels have the values that it has in that order.
use Rattle.std.proofs.Common.{◌≡◌, ℕ, Bool, true, false, cond, List, ◌∷◌, Option, Some, None, refl, sym, ap, ◌∙◌}
use Rattle.std.specs.Prelude.{option_map}
use Rattle.mlc_names.specs.declared.label.Label.{Label}
use Rattle.label_rows.specs.Order.{label_before, put_by}
use Rattle.ty_core.specs.Types.{Typ}
use Rattle.ir_poly.specs.of_ir_values.Values.{no_fields, field}
use Rattle.ir_poly.specs.of_ir_plain.Tree as te
use Rattle.ir_poly.specs.of_ir_plain.Meaning as tgt
use Rattle.ir_poly.specs.of_ir_plain.Scoped.{IsAmong, RowScoped, no_row_scoped, a_row_scoped}
use Rattle.ir_poly.specs.ProgMeaning as src
use Rattle.ir_poly.specs.ProgMeaning.{put_part, sorted_parts}
use Rattle.ir_poly.specs.Tests.{Use, poly}
use Rattle.ir_poly.specs.Types.{sorted}
use Rattle.ir_poly.specs.TestsChecked.{Knowns, AtomChecked, RowChecked, no_row_checked, a_row_checked}
use Rattle.match_compile.specs.Compile.{put_atom, sorted_row}
use Rattle.match_compile.proofs.Related.{Same, SameParts, no_same, a_same}

-- Values

put-same : (l : Label) {v : src.V} {v' : tgt.V poly} {r : src.Parts} {r' : tgt.Parts poly} → Same v v' → SameParts r r' → SameParts (put_part l v r) (put_part l v' r')
put-same l s no_same = a_same l s no_same
put-same l {v} {v'} s (a_same k {v = z} {v' = z'} {fs = fs} {gs = gs} t rs) = by (label_before k l) (put-same l s rs)
  where
    by : (b : Bool) → SameParts (put_part l v fs) (put_part l v' gs)
        → SameParts (cond b (field k z (put_part l v fs)) (field l v (field k z fs))) (cond b (field k z' (put_part l v' gs)) (field l v' (field k z' gs)))
    by true h = a_same k t h
    by false h = a_same l s (a_same k t rs)

pub sorted-same : {r : src.Parts} {r' : tgt.Parts poly} → SameParts r r' → SameParts (sorted_parts r) (sorted_parts r')
sorted-same no_same = no_same
sorted-same (a_same l s rs) = put-same l s (sorted-same rs)

-- Atoms

abbrev found_among : Label → Option (tgt.V poly) → Option (tgt.Parts poly) → Option (tgt.Parts poly)
found_among l (Some v) (Some r) = Some (put_part l v r)
found_among l (Some v) None = None
found_among l None o = None

past-one : (k l : Label) (z v : Option (tgt.V poly)) (o : Option (tgt.Parts poly)) → label_before k l ≡ true
    → tgt.field_in_front {F = poly} k z (found_among l v o) ≡ found_among l v (tgt.field_in_front {F = poly} k z o)
past-one k l (Some z) (Some v) (Some r) h = ap (λ b. Some (cond b (field k z (put_part l v r)) (field l v (field k z r)))) (sym h)
past-one k l (Some z) (Some v) None h = refl
past-one k l (Some z) None o h = refl
past-one k l None (Some v) o h = refl
past-one k l None None o h = refl

before-one : (k l : Label) (z v : Option (tgt.V poly)) (o : Option (tgt.Parts poly)) → label_before k l ≡ false
    → tgt.field_in_front {F = poly} l v (tgt.field_in_front {F = poly} k z o) ≡ found_among l v (tgt.field_in_front {F = poly} k z o)
before-one k l (Some z) (Some v) (Some r) h = ap (λ b. Some (cond b (field k z (put_part l v r)) (field l v (field k z r)))) (sym h)
before-one k l (Some z) (Some v) None h = refl
before-one k l (Some z) None o h = refl
before-one k l None (Some v) o h = refl
before-one k l None None o h = refl

put-found : (l : Label) (a : Use) (row : te.Row poly) (ρ : tgt.Scope poly) → tgt.look_row (put_atom l a row) ρ ≡ found_among l (tgt.look_up a ρ) (tgt.look_row row ρ)
put-found l a te.no_row ρ = alone (tgt.look_up a ρ)
  where
    alone : (v : Option (tgt.V poly)) → tgt.field_in_front {F = poly} l v (Some no_fields) ≡ found_among l v (Some no_fields)
    alone (Some v) = refl
    alone None = refl
put-found l a (te.a_row k b row) ρ = by (label_before k l) refl (put-found l a row ρ)
  where
    by : (c : Bool) → label_before k l ≡ c → tgt.look_row (put_atom l a row) ρ ≡ found_among l (tgt.look_up a ρ) (tgt.look_row row ρ)
        → tgt.look_row (cond c (te.a_row k b (put_atom l a row)) (te.a_row l a (te.a_row k b row))) ρ
        ≡ found_among l (tgt.look_up a ρ) (tgt.field_in_front {F = poly} k (tgt.look_up b ρ) (tgt.look_row row ρ))
    by true h e = ap (tgt.field_in_front {F = poly} k (tgt.look_up b ρ)) e ∙ past-one k l (tgt.look_up b ρ) (tgt.look_up a ρ) (tgt.look_row row ρ) h
    by false h e = before-one k l (tgt.look_up b ρ) (tgt.look_up a ρ) (tgt.look_row row ρ) h

row-found : (row : te.Row poly) (ρ : tgt.Scope poly) → tgt.look_row (sorted_row row) ρ ≡ option_map sorted_parts (tgt.look_row row ρ)
row-found te.no_row ρ = refl
row-found (te.a_row l a row) ρ =
    put-found l a (sorted_row row) ρ ∙ ap (found_among l (tgt.look_up a ρ)) (row-found row ρ) ∙ both (tgt.look_up a ρ) (tgt.look_row row ρ)
  where
    both : (v : Option (tgt.V poly)) (o : Option (tgt.Parts poly)) → found_among l v (option_map sorted_parts o) ≡ option_map sorted_parts (tgt.field_in_front {F = poly} l v o)
    both (Some v) (Some r) = refl
    both (Some v) None = refl
    both None o = refl

pub sorted-found : (row : te.Row poly) (ρ : tgt.Scope poly) (r : tgt.Parts poly) → tgt.look_row row ρ ≡ Some r → tgt.look_row (sorted_row row) ρ ≡ Some (sorted_parts r)
sorted-found row ρ r e = row-found row ρ ∙ ap (option_map sorted_parts) e

-- Scopes

put-scoped : {xs : List ℕ} (l : Label) {a : Use} {row : te.Row poly} → IsAmong poly a xs → RowScoped poly xs row → RowScoped poly xs (put_atom l a row)
put-scoped l h no_row_scoped = a_row_scoped h no_row_scoped
put-scoped {xs} l {a} h (a_row_scoped {l = k} {u = b} {row = row} g rs) = by (label_before k l) (put-scoped l h rs)
  where
    by : (c : Bool) → RowScoped poly xs (put_atom l a row) → RowScoped poly xs (cond c (te.a_row k b (put_atom l a row)) (te.a_row l a (te.a_row k b row)))
    by true q = a_row_scoped g q
    by false q = a_row_scoped h (a_row_scoped g rs)

pub sorted-scoped : {xs : List ℕ} {row : te.Row poly} → RowScoped poly xs row → RowScoped poly xs (sorted_row row)
sorted-scoped no_row_scoped = no_row_scoped
sorted-scoped (a_row_scoped {l = l} g rs) = put-scoped l g (sorted-scoped rs)

-- Types

put-checked : {G : Knowns} (l : Label) {a : Use} {t : Typ} {row : te.Row poly} {r : List (Label × Typ)} → AtomChecked G a t → RowChecked G row r
    → RowChecked G (put_atom l a row) (put_by (λ f. f.0) (l, t) r)
put-checked l h no_row_checked = a_row_checked h no_row_checked
put-checked {G} l {a} {t} h (a_row_checked {l = k} {a = b} {row = row} {t = u} {r = r} g rs) = by (label_before k l) (put-checked l h rs)
  where
    by : (c : Bool) → RowChecked G (put_atom l a row) (put_by (λ f. f.0) (l, t) r)
        → RowChecked G (cond c (te.a_row k b (put_atom l a row)) (te.a_row l a (te.a_row k b row))) (cond c ((k, u) ∷ put_by (λ f. f.0) (l, t) r) ((l, t) ∷ (k, u) ∷ r))
    by true q = a_row_checked g q
    by false q = a_row_checked h (a_row_checked g rs)

pub sorted-checked : {G : Knowns} {row : te.Row poly} {r : List (Label × Typ)} → RowChecked G row r → RowChecked G (sorted_row row) (sorted r)
sorted-checked no_row_checked = no_row_checked
sorted-checked (a_row_checked {l = l} g rs) = put-checked l g (sorted-checked rs)
