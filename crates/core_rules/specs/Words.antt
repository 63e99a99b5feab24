-- Identifiers and labels: when two are one. The order of labels is that of `label_rows`.
use Rattle.std.specs.Prelude.{Bool, true, false, nat_eq, List}
use Rattle.std.specs.List.{list_any}
use Rattle.mlc_names.specs.declared.label.Label.{Label}
use Rattle.mlc_names.specs.declared.label.Label.TheVariants.{Number, Word}
use Rattle.sml_tree.specs.declared.ident.Vid.{Vid}
use Rattle.sml_tree.specs.declared.ident.Vid.TheVariants.{Named, Equals, Fresh}
pub use Rattle.label_rows.specs.Order.{label_before}

abbrev pub same_vid : Vid → Vid → Bool
same_vid (Named x) (Named y) = nat_eq x y
same_vid (Fresh k) (Fresh j) = nat_eq k j
same_vid Equals Equals = true
same_vid v w = false

abbrev pub same_label : Label → Label → Bool
same_label (Number m) (Number n) = nat_eq m n
same_label (Word x) (Word y) = nat_eq x y
same_label l k = false

abbrev pub is_in : {A : Type 0} → (A → A → Bool) → A → List A → Bool
is_in same x = list_any (same x)
