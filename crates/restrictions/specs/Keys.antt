-- Labels and identifiers by numbers, so that a set of them is found by hash.
use Rattle.std.specs.Prelude.{ℕ, ◌+◌}
use Rattle.mlc_names.specs.declared.label.Label.{Label}
use Rattle.mlc_names.specs.declared.label.Label.TheVariants.{Number, Word}
use Rattle.sml_tree.specs.declared.ident.Vid.{Vid}
use Rattle.sml_tree.specs.declared.ident.Vid.TheVariants.{Named, Equals, Fresh}
use Rattle.sml_tree.specs.declared.tree.ConBind.{ConBind}
use Rattle.sml_tree.specs.declared.tree.ExBind.{ExBind}
use Rattle.sml_tree.specs.declared.tree.ExBind.TheVariants.{New, Same}

abbrev pub label_key : Label → ℕ
label_key (Number n) = n + n
label_key (Word x) = x + x + 1

abbrev pub vid_key : Vid → ℕ
vid_key Equals = 1
vid_key (Named x) = x + x + 2
vid_key (Fresh k) = k + k + 3

abbrev pub con_key : ConBind → ℕ
con_key c = vid_key c.vid

abbrev pub exn_key : ExBind → ℕ
exn_key (New p x t) = vid_key x
exn_key (Same p x q y) = vid_key x
