use Rattle.std.proofs.Common.{◌≡◌, map, take}
use Rattle.sml_tree.specs.TreeOf.{type_bind_of}
use Rattle.dec_forms.specs.Abbreviations.{AreTypeFunctions}
use Rattle.dec_forms.proofs.bindings.type_functions.Given as goal

abbrev pub invariant-loop-i : goal.invariant-loop-i
invariant-loop-i l = record { are : AreTypeFunctions l.fn.state l.fn.scope (map type_bind_of (take l.i l.binds)) l.state l.entries.items; scope : l.scope ≡ l.fn.scope }
