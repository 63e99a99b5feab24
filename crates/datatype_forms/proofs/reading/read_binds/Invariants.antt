use Rattle.std.proofs.Common.{◌≡◌, map, take, true}
use Rattle.std.specs.List.{list_all}
use Rattle.sml_tree.specs.TreeOf.{data_bind_of}
use Rattle.core_rules.specs.Restrictions.{no_repetition}
use Rattle.datatype_forms.specs.Reading.{AreRead}
use Rattle.datatype_forms.proofs.reading.read_binds.Given as goal

abbrev pub invariant-loop-i : goal.invariant-loop-i
invariant-loop-i l = record {
  are : AreRead l.fn.state l.fn.scope (map data_bind_of (take l.i l.binds)) l.state (map (λ ks. ks.items) l.rows.items);
  once : list_all (λ b. no_repetition b.tyvars) (map data_bind_of (take l.i l.binds)) ≡ true;
  scope : l.scope ≡ l.fn.scope;
}
