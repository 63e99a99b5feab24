use Rattle.std.proofs.Common.{◌++◌, ◌∷◌, [], map, take, refl, sym, ap, arith, ◌∙◌}
use Rattle.sml_tree.specs.TreeOf.{data_bind_of}
use Rattle.sml_tree.specs.declared.tree.DataBind.{DataBind as Bind}
use Rattle.elab_state.specs.States.{types_in}
use Rattle.datatype_forms.proofs.InNames.{entry_at, no_entries}
use Rattle.datatype_forms.proofs.Collecting.{taken_next}
use Rattle.datatype_forms.proofs.Stepping.{step_on, step_same}
use Rattle.datatype_forms.proofs.entries.name_entries.Goals as goal

pub loop-i-init : goal.loop-i-init
loop-i-init c = record { step = step_same c.args.state.now; are = no_entries (types_in c.args.state.now) _ c.new-entries.ensures.items }

pub loop-i-preserved : goal.loop-i-preserved
loop-i-preserved c =
    let lt = c.loop-i-test.true in
    let same = c.requires in
    record {
      step = step_on c.args.state.now c.loop-i.state c.name_entry.new.state c.loop-i.invariant.step c.in_ok-entry.ensures.step;
      are = entry_at (types_in c.loop-i.state) (types_in c.name_entry.new.state) (map data_bind_of (take c.loop-i.i c.args.binds.now)) _ c.args.names.now c.loop-i.i _ c.loop-i.entries.items
          c.push.new.self.items (data_bind_of c.index-binds-i.result) (c.index-binds-i.result.tycon, c.in_ok-entry.entry) c.in_ok-entry.ensures.step.grows.types c.loop-i.invariant.are refl
          c.in_ok-entry.ensures.is (taken_next data_bind_of c.args.binds.now c.loop-i.i c.index-binds-i.result lt c.index-binds-i.is) (omega (arith, lt, same))
          (c.in_ok-push.ensures.items ∙ ap (λ (z : Bind). c.loop-i.entries.items ++ (z.tycon, c.in_ok-entry.entry) ∷ []) (sym c.index-binds-i.is));
    }
