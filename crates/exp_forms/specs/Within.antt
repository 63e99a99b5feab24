-- A context with the variables of a pattern.
use Rattle.std.specs.Prelude.{List, map}
use Rattle.sml_tree.specs.declared.ident.Vid.{Vid}
use Rattle.vid_scope.specs.Entries.{with_entries}
use Rattle.pat_elab.specs.of_elab_context.declared.context.Context.{Context}
use Rattle.pat_elab.specs.of_elab_context.declared.entry.Entry.{Entry}
use Rattle.pat_elab.specs.of_elab_context.declared.entry.Entry.TheVariants.{Single}
use Rattle.pat_elab.specs.declared.bound.BoundVariable.{BoundVariable}

abbrev pub entries_of : List BoundVariable → List (Vid × Entry)
entries_of = map (λ b. (b.vid, Single b.ty b.number))

abbrev pub within : Context → List BoundVariable → Context
within C bs = record C { values = with_entries C.values (entries_of bs) }
