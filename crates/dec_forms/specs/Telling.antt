-- A context with further values.
use Rattle.std.specs.Prelude.{◌≡◌, List}
use Rattle.sml_tree.specs.declared.ident.Vid.{Vid}
use Rattle.vid_scope.specs.Entries.{with_entries}
use Rattle.exp_forms.specs.of_elab_context.declared.context.Context.{Context}
use Rattle.exp_forms.specs.of_elab_context.declared.entry.Entry.{Entry}

abbrev pub with_all : Context → List (Vid × Entry) → Context
with_all C es = record C { values = with_entries C.values es }

-- the one context is the other with further values
pub record HasFurther (C D : Context) : Type 0 where
  pub entries : List (Vid × Entry)
  pub is : D ≡ with_all C entries
