-- Where a `local` or a `let` begins and ends.
use Rattle.std.specs.Prelude.{◌≡◌, List, [], length}
use Rattle.mlc_base.specs.declared.place.Place.{Place}
use Rattle.sml_tree.specs.BareTree as bare
use Rattle.sml_tree.specs.TreeOf.{decs_of}
use Rattle.vid_scope.specs.Entries.{mark_of, with_entries}
use Rattle.prog_tree.specs.declared.tree.Dec.{Dec}
use Rattle.closed_types.specs.of_elab_state.declared.state.State.{State}
use Rattle.exp_forms.specs.of_elab_context.declared.context.Context.{Context}
use Rattle.dec_forms.specs.Bringing.{AreBringing, IsBringing}
use Rattle.dec_forms.specs.Entries.{type_scope, types_onto}
use Rattle.dec_forms.specs.declared.brought.Brought.{Brought}
use Rattle.dec_forms.specs.declared.local.LocalMark.{LocalMark}
use Rattle.dec_forms.specs.declared.block.BlockMark.{BlockMark}

abbrev pub mark_in : Context → LocalMark
mark_in C = record { values = mark_of C.values; types = record { tyvars = length C.types.tyvars; types = length C.types.types } }

abbrev pub block_mark_in : Context → BlockMark
block_mark_in C = record { local = mark_in C; names = C.names; naming = C.naming; numbers = length C.numbers; schemes = length C.schemes.items }

pub record IsEmpty (b : Brought) : Type 0 where
  pub values : b.values.items ≡ []
  pub types : b.types.items ≡ []

-- E, where of what came since C only b is in scope
abbrev pub shown_in : Context → Context → Brought → Context
shown_in C E b = record E { values = with_entries C.values b.values.items; types = type_scope C.types.tyvars (types_onto C.types.types b.types.items) }

abbrev pub SequencesAreBringing : Type 0
SequencesAreBringing = (S T : State) (C D : Context) (p : Place) (ds : List bare.Dec) (xs : List Dec) (a b : Brought) → AreBringing S C ds T D xs a b
    → IsBringing S C (bare.sequence_dec p (decs_of ds)) T D xs a b
