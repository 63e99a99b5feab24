-- Declarations whose parts come into scope: alone, and one after the other.
use Rattle.std.specs.Prelude.{◌++◌, List, [], ◌∷◌}
use Rattle.sml_tree.specs.BareTree as bare
use Rattle.prog_tree.specs.declared.tree.Dec.{Dec}
use Rattle.closed_types.specs.of_elab_state.declared.state.State.{State}
use Rattle.exp_forms.specs.of_elab_context.declared.context.Context.{Context}
use Rattle.exp_forms.specs.of_elab_context.Numbered.{IsNumbered}
use Rattle.dec_forms.specs.Decs.{IsDec}
use Rattle.dec_forms.specs.Bringing.{AreBringing, IsBringing}
use Rattle.dec_forms.specs.declared.brought.Brought.{Brought}

abbrev pub NoneAreBringing : Type 0
NoneAreBringing = (S : State) (C : Context) (b : Brought) → AreBringing S C [] S C [] b b

abbrev pub MoreAreBringing : Type 0
MoreAreBringing = (S M T : State) (C D E : Context) (ds : List bare.Dec) (d : bare.Dec) (xs ys : List Dec) (a b c : Brought)
    → AreBringing S C ds M D xs a b → IsBringing M D d T E ys b c → AreBringing S C (ds ++ d ∷ []) T E (xs ++ ys) a c

abbrev pub BringingsAreDeclarations : Type 0
BringingsAreDeclarations = (S T : State) (C D : Context) (d : bare.Dec) (xs : List Dec) (a b : Brought) → IsNumbered S.next C
    → IsBringing S C d T D xs a b → IsDec S C d T D xs
