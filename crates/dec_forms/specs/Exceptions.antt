-- Exceptions of a declaration: new ones, and what others are under a new name.
use Rattle.std.specs.Prelude.{◌≡◌, ◌⊎◌, ◌<◌, ℕ, Bool, true, false, List, map, Option, Some, None, option_map}
use Rattle.std.specs.List.{AllByRecursion, list_all}
use Rattle.mlc_base.specs.declared.place.Place.{Place}
use Rattle.ty_core.specs.Types.{Typ, var}
use Rattle.ty_core.specs.Statics.{replace}
use Rattle.sml_tree.specs.Terminal.{LongVid}
use Rattle.sml_tree.specs.BareTree.{ExBind, Ty}
use Rattle.sml_tree.specs.declared.ident.Vid.{Vid}
use Rattle.core_rules.specs.Elaborated.{behind_of, is_exception}
use Rattle.core_rules.specs.Restrictions.{exn_vids, may_construct}
use Rattle.ir_poly.specs.Prog as prog
use Rattle.ir_poly.specs.TestsChecked.{Known, Knowns}
use Rattle.ir_poly.specs.TestsChecked as checked
use Rattle.prog_tree.specs.TreeOf.{dec_of, decs_of}
use Rattle.elab_typed.specs.Contexts.{Around, Kept, context_under, kept_in, value_under}
use Rattle.elab_typed.specs.Elaborates.{ExnsElab}
use Rattle.elab_typed.specs.Instances.{as_typed}
use Rattle.elab_types.specs.declared.refused.Refused.{Refused}
use Rattle.elab_types.specs.declared.refused.Refused.TheVariants.{Broken, Memory, Mistyped, Unbound}
use Rattle.closed_types.specs.of_elab_state.declared.state.State.{State}
use Rattle.closed_types.specs.of_elab_steps.Growing.{Grows}
use Rattle.closed_types.specs.of_elab_steps.World.{World, type_of, Comes}
use Rattle.exp_forms.specs.of_elab_context.Telling.{IsFit, IsHeld, IsHeldIf, IsInUseIf, IsUnboundIn, Tells, known_of, kept_entries, scope_of_entries, vids_in}
use Rattle.exp_forms.specs.of_elab_context.declared.context.Context.{Context}
use Rattle.exp_forms.specs.of_elab_context.declared.entry.Entry.{Entry}
use Rattle.exp_forms.specs.of_elab_context.declared.entry.Entry.TheVariants.{Constructor, Reference, Initial, Primitive, Raised, Single, Own, General}
use Rattle.exp_forms.specs.of_elab_context.Numbered.{IsBelowIf, IsNumbered}
use Rattle.dec_forms.specs.Entries.{constructing_name}
use Rattle.dec_forms.specs.declared.made.Argument.{Argument}
use Rattle.dec_forms.specs.declared.made.ExnsMade.{ExnsMade}

-- exceptions, as what is in scope has them
abbrev pub is_raised : Entry → Bool
is_raised (Constructor s n y) = false
is_raised (Reference s) = false
is_raised (Initial s n) = true
is_raised (Primitive s q) = false
is_raised (Raised n a) = true
is_raised (Single t n) = false
is_raised (Own t n) = false
is_raised (General l t n o) = false

-- where the context tells of something, the identifier is no exception in it
abbrev pub IsNoExceptionIn : Context → LongVid → Type 0
IsNoExceptionIn C x = (W : World) (A : Around) → Tells C W A → (v : Kept) → kept_in A.env x ≡ Some v → is_exception (value_under var v).status ≡ false

-- why `exception x = y` is refused, where x stands at p and y at q
abbrev pub IsSameRefused : Context → Place → Vid → Place → LongVid → Refused → Type 0
IsSameRefused C p x q y e =
    (e ≡ Memory) ⊎ (((e ≡ Broken p) × (constructing_name x ≡ None)) ⊎ (((e ≡ Unbound q) × IsUnboundIn C y) ⊎ ((e ≡ Mistyped q) × IsNoExceptionIn C y)))

-- what stands behind `of` in a world: its type is over what is in scope, whatever the parameters there stand for, and it is written as it is
pub record IsBehind (W : World) (A : Around) (o : Option Ty) (r : Argument) : Type 0 where
  pub stands : (s : ℕ → Typ) → behind_of (context_under s A) o ≡ Some (option_map (replace s) (option_map (type_of W) r.ty))
  pub in_use : IsInUseIf W A r.ty
  pub written : option_map W.reading.type r.written ≡ option_map (as_typed A) (option_map (type_of W) r.ty)

pub record IsArgumentOf (S : State) (C : Context) (o : Option Ty) (T : State) (r : Argument) : Type 0 where
  pub grows : Grows S T
  pub next : T.next ≡ S.next
  pub held : IsHeldIf T r.ty
  pub gives : (W : World) → Comes T W → (A : Around) → Tells C W A → IsBehind W A o r

-- They elaborate, where the variables in scope are below k, each as what its identifier is in the context; what was known of the program's variables stays.
pub record ElaboratesExns (C : Context) (W : World) (A : Around) (k : ℕ) (bs : List ExBind) (x : prog.Decs) (es : List (Vid × Entry)) (j : ℕ) : Type 0 where
  pub known : Knowns
  pub elab : ExnsElab A A.known k bs x (kept_entries C W es) (scope_of_entries es) j known
  pub older : (n : ℕ) → n < k → checked.at known n ≡ checked.at A.known n
  pub newer : AllByRecursion (λ e. (n : ℕ) (v : Known) → known_of W A e.1 ≡ Some (n, v) → checked.at known n ≡ Some v) es
  pub fit : AllByRecursion (λ e. IsFit C W A e.1) es

pub record AreExns (S : State) (C : Context) (bs : List ExBind) (T : State) (made : ExnsMade) : Type 0 where
  pub grows : Grows S T
  pub vids : vids_in made.values.items ≡ exn_vids bs
  pub unkept : list_all may_construct (exn_vids bs) ≡ true
  pub raised : AllByRecursion (λ e. is_raised e.1 ≡ true) made.values.items
  pub held : AllByRecursion (λ e. IsHeld T C e.1) made.values.items
  pub below : IsNumbered S.next C → AllByRecursion (λ e. IsBelowIf T.next e.1) made.values.items
  pub gives : IsNumbered S.next C → (W : World) → Comes T W → (A : Around) → Tells C W A
      → ElaboratesExns C W A S.next bs (decs_of (map (dec_of W.reading) made.decs.items)) made.values.items T.next
