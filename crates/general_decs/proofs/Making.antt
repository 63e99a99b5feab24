-- Identifiers that make what they are applied to.
use Rattle.std.proofs.Common.{◌≡◌, ◌&&◌, ℕ, Bool, true, false, not, nat_eq, List, Option, Some, None, slice_get, length, refl, sym, ap, ◌∙◌}
use Rattle.std.specs.Prelude.{IfSome, option_map}
use Rattle.ty_core.specs.Types.{Typ, var, con, name}
use Rattle.ty_core.specs.Statics.{variables}
use Rattle.ty_core.specs.declared.name.TyName.{TyName}
use Rattle.ty_basis.specs.Types.{ref_name}
use Rattle.ty_table.specs.TypeAt.{type_at}
use Rattle.sml_tree.specs.Terminal.{LongVid}
use Rattle.sml_tree.specs.declared.ident.Vid.{Vid}
use Rattle.core_rules.specs.Objects.{Scheme, long_value_in}
use Rattle.core_rules.specs.Typing.{gives_reference, is_conexp_in}
use Rattle.ir_poly.specs.TestsChecked.{alone_type}
use Rattle.elab_typed.specs.Contexts.{Around, generic, value_under}
use Rattle.elab_typed.proofs.Under.{long-under}
use Rattle.elab_state.specs.States.{types_in}
use Rattle.elab_state.specs.declared.state.State.{State}
use Rattle.elab_steps.specs.Instances.{begins_as_function}
use Rattle.elab_steps.specs.World.{World, Comes}
use Rattle.elab_context.specs.Entries.{entry_in}
use Rattle.elab_context.specs.Telling.{IsContext, IsFit, IsHeld, Tells, kept_of, scheme_at, scheme_of}
use Rattle.elab_context.specs.declared.context.Context.{Context}
use Rattle.elab_context.specs.declared.entry.Entry.{Entry}
use Rattle.elab_context.specs.declared.entry.Entry.TheVariants.{Constructor, Reference, Initial, Primitive, Raised, Single, Own, General}
use Rattle.elab_context.specs.declared.entry.Scheme as code
use Rattle.general_decs.specs.Values.{body_of, makes, makes_if}

-- a constructor of a datatype makes a reference where it is a function to one
gives-as : (o : Option Typ) (y : TyName) (ts : List Typ) (vs : Rattle.ty_core.specs.Types.Typs) (t : Typ) → t ≡ alone_type o (con (name y) vs)
    → gives_reference t ≡ (nat_eq y.stamp ref_name.stamp && begins_as_function t)
gives-as None y ts vs t e = ap gives_reference e ∙ sym (and-none (nat_eq y.stamp ref_name.stamp)) ∙ ap (λ u. nat_eq y.stamp ref_name.stamp && begins_as_function u) (sym e)
  where
    and-none : (b : Bool) → (b && false) ≡ false
    and-none true = refl
    and-none false = refl
gives-as (Some u) y ts vs t e = ap gives_reference e ∙ sym (and-all (nat_eq y.stamp ref_name.stamp)) ∙ ap (λ u. nat_eq y.stamp ref_name.stamp && begins_as_function u) (sym e)
  where
    and-all : (b : Bool) → (b && true) ≡ b
    and-all true = refl
    and-all false = refl

module _ (S : State) (C : Context) (W : World) (A : Around) (i : IsContext S C) (c : Comes S W) (t : Tells C W A) where
  -- the scheme of a constructor is in the table
  body-is : (k : ℕ) (o : Option code.Scheme) → slice_get C.schemes.items k ≡ o → (a : Option Typ) (y : TyName) (vs : Rattle.ty_core.specs.Types.Typs)
      → (scheme_of W o).body ≡ alone_type a (con (name y) vs) → (scheme_of W o).body ≡ type_at (types_in S) (body_of o)
  body-is k None q None y vs e = cc
  body-is k None q (Some u) y vs e = cc
  body-is k (Some s) q a y vs e = c.types s.body (i.schemes k s q).held

  made : (e : Entry) → IsFit C W A e → is_conexp_in (Some (value_under var (kept_of C W e))) ≡ makes S C e
  made (Constructor s n y) f =
      let vs = variables 0 (length (scheme_at C W s).marks) in
      let same = body-is s (slice_get C.schemes.items s) refl f.argument y vs f.body in
      ap not
      (gives-as f.argument y Rattle.std.specs.Prelude.[] vs (scheme_at C W s).body f.body
      ∙ ap (λ u. nat_eq y.stamp ref_name.stamp && begins_as_function u) same)
  made (Reference s) f = ap (λ (z : Scheme). not (gives_reference z.body)) f
  made (Initial s n) f = ap (λ (z : Scheme). not (gives_reference z.body)) f.0
  made (Primitive s q) f = refl
  made (Raised n None) f = refl
  made (Raised n (Some a)) f = refl
  made (Single u n) f = refl
  made (Own u n) f = refl
  made (General l u n o) f = refl

  pub makes-is : (x : LongVid) → makes_if S C (entry_in C x.qualifiers x.vid) ≡ is_conexp_in (long_value_in (generic A).env x)
  makes-is x =
      by (entry_in C x.qualifiers x.vid) refl ∙ sym (ap is_conexp_in (long-under var A.env x ∙ ap (option_map (value_under var)) (t.values x)))
    where
      by : (o : Option Entry) → entry_in C x.qualifiers x.vid ≡ o → makes_if S C o ≡ is_conexp_in (option_map (value_under var) (option_map (kept_of C W) o))
      by None q = refl
      by (Some e) q = sym (made e (t.fit x e q))

-- what is found is held
pub held-if : (S : State) (C : Context) → IsContext S C → (qs : List ℕ) (x : Vid) (o : Option Entry) → o ≡ entry_in C qs x → IfSome o (IsHeld S C)
held-if S C i qs x None e = tt
held-if S C i qs x (Some d) e = i.entries qs x d (sym e)
