-- What isn't bound, in whatever a context tells of.
use Rattle.std.proofs.Common.{◌≡◌, inr, ◌<◌, ℕ, List, [], ◌∷◌, ◌++◌, map, length, get_or, Option, Some, None, Result, Ok, Err, nat_eq, refl, sym, ap, subst, ◌∙◌}
use Rattle.std.specs.Prelude.{option_map, option_and_then}
use Rattle.std.specs.Map.{lookup}
use Rattle.std.specs.Result.{IfErr, IsErrAnd}
use Rattle.std.proofs.Math.ListN.{get_or-map}
use Rattle.std.proofs.lemmas.List.{length-map}
use Rattle.sml_tree.specs.BareTree.{LongIdAt}
use Rattle.sml_tree.specs.TreeOf.{long_id_at_of}
use Rattle.sml_tree.specs.declared.ident.Vid.{Vid}
use Rattle.sml_tree.specs.declared.tree.LongIdAt as tree
use Rattle.core_rules.specs.Elaborated.{type_in}
use Rattle.elab_typed.specs.Contexts.{generic}
use Rattle.elab_types.specs.Reading.{entry_of as type_entry_of}
use Rattle.elab_types.specs.declared.refused.Refused.{Refused}
use Rattle.elab_types.specs.declared.refused.Refused.TheVariants.{Unbound}
use Rattle.elab_context.specs.Entries.{entry_in, member_in}
use Rattle.elab_context.specs.Telling.{function_of, kept_of}
use Rattle.elab_context.specs.declared.context.Context.{Context}
use Rattle.scope_decs.specs.Refusals.{IsOpenRefused, IsUnboundStructureIn, IsUnboundTypeIn, within}

-- what a refusal says is said of what is passed on
pub passed : {T : Type 0} (Q : Refused → Type 0) (r : Result T Refused) (e : Refused) → IsErrAnd r (λ x. x ≡ e) → Q e → IfErr r Q
passed Q (Ok x) e g q = tt
passed Q (Err x) e g q = subst Q (sym g) q

none-mapped : {A B : Type 0} (f : A → B) (o : Option A) → option_map f o ≡ None → o ≡ None
none-mapped f None h = refl
none-mapped f (Some a) h = cc

pub unbound_type : (C : Context) (y : LongIdAt) → type_entry_of C.types y.long.qualifiers y.long.id ≡ None → IsUnboundTypeIn C y
unbound_type C y f W A t =
    none-mapped (λ s. s.function) (type_in (generic A).env y.long.qualifiers y.long.id) (t.types y.long.qualifiers y.long.id ∙ ap (option_map (function_of W)) f)

no-entry : (C : Context) (qs : List ℕ) (q : ℕ) (v : Vid) → (qs ≡ [] → lookup (nat_eq q) C.structures ≡ None) → entry_in C (qs ++ q ∷ []) v ≡ None
no-entry C [] q v h = ap (λ (o : Option ℕ). option_and_then (λ k. member_in C.members.items k v) o) (h refl)
no-entry C (r ∷ []) q v h = refl
no-entry C (r ∷ s ∷ qs) q v h = refl

pub unbound_structure : (C : Context) (y : LongIdAt) → (y.long.qualifiers ≡ [] → lookup (nat_eq y.long.id) C.structures ≡ None) → IsUnboundStructureIn C y
unbound_structure C y h v W A t = t.values (within y v) ∙ ap (option_map (kept_of C W)) (no-entry C y.long.qualifiers y.long.id v h)

-- the i-th of the structures isn't there
pub open_refused : (C : Context) (ys : List tree.LongIdAt) (i : ℕ) (y : tree.LongIdAt) (e : Refused) → i < length ys → y ≡ get_or ys i y → e ≡ Unbound y.place
    → IsUnboundStructureIn C (long_id_at_of y) → IsOpenRefused C (map long_id_at_of ys) e
open_refused C ys i y e lt is p u =
    inr (i, long_id_at_of y, subst (λ n. i < n) (sym (length-map ys long_id_at_of)) lt, get_or-map long_id_at_of ys i y ∙ ap long_id_at_of (sym is), (p, u))
