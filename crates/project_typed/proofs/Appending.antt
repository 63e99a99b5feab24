-- One source more behind the parts.
use Rattle.std.proofs.Common.{◌≡◌, ℕ, List, [], ◌∷◌, ◌++◌, Option, None, refl, sym, ap, subst}
use Rattle.sml_tree.specs.BareTree.{Decs}
use Rattle.core_rules.specs.Choices.{Choices}
use Rattle.core_rules.specs.Project.{Part, standard_basis, source}
use Rattle.ir_poly.specs.Prog as prog
use Rattle.ir_poly.specs.Types.{Constructor}
use Rattle.ir_poly.specs.TestsChecked.{Knowns}
use Rattle.core_elab.specs.Scopes.{Scope}
use Rattle.core_elab.specs.Resolves.{joined}
use Rattle.elab_typed.specs.Contexts.{Around, KeptEnv, after}
use Rattle.elab_typed.specs.Elaborates.{DecsElab}
use Rattle.project_typed.specs.Elaborates.{Standard, PartsElab, no_part_elab, source_elab, first_basis_elab, later_basis_elab}

pub joined-none : (ds : prog.Decs) → joined ds prog.no_decs ≡ ds
joined-none prog.no_decs = refl
joined-none (prog.val_dec qs bs fs ds) = ap (prog.val_dec qs bs fs) (joined-none ds)
joined-none (prog.exception_dec x i a ds) = ap (prog.exception_dec x i a) (joined-none ds)
joined-none (prog.counted_dec n ds) = ap (prog.counted_dec n) (joined-none ds)

pub joined-joined : (ds es fs : prog.Decs) → joined (joined ds es) fs ≡ joined ds (joined es fs)
joined-joined prog.no_decs es fs = refl
joined-joined (prog.val_dec qs bs gs ds) es fs = ap (prog.val_dec qs bs gs) (joined-joined ds es fs)
joined-joined (prog.exception_dec x i a ds) es fs = ap (prog.exception_dec x i a) (joined-joined ds es fs)
joined-joined (prog.counted_dec n ds) es fs = ap (prog.counted_dec n) (joined-joined ds es fs)

module _ {table : List Constructor} {prelude run : Decs} {B : Around} {i j : ℕ} {ds : prog.Decs} {made : ℕ} {number : ℕ → ℕ} {e : KeptEnv} {r : Scope} {G : Knowns}
    {c : Choices} (d : DecsElab table B i run ds made number e r G c j) where
  pub one-more : {A : Around} {k : ℕ} {b : Option Standard} {parts : List Part} {es : prog.Decs} → PartsElab table prelude A k b parts es B i
      → PartsElab table prelude A k b (parts ++ source run ∷ []) (joined es ds) (after B made number e r G) j
  one-more {k = k} {b = b} no_part_elab =
      subst (λ x. PartsElab table prelude B k b (source run ∷ []) x (after B made number e r G) j) (joined-none ds) (source_elab d no_part_elab)
  one-more {A} {k} {b} (source_elab {run = first} {parts = parts} {ds = xs} {es = es} x h) =
      subst (λ y. PartsElab table prelude A k b (source first ∷ parts ++ source run ∷ []) y (after B made number e r G) j) (sym (joined-joined xs es ds))
      (source_elab x (one-more h))
  one-more {A} {k} (first_basis_elab {parts = parts} {ds = xs} {es = es} x h) =
      subst (λ y. PartsElab table prelude A k None (standard_basis ∷ parts ++ source run ∷ []) y (after B made number e r G) j) (sym (joined-joined xs es ds))
      (first_basis_elab x (one-more h))
  one-more (later_basis_elab h) = later_basis_elab (one-more h)
