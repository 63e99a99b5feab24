-- What a project elaborates to is well typed.
use Rattle.std.proofs.Common.{◌≡◌, ℕ, List, [], Option, subst}
use Rattle.sml_tree.specs.BareTree.{Decs}
use Rattle.sml_tree.specs.BareTree as bare
use Rattle.core_rules.specs.Choices.{Choices}
use Rattle.core_rules.specs.Project.{Part}
use Rattle.core_elab.specs.Scopes.{Scope}
use Rattle.core_elab.specs.Resolves.{joined}
use Rattle.ty_core.specs.declared.scheme.Quantified.{Quantified}
use Rattle.ir_poly.specs.Prog as prog
use Rattle.ir_poly.specs.Types.{Constructor}
use Rattle.ir_poly.specs.TestsChecked.{Knowns}
use Rattle.ir_poly.specs.ProgChecked.{DecsChecked, c_no_decs, c_val, c_exception, c_exception_alone, c_counted_dec}
use Rattle.elab_typed.specs.Numbers.{KeepsInitial}
use Rattle.elab_typed.specs.Contexts.{KeptEnv, Around}
use Rattle.elab_typed.specs.Elaborates.{DecsElab, no_decs_elab, a_dec_elab, counted_decs_elab, DecElab, val_elab, type_elab, datatype_elab, replicate_elab, exception_elab, local_elab, open_dec_elab, sequence_elab, counted_dec_elab}
use Rattle.elab_typed.proofs.Checking.{decs-checked}
use Rattle.project_typed.specs.Elaborates.{Standard, PartsElab, no_part_elab, source_elab, first_basis_elab, later_basis_elab}

module _ {table : List Constructor} where
  -- the numbers of the initial type names are kept
  mutual
    decs-keep : {A : Around} {k j : ℕ} {ds : bare.Decs} {ds' : prog.Decs} {made : ℕ} {number : ℕ → ℕ} {d : KeptEnv} {r : Scope} {G : Knowns} {c : Choices}
        → DecsElab table A k ds ds' made number d r G c j → KeepsInitial A.number → KeepsInitial number
    decs-keep no_decs_elab i = i
    decs-keep (a_dec_elab d ds) i = decs-keep ds (dec-keeps d i)
    decs-keep (counted_decs_elab m ds) i = decs-keep ds i

    dec-keeps : {A : Around} {k j : ℕ} {d : bare.Dec} {ds : prog.Decs} {made : ℕ} {number : ℕ → ℕ} {e : KeptEnv} {r : Scope} {G : Knowns} {c : Choices}
        → DecElab table A k d ds made number e r G c j → KeepsInitial A.number → KeepsInitial number
    dec-keeps (val_elab p q qs extra n o m g d hs fs bs) i = i
    dec-keeps (type_elab p h) i = i
    dec-keeps (datatype_elab p qs number l h e m a n b) i = n
    dec-keeps (replicate_elab p x h d) i = i
    dec-keeps (exception_elab p bs) i = i
    dec-keeps (local_elab p ds es) i = decs-keep es (decs-keep ds i)
    dec-keeps (open_dec_elab p h d) i = i
    dec-keeps (sequence_elab p ds) i = decs-keep ds i
    dec-keeps (counted_dec_elab m d) i = dec-keeps d i

  joined-checked : {D : List Quantified} {G H K : Knowns} {ds es : prog.Decs} → DecsChecked table D G ds H → DecsChecked table D H es K
      → DecsChecked table D G (joined ds es) K
  joined-checked c_no_decs es = es
  joined-checked (c_val n b f ds) es = c_val n b f (joined-checked ds es)
  joined-checked (c_exception o ds) es = c_exception o (joined-checked ds es)
  joined-checked (c_exception_alone ds) es = c_exception_alone (joined-checked ds es)
  joined-checked (c_counted_dec ds) es = c_counted_dec (joined-checked ds es)

  -- where no parameter is in scope
  pub parts-checked : {prelude : Decs} {A B : Around} {k i : ℕ} {b : Option Standard} {parts : List Part} {es : prog.Decs}
      → PartsElab table prelude A k b parts es B i → A.parameters ≡ [] → KeepsInitial A.number → DecsChecked table [] A.known es B.known
  parts-checked no_part_elab e n = c_no_decs
  parts-checked {A = A} (source_elab {ds = ds} {G = G} d h) e n =
      joined-checked (subst (λ D. DecsChecked table D A.known ds G) e (decs-checked d n)) (parts-checked h e (decs-keep d n))
  parts-checked (first_basis_elab d h) e n = joined-checked (decs-checked d n) (parts-checked h e (decs-keep d n))
  parts-checked (later_basis_elab h) e n = parts-checked h e n
