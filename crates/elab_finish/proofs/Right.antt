-- The program of a run is right.
use Rattle.std.proofs.Common.{◌≡◌, ℕ, List, [], ◌∷◌, ◌++◌, ◌&&◌, Bool, true, false, if◌then◌else◌, nat_eq, Some, refl, sym, ap, subst, ◌∙◌, arith}
use mathlib.Core.Path.{fun_ext}
use Rattle.sml_tree.specs.BareTree as bare
use Rattle.sml_tree.specs.TreeOf as source
use Rattle.ty_core.specs.Types.{Typ}
use Rattle.ty_core.specs.declared.name.TyName.{TyName}
use Rattle.ir_poly.specs.Types.{Constructor, find, initial_constructors}
use Rattle.ir_tables.specs.Tables.{constructors_of, parameters_at}
use Rattle.prog_tree.specs.Readings.{reading}
use Rattle.prog_tree.specs.TreeOf.{Reading, body_of}
use Rattle.prog_tree.specs.declared.tree.Dec.{Dec}
use Rattle.prog_renumber.specs.Renumbered.{renumbered}
use Rattle.elab_typed.specs.Laws.{IsProgramOf}
use Rattle.elab_typed.proofs.Whole.{program-right}
use Rattle.elab_state.specs.States.{reading_in, table_in}
use Rattle.elab_state.specs.declared.state.State.{State}
use Rattle.elab_steps.proofs.Growing.{comes_before}
use Rattle.elab_context.specs.declared.context.Context.{Context}
use Rattle.basis_context.specs.Telling.{TellsBasis, around_in}
use Rattle.dec_forms.specs.Decs.{IsDecs}
use Rattle.dec_forms.proofs.Sequencing.{decs-do}
use Rattle.elab_worlds.specs.Final.{AreConstructors, IsFinal, IsLast, IsOrdered, final_world}
use Rattle.elab_worlds.proofs.Final.{final-comes, finals-ordered, state-ends}
use Rattle.final_types.specs.of_ir_prog.Programs.{body_in}
use Rattle.final_types.specs.of_ir_prog.declared.program.Program.{Program}
use Rattle.final_types.specs.Programs.{IsProgramWith}
use Rattle.elab_finish.specs.Finished.{IsFinished}
use Rattle.elab_finish.proofs.Ending.{final-end}
use Rattle.final_types.specs.declared.finish.Finished.{Finished}

find-front : (ks js : List Constructor) (y : TyName) (c : ℕ) (found : Constructor) → find ks y c ≡ Some found → find (ks ++ js) y c ≡ Some found
find-front [] js y c found e = cc
find-front (k ∷ ks) js y c found e = by (nat_eq k.datatype.stamp y.stamp && nat_eq k.number c) e (find-front ks js y c found)
  where
    by : (b : Bool) → (if b then Some k else find ks y c) ≡ Some found → (find ks y c ≡ Some found → find (ks ++ js) y c ≡ Some found)
        → (if b then Some k else find (ks ++ js) y c) ≡ Some found
    by true e again = e
    by false e again = again e

module _ (S T : State) (C D : Context) (ds : List bare.Dec) (decs : List Dec) (l : ℕ) (tells : TellsBasis S C) (is : IsDecs S C ds T D decs) (last : IsLast T l) (k : AreConstructors T)
    (ordered : IsOrdered T) where
  run-right : (g : ℕ → Typ) → IsFinal T g → IsProgramOf (initial_constructors ++ table_in T) (source.decs_of ds) (body_of (reading_in T g) decs)
  run-right g h =
      let up = finals-ordered T ordered g h in
      let W = final_world T g up in
      let c = final-comes T l last k g h up in
      let told = tells W (comes_before S T W is.grows c) (λ y n found. find-front initial_constructors (table_in T) y n found) refl in
      let e = is.gives W c (around_in W) told in
      let u = e.elab 0 (omega arith) in
      let d = decs-do u.elab in
      subst (IsProgramOf (initial_constructors ++ table_in T) (source.decs_of ds)) e.whole
      (program-right (initial_constructors ++ table_in T) (source.decs_of ds) _ d.made d.number d.env d.scope d.known _ u.next d.elab)

  module _ (new : List Dec) (f : Finished) (finished : IsFinished T f) (same : (Q : Reading) → body_of Q new ≡ body_of (renumbered f.numbers Q) decs) where
    -- the new numbers stand in the tables for what the tree read
    reads : (g : ℕ → Typ) → IsFinal T g → renumbered f.numbers (reading f.tables) ≡ reading_in T g
    reads g h = λ i. record { type = fun_ext (finished.types g h) i; parameters = parameters_at (finished.parameters i); strings = finished.strings i }

    pub right : IsProgramOf (initial_constructors ++ constructors_of f.tables) (source.decs_of ds) (body_of (reading f.tables) new)
    right =
        let z = state-ends T l last k ordered in
        let e = same (reading f.tables) ∙ ap (λ R. body_of R decs) (reads z.values z.final) in
        subst (λ cs. IsProgramOf (initial_constructors ++ cs) (source.decs_of ds) (body_of (reading f.tables) new)) (sym finished.constructors)
        (subst (IsProgramOf (initial_constructors ++ table_in T) (source.decs_of ds)) (sym e) (run-right z.values z.final))

  pub made-right : (p : Program) → IsProgramWith T decs p → IsProgramOf (initial_constructors ++ constructors_of p.tables) (source.decs_of ds) (body_in p)
  made-right p w =
      let z = state-ends T l last k ordered in
      subst (λ cs. IsProgramOf (initial_constructors ++ cs) (source.decs_of ds) (body_in p)) (sym w.constructors)
      (subst (IsProgramOf (initial_constructors ++ table_in T) (source.decs_of ds)) (sym (w.body z.values (final-end T l last.tidy z.values z.final))) (run-right z.values z.final))
