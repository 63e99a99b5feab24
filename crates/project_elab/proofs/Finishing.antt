-- The program of a project that was elaborated.
use Rattle.std.proofs.Common.{◌≡◌, ◌&&◌, ℕ, Bool, true, false, if◌then◌else◌, nat_eq, List, [], ◌∷◌, ◌++◌, length, Some, Vec, Global, refl, sym, ap, subst, ◌∙◌}
use Rattle.std.specs.List.{AllByRecursion}
use Rattle.mlc_runs.specs.Passes.{initial_exceptions}
use Rattle.ty_core.specs.Types.{Typ}
use Rattle.ty_core.specs.declared.name.TyName.{TyName}
use Rattle.sml_tree.specs.BareTree as bare
use Rattle.core_rules.specs.Project.{Part}
use Rattle.ir_poly.specs.Types.{Constructor, IsConstructor, find, initial_constructors}
use Rattle.ir_poly.specs.WellFormed.{table_of}
use Rattle.ir_tables.specs.Tables.{constructors_of}
use Rattle.ir_poly.specs.Prog as prog
use Rattle.ir_poly.specs.ProgChecked.{c_counted_dec}
use Rattle.prog_tree.specs.TreeOf.{Reading, DecTree, RuleTree, body_of, counted_tree, dec_of, node_dec, node_exp, node_function, node_rule, put}
use Rattle.prog_tree.specs.declared.tree.Dec.{Dec, Dec-F, fold-roll-Dec}
use Rattle.prog_tree.specs.declared.tree.Dec.TheVariants as tree
use Rattle.project_typed.specs.Laws.{IsProgramOfProject}
use Rattle.project_typed.proofs.Whole.{projects-right}
use Rattle.elab_state.specs.States.{reading_in, table_in}
use Rattle.elab_state.specs.declared.state.State.{State}
use Rattle.elab_steps.specs.Tidy.{AreConstructors}
use Rattle.elab_worlds.specs.Final.{IsFinal, IsLast, IsOrdered, final_world}
use Rattle.elab_worlds.proofs.Final.{final-comes, finals-ordered, state-ends}
use Rattle.elab_finish.specs.of_final_types.Programs.{IsProgramWith}
use Rattle.elab_finish.proofs.Ending.{final-end}
use Rattle.match_pass.specs.of_ir_prog.Programs.{body_in, prog_of}
use Rattle.match_pass.specs.of_ir_prog.declared.program.Program.{Program}
use Rattle.match_pass.specs.Typed.{IsWellTyped}
use Rattle.project_elab.specs.Counted.{IsCounted}
use Rattle.project_elab.specs.Elaborated.{HasElaborated}
use Rattle.project_elab.specs.declared.project.Elaborating.{Elaborating}

find-front : (ks js : List Constructor) (y : TyName) (c : ℕ) (found : Constructor) → find ks y c ≡ Some found → find (ks ++ js) y c ≡ Some found
find-front [] js y c found e = cc
find-front (k ∷ ks) js y c found e = by (nat_eq k.datatype.stamp y.stamp && nat_eq k.number c) e (find-front ks js y c found)
  where
    by : (b : Bool) → (if b then Some k else find ks y c) ≡ Some found → (find ks y c ≡ Some found → find (ks ++ js) y c ≡ Some found)
        → (if b then Some k else find (ks ++ js) y c) ≡ Some found
    by true e again = e
    by false e again = again e

-- behind a count declarations do what they do

weight-read : (R : Reading) (n : ℕ) → dec_of R (tree.Weight n) ≡ counted_tree n
weight-read R n = ap (dec_of R) (sym (tree.rolls-Weight n)) ∙ fold-roll-Dec DecTree prog.Exp prog.Fun RuleTree (node_dec R) (node_exp R) (node_function R) (node_rule R) (Dec-F.Weight n)

body-behind : (R : Reading) (n : ℕ) (ds : List Dec) → body_of R (tree.Weight n ∷ ds) ≡ prog.counted_dec n (body_of R ds)
body-behind R n ds = ap (λ d. put d (body_of R ds)) (weight-read R n)

counted-right : (table : List Constructor) (prelude : bare.Decs) (parts : List Part) (n : ℕ) (es : prog.Decs) → IsProgramOfProject table prelude parts es
    → IsProgramOfProject table prelude parts (prog.counted_dec n es)
counted-right table prelude parts n es r = record { after = r.after; checked = c_counted_dec r.checked; context = r.context; typed = r.typed; same = r.same }

-- a program with the names of the basis' exceptions
pub record IsRight (prelude : bare.Decs) (parts : List Part) (p : Program) : Type 0 where
  pub program : IsProgramOfProject (table_of (prog_of p)) prelude parts (body_in p)
  pub counted : IsCounted prelude parts (body_in p)
  pub well : IsWellTyped p

-- these stand in no type and in no body
named-right : (S : State) (prelude : bare.Decs) (parts : List Part) (p : Program) (v : Vec ℕ Global) (body : List Dec) → v.items ≡ initial_exceptions
    → IsProgramWith S body p → AreConstructors S → IsProgramOfProject (initial_constructors ++ constructors_of p.tables) prelude parts (body_in p)
    → IsCounted prelude parts (body_in p) → IsRight prelude parts (record p { tables = record p.tables { initial = v } })
named-right S prelude parts p v body names w k right counted = record {
  program = right;
  counted = counted;
  well = record {
    exn = w.exn;
    initial = names;
    seven = ap length names;
    table = subst (AllByRecursion IsConstructor) (sym w.constructors) k;
    after = right.after;
    typed = right.checked;
  };
}

module _ (e : Elaborating) (prelude : bare.Decs) (parts : List Part) (h : HasElaborated prelude parts e) (ordered : IsOrdered e.state) where
  -- it stands at the outermost level, where each state may be the last one
  last : IsLast e.state e.state.level
  last = record { tidy = h.stands.context.tidy; parameters = h.stands.context.tidy.parameters }

  run-right : (g : ℕ → Typ) → IsFinal e.state g
      → IsProgramOfProject (initial_constructors ++ table_in e.state) prelude parts (body_of (reading_in e.state g) e.body.items)
  run-right g f =
      let up = finals-ordered e.state ordered g f in
      let c = final-comes e.state e.state.level last h.constructors g f up in
      let p = h.gives (final_world e.state g up) c (λ y n found. find-front initial_constructors (table_in e.state) y n found) refl in
      projects-right (initial_constructors ++ table_in e.state) prelude parts (body_of (reading_in e.state g) e.body.items) p.around p.next p.elab

  abbrev behind : List Dec
  behind = tree.Weight e.nodes ∷ e.body.items

  -- what is made is the tree behind its count
  made-is : (p : Program) → IsProgramWith e.state behind p → (es : prog.Decs) × (body_in p ≡ prog.counted_dec e.nodes es)
      × IsProgramOfProject (initial_constructors ++ table_in e.state) prelude parts es
  made-is p w =
      let z = state-ends e.state e.state.level last h.constructors ordered in
      let R = reading_in e.state z.values in
      (body_of R e.body.items, w.body z.values (final-end e.state e.state.level last.tidy z.values z.final) ∙ body-behind R e.nodes e.body.items, run-right z.values z.final)

  made-right : (p : Program) → IsProgramWith e.state behind p → IsProgramOfProject (initial_constructors ++ constructors_of p.tables) prelude parts (body_in p)
  made-right p w =
      let m = made-is p w in
      subst (λ cs. IsProgramOfProject (initial_constructors ++ cs) prelude parts (body_in p)) (sym w.constructors)
      (subst (IsProgramOfProject (initial_constructors ++ table_in e.state) prelude parts) (sym m.1)
      (counted-right (initial_constructors ++ table_in e.state) prelude parts e.nodes m.0 m.2))

  made-counted : (p : Program) → IsProgramWith e.state behind p → IsCounted prelude parts (body_in p)
  made-counted p w = let m = made-is p w in (m.0, m.1 ∙ ap (λ n. prog.counted_dec n m.0) h.nodes)

  pub finished-right : (p r : Program) (v : Vec ℕ Global) (body : List Dec) → v.items ≡ initial_exceptions → r ≡ record p { tables = record p.tables { initial = v } }
      → body ≡ behind → IsProgramWith e.state body p → IsRight prelude parts r
  finished-right p r v body names is same w =
      let x = subst (λ l. IsProgramWith e.state l p) same w in
      subst (IsRight prelude parts) (sym is) (named-right e.state prelude parts p v body names w h.constructors (made-right p x) (made-counted p x))
