-- A program is well formed where the answers on its parts are yes.
use Rattle.std.proofs.Common.{◌≡◌, ◌↔◌, Bool, true, false, ◌&&◌, List, [], length, nat_eq, IsTrue, refl, sym, ap, ◌∙◌}
use Rattle.mlc_runs.specs.Passes.{initial_exceptions}
use Rattle.ty_table.specs.TypeAt.{type_at}
use Rattle.ir_known.specs.Knows.{marks_of, knowns_of}
use Rattle.ir_poly.specs.Prog.{Decs}
use Rattle.ir_poly.specs.ProgOnce.{IsOnce}
use Rattle.ir_poly.specs.TestsChecked.{exn_type}
use Rattle.ir_poly.specs.WellFormed as clean
use Rattle.ir_poly.specs.WellFormed.{IsProg, table_of}
use Rattle.ir_tables.specs.declared.tables.Tables.{Tables}
use Rattle.ir_tables.specs.Tables.{initial_of, parameters_of}
use Rattle.prog_check.specs.Binders.{decs_binders, are_distinct}
use Rattle.prog_check.specs.Checking.{check_decs}
use Rattle.prog_check.specs.Program.{check, check_table}
use Rattle.prog_check.proofs.BindersLemmas.{once-sound, once-complete}
use Rattle.prog_check.proofs.ProgramLemmas.{check-sound, check-complete}
use Rattle.prog_known.specs.declared.environment.Environment.{Environment}
use Rattle.prog_known.specs.Environments.{table_in, variables_in}
use Rattle.prog_known.specs.Lists.{hold}
use Rattle.prog_tree.specs.Readings.{reading}
use Rattle.prog_tree.specs.TreeOf.{body_of}
use Rattle.prog_tree.specs.declared.tree.Dec.{Dec}
use Rattle.prog_exps.specs.of_prog_parts.Expressions as parts
use Rattle.prog_exps.specs.of_prog_parts.Expressions.{dec_onto}
use Rattle.prog_exps.proofs.of_prog_parts.Checks as checks
use Rattle.prog_exps.proofs.of_prog_parts.Truths.{as-decided}
use Rattle.prog_exps.specs.of_prog_leaves.Right.{decs_right}
use Rattle.ir_prog.specs.Programs.{prog_of, IsWellFormed}
use Rattle.ir_prog.specs.declared.program.Program.{Program}

-- where nothing is in scope
pub typed-is : (t : Tables) (e : Environment) (ds : List Dec) → e.parameters ≡ [] → e.variables ≡ [] → decs_right t e ds ≡ check_decs (table_in t) [] [] (body_of (reading t) ds)
unfolding decs_right
typed-is t e ds p v =
    ap (λ l. hold (parts.dec_holds t (marks_of l)) (dec_onto t) (variables_in t e) ds) p
    ∙ ap (λ l. hold (parts.dec_holds t []) (dec_onto t) (knowns_of t.types (parameters_of t) l) ds) v
    ∙ sym (checks.decs-hold t [] [] ds)

grouped : (s t y o : Bool) → ((s && t) && (y && o)) ≡ (s && (t && (y && o)))
grouped true t y o = refl
grouped false t y o = refl

pub formed : (p : clean.Program Decs) (so tables typed once : Bool) → so ≡ (tables && (typed && once)) → tables ≡ (nat_eq (length p.initial) 7 && check_table p.constructors)
    → typed ≡ check_decs (table_of p) [] [] p.body → IsTrue once ↔ IsOnce p.body → IsTrue so ↔ IsProg p
formed p so tables typed once s t y o = ((λ e. check-sound p (sym whole ∙ e)), (λ g. whole ∙ check-complete p g))
  where
    distinct : once ≡ are_distinct (decs_binders p.body)
    distinct = as-decided once (are_distinct (decs_binders p.body)) ((λ e. once-complete p.body (o.0 e)), (λ e. o.1 (once-sound p.body e)))

    whole : so ≡ check p
    whole = s ∙ ap (λ b. b && (typed && once)) t ∙ ap (λ b. (nat_eq (length p.initial) 7 && check_table p.constructors) && (b && once)) y
        ∙ ap (λ b. (nat_eq (length p.initial) 7 && check_table p.constructors) && (check_decs (table_of p) [] [] p.body && b)) distinct
        ∙ grouped (nat_eq (length p.initial) 7) (check_table p.constructors) (check_decs (table_of p) [] [] p.body) (are_distinct (decs_binders p.body))

-- its exceptions are those of the initial basis, and the type that it carries is that of exceptions
pub carried : (p : Program) (a b : Bool) → IsTrue a ↔ (initial_of p.tables ≡ initial_exceptions) → a ≡ true → type_at p.tables.types p.exn ≡ exn_type
    → IsTrue b ↔ IsProg (prog_of p) → IsTrue b ↔ IsWellFormed p
carried p a b i y e w = ((λ z. record { exn = e; initial = i.0 y; program = w.0 z }), (λ f. w.1 f.program))

pub not-initial : (p : Program) (a : Bool) → IsTrue a ↔ (initial_of p.tables ≡ initial_exceptions) → a ≡ false → IsTrue false ↔ IsWellFormed p
not-initial p a w e = ((λ y. absurd (let k : false ≡ true = y in cc)), (λ f. sym e ∙ w.1 f.initial))

pub not-carried : (p : Program) (b : Bool) → IsTrue b ↔ (type_at p.tables.types p.exn ≡ exn_type) → b ≡ false → IsTrue false ↔ IsWellFormed p
not-carried p b w e = ((λ y. absurd (let k : false ≡ true = y in cc)), (λ f. sym e ∙ w.1 f.exn))
