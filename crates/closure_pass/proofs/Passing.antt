-- The whole way: the expansion of what is a function by itself, the sets by type, and the conversion by these.
use Rattle.std.proofs.Common.{◌≡◌, ℕ, List, [], All, Contains, sym, ap, ◌∙◌, subst}
use Rattle.mlc_runs.specs.Passes.{BringsNone, initial_exceptions}
use Rattle.match_compile.specs.Exceptions.{tests_made}
use Rattle.ir_mono.specs.Types as table
use Rattle.ir_mono.specs.Mono.{Mono, Program}
use Rattle.ir_mono.specs.Mono as mono
use Rattle.ir_mono.specs.WellFormed.{IsWellFormed}
use Rattle.ir_first.specs.Tree as out
use Rattle.first_tree.specs.Exceptions.{exceptions, funs_make}
use Rattle.plain_tree.specs.declared.tree.Exp.{Exp}
use Rattle.mono_bound.specs.Reads.{mono_of}
use Rattle.flow_sets.specs.ByType.{bound}
use Rattle.closure_first.specs.of_flow_types.Flows.{program_with}
use Rattle.eta_expand.specs.Expand.{expand}
use Rattle.eta_expand.proofs.Formed.{expanded-explicit}
use Rattle.eta_expand.proofs.Keeps.{expanded-same}
use Rattle.closure_formed.specs.of_closure_whole.Rising.{above, rising}
use Rattle.closure_formed.specs.of_closure_whole.Tags.{AreDense}
use Rattle.closure_formed.specs.of_closure_whole.Whole.{explicit, without_functions}
use Rattle.closure_formed.proofs.of_closure_whole.Tags.{without-functions-dense}
use Rattle.closure_formed.proofs.of_closure_whole.Fresh.{fresh}
use Rattle.closure_formed.proofs.of_closure_whole.Whole.{explicit-well-formed}
use Rattle.closure_first.specs.Made.{converted_by}
use Rattle.closure_pass.specs.Laws.{WithoutFunctionsMakesNoMore}
use Rattle.closure_pass.specs.Given.{given, IsReady}
use Rattle.closure_pass.proofs.Keeping.{Strings, exceptions-from}

module _ (types : List table.Row) (ss : Strings) (initial : List ℕ) (expansion : ℕ) (body made : Exp)
    (x : mono_of types ss made ≡ expand types [] (above (bound types (mono_of types ss body))) (mono_of types ss body)) where
  abbrev before : Program
  before = given initial types expansion ss body

  abbrev now : Program
  now = given initial types expansion ss made

  now-explicit : now ≡ explicit before
  now-explicit = ap (λ v. program_with initial types expansion v) x

  pub now-ready : IsWellFormed before → IsReady now
  now-ready w = subst IsReady (sym now-explicit) (record { formed = explicit-well-formed before w; explicit = expanded-explicit (above (bound types before.body)) before w })

  pub whole-made : (us : Strings) (q : out.Program) → q ≡ converted_by (rising now) us now → q ≡ without_functions us before
  whole-made us q h = h ∙ ap (λ p. converted_by (rising p) us p) now-explicit

  pub whole-same : (turns : ℕ) → IsWellFormed before → mono.meaning now turns ≡ mono.meaning before turns
  whole-same turns w = ap (λ p. mono.meaning p turns) now-explicit ∙ expanded-same (above (bound types before.body)) before w (λ k l. fresh types k before.body l) turns

pub whole-dense : (us : Strings) (p : Program) (q : out.Program) → q ≡ without_functions us p → AreDense q.tables.sets
whole-dense us p q e = subst (λ (v : out.Program). AreDense v.tables.sets) (sym e) (without-functions-dense us p)

pub whole-exceptions : (us : Strings) (p : Program) (q : out.Program) → q ≡ without_functions us p → WithoutFunctionsMakesNoMore → p.initial ≡ initial_exceptions → BringsNone (tests_made p.body []) (exceptions q)
whole-exceptions us p q e law i =
    exceptions-from q p p.initial (ap (λ (v : out.Program). v.tables.initial) e) i
    (subst (λ (v : out.Program). All (Contains (tests_made p.body [])) (funs_make v.funs)) (sym e) (law us p))
