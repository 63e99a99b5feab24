-- Programs with their tables.
use Rattle.std.proofs.Common.{ℕ, Bool, true, false, List, [], ◌++◌, None, Contains, refl, subst, sym}
use Rattle.std.proofs.lemmas.List.Elements.{All-weaker, All-contains_itself, Contains-append_left}
use Rattle.mlc_runs.specs.Passes.{initial_exceptions, BringsNone}
use Rattle.ir_poly.specs.of_ir_values.Values.{truth_number}
use Rattle.ir_poly.specs.Prog.{Decs}
use Rattle.ir_poly.specs.TestsChecked.{HasConstructor}
use Rattle.ir_poly.specs.Types.{bool_name, Constructor, constructor_of, initial_constructors, unit_type}
use Rattle.ir_poly.specs.WellFormed.{Program}
use Rattle.match_compile.specs.Compile.{bool_type}
use Rattle.match_compile.specs.Exceptions.{decs_made}
use Rattle.match_compile.specs.Laws.{KeepsTyping, StaysWellFormed, BringsNoException}
use Rattle.match_compile.proofs.Typed.{run-typed}
use Rattle.match_compile.proofs.Once.{run-once}
use Rattle.match_compile.proofs.Local.{run-local}
use Rattle.match_compile.proofs.Made.{run-made}

-- the table has true and false
truths : (constructors : List Constructor) (b : Bool) → HasConstructor (initial_constructors ++ constructors) (truth_number b) bool_type None
truths cs false = record { datatype = bool_name; arguments = []; row = constructor_of bool_name (truth_number false) None; found = refl; same = refl; type = refl; argument = refl }
truths cs true = record { datatype = bool_name; arguments = []; row = constructor_of bool_name (truth_number true) None; found = refl; same = refl; type = refl; argument = refl }

pub typing-kept : (ds : Decs) → KeepsTyping ds
typing-kept ds cs G h = run-typed (initial_constructors ++ cs) (truths cs) ds G h

pub well-formed : (p : Program Decs) → StaysWellFormed p
well-formed p h = record { initial = h.initial; table = h.table; type = unit_type; typed = typing-kept p.body p.constructors h.after h.typed; once = run-once p.body; local = run-local p.body }

brings-none : (us : List ℕ) → BringsNone us us
brings-none us = All-weaker (Contains us) (Contains (us ++ initial_exceptions)) (λ x h. Contains-append_left us initial_exceptions x h) us (All-contains_itself us)

pub no-exception : (p : Program Decs) → BringsNoException p
no-exception p = subst (λ us. BringsNone (decs_made p.body []) us) (sym (run-made p.body [])) (brings-none (decs_made p.body []))
