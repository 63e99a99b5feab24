-- Flow sets by computation: a function in a record, and one that gives a function.
use Rattle.std.proofs.Common.{◌≡◌, true, false, List, [], ◌∷◌, None, refl}
use Rattle.mlc_names.specs.declared.label.Label.TheVariants.{Number}
use Rattle.ty_core.specs.Types.{arrow, labels, name}
use Rattle.ir_mono.specs.of_ir_values.Values.{true_number, false_number}
use Rattle.ir_mono.specs.of_ir_plain.Tree.{ret, let_in, fn, use_of, make_record, select, no_row, a_row, last}
use Rattle.ir_mono.specs.of_ir_poly.Types.{bool_name}
use Rattle.ir_mono.specs.Types.{Row, Node, node}
use Rattle.ir_mono.specs.Mono.{Mono, Program}
use Rattle.flow_sets.specs.Flow.{variable, result, field, content, Flow, at, SolvesProgram}
use Rattle.flow_sets.specs.ByType.{by_type}

abbrev row : Node → Row
row n = record { type = n; constructors = []; equality = false }

-- 0 unit, 1 truth values, 2 from unit to unit, 3 from unit to those, 4 records of one such function
abbrev types : List Row
types =
    row (node (labels []) []) ∷ record { type = node (name bool_name) []; constructors = (false_number, None) ∷ (true_number, None) ∷ []; equality = true }
    ∷ row (node arrow (0 ∷ 0 ∷ [])) ∷ row (node arrow (0 ∷ 2 ∷ [])) ∷ row (node (labels (Number 1 ∷ [])) (2 ∷ [])) ∷ []

-- val f = fn x => x; val g = fn y => f; val r = (f, as a field); the field of r
abbrev body : Mono types
body =
    let_in 10 tt 2 (fn (last 11 0 (ret 11)))
    (let_in 12 tt 3 (fn (last 13 0 (let_in 14 tt 2 (use_of 10) (ret 14))))
    (let_in 15 tt 4 (make_record 4 (a_row (Number 1) 10 no_row)) (let_in 16 tt 2 (select 4 (Number 1) 15) (ret 16))))

abbrev program : Program
program = record { initial = []; types = types; expansion = 0; body = body }

a-function-comes-to-its-variable : at (by_type program) (variable 10) ≡ 11 ∷ []
a-function-comes-to-its-variable = refl

what-a-function-gives : at (by_type program) (result 13) ≡ 11 ∷ []
what-a-function-gives = refl

what-a-field-has : at (by_type program) (field 4 (Number 1)) ≡ 11 ∷ []
what-a-field-has = refl

nothing-in-references : at (by_type program) (content 0) ≡ []
nothing-in-references = refl

-- sets without the functions are no solution
abbrev no_sets : Flow
no_sets = record { sets = []; number = λ s. 0 }

too-small : SolvesProgram types no_sets body → ⊥
too-small s = let first = s.1.0.0 in cc
