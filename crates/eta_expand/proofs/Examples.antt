-- Expansions by computation.
use Rattle.std.proofs.Common.{◌≡◌, ℕ, List, [], ◌∷◌, Some, None, false, refl}
use Rattle.mlc_runs.specs.Outcome.{ended, uncaught}
use Rattle.mlc_names.specs.declared.label.Label.TheVariants.{Number}
use Rattle.mlc_base.specs.declared.place.Place.{Place}
use Rattle.mlc_prims.specs.LitOf.{string}
use Rattle.mlc_prims.specs.declared.basis.BasisPrimitive.TheVariants.{Concat, Print}
use Rattle.ty_core.specs.Types.{arrow, labels, name}
use Rattle.ir_plain.specs.Tree.{held, no_row, a_row, ret, let_in, exception_in, name_in, Op, use_of, const, con_alone, construct, pack, make_record, prim_alone, app, fn, block, raise, last}
use Rattle.ir_poly.specs.Types.{bool_name, string_name, exn_name}
use Rattle.ir_mono.specs.Types.{Row, Node, node}
use Rattle.ir_mono.specs.Mono.{mono, Mono, Program, meaning}
use Rattle.eta_expand.specs.Expand.{expand, expanded}

abbrev pub row : Node → Row
row n = record { type = n; constructors = []; equality = false }

-- 0 unit, 1 truth values, 2 a datatype of one constructor that takes unit, 3 from unit to it, 4 strings, 5 pairs of strings, 6 from these to strings,
-- 7 exceptions, 8 from unit to them, 9 from strings to unit
abbrev pub types : List Row
types =
    row (node (labels []) []) ∷ row (node (name bool_name) []) ∷ record { type = node (name string_name) []; constructors = (0, Some 0) ∷ []; equality = false }
    ∷ row (node arrow (0 ∷ 2 ∷ [])) ∷ row (node (name string_name) []) ∷ row (node (labels (Number 1 ∷ Number 2 ∷ [])) (4 ∷ 4 ∷ []))
    ∷ row (node arrow (5 ∷ 4 ∷ [])) ∷ row (node (name exn_name) []) ∷ row (node arrow (0 ∷ 7 ∷ [])) ∷ row (node arrow (4 ∷ 0 ∷ [])) ∷ []

abbrev pub at : ℕ → Place
at n = record { file = 0; byte = n }

abbrev pub E : Type 0
E = Mono types

abbrev pub let1 : ℕ → ℕ → Op (mono types) → E → E
let1 x t o e = let_in x tt t o e

abbrev pub of_body : E → Program
of_body e = record { initial = 90 ∷ 91 ∷ 92 ∷ 93 ∷ 94 ∷ 95 ∷ 96 ∷ []; types = types; expansion = 0; body = e }

-- a constructor that is called as a function
abbrev pub constructs : E
constructs = let1 10 3 (con_alone 0 2) (let1 11 0 (make_record 0 no_row) (let1 12 2 (app (at 7) 10 11) (ret 12)))

constructs-expanded : expand types [] 50 constructs ≡ let1 10 3 (fn (last 50 0 (let1 51 2 (construct None 0 2 50) (ret 51)))) (let1 11 0 (make_record 0 no_row) (let1 12 2 (app (at 7) 10 11) (ret 12)))
constructs-expanded = refl

-- a primitive of two strings, and what it gives printed by one of one
abbrev pub joins : E
joins =
    let1 10 6 (prim_alone Concat 4) (let1 11 4 (const (string (104 ∷ []))) (let1 12 4 (const (string (105 ∷ []))) (let1 13 5 (make_record 5 (a_row (Number 1) 11 (a_row (Number 2) 12 no_row)))
    (let1 14 4 (app (at 7) 10 13) (let1 15 9 (prim_alone Print 0) (let1 16 0 (app (at 8) 15 14) (ret 16)))))))

joins-two : meaning (expanded 50 (of_body joins)) 2 ≡ record { output = 104 ∷ 105 ∷ []; end = ended; turns = at 7 ∷ at 8 ∷ [] }
joins-two = refl

joins-same : meaning (expanded 50 (of_body joins)) 2 ≡ meaning (of_body joins) 2
joins-same = refl

-- an exception whose packets are made by a function
abbrev pub raises : E
raises = exception_in 10 77 (Some 0) (let1 11 8 (use_of 10) (let1 12 0 (make_record 0 no_row) (let1 13 7 (app (at 7) 11 12) (let1 14 0 (raise 13) (ret 14)))))

raises-expanded : expand types [] 50 raises ≡ exception_in 10 77 (Some 0)
    (let1 11 8 (block (name_in 50 (held 10) (let1 51 8 (fn (last 52 0 (name_in 53 (held 50) (let1 54 7 (pack None 0 53 52) (ret 54))))) (ret 51))))
    (let1 12 0 (make_record 0 no_row) (let1 13 7 (app (at 7) 11 12) (let1 14 0 (raise 13) (ret 14)))))
raises-expanded = refl

raises-it : meaning (expanded 50 (of_body raises)) 1 ≡ record { output = []; end = uncaught 77; turns = at 7 ∷ [] }
raises-it = refl
