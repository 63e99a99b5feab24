-- Small programs in simple types, by computation: each value keeps the number of its type, and what was made at one type goes wrong at another.
use Rattle.std.proofs.Common.{◌≡◌, ℕ, List, [], ◌∷◌, Some, None, true, false, pos, refl}
use Rattle.ir_poly.specs.of_mlc_runs.Outcome.{End, ended, wrong, Outcome}
use Rattle.ir_poly.specs.of_mlc_names.declared.label.Label.TheVariants.{Number}
use Rattle.ir_poly.specs.of_mlc_prims.LitOf.{int}
use Rattle.ir_poly.specs.of_mlc_prims.declared.basis.BasisPrimitive.TheVariants.{Equals}
use Rattle.ir_poly.specs.of_ty_core.Types.{labels, name}
use Rattle.ir_poly.specs.of_ir_values.Values.{literal, con, con_of, record_of, no_fields, field, nil_number, cons_number}
use Rattle.ir_poly.specs.of_ir_values.Equality.{same_at}
use Rattle.ir_poly.specs.of_ir_plain.Tree.{is_con, no_atoms, an_atom, no_row, a_row, ret, let_in, switch, first, no_arms, arm, Op, const, con_alone, content, refer, make_record, select, prim}
use Rattle.ir_poly.specs.of_ir_plain.Meaning.{V, run}
use Rattle.ir_poly.specs.Types.{bool_name, int_name, exn_name, list_name}
use Rattle.ir_mono.specs.Types.{Row, node, by_number}
use Rattle.ir_mono.specs.Mono.{mono, Mono}

-- unit, bool, int, {1 : int}, {1 : int, 2 : int}, exn, int list, and what `::` has as its argument
abbrev types : List Row
types =
    record { type = node (labels []) []; constructors = []; equality = true }
    ∷ record { type = node (name bool_name) []; constructors = (0, None) ∷ (1, None) ∷ []; equality = true }
    ∷ record { type = node (name int_name) []; constructors = []; equality = true }
    ∷ record { type = node (labels (Number 1 ∷ [])) (2 ∷ []); constructors = []; equality = true }
    ∷ record { type = node (labels (Number 1 ∷ Number 2 ∷ [])) (2 ∷ 2 ∷ []); constructors = []; equality = true }
    ∷ record { type = node (name exn_name) []; constructors = []; equality = false }
    ∷ record { type = node (name list_name) (2 ∷ []); constructors = (nil_number, None) ∷ (cons_number, Some 7) ∷ []; equality = true }
    ∷ record { type = node (labels (Number 1 ∷ Number 2 ∷ [])) (2 ∷ 6 ∷ []); constructors = []; equality = true } ∷ []

abbrev E : Type 0
E = Mono types

abbrev initial : List ℕ
initial = 90 ∷ 91 ∷ 92 ∷ 93 ∷ 94 ∷ 95 ∷ 96 ∷ []

abbrev does : E → Outcome
does e = run initial e 5

abbrev outcome : End → Outcome
outcome end = record { output = []; end = end; turns = [] }

abbrev let1 : ℕ → ℕ → Op (mono types) → E → E
let1 x t o e = let_in x tt t o e

-- {1 = 3}, and its field
abbrev field_at : ℕ → E
field_at t = let1 1 2 (const (int (pos 3))) (let1 2 3 (make_record 3 (a_row (Number 1) 1 no_row)) (let1 3 2 (select t (Number 1) 2) (ret 3)))

taken-apart : does (field_at 3) ≡ outcome ended
taken-apart = refl

taken-apart-at-another-type : does (field_at 4) ≡ outcome wrong
taken-apart-at-another-type = refl

matched-at-another-type : does (let1 1 1 (con_alone 1 1) (first (switch 1 6 (arm (is_con 1) (ret 1) no_arms)) (ret 1))) ≡ outcome wrong
matched-at-another-type = refl

-- what a reference to an integer holds, read as a truth value
read-at-another-type : does (let1 1 2 (const (int (pos 3))) (let1 2 2 (refer None 2 1) (let1 3 1 (content 1 2) (ret 3)))) ≡ outcome wrong
read-at-another-type = refl

abbrev v : ℕ → V (mono types)
v n = literal (int (pos n))

abbrev nil : V (mono types)
nil = con 6 nil_number

abbrev cons : V (mono types) → V (mono types) → V (mono types)
cons a l = con_of 6 cons_number (record_of 7 (field (Number 1) a (field (Number 2) l no_fields)))

-- equality goes down by the type: of lists, as far as both go
equal-lists : same_at (by_number types) 6 (cons (v 1) (cons (v 2) nil)) (cons (v 1) (cons (v 2) nil)) ≡ Some true
equal-lists = refl

different-lists : same_at (by_number types) 6 (cons (v 1) nil) (cons (v 1) (cons (v 2) nil)) ≡ Some false
different-lists = refl

-- values of another type have no equality
equal-at-another-type : same_at (by_number types) 4 nil nil ≡ None
equal-at-another-type = refl

-- [1] = [], as a truth value that is matched
compares : does (let1 1 6 (con_alone nil_number 6) (let1 2 1 (prim None Equals 6 (an_atom 1 (an_atom 1 no_atoms))) (first (switch 2 1 (arm (is_con 1) (ret 1) no_arms)) (ret 2)))) ≡ outcome ended
compares = refl
