-- What is claimed of the parts: their answers together are the answer for the whole.
use Rattle.std.specs.Prelude.{◌≡◌, ℕ, Bool, true, ◌&&◌, List, [], ◌∷◌, ◌++◌, map, Vec, Box}
use Rattle.std.specs.Global.{Global}
use Rattle.mlc_names.specs.declared.label.Label.{Label}
use Rattle.mlc_base.specs.declared.place.Place.{Place}
use Rattle.ty_core.specs.Types.{Typ}
use Rattle.ty_core.specs.declared.scheme.Quantified.{Quantified}
use Rattle.ty_table.specs.TypeAt.{type_at}
use Rattle.ir_poly.specs.Prog as tree
use Rattle.ir_poly.specs.ProgChecked.{funs_onto}
use Rattle.ir_poly.specs.Types.{of_name, bool_name, row_type, labels_in, ascend, sorted, over, are_new}
use Rattle.ir_poly.specs.TestsChecked.{Knowns, own}
use Rattle.ir_tables.specs.declared.tables.Tables.{Tables}
use Rattle.ir_tables.specs.Tables.{parameters_of, parameters_at}
use Rattle.prog_check.specs.Same.{same_type}
use Rattle.prog_check.specs.Checking.{check_rules, check_fun, check_decs, check_funs, decs_onto}
use Rattle.prog_known.specs.Environments.{table_in}
use Rattle.prog_known.specs.Lists.{run, hold, all_hold}
use Rattle.prog_tree.specs.Readings.{reading}
use Rattle.prog_tree.specs.TreeOf.{dec_of, decs_of, rule_of, rules_of, funs_by, fun_of, after_parameters}
use Rattle.prog_tree.specs.declared.tree.Binding.{Binding}
use Rattle.prog_tree.specs.declared.tree.Dec.{Dec}
use Rattle.prog_tree.specs.declared.tree.Dec.TheVariants as decs
use Rattle.prog_tree.specs.declared.tree.Exp.{Exp}
use Rattle.prog_tree.specs.declared.tree.Exp.TheVariants as exps
use Rattle.prog_tree.specs.declared.tree.Function.{Function}
use Rattle.prog_tree.specs.declared.tree.Head.{Head}
use Rattle.prog_tree.specs.declared.tree.Join.{Join}
use Rattle.prog_tree.specs.declared.tree.Parameter.{Parameter}
use Rattle.prog_tree.specs.declared.tree.Pat.{Pat}
use Rattle.prog_tree.specs.declared.tree.Pat.TheVariants as patterns
use Rattle.prog_tree.specs.declared.tree.PatField.{PatField}
use Rattle.prog_tree.specs.declared.tree.PatPart.{PatPart}
use Rattle.prog_tree.specs.declared.tree.Rule.{Rule}
use Rattle.prog_tree.specs.declared.tree.Side.{Side}
use Rattle.prog_binds.specs.Chains.{first_type}
use Rattle.prog_parts.specs.Patterns.{next_part, size_if, has_size, pat_holds, head_fits, field_holds as pat_field_holds, part_holds}
use Rattle.prog_parts.specs.Expressions.{type_in, join_next, argument_next, parameter_onto, exp_holds, field_holds, argument_holds, join_holds, dropped_holds, last_holds, operand_holds, rule_holds, member_holds, plain_holds, inner_holds, parameter_holds, tree_holds, dec_holds, dec_onto, dec_step}

-- what stands before an argument, and the argument
abbrev pub HeadsDecide : Type 0
HeadsDecide =
    (t : Tables) (D : List Quantified) (G : Knowns) (h : Head) (a : ℕ) (p : Box Pat Global) (u : ℕ)
    → pat_holds t D G (patterns.Before h a p) u
    ≡ (head_fits t D G h (type_at t.types a) (type_at t.types u) && (over D (type_at t.types a) && pat_holds t D G p.value a))

-- each field, and how many there are
abbrev pub RecordPatternsDecide : Type 0
RecordPatternsDecide =
    (t : Tables) (D : List Quantified) (G : Knowns) (b : Bool) (fs : Vec PatField Global) (u : ℕ)
    → pat_holds t D G (patterns.Record b fs) u ≡ (all_hold (pat_field_holds t D G u) fs.items && has_size (size_if b fs.items) (type_at t.types u))

-- the first operand, and each part of the chain
abbrev pub ChainsDecide : Type 0
ChainsDecide =
    (t : Tables) (D : List Quantified) (G : Knowns) (s : Side) (p : Box Pat Global) (js : Vec PatPart Global) (u : ℕ)
    → pat_holds t D G (patterns.Chain s p js) u ≡ (pat_holds t D G p.value (first_type u js.items) && hold (part_holds t D G s) (next_part s) u js.items)

-- each field, the labels, of which none is there twice, and the type of the record, in the order of its labels
abbrev pub RecordsDecide : Type 0
RecordsDecide =
    (t : Tables) (D : List Quantified) (G : Knowns) (a : ℕ) (fs : Vec (Label × Exp) Global)
    → exp_holds t D G (exps.Record a fs)
    ≡ (all_hold (field_holds t D G) fs.items
    && (ascend (labels_in (sorted (map (λ f. (f.0, type_in t f.1)) fs.items)))
    && same_type (type_at t.types a) (row_type (sorted (map (λ f. (f.0, type_in t f.1)) fs.items)))))

-- the function, and each argument
abbrev pub ApplicationsDecide : Type 0
ApplicationsDecide =
    (t : Tables) (D : List Quantified) (G : Knowns) (p : Place) (f : Box Exp Global) (as_ : Vec (ℕ × Exp) Global)
    → exp_holds t D G (exps.Apply p f as_) ≡ (exp_holds t D G f.value && hold (argument_holds t D G) (argument_next t) (type_in t f.value) as_.items)

-- the first operand, and each operator with its right operand
abbrev pub OperatorsDecide : Type 0
OperatorsDecide =
    (t : Tables) (D : List Quantified) (G : Knowns) (s : Side) (e : Box Exp Global) (js : Vec (Join × Exp × Exp) Global)
    → exp_holds t D G (exps.Infix s e js) ≡ (exp_holds t D G e.value && hold (join_holds t D G s) (join_next t s) (type_in t e.value) js.items)

-- what is dropped, and the last
abbrev pub SequencesDecide : Type 0
SequencesDecide =
    (t : Tables) (D : List Quantified) (G : Knowns) (p : Place) (a : ℕ) (es : Vec Exp Global) (e : Box Exp Global)
    → exp_holds t D G (exps.Sequence p a es e) ≡ (all_hold (dropped_holds t D G) es.items && last_holds t D G a es.items e.value)

-- each operand, and the type
abbrev pub TestsDecide : Type 0
TestsDecide =
    (t : Tables) (D : List Quantified) (G : Knowns) (b : Bool) (a : ℕ) (es : Vec Exp Global) (e : Box Exp Global)
    → exp_holds t D G (exps.Test b a es e)
    ≡ ((all_hold (operand_holds t D G) es.items && operand_holds t D G e.value) && same_type (type_at t.types a) (of_name bool_name))

-- what is matched, and each rule
abbrev pub CasesDecide : Type 0
CasesDecide =
    (t : Tables) (D : List Quantified) (G : Knowns) (p : Place) (a : ℕ) (e : Box Exp Global) (rs : Vec Rule Global)
    → exp_holds t D G (exps.Case p a e rs)
    ≡ (exp_holds t D G e.value && (over D (type_in t e.value) && all_hold (rule_holds t D G (type_in t e.value) (type_at t.types a)) rs.items))

-- each rule
abbrev pub RulesDecide : Type 0
RulesDecide =
    (t : Tables) (D : List Quantified) (G : Knowns) (u w : Typ) (rs : List Rule)
    → check_rules (table_in t) D G (rules_of (map (rule_of (reading t)) rs)) u w ≡ all_hold (rule_holds t D G u w) rs

-- each function of a group
abbrev pub MembersDecide : Type 0
MembersDecide =
    (t : Tables) (D : List Quantified) (G : Knowns) (fs : List (Vec ℕ Global × ℕ × Function))
    → check_funs (table_in t) D G (funs_by (type_at t.types) (map (fun_of (reading t)) fs)) ≡ all_hold (member_holds t D G) fs

-- each parameter, and the function of the last one with the others in scope
abbrev pub ParametersDecide : Type 0
ParametersDecide =
    (t : Tables) (D : List Quantified) (G : Knowns) (xs : List Parameter) (f : tree.Fun)
    → check_fun (table_in t) D G (after_parameters (reading t) xs f)
    ≡ (all_hold (parameter_holds t D G) xs && check_fun (table_in t) D (run (parameter_onto t) xs G) f)

-- each declaration, with those before it in scope
abbrev pub DeclarationsDecide : Type 0
DeclarationsDecide =
    (t : Tables) (D : List Quantified) (G : Knowns) (ds : List Dec)
    → check_decs (table_in t) D G (decs_of (map (dec_of (reading t)) ds)) ≡ hold (dec_holds t D) (dec_onto t) G ds

-- what is known after declarations
abbrev pub DeclarationsRun : Type 0
DeclarationsRun =
    (t : Tables) (D : List Quantified) (G : Knowns) (ds : List Dec) → decs_onto (decs_of (map (dec_of (reading t)) ds)) G ≡ run (dec_step t) ds G

-- the parameters; of bindings what is asked before the parameters are in scope, and what inside; and each function
abbrev pub GroupsDecide : Type 0
GroupsDecide =
    (t : Tables) (D : List Quantified) (G : Knowns) (ps : ℕ) (bs : Vec (Binding × Rule) Global) (fs : Vec (Vec ℕ Global × ℕ × Function) Global)
    → tree_holds t D G (dec_of (reading t) (decs.Val ps bs fs))
    ≡ (are_new (parameters_at (parameters_of t) ps) D
    && ((all_hold (plain_holds t D G) bs.items && all_hold (inner_holds t (parameters_at (parameters_of t) ps ++ D) G) bs.items)
    && all_hold (member_holds t (parameters_at (parameters_of t) ps ++ D)
    (funs_onto own (funs_by (type_at t.types) (map (fun_of (reading t)) fs.items)) G)) fs.items))
