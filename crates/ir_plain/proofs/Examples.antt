-- A small program for each construct, with its outcome at several numbers of turns, by computation.
use Rattle.std.proofs.Common.{◌≡◌, ℕ, List, [], ◌∷◌, Some, None, nat_eq, pos, refl}
use Rattle.std.specs.Prelude.{⊤, if◌then◌else◌}
use Rattle.ir_values.specs.of_mlc_runs.Outcome.{End, ended, uncaught, going, wrong, Outcome}
use Rattle.ir_values.specs.of_mlc_names.declared.label.Label.TheVariants.{Number}
use Rattle.mlc_base.specs.declared.place.Place.{Place}
use Rattle.ir_values.specs.of_mlc_prims.LitOf.{int, string}
use Rattle.ir_values.specs.of_mlc_prims.declared.basis.BasisPrimitive.TheVariants.{Add, Divide, Equals, Assign, Concat, Print}
use Rattle.ir_values.specs.Tags.{Tagging, untagged}
use Rattle.ir_values.specs.Values.{true_number}
use Rattle.ir_plain.specs.Kind.{Kind}
use Rattle.ir_plain.specs.Tree.{is_literal, is_con, is_con_of, is_exn, is_exn_of, is_record, fixed, held, Atoms, no_atoms, an_atom, no_row, a_row, Exp, ret, let_in, exception_in, name_in, rec_in, switch, first, miss, counted, no_arms, arm, Op, use_of, const, con_alone, construct, ref_alone, refer, content, pack, make_record, select, prim_alone, prim, app, fn, block, handle, raise, raise_initial, last, more, no_funs, fun}
use Rattle.ir_plain.specs.Meaning.{run}
use Rattle.ir_plain.specs.Weight.{weight}

-- variables are numbers, types none
abbrev simple : Kind
simple = record { Binder = ℕ; Use = ℕ; Type_of = ⊤; Params_of = ⊤; is_of = nat_eq; tags = untagged; tag_of = λ t. tt }

abbrev E : Type 0
E = Exp simple

abbrev O : Type 0
O = Op simple

abbrev at : ℕ → Place
at n = record { file = 0; byte = n }

-- the identifiers of the initial exceptions
abbrev initial : List ℕ
initial = 90 ∷ 91 ∷ 92 ∷ 93 ∷ 94 ∷ 95 ∷ 96 ∷ []

abbrev does : E → ℕ → Outcome
does e m = run initial e m

abbrev outcome : List ℕ → End → List Place → Outcome
outcome out end turns = record { output = out; end = end; turns = turns }

abbrev let1 : ℕ → O → E → E
let1 x o e = let_in x tt tt o e

abbrev number : ℕ → O
number n = const (int (pos n))

abbrev text : List ℕ → O
text s = const (string s)

abbrev one : ℕ → Atoms simple
one a = an_atom a no_atoms

abbrev two : ℕ → ℕ → Atoms simple
two a b = an_atom a (an_atom b no_atoms)

-- writes one byte
abbrev say : ℕ → ℕ → E → E
say x byte e = let1 x (text (byte ∷ [])) (let1 x (prim None Print tt (one x)) e)

-- constants and primitives; a place takes a turn
prints : does (let1 1 (text (104 ∷ [])) (let1 2 (prim (Some (at 3)) Print tt (one 1)) (ret 2))) 1 ≡ outcome (104 ∷ []) ended (at 3 ∷ [])
prints = refl

prints-not : does (let1 1 (text (104 ∷ [])) (let1 2 (prim (Some (at 3)) Print tt (one 1)) (ret 2))) 0 ≡ outcome [] going []
prints-not = refl

-- a primitive raises an exception of the initial basis
divides : does (let1 1 (number 7) (let1 2 (number 0) (let1 3 (prim None Divide tt (two 1 2)) (ret 3)))) 0 ≡ outcome [] (uncaught 93) []
divides = refl

wrong-operand : does (let1 1 (number 7) (let1 2 (prim None Print tt (one 1)) (ret 2))) 5 ≡ outcome [] wrong []
wrong-operand = refl

unbound : does (ret 1) 5 ≡ outcome [] wrong []
unbound = refl

-- a function is called once, with a turn
abbrev calls : E
calls = let1 1 (fn (last 2 tt (say 3 97 (ret 2)))) (let1 4 (number 1) (let1 5 (app (at 7) 1 4) (ret 5)))

calls-none : does calls 0 ≡ outcome [] going []
calls-none = refl

calls-one : does calls 1 ≡ outcome (97 ∷ []) ended (at 7 ∷ [])
calls-one = refl

-- two parameters, two calls
abbrev curried : E
curried = let1 1 (fn (more 2 tt (last 3 tt (say 4 98 (ret 2))))) (let1 5 (number 1) (let1 6 (app (at 1) 1 5) (let1 7 (app (at 2) 6 5) (ret 7))))

curried-one : does curried 1 ≡ outcome [] going (at 1 ∷ [])
curried-one = refl

curried-two : does curried 2 ≡ outcome (98 ∷ []) ended (at 1 ∷ at 2 ∷ [])
curried-two = refl

-- a group: each function sees all
abbrev loops : E
loops = rec_in tt (fun 1 tt (last 2 tt (let1 3 (use_of 4) (let1 5 (app (at 1) 3 2) (ret 5)))) (fun 4 tt (last 6 tt (say 8 99 (let1 7 (use_of 1) (let1 9 (app (at 2) 7 6) (ret 9))))) no_funs)) (let1 10 (number 0) (let1 11 (use_of 1) (let1 12 (app (at 3) 11 10) (ret 12))))

loops-four : does loops 4 ≡ outcome (99 ∷ 99 ∷ []) going (at 3 ∷ at 1 ∷ at 2 ∷ at 1 ∷ [])
loops-four = refl

-- no function is called
calls-number : does (let1 1 (number 0) (let1 2 (app (at 1) 1 1) (ret 2))) 5 ≡ outcome [] wrong []
calls-number = refl

-- a constructor, a primitive and `ref` are functions
abbrev built : E → E
built e = let1 1 (con_alone 9 tt) (let1 2 (number 5) (let1 3 (app (at 1) 1 2) e))

constructs : does (built (first (switch 3 tt (arm (is_con_of 8 4 tt) miss (arm (is_con_of 9 5 tt) (say 6 100 (ret 5)) no_arms))) (ret 3))) 1 ≡ outcome (100 ∷ []) ended (at 1 ∷ [])
constructs = refl

constructs-not : does (built (ret 3)) 0 ≡ outcome [] going []
constructs-not = refl

primitive-alone : does (let1 1 (prim_alone Add tt) (let1 2 (number 5) (let1 3 (make_record tt (a_row (Number 1) 2 (a_row (Number 2) 2 no_row))) (let1 4 (app (at 1) 1 3)
    (let1 5 (number 10) (let1 6 (prim None Equals tt (two 4 5)) (switch 6 tt (arm (is_con true_number) (say 7 101 (ret 4)) no_arms)))))))) 1 ≡ outcome (101 ∷ []) ended (at 1 ∷ [])
primitive-alone = refl

ref-alone : does (let1 1 (ref_alone tt) (let1 2 (text (102 ∷ [])) (let1 3 (app (at 1) 1 2) (let1 4 (content tt 3) (let1 5 (prim None Print tt (one 4)) (ret 5)))))) 1 ≡ outcome (102 ∷ []) ended (at 1 ∷ [])
ref-alone = refl

-- references
abbrev refers : E
refers = let1 1 (text (103 ∷ [])) (let1 2 (refer (Some (at 4)) tt 1) (let1 3 (text (104 ∷ [])) (let1 4 (prim (Some (at 5)) Assign tt (two 2 3)) (let1 5 (content tt 2) (let1 6 (prim None Print tt (one 5)) (ret 6))))))

refers-two : does refers 2 ≡ outcome (104 ∷ []) ended (at 4 ∷ at 5 ∷ [])
refers-two = refl

refers-one : does refers 1 ≡ outcome [] going (at 4 ∷ [])
refers-one = refl

-- what misses goes to the nearest `first`; a block doesn't miss, nor does a program
misses : does (first (first (say 1 97 miss) (say 2 98 miss)) (say 3 99 (let1 4 (number 0) (ret 4)))) 0 ≡ outcome (97 ∷ 98 ∷ 99 ∷ []) ended []
misses = refl

no-miss : does (first (let1 1 (block miss) (ret 1)) (let1 2 (number 0) (ret 2))) 0 ≡ outcome [] wrong []
no-miss = refl

no-arm : does (let1 1 (number 4) (first (switch 1 tt (arm (is_literal (int (pos 3))) (say 2 97 (ret 1)) no_arms)) (say 3 98 (ret 1)))) 0 ≡ outcome (98 ∷ []) ended []
no-arm = refl

-- what an arm binds is gone in the next one
arm-leaves : does (let1 1 (number 4) (let1 2 (construct None 9 tt 1) (first (first (switch 2 tt (arm (is_con_of 9 3 tt) miss no_arms)) (ret 3)) (ret 1)))) 0 ≡ outcome [] wrong []
arm-leaves = refl

-- the first arm that fits
first-arm : does (let1 1 (text (1 ∷ 2 ∷ [])) (first (switch 1 tt (arm (is_literal (string (1 ∷ 2 ∷ []))) (say 2 97 (ret 1)) (arm (is_literal (string (1 ∷ 2 ∷ []))) (say 3 98 (ret 1)) no_arms))) (ret 1))) 0 ≡ outcome (97 ∷ []) ended []
first-arm = refl

-- exceptions: made, packed, raised, told apart by name
abbrev raises-one : E → E
raises-one h = exception_in 1 70 (Some tt) (exception_in 2 71 None (let1 3 (text (105 ∷ [])) (let1 4 (handle (let1 5 (pack (Some (at 6)) tt 1 3) (let1 6 (raise 5) (ret 6))) 7 h) (ret 4))))

handled : does (raises-one (first (switch 7 tt (arm (is_exn 2) (ret 3) (arm (is_exn_of 1 8 tt) (let1 9 (prim None Print tt (one 8)) (ret 9)) no_arms))) (let1 10 (raise 7) (ret 10)))) 1 ≡ outcome (105 ∷ []) ended (at 6 ∷ [])
handled = refl

goes-on : does (raises-one (first (switch 7 tt (arm (is_exn 2) (ret 3) no_arms)) (let1 10 (raise 7) (ret 10)))) 1 ≡ outcome [] (uncaught 70) (at 6 ∷ [])
goes-on = refl

-- a handler is none for want of turns
going-stays : does (raises-one (say 8 97 (ret 7))) 0 ≡ outcome [] going []
going-stays = refl

-- an exception of the initial basis
initial-raised : does (let1 1 (raise_initial 1) (ret 1)) 0 ≡ outcome [] (uncaught 91) []
initial-raised = refl

initial-handled : does (let1 1 (handle (let1 2 (number 1) (let1 3 (number 0) (let1 4 (prim None Divide tt (two 2 3)) (ret 4)))) 5 (name_in 6 (fixed 3) (switch 5 tt (arm (is_exn 6) (say 7 106 (ret 5)) no_arms)))) (ret 1)) 0 ≡ outcome (106 ∷ []) ended []
initial-handled = refl

-- an exception's value, also alone
raised-alone : does (exception_in 1 70 None (let1 2 (use_of 1) (let1 3 (raise 2) (ret 3)))) 0 ≡ outcome [] (uncaught 70) []
raised-alone = refl

no-exception : does (let1 1 (number 1) (let1 2 (raise 1) (ret 2))) 0 ≡ outcome [] wrong []
no-exception = refl

-- two names of one binding are two exceptions
made-twice : does (let1 1 (fn (last 2 tt (exception_in 3 70 None (let1 4 (use_of 3) (ret 4))))) (let1 5 (app (at 1) 1 1) (let1 6 (app (at 2) 1 1) (name_in 7 (held 5) (first (switch 6 tt (arm (is_exn 7) (say 8 97 (ret 6)) no_arms)) (say 9 98 (ret 6))))))) 2 ≡ outcome (98 ∷ []) ended (at 1 ∷ at 2 ∷ [])
made-twice = refl

-- records
selects : does (let1 1 (text (97 ∷ [])) (let1 2 (text (98 ∷ [])) (let1 3 (make_record tt (a_row (Number 1) 1 (a_row (Number 2) 2 no_row))) (let1 4 (select tt (Number 2) 3) (let1 5 (prim None Print tt (one 4)) (ret 5)))))) 0 ≡ outcome (98 ∷ []) ended []
selects = refl

fields-counted : does (let1 1 (make_record tt no_row) (switch 1 tt (arm (is_record (Some 1)) (ret 1) no_arms))) 0 ≡ outcome [] wrong []
fields-counted = refl

-- a primitive's arguments, in order
concatenates : does (let1 1 (text (97 ∷ [])) (let1 2 (text (98 ∷ [])) (let1 3 (prim None Concat tt (two 1 2)) (let1 4 (prim None Print tt (one 3)) (ret 4))))) 0 ≡ outcome (97 ∷ 98 ∷ []) ended []
concatenates = refl

-- weights mean nothing, and are added up
weighs : does (counted 3 (let1 1 (block (counted 4 (let1 2 (number 0) (ret 2)))) (counted 1 (ret 1)))) 0 ≡ outcome [] ended []
weighs = refl

weight-is : weight {F = simple} (counted 3 (let1 1 (block (counted 4 (let1 2 (number 0) (ret 2)))) (counted 1 (ret 1)))) ≡ 8
weight-is = refl

-- With tags: a type is a number, and what was made at one can't be taken apart at another.

abbrev numbered : Tagging
numbered = record {
  Tag = ℕ;
  same = nat_eq;
  of_unit = 0;
  of_bool = 6;
  has_literal = λ t l. nat_eq t 1;
  has_references = λ t. nat_eq t 4;
  field = λ t l. if nat_eq t 10 then Some 1 else None;
  argument = λ t c. None;
}

abbrev typed : Kind
typed = record { Binder = ℕ; Use = ℕ; Type_of = ℕ; Params_of = ⊤; is_of = nat_eq; tags = numbered; tag_of = λ t. t }

abbrev tagged : ℕ → Exp typed
tagged t = let_in 1 tt 1 (const (int (pos 5))) (let_in 2 tt 10 (make_record 10 (a_row (Number 1) 1 no_row)) (let_in 3 tt 1 (select t (Number 1) 2) (ret 3)))

taken-apart : run initial (tagged 10) 0 ≡ outcome [] ended []
taken-apart = refl

taken-apart-elsewhere : run initial (tagged 11) 0 ≡ outcome [] wrong []
taken-apart-elsewhere = refl

abbrev compared : ℕ → Exp typed
compared t = let_in 1 tt 1 (const (int (pos 5))) (let_in 2 tt 10 (make_record 10 (a_row (Number 1) 1 no_row)) (let_in 3 tt 6 (prim None Equals t (an_atom 2 (an_atom 2 no_atoms))) (switch 3 6 (arm (is_con true_number) (ret 3) no_arms))))

compared-at : run initial (compared 10) 0 ≡ outcome [] ended []
compared-at = refl

compared-elsewhere : run initial (compared 11) 0 ≡ outcome [] wrong []
compared-elsewhere = refl

abbrev held-in : ℕ → Exp typed
held-in t = let_in 1 tt 1 (const (int (pos 5))) (let_in 2 tt 4 (refer None 1 1) (let_in 3 tt 1 (content t 2) (ret 3)))

content-at : run initial (held-in 1) 0 ≡ outcome [] ended []
content-at = refl

content-elsewhere : run initial (held-in 2) 0 ≡ outcome [] wrong []
content-elsewhere = refl
