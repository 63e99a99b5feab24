-- Worked examples of statics: what makes a scheme more general, `+` of environments and bases, and which type functions admit equality.
use Rattle.std.proofs.Common.{◌≡◌, ℕ, Bool, true, false, [], ◌∷◌, Some, None, refl, sym, ap, ◌∙◌, arith}
use Rattle.mlc_names.specs.declared.label.Label.TheVariants.{Number}
use Rattle.ty_basis.specs.of_ty_core.Types.{Symbol, Typ, var, con, none, more, arrow, labels, name, admits, no_variable}
use Rattle.ty_basis.specs.of_ty_core.Statics.{TypeFunction, function_admits, named}
use Rattle.ty_basis.specs.of_ty_core.declared.name.TyName.{TyName}
use Rattle.ty_basis.specs.of_ty_core.declared.name.Equality.TheVariants.{Always, ByArguments, Never}
use Rattle.ty_basis.specs.of_ty_core.declared.mark.Mark.TheVariants.{Any, Equality}
use Rattle.ty_basis.specs.of_ty_core.declared.env.Status.TheVariants.{Variable}
use Rattle.sml_tree.specs.Fixity.{fix_of}
use Rattle.sml_tree.specs.declared.fixity.Infix.{Infix}
use Rattle.sml_tree.specs.declared.fixity.Directive.{Directive}
use Rattle.sml_tree.specs.declared.ident.Vid.TheVariants.{Named, Equals, Fresh}
use Rattle.core_rules.specs.Bases.{Signature, Functor, Basis, no_basis, plus_basis}
use Rattle.core_rules.specs.Objects.{Scheme, monomorphic, Value, Env, env, no_structures, structure, plus, long_value_in}
use Rattle.core_rules.specs.Principal.{Generalises}

abbrev int : Typ
int = con (name (record { stamp = 0; arity = 0; equality = Always })) none

abbrev string : Typ
string = con (name (record { stamp = 3; arity = 0; equality = Always })) none

abbrev to : Typ → Typ → Typ
to t u = con arrow (more t (more u none))

abbrev pair : Typ → Typ → Typ
pair t u = con (labels (Number 1 ∷ Number 2 ∷ [])) (more t (more u none))

-- More general schemes.

-- 'a -> 'a, ''a -> ''a, and 'a -> 'b with 'b free, the variable 6
abbrev any : Scheme
any = record { marks = Any ∷ []; body = to (var 0) (var 0) }

abbrev equality : Scheme
equality = record { marks = Equality ∷ []; body = to (var 0) (var 0) }

abbrev half : Scheme
half = record { marks = Any ∷ []; body = to (var 0) (var 7) }

abbrev IsMoreGeneral : Scheme → Scheme → Type 0
IsMoreGeneral s r = (t : Typ) → Generalises r t → Generalises s t

any_over_equality : IsMoreGeneral any equality
any_over_equality t g = record { types = g.types; allowed = (tt, tt); is = g.is }

any_over_int : IsMoreGeneral any (monomorphic (to int int))
any_over_int t g = record { types = λ v. int; allowed = (tt, tt); is = g.is }

-- the type of functions is one that 'a may stand for, and ''a may not
functions : Generalises any (to (to int int) (to int int))
functions = record { types = λ v. to int int; allowed = (tt, tt); is = refl }

equality_not_over_any : IsMoreGeneral equality any → ⊥
equality_not_over_any h =
    let g = h (to (to int int) (to int int)) functions in
    let same : g.types 0 ≡ to int int = let e : to (to int int) (to int int) ≡ to (g.types 0) (g.types 0) = g.is in cc in
    let no : false ≡ true = sym (ap (admits no_variable) same) ∙ g.allowed.0 in cc

abbrev symbol_stamp : Symbol → ℕ
symbol_stamp (name n) = n.stamp
symbol_stamp _ = 0

abbrev type_stamp : Typ → ℕ
type_stamp (con k ts) = symbol_stamp k
type_stamp _ = 0

abbrev is_con : Typ → Bool
is_con (con k ts) = true
is_con (var v) = false

-- one variable stands for one type, and a free one for itself
two_types : Generalises any (to int string) → ⊥
two_types g =
    let e : to int string ≡ to (g.types 0) (g.types 0) = g.is in
    let same : int ≡ string = cc in
    let no : 0 ≡ 3 = ap type_stamp same in absurd (omega (arith, no))

free_stays : Generalises half (to int (var 6))
free_stays = record { types = λ v. int; allowed = (tt, tt); is = refl }

free_is_itself : Generalises half (to int int) → ⊥
free_is_itself g =
    let e : to int int ≡ to (g.types 0) (var 6) = g.is in
    let same : int ≡ var 6 = cc in
    let no : true ≡ false = ap is_con same in cc

-- Environments and bases: what is said again has its new meaning in its old place, and what is new comes last.

abbrev at_type : Typ → Value
at_type t = record { scheme = monomorphic t; status = Variable }

-- val x = 1 val y = 2, and then val z = "" val x = ""
abbrev first : Env
first = env ((Named 1, at_type int) ∷ (Named 2, at_type int) ∷ []) [] no_structures

abbrev second : Env
second = env ((Named 3, at_type string) ∷ (Named 1, at_type string) ∷ []) [] no_structures

both_in_order : plus first second ≡ env ((Named 1, at_type string) ∷ (Named 2, at_type int) ∷ (Named 3, at_type string) ∷ []) [] no_structures
both_in_order = refl

-- an identifier of a program, `=` and one of a derived form are three
kinds : plus (env ((Named 1, at_type int) ∷ []) [] no_structures) (env ((Fresh 1, at_type string) ∷ (Equals, at_type string) ∷ []) [] no_structures)
    ≡ env ((Named 1, at_type int) ∷ (Fresh 1, at_type string) ∷ (Equals, at_type string) ∷ []) [] no_structures
kinds = refl

-- structure S (named 7) with `first` in it, shadowed by one with `second`: S.x, S.y and T.x
abbrev outer : Env
outer = plus (env [] [] (structure 7 first no_structures)) (env [] [] (structure 7 second no_structures))

new_x : long_value_in outer (record { qualifiers = 7 ∷ []; vid = Named 1 }) ≡ Some (at_type string)
new_x = refl

no_y : long_value_in outer (record { qualifiers = 7 ∷ []; vid = Named 2 }) ≡ None
no_y = refl

no_structure : long_value_in outer (record { qualifiers = 8 ∷ []; vid = Named 1 }) ≡ None
no_structure = refl

abbrev sig_of : Env → Signature
sig_of e = record { flexible = []; body = e }

abbrev left : ℕ → Infix
left n = record { precedence = n; right = false }

abbrev right : ℕ → Infix
right n = record { precedence = n; right = true }

abbrev maker : Functor
maker = record { parameter = sig_of first; result = sig_of second }

-- infix 6 a, infix 4 =, and then nonfix a, infixr 5 b
abbrev earlier : Basis
earlier = record {
  body = first;
  signatures = (20, sig_of first) ∷ [];
  functors = [];
  fixities = record { vid = Equals; status = Some (left 4) } ∷ record { vid = Named 1; status = Some (left 6) } ∷ [];
}

abbrev later : Basis
later = record {
  body = second;
  signatures = (21, sig_of first) ∷ (20, sig_of second) ∷ [];
  functors = (30, maker) ∷ [];
  fixities = record { vid = Named 2; status = Some (right 5) } ∷ record { vid = Named 1; status = None } ∷ [];
}

abbrev both : Basis
both = plus_basis earlier later

both_bodies : both.body ≡ plus first second
both_bodies = refl

both_signatures : both.signatures ≡ (20, sig_of second) ∷ (21, sig_of first) ∷ []
both_signatures = refl

both_functors : both.functors ≡ (30, maker) ∷ []
both_functors = refl

both_fixities : (fix_of (Named 1) both.fixities ≡ None) × (fix_of (Named 2) both.fixities ≡ Some (right 5)) × (fix_of Equals both.fixities ≡ Some (left 4))
both_fixities = (refl, refl, refl)

nothing_first : plus_basis no_basis later ≡ later
nothing_first = refl

nothing_then : plus_basis later no_basis ≡ later
nothing_then = refl

-- Type functions that admit equality: parameters and records of them, and whatever is behind a reference; no functions, no packets, no variables but the parameters.

abbrev of : ℕ → Typ → TypeFunction
of n t = record { arity = n; body = t }

abbrev list : TyName
list = record { stamp = 6; arity = 1; equality = ByArguments }

abbrev reference : TyName
reference = record { stamp = 7; arity = 1; equality = Always }

abbrev packet : TyName
packet = record { stamp = 8; arity = 0; equality = Never }

admit : (function_admits (of 1 (var 0)) ≡ true) × (function_admits (of 2 (pair (var 1) (var 0))) ≡ true) × (function_admits (of 0 (con (name reference) (more (to int int) none))) ≡ true) × (function_admits (named reference) ≡ true)
admit = (refl, refl, refl, refl)

admit_not : (function_admits (of 0 (con (name list) (more (to int int) none))) ≡ false) × (function_admits (of 1 (pair (var 0) (to int int))) ≡ false) × (function_admits (named packet) ≡ false)
admit_not = (refl, refl, refl)

free_admits_not : (function_admits (of 0 (var 0)) ≡ false) × (function_admits (of 1 (pair (var 0) (var 1))) ≡ false)
free_admits_not = (refl, refl)
