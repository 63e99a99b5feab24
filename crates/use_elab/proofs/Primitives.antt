-- Types of primitives with the program's numbers of type names.
use Rattle.std.proofs.Common.{◌≡◌, ◌≤◌, ℕ, zero, suc, Bool, true, ◌&&◌, nat_lt, refl, ap, ap₂, ◌∙◌}
use Rattle.std.proofs.lemmas.Bool.{and_parts}
use Rattle.mlc_prims.specs.declared.basis.BasisPrimitive.{BasisPrimitive}
use Rattle.mlc_prims.specs.declared.basis.BasisPrimitive.TheVariants.{Add, Subtract, Multiply, Divide, Modulo, Negate, Absolute, Less, LessEqual, Greater, GreaterEqual, Equals, Assign, Quotient, Remainder, BitsAnd, BitsOr, BitsXor, BitsNot, ShiftLeft, ShiftRight, ShiftSigned, ToInt, ToIntSigned, FromInt, CharCode, CharOf, TextOf, SizeOf, CharAt, PartOf, Concat, StringOf, Print}
use Rattle.ty_core.specs.Types.{Typ, Typs, Symbol, var, con, arrow, labels, name, none, more}
use Rattle.ty_core.specs.Marks.{Allows, has}
use Rattle.ty_core.specs.Statics.{replace}
use Rattle.ty_core.specs.declared.mark.Class.{Class as ClassOf}
use Rattle.ty_core.specs.declared.mark.Mark.{Mark}
use Rattle.ty_core.specs.declared.mark.Mark.TheVariants.{Any, Equality, Class}
use Rattle.ty_basis.specs.Types.{name_count, function_type}
use Rattle.ty_basis.specs.Primitives.{primitive_type}
use Rattle.core_rules.specs.Objects.{Over, AllOver, SymbolOver}
use Rattle.ir_poly.specs.Types.{tuple_type, arguments_at, result_at}
use Rattle.elab_context.specs.of_elab_typed.Numbers.{type_as, types_as, KeepsInitial}
use Rattle.elab_context.proofs.of_elab_typed.Names.{replace-as, admits-as, of_name-kept, type-agrees}
use Rattle.elab_context.proofs.of_elab_steps.Growing.{over-up}

-- type names of a type, by a test

abbrev symbol_in : ℕ → Symbol → Bool
symbol_in n arrow = true
symbol_in n (labels ls) = true
symbol_in n (name y) = nat_lt y.stamp n

abbrev mutual
  names_in : ℕ → Typ → Bool
  names_in n (var v) = true
  names_in n (con h ts) = symbol_in n h && all_names_in n ts

  all_names_in : ℕ → Typs → Bool
  all_names_in n none = true
  all_names_in n (more t ts) = names_in n t && all_names_in n ts

symbol-over : (n : ℕ) (h : Symbol) → symbol_in n h ≡ true → SymbolOver n h
symbol-over n arrow e = tt
symbol-over n (labels ls) e = tt
symbol-over n (name y) e = e

mutual
  type-over : (n : ℕ) (t : Typ) → names_in n t ≡ true → Over n t
  type-over n (var v) e = tt
  type-over n (con h ts) e = let p = and_parts (symbol_in n h) (all_names_in n ts) e in (symbol-over n h p.0, types-over n ts p.1)

  types-over : (n : ℕ) (ts : Typs) → all_names_in n ts ≡ true → AllOver n ts
  types-over n none e = tt
  types-over n (more t ts) e = let p = and_parts (names_in n t) (all_names_in n ts) e in (type-over n t p.0, types-over n ts p.1)

named : (p : BasisPrimitive) → names_in 8 (primitive_type p) ≡ true
named Add = refl
named Subtract = refl
named Multiply = refl
named Divide = refl
named Modulo = refl
named Negate = refl
named Absolute = refl
named Less = refl
named LessEqual = refl
named Greater = refl
named GreaterEqual = refl
named Equals = refl
named Assign = refl
named Quotient = refl
named Remainder = refl
named BitsAnd = refl
named BitsOr = refl
named BitsXor = refl
named BitsNot = refl
named ShiftLeft = refl
named ShiftRight = refl
named ShiftSigned = refl
named ToInt = refl
named ToIntSigned = refl
named FromInt = refl
named CharCode = refl
named CharOf = refl
named TextOf = refl
named SizeOf = refl
named CharAt = refl
named PartOf = refl
named Concat = refl
named StringOf = refl
named Print = refl

pub primitive-names : (n : ℕ) → name_count ≤ n → (p : BasisPrimitive) → Over n (primitive_type p)
primitive-names n le p = over-up 8 n (primitive_type p) le (type-over 8 (primitive_type p) (named p))

-- at types for its one parameter
at-types : (g : ℕ → Typ) (p : BasisPrimitive) → replace g (primitive_type p) ≡ function_type (tuple_type (arguments_at p (g 0))) (result_at p (g 0))
at-types g Add = refl
at-types g Subtract = refl
at-types g Multiply = refl
at-types g Divide = refl
at-types g Modulo = refl
at-types g Negate = refl
at-types g Absolute = refl
at-types g Less = refl
at-types g LessEqual = refl
at-types g Greater = refl
at-types g GreaterEqual = refl
at-types g Equals = refl
at-types g Assign = refl
at-types g Quotient = refl
at-types g Remainder = refl
at-types g BitsAnd = refl
at-types g BitsOr = refl
at-types g BitsXor = refl
at-types g BitsNot = refl
at-types g ShiftLeft = refl
at-types g ShiftRight = refl
at-types g ShiftSigned = refl
at-types g ToInt = refl
at-types g ToIntSigned = refl
at-types g FromInt = refl
at-types g CharCode = refl
at-types g CharOf = refl
at-types g TextOf = refl
at-types g SizeOf = refl
at-types g CharAt = refl
at-types g PartOf = refl
at-types g Concat = refl
at-types g StringOf = refl
at-types g Print = refl

mutual
  same-numbers : (t : Typ) → type_as (λ k. k) t ≡ t
  same-numbers (var v) = refl
  same-numbers (con arrow ts) = ap (con arrow) (all-same-numbers ts)
  same-numbers (con (labels ls) ts) = ap (con (labels ls)) (all-same-numbers ts)
  same-numbers (con (name y) ts) = ap (con (name y)) (all-same-numbers ts)

  all-same-numbers : (ts : Typs) → types_as (λ k. k) ts ≡ ts
  all-same-numbers none = refl
  all-same-numbers (more t ts) = ap₂ more (same-numbers t) (all-same-numbers ts)

pub primitive-at : (num : ℕ → ℕ) → KeepsInitial num → (p : BasisPrimitive) (f : ℕ → Typ)
    → type_as num (replace f (primitive_type p)) ≡ function_type (tuple_type (arguments_at p (type_as num (f 0)))) (result_at p (type_as num (f 0)))
primitive-at num i p f =
    replace-as num f (primitive_type p)
    ∙ ap (replace (λ v. type_as num (f v))) (type-agrees 8 {f = λ k. k} {g = num} i (primitive_type p) (type-over 8 (primitive_type p) (named p)) ∙ same-numbers (primitive_type p))
    ∙ at-types (λ v. type_as num (f v)) p

-- what a mark asks for

overloaded-small : (c : ClassOf) (n : ℕ) → has c n ≡ true → nat_lt n 8 ≡ true
overloaded-small c zero e = refl
overloaded-small c (suc zero) e = refl
overloaded-small c (suc (suc zero)) e = refl
overloaded-small c (suc (suc (suc zero))) e = refl
overloaded-small c (suc (suc (suc (suc n)))) e = cc

pub allows-numbered : (num : ℕ → ℕ) (m : ℕ → Bool) (a : Mark) (t : Typ) → KeepsInitial num → Allows a m t → Allows a m (type_as num t)
allows-numbered num m Any t i h = tt
allows-numbered num m Equality t i h = admits-as num m t ∙ h
allows-numbered num m (Class c) t i h = record {
  number = h.number;
  is = ap (type_as num) h.is ∙ of_name-kept (Rattle.ty_core.specs.Marks.overloaded h.number) i (overloaded-small c h.number h.held);
  held = h.held;
}
