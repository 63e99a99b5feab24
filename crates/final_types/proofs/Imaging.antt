-- Images of types.
use Rattle.std.proofs.Common.{◌≡◌, ◌<◌, ◌≤◌, ℕ, List, length, take, Option, Some, None, sym, ap, ◌∙◌, arith}
use mathlib.Core.Path.{fun_ext}
use Rattle.std.proofs.lemmas.Bool.{ltb-true, lt-ltb}
use Rattle.ty_core.specs.Types.{Symbol, arrow, labels, name, Typ, var, con, Typs, none, more}
use Rattle.ty_table.specs.TypeAt.{type_at}
use Rattle.ty_solve.specs.Substitution.{sub}
use Rattle.ty_solve.proofs.Holding.{type-stays}
use Rattle.ty_instance.proofs.Going.{longer}
use Rattle.core_rules.specs.Objects.{Over, AllOver, SymbolOver}
use Rattle.elab_typed.specs.Numbers.{type_as}
use Rattle.elab_typed.proofs.Names.{type-agrees}
use Rattle.elab_state.specs.Namings.{number_in}
use Rattle.elab_state.specs.declared.naming.Naming.{Naming}
use Rattle.final_types.proofs.Jumping.{past-name}
use Rattle.final_types.specs.Images.{type_in, IsMade}

-- names below a bound are below a greater one

pub symbol-upto : (m n : ℕ) (h : Symbol) → m ≤ n → SymbolOver m h → SymbolOver n h
symbol-upto m n arrow le o = tt
symbol-upto m n (labels ls) le o = tt
symbol-upto m n (name y) le o = let a = ltb-true y.stamp m o in lt-ltb y.stamp n (omega (arith, a, le))

mutual
  pub over-upto : (m n : ℕ) (t : Typ) → m ≤ n → Over m t → Over n t
  over-upto m n (var v) le o = tt
  over-upto m n (con h ts) le o = (symbol-upto m n h le o.0, all-over-upto m n ts le o.1)

  pub all-over-upto : (m n : ℕ) (ts : Typs) → m ≤ n → AllOver m ts → AllOver n ts
  all-over-upto m n none le o = tt
  all-over-upto m n (more t ts) le o = (over-upto m n t le o.0, all-over-upto m n ts le o.1)

-- where the names below a bound have the same numbers, a type has the same image
pub same-image : (ts us : List Typ) (rs : List Naming) (g : ℕ → Typ) (o at : Option ℕ) (m k : ℕ) → ((x : ℕ) → x < m → number_in rs o x ≡ number_in rs at x) → Over m (sub g (type_at ts k))
    → type_in ts us rs g at k ≡ type_in ts us rs g o k
same-image ts us rs g o at m k same over = sym (type-agrees m {f = number_in rs at} {g = number_in rs o} (λ x i. same x (ltb-true x m i)) (sub g (type_at ts k)) over)

-- in a table that has grown
pub made-grown : (ts us vs : List Typ) (rs : List Naming) (g : ℕ → Typ) (o : Option ℕ) (k r : ℕ) → take (length us) vs ≡ us → IsMade ts us rs g o k r → IsMade ts vs rs g o k r
made-grown ts us vs rs g o k r e m = record { held = let a = longer us vs e in let b = m.held in omega (arith, a, b); is = type-stays us vs r e m.held ∙ m.is }

-- behind all namings each name has its own number
pub past-image : (ts us : List Typ) (rs : List Naming) (g : ℕ → Typ) (k : ℕ) → type_in ts us rs g None k ≡ type_in ts us rs g (Some (length rs)) k
past-image ts us rs g k = ap (λ f. type_as f (sub g (type_at ts k))) (fun_ext (λ x. sym (past-name rs (length rs) x (omega arith))))
