-- Limits of variables and the rules ask the same of type names.
use Rattle.std.proofs.Common.{ℕ}
use Rattle.ty_core.specs.Types.{Typ, var, con, Typs, none, more, Symbol, arrow, labels, name}
use Rattle.ty_solve.specs.Limits.{Over, AllOver}
use Rattle.core_rules.specs.Objects as static

symbol-over : (n : ℕ) (h : Symbol) → Rattle.ty_solve.specs.Limits.SymbolOver n h → static.SymbolOver n h
symbol-over n arrow o = tt
symbol-over n (labels ls) o = tt
symbol-over n (name y) o = o

mutual
  pub over-static : (n : ℕ) (t : Typ) → Over n t → static.Over n t
  over-static n (var v) o = tt
  over-static n (con h ts) o = (symbol-over n h o.0, all-over-static n ts o.1)

  all-over-static : (n : ℕ) (ts : Typs) → AllOver n ts → static.AllOver n ts
  all-over-static n none o = tt
  all-over-static n (more t ts) o = (over-static n t o.0, all-over-static n ts o.1)
