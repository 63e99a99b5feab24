-- That limits never rise is one fact.
use Rattle.std.specs.Prelude.{ℕ}
use Rattle.std.proofs.Props.{props}
use mathlib.Core.HLevel.{Π_prop, ×_prop, Unit-prop}
use Rattle.ty_table.specs.of_ty_core.Types.{Typ, var, con, Typs, none, more, Symbol, arrow, labels, name}
use Rattle.ty_solve.specs.Substitution.{Entry, free, bound, row}
use Rattle.ty_solve.specs.Limits.{SymbolOver, NoFurther, Limited, AllLimited, LimitedAt, AreLimited, AreWide}
use Rattle.ty_solve.specs.declared.limit.Limit.{Limit}

SymbolOver-prop : (n : ℕ) (h : Symbol) → IsProp (SymbolOver n h)
SymbolOver-prop n arrow = Unit-prop
SymbolOver-prop n (labels ls) = Unit-prop
SymbolOver-prop n (name x) = hlevel props

NoFurther-prop : (k l : Limit) → IsProp (NoFurther k l)
NoFurther-prop k l = ×_prop (hlevel props) (hlevel props)

mutual
  Limited-prop : (b : ℕ → Limit) (l : Limit) (t : Typ) → IsProp (Limited b l t)
  Limited-prop b l (var v) = NoFurther-prop (b v) l
  Limited-prop b l (con h ts) = ×_prop (SymbolOver-prop l.names h) (AllLimited-prop b l ts)

  AllLimited-prop : (b : ℕ → Limit) (l : Limit) (ts : Typs) → IsProp (AllLimited b l ts)
  AllLimited-prop b l none = Unit-prop
  AllLimited-prop b l (more t ts) = ×_prop (Limited-prop b l t) (AllLimited-prop b l ts)

LimitedAt-prop : (b : ℕ → Limit) (l : Limit) (e : Entry) → IsProp (LimitedAt b l e)
LimitedAt-prop b l (free k) = Unit-prop
LimitedAt-prop b l (bound t) = Limited-prop b l t
LimitedAt-prop b l (row e ks us) = AllLimited-prop b l us

pub AreLimited-prop : (b : ℕ → Limit) (s : ℕ → Entry) → IsProp (AreLimited b s)
AreLimited-prop b s = Π_prop (λ v. LimitedAt-prop b (b v) (s v))

pub AreWide-prop : (b : ℕ → Limit) → IsProp (AreWide b)
AreWide-prop b = Π_prop (λ v. hlevel props)
