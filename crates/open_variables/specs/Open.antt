-- Which variables stand in a type, through what variables stand for, and whether the open ones are done with.
use Rattle.std.specs.Prelude.{◌≡◌, ◌⊎◌, ◌^◌, ◌-◌, ℕ, Bool, true, nat_eq, List}
use Rattle.std.specs.List.{AllByRecursion}
use Rattle.mlc_names.specs.declared.label.Label.{Label}
use Rattle.ty_core.specs.Types.{Typ, var, con, Typs, none, more, Symbol}
use Rattle.ty_table.specs.TypeAt.{type_at}
use Rattle.ty_solve.specs.Said.{said}
use Rattle.ty_solve.specs.Limits.{limit_at}
use Rattle.ty_solve.specs.Substitution.{Entry, bound, row, is_open}
use Rattle.ty_solve.specs.declared.solver.Solver.{Solver}

-- t is one of a list
abbrev pub Among : Typ → Typs → Type 0
Among t none = ⊥
Among t (more u ts) = (t ≡ u) ⊎ Among t ts

-- v stands in a type: it is the type, or stands in what a variable stands for, in a known field of a row, or in a part
pub data Occurs (s : ℕ → Entry) (v : ℕ) : Typ → Type 0 where
  itself : Occurs s v (var v)
  through : (x : ℕ) (t : Typ) → s x ≡ bound t → Occurs s v t → Occurs s v (var x)
  field : (x : ℕ) (e : Bool) (ls : List Label) (ts : Typs) (t : Typ) → s x ≡ row e ls ts → Among t ts → Occurs s v t → Occurs s v (var x)
  part : (h : Symbol) (ts : Typs) (t : Typ) → Among t ts → Occurs s v t → Occurs s v (con h ts)

-- each open variable that stands in t is one of those that d says
abbrev pub IsClosed : (ℕ → Entry) → (ℕ → Bool) → Typ → Type 0
IsClosed s d t = (v : ℕ) → Occurs s v t → is_open (s v) ≡ true → d v ≡ true

-- v is done with: it was generalised, and is a parameter for ever
abbrev pub is_done_in : Solver → ℕ → Bool
is_done_in M v = nat_eq (limit_at M.limits.items v).level (2 ^ 64 - 1)

abbrev pub IsDone : Solver → ℕ → Type 0
IsDone M k = IsClosed (said M.subst) (is_done_in M) (type_at M.subst.types k)

abbrev pub AreDone : Solver → List ℕ → Type 0
AreDone M = AllByRecursion (IsDone M)
