-- A pattern elaborates as well where fewer variables are in scope: its own are new there too.
use Rattle.std.proofs.Common.{◌≤◌, ℕ, suc, List, arith}
use Rattle.ty_core.specs.Types.{Typ}
use Rattle.ty_basis.specs.Types.{Row}
use Rattle.sml_tree.specs.BareTree as bare
use Rattle.core_rules.specs.Choices.{Choices}
use Rattle.core_rules.specs.Typing.{Bound}
use Rattle.ir_poly.specs.Prog as prog
use Rattle.ir_poly.specs.Types.{Constructor}
use Rattle.core_elab.specs.Scopes.{Scope}
use Rattle.elab_typed.specs.Contexts.{Around}
use Rattle.elab_typed.specs.Elaborates.{PatElab, PatsElab, wild_elab, constant_elab, variable_elab, alone_elab, built_elab, fields_elab, open_elab, con_elab, built_con_elab, typed_elab, as_elab, no_pats_elab, a_pat_elab}

pub record Lower (table : List Constructor) (A : Around) (h : ℕ) (a : bare.Pat) (p : prog.Pat) (t : Typ) (vs : Bound) (c : Choices) (r : Scope) (j : ℕ) : Type 0 where
  pub next : ℕ
  pub most : next ≤ j
  pub elab : PatElab table A h a p t vs c r next

pub record LowerFields (table : List Constructor) (A : Around) (whole : Row) (h : ℕ) (fs : bare.PatFields) (gs : prog.PatFields) (w : Row) (vs : Bound) (c : Choices) (r : Scope) (j : ℕ)
    : Type 0 where
  pub next : ℕ
  pub most : next ≤ j
  pub elab : PatsElab table A whole h fs gs w vs c r next

at-most : (i j k : ℕ) → i ≤ j → j ≤ k → i ≤ k
at-most i j k a b = omega arith

same : (j : ℕ) → j ≤ j
same j = omega arith

module _ (table : List Constructor) (A : Around) where
  mutual
    pub lowered : {k j : ℕ} {a : bare.Pat} {p : prog.Pat} {t : Typ} {vs : Bound} {c : Choices} {r : Scope} (h : ℕ) → h ≤ k → PatElab table A k a p t vs c r j
        → Lower table A h a p t vs c r j
    lowered h le (wild_elab p o) = record { next = h; most = le; elab = wild_elab p o }
    lowered h le (constant_elab p c) = record { next = h; most = le; elab = constant_elab p c }
    lowered {k = k} h le (variable_elab p x n m b) = record { next = suc n; most = same (suc n); elab = variable_elab p x n (at-most h k n le m) b }
    lowered h le (alone_elab p e d x) = record { next = h; most = le; elab = alone_elab p e d x }
    lowered h le (built_elab p b ts g x) = record { next = h; most = le; elab = built_elab p b ts g x }
    lowered h le (fields_elab p fs n) = let l = lowered-fields h le fs in record { next = l.next; most = l.most; elab = fields_elab p l.elab n }
    lowered h le (open_elab p others fs d o) = let l = lowered-fields h le fs in record { next = l.next; most = l.most; elab = open_elab p others l.elab d o }
    lowered h le (con_elab p q e d b a) = let l = lowered h le a in record { next = l.next; most = l.most; elab = con_elab p q e d b l.elab }
    lowered h le (built_con_elab p b ts g x o a) = let l = lowered h le a in record { next = l.next; most = l.most; elab = built_con_elab p b ts g x o l.elab }
    lowered h le (typed_elab p a s) = let l = lowered h le a in record { next = l.next; most = l.most; elab = typed_elab p l.elab s }
    lowered {k = k} {j = j} h le (as_elab p x n m b s a) = record { next = j; most = same j; elab = as_elab p x n (at-most h k n le m) b s a }

    pub lowered-fields : {whole : Row} {k j : ℕ} {fs : bare.PatFields} {gs : prog.PatFields} {w : Row} {vs : Bound} {c : Choices} {r : Scope} (h : ℕ) → h ≤ k
        → PatsElab table A whole k fs gs w vs c r j → LowerFields table A whole h fs gs w vs c r j
    lowered-fields h le no_pats_elab = record { next = h; most = le; elab = no_pats_elab }
    lowered-fields h le (a_pat_elab l f o a fs) =
        let x = lowered h le a in
        let y = lowered-fields x.next x.most fs in
        record { next = y.next; most = y.most; elab = a_pat_elab l f o x.elab y.elab }
