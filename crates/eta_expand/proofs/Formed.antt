-- The expansion of a well formed program is well formed, and has no function by itself.
use Rattle.eta_expand.specs.Laws.{ExpandedWellFormed, ExpandedExplicit}
use Rattle.eta_expand.proofs.Known.{knows-none}
use Rattle.eta_expand.proofs.Typed.{typed}
use Rattle.eta_expand.proofs.Explicit.{explicit}
use Rattle.eta_expand.proofs.Local.{local}
use Rattle.eta_expand.proofs.Once.{expanded-once}

pub expanded-well-formed : ExpandedWellFormed
expanded-well-formed n p w fresh = record {
  table = w.table;
  initial = w.initial;
  type = w.type;
  typed = typed p.types n knows-none w.typed;
  once = expanded-once p.types n p.body w.once fresh;
  local = local p.types _ n w.local;
}

pub expanded-explicit : ExpandedExplicit
expanded-explicit n p w = explicit p.types n knows-none w.typed
