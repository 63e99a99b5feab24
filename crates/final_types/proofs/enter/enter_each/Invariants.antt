use Rattle.std.proofs.Common.{◌≡◌, ℕ, length, take}
use Rattle.indexmap.specs.IndexMap.{get}
use Rattle.ty_core.specs.Types.{Typ}
use Rattle.final_types.specs.Images.{AreEntered}
use Rattle.final_types.specs.Making.{AreMade, namings_of, same_key}
use Rattle.final_types.specs.Nodes.{IsEnd, types_of}
use Rattle.final_types.proofs.enter.enter_each.Given as goal

abbrev pub invariant-loop-i : goal.invariant-loop-i
invariant-loop-i l = record {
  stays : take (length l.fn.types) l.types ≡ l.fn.types;
  made : AreMade l.source l.types (get same_key l.making.made);
  entered : (g : ℕ → Typ) → IsEnd l.source.solver.now g → AreEntered (types_of l.source.solver.now) l.types (namings_of l.source) g (take l.i l.written) l.numbers.items;
}
