use Rattle.std.proofs.Common.{◌≡◌, ◌^◌, ◌-◌, min, take}
use Rattle.ty_core.specs.Types.{all_nodes, all_admit, no_variable}
use Rattle.ty_table.specs.TypeAt.{types_at, every_variable, tops}
use Rattle.ty_table.specs.Nodes.{types_of}
use Rattle.ty_table.specs.Variables.{few_with}
use Rattle.ty_table.specs.declared.variables.Few.TheVariants.{Empty}
use Rattle.ty_table.proofs.table.Table.facts_applied.Given as goal

abbrev pub invariant-loop-part : goal.invariant-loop-part
invariant-loop-part l = record {
  size : l.size ≡ min (all_nodes (types_at (types_of l.self) (take l.part-index l.parts))) (2 ^ 64 - 1);
  equality : l.equality ≡ all_admit no_variable (types_at (types_of l.self) (take l.part-index l.parts));
  everywhere : l.everywhere ≡ all_admit every_variable (types_at (types_of l.self) (take l.part-index l.parts));
  top : l.top ≡ tops (types_at (types_of l.self) (take l.part-index l.parts));
  few : l.few ≡ few_with Empty (types_at (types_of l.self) (take l.part-index l.parts));
}
