use Rattle.std.proofs.Common.{map, take}
use Rattle.sml_tree.specs.TreeOf.{dec_of, decs_of}
use Rattle.mlb_reader.specs.PartOf.{part_of}
use Rattle.mlc_driver.specs.Parts.{HasParts}
use Rattle.mlc_driver.proofs.elaborate.elaborate_parts.Given as goal

abbrev pub invariant-loop-i : goal.invariant-loop-i
invariant-loop-i l = HasParts (decs_of (map dec_of l.prelude)) (map part_of (take l.i l.parts)) l.elaborating
