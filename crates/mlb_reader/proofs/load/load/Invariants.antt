use Rattle.std.proofs.Common.{◌≡◌, ◌≤◌, map, take}
use Rattle.std.specs.String.{string_bytes}
use Rattle.sml_lexer.specs.NameTable.{Keeps}
use Rattle.mlb_reader.specs.Basis.{standard_fixities}
use Rattle.mlb_reader.specs.Counting.{IsCount}
use Rattle.mlb_reader.specs.Loading.{Grows, IsKnown, loaded_of}
use Rattle.mlb_reader.specs.MlbOf.{item_of}
use Rattle.mlb_reader.specs.Project.{Loads}
use Rattle.mlb_reader.specs.Refusals.{IfTold}
use Rattle.mlb_reader.proofs.load.load.Given as goal

abbrev pub invariant-loop-item : goal.invariant-loop-item
invariant-loop-item g l = record {
  kept : Keeps l.fn.names l.names;
  basis : l.setting.fixities ≡ standard_fixities;
  count : IsCount l.loading.counts l.files;
  files_same : g.S.Store.files l.store ≡ g.S.Store.files l.fn.store;
  writes_same : g.S.Store.write_faults l.store ≡ g.S.Store.write_faults l.fn.store;
  reads_kept : g.S.Store.read_faults l.fn.store ≤ g.S.Store.read_faults l.store;
  known : IsKnown (loaded_of l.names l.loading l.files);
  grown : Grows l.initial.files l.files;
  loaded : IfTold (g.S.Store.files l.fn.store) (λ f. Loads f (string_bytes l.setting.path) (loaded_of l.fn.names l.initial.loading l.initial.files) (take l.item-index (map item_of l.item-items)) (loaded_of l.names l.loading l.files));
}
