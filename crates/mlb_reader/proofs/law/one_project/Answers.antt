use Rattle.mlb_reader.proofs.OneProject.{one-project}
use Rattle.mlb_reader.proofs.law.one_project.Goals as goal

pub returns : goal.returns
returns c = one-project c.one_reading.ensures c.one_tree.ensures
