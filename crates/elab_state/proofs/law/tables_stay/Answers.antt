use Rattle.prog_tree.specs.of_ir_tables.Tables.{parameters_of}
use Rattle.elab_state.proofs.Reading.{table-finds, parameters-stay}
use Rattle.elab_state.proofs.law.tables_stay.Goals as goal

pub returns : goal.returns
returns c = λ S T e. (
  (λ y n row h. table-finds _ _ _ _ y n row e.table_types e.constructors S.rows h),
  (λ g h k lt. parameters-stay (parameters_of S.tables) (parameters_of T.tables) k e.parameters lt),
)
