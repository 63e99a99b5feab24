use Rattle.std.proofs.Common.{[]}
use Rattle.restrictions.proofs.Declared.{datatype-is}
use Rattle.restrictions.proofs.Standing.{adds-for, if-ok, stand-are}
use Rattle.restrictions.proofs.datas.of_datatype.Goals as goal

pub returns : goal.returns
returns c =
    if-ok c.of_declared.result
    (λ u k. adds-for c.args.found.now.items _ _ _ (stand-are _ _ (datatype-is c.args.place c.args.binds.now)) (k [] c.no_abbreviations-within.ensures)) c.of_declared.ensures
