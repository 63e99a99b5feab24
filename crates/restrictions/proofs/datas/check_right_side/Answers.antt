use Rattle.restrictions.proofs.Declared.{right-first, right-none}
use Rattle.restrictions.proofs.Standing.{adds-for, adds-none, if-ok, stand-are}
use Rattle.restrictions.proofs.datas.check_right_side.Goals as goal

pub returns-then-cons-eq0 : goal.returns-then-cons-eq0
returns-then-cons-eq0 c = adds-none c.args.found.now.items _ (right-none c.args.among c.args.cons.now c.if-cons-eq0.true)

pub returns : goal.returns
returns c =
    if-ok c.find_unless.result
    (λ u k.
    adds-for c.args.found.now.items _ _ _ (stand-are _ _ (right-first c.args.among c.args.cons.now c.index-cons-0.result c.if-cons-eq0.false c.index-cons-0.is)) k)
    c.find_unless.ensures
