use Rattle.mono_names.proofs.Numbering.{copy-numbered}
use Rattle.mono_names.proofs.copies.Copies.number.Goals as goal

pub returns-clause-ok : goal.returns-clause-ok
returns-clause-ok c = let s = c.in_ok-n.ensures.stored in
    copy-numbered c.self.inside.copies.keys c.insert_full.new.self.keys (c.args.variable, c.args.list) s.0 c.in_ok-n.n c.args.self.now c.self.view_is c.in_ok-n.ensures.keys s.1 s.2
