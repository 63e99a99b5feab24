use Rattle.mono_form.proofs.program.Program.binds_once.Goals as goal

pub returns : goal.returns
returns c = c.in_ok-once.ensures c.args.self.now.tables
