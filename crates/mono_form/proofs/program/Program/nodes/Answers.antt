use Rattle.mono_form.proofs.program.Program.nodes.Goals as goal

pub returns : goal.returns
returns c = c.nodes.ensures c.args.self.now.tables
