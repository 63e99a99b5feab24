use Rattle.std.proofs.Common.{◌++◌, codes}
use Rattle.heap_vm.specs.Loaded.{told_name}
use Rattle.mlc_program.proofs.Tellings.{told_first, told_both}
use Rattle.mlc_program.proofs.say.say_uncaught.Goals as goal

pub returns-in-Failed : goal.returns-in-Failed
returns-in-Failed g c = told_first (codes "unhandled exception: ") (told_name c.args.vm.now.stop c.args.vm.now.state ++ codes "\n") _ _ _ _ (rw c.as_bytes.ensures.value at c.in-Failed.ensures)

pub returns-in-Failed-put_name : goal.returns-in-Failed-put_name
returns-in-Failed-put_name g c =
    let name = told_name c.args.vm.now.stop c.args.vm.now.state in
    let rest = told_first name (codes "\n") _ _ _ _ c.in-Failed-put_name.ensures in
    told_both (codes "unhandled exception: ") (name ++ codes "\n") _ _ _ _ _ _ rest.0 (rw c.as_bytes.ensures.value at c.in-Done.ensures) rest.1

pub returns-in-Done-put_name : goal.returns-in-Done-put_name
returns-in-Done-put_name g c =
    let name = told_name c.args.vm.now.stop c.args.vm.now.state in
    let rest = told_both name (codes "\n") _ _ _ _ _ _ c.say.ensures.0 c.in-Done-put_name.ensures c.say.ensures.1 in
    told_both (codes "unhandled exception: ") (name ++ codes "\n") _ _ _ _ _ _ rest.0 (rw c.as_bytes.ensures.value at c.in-Done.ensures) rest.1
