use Rattle.heap_vm.proofs.Tells.{tells_first}
use Rattle.base_tests.proofs.heap_vm_name.first_run.Goals as goal

pub returns : goal.returns
returns g c =
    let told = c.run-stop.ensures.first c.args.image 1024 256 c.in_ok-vm.ensures in
    let put = rw c.run-stop.ensures.answer at c.put_name-put.ensures in
    tells_first c.run-stop.result c.put_name-put.result _ c.run-stop.new.self.state _ _ _ _ _ _ _ _ told put
