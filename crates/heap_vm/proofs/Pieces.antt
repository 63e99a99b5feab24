-- A run in pieces.
use Rattle.std.proofs.Common.{◌≡◌, ℕ, ◌+◌, List, [], ◌++◌, Option, None, Some, refl, ap, sym, ◌∙◌, arith, append_assoc, append-nil, take}
use Rattle.mlc_outside.specs.Sink.{adds}
use Rattle.ir_code.specs.declared.instr.Instr.{Instr}
use Rattle.ir_code.specs.declared.halt.Halt.{Halt}
use Rattle.ir_code.specs.declared.halt.Halt.TheVariants.{Ended as at_end, Uncaught as at_packet, NoHeap as at_heap, NoStack as at_stack, Stuck as at_wrong}
use Rattle.ir_code.specs.Machine.{State, Ran, run}
use Rattle.ir_code.specs.Laws.{after, go_on}
use Rattle.ir_code.proofs.Runs.{run-add, run-after}
use Rattle.heap_vm.specs.declared.stop.Stop.{Stop}
use Rattle.heap_vm.specs.declared.stop.Stop.TheVariants.{Steps, Ended, Uncaught, NoHeap, NoStack, Stuck, WriteFault}
use Rattle.heap_vm.specs.Loaded.{stop_of}
use Rattle.heap_vm.specs.Laws.{RunsJoin}
use Rattle.heap_vm.specs.Went.{Cut, Whole}
use Rattle.heap_vm.proofs.Sinks.{adds-append, rose_after}

-- only a run that was not stopped answers Steps
no_halt : (o : Option Halt) → Steps ≡ stop_of o → o ≡ None
no_halt None e = refl
no_halt (Some at_end) e = cc
no_halt (Some at_packet) e = cc
no_halt (Some at_heap) e = cc
no_halt (Some at_stack) e = cc
no_halt (Some at_wrong) e = cc

-- what a run that was not stopped came to
going_to : (r : Ran) (middle : State) → Steps ≡ stop_of r.halt → middle ≡ r.state → r ≡ record { state = middle; out = r.out; halt = None }
going_to r middle e h = ap (λ o. record { state = r.state; out = r.out; halt = o }) (no_halt r.halt e) ∙ ap (λ s. record { state = s; out = r.out; halt = None }) (sym h)

-- more steps after it
join-runs : (code : List Instr) (n m : ℕ) (from middle : State) → Steps ≡ stop_of (run code n from []).halt → middle ≡ (run code n from []).state → run code (n + m) from [] ≡ after (run code n from []).out (run code m middle [])
join-runs code n m from middle e h =
    let first = run code n from [] in
    run-add code n m from [] ∙ ap (go_on code m) (going_to first middle e h) ∙ ap (λ o. run code m middle o) (sym (append-nil first.out)) ∙ run-after code m middle first.out []

join_whole : (stop : Stop) (code : List Instr) (from middle to : State) (n m : ℕ) (old half new : Option (List ℕ)) (before between now : ℕ) → Whole Steps (run code n from []) middle old half before between → Whole stop (run code m middle []) to half new between now → Whole stop (run code (n + m) from []) to old new before now
join_whole stop code from middle to n m old half new before between now a b =
    let same = join-runs code n m from middle a.stopped a.came_to in
    let first = run code n from [] in
    let last = run code m middle [] in
    rw same (record {
      stopped = b.stopped;
      came_to = b.came_to;
      wrote = b.wrote ∙ ap (λ o. adds o last.out) a.wrote ∙ adds-append old first.out last.out;
      kept = omega (arith, a.kept, b.kept);
    })

join_cut : (code : List Instr) (from middle to : State) (n m : ℕ) (old half new : Option (List ℕ)) (before between now : ℕ) → Whole Steps (run code n from []) middle old half before between → Cut code middle m to half new between now → Cut code from (n + m) to old new before now
join_cut code from middle to n m old half new before between now a b =
    let same = join-runs code n m from middle a.stopped a.came_to in
    let first = run code n from [] in
    let sent = b.sofar ++ take b.taken b.text in
    let split : first.out ++ sent ≡ (first.out ++ b.sofar) ++ take b.taken b.text = sym (append_assoc first.out b.sofar (take b.taken b.text)) in
    record {
      rose = rose_after before between now a.kept b.rose;
      kept = omega (arith, a.kept, b.kept);
      made = n + b.made;
      fewer = omega (arith, b.fewer);
      sofar = first.out ++ b.sofar;
      came_to = join-runs code n b.made from middle a.stopped a.came_to ∙ ap (after first.out) b.came_to;
      text = b.text;
      at_print = b.at_print;
      taken = b.taken;
      wrote = b.wrote ∙ ap (λ o. adds o sent) a.wrote ∙ adds-append old first.out sent ∙ ap (adds old) split;
      rest = b.rest;
      part = ap (λ (r : Ran). r.out) same ∙ ap (λ o. first.out ++ o) b.part ∙ sym (append_assoc first.out sent b.rest) ∙ ap (λ o. o ++ b.rest) split;
    }

pub runs-join : RunsJoin
runs-join code from middle to n m Steps old half new before between now a b = join_whole Steps code from middle to n m old half new before between now a b
runs-join code from middle to n m Ended old half new before between now a b = join_whole Ended code from middle to n m old half new before between now a b
runs-join code from middle to n m Uncaught old half new before between now a b = join_whole Uncaught code from middle to n m old half new before between now a b
runs-join code from middle to n m NoHeap old half new before between now a b = join_whole NoHeap code from middle to n m old half new before between now a b
runs-join code from middle to n m NoStack old half new before between now a b = join_whole NoStack code from middle to n m old half new before between now a b
runs-join code from middle to n m Stuck old half new before between now a b = join_whole Stuck code from middle to n m old half new before between now a b
runs-join code from middle to n m WriteFault old half new before between now a b = join_cut code from middle to n m old half new before between now a b
