-- The statuses of a command that was carried out.
use Rattle.std.proofs.Common.{◌≡◌, ◌≢◌, ℕ, ◌⊎◌, inl, inr, List, Option, Some, refl, subst, sym, ◌∙◌, arith, codes, [], ◌∷◌}
use Rattle.std.specs.String.{string_bytes}
use Rattle.mlc_faults.specs.File.{File}
use Rattle.mlc_faults.specs.declared.fault.Fault.{Fault}
use Rattle.mlc_outside.specs.Faults.{Rose}
use Rattle.mlc_outside.specs.Files.{Files}
use Rattle.ir_code.specs.Run.{ended, no_heap, no_stack, going}
use Rattle.heap_vm.specs.Loaded.{told_name}
use Rattle.mlb_reader.specs.Broken.{IsBroken, IsMissing}
use Rattle.mlb_reader.specs.Refusals.{IfTold}
use Rattle.mlc_driver.specs.Checked.{Breaks, in_loading, in_project, in_size}
use Rattle.mlc_program.specs.Command.{Command, IsCommand}
use Rattle.mlc_program.specs.Exits.{Exited, status_of, line_of}
use Rattle.mlc_program.specs.Outside.{Disk, Stream}
use Rattle.mlc_program.specs.Statuses.{ByCommand, Built, RanTo, ToldUncaught, WriteFailed, Unwritten, Refuses, Misses, Told, Says, says_nothing, says_uncaught, says_refused, says_step_limit, says_out_of_heap, says_out_of_stack, says_missing, says_read_failed, says_write_failed, says_no_memory, IsBeforeRun, IsBeforeWrite, IsReady, IsLoaded, IsRunMemoryOrRefused}
use Rattle.mlc_program.specs.declared.exit.Exit.{Exit}
use Rattle.mlc_program.specs.declared.exit.Exit.TheVariants.{Ended, Uncaught, StepLimit, OutOfHeap, OutOfStack, Refused, Missing, ReadFailed, StoreFailed as Store_failed, OutFailed as Out_failed, NoMemory}

-- a refusal that is none of loading comes after it
loaded-at : (f : Files) (c : Command) (names : List (List ℕ)) (fault : Fault) (reads : List File) → ¬ (IsBroken f c.input fault reads) → Breaks f c.input names fault reads → IsLoaded (Some f) c
loaded-at f c names fault reads none (in_loading b e) = absurd (none b)
loaded-at f c names fault reads none (in_project {before = before} {parts = parts} p k e w) = record { names = before; parts = parts; reads = reads; is_project = p }
loaded-at f c names fault reads none (in_size {p = p} o g) = record { names = o.before; parts = o.parts; reads = reads; is_project = o.is_project }

module _ (words : List (List ℕ)) (c : Command) (is : IsCommand words c) (old new : Disk) (out out' : Stream) where
  pub says : (usage : List ℕ) (e : Exit) → Exited e old new out out' c → Says usage words old.files old.read_faults new.read_faults (status_of e) (line_of e)
  says usage Ended x = says_nothing
  says usage (Uncaught vm) x = says_uncaught (told_name vm.stop vm.state)
  says usage StepLimit x = says_step_limit
  says usage OutOfHeap x = says_out_of_heap
  says usage OutOfStack x = says_out_of_stack
  says usage (Refused line) x = says_refused (string_bytes line) (c, is, x.0.1)
  says usage (Missing path) x = says_missing (string_bytes path) (c, is, x.0.1)
  says usage (ReadFailed path) x = says_read_failed (string_bytes path) (c, is, x.0.1) x.0.2
  says usage Store_failed x = says_write_failed
  says usage Out_failed x = says_write_failed
  says usage NoMemory x = says_no_memory

  pub is_command : (e : Exit) → Exited e old new out out' c → status_of e ≢ 64
  is_command Ended x = λ s. absurd (omega arith)
  is_command (Uncaught vm) x = λ s. absurd (omega arith)
  is_command StepLimit x = λ s. absurd (omega arith)
  is_command OutOfHeap x = λ s. absurd (omega arith)
  is_command OutOfStack x = λ s. absurd (omega arith)
  is_command (Refused line) x = λ s. absurd (omega arith)
  is_command (Missing path) x = λ s. absurd (omega arith)
  is_command (ReadFailed path) x = λ s. absurd (omega arith)
  is_command Store_failed x = λ s. absurd (omega arith)
  is_command Out_failed x = λ s. absurd (omega arith)
  is_command NoMemory x = λ s. absurd (omega arith)

  pub when_ended : (e : Exit) → Exited e old new out out' c → status_of e ≡ 0 → ByCommand words (RanTo ended old.files new.files out.bytes out'.bytes)
  when_ended Ended x s = (c, is, x)
  when_ended (Uncaught vm) x s = absurd (omega arith)
  when_ended StepLimit x s = absurd (omega arith)
  when_ended OutOfHeap x s = absurd (omega arith)
  when_ended OutOfStack x s = absurd (omega arith)
  when_ended (Refused line) x s = absurd (omega arith)
  when_ended (Missing path) x s = absurd (omega arith)
  when_ended (ReadFailed path) x s = absurd (omega arith)
  when_ended Store_failed x s = absurd (omega arith)
  when_ended Out_failed x s = absurd (omega arith)
  when_ended NoMemory x s = absurd (omega arith)

  pub when_uncaught : (e : Exit) → Exited e old new out out' c → (err err' : Option (List ℕ)) (faults faults' : ℕ) → Told (line_of e) err err' faults faults' → status_of e ≡ 1 → ByCommand words (ToldUncaught old.files new.files out.bytes out'.bytes err err' faults faults')
  when_uncaught Ended x err err' faults faults' t s = absurd (omega arith)
  when_uncaught (Uncaught vm) x err err' faults faults' t s = (c, is, record { name = told_name vm.stop vm.state; ran = x; told = t })
  when_uncaught StepLimit x err err' faults faults' t s = absurd (omega arith)
  when_uncaught OutOfHeap x err err' faults faults' t s = absurd (omega arith)
  when_uncaught OutOfStack x err err' faults faults' t s = absurd (omega arith)
  when_uncaught (Refused line) x err err' faults faults' t s = absurd (omega arith)
  when_uncaught (Missing path) x err err' faults faults' t s = absurd (omega arith)
  when_uncaught (ReadFailed path) x err err' faults faults' t s = absurd (omega arith)
  when_uncaught Store_failed x err err' faults faults' t s = absurd (omega arith)
  when_uncaught Out_failed x err err' faults faults' t s = absurd (omega arith)
  when_uncaught NoMemory x err err' faults faults' t s = absurd (omega arith)

  pub when_limited : (e : Exit) → Exited e old new out out' c → status_of e ≡ 3 → ByCommand words (RanTo going old.files new.files out.bytes out'.bytes)
  when_limited Ended x s = absurd (omega arith)
  when_limited (Uncaught vm) x s = absurd (omega arith)
  when_limited StepLimit x s = (c, is, x)
  when_limited OutOfHeap x s = absurd (omega arith)
  when_limited OutOfStack x s = absurd (omega arith)
  when_limited (Refused line) x s = absurd (omega arith)
  when_limited (Missing path) x s = absurd (omega arith)
  when_limited (ReadFailed path) x s = absurd (omega arith)
  when_limited Store_failed x s = absurd (omega arith)
  when_limited Out_failed x s = absurd (omega arith)
  when_limited NoMemory x s = absurd (omega arith)

  pub when_out_of_heap : (e : Exit) → Exited e old new out out' c → status_of e ≡ 4 → ByCommand words (RanTo no_heap old.files new.files out.bytes out'.bytes)
  when_out_of_heap Ended x s = absurd (omega arith)
  when_out_of_heap (Uncaught vm) x s = absurd (omega arith)
  when_out_of_heap StepLimit x s = absurd (omega arith)
  when_out_of_heap OutOfHeap x s = (c, is, x)
  when_out_of_heap OutOfStack x s = absurd (omega arith)
  when_out_of_heap (Refused line) x s = absurd (omega arith)
  when_out_of_heap (Missing path) x s = absurd (omega arith)
  when_out_of_heap (ReadFailed path) x s = absurd (omega arith)
  when_out_of_heap Store_failed x s = absurd (omega arith)
  when_out_of_heap Out_failed x s = absurd (omega arith)
  when_out_of_heap NoMemory x s = absurd (omega arith)

  pub when_out_of_stack : (e : Exit) → Exited e old new out out' c → status_of e ≡ 5 → ByCommand words (RanTo no_stack old.files new.files out.bytes out'.bytes)
  when_out_of_stack Ended x s = absurd (omega arith)
  when_out_of_stack (Uncaught vm) x s = absurd (omega arith)
  when_out_of_stack StepLimit x s = absurd (omega arith)
  when_out_of_stack OutOfHeap x s = absurd (omega arith)
  when_out_of_stack OutOfStack x s = (c, is, x)
  when_out_of_stack (Refused line) x s = absurd (omega arith)
  when_out_of_stack (Missing path) x s = absurd (omega arith)
  when_out_of_stack (ReadFailed path) x s = absurd (omega arith)
  when_out_of_stack Store_failed x s = absurd (omega arith)
  when_out_of_stack Out_failed x s = absurd (omega arith)
  when_out_of_stack NoMemory x s = absurd (omega arith)

  pub when_failed : (e : Exit) → Exited e old new out out' c → status_of e ≡ 8 → ByCommand words (WriteFailed old.files new.files old.write_faults new.write_faults out.bytes out'.bytes out.faults out'.faults)
  when_failed Ended x s = absurd (omega arith)
  when_failed (Uncaught vm) x s = absurd (omega arith)
  when_failed StepLimit x s = absurd (omega arith)
  when_failed OutOfHeap x s = absurd (omega arith)
  when_failed OutOfStack x s = absurd (omega arith)
  when_failed (Refused line) x s = absurd (omega arith)
  when_failed (Missing path) x s = absurd (omega arith)
  when_failed (ReadFailed path) x s = absurd (omega arith)
  when_failed Store_failed x s = (c, is, inl x)
  when_failed Out_failed x s = (c, is, inr x)
  when_failed NoMemory x s = absurd (omega arith)

  by_command : (new.files ≡ old.files) ⊎ Built old.files new.files c → (new.files ≡ old.files) ⊎ ByCommand words (Built old.files new.files)
  by_command (inl e) = inl e
  by_command (inr b) = inr (c, is, b)

  pub when_no_memory : (e : Exit) → Exited e old new out out' c → status_of e ≡ 11 → (new.files ≡ old.files) ⊎ ByCommand words (Built old.files new.files)
  when_no_memory Ended x s = absurd (omega arith)
  when_no_memory (Uncaught vm) x s = absurd (omega arith)
  when_no_memory StepLimit x s = absurd (omega arith)
  when_no_memory OutOfHeap x s = absurd (omega arith)
  when_no_memory OutOfStack x s = absurd (omega arith)
  when_no_memory (Refused line) x s = absurd (omega arith)
  when_no_memory (Missing path) x s = absurd (omega arith)
  when_no_memory (ReadFailed path) x s = absurd (omega arith)
  when_no_memory Store_failed x s = absurd (omega arith)
  when_no_memory Out_failed x s = absurd (omega arith)
  when_no_memory NoMemory x s = by_command x.0

  pub when_before_write : (e : Exit) → Exited e old new out out' c → IsBeforeWrite (status_of e) → new.files ≡ old.files
  when_before_write Ended x s = absurd (omega arith)
  when_before_write (Uncaught vm) x s = absurd (omega arith)
  when_before_write StepLimit x s = absurd (omega arith)
  when_before_write OutOfHeap x s = absurd (omega arith)
  when_before_write OutOfStack x s = absurd (omega arith)
  when_before_write (Refused line) x s = x.0.0
  when_before_write (Missing path) x s = x.0.0
  when_before_write (ReadFailed path) x s = x.0.0
  when_before_write Store_failed x s = absurd (omega arith)
  when_before_write Out_failed x s = absurd (omega arith)
  when_before_write NoMemory x s = absurd (omega arith)

  pub when_before_run : (e : Exit) → Exited e old new out out' c → IsBeforeRun (status_of e) → Unwritten out.bytes out'.bytes out.faults out'.faults
  when_before_run Ended x s = absurd (omega arith)
  when_before_run (Uncaught vm) x s = absurd (omega arith)
  when_before_run StepLimit x s = absurd (omega arith)
  when_before_run OutOfHeap x s = absurd (omega arith)
  when_before_run OutOfStack x s = absurd (omega arith)
  when_before_run (Refused line) x s = x.1
  when_before_run (Missing path) x s = x.1
  when_before_run (ReadFailed path) x s = x.1
  when_before_run Store_failed x s = absurd (omega arith)
  when_before_run Out_failed x s = absurd (omega arith)
  when_before_run NoMemory x s = x.1

  -- where nothing breaks the project, only a count can stand against it
  told : (P : Files → Type 0) (f : Files) → old.files ≡ Some f → IfTold old.files P → P f
  told P f e h = let h2 : IfTold (Some f) P = subst (λ o. IfTold o P) e h in h2

  same_input : (d : Command) → IsCommand words d → c.input ≡ d.input
  same_input d other =
      let both : codes "exec" ∷ is.input ∷ is.output ∷ is.heap_word ∷ is.stack_word ∷ is.steps_word ∷ [] ≡ codes "exec" ∷ other.input ∷ other.output ∷ other.heap_word ∷ other.stack_word ∷ other.steps_word ∷ [] = sym is.words_are ∙ other.words_are in
      let input : is.input ≡ other.input = cc in
      is.numbers.input_is ∙ input ∙ sym other.numbers.input_is

  is_loaded : (line : List ℕ) → IsReady words old.files → Refuses old.files c line → IsLoaded old.files c
  is_loaded line ready r =
      let breaks = told (λ f. Breaks f c.input r.names r.fault r.reads) ready.told ready.are r.breaks in
      let none = subst (λ i. ¬ (IsBroken ready.told i r.fault r.reads)) (sym (same_input ready.command ready.is_command)) (ready.unbroken r.fault r.reads) in
      subst (λ o. IsLoaded o c) (sym ready.are) (loaded-at ready.told c r.names r.fault r.reads none breaks)

  not_missing : (path : List ℕ) → IsReady words old.files → Misses old.files c path → ⊥
  not_missing path ready m =
      let missing = told (λ f. IsMissing f c.input path) ready.told ready.are m in
      ready.there path (subst (λ i. IsMissing ready.told i path) (same_input ready.command ready.is_command) missing)

  pub when_ready : (e : Exit) → Exited e old new out out' c → IsReady words old.files → ¬ (Rose old.read_faults new.read_faults) → ¬ (Rose old.write_faults new.write_faults) → ¬ (Rose out.faults out'.faults) → IsRunMemoryOrRefused words old.files (status_of e)
  when_ready Ended x ready r w o = inl (inl refl)
  when_ready (Uncaught vm) x ready r w o = inl (inr (inl refl))
  when_ready StepLimit x ready r w o = inl (inr (inr (inl refl)))
  when_ready OutOfHeap x ready r w o = inl (inr (inr (inr (inl refl))))
  when_ready OutOfStack x ready r w o = inl (inr (inr (inr (inr (inl refl)))))
  when_ready (Refused line) x ready r w o = inr (refl, (c, is, is_loaded (string_bytes line) ready x.0.1))
  when_ready (Missing path) x ready r w o = absurd (not_missing (string_bytes path) ready x.0.1)
  when_ready (ReadFailed path) x ready r w o = absurd (r x.0.2)
  when_ready Store_failed x ready r w o = absurd (w x.0.rose)
  when_ready Out_failed x ready r w o = absurd (o x.rose)
  when_ready NoMemory x ready r w o = inl (inr (inr (inr (inr (inr refl)))))
