-- What is so of the image of a program's SSA form is so of the program.
use Rattle.std.proofs.Common.{◌≡◌, ◌≢◌, ℕ, ◌+◌, ◌*◌, ◌^◌, ◌<◌, ◌≤◌, List, Option, Some, IsSomeAnd, sym, subst, arith}
use Rattle.mlc_runs.specs.Outcome.{Outcome, wrong}
use Rattle.ir_code.specs.Program as machine
use Rattle.ir_code.specs.Run.{run_of}
use Rattle.same_runs.specs.SameRuns.{SameRuns}
use Rattle.machine_code.specs.Image.{text_of}
use Rattle.match_pass.specs.of_ir_prog.Programs.{meaning}
use Rattle.match_pass.specs.of_ir_prog.declared.program.Program.{Program}
use Rattle.ir_ssa.specs.Tree as out
use Rattle.ir_ssa.specs.Meaning as after
use Rattle.ir_ssa.specs.WellFormed.{IsWellFormed}
use Rattle.machine_emit.specs.of_image_law.ImageOf.{IsImageOf}
use Rattle.machine_emit.specs.of_image_size.Size.{ImagesAreSmall, parts, words}
use Rattle.machine_emit.specs.Contract.{IsTooLong}
use Rattle.machine_emit.specs.Contract as emit
use Rattle.back_end.specs.Contract.{Does}

pub of-form : (o : Option out.Program) (q : out.Program) (P : out.Program → Type 0) → o ≡ Some q → P q → IsSomeAnd o P
of-form o q P e h = subst (λ r. IsSomeAnd r P) (sym e) h

pub does : (names : List (List ℕ)) (p : Program) (q : out.Program) (image : machine.Program) → IsWellFormed q → ((turns : ℕ) → after.meaning q turns ≡ meaning p turns)
    → ((turns : ℕ) → (meaning p turns).end ≢ wrong) → emit.Does names q image → Does names p image
does names p q image formed same right h = λ heap stack low room.
    let means : after.meaning q ≡ meaning p = λ k turns. same turns k in
    subst (λ f. SameRuns (text_of names) f (run_of image heap stack)) means (h formed (λ turns w. right turns (subst (λ (o : Outcome). o.end ≡ wrong) (same turns) w)) heap stack low room)

module _ (names : List (List ℕ)) (q : out.Program) (image : machine.Program) (is : IsImageOf names q image) where
  pub small : ImagesAreSmall → words image ≤ 42 + 44 * parts names q
  small law = law names q image is

  pub not-long : (¬ IsTooLong names q) → words image ≤ 2 ^ 27
  not-long h = by (words image) (λ lt. h (image, is, lt))
    where
      by : (n : ℕ) → (2 ^ 27 < n → ⊥) → n ≤ 2 ^ 27
      by n k = omega (arith, k)
