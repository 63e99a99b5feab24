use Rattle.std.proofs.Common.{◌+◌, ◌*◌, [], ◌∷◌, Some, arith, refl, ap, ◌∙◌, length-append}
use Rattle.ir_code.specs.ImageBytes.{words, fours}
use Rattle.ir_code.specs.Reading.{HasNoInstr}
use Rattle.ir_code.proofs.Cuts.{unknown_found, code_more}
use Rattle.ir_code.proofs.read.read_code.Goals as goal

pub returns-in_default-clause-refused : goal.returns-in_default-clause-refused
returns-in_default-clause-refused c =
    let so_far = c.loop-index.invariant.read in
    let bad : HasNoInstr c.loop-index.rest.now c.read_instr-found.result.1.now = c.read_instr-found.ensures.unknown (rw c.in_default.is refl) in
    unknown_found c.args.start c.loop-index.code.items c.args.bytes.now c.loop-index.rest.now bad.row (fours (words c.read_instr-found.result.1.now)) so_far.are_words so_far.parts bad.parts bad.unknown
    ∙ ap (λ n. Some (c.args.start + 16 * n)) c.loop-index.invariant.so_far

pub loop-index-preserved : goal.loop-index-preserved
loop-index-preserved c = record {
  read = rw c.in_ok-push.ensures.items (code_more c.args.bytes.now c.loop-index.code.items c.loop-index.rest.now c.in-Some.instr c.read_instr-found.result.1.now c.loop-index.invariant.read (rw c.in-Some.is at c.read_instr-found.ensures.found));
  so_far = rw c.in_ok-push.ensures.items (omega (arith, length-append c.loop-index.code.items (c.in-Some.instr ∷ [])));
  left = omega arith;
}
