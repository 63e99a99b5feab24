use Rattle.std.proofs.Common.{subst}
use Rattle.std.specs.List.{AllByRecursion}
use Rattle.closure_first.specs.Held.{IsByte}
use Rattle.closure_first.proofs.Holding.{TextIsBytes, all-next, all-done, texts-held}
use Rattle.closure_first.proofs.texts.texts_are_bytes.Goals as goal

pub loop-i-preserved : goal.loop-i-preserved
loop-i-preserved c =
    all-next TextIsBytes c.args.strings.now c.loop-i.i c.index-strings-i.result c.index-strings-i.result c.loop-i-test.true c.index-strings-i.is
    (subst (AllByRecursion IsByte) c.deref.ensures.value c.bytes_are_bytes.ensures) c.loop-i.invariant

pub returns : goal.returns
returns c = texts-held c.args.strings.now (all-done TextIsBytes c.args.strings.now c.loop-i.i c.loop-i-test.false c.loop-i.invariant)
