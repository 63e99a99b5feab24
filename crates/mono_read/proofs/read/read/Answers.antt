use Rattle.std.proofs.Common.{length, ◌≡◌, ◌<◌, ◌+◌, ◌-◌, arith}
use Rattle.mono_read.proofs.Given.{if-ok}
use Rattle.mono_read.proofs.Stacked.{built-none, built-next, built-all}
use Rattle.mono_read.proofs.read.read.Goals as goal

pub loop-left-init : goal.loop-left-init
loop-left-init c = record { within = omega arith; built = λ types strings. built-none types strings c.args.words.now (length c.args.words.now) c.new-stack.result.items (omega arith) c.new-stack.ensures.items }

pub loop-left-preserved : goal.loop-left-preserved
loop-left-preserved c =
    let w = c.loop-left.invariant.within in
    let q = c.loop-left-test.true in
    let m : c.loop-left.left ≡ (c.loop-left.left - 1) + 1 = omega (arith, q) in
    let lt : c.loop-left.left - 1 < length c.args.words.now = omega (arith, w, q) in
    record {
      within = omega (arith, w);
      built = λ types strings. built-next types strings c.args.words.now c.loop-left.left (c.loop-left.left - 1) c.index-words-left.result c.index-words-left.result _ _ m lt c.index-words-left.is (c.loop-left.invariant.built types strings) (c.in_ok-put_word.ensures types strings);
    }

pub returns : goal.returns
returns c =
    let z : c.loop-left.left ≡ 0 = (let q = c.loop-left-test.false in omega (arith, q)) in
    if-ok _ _ c.take_exp.result (λ made h types strings e w. built-all types strings c.args.words.now c.loop-left.left _ _ made e z (c.loop-left.invariant.built types strings) (h types strings) w) c.take_exp.ensures
