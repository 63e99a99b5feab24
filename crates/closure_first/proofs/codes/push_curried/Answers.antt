use Rattle.std.proofs.Common.{[], refl}
use Rattle.closure_first.proofs.Walking.{curried-next, curried-done}
use Rattle.closure_first.proofs.codes.push_curried.Goals as goal

pub loop-i-preserved : goal.loop-i-preserved
loop-i-preserved c = λ types strings n F T h.
    curried-next n types strings F T c.args.parameters.now c.args.last c.loop-i.i _ _ _ c.number_at-next.result c.args.found.now.items c.loop-i.found.items c.push_giving.new.found.items c.loop-i-test.true refl refl
    c.number_at-next.ensures (c.in_ok-push_giving.ensures.codes types strings n F T h _ [] (c.in_ok-scope.ensures types strings n F T h)) (c.loop-i.invariant types strings n F T h)

pub returns : goal.returns
returns c = λ types strings n F T h.
    curried-done n types strings F T c.args.parameters.now c.args.last c.loop-i.i c.args.found.now.items c.loop-i.found.items c.loop-i-test.false (c.loop-i.invariant types strings n F T h)
