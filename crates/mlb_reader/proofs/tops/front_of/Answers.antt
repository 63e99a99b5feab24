use Rattle.std.proofs.Common.{rules}
use Rattle.std.proofs.lemmas.Iterator.Adapters.{YieldsList-from_vec}
use Rattle.std.proofs.lemmas.Iterator.Consumers.{YieldsList-so_far, YieldsList-turn, YieldsList-end}
use Rattle.mlb_reader.proofs.TopLemmas.{front-cut, front-end}
use Rattle.mlb_reader.proofs.tops.front_of.Goals as goal

pub returns-in-Other-clause-decs : goal.returns-in-Other-clause-decs
returns-in-Other-clause-decs g c = λ of.
    let from = YieldsList-from_vec {s = c.into_iter-top-iterator.result} c.args.tops.items (search rules) (search rules) in
    let front = YieldsList-so_far from c.loop-top.yielded c.loop-top.top-iterator c.loop-top.yielded_by in
    let turn = YieldsList-turn from c.loop-top.yielded c.loop-top.top-iterator c.loop-top.yielded_by c.next.result c.next.new.self c.in-Some.top c.in-Some.is c.next.ensures.steps in
    (front-cut of c.loop-top.yielded c.loop-top.decs.items (c.loop-top.invariant of) c.args.tops.items c.in-Some.top c.in-Other.place front turn.0 turn.1 (c.in-Other.ensures of)).0

pub returns-in-Other-clause-other : goal.returns-in-Other-clause-other
returns-in-Other-clause-other g c = λ of.
    let from = YieldsList-from_vec {s = c.into_iter-top-iterator.result} c.args.tops.items (search rules) (search rules) in
    let front = YieldsList-so_far from c.loop-top.yielded c.loop-top.top-iterator c.loop-top.yielded_by in
    let turn = YieldsList-turn from c.loop-top.yielded c.loop-top.top-iterator c.loop-top.yielded_by c.next.result c.next.new.self c.in-Some.top c.in-Some.is c.next.ensures.steps in
    (front-cut of c.loop-top.yielded c.loop-top.decs.items (c.loop-top.invariant of) c.args.tops.items c.in-Some.top c.in-Other.place front turn.0 turn.1 (c.in-Other.ensures of)).1

pub returns-clause-decs : goal.returns-clause-decs
returns-clause-decs g c = λ of.
    let from = YieldsList-from_vec {s = c.into_iter-top-iterator.result} c.args.tops.items (search rules) (search rules) in
    let end = YieldsList-end from c.loop-top.yielded c.loop-top.top-iterator c.loop-top.yielded_by c.next.result c.next.new.self c.in-None.is c.next.ensures.steps in
    (front-end of c.loop-top.yielded c.loop-top.decs.items (c.loop-top.invariant of) c.args.tops.items end.0).0

pub returns-clause-other : goal.returns-clause-other
returns-clause-other g c = λ of.
    let from = YieldsList-from_vec {s = c.into_iter-top-iterator.result} c.args.tops.items (search rules) (search rules) in
    let end = YieldsList-end from c.loop-top.yielded c.loop-top.top-iterator c.loop-top.yielded_by c.next.result c.next.new.self c.in-None.is c.next.ensures.steps in
    (front-end of c.loop-top.yielded c.loop-top.decs.items (c.loop-top.invariant of) c.args.tops.items end.0).1
