use Rattle.std.proofs.Common.{rules, sym, ap, ◌∙◌, map, map-id}
use Rattle.std.proofs.lemmas.Iterator.Adapters.{YieldsList-from_vec}
use Rattle.std.proofs.lemmas.Iterator.Consumers.{YieldsList-end}
use Rattle.module_tree.specs.BareModules as bare
use Rattle.module_code.specs.TreeOf.{str_dec_of}
use Rattle.str_phrases.proofs.Growing.{longer-maps}
use Rattle.str_phrases.proofs.decs.mapped.Goals as goal

pub loop-dec-preserved : goal.loop-dec-preserved
loop-dec-preserved g c = λ of.
    longer-maps (str_dec_of of) c.loop-dec.made.items _ c.core.result c.in_ok-push.ensures.items (λ d. bare.core_dec (of d)) c.loop-dec.yielded c.in-Some.dec (c.loop-dec.invariant of) (c.core.ensures of)

pub returns : goal.returns
returns g c = λ of.
    let end = YieldsList-end (YieldsList-from_vec {s = c.into_iter-dec-iterator.result} c.args.decs.items (search rules) (search rules)) c.loop-dec.yielded c.loop-dec.dec-iterator c.loop-dec.yielded_by c.next.result c.next.new.self c.in-None.is c.next.ensures.steps in
    c.loop-dec.invariant of ∙ ap (map (λ d. bare.core_dec (of d))) (rw map-id at end.0)
