use Rattle.std.proofs.Common.{◌≡◌, ◌++◌, ◌∷◌, [], length, refl, sym, ap, ap₂, subst, ◌∙◌}
use Rattle.plain_tree.specs.Sums.{variables_of}
use Rattle.closure_convert.specs.Closed.{scope_of}
use Rattle.closure_convert.specs.Counts.{AreDistinct}
use Rattle.capture_scope.specs.Found.{pieces_of}
use Rattle.capture_table.specs.Told.{first_parameter, entry}
use Rattle.capture_table.specs.Levels.{used, levels}
use Rattle.capture_table.proofs.Growing.{assoc}
use Rattle.capture_table.proofs.Levels.{levels-told, innermost-is, innermost-within, front-of}
use Rattle.capture_table.proofs.walk.push_inner.Goals as goal

pub push_levels-requires : goal.push_levels-requires
push_levels-requires c =
    let cs = c.as_slice-captured.result.now in
    let vs = variables_of c.args.parameters.now in
    let v = c.as_slice-captured.ensures.value in
    let q : cs ≡ used c.args.uses.now cs = v ∙ c.requires ∙ ap (used c.args.uses.now) (sym v) in
    let all = innermost-is c.args.uses.now cs vs c.in_ok-innermost.innermost.items q c.in_ok-innermost.ensures.used in
    (front-of cs (used c.args.uses.now vs) c.deref-2.result.now (length cs) (c.deref-2.ensures.value ∙ all) refl).1.1

pub returns-clause-table : goal.returns-clause-table
returns-clause-table c = λ T es.
    let us = c.args.uses.now in
    let ps = c.args.parameters.now in
    let cs = c.as_slice-captured.result.now in
    let items = c.args.capture.now.captured.items in
    let pieces = pieces_of c.args.capture.now.pieces.items in
    let vs = variables_of ps in
    let v = c.as_slice-captured.ensures.value in
    let q : cs ≡ used us cs = v ∙ c.requires ∙ ap (used us) (sym v) in
    let all = innermost-is us cs vs c.in_ok-innermost.innermost.items q c.in_ok-innermost.ensures.used ∙ ap (λ l. l ++ used us vs) v in
    let f = front-of items (used us vs) c.deref-2.result.now (length cs) (c.deref-2.ensures.value ∙ all) (ap length v) in
    let first : c.push.new.self ≡ c.args.found.now ++ entry (first_parameter ps c.args.last) pieces items ∷ [] =
    c.in_ok-push.ensures ∙ ap₂ (λ n l. c.args.found.now ++ entry n (pieces_of c.deref.result.now) l ∷ []) c.number_of.ensures v ∙ ap (λ l. c.args.found.now ++ entry (first_parameter ps c.args.last) (pieces_of l) items ∷ []) c.deref.ensures.value in
    let behind : c.push_levels.new.self ≡ c.push.new.self ++ levels us ps c.args.last items = c.in_ok-push_levels.ensures us f.1.0 ∙ ap (λ l. c.push.new.self ++ levels us ps c.args.last l) f.0 in
    let rest = T (scope_of (items ++ used us vs) [] c.args.last.variable) es in
    ap (λ l. c.args.found.now ++ l) (levels-told us c.args.last T ps pieces items es c.requires (subst AreDistinct all c.in_ok-innermost.ensures.once))
    ∙ sym (assoc c.args.found.now (entry (first_parameter ps c.args.last) pieces items ∷ []) (levels us ps c.args.last items ++ rest))
    ∙ ap (λ l. l ++ (levels us ps c.args.last items ++ rest)) (sym first) ∙ sym (assoc c.push.new.self (levels us ps c.args.last items) rest)
    ∙ ap₂ (λ l k. l ++ T (scope_of k [] c.args.last.variable) es) (sym behind) (sym all)

pub returns-clause-within : goal.returns-clause-within
returns-clause-within c = λ k.
    innermost-within c.args.uses.now c.args.capture.now.captured.items c.in_ok-innermost.innermost.items c.args.parameters.now
    (c.in_ok-innermost.ensures.used ∙ ap (λ l. used c.args.uses.now (l ++ variables_of c.args.parameters.now)) c.as_slice-captured.ensures.value) k
