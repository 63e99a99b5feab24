use Rattle.std.proofs.Common.{ap, ◌∙◌}
use Rattle.flow_types.specs.Kinds.{items_of}
use Rattle.flow_types.specs.of_closure_whole.Tags.{tag_by}
use Rattle.closure_parts.specs.Indexed.{texts_of}
use Rattle.closure_parts.proofs.Whole.{holds-by}
use Rattle.closure_parts.proofs.setting.Setting.new.Goals as goal

pub returns : goal.returns
returns c = λ F initial expansion h.
    holds-by c.args.types.now (texts_of c.args.strings.now) c.args.body.now
    (record { flow = c.args.flow; tags = c.in_ok-tags.tags; names = c.in_ok-names.names; captures = c.in_ok-captures.captures; places = c.in_ok-places.places }) c.push_bound.new.found.items c.new-found.result.items c.deref.result.now F initial expansion c.in_ok-push_bound.ensures c.new-found.ensures.items c.deref.ensures.value
    c.bound_is_bound.ensures c.in_ok-names.ensures h (λ k. c.in_ok-tags.ensures k ∙ ap (λ l. tag_by (items_of l) k) c.deref-2.ensures.value) (c.in_ok-captures.ensures.table c.args.types.now (texts_of c.args.strings.now)) c.in_ok-places.ensures.places
    c.in_ok-places.ensures.texts
