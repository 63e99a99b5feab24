use Rattle.std.proofs.Common.{Some, sym, ap, ◌∙◌}
use Rattle.ir_plain.specs.Tree.{construct, refer, pack}
use Rattle.match_compile.specs.Compile.{atom, building, scoped}
use Rattle.exp_steps.specs.Ways.{built_of, made_at}
use Rattle.exp_steps.proofs.calls.construction.Goals as goal

pub returns-in-Constructor : goal.returns-in-Constructor
returns-in-Constructor c = λ v u w is.
    ap (λ k. construct (Some c.args.place) c.in-Constructor.constructor k (atom c.args.value)) (is ∙ ap (λ y. scoped v.scope (made_at (built_of y v.source) u w)) c.in-Constructor.is)
    ∙ ap (λ y. building v.scope (built_of y v.source) c.args.place u w c.args.name c.args.value) (sym c.in-Constructor.is)

pub returns-in-Reference : goal.returns-in-Reference
returns-in-Reference c = λ v u w is.
    ap (λ k. refer (Some c.args.place) k (atom c.args.value)) (is ∙ ap (λ y. scoped v.scope (made_at (built_of y v.source) u w)) c.in-Reference.is)
    ∙ ap (λ y. building v.scope (built_of y v.source) c.args.place u w c.args.name c.args.value) (sym c.in-Reference.is)

pub returns-in-Exception : goal.returns-in-Exception
returns-in-Exception c = λ v u w is.
    ap (λ k. pack (Some c.args.place) k (atom c.args.name) (atom c.args.value)) (is ∙ ap (λ y. scoped v.scope (made_at (built_of y v.source) u w)) c.in-Exception.is)
    ∙ ap (λ y. building v.scope (built_of y v.source) c.args.place u w c.args.name c.args.value) (sym c.in-Exception.is)
