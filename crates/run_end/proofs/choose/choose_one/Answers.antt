use Rattle.std.proofs.Common.{ap, ◌∙◌}
use Rattle.ty_core.specs.Marks.{overloaded}
use Rattle.ty_core.specs.Types.{con, none, name}
use Rattle.ty_core.specs.declared.mark.Mark.{Mark}
use Rattle.ty_solve.proofs.Holding.{type-stays}
use Rattle.elab_state.specs.States.{types_in}
use Rattle.elab_steps.proofs.Changing.{if-ok}
use Rattle.elab_steps.proofs.Growing.{grows_on, type_later}
use Rattle.elab_worlds.specs.Final.{default_of}
use Rattle.run_end.proofs.Choosing.{if-both, stands-for}
use Rattle.run_end.proofs.choose.choose_one.Goals as goal

pub bind-requires-clause-own : goal.bind-requires-clause-own
bind-requires-clause-own c = type_later c.variable_type.new.state c.named_type.new.state c.in_ok-own.own c.in_ok-ty.ensures.grows c.in_ok-own.ensures.ty

pub bind-requires-clause-is_free : goal.bind-requires-clause-is_free
bind-requires-clause-is_free c =
    (Mark.Class c.args.class, ap (λ f. f c.args.variable) (c.in_ok-ty.ensures.said ∙ c.in_ok-own.ensures.said) ∙ c.requires.is_free)

pub returns-clause-grows : goal.returns-clause-grows
returns-clause-grows c =
    if-ok c.bind.result
    (λ x g.
    grows_on c.args.state.now c.variable_type.new.state c.bind.new.state c.in_ok-own.ensures.grows
    (grows_on c.variable_type.new.state c.named_type.new.state c.bind.new.state c.in_ok-ty.ensures.grows g))
    c.bind.ensures.grows

pub returns-clause-chosen : goal.returns-clause-chosen
returns-clause-chosen c =
    let M = c.variable_type.new.state in
    let N = c.named_type.new.state in
    let y = overloaded (default_of c.args.class) in
    let own = type_later M N c.in_ok-own.own c.in_ok-ty.ensures.grows c.in_ok-own.ensures.ty in
    let is = type-stays (types_in M) (types_in N) c.in_ok-own.own c.in_ok-ty.ensures.grows.types c.in_ok-own.ensures.ty.held ∙ c.in_ok-own.ensures.is in
    let named = c.in_ok-ty.ensures.is ∙ ap (λ z. con (name z) none) c.default_name.ensures in
    if-both c.bind.result (λ x g e. stands-for N c.bind.new.state c.args.variable c.in_ok-own.own c.in_ok-ty.ty y g own c.in_ok-ty.ensures.ty is named e) c.bind.ensures.grows
    c.bind.ensures.equal

pub returns-clause-others : goal.returns-clause-others
returns-clause-others c =
    if-ok c.bind.result (λ r h. λ x ne. h x ne ∙ ap (λ f. f x) (c.in_ok-ty.ensures.said ∙ c.in_ok-own.ensures.said)) c.bind.ensures.others
