use Rattle.std.proofs.lemmas.Result.{err_from_is_err_and}
use Rattle.module_grammar.specs.Signatures.{binds_type, type_form}
use Rattle.phrase_base.specs.Left.{left}
use Rattle.phrase_base.proofs.Loop.{fails-then}
use Rattle.spec_phrases.specs.FormsRead.{read_abbreviation_spec, read_type_spec}
use Rattle.spec_phrases.proofs.Form.{gives-by, binding-form, naming-form}
use Rattle.spec_phrases.proofs.forms.type_form.Goals as goal

pub returns-in_err-binds : goal.returns-in_err-binds
returns-in_err-binds g c =
    let p = err_from_is_err_and c.from_residual.result c.from_residual.ensures.1 in
    record { gives = λ q e. rw (p.1, p.2) (fails-then c.in_err-binds.field-0.0 (binds_type (left c.args.source.now c.args.tokens.now)) _ c.in_err-binds.ensures.gives) }

pub returns-then-binds : goal.returns-then-binds
returns-then-binds g c =
    let i = left c.args.source.now c.args.tokens.now in
    let b = c.in_ok-binds.ensures.gives in
    record { gives = λ q e. gives-by _ c.abbreviation_spec.result (type_form c.args.n q i) (read_abbreviation_spec c.args.n q i) (binding-form c.args.n q i c.in_ok-binds.binds b.got b.is b.same c.if-binds.true) (c.abbreviation_spec.ensures.gives q) }

pub returns-else-binds : goal.returns-else-binds
returns-else-binds g c =
    let i = left c.args.source.now c.args.tokens.now in
    let b = c.in_ok-binds.ensures.gives in
    record { gives = λ q e. gives-by _ c.type_spec.result (type_form c.args.n q i) (read_type_spec q i) (naming-form c.args.n q i c.in_ok-binds.binds b.got b.is b.same c.if-binds.false) (c.type_spec.ensures.gives q e) }
