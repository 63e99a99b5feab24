use Rattle.std.proofs.Common.{map, [], ◌∷◌, refl, ◌∙◌}
use Rattle.std.proofs.lemmas.Result.{err_from_is_err_and}
use Rattle.sml_tree.specs.Bare.{at}
use Rattle.module_tree.specs.BareModules as bare
use Rattle.module_tree.specs.ReadModules.{exception_spec}
use Rattle.module_tree.specs.ModuleBare.{bare_con_desc}
use Rattle.module_tree.specs.ModuleDepth.{depth_con_descs, depth_spec}
use Rattle.module_code.specs.TreeOf.{con_desc_of, spec_of}
use Rattle.phrase_base.specs.Left.{left}
use Rattle.phrase_base.proofs.Loop.{fails-then}
use Rattle.mlc_names.specs.declared.token.Reserved.TheVariants as res
use Rattle.module_grammar.specs.Signatures.{read_con_descs}
use Rattle.spec_phrases.specs.FormsRead.{spec_list}
use Rattle.spec_phrases.proofs.Form.{form-one}
use Rattle.spec_phrases.proofs.forms.exception_spec.Goals as goal

pub returns-in_err-it : goal.returns-in_err-it
returns-in_err-it g c =
    let p = err_from_is_err_and c.from_residual.result c.from_residual.ensures.1 in
    record { gives = λ q e. rw (p.1, p.2) (fails-then c.in_err-it.field-0.0 (read_con_descs c.args.n res.And (left c.args.source.now c.args.tokens.now)) _ c.in_err-it.ensures.gives) }

pub returns : goal.returns
returns g c = record {
  gives = λ q e.
      let r = c.in_ok-it.ensures.gives in
      let h = form-one (map con_desc_of) (map (bare_con_desc c.args.source.now.file)) depth_con_descs spec_of (spec_list c.args.source.now.file) depth_spec c.args.source.now c.args.n (left c.args.source.now c.args.tokens.now) c.in_ok-it.field-0.it.items c.in_ok-it.field-0.depth c.in_ok-it.field-0.rest.now
      (read_con_descs c.args.n res.And (left c.args.source.now c.args.tokens.now)) c.exceptions.result (exception_spec q) (λ vs. bare.exception_spec (at c.args.source.now.file q) vs ∷ []) (c.exceptions.ensures ∙ rw e refl) (λ t. refl) (λ t. refl) (record { got = r.got; is = r.is; same = r.same }) in
      record { got = h.got; is = h.is; same = h.same };
}
