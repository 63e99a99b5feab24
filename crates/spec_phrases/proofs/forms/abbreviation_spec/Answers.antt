use Rattle.std.proofs.Common.{sym, ◌∙◌, ap}
use Rattle.std.proofs.lemmas.Result.{err_from_is_err_and}
use Rattle.sml_grammar.specs.Answer.{read, then_read}
use Rattle.sml_grammar.specs.Bindings.{read_type_binds}
use Rattle.module_tree.specs.ReadModules.{abbreviation_spec}
use Rattle.phrase_base.specs.Left.{left}
use Rattle.phrase_base.proofs.Loop.{fails-then}
use Rattle.spec_phrases.proofs.Form.{abbreviations-are}
use Rattle.spec_phrases.proofs.forms.abbreviation_spec.Goals as goal

pub returns-in_err-it : goal.returns-in_err-it
returns-in_err-it g c =
    let p = err_from_is_err_and c.from_residual.result c.from_residual.ensures.1 in
    record { gives = λ q. rw (p.1, p.2) (fails-then c.in_err-it.field-0.0 (read_type_binds c.args.n (left c.args.source.now c.args.tokens.now)) _ c.in_err-it.ensures.gives) }

pub returns : goal.returns
returns g c = record {
  gives = λ q.
      let r = c.in_ok-it.ensures.gives in
      let y = r.same in
      record {
        got = record { tree = abbreviation_spec q r.got.tree; rest = r.got.rest };
        is = ap (λ z. then_read z (λ bs o. read (abbreviation_spec q bs) o)) r.is;
        same = record {
          rest = y.rest;
          same = c.abbreviations.ensures ∙ abbreviations-are c.args.source.now.file c.in_ok-it.field-0.it.items r.got.tree y.same;
          depth = y.depth;
          fits = y.fits;
          shorter = y.shorter;
        };
      };
}
