use Rattle.std.proofs.Common.{ℕ, refl, arith}
use Rattle.std.proofs.lemmas.Result.{err_from_is_err_and}
use Rattle.sml_grammar.specs.Terminals.{after_word}
use Rattle.mlc_names.specs.declared.token.Reserved.TheVariants as res
use Rattle.sml_tree.specs.Depth.{depth_ty}
use Rattle.module_tree.specs.ReadModules.{ValDesc}
use Rattle.module_tree.specs.ModuleBare.{bare_val_desc}
use Rattle.module_tree.specs.ModuleDepth.{depth_val_descs}
use Rattle.module_grammar.specs.Signatures.{val_desc_turn}
use Rattle.module_code.specs.TreeOf.{val_desc_of}
use Rattle.phrase_base.specs.Left.{left}
use Rattle.phrase_base.proofs.Lists.{word-less, list-start, list-fail, list-more, list-last}
use Rattle.spec_phrases.specs.DescsRead.{read_val_desc, read_val_descs}
use Rattle.spec_phrases.proofs.Turns.{val-turns}
use Rattle.spec_phrases.proofs.descs.read_val_descs.Goals as goal

abbrev dep : ValDesc → ℕ
dep v = depth_ty v.ty

pub descs-init : goal.descs-init
descs-init g c = record {
  going = list-start (val_desc_turn c.args.n) val_desc_of (bare_val_desc c.args.source.now.file) depth_val_descs c.args.n (left c.args.source.now c.args.tokens.now) c.new-descs.result.items c.new-descs.ensures.items;
  short = omega arith;
}

pub returns-in_err-front : goal.returns-in_err-front
returns-in_err-front g c =
    let p = err_from_is_err_and c.from_residual.result c.from_residual.ensures.1 in
    let h = list-fail (val_desc_turn c.args.n) (read_val_desc c.args.n) (after_word res.And) (word-less res.And) (val-turns c.args.n) val_desc_of (bare_val_desc c.args.source.now.file) dep depth_val_descs (λ v vs. refl) refl c.args.source.now c.args.n
    (left c.args.source.now c.descs.rest.now) c.descs.descs.items c.descs.deepest (read_val_descs c.args.n (left c.args.source.now c.args.tokens.now)) c.in_err-front.field-0.0 (rw c.in_err-front.ensures.second at c.val_desc.ensures.gives) c.descs.invariant.going in
    record { gives = rw (p.1, p.2) h }

pub returns-in_default : goal.returns-in_default
returns-in_default g c =
    let r = (rw c.in_ok-front.ensures.second at c.val_desc.ensures.gives) in
    let h = list-last (val_desc_turn c.args.n) (read_val_desc c.args.n) (after_word res.And) (word-less res.And) (val-turns c.args.n) val_desc_of (bare_val_desc c.args.source.now.file) dep depth_val_descs (λ v vs. refl) refl c.args.source.now c.args.n
    (left c.args.source.now c.descs.rest.now) c.descs.descs.items c.descs.deepest (read_val_descs c.args.n (left c.args.source.now c.args.tokens.now))
    c.in_ok-descs.descs.items c.max-deepest.result c.in_ok-front.got.it c.in_ok-front.got.depth c.in_ok-front.got.rest.now r.got r.is r.same (rw c.in_ok-front.ensures.first at c.in_ok-descs.ensures) c.max-deepest.ensures c.descs.invariant.going
    (left c.args.source.now c.args.tokens.now) c.in_default.ensures c.descs.invariant.short in
    record { gives = record { got = h.got; is = h.is; same = h.same } }

pub descs-preserved : goal.descs-preserved
descs-preserved g c =
    let r = (rw c.in_ok-front.ensures.second at c.val_desc.ensures.gives) in
    let h = list-more (val_desc_turn c.args.n) (read_val_desc c.args.n) (after_word res.And) (word-less res.And) (val-turns c.args.n) val_desc_of (bare_val_desc c.args.source.now.file) dep depth_val_descs (λ v vs. refl) refl c.args.source.now c.args.n
    (left c.args.source.now c.descs.rest.now) c.descs.descs.items c.descs.deepest (read_val_descs c.args.n (left c.args.source.now c.args.tokens.now))
    c.in_ok-descs.descs.items c.max-deepest.result c.in_ok-front.got.it c.in_ok-front.got.depth c.in_ok-front.got.rest.now r.got r.is r.same (rw c.in_ok-front.ensures.first at c.in_ok-descs.ensures) c.max-deepest.ensures c.descs.invariant.going
    c.in-Some.ensures in
    let a = h.short in let b = c.descs.invariant.short in
    record { going = h.going; short = omega arith }
