use Rattle.std.proofs.Common.{ℕ, List, refl, arith}
use Rattle.std.proofs.lemmas.Result.{err_from_is_err_and}
use Rattle.sml_grammar.specs.Terminals.{after_word}
use Rattle.mlc_names.specs.declared.token.Reserved.TheVariants as res
use Rattle.module_tree.specs.ReadModules.{TypeDesc}
use Rattle.module_tree.specs.ModuleBare.{bare_type_desc}
use Rattle.module_grammar.specs.Signatures.{type_desc_turn}
use Rattle.module_code.specs.TreeOf.{type_desc_of}
use Rattle.spec_phrases.specs.DescsRead.{read_type_desc, read_type_descs}
use Rattle.spec_phrases.proofs.Turns.{type-turns}
use Rattle.phrase_base.specs.Left.{left}
use Rattle.phrase_base.proofs.Lists.{word-less, list-start, list-fail, list-more, list-last}
use Rattle.spec_phrases.proofs.descs.read_type_descs.Goals as goal

abbrev dep : TypeDesc → ℕ
dep t = 0

abbrev deps : List TypeDesc → ℕ
deps ts = 0

pub descs-init : goal.descs-init
descs-init g c = record {
  going = list-start (type_desc_turn) type_desc_of (bare_type_desc c.args.source.now.file) deps 0 (left c.args.source.now c.args.tokens.now) c.new-descs.result.items c.new-descs.ensures.items;
  short = omega arith;
}

pub returns-in_err-front : goal.returns-in_err-front
returns-in_err-front g c =
    let p = err_from_is_err_and c.from_residual.result c.from_residual.ensures.1 in
    let h = list-fail (type_desc_turn) (read_type_desc) (after_word res.And) (word-less res.And) (type-turns) type_desc_of (bare_type_desc c.args.source.now.file) dep deps (λ v vs. refl) refl c.args.source.now 0
    (left c.args.source.now c.descs.rest.now) c.descs.descs.items 0 (read_type_descs (left c.args.source.now c.args.tokens.now)) c.in_err-front.field-0.0 (rw c.in_err-front.ensures.second at c.type_desc.ensures.gives) c.descs.invariant.going in
    record { gives = rw (p.1, p.2) h }

pub returns-in_default : goal.returns-in_default
returns-in_default g c =
    let r = (rw c.in_ok-front.ensures.second at c.type_desc.ensures.gives) in
    let h = list-last (type_desc_turn) (read_type_desc) (after_word res.And) (word-less res.And) (type-turns) type_desc_of (bare_type_desc c.args.source.now.file) dep deps (λ v vs. refl) refl c.args.source.now 0
    (left c.args.source.now c.descs.rest.now) c.descs.descs.items 0 (read_type_descs (left c.args.source.now c.args.tokens.now))
    c.in_ok-descs.descs.items 0 c.in_ok-front.got.it c.in_ok-front.got.depth c.in_ok-front.got.rest.now r.got r.is r.same (rw c.in_ok-front.ensures.first at c.in_ok-descs.ensures) (let z = r.same.depth in omega arith) c.descs.invariant.going
    (left c.args.source.now c.args.tokens.now) c.in_default.ensures c.descs.invariant.short in
    record { gives = record { got = h.got; is = h.is; same = h.same } }

pub descs-preserved : goal.descs-preserved
descs-preserved g c =
    let r = (rw c.in_ok-front.ensures.second at c.type_desc.ensures.gives) in
    let h = list-more (type_desc_turn) (read_type_desc) (after_word res.And) (word-less res.And) (type-turns) type_desc_of (bare_type_desc c.args.source.now.file) dep deps (λ v vs. refl) refl c.args.source.now 0
    (left c.args.source.now c.descs.rest.now) c.descs.descs.items 0 (read_type_descs (left c.args.source.now c.args.tokens.now))
    c.in_ok-descs.descs.items 0 c.in_ok-front.got.it c.in_ok-front.got.depth c.in_ok-front.got.rest.now r.got r.is r.same (rw c.in_ok-front.ensures.first at c.in_ok-descs.ensures) (let z = r.same.depth in omega arith) c.descs.invariant.going
    c.in-Some.ensures in
    let a = h.short in let b = c.descs.invariant.short in
    record { going = h.going; short = omega arith }
