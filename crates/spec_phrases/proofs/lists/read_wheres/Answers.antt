use Rattle.std.proofs.Common.{ℕ, refl, arith}
use Rattle.std.proofs.lemmas.Result.{err_from_is_err_and}
use Rattle.sml_tree.specs.Depth.{depth_ty}
use Rattle.module_tree.specs.ReadModules.{WhereType}
use Rattle.module_tree.specs.ModuleDepth.{depth_where_types}
use Rattle.module_grammar.specs.Signatures.{where_turn}
use Rattle.spec_phrases.specs.ListsRead.{where_of, bare_where, read_where, read_wheres, after_and_type}
use Rattle.spec_phrases.proofs.Turns.{and-less, where-parts}
use Rattle.phrase_base.specs.Left.{left}
use Rattle.phrase_base.proofs.Lists.{list-start, list-fail, list-more, list-last}
use Rattle.spec_phrases.proofs.lists.read_wheres.Goals as goal

abbrev dep : WhereType → ℕ
dep w = depth_ty w.ty

pub wheres-init : goal.wheres-init
wheres-init g c = record {
  going = list-start (where_turn c.args.n) where_of (bare_where c.args.source.now.file) depth_where_types c.args.n (left c.args.source.now c.args.tokens.now) c.new-wheres.result.items c.new-wheres.ensures.items;
  short = omega arith;
}

pub returns-in_err-front : goal.returns-in_err-front
returns-in_err-front g c =
    let p = err_from_is_err_and c.from_residual.result c.from_residual.ensures.1 in
    let h = list-fail (where_turn c.args.n) (read_where c.args.n) (after_and_type) (and-less) (where-parts c.args.n) where_of (bare_where c.args.source.now.file) dep depth_where_types (λ v vs. refl) refl c.args.source.now c.args.n
    (left c.args.source.now c.wheres.rest.now) c.wheres.wheres.items c.wheres.deepest (read_wheres c.args.n (left c.args.source.now c.args.tokens.now)) c.in_err-front.field-0.0 (rw c.in_err-front.ensures.second at c.where_type.ensures.gives) c.wheres.invariant.going in
    record { gives = rw (p.1, p.2) h }

pub returns-in_default : goal.returns-in_default
returns-in_default g c =
    let r = (rw c.in_ok-front.ensures.second at c.where_type.ensures.gives) in
    let h = list-last (where_turn c.args.n) (read_where c.args.n) (after_and_type) (and-less) (where-parts c.args.n) where_of (bare_where c.args.source.now.file) dep depth_where_types (λ v vs. refl) refl c.args.source.now c.args.n
    (left c.args.source.now c.wheres.rest.now) c.wheres.wheres.items c.wheres.deepest (read_wheres c.args.n (left c.args.source.now c.args.tokens.now))
    c.in_ok-wheres.wheres.items c.max-deepest.result c.in_ok-front.got.it c.in_ok-front.got.depth c.in_ok-front.got.rest.now r.got r.is r.same (rw c.in_ok-front.ensures.first at c.in_ok-wheres.ensures) c.max-deepest.ensures c.wheres.invariant.going
    (left c.args.source.now c.args.tokens.now) c.in_default.ensures c.wheres.invariant.short in
    record { gives = record { got = h.got; is = h.is; same = h.same } }

pub wheres-preserved : goal.wheres-preserved
wheres-preserved g c =
    let r = (rw c.in_ok-front.ensures.second at c.where_type.ensures.gives) in
    let h = list-more (where_turn c.args.n) (read_where c.args.n) (after_and_type) (and-less) (where-parts c.args.n) where_of (bare_where c.args.source.now.file) dep depth_where_types (λ v vs. refl) refl c.args.source.now c.args.n
    (left c.args.source.now c.wheres.rest.now) c.wheres.wheres.items c.wheres.deepest (read_wheres c.args.n (left c.args.source.now c.args.tokens.now))
    c.in_ok-wheres.wheres.items c.max-deepest.result c.in_ok-front.got.it c.in_ok-front.got.depth c.in_ok-front.got.rest.now r.got r.is r.same (rw c.in_ok-front.ensures.first at c.in_ok-wheres.ensures) c.max-deepest.ensures c.wheres.invariant.going
    c.in-Some.ensures in
    let a = h.short in let b = c.wheres.invariant.short in
    record { going = h.going; short = omega arith }
