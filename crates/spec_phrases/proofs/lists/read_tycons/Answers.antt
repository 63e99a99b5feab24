use Rattle.std.proofs.Common.{ℕ, List, refl, arith}
use Rattle.std.proofs.lemmas.Result.{err_from_is_err_and}
use Rattle.sml_grammar.specs.Terminals.{after_word}
use Rattle.mlc_names.specs.declared.token.Reserved.TheVariants as res
use Rattle.sml_tree.specs.Terminal.{LongId}
use Rattle.sml_tree.specs.ReadTree.{Placed}
use Rattle.sml_tree.specs.Bare.{bare_long}
use Rattle.sml_tree.specs.TreeOf.{long_id_at_of}
use Rattle.module_grammar.specs.Signatures.{tycon_turn}
use Rattle.spec_phrases.specs.ListsRead.{read_tycon, read_tycons}
use Rattle.spec_phrases.proofs.Turns.{tycon-parts}
use Rattle.phrase_base.specs.Left.{left}
use Rattle.phrase_base.proofs.Lists.{word-less, list-start, list-fail, list-more, list-last}
use Rattle.spec_phrases.proofs.lists.read_tycons.Goals as goal

abbrev dep : Placed LongId → ℕ
dep x = 0

abbrev deps : List (Placed LongId) → ℕ
deps xs = 0

pub tycons-init : goal.tycons-init
tycons-init c = record {
  going = list-start (tycon_turn) long_id_at_of (bare_long c.args.source.now.file) deps 0 (left c.args.source.now c.args.tokens.now) c.new-tycons.result.items c.new-tycons.ensures.items;
  short = omega arith;
}

pub returns-in_err-front : goal.returns-in_err-front
returns-in_err-front c =
    let p = err_from_is_err_and c.from_residual.result c.from_residual.ensures.1 in
    let h = list-fail (tycon_turn) (read_tycon) (after_word res.Equals) (word-less res.Equals) (tycon-parts) long_id_at_of (bare_long c.args.source.now.file) dep deps (λ v vs. refl) refl c.args.source.now 0
    (left c.args.source.now c.tycons.rest.now) c.tycons.tycons.items 0 (read_tycons (left c.args.source.now c.args.tokens.now)) c.in_err-front.field-0.0 (rw c.in_err-front.ensures.second at c.tycon.ensures.gives) c.tycons.invariant.going in
    record { gives = rw (p.1, p.2) h }

pub returns-in_default : goal.returns-in_default
returns-in_default c =
    let r = (rw c.in_ok-front.ensures.second at c.tycon.ensures.gives) in
    let h = list-last (tycon_turn) (read_tycon) (after_word res.Equals) (word-less res.Equals) (tycon-parts) long_id_at_of (bare_long c.args.source.now.file) dep deps (λ v vs. refl) refl c.args.source.now 0
    (left c.args.source.now c.tycons.rest.now) c.tycons.tycons.items 0 (read_tycons (left c.args.source.now c.args.tokens.now))
    c.in_ok-tycons.tycons.items 0 c.in_ok-front.got.it c.in_ok-front.got.depth c.in_ok-front.got.rest.now r.got r.is r.same (rw c.in_ok-front.ensures.first at c.in_ok-tycons.ensures) (let z = r.same.depth in omega arith) c.tycons.invariant.going
    (left c.args.source.now c.args.tokens.now) c.in_default.ensures c.tycons.invariant.short in
    record { gives = record { got = h.got; is = h.is; same = h.same } }

pub tycons-preserved : goal.tycons-preserved
tycons-preserved c =
    let r = (rw c.in_ok-front.ensures.second at c.tycon.ensures.gives) in
    let h = list-more (tycon_turn) (read_tycon) (after_word res.Equals) (word-less res.Equals) (tycon-parts) long_id_at_of (bare_long c.args.source.now.file) dep deps (λ v vs. refl) refl c.args.source.now 0
    (left c.args.source.now c.tycons.rest.now) c.tycons.tycons.items 0 (read_tycons (left c.args.source.now c.args.tokens.now))
    c.in_ok-tycons.tycons.items 0 c.in_ok-front.got.it c.in_ok-front.got.depth c.in_ok-front.got.rest.now r.got r.is r.same (rw c.in_ok-front.ensures.first at c.in_ok-tycons.ensures) (let z = r.same.depth in omega arith) c.tycons.invariant.going
    c.in-Some.ensures in
    let a = h.short in let b = c.tycons.invariant.short in
    record { going = h.going; short = omega arith }
