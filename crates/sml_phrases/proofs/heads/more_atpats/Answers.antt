use Rattle.std.proofs.Common.{length, map, List, ap, ◌∙◌, sym, refl, arith}
use Rattle.std.proofs.lemmas.Result.{err_from_is_err_and}
use Rattle.sml_tree.specs.Terminal.{Terminal}
use Rattle.sml_tree.specs.Bare.{pat_list}
use Rattle.sml_tree.specs.Depth.{depth_pats}
use Rattle.sml_tree.specs.TreeOf.{pat_of}
use Rattle.sml_grammar.specs.Terminals.{no_state}
use Rattle.sml_grammar.specs.Patterns.{atpats_turn}
use Rattle.phrase_base.specs.Left.{left}
use Rattle.phrase_base.proofs.Listing.{listing-start}
use Rattle.sml_phrases.proofs.PatLists.{atpats-more, atpats-last, atpats-fails}
use Rattle.sml_phrases.proofs.heads.more_atpats.Goals as goal

pub patterns-init : goal.patterns-init
patterns-init c = record {
  going = listing-start (atpats_turn c.args.n c.args.fix.now) (pat_list c.args.source.now.file) depth_pats c.args.n (map pat_of c.args.front.items) c.args.depth no_state (left c.args.source.now c.args.tokens.now) c.requires.fits;
  short = omega arith;
}

pub returns-in_err-others : goal.returns-in_err-others
returns-in_err-others c =
    let p = err_from_is_err_and c.from_residual.result c.from_residual.ensures.1 in
    record { gives = rw (p.1, p.2) (atpats-fails c.args.source.now c.args.fix.now c.args.n c.args.front.items c.args.depth c.patterns.all.items c.patterns.deepest (left c.args.source.now c.patterns.rest.now) _ c.in_err-others.field-0.0 (sym c.begins_pat.ensures ∙ c.patterns-test.true) (rw c.in_err-others.ensures.second at c.read_atpat.ensures.gives) c.patterns.invariant.going) }

pub patterns-preserved : goal.patterns-preserved
patterns-preserved c =
    let s = c.args.source.now in
    let h = (rw c.in_ok-others.ensures.second at c.read_atpat.ensures.gives) in
    let sh2 = h.same.shorter in let sh3 = ap (λ (z : List Terminal). length z) h.same.rest in
    record {
      going = atpats-more s c.args.fix.now c.args.n c.args.front.items c.args.depth c.patterns.all.items c.patterns.deepest (left s c.patterns.rest.now) _ c.in_ok-all.all.items c.max-deepest.result c.in_ok-others.pat.it c.in_ok-others.pat.depth c.in_ok-others.pat.rest.now h.got (rw c.in_ok-others.ensures.first at c.in_ok-all.ensures) c.max-deepest.ensures
          (sym c.begins_pat.ensures ∙ c.patterns-test.true) h.is h.same c.patterns.invariant.going;
      short = omega (arith, c.patterns.invariant.short);
    }

pub returns : goal.returns
returns c =
    let s = c.args.source.now in
    let g = atpats-last s c.args.fix.now c.args.n c.args.front.items c.args.depth c.patterns.all.items c.patterns.deepest (left s c.patterns.rest.now) _ (left s c.args.tokens.now) c.patterns.rest.now refl (sym c.begins_pat.ensures ∙ c.patterns-test.false) c.patterns.invariant.short c.patterns.invariant.going in
    record { gives = record { got = g.got; is = g.is; same = g.same } }
