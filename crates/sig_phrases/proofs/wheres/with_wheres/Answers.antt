use Rattle.std.proofs.Common.{◌+◌, List, length, ap, arith}
use Rattle.std.proofs.lemmas.Result.{err_from_is_err_and}
use Rattle.mlc_names.specs.declared.token.Reserved.TheVariants as res
use Rattle.sml_tree.specs.Terminal.{Terminal}
use Rattle.phrase_base.specs.Left.{left}
use Rattle.phrase_base.proofs.Shorter.{word-shorter}
use Rattle.sig_phrases.proofs.Growth.{grows-start, grows-last, grows-deep, grows-fail, grows-more}
use Rattle.sig_phrases.proofs.wheres.with_wheres.Goals as goal

pub suffixes-init : goal.suffixes-init
suffixes-init g c = λ i a is. grows-start c.args.source.now c.args.n i c.args.first c.args.depth c.args.tokens.now a is

pub returns-in_default : goal.returns-in_default
returns-in_default g c = record {
  gives = λ i a is.
      let h = grows-last c.args.source.now c.args.n i c.suffixes.sig c.suffixes.deep c.suffixes.rest.now _ (c.suffixes.invariant i a is) c.in_default.ensures in
      record { got = h.got; is = h.is; same = h.same };
}

pub returns-in_err-before : goal.returns-in_err-before
returns-in_err-before g c =
    let p = err_from_is_err_and c.from_residual.result c.from_residual.ensures.1 in
    record {
      gives = λ i a is.
          rw (p.1, p.2) (grows-deep c.args.source.now c.args.n i c.suffixes.sig c.suffixes.deep c.suffixes.rest.now _ (c.suffixes.invariant i a is) _ c.in-Some.ensures c.in_err-before.field-0.0 _
          (rw c.in_err-before.ensures.second at c.room.ensures.stop) (rw c.in_err-before.ensures.second at c.room.ensures.fits));
    }

pub returns-in_err-under : goal.returns-in_err-under
returns-in_err-under g c =
    let p = err_from_is_err_and c.from_residual-in_err-under.result c.from_residual-in_err-under.ensures.1 in
    record {
      gives = λ i a is.
          rw (p.1, p.2) (grows-fail c.args.source.now c.args.n i c.suffixes.sig c.suffixes.deep c.suffixes.rest.now _ (c.suffixes.invariant i a is) _ c.in-Some.ensures c.in_err-under.field-0.0
          (rw c.in_ok-before.ensures.second at c.room.ensures.fits) (rw c.in_err-under.ensures.second at c.read_wheres.ensures.gives));
    }

pub suffixes-preserved : goal.suffixes-preserved
suffixes-preserved g c = λ i a is.
    let w = rw c.in_ok-under.ensures.second at c.read_wheres.ensures.gives in
    grows-more c.args.source.now c.args.n i c.suffixes.sig c.suffixes.deep c.suffixes.rest.now _ (c.suffixes.invariant i a is) _ c.in-Some.ensures c.in_ok-under.got.it.items c.in_ok-under.got.depth c.in_ok-under.got.rest.now w.got
    c.in_ok-sig.sig (c.max-below.result + 1) (rw c.in_ok-before.ensures.second at c.room.ensures.fits) w.is w.same (rw (c.in_ok-under.ensures.first, c.in_ok-before.ensures.first) at c.in_ok-sig.ensures) (omega (arith, c.max-below.ensures))

pub suffixes-smaller : goal.suffixes-smaller
suffixes-smaller g c =
    let w = rw c.in_ok-under.ensures.second at c.read_wheres.ensures.gives in
    let l1 = word-shorter res.Where (left c.args.source.now c.suffixes.rest.now) (left c.args.source.now c.in-Some.after.now) c.in-Some.ensures in
    let l2 = w.same.shorter in let l3 = ap (λ (z : List Terminal). length z) w.same.rest in
    omega arith
