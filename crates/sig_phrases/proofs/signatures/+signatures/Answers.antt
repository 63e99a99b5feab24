use Rattle.std.proofs.Common.{refl, arith}
use Rattle.std.proofs.lemmas.Result.{err_from_is_err_and}
use Rattle.mlc_names.specs.declared.token.Reserved.TheVariants as res
use Rattle.sml_grammar.specs.Answer.{whole}
use Rattle.sml_grammar.specs.Terminals.{no_state, place_at}
use Rattle.module_grammar.specs.Signatures.{read_sig, str_desc_turn}
use Rattle.phrase_base.specs.Left.{left}
use Rattle.phrase_base.proofs.Loop.{fails-by}
use Rattle.phrase_base.proofs.Shorter.{word-shorter}
use Rattle.sig_phrases.proofs.Separated.{list-start, list-fail, list-more, list-last}
use Rattle.sig_phrases.proofs.Starts.{sig-none, sig-named, atom-fails, suffixed}
use Rattle.sig_phrases.proofs.Specs.{descs-form, specs-start, specs-pass, specs-end, specs-fail, specs-more}
use Rattle.sig_phrases.proofs.signatures.+signatures.Goals as goal

pub read_sig-returns-then-n-eq0 : goal.read_sig-returns-then-n-eq0
read_sig-returns-then-n-eq0 g t c = record { gives = fails-by c.no_sig_room.result (read_sig c.args.n (left c.args.source.now c.args.tokens.now)) _ (sig-none c.args.n (left c.args.source.now c.args.tokens.now) c.if-n-eq0.true) c.no_sig_room.ensures }

pub read_sig-returns-in_err-it : goal.read_sig-returns-in_err-it
read_sig-returns-in_err-it g t c =
    let p = err_from_is_err_and c.from_residual.result c.from_residual.ensures.1 in
    record { gives = rw (p.1, p.2) (atom-fails c.args.source.now c.args.n (left c.args.source.now c.args.tokens.now) (omega arith) c.in_err-it.field-0.0 c.in_err-it.ensures.gives) }

pub read_sig-returns : goal.read_sig-returns
read_sig-returns g t c =
    let i = left c.args.source.now c.args.tokens.now in
    let a = c.in_ok-it.ensures.gives in
    record { gives = suffixed c.args.source.now c.args.n i (omega arith) a.got c.with_wheres.result a.is (c.with_wheres.ensures.gives i a.got a.same) }

pub sig_atom-returns-in_default : goal.sig_atom-returns-in_default
sig_atom-returns-in_default g t c =
    let i = left c.args.source.now c.args.tokens.now in
    record { gives = sig-named c.args.source.now c.args.n i c.named_sig.result (read_sig c.args.n) c.in_default.ensures (c.named_sig.ensures.gives c.args.n (read_sig c.args.n)) }

pub read_specs-specs-init : goal.read_specs-specs-init
read_specs-specs-init g t c = record {
  going = specs-start c.args.source.now c.args.n (left c.args.source.now c.args.tokens.now) c.new-specs.result.items c.new-specs.ensures.items;
  short = omega arith;
}

pub read_specs-specs-preserved-in-Some : goal.read_specs-specs-preserved-in-Some
read_specs-specs-preserved-in-Some g t c =
    let s = c.args.source.now in
    let l1 = word-shorter res.Semicolon (left s c.specs.rest.now) (left s c.in-Some.next.now) c.in-Some.ensures in
    let le = c.specs.invariant.short in
    record {
      going = specs-pass s c.args.n (left s c.specs.rest.now) c.specs.specs.items c.specs.deepest _ c.specs.invariant.going (left s c.in-Some.next.now) c.in-Some.ensures;
      short = omega arith;
    }

pub read_specs-returns-in_default-spec_word : goal.read_specs-returns-in_default-spec_word
read_specs-returns-in_default-spec_word g t c =
    let s = c.args.source.now in
    let h = specs-end s c.args.n (left s c.specs.rest.now) c.specs.specs.items c.specs.deepest _ c.specs.invariant.going (left s c.args.tokens.now) c.specs.rest.now refl c.in_default.ensures c.in_default-spec_word.ensures c.specs.invariant.short in
    record { gives = record { got = h.got; is = h.is; same = h.same } }

pub read_specs-returns-in_err-front : goal.read_specs-returns-in_err-front
read_specs-returns-in_err-front g t c =
    let s = c.args.source.now in
    let p = err_from_is_err_and c.from_residual.result c.from_residual.ensures.1 in
    let f = rw c.in_err-front.ensures.second at (c.read_spec.ensures.gives (place_at (left s c.specs.rest.now)) c.place_at-place.ensures) in
    record { gives = rw (p.1, p.2) (specs-fail s c.args.n (left s c.specs.rest.now) c.specs.specs.items c.specs.deepest _ c.specs.invariant.going c.in-Some-spec_word.word c.in_default.ensures c.in-Some-spec_word.ensures c.in_err-front.field-0.0 (rw c.tail-inner.ensures at f)) }

pub read_specs-specs-preserved : goal.read_specs-specs-preserved
read_specs-specs-preserved g t c =
    let s = c.args.source.now in
    let w = rw c.in_ok-front.ensures.second at (c.read_spec.ensures.gives (place_at (left s c.specs.rest.now)) c.place_at-place.ensures) in
    let h = specs-more s c.args.n (left s c.specs.rest.now) c.specs.specs.items c.specs.deepest _ c.specs.invariant.going c.in-Some-spec_word.word c.in_default.ensures c.in-Some-spec_word.ensures (left s c.tail-inner.result.now)
    c.in_ok-front.got.it c.in_ok-front.got.depth c.in_ok-front.got.rest.now w.got c.in_ok-specs.specs.items c.max-deepest.result c.tail-inner.ensures w.is w.same (rw c.in_ok-front.ensures.first at c.in_ok-specs.ensures) c.max-deepest.ensures in
    let lt = h.1 in let le = c.specs.invariant.short in
    record { going = h.0; short = omega arith }

pub read_specs-specs-smaller : goal.read_specs-specs-smaller
read_specs-specs-smaller g t c =
    let s = c.args.source.now in
    let w = rw c.in_ok-front.ensures.second at (c.read_spec.ensures.gives (place_at (left s c.specs.rest.now)) c.place_at-place.ensures) in
    (specs-more s c.args.n (left s c.specs.rest.now) c.specs.specs.items c.specs.deepest _ c.specs.invariant.going c.in-Some-spec_word.word c.in_default.ensures c.in-Some-spec_word.ensures (left s c.tail-inner.result.now)
    c.in_ok-front.got.it c.in_ok-front.got.depth c.in_ok-front.got.rest.now w.got c.in_ok-specs.specs.items c.max-deepest.result c.tail-inner.ensures w.is w.same (rw c.in_ok-front.ensures.first at c.in_ok-specs.ensures) c.max-deepest.ensures).1

pub read_str_descs-descs-init : goal.read_str_descs-descs-init
read_str_descs-descs-init g t c = record {
  going = list-start (descs-form c.args.source.now.file c.args.n) c.args.source.now c.args.n (left c.args.source.now c.args.tokens.now) c.new-descs.result.items c.new-descs.ensures.items;
  short = omega arith;
}

pub read_str_descs-returns-in_err-front : goal.read_str_descs-returns-in_err-front
read_str_descs-returns-in_err-front g t c =
    let s = c.args.source.now in
    let p = err_from_is_err_and c.from_residual.result c.from_residual.ensures.1 in
    record { gives = rw (p.1, p.2) (list-fail (descs-form s.file c.args.n) s c.args.n (left s c.descs.rest.now) c.descs.descs.items c.descs.deepest _ c.in_err-front.field-0.0 (rw c.in_err-front.ensures.second at c.str_desc.ensures.gives) c.descs.invariant.going) }

pub read_str_descs-returns-in_default : goal.read_str_descs-returns-in_default
read_str_descs-returns-in_default g t c =
    let s = c.args.source.now in
    let r = rw c.in_ok-front.ensures.second at c.str_desc.ensures.gives in
    let h = list-last (descs-form s.file c.args.n) s c.args.n (left s c.descs.rest.now) c.descs.descs.items c.descs.deepest (whole (str_desc_turn (read_sig c.args.n)) no_state (left s c.args.tokens.now)) c.in_ok-descs.descs.items c.max-deepest.result c.in_ok-front.got.it c.in_ok-front.got.depth c.in_ok-front.got.rest.now
    r.got r.is r.same (rw c.in_ok-front.ensures.first at c.in_ok-descs.ensures) c.max-deepest.ensures c.descs.invariant.going (left s c.args.tokens.now) c.in_default.ensures c.descs.invariant.short in
    record { gives = record { got = h.got; is = h.is; same = h.same } }

pub read_str_descs-descs-preserved : goal.read_str_descs-descs-preserved
read_str_descs-descs-preserved g t c =
    let s = c.args.source.now in
    let r = rw c.in_ok-front.ensures.second at c.str_desc.ensures.gives in
    let h = list-more (descs-form s.file c.args.n) s c.args.n (left s c.descs.rest.now) c.descs.descs.items c.descs.deepest (whole (str_desc_turn (read_sig c.args.n)) no_state (left s c.args.tokens.now)) c.in_ok-descs.descs.items c.max-deepest.result c.in_ok-front.got.it c.in_ok-front.got.depth c.in_ok-front.got.rest.now
    r.got r.is r.same (rw c.in_ok-front.ensures.first at c.in_ok-descs.ensures) c.max-deepest.ensures c.descs.invariant.going _ c.in-Some.ensures in
    let a = h.short in let b = c.descs.invariant.short in
    record { going = h.going; short = omega arith }

pub read_str_descs-descs-smaller : goal.read_str_descs-descs-smaller
read_str_descs-descs-smaller g t c =
    let s = c.args.source.now in
    let r = rw c.in_ok-front.ensures.second at c.str_desc.ensures.gives in
    let h = list-more (descs-form s.file c.args.n) s c.args.n (left s c.descs.rest.now) c.descs.descs.items c.descs.deepest (whole (str_desc_turn (read_sig c.args.n)) no_state (left s c.args.tokens.now)) c.in_ok-descs.descs.items c.max-deepest.result c.in_ok-front.got.it c.in_ok-front.got.depth c.in_ok-front.got.rest.now
    r.got r.is r.same (rw c.in_ok-front.ensures.first at c.in_ok-descs.ensures) c.max-deepest.ensures c.descs.invariant.going _ c.in-Some.ensures in
    h.short
