use Rattle.std.proofs.Common.{rules, ◌≡◌, ◌<◌, ◌≤◌, ◌+◌, ◌-◌, ◌++◌, ◌∷◌, [], ℕ, suc, length, map, true, false, Some, None, List, refl, sym, ap, subst, ◌∙◌, arith, max}
use Rattle.std.proofs.lemmas.Result.{err_from_is_err_and}
use Rattle.mlc_names.specs.declared.token.Reserved.TheVariants as res
use Rattle.sml_tree.specs.Terminal.{Terminal}
use Rattle.sml_grammar.specs.Answer.{ok, whole, then_read, read, bad}
use Rattle.sml_grammar.specs.Terminals.{place_at, tail, word_at, word_then, no_state, after_word, on_some}
use Rattle.sml_grammar.specs.Expressions.{readers, dec_by, dec_start, suffix_turn, application, atom_by, atoms_turn, applied, apply_to, atom_start, begins_atom, case_rest, read_match, row_turn, rule_turn, part_turn}
use Rattle.phrase_base.specs.Gives.{Fails}
use Rattle.phrase_base.specs.Left.{left}
use Rattle.sml_phrases.specs.DeclarationsRead.{inner_decs, local_by, simple_by}
use Rattle.phrase_base.proofs.Shorter.{word-shorter}
use Rattle.sml_phrases.proofs.DecForms.{dec-by, dec-wider, IsOther, simple-is, local-at, tail-less, tail-shorter, val-done, fun-done, local-done}
use Rattle.sml_phrases.proofs.DecLoops.{decs-start, decs-pass, decs-fails, decs-more, decs-last, funs-start, funs-fails, funs-more, funs-last}
use Rattle.sml_phrases.proofs.BindLoops.{binds-start, binds-rec, binds-fails-pat, binds-fails-exp, binds-more, binds-last}
use Rattle.sml_phrases.proofs.ClauseLoops.{first-is, clauses-start, clauses-fail-heading, clauses-fail-exp, clauses-more, clauses-last}
use Rattle.sml_phrases.proofs.+expressions.Goals as goal
use Rattle.sml_phrases.proofs.+expressions.Goals.{declarations::read_dec-in_default-via-in-Some+in_default, declarations::read_dec-in_default-via-in_default}
use Rattle.sml_tree.specs.Bare.{at, exp_list, operands}
use Rattle.sml_tree.specs.TreeOf.{exp_of, exp_field_of, rule_of, part_of, pat_of, function_of}
use Rattle.phrase_base.proofs.Loop.{fails-then, fails-by, fails-bad, fails-deep}
use Rattle.sml_phrases.proofs.ExpSteps.{after-ok, exp-one, exp-zero, atom-one, atom-next, atom-zero, keyword-low, keyword-goes, exp-goes}
use Rattle.sml_phrases.proofs.ExpSeeking.{seek-start, seek-none, seek-low, seek-bad, seek-deep, seek-fails, seek-more}
use Rattle.sml_phrases.proofs.ExpForms.{apply-alone, apply-deep, apply-goes, brace-rows, at-fn, at-while, if-as, while-as, paren-tuple, paren-sequence}
use Rattle.sml_phrases.proofs.ExpAtoms.{brace-start, paren-start, bracket-start, let-start, leaf-read, let-goes, is-let}
use Rattle.sml_phrases.proofs.ExpBuilt.{is-applied, is-record, is-case, is-if, is-while, is-fn}
use Rattle.sml_phrases.proofs.ExpLemmas.{after-shorter}
use Rattle.sml_phrases.proofs.ExpLarger.{is-chain, is-handle}
use Rattle.std.proofs.lemmas.List.{map_push}
use Rattle.sml_tree.specs.Depth.{depth_exps, depth_exp_fields, depth_rules, depth_parts}
use Rattle.sml_tree.specs.Levels.{joint_level, joint_right}
use Rattle.sml_phrases.specs.Ties.{joint_from}
use Rattle.sml_phrases.specs.ExpressionsRead.{field_list, rule_list, exps_turn}
use Rattle.sml_phrases.proofs.Collect.{collects-start, collects-at, list-at, closed-list, closed-bad}
use Rattle.sml_phrases.proofs.ExpLoops.{rows-more, rows-last, rows-fails, rows-none, rules-more, rules-last, rules-fails, rules-fails-pat, parts-more, parts-last, parts-fails, parts-fails-next, atoms-more, atoms-last, atoms-fails, exp-low, exp-at, row-shorter, rule-shorter, rule-low, moved-exp, exps-more, exps-last, exps-fails, exp-shorter}
use Rattle.sml_grammar.specs.Expressions as exps
use Rattle.sml_tree.specs.ReadTree as tree

-- Declarations.

pub declarations::read_decs-decs-init : goal.declarations::read_decs-decs-init
declarations::read_decs-decs-init t c = record {
  going = decs-start c.args.source.now c.args.n c.args.fix.now (left c.args.source.now c.args.tokens.now) c.new-all.result.items c.new-all.ensures.items;
  short = omega arith;
}

pub declarations::read_decs-decs-preserved-in-Some : goal.declarations::read_decs-decs-preserved-in-Some
declarations::read_decs-decs-preserved-in-Some t c =
    let s = c.args.source.now in
    let s1 = word-shorter res.Semicolon (left s c.decs.rest.now) (left s c.in-Some.next.now) c.in-Some.ensures in
    let le = c.decs.invariant.short in
    record {
      going = decs-pass s c.args.n c.args.fix.now c.decs.invariant.going (left s c.in-Some.next.now) c.in-Some.ensures s1;
      short = omega arith;
    }

pub declarations::read_decs-returns-then-not-begins_dec : goal.declarations::read_decs-returns-then-not-begins_dec
declarations::read_decs-returns-then-not-begins_dec t c =
    let s = c.args.source.now in
    let no : c.begins_dec.result ≡ false = search rules in
    let g = decs-last s c.args.n c.args.fix.now c.decs.invariant.going (left s c.args.tokens.now) c.decs.rest.now refl c.in_default.ensures (sym c.begins_dec.ensures ∙ no) c.decs.invariant.short in
    record { gives = record { got = g.got; is = g.is; same = g.same } }

pub declarations::read_decs-returns-in_err-front : goal.declarations::read_decs-returns-in_err-front
declarations::read_decs-returns-in_err-front t c =
    let p = err_from_is_err_and c.from_residual.result c.from_residual.ensures.1 in
    let yes : c.begins_dec.result ≡ true = search rules in
    record { gives = rw (p.1, p.2) (decs-fails c.args.source.now c.args.n c.args.fix.now c.decs.invariant.going c.in_err-front.field-0.0 c.in_default.ensures (sym c.begins_dec.ensures ∙ yes) (rw c.in_err-front.ensures.second at c.read_dec.ensures.gives)) }

pub declarations::read_decs-decs-preserved : goal.declarations::read_decs-decs-preserved
declarations::read_decs-decs-preserved t c =
    let s = c.args.source.now in
    let h = (rw c.in_ok-front.ensures.second at c.read_dec.ensures.gives) in
    let yes : c.begins_dec.result ≡ true = search rules in
    let l1 = h.same.shorter in
    let l2 = ap (λ (z : List Terminal). length z) h.same.rest in
    let le = c.decs.invariant.short in
    record {
      going = decs-more s c.args.n c.args.fix.now c.decs.invariant.going c.read_dec.new.fix c.in_ok-all.all.items c.max-deepest.result c.in_ok-front.dec.it c.in_ok-front.dec.depth c.in_ok-front.dec.rest.now h.got
          c.in_default.ensures (sym c.begins_dec.ensures ∙ yes) h.is h.same (rw c.in_ok-front.ensures.first at c.in_ok-all.ensures) c.max-deepest.ensures;
      short = omega arith;
    }

pub declarations::read_dec-returns-in_ok-vars-in-Some-Val : goal.declarations::read_dec-returns-in_ok-vars-in-Some-Val
declarations::read_dec-returns-in_ok-vars-in-Some-Val t c =
    let s = c.args.source.now in
    let i = left s c.args.tokens.now in
    let w : word_at i ≡ Some res.Val = sym c.word_at.ensures ∙ c.in-Some-Val.is ∙ ap Some c.in-Some-Val.field-0-is in
    let a = c.in_ok-tyvars-in-Some-Val.ensures.gives in
    let b = (rw c.in_ok-vars-in-Some-Val.ensures.second at c.read_binds.ensures.gives) in
    let g = val-done s c.args.n (readers c.args.n).exp (inner_decs c.args.n) c.args.fix.now i c.in_ok-tyvars-in-Some-Val.field-0.it.items c.in_ok-tyvars-in-Some-Val.field-0.depth c.in_ok-tyvars-in-Some-Val.field-0.rest.now a.got
    c.in_ok-vars-in-Some-Val.binds.it.0.items c.in_ok-vars-in-Some-Val.binds.it.1.items c.in_ok-vars-in-Some-Val.binds.depth c.in_ok-vars-in-Some-Val.binds.rest.now b.got c.val.result w
    (rw c.tail-inner.ensures at a.is) (rw c.tail-inner.ensures at a.same) b.is b.same (rw (c.in_ok-vars-in-Some-Val.ensures.first, c.tyvar_seq-seq.ensures.tyvars, c.tyvar_seq-seq.ensures.place (place_at i) c.place_at-place.ensures, c.place_at-place.ensures, c.tail-inner.ensures) at c.val.ensures) in
    record { gives = record { got = g.got; is = g.is; same = record { rest = g.same.rest; same = g.same.same; deep = g.same.deep; fits = g.same.fits; shorter = g.same.shorter; force = g.same.force } } }

pub declarations::read_dec-returns-in_ok-vars-in-Some-Fun : goal.declarations::read_dec-returns-in_ok-vars-in-Some-Fun
declarations::read_dec-returns-in_ok-vars-in-Some-Fun t c =
    let s = c.args.source.now in
    let i = left s c.args.tokens.now in
    let w : word_at i ≡ Some res.Fun = sym c.word_at.ensures ∙ c.in-Some-Fun.is ∙ ap Some c.in-Some-Fun.field-0-is in
    let a = c.in_ok-tyvars-in-Some-Fun.ensures.gives in
    let b = rw c.in_ok-vars-in-Some-Fun.ensures.second at c.read_functions.ensures.gives in
    let g = fun-done s c.args.n (readers c.args.n).exp (inner_decs c.args.n) c.args.fix.now i c.in_ok-tyvars-in-Some-Fun.field-0.it.items c.in_ok-tyvars-in-Some-Fun.field-0.depth c.in_ok-tyvars-in-Some-Fun.field-0.rest.now a.got
    (map function_of c.in_ok-vars-in-Some-Fun.all.it.items) c.in_ok-vars-in-Some-Fun.all.depth c.in_ok-vars-in-Some-Fun.all.rest.now b.got c.functions.result w (rw c.tail-inner.ensures at a.is) (rw c.tail-inner.ensures at a.same) b.is b.same
    (rw (c.in_ok-vars-in-Some-Fun.ensures.first, c.tyvar_seq-seq-in-Some-Fun.ensures.tyvars, c.tyvar_seq-seq-in-Some-Fun.ensures.place (place_at i) c.place_at-place.ensures, c.place_at-place.ensures, c.tail-inner.ensures) at c.functions.ensures) in
    record { gives = record { got = g.got; is = g.is; same = record { rest = g.same.rest; same = g.same.same; deep = g.same.deep; fits = g.same.fits; shorter = g.same.shorter; force = g.same.force } } }

pub declarations::read_dec-returns-else-n-eq0 : goal.declarations::read_dec-returns-else-n-eq0
declarations::read_dec-returns-else-n-eq0 t c =
    let s = c.args.source.now in
    let i = left s c.args.tokens.now in
    let w : word_at i ≡ Some res.Local = sym c.word_at.ensures ∙ c.in-Some-Local.is ∙ ap Some c.in-Some-Local.field-0-is in
    let n : c.args.n ≡ suc (c.args.n - 1) = omega arith in
    let m : c.args.n - 1 + 1 ≡ c.args.n = omega arith in
    let lt = tail-shorter i res.Local w in
    let le = ap (λ (z : List Terminal). length z) c.tail-inner.ensures in
    let k = left s c.tail-inner.result.now in
    record {
      gives = dec-by c.args.fix.now c.read_local.new.fix s c.args.n i c.read_local.result (dec_by c.args.n (readers c.args.n).exp (inner_decs c.args.n) c.args.fix.now (dec_start i)) (local_by (c.args.n - 1) c.args.fix.now (place_at i) k)
          (local-at c.args.n (c.args.n - 1) (readers c.args.n).exp c.args.fix.now i n w ∙ ap (local_by (c.args.n - 1) c.args.fix.now (place_at i)) (sym c.tail-inner.ensures))
          (dec-wider c.args.fix.now c.read_local.new.fix s (c.args.n - 1 + 1) c.args.n k i c.read_local.result _ m (omega arith) (c.read_local.ensures.gives (place_at i) c.place_at-place.ensures));
    }

pub declarations::read_dec-returns-in_default : goal.declarations::read_dec-returns-in_default
declarations::read_dec-returns-in_default t c =
    let s = c.args.source.now in
    let i = left s c.args.tokens.now in
    let other : IsOther (word_at i) = elim c.in_default.branch [ declarations::read_dec-in_default-via-in-Some+in_default w ↦ search rules | declarations::read_dec-in_default-via-in_default w ↦ search rules ] in
    record { gives = dec-by c.args.fix.now c.simple_dec.new.fix s c.args.n i c.simple_dec.result _ (simple_by c.args.n c.args.fix.now (dec_start i)) (simple-is c.args.n (readers c.args.n).exp (inner_decs c.args.n) c.args.fix.now i other) c.simple_dec.ensures.gives }

pub declarations::read_local-returns : goal.declarations::read_local-returns
declarations::read_local-returns t c =
    let s = c.args.source.now in
    let i = left s c.args.tokens.now in
    let a = c.in_ok-first.ensures.gives in
    let b = (rw c.in_ok-start.ensures.second at c.read_decs-2.ensures.gives) in
    record {
      gives = λ p e.
          let l1 = word-shorter res.In (left s c.in_ok-first.field-0.rest.now) (left s c.in_ok-outer.inside.now) (rw c.in_ok-outer.ensures.second at c.past.ensures.word) in
          let l2 = word-shorter res.End (left s c.in_ok-start.second.rest.now) (left s c.in_ok-both.rest.now) (rw c.in_ok-both.ensures.second at c.past-2.ensures.word) in
          let l3 = a.same.short in let l4 = b.same.short in
          let l5 = ap (λ (z : List Terminal). length z) a.same.rest in let l6 = ap (λ (z : List Terminal). length z) b.same.rest in
          let g = local-done s c.args.n c.args.fix.now c.read_decs.new.fix p i c.in_ok-first.field-0.it.items c.in_ok-first.field-0.depth c.in_ok-first.field-0.rest.now a.got (rw c.in_ok-inner.ensures at a.is) (rw c.in_ok-inner.ensures at a.same)
          (left s c.in_ok-outer.inside.now) (rw c.in_ok-outer.ensures.second at c.past.ensures.word) c.read_decs-2.new.fix c.in_ok-start.second.it.items c.in_ok-start.second.depth c.in_ok-start.second.rest.now b.got b.is b.same
          c.in_ok-both.rest.now c.local.result (c.max-depth.result + 1) _ (rw c.in_ok-both.ensures.second at c.past-2.ensures.word) (omega arith) (rw (e, c.in_ok-decs.ensures.first, c.in_ok-both.ensures.first, c.in_ok-start.ensures.first, c.in_ok-outer.ensures.first) at c.local.ensures) (omega (arith, c.max-depth.ensures)) (rw c.len-hidden.ensures at (rw c.in_ok-decs.ensures.second at c.add_newest.ensures.ok)) in
          let fit = g.same.fits in
          record { got = g.got; is = g.is; same = record { rest = g.same.rest; same = g.same.same; deep = g.same.deep; fits = omega arith; shorter = g.same.shorter; force = g.same.force } };
    }

-- Functions.

pub declarations::read_functions-functions-init : goal.declarations::read_functions-functions-init
declarations::read_functions-functions-init t c = record {
  going = funs-start c.args.source.now c.args.n c.args.fix.now (left c.args.source.now c.args.tokens.now) c.new-all.result.items c.new-all.ensures.items;
  short = omega arith;
}

pub declarations::read_functions-returns-in_err-front : goal.declarations::read_functions-returns-in_err-front
declarations::read_functions-returns-in_err-front t c =
    let p = err_from_is_err_and c.from_residual.result c.from_residual.ensures.1 in
    record { gives = rw (p.1, p.2) (funs-fails c.args.source.now c.args.n c.args.fix.now (left c.args.source.now c.functions.rest.now) c.functions.all.items c.functions.deepest _ c.functions.invariant.going c.in_err-front.field-0.0 (rw c.in_err-front.ensures.second at c.read_clauses.ensures.gives)) }

pub declarations::read_functions-returns-in_default : goal.declarations::read_functions-returns-in_default
declarations::read_functions-returns-in_default t c =
    let s = c.args.source.now in
    let h = (rw c.in_ok-front.ensures.second at c.read_clauses.ensures.gives) in
    let g = funs-last s c.args.n c.args.fix.now (left s c.functions.rest.now) c.functions.all.items c.functions.deepest _ c.functions.invariant.going c.in_ok-front.got.it c.in_ok-front.got.depth c.in_ok-front.got.rest.now h.got h.is h.same
    c.in_ok-all.all.items (rw c.in_ok-front.ensures.first at c.in_ok-all.ensures) c.max-deepest.result c.max-deepest.ensures (left s c.args.tokens.now) c.in_default.ensures c.functions.invariant.short in
    record { gives = record { got = g.got; is = g.is; same = g.same } }

pub declarations::read_functions-functions-preserved : goal.declarations::read_functions-functions-preserved
declarations::read_functions-functions-preserved t c =
    let s = c.args.source.now in
    let h = (rw c.in_ok-front.ensures.second at c.read_clauses.ensures.gives) in
    let l1 = word-shorter res.And (left s c.in_ok-front.got.rest.now) (left s c.in-Some.next.now) c.in-Some.ensures in
    let l2 = h.same.shorter in
    let l3 = ap (λ (z : List Terminal). length z) h.same.rest in
    let le = c.functions.invariant.short in
    record {
      going = funs-more s c.args.n c.args.fix.now (left s c.functions.rest.now) c.functions.all.items c.functions.deepest _ c.functions.invariant.going c.in_ok-front.got.it c.in_ok-front.got.depth c.in_ok-front.got.rest.now h.got h.is h.same
          c.in_ok-all.all.items (rw c.in_ok-front.ensures.first at c.in_ok-all.ensures) c.max-deepest.result c.max-deepest.ensures (left s c.in-Some.next.now) c.in-Some.ensures (omega arith);
      short = omega arith;
    }

-- Value bindings.

pub declarations::read_binds-binds-init : goal.declarations::read_binds-binds-init
declarations::read_binds-binds-init t c = record {
  going = binds-start c.args.source.now c.args.n c.args.fix.now (left c.args.source.now c.args.tokens.now) c.new.result.items c.new-2.result.items c.new.ensures.items c.new-2.ensures.items;
  short = omega arith;
}

pub declarations::read_binds-binds-preserved-in-Some : goal.declarations::read_binds-binds-preserved-in-Some
declarations::read_binds-binds-preserved-in-Some t c =
    let s = c.args.source.now in
    let s1 = word-shorter res.Rec (left s c.binds.rest.now) (left s c.in-Some.next.now) c.in-Some.ensures in
    let le = c.binds.invariant.short in
    record {
      going = binds-rec s c.args.n c.args.fix.now c.binds.invariant.going (left s c.in-Some.next.now) c.in-Some.ensures s1;
      short = omega arith;
    }

pub declarations::read_binds-returns-in_err-front : goal.declarations::read_binds-returns-in_err-front
declarations::read_binds-returns-in_err-front t c =
    let p = err_from_is_err_and c.from_residual.result c.from_residual.ensures.1 in
    record { gives = rw (p.1, p.2) (binds-fails-pat c.args.source.now c.args.n c.args.fix.now c.binds.invariant.going c.in_err-front.field-0.0 c.in_default.ensures (rw c.in_err-front.ensures.second at c.read_pat.ensures.gives)) }

pub declarations::read_binds-returns-in_err-parts : goal.declarations::read_binds-returns-in_err-parts
declarations::read_binds-returns-in_err-parts t c =
    let p = err_from_is_err_and c.from_residual-in_err-parts.result c.from_residual-in_err-parts.ensures.1 in
    let a = (rw c.in_ok-front.ensures.second at c.read_pat.ensures.gives) in
    let x = subst (λ (z : List Terminal). Fails c.in_err-parts.field-0.0 (word_then res.Equals ((readers c.args.n).exp c.args.fix.now 0) z)) a.same.rest (rw c.in_err-parts.ensures.second at c.read_after.ensures.gives) in
    record { gives = rw (p.1, p.2) (binds-fails-exp c.args.source.now c.args.n c.args.fix.now c.binds.invariant.going a.got c.in_default.ensures a.is c.in_err-parts.field-0.0 x) }

pub declarations::read_binds-returns-in_default-after_word : goal.declarations::read_binds-returns-in_default-after_word
declarations::read_binds-returns-in_default-after_word t c =
    let s = c.args.source.now in
    let a = (rw c.in_ok-front.ensures.second at c.read_pat.ensures.gives) in
    let y = (rw c.in_ok-parts.ensures.second at c.read_after.ensures.gives) in
    let by = subst (λ (z : List Terminal). word_then res.Equals ((readers c.args.n).exp c.args.fix.now 0) z ≡ ok y.got) a.same.rest y.is in
    let l1 = a.same.shorter in let l2 = y.same.shorter in let l3 = ap (λ (z : List Terminal). length z) a.same.rest in let l4 = tail-less (left s c.in_ok-front.pat.rest.now) in
    let g = binds-last s c.args.n c.args.fix.now c.binds.invariant.going a.got c.in_default.ensures a.is c.bind.result
    c.place_at-place.result c.in_ok-front.pat.it c.in_ok-parts.exp.it (rw c.in_ok-parts.ensures.first at c.bind.ensures) c.place_at-place.ensures c.in_ok-front.pat.depth c.max-deepest.result (tail (left s c.in_ok-front.pat.rest.now)) c.in_ok-front.pat.rest.now c.in_ok-parts.exp.rest.now a.same
    y.got c.in_ok-parts.exp.depth by y.same (c.max-deepest.ensures ∙ ap (λ (z : ℕ). Rattle.std.proofs.Common.max z c.binds.deepest) (rw c.in_ok-parts.ensures.first at c.max.ensures)) c.in_ok-lists.lists.0.items c.in_ok-lists.lists.1.items (rw (c.in_ok-parts.ensures.first, c.in_ok-front.ensures.first) at c.in_ok-lists.ensures.plain) (rw (c.in_ok-parts.ensures.first, c.in_ok-front.ensures.first) at c.in_ok-lists.ensures.rec)
    (left s c.args.tokens.now) c.in_default-after_word.ensures c.binds.invariant.short (omega arith) in
    record { gives = record { got = g.got; is = g.is; same = record { rest = g.same.rest; plain = g.same.plain; recursive = g.same.recursive; deep = g.same.deep; fits = g.same.fits; shorter = g.same.shorter } } }

pub declarations::read_binds-binds-smaller : goal.declarations::read_binds-binds-smaller
declarations::read_binds-binds-smaller t c =
    let s = c.args.source.now in
    let a = (rw c.in_ok-front.ensures.second at c.read_pat.ensures.gives) in
    let y = (rw c.in_ok-parts.ensures.second at c.read_after.ensures.gives) in
    let l1 = a.same.shorter in let l2 = y.same.shorter in let l3 = ap (λ (z : List Terminal). length z) a.same.rest in let l4 = tail-less (left s c.in_ok-front.pat.rest.now) in
    let l5 = ap (λ (z : List Terminal). length z) y.same.rest in
    let l6 = word-shorter res.And (left s c.in_ok-parts.exp.rest.now) (left s c.in-Some-after_word.next.now) c.in-Some-after_word.ensures in
    omega arith

pub declarations::read_binds-binds-preserved : goal.declarations::read_binds-binds-preserved
declarations::read_binds-binds-preserved t c =
    let s = c.args.source.now in
    let a = (rw c.in_ok-front.ensures.second at c.read_pat.ensures.gives) in
    let y = (rw c.in_ok-parts.ensures.second at c.read_after.ensures.gives) in
    let by = subst (λ (z : List Terminal). word_then res.Equals ((readers c.args.n).exp c.args.fix.now 0) z ≡ ok y.got) a.same.rest y.is in
    let l1 = a.same.shorter in let l2 = y.same.shorter in let l3 = ap (λ (z : List Terminal). length z) a.same.rest in let l4 = tail-less (left s c.in_ok-front.pat.rest.now) in
    let l5 = ap (λ (z : List Terminal). length z) y.same.rest in
    let l6 = word-shorter res.And (left s c.in_ok-parts.exp.rest.now) (left s c.in-Some-after_word.next.now) c.in-Some-after_word.ensures in
    let le = c.binds.invariant.short in
    record {
      going = binds-more s c.args.n c.args.fix.now c.binds.invariant.going a.got c.in_default.ensures a.is c.bind.result
          c.place_at-place.result c.in_ok-front.pat.it c.in_ok-parts.exp.it (rw c.in_ok-parts.ensures.first at c.bind.ensures) c.place_at-place.ensures c.in_ok-front.pat.depth c.max-deepest.result (tail (left s c.in_ok-front.pat.rest.now)) c.in_ok-front.pat.rest.now c.in_ok-parts.exp.rest.now a.same
          y.got c.in_ok-parts.exp.depth by y.same (c.max-deepest.ensures ∙ ap (λ (z : ℕ). Rattle.std.proofs.Common.max z c.binds.deepest) (rw c.in_ok-parts.ensures.first at c.max.ensures)) c.in_ok-lists.lists.0.items c.in_ok-lists.lists.1.items (rw (c.in_ok-parts.ensures.first, c.in_ok-front.ensures.first) at c.in_ok-lists.ensures.plain) (rw (c.in_ok-parts.ensures.first, c.in_ok-front.ensures.first) at c.in_ok-lists.ensures.rec)
          (left s c.in-Some-after_word.next.now) c.in-Some-after_word.ensures (omega arith);
      short = omega arith;
    }

-- Clauses.

pub declarations::read_clauses-clauses-init : goal.declarations::read_clauses-clauses-init
declarations::read_clauses-clauses-init t c = record {
  going = clauses-start c.args.source.now c.args.n c.args.fix.now (left c.args.source.now c.args.tokens.now) c.new-clauses.result.items c.new-clauses.ensures.items;
  short = omega arith;
}

pub declarations::read_clauses-returns-in_err-heading : goal.declarations::read_clauses-returns-in_err-heading
declarations::read_clauses-returns-in_err-heading t c =
    let p = err_from_is_err_and c.from_residual.result c.from_residual.ensures.1 in
    record { gives = rw (p.1, p.2) (clauses-fail-heading c.args.source.now c.args.n c.args.fix.now c.clauses.invariant.going c.in_err-heading.field-0.0 c.in_err-heading.ensures.gives) }

pub declarations::read_clauses-returns-in_err-exp : goal.declarations::read_clauses-returns-in_err-exp
declarations::read_clauses-returns-in_err-exp t c =
    let p = err_from_is_err_and c.from_residual-in_err-exp.result c.from_residual-in_err-exp.ensures.1 in
    let a = c.in_ok-heading.ensures.gives in
    let x = subst (λ (z : List Terminal). Fails c.in_err-exp.field-0.0 (word_then res.Equals ((readers c.args.n).exp c.args.fix.now 0) z)) a.same.rest c.in_err-exp.ensures.gives in
    record { gives = rw (p.1, p.2) (clauses-fail-exp c.args.source.now c.args.n c.args.fix.now c.clauses.invariant.going a.got a.is c.in_err-exp.field-0.0 x) }

pub declarations::read_clauses-returns-in_default : goal.declarations::read_clauses-returns-in_default
declarations::read_clauses-returns-in_default t c =
    let s = c.args.source.now in
    let a = c.in_ok-heading.ensures.gives in
    let y = c.in_ok-exp.ensures.gives in
    let by = subst (λ (z : List Terminal). word_then res.Equals ((readers c.args.n).exp c.args.fix.now 0) z ≡ ok y.got) a.same.rest y.is in
    let l1 = a.same.shorter in let l2 = y.same.shorter in let l3 = ap (λ (z : List Terminal). length z) a.same.rest in let l4 = tail-less (left s c.in_ok-heading.field-0.rest.now) in
    let first = first-is c.clauses.shape c.in_ok-heading.field-0.it.shape in
    let u = c.unwrap_or-first.ensures ∙ first in
    let g = clauses-last s c.args.n c.args.fix.now c.clauses.invariant.going a.got a.is c.in_ok-heading.field-0.it c.in_ok-heading.field-0.depth c.in_ok-heading.field-0.rest.now a.same y.got by (tail (left s c.in_ok-heading.field-0.rest.now))
    c.in_ok-exp.field-0.it c.in_ok-exp.field-0.depth c.in_ok-exp.field-0.rest.now y.same c.place_at-place.result (rw c.tail.ensures at c.place_at-place.ensures) c.in_ok-clause_from.field-0 c.in_ok-clause_from.ensures
    c.max-deepest.result (c.max-deepest.ensures ∙ ap (λ (z : ℕ). Rattle.std.proofs.Common.max z c.clauses.deepest) c.max.ensures) c.push.new.self.items c.in_ok-push.ensures.items (left s c.args.tokens.now) c.function.result (rw u at c.function.ensures)
    c.in_default.ensures c.clauses.invariant.short (omega arith) in
    record { gives = record { got = g.got; is = g.is; same = g.same } }

pub declarations::read_clauses-clauses-smaller : goal.declarations::read_clauses-clauses-smaller
declarations::read_clauses-clauses-smaller t c =
    let s = c.args.source.now in
    let a = c.in_ok-heading.ensures.gives in
    let y = c.in_ok-exp.ensures.gives in
    let l1 = a.same.shorter in let l2 = y.same.shorter in let l3 = ap (λ (z : List Terminal). length z) a.same.rest in let l4 = tail-less (left s c.in_ok-heading.field-0.rest.now) in
    let l5 = ap (λ (z : List Terminal). length z) y.same.rest in
    let l6 = word-shorter res.Bar (left s c.in_ok-exp.field-0.rest.now) (left s c.in-Some.next.now) c.in-Some.ensures in
    omega arith

pub declarations::read_clauses-clauses-preserved : goal.declarations::read_clauses-clauses-preserved
declarations::read_clauses-clauses-preserved t c =
    let s = c.args.source.now in
    let a = c.in_ok-heading.ensures.gives in
    let y = c.in_ok-exp.ensures.gives in
    let by = subst (λ (z : List Terminal). word_then res.Equals ((readers c.args.n).exp c.args.fix.now 0) z ≡ ok y.got) a.same.rest y.is in
    let l1 = a.same.shorter in let l2 = y.same.shorter in let l3 = ap (λ (z : List Terminal). length z) a.same.rest in let l4 = tail-less (left s c.in_ok-heading.field-0.rest.now) in
    let l5 = ap (λ (z : List Terminal). length z) y.same.rest in
    let l6 = word-shorter res.Bar (left s c.in_ok-exp.field-0.rest.now) (left s c.in-Some.next.now) c.in-Some.ensures in
    let le = c.clauses.invariant.short in
    let u = c.unwrap_or-first.ensures ∙ first-is c.clauses.shape c.in_ok-heading.field-0.it.shape in
    let g = clauses-more s c.args.n c.args.fix.now c.clauses.invariant.going a.got a.is c.in_ok-heading.field-0.it c.in_ok-heading.field-0.depth c.in_ok-heading.field-0.rest.now a.same y.got by (tail (left s c.in_ok-heading.field-0.rest.now))
    c.in_ok-exp.field-0.it c.in_ok-exp.field-0.depth c.in_ok-exp.field-0.rest.now y.same c.place_at-place.result (rw c.tail.ensures at c.place_at-place.ensures) c.in_ok-clause_from.field-0 c.in_ok-clause_from.ensures
    c.max-deepest.result (c.max-deepest.ensures ∙ ap (λ (z : ℕ). Rattle.std.proofs.Common.max z c.clauses.deepest) c.max.ensures) c.push.new.self.items c.in_ok-push.ensures.items (left s c.in-Some.next.now) c.in-Some.ensures (omega arith) in
    record {
      going = rw (sym u) at g;
      short = omega arith;
    }

pub expressions::application-returns-in_err-first : goal.expressions::application-returns-in_err-first
expressions::application-returns-in_err-first t c =
    let p = err_from_is_err_and c.from_residual.result c.from_residual.ensures.1 in rw (p.1, p.2) (record {
      gives = fails-then c.in_err-first.field-0.0 (atom_by (readers c.args.n) c.args.fix.now (atom_start c.args.fix.now (left c.args.source.now c.args.tokens.now))) (apply_to (readers c.args.n) c.args.n c.args.fix.now)
          (fails-by c.in_err-first.field-0.0 _ _ (sym (atom-next c.args.n c.args.fix.now (left c.args.source.now c.args.tokens.now))) c.in_err-first.ensures.gives);
    })

pub expressions::application-returns-then-not-begins_atom : goal.expressions::application-returns-then-not-begins_atom
expressions::application-returns-then-not-begins_atom t c =
    let g = c.in_ok-first.ensures.gives in
    let b : begins_atom c.args.fix.now g.got.rest ≡ false = subst (λ z. begins_atom c.args.fix.now z ≡ false) g.same.is.rest (cc) in
    record { gives = record { got = g.got; is = apply-alone (readers c.args.n) c.args.n c.args.fix.now (left c.args.source.now c.args.tokens.now) g.got (sym (atom-next c.args.n c.args.fix.now (left c.args.source.now c.args.tokens.now)) ∙ g.is) b; same = g.same } }

pub expressions::application-returns-in_err-operator : goal.expressions::application-returns-in_err-operator
expressions::application-returns-in_err-operator t c =
    let g = c.in_ok-first.ensures.gives in
    let b : begins_atom c.args.fix.now g.got.rest ≡ true = subst (λ z. begins_atom c.args.fix.now z ≡ true) g.same.is.rest (cc) in
    let lt = rw c.in_err-operator.ensures.second at c.room.ensures.fits in
    let p = err_from_is_err_and c.from_residual-in_err-operator.result c.from_residual-in_err-operator.ensures.1 in
    rw (p.1, p.2) (record { gives = fails-deep c.in_err-operator.field-0.0 _ _ (rw c.in_err-operator.ensures.second at c.room.ensures.stop) (apply-deep (readers c.args.n) c.args.n c.args.fix.now (left c.args.source.now c.args.tokens.now) g.got (sym (atom-next c.args.n c.args.fix.now (left c.args.source.now c.args.tokens.now)) ∙ g.is) b (omega (arith, lt, g.same.is.deep))) })

pub expressions::application-returns-in_err-function : goal.expressions::application-returns-in_err-function
expressions::application-returns-in_err-function t c =
    let g = c.in_ok-first.ensures.gives in
    let fit = rw c.in_ok-operator.ensures.second at c.room.ensures.fits in
    let b : begins_atom c.args.fix.now g.got.rest ≡ true = subst (λ z. begins_atom c.args.fix.now z ≡ true) g.same.is.rest (cc) in
    let h = subst (λ z. Fails c.in_err-function.field-0.0 (whole (atoms_turn (readers c.args.n).atom c.args.fix.now) no_state z)) g.same.is.rest (rw c.in_err-function.ensures.second at c.read_atoms.ensures.gives) in
    let p = err_from_is_err_and c.from_residual-in_err-function.result c.from_residual-in_err-function.ensures.1 in rw (p.1, p.2) (record {
      gives = fails-by c.in_err-function.field-0.0 _ _ (apply-goes (readers c.args.n) c.args.n c.args.fix.now (left c.args.source.now c.args.tokens.now) g.got (sym (atom-next c.args.n c.args.fix.now (left c.args.source.now c.args.tokens.now)) ∙ g.is) b (omega (arith, fit, g.same.is.deep)))
          (fails-then c.in_err-function.field-0.0 (whole (atoms_turn (readers c.args.n).atom c.args.fix.now) no_state g.got.rest) (λ es o. read (applied g.got.tree es) o) h);
    })

pub expressions::application-returns : goal.expressions::application-returns
expressions::application-returns t c =
    let g = c.in_ok-first.ensures.gives in
    let fit = rw c.in_ok-operator.ensures.second at c.room.ensures.fits in
    let b : begins_atom c.args.fix.now g.got.rest ≡ true = subst (λ z. begins_atom c.args.fix.now z ≡ true) g.same.is.rest (cc) in
    let a = rw c.in_ok-function.ensures.second at c.read_atoms.ensures.gives in
    let q = ap (λ z. whole (atoms_turn (readers c.args.n).atom c.args.fix.now) no_state z) (sym g.same.is.rest) ∙ a.is in
    record {
      gives = record {
        got = record { tree = applied g.got.tree a.got.tree; rest = a.got.rest };
        is = apply-goes (readers c.args.n) c.args.n c.args.fix.now (left c.args.source.now c.args.tokens.now) g.got (sym (atom-next c.args.n c.args.fix.now (left c.args.source.now c.args.tokens.now)) ∙ g.is) b (omega (arith, fit, g.same.is.deep)) ∙ after-ok (λ es o. read (applied g.got.tree es) o) q;
        same = rw c.max.ensures (is-applied c.args.fix.now c.args.source.now c.args.n (left c.args.source.now c.args.tokens.now) g.got a.got g.same (omega (arith, fit)) a.same (rw (c.place_at-place.ensures, c.in_ok-function.ensures.first, c.in_ok-operator.ensures.first) at c.in_ok-applied.ensures));
      };
    }

pub expressions::case-returns : goal.expressions::case-returns
expressions::case-returns t c =
    let i = left c.args.source.now c.args.tokens.now in
    let self = (readers c.args.n).exp in
    let f = c.args.fix.now in
    let g = c.in_ok-exp.ensures.gives in
    let r = rw c.in_ok-matched.ensures.second at c.read_match.ensures.gives in
    let m = left c.args.source.now c.in_ok-subject.after.now in
    let at = subst (λ z. after_word res.Of z ≡ Some m) g.same.rest (rw c.in_ok-subject.ensures.second at c.past.ensures.word) in
    record {
      gives = record {
        got = record { tree = tree.case (place_at i) g.got.tree r.got.tree; rest = r.got.rest };
        is = after-ok (case_rest c.args.n self f (place_at i)) (rw c.tail.ensures at g.is) ∙ ap (λ v. on_some v (λ k. then_read (read_match c.args.n self f k) (λ rs o. read (tree.case (place_at i) g.got.tree rs) o)) bad) at
            ∙ after-ok (λ rs o. read (tree.case (place_at i) g.got.tree rs) o) r.is;
        same = rw (rw (c.in_ok-matched.ensures.first, c.in_ok-subject.ensures.first) at c.max-depth.ensures) (is-case f c.args.source.now c.args.n i g.got r.got (rw c.tail.ensures at g.same) (after-shorter res.Of (left c.args.source.now c.in_ok-exp.exp.rest.now) m (rw c.in_ok-subject.ensures.second at c.past.ensures.word)) r.same (rw (c.place_at.ensures, c.in_ok-matched.ensures.first, c.in_ok-subject.ensures.first) at c.in_ok-it.ensures));
      };
    }

pub expressions::go_on-returns-in_ok-it-in-Joint : goal.expressions::go_on-returns-in_ok-it-in-Joint
expressions::go_on-returns-in_ok-it-in-Joint t c = rw c.in-Joint.is (record {
  gives = λ a e d p.
      let g = (rw c.in_ok-before-in-Joint.ensures.second at c.read_parts.ensures.gives) in
      let y = is-chain (readers c.args.n).exp c.args.fix.now c.args.source.now c.args.n (left c.args.source.now c.args.tokens.now) a c.args.before e d p c.requires.fits c.in-Joint.joint g.got g.is g.same (rw (c.joint_right.ensures, c.in_ok-before-in-Joint.ensures.first) at c.in_ok-it-in-Joint.ensures) in
      record { got = y.got; is = y.is; same = rw c.max.ensures y.same };
})

pub expressions::go_on-returns-in_ok-handler-in-Handle : goal.expressions::go_on-returns-in_ok-handler-in-Handle
expressions::go_on-returns-in_ok-handler-in-Handle t c = rw c.in-Handle.is (record {
  gives = λ a e d p.
      let g = (rw c.in_ok-before-in-Handle.ensures.second at c.read_match.ensures.gives) in
      let y = is-handle (readers c.args.n).exp c.args.fix.now c.args.source.now c.args.n (left c.args.source.now c.args.tokens.now) a c.args.before e d p c.requires.fits g.got g.is g.same (rw c.in_ok-before-in-Handle.ensures.first at c.in_ok-handler-in-Handle.ensures) in
      record { got = y.got; is = y.is; same = rw c.max-in-Handle.ensures y.same };
})

pub expressions::in_braces-returns : goal.expressions::in_braces-returns
expressions::in_braces-returns t c =
    let g = c.in_ok-fields.ensures.gives in
    let i = tail (left c.args.source.now c.args.tokens.now) in
    record {
      gives = record {
        got = record { tree = tree.record_exp (place_at (left c.args.source.now c.args.tokens.now)) g.got.tree; rest = g.got.rest };
        is = brace-rows (readers c.args.n).exp c.args.fix.now (place_at (left c.args.source.now c.args.tokens.now)) i (rw c.tail-inner.ensures at c.in_default.ensures) ∙ after-ok (λ fs o. read (tree.record_exp (place_at (left c.args.source.now c.args.tokens.now)) fs) o) (rw c.tail-inner.ensures at g.is);
        same = is-record c.args.fix.now c.args.source.now c.args.n (left c.args.source.now c.args.tokens.now) g.got (rw c.tail-inner.ensures at g.same) (rw c.place_at-place.ensures at c.record_of-2.ensures);
      };
    }

pub expressions::keyword_form-returns-in_ok-rules-in-Some-Fn : goal.expressions::keyword_form-returns-in_ok-rules-in-Some-Fn
expressions::keyword_form-returns-in_ok-rules-in-Some-Fn t c =
    let i = left c.args.source.now c.args.tokens.now in
    let r = c.in_ok-rules-in-Some-Fn.ensures.gives in
    record {
      gives = record {
        got = record { tree = tree.fn (place_at i) r.got.tree; rest = r.got.rest };
        is = ap (exps.keyword_form c.args.n (readers c.args.n).exp c.args.fix.now) (at-fn i (cc)) ∙ after-ok (λ rs o. read (tree.fn (place_at i) rs) o) (rw c.tail-inner.ensures at r.is);
        same = is-fn c.args.fix.now c.args.source.now c.args.n i r.got (rw c.tail-inner.ensures at r.same) (rw c.place_at-place.ensures at c.lambda.ensures);
      };
    }

pub expressions::read_atom-returns-then-n-eq0 : goal.expressions::read_atom-returns-then-n-eq0
expressions::read_atom-returns-then-n-eq0 t c = record { gives = fails-by c.no_atom_room.result _ _ (atom-zero c.args.n c.args.fix.now (left c.args.source.now c.args.tokens.now) c.if-n-eq0.true) c.no_atom_room.ensures }

pub expressions::read_atom-returns-in-Some : goal.expressions::read_atom-returns-in-Some
expressions::read_atom-returns-in-Some t c =
    let i = left c.args.source.now c.args.tokens.now in
    let e = atom-one c.args.n c.args.fix.now i (omega arith) ∙ ap (atom_by (readers (c.args.n - 1)) c.args.fix.now) (brace-start c.args.fix.now i c.in-Some.ensures) in
    let n : c.args.n - 1 + 1 ≡ c.args.n = omega arith in
    record { gives = rw e (rw n at c.in_braces.ensures.gives) }

pub expressions::read_atom-returns-in-Some-after_word : goal.expressions::read_atom-returns-in-Some-after_word
expressions::read_atom-returns-in-Some-after_word t c =
    let i = left c.args.source.now c.args.tokens.now in
    let e = atom-one c.args.n c.args.fix.now i (omega arith) ∙ ap (atom_by (readers (c.args.n - 1)) c.args.fix.now) (paren-start c.args.fix.now i c.in-Some-after_word.ensures) in
    let n : c.args.n - 1 + 1 ≡ c.args.n = omega arith in
    record { gives = rw e (rw n at c.in_parens.ensures.gives) }

pub expressions::read_atom-returns-in-Some-after_word-2 : goal.expressions::read_atom-returns-in-Some-after_word-2
expressions::read_atom-returns-in-Some-after_word-2 t c =
    let i = left c.args.source.now c.args.tokens.now in
    let e = atom-one c.args.n c.args.fix.now i (omega arith) ∙ ap (atom_by (readers (c.args.n - 1)) c.args.fix.now) (bracket-start c.args.fix.now i c.in-Some-after_word-2.ensures) in
    let n : c.args.n - 1 + 1 ≡ c.args.n = omega arith in
    record { gives = rw e (rw n at c.in_brackets.ensures.gives) }

pub expressions::read_atom-returns-in-Some-after_word-3 : goal.expressions::read_atom-returns-in-Some-after_word-3
expressions::read_atom-returns-in-Some-after_word-3 t c =
    let i = left c.args.source.now c.args.tokens.now in
    let e = atom-one c.args.n c.args.fix.now i (omega arith) ∙ ap (atom_by (readers (c.args.n - 1)) c.args.fix.now) (let-start c.args.fix.now i c.in-Some-after_word-3.ensures) in
    let n : c.args.n - 1 + 1 ≡ c.args.n = omega arith in
    record { gives = rw e (rw n at c.read_let.ensures.gives) }

pub expressions::read_atom-returns : goal.expressions::read_atom-returns
expressions::read_atom-returns t c =
    let i = left c.args.source.now c.args.tokens.now in
    record { gives = leaf-read c.args.fix.now c.args.source.now c.args.n i c.leaf_atom.result (omega arith) c.in_default.ensures c.in_default-after_word.ensures c.in_default-after_word-2.ensures c.in_default-after_word-3.ensures c.leaf_atom.ensures.gives }

pub expressions::read_atoms-atoms-init : goal.expressions::read_atoms-atoms-init
expressions::read_atoms-atoms-init t c = record {
  collects = collects-start (exp_list c.args.source.now.file) depth_exps (atoms_turn (readers c.args.n).atom c.args.fix.now) no_state (left c.args.source.now c.args.tokens.now) (ap (map exp_of) c.new-all.ensures.items);
  begins = c.requires.begins;
  short = omega arith;
  fits = omega arith;
}

pub expressions::read_atoms-returns-in_err-front : goal.expressions::read_atoms-returns-in_err-front
expressions::read_atoms-returns-in_err-front t c =
    let p = err_from_is_err_and c.from_residual.result c.from_residual.ensures.1 in rw (p.1, p.2) (record { gives = atoms-fails c.args.source.now (readers c.args.n).atom c.args.fix.now c.in_err-front.field-0.0 c.atoms.invariant.begins (rw c.in_err-front.ensures.second at c.read_atom.ensures.gives) c.atoms.invariant.collects })

pub expressions::read_atoms-returns-then-not-begins_atom : goal.expressions::read_atoms-returns-then-not-begins_atom
expressions::read_atoms-returns-then-not-begins_atom t c =
    let g = (rw c.in_ok-front.ensures.second at c.read_atom.ensures.gives) in
    let l = list-at (ap (map exp_of) (rw c.in_ok-front.ensures.first at c.in_ok-all.ensures) ∙ map_push exp_of c.atoms.all.items c.in_ok-front.atom.it) c.max-deepest.ensures
    (atoms-last c.args.source.now c.args.n (readers c.args.n).atom c.args.fix.now g.got c.atoms.invariant.begins g.is g.same.is (cc) c.atoms.invariant.short c.atoms.invariant.fits c.atoms.invariant.collects) in
    record { gives = record { got = l.got; is = l.is; same = l.same } }

pub expressions::read_atoms-atoms-preserved : goal.expressions::read_atoms-atoms-preserved
expressions::read_atoms-atoms-preserved t c =
    let g = (rw c.in_ok-front.ensures.second at c.read_atom.ensures.gives) in
    let l = exp-low g.same.is in
    let q = ap length g.same.is.rest in
    let sh = g.same.is.shorter in
    record {
      collects = collects-at (exp_list c.args.source.now.file) depth_exps (atoms_turn (readers c.args.n).atom c.args.fix.now) (ap (map exp_of) (rw c.in_ok-front.ensures.first at c.in_ok-all.ensures) ∙ map_push exp_of c.atoms.all.items c.in_ok-front.atom.it) c.max-deepest.ensures (atoms-more c.args.source.now c.args.n (readers c.args.n).atom c.args.fix.now g.got c.atoms.invariant.begins g.is g.same.is c.atoms.invariant.collects);
      begins = cc;
      short = omega (arith, q, sh, c.atoms.invariant.short);
      fits = rw c.max-deepest.ensures (omega (arith, l, c.atoms.invariant.fits));
    }

pub expressions::read_exp-returns-then-n-eq0 : goal.expressions::read_exp-returns-then-n-eq0
expressions::read_exp-returns-then-n-eq0 t c = record { gives = fails-by c.no_room.result _ _ (exp-zero c.args.n c.args.fix.now c.args.level (left c.args.source.now c.args.tokens.now) c.if-n-eq0.true) c.no_room.ensures }

pub expressions::read_exp-returns-then-level-gt4 : goal.expressions::read_exp-returns-then-level-gt4
expressions::read_exp-returns-then-level-gt4 t c = record { gives = exp-one c.args.n c.args.fix.now c.args.level (left c.args.source.now c.args.tokens.now) (omega arith) ∙ keyword-low (readers (c.args.n - 1)) (c.args.n - 1) c.args.fix.now c.args.level (left c.args.source.now c.args.tokens.now) (cc) c.if-level-gt4.true }

pub expressions::read_exp-returns-then-is_keyword : goal.expressions::read_exp-returns-then-is_keyword
expressions::read_exp-returns-then-is_keyword t c =
    let e = exp-one c.args.n c.args.fix.now c.args.level (left c.args.source.now c.args.tokens.now) (omega arith) ∙ keyword-goes (readers (c.args.n - 1)) (c.args.n - 1) c.args.fix.now c.args.level (left c.args.source.now c.args.tokens.now) (cc) c.if-level-gt4.false in
    let n : c.args.n - 1 + 1 ≡ c.args.n = omega arith in
    record { gives = rw e (rw n at c.keyword_form.ensures.gives) }

pub expressions::read_exp-returns-in_err-first : goal.expressions::read_exp-returns-in_err-first
expressions::read_exp-returns-in_err-first t c =
    let p = err_from_is_err_and c.from_residual.result c.from_residual.ensures.1 in rw (p.1, p.2) (record {
      gives = fails-by c.in_err-first.field-0.0 _ _ (exp-one c.args.n c.args.fix.now c.args.level (left c.args.source.now c.args.tokens.now) (omega arith) ∙ exp-goes (readers (c.args.n - 1)) (c.args.n - 1) c.args.fix.now c.args.level (left c.args.source.now c.args.tokens.now) (cc))
          (fails-then c.in_err-first.field-0.0 (application (readers (c.args.n - 1)) (c.args.n - 1) c.args.fix.now (left c.args.source.now c.args.tokens.now)) (λ a m. whole (suffix_turn (readers (c.args.n - 1)).exp (c.args.n - 1) c.args.fix.now c.args.level) a m) c.in_err-first.ensures.gives);
    })

pub expressions::read_exp-suffixes-init : goal.expressions::read_exp-suffixes-init
expressions::read_exp-suffixes-init t c =
    let g = c.in_ok-first.ensures.gives in
    record {
      seeking = seek-start (readers (c.args.n - 1)).exp (c.args.n - 1) c.args.fix.now c.args.level c.args.source.now g.got g.same (exp-one c.args.n c.args.fix.now c.args.level (left c.args.source.now c.args.tokens.now) (omega arith) ∙ exp-goes (readers (c.args.n - 1)) (c.args.n - 1) c.args.fix.now c.args.level (left c.args.source.now c.args.tokens.now) (cc) ∙ after-ok (λ a m. whole (suffix_turn (readers (c.args.n - 1)).exp (c.args.n - 1) c.args.fix.now c.args.level) a m) g.is);
      short = subst (λ z. length z < length (left c.args.source.now c.args.tokens.now)) (sym g.same.is.rest) g.same.is.shorter;
    }

pub expressions::read_exp-returns-then-level-next : goal.expressions::read_exp-returns-then-level-next
expressions::read_exp-returns-then-level-next t c =
    let n : c.args.n - 1 + 1 ≡ c.args.n = omega arith in
    let l = rw n at (seek-low (readers (c.args.n - 1)).exp (c.args.n - 1) c.args.fix.now c.args.level c.args.source.now (left c.args.source.now c.args.tokens.now) c.suffixes.rest.now c.in-Some.tie (left c.args.source.now c.in-Some.after.now) c.in-Some.ensures.next c.suffixes.invariant.seeking (omega (arith, c.tie_level-next.ensures.level)) c.suffixes.invariant.short) in
    record { gives = record { got = l.got; is = l.is; same = l.same } }

pub expressions::read_exp-returns-in_err-tied : goal.expressions::read_exp-returns-in_err-tied
expressions::read_exp-returns-in_err-tied t c =
    let lt = rw c.in_err-tied.ensures.second at c.high_enough.ensures.high in
    let p = err_from_is_err_and c.from_residual-in_err-tied.result c.from_residual-in_err-tied.ensures.1 in
    rw (p.1, p.2) (record { gives = fails-bad c.in_err-tied.field-0.0 _ _ (rw c.in_err-tied.ensures.second at c.high_enough.ensures.stop) (seek-bad (readers (c.args.n - 1)).exp (c.args.n - 1) c.args.fix.now c.args.level c.args.source.now (left c.args.source.now c.args.tokens.now) c.suffixes.rest.now c.in-Some.tie (left c.args.source.now c.in-Some.after.now) c.in-Some.ensures.next c.suffixes.invariant.seeking 0 (omega (arith, c.tie_level-next.ensures.level)) (omega (arith, lt, c.tie_least.ensures))) })

pub expressions::read_exp-returns-in_err-before : goal.expressions::read_exp-returns-in_err-before
expressions::read_exp-returns-in_err-before t c =
    let le = rw c.in_ok-tied.ensures.second at c.high_enough.ensures.high in
    let lt = rw c.in_err-before.ensures.second at c.room.ensures.fits in
    let p = err_from_is_err_and c.from_residual-in_err-before.result c.from_residual-in_err-before.ensures.1 in
    rw (p.1, p.2) (record { gives = fails-deep c.in_err-before.field-0.0 _ _ (rw c.in_err-before.ensures.second at c.room.ensures.stop) (seek-deep (readers (c.args.n - 1)).exp (c.args.n - 1) c.args.fix.now c.args.level c.args.source.now (left c.args.source.now c.args.tokens.now) c.suffixes.rest.now c.in-Some.tie (left c.args.source.now c.in-Some.after.now) c.in-Some.ensures.next c.suffixes.invariant.seeking 0 (omega (arith, c.tie_level-next.ensures.level)) (omega (arith, le, c.tie_least.ensures)) (omega (arith, lt))) })

pub expressions::read_exp-returns-in_err-larger : goal.expressions::read_exp-returns-in_err-larger
expressions::read_exp-returns-in_err-larger t c =
    let le = rw c.in_ok-tied.ensures.second at c.high_enough.ensures.high in
    let fit = rw c.in_ok-before.ensures.second at c.room.ensures.fits in
    let k = c.suffixes.invariant.seeking in
    let h = (rw (c.in_ok-before.ensures.first, c.in_ok-tied.ensures.first) at c.in_err-larger.ensures.gives) k.tree k.bare k.deep (c.place_at-place.ensures ∙ ap (at c.args.source.now.file) (sym k.place)) in
    let p = err_from_is_err_and c.from_residual-in_err-larger.result c.from_residual-in_err-larger.ensures.1 in rw (p.1, p.2) (record { gives = seek-fails (readers (c.args.n - 1)).exp (c.args.n - 1) c.args.fix.now c.args.level c.args.source.now (left c.args.source.now c.args.tokens.now) c.suffixes.rest.now c.in-Some.tie (left c.args.source.now c.in-Some.after.now) c.in-Some.ensures.next c.suffixes.invariant.seeking c.in_err-larger.field-0.0 (omega (arith, c.tie_level-next.ensures.level)) (omega (arith, le, c.tie_least.ensures)) (omega (arith, fit)) h })

pub expressions::read_exp-suffixes-preserved : goal.expressions::read_exp-suffixes-preserved
expressions::read_exp-suffixes-preserved t c =
    let le = rw c.in_ok-tied.ensures.second at c.high_enough.ensures.high in
    let fit = rw c.in_ok-before.ensures.second at c.room.ensures.fits in
    let k = c.suffixes.invariant.seeking in
    let g = (rw (c.in_ok-before.ensures.first, c.in_ok-tied.ensures.first) at c.in_ok-larger.ensures.gives) k.tree k.bare k.deep (c.place_at-place.ensures ∙ ap (at c.args.source.now.file) (sym k.place)) in
    let q = ap length g.same.rest in
    let sh = g.same.shorter in
    record {
      seeking = rw c.tie_level-next.ensures.level (seek-more (readers (c.args.n - 1)).exp (c.args.n - 1) c.args.fix.now c.args.level c.args.source.now (left c.args.source.now c.args.tokens.now) c.suffixes.rest.now c.in-Some.tie (left c.args.source.now c.in-Some.after.now) c.in-Some.ensures.next c.suffixes.invariant.seeking g.got (omega (arith, c.tie_level-next.ensures.level)) (omega (arith, le, c.tie_least.ensures)) (omega (arith, fit)) c.in-Some.ensures.shorter g.is g.same);
      short = omega (arith, q, sh, c.in-Some.ensures.shorter, c.suffixes.invariant.short);
    }

pub expressions::read_exp-returns : goal.expressions::read_exp-returns
expressions::read_exp-returns t c =
    let n : c.args.n - 1 + 1 ≡ c.args.n = omega arith in
    let l = rw n at (seek-none (readers (c.args.n - 1)).exp (c.args.n - 1) c.args.fix.now c.args.level c.args.source.now (left c.args.source.now c.args.tokens.now) c.suffixes.rest.now c.in_default.ensures.next c.suffixes.invariant.seeking c.suffixes.invariant.short) in
    record { gives = record { got = l.got; is = l.is; same = l.same } }

pub expressions::read_exps-exps-init : goal.expressions::read_exps-exps-init
expressions::read_exps-exps-init t c = record {
  collects = collects-start (exp_list c.args.source.now.file) depth_exps (exps_turn c.args.word (readers c.args.n).exp c.args.fix.now) no_state (left c.args.source.now c.args.tokens.now) (ap (map exp_of) c.new-all.ensures.items);
  short = omega arith;
  fits = omega arith;
}

pub expressions::read_exps-returns-in_err-front : goal.expressions::read_exps-returns-in_err-front
expressions::read_exps-returns-in_err-front t c =
    let p = err_from_is_err_and c.from_residual.result c.from_residual.ensures.1 in
    rw (p.1, p.2) (record { gives = exps-fails c.args.source.now c.args.word c.args.closing (readers c.args.n).exp c.args.fix.now c.in_err-front.field-0.0 (left c.args.source.now c.args.tokens.now) (rw c.in_err-front.ensures.second at c.read_exp.ensures.gives) c.exps.invariant.collects })

pub expressions::read_exps-exps-smaller : goal.expressions::read_exps-exps-smaller
expressions::read_exps-exps-smaller t c = let g = (rw c.in_ok-front.ensures.second at c.read_exp.ensures.gives) in exp-shorter c.args.source.now c.args.n c.args.word g.got g.same c.in-Some.ensures

pub expressions::read_exps-exps-preserved : goal.expressions::read_exps-exps-preserved
expressions::read_exps-exps-preserved t c =
    let g = (rw c.in_ok-front.ensures.second at c.read_exp.ensures.gives) in
    let s = exp-shorter c.args.source.now c.args.n c.args.word g.got g.same c.in-Some.ensures in
    let l = exp-low g.same in
    record {
      collects = collects-at (exp_list c.args.source.now.file) depth_exps (exps_turn c.args.word (readers c.args.n).exp c.args.fix.now)
          (ap (map exp_of) (rw c.in_ok-front.ensures.first at c.in_ok-all.ensures) ∙ map_push exp_of c.exps.all.items c.in_ok-front.exp.it) c.max-deepest.ensures
          (exps-more c.args.source.now c.args.n c.args.word (readers c.args.n).exp c.args.fix.now g.got g.is g.same c.in-Some.ensures c.exps.invariant.collects);
      short = omega (arith, s, c.exps.invariant.short);
      fits = rw c.max-deepest.ensures (omega (arith, l, c.exps.invariant.fits));
    }

pub expressions::read_exps-returns-in_err-it-in-None : goal.expressions::read_exps-returns-in_err-it-in-None
expressions::read_exps-returns-in_err-it-in-None t c =
    let g = (rw c.in_ok-front.ensures.second at c.read_exp.ensures.gives) in
    let p = err_from_is_err_and c.from_residual-in_err-it-in-None.result c.from_residual-in_err-it-in-None.ensures.1 in
    rw (p.1, p.2) (record {
      gives = fails-bad c.in_err-it-in-None.field-0.0 _ _ (rw c.in_err-it-in-None.ensures.second at c.past.ensures.stop) (closed-bad c.args.closing
          (exps-last c.args.source.now c.args.n c.args.word (readers c.args.n).exp c.args.fix.now g.got g.is g.same c.in-None.ensures c.exps.invariant.short c.exps.invariant.fits c.exps.invariant.collects) (rw c.in_err-it-in-None.ensures.second at c.past.ensures.word));
    })

pub expressions::read_exps-returns-in-None : goal.expressions::read_exps-returns-in-None
expressions::read_exps-returns-in-None t c =
    let g = (rw c.in_ok-front.ensures.second at c.read_exp.ensures.gives) in
    let l = list-at (ap (map exp_of) (rw c.in_ok-front.ensures.first at c.in_ok-all.ensures) ∙ map_push exp_of c.exps.all.items c.in_ok-front.exp.it) c.max-deepest.ensures
    (exps-last c.args.source.now c.args.n c.args.word (readers c.args.n).exp c.args.fix.now g.got g.is g.same c.in-None.ensures c.exps.invariant.short c.exps.invariant.fits c.exps.invariant.collects) in
    let q = closed-list c.args.closing l (rw c.in_ok-it-in-None.ensures.second at c.past.ensures.word) in
    record { gives = record { got = q.got; is = q.is; same = rw c.in_ok-it-in-None.ensures.first q.same } }

pub expressions::read_let-returns-in_err-body : goal.expressions::read_let-returns-in_err-body
expressions::read_let-returns-in_err-body t c =
    let i = left c.args.source.now c.args.tokens.now in
    let g = c.in_ok-decs.ensures.gives in
    let m = left c.args.source.now c.in-Some.after.now in
    let e = let-goes c.args.source.now c.args.n c.args.fix.now _ _ g.got c.in_ok-inner.ensures (place_at i) (tail i) m (rw c.tail.ensures at g.is) (rw c.tail.ensures at g.same) c.in-Some.ensures in
    let p = err_from_is_err_and c.from_residual-in_err-body.result c.from_residual-in_err-body.ensures.1 in
    rw (p.1, p.2) (record { gives = fails-by c.in_err-body.field-0.0 _ _ e (fails-then c.in_err-body.field-0.0 _ (λ es o. read (tree.let_in (place_at i) g.got.tree es) o) c.in_err-body.ensures.gives) })

pub expressions::read_let-returns : goal.expressions::read_let-returns
expressions::read_let-returns t c =
    let i = left c.args.source.now c.args.tokens.now in
    let g = c.in_ok-decs.ensures.gives in
    let m = left c.args.source.now c.in-Some.after.now in
    let ds = rw c.tail.ensures at g.same in
    let e = let-goes c.args.source.now c.args.n c.args.fix.now _ _ g.got c.in_ok-inner.ensures (place_at i) (tail i) m (rw c.tail.ensures at g.is) ds c.in-Some.ensures in
    let es = c.in_ok-body.ensures.gives in
    record {
      gives = record {
        got = record { tree = tree.let_in (place_at i) g.got.tree es.got.tree; rest = es.got.rest };
        is = e ∙ after-ok (λ es o. read (tree.let_in (place_at i) g.got.tree es) o) es.is;
        same = rw c.max.ensures (is-let c.args.source.now c.args.n c.args.fix.now _ _ g.got c.in_ok-inner.ensures _ i es.got ds c.in-Some.ensures es.same c.remove-first.ensures.value c.remove-first.ensures.items (rw c.place_at.ensures at c.in_ok-it.ensures));
      };
    }

pub expressions::read_match-rules-init : goal.expressions::read_match-rules-init
expressions::read_match-rules-init t c = record {
  collects = collects-start (rule_list c.args.source.now.file) depth_rules (rule_turn c.args.n (readers c.args.n).exp c.args.fix.now) no_state (left c.args.source.now c.args.tokens.now) (ap (map rule_of) c.new-all.ensures.items);
  short = omega arith;
  fits = omega arith;
}

pub expressions::read_match-returns-in_err-front : goal.expressions::read_match-returns-in_err-front
expressions::read_match-returns-in_err-front t c =
    let p = err_from_is_err_and c.from_residual.result c.from_residual.ensures.1 in rw (p.1, p.2) (record { gives = rules-fails-pat c.args.source.now c.args.n (readers c.args.n).exp c.args.fix.now c.in_err-front.field-0.0 (left c.args.source.now c.args.tokens.now) (rw c.in_err-front.ensures.second at c.read_pat.ensures.gives) c.rules.invariant.collects })

pub expressions::read_match-returns-in_err-parts : goal.expressions::read_match-returns-in_err-parts
expressions::read_match-returns-in_err-parts t c =
    let a = (rw c.in_ok-front.ensures.second at c.read_pat.ensures.gives) in
    let h = subst (λ z. Fails c.in_err-parts.field-0.0 (word_then res.DoubleArrow ((readers c.args.n).exp c.args.fix.now 0) z)) a.same.rest (rw c.in_err-parts.ensures.second at c.read_after.ensures.gives) in
    let p = err_from_is_err_and c.from_residual-in_err-parts.result c.from_residual-in_err-parts.ensures.1 in rw (p.1, p.2) (record { gives = rules-fails c.args.source.now c.args.n (readers c.args.n).exp c.args.fix.now c.in_err-parts.field-0.0 (left c.args.source.now c.args.tokens.now) a.got a.is h c.rules.invariant.collects })

pub expressions::read_match-returns-in_default : goal.expressions::read_match-returns-in_default
expressions::read_match-returns-in_default t c =
    let a = (rw c.in_ok-front.ensures.second at c.read_pat.ensures.gives) in
    let y = (rw c.in_ok-parts.ensures.second at c.read_after.ensures.gives) in
    let g = moved-exp c.args.source.now c.args.n (word_then res.DoubleArrow ((readers c.args.n).exp c.args.fix.now 0)) {x = c.in_ok-parts.exp.it} {h = c.in_ok-parts.exp.depth} {o = c.in_ok-parts.exp.rest.now} a.same.rest (record { got = y.got; is = y.is; same = y.same }) in
    let l = list-at (ap (map rule_of) (rw (c.in_ok-parts.ensures.first, c.in_ok-front.ensures.first) at c.in_ok-all.ensures) ∙ map_push rule_of c.rules.all.items c.rule.result ∙ ap (λ z. map rule_of c.rules.all.items ++ z ∷ []) ((rw c.in_ok-parts.ensures.first at c.rule.ensures) ∙ ap (λ z. record { place = z; pat = pat_of c.in_ok-front.pat.it; exp = exp_of c.in_ok-parts.exp.it }) c.place_at-place.ensures)) (c.max-deepest.ensures ∙ ap (λ z. max z c.rules.deepest) (rw c.in_ok-parts.ensures.first at c.max.ensures)) (rules-last c.args.source.now c.args.n (readers c.args.n).exp c.args.fix.now a.got g.got a.is a.same g.is g.same c.in_default.ensures c.rules.invariant.short c.rules.invariant.fits c.rules.invariant.collects) in
    record { gives = record { got = l.got; is = l.is; same = l.same } }

pub expressions::read_match-rules-smaller : goal.expressions::read_match-rules-smaller
expressions::read_match-rules-smaller t c =
    let a = (rw c.in_ok-front.ensures.second at c.read_pat.ensures.gives) in
    let y = (rw c.in_ok-parts.ensures.second at c.read_after.ensures.gives) in
    let g = moved-exp c.args.source.now c.args.n (word_then res.DoubleArrow ((readers c.args.n).exp c.args.fix.now 0)) {x = c.in_ok-parts.exp.it} {h = c.in_ok-parts.exp.depth} {o = c.in_ok-parts.exp.rest.now} a.same.rest (record { got = y.got; is = y.is; same = y.same }) in
    rule-shorter c.args.source.now c.args.n a.got g.got a.same g.same c.in-Some.ensures

pub expressions::read_match-rules-preserved : goal.expressions::read_match-rules-preserved
expressions::read_match-rules-preserved t c =
    let a = (rw c.in_ok-front.ensures.second at c.read_pat.ensures.gives) in
    let y = (rw c.in_ok-parts.ensures.second at c.read_after.ensures.gives) in
    let g = moved-exp c.args.source.now c.args.n (word_then res.DoubleArrow ((readers c.args.n).exp c.args.fix.now 0)) {x = c.in_ok-parts.exp.it} {h = c.in_ok-parts.exp.depth} {o = c.in_ok-parts.exp.rest.now} a.same.rest (record { got = y.got; is = y.is; same = y.same }) in
    let sh = rule-shorter c.args.source.now c.args.n a.got g.got a.same g.same c.in-Some.ensures in
    let l = exp-low g.same in
    let lp = rule-low a.same in
    record {
      collects = collects-at (rule_list c.args.source.now.file) depth_rules (rule_turn c.args.n (readers c.args.n).exp c.args.fix.now) (ap (map rule_of) (rw (c.in_ok-parts.ensures.first, c.in_ok-front.ensures.first) at c.in_ok-all.ensures) ∙ map_push rule_of c.rules.all.items c.rule.result ∙ ap (λ z. map rule_of c.rules.all.items ++ z ∷ []) ((rw c.in_ok-parts.ensures.first at c.rule.ensures) ∙ ap (λ z. record { place = z; pat = pat_of c.in_ok-front.pat.it; exp = exp_of c.in_ok-parts.exp.it }) c.place_at-place.ensures)) (c.max-deepest.ensures ∙ ap (λ z. max z c.rules.deepest) (rw c.in_ok-parts.ensures.first at c.max.ensures)) (rules-more c.args.source.now c.args.n (readers c.args.n).exp c.args.fix.now a.got g.got a.is a.same g.is g.same c.in-Some.ensures c.rules.invariant.collects);
      short = omega (arith, sh, c.rules.invariant.short);
      fits = rw (c.max-deepest.ensures ∙ ap (λ z. max z c.rules.deepest) (rw c.in_ok-parts.ensures.first at c.max.ensures)) (omega (arith, l, lp, c.rules.invariant.fits));
    }

pub expressions::read_parts-parts-init : goal.expressions::read_parts-parts-init
expressions::read_parts-parts-init t c = record {
  collects = rw (c.joint_level-level.ensures.level, c.joint_right-right.ensures)
      (collects-start (operands c.args.source.now.file) depth_parts (part_turn (readers c.args.n).exp c.args.fix.now (joint_level c.args.fix.now (joint_from c.args.first.now)) (joint_right c.args.fix.now (joint_from c.args.first.now))) (joint_from c.args.first.now) (left c.args.source.now c.args.tokens.now) (ap (map part_of) c.new-all.ensures.items));
  file = c.requires.place;
  short = omega arith;
  fits = omega arith;
}

pub expressions::read_parts-returns-in_err-front : goal.expressions::read_parts-returns-in_err-front
expressions::read_parts-returns-in_err-front t c =
    let p = err_from_is_err_and c.from_residual.result c.from_residual.ensures.1 in rw (p.1, p.2) (record { gives = parts-fails c.args.source.now (readers c.args.n).exp c.args.fix.now c.joint_level-level.result c.joint_right-right.result c.in_err-front.field-0.0 (joint_from c.parts.joint) (rw c.in_err-front.ensures.second at c.read_exp.ensures.gives) c.parts.invariant.collects })

pub expressions::read_parts-returns-in_err-grown : goal.expressions::read_parts-returns-in_err-grown
expressions::read_parts-returns-in_err-grown t c =
    let g = (rw c.in_ok-front.ensures.second at c.read_exp.ensures.gives) in
    let p = err_from_is_err_and c.from_residual-in_err-grown.result c.from_residual-in_err-grown.ensures.1 in rw (p.1, p.2) (record { gives = parts-fails-next c.args.source.now c.args.n (readers c.args.n).exp c.args.fix.now c.joint_level-level.result c.joint_right-right.result c.in_err-grown.field-0.0 (joint_from c.parts.joint) g.got g.is g.same (rw c.in_err-grown.ensures.second at c.next_joint.ensures.next) c.parts.invariant.collects })

pub expressions::read_parts-returns-in_default : goal.expressions::read_parts-returns-in_default
expressions::read_parts-returns-in_default t c =
    let g = (rw c.in_ok-front.ensures.second at c.read_exp.ensures.gives) in
    let ends = rw c.in_default.is at (rw c.in_ok-grown.ensures.second at c.next_joint.ensures.next) in
    let l = list-at (ap (map part_of) (rw c.in_ok-front.ensures.first at c.in_ok-longer.ensures) ∙ map_push part_of c.parts.all.items c.part.result ∙ ap (λ z. map part_of c.parts.all.items ++ z ∷ []) (c.part.ensures ∙ ap (λ z. record { joint = c.parts.joint; place = z; operand = exp_of c.in_ok-front.exp.it }) c.place_at-place.ensures)) c.max-deepest.ensures
    (parts-last c.args.source.now c.args.n (readers c.args.n).exp c.args.fix.now c.joint_level-level.result c.joint_right-right.result g.got (exp-at (readers c.args.n).exp c.args.fix.now c.joint_level-level.result (left c.args.source.now c.parts.rest.now) ∙ g.is) g.same c.parts.invariant.file ends c.parts.invariant.short c.parts.invariant.fits c.parts.invariant.collects) in
    record { gives = record { got = l.got; is = l.is; same = rw c.in_ok-grown.ensures.first l.same } }

pub expressions::read_parts-parts-preserved : goal.expressions::read_parts-parts-preserved
expressions::read_parts-parts-preserved t c =
    let g = (rw c.in_ok-front.ensures.second at c.read_exp.ensures.gives) in
    let l = exp-low g.same in
    let goes = rw c.in-Some.is at (rw c.in_ok-grown.ensures.second at c.next_joint.ensures.next) in
    let file = rw c.in-Some.is at (rw c.in_ok-grown.ensures.second at c.next_joint.ensures.place) in
    let lt = rw c.in-Some.is at (rw c.in_ok-grown.ensures.second at c.next_joint.ensures.shorter) in
    let q = ap length g.same.rest in
    let sh = g.same.shorter in
    let tl = ap length c.tail-rest.ensures in
    record {
      collects = rw (c.tail-rest.ensures, c.in_ok-grown.ensures.first) (collects-at (operands c.args.source.now.file) depth_parts (part_turn (readers c.args.n).exp c.args.fix.now c.joint_level-level.result c.joint_right-right.result) (ap (map part_of) (rw c.in_ok-front.ensures.first at c.in_ok-longer.ensures) ∙ map_push part_of c.parts.all.items c.part.result ∙ ap (λ z. map part_of c.parts.all.items ++ z ∷ []) (c.part.ensures ∙ ap (λ z. record { joint = c.parts.joint; place = z; operand = exp_of c.in_ok-front.exp.it }) c.place_at-place.ensures)) c.max-deepest.ensures
          (parts-more c.args.source.now c.args.n (readers c.args.n).exp c.args.fix.now c.joint_level-level.result c.joint_right-right.result g.got c.in-Some.next (exp-at (readers c.args.n).exp c.args.fix.now c.joint_level-level.result (left c.args.source.now c.parts.rest.now) ∙ g.is) g.same c.parts.invariant.file goes lt c.parts.invariant.collects));
      file = file;
      short = omega (arith, q, sh, lt, tl, c.parts.invariant.short);
      fits = rw c.max-deepest.ensures (omega (arith, l, c.parts.invariant.fits));
    }

pub expressions::read_rows-fields-init : goal.expressions::read_rows-fields-init
expressions::read_rows-fields-init t c = record {
  collects = collects-start (field_list c.args.source.now.file) depth_exp_fields (row_turn (readers c.args.n).exp c.args.fix.now) no_state (left c.args.source.now c.args.tokens.now) (ap (map exp_field_of) c.new-all.ensures.items);
  short = omega arith;
  fits = omega arith;
}

pub expressions::read_rows-returns-in_default : goal.expressions::read_rows-returns-in_default
expressions::read_rows-returns-in_default t c = record { gives = rows-none c.args.source.now (readers c.args.n).exp c.args.fix.now 0 (left c.args.source.now c.args.tokens.now) c.in_default.ensures c.fields.invariant.collects }

pub expressions::read_rows-returns-in_err-front : goal.expressions::read_rows-returns-in_err-front
expressions::read_rows-returns-in_err-front t c =
    let p = err_from_is_err_and c.from_residual.result c.from_residual.ensures.1 in rw (p.1, p.2) (record { gives = rows-fails c.args.source.now (readers c.args.n).exp c.args.fix.now c.in_err-front.field-0.0 (left c.args.source.now c.args.tokens.now) c.in-Some.ensures (rw c.in_err-front.ensures.second at c.read_after.ensures.gives) c.fields.invariant.collects })

pub expressions::read_rows-fields-preserved : goal.expressions::read_rows-fields-preserved
expressions::read_rows-fields-preserved t c =
    let g = (rw c.in_ok-front.ensures.second at c.read_after.ensures.gives) in
    let l = exp-low g.same in
    let sh = row-shorter c.args.source.now c.args.n (left c.args.source.now c.fields.rest.now) _ g.got c.in-Some.ensures g.same c.in-Some-after_word.ensures in
    record {
      collects = collects-at (field_list c.args.source.now.file) depth_exp_fields (row_turn (readers c.args.n).exp c.args.fix.now) (ap (map exp_field_of) (rw c.in_ok-front.ensures.first at c.in_ok-all.ensures) ∙ map_push exp_field_of c.fields.all.items c.field.result ∙ ap (λ z. map exp_field_of c.fields.all.items ++ z ∷ []) c.field.ensures) c.max-deepest.ensures (rows-more c.args.source.now c.args.n (readers c.args.n).exp c.args.fix.now g.got c.in-Some.ensures g.is g.same c.in-Some-after_word.ensures c.fields.invariant.collects);
      short = omega (arith, sh, c.fields.invariant.short);
      fits = rw c.max-deepest.ensures (omega (arith, l, c.fields.invariant.fits));
    }

pub expressions::read_rows-returns-in_err-it-in-None : goal.expressions::read_rows-returns-in_err-it-in-None
expressions::read_rows-returns-in_err-it-in-None t c =
    let g = (rw c.in_ok-front.ensures.second at c.read_after.ensures.gives) in
    let p = err_from_is_err_and c.from_residual-in_err-it-in-None.result c.from_residual-in_err-it-in-None.ensures.1 in
    rw (p.1, p.2) (record { gives = fails-bad c.in_err-it-in-None.field-0.0 _ _ (rw c.in_err-it-in-None.ensures.second at c.past.ensures.stop) (closed-bad res.RightBrace (rows-last c.args.source.now c.args.n (readers c.args.n).exp c.args.fix.now g.got c.in-Some.ensures g.is g.same c.in-None.ensures c.fields.invariant.short c.fields.invariant.fits c.fields.invariant.collects) (rw c.in_err-it-in-None.ensures.second at c.past.ensures.word)) })

pub expressions::read_rows-returns-in-None : goal.expressions::read_rows-returns-in-None
expressions::read_rows-returns-in-None t c =
    let g = (rw c.in_ok-front.ensures.second at c.read_after.ensures.gives) in
    let l = list-at (ap (map exp_field_of) (rw c.in_ok-front.ensures.first at c.in_ok-all.ensures) ∙ map_push exp_field_of c.fields.all.items c.field.result ∙ ap (λ z. map exp_field_of c.fields.all.items ++ z ∷ []) c.field.ensures) c.max-deepest.ensures (rows-last c.args.source.now c.args.n (readers c.args.n).exp c.args.fix.now g.got c.in-Some.ensures g.is g.same c.in-None.ensures c.fields.invariant.short c.fields.invariant.fits c.fields.invariant.collects) in
    let q = closed-list res.RightBrace l (rw c.in_ok-it-in-None.ensures.second at c.past.ensures.word) in
    record { gives = record { got = q.got; is = q.is; same = rw c.in_ok-it-in-None.ensures.first q.same } }

pub expressions::read_rows-fields-smaller : goal.expressions::read_rows-fields-smaller
expressions::read_rows-fields-smaller t c =
    let g = rw c.in_ok-front.ensures.second at c.read_after.ensures.gives in
    row-shorter c.args.source.now c.args.n (left c.args.source.now c.fields.rest.now) _ g.got c.in-Some.ensures g.same c.in-Some-after_word.ensures

pub expressions::conditional-returns : goal.expressions::conditional-returns
expressions::conditional-returns t c =
    let s = c.args.source.now in
    let f = c.args.fix.now in
    let i = left s c.args.tokens.now in
    let self = (readers c.args.n).exp in
    let g = c.in_ok-test.ensures.gives in
    let b = rw c.in_ok-condition.ensures.second at c.read_after.ensures.gives in
    let y = moved-exp s c.args.n (word_then res.Then (self f 0)) {x = c.in_ok-condition.yes.it} {h = c.in_ok-condition.yes.depth} {o = c.in_ok-condition.yes.rest.now} g.same.rest (record { got = b.got; is = b.is; same = b.same }) in
    let d = rw c.in_ok-both.ensures.second at c.read_after-2.ensures.gives in
    let z = moved-exp s c.args.n (word_then res.Else (self f 0)) {x = c.in_ok-both.no.it} {h = c.in_ok-both.no.depth} {o = c.in_ok-both.no.rest.now} y.same.rest (record { got = d.got; is = d.is; same = d.same }) in
    let made = rw (c.place_at.ensures, c.in_ok-both.ensures.first, c.in_ok-condition.ensures.first) at c.in_ok-it.ensures in
    let inner = rw c.in_ok-both.ensures.first at c.max.ensures in
    let deep = rw (inner, c.in_ok-both.ensures.first, c.in_ok-condition.ensures.first) at c.max-depth.ensures in
    record {
      gives = record {
        got = record { tree = tree.if_then (place_at i) g.got.tree y.got.tree z.got.tree; rest = z.got.rest };
        is = after-ok (exps.if_rest self f (place_at i)) (rw c.tail.ensures at g.is) ∙ if-as self f (place_at i) g.got
            ∙ after-ok (λ v k. then_read (word_then res.Else (self f 0) k) (λ w o. read (tree.if_then (place_at i) g.got.tree v w) o)) y.is ∙ after-ok (λ w o. read (tree.if_then (place_at i) g.got.tree y.got.tree w) o) z.is;
        same = rw deep (is-if f s c.args.n i g.got (rw c.tail.ensures at g.same) y.got y.same z.got z.same made);
      };
    }

pub expressions::keyword_form-returns-in_ok-while_loop-in-Some-While : goal.expressions::keyword_form-returns-in_ok-while_loop-in-Some-While
expressions::keyword_form-returns-in_ok-while_loop-in-Some-While t c =
    let s = c.args.source.now in
    let f = c.args.fix.now in
    let i = left s c.args.tokens.now in
    let self = (readers c.args.n).exp in
    let g = c.in_ok-test-in-Some-While.ensures.gives in
    let b = rw c.in_ok-condition-in-Some-While.ensures.second at c.read_after.ensures.gives in
    let y = moved-exp s c.args.n (word_then res.Do (self f 0)) {x = c.in_ok-condition-in-Some-While.body.it} {h = c.in_ok-condition-in-Some-While.body.depth} {o = c.in_ok-condition-in-Some-While.body.rest.now} g.same.rest (record { got = b.got; is = b.is; same = b.same }) in
    let made = rw (c.place_at-place.ensures, c.in_ok-condition-in-Some-While.ensures.first) at c.in_ok-while_loop-in-Some-While.ensures in
    let deep = rw c.in_ok-condition-in-Some-While.ensures.first at c.max-depth.ensures in
    record {
      gives = record {
        got = record { tree = tree.while (place_at i) g.got.tree y.got.tree; rest = y.got.rest };
        is = ap (exps.keyword_form c.args.n self f) (at-while i (cc)) ∙ after-ok (exps.while_rest self f (place_at i)) (rw c.tail-inner.ensures at g.is) ∙ while-as self f (place_at i) g.got ∙ after-ok (λ v o. read (tree.while (place_at i) g.got.tree v) o) y.is;
        same = rw deep (is-while f s c.args.n i g.got (rw c.tail-inner.ensures at g.same) y.got y.same made);
      };
    }

pub expressions::in_parens-returns-in_err-front : goal.expressions::in_parens-returns-in_err-front
expressions::in_parens-returns-in_err-front t c =
    let s = c.args.source.now in
    let f = c.args.fix.now in
    let i = left s c.args.tokens.now in
    let self = (readers c.args.n).exp in
    let g = c.in_ok-first.ensures.gives in
    let m = left s c.in-Some-after_word.after.now in
    let comma = subst (λ z. after_word res.Comma z ≡ Some m) g.same.rest c.in-Some-after_word.ensures in
    let p = err_from_is_err_and c.from_residual-in_err-front.result c.from_residual-in_err-front.ensures.1 in
    rw (p.1, p.2) (record {
      gives = fails-by c.in_err-front.field-0.0 _ _ (paren-tuple self f (place_at i) (tail i) g.got (rw c.tail-inner.ensures at c.in_default.ensures) (rw c.tail-inner.ensures at g.is) comma)
          (fails-then c.in_err-front.field-0.0 _ (λ es o. read (tree.tuple_exp (place_at i) (tree.exp g.got.tree es)) o) (rw c.in_err-front.ensures.second at c.read_exps.ensures.gives));
    })

pub expressions::in_parens-returns-in_err-start : goal.expressions::in_parens-returns-in_err-start
expressions::in_parens-returns-in_err-start t c =
    let s = c.args.source.now in
    let f = c.args.fix.now in
    let i = left s c.args.tokens.now in
    let self = (readers c.args.n).exp in
    let g = c.in_ok-first.ensures.gives in
    let m = left s c.in-Some-after_word-2.after.now in
    let comma = subst (λ z. after_word res.Comma z ≡ None) g.same.rest c.in_default-after_word.ensures in
    let semicolon = subst (λ z. after_word res.Semicolon z ≡ Some m) g.same.rest c.in-Some-after_word-2.ensures in
    let p = err_from_is_err_and c.from_residual-in_err-start.result c.from_residual-in_err-start.ensures.1 in
    rw (p.1, p.2) (record {
      gives = fails-by c.in_err-start.field-0.0 _ _ (paren-sequence self f (place_at i) (tail i) g.got (rw c.tail-inner.ensures at c.in_default.ensures) (rw c.tail-inner.ensures at g.is) comma semicolon)
          (fails-then c.in_err-start.field-0.0 _ (λ es o. read (tree.sequence (place_at i) (tree.exp g.got.tree es)) o) (rw c.in_err-start.ensures.second at c.read_exps-in-Some-after_word-2.ensures.gives));
    })
