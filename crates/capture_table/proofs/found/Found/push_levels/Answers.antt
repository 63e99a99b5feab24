use Rattle.std.proofs.Common.{◌≡◌, ◌+◌, ◌≤◌, ◌++◌, take, length, get_or, if◌then◌else◌, refl, sym, ap, subst, ◌∙◌, arith}
use Rattle.plain_tree.specs.declared.tree.Parameter.{Parameter}
use Rattle.capture_table.specs.Levels.{levels}
use Rattle.capture_table.specs.Parts.{entries_in, AreWithin}
use Rattle.capture_table.proofs.Parts.{within-more, longer, stands-last, front-within, front-pushed, same-pieces}
use Rattle.capture_table.proofs.Levels.{level-next, no-levels}
use Rattle.capture_table.proofs.found.Found.push_levels.Goals.{then-is_used, else-is_used}
use Rattle.capture_table.proofs.found.Found.push_levels.Goals as goal

pub loop-i-init : goal.loop-i-init
loop-i-init c =
    let v = c.in_ok-extend_from_slice.ensures.items in
    let s = stands-last c.self.inside.variables.items c.args.innermost.now c.extend_from_slice.new.self.items c.len-from.result (let e = c.len-from.ensures in omega (arith, e)) v in
    record {
      within = within-more (length c.self.inside.variables.items) (length c.self.inside.pieces.items) _ _ c.self.inside.entries.items (longer c.self.inside.variables.items c.args.innermost.now _ v) (omega arith) c.self.invariant;
      stands = s.0;
      fits = s.1;
      counted = c.requires;
      levels = λ uses h. (h, ap (λ l. l ++ levels uses c.args.parameters.now c.args.last (take c.args.first c.args.innermost.now)) (sym c.self.view_is ∙ same-pieces c.self.inside.variables.items c.args.innermost.now _ c.self.inside.pieces.items c.self.inside.entries.items v c.self.invariant));
    }

pub invariant_of-self-in_err-push_made : goal.invariant_of-self-in_err-push_made
invariant_of-self-in_err-push_made c =
    within-more (length c.loop-i.self-inside.variables.items) (length c.loop-i.self-inside.pieces.items) _ _ c.loop-i.self-inside.entries.items (omega arith) c.in_err-push_made.ensures.longer c.loop-i.invariant.within

pub invariant_of-self-in_err-push : goal.invariant_of-self-in_err-push
invariant_of-self-in_err-push c =
    subst (AreWithin (length c.loop-i.self-inside.variables.items) (length c.push_made.new.pieces.items)) (sym c.in_err-push.ensures.items)
    (within-more (length c.loop-i.self-inside.variables.items) (length c.loop-i.self-inside.pieces.items) _ _ c.loop-i.self-inside.entries.items (omega arith) c.in_ok-push_made.ensures.longer c.loop-i.invariant.within)

pub loop-i-preserved : goal.loop-i-preserved
loop-i-preserved c =
    let d : Parameter = record { variable = 0; ty = 0 } in
    let is_used = c.is_next-is_used.result in
    let count = c.loop-i.count in
    let k : c.if-is_used.count ≡ (if is_used then count + 1 else count) = elim c.if-is_used.branch [
      | then-is_used w ↦ w.count-is ∙ ap (λ b. if b then count + 1 else count) (sym w.if-is_used.true)
      | else-is_used w ↦ w.count-is ∙ ap (λ b. if b then count + 1 else count) (sym w.if-is_used.false)
    ] in
    let l = c.loop-i.invariant.counted in
    let m : c.if-is_used.count ≤ length c.args.innermost.now = elim c.if-is_used.branch [
      | then-is_used w ↦ let a = w.count-is in let b = c.is_next-is_used.ensures.within w.if-is_used.true in omega (arith, a, b)
      | else-is_used w ↦ let a = w.count-is in omega (arith, a, l)
    ] in
    let vs = c.loop-i.self-inside.variables.items in
    let ps = c.loop-i.self-inside.pieces.items in
    let es = c.loop-i.self-inside.entries.items in
    let s = c.loop-i.invariant.stands in
    let f = c.loop-i.invariant.fits in
    let made : c.len-made.result ≡ length c.loop-i.self-inside.pieces.items = let e = c.len-made.ensures in omega (arith, e) in
    let past : c.len.result ≡ length c.push_made.new.pieces.items = let e = c.len.ensures in omega (arith, e) in
    record {
      within = front-within vs c.args.innermost.now c.len-from.result s f ps _ c.push_made.new.pieces.items es c.push.new.self.items c.number_after-number.result c.if-is_used.count c.len-made.result c.len.result m made
          c.in_ok-push_made.ensures.made past c.in_ok-push.ensures.items c.loop-i.invariant.within;
      stands = s;
      fits = f;
      counted = m;
      levels = λ uses h. level-next c.args.innermost.now uses c.args.parameters.now c.args.last c.args.first c.args.self.now c.loop-i.i count (entries_in vs ps es) (get_or c.args.parameters.now c.loop-i.i d) d is_used c.number_after-number.result c.if-is_used.count _
          c.loop-i-test.true refl l c.number_after-number.ensures (c.is_next-is_used.ensures.used uses) k
          (front-pushed vs c.args.innermost.now c.len-from.result s f ps _ c.push_made.new.pieces.items es c.push.new.self.items c.number_after-number.result c.if-is_used.count c.len-made.result c.len.result m made
          c.in_ok-push_made.ensures.made past c.in_ok-push.ensures.items c.loop-i.invariant.within) (c.loop-i.invariant.levels uses h);
    }

pub returns-then-is_empty : goal.returns-then-is_empty
returns-then-is_empty c = λ uses h. no-levels uses c.args.parameters.now c.args.last (take c.args.first c.args.innermost.now) c.args.self.now c.is_empty.result c.is_empty.ensures c.if-is_empty.true
