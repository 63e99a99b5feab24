use Rattle.std.proofs.Common.{◌≡◌, ◌&&◌, sym, ap, ◌∙◌}
use Rattle.restrictions.proofs.Declared.{declared}
use Rattle.restrictions.proofs.Standing.{if-ok}
use Rattle.restrictions.proofs.datas.of_declared.Goals as goal
use Rattle.restrictions.proofs.datas.of_declared.Goals.{then-names, else-names}

pub returns : goal.returns
returns c =
    let both : c.if-names.find_unless ≡ (c.in_ok-names.names && c.in_ok-cons.cons) = elim c.if-names.branch [
      | then-names w ↦ w.find_unless-is ∙ sym (ap (λ a. a && c.in_ok-cons.cons) w.if-names.true)
      | else-names w ↦ w.find_unless-is ∙ w.if-names.false ∙ sym (ap (λ a. a && c.in_ok-cons.cons) w.if-names.false)
    ] in
    if-ok c.find_unless.result
    (λ u k bs r.
    declared bs c.args.place c.args.datas.now c.args.found.now.items c.of_datas.new.found.items _ c.in_ok-names.names c.in_ok-cons.cons c.if-names.find_unless c.in_ok-names.ensures c.in_ok-cons.ensures
    both (c.in_ok-of_datas.ensures bs r) k)
    c.find_unless.ensures
