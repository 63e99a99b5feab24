use Rattle.std.proofs.Common.{◌≡◌, ◌+◌, ◌-◌, ◌∷◌, [], ◌++◌, subst, OnOk, arith}
use Rattle.ir_code.specs.declared.instr.Instr.TheVariants.{Li, Mov, Jmp, Alloc, Ld, St}
use Rattle.emit_equality.proofs.equality.push_inner.Goals as goal

pub returns : goal.returns
returns c shapes o t long target =
    let new = c.push_pending.new.code.items in
    let old = c.args.code.now.items in
    let n = c.args.number in
    let on : c.in_ok-behind.behind - 8 ≡ o + 10 = omega arith in
    subst (λ q. OnOk c.push_pending.result (new ≡ old
    ++ Alloc 2 4 ∷ Li 3 (o + 10) ∷ St 2 0 3 ∷ St 2 1 5 ∷ St 2 2 6 ∷ St 2 3 4 ∷ Mov 4 2 ∷ Ld 5 5 n ∷ Ld 6 6 n ∷ Jmp q ∷ [])) target
    (subst (λ z. OnOk c.push_pending.result (new ≡ old
    ++ Alloc 2 4 ∷ Li 3 z ∷ St 2 0 3 ∷ St 2 1 5 ∷ St 2 2 6 ∷ St 2 3 4 ∷ Mov 4 2 ∷ Ld 5 5 n ∷ Ld 6 6 n ∷ Jmp c.args.target ∷ [])) on
    c.push_pending.ensures)
