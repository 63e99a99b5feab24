-- One more word is moved down.
use Rattle.std.proofs.Common.{◌≡◌, ℕ, suc, ◌+◌, ◌-◌, ◌<◌, List, [], ◌∷◌, ◌++◌, sym, ap, ◌∙◌, arith, append_assoc}
use Rattle.ir_code.specs.declared.instr.Instr.{Instr}
use Rattle.ir_code.specs.declared.instr.Instr.TheVariants.{Mov}
use Rattle.emit_rows.specs.of_machine_code.Code.{down_code, slot}

pub down-next : (o n r : List Instr) (i : Instr) (to from left to1 from1 a b : ℕ) → o ++ down_code to from left ≡ r → 0 < left → n ≡ o ++ i ∷ [] → i ≡ Mov a b → a ≡ slot to
    → b ≡ slot from → to1 ≡ to + 1 → from1 ≡ from + 1 → n ++ down_code to1 from1 (left - 1) ≡ r
down-next o n r i to from left to1 from1 a b inv pos hn hi ha hb ht hf =
    let more : left ≡ suc (left - 1) = omega (arith, pos) in
    let t : to1 ≡ suc to = omega (arith, ht) in
    let f : from1 ≡ suc from = omega (arith, hf) in
    ap (λ l. l ++ down_code to1 from1 (left - 1)) (hn ∙ ap (λ j. o ++ j ∷ []) (hi ∙ ap (λ z. Mov z b) ha ∙ ap (λ z. Mov (slot to) z) hb))
    ∙ append_assoc o (Mov (slot to) (slot from) ∷ []) (down_code to1 from1 (left - 1))
    ∙ ap (λ z. o ++ Mov (slot to) (slot from) ∷ down_code z from1 (left - 1)) t
    ∙ ap (λ z. o ++ Mov (slot to) (slot from) ∷ down_code (suc to) z (left - 1)) f
    ∙ ap (λ z. o ++ down_code to from z) (sym more)
    ∙ inv
