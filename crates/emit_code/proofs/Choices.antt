-- Tables and searches of targets.
use Rattle.std.proofs.Common.{◌≡◌, refl, ℕ, zero, suc, ◌+◌, ◌<◌, List, [], ◌∷◌, ◌++◌, length, map, sym, ap, ◌∙◌, arith, get_or, append_assoc}
use Rattle.ir_code.specs.declared.instr.Instr.{Instr}
use Rattle.ir_code.specs.declared.instr.Instr.TheVariants.{Jmp, Switch}
use Rattle.machine_routines.specs.FindCode.{Target, member_at, or_place, jumps, table_code}

pub jumps-are : (set : List Target) (p i n : ℕ) (ps : List ℕ) → length ps ≡ n → ((t : ℕ) → t < n → get_or ps t 0 ≡ or_place (member_at (i + t) set) p) → jumps set p i n ≡ map Jmp ps
jumps-are set p i zero [] e h = refl
jumps-are set p i zero (x ∷ ps) e h = absurd (omega (arith, e))
jumps-are set p i (suc n) [] e h = absurd (omega (arith, e))
jumps-are set p i (suc n) (x ∷ ps) e h =
    let first : or_place (member_at i set) p ≡ x = sym (h 0 (omega arith) ∙ ap (λ z. or_place (member_at z set) p) (let t : i + 0 ≡ i = omega arith in t)) in
    ap (λ z. Jmp z ∷ jumps set p (suc i) n) first
    ∙ ap (λ l. Jmp x ∷ l) (jumps-are set p (suc i) n ps (omega (arith, e)) (λ t lt. h (suc t) (omega (arith, lt)) ∙ ap (λ z. or_place (member_at z set) p) (let u : i + suc t ≡ suc i + t = omega arith in u)))

pub table-is : (set : List Target) (old o1 o2 : List Instr) (i : Instr) (k p n : ℕ) (ps qs : List ℕ) → o1 ≡ old ++ Switch k n ∷ [] → qs ≡ ps → o2 ≡ o1 ++ map Jmp qs
    → i ≡ Jmp p → length ps ≡ n → ((t : ℕ) → t < n → get_or ps t 0 ≡ or_place (member_at t set) p) → o2 ++ i ∷ [] ≡ old ++ table_code set k p n
table-is set old o1 o2 i k p n ps qs h1 hq h2 hi hn he =
    let js = jumps-are set p 0 n ps hn (λ t lt. he t lt ∙ ap (λ z. or_place (member_at z set) p) (let u : t ≡ 0 + t = omega arith in u)) in
    let two : o2 ≡ old ++ (Switch k n ∷ jumps set p 0 n) =
    h2 ∙ ap (λ l. o1 ++ map Jmp l) hq ∙ ap (λ l. o1 ++ l) (sym js) ∙ ap (λ l. l ++ jumps set p 0 n) h1 ∙ append_assoc old (Switch k n ∷ []) (jumps set p 0 n) in
    ap (λ j. o2 ++ j ∷ []) hi ∙ ap (λ l. l ++ Jmp p ∷ []) two ∙ append_assoc old (Switch k n ∷ jumps set p 0 n) (Jmp p ∷ [])
