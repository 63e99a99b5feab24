-- Words written over a stretch of a list.
use Rattle.std.proofs.Common.{◌≡◌, ℕ, suc, ◌+◌, ◌<◌, ◌≤◌, List, [], ◌∷◌, ◌++◌, take, drop, length, set, get_or, refl, ap, sym, ◌∙◌, arith, append_assoc}
use Rattle.std.proofs.Math.Seq.{drop-cons, set-append_seam}
use Rattle.std.proofs.lemmas.Grind.{common_steps}
use Rattle.ir_code.specs.Words.{write_at}

-- a place right after the parts before it
set_after : (p : List ℕ) (n : ℕ) (y v : ℕ) (r : List ℕ) → n ≡ length p → set (p ++ y ∷ r) n v ≡ p ++ v ∷ r
set_after p n y v r e = rw e (set-append_seam p y r v)

pub write_push : (memory : List ℕ) (at : ℕ) (ws : List ℕ) (n v : ℕ) → n ≡ at + length ws → n < length memory → set (write_at memory at ws) n v ≡ write_at memory at (ws ++ v ∷ [])
write_push memory at ws n v e lt =
    let p : length (take at memory ++ ws) ≡ n = grind (arith, common_steps) in
    let d : drop n memory ≡ get_or memory n 0 ∷ drop (suc n) memory = drop-cons memory n 0 lt in
    let l : write_at memory at ws ≡ (take at memory ++ ws) ++ (get_or memory n 0 ∷ drop (suc n) memory) = rw (← e, d) (sym (append_assoc (take at memory) ws (get_or memory n 0 ∷ drop (suc n) memory))) in
    let k : at + length (ws ++ v ∷ []) ≡ suc n = grind (arith, common_steps) in
    let r : (take at memory ++ ws) ++ (v ∷ drop (suc n) memory) ≡ write_at memory at (ws ++ v ∷ []) = rw k (simp append_assoc) in
    ap (λ x. set x n v) l ∙ set_after (take at memory ++ ws) n (get_or memory n 0) v (drop (suc n) memory) (sym p) ∙ r

pub write_more : (memory : List ℕ) (at : ℕ) (bs : List ℕ) (i v : ℕ) → i < length bs → at + i < length memory → v ≡ get_or bs i 0 → set (write_at memory at (take i bs)) (at + i) v ≡ write_at memory at (take (i + 1) bs)
write_more memory at bs i v lb lm e =
    let n : at + i ≡ at + length (take i bs) = grind (arith, common_steps) in
    let t : take (i + 1) bs ≡ take i bs ++ v ∷ [] = grind (arith, common_steps) in
    rw t (write_push memory at (take i bs) (at + i) v n lm)
