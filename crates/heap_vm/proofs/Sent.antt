-- A list sent in pieces.
use Rattle.std.proofs.Common.{◌≡◌, ℕ, zero, suc, ◌+◌, List, [], ◌∷◌, ◌++◌, take, drop, ap, arith, Option}
use Rattle.std.proofs.Math.Seq.{take-add}
use Rattle.std.proofs.lemmas.Grind.{common_steps}
use Rattle.mlc_outside.specs.Sink.{adds}
use Rattle.heap_vm.proofs.Sinks.{adds-append}

-- the first of the first
take_of_take : (k n : ℕ) (l : List ℕ) → (m : ℕ) × (take k (take n l) ≡ take m l)
take_of_take zero n l = (0, grind (arith, common_steps))
take_of_take (suc k) zero l = (0, grind (arith, common_steps))
take_of_take (suc k) (suc n) [] = (0, grind (arith, common_steps))
take_of_take (suc k) (suc n) (x ∷ l) = let r = take_of_take k n l in (suc r.0, ap (λ t. x ∷ t) r.1)

-- the whole piece was taken
pub more_sent : (w : List ℕ) (o now then : Option (List ℕ)) (i n : ℕ) (piece : List ℕ) → piece ≡ take n (drop i w) → now ≡ adds o (take i w) → then ≡ adds now piece → then ≡ adds o (take (i + n) w)
more_sent w o now then i n piece p e h =
    let a : adds (adds o (take i w)) (take n (drop i w)) ≡ adds o (take i w ++ take n (drop i w)) = adds-append o _ _ in
    let b : take (i + n) w ≡ take i w ++ take n (drop i w) = take-add i n w in
    cc

-- a prefix of it was
pub part_sent : (w : List ℕ) (o now then : Option (List ℕ)) (i n k : ℕ) (piece : List ℕ) → piece ≡ take n (drop i w) → now ≡ adds o (take i w) → then ≡ adds now (take k piece) → (m : ℕ) × (then ≡ adds o (take m w))
part_sent w o now then i n k piece p e h =
    let r = take_of_take k n (drop i w) in
    let q : take k piece ≡ take r.0 (drop i w) = rw p r.1 in
    (i + r.0, more_sent w o now then i r.0 (take k piece) q e h)
