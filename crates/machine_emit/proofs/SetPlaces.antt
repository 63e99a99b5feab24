-- Where a routine of a set stands, wherever functions are.
use Rattle.std.proofs.Common.{◌≡◌, refl, ℕ, zero, suc, ◌+◌, ◌*◌, max, List, [], ◌∷◌, length, Bool, true, false, ap, ◌∙◌, arith}
use Rattle.std.specs.Prelude.{nat_le, if◌then◌else◌}
use Rattle.first_values.specs.Operations.{Member}
use Rattle.ir_ssa.specs.Tree.{Fun}
use Rattle.machine_routines.specs.FindCode.{by_table, by_search, search_of, search_size, way_of, way_size}
use Rattle.machine_code.specs.Image.{placed, set_place, set_size, tags_end}
use Rattle.emit_walk.proofs.of_emit_parts.Searches.{search-long}

module _ (f g : ℕ → ℕ) where
  same-count : (ms : List Member) → length (placed f ms) ≡ length (placed g ms)
  same-count [] = refl
  same-count (m ∷ ms) = ap suc (same-count ms)

  same-end : (ms : List Member) → tags_end (placed f ms) ≡ tags_end (placed g ms)
  same-end [] = refl
  same-end (m ∷ ms) = ap (λ n. max (suc m.tag) n) (same-end ms)

  same-search : (ms : List Member)
      → search_size (search_of false 0 (length (placed f ms)) (placed f ms)) ≡ search_size (search_of false 0 (length (placed g ms)) (placed g ms))
  same-search [] = refl
  same-search (m ∷ ms) =
      let a = placed f (m ∷ ms) in
      let b = placed g (m ∷ ms) in
      let left : search_size (search_of false 0 (length a) a) + 3 ≡ 4 * length a = search-long false 0 (length a) a (omega arith) (omega arith) in
      let right : search_size (search_of false 0 (length b) b) + 3 ≡ 4 * length b = search-long false 0 (length b) b (omega arith) (omega arith) in
      omega (arith, left, right, same-count ms)

  same-way : (ms : List Member) (n : ℕ) → way_size (way_of false 0 n (placed f ms)) ≡ way_size (way_of false 0 n (placed g ms))
  same-way ms n =
      by (nat_le n (2 * length (placed f ms)))
      ∙ ap (λ z. way_size (if nat_le n (2 * z) then by_table n else by_search (search_of false 0 (length (placed g ms)) (placed g ms)))) (same-count ms)
    where
      by : (b : Bool) → way_size (if b then by_table n else by_search (search_of false 0 (length (placed f ms)) (placed f ms)))
          ≡ way_size (if b then by_table n else by_search (search_of false 0 (length (placed g ms)) (placed g ms)))
      by true = refl
      by false = same-search ms

  same-size : (ms : List Member) → set_size (placed f ms) ≡ set_size (placed g ms)
  same-size ms =
      ap (λ n. 2 + n) (same-way ms (tags_end (placed f ms)) ∙ ap (λ n. way_size (way_of false 0 n (placed g ms))) (same-end ms))

  pub same-place : (funs : List Fun) (sets : List (List Member)) (pc i : ℕ) → set_place funs f pc sets i ≡ set_place funs g pc sets i
  same-place funs [] pc i = refl
  same-place funs (s ∷ sets) pc zero = refl
  same-place funs (s ∷ sets) pc (suc i) =
      same-place funs sets (pc + set_size (placed f s)) i ∙ ap (λ n. set_place funs g (pc + n) sets i) (same-size s)
