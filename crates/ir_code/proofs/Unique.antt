-- No two programs have the same bytes.
use Rattle.std.proofs.Common.{◌≡◌, ℕ, List, [], ◌∷◌, ◌++◌, length, drop, take, map, refl, sym, ap, ◌∙◌}
use Rattle.std.specs.List.{flat_map}
use Rattle.std.proofs.lemmas.List.{append-nil}
use Rattle.std.proofs.Math.Seq.{drop-append_seam, take-append_seam}
use Rattle.ir_code.specs.Program.{Program}
use Rattle.ir_code.specs.declared.instr.Instr.{Instr}
use Rattle.ir_code.specs.ImageBytes.{row_of, words_of, fours, image_words, words}
use Rattle.ir_code.specs.ImageLaws.{OneProgramPerImage}
use Rattle.ir_code.proofs.Cuts.{fours-rows}
use Rattle.ir_code.proofs.Images.{words-image}
use Rattle.ir_code.proofs.Rows.{instr_at, codes}

cons_parts : {X : Type 0} (a b : X) (x y : List X) → a ∷ x ≡ b ∷ y → (a ≡ b) × (x ≡ y)
cons_parts a b x y e = (cc, cc)

-- lists of one length that stand before others
fronts : {X : Type 0} (a b x y : List X) → length a ≡ length b → a ++ x ≡ b ++ y → (a ≡ b) × (x ≡ y)
fronts a b x y len e = (
  sym (take-append_seam a x) ∙ ap (take (length a)) e ∙ ap (λ (n : ℕ). take n (b ++ y)) len ∙ take-append_seam b y,
  sym (drop-append_seam a x) ∙ ap (drop (length a)) e ∙ ap (λ (n : ℕ). drop n (b ++ y)) len ∙ drop-append_seam b y,
)

rows_are : (code : List Instr) → fours (flat_map words_of code) ≡ map row_of code
rows_are code = ap fours (sym (append-nil (flat_map words_of code))) ∙ fours-rows code [] ∙ append-nil (map row_of code)

code_unique : (c d : List Instr) → flat_map words_of c ≡ flat_map words_of d → c ≡ d
code_unique c d e = sym (codes c) ∙ ap (map instr_at) (sym (rows_are c) ∙ ap fours e ∙ rows_are d) ∙ codes d

program_is : (c d : List ℕ) (e f : List Instr) → c ≡ d → e ≡ f → (let p : Program = record { constants = c; code = e } in p) ≡ record { constants = d; code = f }
program_is c d e f h k = rw (h, k) refl

pub one_program : OneProgramPerImage
one_program p q hp hq e =
    let w : 827870285 ∷ image_words p ≡ 827870285 ∷ image_words q = sym (words-image p hp) ∙ ap words e ∙ words-image q hq in
    let v = cons_parts 827870285 827870285 (image_words p) (image_words q) w in
    let k = cons_parts 1 1 (length p.constants ∷ length p.code ∷ (p.constants ++ flat_map words_of p.code)) (length q.constants ∷ length q.code ∷ (q.constants ++ flat_map words_of q.code)) v.1 in
    let n = cons_parts (length p.constants) (length q.constants) (length p.code ∷ (p.constants ++ flat_map words_of p.code)) (length q.code ∷ (q.constants ++ flat_map words_of q.code)) k.1 in
    let m = cons_parts (length p.code) (length q.code) (p.constants ++ flat_map words_of p.code) (q.constants ++ flat_map words_of q.code) n.1 in
    let f = fronts p.constants q.constants (flat_map words_of p.code) (flat_map words_of q.code) n.0 m.1 in
    program_is p.constants q.constants p.code q.code f.0 (code_unique p.code q.code f.1)
