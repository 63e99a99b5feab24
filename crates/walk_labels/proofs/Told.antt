-- Labels whose places are told, in parts.
use Rattle.std.proofs.Common.{◌≡◌, ℕ, suc, ◌+◌, List, [], ◌∷◌, ◌++◌, length, ap, ◌∙◌, subst, arith, length-append, get_or}
use Rattle.std.proofs.lemmas.List.{get_or_append_left, get_or-append-add}
use Rattle.first_values.specs.Equality.{Shape}
use Rattle.ssa_tree.specs.TreeOf.{StepTree}
use Rattle.machine_code.specs.Rows.{Rows}
use Rattle.walk_labels.specs.Labels.{Frame, entered, entered_all, head_size, head_sizes, end_sizes, opened, closed, opened_all, closed_all, ended_all, Told}
use Rattle.walk_labels.proofs.Sizes.{opened-length}

module _ (all : List ℕ) where
  pub told-left : (n : ℕ) (a b : List ℕ) → Told all n (a ++ b) → Told all n a
  told-left n a b h k lt = h k (omega (arith, lt, length-append a b)) ∙ get_or_append_left a b 0 k lt

  pub told-right : (n : ℕ) (a b : List ℕ) → Told all n (a ++ b) → Told all (n + length a) b
  told-right n a b h k lt =
      let e : n + length a + k ≡ n + (length a + k) = omega arith in
      ap (λ z. get_or all z 0) e ∙ h (length a + k) (omega (arith, lt, length-append a b)) ∙ get_or-append-add a b k 0

  pub told-first : (n q : ℕ) (l : List ℕ) → Told all n (q ∷ l) → get_or all n 0 ≡ q
  told-first n q l h = ap (λ z. get_or all z 0) (let e : n ≡ n + 0 = omega arith in e) ∙ h 0 (omega arith)

  pub told-rest : (n q : ℕ) (l : List ℕ) → Told all n (q ∷ l) → Told all (suc n) l
  told-rest n q l h k lt = ap (λ z. get_or all z 0) (let e : suc n + k ≡ n + suc k = omega arith in e) ∙ h (suc k) (omega (arith, lt))

  pub told-from : (n m : ℕ) (l : List ℕ) → n ≡ m → Told all n l → Told all m l
  told-from n m l e h = subst (λ z. Told all z l) e h

  pub told-same : (n : ℕ) (l m : List ℕ) → l ≡ m → Told all n l → Told all n m
  told-same n l m e h = subst (λ z. Told all n z) e h

  module _ (rows : Rows) (types : List Shape) where
    -- .. of a step among others
    pub told-closed : (pre : List StepTree) (n q pc : ℕ) (f : Frame) (g : StepTree) (post : List StepTree) → Told all n (closed_all rows types q pc f (pre ++ g ∷ post))
        → Told all (n + length (opened_all rows types pc f pre))
        (closed rows types (q + end_sizes rows types (entered (entered_all f pre) g) post) (pc + head_sizes rows types f pre) (entered_all f pre) g)
    told-closed [] n q pc f g post h =
        let p = q + end_sizes rows types (entered f g) post in
        told-from n (n + 0) _ (omega arith)
        (told-same n (closed rows types p pc f g) (closed rows types p (pc + 0) f g) (ap (λ z. closed rows types p z f g) (let e : pc ≡ pc + 0 = omega arith in e))
        (told-left n (closed rows types p pc f g) _ h))
    told-closed (x ∷ pre) n q pc f g post h =
        let p = q + end_sizes rows types (entered f x) (pre ++ g ∷ post) in
        let at = pc + head_size rows types f x in
        let behind = q + end_sizes rows types (entered (entered_all (entered f x) pre) g) post in
        let more = opened_all rows types at (entered f x) pre in
        let inner = told-closed pre (n + length (closed rows types p pc f x)) q at (entered f x) g post (told-right n (closed rows types p pc f x) _ h) in
        told-from (n + length (closed rows types p pc f x) + length more) (n + length (opened rows types pc f x ++ more)) _
        (omega (arith, length-append (opened rows types pc f x) more, opened-length rows types p pc f x))
        (told-same _ (closed rows types behind (at + head_sizes rows types (entered f x) pre) (entered_all (entered f x) pre) g)
        (closed rows types behind (pc + (head_size rows types f x + head_sizes rows types (entered f x) pre)) (entered_all (entered f x) pre) g)
        (ap (λ z. closed rows types behind z (entered_all (entered f x) pre) g)
        (let e : at + head_sizes rows types (entered f x) pre ≡ pc + (head_size rows types f x + head_sizes rows types (entered f x) pre) = omega arith in e))
        inner)

    pub told-ended : (pre : List StepTree) (n q : ℕ) (f : Frame) (post : List StepTree) → Told all n (ended_all rows types q f (pre ++ post))
        → Told all n (ended_all rows types q (entered_all f pre) post)
    told-ended [] n q f post h = h
    told-ended (x ∷ pre) n q f post h =
        told-ended pre n q (entered f x) post (told-left n (ended_all rows types q (entered f x) (pre ++ post)) _ h)
