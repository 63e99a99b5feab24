-- The parts of a tuple, one after the other.
use Rattle.std.proofs.Common.{◌≡◌, ℕ, zero, suc, ◌+◌, ◌<◌, ◌≤◌, List, [], ◌∷◌, ◌++◌, map, drop, length, get_or, refl, sym, ap, ap₂, ◌∙◌, arith}
use Rattle.std.proofs.lemmas.List.{drop_more}
use Rattle.mlc_names.specs.declared.label.Label.TheVariants.{Number}
use Rattle.ir_plain.specs.Tree as t
use Rattle.ir_mono.specs.Types as table
use Rattle.ir_mono.specs.Mono.{mono, Mono}
use Rattle.mlc_names.specs.declared.label.Label.{Label}
use Rattle.plain_tree.specs.declared.tree.Binding.{Binding}
use Rattle.plain_tree.specs.declared.tree.Operation.TheVariants as op
use Rattle.plain_tree.specs.declared.tree.Step.{Step}
use Rattle.plain_tree.specs.declared.tree.Step.TheVariants as step
use Rattle.plain_tree.specs.TreeOf.{StepTree, let_step, put, onto, atoms_of}
use Rattle.mono_bound.specs.Reads.{reading}
use Rattle.eta_expand.specs.Expand.{past, selecting, atoms_from}
use Rattle.eta_parts.specs.Reads.{mono_step, steps_in}
use Rattle.eta_parts.specs.Numbers.{numbers_from}
use Rattle.eta_parts.proofs.Rolls.{step-let}

pub atoms-are : (types : List table.Row) (strings : List (List ℕ)) (m : ℕ) (ps : List ℕ) → atoms_of (reading types strings) (numbers_from m ps) ≡ atoms_from types m ps
atoms-are types strings m [] = refl
atoms-are types strings m (q ∷ ps) = ap (t.an_atom m) (atoms-are types strings (suc m) ps)

pub past-is : (m : ℕ) (ps : List ℕ) → past m ps ≡ m + length ps
past-is m [] = omega arith
past-is m (q ∷ ps) = let r = past-is (suc m) ps in omega (arith, r)

pub map-last : {A B : Type 0} (g : A → B) (xs : List A) (x : A) → map g (xs ++ x ∷ []) ≡ map g xs ++ g x ∷ []
map-last g [] x = refl
map-last g (y ∷ ys) x = ap (λ l. g y ∷ l) (map-last g ys x)

pub onto-last : (types : List table.Row) (ss : List (StepTree (mono types))) (s : StepTree (mono types)) (e : Mono types) → onto (ss ++ s ∷ []) e ≡ onto ss (put s e)
onto-last types [] s e = refl
onto-last types (r ∷ ss) s e = ap (put r) (onto-last types ss s e)

pub all-behind : {A : Type 0} (xs : List A) (i : ℕ) → length xs ≤ i → drop i xs ≡ []
all-behind [] zero h = refl
all-behind [] (suc i) h = refl
all-behind (x ∷ xs) zero h = absurd (omega (arith, h))
all-behind (x ∷ xs) (suc i) h = all-behind xs i (omega (arith, h))

abbrev pub PartsTaken : (a y : ℕ) (ps : List ℕ) (i : ℕ) (first next : ℕ) (old now : List Step) → Type 0
PartsTaken a y ps i first next old now =
    (types : List table.Row) (strings : List (List ℕ)) (e : Mono types)
    → onto (steps_in types strings now) (selecting types a y (1 + i) next (drop i ps) e) ≡ onto (steps_in types strings old) (selecting types a y 1 first ps e)

abbrev pub Numbered : (ps : List ℕ) (i : ℕ) (first next : ℕ) (now : List ℕ) → Type 0
Numbered ps i first next now = now ++ numbers_from next (drop i ps) ≡ numbers_from first ps

append-assoc : {A : Type 0} (a b c : List A) → (a ++ b) ++ c ≡ a ++ (b ++ c)
append-assoc [] b c = refl
append-assoc (n ∷ a) b c = ap (λ l. n ∷ l) (append-assoc a b c)

module _ (ps : List ℕ) (i q d : ℕ) (first now next : ℕ) (lt : i < length ps) (is : q ≡ get_or ps i d) (n : next ≡ now + 1) where
  ahead : drop i ps ≡ q ∷ drop (i + 1) ps
  ahead = drop_more ps i d lt ∙ ap (λ y. y ∷ drop (i + 1) ps) (sym is)

  one-more : next ≡ suc now
  one-more = omega (arith, n)

  pub number-next : (vs vs' : List ℕ) → vs' ≡ vs ++ now ∷ [] → Numbered ps i first now vs → Numbered ps (i + 1) first next vs'
  number-next vs vs' e h =
      ap₂ (λ l k. l ++ numbers_from k (drop (i + 1) ps)) e one-more ∙ append-assoc vs (now ∷ []) (numbers_from (suc now) (drop (i + 1) ps)) ∙ ap (λ l. vs ++ numbers_from now l) (sym ahead) ∙ h

  pub part-next : (a y : ℕ) (old ss ss' : List Step) (s : Step) → ss' ≡ ss ++ s ∷ []
      → ((types : List table.Row) (strings : List (List ℕ)) → mono_step types strings s ≡ let_step now tt q (t.select a (Number (i + 1)) y))
      → PartsTaken a y ps i first now old ss → PartsTaken a y ps (i + 1) first next old ss'
  part-next a y old ss ss' s e m h types strings r =
      let rest = selecting types a y (suc (1 + i)) (suc now) (drop (i + 1) ps) r in
      ap (λ l. onto l (selecting types a y (1 + (i + 1)) next (drop (i + 1) ps) r)) (ap (steps_in types strings) e ∙ map-last (mono_step types strings) ss s)
      ∙ ap₂ (λ k j. onto (steps_in types strings ss ++ mono_step types strings s ∷ []) (selecting types a y k j (drop (i + 1) ps) r)) (let w : 1 + (i + 1) ≡ suc (1 + i) = omega arith in w) one-more
      ∙ onto-last types (steps_in types strings ss) (mono_step types strings s) rest
      ∙ ap (λ u. onto (steps_in types strings ss) (put u rest)) (m types strings ∙ ap (λ k. let_step now tt q (t.select a (Number k) y)) (let w : i + 1 ≡ 1 + i = omega arith in w))
      ∙ ap (λ l. onto (steps_in types strings ss) (selecting types a y (1 + i) now l r)) (sym ahead) ∙ h types strings r

  pub count-next : (k : ℕ) → now + length (drop i ps) ≡ k → next + length (drop (i + 1) ps) ≡ k
  count-next k h = let a : length (drop i ps) ≡ suc (length (drop (i + 1) ps)) = ap length ahead in omega (arith, a, n, h)

-- all parts
pub all-parts : (a y : ℕ) (ps : List ℕ) (i : ℕ) (first next : ℕ) (old now : List Step) → length ps ≤ i → PartsTaken a y ps i first next old now
    → (types : List table.Row) (strings : List (List ℕ)) (e : Mono types) → onto (steps_in types strings now) e ≡ onto (steps_in types strings old) (selecting types a y 1 first ps e)
all-parts a y ps i first next old now le h types strings e = ap (λ l. onto (steps_in types strings now) (selecting types a y (1 + i) next l e)) (sym (all-behind ps i le)) ∙ h types strings e

-- one part
pub part-let : (types : List table.Row) (strings : List (List ℕ)) (a y : ℕ) (b : Binding) (x now q : ℕ) (l : Label) (k : ℕ) → b.variable ≡ x → x ≡ now → b.ty ≡ q → l ≡ Number k
    → mono_step types strings (step.Let b (op.Select a l y)) ≡ let_step now tt q (t.select a (Number k) y)
part-let types strings a y b x now q l k bx xn bq h =
    step-let (reading types strings) b (op.Select a l y) ∙ ap₂ (λ i j. let_step i tt j (t.select a l y)) (bx ∙ xn) bq ∙ ap (λ v. let_step now tt q (t.select a v y)) h
