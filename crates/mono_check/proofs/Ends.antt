-- The type of an expression where no miss goes on.
use Rattle.std.proofs.Common.{◌≡◌, ℕ, Bool, true, false, ◌&&◌, List, [], ◌∷◌, map, Option, Some, None, nat_eq, refl, sym, ap, ◌∙◌}
use Rattle.std.proofs.lemmas.Bool.{eqb-true}
use Rattle.ir_plain.specs.Tree as clean
use Rattle.ir_mono.specs.Mono.{mono}
use Rattle.plain_tree.specs.declared.tree.Exp.{Exp}
use Rattle.plain_tree.specs.declared.tree.Step.{Step}
use Rattle.plain_tree.specs.TreeOf.{onto, firsts, tree_of, step_of}
use Rattle.mono_fits.specs.Asked.{given}
use Rattle.mono_fits.specs.Fits.{type_of}
use Rattle.mono_operations.specs.Reads.{reading, Names, local}
use Rattle.mono_operations.specs.declared.tables.Tables.{Tables}
use Rattle.mono_check.specs.Walk.{Brings, fits, all_fit}
use Rattle.mono_check.proofs.Lists.{and-false, and-and}

abbrev pub Found : (t : Tables) → Names → clean.Exp (mono t.types) → Option ℕ → Type 0
Found t s e found = (u : ℕ) → fits t false s e u ≡ given found (nat_eq u)

module _ (t : Tables) (s : Names) (e : Exp) where
  abbrev Read : clean.Exp (mono t.types) → Type 0
  Read c = tree_of (reading t) e ≡ c

  read : (c : clean.Exp (mono t.types)) (found : Option ℕ) → Read c → Found t s c found → Found t s (tree_of (reading t) e) found
  read c found i k = λ u. ap (λ c. fits t false s c u) i ∙ k u

  pub steps-none : (now : Names) (v : ℕ) (ss : List Step) (r : Exp) (b : Bool) → Read (onto (map (step_of (reading t)) ss) (tree_of (reading t) r)) → Brings t false v s now b (onto (map (step_of (reading t)) ss)) → b ≡ false
      → Found t s (tree_of (reading t) e) None
  steps-none now v ss r b i k f = read _ None i (λ u. k.whole (tree_of (reading t) r) u (λ g. absurd (cc)) ∙ ap (λ b. b && fits t false now (tree_of (reading t) r) u) f)

  pub steps-found : (now : Names) (v : ℕ) (ss : List Step) (r : Exp) (b : Bool) (found : Option ℕ) → Read (onto (map (step_of (reading t)) ss) (tree_of (reading t) r)) → Brings t false v s now b (onto (map (step_of (reading t)) ss))
      → b ≡ true → Found t now (tree_of (reading t) r) found → Found t s (tree_of (reading t) e) found
  steps-found now v ss r b found i k f n = read _ found i (λ u. k.whole (tree_of (reading t) r) u (λ g. absurd (cc)) ∙ ap (λ b. b && fits t false now (tree_of (reading t) r) u) f ∙ n u)

  pub ret-found : (a : ℕ) (found : Option ℕ) → Read (clean.ret a) → found ≡ type_of (local s) a → Found t s (tree_of (reading t) e) found
  ret-found a found i k = read (clean.ret a) found i (λ u. ap (λ o. given o (nat_eq u)) (sym k))

  pub switch-none : (a o : ℕ) (arms : clean.Arms (mono t.types)) → Read (clean.switch a o arms) → Found t s (tree_of (reading t) e) None
  switch-none a o arms i = read (clean.switch a o arms) None i (λ u. refl)

  pub miss-none : Read clean.miss → Found t s (tree_of (reading t) e) None
  miss-none i = read clean.miss None i (λ u. refl)

  firsts-are : (es : List (clean.Exp (mono t.types))) (d : clean.Exp (mono t.types)) (u : ℕ) → fits t false s (firsts es d) u ≡ (all_fit t s es u && fits t false s d u)
  firsts-are [] d u = refl
  firsts-are (c ∷ es) d u = ap (λ q. fits t true s c u && q) (firsts-are es d u) ∙ and-and (fits t true s c u) (all_fit t s es u) (fits t false s d u)

  module _ (es : List Exp) (d : Exp) (i : Read (firsts (map (tree_of (reading t)) es) (tree_of (reading t) d))) (found : Option ℕ) (k : Found t s (tree_of (reading t) d) found) where
    first-is : (u : ℕ) → fits t false s (firsts (map (tree_of (reading t)) es) (tree_of (reading t) d)) u ≡ (all_fit t s (map (tree_of (reading t)) es) u && given found (nat_eq u))
    first-is u = firsts-are (map (tree_of (reading t)) es) (tree_of (reading t) d) u ∙ ap (λ q. all_fit t s (map (tree_of (reading t)) es) u && q) (k u)

    pub last-none : found ≡ None → Found t s (tree_of (reading t) e) None
    last-none f = read _ None i (λ u. first-is u ∙ ap (λ o. all_fit t s (map (tree_of (reading t)) es) u && given o (nat_eq u)) f ∙ and-false (all_fit t s (map (tree_of (reading t)) es) u))

    module _ (r : ℕ) (f : found ≡ Some r) (now : Names) (b : Bool) (j : now ≡ s) (g : b ≡ all_fit t now (map (tree_of (reading t)) es) r) where
      at : (u : ℕ) (q : Bool) → nat_eq u r ≡ q → (all_fit t s (map (tree_of (reading t)) es) u && q) ≡ (b && q)
      at u true n = ap (λ u. all_fit t s (map (tree_of (reading t)) es) u && true) (eqb-true u r n) ∙ ap (λ q. q && true) (sym (g ∙ ap (λ s. all_fit t s (map (tree_of (reading t)) es) r) j))
      at u false n = and-false (all_fit t s (map (tree_of (reading t)) es) u) ∙ sym (and-false b)

      both : (u : ℕ) → fits t false s (firsts (map (tree_of (reading t)) es) (tree_of (reading t) d)) u ≡ (b && nat_eq u r)
      both u = first-is u ∙ ap (λ o. all_fit t s (map (tree_of (reading t)) es) u && given o (nat_eq u)) f ∙ at u (nat_eq u r) refl

      pub first-none : b ≡ false → Found t s (tree_of (reading t) e) None
      first-none y = read _ None i (λ u. both u ∙ ap (λ b. b && nat_eq u r) y)

      pub first-found : b ≡ true → Found t s (tree_of (reading t) e) (Some r)
      first-found y = read _ (Some r) i (λ u. both u ∙ ap (λ b. b && nat_eq u r) y)
