-- Variables put in front, one after the other.
use Rattle.std.proofs.Common.{◌≡◌, ℕ, suc, ◌+◌, ◌-◌, ◌≤◌, List, [], ◌∷◌, ◌++◌, length, drop, refl, sym, ap, ◌∙◌, subst, arith}
use Rattle.ir_known.specs.Knows.{known_of}
use Rattle.ir_known.specs.declared.known.Known.{Known}
use Rattle.ir_known.specs.of_ir_poly.TestsChecked as clean
use Rattle.ir_known.specs.of_ir_poly.TestsChecked.{Knowns}
use Rattle.ir_known.specs.of_ir_tables.Tables.{parameters_of}
use Rattle.ir_known.specs.of_ir_tables.declared.tables.Tables.{Tables}
use Rattle.prog_known.specs.Lists.{run, run_back}
use Rattle.prog_known.specs.Onto.{Onto, known_with}
use Rattle.prog_known.proofs.ListLemmas.{drop-all}

assoc : {A : Type 0} (a b c : List A) → (a ++ b) ++ c ≡ a ++ (b ++ c)
assoc [] b c = refl
assoc (x ∷ a) b c = ap (λ l. x ∷ l) (assoc a b c)

module _ (t : Tables) where
  abbrev pub Row : Type 0
  Row = List (ℕ × Known)

  pub none-onto : (old : Row) → Onto t old old (λ G. G)
  none-onto old = record { added = []; grows = refl; is = refl }

  pub one-onto : (old new : Row) (x : ℕ) (k : Known) (K : clean.Known) → new ≡ (x, k) ∷ old → known_of t.types (parameters_of t) k ≡ K → Onto t old new (λ G. (x, K) ∷ G)
  one-onto old new x k K e q = record { added = (x, k) ∷ []; grows = e; is = ap (known_with t) e ∙ ap (λ k. (x, k) ∷ known_with t old) q }

  pub then-onto : (old mid new : Row) (f g : Knowns → Knowns) → Onto t old mid f → Onto t mid new g → Onto t old new (λ G. g (f G))
  then-onto old mid new f g a b = record {
    added = b.added ++ a.added;
    grows = b.grows ∙ ap (λ l. b.added ++ l) a.grows ∙ sym (assoc b.added a.added old);
    is = b.is ∙ ap g a.is;
  }

  pub as-onto : (old new : Row) (f g : Knowns → Knowns) → ((G : Knowns) → f G ≡ g G) → Onto t old new f → Onto t old new g
  as-onto old new f g e o = record { added = o.added; grows = o.grows; is = o.is ∙ e (known_with t old) }

  -- what was put in front is left again
  pub back-again : (old new : Row) (f : Knowns → Knowns) → Onto t old new f → drop (length new - length old) new ≡ old
  back-again old new f o = ap (λ l. drop (length l - length old) l) o.grows ∙ go o.added
    where
      far : (a : Row) → length old ≤ length (a ++ old)
      far [] = omega arith
      far (x ∷ a) = let r = far a in omega (arith, r)

      go : (a : Row) → drop (length (a ++ old) - length old) (a ++ old) ≡ old
      go [] = let e : length old - length old ≡ 0 = omega arith in ap (λ n. drop n old) e
      go (x ∷ a) = let r = far a in let e : suc (length (a ++ old)) - length old ≡ suc (length (a ++ old) - length old) = omega (arith, r) in ap (λ n. drop n (x ∷ (a ++ old))) e ∙ go a

  module _ {A : Type 0} (step : A → List A → Knowns → Knowns) (xs : List A) where
    -- the first i have been put in front
    pub record Running (old now : Row) (i : ℕ) : Type 0 where
      pub added : Row
      pub grows : now ≡ added ++ old
      pub is : run step (drop i xs) (known_with t now) ≡ run step xs (known_with t old)

    pub run-starts : (old : Row) → Running old old 0
    run-starts old = record { added = []; grows = refl; is = refl }

    pub run-more : (old now new : Row) (i : ℕ) (x : A) → drop i xs ≡ x ∷ drop (i + 1) xs → Running old now i → Onto t now new (step x (drop (i + 1) xs)) → Running old new (i + 1)
    run-more old now new i x e r o = record {
      added = o.added ++ r.added;
      grows = o.grows ∙ ap (λ l. o.added ++ l) r.grows ∙ sym (assoc o.added r.added old);
      is = ap (run step (drop (i + 1) xs)) o.is ∙ sym (ap (λ l. run step l (known_with t now)) e) ∙ r.is;
    }

    pub run-ends : (old now : Row) (i : ℕ) → length xs ≤ i → Running old now i → Onto t old now (run step xs)
    run-ends old now i le r = record {
      added = r.added;
      grows = r.grows;
      is = ap (λ l. run step l (known_with t now)) (sym (drop-all xs i le)) ∙ r.is;
    }

  module _ {A : Type 0} (step : A → Knowns → Knowns) (xs : List A) where
    -- those after the first n have been put in front, from the last on
    pub record Backing (old now : Row) (n : ℕ) : Type 0 where
      pub within : n ≤ length xs
      pub onto : Onto t old now (run_back step (drop n xs))

    pub back-starts : (old : Row) (n : ℕ) → n ≡ length xs → Backing old old n
    back-starts old n e = record { within = omega (arith, e); onto = as-onto old old (λ G. G) (run_back step (drop n xs)) (λ G. ap (λ l. run_back step l G) (sym (drop-all xs n (omega (arith, e))))) (none-onto old) }

    pub back-more : (old now new : Row) (n m : ℕ) (x : A) → n ≡ m + 1 → drop m xs ≡ x ∷ drop (m + 1) xs → Backing old now n → Onto t now new (step x) → Backing old new m
    back-more old now new n m x k e b o = record {
      within = let w = b.within in omega (arith, w, k);
      onto = as-onto old new (λ G. step x (run_back step (drop n xs) G)) (run_back step (drop m xs)) (λ G. ap (λ j. step x (run_back step (drop j xs) G)) k ∙ ap (λ l. run_back step l G) (sym e))
          (then-onto old now new (run_back step (drop n xs)) (step x) b.onto o);
    }

    pub back-ends : (old now : Row) (n : ℕ) → n ≡ 0 → Backing old now n → Onto t old now (run_back step xs)
    back-ends old now n e b = subst (λ m. Onto t old now (run_back step (drop m xs))) e b.onto
