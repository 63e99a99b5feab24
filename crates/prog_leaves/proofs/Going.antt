-- Loops along lists: the answer so far, and the scope that they leave or find again.
use Rattle.std.proofs.Common.{◌≡◌, ℕ, zero, suc, ◌+◌, ◌<◌, ◌≤◌, Bool, true, ◌&&◌, List, [], ◌∷◌, length, drop, get_or, refl, sym, ap, ◌∙◌, subst, arith}
use Rattle.ir_known.specs.Knows.{marks_of}
use Rattle.ir_poly.specs.TestsChecked.{Knowns}
use Rattle.ir_tables.specs.declared.tables.Tables.{Tables}
use Rattle.prog_known.specs.declared.environment.Environment.{Environment}
use Rattle.prog_known.specs.Environments.{parameters_in, variables_in}
use Rattle.prog_known.specs.Lists.{run, hold, all_hold}
use Rattle.prog_known.proofs.ListLemmas.{drop-next, drop-next-is}
use Rattle.prog_known.proofs.OntoLemmas.{Running, run-starts, run-more, run-ends, as-onto}
use Rattle.prog_tree.specs.declared.tree.Dec.{Dec}
use Rattle.prog_tree.specs.declared.tree.Parameter.{Parameter}
use Rattle.prog_pats.specs.of_prog_parts.Expressions as parts
use Rattle.prog_pats.specs.of_prog_parts.Expressions.{parameter_onto, dec_onto, dec_step}
use Rattle.prog_pats.proofs.of_prog_parts.Loops.{Asking, asking-starts, asking-more, asking-ends, Carrying, carrying-starts, carrying-more, carrying-ends}
use Rattle.prog_leaves.specs.Right.{parameter_right, dec_right, decs_right}
use Rattle.prog_leaves.specs.Places.{Adds}
use Rattle.prog_leaves.proofs.Inside.{known-at}

-- an element is the same whatever stands for those that are missing
same-at : {A : Type 0} (xs : List A) (i : ℕ) (c d : A) → i < length xs → get_or xs i c ≡ get_or xs i d
same-at [] i c d lt = absurd (omega (arith, lt))
same-at (x ∷ xs) zero c d lt = refl
same-at (x ∷ xs) (suc i) c d lt = same-at xs i c d (omega (arith, lt))

-- where each element leaves the scope as it was
module _ {A : Type 0} (is_right : Environment → A → Bool) (xs : List A) (start : Environment) where
  pub record Keeping (i : ℕ) (now : Environment) (so_far : Bool) : Type 0 where
    pub asking : Asking (is_right start) xs i so_far
    pub kept : now ≡ start

  pub keeping-starts : Keeping 0 start true
  keeping-starts = record { asking = asking-starts (is_right start) xs; kept = refl }

  pub keeping-more : (i : ℕ) (x : A) (mid new : Environment) (so_far one now : Bool) → i < length xs → x ≡ get_or xs i x → one ≡ is_right mid x → new ≡ mid → now ≡ (so_far && one)
      → Keeping i mid so_far → Keeping (i + 1) new now
  keeping-more i x mid new so_far one now lt e o k n g = record {
    asking = asking-more (is_right start) xs i x so_far one now lt e (o ∙ ap (λ s. is_right s x) g.kept) n g.asking;
    kept = k ∙ g.kept;
  }

  pub keeping-ends : (i : ℕ) (now : Environment) (so_far : Bool) → length xs ≤ i → Keeping i now so_far → so_far ≡ all_hold (is_right start) xs
  keeping-ends i now so_far le g = asking-ends (is_right start) xs i so_far le g.asking

-- the same, with something carried on
module _ {A S : Type 0} (is_right : Environment → S → A → List A → Bool) (next : S → A → S) (first : S) (xs : List A) (start : Environment) where
  pub record Moving (i : ℕ) (s : S) (now : Environment) (so_far : Bool) : Type 0 where
    pub carrying : Carrying (is_right start) next first xs i s so_far
    pub kept : now ≡ start

  pub moving-starts : Moving 0 first start true
  moving-starts = record { carrying = carrying-starts (is_right start) next first xs; kept = refl }

  pub moving-more : (i : ℕ) (x : A) (s after : S) (mid new : Environment) (so_far one now : Bool) → i < length xs → x ≡ get_or xs i x → one ≡ is_right mid s x (drop (i + 1) xs) → new ≡ mid
      → now ≡ (so_far && one) → next s x ≡ after → Moving i s mid so_far → Moving (i + 1) after new now
  moving-more i x s after mid new so_far one now lt e o k n a g = record {
    carrying = carrying-more (is_right start) next first xs i x s after so_far one now lt e (o ∙ ap (λ f. is_right f s x (drop (i + 1) xs)) g.kept) n a g.carrying;
    kept = k ∙ g.kept;
  }

  pub moving-ends : (i : ℕ) (s : S) (now : Environment) (so_far : Bool) → length xs ≤ i → Moving i s now so_far → so_far ≡ hold (is_right start) next first xs
  moving-ends i s now so_far le g = carrying-ends (is_right start) next first xs i s so_far le g.carrying

module _ (t : Tables) (xs : List Parameter) (start : Environment) where
  -- the first i parameters are asked, and in scope
  pub record Entering (i : ℕ) (now : Environment) (so_far : Bool) : Type 0 where
    pub asking : Asking (parameter_right t start) xs i so_far
    pub parameters : now.parameters ≡ start.parameters
    pub running : Running t (parameter_onto t) xs start.variables now.variables i

  pub entering-starts : Entering 0 start true
  entering-starts = record { asking = asking-starts (parameter_right t start) xs; parameters = refl; running = run-starts t (parameter_onto t) xs start.variables }

  pub entering-more : (i : ℕ) (d : Parameter) (mid new : Environment) (so_far one now : Bool) → i < length xs → one ≡ parameter_right t mid (get_or xs i d) → Adds t mid new (parameter_onto t (get_or xs i d) [])
      → now ≡ (so_far && one) → Entering i mid so_far → Entering (i + 1) new now
  entering-more i d mid new so_far one now lt o a n g = record {
    asking = asking-more (parameter_right t start) xs i (get_or xs i d) so_far one now lt (same-at xs i d (get_or xs i d) lt) (o ∙ known-at t start mid (get_or xs i d).ty g.parameters) n g.asking;
    parameters = a.parameters ∙ g.parameters;
    running = run-more t (parameter_onto t) xs start.variables mid.variables new.variables i (get_or xs i d) (drop-next xs i d lt) g.running
        (as-onto t mid.variables new.variables (parameter_onto t (get_or xs i d) []) (parameter_onto t (get_or xs i d) (drop (i + 1) xs)) (λ G. refl) a.onto);
  }

  pub entering-right : (i : ℕ) (now : Environment) (so_far : Bool) → length xs ≤ i → Entering i now so_far → so_far ≡ all_hold (parameter_right t start) xs
  entering-right i now so_far le g = asking-ends (parameter_right t start) xs i so_far le g.asking

  pub entering-adds : (i : ℕ) (now : Environment) (so_far : Bool) → length xs ≤ i → Entering i now so_far → Adds t start now (run (parameter_onto t) xs)
  entering-adds i now so_far le g = record { parameters = g.parameters; onto = run-ends t (parameter_onto t) xs start.variables now.variables i le g.running }

module _ (t : Tables) (ds : List Dec) (start : Environment) where
  -- the first i declarations are asked, and in scope
  pub record Declaring (i : ℕ) (now : Environment) (so_far : Bool) : Type 0 where
    pub carrying : Carrying (parts.dec_holds t (parameters_in start)) (dec_onto t) (variables_in t start) ds i (variables_in t now) so_far
    pub parameters : now.parameters ≡ start.parameters
    pub running : Running t (dec_step t) ds start.variables now.variables i

  pub declaring-starts : Declaring 0 start true
  declaring-starts = record {
    carrying = carrying-starts (parts.dec_holds t (parameters_in start)) (dec_onto t) (variables_in t start) ds;
    parameters = refl;
    running = run-starts t (dec_step t) ds start.variables;
  }

  right-at : (e : Environment) (d : Dec) (next : List Dec) → e.parameters ≡ start.parameters → dec_right t e d ≡ parts.dec_holds t (parameters_in start) (variables_in t e) d next
  unfolding dec_right
  right-at e d next p = ap (λ p. parts.dec_holds t (marks_of p) (variables_in t e) d next) p

  pub declaring-more : (i : ℕ) (d : Dec) (mid new : Environment) (so_far one now : Bool) → i < length ds → d ≡ get_or ds i d → one ≡ dec_right t mid d → Adds t mid new (dec_step t d [])
      → now ≡ (so_far && one) → Declaring i mid so_far → Declaring (i + 1) new now
  declaring-more i d mid new so_far one now lt e o a n g = record {
    carrying = carrying-more (parts.dec_holds t (parameters_in start)) (dec_onto t) (variables_in t start) ds i d (variables_in t mid) (variables_in t new) so_far one now lt e
        (o ∙ right-at mid d (drop (i + 1) ds) g.parameters) n (sym a.onto.is) g.carrying;
    parameters = a.parameters ∙ g.parameters;
    running = run-more t (dec_step t) ds start.variables mid.variables new.variables i d (drop-next-is ds i d lt e) g.running
        (as-onto t mid.variables new.variables (dec_step t d []) (dec_step t d (drop (i + 1) ds)) (λ G. refl) a.onto);
  }

  pub declaring-right : (i : ℕ) (now : Environment) (so_far : Bool) → length ds ≤ i → Declaring i now so_far → so_far ≡ decs_right t start ds
  unfolding decs_right
  declaring-right i now so_far le g = carrying-ends (parts.dec_holds t (parameters_in start)) (dec_onto t) (variables_in t start) ds i (variables_in t now) so_far le g.carrying

  pub declaring-adds : (i : ℕ) (now : Environment) (so_far : Bool) → length ds ≤ i → Declaring i now so_far → Adds t start now (run (dec_step t) ds)
  declaring-adds i now so_far le g = record { parameters = g.parameters; onto = run-ends t (dec_step t) ds start.variables now.variables i le g.running }
