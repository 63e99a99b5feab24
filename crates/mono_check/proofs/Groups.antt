-- A group's functions, bound from the last one to the first.
use Rattle.std.proofs.Common.{◌≡◌, ℕ, zero, suc, ◌<◌, ◌≤◌, Bool, true, false, ◌&&◌, List, [], ◌∷◌, length, map, drop, slice_index_or, refl, sym, ap, ◌∙◌, subst, arith}
use Rattle.ir_plain.specs.Tree as clean
use Rattle.ir_mono.specs.Mono.{mono}
use Rattle.ir_mono.specs.Typing.{Sort, of_type, group_sorts}
use Rattle.ir_known.specs.declared.known.Known.TheVariants.{OfType}
use Rattle.plain_tree.specs.declared.tree.Function.{Function}
use Rattle.plain_tree.specs.TreeOf.{FunctionTree, funs_of, function_of}
use Rattle.mono_fits.specs.Fits.{is_new}
use Rattle.mono_operations.specs.Reads.{reading, Names, local, all}
use Rattle.mono_operations.specs.declared.tables.Tables.{Tables}
use Rattle.mono_check.specs.Walk.{holding, gathered, IsMore, functions_new}
use Rattle.mono_check.proofs.Lists.{and-first, not-true, there, none-left}
use Rattle.mono_check.proofs.Names.{more-none, more-one, more-more}
use Rattle.mono_check.proofs.Rolls.{function-parts}

pub more-gathered : (fs : List Function) (s : Names) → IsMore s (gathered fs s)
more-gathered [] s = more-none s
more-gathered (f ∷ fs) s = more-more s (gathered fs s) (gathered (f ∷ fs) s) (more-gathered fs s) (more-one (gathered fs s) f.variable (OfType f.ty))

module _ (t : Tables) where
  function-variable : (f : Function) → (function_of (reading t) f).variable ≡ f.variable
  function-variable f = ap (λ (g : FunctionTree (mono t.types)). g.variable) (function-parts (reading t) f)

  pub function-type : (f : Function) → (function_of (reading t) f).type ≡ f.ty
  function-type f = ap (λ (g : FunctionTree (mono t.types)). g.type) (function-parts (reading t) f)

  abbrev group : List Function → clean.Funs (mono t.types)
  group fs = funs_of (map (function_of (reading t)) fs)

  row-is : (f : Function) → ◌≡◌ {A = ℕ × Sort} (f.variable, of_type f.ty) ((function_of (reading t) f).variable, of_type (function_of (reading t) f).type)
  row-is f = ap (λ x. (x, of_type f.ty)) (sym (function-variable f)) ∙ ap (λ u. ((function_of (reading t) f).variable, of_type u)) (sym (function-type f))

  pub gathered-all : (fs : List Function) (s : Names) → all (gathered fs s) ≡ group_sorts t.types (group fs) (all s)
  gathered-all [] s = refl
  gathered-all (f ∷ fs) s = ap (λ r. r ∷ all (gathered fs s)) (row-is f) ∙ ap (λ G. ((function_of (reading t) f).variable, of_type (function_of (reading t) f).type) ∷ G) (gathered-all fs s)

  pub gathered-local : (fs : List Function) (s : Names) → local (gathered fs s) ≡ group_sorts t.types (group fs) (local s)
  gathered-local [] s = refl
  gathered-local (f ∷ fs) s = ap (λ r. r ∷ local (gathered fs s)) (row-is f) ∙ ap (λ G. ((function_of (reading t) f).variable, of_type (function_of (reading t) f).type) ∷ G) (gathered-local fs s)

  -- the first one is asked for where the others are in scope
  first-new : (f : Function) (fs : List Function) (s : Names) → functions_new t s (f ∷ fs) ≡ (functions_new t s fs && is_new (all (gathered fs s)) f.variable)
  first-new f fs s = ap (λ x. functions_new t s fs && is_new (group_sorts t.types (group fs) (all s)) x) (function-variable f) ∙ ap (λ G. functions_new t s fs && is_new G f.variable) (sym (gathered-all fs s))

  later-new : (fs : List Function) (n : ℕ) (s : Names) → functions_new t s fs ≡ true → functions_new t s (drop n fs) ≡ true
  later-new fs zero s e = e
  later-new [] (suc n) s e = e
  later-new (f ∷ fs) (suc n) s e = later-new fs n s (and-first (functions_new t s fs) (is_new (all (gathered fs s)) f.variable) (sym (first-new f fs s) ∙ e))

  pub new-stops : (fs : List Function) (n : ℕ) (f : Function) (old now : Names) (y : Bool) → n < length fs → f ≡ slice_index_or fs n f → now ≡ gathered (drop (suc n) fs) old → functions_new t old (drop (suc n) fs) ≡ true
      → y ≡ is_new (all now) f.variable → y ≡ false → false ≡ functions_new t old fs
  new-stops fs n f old now y lt e g w k s = not-true (functions_new t old fs) (λ all_new.
      (let q : functions_new t old (f ∷ drop (suc n) fs) ≡ true = subst (λ l. functions_new t old l ≡ true) (there fs n f lt e) (later-new fs n old all_new) in
      let r : false ≡ true = sym (first-new f (drop (suc n) fs) old ∙ ap (λ b. b && is_new (all (gathered (drop (suc n) fs) old)) f.variable) w ∙ ap (λ m. is_new (all m) f.variable) (sym g) ∙ sym k ∙ s) ∙ q in
      cc))

  pub new-next : (fs : List Function) (n : ℕ) (f : Function) (old now : Names) (y : Bool) → n < length fs → f ≡ slice_index_or fs n f → now ≡ gathered (drop (suc n) fs) old → functions_new t old (drop (suc n) fs) ≡ true
      → y ≡ is_new (all now) f.variable → y ≡ true → functions_new t old (drop n fs) ≡ true
  new-next fs n f old now y lt e g w k s = ap (functions_new t old) (there fs n f lt e) ∙ first-new f (drop (suc n) fs) old ∙ ap (λ b. b && is_new (all (gathered (drop (suc n) fs) old)) f.variable) w
      ∙ ap (λ m. is_new (all m) f.variable) (sym g) ∙ sym k ∙ s

-- the functions from n on are bound
pub record Bound (old now : Names) (fs : List Function) (n : ℕ) : Type 0 where
  pub within : n ≤ length fs
  pub is : now ≡ gathered (drop n fs) old
  pub new : (t : Tables) → functions_new t old (drop n fs) ≡ true

pub bound-first : (s : Names) (fs : List Function) (n : ℕ) → n ≡ length fs → Bound s s fs n
bound-first s fs n e = record {
  within = omega arith;
  is = ap (λ l. gathered l s) (sym (none-left fs n e));
  new = λ t. ap (functions_new t s) (none-left fs n e);
}

pub bound-next : (old now new : Names) (fs : List Function) (n m : ℕ) (f : Function) (y : Bool) → m ≡ suc n → n < length fs → f ≡ slice_index_or fs n f → Bound old now fs m → y ≡ is_new (all now) f.variable → y ≡ true
    → new ≡ holding now f.variable (OfType f.ty) → Bound old new fs n
bound-next old now new fs n m f y a lt e b k s h = record {
  within = omega arith;
  is = h ∙ ap (λ s. holding s f.variable (OfType f.ty)) (b.is ∙ ap (λ i. gathered (drop i fs) old) a) ∙ ap (λ l. gathered l old) (sym (there fs n f lt e));
  new = λ t. new-next t fs n f old now y lt e (b.is ∙ ap (λ i. gathered (drop i fs) old) a) (subst (λ i. functions_new t old (drop i fs) ≡ true) a (b.new t)) k s;
}

pub bound-stops : (old now : Names) (fs : List Function) (n m : ℕ) (f : Function) (y : Bool) → m ≡ suc n → n < length fs → f ≡ slice_index_or fs n f → Bound old now fs m → y ≡ is_new (all now) f.variable → y ≡ false
    → (t : Tables) → false ≡ functions_new t old fs
bound-stops old now fs n m f y a lt e b k s t = new-stops t fs n f old now y lt e (b.is ∙ ap (λ i. gathered (drop i fs) old) a) (subst (λ i. functions_new t old (drop i fs) ≡ true) a (b.new t)) k s

pub bound-all : (old now : Names) (fs : List Function) (n : ℕ) → n ≡ 0 → Bound old now fs n → (t : Tables) → true ≡ functions_new t old fs
bound-all old now fs n e b t = sym (subst (λ i. functions_new t old (drop i fs) ≡ true) e (b.new t))

pub bound-is : (old now : Names) (fs : List Function) (n : ℕ) → n ≡ 0 → Bound old now fs n → now ≡ gathered fs old
bound-is old now fs n e b = b.is ∙ ap (λ i. gathered (drop i fs) old) e
