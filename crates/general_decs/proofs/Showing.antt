-- Variables of a declaration, one after the other.
use Rattle.std.proofs.Common.{◌≡◌, ◌<◌, ◌≤◌, ◌&&◌, ◌+◌, ℕ, suc, Bool, List, [], ◌∷◌, ◌++◌, length, take, get_or, refl, sym, ap, ap₂, subst, ◌∙◌, arith, true}
use Rattle.std.proofs.Math.Seq.{take-suc}
use Rattle.sml_tree.specs.declared.ident.Vid.{Vid}
use Rattle.elab_state.specs.declared.state.State.{State}
use Rattle.elab_steps.specs.Growing.{Always, Grows}
use Rattle.elab_steps.specs.World.{type_of}
use Rattle.elab_steps.proofs.Growing.{grows_same, grows_on}
use Rattle.elab_context.specs.declared.entry.Entry.{Entry}
use Rattle.elab_context.specs.declared.entry.Entry.TheVariants.{General}
use Rattle.rec_groups.specs.of_pat_elab.declared.bound.BoundVariable.{BoundVariable}
use Rattle.elab_steps.specs.Tidy.{IsTidy}
use Rattle.general_vals.specs.of_general_worlds.Tidy.{AreOpen}
use Rattle.general_vals.specs.Settling.{IsMade, KeepsVariables, Settles}
use Rattle.elab_state.specs.States.{made, types_in}
use Rattle.ty_core.specs.Types.{var}
use Rattle.ty_table.specs.TypeAt.{type_at}
use Rattle.ty_solve.specs.Substitution.{is_below}
use Rattle.general_decs.proofs.Leading.{longer}
use Rattle.general_decs.specs.Entries.{AreMade, AreShown, IsSettled, IsShown}

-- the same variables

begins-on : {A : Type 0} (xs ys zs : List A) → take (length xs) ys ≡ xs → take (length ys) zs ≡ ys → take (length xs) zs ≡ xs
begins-on [] ys zs e q = refl
begins-on (x ∷ xs) [] zs e q = cc
begins-on (x ∷ xs) (y ∷ ys) [] e q = cc
begins-on (x ∷ xs) (y ∷ ys) (z ∷ zs) e q =
    let a : y ≡ x = cc in let b : take (length xs) ys ≡ xs = cc in let d : z ≡ y = cc in let f : take (length ys) zs ≡ ys = cc in
    ap₂ (λ u l. u ∷ l) (d ∙ a) (begins-on xs ys zs b f)

pub keeps-same : (S : State) → KeepsVariables S S
keeps-same S = record { types = (grows_same S).types; made = refl; said = refl; limits = λ v. refl }

pub keeps-on : (R S T : State) → KeepsVariables R S → KeepsVariables S T → KeepsVariables R T
keeps-on R S T h k = record {
  types = begins-on (types_in R) (types_in S) (types_in T) h.types k.types;
  made = k.made ∙ h.made;
  said = k.said ∙ h.said;
  limits = λ v. k.limits v ∙ h.limits v;
}

get-stays : {A : Type 0} (xs ys : List A) (d : A) (k : ℕ) → take (length xs) ys ≡ xs → k < length xs → get_or ys k d ≡ get_or xs k d
get-stays [] ys d k e lt = absurd (omega (arith, lt))
get-stays (x ∷ xs) [] d k e lt = cc
get-stays (x ∷ xs) (y ∷ ys) d ℕ.zero e lt = cc
get-stays (x ∷ xs) (y ∷ ys) d (suc k) e lt = let q : take (length xs) ys ≡ xs = cc in get-stays xs ys d k q (omega (arith, lt))

made-later : (S T : State) (k : ℕ) → KeepsVariables S T → IsMade S k → IsMade T k
made-later S T k h i = record {
  held = let a = longer (types_in S) (types_in T) h.types in let b = i.held in omega (arith, a, b);
  below =
      subst (λ n. is_below n (type_at (types_in T) k) ≡ true) (sym h.made)
      (subst (λ t. is_below (made S) t ≡ true) (sym (get-stays (types_in S) (types_in T) (var 0) k h.types i.held)) i.below);
}

-- one, right after its type was resolved
pub shown-now : (S T : State) (l list : ℕ) (some g : Bool) (b : BoundVariable) (f : Bool) (ty : ℕ) (e : Vid × Entry) → Grows S T → IsTidy T l → Settles S T b.ty ty → AreOpen T ty
    → Always T (λ W. type_of W ty ≡ type_of W b.ty) → g ≡ (f && some) → e ≡ (b.vid, General list ty b.number g) → IsShown S T l list some b f e
shown-now S T l list some g b f ty e gr t h o s q is = record {
  ty = ty;
  vid = ap (λ (z : Vid × Entry). z.0) is;
  is = ap (λ (z : Vid × Entry). z.1) is ∙ ap (General list ty b.number) q;
  settled = record { from = S; at = T; keeps = keeps-same S; settles = h; after = gr; before = grows_same T; tidy = t; resolved = o; same = s };
}

-- between wider states
settled-wider : (R S T U : State) (l was ty : ℕ) → Grows R S → KeepsVariables R S → Grows T U → IsSettled S T l was ty → IsSettled R U l was ty
settled-wider R S T U l was ty g v k h = record {
  from = h.from;
  at = h.at;
  keeps = keeps-on R S h.from v h.keeps;
  settles = h.settles;
  after = grows_on R S h.at g h.after;
  before = grows_on h.at T U h.before k;
  tidy = h.tidy;
  resolved = h.resolved;
  same = h.same;
}

shown-wider : (R S T U : State) (l list : ℕ) (some : Bool) (b : BoundVariable) (f : Bool) (e : Vid × Entry) → Grows R S → KeepsVariables R S → Grows T U → IsShown S T l list some b f e → IsShown R U l list some b f e
shown-wider R S T U l list some b f e g v k h = record { ty = h.ty; vid = h.vid; is = h.is; settled = settled-wider R S T U l b.ty h.ty g v k h.settled }

pub shown-later : (S T U : State) (l list : ℕ) (some : Bool) (bs : List BoundVariable) (fs : List Bool) (es : List (Vid × Entry)) → Grows T U → AreShown S T l list some bs fs es
    → AreShown S U l list some bs fs es
shown-later S T U l list some [] [] [] k h = tt
shown-later S T U l list some [] [] (e ∷ es) k h = h
shown-later S T U l list some [] (f ∷ fs) es k h = h
shown-later S T U l list some (b ∷ bs) [] es k h = h
shown-later S T U l list some (b ∷ bs) (f ∷ fs) [] k h = h
shown-later S T U l list some (b ∷ bs) (f ∷ fs) (e ∷ es) k h =
    (shown-wider S S T U l list some b f e (grows_same S) (keeps-same S) k h.0, shown-later S T U l list some bs fs es k h.1)

shown-snoc : (S T : State) (l list : ℕ) (some : Bool) (bs : List BoundVariable) (fs : List Bool) (es : List (Vid × Entry)) (b : BoundVariable) (f : Bool) (e : Vid × Entry)
    → AreShown S T l list some bs fs es → IsShown S T l list some b f e → AreShown S T l list some (bs ++ b ∷ []) (fs ++ f ∷ []) (es ++ e ∷ [])
shown-snoc S T l list some [] [] [] b f e h k = (k, tt)
shown-snoc S T l list some [] [] (d ∷ es) b f e h k = absurd h
shown-snoc S T l list some [] (g ∷ fs) es b f e h k = absurd h
shown-snoc S T l list some (c ∷ bs) [] es b f e h k = absurd h
shown-snoc S T l list some (c ∷ bs) (g ∷ fs) [] b f e h k = absurd h
shown-snoc S T l list some (c ∷ bs) (g ∷ fs) (d ∷ es) b f e h k = (h.0, shown-snoc S T l list some bs fs es b f e h.1 k)

take-next : {A : Type 0} (xs : List A) (i : ℕ) (x : A) → i < length xs → x ≡ get_or xs i x → take i xs ++ x ∷ [] ≡ take (i + 1) xs
take-next xs i x lt is =
    let up : suc i ≡ i + 1 = omega arith in ap (λ z. take i xs ++ z ∷ []) is ∙ sym (take-suc xs i x lt) ∙ ap (λ j. take j xs) up

pub shown-next : (S T U : State) (l list : ℕ) (some : Bool) (bs : List BoundVariable) (fs : List Bool) (es new : List (Vid × Entry)) (i : ℕ) (b : BoundVariable) (f : Bool) (e : Vid × Entry)
    → i < length bs → i < length fs → b ≡ get_or bs i b → f ≡ get_or fs i f → Grows S T → KeepsVariables S T → Grows T U → AreShown S T l list some (take i bs) (take i fs) es → IsShown T U l list some b f e
    → new ≡ es ++ e ∷ [] → AreShown S U l list some (take (i + 1) bs) (take (i + 1) fs) new
shown-next S T U l list some bs fs es new i b f e lb lf ib jf st kv tu h k q =
    subst (λ n. AreShown S U l list some (take (i + 1) bs) (take (i + 1) fs) n) (sym q)
    (subst (λ x. AreShown S U l list some x (take (i + 1) fs) (es ++ e ∷ [])) (take-next bs i b lb ib)
    (subst (λ y. AreShown S U l list some (take i bs ++ b ∷ []) y (es ++ e ∷ [])) (take-next fs i f lf jf)
    (shown-snoc S U l list some (take i bs) (take i fs) es b f e (shown-later S T U l list some (take i bs) (take i fs) es tu h)
    (shown-wider S T U U l list some b f e st kv (grows_same U) k))))

-- a type of the state
made-at : (S : State) (bs : List BoundVariable) (i : ℕ) (b : BoundVariable) → AreMade S bs → i < length bs → b ≡ get_or bs i b → IsMade S b.ty
made-at S [] i b h lt e = absurd (omega (arith, lt))
made-at S (c ∷ bs) ℕ.zero b h lt e = subst (λ (z : BoundVariable). IsMade S z.ty) (sym e) h.0
made-at S (c ∷ bs) (suc i) b h lt e = made-at S bs i b h.1 (omega (arith, lt)) e

pub made-there : (S T : State) (bs : List BoundVariable) (i : ℕ) (b : BoundVariable) → AreMade S bs → KeepsVariables S T → i < length bs → b ≡ get_or bs i b → IsMade T b.ty
made-there S T bs i b h k lt e = made-later S T b.ty k (made-at S bs i b h lt e)

pub shown-none : (S : State) (l list : ℕ) (some : Bool) (es : List (Vid × Entry)) → es ≡ [] → AreShown S S l list some [] [] es
shown-none S l list some es e = subst (AreShown S S l list some [] []) (sym e) tt

taken : {A : Type 0} (xs : List A) (i : ℕ) → length xs ≤ i → take i xs ≡ xs
taken [] ℕ.zero le = refl
taken [] (suc i) le = refl
taken (x ∷ xs) ℕ.zero le = absurd (omega (arith, le))
taken (x ∷ xs) (suc i) le = ap (λ l. x ∷ l) (taken xs i (omega (arith, le)))

pub shown-ends : (S T : State) (l list : ℕ) (some : Bool) (bs : List BoundVariable) (fs : List Bool) (es : List (Vid × Entry)) (i : ℕ) → length bs ≤ i → length fs ≡ length bs
    → AreShown S T l list some (take i bs) (take i fs) es → AreShown S T l list some bs fs es
shown-ends S T l list some bs fs es i le n h =
    subst (λ x. AreShown S T l list some x fs es) (taken bs i le)
    (subst (λ y. AreShown S T l list some (take i bs) y es) (taken fs i (omega (arith, le, n))) h)

-- what stands at a place of a list, whatever else it would be
pub flag-at : (fs : List Bool) (i : ℕ) (d : Bool) → i < length fs → get_or fs i d ≡ get_or fs i (get_or fs i d)
flag-at [] i d lt = absurd (omega (arith, lt))
flag-at (f ∷ fs) ℕ.zero d lt = refl
flag-at (f ∷ fs) (suc i) d lt = flag-at fs i d (omega (arith, lt))
