-- What stands at a place of a declaration, and how the rows stay while the table grows.
use Rattle.std.proofs.Common.{◌≡◌, ◌<◌, ◌≤◌, ℕ, zero, suc, true, List, [], ◌∷◌, length, map, get_or, take, Option, Some, None, refl, sym, ap, ap₂, subst, arith}
use Rattle.std.specs.Prelude.{option_map}
use Rattle.ty_core.specs.Types.{Typ}
use Rattle.ty_core.specs.declared.name.TyName.{TyName}
use Rattle.ty_table.specs.TypeAt.{type_at}
use Rattle.ty_solve.specs.Substitution.{is_below}
use Rattle.ty_solve.proofs.Holding.{type-stays}
use Rattle.ty_instance.proofs.Going.{longer}
use Rattle.sml_tree.specs.BareTree.{DataBind}
use Rattle.elab_types.specs.declared.scope.TypeEntry.{TypeEntry}
use Rattle.elab_state.specs.Readings.{IsHeldArgument}
use Rattle.elab_steps.specs.Growing.{Begins}
use Rattle.datatype_forms.specs.Arguments.{AreRowsOf, AreStanding, BelowIf, IsRowOf, RowBelow, RowHeld, row_at, rows_at}
use Rattle.datatype_forms.specs.Reading.{AreNameEntries, IsNameEntry}

pub taken_all : {A : Type 0} (xs : List A) (n : ℕ) → length xs ≤ n → take n xs ≡ xs
taken_all [] zero le = refl
taken_all [] (suc n) le = refl
taken_all (x ∷ xs) zero le = absurd (omega (arith, le))
taken_all (x ∷ xs) (suc n) le = ap (λ l. x ∷ l) (taken_all xs n (omega (arith, le)))

-- by its place

pub row_there : {A B : Type 0} (f : A → DataBind) (g : B → List (Option ℕ)) (ts : List Typ) (xs : List A) (kss : List B) (i : ℕ) (x : A) (ks : B) → AreRowsOf ts (map f xs) (map g kss) → i < length xs
    → x ≡ get_or xs i x → ks ≡ get_or kss i ks → IsRowOf ts (f x) (g ks)
row_there f g ts [] kss i x ks h lt e q = absurd (omega (arith, lt))
row_there f g ts (y ∷ xs) [] i x ks h lt e q = absurd h
row_there f g ts (y ∷ xs) (js ∷ kss) zero x ks h lt e q = subst (λ z. IsRowOf ts (f z) (g ks)) (sym e) (subst (λ z. IsRowOf ts (f y) (g z)) (sym q) h.0)
row_there f g ts (y ∷ xs) (js ∷ kss) (suc i) x ks h lt e q = row_there f g ts xs kss i x ks h.1 (omega (arith, lt)) e q

pub entry_there : {A : Type 0} (f : A → DataBind) (ts : List Typ) (xs : List A) (ns : List TyName) (es : List (ℕ × TypeEntry)) (i : ℕ) (n : TyName) (e : ℕ × TypeEntry) → AreNameEntries ts (map f xs) ns es
    → i < length xs → n ≡ get_or ns i n → e ≡ get_or es i e → IsNameEntry ts n e.1
entry_there f ts [] ns es i n e h lt p q = absurd (omega (arith, lt))
entry_there f ts (y ∷ xs) [] es i n e h lt p q = absurd h
entry_there f ts (y ∷ xs) (m ∷ ns) [] i n e h lt p q = absurd h
entry_there f ts (y ∷ xs) (m ∷ ns) (d ∷ es) zero n e h lt p q = subst (λ z. IsNameEntry ts z e.1) (sym p) (subst (λ (z : ℕ × TypeEntry). IsNameEntry ts m z.1) (sym q) h.0.1)
entry_there f ts (y ∷ xs) (m ∷ ns) (d ∷ es) (suc i) n e h lt p q = entry_there f ts xs ns es i n e h.1 (omega (arith, lt)) p q

pub standing_there : {A : Type 0} (f : A → DataBind) (xs : List A) (ns : List TyName) (i : ℕ) (n : TyName) (x : A) → AreStanding ns (map f xs) → i < length xs → n ≡ get_or ns i n → x ≡ get_or xs i x
    → n.arity ≡ length (f x).tyvars
standing_there f [] ns i n x h lt p q = absurd (omega (arith, lt))
standing_there f (y ∷ xs) [] i n x h lt p q = absurd h
standing_there f (y ∷ xs) (m ∷ ns) zero n x h lt p q = subst (λ (z : TyName). z.arity ≡ length (f x).tyvars) (sym p) (subst (λ z. m.arity ≡ length (f z).tyvars) (sym q) h.0)
standing_there f (y ∷ xs) (m ∷ ns) (suc i) n x h lt p q = standing_there f xs ns i n x h.1 (omega (arith, lt)) p q

pub held_there : (n : ℕ) (ks : List (Option ℕ)) (i : ℕ) (d : Option ℕ) → RowHeld n ks → i < length ks → IsHeldArgument n (get_or ks i d)
held_there n [] i d h lt = absurd (omega (arith, lt))
held_there n (k ∷ ks) zero d h lt = h.0
held_there n (k ∷ ks) (suc i) d h lt = held_there n ks i d h.1 (omega (arith, lt))

pub below_there : (n : ℕ) (ts : List Typ) (ks : List (Option ℕ)) (i : ℕ) (d : Option ℕ) → RowBelow n ts ks → i < length ks → BelowIf n ts (get_or ks i d)
below_there n ts [] i d h lt = absurd (omega (arith, lt))
below_there n ts (k ∷ ks) zero d h lt = h.0
below_there n ts (k ∷ ks) (suc i) d h lt = below_there n ts ks i d h.1 (omega (arith, lt))

pub entries_counted : (ts : List Typ) (bs : List DataBind) (ns : List TyName) (es : List (ℕ × TypeEntry)) → AreNameEntries ts bs ns es → (length ns ≡ length bs) × (length es ≡ length bs)
entries_counted ts [] [] [] h = (refl, refl)
entries_counted ts [] [] (e ∷ es) h = absurd h
entries_counted ts [] (n ∷ ns) es h = absurd h
entries_counted ts (b ∷ bs) [] es h = absurd h
entries_counted ts (b ∷ bs) (n ∷ ns) [] h = absurd h
entries_counted ts (b ∷ bs) (n ∷ ns) (e ∷ es) h = let r = entries_counted ts bs ns es h.1 in (ap suc r.0, ap suc r.1)

-- while the table grows

pub held_later : (m n : ℕ) (k : Option ℕ) → m ≤ n → IsHeldArgument m k → IsHeldArgument n k
held_later m n None le h = tt
held_later m n (Some k) le h = omega (arith, le, h)

pub below_later : (n : ℕ) (ts us : List Typ) (k : Option ℕ) → Begins ts us → IsHeldArgument (length ts) k → BelowIf n ts k → BelowIf n us k
below_later n ts us None g h b = tt
below_later n ts us (Some k) g h b = subst (λ t. is_below n t ≡ true) (sym (type-stays ts us k g h)) b

pub same_argument : (ts us : List Typ) (k : Option ℕ) → Begins ts us → IsHeldArgument (length ts) k → option_map (type_at us) k ≡ option_map (type_at ts) k
same_argument ts us None g h = refl
same_argument ts us (Some k) g h = ap Some (type-stays ts us k g h)

pub row_held_later : (m n : ℕ) (ks : List (Option ℕ)) → m ≤ n → RowHeld m ks → RowHeld n ks
row_held_later m n [] le h = tt
row_held_later m n (k ∷ ks) le h = (held_later m n k le h.0, row_held_later m n ks le h.1)

pub row_below_later : (n : ℕ) (ts us : List Typ) (ks : List (Option ℕ)) → Begins ts us → RowHeld (length ts) ks → RowBelow n ts ks → RowBelow n us ks
row_below_later n ts us [] g h b = tt
row_below_later n ts us (k ∷ ks) g h b = (below_later n ts us k g h.0 b.0, row_below_later n ts us ks g h.1 b.1)

pub same_row : (ts us : List Typ) (ks : List (Option ℕ)) → Begins ts us → RowHeld (length ts) ks → row_at us ks ≡ row_at ts ks
same_row ts us [] g h = refl
same_row ts us (k ∷ ks) g h = ap₂ (λ x l. x ∷ l) (same_argument ts us k g h.0) (same_row ts us ks g h.1)

pub rows_of_later : (ts us : List Typ) (bs : List DataBind) (kss : List (List (Option ℕ))) → Begins ts us → AreRowsOf ts bs kss → AreRowsOf us bs kss
rows_of_later ts us [] [] g h = tt
rows_of_later ts us [] (ks ∷ kss) g h = absurd h
rows_of_later ts us (b ∷ bs) [] g h = absurd h
rows_of_later ts us (b ∷ bs) (ks ∷ kss) g h = (
  record {
    count = h.0.count;
    held = row_held_later (length ts) (length us) ks (longer ts us g) h.0.held;
    below = row_below_later (length b.tyvars) ts us ks g h.0.held h.0.below;
  },
  rows_of_later ts us bs kss g h.1,
)

pub same_rows : (ts us : List Typ) (bs : List DataBind) (kss : List (List (Option ℕ))) → Begins ts us → AreRowsOf ts bs kss → rows_at us kss ≡ rows_at ts kss
same_rows ts us [] [] g h = refl
same_rows ts us [] (ks ∷ kss) g h = absurd h
same_rows ts us (b ∷ bs) [] g h = absurd h
same_rows ts us (b ∷ bs) (ks ∷ kss) g h = ap₂ (λ x l. x ∷ l) (same_row ts us ks g h.0.held) (same_rows ts us bs kss g h.1)
