-- What is made of the basis, one step after the other.
use Rattle.std.proofs.Common.{◌≡◌, ◌<◌, ◌≤◌, ◌+◌, ℕ, zero, suc, List, [], ◌∷◌, ◌++◌, map, take, drop, length, get_or, Option, Some, slice_get, refl, sym, ap, ap₂, subst, ◌∙◌, arith}
use Rattle.std.specs.List.{AllByRecursion}
use Rattle.std.proofs.lemmas.List.{append_assoc, map-append, take_all}
use Rattle.std.proofs.lemmas.Option.{slice_get_within, get_or_from_slice_get}
use Rattle.ty_core.specs.Types.{Typ, var, con, none, more, name}
use Rattle.ty_core.specs.declared.mark.Mark.{Mark}
use Rattle.ty_core.specs.declared.name.TyName.{TyName}
use Rattle.ty_table.specs.TypeAt.{type_at, AllBelow}
use Rattle.ty_solve.proofs.Holding.{type-stays}
use Rattle.ty_instance.proofs.Going.{stays-on, longer, whole}
use Rattle.elab_types.proofs.Lists.{all-map, next-map-at}
use Rattle.core_rules.specs.Objects.{Scheme}
use Rattle.core_rules.specs.Initial.{entries, hidden, integers}
use Rattle.initial_types.specs.Schemes.{bodies_of, marks_of, scheme_of, schemes_in, schemes_of}
use Rattle.initial_types.specs.declared.row.Scheme as basis
use Rattle.elab_context.specs.declared.entry.Scheme as code
use Rattle.basis_context.specs.Basis.{Rows, HasBasis, arity_of, body_of, body_with, entry_at, equal_rows, equal_with, function_bodies, basis_marks, marks_at, named_rows, named_with, scheme_in, type_entries, type_list, vid_at, IsStandard, NamedType, constructors_at, built_at, listed_rows, row_constructors}
use Rattle.elab_types.specs.declared.scope.TypeEntry.{TypeEntry}
use Rattle.basis_context.specs.declared.rows.Kind.{Kind}
use Rattle.elab_context.specs.declared.entry.Built.{Built}
use Rattle.elab_context.specs.declared.entry.Entry.{Entry}
use Rattle.sml_tree.specs.declared.ident.Vid.{Vid}
use Rattle.vid_scope.specs.declared.vids.VidScope.{VidScope}
use Rattle.basis_context.specs.declared.tables.Basis.{Basis}

-- types that were made have their numbers in a longer table

types-stay : (ts us : List Typ) (ks : List ℕ) → take (length ts) us ≡ ts → AllBelow (length ts) ks → map (type_at us) ks ≡ map (type_at ts) ks
types-stay ts us [] e h = refl
types-stay ts us (k ∷ ks) e h = ap₂ (λ (t : Typ) l. t ∷ l) (type-stays ts us k e h.0) (types-stay ts us ks e h.1)

pub below-longer : (m n : ℕ) (ks : List ℕ) → m ≤ n → AllBelow m ks → AllBelow n ks
below-longer m n [] le h = tt
below-longer m n (k ∷ ks) le h = (omega (arith, h.0, le), below-longer m n ks le h.1)

below-more : (n : ℕ) (ks : List ℕ) (k : ℕ) → AllBelow n ks → k < n → AllBelow n (ks ++ k ∷ [])
below-more n [] k h lt = (lt, tt)
below-more n (j ∷ ks) k h lt = (h.0, below-more n ks k h.1 lt)

schemes-stay : (ts us : List Typ) (ss : List basis.Scheme) → take (length ts) us ≡ ts → AllBelow (length ts) (bodies_of ss) → schemes_of us ss ≡ schemes_of ts ss
schemes-stay ts us [] e h = refl
schemes-stay ts us (s ∷ ss) e h = ap₂ (λ (t : Typ) l. record { marks = marks_of s.mark; body = t } ∷ l) (type-stays ts us s.body e h.0) (schemes-stay ts us ss e h.1)

pub body-one : (y : TyName) (n : ℕ) → (n ≡ 0 → ⊥) → body_with y n ≡ con (name y) (more (var 0) none)
body-one y zero h = absurd (h refl)
body-one y (suc n) h = refl

-- bodies that are made so far
pub record Made (old T : List Typ) (rows : List NamedType) (ks : List ℕ) : Type 0 where
  pub kept : take (length old) T ≡ old
  pub held : AllBelow (length T) ks
  pub are : map (type_at T) ks ≡ map (λ t. body_of t.1) rows

pub made-none : (old : List Typ) (ks : List ℕ) → ks ≡ [] → Made old old [] ks
made-none old ks e = subst (Made old old []) (sym e) (record { kept = whole old; held = tt; are = refl })

pub made-more : (old T U : List Typ) (rows : List NamedType) (i : ℕ) (d : NamedType) (ks js : List ℕ) (k : ℕ) (o : Option TyName) → i < length rows → Made old T (take i rows) ks
    → take (length T) U ≡ T → o ≡ (get_or rows i d).1 → slice_get U k ≡ Some (body_of o) → js ≡ ks ++ k ∷ [] → Made old U (take (i + 1) rows) js
made-more old T U rows i d ks js k o lt h g e is p = record {
  kept = stays-on old T U h.kept g;
  held = subst (AllBelow (length U)) (sym p) (below-more (length U) ks k (below-longer (length T) (length U) ks (longer T U g) h.held) (slice_get_within U k (body_of o) is));
  are =
      ap (map (type_at U)) p ∙ map-append (type_at U) ks (k ∷ [])
      ∙ ap₂ (λ (l : List Typ) (t : Typ). l ++ t ∷ []) (types-stay T U ks g h.held ∙ h.are) (get_or_from_slice_get U k (body_of o) (var 0) is ∙ ap body_of e)
      ∙ sym (next-map-at (λ (t : NamedType). body_of t.1) rows i d lt);
}

pub made-all : (old T : List Typ) (rows : List NamedType) (i : ℕ) (ks : List ℕ) → length rows ≤ i → Made old T (take i rows) ks → map (type_at T) ks ≡ map (λ t. body_of t.1) rows
made-all old T rows i ks le h = h.are ∙ all-map (λ (t : NamedType). body_of t.1) rows i le

-- all of them
pub has_basis : (T U V X : List Typ) (b : Basis) → AllBelow (length T) (bodies_of b.values.items) → schemes_of T b.values.items ≡ schemes_in entries → take (length T) U ≡ T
    → AllBelow (length U) (bodies_of b.integers.items) → schemes_of U b.integers.items ≡ schemes_in integers → take (length U) V ≡ U
    → AllBelow (length V) (bodies_of b.hidden.items) → schemes_of V b.hidden.items ≡ schemes_in hidden → take (length V) X ≡ V
    → AllBelow (length X) b.bodies.items → map (type_at X) b.bodies.items ≡ function_bodies → HasBasis X b
has_basis T U V X b h e g i f k m n p j l =
    let late = stays-on U V X k p in
    let all = stays-on T U X g late in record {
      values_held = below-longer (length T) (length X) (bodies_of b.values.items) (longer T X all) h;
      values = schemes-stay T X b.values.items all h ∙ e;
      integers_held = below-longer (length U) (length X) (bodies_of b.integers.items) (longer U X late) i;
      integers = schemes-stay U X b.integers.items late i ∙ f;
      hidden_held = below-longer (length V) (length X) (bodies_of b.hidden.items) (longer V X p) m;
      hidden = schemes-stay V X b.hidden.items p m ∙ n;
      bodies_held = j;
      bodies = l;
    }

-- schemes of a context

-- a scheme's marks and body, and those of the first of a list
abbrev marks-and : List Mark → ℕ → List Mark × ℕ
marks-and ms b = (ms, b)

abbrev marks-in : basis.Scheme → List Mark × ℕ
marks-in s = (marks_of s.mark, s.body)

abbrev marks-here : code.Scheme → List Mark × ℕ
marks-here s = (s.marks.items, s.body)

abbrev first-marks : List (List Mark × ℕ) → List Mark
first-marks [] = []
first-marks (x ∷ xs) = x.0

abbrev first-body : List (List Mark × ℕ) → ℕ
first-body [] = 0
first-body (x ∷ xs) = x.1

abbrev the-rest : List (List Mark × ℕ) → List (List Mark × ℕ)
the-rest [] = []
the-rest (x ∷ xs) = xs

pub schemes-from : (ts : List Typ) (ks : List code.Scheme) (ss : List basis.Scheme) → marks_at ks ≡ basis_marks ss → map (scheme_in ts) ks ≡ schemes_of ts ss
schemes-from ts [] [] e = refl
schemes-from ts [] (s ∷ ss) e = absurd (cc)
schemes-from ts (k ∷ ks) [] e = absurd (cc)
schemes-from ts (k ∷ ks) (s ∷ ss) e =
    let marks : k.marks.items ≡ marks_of s.mark = ap first-marks e in
    let body : k.body ≡ s.body = ap first-body e in
    ap₂ (λ (h : Scheme) l. h ∷ l) (ap₂ (λ (ms : List Mark) b. record { marks = ms; body = type_at ts b }) marks body) (schemes-from ts ks ss (ap the-rest e))

pub schemes-below : (n : ℕ) (ks : List code.Scheme) (ss : List basis.Scheme) → marks_at ks ≡ basis_marks ss → AllBelow n (bodies_of ss) → AllByRecursion (λ s. s.body < n) ks
schemes-below n [] ss e h = tt
schemes-below n (k ∷ ks) [] e h = absurd (cc)
schemes-below n (k ∷ ks) (s ∷ ss) e h = let body : k.body ≡ s.body = ap first-body e in (subst (λ b. b < n) (sym body) h.0, schemes-below n ks ss (ap the-rest e) h.1)

pub marks-append : (xs ys : List basis.Scheme) → basis_marks (xs ++ ys) ≡ basis_marks xs ++ basis_marks ys
marks-append xs ys = map-append marks-in xs ys

pub schemes-append : (ts : List Typ) (xs ys : List basis.Scheme) → schemes_of ts (xs ++ ys) ≡ schemes_of ts xs ++ schemes_of ts ys
schemes-append ts xs ys = map-append (scheme_of ts) xs ys

pub below-append : (n : ℕ) (xs ys : List basis.Scheme) → AllBelow n (bodies_of xs) → AllBelow n (bodies_of ys) → AllBelow n (bodies_of (xs ++ ys))
below-append n [] ys h k = k
below-append n (x ∷ xs) ys h k = (h.0, below-append n xs ys h.1 k)

-- rows from the end

drop-one : {A : Type 0} (xs : List A) (i : ℕ) (x d : A) → i < length xs → x ≡ get_or xs i d → drop i xs ≡ x ∷ drop (suc i) xs
drop-one [] i x d lt e = absurd (omega arith)
drop-one (y ∷ xs) zero x d lt e = ap (λ z. z ∷ xs) (sym e)
drop-one (y ∷ xs) (suc i) x d lt e = drop-one xs i x d (omega (arith, lt)) e

pub named-more : (rs : Rows) (k i j : ℕ) (d : Option ℕ × Kind) → i < length rs → j ≡ suc i
    → named_rows (drop i rs) (k + i) ≡ named_with (get_or rs i d).0 (entry_at (get_or rs i d).1 (k + i)) (named_rows (drop j rs) (k + j))
named-more rs k i j d lt e =
    let s : suc (k + i) ≡ k + j = omega (arith, e) in
    ap (λ l. named_rows l (k + i)) (drop-one rs i (get_or rs i d) d lt refl ∙ ap (λ n. get_or rs i d ∷ drop n rs) (sym e))
    ∙ ap (λ n. named_with (get_or rs i d).0 (entry_at (get_or rs i d).1 (k + i)) (named_rows (drop j rs) n)) s

pub equal-more : (rs : Rows) (k i j : ℕ) (d : Option ℕ × Kind) → i < length rs → j ≡ suc i
    → equal_rows (drop i rs) (k + i) ≡ equal_with (get_or rs i d).0 (entry_at (get_or rs i d).1 (k + i)) (equal_rows (drop j rs) (k + j))
equal-more rs k i j d lt e =
    let s : suc (k + i) ≡ k + j = omega (arith, e) in
    ap (λ l. equal_rows l (k + i)) (drop-one rs i (get_or rs i d) d lt refl ∙ ap (λ n. get_or rs i d ∷ drop n rs) (sym e))
    ∙ ap (λ n. equal_with (get_or rs i d).0 (entry_at (get_or rs i d).1 (k + i)) (equal_rows (drop j rs) n)) s

drop-all : {A : Type 0} (xs : List A) → drop (length xs) xs ≡ []
drop-all [] = refl
drop-all (x ∷ xs) = drop-all xs

pub named-none : (rs : Rows) (k : ℕ) → named_rows (drop (length rs) rs) k ≡ []
named-none rs k = ap (λ l. named_rows l k) (drop-all rs)

pub equal-none : (rs : Rows) (k : ℕ) → equal_rows (drop (length rs) rs) k ≡ []
equal-none rs k = ap (λ l. equal_rows l k) (drop-all rs)

pub types-more : (ts : List NamedType) (bs : List ℕ) (i j : ℕ) (d : NamedType) (b : ℕ) → i < length ts → i < length bs → j ≡ suc i
    → type_entries (drop i ts) (drop i bs)
    ≡ ((get_or ts i d).0, record { arity = arity_of (get_or ts i d).1; body = get_or bs i b; constructors = (get_or ts i d).2 }) ∷ type_entries (drop j ts) (drop j bs)
types-more ts bs i j d b lt lb e =
    ap₂ type_entries (drop-one ts i (get_or ts i d) d lt refl ∙ ap (λ n. get_or ts i d ∷ drop n ts) (sym e)) (drop-one bs i (get_or bs i b) b lb refl ∙ ap (λ n. get_or bs i b ∷ drop n bs) (sym e))

-- type constructors that are bound, from the end of the rows on

pub record TypesSoFar (bs : List ℕ) (i : ℕ) (s : List (ℕ × TypeEntry)) : Type 0 where
  pub are : s ≡ type_entries (drop i type_list) (drop i bs)
  pub within : i ≤ 9

pub types-none : (bs : List ℕ) (i : ℕ) (s : List (ℕ × TypeEntry)) → i ≡ 9 → s ≡ [] → TypesSoFar bs i s
types-none bs i s e n = record { are = n ∙ sym (ap (λ j. type_entries (drop j type_list) (drop j bs)) e); within = omega (arith, e) }

pub types-so-far : (bs : List ℕ) (i j : ℕ) (d : NamedType) (b n : ℕ) (old new : List (ℕ × TypeEntry)) → length bs ≡ 9 → TypesSoFar bs j old → j ≡ suc i → n ≡ arity_of (get_or type_list i d).1
    → new ≡ ((get_or type_list i d).0, record { arity = n; body = get_or bs i b; constructors = (get_or type_list i d).2 }) ∷ old → TypesSoFar bs i new
types-so-far bs i j d b n old new count h next en is =
    let le = h.within in
    let lt : i < 9 = omega (arith, le, next) in
    record {
      are =
          is ∙ ap₂ (λ (m : ℕ) l. ((get_or type_list i d).0, record { arity = m; body = get_or bs i b; constructors = (get_or type_list i d).2 }) ∷ l) en h.are
          ∙ sym (types-more type_list bs i j d b lt (omega (arith, lt, count)) next);
      within = omega (arith, lt);
    }

pub types-all : (bs : List ℕ) (i : ℕ) (s : List (ℕ × TypeEntry)) → i ≡ 0 → TypesSoFar bs i s → s ≡ type_entries type_list bs
types-all bs i s e h = h.are ∙ ap (λ j. type_entries (drop j type_list) (drop j bs)) e

-- what the code has bound, from the end of the rows on

pub record SoFar (rs : Rows) (k i : ℕ) (s : VidScope Entry) : Type 0 where
  pub named : s.named ≡ named_rows (drop i rs) (k + i)
  pub fresh : s.fresh ≡ []
  pub equals : s.equals ≡ equal_rows (drop i rs) (k + i)
  pub within : i ≤ length rs

pub so-far-none : (rs : Rows) (k i : ℕ) (s : VidScope Entry) → i ≡ length rs → s.named ≡ [] → s.fresh ≡ [] → s.equals ≡ [] → SoFar rs k i s
so-far-none rs k i s e n f q = record {
  named = n ∙ sym (ap (λ j. named_rows (drop j rs) (k + i)) e ∙ named-none rs (k + i));
  fresh = f;
  equals = q ∙ sym (ap (λ j. equal_rows (drop j rs) (k + i)) e ∙ equal-none rs (k + i));
  within = omega (arith, e);
}

pub so-far-more : (rs : Rows) (k i j : ℕ) (d r : Option ℕ × Kind) (s t : VidScope Entry) → SoFar rs k j s → j ≡ suc i → r ≡ get_or rs i d → t.named ≡ named_with r.0 (entry_at r.1 (k + i)) s.named
    → t.fresh ≡ s.fresh → t.equals ≡ equal_with r.0 (entry_at r.1 (k + i)) s.equals → SoFar rs k i t
so-far-more rs k i j d r s t h e is n f q =
    let w = h.within in let lt : i < length rs = omega (arith, w, e) in record {
      named = n ∙ ap₂ (λ (z : Option ℕ × Kind) l. named_with z.0 (entry_at z.1 (k + i)) l) is h.named ∙ sym (named-more rs k i j d lt e);
      fresh = f ∙ h.fresh;
      equals = q ∙ ap₂ (λ (z : Option ℕ × Kind) l. equal_with z.0 (entry_at z.1 (k + i)) l) is h.equals ∙ sym (equal-more rs k i j d lt e);
      within = omega (arith, w, e);
    }

pub so-far-all : (rs : Rows) (k i : ℕ) (s : VidScope Entry) → i ≡ 0 → SoFar rs k i s → (s.named ≡ named_rows rs k) × (s.fresh ≡ []) × (s.equals ≡ equal_rows rs k)
so-far-all rs k i s e h =
    let z : k + i ≡ k = omega (arith, e) in
    (h.named ∙ ap₂ (λ j n. named_rows (drop j rs) n) e z, h.fresh, h.equals ∙ ap₂ (λ j n. equal_rows (drop j rs) n) e z)

-- schemes that are added so far

pub marks-more : (added : List basis.Scheme) (i : ℕ) (d : basis.Scheme) (old mid new : List code.Scheme) (s : code.Scheme) (ms : List Mark) → i < length added
    → marks_at mid ≡ marks_at old ++ basis_marks (take i added) → s.marks.items ≡ ms → ms ≡ marks_of (get_or added i d).mark → s.body ≡ (get_or added i d).body → new ≡ mid ++ s ∷ []
    → marks_at new ≡ marks_at old ++ basis_marks (take (i + 1) added)
marks-more added i d old mid new s ms lt h em eo eb p =
    ap marks_at p ∙ map-append marks-here mid (s ∷ [])
    ∙ ap₂ (λ (l : List (List Mark × ℕ)) m. l ++ m ∷ []) h (ap₂ marks-and (em ∙ eo) eb)
    ∙ append_assoc (marks_at old) (basis_marks (take i added)) (marks-in (get_or added i d) ∷ []) ∙ ap (λ l. marks_at old ++ l) (sym (next-map-at marks-in added i d lt))

pub marks-all : (added : List basis.Scheme) (i : ℕ) (old mid : List code.Scheme) → length added ≤ i → marks_at mid ≡ marks_at old ++ basis_marks (take i added) → marks_at mid ≡ marks_at old ++ basis_marks added
marks-all added i old mid le h = h ∙ ap (λ l. marks_at old ++ l) (all-map marks-in added i le)

pub marks-three : (a b c d : List code.Scheme) (xs ys zs us vs ws : List basis.Scheme) → a ≡ [] → marks_at b ≡ marks_at a ++ basis_marks xs → marks_at c ≡ marks_at b ++ basis_marks ys
    → marks_at d ≡ marks_at c ++ basis_marks zs → xs ≡ us → ys ≡ vs → zs ≡ ws → marks_at d ≡ basis_marks us ++ (basis_marks vs ++ basis_marks ws)
marks-three a b c d xs ys zs us vs ws n e f g x y z =
    g ∙ ap₂ (λ l s. l ++ basis_marks s) (f ∙ ap₂ (λ l s. l ++ basis_marks s) (e ∙ ap₂ (λ k s. marks_at k ++ basis_marks s) n x) y) z
    ∙ append_assoc (basis_marks us) (basis_marks vs) (basis_marks ws)

-- the constructors that they are of

pub constructors-more : (rows : Rows) (i : ℕ) (d : Option ℕ × Kind) (old mid new : List code.Scheme) (s : code.Scheme) → i < length rows
    → constructors_at mid ≡ constructors_at old ++ row_constructors (take i rows) → s.constructor ≡ built_at (get_or rows i d).1 → new ≡ mid ++ s ∷ []
    → constructors_at new ≡ constructors_at old ++ row_constructors (take (i + 1) rows)
constructors-more rows i d old mid new s lt h e p =
    ap constructors_at p ∙ map-append (λ (s : code.Scheme). s.constructor) mid (s ∷ []) ∙ ap₂ (λ (l : List (Option Built)) c. l ++ c ∷ []) h e
    ∙ append_assoc (constructors_at old) (row_constructors (take i rows)) (built_at (get_or rows i d).1 ∷ [])
    ∙ ap (λ l. constructors_at old ++ l) (sym (next-map-at (λ (r : Option ℕ × Kind). built_at r.1) rows i d lt))

pub constructors-all : (rows : Rows) (i : ℕ) (old mid : List code.Scheme) → length rows ≤ i → constructors_at mid ≡ constructors_at old ++ row_constructors (take i rows)
    → constructors_at mid ≡ constructors_at old ++ row_constructors rows
constructors-all rows i old mid le h = h ∙ ap (λ l. constructors_at old ++ l) (all-map (λ (r : Option ℕ × Kind). built_at r.1) rows i le)

pub constructors-three : (a b c d : List code.Scheme) (xs ys zs : List (Option Built)) → a ≡ [] → constructors_at b ≡ constructors_at a ++ xs → constructors_at c ≡ constructors_at b ++ ys
    → constructors_at d ≡ constructors_at c ++ zs → constructors_at d ≡ xs ++ (ys ++ zs)
constructors-three a b c d xs ys zs n e f g =
    g ∙ ap (λ l. l ++ zs) (f ∙ ap (λ l. l ++ ys) (e ∙ ap (λ k. constructors_at k ++ xs) n)) ∙ append_assoc xs ys zs

-- what is listed so far

pub standard-at : (rs : Rows) (i : ℕ) (d : Option ℕ × Kind) → AllByRecursion (λ r. IsStandard r.0) rs → i < length rs → IsStandard (get_or rs i d).0
standard-at [] i d h lt = absurd (omega (arith, lt))
standard-at (r ∷ rs) zero d h lt = h.0
standard-at (r ∷ rs) (suc i) d h lt = standard-at rs i d h.1 (omega (arith, lt))

listed-next : (rs : Rows) (k i : ℕ) (d : Option ℕ × Kind) → i < length rs
    → listed_rows (take (suc i) rs) k ≡ listed_rows (take i rs) k ++ (vid_at (get_or rs i d).0, entry_at (get_or rs i d).1 (k + i)) ∷ []
listed-next [] k i d lt = absurd (omega (arith, lt))
listed-next (r ∷ rs) k zero d lt = let e : k ≡ k + 0 = omega arith in ap (λ n. (vid_at r.0, entry_at r.1 n) ∷ []) e
listed-next (r ∷ rs) k (suc i) d lt =
    let e : suc k + i ≡ k + suc i = omega arith in
    ap (λ l. (vid_at r.0, entry_at r.1 k) ∷ l)
    (listed-next rs (suc k) i d (omega (arith, lt)) ∙ ap (λ n. listed_rows (take i rs) (suc k) ++ (vid_at (get_or rs i d).0, entry_at (get_or rs i d).1 n) ∷ []) e)

pub listed-more : (rs : Rows) (k i : ℕ) (d : Option ℕ × Kind) (es ds : List (Vid × Entry)) (e : Vid × Entry) → i < length rs → es ≡ listed_rows (take i rs) k
    → e ≡ (vid_at (get_or rs i d).0, entry_at (get_or rs i d).1 (k + i)) → ds ≡ es ++ e ∷ [] → ds ≡ listed_rows (take (i + 1) rs) k
listed-more rs k i d es ds e lt h is p =
    let n : suc i ≡ i + 1 = omega arith in
    p ∙ ap₂ (λ (l : List (Vid × Entry)) z. l ++ z ∷ []) h is ∙ sym (listed-next rs k i d lt) ∙ ap (λ j. listed_rows (take j rs) k) n

pub listed-all : (rs : Rows) (k i : ℕ) (es : List (Vid × Entry)) → length rs ≤ i → es ≡ listed_rows (take i rs) k → es ≡ listed_rows rs k
listed-all rs k i es le h = h ∙ ap (λ l. listed_rows l k) (take_all i rs le)
