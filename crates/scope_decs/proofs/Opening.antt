-- What structures have, identifier by identifier.
use Rattle.std.proofs.Common.{◌≡◌, ◌⊎◌, inl, inr, ◌<◌, ◌≤◌, ◌+◌, ℕ, zero, suc, true, false, cond, List, [], ◌∷◌, ◌++◌, map, length, take, get_or, slice_get, Option, Some, None, nat_eq, refl, sym, ap, subst, ◌∙◌, arith}
use Rattle.std.specs.Prelude.{option_and_then}
use Rattle.std.specs.Option.{option_or}
use Rattle.std.specs.List.{AllByRecursion}
use Rattle.std.specs.Map.{lookup}
use Rattle.std.proofs.lemmas.List.{append_assoc, map-append}
use Rattle.std.proofs.Math.Seq.{take-suc}
use Rattle.sml_tree.specs.BareTree.{LongIdAt}
use Rattle.sml_tree.specs.TreeOf.{long_id_at_of}
use Rattle.sml_tree.specs.declared.ident.Vid.{Vid}
use Rattle.sml_tree.specs.declared.tree.LongIdAt as tree
use Rattle.vid_scope.specs.Entries.{entry_of}
use Rattle.vid_scope.specs.declared.vids.VidScope.{VidScope}
use Rattle.core_rules.specs.Words.{same_vid}
use Rattle.core_rules.proofs.LookUps.{vid-tells}
use Rattle.elab_context.specs.Entries.{contents_at, entry_in, last_of, member_in}
use Rattle.elab_context.specs.declared.context.Context.{Context}
use Rattle.elab_context.specs.declared.entry.Entry.{Entry}
use Rattle.scope_decs.specs.Opening.{found_by, members_of, AreOpened, none_opened, one_opened, IsOpened}

append-nil : {A : Type 0} (xs : List A) → xs ++ [] ≡ xs
append-nil [] = refl
append-nil (x ∷ xs) = ap (λ l. x ∷ l) (append-nil xs)

-- one by one

abbrev pub one-found : (Vid → Option Entry) → Vid × Entry → List (Vid × Entry)
one-found f e = elim (f e.0) [ None ↦ [] | Some d ↦ (e.0, d) ∷ [] ]

found-cons : (f : Vid → Option Entry) (e : Vid × Entry) (es : List (Vid × Entry)) → found_by f (e ∷ es) ≡ one-found f e ++ found_by f es
found-cons f e es = by (f e.0)
  where
    by : (o : Option Entry) → elim o [ None ↦ found_by f es | Some d ↦ (e.0, d) ∷ found_by f es ] ≡ elim o [ None ↦ [] | Some d ↦ (e.0, d) ∷ [] ] ++ found_by f es
    by None = refl
    by (Some d) = refl

found-snoc : (f : Vid → Option Entry) (es : List (Vid × Entry)) (e : Vid × Entry) → found_by f (es ++ e ∷ []) ≡ found_by f es ++ one-found f e
found-snoc f [] e = found-cons f e [] ∙ append-nil (one-found f e)
found-snoc f (d ∷ es) e =
    found-cons f d (es ++ e ∷ []) ∙ ap (λ l. one-found f d ++ l) (found-snoc f es e) ∙ sym (append_assoc (one-found f d) (found_by f es) (one-found f e))
    ∙ ap (λ l. l ++ one-found f e) (sym (found-cons f d es))

take-next : {A : Type 0} (xs : List A) (i : ℕ) (x : A) → i < length xs → x ≡ get_or xs i x → take i xs ++ x ∷ [] ≡ take (i + 1) xs
take-next xs i x lt is =
    let up : suc i ≡ i + 1 = omega arith in ap (λ z. take i xs ++ z ∷ []) is ∙ sym (take-suc xs i x lt) ∙ ap (λ j. take j xs) up

-- one that is found, and one that isn't
pub found-next : (f : Vid → Option Entry) (es : List (Vid × Entry)) (i : ℕ) (e : Vid × Entry) (d : Entry) (start old new : List (Vid × Entry)) → i < length es → e ≡ get_or es i e
    → f e.0 ≡ Some d → old ≡ start ++ found_by f (take i es) → new ≡ old ++ (e.0, d) ∷ [] → new ≡ start ++ found_by f (take (i + 1) es)
found-next f es i e d start old new lt is q h n =
    n ∙ ap (λ l. l ++ (e.0, d) ∷ []) h ∙ append_assoc start (found_by f (take i es)) ((e.0, d) ∷ [])
    ∙ ap (λ l. start ++ l)
    (ap (λ (o : Option Entry). found_by f (take i es) ++ (elim o [ None ↦ [] | Some d ↦ (e.0, d) ∷ [] ])) (sym q) ∙ sym (found-snoc f (take i es) e) ∙ ap (found_by f) (take-next es i e lt is))

pub absent-next : (f : Vid → Option Entry) (es : List (Vid × Entry)) (i : ℕ) (e : Vid × Entry) (start old : List (Vid × Entry)) → i < length es → e ≡ get_or es i e → f e.0 ≡ None
    → old ≡ start ++ found_by f (take i es) → old ≡ start ++ found_by f (take (i + 1) es)
absent-next f es i e start old lt is q h =
    h
    ∙ ap (λ l. start ++ l)
    (sym (append-nil (found_by f (take i es))) ∙ ap (λ (o : Option Entry). found_by f (take i es) ++ (elim o [ None ↦ [] | Some d ↦ (e.0, d) ∷ [] ])) (sym q)
    ∙ sym (found-snoc f (take i es) e) ∙ ap (found_by f) (take-next es i e lt is))

-- nothing is found
found-none : (f : Vid → Option Entry) (es : List (Vid × Entry)) → ((x : Vid) → f x ≡ None) → found_by f es ≡ []
found-none f [] h = refl
found-none f (e ∷ es) h = ap (λ (o : Option Entry). elim o [ None ↦ found_by f es | Some d ↦ (e.0, d) ∷ found_by f es ]) (h e.0) ∙ found-none f es h

past-end : {A : Type 0} (xs : List A) (k : ℕ) → length xs ≤ k → slice_get xs k ≡ None
past-end [] k h = refl
past-end (x ∷ xs) zero h = absurd (omega (arith, h))
past-end (x ∷ xs) (suc k) h = past-end xs k (omega (arith, h))

pub no-members : (C : Context) (k : ℕ) (ms : List (VidScope Entry)) (old : List (Vid × Entry)) → ms ≡ C.members.items → length ms ≤ k → old ≡ old ++ members_of C k
no-members C k ms old e h =
    let none : slice_get C.members.items k ≡ None = ap (λ (l : List (VidScope Entry)). slice_get l k) (sym e) ∙ past-end ms k h in
    sym (append-nil old)
    ∙ ap (λ l. old ++ l)
    (sym (found-none (member_in C.members.items k) (contents_at C k) (λ x. ap (λ (o : Option (VidScope Entry)). option_and_then (λ s. entry_of s x) o) none)))

-- what each is

pub each-found : (f : Vid → Option Entry) (es : List (Vid × Entry)) → AllByRecursion (λ (e : Vid × Entry). f e.0 ≡ Some e.1) (found_by f es)
each-found f [] = tt
each-found f (e ∷ es) = by (f e.0) refl (each-found f es)
  where
    by : (o : Option Entry) → f e.0 ≡ o → AllByRecursion (λ (e : Vid × Entry). f e.0 ≡ Some e.1) (found_by f es)
        → AllByRecursion (λ (e : Vid × Entry). f e.0 ≡ Some e.1) (elim o [ None ↦ found_by f es | Some d ↦ (e.0, d) ∷ found_by f es ])
    by None q h = h
    by (Some d) q h = (q, h)

-- The last of an identifier is what is found, where the identifier is among them.

abbrev if-there : Option Entry → Option Entry → Option Entry
if-there o r = option_and_then (λ d. r) o

same-there : (r : Option Entry) → if-there r r ≡ r
same-there None = refl
same-there (Some d) = refl

or-none : {A : Type 0} (o : Option A) → option_or o None ≡ o
or-none None = refl
or-none (Some a) = refl

last-found : (f : Vid → Option Entry) (es : List (Vid × Entry)) (x : Vid) → last_of (found_by f es) x ≡ if-there (last_of es x) (f x)
last-found f [] x = refl
last-found f (e ∷ es) x = by (vid-tells x e.0) (f e.0) refl (last-found f es x)
  where
    -- the identifier itself
    it-absent : (o p r : Option Entry) → r ≡ None → o ≡ if-there p r → o ≡ if-there (option_or p (Some e.1)) r
    it-absent o None r q h = h ∙ sym q
    it-absent o (Some a) r q h = h

    it-found : (o p r : Option Entry) (d : Entry) → r ≡ Some d → o ≡ if-there p r → option_or o (Some d) ≡ if-there (option_or p (Some e.1)) r
    it-found o None r d q h = ap (λ z. option_or z (Some d)) h ∙ sym q
    it-found o (Some a) r d q h = ap (λ z. option_or z (Some d)) (h ∙ q) ∙ sym q

    by : ((same_vid x e.0 ≡ true) × (x ≡ e.0)) ⊎ (same_vid x e.0 ≡ false) → (p : Option Entry) → f e.0 ≡ p → last_of (found_by f es) x ≡ if-there (last_of es x) (f x)
        → last_of (elim p [ None ↦ found_by f es | Some d ↦ (e.0, d) ∷ found_by f es ]) x ≡ if-there (option_or (last_of es x) (cond (same_vid x e.0) (Some e.1) None)) (f x)
    by (inl s) None q h =
        it-absent (last_of (found_by f es) x) (last_of es x) (f x) (ap f s.1 ∙ q) h ∙ ap (λ b. if-there (option_or (last_of es x) (cond b (Some e.1) None)) (f x)) (sym s.0)
    by (inl s) (Some d) q h =
        ap (λ b. option_or (last_of (found_by f es) x) (cond b (Some d) None)) s.0 ∙ it-found (last_of (found_by f es) x) (last_of es x) (f x) d (ap f s.1 ∙ q) h
        ∙ ap (λ b. if-there (option_or (last_of es x) (cond b (Some e.1) None)) (f x)) (sym s.0)
    by (inr s) None q h =
        h ∙ ap (λ o. if-there o (f x)) (sym (or-none (last_of es x))) ∙ ap (λ b. if-there (option_or (last_of es x) (cond b (Some e.1) None)) (f x)) (sym s)
    by (inr s) (Some d) q h =
        ap (λ b. option_or (last_of (found_by f es) x) (cond b (Some d) None)) s ∙ or-none (last_of (found_by f es) x) ∙ h
        ∙ ap (λ o. if-there o (f x)) (sym (or-none (last_of es x))) ∙ ap (λ b. if-there (option_or (last_of es x) (cond b (Some e.1) None)) (f x)) (sym s)

pub last_found : (f : Vid → Option Entry) (es : List (Vid × Entry)) (x : Vid) → last_of es x ≡ f x → last_of (found_by f es) x ≡ f x
last_found f es x h = last-found f es x ∙ ap (λ o. if-there o (f x)) h ∙ same-there (f x)

-- several structures

pub all-append : {A : Type 0} (P : A → Type 0) (xs ys : List A) → AllByRecursion P xs → AllByRecursion P ys → AllByRecursion P (xs ++ ys)
all-append P [] ys h k = k
all-append P (x ∷ xs) ys h k = (h.0, all-append P xs ys h.1 k)

pub opened-snoc : {C : Context} {ys : List LongIdAt} {y : LongIdAt} {es fs : List (Vid × Entry)} → AreOpened C ys es → IsOpened C y fs → AreOpened C (ys ++ y ∷ []) (es ++ fs)
opened-snoc {C = C} {y = y} {fs = fs} none_opened o = subst (AreOpened C (y ∷ [])) (append-nil fs) (one_opened o none_opened)
opened-snoc {C = C} {y = y} {fs = fs} (one_opened {y = z} {ys = zs} {es = es} {fs = gs} p ps) o =
    subst (AreOpened C (z ∷ (zs ++ y ∷ []))) (sym (append_assoc es gs fs)) (one_opened p (opened-snoc ps o))

pub opened_next : (C : Context) (ys : List tree.LongIdAt) (i : ℕ) (y : tree.LongIdAt) (k : ℕ) (old new : List (Vid × Entry)) → i < length ys → y ≡ get_or ys i y
    → AreOpened C (map long_id_at_of (take i ys)) old → y.long.qualifiers.items ≡ [] → lookup (nat_eq y.long.id) C.structures ≡ Some k → new ≡ old ++ members_of C k
    → AreOpened C (map long_id_at_of (take (i + 1) ys)) new
opened_next C ys i y k old new lt is h s b n =
    subst (λ l. AreOpened C l new) (sym (map-append long_id_at_of (take i ys) (y ∷ [])) ∙ ap (map long_id_at_of) (take-next ys i y lt is))
    (subst (AreOpened C (map long_id_at_of (take i ys) ++ long_id_at_of y ∷ [])) (sym n) (opened-snoc h (record { number = k; short = s; bound = b; is = refl })))

-- Each of what they have is in scope by a long identifier.

pub record IsMember (C : Context) (e : Entry) : Type 0 where
  pub structure : ℕ
  pub vid : Vid
  pub is : entry_in C (structure ∷ []) vid ≡ Some e

pub entry-bound : (C : Context) (q k : ℕ) (x : Vid) → lookup (nat_eq q) C.structures ≡ Some k → entry_in C (q ∷ []) x ≡ member_in C.members.items k x
entry-bound C q k x h = ap (λ (o : Option ℕ). option_and_then (λ k. member_in C.members.items k x) o) h

each-member : (C : Context) (q k : ℕ) (es : List (Vid × Entry)) → lookup (nat_eq q) C.structures ≡ Some k
    → AllByRecursion (λ (e : Vid × Entry). member_in C.members.items k e.0 ≡ Some e.1) es → AllByRecursion (λ (e : Vid × Entry). IsMember C e.1) es
each-member C q k [] b h = tt
each-member C q k (e ∷ es) b h = (record { structure = q; vid = e.0; is = entry-bound C q k e.0 b ∙ h.0 }, each-member C q k es b h.1)

pub all_members : {C : Context} {ys : List LongIdAt} {es : List (Vid × Entry)} → AreOpened C ys es → AllByRecursion (λ (e : Vid × Entry). IsMember C e.1) es
all_members none_opened = tt
all_members {C = C} (one_opened {y = y} {es = es} {fs = fs} o h) =
    all-append (λ (e : Vid × Entry). IsMember C e.1) es fs
    (subst (AllByRecursion (λ (e : Vid × Entry). IsMember C e.1)) (sym o.is)
    (each-member C y.long.id o.number (members_of C o.number) o.bound (each-found (member_in C.members.items o.number) (contents_at C o.number)))) (all_members h)
