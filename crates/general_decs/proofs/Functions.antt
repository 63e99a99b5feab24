-- Functions of a group in scope of one another.
use Rattle.std.proofs.Common.{◌≡◌, ◌⊎◌, inl, inr, ◌<◌, ◌+◌, ◌&&◌, ◌||◌, ℕ, Bool, true, false, not, cond, List, [], ◌∷◌, ◌++◌, map, Option, Some, None, Vec, Global, refl, sym, ap, ap₂, subst, ◌∙◌, arith}
use Rattle.std.specs.Prelude.{reverse, option_map}
use Rattle.std.specs.List.{AllByRecursion}
use Rattle.std.specs.Map.{lookup}
use Rattle.std.specs.Option.{option_or}
use Rattle.std.proofs.lemmas.Bool.{and_parts, eq-eqb}
use Rattle.std.proofs.lemmas.List.{map-append, reverse-append}
use Rattle.ty_core.specs.Types.{Typ}
use Rattle.ty_basis.specs.Types.{function_type}
use Rattle.sml_tree.specs.BareTree as bare
use Rattle.sml_tree.specs.TreeOf.{RuleOf, binds_of}
use Rattle.sml_tree.specs.declared.ident.Vid.{Vid}
use Rattle.sml_tree.specs.declared.ident.Vid.TheVariants.{Named, Equals, Fresh}
use Rattle.core_rules.specs.Choices.{Choices, no_choice, both, settled}
use Rattle.core_rules.specs.Objects.{Over, value_in}
use Rattle.core_rules.specs.Restrictions.{distinct}
use Rattle.core_rules.specs.Typing.{Bound, is_matched_in, together}
use Rattle.core_rules.specs.Words.{same_vid, is_in}
use Rattle.core_rules.proofs.LookUps.{vid-tells}
use Rattle.ir_poly.specs.Prog as prog
use Rattle.ir_poly.specs.TestsChecked.{Known, Knowns, own}
use Rattle.ir_poly.specs.TestsChecked as checked
use Rattle.ir_poly.specs.Types.{over}
use Rattle.ir_poly.proofs.ReplaceLemmas.{replace-agree}
use Rattle.core_elab.specs.Scopes.{variable, denotes_in, inside_in, plus_scope}
use Rattle.prog_tree.specs.TreeOf.{fun_of, funs_by}
use Rattle.prog_tree.specs.declared.tree.Function.{Function}
use Rattle.elab_typed.specs.Contexts.{Around, KeptValues, generic, kept_values, single, singles, values_under, with_bound}
use Rattle.elab_typed.specs.Elaborates.{FunsElab, a_fun_elab, no_funs_elab}
use Rattle.elab_typed.specs.Instances.{as_typed}
use Rattle.elab_typed.specs.Numbers.{type_as}
use Rattle.elab_typed.proofs.Names.{over-as}
use Rattle.prog_tree.specs.declared.tree.Binding.{Binding}
use Rattle.prog_tree.specs.declared.tree.Rule.{Rule}
use Rattle.elab_types.specs.declared.scope.TypeScope.{TypeScope}
use Rattle.elab_state.specs.States.{dead_level}
use Rattle.elab_state.specs.declared.state.State.{State}
use Rattle.elab_steps.specs.Growing.{Grows, IsWithin}
use Rattle.elab_steps.specs.World.{World, Comes, type_of}
use Rattle.elab_steps.proofs.Growing.{comes_before, grows_on, grows_same}
use Rattle.elab_context.specs.Entries.{entry_in, is_free, limit_of, last_of}
use Rattle.elab_context.specs.Numbered.{IsNumbered}
use Rattle.elab_context.specs.Telling.{IsFit, IsInUse, Tells, denotes_of, kept_of, known_of}
use Rattle.elab_context.specs.declared.context.Context.{Context}
use Rattle.elab_context.specs.declared.entry.Entry.{Entry}
use Rattle.elab_context.specs.declared.entry.Entry.TheVariants.{Own}
use Rattle.vid_scope.specs.Entries.{entry_of}
use Rattle.rec_groups.specs.of_pat_elab.Elaborated.{AreVariables, HasVariable, bound_of, scope_of}
use Rattle.rec_groups.specs.of_pat_elab.declared.bound.BoundVariable.{BoundVariable}
use Rattle.rec_groups.proofs.of_pat_elab.Forms.{all-later, onto-plus}
use Rattle.rec_groups.proofs.of_pat_elab.Leaves.{binds, within-names}
use Rattle.rec_groups.specs.of_exp_forms.Rules.{vids_of}
use Rattle.rec_groups.proofs.of_exp_forms.Calling.{written-as}
use Rattle.rec_groups.proofs.of_exp_forms.Entering.{number-known}
use Rattle.rec_groups.proofs.of_exp_forms.JoiningRules.{vids-bound}
use Rattle.rec_groups.proofs.of_exp_forms.Within.{denotes-of, inside-onto, latest, lookup-of, or-none}
use Rattle.rec_groups.proofs.of_dec_forms.Knowing.{untyped-bound}
use Rattle.rec_groups.proofs.of_dec_forms.Listed.{last-among}
use Rattle.rec_groups.proofs.of_dec_forms.Telling.{AreFurther, entry-among, tells_further}
use Rattle.rec_groups.specs.Functions.{AreWritten, EachFunction, no_function, one_function}
use Rattle.rec_groups.specs.Heads.{AreReserved, IsFitHead, IsReserved, falling, head_bound, head_vids, none_reserved, one_reserved, own_entries, rising, with_own}
use Rattle.rec_groups.specs.declared.head.Head.{Head}
use Rattle.rec_groups.proofs.Entering.{all-joined, all-reversed}
use Rattle.rec_groups.proofs.Reserving.{reverse-last}
use Rattle.rec_groups.proofs.Adding.{no_functions}
use Rattle.general_decs.specs.Whole.{IsDeclared}
use Rattle.general_decs.specs.Inside.{AreInside}
use Rattle.general_decs.proofs.Marks.{IsMarked}

-- the functions elaborate

abbrev pub fun_choices : List Choices → Choices
fun_choices [] = no_choice
fun_choices (c ∷ cs) = both (settled (both no_choice c)) (fun_choices cs)

-- what each binds
abbrev pub head_bounds : World → List Head → List Bound
head_bounds W = map (λ h. bound_of W (reverse h.variables.items))

-- of each function: its head fits, and binds its variables, and its type is written
pub record IsReady (W : World) (A : Around) (a : bare.Pat) (h : Head) (written : Typ) : Type 0 where
  pub fit : IsFitHead A a (type_of W h.ty)
  pub binds : head_bound (type_of W h.ty) (head_vids a) ≡ bound_of W (reverse h.variables.items)
  pub type : written ≡ as_typed A (type_of W h.ty)

abbrev pub AreReady : World → Around → List RuleOf → List (Vec ℕ Global × ℕ × prog.Fun) → List Head → Type 0
AreReady W A [] [] [] = Unit {0}
AreReady W A [] [] (h ∷ hs) = ⊥
AreReady W A [] (f ∷ fs) hs = ⊥
AreReady W A (r ∷ rs) [] hs = ⊥
AreReady W A (r ∷ rs) (f ∷ fs) [] = ⊥
AreReady W A (r ∷ rs) (f ∷ fs) (h ∷ hs) = IsReady W A r.pat h (W.reading.type f.1) × AreReady W A rs fs hs

module _ (W : World) (A : Around) (k : ℕ) where
  pub functions-do : {rs : List RuleOf} {fs : List (Vec ℕ Global × ℕ × prog.Fun)} {hs : List Head} {cs : List Choices} → EachFunction W A k rs fs hs cs → AreReady W A rs fs hs
      → FunsElab W.table A k (binds_of rs) (funs_by W.reading.type fs) (head_bounds W hs) (fun_choices cs)
  functions-do no_function r = no_funs_elab
  functions-do (one_function {r = r} {rs = rs} {q = q} {rules = rules} {f = f} {fs = fs} {h = h} {hs = hs} {t = t} {u = u} {c = c} {cs = cs} e head ty a b x rest) ready =
      let vs = bound_of W (reverse h.variables.items) in
      let elab = subst (λ l. Rattle.elab_typed.specs.Elaborates.HeadElab A r.pat (type_of W h.ty) l) ready.0.binds (head ready.0.fit) in
      let typed = subst (λ z. Rattle.elab_typed.specs.Elaborates.HeadElab A r.pat z vs) ty elab in
      let in-use : over A.parameters (as_typed A (function_type t u)) ≡ true =
      over-as A.number A.parameters (function_type t u) ∙ ap₂ (λ x y. x && (y && true)) a.parameters b.parameters in
      let made = a_fun_elab r.place q f.0.items typed in-use x (functions-do rest ready.1) in
      subst (λ z. FunsElab W.table A k (bare.bind r.place r.pat z (binds_of rs)) (funs_by W.reading.type (f ∷ fs)) (vs ∷ head_bounds W hs) (fun_choices (c ∷ cs))) (sym e)
      (subst (λ z. FunsElab W.table A k (bare.bind r.place r.pat (bare.fn q rules) (binds_of rs)) (prog.a_fun f.0.items z f.2 (funs_by W.reading.type fs)) (vs ∷ head_bounds W hs) (fun_choices (c ∷ cs)))
      (sym (ready.0.type ∙ ap (as_typed A) ty)) made)

pub together-heads : (W : World) (hs : List Head) → together (head_bounds W hs) ≡ bound_of W (falling hs)
together-heads W [] = refl
together-heads W (h ∷ hs) =
    ap (λ l. bound_of W (reverse h.variables.items) ++ l) (together-heads W hs) ∙ sym (map-append (λ (b : BoundVariable). (b.vid, type_of W b.ty)) (reverse h.variables.items) (falling hs))

-- in the order of their numbers, and the other way round

append-nil : {A : Type 0} (xs : List A) → xs ++ [] ≡ xs
append-nil [] = refl
append-nil (x ∷ xs) = ap (λ l. x ∷ l) (append-nil xs)

reverse-twice : {A : Type 0} (xs : List A) → reverse (reverse xs) ≡ xs
reverse-twice [] = refl
reverse-twice (x ∷ xs) = ap reverse (reverse-append (x ∷ []) xs) ∙ reverse-last (reverse xs) x ∙ ap (λ l. x ∷ l) (reverse-twice xs)

pub rising-falling : (hs : List Head) → rising hs ≡ reverse (falling hs)
rising-falling [] = refl
rising-falling (h ∷ hs) =
    ap₂ (λ a b. a ++ b) (rising-falling hs) (sym (reverse-twice h.variables.items)) ∙ sym (reverse-append (reverse h.variables.items) (falling hs))

-- the latest where none is bound twice

latest-both : (bs cs : List BoundVariable) (x : Vid) → latest (bs ++ cs) x ≡ option_or (latest cs x) (latest bs x)
latest-both [] cs x = or-none (latest cs x)
latest-both (b ∷ bs) cs x = ap (λ o. option_or o (cond (same_vid x b.vid) (Some b) None)) (latest-both bs cs x) ∙ or-or (latest cs x) (latest bs x) (cond (same_vid x b.vid) (Some b) None)
  where
    or-or : {A : Type 0} (a b c : Option A) → option_or (option_or a b) c ≡ option_or a (option_or b c)
    or-or None b c = refl
    or-or (Some a) b c = refl

absent : (bs : List BoundVariable) (x : Vid) → is_in same_vid x (vids_of bs) ≡ false → latest bs x ≡ None
absent [] x h = refl
absent (b ∷ bs) x h = by (same_vid x b.vid) h (absent bs x)
  where
    by : (c : Bool) → (c || is_in same_vid x (vids_of bs)) ≡ false → (is_in same_vid x (vids_of bs) ≡ false → latest bs x ≡ None) → option_or (latest bs x) (cond c (Some b) None) ≡ None
    by true h k = cc
    by false h k = ap (λ o. option_or o None) (k h)

not-so : (b : Bool) → not b ≡ true → b ≡ false
not-so true h = cc
not-so false h = refl

pub latest-reversed : (bs : List BoundVariable) (x : Vid) → distinct same_vid (vids_of bs) ≡ true → latest (reverse bs) x ≡ latest bs x
latest-reversed [] x d = refl
latest-reversed (b ∷ bs) x d =
    let p = and_parts (not (is_in same_vid b.vid (vids_of bs))) (distinct same_vid (vids_of bs)) d in
    ap (λ l. latest l x) (reverse-append (b ∷ []) bs) ∙ latest-both (reverse bs) (b ∷ []) x
    ∙ ap (option_or (cond (same_vid x b.vid) (Some b) None)) (latest-reversed bs x p.1)
    ∙ by (vid-tells x b.vid) (absent bs b.vid (not-so (is_in same_vid b.vid (vids_of bs)) p.0))
  where
    by : ((same_vid x b.vid ≡ true) × (x ≡ b.vid)) ⊎ (same_vid x b.vid ≡ false) → latest bs b.vid ≡ None
        → option_or (cond (same_vid x b.vid) (Some b) None) (latest bs x) ≡ option_or (latest bs x) (cond (same_vid x b.vid) (Some b) None)
    by (inl q) n =
        ap₂ (λ c o. option_or (cond c (Some b) None) o) q.0 (ap (latest bs) q.1 ∙ n) ∙ sym (ap₂ (λ c o. option_or o (cond c (Some b) None)) q.0 (ap (latest bs) q.1 ∙ n))
    by (inr q) n =
        ap (λ c. option_or (cond c (Some b) None) (latest bs x)) q ∙ or-none (latest bs x) ∙ sym (ap (λ c. option_or (latest bs x) (cond c (Some b) None)) q)

-- behind others
pub latest-rising : (bs : List BoundVariable) (hs : List Head) (x : Vid) → distinct same_vid (vids_of (falling hs)) ≡ true → latest (bs ++ rising hs) x ≡ latest (bs ++ falling hs) x
latest-rising bs hs x d =
    latest-both bs (rising hs) x ∙ ap (λ o. option_or o (latest bs x)) (ap (λ l. latest l x) (rising-falling hs) ∙ latest-reversed (falling hs) x d) ∙ sym (latest-both bs (falling hs) x)

-- entries of functions

last-own : (bs : List BoundVariable) (x : Vid) → last_of (own_entries bs) x ≡ option_map (λ b. Own b.ty b.number) (latest bs x)
last-own [] x = refl
last-own (b ∷ bs) x = by (latest bs x) (last_of (own_entries bs) x) (same_vid x b.vid) (last-own bs x)
  where
    by : (o : Option BoundVariable) (p : Option Entry) (c : Bool) → p ≡ option_map (λ b. Own b.ty b.number) o
        → option_or p (cond c (Some (Own b.ty b.number)) None) ≡ option_map (λ b. Own b.ty b.number) (option_or o (cond c (Some b) None))
    by None p true e = ap (λ o. option_or o (Some (Own b.ty b.number))) e
    by None p false e = ap (λ o. option_or o None) e
    by (Some a) p c e = ap (λ o. option_or o (cond c (Some (Own b.ty b.number)) None)) e

-- an identifier is bound anew
abbrev IsAnew : List BoundVariable → Vid → Type 0
IsAnew bs x = (o : Option Entry) → is_free (option_or (option_map (λ b. Own b.ty b.number) (latest bs x)) o) ≡ true

anew-behind : (bs cs : List BoundVariable) (x : Vid) → IsAnew cs x → IsAnew (bs ++ cs) x
anew-behind bs cs x h o = ap (λ p. is_free (option_or (option_map (λ (b : BoundVariable). Own b.ty b.number) p) o)) (latest-both bs cs x) ∙ by (latest cs x) refl
  where
    by : (p : Option BoundVariable) → latest cs x ≡ p → is_free (option_or (option_map (λ (b : BoundVariable). Own b.ty b.number) (option_or p (latest bs x))) o) ≡ true
    by (Some b) e = refl
    by None e = absurd (no (sym (ap (λ p. is_free (option_or (option_map (λ (b : BoundVariable). Own b.ty b.number) p) (Some (Rattle.elab_context.specs.declared.entry.Entry.TheVariants.Reference 0)))) e) ∙ h (Some (Rattle.elab_context.specs.declared.entry.Entry.TheVariants.Reference 0))))
      where
        no : false ≡ true → ⊥
        no q = cc

anew-before : (bs cs : List BoundVariable) (x : Vid) → IsAnew bs x → IsAnew (bs ++ cs) x
anew-before bs cs x h o = ap (λ p. is_free (option_or (option_map (λ (b : BoundVariable). Own b.ty b.number) p) o)) (latest-both bs cs x) ∙ by (latest cs x)
  where
    by : (p : Option BoundVariable) → is_free (option_or (option_map (λ (b : BoundVariable). Own b.ty b.number) (option_or p (latest bs x))) o) ≡ true
    by (Some b) = refl
    by None = h o

same-self : (x : Vid) → same_vid x x ≡ true
same-self (Named x) = eq-eqb x x refl
same-self (Fresh k) = eq-eqb k k refl
same-self Equals = refl

all-anew : (bs : List BoundVariable) → AllByRecursion (λ b. IsAnew bs b.vid) bs
all-anew [] = tt
all-anew (b ∷ bs) = (first, rest bs (all-anew bs))
  where
    first : IsAnew (b ∷ bs) b.vid
    first o = by (latest bs b.vid) (same_vid b.vid b.vid) (same-self b.vid)
      where
        by : (p : Option BoundVariable) (c : Bool) → c ≡ true → is_free (option_or (option_map (λ (b : BoundVariable). Own b.ty b.number) (option_or p (cond c (Some b) None))) o) ≡ true
        by (Some a) c q = refl
        by None true q = refl
        by None false q = cc

    rest : (cs : List BoundVariable) → AllByRecursion (λ c. IsAnew bs c.vid) cs → AllByRecursion (λ c. IsAnew (b ∷ bs) c.vid) cs
    rest [] h = tt
    rest (c ∷ cs) h = (anew-behind (b ∷ []) bs c.vid h.0, rest cs h.1)

all-to : {A : Type 0} (P Q : A → Type 0) (xs : List A) → ((x : A) → P x → Q x) → AllByRecursion P xs → AllByRecursion Q xs
all-to P Q [] f h = tt
all-to P Q (x ∷ xs) f h = (f x h.0, all-to P Q xs f h.1)

all-two : {A : Type 0} (P Q R : A → Type 0) (xs : List A) → ((x : A) → P x → Q x → R x) → AllByRecursion P xs → AllByRecursion Q xs → AllByRecursion R xs
all-two P Q R [] f h k = tt
all-two P Q R (x ∷ xs) f h k = (f x h.0 k.0, all-two P Q R xs f h.1 k.1)

vids-all : (P : Vid → Type 0) (bs : List BoundVariable) → AllByRecursion (λ b. P b.vid) bs → AllByRecursion P (vids_of bs)
vids-all P [] h = tt
vids-all P (b ∷ bs) h = (h.0, vids-all P bs h.1)

heads-anew : (hs : List Head) → AllByRecursion (λ h. AllByRecursion (λ b. IsAnew (rising hs) b.vid) h.variables.items) hs
heads-anew [] = tt
heads-anew (h ∷ hs) = (
  all-to (λ b. IsAnew h.variables.items b.vid) (λ b. IsAnew (rising hs ++ h.variables.items) b.vid) h.variables.items (λ b k. anew-behind (rising hs) h.variables.items b.vid k) (all-anew h.variables.items),
  all-to (λ g. AllByRecursion (λ b. IsAnew (rising hs) b.vid) g.variables.items) (λ g. AllByRecursion (λ b. IsAnew (rising hs ++ h.variables.items) b.vid) g.variables.items) hs
      (λ g k.
      all-to (λ b. IsAnew (rising hs) b.vid) (λ b. IsAnew (rising hs ++ h.variables.items) b.vid) g.variables.items (λ b l. anew-before (rising hs) h.variables.items b.vid l) k) (heads-anew hs),
)

head-binds : (W : World) (ty : ℕ) (bs : List BoundVariable) → AllByRecursion (λ b. b.ty ≡ ty) bs → head_bound (type_of W ty) (vids_of bs) ≡ bound_of W bs
head-binds W ty [] h = refl
head-binds W ty (b ∷ bs) h = ap₂ (λ (t : ℕ) (l : Bound). (b.vid, type_of W t) ∷ l) (sym h.0) (head-binds W ty bs h.1)

-- where the group is in scope

module _ (W : World) (D : Context) (A : Around) (all : List Head) (t : Tells (with_own D all) W A) where
  abbrev E : Context
  E = with_own D all

  free-there : (x : Vid) → IsAnew (rising all) x → is_free (entry_in E [] x) ≡ true
  free-there x h =
      ap is_free (entry-among D.values (own_entries (rising all)) x ∙ ap (λ o. option_or o (entry_of D.values x)) (last-own (rising all) x)) ∙ h (entry_of D.values x)

  ready-one : (M T P : State) (a : bare.Pat) (h : Head) (written : Typ) → IsReserved M D a T h → Comes T W → written ≡ type_as (W.naming E.naming) (type_of W h.ty)
      → AllByRecursion (λ b. IsAnew (rising all) b.vid) h.variables.items → IsReady W A a h written
  ready-one M T P a h written o c e anew =
      let r = o.reserves in
      let vs = reverse h.variables.items in
      let names : Over A.names (type_of W h.ty) = within-names E W A h.ty t (o.within W c) in
      let new : AllByRecursion (IsAnew (rising all)) (head_vids a) =
      subst (AllByRecursion (IsAnew (rising all))) r.vids (vids-all (IsAnew (rising all)) vs (all-reversed (λ b. IsAnew (rising all) b.vid) h.variables.items anew)) in
      record {
        fit = record {
          names = names;
          unmatched =
              all-two (IsAnew (rising all)) (λ x. Rattle.core_rules.specs.Restrictions.is_kept x ≡ false) (λ x. is_matched_in (value_in (generic A).env x) ≡ false) (head_vids a)
              (λ x n k. (binds E W A x (type_of W h.ty) t (free-there x n) k names).unmatched) new r.unkept;
          unkept = r.unkept;
          shape = r.shape;
        };
        binds = ap (head_bound (type_of W h.ty)) (sym r.vids) ∙ head-binds W h.ty vs (all-reversed (λ b. b.ty ≡ h.ty) h.variables.items r.typed);
        type = e ∙ written-as E W A (type_of W h.ty) t;
      }

  ready-all : {M H : State} (P : State) (gs : List RuleOf) (fs : List (Vec ℕ Global × ℕ × Function)) (hs : List Head) → AreReserved M D (map (λ r. r.pat) gs) H hs → AreWritten E P gs fs hs
      → Comes P W → Comes H W → AllByRecursion (λ h. AllByRecursion (λ b. IsAnew (rising all) b.vid) h.variables.items) hs → AreReady W A gs (map (fun_of W.reading) fs) hs
  ready-all P [] [] [] none_reserved k cp ch n = tt
  ready-all P [] [] (h ∷ hs) r k cp ch n = absurd k
  ready-all P [] (f ∷ fs) hs r k cp ch n = absurd k
  ready-all P (g ∷ gs) [] hs r k cp ch n = absurd k
  ready-all P (g ∷ gs) (f ∷ fs) [] r k cp ch n = absurd k
  ready-all {H = H} P (g ∷ gs) (f ∷ fs) (h ∷ hs) (one_reserved {M = N} r o) k cp ch n = (
    ready-one N H P g.pat h (W.reading.type f.1) o ch (k.0.type W cp) n.0,
    ready-all P gs fs hs r k.1 cp (comes_before N H W o.reserves.grows ch) n.1,
  )

  pub ready : {M H : State} (P : State) (gs : List RuleOf) (fs : List (Vec ℕ Global × ℕ × Function)) → AreReserved M D (map (λ r. r.pat) gs) H all → AreWritten E P gs fs all → Comes P W → Comes H W
      → AreReady W A gs (map (fun_of W.reading) fs) all
  ready P gs fs r k cp ch = ready-all P gs fs all r k cp ch (heads-anew all)

-- what is reserved

pub reserved-grows : {S T : State} {C : Context} {as_ : List bare.Pat} {hs : List Head} → AreReserved S C as_ T hs → Grows S T
reserved-grows {S = S} none_reserved = grows_same S
reserved-grows {S = S} {T = T} (one_reserved {M = M} r o) = grows_on S M T (reserved-grows r) o.reserves.grows

pub reserved-have : {S T : State} {C : Context} {as_ : List bare.Pat} {hs : List Head} → AreReserved S C as_ T hs → AreVariables T (falling hs)
reserved-have none_reserved = tt
reserved-have {T = T} (one_reserved {M = M} {h = h} {hs = hs} r o) =
    all-joined (HasVariable T) (reverse h.variables.items) (falling hs) (all-reversed (HasVariable T) h.variables.items o.reserves.have)
    (all-later M T o.reserves.grows (falling hs) (reserved-have r))

-- the types are in use
module _ (W : World) (D : Context) (B : Around) (t : Tells D W B) (deep : D.level < dead_level) where
  one-used : (ty : ℕ) → IsWithin W (limit_of D) ty → IsInUse B (type_of W ty)
  one-used ty w = record {
    names = within-names D W B ty t w;
    parameters = subst (λ qs. over qs (type_of W ty) ≡ true) (sym t.parameters) (w.parameters deep);
  }

  all-used : (ty : ℕ) (bs : List BoundVariable) → IsInUse B (type_of W ty) → AllByRecursion (λ b. b.ty ≡ ty) bs → AllByRecursion (λ b. IsInUse B (type_of W b.ty)) bs
  all-used ty [] u h = tt
  all-used ty (b ∷ bs) u h = (subst (λ x. IsInUse B (type_of W x)) (sym h.0) u, all-used ty bs u h.1)

  pub reserved-used : {S T : State} {as_ : List bare.Pat} {hs : List Head} → AreReserved S D as_ T hs → Comes T W → AllByRecursion (λ b. IsInUse B (type_of W b.ty)) (falling hs)
  reserved-used none_reserved c = tt
  reserved-used {T = T} (one_reserved {M = M} {h = h} {hs = hs} r o) c =
      all-joined (λ b. IsInUse B (type_of W b.ty)) (reverse h.variables.items) (falling hs)
      (all-used h.ty (reverse h.variables.items) (one-used h.ty (o.within W c)) (all-reversed (λ b. b.ty ≡ h.ty) h.variables.items o.reserves.typed))
      (reserved-used r (comes_before M T W o.reserves.grows c))

  -- what the context tells with the group in scope
  module _ (hs : List Head) (G : Knowns) (k j : ℕ) (once : distinct same_vid (vids_of (falling hs)) ≡ true) (used : AllByRecursion (λ b. IsInUse B (type_of W b.ty)) (falling hs))
      (marked : AllByRecursion (IsMarked (type_of W) B.number k j G own) (falling hs)) (older : (n : ℕ) → n < k → checked.at G n ≡ checked.at B.known n) (numbered : IsNumbered k D) where
    abbrev vs : Bound
    vs = bound_of W (falling hs)

    abbrev es : List (Vid × Entry)
    es = own_entries (rising hs)

    same-latest : (x : Vid) → latest (rising hs) x ≡ latest (falling hs) x
    same-latest x = latest-rising [] hs x once

    singles-at : (us : Bound) (x : Vid) → lookup (same_vid x) (singles us) ≡ option_map single (lookup (same_vid x) us)
    singles-at [] x = refl
    singles-at (u ∷ us) x = by (same_vid x u.0) (singles-at us x)
      where
        by : (b : Bool) → lookup (same_vid x) (singles us) ≡ option_map single (lookup (same_vid x) us)
            → cond b (Some (single u.1)) (lookup (same_vid x) (singles us)) ≡ option_map single (cond b (Some u.1) (lookup (same_vid x) us))
        by true h = refl
        by false h = h

    kept-own : (o : Option BoundVariable) → option_map single (option_map (λ b. type_of W b.ty) o) ≡ option_map (kept_of D W) (option_map (λ b. Own b.ty b.number) o)
    kept-own None = refl
    kept-own (Some b) = refl

    denotes-own : (o : Option BoundVariable) → option_map (λ b. variable b.number) o ≡ option_map denotes_of (option_map (λ b. Own b.ty b.number) o)
    denotes-own None = refl
    denotes-own (Some b) = refl

    turned : (P : BoundVariable → Type 0) → AllByRecursion P (falling hs) → AllByRecursion P (rising hs)
    turned P h = subst (AllByRecursion P) (sym (rising-falling hs)) (all-reversed P (falling hs) h)

    each-own : (P : Entry → Type 0) (bs : List BoundVariable) → AllByRecursion (λ b. P (Own b.ty b.number)) bs → AllByRecursion (λ (e : Vid × Entry). P e.1) (own_entries bs)
    each-own P [] h = tt
    each-own P (b ∷ bs) h = (h.0, each-own P bs h.1)

    abbrev IsNew : Entry → Type 0
    IsNew e = (n : ℕ) (v : Known) → known_of W B e ≡ Some (n, v) → checked.at G n ≡ Some v

    new-own : (b : BoundVariable) → IsMarked (type_of W) B.number k j G own b → IsNew (Own b.ty b.number)
    new-own b m n v q =
        let inner : (b.number, own (type_as B.number (type_of W b.ty))) ≡ (n, v) = cc in
        subst (λ i. checked.at G i ≡ Some v) (ap (λ (z : ℕ × Known). z.0) inner) (m.known ∙ ap Some (ap (λ (z : ℕ × Known). z.1) inner))

    under-same : (bs : List BoundVariable) (s f : ℕ → Typ) → AllByRecursion (λ b. IsInUse B (type_of W b.ty)) bs → Rattle.rec_groups.proofs.of_dec_forms.Over.Agree B.parameters s f
        → values_under s (singles (bound_of W bs)) ≡ values_under f (singles (bound_of W bs))
    under-same [] s f u a = refl
    under-same (b ∷ bs) s f u a =
        ap₂ (λ (x : Typ) (l : Rattle.core_rules.specs.Objects.Values).
        (b.vid, record { scheme = Rattle.core_rules.specs.Objects.monomorphic x; status = Rattle.ty_core.specs.declared.env.Status.TheVariants.Variable }) ∷ l)
        (replace-agree B.parameters (type_of W b.ty) u.0.parameters s f a) (under-same bs s f u.1 a)

    further : AreFurther D W B es (singles vs) (scope_of (rising hs)) G
    further = record {
      kept = λ x.
          singles-at vs x ∙ ap (option_map single) (lookup-of W (falling hs) x (ap (distinct same_vid) (vids-bound W (falling hs)) ∙ once)) ∙ kept-own (latest (falling hs) x)
          ∙ sym (ap (option_map (kept_of D W)) (last-own (rising hs) x ∙ ap (option_map (λ (b : BoundVariable). Own b.ty b.number)) (same-latest x)));
      denotes = λ s x.
          ap (λ z. denotes_in z x) (sym (onto-plus s (rising hs))) ∙ denotes-of s (rising hs) x
          ∙ ap (λ o. option_or o (denotes_in s x)) (denotes-own (latest (rising hs) x) ∙ sym (ap (option_map denotes_of) (last-own (rising hs) x)));
      alone = λ s q. ap (λ z. inside_in z q) (sym (onto-plus s (rising hs))) ∙ inside-onto s (rising hs) q;
      untyped = λ s x. untyped-bound s (rising hs) x;
      fit = λ x e q. last-among (IsFit D W B) es x e (each-own (IsFit D W B) (rising hs) (turned (λ b. IsInUse B (type_of W b.ty)) used)) q;
      new = λ x e n v q s.
          last-among IsNew es x e
          (each-own IsNew (rising hs) (all-to (IsMarked (type_of W) B.number k j G own) (λ b. IsNew (Own b.ty b.number)) (rising hs) new-own (turned (IsMarked (type_of W) B.number k j G own) marked))) q n v s;
      over = λ s f a. under-same (falling hs) s f used a;
      old = λ x e n v q s. older n (numbered x.qualifiers x.vid e q n (number-known W B e n v s)) ∙ t.known x e n v q s;
    }

    pub tells-group : Tells (with_own D hs) W (with_bound B vs (scope_of (rising hs)) G)
    tells-group =
        let e : B.names + 0 ≡ B.names = omega arith in
        subst (λ n. Tells (with_own D hs) W (record B { names = n; env = Rattle.elab_typed.specs.Contexts.plus_kept B.env (kept_values (singles vs)); scope = plus_scope B.scope (scope_of (rising hs)); known = G })) e
        (tells_further D W B es (singles vs) (scope_of (rising hs)) G t further)

-- a whole declaration inside

pub declared-grows : (M N : State) (C : Context) (s : TypeScope) (rs gs : List RuleOf) (bs : List BoundVariable) (fs : List Bool) (binds : List (Binding × Rule))
    (funs : List (Vec ℕ Global × ℕ × Function)) → IsDeclared M C s rs gs N bs fs binds funs → Grows M N
declared-grows M N C s rs gs bs fs binds funs h =
    grows_on M h.behind N (reserved-grows h.reserved) (grows_on h.behind h.between N h.inside.grows h.functions.grows)

pub declared-have : (M N : State) (C : Context) (s : TypeScope) (rs gs : List RuleOf) (bs : List BoundVariable) (fs : List Bool) (binds : List (Binding × Rule))
    (funs : List (Vec ℕ Global × ℕ × Function)) → IsDeclared M C s rs gs N bs fs binds funs → AreVariables N bs
declared-have M N C s rs gs bs fs binds funs h =
    let xn = h.functions.grows in
    subst (AreVariables N) (sym h.together)
    (all-joined (HasVariable N) h.variables (falling h.heads) (all-later h.between N xn h.variables h.inside.have)
    (all-later h.behind N (grows_on h.behind h.between N h.inside.grows xn) (falling h.heads) (reserved-have h.reserved)))

-- without functions
pub without_functions : (M N : State) (C : Context) (s : TypeScope) (rs : List RuleOf) (bs : List BoundVariable) (fs : List Bool) (binds : List (Binding × Rule)) → AreInside M C s rs N bs fs binds
    → IsDeclared M C s rs [] N bs fs binds []
without_functions M N C s rs bs fs binds h = record {
  heads = [];
  variables = bs;
  marks = fs;
  behind = M;
  between = N;
  reserved = none_reserved;
  inside = h;
  functions = no_functions N (with_own (Rattle.general_vals.specs.of_general_worlds.Inner.deeper C s) []);
  together = sym (append-nil bs);
  flagged = sym (append-nil fs);
}
