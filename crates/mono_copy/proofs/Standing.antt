-- Types stand for parameters while a copy is made, and are taken back then.
use Rattle.std.proofs.Common.{◌≡◌, ◌⊎◌, inl, inr, ◌<◌, ◌≤◌, ◌-◌, ℕ, Bool, List, [], ◌∷◌, ◌++◌, map, drop, length, get_or, nat_eq, refl, sym, ap, ap₂, subst, ◌∙◌, arith, length-append}
use Rattle.mlc_runs.specs.Passes.{greatest_expansion}
use Rattle.indexmap.specs.IndexMap.{get}
use Rattle.ty_core.specs.Types.{Typ}
use Rattle.ty_core.specs.Statics.{replace}
use Rattle.ty_core.specs.declared.scheme.Quantified.{Quantified}
use Rattle.ty_table.specs.TypeAt.{type_at}
use Rattle.ir_plain.specs.Tree.{Funs, no_funs, fun}
use Rattle.ir_poly.specs.Tests.{poly}
use Rattle.ir_poly.specs.Types.{changed}
use Rattle.ir_tables.specs.Tables.{strings_of, parameters_of, parameters_at}
use Rattle.ir_tables.specs.declared.tables.Tables.{Tables}
use Rattle.plain_tree.specs.declared.tree.Binding.{Binding}
use Rattle.plain_tree.specs.declared.tree.Function.{Function}
use Rattle.plain_tree.specs.declared.tree.Step.{Step}
use Rattle.monomorphise.specs.Monomorphise.{Groups, copy_of, fun_vars, group_at, funs_copy}
use Rattle.mono_close.specs.Closing.{standing, AreRight}
use Rattle.mono_close.proofs.Tables.{held-longer, length-longer, right-longer, right-again}
use Rattle.mono_names.specs.Named.{types_named}
use Rattle.mono_words.specs.Words.{Sign, function_sign, let_sign, group_sign, spell_heads}
use Rattle.mono_words.specs.Made.{bodies_made, group_made}
use Rattle.mono_words.specs.Seen.{Seen, with_sign, made}
use Rattle.mono_parts.specs.of_mono_state.Seen.{Held, held_of, Longer, Later, types_in, name_in, groups_in, seen, sign_of}
use Rattle.mono_parts.specs.of_mono_state.Going.{IsHeld, IsOpen, IsRight, Goes, Stands, slots_for}
use Rattle.mono_parts.specs.of_mono_state.declared.copier.Copier.{Copier}
use Rattle.mono_parts.specs.of_mono_state.declared.word.Word.TheVariants as word
use Rattle.mono_parts.proofs.of_mono_state.Growing.{sooner, same-longer, on-longer, still-own, got-or}
use Rattle.mono_parts.proofs.of_mono_state.Going.{goes-then}
use Rattle.mono_parts.proofs.of_mono_state.Naming.{list-at}
use Rattle.mono_parts.proofs.of_mono_state.Standing.{stands}
use Rattle.mono_parts.specs.Steps.{functions_in, with_own}
use Rattle.mono_copy.specs.declared.parts.Before.{Before}
use Rattle.mono_copy.specs.declared.parts.Before.TheVariants.{Same, Closed}
use Rattle.mono_copy.specs.Puts.{Change, IsReady, Puts, Passes}
use Rattle.mono_copy.specs.Standing.{StandsFor, IsBefore, stood_back}
use Rattle.mono_copy.specs.Changes.{step_in, acted, binding_made, operation_put, bodies_put, binding_put, group_put}
use Rattle.mono_copy.proofs.Changing.{passes-more}

-- what is put in other groups, and with other types for variables
pub record Under (t : Tables) (old begun : Copier) (G : Held → Groups → Groups) (S : Held → (ℕ → Typ) → ℕ → Typ) : Type 0 where
  pub longer : Longer (held_of old) (held_of begun)
  pub groups : (H : Held) → Later (held_of begun) H → groups_in H begun.own ≡ G H (groups_in H old.own)
  pub types : (H : Held) → Later (held_of begun) H → standing H.types begun.slots ≡ S H (standing H.types old.slots)
  pub same : (H : Held) → seen (strings_of t) H begun ≡ seen (strings_of t) H old

abbrev pub under : (Held → Groups → Groups) → (Held → (ℕ → Typ) → ℕ → Typ) → Change → Change
under G S F H g s n = F H (G H g) (S H s) n

module _ {t : Tables} {old begun : Copier} {G : Held → Groups → Groups} {S : Held → (ℕ → Typ) → ℕ → Typ} (u : Under t old begun G S) where
  pub under-at : (F : Change) (H : Held) → Later (held_of begun) H
      → F H (groups_in H begun.own) (standing H.types begun.slots) (seen (strings_of t) H begun) ≡ under G S F H (groups_in H old.own) (standing H.types old.slots) (seen (strings_of t) H old)
  under-at F H l = λ i. F H (u.groups H l i) (u.types H l i) (u.same H i)

  pub under-sees : {mid : Copier} (F : Change) → Puts t F begun mid → (H : Held) → Later (held_of mid) H
      → seen (strings_of t) H mid ≡ under G S F H (groups_in H old.own) (standing H.types old.slots) (seen (strings_of t) H old)
  under-sees F p H l = p.sees H l ∙ under-at F H (sooner p.goes.longer l)

  pub under-passes : (F : Change) → Passes t F begun → Passes t (under G S F) old
  under-passes F p = record {
    tables = p.tables;
    later = sooner u.longer p.later;
    past = subst (λ (n : Seen). greatest_expansion < n.nodes) (under-at F p.tables p.later) p.past;
  }

-- the types of a list stand for parameters

none-stood : (ps : List Quantified) (ns : List ℕ) → ps ≡ [] → slots_for ps ns ≡ []
none-stood ps ns e = ap (λ qs. slots_for qs ns) e

pub stands-none : (ps : List Quantified) (list : ℕ) (c : Copier) → IsOpen c → ps ≡ [] → StandsFor ps list c c
stands-none ps list c o e = record {
  open_ = o;
  right = λ sources r. r;
  slots = ap (λ l. l ++ c.slots) (sym (none-stood ps (get_or c.lists list []) e));
  own = refl;
  longer = same-longer (held_of c);
}

pub stands-some : (ps : List Quantified) (list : ℕ) (old new : Copier) → Stands ps list old new → StandsFor ps list old new
stands-some ps list old new s = record { open_ = s.open_; right = λ sources r. s.right sources; slots = s.slots; own = s.own; longer = s.longer }

types-stand : (old begun : Copier) (ps : List Quantified) (list : ℕ) → StandsFor ps list old begun → IsHeld (held_of old) list → (H : Held) → Later (held_of begun) H
    → standing H.types begun.slots ≡ changed ps (types_in H list) (standing H.types old.slots)
types-stand old begun ps list s h H l =
    let ns = get_or old.lists list [] in
    let e : types_named H.types ns ≡ types_in H list =
    ap (types_named H.types) (got-or old.lists list [] h.numbers h.there) ∙ sym (list-at list h.numbers (sooner s.longer l) h.there) in
    ap (standing H.types) s.slots ∙ stands H.types ps ns old.slots ∙ ap (λ ts. changed ps ts (standing H.types old.slots)) e

pub under-binding : (t : Tables) (old begun : Copier) (ps : List Quantified) (list : ℕ) → StandsFor ps list old begun → IsHeld (held_of old) list
    → ((ss : List (List ℕ)) (H : Held) → seen ss H begun ≡ seen ss H old) → Under t old begun (λ H g. g) (λ H s. changed ps (types_in H list) s)
under-binding t old begun ps list s h same = record {
  longer = s.longer;
  groups = λ H l. ap (groups_in H) s.own;
  types = types-stand old begun ps list s h;
  same = same (strings_of t);
}

own-groups : (H : Held) (fs : Funs poly) (k : ℕ) (own : List (ℕ × ℕ)) → groups_in H (with_own (fun_vars fs) k own) ≡ group_at fs (types_in H k) (groups_in H own)
own-groups H no_funs k own = refl
own-groups H (fun x u f fs) k own = ap (λ l. (x, types_in H k) ∷ l) (own-groups H fs k own)

pub under-group : (t : Tables) (old stood begun : Copier) (ps : List Quantified) (list : ℕ) (fs : Funs poly) → StandsFor ps list old stood → IsHeld (held_of old) list
    → ((ss : List (List ℕ)) (H : Held) → seen ss H stood ≡ seen ss H old) → begun ≡ record stood { own = with_own (fun_vars fs) list stood.own }
    → Under t old begun (λ H g. group_at fs (types_in H list) g) (λ H s. changed ps (types_in H list) s)
under-group t old stood begun ps list fs s h same e =
    subst (λ c. Under t old c (λ H g. group_at fs (types_in H list) g) (λ H s. changed ps (types_in H list) s)) (sym e)
    (record {
      longer = s.longer;
      groups = λ H l. own-groups H fs list stood.own ∙ ap (λ o. group_at fs (types_in H list) (groups_in H o)) s.own;
      types = types-stand old stood ps list s h;
      same = same (strings_of t);
    })

-- and are taken back

drop-front : {A : Type 0} (xs ys : List A) → drop (length xs) (xs ++ ys) ≡ ys
drop-front [] ys = refl
drop-front (x ∷ xs) ys = drop-front xs ys

pub taken-back : {A : Type 0} (now front back : List A) (n : ℕ) → now ≡ front ++ back → n ≡ length back → drop (length now - n) now ≡ back
taken-back now front back n e k =
    let a = length-append front back in
    let b : length now ≡ length (front ++ back) = ap length e in
    let c : length now - n ≡ length front = omega (arith, a, b, k) in
    ap₂ drop c e ∙ drop-front front back

pub own-front : (vs : List ℕ) (k : ℕ) (own : List (ℕ × ℕ)) → with_own vs k own ≡ map (λ x. (x, k)) vs ++ own
own-front [] k own = refl
own-front (x ∷ vs) k own = ap (λ l. (x, k) ∷ l) (own-front vs k own)

-- where it stood before, with what was made since
abbrev pub back_at : Copier → Copier → Copier → Copier
back_at old now back = record now { slots = old.slots; own = old.own; known = back.known }

-- what was closed before comes back, or, where nothing was put for parameters, what is closed now stays
pub record IsBack (old now back : Copier) : Type 0 where
  pub same : back ≡ back_at old now back
  pub known : (back.known ≡ old.known) ⊎ ((back.known ≡ now.known) × (now.slots ≡ old.slots))

pub own-stood : (n : ℕ) (before : Before) (now : Copier) → (stood_back n before now).own ≡ now.own
own-stood n Same now = refl
own-stood n (Closed known) now = refl

-- with these functions of groups
pub is-back : (old now mid : Copier) (ps : List Quantified) (ns : List ℕ) (n : ℕ) (before : Before) (own : List (ℕ × ℕ)) → IsBefore ps old before
    → now.slots ≡ slots_for ps ns ++ old.slots → n ≡ length old.slots → own ≡ old.own → mid ≡ stood_back n before now → IsBack old now (record mid { own = own })
is-back old now mid ps ns n Same own b s e w r =
    let t : now.slots ≡ old.slots = s ∙ ap (λ l. l ++ old.slots) (none-stood ps ns b) in
    record {
      same = ap (λ (k : Copier). record k { own = own }) r ∙ (λ i. record now { slots = t i; own = w i; known = sym (ap (λ (k : Copier). k.known) r) i });
      known = inr (ap (λ (k : Copier). k.known) r, t);
    }
is-back old now mid ps ns n (Closed known) own b s e w r = record {
  same = ap (λ (k : Copier). record k { own = own }) r
      ∙ (λ i. record now { slots = taken-back now.slots (slots_for ps ns) old.slots n s e i; own = w i; known = sym (ap (λ (k : Copier). k.known) r) i });
  known = inl (ap (λ (k : Copier). k.known) r ∙ b);
}

right-back : (sources : List Typ) (old now back : Copier) → IsOpen old → Longer (held_of old) (held_of now) → IsRight sources now
    → (back.known ≡ old.known) ⊎ ((back.known ≡ now.known) × (now.slots ≡ old.slots)) → IsRight sources old
    → AreRight sources (standing now.closed old.slots) (get nat_eq back.known) now.closed
right-back sources old now back o g r (inl k) before =
    subst (λ m. AreRight sources (standing now.closed old.slots) (get nat_eq m) now.closed) (sym k)
    (right-again sources old.closed now.closed old.slots (get nat_eq old.known) g.types o.slots
    (right-longer sources old.closed now.closed (standing old.closed old.slots) (get nat_eq old.known) g.types before))
right-back sources old now back o g r (inr (k, s)) before =
    subst (λ m. AreRight sources (standing now.closed old.slots) (get nat_eq m) now.closed) (sym k)
    (subst (λ l. AreRight sources (standing now.closed l) (get nat_eq now.known) now.closed) s r)

pub goes-back : (sources : List Typ) (old now back : Copier) → IsOpen old → IsOpen now → Longer (held_of old) (held_of now) → IsRight sources now → IsBack old now back
    → Goes sources old back
goes-back sources old now back o n g r b = subst (λ c. Goes sources old c) (sym b.same) (record {
  open_ = record {
    scopes = n.scopes;
    within = n.within;
    slots = held-longer (length old.closed) (length now.closed) old.slots (length-longer old.closed now.closed g.types) o.slots;
    own = still-own g old.own o.own;
    nothing = n.nothing;
    few = n.few;
  };
  right = right-back sources old now back o g r b.known;
  slots = refl;
  own = refl;
  longer = g;
})

pub home : (t : Tables) (old typed back : Copier) → IsReady t old → IsOpen typed → Longer (held_of old) (held_of typed) → IsRight t.types typed → IsBack old typed back
    → Goes t.types old back
home t old typed back r o g n b = goes-back t.types old typed back r.open_ o g n b

-- a copy of a binding

module _ (t : Tables) (old begun mid typed back named new : Copier) (list : ℕ) (ps : List Quantified) (ready : IsReady t old) where
  pub copy-put : (u : Under t old begun (λ H g. g) (λ H s. changed ps (types_in H list) s)) (strip : Bool) (b : Binding) (st : Step) (variable ty : ℕ) → ps ≡ parameters_at (parameters_of t) b.parameters
      → Puts t (operation_put t strip st) begun mid
      → Goes t.types mid typed → ((ss : List (List ℕ)) (H : Held) → seen ss H typed ≡ seen ss H mid)
      → ((H : Held) → Later (held_of typed) H → type_at H.types ty ≡ replace (standing H.types mid.slots) (type_at t.types b.ty))
      → IsRight t.types begun → IsBack old typed back
      → ((sources : List Typ) → Goes sources back named) → ((ss : List (List ℕ)) (H : Held) → seen ss H named ≡ seen ss H back)
      → ((H : Held) → Later (held_of named) H → name_in H variable ≡ copy_of b.variable (types_in H list))
      → ((sources : List Typ) → Goes sources named new) → ((ss : List (List ℕ)) (H : Held) → seen ss H new ≡ with_sign (sign_of ss H (word.Let variable ty)) (seen ss H named))
      → Puts t (binding_put t strip b st list) old new
  copy-put u strip b st variable ty e p g stays is right taken h same names k put =
      let whole : Longer (held_of old) (held_of typed) = on-longer u.longer (on-longer p.goes.longer g.longer) in
      let r : back ≡ back_at old typed back = taken.same in
      let home : Goes t.types old back = goes-back t.types old typed back ready.open_ g.open_ whole (g.right (p.goes.right right)) taken in
      record {
        goes = goes-then t.types old back new home (goes-then t.types back named new (h t.types) (k t.types));
        sees = λ H l.
            let ss = strings_of t in
            let l₂ : Later (held_of named) H = sooner (k []).longer l in
            let l₁ : Later (held_of back) H = sooner (h []).longer l₂ in
            let l₀ : Later (held_of typed) H = subst (λ c. Later (held_of c) H) r l₁ in
            let lm : Later (held_of mid) H = sooner g.longer l₀ in
            let lb : Later (held_of begun) H = sooner p.goes.longer lm in
            let s = standing H.types old.slots in
            let type : type_at H.types ty ≡ replace (changed ps (types_in H list) s) (type_at t.types b.ty) =
            is H l₀ ∙ ap (λ z. replace (standing H.types z) (type_at t.types b.ty)) p.goes.slots ∙ ap (λ f. replace f (type_at t.types b.ty)) (u.types H lb) in
            let rest : seen ss H named ≡ operation_put t strip st H (groups_in H old.own) (changed ps (types_in H list) s) (seen ss H old) =
            same ss H ∙ ap (seen ss H) r ∙ stays ss H ∙ under-sees u (operation_put t strip st) p H lm in
            put ss H ∙ (λ i. with_sign (let_sign (names H l₂ i) (type i)) (rest i)) ∙ ap (λ qs. binding_made strip (groups_in H old.own) s b.variable qs (type_at t.types b.ty) (step_in t st) (types_in H list) (seen ss H old)) e;
      }

  pub copy-passes : (u : Under t old begun (λ H g. g) (λ H s. changed ps (types_in H list) s)) (strip : Bool) (b : Binding) (st : Step) → ps ≡ parameters_at (parameters_of t) b.parameters
      → Passes t (operation_put t strip st) begun → Passes t (binding_put t strip b st list) old
  copy-passes u strip b st e p =
      let q = under-passes u (operation_put t strip st) p in
      passes-more (binding_put t strip b st list)
      (λ H g s n. subst (λ qs. (acted strip g (changed ps (types_in H list) s) (step_in t st) n).nodes ≤ (acted strip g (changed qs (types_in H list) s) (step_in t st) n).nodes) e (omega arith)) q

-- a copy of a group

heads-same : (fs : Funs poly) (a : List Typ) (g h : Groups) (s : ℕ → Typ) (ws : List Sign) → spell_heads (funs_copy a g s fs) ws ≡ spell_heads (funs_copy a h s fs) ws
heads-same no_funs a g h s ws = refl
heads-same (fun x u f fs) a g h s ws = ap (λ l. function_sign (copy_of x a) (replace s u) ∷ l) (heads-same fs a g h s ws)

module _ (t : Tables) (old begun mid typed back new : Copier) (list : ℕ) (ps : List Quantified) (ready : IsReady t old) (fs : List Function) where
  pub group-put : (u : Under t old begun (λ H g. group_at (functions_in t fs) (types_in H list) g) (λ H s. changed ps (types_in H list) s)) (p : ℕ) → ps ≡ parameters_at (parameters_of t) p
      → Puts t (bodies_put t list fs) begun mid
      → Goes t.types mid typed
      → ((ss : List (List ℕ)) (H : Held) → Later (held_of typed) H → seen ss H typed
      ≡ made (spell_heads (funs_copy (types_in H list) [] (standing H.types mid.slots) (functions_in t fs))) [] [] 0 (seen ss H mid))
      → IsRight t.types begun → IsBack old typed back
      → ((sources : List Typ) → Goes sources back new) → ((ss : List (List ℕ)) (H : Held) → seen ss H new ≡ with_sign (sign_of ss H word.Group) (seen ss H back))
      → Puts t (group_put t p fs list) old new
  group-put u p e bodies g heads right taken k put =
      let whole : Longer (held_of old) (held_of typed) = on-longer u.longer (on-longer bodies.goes.longer g.longer) in
      let r : back ≡ back_at old typed back = taken.same in
      let home : Goes t.types old back = goes-back t.types old typed back ready.open_ g.open_ whole (g.right (bodies.goes.right right)) taken in
      record {
        goes = goes-then t.types old back new home (k t.types);
        sees = λ H l.
            let ss = strings_of t in
            let l₁ : Later (held_of back) H = sooner (k []).longer l in
            let l₀ : Later (held_of typed) H = subst (λ c. Later (held_of c) H) r l₁ in
            let lm : Later (held_of mid) H = sooner g.longer l₀ in
            let lb : Later (held_of begun) H = sooner bodies.goes.longer lm in
            let a = types_in H list in
            let s = changed ps a (standing H.types old.slots) in
            let fs' = functions_in t fs in
            let gs = group_at fs' a (groups_in H old.own) in
            let types : standing H.types mid.slots ≡ s = ap (standing H.types) bodies.goes.slots ∙ u.types H lb in
            let inner : seen ss H mid ≡ bodies_put t list fs H gs s (seen ss H old) = under-sees u (bodies_put t list fs) bodies H lm in
            let words : seen ss H back ≡ made (spell_heads (funs_copy a gs s fs')) [] [] 0 (bodies_put t list fs H gs s (seen ss H old)) =
            ap (seen ss H) r ∙ heads ss H l₀ ∙ (λ i. made (spell_heads (funs_copy a [] (types i) fs')) [] [] 0 (inner i))
            ∙ ap (λ (f : List Sign → List Sign). made f [] [] 0 (bodies_put t list fs H gs s (seen ss H old))) (λ i ws. heads-same fs' a [] gs s ws i) in
            put ss H ∙ ap (with_sign group_sign) words
            ∙ ap (λ qs. group_made (groups_in H old.own) (standing H.types old.slots) qs fs' a (seen ss H old)) e;
      }

  pub group-passes : (u : Under t old begun (λ H g. group_at (functions_in t fs) (types_in H list) g) (λ H s. changed ps (types_in H list) s)) (p : ℕ) → ps ≡ parameters_at (parameters_of t) p
      → Passes t (bodies_put t list fs) begun → Passes t (group_put t p fs list) old
  group-passes u p e b =
      let q = under-passes u (bodies_put t list fs) b in
      let fs' = functions_in t fs in
      passes-more (group_put t p fs list)
      (λ H g s n. subst (λ qs. (bodies_made (types_in H list) (group_at fs' (types_in H list) g) (changed ps (types_in H list) s) fs' n).nodes
      ≤ (group_made g s qs fs' (types_in H list) n).nodes) e (omega arith)) q
