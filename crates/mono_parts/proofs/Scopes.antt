-- Scopes of bindings and of groups.
use Rattle.std.proofs.Common.{◌≡◌, ℕ, List, [], ◌∷◌, map, refl, sym, ap, subst, ◌∙◌}
use Rattle.ty_core.specs.Types.{Typ}
use Rattle.ir_tables.specs.declared.tables.Tables.{Tables}
use Rattle.plain_tree.specs.declared.tree.Function.{Function}
use Rattle.monomorphise.specs.Monomorphise.{fun_vars}
use Rattle.mono_scopes.specs.Scopes.{Scopes, variable, binding}
use Rattle.needed_scopes.specs.Scopes.{OpenScope, of_variable, of_binding, with_variable, IsBinding}
use Rattle.needed_scopes.specs.Reads.{scopes_of, AreKept}
use Rattle.needed_scopes.specs.declared.scopes.Scopes as code
use Rattle.mono_state.specs.of_mono_words.Seen.{within}
use Rattle.mono_state.specs.Seen.{Held, held_of, Later, types_in, scope_at, seen}
use Rattle.mono_state.specs.Going.{IsHeld, ScopesHeld, OwnHeld, IsOpen, Goes}
use Rattle.mono_state.specs.declared.copier.Copier.{Copier}
use Rattle.mono_state.proofs.Going.{goes-then, goes-scopes, scopes-seen}
use Rattle.mono_parts.specs.Steps.{functions_in, with_own}
use Rattle.mono_parts.proofs.Lists.{vars-more}

-- the scope of a binding is in front
pub goes-binding : (sources : List Typ) (old : Copier) (s : code.Scopes) (vs : List ℕ) (u : ℕ) → IsOpen old → AreKept s → scopes_of s ≡ of_binding vs u [] ∷ scopes_of old.scopes → IsHeld (held_of old) u
    → Goes sources old (record old { scopes = s })
goes-binding sources old s vs u o k e h = goes-scopes sources old s (of_binding vs u [] ∷ scopes_of old.scopes) o k e (h, tt, o.within)

pub binding-entered : (ss : List (List ℕ)) (H : Held) (old mid : Copier) (s : code.Scopes) (vs : List ℕ) (u : ℕ) (us : List Typ) → seen ss H mid ≡ seen ss H old
    → scopes_of s ≡ of_binding vs u [] ∷ scopes_of mid.scopes → types_in H u ≡ us → seen ss H (record mid { scopes = s }) ≡ within (binding vs us []) (seen ss H old)
binding-entered ss H old mid s vs u us p e q =
    let there : map (scope_at H) (scopes_of s) ≡ binding vs us [] ∷ map (scope_at H) (scopes_of mid.scopes) =
    ap (map (scope_at H)) e ∙ ap (λ a. binding vs a [] ∷ map (scope_at H) (scopes_of mid.scopes)) q in
    scopes-seen ss H mid (record mid { scopes = s }) (binding vs us [] ∷ map (scope_at H) (scopes_of mid.scopes)) refl refl refl there ∙ ap (within (binding vs us [])) p

-- one more variable of the scope in front

abbrev added : ℕ → Scopes → Scopes
added x [] = []
added x (variable y ∷ l) = variable y ∷ l
added x (binding vs u ts ∷ l) = binding (x ∷ vs) u ts ∷ l

added-read : (H : Held) (x : ℕ) (l : List OpenScope) → map (scope_at H) (with_variable x l) ≡ added x (map (scope_at H) l)
added-read H x [] = refl
added-read H x (of_variable y ∷ l) = refl
added-read H x (of_binding vs u ks ∷ l) = refl

added-held : (H : Held) (x : ℕ) (l : List OpenScope) → ScopesHeld H l → ScopesHeld H (with_variable x l)
added-held H x [] h = h
added-held H x (of_variable y ∷ l) h = h
added-held H x (of_binding vs u ks ∷ l) h = h

still-binding : (x : ℕ) (l : List OpenScope) → IsBinding l → IsBinding (with_variable x l)
still-binding x [] b = b
still-binding x (of_variable y ∷ l) b = b
still-binding x (of_binding vs u ks ∷ l) b = b

pub record GroupEntered (t : Tables) (us : List Typ) (old new : Copier) (fs : List Function) : Type 0 where
  pub goes : (sources : List Typ) → Goes sources old new
  pub binding_ : IsBinding (scopes_of new.scopes)
  pub entered : (ss : List (List ℕ)) (H : Held) → Later (held_of new) H → seen ss H new ≡ within (binding (fun_vars (functions_in t fs)) us []) (seen ss H old)

pub group-begun : (t : Tables) (us : List Typ) (old mid : Copier) (s : code.Scopes) (u : ℕ) (fs : List Function) → fs ≡ [] → ((sources : List Typ) → Goes sources old mid)
    → ((ss : List (List ℕ)) (H : Held) → seen ss H mid ≡ seen ss H old) → IsHeld (held_of mid) u → ((H : Held) → Later (held_of mid) H → types_in H u ≡ us)
    → AreKept s → scopes_of s ≡ of_binding [] u [] ∷ scopes_of mid.scopes → GroupEntered t us old (record mid { scopes = s }) fs
group-begun t us old mid s u fs e g stays h is k o =
    let none : GroupEntered t us old (record mid { scopes = s }) [] = record {
      goes = λ sources. goes-then sources old mid (record mid { scopes = s }) (g sources) (goes-binding sources mid s [] u (g []).open_ k o h);
      binding_ = subst IsBinding (sym o) tt;
      entered = λ ss H l. binding-entered ss H old mid s [] u us (stays ss H) o (is H l);
    } in
    subst (GroupEntered t us old (record mid { scopes = s })) (sym e) none

pub group-more : (t : Tables) (us : List Typ) (old now : Copier) (s : code.Scopes) (fs all : List Function) (f : Function) → all ≡ f ∷ fs → GroupEntered t us old now fs → AreKept s
    → scopes_of s ≡ with_variable f.variable (scopes_of now.scopes) → GroupEntered t us old (record now { scopes = s }) all
group-more t us old now s fs all f e a k o =
    let one : GroupEntered t us old (record now { scopes = s }) (f ∷ fs) = record {
      goes = λ sources. goes-then sources old now (record now { scopes = s }) (a.goes sources)
          (goes-scopes sources now s (with_variable f.variable (scopes_of now.scopes)) (a.goes []).open_ k o (added-held (held_of now) f.variable (scopes_of now.scopes) (a.goes []).open_.within));
      binding_ = subst IsBinding (sym o) (still-binding f.variable (scopes_of now.scopes) a.binding_);
      entered = λ ss H l.
          let there : map (scope_at H) (scopes_of s) ≡ added f.variable (seen ss H now).scopes = ap (map (scope_at H)) o ∙ added-read H f.variable (scopes_of now.scopes) in
          scopes-seen ss H now (record now { scopes = s }) (added f.variable (seen ss H now).scopes) refl refl refl there
          ∙ (λ i. record { signs = (a.entered ss H l i).signs; scopes = added f.variable (a.entered ss H l i).scopes; compared = (a.entered ss H l i).compared; nodes = (a.entered ss H l i).nodes })
          ∙ ap (λ vs. within (binding vs us []) (seen ss H old)) (sym (vars-more t f fs));
    } in
    subst (GroupEntered t us old (record now { scopes = s })) (sym e) one

-- inside a group its functions are those of its own copy

pub record OwnPut (old new : Copier) (list : ℕ) (fs : List Function) : Type 0 where
  pub open_ : IsOpen new
  pub held : IsHeld (held_of new) list
  pub own : (t : Tables) → new ≡ record old { own = with_own (fun_vars (functions_in t fs)) list old.own }

pub own-none : (old : Copier) (list : ℕ) (fs : List Function) → fs ≡ [] → IsOpen old → IsHeld (held_of old) list → OwnPut old old list fs
own-none old list fs e o h =
    let none : OwnPut old old list [] = record { open_ = o; held = h; own = λ t. refl } in
    subst (OwnPut old old list) (sym e) none

pub own-more : (old now : Copier) (list : ℕ) (own : List (ℕ × ℕ)) (fs all : List Function) (f : Function) → all ≡ f ∷ fs → OwnPut old now list fs
    → own ≡ (f.variable, list) ∷ now.own → OwnPut old (record now { own = own }) list all
own-more old now list own fs all f e a p =
    let one : OwnPut old (record now { own = own }) list (f ∷ fs) = record {
      open_ = record { scopes = a.open_.scopes; within = a.open_.within; slots = a.open_.slots; own = subst (OwnHeld (held_of now)) (sym p) (a.held, a.open_.own); nothing = a.open_.nothing; few = a.open_.few };
      held = a.held;
      own = λ t.
          ap (λ o. record now { own = o }) p ∙ ap (λ (c : Copier). record c { own = (f.variable, list) ∷ c.own }) (a.own t)
          ∙ ap (λ vs. record old { own = with_own vs list old.own }) (sym (vars-more t f fs));
    } in
    subst (OwnPut old (record now { own = own }) list) (sym e) one
