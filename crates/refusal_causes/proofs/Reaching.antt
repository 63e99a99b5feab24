-- Along the parts of a project.
use Rattle.std.proofs.Common.{◌≡◌, ◌<◌, ◌+◌, ◌-◌, ℕ, Bool, false, List, [], ◌∷◌, ◌++◌, map, take, drop, length, get_or, refl, sym, ap, ap₂, subst, ◌∙◌, append_assoc, inl, inr}
use Rattle.std.specs.Prelude.{IsTrue, IfOk, Result, Ok, Err}
use Rattle.std.specs.List.{Contains}
use Rattle.std.proofs.lemmas.List.{map-append, take-append-drop, take_more, take_rest}
use Rattle.mlc_base.specs.declared.place.Place.{Place}
use Rattle.sml_tree.specs.BareTree.{Decs}
use Rattle.mlb_reader.specs.Parts.{Part}
use Rattle.core_rules.specs.Project as core
use Rattle.core_rules.specs.Restrictions.{broken_in}
use Rattle.core_rules.specs.Unbound.{decs_in, decs_names}
use Rattle.core_rules.specs.Values.{Env, nothing, plus}
use Rattle.mlb_reader.specs.PartOf.{part_of}
use Rattle.mlb_reader.specs.declared.project.Part.{Part as Read}
use Rattle.name_scopes.proofs.Covering.{nothing-plus}
use Rattle.name_scopes.proofs.Enough.{in-run, twice-in-run}
use Rattle.name_scopes.specs.Covering.{Covers}
use Rattle.name_scopes.specs.Placed.{AnyAt, At, Brought, Declared}
use Rattle.name_scopes.specs.declared.bound.Bound.{Bound}
use Rattle.name_scopes.specs.declared.sought.Sought.{Sought}
use Rattle.name_scopes.specs.declared.sought.What.TheVariants.{Twice, Unbound}
use Rattle.scope_walks.specs.Projects.{env_behind, standard_env}
use Rattle.refusal_causes.specs.Causes.{Holds, IsBrokenAt, IsFoundAt, IsUnboundAt, part_of_core}

-- the first parts are of the core, and the scope covers what is in scope behind them
pub record Reached (prelude : Decs) (parts : List Read) (i : ℕ) (e : Env) (scope : List Bound) : Type 0 where
  pub more : List core.Part
  pub are : map part_of_core more ≡ map part_of (take i parts)
  pub covers : Covers scope (env_behind prelude e more)

pub reached-none : (prelude : Decs) (parts : List Read) (e : Env) (scope : List Bound) → Covers scope e → Reached prelude parts 0 e scope
reached-none prelude parts e scope c = record { more = []; are = refl; covers = c }

behind-both : (prelude : Decs) (e : Env) (before more : List core.Part) → env_behind prelude e (before ++ more) ≡ env_behind prelude (env_behind prelude e before) more
behind-both prelude e [] more = refl
behind-both prelude e (core.standard_basis ∷ before) more = behind-both prelude (plus e (standard_env prelude)) before more
behind-both prelude e (core.source run ∷ before) more = behind-both prelude (plus e (decs_names e run)) before more

next-are : (parts : List Read) (i : ℕ) (x : Read) → i < length parts → x ≡ get_or parts i x → map part_of (take (i + 1) parts) ≡ map part_of (take i parts) ++ part_of x ∷ []
next-are parts i x lt e = ap (map part_of) (take_more parts i x lt ∙ ap (λ y. take i parts ++ y ∷ []) (sym e)) ∙ map-append part_of (take i parts) (x ∷ [])

pub reached-next : (prelude : Decs) (parts : List Read) (i : ℕ) (x : Read) (run : Decs) (e : Env) (mid new : List Bound) → i < length parts → x ≡ get_or parts i x → part_of x ≡ part_of_core (core.source run)
    → Reached prelude parts i e mid → Brought mid new (λ d. decs_names d run) → Reached prelude parts (i + 1) e new
reached-next prelude parts i x run e mid new lt is p r g =
    let d = env_behind prelude e r.more in
    record {
      more = r.more ++ core.source run ∷ [];
      are = map-append part_of_core r.more (core.source run ∷ []) ∙ ap₂ (λ a b. a ++ b ∷ []) r.are (sym p) ∙ sym (next-are parts i x lt is);
      covers =
          subst (Covers new) (sym (behind-both prelude e r.more (core.source run ∷ [])))
          (subst (λ (s : List Bound). Covers s (plus d (decs_names d run))) (sym g.is) (g.brings d r.covers mid d r.covers));
    }

pub found-there : (prelude : Decs) (before : List core.Part) (parts : List Read) (i : ℕ) (x : Read) (run : Decs) (s : Sought) (e : Env) (mid : List Bound) → i < length parts → x ≡ get_or parts i x
    → Holds (part_of x) run → e ≡ env_behind prelude nothing before → (r : Reached prelude parts i e mid) → AnyAt s (decs_in (env_behind prelude e r.more) run)
    → IsFoundAt s prelude (map part_of_core before ++ map part_of parts)
found-there prelude before parts i x run s e mid lt is holds f r h =
    record {
      before = before ++ r.more;
      run = run;
      stands = record {
        part = part_of x;
        rest = map part_of (drop (i + 1) parts);
        are =
            ap (λ l. map part_of_core before ++ map part_of l) (sym (take-append-drop (i + 1) parts))
            ∙ ap (λ l. map part_of_core before ++ l) (map-append part_of (take (i + 1) parts) (drop (i + 1) parts) ∙ ap (λ l. l ++ map part_of (drop (i + 1) parts)) (next-are parts i x lt is ∙ ap (λ l. l ++ part_of x ∷ []) (sym r.are))
            ∙ append_assoc (map part_of_core r.more) (part_of x ∷ []) (map part_of (drop (i + 1) parts)))
            ∙ sym (append_assoc (map part_of_core before) (map part_of_core r.more) (part_of x ∷ map part_of (drop (i + 1) parts)))
            ∙ ap (λ l. l ++ part_of x ∷ map part_of (drop (i + 1) parts)) (sym (map-append part_of_core before r.more));
        holds = holds;
      };
      at = subst (λ d. AnyAt s (decs_in d run)) (ap (λ d. env_behind prelude d r.more) f ∙ sym (behind-both prelude nothing before r.more)) h;
    }

-- whatever is in scope, the scope has covered it so far
abbrev pub Going : List Read → ℕ → List Bound → List Bound → Type 0
Going parts i first now = (prelude : Decs) (e : Env) → Covers first e → Reached prelude parts i e now

-- an identifier that is found isn't bound
abbrev pub Finds : List Read → Sought → List Bound → Bool → Type 0
Finds parts s first found = IsTrue found → (prelude : Decs) (before : List core.Part) (e : Env) → e ≡ env_behind prelude nothing before → Covers first e
    → IsFoundAt s prelude (map part_of_core before ++ map part_of parts)

pub found-in : {names : Env → Env} (parts : List Read) (i : ℕ) (x : Read) (run : Decs) (s : Sought) (b : Bool) (first mid new : List Bound) → i < length parts → x ≡ get_or parts i x → Holds (part_of x) run
    → Going parts i first mid → Declared b mid new (λ d. AnyAt s (decs_in d run)) names → Finds parts s first b
found-in parts i x run s b first mid new lt is holds g d h prelude before e f c =
    let r = g prelude e c in
    found-there prelude before parts i x run s e mid lt is holds f r (d.right h (env_behind prelude e r.more) r.covers)

pub found-if : (names : Env → Env) {E : Type 0} (r : Result Bool E) (parts : List Read) (i : ℕ) (x : Read) (run : Decs) (s : Sought) (first mid new : List Bound) → i < length parts → x ≡ get_or parts i x
    → Holds (part_of x) run → Going parts i first mid → IfOk r (λ b. Declared b mid new (λ d. AnyAt s (decs_in d run)) names) → IfOk r (Finds parts s first)
found-if names (Ok b) parts i x run s first mid new lt is holds g d = found-in parts i x run s b first mid new lt is holds g d
found-if names (Err u) parts i x run s first mid new lt is holds g d = d

pub going-on : {P : Env → Type 0} (parts : List Read) (i : ℕ) (x : Read) (run : Decs) (b : Bool) (first mid new : List Bound) → i < length parts → x ≡ get_or parts i x → part_of x ≡ part_of_core (core.source run)
    → b ≡ false → Going parts i first mid → Declared b mid new P (λ d. decs_names d run) → Going parts (i + 1) first new
going-on parts i x run b first mid new lt is p f g d prelude e c = reached-next prelude parts i x run e mid new lt is p (g prelude e c) (d.brought f)

begins : {A : Type 0} (xs : List A) (x : A) → ¬ (length xs ≡ 0) → x ≡ get_or xs 0 x → xs ≡ x ∷ drop 1 xs
begins [] x n e = absurd (n refl)
begins (y ∷ ys) x n e = ap (λ z. z ∷ ys) (sym e)

-- behind the standard basis
pub behind-basis : (prelude : Decs) (parts rest : List Read) (first : Read) (s : Sought) (scope : List Bound) (b : Bool) → parts ≡ first ∷ rest → part_of first ≡ part_of_core core.standard_basis
    → Covers scope (standard_env prelude) → Finds rest s scope b → IsTrue b → IsFoundAt s prelude (map part_of parts)
behind-basis prelude parts rest first s scope b is f c h t =
    subst (λ l. IsFoundAt s prelude l) (ap (λ x. x ∷ map part_of rest) (sym f) ∙ ap (map part_of) (sym is))
    (h t prelude (core.standard_basis ∷ []) (plus nothing (standard_env prelude)) refl (subst (Covers scope) (sym (nothing-plus (standard_env prelude))) c))

pub basis-if : {E : Type 0} (r : Result Bool E) (prelude : Decs) (parts : List Read) (first : Read) (s : Sought) (scope : List Bound) → ¬ (length parts ≡ 0) → first ≡ get_or parts 0 first
    → part_of first ≡ part_of_core core.standard_basis → Covers scope (standard_env prelude) → IfOk r (Finds (take (length parts - 1) (drop 1 parts)) s scope) → IfOk r (λ b. IsTrue b → IsFoundAt s prelude (map part_of parts))
basis-if (Ok b) prelude parts first s scope n e f c h = behind-basis prelude parts (drop 1 parts) first s scope b (begins parts first n e) f c (subst (λ l. Finds l s scope b) (take_rest parts 1) h)
basis-if (Err u) prelude parts first s scope n e f c h = h

-- The causes, from what is found.

pub unbound-by : (prelude : Decs) (parts : List Part) (s : Sought) → s.what ≡ Unbound → IsFoundAt s prelude parts → IsUnboundAt prelude parts s.place
unbound-by prelude parts s w h =
    let u : At s _ = in-run s (env_behind prelude nothing h.before) h.run w h.at in
    record { before = h.before; run = h.run; stands = h.stands; unbound = u.unbound; is = u.is; place = u.place }

pub broken-by : (prelude : Decs) (parts : List Part) (s : Sought) → s.what ≡ Twice → IsFoundAt s prelude parts → IsBrokenAt prelude parts s.place
broken-by prelude parts s w h =
    record { before = h.before; run = h.run; stands = h.stands; is = inr (twice-in-run s (env_behind prelude nothing h.before) h.run w h.at) }

-- whatever is in scope, a source in which a restriction is broken
pub record Passed (parts : List Read) (i : ℕ) : Type 0 where
  pub more : List core.Part
  pub are : map part_of_core more ≡ map part_of (take i parts)

pub passed-none : (parts : List Read) → Passed parts 0
passed-none parts = record { more = []; are = refl }

pub passed-next : (parts : List Read) (i : ℕ) (x : Read) (y : core.Part) → i < length parts → x ≡ get_or parts i x → part_of x ≡ part_of_core y → Passed parts i → Passed parts (i + 1)
passed-next parts i x y lt is p g = record { more = g.more ++ y ∷ []; are = map-append part_of_core g.more (y ∷ []) ∙ ap₂ (λ a b. a ++ b ∷ []) g.are (sym p) ∙ sym (next-are parts i x lt is) }

pub broken-there : (parts : List Read) (i : ℕ) (x : Read) (run : Decs) (p : Place) → i < length parts → x ≡ get_or parts i x → Holds (part_of x) run → Passed parts i → Contains (broken_in run) p
    → (prelude : Decs) → IsBrokenAt prelude (map part_of parts) p
broken-there parts i x run p lt is holds g h prelude = record {
  before = g.more;
  run = run;
  stands = record {
    part = part_of x;
    rest = map part_of (drop (i + 1) parts);
    are =
        ap (map part_of) (sym (take-append-drop (i + 1) parts)) ∙ map-append part_of (take (i + 1) parts) (drop (i + 1) parts)
        ∙ ap (λ l. l ++ map part_of (drop (i + 1) parts)) (next-are parts i x lt is ∙ ap (λ l. l ++ part_of x ∷ []) (sym g.are))
        ∙ append_assoc (map part_of_core g.more) (part_of x ∷ []) (map part_of (drop (i + 1) parts));
    holds = holds;
  };
  is = inl h;
}

pub broken-if : {E : Type 0} (r : Result Bool E) (parts : List Read) (i : ℕ) (x : Read) (run : Decs) (p : Place) → i < length parts → x ≡ get_or parts i x → Holds (part_of x) run → Passed parts i
    → IfOk r (λ b. IsTrue b → Contains (broken_in run) p) → IfOk r (λ b. IsTrue b → (prelude : Decs) → IsBrokenAt prelude (map part_of parts) p)
broken-if (Ok b) parts i x run p lt is holds g h = λ t. broken-there parts i x run p lt is holds g (h t)
broken-if (Err u) parts i x run p lt is holds g h = h

pub is-unbound : {E : Type 0} (r : Result Bool E) (prelude : Decs) (parts : List Part) (s : Sought) → s.what ≡ Unbound → IfOk r (λ b. IsTrue b → IsFoundAt s prelude parts) → IfOk r (λ b. IsTrue b → IsUnboundAt prelude parts s.place)
is-unbound (Ok b) prelude parts s w h = λ t. unbound-by prelude parts s w (h t)
is-unbound (Err u) prelude parts s w h = h

pub is-broken : {E : Type 0} (r : Result Bool E) (prelude : Decs) (parts : List Part) (s : Sought) → s.what ≡ Twice → IfOk r (λ b. IsTrue b → IsFoundAt s prelude parts) → IfOk r (λ b. IsTrue b → IsBrokenAt prelude parts s.place)
is-broken (Ok b) prelude parts s w h = λ t. broken-by prelude parts s w (h t)
is-broken (Err u) prelude parts s w h = h
