-- Look-ups in a scope and in an environment that it covers find the same.
use Rattle.std.proofs.Common.{◌≡◌, ℕ, ◌≤◌, Bool, true, false, if◌then◌else◌, List, [], ◌∷◌, Option, Some, None, subst}
use Rattle.std.specs.Prelude.{option_and_then, option_map, nat_eq}
use Rattle.core_rules.specs.of_sml_tree.Terminal.{LongVid}
use Rattle.core_rules.specs.of_sml_tree.declared.ident.Vid.{Vid}
use Rattle.core_rules.specs.of_sml_tree.BareTree.{LongIdAt}
use Rattle.ty_core.specs.declared.env.Status.{Status}
use Rattle.core_rules.specs.Words.{same_vid}
use Rattle.core_rules.specs.Values.{Value, Env, plus, Found, value_in, tycon_in, structure_in, along, long_value_in}
use Rattle.core_rules.specs.Eval.{long_tycon_in, long_structure_in, opened}
use Rattle.ir_poly.specs.ProgMeaning.{Scope as Bound}
use Rattle.core_elab.specs.Scopes.{Denotes, Scope, plus_scope, denotes_in, typed_in, inside_in, along_scope, long_denotes_in, long_typed_in, long_inside_in, opened_scope}
use Rattle.core_elab.proofs.Related.{Known, Covers, covers_nothing, covers_value, covers_tycon, covers_structure, covers-plus, covers-more, SameBelow}

pub data KnownAs (k : ℕ) (t : Bound) : Option Denotes → Option Found → Type 0 where
  known_none : KnownAs k t None None
  known_some : {d : Denotes} {q : Status} {v : Value} → Known k t d q v → KnownAs k t (Some d) (Some (record { status = q; value = v }))

pub data CoversBoth (k : ℕ) (t : Bound) : Option Scope → Option Env → Type 0 where
  covers_none : CoversBoth k t None None
  covers_some : {s : Scope} {e : Env} → Covers k t s e → CoversBoth k t (Some s) (Some e)

pub both-more : {k j : ℕ} {t u : Bound} {s : Option Scope} {e : Option Env} → k ≤ j → SameBelow k t u → CoversBoth k t s e → CoversBoth j u s e
both-more h m covers_none = covers_none
both-more h m (covers_some c) = covers_some (covers-more h m c)

module _ {k : ℕ} {t : Bound} where
  known-if : (b : Bool) {d : Option Denotes} {f : Option Found} {d' : Option Denotes} {f' : Option Found} → KnownAs k t d f → KnownAs k t d' f'
      → KnownAs k t (if b then d else d') (if b then f else f')
  known-if true h g = h
  known-if false h g = g

  both-if : (b : Bool) {d : Option Scope} {f : Option Env} {d' : Option Scope} {f' : Option Env} → CoversBoth k t d f → CoversBoth k t d' f'
      → CoversBoth k t (if b then d else d') (if b then f else f')
  both-if true h g = h
  both-if false h g = g

  pub known-in : {s : Scope} {e : Env} (x : Vid) → Covers k t s e → KnownAs k t (denotes_in s x) (value_in e x)
  known-in x covers_nothing = known_none
  known-in x (covers_value y n c) = known-if (same_vid x y) (known_some n) (known-in x c)
  known-in x (covers_tycon y b c) = known-in x c
  known-in x (covers_structure y b c) = known-in x c

  covers-typed : {s : Scope} {e : Env} (x : ℕ) → Covers k t s e → CoversBoth k t (typed_in s x) (tycon_in e x)
  covers-typed x covers_nothing = covers_none
  covers-typed x (covers_value y n c) = covers-typed x c
  covers-typed x (covers_tycon y b c) = both-if (nat_eq x y) (covers_some b) (covers-typed x c)
  covers-typed x (covers_structure y b c) = covers-typed x c

  covers-inside : {s : Scope} {e : Env} (x : ℕ) → Covers k t s e → CoversBoth k t (inside_in s x) (structure_in e x)
  covers-inside x covers_nothing = covers_none
  covers-inside x (covers_value y n c) = covers-inside x c
  covers-inside x (covers_tycon y b c) = covers-inside x c
  covers-inside x (covers_structure y b c) = both-if (nat_eq x y) (covers_some b) (covers-inside x c)

  covers-further : {s : Option Scope} {e : Option Env} (go : Scope → Option Scope) (go' : Env → Option Env)
      → ((s : Scope) (e : Env) → Covers k t s e → CoversBoth k t (go s) (go' e)) → CoversBoth k t s e
      → CoversBoth k t (option_and_then go s) (option_and_then go' e)
  covers-further go go' h covers_none = covers_none
  covers-further go go' h (covers_some c) = h _ _ c

  covers-along : (qs : List ℕ) {s : Scope} {e : Env} → Covers k t s e → CoversBoth k t (along_scope s qs) (along e qs)
  covers-along [] c = covers_some c
  covers-along (q ∷ qs) c = covers-further (λ d. along_scope d qs) (λ d. along d qs) (λ s e b. covers-along qs b) (covers-inside q c)

  known-further : {s : Option Scope} {e : Option Env} (x : Vid) → CoversBoth k t s e
      → KnownAs k t (option_and_then (λ d. denotes_in d x) s) (option_and_then (λ d. value_in d x) e)
  known-further x covers_none = known_none
  known-further x (covers_some c) = known-in x c

  pub long-known : {s : Scope} {e : Env} (x : LongVid) → Covers k t s e → KnownAs k t (long_denotes_in s x) (long_value_in e x)
  long-known x c = known-further x.vid (covers-along x.qualifiers c)

  pub long-typed : {s : Scope} {e : Env} (x : LongIdAt) → Covers k t s e → CoversBoth k t (long_typed_in s x) (long_tycon_in e x)
  long-typed x c = covers-further (λ d. typed_in d x.long.id) (λ d. tycon_in d x.long.id) (λ s e b. covers-typed x.long.id b) (covers-along x.long.qualifiers c)

  long-inside : {s : Scope} {e : Env} (x : LongIdAt) → Covers k t s e → CoversBoth k t (long_inside_in s x) (long_structure_in e x)
  long-inside x c =
      covers-further (λ d. inside_in d x.long.id) (λ d. structure_in d x.long.id) (λ s e b. covers-inside x.long.id b) (covers-along x.long.qualifiers c)

  both-plus : {s : Scope} {e : Env} {o : Option Scope} {p : Option Env} → Covers k t s e → CoversBoth k t o p
      → CoversBoth k t (option_map (plus_scope s) o) (option_map (plus e) p)
  both-plus c covers_none = covers_none
  both-plus c (covers_some b) = covers_some (covers-plus c b)

  pub covers-opened : {s : Scope} {e : Env} (xs : List LongIdAt) → Covers k t s e → CoversBoth k t (opened_scope s xs) (opened e xs)
  covers-opened [] c = covers_some covers_nothing
  covers-opened {s} {e} (x ∷ xs) c =
      covers-further (λ d. option_map (plus_scope d) (opened_scope s xs)) (λ d. option_map (plus d) (opened e xs)) (λ r d b. both-plus b (covers-opened xs c))
      (long-inside x c)

  pub known-of : {s : Scope} {e : Env} {d : Denotes} (x : LongVid) → long_denotes_in s x ≡ Some d → Covers k t s e → KnownAs k t (Some d) (long_value_in e x)
  known-of {s} {e} x i c = subst (λ o. KnownAs k t o (long_value_in e x)) i (long-known x c)
