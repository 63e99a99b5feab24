-- Declarations whose parts come into scope, one after the other.
use Rattle.std.proofs.Common.{◌≡◌, ℕ, List, [], ◌∷◌, ◌++◌, map, refl, sym, ap, subst, ◌∙◌, arith}
use Rattle.std.proofs.lemmas.List.{append_assoc, map-append}
use Rattle.sml_tree.specs.BareTree as bare
use Rattle.ir_poly.specs.Prog as prog
use Rattle.core_elab.specs.Resolves.{joined}
use Rattle.prog_tree.specs.TreeOf.{DecTree, val_tree, exception_tree, counted_tree, dec_of, decs_of}
use Rattle.prog_tree.specs.declared.tree.Dec.{Dec}
use Rattle.elab_typed.specs.Contexts.{Around}
use Rattle.elab_typed.specs.Elaborates.{DecElab}
use Rattle.closed_types.specs.of_elab_state.declared.state.State.{State}
use Rattle.closed_types.specs.of_elab_steps.World.{World}
use Rattle.closed_types.proofs.of_elab_steps.Changing.{begins-same}
use Rattle.closed_types.proofs.of_elab_steps.Growing.{grows_same, grows_on, comes_before}
use Rattle.exp_forms.specs.of_elab_context.Telling.{Tells}
use Rattle.exp_forms.specs.of_elab_context.declared.context.Context.{Context}
use Rattle.exp_forms.specs.of_elab_context.Numbered.{IsNumbered}
use Rattle.dec_forms.specs.Decs.{IsDec, all_joined}
use Rattle.dec_forms.proofs.Sequencing.{more_decs, no_decs_are}
use Rattle.dec_forms.specs.Entries.{Adds}
use Rattle.dec_forms.specs.Bringing.{AreBringing, Brings, IsBringing, all_effects, no_effect, no_effects, past}
use Rattle.dec_forms.specs.declared.brought.Brought.{Brought}
use Rattle.dec_forms.proofs.Effects.{effects-snoc, effects-then, past-all}
use Rattle.dec_forms.proofs.Joining.{adds_then, brings_then}
use Rattle.dec_forms.proofs.TellingScope.{tells_past}

-- the program's declarations

joined-none : (x : prog.Decs) → joined x prog.no_decs ≡ x
joined-none prog.no_decs = refl
joined-none (prog.val_dec qs bs fs ds) = ap (prog.val_dec qs bs fs) (joined-none ds)
joined-none (prog.exception_dec x i a ds) = ap (prog.exception_dec x i a) (joined-none ds)
joined-none (prog.counted_dec n ds) = ap (prog.counted_dec n) (joined-none ds)

joined-joined : (x y z : prog.Decs) → joined (joined x y) z ≡ joined x (joined y z)
joined-joined prog.no_decs y z = refl
joined-joined (prog.val_dec qs bs fs ds) y z = ap (prog.val_dec qs bs fs) (joined-joined ds y z)
joined-joined (prog.exception_dec x i a ds) y z = ap (prog.exception_dec x i a) (joined-joined ds y z)
joined-joined (prog.counted_dec n ds) y z = ap (prog.counted_dec n) (joined-joined ds y z)

all-snoc : (xs : List prog.Decs) (y : prog.Decs) → all_joined (xs ++ y ∷ []) ≡ joined (all_joined xs) y
all-snoc [] y = joined-none y
all-snoc (x ∷ xs) y = ap (joined x) (all-snoc xs y) ∙ sym (joined-joined x (all_joined xs) y)

pub decs-append : (xs ys : List DecTree) → decs_of (xs ++ ys) ≡ joined (decs_of xs) (decs_of ys)
decs-append [] ys = refl
decs-append (val_tree qs bs fs ∷ xs) ys = ap (prog.val_dec qs bs fs) (decs-append xs ys)
decs-append (exception_tree x i a ∷ xs) ys = ap (prog.exception_dec x i a) (decs-append xs ys)
decs-append (counted_tree n ∷ xs) ys = ap (prog.counted_dec n) (decs-append xs ys)

append-nil : {A : Type 0} (xs : List A) → xs ≡ xs ++ []
append-nil [] = refl
append-nil (x ∷ xs) = ap (λ l. x ∷ l) (append-nil xs)

-- a declaration is one as `let` takes it
pub dec_is : (S T : State) (C D : Context) (d : bare.Dec) (decs : List Dec) (old new : Brought) → IsNumbered S.next C → IsBringing S C d T D decs old new → IsDec S C d T D decs
dec_is S T C D d decs old new n h = record {
  grows = h.grows;
  gives = λ W c A t.
      let g = h.gives n W c A t in
      let m = g.effect in
      record {
        made = m.made;
        number = m.number;
        env = m.env;
        scope = m.scope;
        known = m.known;
        choices = g.choices;
        elab = λ j le. let f = g.elab j le in record { next = f.next; most = f.most; elab = f.elab };
        tells = tells_past C D W A S.next h.values h.types m t n h.adds g.brings;
      };
}

-- nothing comes into scope
nothing-added : (C : Context) → Adds C C [] []
nothing-added C = record {
  values = refl;
  structures = refl;
  members = refl;
  tyvars = refl;
  types = refl;
  schemes = begins-same _ _ refl;
  level = refl;
  rest = refl;
  numbers = record { own = []; is = refl };
}

nothing-brought : (C : Context) (W : World) (A : Around) (k : ℕ) → Tells C W A → Brings C W A k [] [] (no_effect A)
nothing-brought C W A k t = record {
  values = λ x. refl;
  types = λ x. refl;
  structures = refl;
  denotes = λ s x. refl;
  alone = λ s q. refl;
  retyped = λ s x h. refl;
  constructors = λ s x e h. cc;
  fit = λ x e h. cc;
  new = λ x e n v h q. cc;
  older = λ n lt. refl;
  names = let e = t.names in omega (arith, e);
  number = t.number;
  numbers = t.numbers;
  initial = t.initial;
  agree = λ x lt. refl;
  over = λ s f h. refl;
}

pub none_brought : (S : State) (C : Context) (decs : List Dec) (old : Brought) → decs ≡ [] → AreBringing S C [] S C decs old old
none_brought S C decs old q = subst (λ l. AreBringing S C [] S C l old old) (sym q) (record {
  values = [];
  types = [];
  all_values = append-nil old.values.items;
  all_types = append-nil old.types.items;
  adds = nothing-added C;
  grows = grows_same S;
  numbered = λ n. n;
  gives = λ n W c A t. record {
    parts = [];
    whole = refl;
    choices = [];
    effects = [];
    elab = λ h le. record { next = h; most = le; elab = no_effects };
    brings = nothing-brought C W A S.next t;
  };
  plain = λ n. no_decs_are S C [] refl;
})

-- one declaration more
pub more_brought : (S M T : State) (C D E : Context) (ds : List bare.Dec) (d : bare.Dec) (xs ys zs : List Dec) (old mid new : Brought) → AreBringing S C ds M D xs old mid
    → IsBringing M D d T E ys mid new → zs ≡ xs ++ ys → AreBringing S C (ds ++ d ∷ []) T E zs old new
more_brought S M T C D E ds d xs ys zs old mid new h k q = subst (λ l. AreBringing S C (ds ++ d ∷ []) T E l old new) (sym q) (record {
  values = h.values ++ k.values;
  types = h.types ++ k.types;
  all_values = k.all_values ∙ ap (λ l. l ++ k.values) h.all_values ∙ append_assoc old.values.items h.values k.values;
  all_types = k.all_types ∙ ap (λ l. l ++ k.types) h.all_types ∙ append_assoc old.types.items h.types k.types;
  adds = adds_then C D E h.values k.values h.types k.types h.adds k.adds;
  grows = grows_on S M T h.grows k.grows;
  numbered = λ n. k.numbered (h.numbered n);
  gives = λ n W c A t.
      let num = h.numbered n in
      let a = h.gives n W (comes_before M T W k.grows c) A t in
      let m = all_effects A a.effects in
      let t' = tells_past C D W A S.next h.values h.types m t n h.adds a.brings in
      let b = k.gives num W c (past A m) t' in
      let y = decs_of (map (dec_of W.reading) ys) in
      record {
        parts = a.parts ++ y ∷ [];
        whole =
            all-snoc a.parts y ∙ ap (λ x. joined x y) a.whole ∙ sym (decs-append (map (dec_of W.reading) xs) (map (dec_of W.reading) ys))
            ∙ ap decs_of (sym (map-append (dec_of W.reading) xs ys));
        choices = a.choices ++ b.choices ∷ [];
        effects = a.effects ++ b.effect ∷ [];
        elab = λ j le.
            let f = a.elab j le in
            let g = b.elab f.next f.most in
            record {
              next = g.next;
              most = g.most;
              elab =
                  effects-snoc b.effect f.elab
                  (subst (λ B. DecElab W.table B f.next d y b.effect.made b.effect.number b.effect.env b.effect.scope b.effect.known b.choices g.next)
                  (past-all A a.effects) g.elab);
            };
        brings =
            subst (Brings E W A S.next (h.values ++ k.values) (h.types ++ k.types)) (sym (effects-then A a.effects b.effect))
            (brings_then C D E W A S.next M.next h.values k.values h.types k.types m b.effect t n h.adds a.brings h.grows.next num k.adds b.brings);
      };
  plain = λ n. more_decs S M T C D E ds d xs ys (xs ++ ys) (h.plain n) (dec_is M T D E d ys mid new (h.numbered n) k) refl;
})
