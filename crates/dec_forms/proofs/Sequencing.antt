-- Declarations, one after the other.
use Rattle.std.proofs.Common.{◌≡◌, ◌+◌, ℕ, List, [], ◌∷◌, ◌++◌, map, refl, sym, ap, subst, ◌∙◌}
use Rattle.std.proofs.lemmas.List.{map-append}
use Rattle.sml_tree.specs.BareTree as bare
use Rattle.sml_tree.specs.TreeOf as source
use Rattle.core_rules.specs.Choices.{Choices, no_choice, both}
use Rattle.ir_poly.specs.Prog as prog
use Rattle.ir_poly.specs.TestsChecked.{Knowns}
use Rattle.ir_poly.specs.Types.{Constructor}
use Rattle.core_elab.specs.Resolves.{joined}
use Rattle.core_elab.specs.Scopes.{Scope, empty}
use Rattle.prog_tree.specs.TreeOf.{DecTree, val_tree, exception_tree, counted_tree, dec_of, decs_of}
use Rattle.prog_tree.specs.declared.tree.Dec.{Dec}
use Rattle.elab_typed.specs.Contexts.{Around, KeptEnv, kept_values, after}
use Rattle.elab_typed.specs.Elaborates.{DecElab, DecsElab, no_decs_elab, a_dec_elab}
use Rattle.closed_types.specs.of_elab_state.declared.state.State.{State}
use Rattle.closed_types.proofs.of_elab_steps.Growing.{grows_same, grows_on, comes_before}
use Rattle.exp_forms.specs.of_elab_context.declared.context.Context.{Context}
use Rattle.dec_forms.specs.Decs.{EachDec, no_dec, one_dec, all_joined, IsDec, IsDecs}
use Rattle.dec_forms.proofs.After.{after-none, after-after}

-- the program's declarations

joined-none : (x : prog.Decs) → joined x prog.no_decs ≡ x
joined-none prog.no_decs = refl
joined-none (prog.val_dec qs bs fs ds) = ap (prog.val_dec qs bs fs) (joined-none ds)
joined-none (prog.exception_dec x i a ds) = ap (prog.exception_dec x i a) (joined-none ds)
joined-none (prog.counted_dec n ds) = ap (prog.counted_dec n) (joined-none ds)

joined-joined : (x y z : prog.Decs) → joined (joined x y) z ≡ joined x (joined y z)
joined-joined prog.no_decs y z = refl
joined-joined (prog.val_dec qs bs fs ds) y z = ap (prog.val_dec qs bs fs) (joined-joined ds y z)
joined-joined (prog.exception_dec x i a ds) y z = ap (prog.exception_dec x i a) (joined-joined ds y z)
joined-joined (prog.counted_dec n ds) y z = ap (prog.counted_dec n) (joined-joined ds y z)

all-snoc : (xs : List prog.Decs) (y : prog.Decs) → all_joined (xs ++ y ∷ []) ≡ joined (all_joined xs) y
all-snoc [] y = joined-none y
all-snoc (x ∷ xs) y = ap (joined x) (all-snoc xs y) ∙ sym (joined-joined x (all_joined xs) y)

decs-append : (xs ys : List DecTree) → decs_of (xs ++ ys) ≡ joined (decs_of xs) (decs_of ys)
decs-append [] ys = refl
decs-append (val_tree qs bs fs ∷ xs) ys = ap (prog.val_dec qs bs fs) (decs-append xs ys)
decs-append (exception_tree x i a ∷ xs) ys = ap (prog.exception_dec x i a) (decs-append xs ys)
decs-append (counted_tree n ∷ xs) ys = ap (prog.counted_dec n) (decs-append xs ys)

-- all of them

abbrev pub choices_of : List Choices → Choices
choices_of [] = no_choice
choices_of (c ∷ cs) = both c (choices_of cs)

pub record DecsDo (table : List Constructor) (A : Around) (k : ℕ) (ds : List bare.Dec) (xs : List prog.Decs) (cs : List Choices) (B : Around) (i : ℕ) : Type 0 where
  pub made : ℕ
  pub number : ℕ → ℕ
  pub env : KeptEnv
  pub scope : Scope
  pub known : Knowns
  pub elab : DecsElab table A k (source.decs_of ds) (all_joined xs) made number env scope known (choices_of cs) i
  pub is : after A made number env scope known ≡ B

pub decs-do : {table : List Constructor} {A B : Around} {k i : ℕ} {ds : List bare.Dec} {xs : List prog.Decs} {cs : List Choices} → EachDec table A k ds xs cs B i → DecsDo table A k ds xs cs B i
decs-do {A = A} no_dec = record { made = 0; number = A.number; env = kept_values []; scope = empty; known = A.known; elab = no_decs_elab; is = after-none A }
decs-do {A = A} (one_dec {n = n} {number = number} {e = e} {r = r} {G = G} f h) =
    let k = decs-do h in
    record {
      made = n + k.made;
      number = k.number;
      env = Rattle.elab_typed.specs.Contexts.plus_kept e k.env;
      scope = Rattle.core_elab.specs.Scopes.plus_scope r k.scope;
      known = k.known;
      elab = a_dec_elab f k.elab;
      is = sym (after-after A n k.made number k.number e k.env r k.scope G k.known) ∙ k.is;
    }

each-snoc : {table : List Constructor} {A B : Around} {k i j : ℕ} {ds : List bare.Dec} {xs : List prog.Decs} {cs : List Choices} {d : bare.Dec} {x : prog.Decs} {n : ℕ} {number : ℕ → ℕ}
    {e : KeptEnv} {r : Scope} {G : Knowns} {c : Choices} → EachDec table A k ds xs cs B i → DecElab table B i d x n number e r G c j
    → EachDec table A k (ds ++ d ∷ []) (xs ++ x ∷ []) (cs ++ c ∷ []) (after B n number e r G) j
each-snoc no_dec f = one_dec f no_dec
each-snoc (one_dec g h) f = one_dec g (each-snoc h f)

pub no_decs_are : (S : State) (C : Context) (xs : List Dec) → xs ≡ [] → IsDecs S C [] S C xs
no_decs_are S C xs q = subst (IsDecs S C [] S C) (sym q) (record {
  grows = grows_same S;
  gives = λ W c A t. record {
    parts = [];
    whole = refl;
    around = A;
    choices = [];
    elab = λ h le. record { next = h; most = le; elab = no_dec };
    tells = t;
  };
})

pub more_decs : (S M T : State) (C D E : Context) (ds : List bare.Dec) (d : bare.Dec) (xs ys zs : List Dec) → IsDecs S C ds M D xs → IsDec M D d T E ys → zs ≡ xs ++ ys
    → IsDecs S C (ds ++ d ∷ []) T E zs
more_decs S M T C D E ds d xs ys zs h k q = subst (IsDecs S C (ds ++ d ∷ []) T E) (sym q) (record {
  grows = grows_on S M T h.grows k.grows;
  gives = λ W c A t.
      let a = h.gives W (comes_before M T W k.grows c) A t in
      let b = k.gives W c a.around a.tells in
      let y = decs_of (map (dec_of W.reading) ys) in
      record {
        parts = a.parts ++ y ∷ [];
        whole =
            all-snoc a.parts y ∙ ap (λ x. joined x y) a.whole ∙ sym (decs-append (map (dec_of W.reading) xs) (map (dec_of W.reading) ys))
            ∙ ap decs_of (sym (map-append (dec_of W.reading) xs ys));
        around = after a.around b.made b.number b.env b.scope b.known;
        choices = a.choices ++ b.choices ∷ [];
        elab = λ j le.
            let f = a.elab j le in
            let g = b.elab f.next f.most in
            record { next = g.next; most = g.most; elab = each-snoc f.elab g.elab };
        tells = b.tells;
      };
})
