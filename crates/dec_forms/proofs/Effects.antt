-- Effects, one after the other.
use Rattle.std.proofs.Common.{◌≡◌, ◌+◌, ℕ, true, List, [], ◌∷◌, ◌++◌, refl, sym, ap, ◌∙◌, arith}
use Rattle.std.specs.Prelude.{filter}
use Rattle.sml_tree.specs.BareTree as bare
use Rattle.sml_tree.specs.TreeOf as source
use Rattle.core_rules.specs.Choices.{Choices, no_choice, both}
use Rattle.core_rules.specs.Objects.{Structures, structure_map, structures_of, no_structures, structure}
use Rattle.ir_poly.specs.Prog as prog
use Rattle.ir_poly.specs.Types.{Constructor}
use Rattle.core_elab.specs.Scopes.{Scope, empty, scoped, typed_by, inside, plus_scope}
use Rattle.elab_typed.specs.Contexts.{Around, KeptEnv, kept_values, plus_kept}
use Rattle.elab_typed.specs.Elaborates.{DecElab, DecsElab, no_decs_elab, a_dec_elab}
use Rattle.dec_forms.specs.Decs.{all_joined}
use Rattle.dec_forms.proofs.After.{after-after, after-none, kept-none, plus-plus}
use Rattle.dec_forms.specs.Bringing.{EachEffect, no_effects, an_effect, Effect, all_effects, joint_effect, past, past_all}

-- the choices of declarations one after the other
abbrev pub all_choices : List Choices → Choices
all_choices [] = no_choice
all_choices (c ∷ cs) = both c (all_choices cs)

pub effects-do : {table : List Constructor} {A : Around} {k j : ℕ} {ds : List bare.Dec} {xs : List prog.Decs} {cs : List Choices} {ms : List Effect} → EachEffect table A k ds xs cs ms j
    → DecsElab table A k (source.decs_of ds) (all_joined xs) (all_effects A ms).made (all_effects A ms).number (all_effects A ms).env (all_effects A ms).scope (all_effects A ms).known (all_choices cs) j
effects-do no_effects = no_decs_elab
effects-do (an_effect m f h) = a_dec_elab f (effects-do h)

pub effects-snoc : {table : List Constructor} {A : Around} {k i j : ℕ} {ds : List bare.Dec} {xs : List prog.Decs} {cs : List Choices} {ms : List Effect} {d : bare.Dec} {x : prog.Decs} {c : Choices}
    (m : Effect) → EachEffect table A k ds xs cs ms i → DecElab table (past_all A ms) i d x m.made m.number m.env m.scope m.known c j
    → EachEffect table A k (ds ++ d ∷ []) (xs ++ x ∷ []) (cs ++ c ∷ []) (ms ++ m ∷ []) j
effects-snoc m no_effects f = an_effect m f no_effects
effects-snoc m (an_effect q g h) f = an_effect q g (effects-snoc m h f)

-- what is around behind them

pub past-all : (A : Around) (ms : List Effect) → past A (all_effects A ms) ≡ past_all A ms
past-all A [] = after-none A
past-all A (m ∷ ms) =
    let r = all_effects (past A m) ms in sym (after-after A m.made r.made m.number r.number m.env r.env m.scope r.scope m.known r.known) ∙ past-all (past A m) ms

-- nothing in front

all-kept : {A : Type 0} (xs : List A) → filter (λ x. true) xs ≡ xs
all-kept [] = refl
all-kept (x ∷ xs) = ap (λ l. x ∷ l) (all-kept xs)

plus-left : (q : Scope) → plus_scope empty q ≡ q
plus-left empty = refl
plus-left (scoped x d q) = ap (scoped x d) (plus-left q)
plus-left (typed_by x c q) = ap (typed_by x c) (plus-left q)
plus-left (inside x c q) = ap (inside x c) (plus-left q)

structures-same : (ss : Structures) → structures_of (structure_map ss) ≡ ss
structures-same no_structures = refl
structures-same (structure x e ss) = ap (structure x e) (structures-same ss)

none-kept : (e : KeptEnv) → plus_kept (kept_values []) e ≡ e
none-kept e = λ i. record {
  values = all-kept e.values i;
  types = all-kept e.types i;
  structures = (ap structures_of (all-kept (structure_map e.structures)) ∙ structures-same e.structures) i;
}

kept-kept : (e d c : KeptEnv) → plus_kept (plus_kept e d) c ≡ plus_kept e (plus_kept d c)
kept-kept e d c =
    ap (λ (B : Around). B.env)
    (after-after (record { names = 0; number = λ k. k; tyvars = []; env = e; scope = empty; known = []; parameters = [] }) 0 0 (λ k. k) (λ k. k) d c empty empty [] [])

-- one effect more behind others
pub effects-then : (A : Around) (ms : List Effect) (m : Effect) → all_effects A (ms ++ m ∷ []) ≡ joint_effect (all_effects A ms) m
effects-then A [] m =
    let e : m.made + 0 ≡ 0 + m.made = omega arith in
    λ i. record {
      made = e i;
      number = m.number;
      env = (kept-none m.env ∙ sym (none-kept m.env)) i;
      scope = sym (plus-left m.scope) i;
      known = m.known;
    }
effects-then A (q ∷ ms) m =
    let r = all_effects (past A q) ms in
    let e : q.made + (r.made + m.made) ≡ (q.made + r.made) + m.made = omega arith in
    ap (joint_effect q) (effects-then (past A q) ms m)
    ∙ λ i. record {
      made = e i;
      number = m.number;
      env = sym (kept-kept q.env r.env m.env) i;
      scope = sym (plus-plus q.scope r.scope m.scope) i;
      known = m.known;
    }
