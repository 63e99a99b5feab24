-- Sequences, and operands of `andalso` and `orelse`.
use Rattle.std.proofs.Common.{◌≡◌, ◌<◌, ◌≤◌, ℕ, Bool, true, false, ◌&&◌, List, [], ◌∷◌, ◌++◌, map, filter, Option, None, Box, Vec, Global, refl, sym, ap, ap₂, subst, ◌∙◌, arith}
use Rattle.std.proofs.lemmas.Bool.{lt-ltb, and_parts}
use Rattle.mlc_base.specs.declared.place.Place.{Place}
use Rattle.ty_core.specs.Types.{Typ, typs_of}
use Rattle.ty_basis.specs.Types.{bool_type, name_count}
use Rattle.sml_tree.specs.BareTree as bare
use Rattle.sml_tree.specs.Derived.{and_of, or_of, sequence_of}
use Rattle.core_rules.specs.Objects.{Over, AllOver, Map, joined, Structures, no_structures, structure, structure_map, structures_of}
use Rattle.core_rules.specs.Choices.{Choices, no_choice, both}
use Rattle.ir_poly.specs.Prog as prog
use Rattle.ir_poly.specs.Types.{over, all_over}
use Rattle.core_elab.specs.Scopes.{empty}
use Rattle.prog_tree.specs.TreeOf.{tree_of, chain_of, sequence_of as sequence_tree}
use Rattle.prog_tree.specs.declared.tree.Exp.{Exp}
use Rattle.prog_tree.specs.declared.tree.Exp.TheVariants as tree
use Rattle.prog_tree.proofs.ExpOf.{tree_of-Sequence, tree_of-Test}
use Rattle.elab_typed.specs.Numbers.{type_as}
use Rattle.elab_typed.specs.Contexts.{Around, with_bound, KeptEnv, plus_kept, kept_values}
use Rattle.elab_typed.specs.Elaborates.{ExpElab, ChainElab, case_elab, chain_elab, a_rule_elab, no_rules_elab, wild_elab, only_elab, and_elab, or_elab}
use Rattle.elab_typed.specs.Instances.{as_typed}
use Rattle.elab_typed.proofs.Names.{over-as}
use Rattle.pat_elab.specs.of_elab_state.declared.state.State.{State}
use Rattle.pat_elab.specs.of_elab_steps.Growing.{HasType, Grows, Always}
use Rattle.pat_elab.specs.of_elab_steps.World.{World, type_of}
use Rattle.pat_elab.proofs.of_elab_steps.Growing.{grows_on, type_later, comes_before}
use Rattle.pat_elab.specs.of_elab_context.Telling.{IsContext}
use Rattle.pat_elab.specs.of_elab_context.declared.context.Context.{Context}
use Rattle.use_elab.specs.Elaborated.{ElaboratesExp, IsExp}
use Rattle.use_elab.specs.declared.typed.TypedExp.{TypedExp}
use Rattle.exp_forms.specs.Parts.{ExpsElab, no_exps, an_exp, AreExps, AreExpsOf, AllAre, before_last, tests_of}
use Rattle.exp_forms.proofs.Joining.{fewer}
use Rattle.exp_forms.proofs.Calling.{written-as}

-- nothing bound changes nothing

joined-none : {K V : Type 0} (same : K → K → Bool) (m : Map K V) → joined same m [] ≡ m
joined-none same [] = refl
joined-none same (e ∷ m) = ap (λ l. e ∷ l) (joined-none same m)

structures-same : (ss : Structures) → structures_of (structure_map ss) ≡ ss
structures-same no_structures = refl
structures-same (structure x e ss) = ap (structure x e) (structures-same ss)

env-same : (e : KeptEnv) → plus_kept e (kept_values []) ≡ e
env-same e = λ i. record {
  values = joined-none Rattle.core_rules.specs.Words.same_vid e.values i;
  types = joined-none Rattle.std.proofs.Common.nat_eq e.types i;
  structures = (ap structures_of (joined-none Rattle.std.proofs.Common.nat_eq (structure_map e.structures)) ∙ structures-same e.structures) i;
}

around-same : (A : Around) → with_bound A [] empty A.known ≡ A
around-same A = ap (λ (e : KeptEnv). record A { env = e }) (env-same A.env)

-- sequences

abbrev dropped : List Choices → Choices → Choices
dropped [] b = b
dropped (c ∷ cs) b = both (both no_choice (both (dropped cs b) no_choice)) c

module _ (W : World) (A : Around) (j : ℕ) (place p : Place) (e : bare.Exp) (x : prog.Exp) (t : Typ) (b : Choices) (last : ExpElab W.table A j e x t b) where
  sequence-do : {es : List bare.Exp} {xs : List prog.Exp} {ts : List Typ} {cs : List Choices} → ExpsElab W.table A j es xs ts cs → AllOver A.names (typs_of ts)
      → all_over A.parameters (typs_of ts) ≡ true → ExpElab W.table A j (before_last p es e) (sequence_tree place (as_typed A t) xs x) t (dropped cs b)
  sequence-do no_exps n o = last
  sequence-do (an_exp {es = es} {xs = xs} {t = u} {ts = ts} {cs = cs} f h) n o =
      let q = and_parts (over A.parameters u) (all_over A.parameters (typs_of ts)) o in
      let rest = sequence-do h n.1 q.1 in
      case_elab p p place
      (a_rule_elab p (wild_elab p n.0) refl
      (subst (λ B. ExpElab W.table B j (before_last p es e) (sequence_tree place (as_typed A t) xs x) t (dropped cs b)) (sym (around-same A)) rest) no_rules_elab)
      f (over-as A.number A.parameters u ∙ q.0)

pub sequence-is : (p : Place) (d : bare.Exp) (ds : List bare.Exp) (e : bare.Exp) → sequence_of p d (ds ++ e ∷ []) ≡ before_last p (d ∷ ds) e
sequence-is p d [] e = refl
sequence-is p d (c ∷ ds) e = ap (λ z. Rattle.sml_tree.specs.Derived.case_of p d (bare.rule p (bare.wild_pat p) z bare.no_rules)) (sequence-is p c ds e)

pub sequence_done : (S M N T : State) (C : Context) (place p : Place) (es : List bare.Exp) (e : bare.Exp) (before : Vec Exp Global) (ks : List ℕ) (last r : TypedExp) (written : ℕ)
    (boxed : Box Exp Global) → AreExps S C es M before.items ks → IsExp M C e N last → Grows N T
    → Always T (λ W. W.reading.type written ≡ type_as (W.naming C.naming) (type_of W last.ty)) → boxed.value ≡ last.exp → r.exp ≡ tree.Sequence place written before boxed
    → r.ty ≡ last.ty → IsExp S C (before_last p es e) T r
sequence_done S M N T C place p es e before ks last r written boxed h i g wr v ex q =
    let mt = grows_on M N T i.grows g in
    record {
      grows = grows_on S M T h.grows mt;
      is = subst (HasType T) (sym q) (type_later N T last.ty g i.is);
      gives = λ W c A t.
          let a = h.gives W (comes_before M T W mt c) A t in
          let u = type_of W last.ty in
          let b = fewer W A S.next M.next e (tree_of W.reading last.exp) u h.grows.next (i.gives W (comes_before N T W g c) A t) in
          let node = sequence_tree place (as_typed A u) (map (tree_of W.reading) before.items) (tree_of W.reading last.exp) in
          let tree-is : tree_of W.reading r.exp ≡ node =
          ap (tree_of W.reading) ex ∙ tree_of-Sequence W.reading place written before boxed
          ∙ ap₂ (λ a x. sequence_tree place a (map (tree_of W.reading) before.items) (tree_of W.reading x)) (wr W c ∙ written-as C W A u t) v in
          subst (λ z. ElaboratesExp W A S.next (before_last p es e) z (type_of W r.ty)) (sym tree-is)
          (subst (λ k. ElaboratesExp W A S.next (before_last p es e) node (type_of W k)) (sym q)
          (record {
            choices = dropped a.choices b.choices;
            elab = λ j le.
                sequence-do W A j place p e (tree_of W.reading last.exp) u b.choices (b.elab j le) (a.elab j le) a.names a.parameters;
            names = b.names;
            parameters = b.parameters;
          }));
    }

-- operands

abbrev tested : Bool → List Choices → Choices → Choices
tested all [] b = b
tested true (c ∷ cs) b = both (both no_choice (both (tested true cs b) (both no_choice (both no_choice no_choice)))) c
tested false (c ∷ cs) b = both (both no_choice (both no_choice (both no_choice (both (tested false cs b) no_choice)))) c

module _ (W : World) (A : Around) (j : ℕ) (e : bare.Exp) (x : prog.Exp) (b : Choices) (names : Over A.names bool_type) (last : ExpElab W.table A j e x bool_type b) where
  tests-do : (all : Bool) (es : List (Place × bare.Exp)) {xs : List prog.Exp} {ts : List Typ} {cs : List Choices} → ExpsElab W.table A j (map (λ a. a.1) es) xs ts cs → AllAre bool_type ts
      → ChainElab W.table A j all (tests_of all es e) (chain_of xs x) (tested all cs b)
  tests-do all [] no_exps s = only_elab all last
  tests-do true (d ∷ es) (an_exp {x = y} {c = c} f h) s = and_elab d.0 names (subst (λ z. ExpElab W.table A j d.1 y z c) s.0 f) (tests-do true es h s.1)
  tests-do false (d ∷ es) (an_exp {x = y} {c = c} f h) s = or_elab d.0 names (subst (λ z. ExpElab W.table A j d.1 y z c) s.0 f) (tests-do false es h s.1)

bool-names : (n : ℕ) → name_count ≤ n → Over n bool_type
bool-names n le = (lt-ltb 6 n (omega (arith, le)), tt)

pub tests_done : (S M N U T : State) (C : Context) (all : Bool) (es : List (Place × bare.Exp)) (e : bare.Exp) (before : Vec Exp Global) (last r : TypedExp) (written : ℕ)
    (boxed : Box Exp Global) → IsContext N C → AreExpsOf S C (map (λ a. a.1) es) M before.items bool_type → IsExp M C e N last → Grows N U
    → Always U (λ W. type_of W last.ty ≡ bool_type) → Grows U T → Always T (λ W. W.reading.type written ≡ type_as (W.naming C.naming) (type_of W last.ty))
    → boxed.value ≡ last.exp → r.exp ≡ tree.Test all written before boxed → r.ty ≡ last.ty → IsExp S C (tests_of all es e) T r
tests_done S M N U T C all es e before last r written boxed ic h i g is g' wr v ex q =
    let nt = grows_on N U T g g' in
    let mt = grows_on M N T i.grows nt in
    record {
      grows = grows_on S M T h.parts.grows mt;
      is = subst (HasType T) (sym q) (type_later N T last.ty nt i.is);
      gives = λ W c A t.
          let cm = comes_before M T W mt c in
          let a = h.parts.gives W cm A t in
          let same : type_of W last.ty ≡ bool_type = is W (comes_before U T W g' c) in
          let b = fewer W A S.next M.next e (tree_of W.reading last.exp) (type_of W last.ty) h.parts.grows.next (i.gives W (comes_before N T W nt c) A t) in
          let le : name_count ≤ A.names = subst (λ k. name_count ≤ k) (sym t.names) ic.wide in
          let names = bool-names A.names le in
          let node = prog.chain_exp all (as_typed A bool_type) (chain_of (map (tree_of W.reading) before.items) (tree_of W.reading last.exp)) in
          let tree-is : tree_of W.reading r.exp ≡ node =
          ap (tree_of W.reading) ex ∙ tree_of-Test W.reading all written before boxed
          ∙ ap₂ (λ u x. prog.chain_exp all u (chain_of (map (tree_of W.reading) before.items) (tree_of W.reading x)))
          (wr W c ∙ written-as C W A (type_of W last.ty) t ∙ ap (as_typed A) same) v in
          subst (λ z. ElaboratesExp W A S.next (tests_of all es e) z (type_of W r.ty)) (sym tree-is)
          (subst (ElaboratesExp W A S.next (tests_of all es e) node) (sym (ap (type_of W) q ∙ same))
          (record {
            choices = tested all a.choices b.choices;
            elab = λ j l.
                chain_elab all
                (tests-do W A j e (tree_of W.reading last.exp) b.choices names (subst (λ z. ExpElab W.table A j e (tree_of W.reading last.exp) z b.choices) same (b.elab j l)) all es (a.elab j l) (h.same W cm));
            names = names;
            parameters = refl;
          }));
    }
