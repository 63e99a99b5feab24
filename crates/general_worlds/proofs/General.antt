-- Types of generalised variables.
use Rattle.std.proofs.Common.{◌≡◌, ◌<◌, ◌≤◌, ◌⊎◌, inl, inr, ◌||◌, ◌&&◌, not, ℕ, Bool, true, false, nat_eq, if◌then◌else◌, List, [], ◌∷◌, ◌++◌, map, refl, sym, ap, ap₂, subst, ◌∙◌, arith}
use Rattle.std.proofs.lemmas.Bool.{and_parts, and_from, eq-eqb}
use Rattle.ty_core.specs.Types.{Typ, Typs, var, con, none, more}
use Rattle.ty_core.specs.Statics.{replace, replace_all}
use Rattle.ty_core.specs.declared.mark.Mark.{Mark}
use Rattle.ty_core.specs.declared.scheme.Quantified.{Quantified}
use Rattle.ty_table.specs.TypeAt.{type_at}
use Rattle.ty_solve.specs.Substitution.{sub, subs, is_in, are_in, is_open}
use Rattle.core_rules.specs.Objects.{Over}
use Rattle.core_rules.specs.Typing.{all_general, is_general}
use Rattle.ir_poly.specs.Types.{are_new, changed, in_scope, is_declarable, over}
use Rattle.ir_poly.proofs.ReplaceLemmas.{replace-agree}
use Rattle.elab_typed.specs.Contexts.{Around}
use Rattle.elab_state.specs.States.{types_in, made, said_in, limit_in, general_in, dead_level}
use Rattle.elab_state.proofs.Solving.{over-deeper}
use Rattle.elab_state.proofs.Typed.{in-below}
use Rattle.elab_state.specs.declared.state.State.{State}
use Rattle.elab_steps.specs.Growing.{HasGeneral}
use Rattle.elab_steps.specs.Tidy.{IsTidy}
use Rattle.elab_steps.specs.World.{World, Comes, type_of}
use Rattle.elab_context.specs.Telling.{IsGeneral}
use Rattle.general_worlds.specs.Tidy.{AreOpen}
use Rattle.general_worlds.proofs.Scoping.{not-in}

mutual
  itself : (t : Typ) → replace var t ≡ t
  itself (var v) = refl
  itself (con y ts) = ap (con y) (themselves ts)

  themselves : (ts : Typs) → replace_all var ts ≡ ts
  themselves none = refl
  themselves (more t ts) = ap₂ more (itself t) (themselves ts)

changed-out : (qs : List Quantified) (ts : List Typ) (s : ℕ → Typ) (v : ℕ) → in_scope qs v ≡ false → changed qs ts s v ≡ s v
changed-out [] ts s v n = refl
changed-out (q ∷ qs) [] s v n = refl
changed-out (q ∷ qs) (t ∷ ts) s v n = by (nat_eq q.variable v) n (changed-out qs ts s v)
  where
    by : (b : Bool) → (b || in_scope qs v) ≡ false → (in_scope qs v ≡ false → changed qs ts s v ≡ s v) → (if b then t else changed qs ts s v) ≡ s v
    by true n f = cc
    by false n f = f n

changed-same : (qs : List Quantified) (ts : List Typ) (s f : ℕ → Typ) (v : ℕ) → s v ≡ f v → changed qs ts s v ≡ changed qs ts f v
changed-same [] ts s f v e = e
changed-same (q ∷ qs) [] s f v e = e
changed-same (q ∷ qs) (t ∷ ts) s f v e = ap (λ u. if nat_eq q.variable v then t else u) (changed-same qs ts s f v e)

replace-none : (qs ps : List Quantified) (ts : List Typ) (t : Typ) → over ps t ≡ true → ((v : ℕ) → in_scope ps v ≡ true → in_scope qs v ≡ false) → replace (changed qs ts var) t ≡ t
replace-none qs ps ts t o h = replace-agree ps t o (changed qs ts var) var (λ v i. changed-out qs ts var v (h v i)) ∙ itself t

or-left : (a b : Bool) → a ≡ true → (a || b) ≡ true
or-left true b e = refl
or-left false b e = cc

or-right : (a b : Bool) → b ≡ true → (a || b) ≡ true
or-right true b e = refl
or-right false b e = e

mutual
  sub-parts : (h r g : ℕ → Typ) (t : Typ) → ((v : ℕ) → is_in v t ≡ true → h v ≡ replace r (g v)) → sub h t ≡ replace r (sub g t)
  sub-parts h r g (var v) f = f v (eq-eqb v v refl)
  sub-parts h r g (con y ts) f = ap (con y) (subs-parts h r g ts f)

  subs-parts : (h r g : ℕ → Typ) (ts : Typs) → ((v : ℕ) → are_in v ts ≡ true → h v ≡ replace r (g v)) → subs h ts ≡ replace_all r (subs g ts)
  subs-parts h r g none f = refl
  subs-parts h r g (more t ts) f =
      ap₂ more (sub-parts h r g t (λ v i. f v (or-left (is_in v t) (are_in v ts) i))) (subs-parts h r g ts (λ v i. f v (or-right (is_in v t) (are_in v ts) i)))

marks-general : (qs : List Quantified) → are_new qs [] ≡ true → all_general (map (λ q. q.mark) qs) ≡ true
marks-general [] h = refl
marks-general (q ∷ qs) h =
    let p = and_parts (is_declarable q.mark) (not (in_scope qs q.variable) && are_new qs []) h in
    let r = and_parts (not (in_scope qs q.variable)) (are_new qs []) p.1 in
    and_from (is_general q.mark) (all_general (map (λ q. q.mark) qs)) (general q.mark p.0) (marks-general qs r.1)
  where
    general : (m : Mark) → is_declarable m ≡ true → is_general m ≡ true
    general Mark.Any h = refl
    general Mark.Equality h = refl
    general (Mark.Class c) h = cc

module _ (l : ℕ) (qs : List Quantified) (T : State) (deep : l < dead_level) (tidy : IsTidy T l) (new : are_new qs [] ≡ true)
    (general : (v : ℕ) → in_scope qs v ≡ true → in_scope (general_in T) v ≡ true) (W : World) (c : Comes T W) where
  apart : (v : ℕ) → in_scope (W.parameters l) v ≡ true → in_scope qs v ≡ false
  apart v i = not-in (in_scope qs v) (in_scope (general_in T) v) (c.apart l v i) (general v)

  -- an open variable is itself, or of the declarations around
  value-of : (v : ℕ) → v < made T → is_open (said_in T v) ≡ true → (W.value v ≡ var v) ⊎ (over (W.parameters l) (W.value v) ≡ true)
  value-of v lt o = by (tidy.settled v lt)
    where
      by : ((limit_in T v).level ≤ l) ⊎ ((limit_in T v).level ≡ dead_level) → (W.value v ≡ var v) ⊎ (over (W.parameters l) (W.value v) ≡ true)
      by (inl le) = inr (over-deeper W.parameters W.nested (limit_in T v).level l (W.value v) le (c.within v lt (omega (arith, le, deep))))
      by (inr e) = inl (c.itself v (tidy.ended v lt o e))

  part-of : (ts : List Typ) (v : ℕ) → v < made T → is_open (said_in T v) ≡ true → changed qs ts W.value v ≡ replace (changed qs ts var) (W.value v)
  part-of ts v lt o = by (in_scope qs v) refl (value-of v lt o)
    where
      same : W.value v ≡ var v → changed qs ts W.value v ≡ replace (changed qs ts var) (W.value v)
      same e = changed-same qs ts W.value var v e ∙ ap (replace (changed qs ts var)) (sym e)

      by : (b : Bool) → in_scope qs v ≡ b → (W.value v ≡ var v) ⊎ (over (W.parameters l) (W.value v) ≡ true) → changed qs ts W.value v ≡ replace (changed qs ts var) (W.value v)
      by true i k = same (c.itself v (general v i))
      by false i (inl e) = same e
      by false i (inr k) = changed-out qs ts W.value v i ∙ sym (replace-none qs (W.parameters l) ts (W.value v) k apart)

  pub open-general : (A : Around) → A.parameters ≡ W.parameters l → (k : ℕ) → HasGeneral T qs k → AreOpen T k → Over A.names (type_of W k)
      → over (qs ++ A.parameters) (type_of W k) ≡ true → (has : Bool) → (has ≡ false → over A.parameters (type_of W k) ≡ true) → IsGeneral W A qs k has
  open-general A same k h o names body has plain = record {
    marks = marks-general qs new;
    names = names;
    body = body;
    parts = λ ts. sub-parts (changed qs ts W.value) (changed qs ts var) W.value (W.raw k) (λ v i.
        let j : is_in v (type_at (types_in T) k) ≡ true = subst (λ t. is_in v t ≡ true) (c.types k h.held) i in
        part-of ts v (in-below (made T) v (type_at (types_in T) k) j h.below) (o v j));
    none = λ e ts. replace-none qs A.parameters ts (type_of W k) (plain e) (λ v i. apart v (subst (λ ps. in_scope ps v ≡ true) same i));
  }
