-- Functions that know each other, and parameters that are in scope for a while.
use Rattle.std.proofs.Common.{◌≡◌, ◌<◌, ◌≤◌, ◌+◌, ◌-◌, ℕ, suc, ◌||◌, List, [], ◌∷◌, ◌++◌, map, length, drop, slice_index_or, Vec, Global, nat_eq, refl, sym, ap, ap₂, subst, ◌∙◌}
use Rattle.ty_core.specs.declared.mark.Mark.{Mark}
use Rattle.ty_core.specs.declared.scheme.Quantified.{Quantified}
use Rattle.ty_table.specs.TypeAt.{type_at}
use Rattle.ir_plain.specs.Tree as te
use Rattle.ir_poly.specs.Prog as t
use Rattle.ir_poly.specs.Tests.{poly}
use Rattle.ir_poly.specs.Types.{in_scope}
use Rattle.ir_known.specs.Knows.{marks_of}
use Rattle.ir_tables.specs.Tables.{parameters_at, parameters_of}
use Rattle.match_compile.specs.Compile.{scoped, function, functions, past_funs, past_fun, grouped}
use Rattle.match_names.specs.Bindings.{names_of}
use Rattle.plain_tree.specs.TreeOf as plain
use Rattle.plain_tree.specs.declared.tree.Function.{Function}
use Rattle.plain_tree.specs.declared.tree.Step.{Step}
use Rattle.prog_tree.specs.TreeOf.{Reading}
use Rattle.prog_tree.specs.declared.tree.Function as source
use Rattle.general_bindings.specs.of_match_types.Views.{View, reading, Sees, Keeps, Stands, in_view}
use Rattle.general_bindings.specs.of_match_types.declared.work.Work.{Work}
use Rattle.general_bindings.specs.of_match_types.declared.work.ValueType.TheVariants.{Source}
use Rattle.general_bindings.proofs.of_match_types.Seeing.{keeps-same, keeps-on, sees-before}
use Rattle.general_bindings.specs.of_match_steps.Steps.{Puts, stand}
use Rattle.general_bindings.proofs.of_pattern_tests.Chains.{next-drop}
use Rattle.general_bindings.specs.of_exp_blocks.Giving.{Grows, Ends, over, lambda_of}
use Rattle.general_bindings.specs.of_exp_blocks.Binding.{InScope}
use Rattle.general_bindings.specs.of_exp_blocks.declared.blocks.Lambda.{Lambda}
use Rattle.general_bindings.proofs.of_exp_blocks.Growing.{grows-on, grows-by, keeps-grown, sees-through}
use Rattle.general_bindings.specs.General.{listed}
use Rattle.match_pass.specs.Reading.{function_read}
use Rattle.match_pass.specs.Going.{GivesFunction}
use Rattle.match_pass.specs.Declaring.{Groups, MemberMade, in_front, funs_read, grouping}
use Rattle.match_pass.proofs.Lists.{drop-past}

-- Parameters in scope

or-scope : (qs D E : List Quantified) (x : ℕ) → in_scope D x ≡ in_scope E x → in_scope (qs ++ D) x ≡ in_scope (qs ++ E) x
or-scope [] D E x e = e
or-scope (q ∷ qs) D E x e = ap (λ b. nat_eq q.variable x || b) (or-scope qs D E x e)

-- the parameters of the list k are in scope, before those that were
pub record Inside (old now : Work) (k : ℕ) : Type 0 where
  pub grows : Grows old now
  pub scope : (x : ℕ) → in_scope (marks_of now.scope) x ≡ in_scope (parameters_at (parameters_of old.tables) k ++ marks_of old.scope) x
  pub ends : Ends old.scope now.scope
  pub names : now.names ≡ old.names

abbrev pub inside : (k : ℕ) → View → View
inside k v = over v (listed k v ++ v.scope) v.names

pub inside-on : (old now new : Work) (k : ℕ) → Inside old now k → Keeps now new → Inside old new k
inside-on old now new k h p = record {
  grows = grows-on old now new h.grows (grows-by now new p);
  scope = λ x. ap (λ l. in_scope (marks_of l) x) p.scope ∙ h.scope x;
  ends = subst (Ends old.scope) (sym p.scope) h.ends;
  names = p.names ∙ h.names;
}

-- seen from where they are out of scope again
pub sees-inside : (old now new : Work) (k : ℕ) (v : View) → Inside old now k → Grows now new → new.scope ≡ old.scope → new.names ≡ now.names → Sees new v → Sees now (inside k v)
sees-inside old now new k v h g scope names sees =
    sees-through now new v (listed k v ++ v.scope) v.names g sees (sees.same_names ∙ ap names_of names)
    (λ x.
    or-scope (listed k v) v.scope (marks_of old.scope) x (sees.same_scope x ∙ ap (λ l. in_scope (marks_of l) x) scope)
    ∙ ap (λ ps. in_scope (parameters_at ps k ++ marks_of old.scope) x) (sees.are_parameters ∙ ap (λ ps. map (λ p. p.items) ps.items) (grows-on old now new h.grows g).parameters)
    ∙ sym (h.scope x))

-- the scope that was
pub scope-back : (old now back : List (ℕ × Mark)) (len : ℕ) → len ≡ length old → Ends old now → back ≡ drop (length now - len) now → back ≡ old
scope-back old now back len e p b = b ∙ ap (λ n. drop (length now - n) now) e ∙ p.ends

pub inside-pushed : (old now : Work) (qs : List Quantified) (k : ℕ) → Grows old now → now.names ≡ old.names → InScope old.scope now.scope qs → qs ≡ parameters_at (parameters_of old.tables) k → Inside old now k
inside-pushed old now qs k g n p e = record {
  grows = g;
  scope = λ x. p.scope x ∙ ap (λ l. in_scope (l ++ marks_of old.scope) x) e;
  ends = p.ends;
  names = n;
}

-- Functions of a group

in_front-more : (fs : List (plain.FunctionTree poly)) (f : plain.FunctionTree poly) (gs : te.Funs poly) → in_front (fs ++ f ∷ []) gs ≡ in_front fs (te.fun f.variable f.type f.function gs)
in_front-more [] f gs = refl
in_front-more (g ∷ fs) f gs = ap (te.fun g.variable g.type g.function) (in_front-more fs f gs)

in_front-none : (fs : List (plain.FunctionTree poly)) → in_front fs te.no_funs ≡ plain.funs_of fs
in_front-none [] = refl
in_front-none (f ∷ fs) = ap (te.fun f.variable f.type f.function) (in_front-none fs)

pub groups-none : (w : Work) (b c : ℕ) (fs : Reading → t.Funs) (made : List Function) → c ≡ b → made ≡ [] → Groups w w b c fs fs made
groups-none w b c fs made e none = record {
  keeps = keeps-same w;
  next = λ v sees. refl;
  gives = λ v sees. ap₂ (λ l i. in_front (map (plain.function_of (reading v)) l) (functions v.scope v.names (fs v.source) i w.next)) none e;
}

-- one function more
pub member-made : (w0 w1 w2 : Work) (f : Vec ℕ Global × ℕ × source.Function) (c ty : ℕ) (lambda : Lambda) (made more : List Function) → Stands w1 ty (in_view (Source f.1)) → w1.next ≡ w0.next → Keeps w0 w1
    → GivesFunction w1 w2 (function_read f.2) lambda
    → ((v : View) → map (plain.function_of (reading v)) more ≡ map (plain.function_of (reading v)) made ++ record { variable = c; type = type_at v.types ty; function = lambda_of v lambda } ∷ []) → MemberMade w0 w2 f c made more
member-made w0 w1 w2 f c ty lambda made more stands same kept g longer = record {
  keeps = keeps-on w0 w1 w2 kept g.keeps;
  next = λ v sees. g.next v sees ∙ ap (past_fun (function_read f.2 v.source)) same;
  gives = λ v sees.
      longer v
      ∙ ap₂ (λ y x. map (plain.function_of (reading v)) made ++ record { variable = c; type = y; function = x } ∷ []) (stands v (sees-before w1 w2 v g.keeps sees))
      (g.gives.gives v sees ∙ ap (function v.scope v.names (function_read f.2 v.source)) same);
}

pub groups-step : (old now w2 : Work) (b c d : ℕ) (fs : List (Vec ℕ Global × ℕ × source.Function)) (i : ℕ) (f : Vec ℕ Global × ℕ × source.Function) (made more : List Function) → i < length fs → f ≡ slice_index_or fs i f → d ≡ suc c
    → Groups old now b c (funs_read fs) (funs_read (drop i fs)) made → MemberMade now w2 f c made more → Groups old w2 b d (funs_read fs) (funs_read (drop (i + 1) fs)) more
groups-step old now w2 b c d fs i f made more lt is e h m = record {
  keeps = keeps-on old now w2 h.keeps m.keeps;
  next = λ v sees. ap (past_funs (rest v)) (m.next v sees) ∙ sym (ap (λ l. past_funs l now.next) (here v)) ∙ h.next v (sees-before now w2 v m.keeps sees);
  gives = λ v sees.
      let all = map (plain.function_of (reading v)) made in
      ap (λ l. in_front l (functions v.scope v.names (rest v) d w2.next)) (m.gives v sees)
      ∙ in_front-more all (here_is v) (functions v.scope v.names (rest v) d w2.next)
      ∙ ap₂ (λ j n. in_front all (te.fun c (scoped v.scope (v.source.type f.1)) (function v.scope v.names (function_read f.2 v.source) now.next) (functions v.scope v.names (rest v) j n))) e (m.next v sees)
      ∙ sym (ap (λ l. in_front all (functions v.scope v.names l c now.next)) (here v))
      ∙ h.gives v (sees-before now w2 v m.keeps sees);
}
  where
    here_is : View → plain.FunctionTree poly
    here_is v = record { variable = c; type = scoped v.scope (v.source.type f.1); function = function v.scope v.names (function_read f.2 v.source) now.next }

    rest : View → t.Funs
    rest v = funs_read (drop (i + 1) fs) v.source

    here : (v : View) → funs_read (drop i fs) v.source ≡ t.a_fun f.0.items (v.source.type f.1) (function_read f.2 v.source) (rest v)
    here v = ap (λ l. funs_read l v.source) (next-drop fs i f lt is)

pub groups-end : (old now : Work) (b c : ℕ) (fs : List (Vec ℕ Global × ℕ × source.Function)) (i : ℕ) (made : List Function) → length fs ≤ i → Groups old now b c (funs_read fs) (funs_read (drop i fs)) made
    → (d : ℕ) → Groups old now b d (funs_read fs) (funs_read []) made
groups-end old now b c fs i made le h d = record {
  keeps = h.keeps;
  next = λ v sees. sym (ap (λ l. past_funs (funs_read l v.source) now.next) (drop-past fs i le)) ∙ h.next v sees;
  gives = λ v sees.
      sym (ap (λ l. in_front (map (plain.function_of (reading v)) made) (functions v.scope v.names (funs_read l v.source) c now.next)) (drop-past fs i le)) ∙ h.gives v sees;
}

-- the group as a step
module _ {old w1 w2 w3 : Work} {s m : List Step} {qs : List Quantified} (k first : ℕ) (fs : List (Vec ℕ Global × ℕ × source.Function)) (made : List Function) (grows1 : Grows old w1) (names1 : w1.names ≡ old.names) (same1 : w1.next ≡ old.next)
    (pushed : InScope old.scope w1.scope qs) (listed_so : qs ≡ parameters_at (parameters_of old.tables) k) (g : (c : ℕ) → Groups w1 w2 first c (funs_read fs) (funs_read []) made) (grown : Grows w2 w3)
    (len : ℕ) (counted : len ≡ length old.scope) (back : w3.scope ≡ drop (length w2.scope - len) w2.scope) (names : w3.names ≡ w2.names) (same : w3.next ≡ w2.next)
    (puts : (w : Work) → Puts w s m (λ v rest. grouped (parameters_at v.parameters k) (plain.funs_of (map (plain.function_of (reading v)) made)) rest)) where
  in_two : Inside old w2 k
  in_two = inside-on old w1 w2 k (inside-pushed old w1 qs k grows1 names1 pushed listed_so) (g 0).keeps

  scope : w3.scope ≡ old.scope
  scope = scope-back old.scope w2.scope w3.scope len counted in_two.ends back

  seen : (v : View) → Sees w3 v → Sees w2 (inside k v)
  seen v sees = sees-inside old w2 w3 k v in_two grown scope names sees

  pub group-next : (v : View) → Sees w3 v → w3.next ≡ past_funs (funs_read fs v.source) old.next
  group-next v sees = same ∙ (g 0).next (inside k v) (seen v sees) ∙ ap (past_funs (funs_read fs v.source)) same1

  pub group-keeps : Keeps old w3
  group-keeps = keeps-grown old w3 (grows-on old w2 w3 in_two.grows grown) scope (names ∙ in_two.names)

  pub group-puts : Puts w3 s m (grouping k fs first old.next)
  group-puts = record {
    leads = λ v sees rest.
        (puts w3).leads v sees rest
        ∙ ap (λ gs. stand v s (grouped (listed k v) gs rest))
        (sym (in_front-none (map (plain.function_of (reading v)) made)) ∙ (g 0).gives (inside k v) (seen v sees)
        ∙ ap (functions (listed k v ++ v.scope) v.names (funs_read fs v.source) first) same1);
  }
