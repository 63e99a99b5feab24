-- Bindings, generalised or not.
use Rattle.std.proofs.Common.{◌≡◌, ◌<◌, ◌≤◌, ◌+◌, ◌-◌, ℕ, suc, List, [], ◌++◌, length, drop, slice_index_or, Option, Some, None, refl, sym, ap, ap₂, subst, ◌∙◌}
use Rattle.ty_core.specs.Types.{Typ}
use Rattle.ty_core.specs.declared.scheme.Quantified.{Quantified}
use Rattle.ir_plain.specs.Tree as te
use Rattle.ir_poly.specs.Prog as t
use Rattle.ir_poly.specs.Tests.{Tests}
use Rattle.ir_tables.specs.Tables.{parameters_at, parameters_of}
use Rattle.match_compile.specs.Compile.{making, value_at, tests, spots, spot, Spots, no_spots, past_pat, atom, scoped, shape, shaped, plain, alone, recorded, general_shape, past_shape, shape_spots, past_split, split_spots, split, part, record_type, together, otherwise, initial, bindings, past_binds, binds_spots}
use Rattle.ir_values.specs.Primitives.{bind_name}
use Rattle.plain_tree.specs.declared.tree.Step.{Step}
use Rattle.prog_tree.specs.TreeOf.{Reading, tree_of, pat_of}
use Rattle.prog_tree.specs.declared.tree.Binding.{Binding}
use Rattle.prog_tree.specs.declared.tree.Rule.{Rule}
use Rattle.prog_tree.proofs.ExpOf.{rule_of-parts}
use Rattle.general_bindings.specs.of_match_types.Views.{View, Sees, Keeps, in_view}
use Rattle.general_bindings.specs.of_match_types.declared.work.Work.{Work}
use Rattle.general_bindings.specs.of_match_types.declared.work.ValueType.TheVariants.{Source}
use Rattle.general_bindings.proofs.of_match_types.Seeing.{keeps-same, keeps-on, sees-before}
use Rattle.general_bindings.specs.of_match_steps.Steps.{Puts, stand}
use Rattle.general_bindings.specs.of_pattern_tests.Spots.{spots_onto}
use Rattle.general_bindings.specs.of_pattern_tests.Tasks.{tests_of}
use Rattle.general_bindings.specs.of_pattern_tests.declared.spots.Spot.{Spot}
use Rattle.general_bindings.proofs.of_pattern_tests.Chains.{next-drop}
use Rattle.general_bindings.specs.of_exp_steps.Making.{Makes}
use Rattle.general_bindings.specs.of_exp_blocks.Giving.{Grows}
use Rattle.general_bindings.specs.of_exp_blocks.Binding.{InScope}
use Rattle.general_bindings.proofs.of_exp_blocks.Growing.{grows-on, keeps-grown}
use Rattle.general_bindings.specs.General.{listed, general, separate, splitting, found, past, shape_of, past_of, found_of, made_of}
use Rattle.match_pass.specs.Reading.{expression}
use Rattle.match_pass.specs.Declaring.{Binds, Generalises, bind_before, binds_read}
use Rattle.match_pass.proofs.Lists.{drop-past}
use Rattle.match_pass.proofs.Grouping.{Inside, inside, inside-on, inside-pushed, scope-back, sees-inside}

-- Bindings that are generalised

split-is : (D qs : List Quantified) (u : Typ) (r : ℕ) (vs : Spots) (l k : ℕ) (rest : Tests) → split D qs u r vs l k rest ≡ splitting (qs ++ D) qs u r vs l k rest
split-is D qs u r no_spots l k rest = refl
split-is D qs u r (spot x a t vs) l k rest = ap (te.let_in (suc (suc k)) qs (scoped (qs ++ D) t) (te.block (part (qs ++ D) qs u r l t k))) (split-is D qs u r vs (suc l) (suc (suc (suc k))) rest)

module _ {w0 w1 w2 w3 w4 : Work} {n0 n1 : List Step} {x : ℕ} {ps : List Quantified} (k ty : ℕ) (r : Rule) (before later : List Spot) (empty : n0 ≡ []) (grows1 : Grows w0 w1) (names1 : w1.names ≡ w0.names) (same1 : w1.next ≡ w0.next)
    (pushed : InScope w0.scope w1.scope ps) (listed_so : ps ≡ parameters_at (parameters_of w0.tables) k) (made : Makes w1 w2 n0 n1 (expression r.exp) x) (kept : Keeps w2 w3) (grown : Grows w3 w4)
    (len : ℕ) (counted : len ≡ length w0.scope) (back : w4.scope ≡ drop (length w3.scope - len) w3.scope) (same : w4.next ≡ w3.next) (names : w4.names ≡ w3.names) where
  in_two : Inside w0 w2 k
  in_two = inside-on w0 w1 w2 k (inside-pushed w0 w1 ps k grows1 names1 pushed listed_so) made.keeps

  in_three : Inside w0 w3 k
  in_three = inside-on w0 w2 w3 k in_two kept

  scope : w4.scope ≡ w0.scope
  scope = scope-back w0.scope w3.scope w4.scope len counted in_three.ends back

  seen3 : (v : View) → Sees w4 v → Sees w3 (inside k v)
  seen3 v sees = sees-inside w0 w3 w4 k v in_three grown scope names sees

  seen2 : (v : View) → Sees w4 v → Sees w2 (inside k v)
  seen2 v sees = sees-before w2 w3 (inside k v) kept (seen3 v sees)

  value-is : (v : View) → Sees w4 v → value_at (tree_of v.source r.exp) w0.next ≡ x
  value-is v sees = ap (value_at (tree_of v.source r.exp)) (sym same1) ∙ made.is (inside k v) (seen2 v sees)

  general-keeps : Keeps w0 w4
  general-keeps = keeps-grown w0 w4 (grows-on w0 w3 w4 in_three.grows grown) scope (names ∙ in_three.names)

  -- the steps of the value
  abbrev pub valued : View → Tests → Tests
  valued v rest = making v.scope v.names (tree_of v.source r.exp) w1.next rest

  pub value-puts : Puts w2 [] n1 valued
  value-puts = subst (λ l. Puts w2 l n1 valued) empty made.puts

  pub alone-generalises : {s m : List Step} (y : ℕ) → ((R : Reading) → general_shape (pat_of R r.pat) ≡ alone y) → ((v : View) → w3.next ≡ suc w2.next) → ((v : View) → spots_onto v later no_spots ≡ spot y w2.next (v.source.type ty) (spots_onto v before no_spots))
      → ((f : View → Tests → Tests) → Puts w2 [] n1 f → Puts w3 s m (general k w2.next (in_view (Source ty)) (λ v. f v (te.ret (atom x))))) → Generalises w0 w4 s m k ty r before later
  alone-generalises {s = s} y sole next more puts = record {
    keeps = general-keeps;
    next = λ v sees.
        same ∙ next v ∙ ap suc made.next ∙ ap (λ i. suc (suc i)) (sym (value-is v sees))
        ∙ sym (ap (λ sh. past_shape sh (pat_of v.source r.pat) (v.source.type ty) (value_at (tree_of v.source r.exp) w0.next)) (sole v.source));
    spots = λ v sees.
        more v
        ∙ ap (λ n. spot y n (v.source.type ty) (spots_onto v before no_spots)) (made.next ∙ ap suc (sym (value-is v sees)))
        ∙ sym (ap (λ sh. shape_spots sh (pat_of v.source r.pat) (v.source.type ty) (value_at (tree_of v.source r.exp) w0.next) (spots_onto v before no_spots)) (sole v.source));
    puts = record {
      leads = λ v sees rest.
          let D = listed k v ++ v.scope in
          let e = tree_of v.source r.exp in
          let p = pat_of v.source r.pat in
          let u = v.source.type ty in
          let i = value_at e w0.next in
          (puts valued value-puts).leads (inside k v) (seen3 v sees) rest
          ∙ ap₂ (λ n j. stand v s (te.let_in n (listed k v) (scoped D u) (te.block (making D v.names e j (te.ret (atom x)))) rest)) made.next same1
          ∙ ap (λ z. stand v s (te.let_in (suc z) (listed k v) (scoped D u) (te.block (making D v.names e w0.next (te.ret (atom z)))) rest)) (sym (value-is v sees))
          ∙ sym (ap (λ sh. stand v s (shaped sh v.scope (listed k v) p u i rest (making D v.names e w0.next (te.ret (atom i)))
          (making D v.names e w0.next (tests D v.names p u (suc i) i (together D (spots p u (suc i) i no_spots) (past_pat p (suc i))))) rest)) (sole v.source));
    };
  }

  pub recorded-generalises : {s m : List Step} → ((R : Reading) → general_shape (pat_of R r.pat) ≡ recorded) → ((v : View) → w3.next ≡ past_split (found r.pat (Source ty) w2.next x v) (suc (suc (suc (past r.pat w2.next v)))))
      → ((v : View) → spots_onto v later no_spots ≡ split_spots (found r.pat (Source ty) w2.next x v) (suc (suc (suc (past r.pat w2.next v)))) (spots_onto v before no_spots))
      → ((f : View → Tests → Tests) → Puts w2 [] n1 f → Puts w3 s m (separate k r.pat (Source ty) w2.next x f)) → Generalises w0 w4 s m k ty r before later
  recorded-generalises {s = s} sole next more puts = record {
    keeps = general-keeps;
    next = λ v sees.
        let p = pat_of v.source r.pat in
        let u = v.source.type ty in
        same ∙ next v ∙ ap (λ n. past_split (spots p u n x no_spots) (suc (suc (suc (past_pat p n))))) made.next
        ∙ ap (λ z. past_split (spots p u (suc z) z no_spots) (suc (suc (suc (past_pat p (suc z)))))) (sym (value-is v sees))
        ∙ sym (ap (λ sh. past_shape sh p u (value_at (tree_of v.source r.exp) w0.next)) (sole v.source));
    spots = λ v sees.
        let p = pat_of v.source r.pat in
        let u = v.source.type ty in
        let us = spots_onto v before no_spots in
        more v ∙ ap (λ n. split_spots (spots p u n x no_spots) (suc (suc (suc (past_pat p n)))) us) made.next
        ∙ ap (λ z. split_spots (spots p u (suc z) z no_spots) (suc (suc (suc (past_pat p (suc z))))) us) (sym (value-is v sees))
        ∙ sym (ap (λ sh. shape_spots sh p u (value_at (tree_of v.source r.exp) w0.next) us) (sole v.source));
    puts = record {
      leads = λ v sees rest.
          (puts valued value-puts).leads (inside k v) (seen3 v sees) rest
          ∙ ap₂ (λ n j. stand v s (all v n x j rest)) made.next same1
          ∙ ap (λ z. stand v s (all v (suc z) z w0.next rest)) (sym (value-is v sees))
          ∙ ap (stand v s) (turned v (value_at (tree_of v.source r.exp) w0.next) rest)
          ∙ sym (ap (λ sh. let D = listed k v ++ v.scope in
          let e = tree_of v.source r.exp in
          let p = pat_of v.source r.pat in
          let u = v.source.type ty in
          let i = value_at e w0.next in
          stand v s (shaped sh v.scope (listed k v) p u i rest (making D v.names e w0.next (te.ret (atom i)))
          (making D v.names e w0.next (tests D v.names p u (suc i) i (together D (spots p u (suc i) i no_spots) (past_pat p (suc i))))) rest)) (sole v.source));
    };
  }
    where
      body : View → (n a j : ℕ) → Tests
      body v n a j =
          let D = listed k v ++ v.scope in
          let p = pat_of v.source r.pat in
          let vs = spots p (v.source.type ty) n a no_spots in
          te.first (making D v.names (tree_of v.source r.exp) j (tests D v.names p (v.source.type ty) n a (together D vs (past_pat p n))))
          (otherwise D (suc (past_pat p n)) (record_type vs) a (initial bind_name))

      all : View → (n a j : ℕ) → Tests → Tests
      all v n a j rest =
          let D = listed k v ++ v.scope in
          let p = pat_of v.source r.pat in
          let vs = spots p (v.source.type ty) n a no_spots in
          let i = past_pat p n in
          te.let_in (suc (suc i)) (listed k v) (scoped D (record_type vs)) (te.block (body v n a j)) (splitting D (listed k v) (record_type vs) (suc (suc i)) vs 1 (suc (suc (suc i))) rest)

      turned : (v : View) (z : ℕ) (rest : Tests) → all v (suc z) z w0.next rest
          ≡ (let D = listed k v ++ v.scope in
          let p = pat_of v.source r.pat in
          let vs = spots p (v.source.type ty) (suc z) z no_spots in
          let i = past_pat p (suc z) in
          te.let_in (suc (suc i)) (listed k v) (scoped D (record_type vs)) (te.block (body v (suc z) z w0.next)) (split v.scope (listed k v) (record_type vs) (suc (suc i)) vs 1 (suc (suc (suc i))) rest))
      turned v z rest =
          let D = listed k v ++ v.scope in
          let p = pat_of v.source r.pat in
          let vs = spots p (v.source.type ty) (suc z) z no_spots in
          let i = past_pat p (suc z) in
          ap (te.let_in (suc (suc i)) (listed k v) (scoped D (record_type vs)) (te.block (body v (suc z) z w0.next))) (sym (split-is v.scope (listed k v) (record_type vs) (suc (suc i)) vs 1 (suc (suc (suc i))) rest))

  -- of whichever shape it is
  pub shape-generalises : {s m : List Step} (sole : Option ℕ) → ((R : Reading) → general_shape (pat_of R r.pat) ≡ shape_of sole) → ((v : View) → w3.next ≡ past_of sole r.pat (Source ty) w2.next x v)
      → ((v : View) → spots_onto v later no_spots ≡ found_of sole r.pat (Source ty) w2.next x v (spots_onto v before no_spots))
      → ((f : View → Tests → Tests) → Puts w2 [] n1 f → Puts w3 s m (made_of sole k r.pat (Source ty) w2.next x f)) → Generalises w0 w4 s m k ty r before later
  shape-generalises (Some y) is next more puts = alone-generalises y is next more puts
  shape-generalises None is next more puts = recorded-generalises is next more puts

-- Bindings one after the other

pub binds-none : (w : Work) (s : List Step) (k : ℕ) (bs : Reading → t.Binds) (found : List Spot) → Binds w w s s k bs bs found found
binds-none w s k bs found = record { keeps = keeps-same w; next = λ v sees. refl; spots = λ v sees. refl; leads = record { leads = λ v sees r. refl } }

pub binds-on : (a b c : Work) (s m l : List Step) (k : ℕ) (all mid rest : Reading → t.Binds) (f g h : List Spot) → Binds a b s m k all mid f g → Binds b c m l k mid rest g h → Binds a c s l k all rest f h
binds-on a b c s m l k all mid rest f g h p q = record {
  keeps = keeps-on a b c p.keeps q.keeps;
  next = λ v sees. q.next v sees ∙ p.next v (sees-before b c v q.keeps sees);
  spots = λ v sees. q.spots v sees ∙ p.spots v (sees-before b c v q.keeps sees);
  leads = record { leads = λ v sees r. q.leads.leads v sees r ∙ p.leads.leads v (sees-before b c v q.keeps sees) r };
}

binds-as : (a b : Work) (s m : List Step) (k : ℕ) (all mid rest : Reading → t.Binds) (f g : List Spot) → ((R : Reading) → mid R ≡ all R) → Binds a b s m k all rest f g → Binds a b s m k mid rest f g
binds-as a b s m k all mid rest f g e p = record {
  keeps = p.keeps;
  next = λ v sees. p.next v sees ∙ sym (ap (λ x. past_binds (listed k v) x a.next) (e v.source));
  spots = λ v sees. p.spots v sees ∙ sym (ap (λ x. binds_spots (listed k v) x a.next (spots_onto v f no_spots)) (e v.source));
  leads = record { leads = λ v sees r. p.leads.leads v sees r ∙ sym (ap (λ x. stand v s (bindings v.scope v.names (listed k v) x a.next r)) (e v.source)) };
}

pub binds-step : (start now new : Work) (s m l : List Step) (k : ℕ) (bs : List (Binding × Rule)) (i : ℕ) (b : Binding × Rule) (f g h : List Spot) → i < length bs → b ≡ slice_index_or bs i b
    → Binds start now s m k (binds_read bs) (binds_read (drop i bs)) f g → ((rest : Reading → t.Binds) → Binds now new m l k (bind_before b rest) rest g h)
    → Binds start new s l k (binds_read bs) (binds_read (drop (i + 1) bs)) f h
binds-step start now new s m l k bs i b f g h lt is p q =
    binds-on start now new s m l k (binds_read bs) (binds_read (drop i bs)) (binds_read (drop (i + 1) bs)) f g h p
    (binds-as now new m l k (bind_before b (binds_read (drop (i + 1) bs))) (binds_read (drop i bs)) (binds_read (drop (i + 1) bs)) g h
    (λ R. ap (λ x. binds_read x R) (next-drop bs i b lt is) ∙ ap (λ x. t.a_bind b.0.place b.0.general x.pat (R.type b.0.ty) x.exp (binds_read (drop (i + 1) bs) R)) (rule_of-parts R b.1)) (q (binds_read (drop (i + 1) bs))))

pub binds-end : (start now : Work) (s m : List Step) (k : ℕ) (bs : List (Binding × Rule)) (i : ℕ) (f g : List Spot) → length bs ≤ i → Binds start now s m k (binds_read bs) (binds_read (drop i bs)) f g
    → Binds start now s m k (binds_read bs) (binds_read []) f g
binds-end start now s m k bs i f g le p = subst (λ l. Binds start now s m k (binds_read bs) (binds_read l) f g) (drop-past bs i le) p

-- one that isn't generalised
pub plain-binds : {w0 w1 w2 : Work} {s m l : List Step} {x : ℕ} (k : ℕ) (b : Binding) (r : Rule) (f g : List Spot) → ((p : t.Pat) → shape (parameters_at (parameters_of w0.tables) k) b.general p ≡ plain) → Makes w0 w1 s m (expression r.exp) x
    → ((v : View) → w2.next ≡ past_pat (pat_of v.source r.pat) w1.next) → Keeps w1 w2
    → ((v : View) → spots_onto v g no_spots ≡ spots (pat_of v.source r.pat) (v.source.type b.ty) w1.next x (spots_onto v f no_spots)) → Puts w2 m l (tests_of r.pat (Source b.ty) w1.next x)
    → (rest : Reading → t.Binds) → Binds w0 w2 s l k (bind_before (b, r) rest) rest f g
plain-binds {w0 = w0} {w1 = w1} {w2 = w2} {s = s} {m = m} {l = l} {x = x} k b r f g shaped_so made next kept spotted puts rest = record {
  keeps = keeps-on w0 w1 w2 made.keeps kept;
  next = λ v sees.
      ap (past_binds (listed k v) (rest v.source)) (next v ∙ ap (past_pat (pat_of v.source r.pat)) (number v sees)
      ∙ sym (ap (λ sh. past_shape sh (pat_of v.source r.pat) (v.source.type b.ty) (at v)) (shape-is v sees)));
  spots = λ v sees.
      let us = spots_onto v f no_spots in
      ap₂ (λ n vs. binds_spots (listed k v) (rest v.source) n vs) (next v) (spotted v)
      ∙ ap₂ (λ n z. binds_spots (listed k v) (rest v.source) (past_pat (pat_of v.source r.pat) n) (spots (pat_of v.source r.pat) (v.source.type b.ty) n z us)) (number v sees) (sym (value v sees))
      ∙ sym (ap (λ sh. binds_spots (listed k v) (rest v.source) (past_shape sh (pat_of v.source r.pat) (v.source.type b.ty) (at v)) (shape_spots sh (pat_of v.source r.pat) (v.source.type b.ty) (at v) us)) (shape-is v sees));
  leads = record {
    leads = λ v sees tail.
        let p = pat_of v.source r.pat in
        let e = tree_of v.source r.exp in
        let u = v.source.type b.ty in
        let D = listed k v ++ v.scope in
        puts.leads v sees (bindings v.scope v.names (listed k v) (rest v.source) w2.next tail)
        ∙ made.puts.leads v (sees-before w1 w2 v kept sees) (tests v.scope v.names p u w1.next x (bindings v.scope v.names (listed k v) (rest v.source) w2.next tail))
        ∙ ap (λ n. stand v s (making v.scope v.names e w0.next (tests v.scope v.names p u w1.next x (bindings v.scope v.names (listed k v) (rest v.source) n tail)))) (next v)
        ∙ ap₂ (λ n z. stand v s (making v.scope v.names e w0.next (tests v.scope v.names p u n z (bindings v.scope v.names (listed k v) (rest v.source) (past_pat p n) tail)))) (number v sees) (sym (value v sees))
        ∙ sym (ap (λ sh. let following = bindings v.scope v.names (listed k v) (rest v.source) (past_shape sh p u (at v)) tail in
        stand v s (shaped sh v.scope (listed k v) p u (at v) (making v.scope v.names e w0.next (tests v.scope v.names p u (suc (at v)) (at v) following)) (making D v.names e w0.next (te.ret (atom (at v))))
        (making D v.names e w0.next (tests D v.names p u (suc (at v)) (at v) (together D (spots p u (suc (at v)) (at v) no_spots) (past_pat p (suc (at v)))))) following)) (shape-is v sees));
  };
}
  where
    at : View → ℕ
    at v = value_at (tree_of v.source r.exp) w0.next

    value : (v : View) → Sees w2 v → at v ≡ x
    value v sees = made.is v (sees-before w1 w2 v kept sees)

    number : (v : View) → Sees w2 v → w1.next ≡ suc (at v)
    number v sees = made.next ∙ ap suc (sym (value v sees))

    shape-is : (v : View) → Sees w2 v → shape (listed k v) b.general (pat_of v.source r.pat) ≡ plain
    shape-is v sees =
        ap (λ ps. shape (parameters_at ps k) b.general (pat_of v.source r.pat)) ((sees-before w0 w2 v (keeps-on w0 w1 w2 made.keeps kept) sees).are_parameters) ∙ shaped_so (pat_of v.source r.pat)

-- what stands for a binding that isn't generalised is of no account in one that is
either-way : (P : t.Pat) (D qs : List Quantified) (p : t.Pat) (u : Typ) (i : ℕ) (a b value all rest : Tests) → shaped (general_shape P) D qs p u i a value all rest ≡ shaped (general_shape P) D qs p u i b value all rest
either-way t.any_pat D qs p u i a b value all rest = refl
either-way (t.variable_pat x) D qs p u i a b value all rest = refl
either-way (t.constant_pat l) D qs p u i a b value all rest = refl
either-way (t.con_pat c) D qs p u i a b value all rest = refl
either-way (t.con_of_pat c y q) D qs p u i a b value all rest = refl
either-way (t.ref_of_pat y q) D qs p u i a b value all rest = refl
either-way (t.exn_pat x) D qs p u i a b value all rest = refl
either-way (t.exn_of_pat x y q) D qs p u i a b value all rest = refl
either-way (t.fields_pat further ps) D qs p u i a b value all rest = refl
either-way (t.as_pat x q) D qs p u i a b value all rest = refl

-- one that is
pub general-binds : {w0 w1 : Work} {s m : List Step} (k : ℕ) (b : Binding) (r : Rule) (f g : List Spot) → ((p : t.Pat) → shape (parameters_at (parameters_of w0.tables) k) b.general p ≡ general_shape p)
    → Generalises w0 w1 s m k b.ty r f g → (rest : Reading → t.Binds) → Binds w0 w1 s m k (bind_before (b, r) rest) rest f g
general-binds {w0 = w0} {w1 = w1} {s = s} {m = m} k b r f g shaped_so h rest = record {
  keeps = h.keeps;
  next = λ v sees. ap (past_binds (listed k v) (rest v.source)) (number v sees);
  spots = λ v sees.
      ap₂ (λ n vs. binds_spots (listed k v) (rest v.source) n vs) (h.next v sees) (h.spots v sees)
      ∙ sym (ap (λ sh. binds_spots (listed k v) (rest v.source) (past_shape sh (pat_of v.source r.pat) (v.source.type b.ty) (at v)) (shape_spots sh (pat_of v.source r.pat) (v.source.type b.ty) (at v) (spots_onto v f no_spots))) (shape-is v sees));
  leads = record {
    leads = λ v sees tail.
        let p = pat_of v.source r.pat in
        let e = tree_of v.source r.exp in
        let u = v.source.type b.ty in
        let D = listed k v ++ v.scope in
        let value = making D v.names e w0.next (te.ret (atom (at v))) in
        let all = making D v.names e w0.next (tests D v.names p u (suc (at v)) (at v) (together D (spots p u (suc (at v)) (at v) no_spots) (past_pat p (suc (at v))))) in
        let following = bindings v.scope v.names (listed k v) (rest v.source) w1.next tail in
        h.puts.leads v sees following
        ∙ ap (stand v s) (either-way p v.scope (listed k v) p u (at v) following (making v.scope v.names e w0.next (tests v.scope v.names p u (suc (at v)) (at v) following)) value all following)
        ∙ ap (λ n. let next = bindings v.scope v.names (listed k v) (rest v.source) n tail in
        stand v s (shaped (general_shape p) v.scope (listed k v) p u (at v) (making v.scope v.names e w0.next (tests v.scope v.names p u (suc (at v)) (at v) next)) value all next)) (number v sees)
        ∙ sym (ap (λ sh. let next = bindings v.scope v.names (listed k v) (rest v.source) (past_shape (shape (listed k v) b.general p) p u (at v)) tail in
        stand v s (shaped sh v.scope (listed k v) p u (at v) (making v.scope v.names e w0.next (tests v.scope v.names p u (suc (at v)) (at v) next)) value all next)) (shape-is v sees));
  };
}
  where
    at : View → ℕ
    at v = value_at (tree_of v.source r.exp) w0.next

    shape-is : (v : View) → Sees w1 v → shape (listed k v) b.general (pat_of v.source r.pat) ≡ general_shape (pat_of v.source r.pat)
    shape-is v sees = ap (λ ps. shape (parameters_at ps k) b.general (pat_of v.source r.pat)) ((sees-before w0 w1 v h.keeps sees).are_parameters) ∙ shaped_so (pat_of v.source r.pat)

    number : (v : View) → Sees w1 v → w1.next ≡ past_shape (shape (listed k v) b.general (pat_of v.source r.pat)) (pat_of v.source r.pat) (v.source.type b.ty) (at v)
    number v sees = h.next v sees ∙ sym (ap (λ sh. past_shape sh (pat_of v.source r.pat) (v.source.type b.ty) (at v)) (shape-is v sees))
