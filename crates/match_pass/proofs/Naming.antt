-- Declarations, one after the other.
use Rattle.std.proofs.Common.{◌≡◌, ◌<◌, ◌≤◌, ◌+◌, ℕ, suc, List, [], ◌∷◌, ◌++◌, length, drop, slice_index_or, Option, Vec, Global, refl, sym, ap, ap₂, subst, ◌∙◌, arith}
use Rattle.std.specs.Option.{option_map}
use Rattle.ty_core.specs.declared.scheme.Quantified.{Quantified}
use Rattle.ir_plain.specs.Tree as te
use Rattle.ir_poly.specs.Prog as t
use Rattle.ir_poly.specs.Tests.{Tests}
use Rattle.match_compile.specs.Compile.{Names, decs, decs_named, past_decs, option_scoped, bindings, past_binds, binds_spots, no_spots, functions, past_funs, past_group, funs_named, spots_named, grouped, unclassed}
use Rattle.match_names.specs.Bindings.{names_of}
use Rattle.plain_tree.specs.declared.tree.Step.{Step}
use Rattle.prog_tree.specs.TreeOf.{Reading, DecTree, dec_of, exception_tree, counted_tree, put, node_dec, node_exp, node_function, node_rule, RuleTree}
use Rattle.prog_tree.specs.declared.tree.Binding.{Binding}
use Rattle.prog_tree.specs.declared.tree.Dec.{Dec, Dec-F, fold-roll-Dec}
use Rattle.prog_tree.specs.declared.tree.Dec.TheVariants as decs_are
use Rattle.prog_tree.specs.declared.tree.Function.{Function}
use Rattle.prog_tree.specs.declared.tree.Rule.{Rule}
use Rattle.prog_tree.proofs.ExpOf.{dec_of-Val}
use Rattle.general_bindings.specs.of_match_types.Views.{View, Sees, Keeps}
use Rattle.general_bindings.specs.of_match_types.declared.work.Work.{Work}
use Rattle.general_bindings.specs.of_match_steps.Steps.{Puts, stand}
use Rattle.general_bindings.specs.of_pattern_tests.Spots.{spots_onto, names_onto}
use Rattle.general_bindings.specs.of_pattern_tests.declared.spots.Spot.{Spot}
use Rattle.general_bindings.proofs.of_pattern_tests.Chains.{next-drop}
use Rattle.general_bindings.specs.of_exp_steps.Making.{counting}
use Rattle.general_bindings.specs.of_exp_blocks.Giving.{Grows, Ends, over}
use Rattle.general_bindings.proofs.of_exp_blocks.Growing.{grows-same, grows-on, grows-by, ends-same, ends-more, ends-on, ends-as, sees-named}
use Rattle.general_bindings.specs.General.{listed}
use Rattle.match_pass.specs.Reading.{decs_read, dec_before}
use Rattle.match_pass.specs.Going.{Declares}
use Rattle.match_pass.specs.Declaring.{Binds, binds_read, funs_read, val_before, grouping}
use Rattle.match_pass.proofs.Lists.{drop-past}
use Rattle.match_pass.proofs.Regions.{spots-bound, spots-end}

pub declares-none : (w : Work) (s : List Step) (ds : Reading → t.Decs) → Declares w w s s ds ds
declares-none w s ds = record { grows = grows-same w; scope = refl; ends = ends-same w.names; names = λ v sees. refl; next = λ v sees. refl; leads = record { leads = λ v sees rest. refl } }

pub declares-on : (a b c : Work) (s m l : List Step) (ds es fs : Reading → t.Decs) → Declares a b s m ds es → Declares b c m l es fs → Declares a c s l ds fs
declares-on a b c s m l ds es fs p q = record {
  grows = grows-on a b c p.grows q.grows;
  scope = q.scope ∙ p.scope;
  ends = ends-on a.names b.names c.names p.ends q.ends;
  names = λ v sees. q.names v sees ∙ p.names (view v) (seen v sees);
  next = λ v sees. q.next v sees ∙ p.next (view v) (seen v sees);
  leads = record { leads = λ v sees rest. q.leads.leads v sees rest ∙ p.leads.leads (view v) (seen v sees) rest };
}
  where
    view : View → View
    view v = over v v.scope (names_of b.names)

    seen : (v : View) → Sees c v → Sees b (view v)
    seen v sees = sees-named b c v q.grows q.scope sees

pub decs-step : (start now new : Work) (s m l : List Step) (ds : List Dec) (i : ℕ) (d : Dec) → i < length ds → d ≡ slice_index_or ds i d → Declares start now s m (decs_read ds) (decs_read (drop i ds))
    → ((rest : Reading → t.Decs) → Declares now new m l (dec_before d rest) rest) → Declares start new s l (decs_read ds) (decs_read (drop (i + 1) ds))
decs-step start now new s m l ds i d lt is h p =
    declares-on start now new s m l (decs_read ds) (decs_read (d ∷ drop (i + 1) ds)) (decs_read (drop (i + 1) ds)) (subst (λ k. Declares start now s m (decs_read ds) (decs_read k)) (next-drop ds i d lt is) h) (p (decs_read (drop (i + 1) ds)))

pub decs-end : (start now : Work) (s m : List Step) (ds : List Dec) (i : ℕ) → length ds ≤ i → Declares start now s m (decs_read ds) (decs_read (drop i ds)) → Declares start now s m (decs_read ds) (decs_read [])
decs-end start now s m ds i le h = subst (λ k. Declares start now s m (decs_read ds) (decs_read k)) (drop-past ds i le) h

-- what a declaration is
pub declares-as : (w v : Work) (s m : List Step) (ds es rest : Reading → t.Decs) → ((R : Reading) → es R ≡ ds R) → Declares w v s m ds rest → Declares w v s m es rest
declares-as w v s m ds es rest e p = record {
  grows = p.grows;
  scope = p.scope;
  ends = p.ends;
  names = λ o sees. p.names o sees ∙ sym (ap (λ d. decs_named d w.next (names_of w.names)) (e o.source));
  next = λ o sees. p.next o sees ∙ sym (ap (λ d. past_decs d w.next) (e o.source));
  leads = record { leads = λ o sees r. p.leads.leads o sees r ∙ sym (ap (λ d. stand o s (decs o.scope (names_of w.names) d w.next r)) (e o.source)) };
}

module _ (R : Reading) where
  pub dec_of-Exception : (x i : ℕ) (a : Option ℕ) → dec_of R (decs_are.Exception x i a) ≡ exception_tree x i (option_map R.type a)
  dec_of-Exception x i a = ap (dec_of R) (sym (decs_are.rolls-Exception x i a)) ∙ fold-roll-Dec DecTree t.Exp t.Fun RuleTree (node_dec R) (node_exp R) (node_function R) (node_rule R) (Dec-F.Exception x i a)

  pub dec_of-Weight : (n : ℕ) → dec_of R (decs_are.Weight n) ≡ counted_tree n
  dec_of-Weight n = ap (dec_of R) (sym (decs_are.rolls-Weight n)) ∙ fold-roll-Dec DecTree t.Exp t.Fun RuleTree (node_dec R) (node_exp R) (node_function R) (node_rule R) (Dec-F.Weight n)

pub dec-exception : (w v : Work) (s m : List Step) (d : Dec) (x i : ℕ) (a : Option ℕ) (rest : Reading → t.Decs) → d ≡ decs_are.Exception x i a → Grows w v → v.scope ≡ w.scope → v.names ≡ (x, w.next) ∷ w.names → v.next ≡ suc w.next
    → Puts v s m (λ o r. te.exception_in w.next i (option_scoped o.scope (option_map o.source.type a)) r) → Declares w v s m (dec_before d rest) rest
dec-exception w v s m d x i a rest is g scope names next puts =
    declares-as w v s m (λ R. t.exception_dec x i (option_map R.type a) (rest R)) (dec_before d rest) rest (λ R. ap (λ e. put e (rest R)) (ap (dec_of R) is ∙ dec_of-Exception R x i a)) (record {
      grows = g;
      scope = scope;
      ends = ends-as w.names _ v.names names (ends-more (x, w.next) w.names w.names (ends-same w.names));
      names = λ o sees. ap₂ (λ n N. decs_named (rest o.source) n N) next (ap names_of names);
      next = λ o sees. ap (past_decs (rest o.source)) next;
      leads = record {
        leads = λ o sees r.
            puts.leads o sees (decs o.scope (names_of v.names) (rest o.source) v.next r)
            ∙ ap₂ (λ N n. stand o s (te.exception_in w.next i (option_scoped o.scope (option_map o.source.type a)) (decs o.scope N (rest o.source) n r))) (ap names_of names) next;
      };
    })

pub dec-counted : (w : Work) (s m : List Step) (d : Dec) (k : ℕ) (rest : Reading → t.Decs) → d ≡ decs_are.Weight k → Puts w s m (counting k) → Declares w w s m (dec_before d rest) rest
dec-counted w s m d k rest is puts =
    declares-as w w s m (λ R. t.counted_dec k (rest R)) (dec_before d rest) rest (λ R. ap (λ e. put e (rest R)) (ap (dec_of R) is ∙ dec_of-Weight R k)) (record {
      grows = grows-same w;
      scope = refl;
      ends = ends-same w.names;
      names = λ o sees. refl;
      next = λ o sees. refl;
      leads = record { leads = λ o sees r. puts.leads o sees (decs o.scope (names_of w.names) (rest o.source) w.next r) };
    })

pub dec-val : (w v : Work) (s m : List Step) (d : Dec) (k : ℕ) (bs : Vec (Binding × Rule) Global) (fs : Vec (Vec ℕ Global × ℕ × Function) Global) (l : List (Binding × Rule)) (g : List (Vec ℕ Global × ℕ × Function)) (rest : Reading → t.Decs)
    → d ≡ decs_are.Val k bs fs → l ≡ bs.items → g ≡ fs.items → Declares w v s m (val_before k l g rest) rest → Declares w v s m (dec_before d rest) rest
dec-val w v s m d k bs fs l g rest is same alike p =
    declares-as w v s m (val_before k l g rest) (dec_before d rest) rest
    (λ R. ap (λ e. put e (rest R)) (ap (dec_of R) is ∙ dec_of-Val R k bs fs) ∙ ap₂ (λ x y. val_before k x y rest R) (sym same) (sym alike)) p

-- Bindings, and functions beside them

group-past : (R : Reading) (fs : List (Vec ℕ Global × ℕ × Function)) (b : ℕ) → past_group (funs_read fs R) b ≡ b + length fs
group-past R [] b = (let e : b ≡ b + 0 = omega arith in e)
group-past R (f ∷ fs) b = group-past R fs (suc b) ∙ (let e : suc b + length fs ≡ b + suc (length fs) = omega arith in e)

module _ {w0 w1 w2 w3 w4 w5 : Work} {s m l : List Step} (k : ℕ) (bs : List (Binding × Rule)) (fs : List (Vec ℕ Global × ℕ × Function)) (rest : Reading → t.Decs) (none spots : List Spot) (first : ℕ) (empty : none ≡ [])
    (p : Binds w0 w1 s m k (binds_read bs) (binds_read []) none spots) (first_is : first ≡ w1.next) (counted : w2.next ≡ w1.next + length fs) (kept : Keeps w1 w2)
    (g3 : Grows w2 w3) (scope3 : w3.scope ≡ w2.scope) (next3 : w3.next ≡ w2.next) (ends3 : Ends w2.names w3.names)
    (names3 : (R : Reading) → names_of w3.names ≡ funs_named (funs_read fs R) first (names_of w2.names)) (kept4 : Keeps w3 w4)
    (next4 : (v : View) → Sees w4 v → w4.next ≡ past_funs (funs_read fs v.source) w3.next) (puts : Puts w4 m l (grouping k fs first w3.next))
    (g5 : Grows w4 w5) (scope5 : w5.scope ≡ w4.scope) (next5 : w5.next ≡ w4.next) (names5 : w5.names ≡ names_onto spots w4.names) where
  abbrev view : View → View
  view v = over v v.scope (names_of w0.names)

  abbrev view4 : View → View
  view4 v = over v v.scope (names_of w4.names)

  seen4 : (v : View) → Sees w5 v → Sees w4 (view4 v)
  seen4 v sees = sees-named w4 w5 v g5 scope5 sees

  to_five : Grows w1 w5
  to_five = grows-on w1 w2 w5 (grows-by w1 w2 kept) (grows-on w2 w3 w5 g3 (grows-on w3 w4 w5 (grows-by w3 w4 kept4) g5))

  scope_five : w5.scope ≡ w1.scope
  scope_five = scope5 ∙ kept4.scope ∙ scope3 ∙ kept.scope

  seen1 : (v : View) → Sees w5 v → Sees w1 (view v)
  seen1 v sees = subst (λ N. Sees w1 (over v v.scope N)) (ap names_of p.keeps.names) (sees-named w1 w5 v to_five scope_five sees)

  parameters-are : (v : View) → Sees w5 v → unclassed (v.source.parameters k) ≡ listed k v
  parameters-are v sees = sees.source_parameters k

  b-is : (v : View) → Sees w5 v → w1.next ≡ past_binds (listed k v) (binds_read bs v.source) w0.next
  b-is v sees = p.next (view v) (seen1 v sees)

  m-is : (v : View) → Sees w5 v → w3.next ≡ past_group (funs_read fs v.source) w1.next
  m-is v sees = next3 ∙ counted ∙ sym (group-past v.source fs w1.next)

  n-is : (v : View) → Sees w5 v → w5.next ≡ past_funs (funs_read fs v.source) w3.next
  n-is v sees = next5 ∙ next4 (view4 v) (seen4 v sees)

  names-is3 : (v : View) → names_of w4.names ≡ funs_named (funs_read fs v.source) w1.next (names_of w0.names)
  names-is3 v = ap names_of kept4.names ∙ names3 v.source ∙ ap₂ (λ i l. funs_named (funs_read fs v.source) i (names_of l)) first_is (kept.names ∙ p.keeps.names)

  names-is5 : (v : View) → Sees w5 v → names_of w5.names ≡ spots_named (binds_spots (listed k v) (binds_read bs v.source) w0.next no_spots) (names_of w4.names)
  names-is5 v sees =
      ap names_of names5 ∙ spots-bound (view v) spots no_spots (names_of w4.names) w4.names refl
      ∙ ap (λ us. spots_named us (names_of w4.names)) (p.spots (view v) (seen1 v sees) ∙ ap (λ l. binds_spots (listed k v) (binds_read bs v.source) w0.next (spots_onto (view v) l no_spots)) empty)

  -- after them
  abbrev after : View → List Quantified → (b : ℕ) → Names
  after v ps b = spots_named (binds_spots ps (binds_read bs v.source) w0.next no_spots) (funs_named (funs_read fs v.source) b (names_of w0.names))

  names-are : (v : View) → Sees w5 v → names_of w5.names ≡ after v (listed k v) w1.next
  names-are v sees = names-is5 v sees ∙ ap (spots_named (binds_spots (listed k v) (binds_read bs v.source) w0.next no_spots)) (names-is3 v)

  -- all of them, with what they hang on
  abbrev whole : View → List Quantified → (b m n : ℕ) → Names → Names → Tests → Tests
  whole v ps b m n N M r =
      bindings v.scope (names_of w0.names) ps (binds_read bs v.source) w0.next
      (grouped ps (functions (ps ++ v.scope) N (funs_read fs v.source) b m) (decs v.scope M (rest v.source) n r))

  pub val-declares : Declares w0 w5 s l (val_before k bs fs rest) rest
  val-declares = record {
    grows = grows-on w0 w1 w5 (grows-by w0 w1 p.keeps) to_five;
    scope = scope_five ∙ p.keeps.scope;
    ends = ends-as w0.names (names_onto spots w4.names) w5.names names5 (spots-end spots w0.names w4.names
        (ends-as w0.names w3.names w4.names kept4.names (subst (λ l. Ends l w3.names) (kept.names ∙ p.keeps.names) ends3)));
    names = λ v sees.
        ap₂ (λ n M. decs_named (rest v.source) n M) (n-is v sees) (names-are v sees)
        ∙ ap₂ (λ m b. decs_named (rest v.source) (past_funs (funs_read fs v.source) m) (after v (listed k v) b)) (m-is v sees) (b-is v sees)
        ∙ ap (λ b. decs_named (rest v.source) (past_funs (funs_read fs v.source) (past_group (funs_read fs v.source) b)) (after v (listed k v) (past_binds (listed k v) (binds_read bs v.source) w0.next))) (b-is v sees)
        ∙ ap (λ ps. decs_named (rest v.source) (past_funs (funs_read fs v.source) (past_group (funs_read fs v.source) (past_binds ps (binds_read bs v.source) w0.next))) (after v ps (past_binds ps (binds_read bs v.source) w0.next)))
        (sym (parameters-are v sees));
    next = λ v sees.
        ap (past_decs (rest v.source)) (n-is v sees ∙ ap (past_funs (funs_read fs v.source)) (m-is v sees) ∙ ap (λ b. past_funs (funs_read fs v.source) (past_group (funs_read fs v.source) b)) (b-is v sees)
        ∙ ap (λ ps. past_funs (funs_read fs v.source) (past_group (funs_read fs v.source) (past_binds ps (binds_read bs v.source) w0.next))) (sym (parameters-are v sees)));
    leads = record {
      leads = λ v sees r.
          puts.leads (view4 v) (seen4 v sees) (decs v.scope (names_of w5.names) (rest v.source) w5.next r)
          ∙ p.leads.leads (view v) (seen1 v sees) (grouping k fs first w3.next (view4 v) (decs v.scope (names_of w5.names) (rest v.source) w5.next r))
          ∙ ap₂ (λ i j. stand v s (whole v (listed k v) i w3.next j (names_of w4.names) (names_of w5.names) r)) first_is (n-is v sees)
          ∙ ap₂ (λ N M. stand v s (whole v (listed k v) w1.next w3.next (past_funs (funs_read fs v.source) w3.next) N M r)) (names-is3 v) (names-are v sees)
          ∙ ap (λ m. stand v s (whole v (listed k v) w1.next m (past_funs (funs_read fs v.source) m) (funs_named (funs_read fs v.source) w1.next (names_of w0.names)) (after v (listed k v) w1.next) r)) (m-is v sees)
          ∙ ap (λ b. let m = past_group (funs_read fs v.source) b in
          stand v s (whole v (listed k v) b m (past_funs (funs_read fs v.source) m) (funs_named (funs_read fs v.source) b (names_of w0.names)) (after v (listed k v) b) r)) (b-is v sees)
          ∙ ap (λ ps. let b = past_binds ps (binds_read bs v.source) w0.next in let m = past_group (funs_read fs v.source) b in
          stand v s (whole v ps b m (past_funs (funs_read fs v.source) m) (funs_named (funs_read fs v.source) b (names_of w0.names)) (after v ps b) r)) (sym (parameters-are v sees));
    };
  }
