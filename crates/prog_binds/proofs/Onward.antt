-- What nodes with lists put in scope, part by part.
use Rattle.std.proofs.Common.{◌≡◌, ℕ, ◌+◌, ◌-◌, ◌<◌, ◌≤◌, Bool, true, false, List, [], ◌∷◌, map, length, drop, get_or, Vec, Box, Global, refl, sym, ap, ◌∙◌, subst, arith}
use Rattle.ty_core.specs.Types.{Typ}
use Rattle.ty_table.specs.TypeAt.{type_at}
use Rattle.ir_poly.specs.Prog as tree
use Rattle.ir_poly.specs.ProgChecked.{pat_onto, pats_onto, each_onto, funs_onto, binds_onto, parameters_if}
use Rattle.ir_poly.specs.TestsChecked as clean
use Rattle.ir_poly.specs.TestsChecked.{Knowns, declared}
use Rattle.ir_tables.specs.Tables.{parameters_of, parameters_at}
use Rattle.ir_tables.specs.declared.tables.Tables.{Tables}
use Rattle.prog_known.specs.declared.manner.Manner.{Manner}
use Rattle.prog_known.specs.Lists.{run, run_back}
use Rattle.ir_known.specs.declared.known.Known.{Known}
use Rattle.prog_known.specs.Onto.{Onto, known_by}
use Rattle.prog_known.proofs.ListLemmas.{drop-next, drop-all}
use Rattle.prog_known.proofs.OntoLemmas.{Backing, back-starts, back-more, back-ends}
use Rattle.prog_tree.specs.Readings.{reading}
use Rattle.prog_tree.specs.TreeOf.{PatFieldTree, PatPartTree, RuleTree, pat_of, pat_field_of, pat_part_of, node_pat, node_pat_field, node_pat_part, before, fields_of, join_pats, left_pats, right_pats, chain_pats, rule_of, funs_by, fun_of, binds_by, bind_of}
use Rattle.prog_tree.specs.declared.tree.Binding.{Binding}
use Rattle.prog_tree.specs.declared.tree.Function.{Function}
use Rattle.prog_tree.specs.declared.tree.Head.{Head}
use Rattle.prog_tree.specs.declared.tree.Head.TheVariants as head
use Rattle.prog_tree.specs.declared.tree.Pat.{Pat, Pat-F, fold-roll-Pat}
use Rattle.prog_tree.specs.declared.tree.Pat.TheVariants as patterns
use Rattle.prog_tree.specs.declared.tree.PatField.{PatField, fold_out-PatField}
use Rattle.prog_tree.specs.declared.tree.PatPart.{PatPart, fold_out-PatPart}
use Rattle.prog_tree.specs.declared.tree.Rule.{Rule}
use Rattle.prog_tree.specs.declared.tree.Side.{Side}
use Rattle.prog_tree.specs.declared.tree.Side.TheVariants as side
use Rattle.prog_tree.proofs.ExpOf.{pat_of-Record, pat_of-Chain, rule_of-parts}
use Rattle.prog_binds.specs.Chains.{first_type, pat_step, field_step, part_step, member_step, bind_step, next_bind_step, manner_if}

module _ (t : Tables) where
  pub field-as : (f : PatField) → pat_field_of (reading t) f ≡ record { label = f.label; type = type_at t.types f.ty; pat = pat_of (reading t) f.pat }
  field-as = fold_out-PatField tree.Pat PatFieldTree PatPartTree (node_pat (reading t)) (node_pat_field (reading t)) (node_pat_part (reading t))

  pub part-as : (j : PatPart) → pat_part_of (reading t) j ≡ record { head = j.head; whole = type_at t.types j.pair.ty; left = type_at t.types j.pair.left; right = type_at t.types j.pair.right; pat = pat_of (reading t) j.pat }
  part-as = fold_out-PatPart tree.Pat PatFieldTree PatPartTree (node_pat (reading t)) (node_pat_field (reading t)) (node_pat_part (reading t))

  pub pat-variable : (x : ℕ) → pat_of (reading t) (patterns.Variable x) ≡ tree.variable_pat x
  pat-variable x = ap (pat_of (reading t)) (sym (patterns.rolls-Variable x)) ∙ fold-roll-Pat tree.Pat PatFieldTree PatPartTree (node_pat (reading t)) (node_pat_field (reading t)) (node_pat_part (reading t)) (Pat-F.Variable x)

  pub pat-as : (x : ℕ) (p : Box Pat Global) → pat_of (reading t) (patterns.As x p) ≡ tree.as_pat x (pat_of (reading t) p.value)
  pat-as x p = ap (pat_of (reading t)) (sym (patterns.rolls-As x p)) ∙ fold-roll-Pat tree.Pat PatFieldTree PatPartTree (node_pat (reading t)) (node_pat_field (reading t)) (node_pat_part (reading t)) (Pat-F.As x p)

  pub pat-before : (h : Head) (a : ℕ) (p : Box Pat Global) → pat_of (reading t) (patterns.Before h a p) ≡ before h (type_at t.types a) (pat_of (reading t) p.value)
  pat-before h a p = ap (pat_of (reading t)) (sym (patterns.rolls-Before h a p)) ∙ fold-roll-Pat tree.Pat PatFieldTree PatPartTree (node_pat (reading t)) (node_pat_field (reading t)) (node_pat_part (reading t)) (Pat-F.Before h a p)

  module _ (m : Manner) where
    before-onto : (h : Head) (a : Typ) (p : tree.Pat) (u : Typ) (G : Knowns) → pat_onto (known_by t m) (before h a p) u G ≡ pat_onto (known_by t m) p a G
    before-onto (head.Constructor c) a p u G = refl
    before-onto head.Reference a p u G = refl
    before-onto (head.Exception x) a p u G = refl

    join-onto : (j : PatPartTree) (p q : tree.Pat) (u : Typ) (G : Knowns) → pat_onto (known_by t m) (join_pats j p q) u G ≡ pat_onto (known_by t m) q j.right (pat_onto (known_by t m) p j.left G)
    join-onto j p q u G = before-onto j.head j.whole _ u G

    fields-run : (fs : List PatField) (G : Knowns) → pats_onto (known_by t m) (fields_of (map (pat_field_of (reading t)) fs)) G ≡ run (field_step t m) fs G
    fields-run [] G = refl
    fields-run (f ∷ fs) G =
        ap (λ x. pats_onto (known_by t m) (fields_of (map (pat_field_of (reading t)) fs)) (pat_onto (known_by t m) x.pat x.type G)) (field-as f)
        ∙ fields-run fs (field_step t m f fs G)

    left-run : (p : tree.Pat) (u : ℕ) (js : List PatPart) (G : Knowns)
        → pat_onto (known_by t m) (left_pats p (map (pat_part_of (reading t)) js)) (type_at t.types u) G
        ≡ run (part_step t m side.Left) js (pat_onto (known_by t m) p (type_at t.types (first_type u js)) G)
    left-run p u [] G = refl
    left-run p u (j ∷ js) G =
        left-run (join_pats (pat_part_of (reading t) j) p (pat_part_of (reading t) j).pat) u js G
        ∙ ap (run (part_step t m side.Left) js) (join-onto (pat_part_of (reading t) j) p (pat_part_of (reading t) j).pat (type_at t.types (first_type u js)) G
        ∙ ap (λ x. pat_onto (known_by t m) x.pat x.right (pat_onto (known_by t m) p x.left G)) (part-as j))

    right-run : (p : tree.Pat) (u : ℕ) (js : List PatPart) (G : Knowns)
        → pat_onto (known_by t m) (right_pats p (map (pat_part_of (reading t)) js)) (type_at t.types u) G
        ≡ run (part_step t m side.Right) js (pat_onto (known_by t m) p (type_at t.types (first_type u js)) G)
    right-run p u [] G = refl
    right-run p u (j ∷ js) G =
        join-onto (pat_part_of (reading t) j) p (right_pats (pat_part_of (reading t) j).pat (map (pat_part_of (reading t)) js)) (type_at t.types u) G
        ∙ ap (λ x. pat_onto (known_by t m) (right_pats x.pat (map (pat_part_of (reading t)) js)) x.right (pat_onto (known_by t m) p x.left G)) (part-as j)
        ∙ right-run (pat_of (reading t) j.pat) j.pair.right js (pat_onto (known_by t m) p (type_at t.types j.pair.left) G)

    pub chain-onto : (s : Side) (p : Box Pat Global) (js : Vec PatPart Global) (u : ℕ) (G : Knowns)
        → run (part_step t m s) js.items (pat_step t m p.value (first_type u js.items) G) ≡ pat_step t m (patterns.Chain s p js) u G
    chain-onto side.Left p js u G = sym (ap (λ q. pat_onto (known_by t m) q (type_at t.types u) G) (pat_of-Chain (reading t) side.Left p js) ∙ left-run (pat_of (reading t) p.value) u js.items G)
    chain-onto side.Right p js u G = sym (ap (λ q. pat_onto (known_by t m) q (type_at t.types u) G) (pat_of-Chain (reading t) side.Right p js) ∙ right-run (pat_of (reading t) p.value) u js.items G)

    pub record-onto : (b : Bool) (fs : Vec PatField Global) (u : ℕ) (G : Knowns) → run (field_step t m) fs.items G ≡ pat_step t m (patterns.Record b fs) u G
    record-onto b fs u G = sym (ap (λ q. pat_onto (known_by t m) q (type_at t.types u) G) (pat_of-Record (reading t) b fs) ∙ fields-run fs.items G)

    pub head-onto : (h : Head) (a : ℕ) (p : Box Pat Global) (u : ℕ) (G : Knowns) → pat_step t m p.value a G ≡ pat_step t m (patterns.Before h a p) u G
    head-onto h a p u G =
        sym (ap (λ q. pat_onto (known_by t m) q (type_at t.types u) G) (pat-before h a p) ∙ before-onto h (type_at t.types a) (pat_of (reading t) p.value) (type_at t.types u) G)

    pub variable-onto : (x u : ℕ) (G : Knowns) → (x, known_by t m (type_at t.types u)) ∷ G ≡ pat_step t m (patterns.Variable x) u G
    variable-onto x u G = sym (ap (λ q. pat_onto (known_by t m) q (type_at t.types u) G) (pat-variable x))

    pub as-is-onto : (x : ℕ) (p : Box Pat Global) (u : ℕ) (G : Knowns) → pat_step t m p.value u ((x, known_by t m (type_at t.types u)) ∷ G) ≡ pat_step t m (patterns.As x p) u G
    as-is-onto x p u G = sym (ap (λ q. pat_onto (known_by t m) q (type_at t.types u) G) (pat-as x p))

    pub funs-back : (fs : List (Vec ℕ Global × ℕ × Function)) (G : Knowns) → run_back (member_step t m) fs G ≡ funs_onto (known_by t m) (funs_by (type_at t.types) (map (fun_of (reading t)) fs)) G
    funs-back [] G = refl
    funs-back (f ∷ fs) G = ap (member_step t m f) (funs-back fs G)

  pub each-back : (xs : List ℕ) (k : clean.Known) (G : Knowns) → run_back (λ x G. (x, k) ∷ G) xs G ≡ each_onto xs k G
  each-back [] k G = refl
  each-back (x ∷ xs) k G = ap (λ G. (x, k) ∷ G) (each-back xs k G)

  bound-as : (b : Bool) (ps : ℕ) (p : tree.Pat) (u : Typ) (G : Knowns)
      → pat_onto (known_by t (manner_if b ps)) p u G ≡ pat_onto (declared (parameters_if b (parameters_at (parameters_of t) ps))) p u G
  bound-as true ps p u G = refl
  bound-as false ps p u G = refl

  pub binds-run : (ps : ℕ) (bs : List (Binding × Rule)) (G : Knowns)
      → run (next_bind_step t ps) bs G ≡ binds_onto (parameters_at (parameters_of t) ps) (binds_by (type_at t.types) (map (bind_of (reading t)) bs)) G
  binds-run ps [] G = refl
  binds-run ps (b ∷ bs) G =
      binds-run ps bs (bind_step t ps b G)
      ∙ ap (binds_onto (parameters_at (parameters_of t) ps) (binds_by (type_at t.types) (map (bind_of (reading t)) bs)))
      (bound-as b.0.general ps (pat_of (reading t) b.1.pat) (type_at t.types b.0.ty) G
      ∙ ap (λ x. pat_onto (declared (parameters_if b.0.general (parameters_at (parameters_of t) ps))) x.pat (type_at t.types b.0.ty) G) (sym (rule_of-parts (reading t) b.1)))

-- One element more from the end
pub back-at : (t : Tables) {A : Type 0} (step : A → Knowns → Knowns) (xs : List A) (old now new : List (ℕ × Known)) (i at : ℕ) (d : A) → i < length xs → at ≡ length xs - 1 - i
    → Backing t step xs old now (length xs - i) → Onto t now new (step (get_or xs at d)) → Backing t step xs old new (length xs - (i + 1))
back-at t step xs old now new i at d lt e b o =
    let m : length xs - (i + 1) ≡ at = omega (arith, lt, e) in
    let n : length xs - i ≡ at + 1 = omega (arith, lt, e) in
    let k : at < length xs = omega (arith, lt, e) in
    subst (Backing t step xs old new) (sym m) (back-more t step xs old now new (length xs - i) at (get_or xs at d) n (drop-next xs at d k) b o)

pub back-at-is : (t : Tables) {A : Type 0} (step : A → Knowns → Knowns) (xs : List A) (old now new : List (ℕ × Known)) (i at : ℕ) (x : A) → i < length xs → at ≡ length xs - 1 - i → x ≡ get_or xs at x
    → Backing t step xs old now (length xs - i) → Onto t now new (step x) → Backing t step xs old new (length xs - (i + 1))
back-at-is t step xs old now new i at x lt e k b o = back-at t step xs old now new i at x lt e b (subst (λ y. Onto t now new (step y)) k o)

pub back-first : (t : Tables) {A : Type 0} (step : A → Knowns → Knowns) (xs : List A) (old : List (ℕ × Known)) → Backing t step xs old old (length xs - 0)
back-first t step xs old = let e : length xs - 0 ≡ length xs = omega arith in back-starts t step xs old (length xs - 0) e

pub back-last : (t : Tables) {A : Type 0} (step : A → Knowns → Knowns) (xs : List A) (old now : List (ℕ × Known)) (i : ℕ) → length xs ≤ i → Backing t step xs old now (length xs - i) → Onto t old now (run_back step xs)
back-last t step xs old now i le b = let e : length xs - i ≡ 0 = omega (arith, le) in back-ends t step xs old now (length xs - i) e b

pub before-type : (js : List PatPart) (i : ℕ) (d : PatPart) (u : ℕ) → i < length js → (get_or js i d).pair.left ≡ first_type u (drop i js)
before-type js i d u lt = sym (ap (first_type u) (drop-next js i d lt))

pub no-type : (js : List PatPart) (i u : ℕ) → length js ≤ i → u ≡ first_type u (drop i js)
no-type js i u le = sym (ap (first_type u) (drop-all js i le))
