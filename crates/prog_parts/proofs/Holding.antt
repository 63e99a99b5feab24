-- Whether nodes of patterns are right, part by part.
use Rattle.std.proofs.Common.{◌≡◌, ℕ, suc, Bool, true, false, ◌&&◌, List, [], ◌∷◌, map, length, Option, Some, None, Vec, Box, Global, refl, sym, ap, ◌∙◌}
use Rattle.std.proofs.lemmas.Bool.{and_right}
use Rattle.std.specs.Map.{lookup}
use Rattle.mlc_names.specs.declared.label.Label.{Label}
use Rattle.mlc_names.specs.declared.label.Label.TheVariants.{Number}
use Rattle.ty_core.specs.Types.{Typ}
use Rattle.ty_core.specs.declared.scheme.Quantified.{Quantified}
use Rattle.ty_table.specs.TypeAt.{type_at}
use Rattle.ir_values.specs.Values.{same_label}
use Rattle.ir_poly.specs.Prog as tree
use Rattle.ir_poly.specs.ProgMeaning.{size_of}
use Rattle.ir_poly.specs.Types.{over}
use Rattle.ir_poly.specs.TestsChecked.{Knowns, exn_type, is_size}
use Rattle.ir_tables.specs.declared.tables.Tables.{Tables}
use Rattle.prog_known.specs.Environments.{table_in}
use Rattle.prog_check.specs.Same.{same_type, same_option}
use Rattle.prog_check.specs.Deciding.{row_in, on_row, takes, exc_argument}
use Rattle.prog_check.specs.Checking.{check_pat, check_pats}
use Rattle.prog_known.specs.Lists.{hold, all_hold}
use Rattle.prog_tree.specs.Readings.{reading}
use Rattle.prog_tree.specs.TreeOf.{exc_of, pat_of, pat_field_of, pat_part_of, before, fields_of, join_pats, left_pats, right_pats}
use Rattle.prog_tree.specs.declared.tree.Head.{Head}
use Rattle.prog_tree.specs.declared.tree.Head.TheVariants as head
use Rattle.prog_tree.specs.declared.tree.Pat.{Pat}
use Rattle.prog_tree.specs.declared.tree.Pat.TheVariants as patterns
use Rattle.prog_tree.specs.declared.tree.PatField.{PatField}
use Rattle.prog_tree.specs.declared.tree.PatPart.{PatPart}
use Rattle.prog_tree.specs.declared.tree.Side.{Side}
use Rattle.prog_tree.specs.declared.tree.Side.TheVariants as side
use Rattle.prog_tree.proofs.ExpOf.{pat_of-Record, pat_of-Chain}
use Rattle.prog_binds.specs.Chains.{first_type, part_type}
use Rattle.prog_binds.proofs.Onward.{field-as, part-as, pat-before}
use Rattle.prog_parts.specs.Patterns.{next_part, size_if, has_size, is_part, pair_fits, pat_holds, head_fits, field_holds, joint_fits, part_holds}

-- Truth values

and-true : (a : Bool) → (a && true) ≡ a
and-true true = refl
and-true false = refl

pub and-assoc : (a b c : Bool) → ((a && b) && c) ≡ (a && (b && c))
and-assoc true b c = refl
and-assoc false b c = refl

grouped : (s o p r : Bool) → (s && (o && (p && r))) ≡ (((s && o) && p) && r)
grouped false o p r = refl
grouped true false p r = refl
grouped true true p r = refl

left-swap : (j p q h : Bool) → ((j && (p && q)) && h) ≡ (p && ((j && q) && h))
left-swap false p q h = sym (and_right p false refl)
left-swap true false q h = refl
left-swap true true q h = refl

right-swap : (j p q h : Bool) → (j && (p && (q && h))) ≡ (p && ((j && q) && h))
right-swap false p q h = sym (and_right p false refl)
right-swap true false q h = refl
right-swap true true q h = refl

pairing : (h w s o p u v q z : Bool) → (h && (w && ((s && (o && (p && (u && (v && (q && true)))))) && z))) ≡ ((h && (w && ((s && o) && ((u && v) && z)))) && (p && q))
pairing false w s o p u v q z = refl
pairing true false s o p u v q z = refl
pairing true true false o p u v q z = refl
pairing true true true false p u v q z = refl
pairing true true true true false u v q z = sym (and_right ((u && v) && z) false refl)
pairing true true true true true false v q z = refl
pairing true true true true true true false q z = refl
pairing true true true true true true true false z = sym (and_right z false refl)
pairing true true true true true true true true z = sym (and-true z)

no-pair : (h w o x p q : Bool) → (h && (w && false)) ≡ ((h && (w && ((false && o) && x))) && (p && q))
no-pair false w o x p q = refl
no-pair true false o x p q = refl
no-pair true true o x p q = refl

pat-count : (t : Tables) (fs : List PatField) → tree.pat_count (fields_of (map (pat_field_of (reading t)) fs)) ≡ length fs
pat-count t [] = refl
pat-count t (f ∷ fs) = ap suc (pat-count t fs)

module _ (t : Tables) (D : List Quantified) (G : Knowns) where
  abbrev checks : tree.Pat → Typ → Bool
  checks p u = check_pat (table_in t) D G p u

  before-holds : (h : Head) (a : Typ) (p : tree.Pat) (u : Typ) → checks (before h a p) u ≡ (head_fits t D G h a u && (over D a && checks p a))
  before-holds (head.Constructor c) a p u = refl
  before-holds head.Reference a p u = refl
  before-holds (head.Exception x) a p u = sym (and-assoc (takes (Some a) (exc_argument G (exc_of x))) (same_type u exn_type) (over D a && checks p a))

  pub head-holds : (h : Head) (a : ℕ) (p : Box Pat Global) (u : ℕ)
      → pat_holds t D G (patterns.Before h a p) u ≡ (head_fits t D G h (type_at t.types a) (type_at t.types u) && (over D (type_at t.types a) && pat_holds t D G p.value a))
  head-holds h a p u = ap (λ q. checks q (type_at t.types u)) (pat-before t h a p) ∙ before-holds h (type_at t.types a) (pat_of (reading t) p.value) (type_at t.types u)

  fields-hold : (u : ℕ) (r : List (Label × Typ)) → row_in (type_at t.types u) ≡ Some r → (fs : List PatField)
      → check_pats (table_in t) D G (fields_of (map (pat_field_of (reading t)) fs)) r ≡ all_hold (field_holds t D G u) fs
  fields-hold u r e [] = refl
  fields-hold u r e (f ∷ fs) =
      ap (λ x. same_option (lookup (same_label x.label) r) (Some x.type) && (over D x.type && (checks x.pat x.type && check_pats (table_in t) D G (fields_of (map (pat_field_of (reading t)) fs)) r))) (field-as t f)
      ∙ grouped (same_option (lookup (same_label f.label) r) (Some (type_at t.types f.ty))) (over D (type_at t.types f.ty)) (pat_holds t D G f.pat f.ty) (check_pats (table_in t) D G (fields_of (map (pat_field_of (reading t)) fs)) r)
      ∙ ap (λ b. (((same_option (lookup (same_label f.label) r) (Some (type_at t.types f.ty)) && over D (type_at t.types f.ty)) && pat_holds t D G f.pat f.ty) && b)) (fields-hold u r e fs)
      ∙ ap (λ o. (((on_row o (λ r. same_option (lookup (same_label f.label) r) (Some (type_at t.types f.ty))) && over D (type_at t.types f.ty)) && pat_holds t D G f.pat f.ty) && all_hold (field_holds t D G u) fs)) (sym e)

  abbrev field_pats : List PatField → tree.PatFields
  field_pats fs = fields_of (map (pat_field_of (reading t)) fs)

  pub record-holds : (b : Bool) (fs : Vec PatField Global) (u : ℕ) → pat_holds t D G (patterns.Record b fs) u ≡ (all_hold (field_holds t D G u) fs.items && has_size (size_if b fs.items) (type_at t.types u))
  record-holds b fs u = ap (λ p. checks p (type_at t.types u)) (pat_of-Record (reading t) b fs) ∙ by (row_in (type_at t.types u)) refl
    where
      sizes : (b : Bool) → size_of b (field_pats fs.items) ≡ size_if b fs.items
      sizes true = refl
      sizes false = ap Some (pat-count t fs.items)

      by : (o : Option (List (Label × Typ))) → row_in (type_at t.types u) ≡ o
          → on_row (row_in (type_at t.types u)) (λ r. check_pats (table_in t) D G (field_pats fs.items) r && is_size (size_of b (field_pats fs.items)) (length r))
          ≡ (all_hold (field_holds t D G u) fs.items && on_row (row_in (type_at t.types u)) (λ r. is_size (size_if b fs.items) (length r)))
      by None e =
          ap (λ o. on_row o (λ r. check_pats (table_in t) D G (field_pats fs.items) r && is_size (size_of b (field_pats fs.items)) (length r))) e
          ∙ sym (and_right (all_hold (field_holds t D G u) fs.items) (on_row (row_in (type_at t.types u)) (λ r. is_size (size_if b fs.items) (length r))) (ap (λ o. on_row o (λ r. is_size (size_if b fs.items) (length r))) e))
      by (Some r) e =
          ap (λ o. on_row o (λ r. check_pats (table_in t) D G (field_pats fs.items) r && is_size (size_of b (field_pats fs.items)) (length r))) e
          ∙ ap (λ k. k && is_size (size_of b (field_pats fs.items)) (length r)) (fields-hold u r e fs.items)
          ∙ ap (λ s. all_hold (field_holds t D G u) fs.items && is_size s (length r)) (sizes b)
          ∙ ap (λ o. all_hold (field_holds t D G u) fs.items && on_row o (λ r. is_size (size_if b fs.items) (length r))) (sym e)

  abbrev has_part : Label → Typ → List (Label × Typ) → Bool
  has_part l a r = same_option (lookup (same_label l) r) (Some a)

  join-holds : (h : Head) (w a b : Typ) (p q : tree.Pat) (u : Typ)
      → checks (before h w (tree.fields_pat false (tree.a_pat (Number 1) a p (tree.a_pat (Number 2) b q tree.no_pats)))) u
      ≡ ((head_fits t D G h w u && (over D w && pair_fits D w a b)) && (checks p a && checks q b))
  join-holds h w a b p q u = before-holds h w (tree.fields_pat false (tree.a_pat (Number 1) a p (tree.a_pat (Number 2) b q tree.no_pats))) u ∙ by (row_in w)
    where
      by : (o : Option (List (Label × Typ)))
          → (head_fits t D G h w u && (over D w && on_row o (λ r. (has_part (Number 1) a r && (over D a && (checks p a && (has_part (Number 2) b r && (over D b && (checks q b && true)))))) && is_size (Some 2) (length r))))
          ≡ ((head_fits t D G h w u && (over D w && ((on_row o (has_part (Number 1) a) && over D a) && ((on_row o (has_part (Number 2) b) && over D b) && on_row o (λ r. is_size (Some 2) (length r))))))
          && (checks p a && checks q b))
      by None = no-pair (head_fits t D G h w u) (over D w) (over D a) ((false && over D b) && false) (checks p a) (checks q b)
      by (Some r) = pairing (head_fits t D G h w u) (over D w) (has_part (Number 1) a r) (over D a) (checks p a) (has_part (Number 2) b r) (over D b) (checks q b) (is_size (Some 2) (length r))

  left-holds : (p : tree.Pat) (u : ℕ) (js : List PatPart)
      → checks (left_pats p (map (pat_part_of (reading t)) js)) (type_at t.types u)
      ≡ (checks p (type_at t.types (first_type u js)) && hold (part_holds t D G side.Left) (next_part side.Left) u js)
  left-holds p u [] = sym (and-true (checks p (type_at t.types u)))
  left-holds p u (j ∷ js) =
      left-holds (join_pats (pat_part_of (reading t) j) p (pat_part_of (reading t) j).pat) u js
      ∙ ap (λ x. checks (join_pats x p x.pat) (type_at t.types (first_type u js)) && hold (part_holds t D G side.Left) (next_part side.Left) u js) (part-as t j)
      ∙ ap (λ b. b && hold (part_holds t D G side.Left) (next_part side.Left) u js)
      (join-holds j.head (type_at t.types j.pair.ty) (type_at t.types j.pair.left) (type_at t.types j.pair.right) p (pat_of (reading t) j.pat) (type_at t.types (first_type u js)))
      ∙ left-swap (joint_fits t D G j.head j.pair (type_at t.types (first_type u js))) (checks p (type_at t.types j.pair.left)) (pat_holds t D G j.pat j.pair.right) (hold (part_holds t D G side.Left) (next_part side.Left) u js)

  right-holds : (p : tree.Pat) (u : ℕ) (js : List PatPart)
      → checks (right_pats p (map (pat_part_of (reading t)) js)) (type_at t.types u)
      ≡ (checks p (type_at t.types (first_type u js)) && hold (part_holds t D G side.Right) (next_part side.Right) u js)
  right-holds p u [] = sym (and-true (checks p (type_at t.types u)))
  right-holds p u (j ∷ js) =
      ap (λ x. checks (join_pats x p (right_pats x.pat (map (pat_part_of (reading t)) js))) (type_at t.types u)) (part-as t j)
      ∙ join-holds j.head (type_at t.types j.pair.ty) (type_at t.types j.pair.left) (type_at t.types j.pair.right) p (right_pats (pat_of (reading t) j.pat) (map (pat_part_of (reading t)) js)) (type_at t.types u)
      ∙ ap (λ b. joint_fits t D G j.head j.pair (type_at t.types u) && (checks p (type_at t.types j.pair.left) && b)) (right-holds (pat_of (reading t) j.pat) j.pair.right js)
      ∙ right-swap (joint_fits t D G j.head j.pair (type_at t.types u)) (checks p (type_at t.types j.pair.left)) (pat_holds t D G j.pat (first_type j.pair.right js))
      (hold (part_holds t D G side.Right) (next_part side.Right) j.pair.right js)

  pub chain-holds : (s : Side) (p : Box Pat Global) (js : Vec PatPart Global) (u : ℕ)
      → pat_holds t D G (patterns.Chain s p js) u ≡ (pat_holds t D G p.value (first_type u js.items) && hold (part_holds t D G s) (next_part s) u js.items)
  chain-holds side.Left p js u = ap (λ q. checks q (type_at t.types u)) (pat_of-Chain (reading t) side.Left p js) ∙ left-holds (pat_of (reading t) p.value) u js.items
  chain-holds side.Right p js u = ap (λ q. checks q (type_at t.types u)) (pat_of-Chain (reading t) side.Right p js) ∙ right-holds (pat_of (reading t) p.value) u js.items
