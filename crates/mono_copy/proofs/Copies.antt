-- All copies of a binding, and of a group.
use Rattle.std.proofs.Common.{◌≡◌, ◌<◌, ℕ, subst, Bool, true, List, [], map, reverse, ap, ap₂, ◌∙◌, arith}
use Rattle.mlc_runs.specs.Passes.{greatest_expansion}
use Rattle.ty_core.specs.Types.{Typ}
use Rattle.ty_table.specs.TypeAt.{type_at}
use Rattle.ir_tables.specs.Tables.{strings_of, parameters_of, parameters_at}
use Rattle.ir_tables.specs.declared.tables.Tables.{Tables}
use Rattle.plain_tree.specs.declared.tree.Binding.{Binding}
use Rattle.plain_tree.specs.declared.tree.Function.{Function}
use Rattle.plain_tree.specs.declared.tree.Step.{Step}
use Rattle.monomorphise.specs.Monomorphise.{Groups, units, fun_vars}
use Rattle.mono_close.specs.Closing.{standing}
use Rattle.mono_scopes.specs.Scopes.{binding}
use Rattle.mono_words.specs.Seen.{Seen, within, out, needed_types}
use Rattle.mono_words.specs.Made.{group_made}
use Rattle.mono_parts.specs.of_mono_state.Seen.{Held, held_of, Later, types_in, groups_in, seen}
use Rattle.mono_parts.specs.of_mono_state.declared.copier.Copier.{Copier}
use Rattle.mono_parts.proofs.of_mono_state.Growing.{sooner}
use Rattle.mono_parts.specs.Steps.{functions_in}
use Rattle.mono_copy.specs.Puts.{Change, Puts, Passes}
use Rattle.mono_copy.specs.Changes.{step_in, each_made, each_put, binding_made, binding_put, binding_left, group_put, group_left}
use Rattle.mono_copy.proofs.Changing.{puts-then, passes-then, behind-later, behind-past}
use Rattle.mono_copy.proofs.Nodes.{grows-binding, grows-group}
use Rattle.mono_copy.proofs.Walking.{each-turned}
use Rattle.mono_copy.proofs.Cycle.{nothing}

abbrev pub closed : Change
closed H g s n = out n

module _ (t : Tables) (strip : Bool) (b : Binding) (st : Step) (old mid : Copier) (ks : List ℕ) (left : Puts t closed old mid)
    (lists : (H : Held) → reverse (map (types_in H) ks) ≡ needed_types (seen (strings_of t) H old).scopes) where
  abbrev one : Bool → Groups → (ℕ → Typ) → List Typ → Seen → Seen
  one bare g s = binding_made bare g s b.variable (parameters_at (parameters_of t) b.parameters) (type_at t.types b.ty) (step_in t st)

  at-lists : (H : Held) (g : Groups) (s : ℕ → Typ) (n : Seen) → each_put (binding_put t true b st) (reverse ks) H g s n ≡ each_made (one true g s) (needed_types (seen (strings_of t) H old).scopes) n
  at-lists H g s n = each-turned (one true g s) (types_in H) ks (needed_types (seen (strings_of t) H old).scopes) n (lists H)

  pub further-passes : Passes t (each_put (binding_put t true b st) (reverse ks)) mid → Passes t (binding_left t strip b st) old
  further-passes p =
      let q = passes-then left p in
      let H = q.tables in
      let g = groups_in H old.own in
      let s = standing H.types old.slots in
      let n = seen (strings_of t) H old in
      let ps = parameters_at (parameters_of t) b.parameters in
      let e = ap (λ (m : Seen). m.nodes) (at-lists H g s (out n)) in
      let u = grows-binding g s strip b.variable ps (type_at t.types b.ty) (step_in t st) (units ps) (each_made (one true g s) (needed_types n.scopes) (out n)) in
      let v = q.past in
      record { tables = H; later = q.later; past = omega (arith, e, u, v) }

  module _ (far near : Copier) (k : ℕ) (more : Puts t (each_put (binding_put t true b st) (reverse ks)) mid far) (unit : Puts t nothing far near)
      (is : (H : Held) → Later (held_of near) H → types_in H k ≡ units (parameters_at (parameters_of t) b.parameters)) where
    path : (H : Held) → Later (held_of near) H → (g : Groups) (s : ℕ → Typ)
        → binding_put t strip b st k H g s (each_put (binding_put t true b st) (reverse ks) H g s (out (seen (strings_of t) H old))) ≡ binding_left t strip b st H g s (seen (strings_of t) H old)
    path H l g s = ap₂ (one strip g s) (is H l) (at-lists H g s (out (seen (strings_of t) H old)))

    pub copies-put : {new : Copier} → Puts t (binding_put t strip b st k) near new → Puts t (binding_left t strip b st) old new
    copies-put q =
        let r = puts-then (puts-then (puts-then left more) unit) q in
        record { goes = r.goes; sees = λ H l. r.sees H l ∙ path H (sooner q.goes.longer l) (groups_in H old.own) (standing H.types old.slots) }

    pub copies-passes : Passes t (binding_put t strip b st k) near → Passes t (binding_left t strip b st) old
    copies-passes q =
        let r = puts-then (puts-then left more) unit in
        let H = q.tables in
        let e = ap (λ (m : Seen). m.nodes) (path H q.later (groups_in H old.own) (standing H.types old.slots)) in
        record { tables = H; later = behind-later r q; past = subst (λ n. greatest_expansion < n) e (behind-past r q) }

module _ (t : Tables) (p : ℕ) (fs : List Function) (old mid begun : Copier) (ks : List ℕ) (left : Puts t closed old mid)
    (lists : (H : Held) → reverse (map (types_in H) ks) ≡ needed_types (seen (strings_of t) H old).scopes)
    (enter : Puts t (λ H g s n. within (binding (fun_vars (functions_in t fs)) (units (parameters_at (parameters_of t) p)) []) n) mid begun) where
  abbrev one-group : Groups → (ℕ → Typ) → List Typ → Seen → Seen
  one-group g s = group_made g s (parameters_at (parameters_of t) p) (functions_in t fs)

  abbrev entered : Seen → Seen
  entered n = within (binding (fun_vars (functions_in t fs)) (units (parameters_at (parameters_of t) p)) []) (out n)

  group-lists : (H : Held) (g : Groups) (s : ℕ → Typ) (n : Seen) → each_put (group_put t p fs) (reverse ks) H g s n ≡ each_made (one-group g s) (needed_types (seen (strings_of t) H old).scopes) n
  group-lists H g s n = each-turned (one-group g s) (types_in H) ks (needed_types (seen (strings_of t) H old).scopes) n (lists H)

  pub further-groups-pass : Passes t (each_put (group_put t p fs) (reverse ks)) begun → Passes t (group_left t p fs) old
  further-groups-pass x =
      let q = passes-then (puts-then left enter) x in
      let H = q.tables in
      let g = groups_in H old.own in
      let s = standing H.types old.slots in
      let n = seen (strings_of t) H old in
      let ps = parameters_at (parameters_of t) p in
      let m = within (binding (fun_vars (functions_in t fs)) (units ps) []) (out n) in
      let e = ap (λ (z : Seen). z.nodes) (group-lists H g s m) in
      let u = grows-group g s ps (functions_in t fs) (units ps) (each_made (one-group g s) (needed_types n.scopes) m) in
      let v = q.past in
      record { tables = H; later = q.later; past = omega (arith, e, u, v) }

  module _ (far near : Copier) (k : ℕ) (more : Puts t (each_put (group_put t p fs) (reverse ks)) begun far) (unit : Puts t nothing far near)
      (is : (H : Held) → Later (held_of near) H → types_in H k ≡ units (parameters_at (parameters_of t) p)) where
    group-path : (H : Held) → Later (held_of near) H → (g : Groups) (s : ℕ → Typ)
        → out (group_put t p fs k H g s (each_put (group_put t p fs) (reverse ks) H g s (entered (seen (strings_of t) H old)))) ≡ group_left t p fs H g s (seen (strings_of t) H old)
    group-path H l g s = ap₂ (λ a m. out (one-group g s a m)) (is H l) (group-lists H g s (entered (seen (strings_of t) H old)))

    pub groups-put : {made new : Copier} → Puts t (group_put t p fs k) near made → Puts t closed made new → Puts t (group_left t p fs) old new
    groups-put q w =
        let r = puts-then (puts-then (puts-then (puts-then (puts-then left enter) more) unit) q) w in
        record { goes = r.goes; sees = λ H l. r.sees H l ∙ group-path H (sooner q.goes.longer (sooner w.goes.longer l)) (groups_in H old.own) (standing H.types old.slots) }

    pub groups-pass : Passes t (group_put t p fs k) near → Passes t (group_left t p fs) old
    groups-pass q =
        let r = puts-then (puts-then (puts-then left enter) more) unit in
        let H = q.tables in
        let e = ap (λ (m : Seen). m.nodes) (group-path H q.later (groups_in H old.own) (standing H.types old.slots)) in
        record { tables = H; later = behind-later r q; past = subst (λ n. greatest_expansion < n) e (behind-past r q) }
