-- The functions of a group.
use Rattle.std.proofs.Common.{◌≡◌, ℕ, ◌+◌, ◌<◌, ◌≤◌, List, [], ◌∷◌, ◌++◌, map, take, drop, length, get_or, Vec, Global, refl, sym, ap, ap₂, ◌∙◌}
use Rattle.std.proofs.lemmas.List.{drop_more}
use Rattle.ir_mono.specs.Types as table
use Rattle.ir_mono.specs.Mono.{mono, Mono}
use Rattle.plain_tree.specs.declared.tree.Parameter.{Parameter}
use Rattle.plain_tree.specs.declared.tree.Function.{Function}
use Rattle.plain_tree.specs.declared.tree.Step.{Step}
use Rattle.plain_tree.specs.declared.tree.Step.TheVariants as step
use Rattle.plain_tree.specs.TreeOf.{FunctionTree, fun_of}
use Rattle.mono_bound.specs.Reads.{reading, mono_of}
use Rattle.flow_sets.specs.Flow.{number_of}
use Rattle.closure_convert.specs.Scope.{Member, names, Scope, add, add_all}
use Rattle.closure_convert.specs.Closed.{members}
use Rattle.capture_scope.specs.declared.scope.Member as code
use Rattle.capture_scope.specs.Seen.{member_of, members_of}
use Rattle.closure_parts.specs.of_capture_table.Told.{first_parameter}
use Rattle.closure_steps.specs.Reads.{mono_step, functions_in}
use Rattle.closure_steps.proofs.Rolls.{step-group, function-parts}
use Rattle.closure_parts.proofs.Putting.{map-last, seen, all-before}
use Rattle.closure_steps.specs.Steps.{behind}

abbrev pub member-is : Function → Member
member-is f = record { name = f.variable; number = first_parameter f.parameters.items f.last }

module _ (types : List table.Row) (strings : List (List ℕ)) where
  pub number-first : (ys : List Parameter) (x : Parameter) (e : Mono types) → number_of types (fun_of (reading types strings) ys x e) ≡ first_parameter ys x
  number-first [] x e = refl
  number-first (y ∷ ys) x e = refl

  members-are : (fs : List Function) → members types (functions_in types strings fs) ≡ map member-is fs
  members-are [] = refl
  members-are (f ∷ fs) =
      ap (λ (r : FunctionTree (mono types)). record { name = r.variable; number = number_of types r.function } ∷ members types (functions_in types strings fs)) (function-parts (reading types strings) f)
      ∙ ap₂ (λ k l. record { name = f.variable; number = k } ∷ l) (number-first f.parameters.items f.last (mono_of types strings f.body)) (members-are fs)

  pub members-told : (fs : List Function) (now : List code.Member) → members_of now ≡ map member-is fs → members_of now ≡ members types (functions_in types strings fs)
  members-told fs now h = h ∙ sym (members-are fs)

  pub group-behind : (s : Step) (ps : ℕ) (fs : Vec Function Global) (taken : List Function) (ms now : List code.Member) (z new : Scope) → s ≡ step.Group ps fs → taken ≡ fs.items
      → members_of ms ≡ members types (functions_in types strings taken) → now ≡ ms → new ≡ add_all (names (members_of now)) z → new ≡ behind types (mono_step types strings s) z
  group-behind s ps fs taken ms now z new is a h b e =
      e ∙ ap (λ l. add_all (names l) z) (ap members_of b ∙ h ∙ ap (λ l. members types (functions_in types strings l)) a)
      ∙ ap (λ v. behind types v z) (sym (ap (mono_step types strings) is ∙ step-group (reading types strings) ps fs))

pub members-next : (fs : List Function) (i : ℕ) (f d : Function) (ps : List Parameter) (k : ℕ) (now new : List code.Member) → i < length fs → f ≡ get_or fs i d → ps ≡ f.parameters.items → k ≡ first_parameter ps f.last
    → new ≡ now ++ record { name = f.variable; number = k } ∷ [] → members_of now ≡ map member-is (take i fs) → members_of new ≡ map member-is (take (i + 1) fs)
members-next fs i f d ps k now new lt is p n e h =
    ap members_of e ∙ map-last member_of now (record { name = f.variable; number = k })
    ∙ ap₂ (λ l m. l ++ m ∷ []) h (ap (λ v. record { name = f.variable; number = v }) (n ∙ ap (λ l. first_parameter l f.last) p)) ∙ sym (seen member-is fs i f d lt is)

pub members-all : (fs : List Function) (i : ℕ) (now : List code.Member) → length fs ≤ i → members_of now ≡ map member-is (take i fs) → members_of now ≡ map member-is fs
members-all fs i now le h = h ∙ ap (map member-is) (all-before fs i le)

pub add-next : (ms : List code.Member) (n i : ℕ) (m d : code.Member) (s now new : Scope) → n ≡ i + 1 → i < length ms → m ≡ get_or ms i d → now ≡ add_all (names (members_of (drop n ms))) s → new ≡ add m.name now
    → new ≡ add_all (names (members_of (drop i ms))) s
add-next ms n i m d s now new k lt is h e =
    e ∙ ap (add m.name) (h ∙ ap (λ j. add_all (names (members_of (drop j ms))) s) k) ∙ ap (λ l. add_all (names (members_of l)) s) (sym (drop_more ms i d lt ∙ ap (λ y. y ∷ drop (i + 1) ms) (sym is)))
